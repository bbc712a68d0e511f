use Rattle.std.proofs.Common.{codes, ap, subst, ◌∙◌, List, ℕ}
use Rattle.std.specs.Prelude.{map}
use Rattle.std.specs.Str.{chars}
use Rattle.op_logic.specs.Term.{atom}
use Rattle.op_term.specs.Places.{term_at}
use Rattle.op_reader.specs.Words.{list_of, char_term}
use Rattle.op_reader.specs.inner.Shown.{ShowsTerms}
use Rattle.op_reader.proofs.ShownNodes.{kept_all, shows_more, all_shown_more, shows_list}
use Rattle.op_reader.proofs.text_node.list_of_text.Goals as goal

pub returns-clause-shown : goal.returns-clause-shown
returns-clause-shown c =
    let symbols = c.char_nodes.new.symbols in
    let nodes = c.char_nodes.new.nodes in
    let later = c.named_node.new.symbols in
    let last = c.intern.new.self in
    let made = c.named_node.new.nodes in
    let elements = subst (λ (cs : List ℕ). ShowsTerms symbols nodes c.in_ok-elements.elements.items (map (char_term c.args.quotes) cs))
    (c.deref.ensures.value ∙ c.in_ok-characters.ensures) c.in_ok-elements.ensures.shown in
    shows_list last made c.list_node.new.nodes c.in_ok-list.list c.in_ok-dot.dot.0 c.in_ok-end.end c.in_ok-elements.elements.items
    (codes ".") (atom (codes "[]"))
    (map (char_term c.args.quotes) (chars c.args.text.now))
    c.in_ok-list.ensures.there
    (c.in_ok-list.ensures.term ∙ ap (λ (es : List ℕ). list_of c.in_ok-dot.dot.0 (term_at made c.in_ok-end.end)
    (map (term_at made) es)) c.deref-2.ensures.value)
    c.in_ok-list.ensures.kept c.in_ok-dot.ensures.within c.in_ok-dot.ensures.named
    (shows_more later last made made c.in_ok-end.end (atom (codes "[]")) c.in_ok-dot.ensures.kept (kept_all made) c.in_ok-end.ensures.shown)
    (all_shown_more later last made made c.in_ok-elements.elements.items _ c.in_ok-dot.ensures.kept (kept_all made)
    (all_shown_more symbols later nodes made c.in_ok-elements.elements.items _ c.in_ok-end.ensures.names_kept
    c.in_ok-end.ensures.kept elements))
