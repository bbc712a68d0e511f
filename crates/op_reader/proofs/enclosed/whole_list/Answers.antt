use Rattle.std.proofs.Common.{◌<◌, ap, sym, ◌∙◌, map, List, ℕ, length, subst, All, arith}
use Rattle.std.proofs.lemmas.List.Sorted.{All-permutation}
use Rattle.std.proofs.lemmas.List.Elements.{All-push}
use Rattle.std.specs.Option.{unwrap_or, option_map}
use Rattle.op_logic.specs.Term.{atom}
use Rattle.op_logic.specs.Names.{name_at}
use Rattle.op_reader.specs.Words.{list_of}
use Rattle.op_reader.specs.inner.RoleLists.{node_in}
use Rattle.op_reader.proofs.ShownNodes.{kept_length, kept_kept}
use Rattle.op_reader.proofs.AddedNodes.{list_seen, turned}
use Rattle.op_reader.proofs.enclosed.whole_list.Goals as goal

pub returns-clause-term : goal.returns-clause-term
returns-clause-term c v k =
    let n = length c.args.nodes.now in
    let m = length c.end_node.new.nodes in
    let longer = kept_length c.args.nodes.now c.end_node.new.nodes c.in_ok-end.ensures.kept in
    let pushed = subst (λ (ps : List ℕ). All (λ p. p < n) ps) (sym c.in_ok-push.ensures.items)
    (All-push (λ p. p < n) c.args.rest.items c.args.first c.requires.rest c.requires.first) in
    let below = subst (λ (ps : List ℕ). All (λ p. p < n) ps) (sym c.deref.ensures.value)
    (All-permutation (λ p. p < n) c.push.new.self.items c.reverse.new.self.items c.reverse.ensures.permutation pushed) in
    let further : All (λ p. p < m) c.deref.result.now = λ i d lt. let b = below i d lt in omega arith in
    list_seen v c.end_node.new.nodes c.list_node.new.nodes c.args.names.dot.0 c.in_ok-end.end c.in_ok-list.list c.deref.result.now k
    c.in_ok-list.ensures.kept c.in_ok-list.ensures.there c.in_ok-end.ensures.there
    further c.in_ok-list.ensures.term
    ∙ ap (λ t. list_of (name_at v.names c.args.names.dot.0) t (map (node_in v) c.deref.result.now))
    (c.in_ok-end.ensures.term v (kept_kept c.end_node.new.nodes c.list_node.new.nodes v.terms c.in_ok-list.ensures.kept k))
    ∙ ap (λ (ps : List ℕ). list_of (name_at v.names c.args.names.dot.0) (unwrap_or (option_map (node_in v) c.args.tail)
    (atom (name_at v.names c.args.names.nil.0))) (map (node_in v) ps))
    (turned c.args.rest.items c.push.new.self.items c.deref.result.now c.args.first c.in_ok-push.ensures.items (c.deref.ensures.value
    ∙ c.reverse.ensures.items))
