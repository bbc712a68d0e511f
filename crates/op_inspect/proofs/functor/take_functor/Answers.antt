use Rattle.std.proofs.Common.{◌≡◌, ℕ, [], ◌∷◌, ap, sym, ◌∙◌}
use Rattle.std.specs.Prelude.{pos}
use Rattle.op_logic.specs.Term.{int, arity, args_of}
use Rattle.op_term.proofs.ArgumentLists.{count-head}
use Rattle.op_term.specs.Arguments.{argument_count}
use Rattle.op_term.specs.Head.{head as head_of}
use Rattle.op_term.specs.Places.{term_at}
use Rattle.op_bind.proofs.StateGrowth.{term-stays}
use Rattle.op_bind.specs.State.{bindings}
use Rattle.op_inspect.specs.Answering.{unify_pairs}
use Rattle.op_inspect.specs.Construction.{functor_taken, name_of}
use Rattle.op_inspect.specs.Outcomes.{text_at, texts_of}
use Rattle.op_inspect.specs.inner.Settings.{Stays}
use Rattle.op_inspect.proofs.Acting.{made-answers}
use Rattle.op_inspect.proofs.ArgumentTexts.{arity-text}
use Rattle.op_inspect.proofs.Constructing.{takes-pairs}
use Rattle.op_inspect.proofs.AtomicNames.{name-atomic}
use Rattle.op_inspect.proofs.TextsLater.{known-later, text-later, setting-later, texts-later, stays-stays}
use Rattle.op_inspect.proofs.functor.take_functor.Goals as goal

pub outline-requires : goal.outline-requires
outline-requires c =
    (known-later c.args.symbols.now c.args.symbols.now c.args.bindings.now c.make_name.new.bindings c.args.at.now
    c.in_ok-head.ensures.stays c.requires.at).0

pub unify_both-requires-clause-a : goal.unify_both-requires-clause-a
unify_both-requires-clause-a c =
    let names = c.args.symbols.now in
    known-later names names c.args.bindings.now c.make_count.new.bindings c.args.name.now
    (stays-stays names names names c.args.bindings.now c.make_name.new.bindings c.make_count.new.bindings c.in_ok-head.ensures.stays
    c.in_ok-number.ensures.stays) c.requires.name

pub unify_both-requires-clause-b : goal.unify_both-requires-clause-b
unify_both-requires-clause-b c =
    let names = c.args.symbols.now in
    known-later names names c.make_name.new.bindings c.make_count.new.bindings c.in_ok-head.head c.in_ok-number.ensures.stays
    c.in_ok-head.ensures.made.known

pub unify_both-requires-clause-c : goal.unify_both-requires-clause-c
unify_both-requires-clause-c c =
    let names = c.args.symbols.now in
    known-later names names c.args.bindings.now c.make_count.new.bindings c.args.count.now
    (stays-stays names names names c.args.bindings.now c.make_name.new.bindings c.make_count.new.bindings c.in_ok-head.ensures.stays
    c.in_ok-number.ensures.stays) c.requires.count

pub unify_both-requires-clause-setting : goal.unify_both-requires-clause-setting
unify_both-requires-clause-setting c =
    let names = c.args.symbols.now in
    setting-later names names c.args.bindings.now c.make_count.new.bindings
    (stays-stays names names names c.args.bindings.now c.make_name.new.bindings c.make_count.new.bindings c.in_ok-head.ensures.stays
    c.in_ok-number.ensures.stays) (c.in_ok-number.ensures.made.bound ∙ c.in_ok-head.ensures.made.bound) c.requires.setting

pub unify_both-requires-clause-atomic : goal.unify_both-requires-clause-atomic
unify_both-requires-clause-atomic c =
    let names = c.args.symbols.now in
    let u = c.make_count.new.bindings in
    let head = c.in_ok-head.head in
    name-atomic names (term_at c.args.bindings.now.terms c.args.at.now) (term_at u.terms head) c.requires.bound
    (text-later names names c.make_name.new.bindings u head c.in_ok-number.ensures.stays c.in_ok-head.ensures.made.known
    ∙ c.in_ok-head.ensures.made.text)

pub returns : goal.returns
returns c =
    let names = c.args.symbols.now in
    let s = c.args.bindings.now in
    let t = c.make_name.new.bindings in
    let u = c.make_count.new.bindings in
    let left = c.args.fuel.now in
    let at = c.args.at.now in
    let head = c.in_ok-head.head in
    let number = c.in_ok-number.number in
    let first = c.in_ok-head.ensures in
    let second = c.in_ok-number.ensures in
    let stays : Stays names names s u = stays-stays names names names s t u first.stays second.stays in
    let bound : bindings u ≡ bindings s = second.made.bound ∙ first.made.bound in
    let f = text_at names s c.args.name.now in
    let n = text_at names s c.args.count.now in
    let x = text_at names s at in
    let hu : text_at names u head ≡ name_of x = text-later names names t u head second.stays first.made.known ∙ first.made.text in
    let count : c.arity.result ≡ arity (args_of x) =
    c.arity.ensures ∙ (ap argument_count (c.outline.ensures ∙ ap head_of (term-stays s t first.stays.grows at c.requires.at.0))
    ∙ (count-head (term_at s.terms at) ∙ sym (arity-text names (term_at s.terms at)))) in
    let nu : text_at names u number ≡ int (pos (arity (args_of x))) = second.made.text ∙ ap (λ (k : ℕ). int (pos k)) count in
    made-answers (functor_taken x f n left (texts_of names s))
    (λ w. unify_pairs ((text_at names u c.args.name.now, text_at names u head)
    ∷ (text_at names u c.args.count.now, text_at names u number) ∷ []) left (texts_of names u) w w)
    names names names s u c.unify_both.new.bindings left c.unify_both.new.fuel c.unify_both.result stays
    (second.made.count ∙ first.made.count)
    (λ w. takes-pairs left (texts_of names s) w x f n (text_at names u c.args.name.now) (text_at names u c.args.count.now)
    (text_at names u head) (text_at names u number) (texts_of names u)
    (text-later names names s u c.args.name.now stays c.requires.name) hu
    (text-later names names s u c.args.count.now stays c.requires.count) nu
    (texts-later names names s u stays bound c.requires.setting))
    c.unify_both.ensures
