use Rattle.std.proofs.Common.{◌≡◌, ◌<◌, ◌+◌, ◌-◌, ◌*◌, length, sym, ap, ◌∙◌, refl, rules, arith}
use Rattle.std.proofs.lemmas.List.Elements.{All-pop}
use Rattle.std.proofs.lemmas.Int.{to_z-of_z}
use Rattle.std.specs.Prelude.{ℤ, Some, Err, IfSome, FitsSigned}
use Rattle.std.specs.Int.{w64}
use Rattle.op_logic.specs.Names.{named}
use Rattle.op_bind.specs.State.{value_of}
use Rattle.op_inspect.specs.Arithmetic.{add_nodes}
use Rattle.op_inspect.specs.Told.{evaluated_within, cause_of, HasKnownName}
use Rattle.op_inspect.specs.inner.Pending.{meaning_at, resumed, all_resumed, IsReadyPending, moves_left}
use Rattle.op_inspect.specs.declared.fault.EvalFault.TheVariants.{Spent}
use Rattle.op_inspect.proofs.PendingFunctions.{add-none, value-goes, ends-within, spent-within, moves-popped, passed-on, not-passed-on}
use Rattle.op_inspect.proofs.arithmetic.evaluate.Goals as goal

pub returns-in_err-spend-in-Expression-clause-spent : goal.returns-in_err-spend-in-Expression-clause-spent
returns-in_err-spend-in-Expression-clause-spent c = λ _.
    spent-within c.args.symbols.now c.args.bindings.now c.walk.pending.items c.walk.next c.in-Expression.at c.args.fuel.now c.walk.fuel
    (meaning_at c.args.symbols.now c.args.bindings.now c.args.term.now) (c.in_err-spend-in-Expression.ensures.spent.0 refl)
    c.in-Expression.is c.walk.invariant.meaning

pub returns-in_err-next-in-Value-clause-err : goal.returns-in_err-next-in-Value-clause-err
returns-in_err-next-in-Value-clause-err c =
    let names = c.args.symbols.now in
    let s = c.args.bindings.now in
    let ps = c.pop.new.self.items in
    let all = All-pop (IsReadyPending (length names) s) c.walk.pending.items ps (Some c.in-Some.function) c.in-Some.ensures.items
    c.walk.invariant.ready in
    let ends = c.in_err-next-in-Value.ensures.goes names s all.1 all.0 in
    let fits : FitsSigned w64 c.in-Value.x = search rules in
    let goes = value-goes names s ps (meaning_at names s c.args.term.now) (c.args.fuel.now - c.walk.fuel) c.walk.pending.items
    c.in-Some.function c.walk.next c.in-Value.x c.in-Value.is c.in-Some.ensures.items c.walk.invariant.meaning
    ∙ ap (λ (x : ℤ). add_nodes (c.args.fuel.now - c.walk.fuel) (all_resumed names s ps (resumed names s c.in-Some.function x)))
    (sym (to_z-of_z w64 c.in-Value.x fits)) in
    passed-on c.from_residual-in_err-next-in-Value.result c.in_err-next-in-Value.field-0.0 c.from_residual-in_err-next-in-Value.ensures
    (λ e. IfSome (cause_of names e) (λ r. evaluated_within c.args.fuel.now (named names (value_of s c.args.term.now))
    ≡ Some (Err r, c.walk.fuel)))
    (ends-within (cause_of names c.in_err-next-in-Value.field-0.0) c.args.fuel.now c.walk.fuel (meaning_at names s c.args.term.now) _
    c.walk.invariant.paid goes ends.2)

pub returns-in_err-next-in-Value-clause-spent : goal.returns-in_err-next-in-Value-clause-spent
returns-in_err-next-in-Value-clause-spent c = λ told.
    let names = c.args.symbols.now in
    let s = c.args.bindings.now in
    let all = All-pop (IsReadyPending (length names) s) c.walk.pending.items c.pop.new.self.items (Some c.in-Some.function)
    c.in-Some.ensures.items c.walk.invariant.ready in
    let ends = c.in_err-next-in-Value.ensures.goes names s all.1 all.0 in
    absurd (not-passed-on c.from_residual-in_err-next-in-Value.result c.in_err-next-in-Value.field-0.0 Spent
    c.from_residual-in_err-next-in-Value.ensures ends.0 told)

pub returns-in_err-next-in-Value-clause-none_left : goal.returns-in_err-next-in-Value-clause-none_left
returns-in_err-next-in-Value-clause-none_left c = λ told.
    let names = c.args.symbols.now in
    let s = c.args.bindings.now in
    let all = All-pop (IsReadyPending (length names) s) c.walk.pending.items c.pop.new.self.items (Some c.in-Some.function)
    c.in-Some.ensures.items c.walk.invariant.ready in
    let ends = c.in_err-next-in-Value.ensures.goes names s all.1 all.0 in
    absurd (not-passed-on c.from_residual-in_err-next-in-Value.result c.in_err-next-in-Value.field-0.0 Spent
    c.from_residual-in_err-next-in-Value.ensures ends.0 told)

pub returns-in_err-next-in-Value-clause-known : goal.returns-in_err-next-in-Value-clause-known
returns-in_err-next-in-Value-clause-known c =
    let names = c.args.symbols.now in
    let s = c.args.bindings.now in
    let all = All-pop (IsReadyPending (length names) s) c.walk.pending.items c.pop.new.self.items (Some c.in-Some.function)
    c.in-Some.ensures.items c.walk.invariant.ready in
    let ends = c.in_err-next-in-Value.ensures.goes names s all.1 all.0 in
    passed-on c.from_residual-in_err-next-in-Value.result c.in_err-next-in-Value.field-0.0 c.from_residual-in_err-next-in-Value.ensures
    (λ e. HasKnownName (length names) e) ends.1

pub walk-smaller : goal.walk-smaller
walk-smaller c =
    let before = moves-popped c.pop.new.self.items c.walk.pending.items c.in-Some.function c.in-Some.ensures.items in
    let less = c.in_ok-next-in-Value.ensures.moves in
    let smaller : 3 * c.walk.fuel + moves_left c.resume.new.pending.items < 3 * c.walk.fuel + moves_left c.walk.pending.items =
    omega (arith, before, less) in
    smaller

pub walk-preserved : goal.walk-preserved
walk-preserved c =
    let names = c.args.symbols.now in
    let s = c.args.bindings.now in
    let ps = c.pop.new.self.items in
    let k = c.args.fuel.now - c.walk.fuel in
    let all = All-pop (IsReadyPending (length names) s) c.walk.pending.items ps (Some c.in-Some.function) c.in-Some.ensures.items
    c.walk.invariant.ready in
    let goes = c.in_ok-next-in-Value.ensures.goes names s all.1 all.0 in
    let fits : FitsSigned w64 c.in-Value.x = search rules in
    let before = value-goes names s ps (meaning_at names s c.args.term.now) k c.walk.pending.items
    c.in-Some.function c.walk.next c.in-Value.x c.in-Value.is c.in-Some.ensures.items c.walk.invariant.meaning
    ∙ ap (λ (x : ℤ). add_nodes k (all_resumed names s ps (resumed names s c.in-Some.function x)))
    (sym (to_z-of_z w64 c.in-Value.x fits)) in
    record {
      paid = c.walk.invariant.paid;
      next = goes.0;
      ready = goes.1;
      meaning = before ∙ ap (add_nodes k) (goes.2 ∙ add-none _);
    }
