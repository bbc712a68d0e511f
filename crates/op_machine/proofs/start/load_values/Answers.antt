use Rattle.std.proofs.Common.{◌≡◌, ◌+◌, ◌<◌, [], ℕ, List, length, take, get_or, sym, ap, ◌∙◌, subst, arith}
use Rattle.op_logic.specs.Term.{var as variable}
use Rattle.op_term.specs.Places.{term_at}
use Rattle.op_machine.specs.inner.Invariant.{AreValues}
use Rattle.op_machine.proofs.NamedVariables.{values-push, counted-at}
use Rattle.op_machine.proofs.start.load_values.Goals as goal

pub load_variable-requires : goal.load_variable-requires
load_variable-requires c =
    let inside : c.loop-i.i < length c.args.names.now = omega (arith, c.loop-i-test.true, c.len-i-end.ensures) in
    let below : (get_or c.args.names.now c.loop-i.i ([], 0)).1 < c.args.bindings.now.count =
    counted-at c.args.bindings.now.count c.args.names.now c.loop-i.i ([], 0) c.requires inside in
    omega (arith, below, c.var.ensures, c.loop-i.invariant.2)

pub loop-i-preserved : goal.loop-i-preserved
loop-i-preserved c =
    let before = c.loop-i.bindings in
    let after = c.load_variable.new.bindings in
    let inside : c.loop-i.i < length c.args.names.now = omega (arith, c.loop-i-test.true, c.len-i-end.ensures) in
    let value : term_at after.terms c.in_ok-load_variable.field-0
    ≡ variable (get_or c.args.names.now c.loop-i.i ([], 0)).1 = c.in_ok-load_variable.ensures.value ∙ ap variable c.var.ensures in (
      subst (λ (rs : List ℕ). AreValues after.terms rs (take (c.loop-i.i + 1) c.args.names.now)) (sym c.in_ok-push.ensures.items)
          (values-push before after c.loop-i.values.items c.args.names.now c.loop-i.i c.in_ok-load_variable.field-0
          c.in_ok-load_variable.ensures.grows c.loop-i.invariant.0 inside c.in_ok-load_variable.ensures.there value),
      c.in_ok-load_variable.ensures.bound ∙ c.loop-i.invariant.1,
      c.in_ok-load_variable.ensures.count ∙ c.loop-i.invariant.2,
    )
