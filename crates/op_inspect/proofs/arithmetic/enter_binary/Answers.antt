use Rattle.std.proofs.Common.{ℕ, List, length, sym, ap, ◌∙◌, subst, arith}
use Rattle.std.proofs.Math.Path.{ap₂}
use Rattle.std.proofs.lemmas.List.Elements.{All-push}
use Rattle.op_logic.specs.Term.{Term, args_of, nth_arg}
use Rattle.op_logic.specs.Names.{named, HasNames}
use Rattle.op_bind.specs.State.{value_of}
use Rattle.op_inspect.specs.Arithmetic.{add_nodes, evaluated, binary_of}
use Rattle.op_inspect.specs.inner.Pending.{all_resumed, IsReadyPending, AreReady, moves_left}
use Rattle.op_inspect.specs.declared.pending.Pending.{Pending}
use Rattle.op_inspect.specs.declared.pending.Pending.TheVariants.{First}
use Rattle.op_inspect.proofs.MetNodes.{evaluable-not-spent, known-struct}
use Rattle.op_inspect.proofs.PendingFunctions.{two-arguments, binary-goes, binary-ends, moves-push}
use Rattle.op_inspect.proofs.arithmetic.enter_binary.Goals as goal

pub returns-in_default-clause-goes : goal.returns-in_default-clause-goes
returns-in_default-clause-goes c =
    let t = value_of c.args.bindings.now c.args.at.now in
    let names = c.args.symbols.now in (
      evaluable-not-spent c.args.name 2,
      known-struct t c.args.name 2 (length names) (sym c.requires.node) c.requires.ready.1,
      binary-ends names c.args.bindings.now c.args.pending.now.items t (nth_arg (args_of t) 0) (nth_arg (args_of t) 1) c.args.name.0
          (two-arguments t c.args.name c.requires.node) (ap binary_of (sym c.name_of.ensures) ∙ (sym c.binary_of.ensures
          ∙ c.in_default.is)),
    )

pub returns-clause-goes : goal.returns-clause-goes
returns-clause-goes c =
    let s = c.args.bindings.now in
    let names = c.args.symbols.now in
    let ps = c.args.pending.now.items in
    let t = value_of s c.args.at.now in
    let u = nth_arg (args_of t) 0 in
    let v = nth_arg (args_of t) 1 in
    let is = two-arguments t c.args.name c.requires.node in
    let has = subst (HasNames (length names)) is c.requires.ready.1 in (
      (c.part-first.ensures.place, subst (HasNames (length names)) (sym c.part-first.ensures.value) has.1.0),
      subst (λ (qs : List Pending). AreReady (length names) s qs) (sym c.in_ok-push.ensures.items)
          (All-push (IsReadyPending (length names) s) ps (First c.in-Some.f c.part-second.result) c.requires.pending
          (c.part-second.ensures.place, subst (HasNames (length names)) (sym c.part-second.ensures.value) has.1.1.0)),
      binary-goes names s ps t u v c.args.name.0 c.part-second.result c.in-Some.f is c.part-second.ensures.value
          (ap binary_of (sym c.name_of.ensures) ∙ (sym c.binary_of.ensures ∙ c.in-Some.is))
          ∙ ap₂ (λ (qs : List Pending) (w : Term ℕ). add_nodes 1 (all_resumed names s qs (evaluated (named names w))))
          (sym c.in_ok-push.ensures.items) (sym c.part-first.ensures.value),
    )

pub returns-clause-moves : goal.returns-clause-moves
returns-clause-moves c =
    let more = ap moves_left c.in_ok-push.ensures.items ∙ moves-push c.args.pending.now.items (First c.in-Some.f c.part-second.result) in
    omega (arith, more)
