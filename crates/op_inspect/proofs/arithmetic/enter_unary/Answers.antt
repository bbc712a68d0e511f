use Rattle.std.proofs.Common.{ℕ, List, length, sym, ap, ◌∙◌, subst, arith}
use Rattle.std.proofs.Math.Path.{ap₂}
use Rattle.std.proofs.lemmas.List.Elements.{All-push}
use Rattle.op_logic.specs.Term.{Term, args_of, nth_arg}
use Rattle.op_logic.specs.Names.{named, HasNames}
use Rattle.op_bind.specs.State.{value_of}
use Rattle.op_inspect.specs.Arithmetic.{add_nodes, evaluated, unary_of}
use Rattle.op_inspect.specs.inner.Pending.{all_resumed, IsReadyPending, AreReady, moves_left}
use Rattle.op_inspect.specs.declared.pending.Pending.{Pending}
use Rattle.op_inspect.specs.declared.pending.Pending.TheVariants.{Single}
use Rattle.op_inspect.proofs.MetNodes.{evaluable-not-spent, known-struct}
use Rattle.op_inspect.proofs.PendingFunctions.{one-argument, unary-goes, unary-ends, moves-push}
use Rattle.op_inspect.proofs.arithmetic.enter_unary.Goals as goal

pub returns-in_default-clause-goes : goal.returns-in_default-clause-goes
returns-in_default-clause-goes c =
    let t = value_of c.args.bindings.now c.args.at.now in
    let names = c.args.symbols.now in (
      evaluable-not-spent c.args.name 1,
      known-struct t c.args.name 1 (length names) (sym c.requires.node) c.requires.ready.1,
      unary-ends names c.args.bindings.now c.args.pending.now.items t (nth_arg (args_of t) 0) c.args.name.0
          (one-argument t c.args.name c.requires.node)
          (ap unary_of (sym c.name_of.ensures) ∙ (sym c.unary_of.ensures ∙ c.in_default.is)),
    )

pub returns-clause-goes : goal.returns-clause-goes
returns-clause-goes c =
    let s = c.args.bindings.now in
    let names = c.args.symbols.now in
    let ps = c.args.pending.now.items in
    let t = value_of s c.args.at.now in
    let u = nth_arg (args_of t) 0 in
    let is = one-argument t c.args.name c.requires.node in
    let has = subst (HasNames (length names)) is c.requires.ready.1 in (
      (c.part.ensures.place, subst (HasNames (length names)) (sym c.part.ensures.value) has.1.0),
      subst (λ (qs : List Pending). AreReady (length names) s qs) (sym c.in_ok-push.ensures.items)
          (All-push (IsReadyPending (length names) s) ps (Single c.in-Some.f) c.requires.pending tt),
      unary-goes names s ps t u c.args.name.0 c.in-Some.f is (ap unary_of (sym c.name_of.ensures) ∙ (sym c.unary_of.ensures ∙ c.in-Some.is))
          ∙ ap₂ (λ (qs : List Pending) (v : Term ℕ). add_nodes 1 (all_resumed names s qs (evaluated (named names v))))
          (sym c.in_ok-push.ensures.items) (sym c.part.ensures.value),
    )

pub returns-clause-moves : goal.returns-clause-moves
returns-clause-moves c =
    let more = ap moves_left c.in_ok-push.ensures.items ∙ moves-push c.args.pending.now.items (Single c.in-Some.f) in omega (arith, more)
