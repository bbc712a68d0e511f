-- An argument of a goal, followed.
use Rattle.std.proofs.Common.{◌≡◌, ℕ, ◌<◌, length, sym, ap, ◌∙◌, subst, arith}
use Rattle.op_logic.specs.Term.{Term, var, int, node, args_of, nth_arg, arity, rename}
use Rattle.op_logic.specs.Bind.{Bindings, follow}
use Rattle.op_logic.specs.Laws.{rename_bindings}
use Rattle.op_logic.specs.Names.{name_at, HasNames, HaveNames}
use Rattle.op_logic.proofs.RenamedUnification.{follow-rename}
use Rattle.op_logic.proofs.ShiftedTerms.{nth-rename}
use Rattle.op_logic.proofs.UnifierNames.{follow-names}
use Rattle.op_term.specs.Places.{term_at}
use Rattle.op_bind.specs.State.{bindings}
use Rattle.op_trace.specs.Database.{Text}
use Rattle.op_machine.specs.declared.core_state.Core.{Core}
use Rattle.op_machine.specs.Meaning.{goal_now, bindings_now}
use Rattle.op_machine.specs.inner.Invariant.{HasGoal}
use Rattle.op_machine.proofs.GoalArguments.{argument-goal}

module _ (f : ℕ → Text) where
  -- an argument, over texts
  pub argument-renamed : (g : Term ℕ) (i : ℕ) → i < arity (args_of g) → nth_arg (args_of (rename f g)) i ≡ rename f (nth_arg (args_of g) i)
  argument-renamed (var v) i h = absurd (omega (arith, h))
  argument-renamed (int j) i h = absurd (omega (arith, h))
  argument-renamed (node g ts) i h = nth-rename f ts i h

-- an argument that was followed is there, and means the argument, followed
module _ (c : Core) (g a r i : ℕ) (goal : HasGoal c g) (value : term_at c.bindings.terms a
    ≡ nth_arg (args_of (term_at c.bindings.terms g)) i)
    (followed : term_at c.bindings.terms r ≡ follow (bindings c.bindings) (term_at c.bindings.terms a)) where
  pub followed-there : HaveNames (length c.store.names) (bindings c.bindings) → a < length c.bindings.terms → r < length c.bindings.terms
      → HasGoal c r
  followed-there bound a_there there =
      let n : ℕ = length c.store.names in
      let names = argument-goal c g i a goal a_there value in
      (there, subst (HasNames n) (sym followed) (follow-names n (bindings c.bindings) (term_at c.bindings.terms a) bound names.1))

  pub followed-value : i < arity (args_of (term_at c.bindings.terms g)) → goal_now c r
      ≡ follow (bindings_now c) (nth_arg (args_of (goal_now c g)) i)
  followed-value some =
      let f : ℕ → Text = name_at c.store.names in
      let σ : Bindings ℕ = bindings c.bindings in
      ap (rename f) followed
      ∙ (sym (follow-rename f σ (term_at c.bindings.terms a))
      ∙ ap (follow (rename_bindings f σ)) (ap (rename f) value ∙ sym (argument-renamed f (term_at c.bindings.terms g) i some)))
