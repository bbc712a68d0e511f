-- Terms that are made one after the other, and names that are there.
use Rattle.std.proofs.Common.{◌≡◌, ℕ, ◌<◌, ◌≤◌, List, length, take, length-take, refl, sym, ap, ◌∙◌, subst, arith}
use Rattle.op_logic.specs.Term.{Term}
use Rattle.op_logic.specs.Names.{name_at, HasNames}
use Rattle.op_term.specs.Places.{term_at}
use Rattle.op_bind.specs.Grown.{Grows}
use Rattle.op_bind.specs.State.{State, bindings}
use Rattle.op_bind.proofs.StateGrowth.{grows-grows, term-stays}
use Rattle.op_trace.specs.Database.{Text}
use Rattle.op_trace.specs.Body.{pair}
use Rattle.op_store.specs.Stored.{Stored, first_names}
use Rattle.op_machine.specs.declared.core_state.Core.{Core}
use Rattle.op_machine.specs.Program.{goal_named}
use Rattle.op_machine.specs.Meaning.{goal_now}
use Rattle.op_machine.specs.inner.Invariant.{IsGoal, HasGoal}
use Rattle.op_machine.specs.inner.Moves.{Makes}

pub names-more : (old new : List Text) → take (length old) new ≡ old → length old ≤ length new
names-more old new e = omega (arith, length-take (length old) new, ap length e)

-- each of the first names is there
pub first-there : (names : List Text) (k : ℕ) → take (length first_names) names ≡ first_names → k < 22 → k < length names
first-there names k b h = let l : 22 ≤ length names = names-more first_names names b in omega arith

-- a term that was made, with names that are there
pub term-made : (c : Core) (s : State) (r : ℕ) (t : Term ℕ) → Grows c.bindings s → bindings s ≡ bindings c.bindings
    → s.count ≡ c.bindings.count → r < length s.terms → term_at s.terms r ≡ t → HasNames (length c.store.names) t
    → Makes c (record c { bindings = s }) r
term-made c s r t grows same count there value names = record {
  rest = refl;
  grows = grows;
  bindings = same;
  count = count;
  there = (there, subst (HasNames (length c.store.names)) (sym value) names);
}

-- two terms that are made, one after the other
pub makes-joins : (a b c : Core) (r s : ℕ) → Makes a b r → Makes b c s → Makes a c s
makes-joins a b c r s m n = record {
  rest = n.rest ∙ ap (λ (x : Core). record x { bindings = c.bindings }) m.rest;
  grows = grows-grows a.bindings b.bindings c.bindings m.grows n.grows;
  bindings = n.bindings ∙ m.bindings;
  count = n.count ∙ m.count;
  there = n.there;
}

-- what there was is still there, and means what it meant
module _ (c d : Core) (r : ℕ) (m : Makes c d r) where
  pub made-store : d.store ≡ c.store
  made-store = ap (λ (x : Core). x.store) m.rest

  pub made-there : (g : ℕ) → HasGoal c g → HasGoal d g
  made-there g goal =
      let stays = term-stays c.bindings d.bindings m.grows g goal.0 in
      subst (λ (t : Stored). IsGoal (length t.names) d.bindings.terms g) (sym made-store)
      (omega (arith, goal.0, m.grows.terms_there), subst (HasNames (length c.store.names)) (sym stays) goal.1)

  pub made-goal : (g : ℕ) → HasGoal c g → goal_now d g ≡ goal_now c g
  made-goal g goal =
      ap (λ (t : Stored). goal_named t (term_at d.bindings.terms g)) made-store
      ∙ ap (goal_named c.store) (term-stays c.bindings d.bindings m.grows g goal.0)

  -- a name that was there
  pub made-name : (k : ℕ) → k < length c.store.names → k < length d.store.names
  made-name k there = subst (λ (t : Stored). k < length t.names) (sym made-store) there

  pub made-name_at : (k : ℕ) → name_at d.store.names k ≡ name_at c.store.names k
  made-name_at k = ap (λ (t : Stored). name_at t.names k) made-store

pub pair-same : (f g : Text) (t u v w : Term Text) → f ≡ g → t ≡ u → v ≡ w → pair f t v ≡ pair g u w
pair-same f g t u v w a b c = cc
