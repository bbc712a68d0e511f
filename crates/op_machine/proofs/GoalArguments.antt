-- The goals of a conjunction.
use Rattle.std.proofs.Common.{◌≡◌, ◌<◌, ℕ, List, ◌∷◌, length, refl, sym, ap, ◌∙◌, subst}
use Rattle.op_logic.specs.Term.{Term, var, int, node, args_of, nth_arg}
use Rattle.op_logic.specs.Names.{HasNames, ArgsHaveNames}
use Rattle.op_logic.proofs.ShiftedTerms.{nth-names}
use Rattle.op_term.specs.Places.{term_at}
use Rattle.op_trace.specs.declared.barrier.Barrier.{Barrier}
use Rattle.op_trace.specs.World as world
use Rattle.op_trace.specs.Database.{Text}
use Rattle.op_trace.specs.World.{World}
use Rattle.op_machine.specs.declared.core_state.Core.{Core}
use Rattle.op_machine.specs.declared.core_state.Mode.TheVariants as mode
use Rattle.op_machine.specs.declared.core_state.Step.TheVariants as step
use Rattle.op_machine.specs.declared.continuations.Item.TheVariants as item
use Rattle.op_machine.specs.Program.{goal_named}
use Rattle.op_machine.specs.Meaning.{item_term, level_in, items_now, choice_points_in, bindings_now, world_in, goal_now}
use Rattle.op_machine.specs.inner.Invariant.{HasGoal, IsGood}
use Rattle.op_machine.specs.inner.Moves.{Advances, conjunction_before}
use Rattle.op_machine.specs.Resume.{Forward, silent}
use Rattle.op_machine.proofs.AdvanceLaws.{good-at}

pub args-names : (n : ℕ) (t : Term ℕ) → HasNames n t → ArgsHaveNames n (args_of t)
args-names n (var v) h = tt
args-names n (int i) h = tt
args-names n (node f ts) h = h.1

pub argument-goal : (c : Core) (g i r : ℕ) → HasGoal c g → r < length c.bindings.terms
    → term_at c.bindings.terms r ≡ nth_arg (args_of (term_at c.bindings.terms g)) i → HasGoal c r
argument-goal c g i r goal there value =
    let n : ℕ = length c.store.names in
    let t : Term ℕ = term_at c.bindings.terms g in
    (there, subst (HasNames n) (sym value) (nth-names n (args_of t) i (args-names n t goal.1)))

-- two continuations were added, and the machine goes on with the second
pub select_conjunction-advances : (c mid new : Core) (g : ℕ) (m : Barrier) (n first second tail items : ℕ) → mid
    ≡ record c { continuations = mid.continuations } → new ≡ record mid { continuations = new.continuations }
    → term_at c.bindings.terms first ≡ nth_arg (args_of (term_at c.bindings.terms g)) 0
    → term_at c.bindings.terms second ≡ nth_arg (args_of (term_at c.bindings.terms g)) 1
    → items_now mid tail ≡ item_term c.store (level_in c) (item.Goal second m) ∷ items_now c n
    → items_now new items ≡ item_term mid.store (level_in mid) (item.Goal first m) ∷ items_now mid tail
    → choice_points_in mid ≡ choice_points_in c → choice_points_in new ≡ choice_points_in mid → IsGood new
    → items < length new.continuations
    → Advances c (record new { mode = mode.Forward items })
    (silent (Forward (conjunction_before c g m n) (choice_points_in c) (bindings_now c) (world_in c))) step.Silent
select_conjunction-advances c mid new g m n first second tail items em en ef es rest all cm cn good inside =
    let from_mid : goal_now mid first ≡ goal_now c first = ap (λ (x : Core). goal_now x first) em in
    let one : goal_now mid first ≡ goal_named c.store (nth_arg (args_of (term_at c.bindings.terms g)) 0) = from_mid
    ∙ ap (goal_named c.store) ef in
    let two : goal_now c second ≡ goal_named c.store (nth_arg (args_of (term_at c.bindings.terms g)) 1) = ap (goal_named c.store) es in
    let both : items_now new items ≡ conjunction_before c g m n =
    all ∙ (ap (λ (t : Term Text). world.Goal t m ∷ items_now mid tail) one
    ∙ (ap (λ (J : List world.Item). world.Goal (goal_named c.store (nth_arg (args_of (term_at c.bindings.terms g)) 0)) m ∷ J) rest
    ∙ ap (λ (t : Term Text). world.Goal (goal_named c.store (nth_arg (args_of (term_at c.bindings.terms g)) 0))
    m ∷ world.Goal t m ∷ items_now c n) two)) in
    let choices : choice_points_in new ≡ choice_points_in c = cn ∙ cm in
    let bound : bindings_now new ≡ bindings_now c = ap bindings_now en ∙ ap bindings_now em in
    let same : world_in new ≡ world_in c = ap world_in en ∙ ap world_in em in
    record {
      turns = refl;
      state = cc;
      good = good-at new new.steps (mode.Forward items) good inside;
      looked = tt;
      store = ap (λ (x : Core). x.store) en ∙ ap (λ (x : Core). x.store) em;
      names = ap (λ (x : Core). x.names) en ∙ ap (λ (x : Core). x.names) em;
      budget = ap (λ (x : Core). x.budget) en ∙ ap (λ (x : Core). x.budget) em;
      wanted = ap (λ (x : Core). x.wanted) en ∙ ap (λ (x : Core). x.wanted) em;
    }
