-- The most steps of a machine that goes on.
use Rattle.std.proofs.Common.{◌≡◌, ◌≤◌, List, max, sym, ap, subst, arith}
use Rattle.op_logic.specs.Bind.{Bindings}
use Rattle.op_trace.specs.Database.{Text}
use Rattle.op_trace.specs.World.{World, Event, Shown, Solved}
use Rattle.op_trace.specs.Run.{Run}
use Rattle.op_machine.specs.declared.turn.Ending.{Ending}
use Rattle.op_machine.specs.declared.turn.Turn as declared
use Rattle.op_machine.specs.declared.turn.Turn.TheVariants as turn
use Rattle.op_machine.specs.Meaning.{bindings_in}
use Rattle.op_machine.specs.Machine.{Kept, with_turn, only_ending, event_now, world_now, level_now, Answers}
use Rattle.op_session.specs.MostSteps.{most_steps}
use Rattle.op_session.specs.inner.Feeding.{to_show, most_of}

shown_most : (e : Event) (w : World) (r : Run) → max w.steps (most_steps r) ≤ most_steps (with_turn (Shown e w) r)
shown_most e w r = omega arith

solved_most : (σ : Bindings Text) (w : World) (r : Run) → max w.steps (most_steps r) ≤ most_steps (with_turn (Solved σ w) r)
solved_most σ w r = omega arith

ending_most : (names : List Text) (e : Ending) (w : World) → w.steps ≤ most_steps (only_ending names e w)
ending_most names e w = omega arith

pub answers_most : (t : declared.Turn) (old new : Kept) → Answers t old new (to_show old) (to_show new) (world_now new)
    → most_of new ≤ most_of old
answers_most turn.Event old new a =
    let h : most_of new ≤ most_steps (to_show old) =
    subst (λ (r : Run). most_of new ≤ most_steps r) (sym a.0) (shown_most (event_now new) (world_now new) (to_show new)) in
    omega arith
answers_most turn.Solution old new a =
    let h : most_of new ≤ most_steps (to_show old) =
    subst (λ (r : Run). most_of new ≤ most_steps r) (sym a.0)
    (solved_most (bindings_in new.tables (level_now new)) (world_now new) (to_show new)) in
    omega arith
answers_most (turn.Ended e) old new a =
    let h : new.steps ≤ most_steps (to_show old) =
    subst (λ (r : Run). new.steps ≤ most_steps r) (sym a.0) (ending_most new.tables.names e (world_now new)) in
    let k : most_steps (to_show new) ≡ most_steps (to_show old) = ap most_steps a.1 in
    omega arith
