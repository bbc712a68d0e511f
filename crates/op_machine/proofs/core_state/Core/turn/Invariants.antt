use Rattle.op_machine.specs.Meaning.{setup_of, state_of}
use Rattle.op_machine.specs.inner.Turns.{Walked}
use Rattle.op_machine.proofs.ProgressLaws.{weight}
use Rattle.op_machine.proofs.core_state.Core.turn.Given as goal

abbrev pub invariant-loop-self : goal.invariant-loop-self
invariant-loop-self l = Walked l.fn.self l.self

abbrev pub decreases-loop-self : goal.decreases-loop-self
decreases-loop-self l = weight (setup_of l.self) (state_of l.self)
