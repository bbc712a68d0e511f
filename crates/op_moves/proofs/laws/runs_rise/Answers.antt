use Rattle.op_moves.proofs.RisingPlaces.{run-course, run-rises, run-numbers}
use Rattle.op_moves.proofs.laws.runs_rise.Goals as goal

pub returns-clause-course : goal.returns-clause-course
returns-clause-course c = run-course

pub returns-clause-rises : goal.returns-clause-rises
returns-clause-rises c = run-rises

pub returns-clause-numbered : goal.returns-clause-numbered
returns-clause-numbered c = run-numbers
