use Rattle.std.proofs.Common.{◌≤◌, subst, arith}
use Rattle.op_machine.specs.declared.turn.Turn as declared
use Rattle.op_machine.specs.Machine.{Answers, world_now}
use Rattle.op_retrace.specs.Holding.{to_show}
use Rattle.op_retrace.proofs.ComingLaws.{passed-more}
use Rattle.op_retrace.proofs.StandingPlaces.{names-on}
use Rattle.op_retrace.proofs.coming.come_to_next.Goals as goal

pub loop-ending-preserved : goal.loop-ending-preserved
loop-ending-preserved g c =
    let old = c.args.machine.now in
    let mid = c.loop-ending.machine in
    let new = c.next_turn.new.machine in
    let p = c.loop-ending.invariant.passing in
    let fits : old.steps ≤ mid.steps = c.loop-ending.invariant.later in
    let more : mid.steps ≤ new.steps = c.next_turn.ensures.later in
    let paid = c.loop-ending.invariant.cost in
    let cost = c.next_turn.ensures.cost in
    let answers = subst (λ (t : declared.Turn). Answers t mid new (to_show mid) (to_show new) (world_now new)) c.in-Solution.is
    c.in_ok-next_turn.ensures.answers in
    record {
      passing = record { skipped = _; passed = passed-more old mid new p.skipped p.passed answers };
      cost = omega arith;
      later = omega arith;
      names = names-on old.tables.names mid.tables.names new.tables.names c.loop-ending.invariant.names c.next_turn.ensures.names;
    }
