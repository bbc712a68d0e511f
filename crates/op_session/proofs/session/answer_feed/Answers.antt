use Rattle.std.proofs.Common.{◌≡◌, suc, ◌+◌, arith}
use Rattle.op_session.specs.Call.{channel_limit}
use Rattle.op_session.proofs.SessionEnds.{leaves_broken, rest_leaves, limit_leaves}
use Rattle.op_session.proofs.session.answer_feed.Goals as goal

pub returns-in-Ok-false : goal.returns-in-Ok-false
returns-in-Ok-false g c =
    let e = rw c.in-Ok-false.field-0-test at (c.in-Ok-false.ensures _ _ _ _ c.loop-test.true c.loop.invariant) in
    rw c.ended_as.ensures (rest_leaves _ _ _ _ _ c.answer_rest.result (c.answer_rest.ensures _ _ _ _ c.loop-test.true e.1 e.0))

pub returns-in-Err : goal.returns-in-Err
returns-in-Err g c = leaves_broken _ _ _ _ _ _ (c.in-Err.ensures _ _ _ _ c.loop-test.true c.loop.invariant)

pub returns : goal.returns
returns g c =
    let full : c.loop.counter ≡ channel_limit = omega (arith, c.loop-test.false, c.loop.auto.counter-end) in
    rw c.ended_as-2.ensures (limit_leaves _ _ _ _ _ _ _ _ _ c.refuse_more.result full c.loop.invariant c.refuse_more.ensures)

pub loop-preserved : goal.loop-preserved
loop-preserved g c =
    let next : suc c.loop.counter ≡ c.loop.counter + 1 = omega arith in
    rw next at (rw c.in-Ok-true.field-0-test at (c.in-Ok-true.ensures _ _ _ _ c.loop-test.true c.loop.invariant))

pub answer_rest-requires : goal.answer_rest-requires
answer_rest-requires g c =
    let e = rw c.in-Ok-false.field-0-test at (c.in-Ok-false.ensures _ _ _ _ c.loop-test.true c.loop.invariant) in
    e.0.feeds.reads
