use Rattle.std.proofs.Common.{sym, ◌∙◌}
use Rattle.std.proofs.Math.Seq.{take-length}
use Rattle.op_retrace.specs.Retraced.{held_by}
use Rattle.op_retrace.proofs.RetraceMoves.{stands-before, stands-at-end, comes-here, holds-on, advances-on, advances-as, advances-again}
use Rattle.op_retrace.proofs.RetraceMoves.{breaks-off}
use Rattle.op_retrace.proofs.retrace.RetraceFeed.advance.Goals as goal

pub returns-then-is_at_end-clause-advances : goal.returns-then-is_at_end-clause-advances
returns-then-is_at_end-clause-advances g c =
    let h = held_by c.self.inside in
    let at_end = stands-at-end h (sym c.is_at_end.ensures ∙ c.if-is_at_end.true) in
    rw (← c.self.view_is)
    (advances-again h _ _ _ (c.self.invariant.here c.in_default.is) at_end.0 at_end.1 (take-length h.machine.tables.names))

pub invariant_of-self : goal.invariant_of-self
invariant_of-self g c =
    let h = held_by c.self.inside in
    let here = c.self.invariant.here c.in_default.is in
    let before = stands-before h _ here (sym c.is_at_end.ensures ∙ c.if-is_at_end.false) in
    let on = c.step_on.ensures in
    holds-on h c.come_to_next.new.machine c.in-Ok.ending _ _ _ on.place on.furthest on.kept c.self.invariant
    (comes-here h c.come_to_next.new.machine c.in-Ok.ending here before c.in-Ok.ensures.comes c.come_to_next.ensures.names)

pub returns-in-Ok-clause-advances : goal.returns-in-Ok-clause-advances
returns-in-Ok-clause-advances g c =
    let h = held_by c.self.inside in
    let here = c.self.invariant.here c.in_default.is in
    let before = stands-before h _ here (sym c.is_at_end.ensures ∙ c.if-is_at_end.false) in
    let came = c.come_to_next.ensures in
    let on = c.step_on.ensures in
    rw (← c.self.view_is)
    (advances-as h c.come_to_next.new.machine c.in-Ok.ending _ _ _ _ _ _ _ _ on.place on.furthest on.kept on.step
    (advances-on h c.come_to_next.new.machine c.in-Ok.ending _ _ _ _ c.in_default.is here before c.in-Ok.ensures.comes came.names
    came.later came.cost))

pub returns-in-Err-clause-breaks : goal.returns-in-Err-clause-breaks
returns-in-Err-clause-breaks g c =
    let h = held_by c.self.inside in
    let here = c.self.invariant.here c.in_default.is in
    let before = stands-before h _ here (sym c.is_at_end.ensures ∙ c.if-is_at_end.false) in
    let came = c.come_to_next.ensures in
    λ none. rw (← c.self.view_is) (breaks-off h _ _ _ _ _ _ here before c.in-Err.ensures.stops came.later came.cost)
