use Rattle.std.proofs.Common.{sym, ap, ◌∙◌}
use Rattle.op_session.specs.Session.{from_first}
use Rattle.op_session.proofs.session.answer_rest.Goals as goal
use Rattle.op_session.proofs.SessionEnds.{rest_ends, text_rest, no_end_rest, ends_empty}

pub returns-in-Text : goal.returns-in-Text
returns-in-Text g c = λ traced a n before short end h.
    rest_ends traced a _ _ n before c.args.steps.now c.give_answer.new.steps c.args.cutter.now c.text.result.now
    c.args.feed.now c.give_answer.new.feed c.give_answer.result h end short
    (text_rest c.in-Text.field-0 c.in-Text.field-1 c.args.cutter.now c.text.result.now (sym c.in-Text.ensures) c.text.ensures)
    (c.give_answer.ensures traced _ h.feeds)

pub returns-in-NoEnd : goal.returns-in-NoEnd
returns-in-NoEnd g c = λ traced a n before short end h.
    rest_ends traced a _ _ n before c.args.steps.now c.give_answer-in-NoEnd.new.steps c.args.cutter.now c.from_first.result.now
    c.args.feed.now c.give_answer-in-NoEnd.new.feed c.give_answer-in-NoEnd.result h end short
    (no_end_rest c.args.cutter.now c.from_first.result.now (sym c.in-NoEnd.ensures)
    (c.from_first.ensures ∙ ap from_first c.bytes.ensures)) (c.give_answer-in-NoEnd.ensures traced _ h.feeds)

pub returns-in-Empty : goal.returns-in-Empty
returns-in-Empty g c = λ traced a n before short end h. ends_empty traced a _ n before _ _ _ h end short (sym c.in-Empty.ensures)
