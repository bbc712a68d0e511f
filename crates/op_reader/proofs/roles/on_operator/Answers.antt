use Rattle.op_reader.proofs.roles.on_operator.Goals as goal

pub returns-in-Comma-clause-below : goal.returns-in-Comma-clause-below
returns-in-Comma-clause-below c n w = c.on_comma.ensures.below n

pub returns-in-Bar-clause-below : goal.returns-in-Bar-clause-below
returns-in-Bar-clause-below c n w = c.on_bar.ensures.below n
