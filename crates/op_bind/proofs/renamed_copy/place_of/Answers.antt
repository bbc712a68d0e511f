use Rattle.std.proofs.Common.{◌≡◌, ◌∙◌}
use Rattle.op_bind.proofs.RenewedTerms.{place-absent}
use Rattle.op_bind.proofs.renamed_copy.place_of.Goals as goal

pub returns-in-None-clause-value : goal.returns-in-None-clause-value
returns-in-None-clause-value c = c.len.ensures.len ∙ place-absent c.args.v c.args.met.now.keys c.in-None.ensures.index
