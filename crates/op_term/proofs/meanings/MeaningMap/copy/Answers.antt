use Rattle.std.proofs.Common.{◌∙◌}
use Rattle.op_term.proofs.MeaningMaps.{entries-copied}
use Rattle.op_term.proofs.meanings.MeaningMap.copy.Goals as goal

pub returns : goal.returns
returns c = entries-copied c.self.inside.names.entries c.in_ok-clone.field-0.entries c.in_ok-clone.ensures.cases ∙ c.self.view_is
