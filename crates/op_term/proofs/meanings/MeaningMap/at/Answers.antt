use Rattle.std.proofs.Common.{◌∙◌, ap, unwrap_or}
use Rattle.op_term.specs.Ops.{Table, meanings_in, no_meaning}
use Rattle.op_term.proofs.MeaningMaps.{meanings-lookup}
use Rattle.op_term.proofs.meanings.MeaningMap.at.Goals as goal

pub returns-in-Some : goal.returns-in-Some
returns-in-Some c = ap (λ o. unwrap_or o no_meaning) c.in-Some.ensures.value
    ∙ (meanings-lookup c.args.name.now c.self.inside.names.entries ∙ ap (λ (t : Table). meanings_in t c.args.name.now) c.self.view_is)

pub returns-in-None : goal.returns-in-None
returns-in-None c = ap (λ o. unwrap_or o no_meaning) c.in-None.ensures.value
    ∙ (meanings-lookup c.args.name.now c.self.inside.names.entries ∙ ap (λ (t : Table). meanings_in t c.args.name.now) c.self.view_is)
