use Rattle.std.proofs.Common.{ℕ, List, ◌∙◌, ap}
use Rattle.op_term.specs.Ops.{Table, with_meanings}
use Rattle.op_term.proofs.MeaningMaps.{table_of, inserted}
use Rattle.op_term.proofs.meanings.MeaningMap.put.Goals as goal

pub returns-clause-ok : goal.returns-clause-ok
returns-clause-ok c =
    ap table_of c.in_ok-insert.ensures.entries
    ∙ (inserted c.in_ok-owned.owned c.args.meanings c.self.inside.names.entries
    ∙ (ap (λ (n : List ℕ). with_meanings (table_of c.self.inside.names.entries) n c.args.meanings) c.in_ok-owned.ensures.ok
    ∙ ap (λ (t : Table). with_meanings t c.args.name.now c.args.meanings) c.self.view_is))
