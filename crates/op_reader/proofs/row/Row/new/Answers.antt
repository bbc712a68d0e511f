use Rattle.std.proofs.Common.{List, [], None, false, sym, subst}
use Rattle.op_reader.specs.inner.RowState.{Stands}
use Rattle.op_reader.specs.declared.row.Branch.{Branch}
use Rattle.op_reader.proofs.RowStates.{no_members_stand}
use Rattle.op_reader.proofs.row.Row.new.Goals as goal

pub returns-clause-stands : goal.returns-clause-stands
returns-clause-stands c = λ ts.
    subst (λ (bs : List Branch). Stands ts [] (record { branches = bs; last = None; is_refused = false }))
    (sym c.new.ensures.items) (no_members_stand ts)
