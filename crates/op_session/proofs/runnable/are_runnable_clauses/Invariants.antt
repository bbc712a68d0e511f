use Rattle.std.proofs.Common.{◌≡◌, true, take}
use Rattle.std.specs.List.{list_all}
use Rattle.op_logic.specs.Names.{named}
use Rattle.op_bind.specs.declared.places.Clause.{Clause as NumberedClause}
use Rattle.op_session.specs.Runnable.{is_runnable}
use Rattle.op_session.proofs.runnable.are_runnable_clauses.Given as goal

abbrev pub invariant-clauses : goal.invariant-clauses
invariant-clauses l = list_all (λ (r : NumberedClause). is_runnable (named l.store.names r.body))
    (take l.i l.clauses) ≡ true
