use Rattle.std.proofs.Common.{◌≡◌, ◌++◌, take}
use Rattle.op_store.proofs.SharedClauses.{values}
use Rattle.op_store.proofs.procedures.snapshot.share.Given as goal

abbrev pub invariant-share : goal.invariant-share
invariant-share l = values l.all.items ≡ values l.initial.all.items ++ values (take l.clause-index l.list)
