use Rattle.std.proofs.Common.{◌≡◌, drop}
use Rattle.op_reader.specs.inner.RoleLists.{first_excess}
use Rattle.op_reader.proofs.roles.first_excess.Given as goal

abbrev pub invariant-loop-role : goal.invariant-loop-role
invariant-loop-role l = first_excess (drop l.role-index l.roles) ≡ first_excess l.roles
