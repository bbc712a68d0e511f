-- Which answers a call may give, and what they do to the counts of faults.
use Rattle.std.specs.Prelude.{◌≡◌, ℕ, ◌-◌, ◌^◌, ◌≤◌, Bool, IsTrue, Result, OnOk, IsErrOf, if◌then◌else◌}
use Rattle.op_base.specs.Rising.{Rose}
use Rattle.op_desk.specs.Channel.{is_read}
use Rattle.op_desk.specs.declared.chan.Chan.{Chan}
use Rattle.op_desk.specs.declared.fault.DeskFault.{DeskFault}
use Rattle.op_desk.specs.declared.fault.DeskFault.TheVariants as desk_fault
use Rattle.op_desk.specs.declared.fault.TakeFault.{TakeFault}
use Rattle.op_desk.specs.declared.fault.TakeFault.TheVariants as take_fault

-- A call answers Failed only where its own count of faults rose, each other answer leaves that count, and the other
-- count stays. A count that has reached its type's end stays there.
pub record Counts {T : Type 0} (before now other_before other_now : ℕ) (result : Result T DeskFault) : Type 0 where
  pub later : before ≤ now
  pub ok : OnOk result (now ≡ before)
  pub memory : IsErrOf result desk_fault.Memory → now ≡ before
  pub failed : IsErrOf result desk_fault.Failed → Rose before now
  pub stays : 2 ^ 64 - 1 ≤ before → now ≡ before
  pub other : other_now ≡ other_before

-- The same of a call that reads a whole file.
pub record TakeCounts {T : Type 0} (before now other_before other_now : ℕ) (result : Result T TakeFault) : Type 0 where
  pub later : before ≤ now
  pub ok : OnOk result (now ≡ before)
  pub memory : IsErrOf result take_fault.Memory → now ≡ before
  pub too_long : IsErrOf result take_fault.TooLong → now ≡ before
  pub failed : IsErrOf result take_fault.Failed → Rose before now
  pub stays : 2 ^ 64 - 1 ≤ before → now ≡ before
  pub other : other_now ≡ other_before

-- A steady desk stays steady, and answers Failed only where the name is missing.
pub record Steady {T : Type 0} (was is : Bool) (missing : Type 0) (result : Result T DeskFault) : Type 0 where
  pub stays : IsTrue was → IsTrue is
  pub only_missing : IsTrue was → IsErrOf result desk_fault.Failed → missing

-- The same of a call that reads a whole file.
pub record TakeSteady {T : Type 0} (was is : Bool) (missing : Type 0) (result : Result T TakeFault) : Type 0 where
  pub stays : IsTrue was → IsTrue is
  pub only_missing : IsTrue was → IsErrOf result take_fault.Failed → missing

-- The count that a call on this channel may change, of the counts of reading and writing.
abbrev pub own_count : Chan → ℕ → ℕ → ℕ
own_count chan reads writes = if is_read chan then reads else writes

-- The other one.
abbrev pub other_count : Chan → ℕ → ℕ → ℕ
other_count chan reads writes = if is_read chan then writes else reads
