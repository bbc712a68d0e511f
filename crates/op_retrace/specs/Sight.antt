-- What a desk shows at a moment, and what an advance leaves of it.
use Rattle.std.specs.Prelude.{◌≡◌, ℕ, Bool, IsTrue, Option, Result, IsErrOf}
use Rattle.op_base.specs.Rising.{Rose}
use Rattle.op_desk.specs.declared.desk.Desk.{Ghosts}
use Rattle.op_desk.specs.declared.chan.Chan.{Chan}
use Rattle.op_desk.specs.declared.chan.Chan.TheVariants.{Commands, Input, Output, Talk, Note}
use Rattle.op_desk.specs.Contents.{Known, Files}
use Rattle.op_desk.specs.Frame.{Same, SameBut}
use Rattle.op_retrace.specs.declared.fault.FeedFault.{FeedFault}
use Rattle.op_retrace.specs.declared.fault.FeedFault.TheVariants as fault

-- what each channel has left, what was put on each, the files, what the standard streams give, which channels are fresh, whether the
-- desk is steady, and the faults so far
pub record Sight : Type 0 where
  pub left : Chan → Known
  pub written : Chan → Known
  pub shelf : Option Files
  pub standard : Chan → Known
  pub fresh : Chan → Bool
  pub steady : Bool
  pub reads : ℕ
  pub writes : ℕ

-- by what a kind of desk tells
abbrev pub sight : {D : Type 0} → Ghosts D → D → Sight
sight tells desk = record {
  left = tells.left desk;
  written = tells.written desk;
  shelf = tells.shelf desk;
  standard = tells.standard desk;
  fresh = tells.fresh desk;
  steady = tells.steady desk;
  reads = tells.read_faults desk;
  writes = tells.write_faults desk;
}

-- of a desk's contents only what its Input has left and what its Output has got may have changed
pub record Apart (a b : Sight) : Type 0 where
  pub left : SameBut Input a.left b.left
  pub written : SameBut Output a.written b.written
  pub shelf : b.shelf ≡ a.shelf
  pub standard : Same a.standard b.standard
  pub commands : b.fresh Commands ≡ a.fresh Commands
  pub talk : b.fresh Talk ≡ a.fresh Talk
  pub note : b.fresh Note ≡ a.fresh Note

-- the counts of faults: each rises only at its own answer, which a steady desk doesn't give
pub record Counts {T : Type 0} (a b : Sight) (result : Result T FeedFault) : Type 0 where
  pub reads : (IsErrOf result fault.Read → ⊥) → b.reads ≡ a.reads
  pub read : IsErrOf result fault.Read → Rose a.reads b.reads
  pub writes : (IsErrOf result fault.Write → ⊥) → b.writes ≡ a.writes
  pub write : IsErrOf result fault.Write → Rose a.writes b.writes
  pub steady : IsTrue a.steady → IsTrue b.steady
  pub unread : IsTrue a.steady → IsErrOf result fault.Read → ⊥
  pub unwritten : IsTrue a.steady → IsErrOf result fault.Write → ⊥
