-- What a desk shows at a moment, as far as a call of the program speaks of it.
use Rattle.std.specs.Prelude.{ℕ, Bool, Option}
use Rattle.op_desk.specs.declared.desk.Desk.{Ghosts}
use Rattle.op_desk.specs.declared.chan.Chan.{Chan}
use Rattle.op_desk.specs.Contents.{Known, Files}

-- what each channel has left, what was put on each, the files, and the faults so far
pub record Sight : Type 0 where
  pub left : Chan → Known
  pub written : Chan → Known
  pub shelf : Option Files
  pub steady : Bool
  pub reads : ℕ
  pub writes : ℕ

-- by what a kind of desk tells
abbrev pub sight : {D : Type 0} → Ghosts D → D → Sight
sight tells desk = record {
  left = tells.left desk;
  written = tells.written desk;
  shelf = tells.shelf desk;
  steady = tells.steady desk;
  reads = tells.read_faults desk;
  writes = tells.write_faults desk;
}
