-- What is known of a desk over the system.
use Rattle.std.specs.Prelude.{ℕ, Bool}
use Rattle.op_desk.specs.declared.chan.Chan.{Chan}
use Rattle.op_desk.specs.declared.file_desk.FileDesk.{FileDesk}
use Rattle.op_desk.specs.Channels.{at}

-- Whether each channel was not yet used.
abbrev pub unused_of : FileDesk → Chan → Bool
unused_of desk = at desk.fresh

-- How many faults of reading and of writing there were.
abbrev pub reading_faults_of : FileDesk → ℕ
reading_faults_of desk = desk.read_faults

abbrev pub writing_faults_of : FileDesk → ℕ
writing_faults_of desk = desk.write_faults
