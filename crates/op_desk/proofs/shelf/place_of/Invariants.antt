use Rattle.std.proofs.Common.{◌≡◌, take, None}
use Rattle.op_desk.specs.Contents.{bytes_of}
use Rattle.op_desk.specs.inner.Entries.{files_of}
use Rattle.op_desk.proofs.shelf.place_of.Given as goal

-- no entry so far has the name
abbrev pub invariant-loop-i : goal.invariant-loop-i
invariant-loop-i l = bytes_of (files_of (take l.i l.entries)) l.name ≡ None
