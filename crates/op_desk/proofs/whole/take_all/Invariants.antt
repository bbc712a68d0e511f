use Rattle.std.proofs.Common.{◌≡◌, ◌≤◌, ◌<◌, ◌-◌, IsTrue, length, vec_len}
use Rattle.op_desk.specs.Frame.{Same}
use Rattle.op_desk.proofs.BlockLaws.{Begins}
use Rattle.op_desk.proofs.whole.take_all.Given as goal

abbrev pub invariant-loop-bytes : goal.invariant-loop-bytes
invariant-loop-bytes g l =
    let desk = g.D.Desk in
    record {
      short : length l.bytes ≤ l.limit;
      room : 0 < vec_len l.block;
      begins : Begins (desk.shelf l.fn.desk) l.name l.bytes;
      same_left : Same (desk.left l.fn.desk) (desk.left l.desk);
      same_written : Same (desk.written l.fn.desk) (desk.written l.desk);
      same_fresh : Same (desk.fresh l.fn.desk) (desk.fresh l.desk);
      same_shelf : desk.shelf l.desk ≡ desk.shelf l.fn.desk;
      same_standard : Same (desk.standard l.fn.desk) (desk.standard l.desk);
      steady : IsTrue (desk.steady l.fn.desk) → IsTrue (desk.steady l.desk);
      reads : desk.read_faults l.desk ≡ desk.read_faults l.fn.desk;
      writes : desk.write_faults l.desk ≡ desk.write_faults l.fn.desk;
    }

abbrev pub decreases-loop-bytes : goal.decreases-loop-bytes
decreases-loop-bytes g l = l.limit - length l.bytes
