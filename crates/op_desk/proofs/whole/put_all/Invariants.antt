use Rattle.std.proofs.Common.{◌≡◌, ◌<◌, ◌≤◌, ◌-◌, false, IsTrue, length, take}
use Rattle.std.specs.Io.KnownBytes.{Appends}
use Rattle.op_desk.specs.Frame.{Same, SameBut}
use Rattle.op_desk.proofs.whole.put_all.Given as goal

abbrev pub invariant-loop-done : goal.invariant-loop-done
invariant-loop-done g l =
    let desk = g.D.Desk in
    record {
      within : l.done ≤ length l.bytes;
      front : Appends (desk.written l.fn.desk l.chan) (desk.written l.desk l.chan) (take l.done l.bytes);
      others : SameBut l.chan (desk.written l.fn.desk) (desk.written l.desk);
      same_left : Same (desk.left l.fn.desk) (desk.left l.desk);
      same_fresh : SameBut l.chan (desk.fresh l.fn.desk) (desk.fresh l.desk);
      used : 0 < l.done → desk.fresh l.desk l.chan ≡ false;
      unused : l.done ≡ 0 → desk.fresh l.desk l.chan ≡ desk.fresh l.fn.desk l.chan;
      same_shelf : desk.shelf l.desk ≡ desk.shelf l.fn.desk;
      same_standard : Same (desk.standard l.fn.desk) (desk.standard l.desk);
      steady : IsTrue (desk.steady l.fn.desk) → IsTrue (desk.steady l.desk);
      reads : desk.read_faults l.desk ≡ desk.read_faults l.fn.desk;
      writes : desk.write_faults l.desk ≡ desk.write_faults l.fn.desk;
    }

abbrev pub decreases-loop-done : goal.decreases-loop-done
decreases-loop-done g l = length l.bytes - l.done
