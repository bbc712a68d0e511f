use Rattle.std.proofs.Common.{◌-◌, ◌<◌, length, take, drop, length-drop, ◌∙◌, arith, rules}
use Rattle.std.proofs.lemmas.List.{take_rest}
use Rattle.op_desk.proofs.FrameLaws.{Same-then, SameBut-then, SameBut-from_Becomes, Becomes-at}
use Rattle.op_desk.proofs.BlockLaws.{Appends-more}
use Rattle.op_desk.proofs.whole.put_all.Goals as goal

pub loop-done-preserved : goal.loop-done-preserved
loop-done-preserved g c =
    let was = c.loop-done.invariant in
    let put = c.in_ok-done.ensures in
    let some = put.some in
    let bound = put.bound in
    record {
      within = search rules;
      front = Appends-more _ _ _ c.args.bytes.now _ _ was.front put.bytes;
      others = SameBut-then c.args.chan _ _ _ was.others put.others;
      same_left = Same-then was.same_left put.same_left;
      same_fresh = SameBut-then c.args.chan _ _ _ was.same_fresh (SameBut-from_Becomes c.args.chan _ _ _ put.used);
      used = λ h. Becomes-at c.args.chan _ _ _ put.used;
      unused = λ h.
          let room : 0 < length (take (length c.args.bytes.now - c.loop-done.done) (drop c.loop-done.done c.args.bytes.now)) =
          rw (take_rest, length-drop) (omega arith) in
          let more = some room in
          absurd (omega arith);
      same_shelf = put.same_shelf ∙ was.same_shelf;
      same_standard = Same-then was.same_standard put.same_standard;
      steady = λ h. put.steady.stays (was.steady h);
      reads = put.counts.other ∙ was.reads;
      writes = put.counts.ok ∙ was.writes;
    }
