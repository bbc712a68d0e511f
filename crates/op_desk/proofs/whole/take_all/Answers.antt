use Rattle.std.proofs.Common.{◌≡◌, ◌++◌, ◌∙◌, arith, take}
use Rattle.op_desk.proofs.FrameLaws.{Same-then}
use Rattle.op_desk.proofs.BlockLaws.{Begins-step, grown_length, at_buffer}
use Rattle.op_desk.proofs.whole.take_all.Goals as goal

pub loop-bytes-preserved : goal.loop-bytes-preserved
loop-bytes-preserved g c =
    let was = c.loop-bytes.invariant in
    let got = c.in_ok-count.ensures in
    let grown : c.append.new.self ≡ c.loop-bytes.bytes ++ take c.in_ok-count.count c.deref.result.now = c.in_ok-append.ensures.ok in
    record {
      short =
          let most = grown_length _ _ _ _ grown in
          omega (arith, c.len-in-loop-bytes.ensures, c.if-limit-len.false, was.short);
      room = was.room;
      begins = Begins-step _ _ _ _ c.fetch_block.new.into _ _ c.len.result _ was.same_shelf c.len.ensures got.bound.0 was.begins got.bytes
          (at_buffer _ _ _ _ c.deref.ensures.value (c.fetch_block.auto.into ∙ c.deref_mut.ensures.len)) grown;
      same_left = Same-then was.same_left got.same_left;
      same_written = Same-then was.same_written got.same_written;
      same_fresh = Same-then was.same_fresh got.same_fresh;
      same_shelf = got.same_shelf ∙ was.same_shelf;
      same_standard = Same-then was.same_standard got.same_standard;
      steady = λ h. got.steady.stays (was.steady h);
      reads = got.counts.ok ∙ was.reads;
      writes = got.counts.other ∙ was.writes;
    }
