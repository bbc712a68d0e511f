use Rattle.std.proofs.Common.{◌≡◌, ◌+◌, ◌∙◌, ap, sym, refl, Some, drop, get_or, arith, false, ◌&&◌}
use Rattle.std.specs.Prelude.{◌==◌}
use Rattle.std.proofs.lemmas.Bool.{ne_eqb}
use Rattle.op_token.specs.Set.{begins_with}
use Rattle.op_token.specs.Character.{char_at}
use Rattle.op_token.specs.Spelling.{block_from}
use Rattle.op_token.proofs.ListRests.{take_rest}
use Rattle.op_token.proofs.CommentsAndQuotes.{walk_skips, walk_steps, block_char, and_false}
use Rattle.op_token.proofs.comment.block.Goals as goal
use Rattle.op_token.proofs.comment.block.Goals.{then-inside-gt0, else-inside-gt0+else-byte-eq42+in-Some}
use Rattle.op_token.proofs.comment.block.Goals.{else-byte-eq42-via-then-byte-eq42+else-begins_with}
use Rattle.op_token.proofs.comment.block.Goals.{else-byte-eq42-via-else-byte-eq42}

pub loop-i-preserved : goal.loop-i-preserved
loop-i-preserved c =
    let at = c.args.start + 2 in
    let i = c.loop-i.i in
    let rest = c.args.rest.now in
    elim c.if-inside-gt0.branch [
      | then-inside-gt0 w ↦
          walk_skips (block_from c.args.start) (λ a n b s. refl) at i rest c.loop-i-test.true c.loop-i.inside c.if-inside-gt0.inside
          w.if-inside-gt0.true w.inside-is
          ∙ c.loop-i.invariant
      | else-inside-gt0+else-byte-eq42+in-Some w ↦
          let z : 0 ≡ c.loop-i.inside = omega arith in
          let v : char_at (get_or rest i 0) (drop (i + 1) rest) ≡ Some w.in-Some.character =
          sym (ap (char_at (get_or rest i 0)) (take_rest rest (i + 1))) ∙ sym w.char_from.ensures.value ∙ w.in-Some.is in
          let t : (get_or rest i 0 == 42 && begins_with 47 (drop (i + 1) rest)) ≡ false =
          elim w.else-byte-eq42.branch [
            | else-byte-eq42-via-then-byte-eq42+else-begins_with u ↦
                and_false (get_or rest i 0 == 42) (begins_with 47 (drop (i + 1) rest))
                (sym (ap (begins_with 47) (take_rest rest (i + 1))) ∙ sym u.begins_with.ensures.value ∙ u.if-begins_with.false)
            | else-byte-eq42-via-else-byte-eq42 u ↦
                ap (λ b. b && begins_with 47 (drop (i + 1) rest)) (ne_eqb (get_or rest i 0) 42 u.if-byte-eq42.false)
          ] in
          ap (λ n. block_from c.args.start (at + (i + 1)) n (drop (i + 1) rest)) w.inside-is
          ∙ walk_steps (block_from c.args.start) (λ a n b s. refl) at i rest c.loop-i-test.true w.in-Some.character.more
          (block_char c.args.start (at + i) (get_or rest i 0) (drop (i + 1) rest) w.in-Some.character t v)
          ∙ ap (λ n. block_from c.args.start (at + i) n (drop i rest)) z
          ∙ c.loop-i.invariant
    ]
