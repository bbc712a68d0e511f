use Rattle.std.proofs.Common.{◌≡◌, ◌+◌, ◌∙◌, ap, sym, refl, Some, drop, get_or, arith}
use Rattle.op_token.specs.Character.{char_at}
use Rattle.op_token.specs.Spelling.{line_from}
use Rattle.op_token.proofs.ListRests.{take_rest}
use Rattle.op_token.proofs.CommentsAndQuotes.{walk_skips, walk_steps, line_char}
use Rattle.op_token.proofs.comment.line.Goals as goal
use Rattle.op_token.proofs.comment.line.Goals.{then-inside-gt0, else-inside-gt0+else-byte-eq10+in-Some}

pub loop-i-preserved : goal.loop-i-preserved
loop-i-preserved c =
    let at = c.args.at in
    let i = c.loop-i.i in
    let rest = c.args.rest.now in
    elim c.if-inside-gt0.branch [
      | then-inside-gt0 w ↦
          walk_skips line_from (λ a n b s. refl) at i rest c.loop-i-test.true c.loop-i.inside c.if-inside-gt0.inside
          w.if-inside-gt0.true w.inside-is
          ∙ c.loop-i.invariant
      | else-inside-gt0+else-byte-eq10+in-Some w ↦
          let z : 0 ≡ c.loop-i.inside = omega arith in
          let v : char_at (get_or rest i 0) (drop (i + 1) rest) ≡ Some w.in-Some.character =
          sym (ap (char_at (get_or rest i 0)) (take_rest rest (i + 1))) ∙ sym w.char_from.ensures.value ∙ w.in-Some.is in
          ap (λ n. line_from (at + (i + 1)) n (drop (i + 1) rest)) w.inside-is
          ∙ walk_steps line_from (λ a n b s. refl) at i rest c.loop-i-test.true w.in-Some.character.more
          (line_char (at + i) (get_or rest i 0) (drop (i + 1) rest) w.in-Some.character w.if-byte-eq10.false v)
          ∙ ap (λ n. line_from (at + i) n (drop i rest)) z
          ∙ c.loop-i.invariant
    ]
