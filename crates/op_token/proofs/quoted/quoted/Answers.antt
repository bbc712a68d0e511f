use Rattle.std.proofs.Common.{◌≡◌, ◌+◌, ◌∙◌, ap, sym, refl, Some, drop, get_or, arith, true}
use Rattle.op_token.specs.Set.{begins_with}
use Rattle.op_token.specs.Character.{char_at}
use Rattle.op_token.specs.Spelling.{quoted_from, escape_at}
use Rattle.op_token.proofs.ListRests.{take_rest}
use Rattle.op_token.proofs.CommentsAndQuotes.{walk_skips, walk_steps, quoted_quote, quoted_escape, quoted_char}
use Rattle.op_token.proofs.quoted.quoted.Goals as goal
use Rattle.op_token.proofs.quoted.quoted.Goals.{then-inside-gt0}
use Rattle.op_token.proofs.quoted.quoted.Goals.{else-inside-gt0+else-byte-eq10+then-byte-quote+else-not-begins_with}
use Rattle.op_token.proofs.quoted.quoted.Goals.{else-inside-gt0+else-byte-eq10+else-byte-quote+then-byte-eq92+in-Some}
use Rattle.op_token.proofs.quoted.quoted.Goals.{else-inside-gt0+else-byte-eq10+else-byte-quote+else-byte-eq92+in-Some-char_from}

pub loop-i-preserved : goal.loop-i-preserved
loop-i-preserved c =
    let at = c.args.start + 1 in
    let i = c.loop-i.i in
    let rest = c.args.rest.now in
    let F = quoted_from c.args.kind c.args.quote c.args.start in
    let b = get_or rest i 0 in
    let tail = drop (i + 1) rest in
    elim c.if-inside-gt0.branch [
      | then-inside-gt0 w ↦
          walk_skips F (λ a n b s. refl) at i rest c.loop-i-test.true c.loop-i.inside c.if-inside-gt0.inside w.if-inside-gt0.true
          w.inside-is
          ∙ c.loop-i.invariant
      | else-inside-gt0+else-byte-eq10+then-byte-quote+else-not-begins_with w ↦
          let z : 0 ≡ c.loop-i.inside = omega arith in
          let v : begins_with c.args.quote tail ≡ true =
          sym (ap (begins_with c.args.quote) (take_rest rest (i + 1)))
          ∙ sym w.begins_with.ensures.value
          ∙ w.if-not-begins_with.false in
          ap (λ n. F (at + (i + 1)) n tail) w.inside-is
          ∙ walk_steps F (λ a n b s. refl) at i rest c.loop-i-test.true 1
          (quoted_quote c.args.kind c.args.quote c.args.start (at + i) b tail w.if-byte-eq10.false w.if-byte-quote.true v)
          ∙ ap (λ n. F (at + i) n (drop i rest)) z
          ∙ c.loop-i.invariant
      | else-inside-gt0+else-byte-eq10+else-byte-quote+then-byte-eq92+in-Some w ↦
          let z : 0 ≡ c.loop-i.inside = omega arith in
          let v : escape_at tail ≡ Some w.in-Some.escape =
          sym (ap escape_at (take_rest rest (i + 1))) ∙ sym w.escape_from.ensures.value ∙ w.in-Some.is in
          ap (λ n. F (at + (i + 1)) n tail) w.inside-is
          ∙ walk_steps F (λ a n b s. refl) at i rest c.loop-i-test.true w.in-Some.escape.len
          (quoted_escape c.args.kind c.args.quote c.args.start (at + i) b tail w.in-Some.escape w.if-byte-eq10.false
          w.if-byte-quote.false w.if-byte-eq92.true v)
          ∙ ap (λ n. F (at + i) n (drop i rest)) z
          ∙ c.loop-i.invariant
      | else-inside-gt0+else-byte-eq10+else-byte-quote+else-byte-eq92+in-Some-char_from w ↦
          let z : 0 ≡ c.loop-i.inside = omega arith in
          let v : char_at b tail ≡ Some w.in-Some-char_from.character =
          sym (ap (char_at b) (take_rest rest (i + 1))) ∙ sym w.char_from.ensures.value ∙ w.in-Some-char_from.is in
          ap (λ n. F (at + (i + 1)) n tail) w.inside-is
          ∙ walk_steps F (λ a n b s. refl) at i rest c.loop-i-test.true w.in-Some-char_from.character.more
          (quoted_char c.args.kind c.args.quote c.args.start (at + i) b tail w.in-Some-char_from.character w.if-byte-eq10.false
          w.if-byte-quote.false w.if-byte-eq92.false v)
          ∙ ap (λ n. F (at + i) n (drop i rest)) z
          ∙ c.loop-i.invariant
    ]
