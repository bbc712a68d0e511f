-- Layout and comments are passed over.
use Rattle.std.proofs.Common.{◌≡◌, ℕ, suc, ◌+◌, Bool, List, [], ◌∷◌, ◌++◌, length, refl, ap, ◌∙◌, arith, append_assoc, append-nil}
use Rattle.std.specs.Prelude.{codes}
use Rattle.op_token.specs.declared.class.Class.TheVariants.{Layout}
use Rattle.op_token.specs.declared.spelling.Spelling.TheVariants.{Gap}
use Rattle.op_token.specs.Class.{class_of}
use Rattle.op_token.specs.Spelling.{spelled, begins}
use Rattle.op_token.specs.Spellings.{layout_characters}
use Rattle.op_token.specs.SpellingFaults.{LineUpTo, BlockUpTo, IsGap, layout, line_comment, last_comment, block_comment}
use Rattle.op_token.proofs.CharacterClasses.{same_on}
use Rattle.op_token.proofs.SpellingCompleteness.{length_both}
use Rattle.op_token.proofs.FaultCompleteness.{line_reach, block_reach}

gap_at : {i j : ℕ} → i ≡ j → Gap i ≡ Gap j
gap_at e = ap (λ i. Gap i) e

pub gap_passed : (at : ℕ) (minus : Bool) (s behind : List ℕ) → IsGap s behind → begins at minus (s ++ behind) ≡ Gap (at + length s)
gap_passed at minus s behind (layout b h e) =
    let l : length s ≡ 1 = ap length e in
    let m : at + 1 ≡ at + length s = omega arith in
    ap (λ t. begins at minus (t ++ behind)) e
    ∙ ap (λ k. spelled k at minus b behind) (same_on class_of (λ b. Layout) layout_characters b refl h)
    ∙ gap_at m
gap_passed at minus s behind (line_comment w) =
    let u : LineUpTo (s ++ behind) (10 ∷ behind) =
    record {
      body = w.body;
      are = w.are;
      open_still = w.open_still;
      split = ap (λ t. t ++ behind) w.split ∙ ap (λ t. 37 ∷ t) (append_assoc w.body (10 ∷ []) behind);
    } in
    let l : length s ≡ suc (length (w.body ++ 10 ∷ [])) = ap length w.split in
    let n : length (w.body ++ 10 ∷ []) ≡ length w.body + 1 = length_both w.body (10 ∷ []) in
    let m : suc (at + 1 + length w.body) ≡ at + length s = omega arith in
    line_reach at minus (s ++ behind) (10 ∷ behind) u ∙ gap_at m
gap_passed at minus s behind (last_comment w e) =
    let l : length s ≡ suc (length (w.body ++ [])) = ap length w.split in
    let n : length (w.body ++ []) ≡ length w.body = ap length (append-nil w.body) in
    let m : at + 1 + length w.body ≡ at + length s = omega arith in
    ap (λ t. begins at minus (s ++ t)) e ∙ ap (begins at minus) (append-nil s) ∙ line_reach at minus s [] w ∙ gap_at m
gap_passed at minus s behind (block_comment w) =
    let u : BlockUpTo (s ++ behind) (42 ∷ 47 ∷ behind) =
    record {
      body = w.body;
      are = w.are;
      open_still = w.open_still;
      split = ap (λ t. t ++ behind) w.split ∙ ap (λ t. 47 ∷ 42 ∷ t) (append_assoc w.body (codes "*/") behind);
    } in
    let l : length s ≡ suc (suc (length (w.body ++ codes "*/"))) = ap length w.split in
    let n : length (w.body ++ codes "*/") ≡ length w.body + 2 = length_both w.body (codes "*/") in
    let m : suc (suc (at + 2 + length w.body)) ≡ at + length s = omega arith in
    block_reach at minus (s ++ behind) (42 ∷ 47 ∷ behind) u refl ∙ gap_at m
