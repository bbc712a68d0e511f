-- A byte further in a comment and in quoted text.
use Rattle.std.proofs.Common.{◌≡◌, ℕ, suc, ◌+◌, ◌-◌, ◌<◌, Bool, true, false, ◌&&◌, List, ◌∷◌, Some, length, drop, get_or, refl, ap}
use Rattle.std.proofs.Common.{sym, ◌∙◌, cond, arith}
use Rattle.std.specs.Prelude.{◌==◌}
use Rattle.std.proofs.lemmas.Bool.{ne_eqb, eq-eqb}
use Rattle.op_token.specs.declared.character.Character.{Character}
use Rattle.op_token.specs.declared.escape.Escape.{Escape}
use Rattle.op_token.specs.declared.spelling.Spelling.{Spelling}
use Rattle.op_token.specs.declared.token.TokenKind.{TokenKind}
use Rattle.op_token.specs.Set.{begins_with}
use Rattle.op_token.specs.Character.{char_at}
use Rattle.op_token.specs.Spelling.{line_from, block_from, quoted_from, escape_at}
use Rattle.op_token.proofs.ListRests.{drop_one}

-- a walk over the bytes of a list, from an index
module _ (F : ℕ → ℕ → List ℕ → Spelling) (skips : (at n : ℕ) (b : ℕ) (s : List ℕ) → F at (suc n) (b ∷ s) ≡ F (suc at) n s)
    (at i : ℕ) (s : List ℕ) (within : i < length s) where
  pub walk_front : (n : ℕ) → F (at + i) n (drop i s) ≡ F (at + i) n (get_or s i 0 ∷ drop (i + 1) s)
  walk_front n = ap (F (at + i) n) (drop_one s i within)

  pub walk_skips : (n m : ℕ) → 0 < n → m ≡ n - 1 → F (at + (i + 1)) m (drop (i + 1) s) ≡ F (at + i) n (drop i s)
  walk_skips n m h e =
      let p : suc m ≡ n = omega arith in
      let q : at + (i + 1) ≡ suc (at + i) = omega arith in
      ap (λ a. F a m (drop (i + 1) s)) q
      ∙ sym (skips (at + i) m (get_or s i 0) (drop (i + 1) s))
      ∙ ap (λ k. F (at + i) k (get_or s i 0 ∷ drop (i + 1) s)) p
      ∙ sym (walk_front n)

  pub walk_steps : (m : ℕ) → F (at + i) 0 (get_or s i 0 ∷ drop (i + 1) s) ≡ F (suc (at + i)) m (drop (i + 1) s)
      → F (at + (i + 1)) m (drop (i + 1) s) ≡ F (at + i) 0 (drop i s)
  walk_steps m e =
      let q : at + (i + 1) ≡ suc (at + i) = omega arith in
      ap (λ a. F a m (drop (i + 1) s)) q ∙ sym e ∙ sym (walk_front 0)

-- a character in a comment
pub line_char : (at b : ℕ) (s : List ℕ) (c : Character) → (b ≡ 10 → ⊥) → char_at b s ≡ Some c
    → line_from at 0 (b ∷ s) ≡ line_from (suc at) c.more s
line_char at b s c h e = rw (ne_eqb b 10 h, e) refl

pub block_char : (start at b : ℕ) (s : List ℕ) (c : Character) → (b == 42 && begins_with 47 s) ≡ false → char_at b s ≡ Some c
    → block_from start at 0 (b ∷ s) ≡ block_from start (suc at) c.more s
block_char start at b s c h e = rw (h, e) refl

pub quoted_quote : (kind : TokenKind) (q start at b : ℕ) (s : List ℕ) → (b ≡ 10 → ⊥) → b ≡ q → begins_with q s ≡ true
    → quoted_from kind q start at 0 (b ∷ s) ≡ quoted_from kind q start (suc at) 1 s
quoted_quote kind q start at b s h e w = rw (ne_eqb b 10 h, eq-eqb b q e, w) refl

pub quoted_escape : (kind : TokenKind) (q start at b : ℕ) (s : List ℕ) (x : Escape) → (b ≡ 10 → ⊥) → (b ≡ q → ⊥) → b ≡ 92
    → escape_at s ≡ Some x → quoted_from kind q start at 0 (b ∷ s) ≡ quoted_from kind q start (suc at) x.len s
quoted_escape kind q start at b s x h n e w = rw (ne_eqb b 10 h, ne_eqb b q n, eq-eqb b 92 e, w) refl

pub quoted_char : (kind : TokenKind) (q start at b : ℕ) (s : List ℕ) (c : Character) → (b ≡ 10 → ⊥) → (b ≡ q → ⊥) → (b ≡ 92 → ⊥)
    → char_at b s ≡ Some c → quoted_from kind q start at 0 (b ∷ s) ≡ quoted_from kind q start (suc at) c.more s
quoted_char kind q start at b s c h n e w = rw (ne_eqb b 10 h, ne_eqb b q n, ne_eqb b 92 e, w) refl

pub and_false : (a b : Bool) → b ≡ false → (a && b) ≡ false
and_false true b h = h
and_false false b h = refl

pub not_true : (b : Bool) → cond b false true ≡ false → b ≡ true
not_true true h = refl
not_true false h = cc
