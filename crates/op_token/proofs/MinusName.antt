-- The name - is told by its kind, its first byte and its length.
use Rattle.std.proofs.Common.{◌≡◌, ◌↔◌, ℕ, zero, suc, ◌+◌, ◌-◌, ◌<◌, ◌≤◌, true, List, [], ◌∷◌, length, take, drop, get_or}
use Rattle.std.proofs.Common.{refl, ap, sym, ◌∙◌, subst, arith, length-drop, IsTrue}
use Rattle.std.specs.Prelude.{◌==◌, codes, slice_index, slice_range}
use Rattle.std.proofs.lemmas.Bool.{eqb-true, eq-eqb, and_from}
use Rattle.op_token.specs.declared.token.Token.{Token}
use Rattle.op_token.specs.declared.token.TokenKind.{TokenKind}
use Rattle.op_token.specs.declared.token.TokenKind.TheVariants.{Name}
use Rattle.op_token.specs.Tokens.{is_minus}
use Rattle.op_token.proofs.ListRests.{drop_one}
use Rattle.op_token.proofs.SpellingEnds.{and_left, and_right}
use Rattle.op_token.proofs.SpellingSoundness.{first_same, rest_same}

-- a name of one byte, which is -
abbrev IsMinus : TokenKind → ℕ → ℕ → Type 0
IsMinus kind b n = (kind ≡ Name) × (b ≡ 45) × (n ≡ 1)

minus_told : (kind : TokenKind) (b n : ℕ) → is_minus kind b n ≡ true → IsMinus kind b n
minus_told Name b n h = (refl, eqb-true b 45 (and_left (b == 45) (n == 1) h), eqb-true n 1 (and_right (b == 45) (n == 1) h))
minus_told kind b n h = cc

tells_minus : (kind : TokenKind) (b n : ℕ) → IsMinus kind b n → is_minus kind b n ≡ true
tells_minus kind b n w =
    subst (λ k. is_minus k b n ≡ true) (sym w.0) (and_from (b == 45) (n == 1) (eq-eqb b 45 w.1) (eq-eqb n 1 w.2))

-- a list of one byte or more, of which some are taken
taken : (b n : ℕ) (s : List ℕ) → 0 < n → n ≤ suc (length s) → take n (b ∷ s) ≡ 45 ∷ [] → (b ≡ 45) × (n ≡ 1)
taken b zero s l h e = absurd (omega arith)
taken b (suc zero) s l h e = (first_same e, refl)
taken b (suc (suc n)) [] l h e = absurd (omega arith)
taken b (suc (suc n)) (c ∷ s) l h e = let q : c ∷ take n s ≡ [] = rest_same e in cc

pub minus_is : (text : List ℕ) (t : Token) → t.from < t.to → t.to ≤ length text
    → (IsTrue (is_minus t.kind (slice_index text t.from) (t.to - t.from))
    ↔ ((t.kind ≡ Name) × (slice_range text t.from t.to ≡ codes "-")))
minus_is text t l h =
    let b = get_or text t.from 0 in
    let n = t.to - t.from in
    let s = drop (t.from + 1) text in
    let d : drop t.from text ≡ b ∷ s = drop_one text t.from (omega arith) in
    let m : length (drop (t.from + 1) text) ≡ length text - (t.from + 1) = length-drop (t.from + 1) text in (
      (λ e.
          let w = minus_told t.kind b n e in
          (w.0, ap (take n) d ∙ ap (λ i. take i (b ∷ s)) w.2 ∙ ap (λ i. i ∷ []) w.1)),
      (λ w.
          let k = taken b n s (omega arith) (omega arith) (sym (ap (take n) d) ∙ w.1) in
          tells_minus t.kind b n (w.0, k.0, k.1)),
    )
