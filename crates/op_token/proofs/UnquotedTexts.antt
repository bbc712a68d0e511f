-- A byte further in quoted text that is read.
use Rattle.std.proofs.Common.{◌≡◌, ℕ, suc, ◌+◌, ◌-◌, ◌<◌, ◌≤◌, List, ◌∷◌, ◌++◌, length, take, drop, get_or, ap, sym, ◌∙◌, subst}
use Rattle.std.proofs.Common.{arith, append_assoc, length-take}
use Rattle.std.specs.Prelude.{Some, None}
use Rattle.std.proofs.lemmas.List.{append-nil, take-append-le}
use Rattle.op_token.specs.Tokens.{text_from, Continues}
use Rattle.op_token.proofs.ListRests.{drop_one, take_rest}

pub text_skips : (q i n m : ℕ) (s : List ℕ) → i < length s → 0 < n → m ≡ n - 1 → text_from q m (drop (i + 1) s) ≡ text_from q n (drop i s)
text_skips q i n m s h p e =
    let k : suc m ≡ n = omega arith in
    ap (λ k. text_from q k (get_or s i 0 ∷ drop (i + 1) s)) k ∙ ap (text_from q n) (sym (drop_one s i h))

module _ (q i : ℕ) (s before after out : List ℕ) (h : i < length s) (so_far : before ++ text_from q 0 (drop i s) ≡ out) where
  pub text_ends : Continues q (get_or s i 0) (take (length s - (i + 1)) (drop (i + 1) s)) before after None → after ≡ out
  text_ends c =
      let d : Continues q (get_or s i 0) (drop (i + 1) s) before after None =
      subst (λ t. Continues q (get_or s i 0) t before after None) (take_rest s (i + 1)) c in
      d.1 ∙ sym (append-nil before) ∙ ap (λ t. before ++ t) (sym d.0 ∙ ap (text_from q 0) (sym (drop_one s i h))) ∙ so_far

  pub text_goes_on : (n : ℕ) → Continues q (get_or s i 0) (take (length s - (i + 1)) (drop (i + 1) s)) before after (Some n)
      → after ++ text_from q n (drop (i + 1) s) ≡ out
  text_goes_on n c =
      let d : Continues q (get_or s i 0) (drop (i + 1) s) before after (Some n) =
      subst (λ t. Continues q (get_or s i 0) t before after (Some n)) (take_rest s (i + 1)) c in
      ap (λ a. a ++ text_from q n (drop (i + 1) s)) d.1
      ∙ append_assoc before d.0 (text_from q n (drop (i + 1) s))
      ∙ ap (λ t. before ++ t) (sym d.2 ∙ ap (text_from q 0) (sym (drop_one s i h)))
      ∙ so_far

  pub text_starts : (n : ℕ) → Continues q (get_or s i 0) (take (length s - (i + 1)) (drop (i + 1) s)) before after (Some n)
      → (first : List ℕ) → take (length first) before ≡ first → take (length first) after ≡ first
  text_starts n c first e =
      let l : length first ≤ length before = omega (arith, ap length (sym e), length-take (length first) before) in
      ap (take (length first)) c.1 ∙ take-append-le (length first) before c.0 l ∙ e
