-- The pairs of two lists, pushed from the last one on.
use Rattle.std.proofs.Common.{◌≡◌, ℕ, zero, suc, ◌+◌, ◌<◌, ◌≤◌, List, [], ◌∷◌, ◌++◌, length, get_or, drop, reverse, sym, ◌∙◌, ap, refl}
use Rattle.std.proofs.Common.{arith}
use Rattle.op_bind.specs.inner.Pairs.{zip}
use Rattle.op_bind.proofs.BindingsInvariant.{reverse-push}

zip-drop : (n : ℕ) (xs ys : List ℕ) → n < length xs → n < length ys
    → zip (drop n xs) (drop n ys) ≡ (get_or xs n 0, get_or ys n 0) ∷ zip (drop (suc n) xs) (drop (suc n) ys)
zip-drop n [] ys h k = absurd (omega arith)
zip-drop n (x ∷ xs) [] h k = absurd (omega arith)
zip-drop zero (x ∷ xs) (y ∷ ys) h k = refl
zip-drop (suc n) (x ∷ xs) (y ∷ ys) h k = zip-drop n xs ys (omega arith) (omega arith)

pub zip-none : (n : ℕ) (xs ys : List ℕ) → length xs ≤ n → zip (drop n xs) (drop n ys) ≡ []
zip-none zero [] ys h = refl
zip-none (suc n) [] ys h = refl
zip-none zero (x ∷ xs) ys h = absurd (omega arith)
zip-none (suc n) (x ∷ xs) [] h = zip-empty (drop n xs)
  where
    zip-empty : (zs : List ℕ) → zip zs [] ≡ []
    zip-empty [] = refl
    zip-empty (z ∷ zs) = refl
zip-none (suc n) (x ∷ xs) (y ∷ ys) h = zip-none n xs ys (omega arith)

-- one more pair is on top
pub zip-next : (n m : ℕ) (xs ys : List ℕ) (todo more old : List (ℕ × ℕ)) → m ≡ n + 1 → n < length xs → length xs ≡ length ys
    → reverse todo ≡ zip (drop m xs) (drop m ys) ++ old → more ≡ todo ++ (get_or xs n 0, get_or ys n 0) ∷ []
    → reverse more ≡ zip (drop n xs) (drop n ys) ++ old
zip-next n m xs ys todo more old e h l t q =
    let p : ℕ × ℕ = (get_or xs n 0, get_or ys n 0) in
    let s : m ≡ suc n = omega arith in
    let z = zip-drop n xs ys h (omega arith) in
    ap reverse q ∙ (reverse-push todo p ∙ (ap (λ us. p ∷ us) (t ∙ ap (λ (k : ℕ). zip (drop k xs) (drop k ys) ++ old) s)
    ∙ ap (λ us. us ++ old) (sym z)))
