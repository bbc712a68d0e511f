-- The front of what is left of a list.
use Rattle.std.proofs.Common.{◌≡◌, ℕ, zero, suc, ◌+◌, ◌-◌, ◌<◌, List, [], ◌∷◌, length, take, drop, get_or, refl, ap, arith, add-one}
use Rattle.std.proofs.Common.{drop-cons}

pub drop_one : (s : List ℕ) (i : ℕ) → i < length s → drop i s ≡ get_or s i 0 ∷ drop (i + 1) s
drop_one s i h = rw add-one (drop-cons s i 0 h)

pub drop_all : (s : List ℕ) → drop (length s) s ≡ []
drop_all [] = refl
drop_all (b ∷ s) = drop_all s

-- a part to the end
pub take_rest : (s : List ℕ) (n : ℕ) → take (length s - n) (drop n s) ≡ drop n s
take_rest [] zero = refl
take_rest [] (suc n) = take_nil (0 - suc n)
  where
    take_nil : (n : ℕ) → take {A = ℕ} n [] ≡ []
    take_nil zero = refl
    take_nil (suc n) = refl
take_rest (b ∷ s) zero = let e : length (b ∷ s) - 0 ≡ suc (length s) = omega arith in rw (e, take_all s) refl
  where
    take_all : (s : List ℕ) → take (length s) s ≡ s
    take_all [] = refl
    take_all (b ∷ s) = ap (λ t. b ∷ t) (take_all s)
take_rest (b ∷ s) (suc n) = let e : length (b ∷ s) - suc n ≡ length s - n = omega arith in rw e (take_rest s n)
