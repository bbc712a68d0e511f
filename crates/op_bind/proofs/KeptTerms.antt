-- What was made stays, where more is made behind it.
use Rattle.std.proofs.Common.{◌≡◌, ℕ, zero, suc, ◌<◌, ◌≤◌, List, [], ◌∷◌, ◌++◌, length, get_or, take, pos, sym, ◌∙◌, ap, refl, arith}
use Rattle.std.proofs.Common.{Result, Ok, Err, OnOk, OnErr}
use Rattle.std.proofs.lemmas.List.{length-take, get_or-take, append-nil}
use Rattle.std.proofs.Math.Seq.{take-append_seam}
use Rattle.op_logic.specs.Term.{Term, int}
use Rattle.op_term.specs.Places.{term_at}

pub below-more : (old new : List (Term ℕ)) → take (length old) new ≡ old → length old ≤ length new
below-more old new e = omega (arith, ap length e, length-take (length old) new)

pub term-more : (old new : List (Term ℕ)) (k : ℕ) → take (length old) new ≡ old → k < length old → term_at new k ≡ term_at old k
term-more old new k e h = sym (get_or-take (length old) new k (int (pos 0)) h) ∙ ap (λ (ts : List (Term ℕ)). get_or ts k (int (pos 0))) e

pub kept-push : (old new : List (Term ℕ)) (t : Term ℕ) → new ≡ old ++ t ∷ [] → take (length old) new ≡ old
kept-push old new t e = ap (take (length old)) e ∙ take-append_seam old (t ∷ [])

pub kept-same : (old new : List (Term ℕ)) → new ≡ old → take (length old) new ≡ old
kept-same old new e = ap (take (length old)) e ∙ (ap (take (length old)) (sym (append-nil old)) ∙ take-append_seam old [])

pub kept-made : {A E : Type 0} (old new : List (Term ℕ)) (t : Term ℕ) (r : Result A E) → OnOk r (new ≡ old ++ t ∷ [])
    → OnErr r (new ≡ old) → take (length old) new ≡ old
kept-made old new t (Ok a) e f = kept-push old new t e
kept-made old new t (Err x) e f = kept-same old new f

take-twice : (old mid new : List (Term ℕ)) → length old ≤ length mid → take (length mid) new ≡ mid → take (length old) mid ≡ old
    → take (length old) new ≡ old
take-twice old mid new l e f = same-take (length old) (length mid) new l ∙ (ap (take (length old)) e ∙ f)
  where
    same-take : (n m : ℕ) (xs : List (Term ℕ)) → n ≤ m → take n xs ≡ take n (take m xs)
    same-take zero m xs h = refl
    same-take (suc n) zero xs h = absurd (omega arith)
    same-take (suc n) (suc m) [] h = refl
    same-take (suc n) (suc m) (x ∷ xs) h = ap (λ ys. x ∷ ys) (same-take n m xs (omega arith))

pub kept-twice : (old mid new : List (Term ℕ)) → take (length mid) new ≡ mid → take (length old) mid ≡ old → take (length old) new ≡ old
kept-twice old mid new e f = take-twice old mid new (below-more old mid f) e f
