-- What a list of files has after a name was given bytes.
use Rattle.std.proofs.Common.{◌≡◌, ℕ, Bool, true, false, cond, List, [], ◌∷◌, Some, None, Option, bytes_eq, refl, sym, ap, ◌∙◌}
use Rattle.std.proofs.lemmas.Slice.Eq.{bytes_eq-Decides}
use Rattle.op_desk.specs.Contents.{Files, bytes_of, with_file, IsNamedOnce}

-- where a first choice gives nothing, the test failed and the second gives nothing
pub not_chosen : {A : Type 0} (b : Bool) (x : A) (o : Option A) → cond b (Some x) o ≡ None → (b ≡ false) × (o ≡ None)
not_chosen true x o h = (cc, cc)
not_chosen false x o h = (refl, h)

pub bytes_eq-same : (a b : List ℕ) → a ≡ b → bytes_eq a b ≡ true
bytes_eq-same a b h = (bytes_eq-Decides a b).1 h

pub same_from_bytes_eq : (a b : List ℕ) → bytes_eq a b ≡ true → a ≡ b
same_from_bytes_eq a b h = (bytes_eq-Decides a b).0 h

is_false : (b : Bool) → (b ≡ true → ⊥) → b ≡ false
is_false true h = absurd (h refl)
is_false false h = refl

true_or_false : true ≡ false → ⊥
true_or_false h = cc

bytes_eq-swapped : (a b : List ℕ) → bytes_eq a b ≡ false → bytes_eq b a ≡ false
bytes_eq-swapped a b h = is_false (bytes_eq b a) (λ e. true_or_false (sym (bytes_eq-same a b (sym (same_from_bytes_eq b a e))) ∙ h))

-- two choices that do not both apply may change places
exchange : {A : Type 0} (s t : Bool) (x y o : A) → (s ≡ true → t ≡ true → ⊥) → cond s x (cond t y o) ≡ cond t y (cond s x o)
exchange true true x y o h = absurd (h refl refl)
exchange true false x y o h = refl
exchange false true x y o h = refl
exchange false false x y o h = refl

again : {A : Type 0} (s : Bool) (x y o : A) → cond s x o ≡ cond s x (cond s y o)
again true x y o = refl
again false x y o = refl

bytes_of-step : (t : Bool) (file : List ℕ × List ℕ) (files : Files) (name bytes other : List ℕ) → bytes_eq file.0 name ≡ t
    → bytes_of (with_file files name bytes) other ≡ cond (bytes_eq name other) (Some bytes) (bytes_of files other)
    → bytes_of (cond t ((name, bytes) ∷ files) (file ∷ with_file files name bytes)) other ≡ cond (bytes_eq name other) (Some bytes)
    (cond (bytes_eq file.0 other) (Some file.1) (bytes_of files other))
bytes_of-step true file files name bytes other e rest =
    rw (same_from_bytes_eq file.0 name e) (again (bytes_eq name other) (Some bytes) (Some file.1) (bytes_of files other))
bytes_of-step false file files name bytes other e rest =
    rw rest
    (exchange (bytes_eq file.0 other) (bytes_eq name other) (Some file.1) (Some bytes) (bytes_of files other)
    (λ p q. true_or_false (sym (bytes_eq-same file.0 name (same_from_bytes_eq file.0 other p ∙ sym (same_from_bytes_eq name other q)))
    ∙ e)))

-- the name has the new bytes, and every other name what it had
pub bytes_of-with_file : (files : Files) (name bytes other : List ℕ)
    → bytes_of (with_file files name bytes) other ≡ cond (bytes_eq name other) (Some bytes) (bytes_of files other)
bytes_of-with_file [] name bytes other = refl
bytes_of-with_file (file ∷ files) name bytes other =
    bytes_of-step (bytes_eq file.0 name) file files name bytes other refl (bytes_of-with_file files name bytes other)

IsNamedOnce-step : (t : Bool) (file : List ℕ × List ℕ) (files : Files) (name bytes : List ℕ) → bytes_eq file.0 name ≡ t
    → bytes_of files file.0 ≡ None → IsNamedOnce files → IsNamedOnce (with_file files name bytes)
    → IsNamedOnce (cond t ((name, bytes) ∷ files) (file ∷ with_file files name bytes))
IsNamedOnce-step true file files name bytes e new once rest =
    (ap (bytes_of files) (sym (same_from_bytes_eq file.0 name e)) ∙ new, once)
IsNamedOnce-step false file files name bytes e new once rest = (
  bytes_of-with_file files name bytes file.0
      ∙ ap (λ t. cond t (Some bytes) (bytes_of files file.0)) (bytes_eq-swapped file.0 name e) ∙ new,
  rest,
)

-- each name still stands once
pub IsNamedOnce-with_file : (files : Files) (name bytes : List ℕ) → IsNamedOnce files → IsNamedOnce (with_file files name bytes)
IsNamedOnce-with_file [] name bytes h = (refl, tt)
IsNamedOnce-with_file (file ∷ files) name bytes h =
    IsNamedOnce-step (bytes_eq file.0 name) file files name bytes refl h.0 h.1 (IsNamedOnce-with_file files name bytes h.1)
