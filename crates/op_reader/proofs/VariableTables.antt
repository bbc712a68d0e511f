-- A table of names and numbers, seen as the list of their pairs.
use Rattle.std.proofs.Common.{◌≡◌, ℕ, suc, zero, ◌<◌, Bool, true, false, cond, List, [], ◌∷◌, ◌++◌, length, get_or, Option, Some, None}
use Rattle.std.proofs.Common.{refl, sym, ap, ◌∙◌, arith}
use Rattle.std.specs.Prelude.{option_map}
use Rattle.std.specs.Str.{bytes_eq}
use Rattle.std.specs.List.{position, list_any}
use Rattle.op_logic.specs.Names.{with_name}
use Rattle.op_logic.proofs.BoolCases.{by_test, if_true, if_false}
use Rattle.op_reader.specs.Names.{numbered, number_of}

pub numbered-length : (ws : List (List ℕ)) (vs : List ℕ) → length ws ≡ length vs → length (numbered ws vs) ≡ length vs
numbered-length [] [] h = refl
numbered-length [] (v ∷ vs) h = absurd cc
numbered-length (w ∷ ws) [] h = absurd cc
numbered-length (w ∷ ws) (v ∷ vs) h = ap suc (numbered-length ws vs (omega (arith, h)))

pub numbered-name : (ws : List (List ℕ)) (vs : List ℕ) (i : ℕ) → length ws ≡ length vs
    → (get_or (numbered ws vs) i ([], 0)).0 ≡ get_or ws i []
numbered-name [] [] i h = refl
numbered-name [] (v ∷ vs) i h = absurd cc
numbered-name (w ∷ ws) [] i h = absurd cc
numbered-name (w ∷ ws) (v ∷ vs) zero h = refl
numbered-name (w ∷ ws) (v ∷ vs) (suc i) h = numbered-name ws vs i (omega (arith, h))

pub numbered-number : (ws : List (List ℕ)) (vs : List ℕ) (i : ℕ) → length ws ≡ length vs
    → (get_or (numbered ws vs) i ([], 0)).1 ≡ get_or vs i 0
numbered-number [] [] i h = refl
numbered-number [] (v ∷ vs) i h = absurd cc
numbered-number (w ∷ ws) [] i h = absurd cc
numbered-number (w ∷ ws) (v ∷ vs) zero h = refl
numbered-number (w ∷ ws) (v ∷ vs) (suc i) h = numbered-number ws vs i (omega (arith, h))

pub numbered-joined : (ws : List (List ℕ)) (vs : List ℕ) (w : List ℕ) (v : ℕ) → length ws ≡ length vs
    → numbered (ws ++ w ∷ []) (vs ++ v ∷ []) ≡ numbered ws vs ++ (w, v) ∷ []
numbered-joined [] [] w v h = refl
numbered-joined [] (u ∷ vs) w v h = absurd cc
numbered-joined (x ∷ ws) [] w v h = absurd cc
numbered-joined (x ∷ ws) (u ∷ vs) w v h = ap (λ (es : List (List ℕ × ℕ)). (x, u) ∷ es) (numbered-joined ws vs w v (omega (arith, h)))

joined-length : (ws : List (List ℕ)) (vs : List ℕ) (w : List ℕ) (v : ℕ) → length ws ≡ length vs
    → length (ws ++ w ∷ []) ≡ length (vs ++ v ∷ [])
joined-length [] [] w v h = refl
joined-length [] (u ∷ vs) w v h = absurd cc
joined-length (x ∷ ws) [] w v h = absurd cc
joined-length (x ∷ ws) (u ∷ vs) w v h = ap suc (joined-length ws vs w v (omega (arith, h)))

module _ (w : List ℕ) where
  -- a name that is there, and at no earlier place, has the number of its place
  pub number-found : (ws : List (List ℕ)) (vs : List ℕ) (i : ℕ) → length ws ≡ length vs → i < length ws → bytes_eq w (get_or ws i []) ≡ true
      → ((k : ℕ) → k < i → bytes_eq w (get_or ws k []) ≡ false) → number_of w (numbered ws vs) ≡ Some (get_or vs i 0)
  number-found [] vs i h l t f = absurd (omega (arith, l))
  number-found (x ∷ ws) [] i h l t f = absurd cc
  number-found (x ∷ ws) (v ∷ vs) zero h l t f = if_true (bytes_eq w x) (Some v) (number_of w (numbered ws vs)) t
  number-found (x ∷ ws) (v ∷ vs) (suc i) h l t f =
      if_false (bytes_eq w x) (Some v) (number_of w (numbered ws vs)) (f 0 (omega arith))
      ∙ number-found ws vs i (omega (arith, h)) (omega (arith, l)) t (λ k b. f (suc k) (omega (arith, b)))

  pub number-none : (ws : List (List ℕ)) (vs : List ℕ) → list_any (bytes_eq w) ws ≡ false → number_of w (numbered ws vs) ≡ None
  number-none [] vs h = refl
  number-none (x ∷ ws) [] h = refl
  number-none (x ∷ ws) (v ∷ vs) h =
      by_test (bytes_eq w x)
      (λ t. absurd (let k = rw t at h in cc))
      (λ f. let k = rw f at h in if_false (bytes_eq w x) (Some v) (number_of w (numbered ws vs)) f ∙ number-none ws vs k)

  pub name-absent : (ws : List (List ℕ)) (vs : List ℕ) → length ws ≡ length vs
      → number_of w (numbered ws vs) ≡ None → list_any (bytes_eq w) ws ≡ false
  name-absent [] vs l h = refl
  name-absent (x ∷ ws) [] l h = absurd cc
  name-absent (x ∷ ws) (v ∷ vs) l h =
      by_test (bytes_eq w x)
      (λ t. absurd (let k = rw t at h in cc))
      (λ f. let k = rw f at h in rw f (name-absent ws vs (omega (arith, l)) k))

  -- a name that isn't there joins with its number
  pub number-joined : (ws new : List (List ℕ)) (vs : List ℕ) (v : ℕ) → length ws ≡ length vs → number_of w (numbered ws vs) ≡ None
      → new ≡ with_name ws w → (numbered new (vs ++ v ∷ []) ≡ numbered ws vs ++ (w, v) ∷ []) × (length new ≡ length (vs ++ v ∷ []))
  number-joined ws new vs v l h e =
      let is : new ≡ ws ++ w ∷ [] = e ∙ if_false (list_any (bytes_eq w) ws) ws (ws ++ w ∷ []) (name-absent ws vs l h) in (
        ap (λ (x : List (List ℕ)). numbered x (vs ++ v ∷ [])) is ∙ numbered-joined ws vs w v l,
        ap length is ∙ joined-length ws vs w v l,
      )

-- a place among the pairs is one among the names, and one among the numbers
pub within-numbers : (ws : List (List ℕ)) (vs : List ℕ) (es : List (List ℕ × ℕ)) (i : ℕ) → length ws ≡ length vs
    → numbered ws vs ≡ es → i < length es → i < length vs
within-numbers ws vs es i h e l = let k : length es ≡ length vs = sym (ap length e) ∙ numbered-length ws vs h in omega (arith, l, k)

pub within-names : (ws : List (List ℕ)) (vs : List ℕ) (es : List (List ℕ × ℕ)) (i : ℕ) → length ws ≡ length vs
    → numbered ws vs ≡ es → i < length es → i < length ws
within-names ws vs es i h e l = let k : i < length vs = within-numbers ws vs es i h e l in omega (arith, k, h)
