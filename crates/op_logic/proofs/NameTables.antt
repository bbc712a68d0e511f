-- Tables of names: numbers and texts stand for each other.
use Rattle.std.proofs.Common.{◌≡◌, ℕ, ◌+◌, ◌<◌, ◌≤◌, ◌↔◌, true, false, List, [], ◌∷◌, ◌++◌, length, get_or, take, All, sym, ◌∙◌, ap, subst}
use Rattle.std.proofs.Common.{refl, arith, length-append, zero, suc}
use Rattle.std.specs.Str.{bytes_eq}
use Rattle.std.specs.List.{list_any}
use Rattle.std.proofs.lemmas.Bool.{lt-ltb, le-ltb, false≢true}
use Rattle.std.proofs.lemmas.List.{get_or_append_left, get_or-take, length-take}
use Rattle.std.proofs.lemmas.List.Elements.{All-append}
use Rattle.std.proofs.lemmas.List.Folds.{list_any_at}
use Rattle.std.proofs.lemmas.Slice.Eq.{bytes_eq-Decides}
use Rattle.std.proofs.Math.Seq.{get_or-append_seam}
use Rattle.op_logic.specs.Term.{Term, var, int, node, Args, no_args, arg, rename_args}
use Rattle.op_logic.specs.Names.{name_at, named, IsTable, HasNames, ArgsHaveNames}
use Rattle.op_logic.proofs.BoolCases.{by_order, if_true, if_false}

pub name_at-below : (names : List (List ℕ)) (n : ℕ) → n < length names → name_at names n ≡ get_or names n []
name_at-below names n h = if_true _ _ _ (lt-ltb n (length names) h)

pub name_at-past : (names : List (List ℕ)) (n : ℕ) → length names ≤ n → name_at names n ≡ (256 + n) ∷ []
name_at-past names n h = if_false _ _ _ (le-ltb n (length names) h)

-- a name of the table is no name of a number past it
not_past : (names : List (List ℕ)) → IsTable names → (m n : ℕ) → m < length names → length names ≤ n → name_at names m ≡ name_at names n → ⊥
not_past names t m n h k e =
    let e2 : get_or names m [] ≡ (256 + n) ∷ [] = sym (name_at-below names m h) ∙ (e ∙ name_at-past names n k) in
    let small : All (λ b. b < 256) (get_or names m []) = t.bytes m [] h in
    let small2 : All (λ b. b < 256) ((256 + n) ∷ []) = subst (λ (s : List ℕ). All (λ b. b < 256) s) e2 small in
    let lt : 256 + n < 256 = small2 0 0 (omega arith) in
    omega arith

-- two numbers with one name are one number
pub same_number : (names : List (List ℕ)) → IsTable names → (m n : ℕ) → name_at names m ≡ name_at names n → m ≡ n
same_number names t m n e =
    by_order m (length names)
    (λ h. by_order n (length names)
    (λ k. t.distinct m n h k (sym (name_at-below names m h) ∙ (e ∙ name_at-below names n k)))
    (λ k. absurd (not_past names t m n h k e)))
    (λ h. by_order n (length names)
    (λ k. absurd (not_past names t n m k h (sym e)))
    (λ k. let e2 : (256 + m) ∷ [] ≡ (256 + n) ∷ [] = sym (name_at-past names m h) ∙ (e ∙ name_at-past names n k) in
    let e3 : 256 + m ≡ 256 + n = cc in
    omega arith))

pub names-same : (names : List (List ℕ)) → IsTable names → (m n : ℕ) → (name_at names m ≡ name_at names n) ↔ (m ≡ n)
names-same names t m n = (same_number names t m n, λ e. ap (name_at names) e)

-- a table that grows changes no name that was there
pub name-more : (old new : List (List ℕ)) → take (length old) new ≡ old → (n : ℕ) → n < length old → name_at new n ≡ name_at old n
name-more old new e n h =
    let l : n < length new = omega (arith, length-take (length old) new, ap length e) in
    let g : get_or (take (length old) new) n [] ≡ get_or new n [] = get_or-take (length old) new n [] h in
    name_at-below new n l ∙ (sym g ∙ (ap (λ (xs : List (List ℕ)). get_or xs n []) e ∙ sym (name_at-below old n h)))

mutual
  pub named-more : (old new : List (List ℕ)) → take (length old) new ≡ old → (t : Term ℕ) → HasNames (length old) t
      → named new t ≡ named old t
  named-more old new e (var v) h = refl
  named-more old new e (int i) h = refl
  named-more old new e (node f ts) h =
      let a : name_at new f ≡ name_at old f = name-more old new e f h.0 in
      let b = args-named-more old new e ts h.1 in
      cc

  args-named-more : (old new : List (List ℕ)) → take (length old) new ≡ old → (ts : Args ℕ) → ArgsHaveNames (length old) ts
      → rename_args (name_at new) ts ≡ rename_args (name_at old) ts
  args-named-more old new e no_args h = refl
  args-named-more old new e (arg t ts) h =
      let a = named-more old new e t h.0 in
      let b = args-named-more old new e ts h.1 in
      cc

All-one : {X : Type 0} (P : X → Type 0) (x : X) → P x → All P (x ∷ [])
All-one P x p zero d h = p
All-one P x p (suc k) d h = absurd (omega arith)

-- a name that is not in the table differs from each that is
absent_at : (names : List (List ℕ)) (name : List ℕ) (i : ℕ) → list_any (bytes_eq name) names ≡ false → i < length names
    → get_or names i [] ≡ name → ⊥
absent_at names name i absent h e =
    let found : list_any (bytes_eq name) names ≡ true =
    list_any_at (bytes_eq name) names i [] h ((bytes_eq-Decides name (get_or names i [])).1 (sym e)) in
    false≢true (sym absent ∙ found)

-- a new name joins the table
pub IsTable-push : (names : List (List ℕ)) (name : List ℕ) → IsTable names → list_any (bytes_eq name) names ≡ false
    → All (λ b. b < 256) name → IsTable (names ++ name ∷ [])
IsTable-push names name t absent small =
    let len : length (names ++ name ∷ []) ≡ length names + 1 = length-append names (name ∷ []) in
    let last : get_or (names ++ name ∷ []) (length names) [] ≡ name = get_or-append_seam names name [] [] in
    record {
      distinct = λ i j hi hj e.
          by_order i (length names)
          (λ ki. by_order j (length names)
          (λ kj. t.distinct i j ki kj (sym (get_or_append_left names (name ∷ []) [] i ki)
          ∙ (e ∙ get_or_append_left names (name ∷ []) [] j kj)))
          (λ kj. let sj : j ≡ length names = omega arith in
          let ej : get_or (names ++ name ∷ []) j [] ≡ name = ap (λ n. get_or (names ++ name ∷ []) n []) sj ∙ last in
          absurd (absent_at names name i absent ki (sym (get_or_append_left names (name ∷ []) [] i ki) ∙ (e ∙ ej)))))
          (λ ki. let si : i ≡ length names = omega arith in
          let ei : get_or (names ++ name ∷ []) i [] ≡ name = ap (λ n. get_or (names ++ name ∷ []) n []) si ∙ last in
          by_order j (length names)
          (λ kj. absurd (absent_at names name j absent kj (sym (get_or_append_left names (name ∷ []) [] j kj) ∙ (sym e ∙ ei))))
          (λ kj. omega arith));
      bytes = All-append (λ (s : List ℕ). All (λ b. b < 256) s) names (name ∷ []) t.bytes
          (All-one (λ (s : List ℕ). All (λ b. b < 256) s) name small);
    }
