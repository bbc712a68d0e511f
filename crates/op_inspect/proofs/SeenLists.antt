-- A term as a list: what its spine says under bindings.
use Rattle.std.proofs.Common.{◌≡◌, ◌<◌, ℕ, zero, suc, ◌+◌, ◌==◌, Bool, true, false, List, [], ◌∷◌, ◌++◌, length, All}
use Rattle.std.proofs.Common.{codes, refl, sym, ap, ◌∙◌, subst}
use Rattle.std.proofs.Common.{arith, drop, take, get_or, if◌then◌else◌, ◌-◌}
use Rattle.std.proofs.Math.Seq.{take-length}
use Rattle.std.proofs.lemmas.Bool.Decides.{nat_tests}
use Rattle.op_logic.specs.Term.{Term, var, int, node, no_args, arg, args_of, nth_arg, arity, size}
use Rattle.op_logic.specs.Bind.{Bindings, apply, follow}
use Rattle.op_logic.specs.Laws.{Acyclic, rename_bindings}
use Rattle.op_logic.specs.Names.{name_at, named}
use Rattle.op_logic.proofs.AppliedBindings.{apply-int, apply-node, apply_args-none, apply_args-arg, apply-free}
use Rattle.op_logic.proofs.FollowedTerms.{apply-follow, follow-free}
use Rattle.op_logic.proofs.RenamedUnification.{apply-rename, follow-rename}
use Rattle.op_term.specs.Head.{head}
use Rattle.op_term.specs.declared.node.Node.{Node}
use Rattle.op_bind.specs.State.{State}
use Rattle.op_trace.specs.Database.{Text, text_eq}
use Rattle.op_inspect.specs.Lists.{Listed, Elements, Partial, No_list, with_element, listed, listed_by, list_of}
use Rattle.op_inspect.specs.Outcomes.{text_at, IsKnown}
use Rattle.op_inspect.specs.inner.Seen.{texts, with_elements, spine_of}
use Rattle.op_inspect.specs.inner.Settings.{Makes, Stays}
use Rattle.op_inspect.proofs.MakingTerms.{makes-text, makes-then}
use Rattle.op_inspect.proofs.TextsLater.{text-later}
use Rattle.op_trace.specs.Body.{pair}
use Rattle.op_inspect.specs.declared.lists.Spine.{Spine}
use Rattle.op_inspect.specs.declared.lists.Spine.TheVariants.{Cell, End, Open, Other}

module _ (names : List (List ℕ)) (τ : Bindings ℕ) where
  abbrev σ : Bindings Text
  σ = rename_bindings (name_at names) τ

  -- what a spine says of the term
  abbrev pub Says : Spine → Term ℕ → Term ℕ → Type 0
  Says Cell t q =
      (arity (args_of q) ≡ 2)
      × ((listed σ (named names t) ≡ with_element (named names (nth_arg (args_of q) 0)) (listed σ (named names (nth_arg (args_of q) 1))))
      × (size (apply τ (nth_arg (args_of q) 1)) < size (apply τ t)))
  Says End t q = listed σ (named names t) ≡ Elements no_args
  Says Open t q = listed σ (named names t) ≡ Partial
  Says Other t q = listed σ (named names t) ≡ No_list

  listed-value : (t : Term ℕ) → listed σ (named names t) ≡ listed_by (named names (apply τ t)) σ (named names t)
  listed-value t = ap (λ (x : Term Text). listed_by x σ (named names t)) (apply-rename (name_at names) τ t)

  end-says : (b : Bool) (t q : Term ℕ) (f : ℕ) → listed σ (named names t) ≡ (if b then Elements no_args else No_list)
      → Says (if b then End else Other) t q
  end-says true t q f e = e
  end-says false t q f e = e

  cell-says : (b : Bool) (t q : Term ℕ) → arity (args_of q) ≡ 2
      → listed σ (named names t) ≡ (if b then with_element (named names (nth_arg (args_of q) 0)) (listed σ (named names (nth_arg (args_of q) 1)))
      else No_list) → size (apply τ (nth_arg (args_of q) 1)) < size (apply τ t) → Says (if b then Cell else Other) t q
  cell-says true t q a e l = (a, (e, l))
  cell-says false t q a e l = e

  module _ (t : Term ℕ) (acyclic : Acyclic τ) where
    same-value : (q : Term ℕ) → q ≡ follow τ t → apply τ t ≡ apply τ q
    same-value q e = sym (ap (apply τ) e ∙ apply-follow τ t acyclic)

    pub spine-says : (q : Term ℕ) → q ≡ follow τ t → Says (spine_of names (head q)) t q
    spine-says (var v) e =
        listed-value t ∙ ap (λ (x : Term ℕ). listed_by (named names x) σ (named names t))
        (same-value (var v) e ∙ apply-free τ v (follow-free τ t v acyclic (sym e)))
    spine-says (int i) e =
        listed-value t ∙ ap (λ (x : Term ℕ). listed_by (named names x) σ (named names t)) (same-value (int i) e ∙ apply-int τ i)
    spine-says (node f no_args) e =
        end-says (text_eq (name_at names f) (codes "[]")) t (node f no_args) f
        (listed-value t ∙ ap (λ (x : Term ℕ). listed_by (named names x) σ (named names t))
        (same-value (node f no_args) e ∙ (apply-node τ f no_args ∙ ap (node f) (apply_args-none τ))))
    spine-says (node f (arg x no_args)) e =
        listed-value t ∙ ap (λ (y : Term ℕ). listed_by (named names y) σ (named names t))
        (same-value (node f (arg x no_args)) e ∙ (apply-node τ f (arg x no_args)
        ∙ ap (node f) (apply_args-arg τ x no_args ∙ ap (arg (apply τ x)) (apply_args-none τ))))
    spine-says (node f (arg x (arg y no_args))) e =
        let value : apply τ t ≡ node f (arg (apply τ x) (arg (apply τ y) no_args)) =
        same-value (node f (arg x (arg y no_args))) e ∙ (apply-node τ f (arg x (arg y no_args))
        ∙ ap (node f) (apply_args-arg τ x (arg y no_args)
        ∙ ap (arg (apply τ x)) (apply_args-arg τ y no_args ∙ ap (arg (apply τ y)) (apply_args-none τ)))) in
        let followed : follow σ (named names t) ≡ named names (node f (arg x (arg y no_args))) =
        follow-rename (name_at names) τ t ∙ ap (named names) (sym e) in
        let b = text_eq (name_at names f) (codes ".") in
        cell-says b t (node f (arg x (arg y no_args))) refl
        (listed-value t ∙ (ap (λ (z : Term ℕ). listed_by (named names z) σ (named names t)) value
        ∙ (ap (λ (z : Term Text). if b then with_element (nth_arg (args_of z) 0)
        (listed_by (named names (apply τ y)) σ (nth_arg (args_of z) 1)) else No_list) followed
        ∙ ap (λ (l : Listed). if b then with_element (named names x) l else No_list) (sym (listed-value y)))))
        (subst (λ (z : Term ℕ). size (apply τ y) < size z) (sym value) (omega arith))
    spine-says (node f (arg x (arg y (arg z zs)))) e =
        let three : (suc (suc (suc (arity zs))) == 2) ≡ false = grind (arith, nat_tests) in
        let says : listed σ (named names t) ≡ No_list =
        listed-value t ∙ ap (λ (u : Term ℕ). listed_by (named names u) σ (named names t))
        (same-value (node f (arg x (arg y (arg z zs)))) e ∙ (apply-node τ f (arg x (arg y (arg z zs)))
        ∙ ap (node f) (apply_args-arg τ x (arg y (arg z zs))
        ∙ ap (arg (apply τ x)) (apply_args-arg τ y (arg z zs) ∙ ap (arg (apply τ y)) (apply_args-arg τ z zs))))) in
        subst (λ (b : Bool). Says (if b then (if text_eq (name_at names f) (codes ".") then Cell else Other) else Other) t
        (node f (arg x (arg y (arg z zs))))) (sym three) says

    -- by the outermost node of what it leads to
    pub says-by : (q : Term ℕ) → q ≡ follow τ t → (n : Node) (r k : Spine) → n ≡ head q → r ≡ spine_of names n → r ≡ k → Says k t q
    says-by q e n r k en er ek =
        subst (λ (x : Spine). Says x t q) (ap (spine_of names) (sym en) ∙ (sym er ∙ ek)) (spine-says q e)

-- elements that were passed, and the rest
module _ (names : List (List ℕ)) (s : State) where
  pub elements-push : (rs : List ℕ) (r : ℕ) (l : Listed) → with_elements names s (rs ++ r ∷ []) l
      ≡ with_elements names s rs (with_element (text_at names s r) l)
  elements-push [] r l = refl
  elements-push (q ∷ rs) r l = ap (with_element (text_at names s q)) (elements-push rs r l)

  pub elements-end : (rs : List ℕ) → with_elements names s rs (Elements no_args) ≡ Elements (texts names s rs)
  elements-end [] = refl
  elements-end (r ∷ rs) = ap (with_element (text_at names s r)) (elements-end rs)

  pub elements-partial : (rs : List ℕ) → with_elements names s rs Partial ≡ Partial
  elements-partial [] = refl
  elements-partial (r ∷ rs) = ap (with_element (text_at names s r)) (elements-partial rs)

  pub elements-none : (rs : List ℕ) → with_elements names s rs No_list ≡ No_list
  elements-none [] = refl
  elements-none (r ∷ rs) = ap (with_element (text_at names s r)) (elements-none rs)

  -- elements from a place on
  pub texts-from : (rs : List ℕ) (i d : ℕ) → i < length rs → texts names s (drop i rs) ≡ arg (text_at names s (get_or rs i d))
      (texts names s (drop (i + 1) rs))
  texts-from [] i d h = absurd (omega (arith, h))
  texts-from (r ∷ rs) zero d h = refl
  texts-from (r ∷ rs) (suc i) d h =
      let e : suc i + 1 ≡ suc (i + 1) = omega arith in
      texts-from rs i d (omega (arith, h)) ∙ ap (λ (k : ℕ). arg (text_at names s (get_or rs i d)) (texts names s (drop k (r ∷ rs)))) (sym e)

  pub texts-whole : (rs : List ℕ) (i : ℕ) → i ≡ length rs → texts names s (drop i rs) ≡ no_args
  texts-whole [] i e = ap (λ (k : ℕ). texts names s (drop k [])) e
  texts-whole (r ∷ rs) i e = ap (λ (k : ℕ). texts names s (drop k (r ∷ rs))) e ∙ texts-whole rs (length rs) refl

pub rest-whole : (xs : List ℕ) → take (length xs - 1) (drop 1 xs) ≡ drop 1 xs
rest-whole [] = refl
rest-whole (x ∷ xs) =
    let e : suc (length xs) - 1 ≡ length xs = omega arith in
    ap (λ (k : ℕ). take k xs) e ∙ take-length xs

-- a list with one element more, from the end
pub element-known : (names : List (List ℕ)) (s : State) (xs : List ℕ) (i e : ℕ) → i < length xs → e ≡ get_or xs i e
    → All (IsKnown names s) xs → IsKnown names s e
element-known names s xs i e below is known = subst (IsKnown names s) (sym is) (known i e below)

pub list-more : (a b d : List (List ℕ)) (s t u : State) (list r i j : ℕ) (xs : List ℕ) (e : ℕ) → i < length xs → e ≡ get_or xs i e
    → j ≡ i + 1 → All (IsKnown a s) xs → Stays a b s t → Makes a s b t list (list_of (texts a s (drop j xs)))
    → Makes b t d u r (pair (codes ".") (text_at b t e) (text_at b t list))
    → Makes a s d u r (list_of (texts a s (drop i xs)))
list-more a b d s t u list r i j xs e below is next known stays made more =
    let first : text_at b t e ≡ text_at a s e = text-later a b s t e stays (element-known a s xs i e below is known) in
    makes-text a s d u r (pair (codes ".") (text_at b t e) (text_at b t list)) (list_of (texts a s (drop i xs)))
    (makes-then a b d s t u list r (list_of (texts a s (drop j xs))) (pair (codes ".") (text_at b t e) (text_at b t list)) made more)
    (ap (λ (y : Term Text). pair (codes ".") y (text_at b t list)) first
    ∙ (ap (λ (y : Term Text). pair (codes ".") (text_at a s e) y) made.text
    ∙ (ap (λ (k : ℕ). pair (codes ".") (text_at a s e) (list_of (texts a s (drop k xs)))) next
    ∙ (ap (λ (k : ℕ). pair (codes ".") (text_at a s k) (list_of (texts a s (drop (i + 1) xs)))) is
    ∙ ap list_of (sym (texts-from a s xs i e below))))))
