-- The nodes of a builder, and the terms that they mean.
use Rattle.std.proofs.Common.{◌≡◌, ℕ, zero, suc, ◌+◌, ◌<◌, ◌≤◌, List, [], ◌∷◌, ◌++◌, length, get_or, take, drop, All, pos, sym, ◌∙◌, ap}
use Rattle.std.proofs.Common.{subst, refl, arith, length-append, append_assoc, length-drop}
use Rattle.std.proofs.lemmas.List.{get_or_append_left, take-append-le, drop-append-le, take-append-drop, length-take-le, append-nil}
use Rattle.std.proofs.Math.Seq.{get_or-append_seam, take-append_seam, drop-append_seam, take-length}
use Rattle.op_logic.specs.Term.{Term, int, node}
use Rattle.op_term.specs.Places.{term_at, args_at}
use Rattle.op_term.specs.inner.Cells.{count_of, shaped, parts_of, terms_after, terms_of, AllBelow, Laid}
use Rattle.op_term.specs.declared.builder.Cell.{Cell}
use Rattle.op_term.specs.declared.builder.Shape.{Shape}
use Rattle.op_term.specs.declared.builder.Shape.TheVariants.{Var, Int, Named}

-- what is made stays as it is: the later terms join at the end
pub extends : (ts : List (Term ℕ)) (parts : List ℕ) (cs : List Cell) → (r : List (Term ℕ)) × (terms_after ts parts cs ≡ ts ++ r)
extends ts parts [] = ([], sym (append-nil ts))
extends ts parts (c ∷ cs) =
    let x : Term ℕ = shaped ts (parts_of parts c) c.shape in
    let h = extends (ts ++ x ∷ []) parts cs in
    (x ∷ h.0, h.1 ∙ append_assoc ts (x ∷ []) h.0)

pub terms-length : (ts : List (Term ℕ)) (parts : List ℕ) (cs : List Cell) → length (terms_after ts parts cs) ≡ length ts + length cs
terms-length ts parts [] = omega arith
terms-length ts parts (c ∷ cs) =
    let x : Term ℕ = shaped ts (parts_of parts c) c.shape in
    omega (arith, terms-length (ts ++ x ∷ []) parts cs, length-append ts (x ∷ []))

pub terms-before : (ts : List (Term ℕ)) (parts : List ℕ) (cs : List Cell) (i : ℕ) → i < length ts
    → term_at (terms_after ts parts cs) i ≡ term_at ts i
terms-before ts parts cs i h =
    let e = extends ts parts cs in
    ap (λ (us : List (Term ℕ)). term_at us i) e.1 ∙ get_or_append_left ts e.0 (int (pos 0)) i h

pub terms-taken : (ts : List (Term ℕ)) (parts : List ℕ) (cs : List Cell) → take (length ts) (terms_after ts parts cs) ≡ ts
terms-taken ts parts cs =
    let e = extends ts parts cs in
    ap (take (length ts)) e.1 ∙ take-append_seam ts e.0

pub AllBelow-from : (n : ℕ) (ps : List ℕ) → All (λ p. p < n) ps → AllBelow n ps
AllBelow-from n [] h = tt
AllBelow-from n (p ∷ ps) h = (h 0 0 (omega arith), AllBelow-from n ps (λ k d l. h (suc k) d (omega arith)))

pub All-from : (n : ℕ) (ps : List ℕ) → AllBelow n ps → All (λ p. p < n) ps
All-from n [] h k d l = absurd (omega arith)
All-from n (p ∷ ps) h zero d l = h.0
All-from n (p ∷ ps) h (suc k) d l = All-from n ps h.1 k d (omega arith)

pub args_at-same : (n : ℕ) (ts us : List (Term ℕ)) → ((i : ℕ) → i < n → term_at us i ≡ term_at ts i) → (ps : List ℕ) → AllBelow n ps
    → args_at us ps ≡ args_at ts ps
args_at-same n ts us same [] h = refl
args_at-same n ts us same (p ∷ ps) h =
    let a : term_at us p ≡ term_at ts p = same p h.0 in
    let b : args_at us ps ≡ args_at ts ps = args_at-same n ts us same ps h.1 in
    cc

shaped-same : (n : ℕ) (ts us : List (Term ℕ)) → ((i : ℕ) → i < n → term_at us i ≡ term_at ts i) → (ps : List ℕ) → AllBelow n ps
    → (s : Shape) → shaped us ps s ≡ shaped ts ps s
shaped-same n ts us same ps h (Var v) = refl
shaped-same n ts us same ps h (Int i) = refl
shaped-same n ts us same ps h (Named f m) = ap (node f.0) (args_at-same n ts us same ps h)

laid-end : (n at : ℕ) (parts : List ℕ) (cs : List Cell) → Laid n at parts cs → at ≤ length parts
laid-end n at parts [] h = omega arith
laid-end n at parts (c ∷ cs) h = omega (arith, laid-end (suc n) (at + count_of c.shape) parts cs h.2)

laid-from : (n at : ℕ) (parts : List ℕ) (cs : List Cell) → Laid n at parts cs → (i : ℕ) (d : Cell) → i < length cs
    → at ≤ (get_or cs i d).from
laid-from n at parts [] h i d l = absurd (omega arith)
laid-from n at parts (c ∷ cs) h zero d l = omega (arith, h.0)
laid-from n at parts (c ∷ cs) h (suc i) d l = omega (arith, laid-from (suc n) (at + count_of c.shape) parts cs h.2 i d (omega arith))

-- what a cell's node is
pub record Made (ts : List (Term ℕ)) (parts : List ℕ) (c : Cell) (i : ℕ) : Type 0 where
  pub below : AllBelow i (parts_of parts c)
  pub within : c.from + count_of c.shape ≤ length parts
  pub term : term_at ts i ≡ shaped ts (parts_of parts c) c.shape

made_after : (ts : List (Term ℕ)) (parts : List ℕ) (cs : List Cell) (n at : ℕ) → n ≡ length ts → Laid n at parts cs → (i j : ℕ) (d : Cell)
    → j ≡ n + i → i < length cs → Made (terms_after ts parts cs) parts (get_or cs i d) j
made_after ts parts [] n at e h i j d q l = absurd (omega arith)
made_after ts parts (c ∷ cs) n at e h zero j d q l =
    let x : Term ℕ = shaped ts (parts_of parts c) c.shape in
    let all : List (Term ℕ) = terms_after (ts ++ x ∷ []) parts cs in
    let jn : j ≡ length ts = omega arith in
    let nj : n ≡ j = omega arith in
    let lt : j < length (ts ++ x ∷ []) = omega (arith, length-append ts (x ∷ [])) in
    let is : term_at all j ≡ term_at (ts ++ x ∷ []) j = terms-before (ts ++ x ∷ []) parts cs j lt in
    let was : term_at (ts ++ x ∷ []) j ≡ x = ap (term_at (ts ++ x ∷ [])) jn ∙ get_or-append_seam ts x [] (int (pos 0)) in
    let same : (i2 : ℕ) → i2 < n → term_at all i2 ≡ term_at ts i2 =
    λ i2 l2. terms-before ts parts (c ∷ cs) i2 (omega arith) in
    let end : c.from + count_of c.shape ≤ length parts = omega (arith, h.0, laid-end (suc n) (at + count_of c.shape) parts cs h.2) in
    record {
      below = subst (λ (m : ℕ). AllBelow m (parts_of parts c)) nj h.1;
      within = end;
      term = is ∙ (was ∙ sym (shaped-same n ts all same (parts_of parts c) h.1 c.shape));
    }
made_after ts parts (c ∷ cs) n at e h (suc i) j d q l =
    let x : Term ℕ = shaped ts (parts_of parts c) c.shape in
    made_after (ts ++ x ∷ []) parts cs (suc n) (at + count_of c.shape) (omega (arith, length-append ts (x ∷ []))) h.2 i j d
    (omega arith) (omega arith)

pub node_made : (parts : List ℕ) (cs : List Cell) → Laid 0 0 parts cs → (i : ℕ) (d : Cell) → i < length cs
    → Made (terms_of parts cs) parts (get_or cs i d) i
node_made parts cs h i d l = made_after [] parts cs 0 0 refl h i i d (omega arith) l

-- parts that join at the end change no cell before them
parts_of-append : (parts more : List ℕ) (c : Cell) → c.from + count_of c.shape ≤ length parts
    → parts_of (parts ++ more) c ≡ parts_of parts c
parts_of-append parts more c h =
    let a : drop c.from (parts ++ more) ≡ drop c.from parts ++ more = drop-append-le c.from parts more (omega arith) in
    let l : count_of c.shape ≤ length (drop c.from parts) = omega (arith, length-drop c.from parts) in
    ap (take (count_of c.shape)) a ∙ take-append-le (count_of c.shape) (drop c.from parts) more l

terms-parts : (ts : List (Term ℕ)) (parts more : List ℕ) (cs : List Cell) (n at : ℕ) → Laid n at parts cs
    → terms_after ts (parts ++ more) cs ≡ terms_after ts parts cs
terms-parts ts parts more [] n at h = refl
terms-parts ts parts more (c ∷ cs) n at h =
    let l : c.from + count_of c.shape ≤ length parts = omega (arith, h.0, laid-end (suc n) (at + count_of c.shape) parts cs h.2) in
    let x : Term ℕ = shaped ts (parts_of parts c) c.shape in
    ap (λ (q : List ℕ). terms_after (ts ++ shaped ts q c.shape ∷ []) (parts ++ more) cs) (parts_of-append parts more c l)
    ∙ terms-parts (ts ++ x ∷ []) parts more cs (suc n) (at + count_of c.shape) h.2

terms-append : (ts : List (Term ℕ)) (parts : List ℕ) (cs ds : List Cell)
    → terms_after ts parts (cs ++ ds) ≡ terms_after (terms_after ts parts cs) parts ds
terms-append ts parts [] ds = refl
terms-append ts parts (c ∷ cs) ds = terms-append (ts ++ shaped ts (parts_of parts c) c.shape ∷ []) parts cs ds

-- a node joins
module _ (parts ps : List ℕ) (c : Cell) (from : c.from ≡ length parts) (counted : count_of c.shape ≡ length ps) where
  parts_of-last : parts_of (parts ++ ps) c ≡ ps
  parts_of-last =
      let a : drop c.from (parts ++ ps) ≡ ps = ap (λ (k : ℕ). drop k (parts ++ ps)) from ∙ drop-append_seam parts ps in
      ap (take (count_of c.shape)) a ∙ (ap (λ (k : ℕ). take k ps) counted ∙ take-length ps)

  laid-push : (n at : ℕ) (cs : List Cell) → Laid n at parts cs → AllBelow (n + length cs) ps → Laid n at (parts ++ ps) (cs ++ c ∷ [])
  laid-push n at [] h small =
      let e : n + 0 ≡ n = omega arith in
      let b : AllBelow n ps = subst (λ (m : ℕ). AllBelow m ps) e small in
      (from ∙ sym h, subst (AllBelow n) (sym parts_of-last) b, omega (arith, length-append parts ps))
  laid-push n at (d ∷ cs) h small =
      let l : d.from + count_of d.shape ≤ length parts = omega (arith, h.0, laid-end (suc n) (at + count_of d.shape) parts cs h.2) in
      let e : n + suc (length cs) ≡ suc n + length cs = omega arith in (
        h.0,
        subst (AllBelow n) (sym (parts_of-append parts ps d l)) h.1,
        laid-push (suc n) (at + count_of d.shape) cs h.2
            (subst (λ (m : ℕ). AllBelow m ps) e small),
      )

  pub Laid-push : (cs : List Cell) → Laid 0 0 parts cs → All (λ p. p < length (terms_of parts cs)) ps
      → Laid 0 0 (parts ++ ps) (cs ++ c ∷ [])
  Laid-push cs h small =
      let e : length (terms_of parts cs) ≡ 0 + length cs = terms-length [] parts cs in
      laid-push 0 0 cs h (subst (λ (m : ℕ). AllBelow m ps) e (AllBelow-from _ ps small))

  pub terms_of-push : (cs : List Cell) → Laid 0 0 parts cs → terms_of (parts ++ ps) (cs ++ c ∷ []) ≡ terms_of parts cs ++ shaped
      (terms_of parts cs) ps c.shape ∷ []
  terms_of-push cs h =
      let a = terms-append [] (parts ++ ps) cs (c ∷ []) in
      let b : terms_of (parts ++ ps) cs ≡ terms_of parts cs = terms-parts [] parts ps cs 0 0 h in
      a ∙ (ap (λ (ts : List (Term ℕ)). ts ++ shaped ts (parts_of (parts ++ ps) c) c.shape ∷ []) b
      ∙ ap (λ (q : List ℕ). terms_of parts cs ++ shaped (terms_of parts cs) q c.shape ∷ []) parts_of-last)

-- nodes are cut
cut-start : (n at : ℕ) (parts : List ℕ) (cs : List Cell) → Laid n at parts cs → (k : ℕ) (d : Cell) → k < length cs
    → (get_or cs k d).from ≤ length parts
cut-start n at parts [] h k d l = absurd (omega arith)
cut-start n at parts (c ∷ cs) h zero d l = omega (arith, h.0, laid-end (suc n) (at + count_of c.shape) parts cs h.2)
cut-start n at parts (c ∷ cs) h (suc k) d l = cut-start (suc n) (at + count_of c.shape) parts cs h.2 k d (omega arith)

parts_of-cut : (m : ℕ) (parts : List ℕ) (c : Cell) → m ≤ length parts → c.from + count_of c.shape ≤ m
    → parts_of (take m parts) c ≡ parts_of parts c
parts_of-cut m parts c h l =
    let t : length (take m parts) ≡ m = length-take-le m parts h in
    sym (parts_of-append (take m parts) (drop m parts) c (omega arith)) ∙ ap (λ (q : List ℕ). parts_of q c) (take-append-drop m parts)

laid-cut : (n at : ℕ) (parts : List ℕ) (cs : List Cell) → Laid n at parts cs → (k m : ℕ) (d : Cell) → k < length cs
    → m ≡ (get_or cs k d).from → Laid n at (take m parts) (take k cs)
laid-cut n at parts [] h k m d l e = absurd (omega arith)
laid-cut n at parts (c ∷ cs) h zero m d l e =
    let b : m ≤ length parts = omega (arith, cut-start n at parts (c ∷ cs) h zero d l) in
    omega (arith, length-take-le m parts b, h.0)
laid-cut n at parts (c ∷ cs) h (suc k) m d l e =
    let b : m ≤ length parts = omega (arith, cut-start n at parts (c ∷ cs) h (suc k) d l) in
    let f : at + count_of c.shape ≤ m = omega (arith, laid-from (suc n) (at + count_of c.shape) parts cs h.2 k d (omega arith)) in (
      h.0,
      subst (AllBelow n) (sym (parts_of-cut m parts c b (omega (arith, h.0)))) h.1,
      laid-cut (suc n)
          (at + count_of c.shape) parts cs h.2 k m d (omega arith) e,
    )

module _ (parts : List ℕ) (cs : List Cell) (h : Laid 0 0 parts cs) (k m : ℕ) (d : Cell) (l : k < length cs)
    (e : m ≡ (get_or cs k d).from) where
  pub Laid-cut : Laid 0 0 (take m parts) (take k cs)
  Laid-cut = laid-cut 0 0 parts cs h k m d l e

  pub terms_of-cut : terms_of (take m parts) (take k cs) ≡ take k (terms_of parts cs)
  terms_of-cut =
      let x : List (Term ℕ) = terms_of parts (take k cs) in
      let len : length x ≡ k = omega (arith, terms-length [] parts (take k cs), length-take-le k cs (omega arith)) in
      let a : terms_of parts cs ≡ terms_after x parts (drop k cs) = ap (terms_of parts) (sym (take-append-drop k cs))
      ∙ terms-append [] parts (take k cs) (drop k cs) in
      let b : take k (terms_of parts cs) ≡ x =
      ap (take k) a ∙ (ap (λ (q : ℕ). take q (terms_after x parts (drop k cs))) (sym len) ∙ terms-taken x parts (drop k cs)) in
      let f : terms_of (take m parts ++ drop m parts) (take k cs) ≡ terms_of (take m parts) (take k cs) =
      terms-parts [] (take m parts) (drop m parts) (take k cs) 0 0 Laid-cut in
      let g : terms_of (take m parts ++ drop m parts) (take k cs) ≡ x =
      ap (λ (q : List ℕ). terms_of q (take k cs)) (take-append-drop m parts) in
      sym f ∙ (g ∙ sym b)
