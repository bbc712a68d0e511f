-- What holds of bindings, and stays when they change.
use Rattle.std.proofs.Common.{◌≡◌, ℕ, zero, suc, ◌+◌, ◌-◌, ◌==◌, ◌<◌, ◌≤◌, List, [], ◌∷◌, ◌++◌, length, get_or, set, take, drop, reverse}
use Rattle.std.proofs.Common.{◌≢◌, All, Option, Some, None, pos, sym, ◌∙◌, ap, subst, refl, arith, length-append}
use Rattle.std.proofs.lemmas.List.{get_or_append_left, get_or-take, get_or-append_right, length-take-le, length-replicate, get_or-replicate}
use Rattle.std.proofs.lemmas.List.{get_or-set_same, get_or-set_other, length-set, reverse-append}
use Rattle.std.proofs.lemmas.Bool.{false≢true}
use Rattle.std.proofs.Math.ListN.{replicate}
use Rattle.op_logic.specs.Term.{Term, var, int, node, Args, no_args, arg, IsWithin, ArgsWithin, occurs}
use Rattle.op_logic.specs.Bind.{Bindings, apply, lookup, follow}
use Rattle.op_logic.specs.Laws.{Acyclic}
use Rattle.op_logic.proofs.BoolCases.{by_test, by_order, if_true, if_false}
use Rattle.op_logic.proofs.AppliedBindings.{eq_of, of_eq}
use Rattle.op_logic.proofs.FollowedTerms.{follow-bound, follow-unbound, follow-int, follow-node}
use Rattle.op_term.specs.Places.{term_at, args_at}
use Rattle.op_term.specs.Head.{head}
use Rattle.op_term.specs.declared.node.Node.{Node}
use Rattle.op_term.specs.declared.node.Node.TheVariants as nodes
use Rattle.op_bind.specs.State.{State, Marked, IsGoodMark, resolved, oldest}
use Rattle.op_bind.specs.Within.{AllWithin}
use Rattle.op_bind.specs.inner.Sound.{IsRanked, AreBound, ref_of, IsSound}

-- variables in range
mutual
  IsWithin-more : (n m : ℕ) → n ≤ m → (t : Term ℕ) → IsWithin n t → IsWithin m t
  IsWithin-more n m l (var v) h = omega (arith, h)
  IsWithin-more n m l (int i) h = tt
  IsWithin-more n m l (node f ts) h = ArgsWithin-more n m l ts h

  ArgsWithin-more : (n m : ℕ) → n ≤ m → (ts : Args ℕ) → ArgsWithin n ts → ArgsWithin m ts
  ArgsWithin-more n m l no_args h = tt
  ArgsWithin-more n m l (arg t ts) h = (IsWithin-more n m l t h.0, ArgsWithin-more n m l ts h.1)

pub AllWithin-more : (n m : ℕ) → n ≤ m → (ts : List (Term ℕ)) → AllWithin n ts → AllWithin m ts
AllWithin-more n m l [] h = tt
AllWithin-more n m l (t ∷ ts) h = (IsWithin-more n m l t h.0, AllWithin-more n m l ts h.1)

pub AllWithin-at : (n : ℕ) (ts : List (Term ℕ)) (i : ℕ) → AllWithin n ts → i < length ts → IsWithin n (term_at ts i)
AllWithin-at n [] i h l = absurd (omega arith)
AllWithin-at n (t ∷ ts) zero h l = h.0
AllWithin-at n (t ∷ ts) (suc i) h l = AllWithin-at n ts i h.1 (omega arith)

pub AllWithin-take : (n k : ℕ) (ts : List (Term ℕ)) → AllWithin n ts → AllWithin n (take k ts)
AllWithin-take n zero ts h = tt
AllWithin-take n (suc k) [] h = tt
AllWithin-take n (suc k) (t ∷ ts) h = (h.0, AllWithin-take n k ts h.1)

pub AllWithin-append : (n : ℕ) (ts us : List (Term ℕ)) → AllWithin n ts → AllWithin n us → AllWithin n (ts ++ us)
AllWithin-append n [] us h k = k
AllWithin-append n (t ∷ ts) us h k = (h.0, AllWithin-append n ts us h.1 k)

-- Refs in range
abbrev pub RefsBelow : ℕ → List (ℕ × ℕ) → Type 0
RefsBelow k [] = Unit {0}
RefsBelow k (p ∷ ps) = (p.1 < k) × RefsBelow k ps

pub refs-there : (n : ℕ) (ts : List (Term ℕ)) (ps : List (ℕ × ℕ)) → AreBound n ts ps → RefsBelow (length ts) ps
refs-there n ts [] h = tt
refs-there n ts (p ∷ ps) h = (h.2, refs-there n ts ps h.0)

pub refs-from : (k : ℕ) (ps : List (ℕ × ℕ)) → All (λ p. p.1 < k) ps → RefsBelow k ps
refs-from k [] h = tt
refs-from k (p ∷ ps) h = (h 0 (0, 0) (omega arith), refs-from k ps (λ i d l. h (suc i) d (omega arith)))

pub refs-all : (k : ℕ) (ps : List (ℕ × ℕ)) → RefsBelow k ps → All (λ p. p.1 < k) ps
refs-all k [] h i d l = absurd (omega arith)
refs-all k (p ∷ ps) h zero d l = h.0
refs-all k (p ∷ ps) h (suc i) d l = refs-all k ps h.1 i d (omega arith)

-- the same terms below k
module _ (k : ℕ) (ts us : List (Term ℕ)) (same : (r : ℕ) → r < k → term_at us r ≡ term_at ts r) where
  pub resolved-same : (ps : List (ℕ × ℕ)) → RefsBelow k ps → resolved us ps ≡ resolved ts ps
  resolved-same [] h = refl
  resolved-same (p ∷ ps) h =
      let a : term_at us p.1 ≡ term_at ts p.1 = same p.1 h.0 in
      let b : resolved us ps ≡ resolved ts ps = resolved-same ps h.1 in
      cc

  pub bound-same : (n : ℕ) (ps : List (ℕ × ℕ)) → k ≤ length us → RefsBelow k ps → AreBound n ts ps → AreBound n us ps
  bound-same n [] l b h = tt
  bound-same n (p ∷ ps) l b h =
      let a : term_at ts p.1 ≡ term_at us p.1 = sym (same p.1 b.0) in
      let q : resolved ts ps ≡ resolved us ps = sym (resolved-same ps b.1) in
      let o : occurs p.0 (apply (resolved us ps) (term_at us p.1)) ≡ occurs p.0 (apply (resolved ts ps) (term_at ts p.1)) = cc in (
        bound-same n ps l b.1 h.0,
        h.1,
        omega (arith, b.0),
        subst (IsRanked p.0) a h.3,
        subst (λ (σ : Bindings ℕ). lookup σ p.0 ≡ None) q h.4,
        o ∙ h.5,
      )

pub bound-more : (n m : ℕ) → n ≤ m → (ts : List (Term ℕ)) (ps : List (ℕ × ℕ)) → AreBound n ts ps → AreBound m ts ps
bound-more n m l ts [] h = tt
bound-more n m l ts (p ∷ ps) h = (bound-more n m l ts ps h.0, omega (arith, h.1), h.2, h.3, h.4, h.5)

pub acyclic : (n : ℕ) (ts : List (Term ℕ)) (ps : List (ℕ × ℕ)) → AreBound n ts ps → Acyclic (resolved ts ps)
acyclic n ts [] h = tt
acyclic n ts (p ∷ ps) h = (acyclic n ts ps h.0, h.4, h.5)

-- the Ref of a variable, and its term
pub unbound-at : (ts : List (Term ℕ)) (ps : List (ℕ × ℕ)) (v : ℕ) → ref_of ps v ≡ None → lookup (resolved ts ps) v ≡ None
unbound-at ts [] v h = refl
unbound-at ts (p ∷ ps) v h =
    by_test (p.0 == v)
    (λ e. let x : Some p.1 ≡ None = sym (if_true (p.0 == v) (Some p.1) (ref_of ps v) e) ∙ h in cc)
    (λ e. if_false (p.0 == v) _ _ e ∙ unbound-at ts ps v (sym (if_false (p.0 == v) (Some p.1) (ref_of ps v) e) ∙ h))

pub ref-none : (ts : List (Term ℕ)) (ps : List (ℕ × ℕ)) (v : ℕ) → lookup (resolved ts ps) v ≡ None → ref_of ps v ≡ None
ref-none ts [] v h = refl
ref-none ts (p ∷ ps) v h =
    by_test (p.0 == v)
    (λ e. let x : Some (term_at ts p.1) ≡ None = sym (if_true (p.0 == v) (Some (term_at ts p.1)) (lookup (resolved ts ps) v) e) ∙ h in cc)
    (λ e. if_false (p.0 == v) _ _ e ∙ ref-none ts ps v (sym (if_false (p.0 == v) (Some (term_at ts p.1)) (lookup (resolved ts ps) v) e)
    ∙ h))

pub record IsBoundTo (ts : List (Term ℕ)) (ps : List (ℕ × ℕ)) (v r : ℕ) : Type 0 where
  pub there : r < length ts
  pub ranked : IsRanked v (term_at ts r)
  pub found : lookup (resolved ts ps) v ≡ Some (term_at ts r)

pub bound-at : (n : ℕ) (ts : List (Term ℕ)) (ps : List (ℕ × ℕ)) (v r : ℕ) → AreBound n ts ps → ref_of ps v ≡ Some r → IsBoundTo ts ps v r
bound-at n ts [] v r h e = cc
bound-at n ts (p ∷ ps) v r h e =
    by_test (p.0 == v)
    (λ q. let x : Some p.1 ≡ Some r = sym (if_true (p.0 == v) (Some p.1) (ref_of ps v) q) ∙ e in
    let i : p.1 ≡ r = cc in
    let j : p.0 ≡ v = eq_of p.0 v q in
    record {
      there = subst (λ (m : ℕ). m < length ts) i h.2;
      ranked = subst (λ (m : ℕ). IsRanked m (term_at ts r)) j (subst (λ (m : ℕ). IsRanked p.0 (term_at ts m)) i h.3);
      found = if_true (p.0 == v) _ _ q ∙ ap (λ m. Some (term_at ts m)) i;
    })
    (λ q. let b = bound-at n ts ps v r h.0 (sym (if_false (p.0 == v) (Some p.1) (ref_of ps v) q) ∙ e) in
    record { there = b.there; ranked = b.ranked; found = if_false (p.0 == v) _ _ q ∙ b.found })

pub bound-small : (n : ℕ) (ts : List (Term ℕ)) (ps : List (ℕ × ℕ)) (v : ℕ) → AreBound n ts ps → n ≤ v → ref_of ps v ≡ None
bound-small n ts [] v h l = refl
bound-small n ts (p ∷ ps) v h l =
    by_test (p.0 == v)
    (λ e. absurd (omega (arith, eq_of p.0 v e, h.1)))
    (λ e. if_false (p.0 == v) _ _ e ∙ bound-small n ts ps v h.0 l)

-- the calls keep it all
pub sound-fresh : (ts : List (Term ℕ)) (ps : List (ℕ × ℕ)) (table new : List (Option ℕ)) (n : ℕ) → IsSound ts ps table
    → new ≡ table ++ replicate n None → IsSound ts ps new
sound-fresh ts ps table new n s e =
    let len : length new ≡ length table + n = ap length e ∙ (length-append table (replicate n None)
    ∙ ap (λ m. length table + m) (length-replicate n None)) in
    let l : length table ≤ length new = omega arith in
    record {
      within = AllWithin-more (length table) (length new) l ts s.within;
      are_bound = bound-more (length table) (length new) l ts ps s.are_bound;
      looked_up = λ v d h.
          ap (λ (t : List (Option ℕ)). get_or t v d) e
          ∙ by_order v (length table)
          (λ k. get_or_append_left table (replicate n None) d v k ∙ s.looked_up v d k)
          (λ k. get_or-append_right table (replicate n None) (length table) v d refl k
          ∙ (get_or-replicate n (v - length table) None d (omega arith) ∙ sym (bound-small (length table) ts ps v s.are_bound k)));
    }

pub sound-cut : (ts : List (Term ℕ)) (ps : List (ℕ × ℕ)) (table : List (Option ℕ)) (k : ℕ) → IsSound ts ps table → k ≤ length ts
    → All (λ p. p.1 < k) ps → IsSound (take k ts) ps table
sound-cut ts ps table k s l b =
    record {
      within = AllWithin-take (length table) k ts s.within;
      are_bound = bound-same k ts (take k ts) (λ r h. get_or-take k ts r (int (pos 0)) h) (length table) ps
          (omega (arith, length-take-le k ts l)) (refs-from k ps b) s.are_bound;
      looked_up = s.looked_up;
    }

pub sound-append : (ts us : List (Term ℕ)) (ps : List (ℕ × ℕ)) (table : List (Option ℕ)) → IsSound ts ps table
    → AllWithin (length table) us → IsSound (ts ++ us) ps table
sound-append ts us ps table s w =
    record {
      within = AllWithin-append (length table) ts us s.within w;
      are_bound = bound-same (length ts) ts (ts ++ us) (λ r h. get_or_append_left ts us (int (pos 0)) r h) (length table) ps
          (omega (arith, length-append ts us)) (refs-there (length table) ts ps s.are_bound) s.are_bound;
      looked_up = s.looked_up;
    }

-- the newest binding is undone
pub sound-unbind : (ts : List (Term ℕ)) (p : ℕ × ℕ) (ps : List (ℕ × ℕ)) (table new : List (Option ℕ)) → IsSound ts (p ∷ ps) table
    → new ≡ set table p.0 None → IsSound ts ps new
sound-unbind ts p ps table new s e =
    let len : length table ≡ length new = sym (ap length e ∙ length-set table p.0 None) in
    record {
      within = subst (λ (n : ℕ). AllWithin n ts) len s.within;
      are_bound = subst (λ (n : ℕ). AreBound n ts ps) len s.are_bound.0;
      looked_up = λ v d h.
          let b : AreBound (length table) ts (p ∷ ps) = s.are_bound in
          by_test (p.0 == v)
          (λ q. let j : v ≡ p.0 = sym (eq_of p.0 v q) in
          let x : get_or new v d ≡ None = ap (λ (t : List (Option ℕ)). get_or t v d) e ∙ (ap (λ m. get_or (set table p.0 None) m d) j
          ∙ get_or-set_same table p.0 None d b.1) in
          x ∙ sym (ap (ref_of ps) j ∙ ref-none ts ps p.0 b.4))
          (λ q. let n : v ≢ p.0 = λ i. false≢true (sym q ∙ of_eq p.0 v (sym i)) in
          ap (λ (t : List (Option ℕ)). get_or t v d) e
          ∙ (get_or-set_other table p.0 v None d n ∙ (s.looked_up v d (omega arith) ∙ if_false (p.0 == v) _ _ q)));
    }

-- how far following may still go from a term: it only goes down
abbrev pub rank : Term ℕ → ℕ
rank (var v) = suc v
rank (int i) = 0
rank (node f ts) = 0

pub rank-falls : (v : ℕ) (t : Term ℕ) → IsRanked v t → rank t < suc v
rank-falls v (var w) h = omega (arith, h)
rank-falls v (int i) h = omega arith
rank-falls v (node f ts) h = omega arith

pub take-over : {A : Type 0} (n : ℕ) (xs : List A) → length xs ≤ n → take n xs ≡ xs
take-over zero [] h = refl
take-over (suc n) [] h = refl
take-over zero (x ∷ xs) h = absurd (omega arith)
take-over (suc n) (x ∷ xs) h = ap (λ ys. x ∷ ys) (take-over n xs (omega arith))

-- a stack that is seen from its top
pub reverse-push : {A : Type 0} (xs : List A) (x : A) → reverse (xs ++ x ∷ []) ≡ x ∷ reverse xs
reverse-push xs x = reverse-append xs (x ∷ [])

pub mark-good : (s : State) (m : Marked) → m.terms ≡ length s.terms → m.bound ≡ length s.bound
    → RefsBelow (length s.terms) s.bound → IsGoodMark s m
mark-good s m t b r =
    let z : length s.bound - m.bound ≡ 0 = omega arith in
    let e : oldest m.bound s.bound ≡ s.bound = ap (λ (k : ℕ). drop k s.bound) z in
    let a : All (λ p. p.1 < m.terms) s.bound = refs-all m.terms s.bound (subst (λ (k : ℕ). RefsBelow k s.bound) (sym t) r) in
    record {
      terms_there = omega arith;
      bound_there = omega arith;
      bound_below = subst (λ (ps : List (ℕ × ℕ)). All (λ p. p.1 < m.terms) ps) (sym e) a;
    }

-- a node that is followed
pub var-of : (t : Term ℕ) (v : ℕ) → nodes.Var v ≡ head t → t ≡ var v
var-of (var w) v h = let e : v ≡ w = cc in cc
var-of (int i) v h = cc
var-of (node f no_args) v h = cc
var-of (node f (arg t ts)) v h = cc

follow-other : (σ : Bindings ℕ) (t : Term ℕ) → ((v : ℕ) → head t ≡ nodes.Var v → ⊥) → t ≡ follow σ t
follow-other σ (var w) h = absurd (h w refl)
follow-other σ (int i) h = sym (follow-int σ i)
follow-other σ (node f ts) h = sym (follow-node σ f ts)

module _ (ts : List (Term ℕ)) (ps : List (ℕ × ℕ)) (table : List (Option ℕ)) (s : IsSound ts ps table) (at : ℕ)
    (there : at < length ts) where
  pub chain-index : (v : ℕ) → nodes.Var v ≡ head (term_at ts at) → v < length table
  chain-index v h =
      let w : IsWithin {N = ℕ} (length table) (var v) = subst (λ (t : Term ℕ). IsWithin (length table) t) (var-of (term_at ts at) v h)
      (AllWithin-at (length table) ts at s.within there) in w

  pub chain-other : (n : Node) → n ≡ head (term_at ts at) → ((v : ℕ) → n ≡ nodes.Var v → ⊥)
      → term_at ts at ≡ follow (resolved ts ps) (term_at ts at)
  chain-other n e h = follow-other (resolved ts ps) (term_at ts at) (λ v q. h v (e ∙ q))

  pub chain-free : (v : ℕ) (d : Option ℕ) → nodes.Var v ≡ head (term_at ts at) → None ≡ get_or table v d
      → term_at ts at ≡ follow (resolved ts ps) (term_at ts at)
  chain-free v d h e =
      let t : term_at ts at ≡ var v = var-of (term_at ts at) v h in
      let r : ref_of ps v ≡ None = sym (s.looked_up v d (chain-index v h)) ∙ sym e in
      let f : follow (resolved ts ps) (var v) ≡ var v = follow-unbound (resolved ts ps) v (unbound-at ts ps v r) in
      t ∙ (sym f ∙ ap (follow (resolved ts ps)) (sym t))

  pub record IsNext (next : ℕ) : Type 0 where
    pub within : next < length ts
    pub falls : rank (term_at ts next) < rank (term_at ts at)
    pub same : follow (resolved ts ps) (term_at ts next) ≡ follow (resolved ts ps) (term_at ts at)

  pub chain-next : (v next : ℕ) (d : Option ℕ) → nodes.Var v ≡ head (term_at ts at) → Some next ≡ get_or table v d → IsNext next
  chain-next v next d h e =
      let t : term_at ts at ≡ var v = var-of (term_at ts at) v h in
      let r : ref_of ps v ≡ Some next = sym (s.looked_up v d (chain-index v h)) ∙ sym e in
      let b = bound-at (length table) ts ps v next s.are_bound r in
      let f : follow (resolved ts ps) (var v) ≡ follow (resolved ts ps) (term_at ts next) =
      follow-bound (resolved ts ps) v (term_at ts next) (acyclic (length table) ts ps s.are_bound) b.found in
      record {
        within = b.there;
        falls = omega (arith, rank-falls v (term_at ts next) b.ranked, ap rank t);
        same = sym f ∙ ap (follow (resolved ts ps)) (sym t);
      }

pub args-within : (n : ℕ) (ts : List (Term ℕ)) → AllWithin n ts → (ps : List ℕ) → All (λ p. p < length ts) ps → ArgsWithin n (args_at ts ps)
args-within n ts h [] l = tt
args-within n ts h (p ∷ ps) l = (AllWithin-at n ts p h (l 0 0 (omega arith)), args-within n ts h ps (λ k d m. l (suc k) d (omega arith)))

-- terms that join change no binding
pub bindings-kept : (n : ℕ) (ts us new : List (Term ℕ)) (ps : List (ℕ × ℕ)) → AreBound n ts ps → new ≡ ts ++ us
    → resolved new ps ≡ resolved ts ps
bindings-kept n ts us new ps b e =
    ap (λ (xs : List (Term ℕ)). resolved xs ps) e
    ∙ resolved-same (length ts) ts (ts ++ us) (λ r h. get_or_append_left ts us (int (pos 0)) r h) ps (refs-there n ts ps b)
