-- States that follow one another.
use Rattle.std.proofs.Common.{◌≡◌, ℕ, zero, suc, ◌-◌, ◌<◌, ◌≤◌, List, [], ◌∷◌, length, take, drop, All, pos, sym, ◌∙◌, ap, subst, refl}
use Rattle.std.proofs.Common.{arith}
use Rattle.std.proofs.lemmas.List.{get_or-take}
use Rattle.std.proofs.Math.Seq.{take-length}
use Rattle.op_logic.specs.Term.{Term, int}
use Rattle.op_term.specs.Places.{term_at}
use Rattle.op_bind.specs.State.{State, Marked, mark_of, undone, bindings, resolved, oldest, IsGoodMark}
use Rattle.op_bind.specs.Grown.{Grows}
use Rattle.op_bind.proofs.BindingsInvariant.{RefsBelow, refs-from, resolved-same}
use Rattle.op_bind.proofs.UnificationLoop.{oldest-oldest}

take-within : {A : Type 0} (n m : ℕ) (xs : List A) → n ≤ m → take n (take m xs) ≡ take n xs
take-within zero m xs h = refl
take-within (suc n) zero xs h = absurd (omega arith)
take-within (suc n) (suc m) [] h = refl
take-within (suc n) (suc m) (x ∷ xs) h = ap (λ ys. x ∷ ys) (take-within n m xs (omega arith))

pub grows-self : (s : State) → Grows s s
grows-self s =
    let z : length s.bound - length s.bound ≡ 0 = omega arith in
    record {
      terms_there = omega arith;
      terms = take-length s.terms;
      bound_there = omega arith;
      bound = ap (λ (k : ℕ). drop k
          s.bound) z;
      count = omega arith;
    }

pub grows-grows : (a b c : State) → Grows a b → Grows b c → Grows a c
grows-grows a b c h k =
    record {
      terms_there = omega (arith, h.terms_there, k.terms_there);
      terms = sym (take-within (length a.terms) (length b.terms) c.terms h.terms_there) ∙ (ap (take (length a.terms)) k.terms ∙ h.terms);
      bound_there = omega (arith, h.bound_there, k.bound_there);
      bound = sym (oldest-oldest (length a.bound) (length b.bound) c.bound h.bound_there k.bound_there)
          ∙ (ap (oldest (length a.bound)) k.bound ∙ h.bound);
      count = omega (arith, h.count, k.count);
    }

-- a Ref's term never changes
pub term-stays : (a b : State) → Grows a b → (r : ℕ) → r < length a.terms → term_at b.terms r ≡ term_at a.terms r
term-stays a b h r l =
    sym (get_or-take (length a.terms) b.terms r (int (pos 0)) l) ∙ ap (λ (ts : List (Term ℕ)). term_at ts r) h.terms

-- a good mark stays good
pub mark-stays : (a b : State) (m : Marked) → IsGoodMark a m → Grows a b → IsGoodMark b m
mark-stays a b m g h =
    let e : oldest m.bound b.bound ≡ oldest m.bound a.bound =
    sym (oldest-oldest m.bound (length a.bound) b.bound g.bound_there h.bound_there) ∙ ap (oldest m.bound) h.bound in
    record {
      terms_there = omega (arith, g.terms_there, h.terms_there);
      bound_there = omega (arith, g.bound_there, h.bound_there);
      bound_below = subst (λ (ps : List (ℕ × ℕ)). All (λ p. p.1 < m.terms) ps) (sym e) g.bound_below;
    }

-- undoing gives what there was at the mark
pub undone-later : (a b : State) → Grows a b → undone b (mark_of a) ≡ record a { count = b.count }
undone-later a b h = let t = h.terms in let e = h.bound in cc

oldest-all : (ps : List (ℕ × ℕ)) → oldest (length ps) ps ≡ ps
oldest-all ps = let z : length ps - length ps ≡ 0 = omega arith in ap (λ (k : ℕ). drop k ps) z

pub refs-of-mark : (a : State) → IsGoodMark a (mark_of a) → RefsBelow (length a.terms) a.bound
refs-of-mark a g =
    refs-from (length a.terms) a.bound (subst (λ (ps : List (ℕ × ℕ)). All (λ p. p.1 < length a.terms) ps)
    (oldest-all a.bound) g.bound_below)

-- the same bindings, where only terms were added
pub bindings-stay : (a b : State) → Grows a b → b.bound ≡ a.bound → RefsBelow (length a.terms) a.bound → bindings b ≡ bindings a
bindings-stay a b h e r =
    ap (resolved b.terms) e ∙ resolved-same (length a.terms) a.terms b.terms (λ k l. term-stays a b h k l) a.bound r
