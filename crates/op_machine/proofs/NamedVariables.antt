-- Refs to the variables that have names.
use Rattle.std.proofs.Common.{◌≡◌, ℕ, zero, suc, ◌+◌, ◌<◌, ◌≤◌, List, [], ◌∷◌, ◌++◌, length, take, get_or, pos, refl, sym, ap, ◌∙◌, subst}
use Rattle.std.proofs.Common.{arith}
use Rattle.std.proofs.lemmas.List.{take_more, get_or-take, length-take-le}
use Rattle.op_logic.specs.Term.{Term, var, int}
use Rattle.op_term.specs.Places.{term_at}
use Rattle.op_bind.specs.State.{State}
use Rattle.op_bind.specs.Grown.{Grows}
use Rattle.op_bind.proofs.StateGrowth.{term-stays}
use Rattle.op_reader.specs.Reading.{AreCounted}
use Rattle.op_machine.specs.inner.Invariant.{AreValues}

pub values-stay : (a b : State) (rs : List ℕ) (ps : List (List ℕ × ℕ)) → Grows a b → AreValues a.terms rs ps → AreValues b.terms rs ps
values-stay a b [] [] g v = tt
values-stay a b [] (p ∷ ps) g v = v
values-stay a b (r ∷ rs) [] g v = v
values-stay a b (r ∷ rs) (p ∷ ps) g v = (omega (arith, v.0, g.terms_there), term-stays a b g r v.0 ∙ v.1, values-stay a b rs ps g v.2)

values-push-one : (ts : List (Term ℕ)) (rs : List ℕ) (ps : List (List ℕ × ℕ)) (r : ℕ) (p : List ℕ × ℕ) → AreValues ts rs ps → r < length ts
    → term_at ts r ≡ var p.1 → AreValues ts (rs ++ r ∷ []) (ps ++ p ∷ [])
values-push-one ts [] [] r p v there value = (there, value, tt)
values-push-one ts [] (q ∷ ps) r p v there value = absurd v
values-push-one ts (s ∷ rs) [] r p v there value = absurd v
values-push-one ts (s ∷ rs) (q ∷ ps) r p v there value = (v.0, v.1, values-push-one ts rs ps r p v.2 there value)

-- one more
pub values-push : (a b : State) (rs : List ℕ) (ps : List (List ℕ × ℕ)) (i r : ℕ) → Grows a b → AreValues a.terms rs (take i ps)
    → i < length ps → r < length b.terms → term_at b.terms r ≡ var (get_or ps i ([], 0)).1
    → AreValues b.terms (rs ++ r ∷ []) (take (i + 1) ps)
values-push a b rs ps i r g v inside there value =
    subst (AreValues b.terms (rs ++ r ∷ [])) (sym (take_more ps i ([], 0) inside))
    (values-push-one b.terms rs (take i ps) r (get_or ps i ([], 0)) (values-stay a b rs (take i ps) g v) there value)

-- the variable at a place
pub value-at : (ts : List (Term ℕ)) (rs : List ℕ) (ps : List (List ℕ × ℕ)) (i d : ℕ) → AreValues ts rs ps → i < length ps → (i < length rs)
    × (get_or rs i d < length ts) × (term_at ts (get_or rs i d) ≡ var (get_or ps i ([], 0)).1)
value-at ts [] [] i d v h = absurd (omega arith)
value-at ts [] (p ∷ ps) i d v h = absurd v
value-at ts (r ∷ rs) [] i d v h = absurd v
value-at ts (r ∷ rs) (p ∷ ps) zero d v h = (omega arith, v.0, v.1)
value-at ts (r ∷ rs) (p ∷ ps) (suc i) d v h = let k = value-at ts rs ps i d v.2 (omega arith) in (omega (arith, k.0), k.1, k.2)

pub values-length : (ts : List (Term ℕ)) (rs : List ℕ) (ps : List (List ℕ × ℕ)) → AreValues ts rs ps → length rs ≡ length ps
values-length ts [] [] v = refl
values-length ts [] (p ∷ ps) v = absurd v
values-length ts (r ∷ rs) [] v = absurd v
values-length ts (r ∷ rs) (p ∷ ps) v = ap suc (values-length ts rs ps v.2)

-- what holds of the first terms holds of all
pub values-all : (ts : List (Term ℕ)) (n : ℕ) (rs : List ℕ) (ps : List (List ℕ × ℕ)) → n ≤ length ts → AreValues (take n ts) rs ps
    → AreValues ts rs ps
values-all ts n [] [] h v = tt
values-all ts n [] (p ∷ ps) h v = v
values-all ts n (r ∷ rs) [] h v = v
values-all ts n (r ∷ rs) (p ∷ ps) h v =
    let l : length (take n ts) ≡ n = length-take-le n ts h in
    let there : r < n = omega (arith, v.0) in
    (omega (arith, there), sym (get_or-take n ts r (int (pos 0)) there) ∙ v.1, values-all ts n rs ps h v.2)

-- each name's variable was given out
pub counted-at : (n : ℕ) (ps : List (List ℕ × ℕ)) (i : ℕ) (d : List ℕ × ℕ) → AreCounted n ps → i < length ps → (get_or ps i d).1 < n
counted-at n [] i d a h = absurd (omega arith)
counted-at n (p ∷ ps) zero d a h = a.0
counted-at n (p ∷ ps) (suc i) d a h = counted-at n ps i d a.1 (omega arith)
