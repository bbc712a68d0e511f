-- The integers of a builder's nodes and of their terms.
use Rattle.std.proofs.Common.{◌<◌, ◌^◌, ℕ, zero, suc, ℤ, pos, negsuc, List, [], ◌∷◌, ◌++◌, take, sym, subst, arith, w64}
use Rattle.std.proofs.lemmas.Int.{to_z-of_z}
use mir.Val.{to_z, of_z, SFits}
use Rattle.op_logic.specs.Term.{Term}
use Rattle.op_term.specs.Integers.{IsSmall, HasSmallIntegers, HaveSmallIntegers}
use Rattle.op_term.specs.Places.{term_at, args_at}
use Rattle.op_term.specs.inner.Cells.{shaped, parts_of, terms_after, terms_of, IsSmallShape, HaveSmallShapes}
use Rattle.op_term.specs.declared.builder.Cell.{Cell}
use Rattle.op_term.specs.declared.builder.Shape.{Shape}
use Rattle.op_term.specs.declared.builder.Shape.TheVariants.{Var, Int, Named}

pub fitting : (z : ℤ) → SFits w64 z → IsSmall z
fitting (pos n) h = h.sfits
fitting (negsuc n) h = h.sfits

-- an integer that was passed in its bits
pub passed : (z : ℤ) → SFits w64 z → IsSmall (to_z w64 (of_z w64 z))
passed z h = subst IsSmall (sym (to_z-of_z w64 z h)) (fitting z h)

pub small-push : (cs : List Cell) (c : Cell) → HaveSmallShapes cs → IsSmallShape c.shape → HaveSmallShapes (cs ++ c ∷ [])
small-push [] c h s = (s, tt)
small-push (d ∷ cs) c h s = (h.0, small-push cs c h.1 s)

pub small-take : (n : ℕ) (cs : List Cell) → HaveSmallShapes cs → HaveSmallShapes (take n cs)
small-take zero cs h = tt
small-take (suc n) [] h = tt
small-take (suc n) (c ∷ cs) h = (h.0, small-take n cs h.1)

-- the term at each number has small integers; past the end it is 0
abbrev AreSmall : List (Term ℕ) → Type 0
AreSmall ts = (i : ℕ) → HasSmallIntegers (term_at ts i)

zero-small : IsSmall (pos 0)
zero-small = let z : 0 < 2 ^ 63 = omega arith in z

none-small : AreSmall []
none-small i = zero-small

joined : (ts : List (Term ℕ)) (t : Term ℕ) → AreSmall ts → HasSmallIntegers t → AreSmall (ts ++ t ∷ [])
joined [] t h s zero = s
joined [] t h s (suc i) = zero-small
joined (u ∷ ts) t h s zero = h 0
joined (u ∷ ts) t h s (suc i) = joined ts t (λ k. h (suc k)) s i

args-small : (ts : List (Term ℕ)) → AreSmall ts → (ps : List ℕ) → HaveSmallIntegers (args_at ts ps)
args-small ts h [] = tt
args-small ts h (p ∷ ps) = (h p, args-small ts h ps)

shaped-small : (ts : List (Term ℕ)) → AreSmall ts → (ps : List ℕ) (s : Shape) → IsSmallShape s → HasSmallIntegers (shaped ts ps s)
shaped-small ts h ps (Var n) s = tt
shaped-small ts h ps (Int i) s = s
shaped-small ts h ps (Named f n) s = args-small ts h ps

after-small : (ts : List (Term ℕ)) (parts : List ℕ) (cs : List Cell) → AreSmall ts → HaveSmallShapes cs
    → AreSmall (terms_after ts parts cs)
after-small ts parts [] h s = h
after-small ts parts (c ∷ cs) h s =
    let ps = parts_of parts c in
    after-small (ts ++ shaped ts ps c.shape ∷ []) parts cs
    (joined ts (shaped ts ps c.shape) h (shaped-small ts h ps c.shape s.0)) s.1

pub terms-small : (parts : List ℕ) (cs : List Cell) → HaveSmallShapes cs → (i : ℕ) → HasSmallIntegers (term_at (terms_of parts cs) i)
terms-small parts cs h = after-small [] parts cs none-small h
