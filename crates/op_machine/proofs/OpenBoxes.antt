-- Boxes that are open in one another: whether one is among them, and which are around it.
use Rattle.std.proofs.Common.{◌≡◌, ◌≢◌, ℕ, zero, suc, ◌<◌, ◌==◌, Bool, true, false, List, [], ◌∷◌, ◌||◌, map, All}
use Rattle.std.proofs.Common.{refl, sym, ap, ◌∙◌, subst, arith, if◌then◌else◌}
use Rattle.std.proofs.lemmas.Bool.Decides.{nat_tests}
use Rattle.op_trace.specs.World.{open_boxes}
use Rattle.op_trace.specs.Visit.{is_open, around}
use Rattle.op_frames.specs.Frames.{Framed, open_from, AreFalling}
use Rattle.op_machine.specs.declared.choice_points.Alternative.{Alternative}
use Rattle.op_machine.specs.declared.continuations.Item.{Item}
use Rattle.op_machine.specs.declared.continuations.Item.TheVariants as item
use Rattle.op_machine.specs.declared.core_state.Core.{Core}
use Rattle.op_machine.specs.Meaning.{level_in, items_now, open_in}
use Rattle.op_machine.specs.inner.Boxes.{exits}
use Rattle.op_machine.specs.inner.Continuations.{continuation_in, opened}
use Rattle.op_machine.specs.inner.Invariant.{HasCalled}
use Rattle.op_machine.proofs.EventLaws.{open_boxes-items}

abbrev numbers : List (ℕ × ℕ) → List ℕ
numbers ps = map (λ (p : ℕ × ℕ). p.0) ps

-- the numbers in the exits and the executions of a continuation are its open boxes
pub opened-numbers : (I : List Item) → map (λ (p : ℕ × ℕ). p.0) (exits I) ≡ opened I
opened-numbers [] = refl
opened-numbers (item.Goal g m ∷ I) = opened-numbers I
opened-numbers (item.Cut m ∷ I) = opened-numbers I
opened-numbers (item.Exit k g ∷ I) = ap (λ (ks : List ℕ). k ∷ ks) (opened-numbers I)
opened-numbers (item.Execute k g ∷ I) = ap (λ (ks : List ℕ). k ∷ ks) (opened-numbers I)
opened-numbers (item.Recover k g ∷ I) = ap (λ (ks : List ℕ). k ∷ ks) (opened-numbers I)

-- in a box that was called before a continuation, it is open, and so are the boxes of the continuation
pub open-called : (c : Core) (k g n : ℕ) → HasCalled c k g n → open_in c.frames k ≡ k ∷ open_boxes (items_now c n)
open-called c k g n h =
    let I : List Item = continuation_in c.continuations n in
    ap numbers h.chain ∙ ap (λ (ks : List ℕ). k ∷ ks) (opened-numbers I ∙ sym (open_boxes-items c.store (level_in c) I))

-- no box is open where none was called
pub none-open : (x : Framed Alternative) (call at : ℕ) → open_from x.boxes at ≡ [] → is_open call (open_in x at) ≡ false
none-open x call at e = ap (λ (ps : List (ℕ × ℕ)). is_open call (numbers ps)) e

-- none of lesser numbers is one of a greater number
lower-numbers : (call : ℕ) (ps : List (ℕ × ℕ)) → All (λ (q : ℕ × ℕ). q.0 < call) ps → is_open call (numbers ps) ≡ false
lower-numbers call [] a = refl
lower-numbers call (p ∷ ps) a =
    let l : p.0 < call = a 0 p (omega arith) in
    let e : (p.0 == call) ≡ false = grind (arith, nat_tests) in
    ap (λ (b : Bool). b || is_open call (numbers ps)) e ∙ lower-numbers call ps (λ i d h. a (suc i) d (omega arith))

module _ (x : Framed Alternative) (call at outer goal : ℕ) (chain : open_from x.boxes at ≡ (at, goal) ∷ open_from x.boxes outer) where
  -- the box itself
  pub here-open : at ≡ call → is_open call (open_in x at) ≡ true
  here-open is =
      let t : (at == call) ≡ true = grind (arith, nat_tests) in
      ap (λ (ps : List (ℕ × ℕ)). is_open call (numbers ps)) chain ∙ ap (λ (b : Bool). b || is_open call (open_in x outer)) t

  pub here-around : at ≡ call → open_in x outer ≡ around call (open_in x at)
  here-around is =
      let t : (at == call) ≡ true = grind (arith, nat_tests) in
      sym (ap (λ (ps : List (ℕ × ℕ)). around call (numbers ps)) chain
      ∙ ap (λ (b : Bool). if b then open_in x outer else around call (open_in x outer)) t)

  -- behind another box all is as it was
  pub open-behind : at ≢ call → is_open call (open_in x outer) ≡ is_open call (open_in x at)
  open-behind other =
      let t : (at == call) ≡ false = grind (arith, nat_tests) in
      sym (ap (λ (ps : List (ℕ × ℕ)). is_open call (numbers ps)) chain ∙ ap (λ (b : Bool). b || is_open call (open_in x outer)) t)

  pub around-behind : at ≢ call → around call (open_in x outer) ≡ around call (open_in x at)
  around-behind other =
      let t : (at == call) ≡ false = grind (arith, nat_tests) in
      sym (ap (λ (ps : List (ℕ × ℕ)). around call (numbers ps)) chain
      ∙ ap (λ (b : Bool). if b then open_in x outer else around call (open_in x outer)) t)

  -- the boxes around a box have lesser numbers
  pub lower-open : at < call → AreFalling (open_from x.boxes at) → is_open call (open_in x at) ≡ false
  lower-open less falls =
      let f : AreFalling ((at, goal) ∷ open_from x.boxes outer) = subst AreFalling chain falls in
      ap (λ (ps : List (ℕ × ℕ)). is_open call (numbers ps)) chain
      ∙ lower-numbers call ((at, goal) ∷ open_from x.boxes outer) (below f.0)
    where
      below : All (λ (q : ℕ × ℕ). q.0 < at) (open_from x.boxes outer)
          → All (λ (q : ℕ × ℕ). q.0 < call) ((at, goal) ∷ open_from x.boxes outer)
      below a zero d h = less
      below a (suc i) d h = let l : _ = a i d (omega arith) in omega (arith, l, less)
