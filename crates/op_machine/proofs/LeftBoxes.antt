-- A ball leaves the next open box: the machine goes back to the box's choice point, and the box shows the ball there. Where no open box
-- has a choice point, the ball has left all boxes.
use Rattle.std.proofs.Common.{◌≡◌, ℕ, ◌+◌, ◌<◌, ◌≤◌, true, List, [], ◌∷◌, length, map, take, reverse, refl, sym, ap, ◌∙◌, subst, arith}
use Rattle.op_logic.specs.Term.{Term}
use Rattle.op_trace.specs.Database.{Text}
use Rattle.op_trace.specs.World.{World}
use Rattle.op_trace.specs.Visit as visit
use Rattle.op_trace.specs.Visit.{is_open, around}
use Rattle.op_trace.specs.Act.{Setup}
use Rattle.op_store.specs.Stored.{Stored}
use Rattle.op_machine.specs.declared.continuations.Item.{Item}
use Rattle.op_machine.specs.declared.choice_points.ChoiceKind.TheVariants as kind
use Rattle.op_frames.specs.declared.boxes.BoxFrame.{BoxFrame}
use Rattle.op_frames.specs.Frames.{Framed, open_from}
use Rattle.op_machine.specs.declared.choice_points.ChoiceKind.{ChoiceKind}
use Rattle.op_machine.specs.declared.choice_points.Alternative.{Alternative}
use Rattle.op_machine.specs.declared.core_state.Core.{Core}
use Rattle.op_machine.specs.declared.core_state.Mode.TheVariants as mode
use Rattle.op_machine.specs.declared.core_state.Outcome.TheVariants as outcome
use Rattle.op_machine.specs.declared.core_state.Step.{Step}
use Rattle.op_machine.specs.declared.core_state.Step.TheVariants as step
use Rattle.op_machine.specs.declared.throwing.Leaving.{Leaving}
use Rattle.op_machine.specs.Meaning.{Frame, Level, level_at, level_in, choice_point_by, choice_points_of, choice_points_in, open_in}
use Rattle.op_machine.specs.Meaning.{setup_of, world_in, state_of, term_in, bindings_in, items_in, ball_text}
use Rattle.op_machine.specs.Resume.{Over, Moved, silent, raised, ball_met, leaving}
use Rattle.op_machine.specs.inner.Barriers.{left_to}
use Rattle.op_machine.specs.inner.Boxes.{boxes_before, AreBoxed, IsTried}
use Rattle.op_machine.specs.inner.Invariant.{IsGood, IsMode, IsEarlier, IsFrame}
use Rattle.op_machine.specs.inner.Leaving.{left_frames, IsOwn, IsLeft, BeginsLeft, box_reached}
use Rattle.op_machine.specs.inner.Moves.{Advances, ball_moved}
use Rattle.op_machine.proofs.AdvanceLaws.{silent-advances, advances-from}
use Rattle.op_machine.proofs.InvariantLaws.{restored, Stays, restored-good, popped-frame, popped-tried}
use Rattle.op_machine.proofs.LeavingLaws.{left-choice_points, left_moved-good, left_moved-choice_points}
use Rattle.op_machine.proofs.LeavingMoves.{leaving-left, leaving-open, leaving-caught}

-- the choice points that are left, the last first
pub left-cut : (x y : Framed Alternative) (k : ℕ) (o : List ℕ) → y ≡ record x { choices = take k x.choices }
    → reverse (take k x.choices) ≡ left_frames o (reverse x.choices) → reverse y.choices ≡ left_frames o (reverse x.choices)
left-cut x y k o e left = ap (λ (z : Framed Alternative). reverse z.choices) e ∙ left

-- the boxes stay
pub boxes-cut : (x y : Framed Alternative) (k : ℕ) → y ≡ record x { choices = take k x.choices } → y.boxes ≡ x.boxes
boxes-cut x y k e = ap (λ (z : Framed Alternative). z.boxes) e

-- the choice points that a ball leaves were cut to, and the last of them was taken, which is that of the box that is left
pub record IsTaken (old popped : Core) (y : Framed Alternative) (f : Frame) (inner call outer : ℕ) : Type 0 where
  pub good : IsGood old
  pub boxes : y.boxes ≡ old.frames.boxes
  pub left : reverse y.choices ≡ left_frames (open_in old.frames inner) (reverse old.frames.choices)
  pub first : reverse y.choices ≡ f ∷ reverse popped.frames.choices
  pub rest : popped ≡ record old { frames = popped.frames }
  pub same : popped.frames.boxes ≡ y.boxes
  pub leaves : IsLeft old.frames inner call outer f

pub taken : (old popped : Core) (y : Framed Alternative) (f : Frame) (inner : ℕ) (l : Leaving) → IsGood old
    → y ≡ record old.frames { choices = take l.kept old.frames.choices }
    → reverse (take l.kept old.frames.choices) ≡ left_frames (open_in old.frames inner) (reverse old.frames.choices)
    → BeginsLeft old.frames inner l (reverse (take l.kept old.frames.choices))
    → reverse y.choices ≡ f ∷ reverse popped.frames.choices → popped ≡ record old { frames = popped.frames }
    → popped.frames.boxes ≡ y.boxes → IsTaken old popped y f inner l.call l.around
taken old popped y f inner l good cut left begins first rest same = record {
  good = good;
  boxes = boxes-cut old.frames y l.kept cut;
  left = left-cut old.frames y l.kept (open_in old.frames inner) cut left;
  first = first;
  rest = rest;
  same = same;
  leaves = subst (BeginsLeft old.frames inner l) (sym (ap (λ (z : Framed Alternative). reverse z.choices) cut) ∙ first) begins;
}

-- the box of a choice point that a ball comes to had been called when it was made
own-called : (B : List BoxFrame) (calls : ℕ) (L : List (List Item)) (q : ChoiceKind) (g n call : ℕ) → IsOwn call q
    → IsTried B calls L q g n → call ≤ calls
own-called B calls L (kind.Redo k) g n call o t = absurd o
own-called B calls L (kind.Branch m) g n call o t = absurd o
own-called B calls L (kind.More k rs i) g n call o t = absurd o
own-called B calls L (kind.Fail k) g n call o t = omega (arith, o, t)
own-called B calls L (kind.Catch k) g n call o t = omega (arith, o, t.given)
own-called B calls L (kind.Condition c m) g n call o t = absurd o

-- a ball comes to an open box
module _ (s : Setup) (t : Stored) (b : Term Text) (o : List ℕ) (w : World) (u : Level) (g n call : ℕ) (K : List visit.Choice)
    (among : is_open call o ≡ true) where
  -- what comes of it, with these boxes around
  abbrev pub reached : ChoiceKind → List ℕ → Moved
  reached (kind.Catch k) p = ball_met s call (term_in t u g) (bindings_in t u) (items_in t u n) K b p w
  reached q p = raised call (term_in t u g) (bindings_in t u) (items_in t u n) K b p w

  pub leaving-reached : (q : ChoiceKind) → IsOwn call q → leaving s b o (choice_point_by t u q g n ∷ K) w ≡ reached q (around call o)
  leaving-reached (kind.Redo k) own = absurd own
  leaving-reached (kind.Branch m) own = absurd own
  leaving-reached (kind.More k rs i) own = absurd own
  leaving-reached (kind.Fail k) own =
      ap (λ (j : ℕ). leaving s b o (choice_point_by t u (kind.Fail j) g n ∷ K) w) own
      ∙ leaving-open s b o call (term_in t u g) (bindings_in t u) (items_in t u n) K w among
  leaving-reached (kind.Catch k) own =
      ap (λ (j : ℕ). leaving s b o (choice_point_by t u (kind.Catch j) g n ∷ K) w) own
      ∙ leaving-caught s b o call (term_in t u g) (bindings_in t u) (items_in t u n) K w among
  leaving-reached (kind.Condition c m) own = absurd own

-- in a machine that is at the moment of the choice point
reached-now : (c : Core) (o : List ℕ) (g n call outer : ℕ) (among : is_open call o ≡ true) (q : ChoiceKind)
    → reached (setup_of c) c.store (ball_text c.store c.ball) o (world_in c) (level_in c) g n call (choice_points_in c) among q
    (open_in c.frames outer) ≡ box_reached c q call g n outer
reached-now c o g n call outer among (kind.Redo k) = refl
reached-now c o g n call outer among (kind.Branch m) = refl
reached-now c o g n call outer among (kind.More k rs i) = refl
reached-now c o g n call outer among (kind.Fail k) = refl
reached-now c o g n call outer among (kind.Catch k) = refl
reached-now c o g n call outer among (kind.Condition d m) = refl

module _ (old popped : Core) (y : Framed Alternative) (f : Frame) (inner call outer : ℕ) (h : IsTaken old popped y f inner call outer) where
  cut-good : IsGood (record old { frames = y })
  cut-good = left_moved-good old (record old { frames = y }) (open_in old.frames inner) h.good refl h.boxes h.left

  cut-boxed : AreBoxed y.boxes old.continuations old.calls (length old.continuations) (f ∷ reverse popped.frames.choices)
  cut-boxed = subst (AreBoxed y.boxes old.continuations old.calls (length old.continuations)) h.first cut-good.boxed

  pub thrown-frame : IsEarlier f (level_in popped) × IsFrame popped.store (level_at f (level_in popped)) f
  thrown-frame = popped-frame (record old { frames = y }) popped f cut-good h.first h.rest

  pub thrown-some : 0 < f.kept.continuations
  thrown-some = omega (arith, cut-boxed.0.rest)

  pub thrown-calls : f.kept.calls ≤ old.calls
  thrown-calls = cut-boxed.0.calls_there

  -- the box was called before its choice point was made, and so was the one around it
  outer-called : outer < f.kept.calls + 1
  outer-called =
      let named : call ≤ f.kept.calls =
      own-called y.boxes f.kept.calls old.continuations f.kept.kind f.kept.goal f.rest call h.leaves.own cut-boxed.0.tried in
      omega (arith, named, h.leaves.below)

  pub thrown-good : old.mode ≡ mode.Throwing inner → Stays popped f → IsGood (restored popped f)
  thrown-good throwing stays =
      restored-good (record old { frames = y }) popped f cut-good h.first h.rest
      (λ m. subst (λ (x : Core). IsMode m x.mode) (sym h.rest) (subst (IsMode m) (sym throwing) tt)) h.same stays

  -- the boxes around the one that is left are still kept
  outer-stays : Stays popped f → open_in old.frames outer ≡ open_in (restored popped f).frames outer
  outer-stays stays =
      ap (map (λ (p : ℕ × ℕ). p.0))
      (sym (stays outer outer-called ∙ ap (λ (B : List BoxFrame). open_from B outer) (h.same ∙ h.boxes)))

  thrown-moved : Stays popped f → ball_moved old inner ≡ box_reached (restored popped f) f.kept.kind call f.kept.goal f.rest outer
  thrown-moved stays =
      let o : List ℕ = open_in old.frames inner in
      let v : Level = level_in old in
      let u : Level = level_at f (level_in old) in
      let w : World = world_in old in
      let s : Setup = setup_of old in
      let b : Term Text = ball_text old.store old.ball in
      let K : List visit.Choice = choice_points_of old.store u (reverse popped.frames.choices) in
      let choices : choice_points_of old.store v (f ∷ reverse popped.frames.choices) ≡ left_to o (choice_points_in old) =
      ap (choice_points_of old.store v) (sym h.first ∙ h.left)
      ∙ left-choice_points old.store old.floor.terms v (reverse old.frames.choices) o h.good.frames in
      let back : Core = restored (record old { frames = popped.frames }) f in
      leaving-left s b o (choice_points_in old) w
      ∙ (ap (λ (L : List visit.Choice). leaving s b o L w) (sym choices)
      ∙ (leaving-reached s old.store b o w u f.kept.goal f.rest call K h.leaves.among f.kept.kind h.leaves.own
      ∙ (ap (reached s old.store b o w u f.kept.goal f.rest call K h.leaves.among f.kept.kind)
      (sym h.leaves.outer_boxes ∙ outer-stays stays)
      ∙ (ap (λ (x : Core). reached s old.store b o w u f.kept.goal f.rest call K h.leaves.among f.kept.kind
      (open_in (restored x f).frames outer)) h.rest
      ∙ (reached-now back o f.kept.goal f.rest call outer h.leaves.among f.kept.kind
      ∙ ap (λ (x : Core). box_reached (restored x f) f.kept.kind call f.kept.goal f.rest outer) (sym h.rest))))))

  pub thrown-advances : (back new : Core) (s : Step) → Stays popped f → back ≡ restored popped f
      → Advances back new (box_reached back f.kept.kind call f.kept.goal f.rest outer) s → Advances old new (ball_moved old inner) s
  thrown-advances back new s stays is a =
      let whole : back ≡ restored (record old { frames = popped.frames }) f = is ∙ ap (λ (x : Core). restored x f) h.rest in
      advances-from old back new (box_reached back f.kept.kind call f.kept.goal f.rest outer) (ball_moved old inner) s
      (ap (λ (x : Core). x.store) whole) (ap (λ (x : Core). x.names) whole) (ap (λ (x : Core). x.budget) whole)
      (ap (λ (x : Core). x.wanted) whole)
      (sym (thrown-moved stays ∙ ap (λ (x : Core). box_reached x f.kept.kind call f.kept.goal f.rest outer) (sym is))) a

  -- the box is kept, and had been called
  pub thrown-tried : Stays popped f → (f.kept.calls ≤ popped.calls) × IsTried (boxes_before (f.kept.calls + 1) popped.frames.boxes)
      f.kept.calls (take f.kept.continuations popped.continuations) f.kept.kind f.kept.goal f.rest
  thrown-tried stays = popped-tried (record old { frames = y }) popped f cut-good h.first h.rest h.same stays

-- no open box has a choice point
pub uncaught-advances : (old popped new : Core) (inner : ℕ) → IsGood old → popped ≡ record old { frames = popped.frames }
    → popped.frames.boxes ≡ old.frames.boxes
    → reverse popped.frames.choices ≡ left_frames (open_in old.frames inner) (reverse old.frames.choices)
    → reverse popped.frames.choices ≡ [] → new ≡ record popped { mode = mode.Over (outcome.Thrown inner) }
    → Advances old new (ball_moved old inner) step.Silent
uncaught-advances old popped new inner good rest same left none is =
    let o : List ℕ = open_in old.frames inner in
    let end : Core = record popped { mode = mode.Over (outcome.Thrown inner) } in
    let choices : [] ≡ left_to o (choice_points_in old) =
    sym (ap (choice_points_of popped.store (level_in popped)) none) ∙ left_moved-choice_points old popped o good rest left in
    let moved : ball_moved old inner ≡ silent (state_of end) =
    leaving-left (setup_of old) (ball_text old.store old.ball) o (choice_points_in old) (world_in old)
    ∙ (ap (λ (L : List visit.Choice). leaving (setup_of old) (ball_text old.store old.ball) o L (world_in old)) (sym choices)
    ∙ (ap (λ (B : List BoxFrame). silent (Over (visit.Thrown (ball_text old.store old.ball) (map (λ (p : ℕ × ℕ). p.0) (open_from B inner)))
    (world_in old))) (sym same)
    ∙ ap (λ (x : Core). silent (Over (visit.Thrown (ball_text x.store x.ball) (open_in popped.frames inner)) (world_in x))) (sym rest))) in
    let at_end : Advances popped end (ball_moved old inner) step.Silent =
    silent-advances popped popped.steps (mode.Over (outcome.Thrown inner)) (ball_moved old inner)
    (left_moved-good old popped o good rest same left) tt moved in
    advances-from old popped new (ball_moved old inner) (ball_moved old inner) step.Silent
    (ap (λ (x : Core). x.store) rest) (ap (λ (x : Core). x.names) rest) (ap (λ (x : Core). x.budget) rest)
    (ap (λ (x : Core). x.wanted) rest) refl
    (subst (λ (x : Core). Advances popped x (ball_moved old inner) step.Silent) (sym is) at_end)
