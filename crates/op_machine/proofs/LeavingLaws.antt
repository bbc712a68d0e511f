-- The choice points that a ball goes up to, as the machine keeps them, are those that they mean.
use Rattle.std.proofs.Common.{◌≡◌, ℕ, Bool, true, false, List, [], ◌∷◌, length, reverse, refl, sym, ap, ◌∙◌, subst, if◌then◌else◌}
use Rattle.op_trace.specs.Visit.{is_open}
use Rattle.op_frames.specs.declared.boxes.BoxFrame.{BoxFrame}
use Rattle.op_store.specs.Stored.{Stored}
use Rattle.op_machine.specs.declared.choice_points.ChoiceKind.{ChoiceKind}
use Rattle.op_machine.specs.declared.choice_points.ChoiceKind.TheVariants as kind
use Rattle.op_machine.specs.declared.continuations.Item.{Item}
use Rattle.op_machine.specs.declared.core_state.Core.{Core}
use Rattle.op_machine.specs.Meaning.{Frame, Level, level_at, level_in, choice_point_by, choice_points_of, choice_points_in}
use Rattle.op_machine.specs.inner.Barriers.{left_to}
use Rattle.op_machine.specs.inner.Boxes.{AreBoxes, AreBoxed}
use Rattle.op_machine.specs.inner.Invariant.{AreFrames, IsGood}
use Rattle.op_machine.specs.inner.Leaving.{kind_leaves, frame_leaves, left_frames}
use Rattle.op_machine.proofs.BoxLaws.{boxed-more}
use Rattle.op_machine.proofs.CutLaws.{rises-back}
use Rattle.op_machine.proofs.LevelLaws.{choice_points-rise, frames-rise}

-- they lead to what was there
pub left-are : (t : Stored) (floor : ℕ) (v : Level) (F : List Frame) (o : List ℕ) → AreFrames t floor v F
    → AreFrames t floor v (left_frames o F)
left-are t floor v [] o a = tt
left-are t floor v (f ∷ F) o a = go (frame_leaves o f) (left-are t floor (level_at f v) F o a.3)
  where
    go : (p : Bool) → AreFrames t floor (level_at f v) (left_frames o F) → AreFrames t floor v (if p then f ∷ F else left_frames o F)
    go true below = a
    go false below = frames-rise t floor (level_at f v) v (left_frames o F) (rises-back v f a.0) below

pub left-boxed : (B : List BoxFrame) (L : List (List Item)) (c l : ℕ) (F : List Frame) (o : List ℕ) → AreBoxed B L c l F
    → AreBoxed B L c l (left_frames o F)
left-boxed B L c l [] o a = tt
left-boxed B L c l (f ∷ F) o a = go (frame_leaves o f) (left-boxed B L f.kept.calls f.kept.continuations F o a.1)
  where
    go : (p : Bool) → AreBoxed B L f.kept.calls f.kept.continuations (left_frames o F)
        → AreBoxed B L c l (if p then f ∷ F else left_frames o F)
    go true below = a
    go false below = boxed-more B L f.kept.calls c f.kept.continuations l (left_frames o F) a.0.calls_there a.0.continuations_there below

-- where the first choice point is that of an open box, or is passed over
left-failed : (t : Stored) (v : Level) (f : Frame) (F : List Frame) (o : List ℕ) (k : ℕ) (p : Bool) → f.kept.kind ≡ kind.Fail k
    → choice_points_of t v (left_frames o F) ≡ left_to o (choice_points_of t (level_at f v) F)
    → choice_points_of t v (if p then f ∷ F else left_frames o F)
    ≡ (if p then choice_point_by t (level_at f v) (kind.Fail k) f.kept.goal f.rest ∷ choice_points_of t (level_at f v) F
    else left_to o (choice_points_of t (level_at f v) F))
left-failed t v f F o k true e passed =
    ap (λ (q : ChoiceKind). choice_point_by t (level_at f v) q f.kept.goal f.rest ∷ choice_points_of t (level_at f v) F) e
left-failed t v f F o k false e passed = passed

left-catching : (t : Stored) (v : Level) (f : Frame) (F : List Frame) (o : List ℕ) (k : ℕ) (p : Bool) → f.kept.kind ≡ kind.Catch k
    → choice_points_of t v (left_frames o F) ≡ left_to o (choice_points_of t (level_at f v) F)
    → choice_points_of t v (if p then f ∷ F else left_frames o F)
    ≡ (if p then choice_point_by t (level_at f v) (kind.Catch k) f.kept.goal f.rest ∷ choice_points_of t (level_at f v) F
    else left_to o (choice_points_of t (level_at f v) F))
left-catching t v f F o k true e passed =
    ap (λ (q : ChoiceKind). choice_point_by t (level_at f v) q f.kept.goal f.rest ∷ choice_points_of t (level_at f v) F) e
left-catching t v f F o k false e passed = passed

left-first : (t : Stored) (v : Level) (f : Frame) (F : List Frame) (o : List ℕ) (q : ChoiceKind) → f.kept.kind ≡ q
    → choice_points_of t v (left_frames o F) ≡ left_to o (choice_points_of t (level_at f v) F)
    → choice_points_of t v (if kind_leaves o q then f ∷ F else left_frames o F)
    ≡ left_to o (choice_point_by t (level_at f v) q f.kept.goal f.rest ∷ choice_points_of t (level_at f v) F)
left-first t v f F o (kind.Redo k) e passed = passed
left-first t v f F o (kind.Branch m) e passed = passed
left-first t v f F o (kind.More k rs i) e passed = passed
left-first t v f F o (kind.Fail k) e passed = left-failed t v f F o k (is_open k o) e passed
left-first t v f F o (kind.Catch k) e passed = left-catching t v f F o k (is_open k o) e passed
left-first t v f F o (kind.Condition c m) e passed = passed

pub left-choice_points : (t : Stored) (floor : ℕ) (v : Level) (F : List Frame) (o : List ℕ) → AreFrames t floor v F
    → choice_points_of t v (left_frames o F) ≡ left_to o (choice_points_of t v F)
left-choice_points t floor v [] o a = refl
left-choice_points t floor v (f ∷ F) o a =
    left-first t v f F o f.kept.kind refl
    (choice_points-rise t floor (level_at f v) v (left_frames o F) (rises-back v f a.0) (left-are t floor (level_at f v) F o a.3)
    ∙ left-choice_points t floor (level_at f v) F o a.3)

-- the machine with the choice points that are left
pub left_moved-choice_points : (c d : Core) (o : List ℕ) → IsGood c → d ≡ record c { frames = d.frames }
    → reverse d.frames.choices ≡ left_frames o (reverse c.frames.choices) → choice_points_in d ≡ left_to o (choice_points_in c)
left_moved-choice_points c d o good e left =
    ap (λ (x : Core). choice_points_of x.store (level_in x) (reverse d.frames.choices)) e
    ∙ (ap (choice_points_of c.store (level_in c)) left
    ∙ left-choice_points c.store c.floor.terms (level_in c) (reverse c.frames.choices) o good.frames)

pub left_moved-good : (c d : Core) (o : List ℕ) → IsGood c → d ≡ record c { frames = d.frames } → d.frames.boxes ≡ c.frames.boxes
    → reverse d.frames.choices ≡ left_frames o (reverse c.frames.choices) → IsGood d
left_moved-good c d o good e same left =
    subst IsGood (sym e) (record {
      level = good.level;
      frames = subst (AreFrames c.store c.floor.terms (level_in c)) (sym left)
          (left-are c.store c.floor.terms (level_in c) (reverse c.frames.choices) o good.frames);
      mode = good.mode;
      values = good.values;
      failure = good.failure;
      ball = good.ball;
      boxes = subst (λ (B : List BoxFrame). AreBoxes B c.calls c.continuations) (sym same) good.boxes;
      boxed = subst (λ (B : List BoxFrame). AreBoxed B c.continuations c.calls (length c.continuations) (reverse d.frames.choices))
          (sym same)
          (subst (AreBoxed c.frames.boxes c.continuations c.calls (length c.continuations)) (sym left)
          (left-boxed c.frames.boxes c.continuations c.calls (length c.continuations) (reverse c.frames.choices) o good.boxed));
    })
