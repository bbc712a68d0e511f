-- What a cut keeps of a machine's choice points is what it keeps of what they mean.
use Rattle.std.proofs.Common.{◌≡◌, ℕ, ◌-◌, Bool, true, false, List, [], ◌∷◌, length, take, reverse, refl, sym, ap, ◌∙◌, subst, arith}
use Rattle.std.proofs.Common.{if◌then◌else◌}
use Rattle.std.proofs.lemmas.List.{length-take-le, length-drop}
use Rattle.op_bind.specs.State.{oldest}
use Rattle.op_trace.specs.declared.barrier.Barrier.{Barrier}
use Rattle.op_trace.specs.Visit as visit
use Rattle.op_machine.specs.declared.choice_points.ChoiceKind.{ChoiceKind}
use Rattle.op_machine.specs.declared.choice_points.ChoiceKind.TheVariants as kind
use Rattle.op_store.specs.Stored.{Stored}
use Rattle.op_machine.specs.declared.choice_points.Alternative.{Alternative}
use Rattle.op_machine.specs.declared.core_state.Core.{Core}
use Rattle.op_machine.specs.Meaning.{Frame, Level, level_at, level_in, choice_point_by, choice_point_of, choice_points_of}
use Rattle.op_machine.specs.Meaning.{choice_points_in}
use Rattle.op_machine.specs.inner.Invariant.{AreFrames, IsEarlier, IsGood}
use Rattle.op_machine.specs.Resume.{stays, goes, keep}
use Rattle.op_machine.specs.inner.Cuts.{kind_stays, kind_goes, frame_stays, frame_goes, keep_frames}
use Rattle.op_frames.specs.declared.boxes.BoxFrame.{BoxFrame}
use Rattle.op_frames.specs.Frames.{Framed}
use Rattle.op_machine.specs.inner.Boxes.{AreBoxes, AreBoxed}
use Rattle.op_machine.proofs.BoxLaws.{keep-boxed}
use Rattle.op_machine.proofs.LevelLaws.{Rises, choice_points-rise, frames-rise}

pub stays-same : (t : Stored) (v : Level) (q : ChoiceKind) (g n : ℕ) (m : Barrier) → stays (choice_point_by t v q g n) m ≡ kind_stays q m
stays-same t v (kind.Redo k) g n m = refl
stays-same t v (kind.Branch b) g n m = refl
stays-same t v (kind.More k rs i) g n m = refl
stays-same t v (kind.Fail k) g n m = refl
stays-same t v (kind.Catch k) g n m = refl
stays-same t v (kind.Condition c b) g n m = refl

pub goes-same : (t : Stored) (v : Level) (q : ChoiceKind) (g n : ℕ) (m : Barrier) → goes (choice_point_by t v q g n) m ≡ kind_goes q m
goes-same t v (kind.Redo k) g n m = refl
goes-same t v (kind.Branch b) g n m = refl
goes-same t v (kind.More k rs i) g n m = refl
goes-same t v (kind.Fail k) g n m = refl
goes-same t v (kind.Catch k) g n m = refl
goes-same t v (kind.Condition c b) g n m = refl

-- an earlier moment is the beginning of a later one
pub rises-back : (v : Level) (f : Frame) → IsEarlier f v → Rises (level_at f v) v
rises-back v f e =
    let t : length (take f.mark.terms v.terms) ≡ f.mark.terms = length-take-le f.mark.terms v.terms e.terms_there in
    let b : length (oldest f.mark.bound v.bound) ≡ f.mark.bound = length-drop (length v.bound - f.mark.bound) v.bound
    ∙ omega (arith, e.bound_there) in
    let l : length (take f.kept.continuations v.continuations)
    ≡ f.kept.continuations = length-take-le f.kept.continuations v.continuations e.continuations_there in
    record {
      terms_there = omega (arith, t, e.terms_there);
      terms = ap (λ (n : ℕ). take n v.terms) t;
      bound_there = omega (arith, b, e.bound_there);
      bound = ap (λ (n : ℕ). oldest n v.bound) b;
      continuations_there = omega (arith, l, e.continuations_there);
      continuations = ap (λ (n : ℕ). take n v.continuations) l;
    }

-- what a cut keeps leads to what was there
pub keep-are : (t : Stored) (floor : ℕ) (v : Level) (F : List Frame) (m : Barrier) → AreFrames t floor v F
    → AreFrames t floor v (keep_frames m F)
keep-are t floor v [] m a = tt
keep-are t floor v (f ∷ F) m a = go (frame_stays f m) (frame_goes f m) (keep-are t floor (level_at f v) F m a.3)
  where
    go : (p q : Bool) → AreFrames t floor (level_at f v) (keep_frames m F)
        → AreFrames t floor v (if p then f ∷ F else (if q then F else keep_frames m F))
    go true q below = a
    go false true below = frames-rise t floor (level_at f v) v F (rises-back v f a.0) a.3
    go false false below = frames-rise t floor (level_at f v) v (keep_frames m F) (rises-back v f a.0) below

pub keep-choice_points : (t : Stored) (floor : ℕ) (v : Level) (F : List Frame) (m : Barrier) → AreFrames t floor v F
    → choice_points_of t v (keep_frames m F) ≡ keep m (choice_points_of t v F)
keep-choice_points t floor v [] m a = refl
keep-choice_points t floor v (f ∷ F) m a =
    go (frame_stays f m) (frame_goes f m) (keep-choice_points t floor u F m a.3)
    ∙ (ap (λ (p : Bool). if p then C ∷ K else (if frame_goes f m then K else keep m K))
    (sym (stays-same t u f.kept.kind f.kept.goal f.rest m))
    ∙ ap (λ (q : Bool). if stays C m then C ∷ K else (if q then K else keep m K)) (sym (goes-same t u f.kept.kind f.kept.goal f.rest m)))
  where
    u : Level
    u = level_at f v

    C : visit.Choice
    C = choice_point_of t (level_at f v) f

    K : List visit.Choice
    K = choice_points_of t (level_at f v) F

    go : (p q : Bool) → choice_points_of t (level_at f v) (keep_frames m F) ≡ keep m (choice_points_of t (level_at f v) F)
        → choice_points_of t v (if p then f ∷ F else (if q then F else keep_frames m F))
        ≡ (if p then C ∷ K else (if q then K else keep m K))
    go true q below = refl
    go false true below = choice_points-rise t floor (level_at f v) v F (rises-back v f a.0) a.3
    go false false below = choice_points-rise t floor (level_at f v) v (keep_frames m F) (rises-back v f a.0)
        (keep-are t floor (level_at f v) F m a.3) ∙ below

-- a cut to a number of choice points keeps those of its barrier
pub cut-keeps : (old new : Framed Alternative) (F : List Frame) (n : ℕ) (m : Barrier) → new ≡ record old { choices = take n old.choices }
    → F ≡ old.choices → reverse (take n F) ≡ keep_frames m (reverse F) → reverse new.choices ≡ keep_frames m (reverse old.choices)
cut-keeps old new F n m cut same kept =
    ap (λ (x : Framed Alternative). reverse x.choices) cut
    ∙ subst (λ (xs : List Frame). reverse (take n xs) ≡ keep_frames m (reverse xs)) same kept

-- the machine with the choice points that a cut keeps
pub cut_moved-choice_points : (c d : Core) (m : Barrier) → IsGood c → d ≡ record c { frames = d.frames } → reverse d.frames.choices
    ≡ keep_frames m (reverse c.frames.choices)
    → choice_points_in d ≡ keep m (choice_points_in c)
cut_moved-choice_points c d m good e kept =
    ap (λ (x : Core). choice_points_of x.store (level_in x) (reverse d.frames.choices)) e
    ∙ (ap (choice_points_of c.store (level_in c)) kept
    ∙ keep-choice_points c.store c.floor.terms (level_in c) (reverse c.frames.choices) m good.frames)

pub cut_moved-good : (c d : Core) (m : Barrier) → IsGood c → d ≡ record c { frames = d.frames } → d.frames.boxes ≡ c.frames.boxes
    → reverse d.frames.choices ≡ keep_frames m (reverse c.frames.choices) → IsGood d
cut_moved-good c d m good e same kept =
    subst IsGood (sym e) (record {
      level = good.level;
      frames = subst (AreFrames c.store c.floor.terms (level_in c)) (sym kept)
          (keep-are c.store c.floor.terms (level_in c) (reverse c.frames.choices) m good.frames);
      mode = good.mode;
      values = good.values;
      failure = good.failure;
      ball = good.ball;
      boxes = subst (λ (B : List BoxFrame). AreBoxes B c.calls c.continuations) (sym same) good.boxes;
      boxed = subst (λ (B : List BoxFrame). AreBoxed B c.continuations c.calls (length c.continuations) (reverse d.frames.choices))
          (sym same)
          (subst (AreBoxed c.frames.boxes c.continuations c.calls (length c.continuations)) (sym kept)
          (keep-boxed c.frames.boxes c.continuations c.calls (length c.continuations) (reverse c.frames.choices) m good.boxed));
    })
