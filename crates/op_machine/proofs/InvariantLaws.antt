-- A continuation is added, a choice point is made, and a choice point is returned to.
use Rattle.std.proofs.Common.{◌≡◌, ℕ, ◌+◌, ◌<◌, ◌≤◌, List, ◌∷◌, length, take, reverse, refl, sym, subst, arith, length-take}
use Rattle.std.proofs.lemmas.List.{take-take}
use Rattle.op_machine.specs.declared.core_state.Core.{Core}
use Rattle.op_machine.specs.declared.core_state.Mode.{Mode}
use Rattle.op_machine.specs.declared.core_state.Mode.TheVariants as mode
use Rattle.op_machine.specs.Meaning.{Frame}
use Rattle.op_machine.specs.declared.continuations.Item.{Item}
use Rattle.op_bind.specs.State.{undone}
use Rattle.op_machine.specs.inner.Continuations.{continuation_in}
use Rattle.op_machine.specs.Meaning.{Level, level_in, level_of, level_at, choice_points_in}
use Rattle.op_machine.specs.inner.Invariant.{IsGood, IsItem, IsMode, IsLevel, IsEarlier, IsFrame, AreFrames, AreValues, IsFailure}
use Rattle.op_machine.specs.inner.Invariant.{IsBall}
use Rattle.op_frames.specs.declared.boxes.BoxFrame.{BoxFrame}
use Rattle.op_frames.specs.Frames.{open_from}
use Rattle.op_bind.specs.State.{mark_of, IsGoodMark}
use Rattle.op_machine.specs.inner.Boxes.{boxes_before, IsEntered, IsTried, AreBoxes, AreBoxed}
use Rattle.op_machine.proofs.BoxLaws.{longer-boxes, boxed-along, restored-boxes, restored-boxed, restored-tried, with_box}
use Rattle.op_machine.proofs.BoxLaws.{pushed-boxes}
use Rattle.op_frames.proofs.Chains.{chain-kept}
use Rattle.op_machine.proofs.ContinuationLaws.{longer, length-longer, longer-same}
use Rattle.op_machine.proofs.LevelLaws.{rises-continuations, choice_points-rise, frames-rise, level-continuations, level-now, earlier-now}

pub added-choice_points : (c : Core) (i : Item) (n : ℕ) → IsGood c
    → choice_points_in (record c { continuations = longer c.continuations i n }) ≡ choice_points_in c
added-choice_points c i n good =
    choice_points-rise c.store c.floor.terms (level_in c) (level_of c.bindings (longer c.continuations i n)) (reverse c.frames.choices)
    (rises-continuations c.bindings c.continuations (i ∷ continuation_in c.continuations n)) good.frames

mode-more : (m n : ℕ) (q : Mode) → m ≤ n → IsMode m q → IsMode n q
mode-more m n (mode.Forward i) h a = omega arith
mode-more m n mode.Backward h a = tt
mode-more m n (mode.Throwing i) h a = tt
mode-more m n (mode.Over e) h a = tt

pub added-good : (c : Core) (i : Item) (n : ℕ) → IsGood c → IsItem (length c.store.names) c.bindings.terms i → n < length c.continuations
    → IsEntered c.frames.boxes c.calls c.continuations i n → IsGood (record c { continuations = longer c.continuations i n })
added-good c i n good it h entered =
    let len : length (longer c.continuations i n) ≡ length c.continuations + 1 = length-longer c.continuations i n in
    record {
      level = level-continuations c.store c.floor.terms c.bindings c.continuations i n good.level it h;
      frames = frames-rise c.store c.floor.terms (level_in c) (level_of c.bindings (longer c.continuations i n)) (reverse c.frames.choices)
          (rises-continuations c.bindings c.continuations (i ∷ continuation_in c.continuations n)) good.frames;
      mode = mode-more (length c.continuations) (length (longer c.continuations i n)) c.mode (omega arith) good.mode;
      values = good.values;
      failure = good.failure;
      ball = good.ball;
      boxes = longer-boxes c.frames.boxes c.calls c.continuations i n good.boxes h entered;
      boxed = boxed-along c.frames.boxes c.frames.boxes c.continuations (longer c.continuations i n) c.calls c.calls
          (length c.continuations) (length (longer c.continuations i n)) (reverse c.frames.choices) (omega arith) (omega arith)
          (longer-same c.continuations i n) (λ k b. refl) good.boxed;
    }

abbrev IsValued : Core → Type 0
IsValued c = AreValues (take c.floor.terms c.bindings.terms) c.values.items c.names

abbrev IsFailed : Core → Type 0
IsFailed c = IsFailure (take c.floor.terms c.bindings.terms) c.failure

-- a machine that was put back to the last choice point's moment
abbrev pub restored : Core → Frame → Core
restored c f = record c {
  bindings = undone c.bindings f.mark;
  continuations = take f.kept.continuations c.continuations;
  frames = record c.frames { boxes = boxes_before (f.kept.calls + 1) c.frames.boxes };
}

-- the boxes and the choice points as they were before the last choice point was taken
popped-boxes : (c d : Core) → IsGood c → d ≡ record c { frames = d.frames } → d.frames.boxes ≡ c.frames.boxes
    → AreBoxes d.frames.boxes d.calls d.continuations
popped-boxes c d good e same =
    subst (λ (x : Core). AreBoxes d.frames.boxes x.calls x.continuations) (sym e)
    (subst (λ (B : List BoxFrame). AreBoxes B c.calls c.continuations) (sym same) good.boxes)

popped-boxed : (c d : Core) (f : Frame) → IsGood c → reverse c.frames.choices ≡ f ∷ reverse d.frames.choices → d
    ≡ record c { frames = d.frames } → d.frames.boxes ≡ c.frames.boxes
    → AreBoxed d.frames.boxes d.continuations d.calls (length d.continuations) (f ∷ reverse d.frames.choices)
popped-boxed c d f good popped e same =
    let F : List Frame = f ∷ reverse d.frames.choices in
    subst (λ (x : Core). AreBoxed d.frames.boxes x.continuations x.calls (length x.continuations) F) (sym e)
    (subst (λ (B : List BoxFrame). AreBoxed B c.continuations c.calls (length c.continuations) F) (sym same)
    (subst (AreBoxed c.frames.boxes c.continuations c.calls (length c.continuations)) popped good.boxed))

-- what is open in a box that had been called when a choice point was made stays where the others are dropped
abbrev pub Stays : Core → Frame → Type 0
Stays d f = (n : ℕ) → n < f.kept.calls + 1 → open_from (boxes_before (f.kept.calls + 1) d.frames.boxes) n ≡ open_from d.frames.boxes n

pub restored-good : (c d : Core) (f : Frame) → IsGood c → reverse c.frames.choices ≡ f ∷ reverse d.frames.choices → d
    ≡ record c { frames = d.frames } → ((m : ℕ) → IsMode m d.mode)
    → d.frames.boxes ≡ c.frames.boxes → Stays d f → IsGood (restored d f)
restored-good c d f good popped e back same stays =
    let frames : AreFrames c.store c.floor.terms (level_in c) (f ∷ reverse d.frames.choices) =
    subst (AreFrames c.store c.floor.terms (level_in c)) popped good.frames in
    let here : AreFrames d.store d.floor.terms (level_in d) (f ∷ reverse d.frames.choices) =
    subst (λ (x : Core). AreFrames x.store x.floor.terms (level_in x) (f ∷ reverse d.frames.choices)) (sym e) frames in
    let values = subst (λ (x : Core). IsValued x) (sym e) good.values in
    let failed = subst (λ (x : Core). IsFailed x) (sym e) good.failure in
    let floor : d.floor.terms ≤ f.mark.terms = omega (arith, here.1.floor_there, length-take f.mark.terms d.bindings.terms) in
    record {
      level = here.1;
      frames = here.3;
      mode = back (length (take f.kept.continuations d.continuations));
      values = subst (λ ts. AreValues ts d.values.items d.names) (sym (take-take d.floor.terms f.mark.terms d.bindings.terms floor))
          values;
      failure = subst (λ ts. IsFailure ts d.failure) (sym (take-take d.floor.terms f.mark.terms d.bindings.terms floor)) failed;
      ball = subst (λ (x : Core). IsBall (length x.store.names) x.bindings.count x.ball) (sym e) good.ball;
      boxes = restored-boxes d.frames.boxes d.calls d.continuations (reverse d.frames.choices) f stays (popped-boxes c d good e same)
          (popped-boxed c d f good popped e same);
      boxed = restored-boxed d.frames.boxes d.calls d.continuations (reverse d.frames.choices) f stays
          (popped-boxed c d f good popped e same);
    }

-- the clauses that the last choice point tries are those of a box that is kept, and it was made when no more boxes had been called
pub popped-tried : (c d : Core) (f : Frame) → IsGood c → reverse c.frames.choices ≡ f ∷ reverse d.frames.choices → d
    ≡ record c { frames = d.frames }
    → d.frames.boxes ≡ c.frames.boxes → Stays d f
    → (f.kept.calls ≤ d.calls) × IsTried (boxes_before (f.kept.calls + 1) d.frames.boxes) f.kept.calls
    (take f.kept.continuations d.continuations) f.kept.kind f.kept.goal f.rest
popped-tried c d f good popped e same stays =
    let boxed : AreBoxed d.frames.boxes d.continuations d.calls (length d.continuations) (f ∷ reverse d.frames.choices) =
    popped-boxed c d f good popped e same in
    (boxed.0.calls_there, restored-tried d.frames.boxes d.calls d.continuations (reverse d.frames.choices) f stays boxed)

-- that alone
pub popped-calls : (c d : Core) (f : Frame) → IsGood c → reverse c.frames.choices ≡ f ∷ reverse d.frames.choices → d
    ≡ record c { frames = d.frames }
    → d.frames.boxes ≡ c.frames.boxes → f.kept.calls ≤ d.calls
popped-calls c d f good popped e same = (popped-boxed c d f good popped e same).0.calls_there

-- the last choice point was made earlier, and leads to what was there then
pub popped-frame : (c d : Core) (f : Frame) → IsGood c → reverse c.frames.choices ≡ f ∷ reverse d.frames.choices → d
    ≡ record c { frames = d.frames }
    → IsEarlier f (level_in d) × IsFrame d.store (level_at f (level_in d)) f
popped-frame c d f good popped e =
    let frames : AreFrames c.store c.floor.terms (level_in c) (f ∷ reverse d.frames.choices) =
    subst (AreFrames c.store c.floor.terms (level_in c)) popped good.frames in
    let here : AreFrames d.store d.floor.terms (level_in d) (f ∷ reverse d.frames.choices) =
    subst (λ (x : Core). AreFrames x.store x.floor.terms (level_in x) (f ∷ reverse d.frames.choices)) (sym e) frames in
    (here.0, here.2)

-- a choice point was made now
pub pushed-good : (c : Core) (f : Frame) (F : List Frame) → IsGood c → f.mark ≡ mark_of c.bindings → IsGoodMark c.bindings f.mark
    → f.kept.continuations ≡ length c.continuations → f.kept.calls ≡ c.calls → IsFrame c.store (level_in c) f
    → IsTried c.frames.boxes f.kept.calls c.continuations f.kept.kind f.kept.goal f.rest
    → reverse F ≡ f ∷ reverse c.frames.choices → IsGood (record c { frames = record c.frames { choices = F } })
pushed-good c f F good mark marked continuations calls frame tried new =
    let v : Level = level_in c in
    let now : v ≡ level_at f v = sym (level-now c.bindings c.continuations f mark continuations) in
    let below : AreFrames c.store c.floor.terms (level_at f v) (reverse c.frames.choices) =
    subst (λ (u : Level). AreFrames c.store c.floor.terms u (reverse c.frames.choices)) now good.frames in
    let frames : AreFrames c.store c.floor.terms v (f ∷ reverse c.frames.choices) = (
      earlier-now c.bindings c.continuations f marked continuations,
      subst (IsLevel c.store c.floor.terms) now good.level,
      subst (λ (u : Level). IsFrame c.store u f) now frame,
      below,
    ) in
    let at : AreBoxed c.frames.boxes c.continuations f.kept.calls f.kept.continuations (reverse c.frames.choices) =
    subst (λ (n : ℕ). AreBoxed c.frames.boxes c.continuations n f.kept.continuations (reverse c.frames.choices)) (sym calls)
    (subst (λ (n : ℕ). AreBoxed c.frames.boxes c.continuations c.calls n (reverse c.frames.choices)) (sym continuations) good.boxed) in
    let boxed : AreBoxed c.frames.boxes c.continuations c.calls (length c.continuations) (f ∷ reverse c.frames.choices) = (
      record {
        calls_there = omega arith;
        continuations_there = omega arith;
        rest = omega (arith, frame.rest);
        given = λ n h. omega (arith, good.boxes.given n (omega arith));
        tried = tried;
      },
      at,
    ) in
    record {
      level = good.level;
      frames = subst (AreFrames c.store c.floor.terms v) (sym new) frames;
      mode = good.mode;
      values = good.values;
      failure = good.failure;
      ball = good.ball;
      boxes = good.boxes;
      boxed = subst (AreBoxed c.frames.boxes c.continuations c.calls (length c.continuations)) (sym new) boxed;
    }

-- a box was called now
pub called-good : (c : Core) (b : BoxFrame) → IsGood c → b.number ≡ c.calls + 1
    → IsGood (record c { calls = c.calls + 1; frames = record c.frames { boxes = with_box c.frames.boxes b } })
called-good c b good number = record {
  level = good.level;
  frames = good.frames;
  mode = good.mode;
  values = good.values;
  failure = good.failure;
  ball = good.ball;
  boxes = pushed-boxes c.frames.boxes c.calls c.continuations b number good.boxes;
  boxed = boxed-along c.frames.boxes (with_box c.frames.boxes b) c.continuations c.continuations c.calls (c.calls + 1)
      (length c.continuations) (length c.continuations) (reverse c.frames.choices)
      (omega arith) (omega arith) (λ n h. refl) (λ k h. chain-kept c.frames.boxes b k (omega arith)) good.boxed;
}
