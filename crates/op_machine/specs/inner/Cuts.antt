-- What a cut keeps of the choice points that a machine has, the last first.
use Rattle.std.specs.Prelude.{Bool, false, List, [], ◌∷◌, if◌then◌else◌}
use Rattle.op_trace.specs.declared.barrier.Barrier.{Barrier}
use Rattle.op_trace.specs.declared.barrier.Barrier.TheVariants.{Call, InCondition, AtSuccess}
use Rattle.op_trace.specs.World.{same_barrier}
use Rattle.op_machine.specs.declared.choice_points.ChoiceKind.{ChoiceKind}
use Rattle.op_machine.specs.declared.choice_points.ChoiceKind.TheVariants as kind
use Rattle.op_machine.specs.Meaning.{Frame}

abbrev pub kind_stays : ChoiceKind → Barrier → Bool
kind_stays (kind.Redo k) m = false
kind_stays (kind.Branch b) m = false
kind_stays (kind.More k rs i) m = false
kind_stays (kind.Fail k) m = same_barrier m (Call k)
kind_stays (kind.Catch k) m = same_barrier m (Call k)
kind_stays (kind.Condition c b) m = same_barrier m (InCondition c)

abbrev pub kind_goes : ChoiceKind → Barrier → Bool
kind_goes (kind.Condition c b) m = same_barrier m (AtSuccess c)
kind_goes _ m = false

abbrev pub frame_stays : Frame → Barrier → Bool
frame_stays f m = kind_stays f.kept.kind m

abbrev pub frame_goes : Frame → Barrier → Bool
frame_goes f m = kind_goes f.kept.kind m

abbrev pub keep_frames : Barrier → List Frame → List Frame
keep_frames m [] = []
keep_frames m (f ∷ F) = if frame_stays f m then f ∷ F else (if frame_goes f m then F else keep_frames m F)
