-- What the parts of a machine come to is what its calls answer.
use Rattle.std.proofs.Common.{◌≡◌, ℕ, Bool, false, List, [], ◌∷◌, refl, sym, ap, ◌∙◌, subst, append-nil}
use Rattle.op_trace.specs.declared.barrier.Barrier.TheVariants.{Call}
use Rattle.op_trace.specs.Database.{Text}
use Rattle.op_trace.specs.World.{World, Turn, Goal, loaded}
use Rattle.op_trace.specs.Outside.{Outside, no_outside, Beyond, Taking, nothing, at}
use Rattle.op_trace.specs.Act.{Setup}
use Rattle.op_machine.specs.Acts.{setup_for}
use Rattle.op_trace.specs.Visit.{Verdict, Failed, CutTo, Thrown, Stopped, Halted, Spent, Visited, gives, with_turns, and_then, visit}
use Rattle.op_trace.specs.Ending as ending
use Rattle.op_trace.specs.Run.{ran, run, started, ending_of}
use Rattle.op_logic.specs.Term.{Term}
use Rattle.op_machine.specs.declared.core_state.Core.{Core}
use Rattle.op_machine.specs.declared.turn.Ending.{Ending}
use Rattle.op_machine.specs.declared.turn.Last.{Last}
use Rattle.op_machine.specs.declared.turn.Turn as declared
use Rattle.op_machine.specs.declared.turn.Turn.TheVariants as turn
use Rattle.op_store.specs.Stored.{Stored, database_of}
use Rattle.op_machine.specs.Program.{goal_named}
use Rattle.op_machine.specs.Meaning.{state_of, world_left}
use Rattle.op_machine.specs.Resume.{State, at_top, owed, resume}
use Rattle.op_machine.specs.Outer.{state_at}
use Rattle.op_machine.specs.Host.{IsNothing}
use Rattle.op_machine.specs.Machine.{Kept, kept_of, to_come, world_now, only_ending, ending_for, last_after, Answers, Goes}
use Rattle.op_machine.specs.inner.Turns.{Turned, IsBegun}

-- at the top a cut is an end without alternatives
ended : (ts : List Turn) (r : Verdict) (w : World) → ran (with_turns ts (at_top r w))
    ≡ record { turns = ts; ending = ending_of r; world = w }
ended ts Failed w = ap (λ (x : List Turn). record { turns = x; ending = ending.Failed; world = w }) (append-nil ts)
ended ts (CutTo m) w = ap (λ (x : List Turn). record { turns = x; ending = ending.Failed; world = w }) (append-nil ts)
ended ts (Thrown b p) w = ap (λ (x : List Turn). record { turns = x; ending = ending.Thrown b; world = w }) (append-nil ts)
ended ts (Halted n) w = ap (λ (x : List Turn). record { turns = x; ending = ending.Halted n; world = w }) (append-nil ts)
ended ts Stopped w = ap (λ (x : List Turn). record { turns = x; ending = ending.Stopped; world = w }) (append-nil ts)
ended ts Spent w = ap (λ (x : List Turn). record { turns = x; ending = ending.Spent; world = w }) (append-nil ts)

resume-none : (s : Setup) (v : Visited) → ran (and_then v (resume s [])) ≡ ran v
unfolding resume
resume-none s v = ended v.turns v.verdict v.world

pub begun-run : (t : Stored) (g : Term ℕ) (n : ℕ) (names : List (List ℕ × ℕ)) (b w : ℕ) (c : Core) (l : Last) (f : Bool)
    → IsBegun t g n names b w c → (out : Outside) (o : List ℕ)
    → to_come (kept_of c l f) out o ≡ run (setup_for b w) (goal_named t g) n (at out o (loaded (database_of t)))
unfolding to_come owed
begun-run t g n names b w c l f h out o =
    let s : Setup = setup_for b w in
    ap (λ (x : Setup). ran (owed x (state_at out o (state_of c)))) h.setup
    ∙ (ap (λ (x : State). ran (owed s (state_at out o x))) h.state
    ∙ resume-none s (visit s (Goal (goal_named t g) (Call 0) ∷ []) [] (started n (at out o (loaded (database_of t))))))

only-ending : (names : List Text) (v : Verdict) (e : Ending) (w : World) → ending_of v ≡ ending_for names e
    → ran (gives v w) ≡ only_ending names e w
only-ending names v e w is = ap (λ (x : ending.Ending). record { turns = []; ending = x; world = w }) is

-- over the same outside, with nothing written
abbrev pub AnswersOver : declared.Turn → Kept → Kept → Outside → List ℕ → Type 0
AnswersOver t old new h o = Answers t old new (to_come old h o) (to_come new h o) (at h o (world_now new))

pub turned-answers : (old new : Core) (l : Last) (f : Bool) (t : declared.Turn) → Turned old new t → (g : Outside) (o : List ℕ)
    → AnswersOver t (kept_of old l f) (kept_of new (last_after t) false) g o
unfolding to_come
turned-answers old new l f turn.Event h g o = (ap ran (h.0.owed g o), refl, h.0.count)
turned-answers old new l f turn.Solution h g o = (ap ran (h.owed g o), refl, h.count)
turned-answers old new l f (turn.Ended e) h g o = (
  ap ran (h.owed g o) ∙ only-ending new.store.names h.verdict e (at g o (world_left new)) h.is,
  sym (ap ran
      (h.walked.owed g o)),
  refl,
  refl,
  h.walked.count,
)

-- a host of which nothing was asked
pub goes-still : (t : declared.Turn) (old new : Kept) (reach : Taking → List ℕ → Type 0) (out : Beyond) → reach nothing []
    → ((g : Outside) (o : List ℕ) → AnswersOver t old new g o) → Goes t old new reach out out
goes-still t old new reach out w a = record {
  taking = nothing;
  bytes = [];
  went = w;
  answers = λ rest o. subst (λ (p : List ℕ). Answers t old new (to_come old (out rest) o) (to_come new (out rest) p)
      (at (out rest) p (world_now new))) (sym (append-nil o)) (a (out rest) o);
}

-- where nothing lies outside, what is to come and what is left are over nothing
pub goes_nothing : (t : declared.Turn) (old new : Kept) → Goes t old new IsNothing (λ rest. no_outside) (λ rest. no_outside)
    → AnswersOver t old new no_outside []
goes_nothing t old new g =
    subst (λ (p : List ℕ). Answers t old new (to_come old no_outside []) (to_come new no_outside p) (at no_outside p (world_now new)))
    g.went.1 (g.answers [] [])
