-- One command's answer: what is said, and where the feed stands then.
use Rattle.std.specs.Prelude.{◌≡◌, ℕ, ◌+◌, ◌-◌, ◌≤◌, List, ◌++◌, codes, Option, Some, None, Result, Ok, Err}
use Rattle.op_term.specs.Ops.{Table}
use Rattle.op_trace.specs.World.{Event}
use Rattle.op_session.specs.Traced.{Traced}
use Rattle.op_session.specs.declared.feed.Feed.{Feed}
use Rattle.op_session.specs.declared.feed.End.{End}
use Rattle.op_session.specs.declared.feed.End.TheVariants.{Over, Spent}
use Rattle.op_session.specs.declared.status.Status.{Status}
use Rattle.op_session.specs.declared.status.Status.TheVariants as status
use Rattle.op_event.specs.Line.{event_line}
use Rattle.op_moves.specs.Moves.{Stand}
use Rattle.op_session.specs.Session.{answer_to}
use Rattle.op_session.specs.Sight.{Sight}
use Rattle.op_session.specs.inner.Steps.{SaysAll, SaysFront}
use Rattle.op_session.specs.inner.Feeding.{Feeds, most_of}

-- the answer to `next`
abbrev pub text_of : Table → Option End → Event → List ℕ
text_of ops None e = event_line ops e ++ codes "\nyes\n"
text_of ops (Some Over) e = codes "no\n"
text_of ops (Some Spent) e = codes "thrown trace_budget\n"

-- these bytes are the answer to a text
pub record Told (traced : Traced) (s : Stand) (text answer : List ℕ) (feed : Feed) : Type 0 where
  pub told : answer ≡ (answer_to traced s text).text
  pub feeds : Feeds traced (answer_to traced s text).stand feed

-- the steps that were made beside those of the run's machine
pub record Pays (old new : Feed) (before after : ℕ) : Type 0 where
  pub cost : after ≡ before + (new.machine.steps - old.machine.steps)
  pub later : old.machine.steps ≤ new.machine.steps
  pub within : new.machine.steps ≤ most_of old.machine

-- the answer was said
pub record GivesAll (traced : Traced) (s : Stand) (text : List ℕ) (old new : Feed) (before after : ℕ) (a b : Sight) : Type 0 where
  pub says : SaysAll a b (answer_to traced s text).text
  pub feeds : Feeds traced (answer_to traced s text).stand new
  pub pays : Pays old new before after
  pub rises : most_of new.machine ≤ most_of old.machine

-- a front of it was; it was whole where it could not be written
pub record GivesFront (traced : Traced) (s : Stand) (text : List ℕ) (old new : Feed) (st : Status) (m n : ℕ) (a b : Sight) : Type 0 where
  pub says : SaysFront st a b (answer_to traced s text).text
  pub feeds : st ≡ status.Write → Feeds traced (answer_to traced s text).stand new
  pub pays : Pays old new m n

abbrev pub Gives : Traced → Stand → List ℕ → Feed → Feed → ℕ → ℕ → Sight → Sight → Result (Unit {0}) Status → Type 0
Gives traced s text old new before after a b (Ok x) = GivesAll traced s text old new before after a b
Gives traced s text old new before after a b (Err st) = GivesFront traced s text old new st before after a b
