-- What holds of a session between two bytes of its commands, and what a call leaves behind.
use Rattle.std.specs.Prelude.{◌≡◌, ℕ, ◌+◌, ◌≤◌, suc, List, [], ◌++◌, length, Option, Some, IsTrue, Result, Ok, Err, Bool, true, false}
use Rattle.std.specs.Io.KnownBytes.{Appends, Consumes, IsAtEnd}
use Rattle.op_desk.specs.declared.chan.Chan.TheVariants.{Commands, Talk}
use Rattle.op_desk.specs.Frame.{SameBut}
use Rattle.op_session.specs.Traced.{Traced}
use Rattle.op_token.specs.Cut.{IsOpen}
use Rattle.op_session.specs.declared.feed.Feed.{Feed}
use Rattle.op_session.specs.declared.status.Status.{Status}
use Rattle.op_session.specs.declared.status.Status.TheVariants as status
use Rattle.op_session.specs.Call.{Outcome, Session}
use Rattle.op_moves.specs.Moves.{at_start}
use Rattle.op_session.specs.MostSteps.{most_steps}
use Rattle.op_session.specs.Session.{Course, session_from, said_by}
use Rattle.op_session.specs.Promise.{WhenTold, DoneAs, CostsAs, LoadAs, TooLongAs, BrokenOff, BrokenAs, CountsAs}
use Rattle.op_session.specs.Promise.{IsBroken, IsRefused, IsFaultless, HasFile}
use Rattle.op_session.specs.Sight.{Sight}
use Rattle.op_session.specs.inner.Behind.{resumed}
use Rattle.op_session.specs.inner.Steps.{Calm, Fault}
use Rattle.op_session.specs.inner.Feeding.{Feeds, most_of}

-- so many commands in the bytes that were taken were answered, by this course, and p is what is left of the bytes, whatever comes behind
pub record Cuts (traced : Traced) (c : Course) (taken p : List ℕ) : Type 0 where
  pub count : ℕ
  pub goes_on : (over : Bool) (n : ℕ) (r : List ℕ)
      → session_from traced over (count + n) at_start (taken ++ r) ≡ resumed traced c over n (p ++ r)
  pub unread : c.left ≡ []
  pub short : count + length p ≤ length taken

-- n bytes were taken, and the commands among them were answered; since the start the desk has come from a to b, and the steps from
-- before to after
pub record Holds (traced : Traced) (a b : Sight) (n before after : ℕ) (p : List ℕ) (feed : Feed) : Type 0 where
  pub taken : List ℕ
  pub course : Course
  pub count : length taken ≡ n
  pub cuts : Cuts traced course taken p
  pub unended : IsOpen p
  pub commands : Consumes (a.left Commands) (b.left Commands) taken
  pub talk : Appends (a.written Talk) (b.written Talk) (said_by course)
  pub feeds : Feeds traced course.stand feed
  pub cost : after ≡ before + feed.machine.steps
  pub most : most_of feed.machine ≤ most_steps traced.run
  pub calm : Calm a b

-- the promises of a call whose outcome may be told
pub record Leaves (o : Option Outcome) (s : Status) (a b : Sight) (before after : ℕ) : Type 0 where
  pub done : s ≡ status.Done → WhenTold o (λ x. DoneAs x a b)
  pub cost : WhenTold o (λ x. CostsAs x s a before after)
  pub load : s ≡ status.Load → WhenTold o (λ x. LoadAs x a b)
  pub too_long : s ≡ status.TooLong → WhenTold o (λ x. TooLongAs x a b before after)
  pub broken : IsBroken s → WhenTold o (λ x. BrokenAs x s a b before after)
  pub untaken : IsRefused s → b.left Commands ≡ a.left Commands
  pub unpaid : IsRefused s → after ≡ before
  pub usage : s ≡ status.Usage → ⊥
  pub different : s ≡ status.Different → ⊥
  pub counts : CountsAs s a.reads b.reads a.writes b.writes
  pub left : SameBut Commands a.left b.left
  pub written : SameBut Talk a.written b.written
  pub faultless : IsTrue a.steady → WhenTold o (λ x. HasFile x → IsFaultless s)

-- the outcome, where it is told
abbrev pub IsOutcome : Option Outcome → Outcome → Type 0
IsOutcome o x = WhenTold o (λ y. y ≡ x)

-- a session that was broken off by this status
pub record BreaksOff (traced : Traced) (s : Status) (a b : Sight) (before after : ℕ) : Type 0 where
  pub fault : Fault s a b
  pub left : WhenTold (a.left Commands) (λ bytes. BrokenOff traced s bytes a b before after)

-- a byte was taken and answered, or no more is there, or the session was broken off
abbrev pub Goes : Traced → Sight → ℕ → ℕ → Sight → ℕ → List ℕ → Feed → Result Bool Status → Type 0
Goes traced a n before b after p feed (Ok true) = Holds traced a b (suc n) before after p feed
Goes traced a n before b after p feed (Ok false) = Holds traced a b n before after p feed × IsAtEnd (b.left Commands)
Goes traced a n before b after p feed (Err s) = BreaksOff traced s a b before after

-- the last text was answered, or the session was broken off
abbrev pub Ends : Traced → Sight → ℕ → Sight → ℕ → Result (Unit {0}) Status → Type 0
Ends traced a before b after (Ok x) = Leaves (Some (Session traced)) status.Done a b before after
Ends traced a before b after (Err s) = BreaksOff traced s a b before after
