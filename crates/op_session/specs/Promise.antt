-- What a call of the program leaves behind, by its status, where a desk shows a before the call and b after it.
use Rattle.std.specs.Prelude.{◌≡◌, ℕ, ◌+◌, ◌-◌, ◌<◌, ◌≤◌, List, [], ◌∷◌, ◌++◌, length, take, drop, codes, min, Option, Some, None}
use Rattle.op_base.specs.Rising.{Rose}
use Rattle.op_desk.specs.declared.chan.Chan.TheVariants.{Commands, Talk}
use Rattle.op_desk.specs.Contents.{AppendsFront}
use Rattle.op_trace.specs.Run.{steps_at}
use Rattle.op_session.specs.Traced.{Traced}
use Rattle.op_session.specs.declared.status.Status.{Status}
use Rattle.op_session.specs.declared.status.Status.TheVariants as status
use Rattle.op_session.specs.Call.{Outcome, Line, Missing, Session, channel_limit, usage_line}
use Rattle.op_moves.specs.Places.{event_count}
use Rattle.op_session.specs.MostSteps.{most_steps}
use Rattle.op_trace.specs.Outside.{Taking}
use Rattle.op_session.specs.Session.{complete, so_far, session, said_in, furthest_in}
use Rattle.op_session.specs.Sight.{Sight}
use Rattle.std.specs.Io.KnownBytes.{Appends}

-- a fact of what a desk tells, where it tells it
abbrev pub WhenTold : {A : Type 0} → Option A → (A → Type 0) → Type 0
WhenTold None P = Unit {0}
WhenTold (Some x) P = P x

-- the traced run has made no more steps, from before to after, than it has at the furthest place that a session over these commands
-- looks at
abbrev pub CostsAtMost : Traced → Taking → ℕ → ℕ → Type 0
CostsAtMost traced t before after = after ≤ before + steps_at traced.run (furthest_in traced t)

-- and no fewer than at the last event up to there
pub record Costs (traced : Traced) (t : Taking) (before after : ℕ) : Type 0 where
  pub most : CostsAtMost traced t before after
  pub least : before + steps_at traced.run (min (furthest_in traced t) (event_count traced.run)) ≤ after

-- all commands were read and answered
pub record Finished (traced : Traced) (bytes : List ℕ) (a b : Sight) : Type 0 where
  pub short : length bytes < channel_limit
  pub answers : Appends (a.written Talk) (b.written Talk) (said_in traced (complete bytes))
  pub read : b.left Commands ≡ Some (session traced (complete bytes)).left

abbrev pub DoneAs : Outcome → Sight → Sight → Type 0
DoneAs (Line s text) a b = ⊥
DoneAs Missing a b = ⊥
DoneAs (Session traced) a b = WhenTold (a.left Commands) (λ bytes. Finished traced bytes a b)

-- no step is made where no session is held, whatever the status; for a session whose commands were all answered there are two bounds, the
-- run's steps at the furthest place that was looked at, and those at the last event up to there
abbrev pub CostsAs : Outcome → Status → Sight → ℕ → ℕ → Type 0
CostsAs (Line t text) s a before after = after ≡ before
CostsAs Missing s a before after = after ≡ before
CostsAs (Session traced) s a before after =
    s ≡ status.Done → WhenTold (a.left Commands) (λ bytes. Costs traced (complete bytes) before after)

-- a refusal of the program or the goal writes its line
abbrev pub LoadAs : Outcome → Sight → Sight → Type 0
LoadAs (Line status.Load text) a b = Appends (a.written Talk) (b.written Talk) text
LoadAs o a b = ⊥

abbrev pub all_but_last : List ℕ → List ℕ
all_but_last xs = take (length xs - 1) xs

abbrev pub IsPrefix : List ℕ → List ℕ → Type 0
IsPrefix xs ys = (zs : List ℕ) × (ys ≡ xs ++ zs)

abbrev pub IsBetween : List ℕ → List ℕ → List ℕ → Type 0
IsBetween xs ys zs = IsPrefix xs ys × IsPrefix ys zs

abbrev pub too_long_line : List ℕ
too_long_line = codes "opium: too long commands\n"

-- where a session was broken off: in taking the next byte of the commands, or before any was taken, in reading the program's file, in
-- loading it or at the start of the run; in keeping the byte that was taken last; in answering the command that this byte has ended; in
-- answering what is left at the end of the commands; or in telling that they are too long
pub data Met : Type 0 where
  InTaking : Met
  InKeeping : Met
  InAnswering : Met
  InLast : Met
  AtLimit : Met

-- statuses of what could not be read, and of what could not be written
abbrev pub IsUnread : Status → Type 0
IsUnread status.Read = Unit {0}
IsUnread status.Memory = Unit {0}
IsUnread s = ⊥

abbrev pub IsUnwritten : Status → Type 0
IsUnwritten status.Write = Unit {0}
IsUnwritten status.Memory = Unit {0}
IsUnwritten s = ⊥

-- the statuses that a fault there gives
abbrev pub IsMet : Met → Status → Type 0
IsMet InTaking s = IsUnread s
IsMet InKeeping s = s ≡ status.Memory
IsMet InAnswering s = IsUnwritten s
IsMet InLast s = IsUnwritten s
IsMet AtLimit s = IsUnwritten s

-- how many bytes of the commands were taken by then
abbrev pub IsCount : Met → ℕ → Type 0
IsCount InTaking n = n < channel_limit
IsCount InKeeping n = n ≤ channel_limit
IsCount InAnswering n = n ≤ channel_limit
IsCount InLast n = n < channel_limit
IsCount AtLimit n = n ≡ channel_limit

-- what was taken by then, and what is left: while a command is answered, the last byte is the one behind it, which gave just one answer
-- more, and no other was taken; what is left at the end is answered only where nothing more is there to take
abbrev pub IsTaken : Met → Traced → List ℕ → List ℕ → Type 0
IsTaken InTaking traced taken rest = Unit {0}
IsTaken InKeeping traced taken rest = Unit {0}
IsTaken InAnswering traced taken rest =
    (answer : List ℕ) × ((session traced (so_far taken)).answers ≡ (session traced (so_far (all_but_last taken))).answers ++ answer ∷ [])
IsTaken InLast traced taken rest = rest ≡ []
IsTaken AtLimit traced taken rest = Unit {0}

-- how far what a session gives had come by then: exactly as far as the commands go that were taken whole, where none was being answered,
-- and without one that a byte ended that could not be kept; where one was, as far as those before it, and a front of its own
abbrev pub Reached : Met → (Taking → List ℕ) → List ℕ → List ℕ → Type 0
Reached InTaking part taken come = come ≡ part (so_far taken)
Reached InKeeping part taken come = come ≡ part (so_far (all_but_last taken))
Reached InAnswering part taken come = IsBetween (part (so_far (all_but_last taken))) come (part (so_far taken))
Reached InLast part taken come = IsBetween (part (so_far taken)) come (part (complete taken))
Reached AtLimit part taken come = come ≡ part (so_far taken)

-- the steps where a command was being answered, the last of these: no more than theirs, where its answer could not be written; where it
-- lacked memory, no more than the run has at any turn or at its end
abbrev pub PaidFor : Status → Traced → Taking → ℕ → ℕ → Type 0
PaidFor s traced t before after = (s ≡ status.Write → CostsAtMost traced t before after) × (after ≤ before + most_steps traced.run)

-- the steps that were made by then: where no command was being answered, no more than those of the commands that were answered; where
-- one was, as above
abbrev pub Paid : Met → Status → Traced → List ℕ → ℕ → ℕ → Type 0
Paid InTaking s traced taken before after = CostsAtMost traced (so_far taken) before after
Paid InKeeping s traced taken before after = CostsAtMost traced (so_far (all_but_last taken)) before after
Paid InAnswering s traced taken before after = PaidFor s traced (so_far taken) before after
Paid InLast s traced taken before after = PaidFor s traced (complete taken) before after
Paid AtLimit s traced taken before after = CostsAtMost traced (so_far taken) before after

-- the line of which a front may stand behind them
abbrev pub line_met : Met → List ℕ
line_met InTaking = []
line_met InKeeping = []
line_met InAnswering = []
line_met InLast = []
line_met AtLimit = too_long_line

-- a session that was broken off: where, what was taken of the commands, what is left of them, what was written, and the steps
pub record BrokenOff (traced : Traced) (s : Status) (bytes : List ℕ) (a b : Sight) (before after : ℕ) : Type 0 where
  pub met : Met
  pub taken : List ℕ
  pub rest : List ℕ
  pub answers : List ℕ
  pub line : List ℕ
  pub is_met : IsMet met s
  pub bytes_are : bytes ≡ taken ++ rest
  pub left : b.left Commands ≡ Some rest
  pub count : IsCount met (length taken)
  pub is_taken : IsTaken met traced taken rest
  pub front : IsPrefix answers (said_in traced (complete bytes))
  pub answered : Reached met (said_in traced) taken answers
  pub line_front : IsPrefix line (line_met met)
  pub written : Appends (a.written Talk) (b.written Talk) (answers ++ line)
  pub paid : Paid met s traced taken before after

-- after a fault of reading or writing, or want of memory: of a line that is to be written a front stands, and nothing where reading
-- failed
abbrev pub BrokenAs : Outcome → Status → Sight → Sight → ℕ → ℕ → Type 0
BrokenAs (Line t text) status.Read a b before after = (b.written Talk ≡ a.written Talk) × (b.left Commands ≡ a.left Commands)
BrokenAs (Line t text) s a b before after = AppendsFront (a.written Talk) (b.written Talk) text × (b.left Commands ≡ a.left Commands)
BrokenAs Missing s a b before after = IsUnread s × (b.written Talk ≡ a.written Talk) × (b.left Commands ≡ a.left Commands)
BrokenAs (Session traced) s a b before after = WhenTold (a.left Commands) (λ bytes. BrokenOff traced s bytes a b before after)

-- as many bytes of the commands were taken as may be, and none was asked for behind them: exactly so many are too many as well. The
-- commands that were taken whole with the byte behind them were answered, with their steps; one whose full stop is the last of these
-- bytes was not
pub record PastLimit (traced : Traced) (bytes : List ℕ) (a b : Sight) (before after : ℕ) : Type 0 where
  pub long : channel_limit ≤ length bytes
  pub left : b.left Commands ≡ Some (drop channel_limit bytes)
  pub front : IsPrefix (said_in traced (so_far (take channel_limit bytes))) (said_in traced (complete bytes))
  pub written : Appends (a.written Talk) (b.written Talk) (said_in traced (so_far (take channel_limit bytes)) ++ too_long_line)
  pub costs : Costs traced (so_far (take channel_limit bytes)) before after

-- where a limit of bytes was passed
abbrev pub TooLongAs : Outcome → Sight → Sight → ℕ → ℕ → Type 0
TooLongAs (Line status.TooLong text) a b before after = Appends (a.written Talk) (b.written Talk) text × (b.left Commands ≡ a.left Commands)
TooLongAs (Line s text) a b before after = ⊥
TooLongAs Missing a b before after = ⊥
TooLongAs (Session traced) a b before after = WhenTold (a.left Commands) (λ bytes. PastLimit traced bytes a b before after)

-- a refusal of the words writes its line, or a front of it where it can't be written whole, takes nothing and makes no step
abbrev pub WordsRefusedAs : Status → Sight → Sight → ℕ → ℕ → Type 0
WordsRefusedAs status.Usage a b before after =
    Appends (a.written Talk) (b.written Talk) usage_line × (b.left Commands ≡ a.left Commands) × (after ≡ before)
WordsRefusedAs s a b before after =
    IsUnwritten s × AppendsFront (a.written Talk) (b.written Talk) usage_line × (b.left Commands ≡ a.left Commands) × (after ≡ before)

-- the counts of faults of reading and writing, before and after, by the status
abbrev pub CountsAs : Status → ℕ → ℕ → ℕ → ℕ → Type 0
CountsAs status.Read reads reads_after writes writes_after = Rose reads reads_after × (writes_after ≡ writes)
CountsAs status.Write reads reads_after writes writes_after = (reads_after ≡ reads) × Rose writes writes_after
CountsAs s reads reads_after writes writes_after = (reads_after ≡ reads) × (writes_after ≡ writes)

-- statuses that a fault of the desk or want of memory gives
abbrev pub IsBroken : Status → Type 0
IsBroken status.Read = Unit {0}
IsBroken status.Write = Unit {0}
IsBroken status.Memory = Unit {0}
IsBroken s = ⊥

abbrev pub IsRefused : Status → Type 0
IsRefused status.Usage = Unit {0}
IsRefused status.Load = Unit {0}
IsRefused s = ⊥

-- no fault of the desk
abbrev pub IsFaultless : Status → Type 0
IsFaultless status.Read = ⊥
IsFaultless status.Write = ⊥
IsFaultless s = Unit {0}

-- the shelf has the file that the words name, or the words aren't two and name none
abbrev pub HasFile : Outcome → Type 0
HasFile Missing = ⊥
HasFile o = Unit {0}
