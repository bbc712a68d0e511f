-- The places of a run, and the moves between them. There are n events: place 0 is before the first, place i is at event i; the end,
-- which counts as n + 1, can be looked at, and is no place to stand at.
use Rattle.std.specs.Prelude.{ℕ, zero, suc, ◌+◌, ◌-◌, ◌==◌, nat_le, max, Bool, true, false, ◌&&◌, List, [], ◌∷◌, length, take, drop}
use Rattle.std.specs.Prelude.{reverse, Option, Some, None, if◌then◌else◌}
use Rattle.op_logic.specs.Term.{Term, size}
use Rattle.op_trace.specs.declared.port.Port.{Port}
use Rattle.op_trace.specs.declared.port.Port.TheVariants as port
use Rattle.op_trace.specs.Database.{Text}
use Rattle.op_trace.specs.World.{Event}
use Rattle.op_trace.specs.Ending.{Ending}
use Rattle.op_trace.specs.Ending as ending
use Rattle.op_moves.specs.Pattern.{Test, answer, tested}

-- what goes on from one command to the next: where the user stands, and the furthest place that was looked at
pub record Stand : Type 0 where
  pub place : ℕ
  pub furthest : ℕ

abbrev pub at_start : Stand
at_start = record { place = 0; furthest = 0 }

-- what a move finds: a place; nothing; nothing, and it met the end of a spent run; or it needs more steps than there are
pub data Found : Type 0 where
  At : ℕ → Found
  No_event : Found
  Past_budget : Found
  Spent : Found

-- with the furthest place that was looked at by then, and the steps that are left
pub record Outcome : Type 0 where
  pub found : Found
  pub furthest : ℕ
  pub left : ℕ

abbrev pub outcome : Found → ℕ → ℕ → Outcome
outcome x f left = record { found = x; furthest = f; left = left }

-- a move that finds a place goes there; else the place stays
abbrev pub place_after : ℕ → Found → ℕ
place_after p (At j) = j
place_after p No_event = p
place_after p Past_budget = p
place_after p Spent = p

abbrev pub moved : Stand → Outcome → Stand
moved s o = record { place = place_after s.place o.found; furthest = o.furthest }

-- steps are taken before what they pay for
abbrev pub pay : ℕ → ℕ → ℕ → (ℕ → Outcome) → Outcome
pay n f fuel rest = if nat_le n fuel then rest (fuel - n) else outcome Spent f 0

abbrev pub end_found : Ending → Found
end_found ending.Stopped = No_event
end_found ending.Failed = No_event
end_found (ending.Thrown b) = No_event
end_found (ending.Halted n) = No_event
end_found ending.Spent = Past_budget

-- each event with its place, the first at place j; those behind a place, and those before it from the last one down
abbrev pub numbered : ℕ → List Event → List (ℕ × Event)
numbered j [] = []
numbered j (e ∷ es) = (j, e) ∷ numbered (j + 1) es

abbrev pub later : List Event → ℕ → List (ℕ × Event)
later es p = numbered (p + 1) (drop p es)

abbrev pub earlier : List Event → ℕ → List (ℕ × Event)
earlier es p = reverse (numbered 1 (take (p - 1) es))

abbrev pub nth_event : List Event → ℕ → Option Event
nth_event [] i = None
nth_event (e ∷ es) zero = Some e
nth_event (e ∷ es) (suc i) = nth_event es i

-- the event at a place: none at 0, and none past n
abbrev pub event_at : List Event → ℕ → Option Event
event_at es zero = None
event_at es (suc i) = nth_event es i

-- One look: at place j, which is 0 where there is nothing to look at.
abbrev pub look : ℕ → Found → Stand → ℕ → Outcome
look j x s fuel = pay 1 s.furthest fuel (λ left. outcome x (max s.furthest j) left)

abbrev pub goto : List Event → Ending → ℕ → Stand → ℕ → Outcome
goto es e j s fuel = if nat_le j (length es) then look j (At j) s fuel else look (length es + 1) (end_found e) s fuel

abbrev pub next : List Event → Ending → Stand → ℕ → Outcome
next es e s fuel = goto es e (s.place + 1) s fuel

abbrev pub prev_of : ℕ → Stand → ℕ → Outcome
prev_of zero s fuel = look 0 No_event s fuel
prev_of (suc p) s fuel = look p (At p) s fuel

abbrev pub prev : Stand → ℕ → Outcome
prev s fuel = prev_of s.place s fuel

abbrev pub first : Stand → ℕ → Outcome
first s fuel = look 0 (At 0) s fuel

-- the last event, by the ending; a run without events has none
abbrev pub last_found : ℕ → Found → Found
last_found zero x = x
last_found (suc n) No_event = At (suc n)
last_found (suc n) x = x

abbrev pub last : List Event → Ending → Stand → ℕ → Outcome
last es e s fuel = look (length es + 1) (last_found (length es) (end_found e)) s fuel

-- the call of a box: its event's place; no box has the number 0
abbrev pub is_call : Port → Bool
is_call port.Call = true
is_call _ = false

abbrev pub call_in : List (ℕ × Event) → ℕ → Found
call_in [] k = No_event
call_in (x ∷ xs) k = if is_call x.1.port && (x.1.call == k) then At x.0 else call_in xs k

abbrev pub call_of : List Event → ℕ → Found
call_of es zero = No_event
call_of es (suc k) = call_in (numbered 1 es) (suc k)

abbrev pub seen_at : Found → ℕ
seen_at (At j) = j
seen_at _ = 0

abbrev pub look_at_call : List Event → ℕ → Stand → ℕ → Outcome
look_at_call es k s fuel = look (seen_at (call_of es k)) (call_of es k) s fuel

-- a number of the present event, or 0 where there is none
abbrev pub present : (Event → ℕ) → Option Event → ℕ
present part None = 0
present part (Some e) = part e

abbrev pub parent : List Event → Stand → ℕ → Outcome
parent es s fuel = look_at_call es (present (λ e. e.parent) (event_at es s.place)) s fuel

abbrev pub retry : List Event → Stand → ℕ → Outcome
retry es s fuel = look_at_call es (present (λ e. e.call) (event_at es s.place)) s fuel

-- Looks at events one after the other, each for a step and what its test takes, until one is accepted.
abbrev pub search : (Event → Test) → List (ℕ × Event) → (ℕ → ℕ → Outcome) → ℕ → ℕ → Outcome
search test [] behind f fuel = behind f fuel
search test (x ∷ xs) behind f fuel =
    pay 1 f fuel (λ left. pay (test x.1).cost (max f x.0) left (λ rest.
    if (test x.1).yes then outcome (At x.0) (max f x.0) rest else search test xs behind (max f x.0) rest))

-- behind the last event the end is looked at; before the first there is nothing
abbrev pub look_at_end : List Event → Ending → ℕ → ℕ → Outcome
look_at_end es e f fuel = pay 1 f fuel (λ left. outcome (end_found e) (max f (length es + 1)) left)

abbrev pub search_on : (Event → Test) → List Event → Ending → Stand → ℕ → Outcome
search_on test es e s fuel = search test (later es s.place) (look_at_end es e) s.furthest fuel

abbrev pub search_back : (Event → Test) → List Event → Stand → ℕ → Outcome
search_back test es s fuel = search test (earlier es s.place) (outcome No_event) s.furthest fuel

-- a pattern's size is paid first
abbrev pub seek : Term Text → List Event → Ending → Stand → ℕ → Outcome
seek p es e s fuel = pay (size p) s.furthest fuel (λ left. search_on (tested p) es e s left)

abbrev pub seek_back : Term Text → List Event → Stand → ℕ → Outcome
seek_back p es s fuel = pay (size p) s.furthest fuel (λ left. search_back (tested p) es s left)

-- the event at which the present box is left
abbrev pub is_leaving : Port → Bool
is_leaving port.Exit = true
is_leaving port.Fail = true
is_leaving port.Exception = true
is_leaving _ = false

abbrev pub leaves : ℕ → Event → Test
leaves k e = answer (is_leaving e.port && (e.call == k)) 0

abbrev pub finish_of : Option Event → List Event → Ending → Stand → ℕ → Outcome
finish_of None es e s fuel = outcome No_event s.furthest fuel
finish_of (Some x) es e s fuel = search_on (leaves x.call) es e s fuel

abbrev pub finish : List Event → Ending → Stand → ℕ → Outcome
finish es e s fuel = finish_of (event_at es s.place) es e s fuel
