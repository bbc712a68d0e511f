-- Searches over a feed, look by look.
use Rattle.std.proofs.Common.{◌≡◌, ℕ, ◌+◌, ◌<◌, true, [], Option, None, sym, subst, arith}
use Rattle.op_trace.specs.Outside.{follow}
use Rattle.op_trace.specs.Run.{Run}
use Rattle.op_retrace.specs.declared.fault.FeedFault.{FeedFault}
use Rattle.op_retrace.specs.Fed.{Fed, shows_event}
use Rattle.op_retrace.specs.declared.feed.FeedStep.{FeedStep}
use Rattle.op_retrace.specs.declared.feed.FeedStep.TheVariants as step
use Rattle.op_machine.specs.Machine.{event_now}
use Rattle.op_cursor.specs.declared.found.Found.TheVariants as found
use Rattle.op_retrace.specs.Sight.{Sight}
use Rattle.op_cursor.specs.declared.found.Found.{Found}
use Rattle.op_cursor.specs.declared.search.Sought.{Sought}
use Rattle.op_cursor.specs.declared.search.SearchFault.{SearchFault}
use Rattle.op_cursor.specs.declared.search.SearchFault.TheVariants as search_fault
use Rattle.op_cursor.specs.Comes.{Comes, Broke}
use Rattle.op_cursor.specs.inner.Walks.{Walks, Advanced, Stops, behind}
use Rattle.op_cursor.specs.inner.Finds.{Finds, LooksOn, Looks, StopsLooking, LacksMemory, BreaksOff, Tells, found_of, found_at_end, sought_test}
use Rattle.op_cursor.proofs.JoinedWalks.{walks-then, walks-step}
use Rattle.op_cursor.proofs.StoppedWalks.{stops-then}
use Rattle.op_cursor.proofs.SearchSteps.{SameRuns, finds-on, looks-on, looked-on, end-finds, event-finds, event-looked, looks-behind, short-finds}

same-by : (P : Run → Type 0) (old new : Fed) (a b : Sight) → Comes P old new a b → SameRuns old new
same-by P old new a b c rest = (follow c.taking rest, (c.over rest).run)

same-broke : (to : Run → ℕ) (P : Run → Type 0) (old new : Fed) (a b : Sight) → Broke to P old new a b → SameRuns old new
same-broke to P old new a b c rest = (follow c.taking rest, (c.over rest).run)

module _ (x : Sought) (old mid new : Fed) (a m b : Sight) (before between after fuel left rests : ℕ)
    (walks : Walks old.place old mid a m before between) (on : LooksOn x old.place fuel mid left) where
  pub found-behind : (y : Found) → Walks mid.place mid new m b between after → Finds x y mid.place left new rests
      → Finds x y old.place fuel new rests
  found-behind y w f =
      finds-on x old.place fuel mid new left on (same-by _ mid new m b w.comes) walks.later y rests w.later f

  pub looked-behind : Walks mid.place mid new m b between after → LooksOn x mid.place left new rests → LooksOn x old.place fuel new rests
  looked-behind w f = looks-on x old.place fuel mid new left on (same-by _ mid new m b w.comes) walks.later rests w.later f

  pub breaks-behind : (f : SearchFault) → BreaksOff x f mid new m b between after left → BreaksOff x f old new a b before after fuel
  breaks-behind search_fault.Memory l = record {
    walks = walks-then old.place old mid new a m b before between after walks l.walks;
    looks =
        looked-on x old.place fuel mid new left on (same-by _ mid new m b l.walks.comes) walks.later (λ r. new.place) l.looks;
  }
  breaks-behind (search_fault.Feed f) l =
      record {
        limit = l.limit;
        ahead = let h = l.ahead in let k = walks.later in omega arith;
        stops =
            stops-then old.place (l.limit + 1) f old mid new a m b before between after walks (let h = l.ahead in omega arith) l.stops;
        looks =
            looked-on x old.place fuel mid new left on (same-broke _ _ mid new m b l.stops.broke) walks.later (λ r. behind r l.limit)
            l.looks;
      }

-- looks, by what an advance has come to
pub shown-there : (s : FeedStep) (old new : Fed) (a b : Sight) (before after : ℕ) → s ≡ step.Event → Advanced s old new a b before after
    → shows_event new ≡ true
shown-there s old new a b before after e d =
    let c : Advanced step.Event old new a b before after = subst (λ (t : FeedStep). Advanced t old new a b before after) e d in
    (c.advances.over []).comes.shown

pub end-found-there : (x : Sought) (y : Found) (s : FeedStep) (old new : Fed) (a b : Sight) (before after fuel left : ℕ) → s ≡ step.End
    → Advanced s old new a b before after → fuel ≡ left + 1 → found_of y ≡ found_at_end new.ending
    → Finds x y old.place fuel new left
end-found-there x y s old new a b before after fuel left e d paid h =
    end-finds x y old new a b before after fuel left (subst (λ (t : FeedStep). Advanced t old new a b before after) e d) paid h

pub event-found-there : (x : Sought) (y : Option Found) (s : FeedStep) (old new : Fed) (a b : Sight) (before after fuel mid left : ℕ)
    → s ≡ step.Event → Advanced s old new a b before after → fuel ≡ mid + 1
    → Tells y (sought_test x (event_now new.machine)) new.place mid left → Looks x y old fuel new left
event-found-there x y s old new a b before after fuel mid left e d paid h =
    event-finds x old new a b before after fuel mid (subst (λ (t : FeedStep). Advanced t old new a b before after) e d) paid y left h

pub event-lacks : (x : Sought) (s : FeedStep) (old new : Fed) (a b : Sight) (before after fuel mid : ℕ)
    → s ≡ step.Event → Advanced s old new a b before after → fuel ≡ mid + 1 → LacksMemory x old new a b before after fuel
event-lacks x s old new a b before after fuel mid e d paid = record {
  walks = walks-step s old new a b before after d;
  looks = event-looked x old new a b before after fuel mid (subst (λ (t : FeedStep). Advanced t old new a b before after) e d) paid;
}

pub stops-looking : (x : Sought) (f : FeedFault) (old new : Fed) (a b : Sight) (before after fuel mid : ℕ) → fuel ≡ mid + 1
    → Stops old.place (old.place + 1) f old new a b before after → StopsLooking x f old new a b before after fuel
stops-looking x f old new a b before after fuel mid paid s = record {
  limit = old.place;
  ahead = omega arith;
  stops = s;
  looks = looks-behind x old.place fuel new (omega (arith, paid));
}

pub short-found : (x : Sought) (v : Fed) (fuel left : ℕ) → (fuel < 1) × (left ≡ 0) → Finds x found.Spent v.place fuel v left
short-found x v fuel left h = subst (λ (n : ℕ). Finds x found.Spent v.place fuel v n) (sym h.1) (short-finds x v fuel h.0)

-- a look after which the search goes on
pub looks-none : (x : Sought) (o : Option Found) (old : Fed) (fuel : ℕ) (new : Fed) (left : ℕ) → o ≡ None → Looks x o old fuel new left
    → LooksOn x old.place fuel new left
looks-none x o old fuel new left e h =
    let k : Looks x None old fuel new left = subst (λ (y : Option Found). Looks x y old fuel new left) e h in
    k.0
