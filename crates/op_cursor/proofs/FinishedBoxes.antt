-- Searches for the place at which the box of the present event is left, as the move to it.
use Rattle.std.proofs.Common.{◌≡◌, ℕ, ◌<◌, Bool, true, false, not, ◌&&◌, List, Some, None, is_some, refl, sym, ap, ◌∙◌, subst, arith}
use Rattle.op_trace.specs.World.{Event}
use Rattle.op_trace.specs.Outside.{Taking, follow}
use Rattle.op_trace.specs.Run.{Run, events_of}
use Rattle.op_machine.specs.Machine.{event_now, has_event}
use Rattle.op_moves.specs.Moves as moves
use Rattle.op_moves.specs.Moves.{Stand, Outcome, event_at, finish_of, leaves, search_on, outcome}
use Rattle.op_moves.proofs.MoveCosts.{finish-rises}
use Rattle.op_retrace.specs.declared.fault.FeedFault.{FeedFault}
use Rattle.op_retrace.specs.Fed.{Fed, IsSound, shows_event, event_shown, event_by}
use Rattle.op_retrace.specs.Sight.{Sight}
use Rattle.op_cursor.specs.declared.found.Found.{Found}
use Rattle.op_cursor.specs.declared.found.Found.TheVariants as found
use Rattle.op_cursor.specs.declared.search.Sought.TheVariants as sought
use Rattle.op_cursor.specs.declared.search.SearchFault.{SearchFault}
use Rattle.op_cursor.specs.declared.search.SearchFault.TheVariants as search_fault
use Rattle.op_cursor.specs.Seen.{IsPlaceOf}
use Rattle.op_cursor.specs.Moving.{any_run}
use Rattle.op_cursor.specs.inner.Walks.{Walks, Stops, Arrives, start_of, up_to}
use Rattle.op_cursor.specs.inner.Finds.{Finds, BreaksOff}
use Rattle.op_cursor.specs.inner.Does.{Does, Fails, from_stand}
use Rattle.op_cursor.specs.inner.Seeks.{searching, Misses}
use Rattle.op_cursor.proofs.JoinedCalls.{broke-so}
use Rattle.op_cursor.proofs.StoppedWalks.{places-on}
use Rattle.op_cursor.proofs.FoundPlaces.{does-still}
use Rattle.op_cursor.proofs.FoundSearches.{sought-does, sought-misses}
use Rattle.op_cursor.proofs.PaidMoves.{does-paid, misses-paid}
use Rattle.op_cursor.proofs.ShownPlaces.{shows-place}

-- at place 0 there is no event
pub finish-nowhere : (p : ℕ) (v : Fed) (a : Sight) (n fuel : ℕ) → v.fault ≡ None → IsSound v → IsPlaceOf v p → p ≡ 0
    → Does any_run moves.finish p found.NoEvent v v a a n n fuel fuel
finish-nowhere p v a n fuel none sound i e =
    does-still moves.finish p found.NoEvent v a n fuel fuel none sound i
    (λ r f k. subst (λ (q : ℕ). from_stand moves.finish r q f fuel ≡ outcome moves.No_event f fuel) (sym e) refl)
    (λ j h. absurd (let z : moves.No_event ≡ moves.At j = h in cc))

-- the event that a feed shows
shown-event : (v : Fed) → shows_event v ≡ true → event_shown v.machine ≡ Some (event_now v.machine)
shown-event v h = ap (λ (t : Bool). event_by t v.machine) (both (has_event v.machine) (not (is_some v.fault)) h)
  where
    both : (s t : Bool) → (s && t) ≡ true → s ≡ true
    both true t k = refl
    both false t k = absurd cc

-- the feed came to the place
module _ (p : ℕ) (old mid new : Fed) (a m b : Sight) (before between after fuel : ℕ) (i : IsPlaceOf old p)
    (arrives : Arrives p old mid a m before between) where
  pub arrived-shows : 0 < p → shows_event mid ≡ true
  arrived-shows h =
      let there = arrives.there in
      let here = places-on _ old mid a m before between arrives.walks p i in
      shows-place mid arrives.walks.goes.still_none arrives.walks.goes.still_sound
      (subst (λ (q : ℕ). IsPlaceOf mid q) (sym there) here) (subst (λ (q : ℕ). 0 < q) (sym there) h)

  module _ (k : ℕ) (shown : shows_event mid ≡ true) (call : k ≡ (event_now mid.machine).call) where
    same : (rest : List ℕ) (taking : Taking) → new.run rest ≡ mid.run (follow taking rest) → (f : ℕ)
        → from_stand moves.finish (new.run rest) p f fuel ≡ from_stand (searching (sought.Left k)) (new.run rest) p f fuel
    same rest taking e f =
        let r : Run = new.run rest in
        let u = arrives.walks.goes.still_sound arrives.walks.goes.still_none (follow taking rest) in
        let at : event_at (events_of r.turns) p ≡ Some (event_now mid.machine) =
        subst (λ (x : Run). event_at (events_of x.turns) p ≡ Some (event_now mid.machine)) (sym e)
        (subst (λ (q : ℕ). event_at (events_of (mid.run (follow taking rest)).turns) q ≡ Some (event_now mid.machine)) arrives.there
        (u.event ∙ shown-event mid shown)) in
        let s : Stand = record { place = p; furthest = f } in
        ap (λ o. finish_of o (events_of r.turns) r.ending s fuel) at
        ∙ ap (λ (n : ℕ). search_on (leaves n) (events_of r.turns) r.ending s fuel) (sym call)

    pub finish-does : (y : Found) (left : ℕ) → Walks mid.place mid new m b between after → Finds (sought.Left k) y mid.place fuel new left
        → Does any_run moves.finish p y old new a b before after fuel left
    finish-does y left w s =
        does-paid moves.finish (searching (sought.Left k)) p old new a b before after fuel fuel
        (λ rest f. same rest w.comes.taking (w.comes.over rest).run f) y left
        (sought-does (sought.Left k) p old mid new a m b before between after fuel i arrives y left w s)

    pub finish-misses : (f : SearchFault) → BreaksOff (sought.Left k) f mid new m b between after fuel
        → Misses moves.finish p f old new a b before after fuel
    finish-misses search_fault.Memory l =
        misses-paid moves.finish (searching (sought.Left k)) p old new a b before after fuel fuel
        (λ rest f. same rest l.walks.comes.taking (l.walks.comes.over rest).run f) search_fault.Memory
        (sought-misses (sought.Left k) p old mid new a m b before between after fuel i arrives search_fault.Memory l)
    finish-misses (search_fault.Feed g) l =
        misses-paid moves.finish (searching (sought.Left k)) p old new a b before after fuel fuel
        (λ rest f. same rest l.stops.broke.taking (l.stops.broke.over rest).run f) (search_fault.Feed g)
        (sought-misses (sought.Left k) p old mid new a m b before between after fuel i arrives (search_fault.Feed g) l)

-- a fault on the way to the place
pub finish-unarrived : (p : ℕ) (f : FeedFault) (old new : Fed) (a b : Sight) (before after fuel : ℕ) → IsPlaceOf old p
    → Stops (start_of old.place p) p f old new a b before after → Fails moves.finish p f old new a b before after fuel
finish-unarrived p f old new a b before after fuel i s = record {
  none = s.none;
  sound = s.sound;
  first = s.first;
  cause = s.cause;
  furthest = s.furthest;
  places = s.places;
  apart = s.apart;
  counts = s.counts;
  too_long = s.too_long;
  broke =
      broke-so _ _ _ _ old new a b s.sound s.none
      (λ rest z o.
      let r : Run = new.run rest in
      let es : List Event = events_of r.turns in
      let far = finish-rises es r.ending (record { place = p; furthest = old.furthest }) fuel in
      let near = finish-rises es r.ending (record { place = p; furthest = p }) fuel in
      let w = i.within in
      let u = o.within in
      let y = o.most in
      let up = z.rising.steps (up_to r p) (from_stand moves.finish r p p fuel).furthest (omega arith) in
      (omega arith, record { within = omega arith; most = omega arith }))
      s.broke;
}
