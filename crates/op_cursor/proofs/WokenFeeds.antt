-- What is done to a feed behind seeing that it has answered no fault.
use Rattle.std.proofs.Common.{◌≡◌, ℕ, ◌+◌, ◌-◌, ◌*◌, ◌<◌, ◌≤◌, min, false, true}
use Rattle.std.proofs.Common.{List, [], Option, Some, None, is_some, refl, sym, ap, ◌∙◌}
use Rattle.std.proofs.Common.{subst, arith, Bool, not, ◌&&◌, zero, suc, length}
use Rattle.op_logic.proofs.BoolCases.{by_order}
use Rattle.op_trace.specs.World.{Event}
use Rattle.op_trace.specs.Run.{Run, events_of, steps_at}
use Rattle.op_machine.specs.Machine.{Kept, has_event}
use Rattle.op_moves.specs.Moves.{outcome, event_at}
use Rattle.op_moves.specs.Places.{event_count, least_steps, Rising}
use Rattle.op_retrace.specs.declared.fault.FeedFault.{FeedFault}
use Rattle.op_retrace.specs.Fed.{Fed, IsSound, IsReset, shows_event, event_by}
use Rattle.op_retrace.specs.declared.fault.Cause.{Cause}
use Rattle.op_retrace.specs.Sight.{Sight}
use Rattle.op_cursor.specs.declared.found.Found.{Found}
use Rattle.op_cursor.specs.Seen.{IsPlaceOf}
use Rattle.op_cursor.specs.Moving.{Moving, Bounded}
use Rattle.op_cursor.specs.inner.Walks.{failed}
use Rattle.op_cursor.specs.inner.Finds.{found_of}
use Rattle.op_cursor.specs.inner.Does.{Does, Forward, Fails, Wakes, from_stand}
use Rattle.op_cursor.proofs.JoinedCalls.{comes-so, comes-then, broke-then, broke-so}
use Rattle.op_cursor.proofs.JoinedWalks.{goes-then, apart-then, counts-then, walks-nothing, walks-reset}
use Rattle.op_cursor.proofs.StoppedWalks.{places-on}
use Rattle.op_cursor.proofs.FoundPlaces.{place-here}
use Rattle.op_cursor.proofs.SearchSteps.{nth-some}

from-one : (old new : Fed) (w : Wakes old new) {P : Type 0} → (w.from ≡ old.place → P) → (w.from ≡ 0 → P) → P
from-one old new w f g =
    by_order w.from old.place
    (λ l. g (w.where_from.1 (λ e. omega (arith, l, e))))
    (λ l. by_order old.place w.from (λ k. g (w.where_from.1 (λ e. omega (arith, k, e)))) (λ k. f (omega (arith, l, k))))

pub low-start : (r : Run) → least_steps r 0 ≡ 0
low-start r = let e : min 0 (event_count r) ≡ 0 = omega arith in ap (steps_at r) e

pub bounded-wake : (old mid : Fed) (keeps : ℕ) (r : Run) (limit to before after : ℕ) → Wakes old mid → Rising r
    → Bounded keeps r limit mid.place to before after → Bounded keeps r limit old.place to before after
bounded-wake old mid keeps r limit to before after w rising b =
    from-one old mid w
    (λ e. let same : mid.place ≡ old.place = w.there ∙ e in
    subst (λ (n : ℕ). Bounded keeps r limit n to before after) same b)
    (λ e. let at : mid.place ≡ 0 = w.there ∙ e in
    let c : Bounded keeps r limit 0 to before after = subst (λ (n : ℕ). Bounded keeps r limit n to before after) at b in
    let z0 = low-start r in
    record {
      most = c.most;
      least = λ z h. (let l = c.least z (omega arith) in omega arith);
      again = λ z h. (let l = c.least z (omega arith) in omega arith);
    })

pub wake-does : (IsKnown : Run → Type 0) (m : Moving) (p : ℕ) (y : Found) (old mid new : Fed) (a b : Sight) (before after fuel left : ℕ)
    → Wakes old mid → Does IsKnown m p y mid new a b before after fuel left → Does IsKnown m p y old new a b before after fuel left
wake-does IsKnown m p y old mid new a b before after fuel left w d =
    let walks = w.walks a before in
    let goes = goes-then old mid new a a b walks.goes d.goes in
    let keeps : mid.keeps ≡ old.keeps = walks.comes.keeps in
    record {
      goes = goes;
      found = d.found;
      comes =
          comes-so _ _ old new a b goes.sound goes.none goes.still_sound goes.still_none
          (λ rest x z o.
          let r : Run = new.run rest in
          let s = o.1.steps in
          record {
            answer = λ k.
                subst (λ (f : ℕ). from_stand m r p f fuel ≡ outcome (found_of y) new.furthest left) w.furthest (o.1.answer k);
            steps =
                bounded-wake old mid old.keeps r _ new.place before after w x.rising
                (subst (λ (n : ℕ). Bounded n r (2 * steps_at r (from_stand m r p p fuel).furthest) mid.place new.place before after) keeps s);
          })
          (comes-then _ _ old mid new a a b walks.comes d.comes);
    }

pub wake-forward : (p : ℕ) (y : Found) (old mid new : Fed) (before after : ℕ) → Wakes old mid → IsPlaceOf old p
    → Forward p y mid new before after → Forward p y old new before after
wake-forward p y old mid new before after w i f = record {
  steps = λ h rest.
      let e : mid.place ≡ old.place = w.there ∙ w.where_from.0 p i h in
      let k : mid.place ≤ p = omega arith in
      subst (λ (n : ℕ). after ≤ before + (steps_at (new.run rest) new.place - steps_at (new.run rest) n)) e (f.steps k rest);
  ahead = λ j e h.
      from-one old mid w
      (λ s. f.ahead j e (let t = w.there in omega arith))
      (λ s. f.ahead j e (let t = w.there in omega arith));
}

pub wake-fails : (m : Moving) (p : ℕ) (f : FeedFault) (old mid new : Fed) (a b : Sight) (before after fuel : ℕ)
    → Wakes old mid → Fails m p f mid new a b before after fuel → Fails m p f old new a b before after fuel
wake-fails m p f old mid new a b before after fuel w s =
    let walks = w.walks a before in
    record {
      none = walks.goes.none;
      sound = walks.goes.sound;
      first = s.first;
      cause = s.cause;
      furthest = let h = walks.goes.furthest in let k = s.furthest in omega arith;
      places = λ q i. s.places q (places-on w.from old mid a a before before walks q i);
      apart = apart-then a a b walks.goes.calm.apart s.apart;
      counts = counts-then a a b (failed f) walks.goes.calm s.counts;
      too_long = s.too_long;
      broke =
          broke-so _ _ _ _ old new a b walks.goes.sound walks.goes.none
          (λ rest x o.
          let r : Run = new.run rest in
          let q = o.1 in (
            subst (λ (n : ℕ). (from_stand m r p mid.furthest fuel).furthest ≤ (from_stand m r p n fuel).furthest) w.furthest (omega arith),
            record {
              within = subst (λ (n : ℕ). new.furthest ≤ (from_stand m r p n fuel).furthest) w.furthest q.within;
              most = q.most;
            },
          ))
          (broke-then _ _ old mid new a a b walks.comes _ s.broke);
    }

-- seeing it
pub has-it : (es : List Event) (q : ℕ) (b : Bool) (k : Kept) → 0 < q → q ≤ length es → event_at es q ≡ event_by b k → b ≡ true
has-it es zero b k h l e = absurd (omega (arith, h))
has-it es (suc i) true k h l e = refl
has-it es (suc i) false k h l e = nth-some es i (omega (arith, l)) (λ x n. absurd (let z : None ≡ Some x = sym e ∙ n in cc))

pub wakes-nothing : (v : Fed) → v.fault ≡ None → IsSound v → Wakes v v
wakes-nothing v none sound = record {
  from = v.place;
  walks = λ a n. walks-nothing v a n none sound;
  there = refl;
  furthest = refl;
  where_from = (λ p i h. refl, λ h. absurd (h refl));
}

pub wakes-reset : (old new : Fed) → old.fault ≡ None → IsSound old → IsReset old new → IsSound new → shows_event old ≡ false → Wakes old new
wakes-reset old new none sound e still h = record {
  from = 0;
  walks = λ a n. walks-reset old new a n none sound e still;
  there = ap (λ (v : Fed). v.place) e;
  furthest = ap (λ (v : Fed). v.furthest) e;
  where_from = (λ p i l. at-start p i l, λ k. refl);
}
  where
    at-start : (p : ℕ) → IsPlaceOf old p → old.place ≤ p → 0 ≡ old.place
    at-start p i l =
        let r : Run = old.run [] in
        let s = sound none [] in
        let n = place-here old r p s i in
        by_order 0 old.place
        (λ k. let b : has_event old.machine ≡ true =
        has-it (events_of r.turns) old.place (has_event old.machine) old.machine k (omega arith) s.event in
        let t : not (is_some old.fault) ≡ true = ap (λ (o : Option Cause). not (is_some o)) none in
        let z : shows_event old ≡ true = ap (λ (x : Bool). x && not (is_some old.fault)) b ∙ t in
        absurd (let y : true ≡ false = sym z ∙ h in cc))
        (λ k. omega arith)

pub shows-none : (v : Fed) → shows_event v ≡ true → v.fault ≡ None
shows-none v h = go v.fault refl
  where
    go : (o : Option Cause) → v.fault ≡ o → v.fault ≡ None
    go None e = e
    go (Some x) e =
        let z : shows_event v ≡ (has_event v.machine && false) = ap (λ (c : Option Cause). has_event v.machine && not (is_some c)) e in
        absurd (never (has_event v.machine) (sym z ∙ h))
      where
        never : (b : Bool) → (b && false) ≡ true → ⊥
        never true k = cc
        never false k = cc
