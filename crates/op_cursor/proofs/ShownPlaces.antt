-- An event that is shown.
use Rattle.std.proofs.Common.{◌≡◌, ℕ, ◌<◌, Bool, true, not, ◌&&◌, Option, None, is_some, [], sym, ap}
use Rattle.std.proofs.Common.{◌∙◌, subst, arith, Ok, Err}
use Rattle.op_logic.proofs.BoolCases.{by_order}
use Rattle.op_trace.specs.Run.{Run, events_of, steps_at}
use Rattle.op_machine.specs.Machine.{has_event}
use Rattle.op_moves.specs.Places.{Rising}
use Rattle.op_moves.specs.Moves.{event_at}
use Rattle.op_moves.proofs.MoveCosts.{first-rises}
use Rattle.op_retrace.specs.declared.fault.Cause.{Cause}
use Rattle.op_retrace.specs.declared.fault.FeedFault.{FeedFault}
use Rattle.op_retrace.specs.declared.fault.FeedFault.TheVariants as fault
use Rattle.op_retrace.specs.Fed.{Fed, IsSound, Pays, shows_event}
use Rattle.op_retrace.specs.Sight.{Sight}
use Rattle.op_cursor.specs.Seen.{Seen, IsPlaceOf, CanStand, Leaves, moment, stand_of, cause_in}
use Rattle.op_cursor.specs.Moving.{Bounded, Shows, ShowBreaks, to_start}
use Rattle.op_cursor.specs.inner.Walks.{Walks, Arrives, Stops, up_to, start_of}
use Rattle.op_cursor.specs.inner.Does.{Wakes, IsAwake, CannotWake}
use Rattle.op_cursor.proofs.JoinedCalls.{comes-so, comes-then, broke-so, broke-then}
use Rattle.op_cursor.proofs.JoinedWalks.{goes-then, start-here, start-zero, ok-no-fault, same-fault, counts-calm, counts-fault}
use Rattle.op_cursor.proofs.StoppedWalks.{places-on}
use Rattle.op_cursor.proofs.FoundPlaces.{place-here}
use Rattle.op_cursor.proofs.MovedCursors.{not-exhausted, ends-first, unwoken-breaks, unwoken-furthest}
use Rattle.op_cursor.proofs.WokenFeeds.{has-it, low-start, bounded-wake}

pub shows-place : (v : Fed) → v.fault ≡ None → IsSound v → IsPlaceOf v v.place → 0 < v.place → shows_event v ≡ true
shows-place v none sound i k =
    let r : Run = v.run [] in
    let s = sound none [] in
    let n = place-here v r v.place s i in
    let b : has_event v.machine ≡ true = has-it (events_of r.turns) v.place (has_event v.machine) v.machine k n s.event in
    let t : not (is_some v.fault) ≡ true = ap (λ (o : Option Cause). not (is_some o)) none in
    ap (λ (x : Bool). x && not (is_some v.fault)) b ∙ t

bounded-start : (keeps : ℕ) (r : Run) (a p before after : ℕ) → Rising r → Pays keeps r (start_of a p) p before after
    → Bounded keeps r (steps_at r p) a p before after
bounded-start keeps r a p before after rising q =
    by_order p a
    (λ l. let c : Pays keeps r 0 p before after = subst (λ (n : ℕ). Pays keeps r n p before after) (start-zero a p l) q in
    let m = c.most in
    let z0 = low-start r in
    record {
      most = omega arith;
      least = λ z h. absurd (omega (arith, l, h));
      again = λ z h. (let e = c.least z in omega arith);
    })
    (λ l. let c : Pays keeps r a p before after = subst (λ (n : ℕ). Pays keeps r n p before after) (start-here a p l) q in
    let m = c.most in
    record { most = omega arith; least = λ z h. c.least z; again = λ z h. absurd (omega (arith, l, h)) })

pub shows-now : (u v w : Seen) (a b : Sight) (before after : ℕ) → CanStand u → IsAwake u v
    → Arrives v.place v.fed w.fed a b before after → w.place ≡ v.place
    → Shows (moment u a 0 before) (moment w b 0 after)
shows-now u v w a b before after can awake arrives same =
    let p : w.place ≡ u.place = same ∙ awake.place in
    let k : Wakes u.fed v.fed = awake.wakes in
    let start = k.walks a before in
    let walks : Walks (start_of v.fed.place u.place) v.fed w.fed a b before after =
    subst (λ (n : ℕ). Walks (start_of v.fed.place n) v.fed w.fed a b before after) awake.place arrives.walks in
    let goes = goes-then u.fed v.fed w.fed a a b start.goes walks.goes in
    let there : w.fed.place ≡ u.place = arrives.there ∙ awake.place in
    let here : IsPlaceOf w.fed u.place =
    places-on _ v.fed w.fed a b before after walks u.place (places-on k.from u.fed v.fed a a before before start u.place can) in
    let keeps = start.comes.keeps in
    record {
      place = p;
      furthest = arrives.furthest ∙ k.furthest;
      there = there;
      shown = λ h.
          shows-place w.fed goes.still_none goes.still_sound (subst (λ (n : ℕ). IsPlaceOf w.fed n) (sym there) here)
          (subst (λ (n : ℕ). 0 < n) (sym there) h);
      comes =
          comes-so _ _ u.fed w.fed a b goes.sound goes.none goes.still_sound goes.still_none
          (λ rest x z o.
          let r : Run = w.fed.run rest in
          let paid : Pays u.fed.keeps r (start_of v.fed.place u.place) w.fed.place before after =
          subst (λ (n : ℕ). Pays n r (start_of v.fed.place u.place) w.fed.place before after) keeps o.1 in
          let paid_there : Pays u.fed.keeps r (start_of v.fed.place u.place) u.place before after =
          subst (λ (n : ℕ). Pays u.fed.keeps r (start_of v.fed.place u.place) n before after) there paid in
          let bound = bounded-start u.fed.keeps r v.fed.place u.place before after x.rising paid_there in
          record {
            event = ap (event_at (events_of r.turns)) (sym there) ∙ z.event;
            steps =
                subst (λ (n : ℕ). Bounded u.fed.keeps r (steps_at r u.place) u.fed.place n before after) (sym there)
                (bounded-wake u.fed v.fed u.fed.keeps r (steps_at r u.place) u.place before after k x.rising bound);
            forward = λ h.
                let e : v.fed.place ≡ u.fed.place = k.there ∙ k.where_from.0 u.place can h in
                let s : start_of v.fed.place u.place ≡ u.fed.place = start-here v.fed.place u.place (omega arith) ∙ e in
                (subst (λ (n : ℕ). Pays u.fed.keeps r n w.fed.place before after) s paid).most;
          })
          (comes-then _ _ u.fed v.fed w.fed a a b start.comes walks.comes);
    }

pub show-leaves : (u v w : Seen) (a b : Sight) (before after : ℕ) → CanStand u → IsAwake u v
    → Arrives v.place v.fed w.fed a b before after → w.place ≡ v.place → w.exhausted ≡ v.exhausted
    → Leaves {T = Unit {0}} (Ok tt) (moment u a 0 before) (moment w b 0 after)
show-leaves u v w a b before after can awake arrives same flag =
    let start = awake.wakes.walks a before in
    let walks = arrives.walks in
    let goes = goes-then u.fed v.fed w.fed a a b start.goes walks.goes in
    record {
      ends = (not-exhausted u awake.before ∙ goes.none, not-exhausted w (flag ∙ awake.after) ∙ goes.still_none);
      stands =
          subst (λ (n : ℕ). IsPlaceOf w.fed n) (sym (same ∙ awake.place))
          (places-on _ v.fed w.fed a b before after walks u.place
          (places-on awake.wakes.from u.fed v.fed a a before before start u.place can));
      apart = goes.calm.apart;
      counts = counts-calm a b (Ok tt) (ok-no-fault tt) goes.calm;
      too_long = λ e. absurd (ok-no-fault tt fault.InputTooLong e);
      fuel = omega arith;
    }

pub show-breaks : (f : FeedFault) (u v w : Seen) (a b : Sight) (before after : ℕ) → CanStand u → IsAwake u v
    → Stops (start_of v.fed.place v.place) v.place f v.fed w.fed a b before after → w.place ≡ v.place
    → ShowBreaks (moment u a 0 before) (moment w b 0 after)
show-breaks f u v w a b before after can awake s same =
    let start = awake.wakes.walks a before in
    let k = awake.wakes.furthest in
    let p = awake.place in
    let i = can.within in
    let h = s.furthest in
    let l = (s.broke.so []).within in
    record {
      place = same ∙ awake.place;
      furthest = omega arith;
      broke =
          broke-so _ _ _ _ u.fed w.fed a b start.goes.sound start.goes.none
          (λ rest x o.
          let r : Run = w.fed.run rest in
          let m = o.1.most in
          let up = x.rising.steps (up_to r v.place) u.place (omega arith) in
          (omega arith, record { most = omega arith })) (broke-then _ _ u.fed v.fed w.fed a a b start.comes _ s.broke);
    }

pub show-broken-leaves : (f : FeedFault) (u v w : Seen) (a b : Sight) (before after : ℕ) → CanStand u → IsAwake u v
    → Stops (start_of v.fed.place v.place) v.place f v.fed w.fed a b before after → w.place ≡ v.place → w.exhausted ≡ v.exhausted
    → Leaves {T = Unit {0}} (Err f) (moment u a 0 before) (moment w b 0 after)
show-broken-leaves f u v w a b before after can awake s same flag =
    let start = awake.wakes.walks a before in
    record {
      ends =
          ends-first f (moment u a 0 before) (moment w b 0 after) s.first (not-exhausted u awake.before ∙ start.goes.none)
          (not-exhausted w (flag ∙ awake.after) ∙ s.cause);
      stands =
          subst (λ (n : ℕ). IsPlaceOf w.fed n) (sym (same ∙ awake.place))
          (s.places u.place (places-on awake.wakes.from u.fed v.fed a a before before start u.place can));
      apart = s.apart;
      counts = counts-fault a b f s.counts;
      too_long = λ e. s.too_long (same-fault f fault.InputTooLong e);
      fuel = omega arith;
    }

pub show-unwoken : (f : FeedFault) (u w : Seen) (a : Sight) (n : ℕ) → cause_in u ≡ None → CannotWake f u w
    → ShowBreaks (moment u a 0 n) (moment w a 0 n)
show-unwoken f u w a n none h =
    let b = unwoken-breaks to_start f u w a 0 n none h (λ r. first-rises (stand_of u) 0) in
    let same = unwoken-furthest f u w none h in
    record {
      place = b.place;
      furthest = same;
      broke = record {
        loaded = b.broke.loaded;
        keeps = b.broke.keeps;
        taking = b.broke.taking;
        takes = b.broke.takes;
        put = b.broke.put;
        appends = b.broke.appends;
        over = b.broke.over;
        so = λ rest. record { most = omega arith };
      };
    }
