-- Walks that end at a fault.
use Rattle.std.proofs.Common.{◌≡◌, ℕ, ◌+◌, ◌<◌, ◌≤◌, true, false, List, Option, Some, None, is_some, refl, sym, ap}
use Rattle.std.proofs.Common.{[], ◌++◌, append-nil}
use Rattle.std.proofs.KnownBytes.{Appends-nil}
use Rattle.std.proofs.Common.{◌∙◌, subst, arith, Err, IsErrOf}
use Rattle.op_desk.specs.declared.chan.Chan.TheVariants.{Input, Output}
use Rattle.op_trace.specs.Outside.{Taking, follow, nothing}
use Rattle.op_trace.specs.Run.{Run, output_at}
use Rattle.op_machine.specs.declared.turn.Ending.{Ending}
use Rattle.op_moves.specs.Places.{event_count}
use Rattle.op_retrace.specs.declared.feed.FeedStep.{FeedStep}
use Rattle.op_retrace.specs.declared.fault.FeedFault.{FeedFault}
use Rattle.op_retrace.specs.declared.fault.FeedFault.TheVariants as fault
use Rattle.op_retrace.specs.Fed.{Fed, IsSound, Stands, Looked, Pays, Breaks, IsBrokenReset, IsResetFault, EndsBy, cause_of, input_limit, source_of}
use Rattle.op_retrace.specs.Sight.{Sight, Apart, Counts}
use Rattle.op_retrace.proofs.TakenSources.{takes-nothing}
use Rattle.op_cursor.specs.Seen.{IsPlaceOf}
use Rattle.op_cursor.specs.Comes.{Comes, Broke}
use Rattle.op_cursor.specs.inner.Walks.{Goes, Walks, Stops, StoppedBy, IsFirst, failed, up_to, furthest_of}
use Rattle.op_cursor.proofs.JoinedCalls.{comes-so, broke-then, broke-so}
use Rattle.op_cursor.proofs.JoinedWalks.{apart-nothing, apart-then, counts-fault, counts-then, place-within}

pub is-first : (f : FeedFault) (old new : Fed) → old.fault ≡ None → EndsBy f old new → IsFirst f
is-first fault.Memory old new none e = tt
is-first fault.Read old new none e = tt
is-first fault.Write old new none e = tt
is-first fault.InputTooLong old new none e = tt
is-first (fault.Ended c) old new none e = let h = e.0 in cc

pub cause-now : (f : FeedFault) (old new : Fed) → old.fault ≡ None → EndsBy f old new → new.fault ≡ Some (cause_of f)
cause-now fault.Memory old new none e = e.1
cause-now fault.Read old new none e = e.1
cause-now fault.Write old new none e = e.1
cause-now fault.InputTooLong old new none e = e.1
cause-now (fault.Ended c) old new none e = absurd (let h = e.0 in cc)

pub same-places : (old new : Fed) → new.furthest ≡ old.furthest → new.ending ≡ old.ending → (p : ℕ) → IsPlaceOf old p → IsPlaceOf new p
same-places old new f e p i = record {
  within = let w = i.within in omega arith;
  below = λ s. (let b = i.below (ap is_some (sym e) ∙ s) in omega arith);
}

-- an advance that answers a fault
pub stops-at : (f : FeedFault) (old new : Fed) (a b : Sight) (before after : ℕ) → old.fault ≡ None → IsSound old
    → Breaks old new (a.left Input) (b.left Input) (a.written Output) (b.written Output) before after
    → Apart a b → Counts {T = FeedStep} a b (Err f) → EndsBy f old new
    → (IsErrOf {T = FeedStep} (Err f) fault.InputTooLong → (new.drawn ≡ input_limit) × (new.ended ≡ false))
    → Stops old.place (old.place + 1) f old new a b before after
stops-at f old new a b before after none sound broken apart counts ends long = record {
  none = none;
  sound = sound;
  first = is-first f old new none ends;
  cause = cause-now f old new none ends;
  furthest = let e = broken.furthest in omega arith;
  places = same-places old new broken.furthest broken.ending;
  apart = apart;
  counts = counts-fault a b f counts;
  too_long = λ e. long (ap Err e);
  broke = record {
    loaded = broken.loaded;
    keeps = broken.keeps;
    taking = broken.taking;
    takes = broken.takes;
    put = broken.put;
    appends = broken.appends;
    over = λ rest. (let o = broken.over rest in record { run = o.run; output = o.output; looked = o.looked });
    so = λ rest.
        let o = broken.over rest in
        record { within = (let e = broken.furthest in omega arith); most = o.most };
  };
}

nothing-counted : (a : Sight) (g : FeedFault) → (failed g ≡ failed fault.Read → ⊥) → (failed g ≡ failed fault.Write → ⊥)
    → Counts a a (failed g)
nothing-counted a g read written = record {
  reads = λ h. refl;
  read = λ h. absurd (read h);
  writes = λ h. refl;
  write = λ h. absurd (written h);
  steady = λ s. s;
  unread = λ s h. read h;
  unwritten = λ s h. written h;
}

-- a reset asks no desk
pub reset-counts : (a : Sight) (g : FeedFault) → IsResetFault g → Counts a a (failed g)
reset-counts a fault.Memory p = nothing-counted a fault.Memory (λ h. cc) (λ h. cc)
reset-counts a (fault.Ended c) p = nothing-counted a (fault.Ended c) (λ h. cc) (λ h. cc)
reset-counts a fault.Read p = absurd p
reset-counts a fault.Write p = absurd p
reset-counts a fault.InputTooLong p = absurd p

pub reset-short : (g : FeedFault) → IsResetFault g → g ≡ fault.InputTooLong → ⊥
reset-short fault.Memory p h = cc
reset-short (fault.Ended c) p h = cc
reset-short fault.Read p h = p
reset-short fault.Write p h = p
reset-short fault.InputTooLong p h = p

-- a reset that does
pub stops-reset : (f : FeedFault) (old new : Fed) (a : Sight) (n from limit : ℕ) → old.fault ≡ None → IsSound old
    → IsBrokenReset old new → IsResetFault f → EndsBy f old new → Stops from limit f old new a a n n
stops-reset f old new a n from limit none sound e proper ends =
    let same : new.furthest ≡ old.furthest = ap (λ (v : Fed). v.furthest) e in
    record {
      none = none;
      sound = sound;
      first = is-first f old new none ends;
      cause = cause-now f old new none ends;
      furthest = omega arith;
      places = same-places old new same (ap (λ (v : Fed). v.ending) e);
      apart = apart-nothing a;
      counts = reset-counts a f proper;
      too_long = λ g. absurd (reset-short f proper g);
      broke =
          subst (λ (v : Fed). Broke (furthest_of old limit) (λ r. StoppedBy from limit r old v n n) old v a a) (sym e) (record {
            loaded = refl;
            keeps = refl;
            taking = nothing;
            takes = takes-nothing (source_of (a.left Input) old);
            put = [];
            appends = Appends-nil (a.written Output);
            over = λ rest.
                let r : Run = old.run rest in
                let s = sound none rest in
                let k = s.rising.output old.furthest (furthest_of old limit r) (omega arith) in
                let l = s.rising.looked old.furthest (furthest_of old limit r) (omega arith) in
                record {
                  run = refl;
                  output = (k.0, k.1 ∙ ap (λ (xs : List ℕ). xs ++ k.0) (sym (append-nil (output_at r old.furthest))));
                  looked = omega arith;
                };
            so = λ rest. record { within = omega arith; most = omega arith };
          });
    }

-- a place that was looked at stays one
pub places-same : (old new : Fed) (a b : Sight) (taking : Taking) → Goes old new a b → new.run [] ≡ old.run (follow taking [])
    → (p : ℕ) → IsPlaceOf old p → IsPlaceOf new p
places-same old new a b taking goes same p i = record {
  within = let l = i.within in let f = goes.furthest in omega arith;
  below = below;
}
  where
    events : (v : Fed) (r : Run) (o : Option Ending) → v.ending ≡ o → Looked v r o → IsPlaceOf v p → p ≤ event_count r
    events v r None e l k = let h = k.within in omega arith
    events v r (Some x) e l k = let h = k.below (ap is_some e) in let f = l.furthest in omega arith

    at_end : (r : Run) (o : Option Ending) → new.ending ≡ o → Looked new r o → is_some new.ending ≡ true → new.furthest ≡ event_count r + 1
    at_end r None e l s = absurd (let z : is_some new.ending ≡ false = ap is_some e in let y : false ≡ true = sym z ∙ s in cc)
    at_end r (Some x) e l s = l.furthest

    below : is_some new.ending ≡ true → p < new.furthest
    below s =
        let r : Run = old.run (follow taking []) in
        let one : Stands old r = goes.sound goes.none (follow taking []) in
        let two : Stands new r = subst (λ (q : Run). Stands new q) same (goes.still_sound goes.still_none []) in
        let n = events old r old.ending refl one.looked i in
        let f = at_end r new.ending refl two.looked s in
        omega arith

pub places-by : (P : Run → Type 0) (old new : Fed) (a b : Sight) → Goes old new a b → Comes P old new a b
    → (p : ℕ) → IsPlaceOf old p → IsPlaceOf new p
places-by P old new a b goes comes p i = places-same old new a b comes.taking goes (comes.over []).run p i

pub places-on : (from : ℕ) (old new : Fed) (a b : Sight) (before after : ℕ) → Walks from old new a b before after
    → (p : ℕ) → IsPlaceOf old p → IsPlaceOf new p
places-on from old new a b before after w p i = places-by _ old new a b w.goes w.comes p i

-- behind calls that answered none
pub stops-then : (from limit : ℕ) (f : FeedFault) (old mid new : Fed) (a m b : Sight) (before between after : ℕ)
    → Walks from old mid a m before between → mid.place ≤ limit
    → Stops mid.place limit f mid new m b between after → Stops from limit f old new a b before after
stops-then from limit f old mid new a m b before between after w fits s = record {
  none = w.goes.none;
  sound = w.goes.sound;
  first = s.first;
  cause = s.cause;
  furthest = let h = w.goes.furthest in let k = s.furthest in omega arith;
  places = λ p i. s.places p (places-on from old mid a m before between w p i);
  apart = apart-then a m b w.goes.calm.apart s.apart;
  counts = counts-then a m b (failed f) w.goes.calm s.counts;
  too_long = s.too_long;
  broke =
      broke-so (furthest_of mid limit) (furthest_of old limit) _ _ old new a b w.goes.sound w.goes.none
      (λ rest t o. so (new.run rest) t o.0.0 o.0.1 o.1)
      (broke-then _ _ old mid new a m b (comes-so _ (λ r. Pays old.keeps r from mid.place before between × (mid.place ≤ event_count r + 1))
      old mid a m w.goes.sound w.goes.none w.goes.still_sound w.goes.still_none (λ rest x y p. (p, place-within mid (mid.run rest) y)) w.comes)
      (furthest_of mid limit) s.broke);
}
  where
    so : (r : Run) → Stands old r → Pays old.keeps r from mid.place before between → mid.place ≤ event_count r + 1
        → StoppedBy mid.place limit r mid new between after
        → (furthest_of mid limit r ≤ furthest_of old limit r) × StoppedBy from limit r old new before after
    so r t p n q =
        let h = w.furthest in
        let low = t.rising.steps from mid.place w.later in
        let high = t.rising.steps mid.place (up_to r limit) (omega arith) in
        let x = p.most in
        let y = q.most in
        let u = q.within in
        (omega arith, record { within = omega arith; most = omega arith })

pub stops-wider : (from limit wider : ℕ) (f : FeedFault) (old new : Fed) (a b : Sight) (before after : ℕ) → limit ≤ wider
    → Stops from limit f old new a b before after → Stops from wider f old new a b before after
stops-wider from limit wider f old new a b before after h s = record {
  none = s.none;
  sound = s.sound;
  first = s.first;
  cause = s.cause;
  furthest = s.furthest;
  places = s.places;
  apart = s.apart;
  counts = s.counts;
  too_long = s.too_long;
  broke =
      broke-so (furthest_of old limit) (furthest_of old wider) _ _ old new a b s.sound s.none
      (λ rest t q.
      let r : Run = new.run rest in
      let up = t.rising.steps (up_to r limit) (up_to r wider) (omega arith) in
      let u = q.within in
      let y = q.most in
      (omega arith, record { within = omega arith; most = omega arith }))
      s.broke;
}
