-- What is found at a place, and what finding it does to a feed.
use Rattle.std.proofs.Common.{◌≡◌, ℕ, zero, suc, ◌+◌, ◌-◌, ◌*◌, ◌<◌, ◌≤◌, max, leb, true, false, List, [], length, Option, Some}
use Rattle.std.proofs.Common.{None, is_some, refl, sym, ap, ◌∙◌, subst, arith}
use Rattle.op_logic.proofs.BoolCases.{by_test, by_order, if_true, if_false}
use Rattle.std.proofs.lemmas.Bool.{le-leb, lt-leb}
use Rattle.op_trace.specs.Outside.{follow}
use Rattle.op_trace.specs.Ending as traced
use Rattle.op_trace.specs.Run.{Run, events_of, steps_at}
use Rattle.op_machine.specs.declared.turn.Ending.{Ending}
use Rattle.op_moves.specs.Moves as moves
use Rattle.op_moves.specs.Moves.{Outcome, outcome, end_found}
use Rattle.op_moves.specs.Places.{event_count, Rising}
use Rattle.op_moves.proofs.MoveCosts.{pay-there, pay-short}
use Rattle.op_retrace.specs.declared.fault.FeedFault.{FeedFault}
use Rattle.op_retrace.specs.Fed.{Fed, IsSound, Stands, Looked, Pays}
use Rattle.op_retrace.specs.Sight.{Sight}
use Rattle.op_cursor.specs.declared.found.Found.{Found}
use Rattle.op_cursor.specs.declared.found.Found.TheVariants as found
use Rattle.op_cursor.specs.Seen.{IsPlaceOf}
use Rattle.op_cursor.specs.Moving.{Moving, Bounded, any_run, to_place}
use Rattle.op_cursor.specs.inner.Walks.{Walks, Stops, up_to, behind, furthest_of}
use Rattle.op_cursor.specs.inner.Finds.{found_of, place_found}
use Rattle.op_cursor.specs.inner.Does.{Does, Forward, Fails, IsPlaceFound, from_stand}
use Rattle.op_cursor.proofs.JoinedCalls.{comes-so, broke-so}
use Rattle.op_cursor.proofs.JoinedWalks.{walks-nothing}

-- steps
pub bounded-nothing : (keeps : ℕ) (r : Run) (limit p n : ℕ) → Bounded keeps r limit p p n n
bounded-nothing keeps r limit p n =
    record { most = omega arith; least = λ z h. omega arith; again = λ z h. absurd (omega (arith, h)) }

pub bounded-by : (keeps : ℕ) (r : Run) (t from to before after : ℕ) → Rising r → from ≤ to → to ≤ t
    → Pays keeps r from to before after → Bounded keeps r (2 * steps_at r t) from to before after
bounded-by keeps r t from to before after rising h k p =
    let s = rising.steps to t k in
    let m = p.most in
    record {
      most = omega arith;
      least = λ z l. p.least z;
      again = λ z l. absurd (omega (arith, h, l));
    }

-- the end is known
pub end-known : (v : Fed) (r : Run) → Stands v r → is_some v.ending ≡ true → v.furthest ≡ event_count r + 1
end-known v r s h = go v.ending s.looked h
  where
    go : (o : Option Ending) → Looked v r o → is_some o ≡ true → v.furthest ≡ event_count r + 1
    go None l e = absurd cc
    go (Some x) l e = l.furthest

pub end-unknown : (v : Fed) (r : Run) → Stands v r → is_some v.ending ≡ false → v.furthest ≤ event_count r
end-unknown v r s h = go v.ending s.looked h
  where
    go : (o : Option Ending) → Looked v r o → is_some o ≡ false → v.furthest ≤ event_count r
    go None l e = l
    go (Some x) l e = absurd cc

pub place-here : (v : Fed) (r : Run) (p : ℕ) → Stands v r → IsPlaceOf v p → p ≤ event_count r
place-here v r p s i =
    by_test (is_some v.ending)
    (λ t. let f = end-known v r s t in let b = i.below t in omega arith)
    (λ t. let f = end-unknown v r s t in let w = i.within in omega arith)

pub ended-there : (v : Fed) (r : Run) → Stands v r → v.place ≡ event_count r + 1 → is_some v.ending ≡ true
ended-there v r s h =
    by_test (is_some v.ending) (λ t. t) (λ t. let f = end-unknown v r s t in let w = s.within in absurd (omega arith))

-- goto
pub goto-paid : (r : Run) (q p f fuel left : ℕ) → fuel ≡ left + 1
    → from_stand (to_place (q + 1)) r p f fuel ≡ outcome (place_found r (q + 1)) (max f (behind r q)) left
goto-paid r q p f fuel left h =
    let n : ℕ = event_count r in
    let paid : fuel - 1 ≡ left = omega (arith, h) in
    by_order n (q + 1)
    (λ l. let t : leb (q + 1) n ≡ false = lt-leb (q + 1) n l in
    let g : max f (n + 1) ≡ max f (behind r q) = omega (arith, l) in
    if_false (leb (q + 1) n) _ _ t
    ∙ (pay-there 1 f fuel (λ k. outcome (end_found r.ending) (max f (n + 1)) k) (omega (arith, h))
    ∙ (ap (λ (k : ℕ). outcome (end_found r.ending) (max f (n + 1)) k) paid
    ∙ (ap (λ (k : ℕ). outcome (end_found r.ending) k left) g
    ∙ ap (λ (x : moves.Found). outcome x (max f (behind r q)) left)
    (sym (if_false (leb (q + 1) n) (moves.At (q + 1)) (end_found r.ending) t))))))
    (λ l. let t : leb (q + 1) n ≡ true = le-leb (q + 1) n l in
    let g : max f (q + 1) ≡ max f (behind r q) = omega (arith, l) in
    if_true (leb (q + 1) n) _ _ t
    ∙ (pay-there 1 f fuel (λ k. outcome (moves.At (q + 1)) (max f (q + 1)) k) (omega (arith, h))
    ∙ (ap (λ (k : ℕ). outcome (moves.At (q + 1)) (max f (q + 1)) k) paid
    ∙ (ap (λ (k : ℕ). outcome (moves.At (q + 1)) k left) g
    ∙ ap (λ (x : moves.Found). outcome x (max f (behind r q)) left)
    (sym (if_true (leb (q + 1) n) (moves.At (q + 1)) (end_found r.ending) t))))))

pub goto-short : (r : Run) (j p f fuel : ℕ) → fuel < 1 → from_stand (to_place j) r p f fuel ≡ outcome moves.Spent f 0
goto-short r j p f fuel h =
    by_test (leb j (length (events_of r.turns)))
    (λ t. if_true (leb j (event_count r)) (moves.look j (moves.At j) (record { place = p; furthest = f }) fuel)
    (moves.look (event_count r + 1) (end_found r.ending) (record { place = p; furthest = f }) fuel) t
    ∙ pay-short 1 f fuel (λ k. outcome (moves.At j) (max f j) k) h)
    (λ t. if_false (leb j (event_count r)) (moves.look j (moves.At j) (record { place = p; furthest = f }) fuel)
    (moves.look (event_count r + 1) (end_found r.ending) (record { place = p; furthest = f }) fuel) t
    ∙ pay-short 1 f fuel (λ k. outcome (end_found r.ending) (max f (event_count r + 1)) k) h)

-- nothing is looked at where no step is left
pub does-short : (m : Moving) (p : ℕ) (v : Fed) (a : Sight) (n fuel : ℕ) → v.fault ≡ None → IsSound v
    → ((r : Run) (f : ℕ) → from_stand m r p f fuel ≡ outcome moves.Spent f 0)
    → Does any_run m p found.Spent v v a a n n fuel 0
does-short m p v a n fuel none sound h =
    let w = walks-nothing v a n none sound in
    record {
      goes = w.goes;
      found = tt;
      comes =
          comes-so _ _ v v a a sound none sound none
          (λ rest x y q. record {
            answer = λ k. h (v.run rest) v.furthest;
            steps = bounded-nothing v.keeps (v.run rest) _ v.place n;
          })
          w.comes;
    }

-- a move for which the feed isn't asked
pub does-still : (m : Moving) (p : ℕ) (y : Found) (v : Fed) (a : Sight) (n fuel left : ℕ) → v.fault ≡ None → IsSound v → IsPlaceOf v p
    → ((r : Run) (f : ℕ) → p ≤ f → from_stand m r p f fuel ≡ outcome (found_of y) f left)
    → ((j : ℕ) → found_of y ≡ moves.At j → j ≤ p)
    → Does any_run m p y v v a a n n fuel left
does-still m p y v a n fuel left none sound i h k =
    let w = walks-nothing v a n none sound in
    record {
      goes = w.goes;
      found = placed (found_of y) refl;
      comes =
          comes-so _ _ v v a a sound none sound none
          (λ rest x z q. record {
            answer = λ t. h (v.run rest) v.furthest i.within;
            steps = bounded-nothing v.keeps (v.run rest) _ v.place n;
          })
          w.comes;
    }
  where
    placed : (x : moves.Found) → found_of y ≡ x → IsPlaceFound x v
    placed (moves.At j) e =
        let l = k j e in
        let f = i.within in
        record { within = omega arith; below = λ t. (let b = i.below t in omega arith) }
    placed moves.No_event e = tt
    placed moves.Past_budget e = tt
    placed moves.Spent e = tt

pub forward-nothing : (p : ℕ) (y : Found) (v : Fed) (n : ℕ) → Forward p y v v n n
forward-nothing p y v n = record { steps = λ h rest. omega arith; ahead = λ j e h. h }

found-at : (r : Run) (q j : ℕ) → place_found r (q + 1) ≡ moves.At j → (j ≡ q + 1) × (q + 1 ≤ event_count r)
found-at r q j e =
    by_order (event_count r) (q + 1)
    (λ l. absurd (not-there r.ending (sym (if_false (leb (q + 1) (event_count r)) (moves.At (q + 1)) (end_found r.ending)
    (lt-leb (q + 1) (event_count r) l)) ∙ e)))
    (λ l. let k : moves.At (q + 1) ≡ moves.At j =
    sym (if_true (leb (q + 1) (event_count r)) (moves.At (q + 1)) (end_found r.ending) (le-leb (q + 1) (event_count r) l)) ∙ e in
    (cc, l))
  where
    not-there : (z : traced.Ending) → end_found z ≡ moves.At j → ⊥
    not-there traced.Stopped h = cc
    not-there traced.Failed h = cc
    not-there (traced.Thrown b) h = cc
    not-there (traced.Halted n) h = cc
    not-there traced.Spent h = cc

-- a place of which it is known what lies there
pub place-does : (q p : ℕ) (y : Found) (old new : Fed) (a b : Sight) (before after fuel left : ℕ) → fuel ≡ left + 1
    → Walks old.place old new a b before after
    → ((rest : List ℕ) → found_of y ≡ place_found (new.run rest) (q + 1))
    → ((rest : List ℕ) → new.furthest ≡ max old.furthest (behind (new.run rest) q))
    → ((rest : List ℕ) → Rising (new.run rest) → Pays old.keeps (new.run rest) old.place new.place before after
    → Bounded old.keeps (new.run rest) (2 * steps_at (new.run rest) (max p (behind (new.run rest) q))) old.place new.place before after)
    → Does any_run (to_place (q + 1)) p y old new a b before after fuel left
place-does q p y old new a b before after fuel left h w found far bound = record {
  goes = w.goes;
  found = placed (found_of y) (found []);
  comes =
      comes-so _ _ old new a b w.goes.sound w.goes.none w.goes.still_sound w.goes.still_none
      (λ rest x z o.
      let r : Run = new.run rest in
      record {
        answer = λ k. goto-paid r q p old.furthest fuel left h
            ∙ (ap (λ (g : ℕ). outcome (place_found r (q + 1)) g left) (sym (far rest))
            ∙ ap (λ (u : moves.Found). outcome u new.furthest left) (sym (found rest)));
        steps =
            subst (λ (o : Outcome). Bounded old.keeps r (2 * steps_at r o.furthest) old.place new.place before after)
            (sym (goto-paid r q p p fuel left h)) (bound rest x.rising o);
      })
      w.comes;
}
  where
    placed : (x : moves.Found) → x ≡ place_found (new.run []) (q + 1) → IsPlaceFound x new
    placed (moves.At j) e =
        let r : Run = new.run [] in
        let s : Stands new r = w.goes.still_sound w.goes.still_none [] in
        let k = found-at r q j (sym e) in
        let f = far [] in
        let i = k.0 in
        let n = k.1 in
        record { within = omega arith; below = λ t. (let g = end-known new r s t in omega arith) }
    placed moves.No_event e = tt
    placed moves.Past_budget e = tt
    placed moves.Spent e = tt

-- fails on the way to a place
pub place-fails : (q p : ℕ) (f : FeedFault) (old new : Fed) (a b : Sight) (before after fuel left : ℕ) → fuel ≡ left + 1
    → Stops old.place (q + 1) f old new a b before after → Fails (to_place (q + 1)) p f old new a b before after fuel
place-fails q p f old new a b before after fuel left h s = record {
  none = s.none;
  sound = s.sound;
  first = s.first;
  cause = s.cause;
  furthest = s.furthest;
  places = s.places;
  apart = s.apart;
  counts = s.counts;
  too_long = s.too_long;
  broke =
      broke-so _ _ _ _ old new a b s.sound s.none
      (λ rest x o.
      let r : Run = new.run rest in
      let u = o.within in
      let m = o.most in
      let up = x.rising.steps (behind r q) (max p (behind r q)) (omega arith) in (
        subst (λ (k : Outcome). furthest_of old (q + 1) r ≤ k.furthest) (sym (goto-paid r q p old.furthest fuel left h)) (omega arith),
        record {
          within = subst (λ (k : Outcome). new.furthest ≤ k.furthest) (sym (goto-paid r q p old.furthest fuel left h)) u;
          most =
              subst (λ (k : Outcome). after ≤ before + 2 * steps_at r k.furthest) (sym (goto-paid r q p p fuel left h)) (omega arith);
        },
      ))
      s.broke;
}

-- last
pub last-paid : (r : Run) (p f fuel left : ℕ) → fuel ≡ left + 1
    → from_stand moves.last r p f fuel
    ≡ outcome (moves.last_found (event_count r) (end_found r.ending)) (max f (event_count r + 1)) left
last-paid r p f fuel left h =
    let x : moves.Found = moves.last_found (event_count r) (end_found r.ending) in
    let paid : fuel - 1 ≡ left = omega (arith, h) in
    pay-there 1 f fuel (λ k. outcome x (max f (event_count r + 1)) k) (omega (arith, h))
    ∙ ap (λ (k : ℕ). outcome x (max f (event_count r + 1)) k) paid

pub last-short : (r : Run) (p f fuel : ℕ) → fuel < 1 → from_stand moves.last r p f fuel ≡ outcome moves.Spent f 0
last-short r p f fuel h =
    pay-short 1 f fuel (λ k. outcome (moves.last_found (event_count r) (end_found r.ending)) (max f (event_count r + 1)) k) h

last-at : (n : ℕ) (z : traced.Ending) (j : ℕ) → moves.last_found n (end_found z) ≡ moves.At j → (j ≡ n) × (0 < n)
last-at zero traced.Stopped j e = absurd cc
last-at zero traced.Failed j e = absurd cc
last-at zero (traced.Thrown b) j e = absurd cc
last-at zero (traced.Halted m) j e = absurd cc
last-at zero traced.Spent j e = absurd cc
last-at (suc n) traced.Stopped j e = (cc, omega arith)
last-at (suc n) traced.Failed j e = (cc, omega arith)
last-at (suc n) (traced.Thrown b) j e = (cc, omega arith)
last-at (suc n) (traced.Halted m) j e = (cc, omega arith)
last-at (suc n) traced.Spent j e = absurd cc

pub last-does : (p : ℕ) (y : Found) (old new : Fed) (a b : Sight) (before after fuel left : ℕ) → fuel ≡ left + 1
    → Walks old.place old new a b before after → is_some new.ending ≡ true
    → ((rest : List ℕ) → found_of y ≡ moves.last_found (event_count (new.run rest)) (end_found (new.run rest).ending))
    → ((rest : List ℕ) → Rising (new.run rest) → Pays old.keeps (new.run rest) old.place new.place before after
    → Bounded old.keeps (new.run rest) (2 * steps_at (new.run rest) (max p (event_count (new.run rest) + 1))) old.place new.place
    before after)
    → Does any_run moves.last p y old new a b before after fuel left
last-does p y old new a b before after fuel left h w ended found bound = record {
  goes = w.goes;
  found = placed (found_of y) (found []);
  comes =
      comes-so _ _ old new a b w.goes.sound w.goes.none w.goes.still_sound w.goes.still_none
      (λ rest x z o.
      let r : Run = new.run rest in
      let far : new.furthest ≡ max old.furthest (event_count r + 1) = far-by r z in
      record {
        answer = λ k. last-paid r p old.furthest fuel left h
            ∙ (ap (λ (g : ℕ). outcome (moves.last_found (event_count r) (end_found r.ending)) g left) (sym far)
            ∙ ap (λ (u : moves.Found). outcome u new.furthest left) (sym (found rest)));
        steps =
            subst (λ (o : Outcome). Bounded old.keeps r (2 * steps_at r o.furthest) old.place new.place before after)
            (sym (last-paid r p p fuel left h)) (bound rest x.rising o);
      })
      w.comes;
}
  where
    far-by : (r : Run) → Stands new r → new.furthest ≡ max old.furthest (event_count r + 1)
    far-by r s = let e = end-known new r s ended in let g = w.goes.furthest in omega arith

    placed : (x : moves.Found) → x ≡ moves.last_found (event_count (new.run [])) (end_found (new.run []).ending) → IsPlaceFound x new
    placed (moves.At j) e =
        let r : Run = new.run [] in
        let s : Stands new r = w.goes.still_sound w.goes.still_none [] in
        let k = last-at (event_count r) r.ending j (sym e) in
        let g = end-known new r s ended in
        let i = k.0 in
        record { within = omega arith; below = λ t. omega arith }
    placed moves.No_event e = tt
    placed moves.Past_budget e = tt
    placed moves.Spent e = tt

pub last-fails : (limit p : ℕ) (f : FeedFault) (old new : Fed) (a b : Sight) (before after fuel left : ℕ) → fuel ≡ left + 1
    → Stops old.place limit f old new a b before after → Fails moves.last p f old new a b before after fuel
last-fails limit p f old new a b before after fuel left h s = record {
  none = s.none;
  sound = s.sound;
  first = s.first;
  cause = s.cause;
  furthest = s.furthest;
  places = s.places;
  apart = s.apart;
  counts = s.counts;
  too_long = s.too_long;
  broke =
      broke-so _ _ _ _ old new a b s.sound s.none
      (λ rest x o.
      let r : Run = new.run rest in
      let u = o.within in
      let m = o.most in
      let up = x.rising.steps (up_to r limit) (max p (event_count r + 1)) (omega arith) in (
        subst (λ (k : Outcome). furthest_of old limit r ≤ k.furthest) (sym (last-paid r p old.furthest fuel left h)) (omega arith),
        record {
          within =
              subst (λ (k : Outcome). new.furthest ≤ k.furthest) (sym (last-paid r p old.furthest fuel left h)) (omega arith);
          most =
              subst (λ (k : Outcome). after ≤ before + 2 * steps_at r k.furthest) (sym (last-paid r p p fuel left h)) (omega arith);
        },
      ))
      s.broke;
}

-- what find_behind and find_last know
pub known-far : (v : Fed) (q : ℕ) (r : Run) → Stands v r → (is_some v.ending ≡ false → q < v.furthest)
    → v.furthest ≡ max v.furthest (behind r q)
known-far v q r s h =
    by_test (is_some v.ending)
    (λ t. let f = end-known v r s t in omega arith)
    (λ t. let f = h t in omega arith)

pub open-known : (v : Fed) (q : ℕ) → v.fault ≡ None → IsSound v → ((rest : List ℕ) → v.place ≡ behind (v.run rest) q)
    → is_some v.ending ≡ false → q < v.furthest
open-known v q none sound there h =
    let s = sound none [] in
    let w = s.within in
    let f = end-unknown v (v.run []) s h in
    let p = there [] in
    omega arith

pub walk-forward : (old new : Fed) (a b : Sight) (before after : ℕ) → Walks old.place old new a b before after → (rest : List ℕ)
    → after ≤ before + (steps_at (new.run rest) new.place - steps_at (new.run rest) old.place)
walk-forward old new a b before after w rest =
    let p = w.comes.so rest in
    subst (λ (r : Run). after ≤ before + (steps_at r new.place - steps_at r old.place)) (sym (w.comes.over rest).run) p.most

pub short-does : (q p : ℕ) (v : Fed) (a : Sight) (n fuel left : ℕ) → v.fault ≡ None → IsSound v → (fuel < 1) × (left ≡ 0)
    → Does any_run (to_place (q + 1)) p found.Spent v v a a n n fuel left
short-does q p v a n fuel left none sound h =
    subst (λ (m : ℕ). Does any_run (to_place (q + 1)) p found.Spent v v a a n n fuel m) (sym h.1)
    (does-short (to_place (q + 1)) p v a n fuel none sound (λ r f. goto-short r (q + 1) p f fuel h.0))

pub known-does : (q p : ℕ) (y : Found) (v : Fed) (a : Sight) (n fuel left : ℕ) → v.fault ≡ None → IsSound v → fuel ≡ left + 1
    → (is_some v.ending ≡ false → q < v.furthest)
    → ((rest : List ℕ) → found_of y ≡ place_found (v.run rest) (q + 1))
    → Does any_run (to_place (q + 1)) p y v v a a n n fuel left
known-does q p y v a n fuel left none sound paid known found =
    place-does q p y v v a a n n fuel left paid (walks-nothing v a n none sound) found
    (λ rest. known-far v q (v.run rest) (sound none rest) known) (λ rest rising o. bounded-nothing v.keeps (v.run rest) _ v.place n)

pub gone-does : (q p : ℕ) (y : Found) (old new : Fed) (a b : Sight) (before after fuel left : ℕ) → fuel ≡ left + 1
    → Walks old.place old new a b before after → ((rest : List ℕ) → new.place ≡ behind (new.run rest) q)
    → ((rest : List ℕ) → found_of y ≡ place_found (new.run rest) (q + 1))
    → Does any_run (to_place (q + 1)) p y old new a b before after fuel left
gone-does q p y old new a b before after fuel left paid w there found =
    place-does q p y old new a b before after fuel left paid w found
    (λ rest. let t = there rest in let f = w.furthest in omega arith)
    (λ rest rising o. let t = there rest in
    bounded-by old.keeps (new.run rest) (max p (behind (new.run rest) q)) old.place new.place before after rising w.later (omega arith) o)

pub gone-forward : (q p : ℕ) (y : Found) (old new : Fed) (a b : Sight) (before after : ℕ)
    → Walks old.place old new a b before after → ((rest : List ℕ) → new.place ≡ behind (new.run rest) q)
    → ((rest : List ℕ) → found_of y ≡ place_found (new.run rest) (q + 1))
    → Forward p y old new before after
gone-forward q p y old new a b before after w there found = record {
  steps = λ h rest. walk-forward old new a b before after w rest;
  ahead = λ j e h.
      let k = found-at (new.run []) q j (sym (found []) ∙ e) in
      let i = k.0 in
      let n = k.1 in
      let t = there [] in
      omega arith;
}

-- the same of the last event
pub last-short-does : (p : ℕ) (v : Fed) (a : Sight) (n fuel left : ℕ) → v.fault ≡ None → IsSound v → (fuel < 1) × (left ≡ 0)
    → Does any_run moves.last p found.Spent v v a a n n fuel left
last-short-does p v a n fuel left none sound h =
    subst (λ (m : ℕ). Does any_run moves.last p found.Spent v v a a n n fuel m) (sym h.1)
    (does-short moves.last p v a n fuel none sound (λ r f. last-short r p f fuel h.0))

pub last-known-does : (p : ℕ) (y : Found) (v : Fed) (a : Sight) (n fuel left : ℕ) → v.fault ≡ None → IsSound v → fuel ≡ left + 1
    → is_some v.ending ≡ true
    → ((rest : List ℕ) → found_of y ≡ moves.last_found (event_count (v.run rest)) (end_found (v.run rest).ending))
    → Does any_run moves.last p y v v a a n n fuel left
last-known-does p y v a n fuel left none sound paid known found =
    last-does p y v v a a n n fuel left paid (walks-nothing v a n none sound) known found
    (λ rest rising o. bounded-nothing v.keeps (v.run rest) _ v.place n)

pub last-gone-does : (p : ℕ) (y : Found) (old new : Fed) (a b : Sight) (before after fuel left : ℕ) → fuel ≡ left + 1
    → Walks old.place old new a b before after → ((rest : List ℕ) → new.place ≡ event_count (new.run rest) + 1)
    → ((rest : List ℕ) → found_of y ≡ moves.last_found (event_count (new.run rest)) (end_found (new.run rest).ending))
    → Does any_run moves.last p y old new a b before after fuel left
last-gone-does p y old new a b before after fuel left paid w there found =
    last-does p y old new a b before after fuel left paid w
    (ended-there new (new.run []) (w.goes.still_sound w.goes.still_none []) (there [])) found
    (λ rest rising o. let t = there rest in
    bounded-by old.keeps (new.run rest) (max p (event_count (new.run rest) + 1)) old.place new.place before after rising w.later
    (omega arith) o)

-- a place that is none but an event's
pub arrives-at : (p : ℕ) (old new : Fed) (a b : Sight) (before after : ℕ) → Walks old.place old new a b before after
    → IsPlaceOf old p → 0 < p → ((rest : List ℕ) → new.place ≡ behind (new.run rest) (p - 1)) → new.place ≡ p
arrives-at p old new a b before after w i h there =
    let r : Run = new.run [] in
    let s : Stands old r =
    subst (λ (q : Run). Stands old q) (sym (w.comes.over []).run) (w.goes.sound w.goes.none (follow w.comes.taking [])) in
    let n = place-here old r p s i in
    let t = there [] in
    omega arith

-- place 0
pub zero-does : (p : ℕ) (y : Found) (v : Fed) (a : Sight) (n fuel left : ℕ) → v.fault ≡ None → IsSound v → IsPlaceOf v p
    → ((s : moves.Stand) → moves.first s fuel ≡ outcome (found_of y) s.furthest left)
    → ((j : ℕ) → found_of y ≡ moves.At j → j ≤ 0)
    → Does any_run (to_place 0) p y v v a a n n fuel left
zero-does p y v a n fuel left none sound i finds places =
    does-still (to_place 0) p y v a n fuel left none sound i
    (λ r f k. let s : moves.Stand = record { place = p; furthest = f } in
    if_true (leb 0 (event_count r)) (moves.look 0 (moves.At 0) s fuel) (moves.look (event_count r + 1) (end_found r.ending) s fuel)
    (le-leb 0 (event_count r) (omega arith))
    ∙ finds s)
    (λ j e. let h = places j e in omega arith)
