-- Searches from the place of a cursor, as moves.
use Rattle.std.proofs.Common.{◌≡◌, ℕ, ◌+◌, ◌-◌, ◌*◌, ◌<◌, ◌≤◌, max, List, [], ◌∷◌, ◌++◌, length, None}
use Rattle.std.proofs.Common.{refl, sym, ap, ◌∙◌, subst, arith}
use Rattle.op_logic.proofs.BoolCases.{by_test, by_order, if_true, if_false}
use Rattle.op_trace.specs.World.{Event}
use Rattle.op_trace.specs.Outside.{follow}
use Rattle.op_trace.specs.Ending.{Ending}
use Rattle.op_trace.specs.Ending as traced
use Rattle.op_trace.specs.Run.{Run, events_of, steps_at}
use Rattle.op_moves.specs.Pattern.{Test}
use Rattle.op_moves.specs.Moves as moves
use Rattle.op_moves.specs.Moves.{Outcome, outcome, search, numbered, look_at_end, end_found}
use Rattle.op_moves.specs.Places.{event_count, Rising}
use Rattle.op_moves.proofs.MoveCosts.{pay-there, pay-short, on-rises}
use Rattle.op_moves.proofs.SearchedPlaces.{on-found}
use Rattle.op_retrace.specs.declared.fault.FeedFault.{FeedFault}
use Rattle.op_retrace.specs.Fed.{Fed, IsSound, Stands, Pays}
use Rattle.op_retrace.specs.Sight.{Sight}
use Rattle.op_cursor.specs.declared.found.Found.{Found}
use Rattle.op_cursor.specs.declared.search.Sought.{Sought}
use Rattle.op_cursor.specs.declared.search.SearchFault.{SearchFault}
use Rattle.op_cursor.specs.declared.search.SearchFault.TheVariants as search_fault
use Rattle.op_cursor.specs.Seen.{IsPlaceOf}
use Rattle.op_cursor.specs.Comes.{Comes, Broke}
use Rattle.op_cursor.specs.Moving.{Bounded, any_run}
use Rattle.op_cursor.specs.inner.Walks.{Walks, Stops, Arrives, up_to, behind, start_of}
use Rattle.op_cursor.specs.inner.Finds.{found_of, sought_test, searched, Finds, BreaksOff}
use Rattle.op_cursor.specs.inner.Does.{Does, Forward, Fails, IsPlaceFound}
use Rattle.op_cursor.specs.inner.Seeks.{searching, Misses}
use Rattle.op_cursor.proofs.JoinedCalls.{comes-so, broke-so}
use Rattle.op_cursor.proofs.JoinedWalks.{walks-then, start-here, start-zero}
use Rattle.op_cursor.proofs.StoppedWalks.{stops-then}
use Rattle.op_cursor.proofs.FoundPlaces.{end-known, walk-forward}
use Rattle.op_cursor.proofs.SearchSteps.{event-paid, event-dear, event-short}
use Rattle.op_cursor.proofs.WokenFeeds.{low-start}

not-there : (z : Ending) (j : ℕ) → end_found z ≡ moves.At j → ⊥
not-there traced.Stopped j h = cc
not-there traced.Failed j h = cc
not-there (traced.Thrown b) j h = cc
not-there (traced.Halted n) j h = cc
not-there traced.Spent j h = cc

-- no event is found at the end
end-never : (es : List Event) (z : Ending) (f fuel j : ℕ) → (look_at_end es z f fuel).found ≡ moves.At j → ⊥
end-never es z f fuel j e =
    let rest : ℕ → Outcome = λ left. outcome (end_found z) (max f (length es + 1)) left in
    by_order fuel 1
    (λ l. let q : moves.Spent ≡ moves.At j = sym (ap (λ (o : Outcome). o.found) (pay-short 1 f fuel rest l)) ∙ e in cc)
    (λ l. not-there z j (sym (ap (λ (o : Outcome). o.found) (pay-there 1 f fuel rest l)) ∙ e))

-- the event that is found is the furthest that was looked at
search-far : (test : Event → Test) (behind_them : ℕ → ℕ → Outcome)
    → ((f left j : ℕ) → (behind_them f left).found ≡ moves.At j → ⊥)
    → (es : List Event) (j0 f fuel j : ℕ) → f ≤ j0 → (search test (numbered j0 es) behind_them f fuel).found ≡ moves.At j
    → (search test (numbered j0 es) behind_them f fuel).furthest ≡ j
search-far test behind_them never [] j0 f fuel j h = λ e. absurd (never f fuel j e)
search-far test behind_them never (x ∷ xs) j0 f fuel j h =
    let P : Outcome → Type 0 = λ o. o.found ≡ moves.At j → o.furthest ≡ j in
    let ys : List (ℕ × Event) = numbered (j0 + 1) xs in
    by_order fuel 1
    (λ l. subst P (sym (event-short test behind_them j0 x ys f fuel l)) (λ e. absurd (let q : moves.Spent ≡ moves.At j = e in cc)))
    (λ l. by_order (fuel - 1) (test x).cost
    (λ k. subst P (sym (event-dear test behind_them j0 x ys f fuel (fuel - 1) (omega (arith, l)) k))
    (λ e. absurd (let q : moves.Spent ≡ moves.At j = e in cc)))
    (λ k. let left : ℕ = (fuel - 1) - (test x).cost in
    subst P (sym (event-paid test behind_them j0 x ys f fuel (fuel - 1) left (omega (arith, l)) (omega (arith, k))))
    (by_test (test x).yes
    (λ t. subst P (sym (if_true (test x).yes _ _ t)) (λ e. let q : j0 ≡ j = cc in omega (arith, q, h)))
    (λ t. subst P (sym (if_false (test x).yes _ _ t))
    (search-far test behind_them never xs (j0 + 1) (max f j0) left j (omega (arith, h)))))))

-- steps, from where a walk to a place and on behind it began
bounded-from : (keeps : ℕ) (r : Run) (a p to t before after : ℕ) → Rising r → p ≤ to → to ≤ t
    → Pays keeps r (start_of a p) to before after → Bounded keeps r (2 * steps_at r t) a to before after
bounded-from keeps r a p to t before after rising low high q =
    let up = rising.steps to t high in
    by_order p a
    (λ l. let c : Pays keeps r 0 to before after = subst (λ (n : ℕ). Pays keeps r n to before after) (start-zero a p l) q in
    let m = c.most in
    let z0 = low-start r in
    record {
      most = omega arith;
      least = λ z h. (let e = c.least z in omega arith);
      again = λ z h. (let e = c.least z in omega arith);
    })
    (λ l. let c : Pays keeps r a to before after = subst (λ (n : ℕ). Pays keeps r n to before after) (start-here a p l) q in
    let m = c.most in
    record { most = omega arith; least = λ z h. c.least z; again = λ z h. absurd (omega (arith, l, h, low)) })

-- calls that answered no fault of the feed, on the way to a place
pub comes-broke : (to : Run → ℕ) (P Q : Run → Type 0) (old new : Fed) (a b : Sight) → IsSound old → old.fault ≡ None → IsSound new
    → new.fault ≡ None
    → ((rest : List ℕ) → Stands old (new.run rest) → P (new.run rest) → (new.furthest ≤ to (new.run rest)) × Q (new.run rest))
    → Comes P old new a b → Broke to Q old new a b
comes-broke to P Q old new a b sound none still still_none h c = record {
  loaded = c.loaded;
  keeps = c.keeps;
  taking = c.taking;
  takes = c.takes;
  put = c.put;
  appends = c.appends;
  over = λ rest.
      let r : Run = old.run (follow c.taking rest) in
      let s : Stands old r = sound none (follow c.taking rest) in
      let y = c.over rest in
      let k = (told rest).0 in
      let more = s.rising.output new.furthest (to r) k in
      let looks = s.rising.looked new.furthest (to r) k in
      record {
        run = y.run;
        output = (more.0, more.1 ∙ ap (λ (xs : List ℕ). xs ++ more.0) y.output);
        looked = let l = y.looked in omega arith;
      };
  so = λ rest. (told rest).1;
}
  where
    told : (rest : List ℕ) → (new.furthest ≤ to (old.run (follow c.taking rest))) × Q (old.run (follow c.taking rest))
    told rest =
        let e : new.run rest ≡ old.run (follow c.taking rest) = (c.over rest).run in
        let s : Stands old (new.run rest) = subst (λ (r : Run). Stands old r) (sym e) (sound none (follow c.taking rest)) in
        let p : P (new.run rest) = subst (λ (r : Run). P r) (sym e) (c.so rest) in
        subst (λ (r : Run). (new.furthest ≤ to r) × Q r) e (h rest s p)

module _ (x : Sought) (p : ℕ) (old mid new : Fed) (a m b : Sight) (before between after fuel : ℕ) (i : IsPlaceOf old p)
    (arrives : Arrives p old mid a m before between) where
  joined : Walks mid.place mid new m b between after → Walks (start_of old.place p) old new a b before after
  joined w = walks-then (start_of old.place p) old mid new a m b before between after arrives.walks w

  behind-it : Walks mid.place mid new m b between after → p ≤ new.place
  behind-it w = let h = w.later in let t = arrives.there in omega arith

  -- what the search comes to, whatever the furthest place was
  comes-to : (y : Found) (left : ℕ) → Finds x y mid.place fuel new left → (rest : List ℕ) (f : ℕ) → p ≤ f
      → searched x p f (new.run rest) fuel ≡ outcome (found_of y) (max f new.place) left
  comes-to y left s rest f h =
      let t = arrives.there in
      subst (λ (n : ℕ). searched x n f (new.run rest) fuel ≡ outcome (found_of y) (max f new.place) left) t (s rest f (omega arith))

  found-at : (y : Found) (left : ℕ) → Walks mid.place mid new m b between after → Finds x y mid.place fuel new left
      → (j : ℕ) → found_of y ≡ moves.At j → (j ≡ new.place) × (j ≤ event_count (new.run []))
  found-at y left w s j h =
      let r : Run = new.run [] in
      let es : List Event = events_of r.turns in
      let e = comes-to y left s [] p (omega arith) in
      let k : (searched x p p r fuel).found ≡ moves.At j = ap (λ (o : Outcome). o.found) e ∙ h in
      let f = on-found (sought_test x) es r.ending (record { place = p; furthest = p }) fuel j k in
      let low : p < j = f.0 in
      let high : j ≤ event_count r = f.1 in
      let g : (searched x p p r fuel).furthest ≡ j =
      search-far (sought_test x) (look_at_end es r.ending) (λ v left k q. end-never es r.ending v left k q) _ (p + 1) p fuel j
      (omega arith) k in
      let n : (searched x p p r fuel).furthest ≡ max p new.place = ap (λ (o : Outcome). o.furthest) e in
      (omega arith, high)

  pub sought-does : (y : Found) (left : ℕ) → Walks mid.place mid new m b between after → Finds x y mid.place fuel new left
      → Does any_run (searching x) p y old new a b before after fuel left
  sought-does y left w s =
      let v = joined w in
      record {
        goes = v.goes;
        found = placed (found_of y) (found-at y left w s);
        comes =
            comes-so _ _ old new a b v.goes.sound v.goes.none v.goes.still_sound v.goes.still_none
            (λ rest t z o.
            let r : Run = new.run rest in
            record {
              answer = λ k.
                  comes-to y left s rest old.furthest i.within ∙ ap (λ (g : ℕ). outcome (found_of y) g left) (sym v.furthest);
              steps =
                  subst (λ (q : Outcome). Bounded old.keeps r (2 * steps_at r q.furthest) old.place new.place before after)
                  (sym (comes-to y left s rest p (omega arith)))
                  (bounded-from old.keeps r old.place p new.place (max p new.place) before after t.rising (behind-it w) (omega arith) o);
            })
            v.comes;
      }
    where
      placed : (z : moves.Found) → ((j : ℕ) → z ≡ moves.At j → (j ≡ new.place) × (j ≤ event_count (new.run []))) → IsPlaceFound z new
      placed (moves.At j) h =
          let r : Run = new.run [] in
          let u : Stands new r = w.goes.still_sound w.goes.still_none [] in
          let k = h j refl in
          let e = k.0 in
          let n = k.1 in
          let l = u.within in
          record { within = omega arith; below = λ t. (let g = end-known new r u t in omega arith) }
      placed moves.No_event h = tt
      placed moves.Past_budget h = tt
      placed moves.Spent h = tt

  pub sought-forward : (y : Found) (left : ℕ) → Walks mid.place mid new m b between after → Finds x y mid.place fuel new left
      → Forward p y old new before after
  sought-forward y left w s = record {
    steps = λ h rest.
        let e : start_of old.place p ≡ old.place = start-here old.place p h in
        let v : Walks old.place old new a b before after =
        subst (λ (n : ℕ). Walks n old new a b before after) e (joined w) in
        walk-forward old new a b before after v rest;
    ahead = λ j e h. (let k = found-at y left w s j e in let q = k.0 in omega arith);
  }

  -- a fault behind the place
  pub sought-misses : (f : SearchFault) → BreaksOff x f mid new m b between after fuel
      → Misses (searching x) p f old new a b before after fuel
  sought-misses search_fault.Memory l =
      let v = joined l.walks in
      let t = arrives.there in
      let low = behind-it l.walks in
      record {
        goes = v.goes;
        comes =
            comes-broke _ _ _ old new a b v.goes.sound v.goes.none v.goes.still_sound v.goes.still_none
            (λ rest z o.
            let r : Run = new.run rest in
            let far = looked-at rest old.furthest i.within in
            let near = looked-at rest p (omega arith) in
            let q = v.furthest in
            let y = o.most in
            let up = z.rising.steps new.place (searched x p p r fuel).furthest (omega arith) in
            (omega arith, record { within = omega arith; most = omega arith }))
            v.comes;
      }
    where
      looked-at : (rest : List ℕ) (f : ℕ) → p ≤ f → max f new.place ≤ (searched x p f (new.run rest) fuel).furthest
      looked-at rest f h =
          let t = arrives.there in
          subst (λ (n : ℕ). max f new.place ≤ (searched x n f (new.run rest) fuel).furthest) t (l.looks rest f (omega arith))
  sought-misses (search_fault.Feed f) l =
      let h = l.ahead in
      let s = stops-then (start_of old.place p) (l.limit + 1) f old mid new a m b before between after arrives.walks (omega arith) l.stops in
      record {
        none = s.none;
        sound = s.sound;
        first = s.first;
        cause = s.cause;
        furthest = s.furthest;
        places = s.places;
        apart = s.apart;
        counts = s.counts;
        too_long = s.too_long;
        broke =
            broke-so _ _ _ _ old new a b s.sound s.none
            (λ rest z o.
            let r : Run = new.run rest in
            let far = looked-at rest old.furthest i.within in
            let near = looked-at rest p (omega arith) in
            let u = o.within in
            let y = o.most in
            let up = z.rising.steps (behind r l.limit) (searched x p p r fuel).furthest (omega arith) in
            (omega arith, record { within = omega arith; most = omega arith }))
            s.broke;
      }
    where
      looked-at : (rest : List ℕ) (f : ℕ) → p ≤ f → max f (behind (new.run rest) l.limit) ≤ (searched x p f (new.run rest) fuel).furthest
      looked-at rest f h =
          let t = arrives.there in
          subst (λ (n : ℕ). max f (behind (new.run rest) l.limit) ≤ (searched x n f (new.run rest) fuel).furthest) t
          (l.looks rest f (omega arith))

-- a fault on the way to the place
pub arrive-misses : (x : Sought) (p : ℕ) (f : FeedFault) (old new : Fed) (a b : Sight) (before after fuel : ℕ) → IsPlaceOf old p
    → Stops (start_of old.place p) p f old new a b before after → Fails (searching x) p f old new a b before after fuel
arrive-misses x p f old new a b before after fuel i s = record {
  none = s.none;
  sound = s.sound;
  first = s.first;
  cause = s.cause;
  furthest = s.furthest;
  places = s.places;
  apart = s.apart;
  counts = s.counts;
  too_long = s.too_long;
  broke =
      broke-so _ _ _ _ old new a b s.sound s.none
      (λ rest z o.
      let r : Run = new.run rest in
      let es : List Event = events_of r.turns in
      let far = on-rises (sought_test x) es r.ending (record { place = p; furthest = old.furthest }) fuel in
      let near = on-rises (sought_test x) es r.ending (record { place = p; furthest = p }) fuel in
      let w = i.within in
      let u = o.within in
      let y = o.most in
      let up = z.rising.steps (up_to r p) (searched x p p r fuel).furthest (omega arith) in
      (omega arith, record { within = omega arith; most = omega arith }))
      s.broke;
}
