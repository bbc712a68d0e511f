-- What is done to a feed, as a move of its cursor.
use Rattle.std.proofs.Common.{◌≡◌, ℕ, ◌+◌, ◌≤◌, Bool, true, false, Some, None, Ok, Err}
use Rattle.std.proofs.Common.{refl, sym, ap, ◌∙◌, subst, arith}
use Rattle.op_trace.specs.Run.{Run}
use Rattle.op_moves.specs.Moves as moves
use Rattle.op_moves.specs.Moves.{Stand, Outcome, outcome, place_after}
use Rattle.op_retrace.specs.declared.fault.Cause.TheVariants as cause
use Rattle.op_retrace.specs.declared.fault.FeedFault.{FeedFault}
use Rattle.op_retrace.specs.declared.fault.FeedFault.TheVariants as fault
use Rattle.op_retrace.specs.Fed.{Fed, IsSound, Stands, IsBrokenReset, IsResetFault, cause_of, source_of}
use Rattle.op_retrace.specs.Fed as fed
use Rattle.op_retrace.specs.Sight.{Sight}
use Rattle.op_cursor.specs.declared.cursor.Move.{Move}
use Rattle.op_cursor.specs.declared.cursor.Move.TheVariants as move
use Rattle.op_cursor.specs.declared.found.Found.{Found}
use Rattle.op_cursor.specs.Seen.{Seen, IsPlaceOf, CanStand, Moment, moment, cause_in, EndsBy, Leaves}
use Rattle.op_cursor.specs.Moving.{Moving, Moves, MovedBy, Breaks, GoesForward, move_of, any_run, to_place, back_one, to_start}
use Rattle.op_cursor.specs.inner.Walks.{IsFirst}
use Rattle.op_cursor.specs.inner.Finds.{found_of}
use Rattle.op_cursor.specs.inner.Does.{Does, Forward, Fails, IsAwake, IsUnwoken, CannotWake, IsPlaceFound, from_stand}
use Rattle.op_cursor.proofs.JoinedCalls.{comes-so, broke-so}
use Rattle.op_cursor.proofs.JoinedWalks.{apart-nothing, counts-calm, counts-fault}
use Rattle.op_cursor.proofs.StoppedWalks.{places-by, places-on, same-places, stops-reset, reset-counts, reset-short}
use Rattle.op_cursor.proofs.FoundPlaces.{does-still}
use Rattle.op_cursor.proofs.WokenFeeds.{wake-does, wake-forward, wake-fails}

place-on : (u v : Seen) (a : Sight) → IsAwake u v → (p : ℕ) → IsPlaceOf u.fed p → IsPlaceOf v.fed p
place-on u v a w p i = places-on w.wakes.from u.fed v.fed a a 0 0 (w.wakes.walks a 0) p i

pub not-exhausted : (v : Seen) → v.exhausted ≡ false → cause_in v ≡ v.fed.fault
not-exhausted v e = ap (λ (b : Bool). cause_in (record v { exhausted = b })) e

same-seen : (u w : Seen) → w.fed ≡ u.fed → w.place ≡ u.place → w.exhausted ≡ u.exhausted → w ≡ u
same-seen u w a b c =
    ap (λ (x : Fed). record w { fed = x }) a
    ∙ (ap (λ (n : ℕ). record { fed = u.fed; place = n; exhausted = w.exhausted }) b
    ∙ ap (λ (t : Bool). record { fed = u.fed; place = u.place; exhausted = t }) c)

module _ (IsKnown : Run → Type 0) (m : Moving) (y : Found) (u v w : Seen) (a b : Sight) (before after fuel left : ℕ)
    (can : CanStand u) (awake : IsAwake u v)
    (does : IsPlaceOf v.fed u.place → Does IsKnown m u.place y v.fed w.fed a b before after fuel left)
    (place : w.place ≡ place_after v.place (found_of y)) where
  whole : Does IsKnown m u.place y u.fed w.fed a b before after fuel left
  whole =
      wake-does IsKnown m u.place y u.fed v.fed w.fed a b before after fuel left awake.wakes
      (does (place-on u v a awake u.place can))

  there : w.place ≡ place_after u.place (found_of y)
  there = place ∙ ap (λ (n : ℕ). place_after n (found_of y)) awake.place

  pub moves-now : Moves IsKnown m (move_of (found_of y)) (moment u a fuel before) (moment w b left after)
  moves-now =
      let d = whole in
      comes-so _ _ u.fed w.fed a b d.goes.sound d.goes.none d.goes.still_sound d.goes.still_none
      (λ rest x z o. record {
        answer = λ k.
            let e = o.answer k in
            record {
              answer = ap (λ (q : Outcome). move_of q.found) (sym e);
              place = there ∙ ap (λ (q : Outcome). place_after u.place q.found) (sym e);
              furthest = ap (λ (q : Outcome). q.furthest) (sym e);
              left = ap (λ (q : Outcome). q.left) (sym e);
            };
        steps = o.steps;
      })
      d.comes

  stands-now : CanStand w
  stands-now = subst (λ (n : ℕ). IsPlaceOf w.fed n) (sym there) (go (found_of y) whole.found)
    where
      stays : IsPlaceOf w.fed u.place
      stays = places-by _ u.fed w.fed a b whole.goes whole.comes u.place can

      go : (x : moves.Found) → IsPlaceFound x w.fed → IsPlaceOf w.fed (place_after u.place x)
      go (moves.At j) h = h
      go moves.No_event h = stays
      go moves.Past_budget h = stays
      go moves.Spent h = stays

  pub leaves-now : w.exhausted ≡ v.exhausted → left ≤ fuel
      → Leaves {T = Move} (Ok (move_of (found_of y))) (moment u a fuel before) (moment w b left after)
  leaves-now same falls =
      let d = whole in
      record {
        ends = (not-exhausted u awake.before ∙ d.goes.none, not-exhausted w (same ∙ awake.after) ∙ d.goes.still_none);
        stands = stands-now;
        apart = d.goes.calm.apart;
        counts = counts-calm a b (Ok (move_of (found_of y))) (λ f e. cc) d.goes.calm;
        too_long = λ e. absurd cc;
        fuel = falls;
      }

  pub forward-now : (IsPlaceOf v.fed u.place → Forward u.place y v.fed w.fed before after)
      → GoesForward (move_of (found_of y)) (moment u a fuel before) (moment w b left after)
  forward-now h =
      let f = wake-forward u.place y u.fed v.fed w.fed before after awake.wakes can (h (place-on u v a awake u.place can)) in
      record { steps = f.steps; ahead = λ e k. ahead f (found_of y) refl e k }
    where
      ahead : Forward u.place y u.fed w.fed before after → (x : moves.Found) → found_of y ≡ x → move_of (found_of y) ≡ move.Moved
          → u.fed.place ≤ w.place → w.fed.place ≤ w.place
      ahead f (moves.At j) e k l =
          let q : w.place ≡ j = there ∙ ap (place_after u.place) e in
          subst (λ (n : ℕ). w.fed.place ≤ n) (sym q) (f.ahead j e (subst (λ (n : ℕ). u.fed.place ≤ n) q l))
      ahead f moves.No_event e k l = absurd (let z : move.NoEvent ≡ move.Moved = sym (ap move_of e) ∙ k in cc)
      ahead f moves.Past_budget e k l = absurd (let z : move.PastBudget ≡ move.Moved = sym (ap move_of e) ∙ k in cc)
      ahead f moves.Spent e k l = absurd (let z : move.Spent ≡ move.Moved = sym (ap move_of e) ∙ k in cc)

-- a fault of the feed
module _ (m : Moving) (f : FeedFault) (u v w : Seen) (a b : Sight) (before after fuel left : ℕ)
    (can : CanStand u) (awake : IsAwake u v)
    (fails : IsPlaceOf v.fed u.place → Fails m u.place f v.fed w.fed a b before after fuel)
    (place : w.place ≡ v.place) (same : w.exhausted ≡ v.exhausted) where
  broken : Fails m u.place f u.fed w.fed a b before after fuel
  broken =
      wake-fails m u.place f u.fed v.fed w.fed a b before after fuel awake.wakes (fails (place-on u v a awake u.place can))

  pub breaks-now : Breaks m (moment u a fuel before) (moment w b left after)
  breaks-now =
      let s = broken in
      record {
        place = place ∙ awake.place;
        broke =
            broke-so _ _ _ _ u.fed w.fed a b s.sound s.none
            (λ rest x o. (omega arith, record { furthest = s.furthest; within = o.within; most = o.most })) s.broke;
      }

  pub leaves-broken : left ≤ fuel → Leaves {T = Move} (Err f) (moment u a fuel before) (moment w b left after)
  leaves-broken falls =
      let s = broken in
      record {
        ends = ends-by f s.first (not-exhausted u awake.before ∙ s.none) (not-exhausted w (same ∙ awake.after) ∙ s.cause);
        stands = subst (λ (n : ℕ). IsPlaceOf w.fed n) (sym (place ∙ awake.place)) (s.places u.place can);
        apart = s.apart;
        counts = counts-fault a b f s.counts;
        too_long = λ e. s.too_long cc;
        fuel = falls;
      }
    where
      ends-by : (g : FeedFault) → IsFirst g → cause_in u ≡ None → cause_in w ≡ Some (cause_of g)
          → EndsBy g (moment u a fuel before) (moment w b left after)
      ends-by fault.Memory h x y = (x, y)
      ends-by fault.Read h x y = (x, y)
      ends-by fault.Write h x y = (x, y)
      ends-by fault.InputTooLong h x y = (x, y)
      ends-by (fault.Ended c) h x y = absurd h

-- the same where the cursor is given by its parts
module _ (IsKnown : Run → Type 0) (m : Moving) (y : Found) (x : Move) (u v w : Seen) (wf : Fed) (a b : Sight) (before after fuel left : ℕ)
    (can : CanStand u) (awake : IsAwake u v)
    (does : IsPlaceOf v.fed u.place → Does IsKnown m u.place y v.fed wf a b before after fuel left)
    (same : w.fed ≡ wf) (place : w.place ≡ place_after v.place (found_of y)) (answer : x ≡ move_of (found_of y)) where
  does-it : IsPlaceOf v.fed u.place → Does IsKnown m u.place y v.fed w.fed a b before after fuel left
  does-it i = subst (λ (z : Fed). Does IsKnown m u.place y v.fed z a b before after fuel left) (sym same) (does i)

  pub moved : Moves IsKnown m x (moment u a fuel before) (moment w b left after)
  moved =
      subst (λ (z : Move). Moves IsKnown m z (moment u a fuel before) (moment w b left after)) (sym answer)
      (moves-now IsKnown m y u v w a b before after fuel left can awake does-it place)

  pub left-so : w.exhausted ≡ v.exhausted → left ≤ fuel → Leaves {T = Move} (Ok x) (moment u a fuel before) (moment w b left after)
  left-so e falls =
      subst (λ (z : Move). Leaves {T = Move} (Ok z) (moment u a fuel before) (moment w b left after)) (sym answer)
      (leaves-now IsKnown m y u v w a b before after fuel left can awake does-it place e falls)

  pub forward-so : (IsPlaceOf v.fed u.place → Forward u.place y v.fed wf before after)
      → GoesForward x (moment u a fuel before) (moment w b left after)
  forward-so h =
      subst (λ (z : Move). GoesForward z (moment u a fuel before) (moment w b left after)) (sym answer)
      (forward-now IsKnown m y u v w a b before after fuel left can awake does-it place
      (λ i. subst (λ (z : Fed). Forward u.place y v.fed z before after) (sym same) (h i)))

-- a cursor that has ended by a fault, or ends by one at once
unwoken-ends : (f : FeedFault) (u w : Seen) (a : Sight) (fuel n : ℕ) → CannotWake f u w → EndsBy f (moment u a fuel n) (moment w a fuel n)
unwoken-ends f u w a fuel n h = go u.exhausted refl h.unwoken
  where
    ended : w.fed ≡ u.fed → moment w a fuel n ≡ moment u a fuel n
    ended e = ap (λ (z : Seen). moment z a fuel n) (same-seen u w e h.place h.exhausted)

    answers : (g : FeedFault) → u.exhausted ≡ false → fed.EndsBy g u.fed w.fed → EndsBy g (moment u a fuel n) (moment w a fuel n)
    answers fault.Memory t e = (not-exhausted u t ∙ e.0, not-exhausted w (h.exhausted ∙ t) ∙ e.1)
    answers fault.Read t e = (not-exhausted u t ∙ e.0, not-exhausted w (h.exhausted ∙ t) ∙ e.1)
    answers fault.Write t e = (not-exhausted u t ∙ e.0, not-exhausted w (h.exhausted ∙ t) ∙ e.1)
    answers fault.InputTooLong t e = (not-exhausted u t ∙ e.0, not-exhausted w (h.exhausted ∙ t) ∙ e.1)
    answers (fault.Ended c) t e = (not-exhausted u t ∙ e.0, ended e.1)

    go : (t : Bool) → u.exhausted ≡ t → IsUnwoken t f u.fed w.fed → EndsBy f (moment u a fuel n) (moment w a fuel n)
    go true t k =
        subst (λ (g : FeedFault). EndsBy g (moment u a fuel n) (moment w a fuel n)) (sym k.0)
        (ap (λ (b : Bool). cause_in (record u { exhausted = b })) t, ended k.1)
    go false t k = answers f t k.ends

reset-places : (f : FeedFault) (u w : Seen) → CannotWake f u w → (p : ℕ) → IsPlaceOf u.fed p → IsPlaceOf w.fed p
reset-places f u w h p i = go u.exhausted h.unwoken
  where
    go : (t : Bool) → IsUnwoken t f u.fed w.fed → IsPlaceOf w.fed p
    go true k = subst (λ (v : Fed). IsPlaceOf v p) (sym k.1) i
    go false k =
        same-places u.fed w.fed (ap (λ (v : Fed). v.furthest) k.reset) (ap (λ (v : Fed). v.ending) k.reset) p i

unread-fault : (f : FeedFault) (u w : Seen) → CannotWake f u w → IsResetFault f
unread-fault f u w h = go u.exhausted h.unwoken
  where
    go : (t : Bool) → IsUnwoken t f u.fed w.fed → IsResetFault f
    go true k = subst (λ (g : FeedFault). IsResetFault g) (sym k.0) tt
    go false k = k.proper

pub unwoken-leaves : (f : FeedFault) (u w : Seen) (a : Sight) (fuel n : ℕ) → CanStand u → CannotWake f u w
    → Leaves {T = Move} (Err f) (moment u a fuel n) (moment w a fuel n)
unwoken-leaves f u w a fuel n can h =
    let proper = unread-fault f u w h in
    record {
      ends = unwoken-ends f u w a fuel n h;
      stands = subst (λ (p : ℕ). IsPlaceOf w.fed p) (sym h.place) (reset-places f u w h u.place can);
      apart = apart-nothing a;
      counts = counts-fault a a f (reset-counts a f proper);
      too_long = λ e. absurd (reset-short f proper cc);
      fuel = omega arith;
    }

pub unwoken-breaks : (m : Moving) (f : FeedFault) (u w : Seen) (a : Sight) (fuel n : ℕ) → cause_in u ≡ None → CannotWake f u w
    → ((r : Run) → u.fed.furthest ≤ (from_stand m r u.place u.fed.furthest fuel).furthest)
    → Breaks m (moment u a fuel n) (moment w a fuel n)
unwoken-breaks m f u w a fuel n none h rises = go u.exhausted refl h.unwoken
  where
    go : (t : Bool) → u.exhausted ≡ t → IsUnwoken t f u.fed w.fed → Breaks m (moment u a fuel n) (moment w a fuel n)
    go true t k =
        absurd (let e : cause_in u ≡ Some cause.Memory = ap (λ (b : Bool). cause_in (record u { exhausted = b })) t in
        let z : Some cause.Memory ≡ None = sym e ∙ none in cc)
    go false t k =
        let clear : u.fed.fault ≡ None = sym (not-exhausted u t) ∙ none in
        let s = stops-reset f u.fed w.fed a n 0 0 clear k.sound k.reset k.proper k.ends in
        let same : w.fed.furthest ≡ u.fed.furthest = ap (λ (v : Fed). v.furthest) k.reset in
        record {
          place = h.place;
          broke =
              broke-so _ _ _ _ u.fed w.fed a a k.sound clear
              (λ rest x o. let up = rises (w.fed.run rest) in
              (omega arith, record { furthest = omega arith; within = omega arith; most = omega arith })) s.broke;
        }

-- the next place is the one behind the place where the cursor stood
next-by : (x : Move) (r : Run) (u : Seen) (a : Sight) (fuel before : ℕ) (z : Moment)
    → MovedBy any_run (to_place (u.place + 1)) x r (moment u a fuel before) z → MovedBy any_run moves.next x r (moment u a fuel before) z
next-by x r u a fuel before z o = record {
  answer = λ k. (let e = o.answer k in record { answer = e.answer; place = e.place; furthest = e.furthest; left = e.left });
  steps = o.steps;
}

next-here : (x : Move) (u : Seen) (a : Sight) (fuel before : ℕ) (z : Moment)
    → Moves any_run (to_place (u.place + 1)) x (moment u a fuel before) z → Moves any_run moves.next x (moment u a fuel before) z
next-here x u a fuel before z c = record {
  loaded = c.loaded;
  keeps = c.keeps;
  taking = c.taking;
  takes = c.takes;
  put = c.put;
  appends = c.appends;
  over = c.over;
  so = λ rest. next-by x _ u a fuel before z (c.so rest);
}

pub next-as : (n : ℕ) (x : Move) (u : Seen) (a : Sight) (fuel before : ℕ) (z : Moment) → n ≡ u.place
    → Moves any_run (to_place (n + 1)) x (moment u a fuel before) z → Moves any_run moves.next x (moment u a fuel before) z
next-as n x u a fuel before z e h =
    next-here x u a fuel before z (subst (λ (k : ℕ). Moves any_run (to_place (k + 1)) x (moment u a fuel before) z) e h)

next-broken-here : (u : Seen) (a : Sight) (fuel before : ℕ) (z : Moment)
    → Breaks (to_place (u.place + 1)) (moment u a fuel before) z → Breaks moves.next (moment u a fuel before) z
next-broken-here u a fuel before z c = record {
  place = c.place;
  broke = record {
    loaded = c.broke.loaded;
    keeps = c.broke.keeps;
    taking = c.broke.taking;
    takes = c.broke.takes;
    put = c.broke.put;
    appends = c.broke.appends;
    over = c.broke.over;
    so = λ rest. (let o = c.broke.so rest in record { furthest = o.furthest; within = o.within; most = o.most });
  };
}

pub next-broken : (n : ℕ) (u : Seen) (a : Sight) (fuel before : ℕ) (z : Moment) → n ≡ u.place
    → Breaks (to_place (n + 1)) (moment u a fuel before) z → Breaks moves.next (moment u a fuel before) z
next-broken n u a fuel before z e h =
    next-broken-here u a fuel before z (subst (λ (k : ℕ). Breaks (to_place (k + 1)) (moment u a fuel before) z) e h)

pub awake-none : (u v : Seen) (a : Sight) → IsAwake u v → v.fed.fault ≡ None
awake-none u v a w = (w.wakes.walks a 0).goes.still_none

pub awake-place : (u v : Seen) (a : Sight) → CanStand u → IsAwake u v → CanStand v
awake-place u v a can w = subst (λ (p : ℕ). IsPlaceOf v.fed p) (sym w.place) (place-on u v a w u.place can)

pub awake-sound : (u v : Seen) (a : Sight) → IsAwake u v → IsSound v.fed
awake-sound u v a w = (w.wakes.walks a 0).goes.still_sound

-- places that need no feed
pub before-does : (y : Found) (u v : Seen) (a : Sight) (n fuel left : ℕ) → IsAwake u v
    → ((f : ℕ) → v.place ≤ f → moves.prev_of v.place (record { place = v.place; furthest = f }) fuel ≡ outcome (found_of y) f left)
    → ((j : ℕ) → found_of y ≡ moves.At j → j ≤ v.place)
    → IsPlaceOf v.fed u.place → Does any_run back_one u.place y v.fed v.fed a a n n fuel left
before-does y u v a n fuel left w finds places i =
    does-still back_one u.place y v.fed a n fuel left (awake-none u v a w) (awake-sound u v a w) i
    (λ r f k. subst (λ (q : ℕ). (g : ℕ) → q ≤ g → moves.prev_of q (record { place = q; furthest = g }) fuel ≡ outcome (found_of y) g left)
    w.place finds f k)
    (λ j e. subst (λ (q : ℕ). j ≤ q) w.place (places j e))

pub start-does : (y : Found) (u v : Seen) (a : Sight) (n fuel left : ℕ) → IsAwake u v
    → ((s : Stand) → moves.first s fuel ≡ outcome (found_of y) s.furthest left)
    → ((j : ℕ) → found_of y ≡ moves.At j → j ≤ 0)
    → IsPlaceOf v.fed u.place → Does any_run to_start u.place y v.fed v.fed a a n n fuel left
start-does y u v a n fuel left w finds places i =
    does-still to_start u.place y v.fed a n fuel left (awake-none u v a w) (awake-sound u v a w) i
    (λ r f k. finds (record { place = u.place; furthest = f }))
    (λ j e. let h = places j e in omega arith)

pub ends-first : (g : FeedFault) (a b : Moment) → IsFirst g → cause_in a.cursor ≡ None → cause_in b.cursor ≡ Some (cause_of g) → EndsBy g a b
ends-first fault.Memory a b h x y = (x, y)
ends-first fault.Read a b h x y = (x, y)
ends-first fault.Write a b h x y = (x, y)
ends-first fault.InputTooLong a b h x y = (x, y)
ends-first (fault.Ended c) a b h x y = absurd h

pub unwoken-furthest : (f : FeedFault) (u w : Seen) → cause_in u ≡ None → CannotWake f u w → w.fed.furthest ≡ u.fed.furthest
unwoken-furthest f u w none h = go u.exhausted h.unwoken
  where
    go : (t : Bool) → IsUnwoken t f u.fed w.fed → w.fed.furthest ≡ u.fed.furthest
    go true k = ap (λ (v : Fed). v.furthest) k.1
    go false k = ap (λ (v : Fed). v.furthest) k.reset
