-- Want of memory that isn't the feed's, as a move of a cursor.
use Rattle.std.proofs.Common.{◌≡◌, ℕ, ◌≤◌, Bool, true, [], Err, sym, ap, ◌∙◌, subst, arith}
use Rattle.op_trace.specs.Run.{Run}
use Rattle.op_retrace.specs.declared.fault.FeedFault.{FeedFault}
use Rattle.op_retrace.specs.declared.fault.FeedFault.TheVariants as fault
use Rattle.op_retrace.specs.Fed.{Fed}
use Rattle.op_retrace.specs.Sight.{Sight, Counts}
use Rattle.op_cursor.specs.declared.cursor.Move.{Move}
use Rattle.op_cursor.specs.declared.found.Found.{Found}
use Rattle.op_cursor.specs.declared.search.SearchFault.{SearchFault}
use Rattle.op_cursor.specs.declared.search.SearchFault.TheVariants as search_fault
use Rattle.op_cursor.specs.Seen.{Seen, IsPlaceOf, CanStand, moment, cause_in, Leaves}
use Rattle.op_cursor.specs.Moving.{Moving, Breaks}
use Rattle.op_cursor.specs.inner.Walks.{failed}
use Rattle.op_cursor.specs.inner.Does.{Does, Forward, Fails, Lacks, Wakes, IsAwake, from_stand}
use Rattle.op_cursor.specs.inner.Seeks.{Misses}
use Rattle.op_cursor.proofs.JoinedCalls.{broke-then, broke-so}
use Rattle.op_cursor.proofs.JoinedWalks.{goes-then, counts-fault, counts-then}
use Rattle.op_cursor.proofs.StoppedWalks.{places-same, reset-counts}
use Rattle.op_cursor.proofs.MovedCursors.{not-exhausted}

wake-lacks : (m : Moving) (p : ℕ) (old mid new : Fed) (a b : Sight) (before after fuel : ℕ) → Wakes old mid
    → Lacks m p mid new a b before after fuel → Lacks m p old new a b before after fuel
wake-lacks m p old mid new a b before after fuel w l =
    let walks = w.walks a before in
    record {
      goes = goes-then old mid new a a b walks.goes l.goes;
      comes =
          broke-so _ _ _ _ old new a b walks.goes.sound walks.goes.none
          (λ rest x o.
          let r : Run = new.run rest in
          let q = o.1 in (
            subst (λ (n : ℕ). (from_stand m r p mid.furthest fuel).furthest ≤ (from_stand m r p n fuel).furthest) w.furthest (omega arith),
            record {
              within = subst (λ (n : ℕ). new.furthest ≤ (from_stand m r p n fuel).furthest) w.furthest q.within;
              most = q.most;
            },
          ))
          (broke-then _ _ old mid new a a b walks.comes _ l.comes);
    }

module _ (m : Moving) (u v w : Seen) (a b : Sight) (before after fuel left : ℕ) (can : CanStand u) (awake : IsAwake u v)
    (lacks : Lacks m v.place v.fed w.fed a b before after fuel) (place : w.place ≡ v.place) (gone : w.exhausted ≡ true) where
  lacked : Lacks m u.place u.fed w.fed a b before after fuel
  lacked =
      wake-lacks m u.place u.fed v.fed w.fed a b before after fuel awake.wakes
      (subst (λ (p : ℕ). Lacks m p v.fed w.fed a b before after fuel) awake.place lacks)

  pub lacking-breaks : Breaks m (moment u a fuel before) (moment w b left after)
  lacking-breaks =
      let l = lacked in
      record {
        place = place ∙ awake.place;
        broke =
            broke-so _ _ _ _ u.fed w.fed a b l.goes.sound l.goes.none
            (λ rest x o. (omega arith, record { furthest = l.goes.furthest; within = o.within; most = o.most })) l.comes;
      }

  pub lacking-leaves : left ≤ fuel → Leaves {T = Move} (Err fault.Memory) (moment u a fuel before) (moment w b left after)
  lacking-leaves falls =
      let l = lacked in
      let counts : Counts a b (failed fault.Memory) = counts-then a b b (failed fault.Memory) l.goes.calm (reset-counts b fault.Memory tt) in
      record {
        ends = (
          not-exhausted u awake.before ∙ l.goes.none,
          ap (λ (x : Bool). cause_in (record w { exhausted = x })) gone,
        );
        stands =
            subst (λ (n : ℕ). IsPlaceOf w.fed n) (sym (place ∙ awake.place))
            (places-same u.fed w.fed a b l.comes.taking l.goes (l.comes.over []).run u.place can);
        apart = l.goes.calm.apart;
        counts = counts-fault a b fault.Memory counts;
        too_long = λ e. absurd cc;
        fuel = falls;
      }

-- what is done from where the cursor stands
module _ (m : Moving) (u v : Seen) (wf : Fed) (a b : Sight) (before after fuel : ℕ) (awake : IsAwake u v) where
  pub does-here : (IsKnown : Run → Type 0) (y : Found) (left : ℕ) → Does IsKnown m v.place y v.fed wf a b before after fuel left
      → Does IsKnown m u.place y v.fed wf a b before after fuel left
  does-here IsKnown y left d = subst (λ (p : ℕ). Does IsKnown m p y v.fed wf a b before after fuel left) awake.place d

  pub forward-here : (y : Found) → Forward v.place y v.fed wf before after → Forward u.place y v.fed wf before after
  forward-here y f = subst (λ (p : ℕ). Forward p y v.fed wf before after) awake.place f

  pub fails-here : (e : SearchFault) (f : FeedFault) → e ≡ search_fault.Feed f → Misses m v.place e v.fed wf a b before after fuel
      → Fails m u.place f v.fed wf a b before after fuel
  fails-here e f is h =
      let fails : Fails m v.place f v.fed wf a b before after fuel =
      subst (λ (x : SearchFault). Misses m v.place x v.fed wf a b before after fuel) is h in
      subst (λ (p : ℕ). Fails m p f v.fed wf a b before after fuel) awake.place fails

  pub lacks-here : (e : SearchFault) → e ≡ search_fault.Memory → Misses m v.place e v.fed wf a b before after fuel
      → Lacks m v.place v.fed wf a b before after fuel
  lacks-here e is h = subst (λ (x : SearchFault). Misses m v.place x v.fed wf a b before after fuel) is h
