-- Moves that come to another one, once something was paid.
use Rattle.std.proofs.Common.{◌≡◌, List, ℕ, ◌+◌, ◌-◌, ◌*◌, ◌<◌, ◌≤◌, None, sym, ap, ◌∙◌, subst, arith}
use Rattle.op_logic.specs.Term.{Term, size}
use Rattle.op_trace.specs.Database.{Text}
use Rattle.op_trace.specs.Run.{Run, events_of, steps_at}
use Rattle.op_moves.specs.Pattern.{tested}
use Rattle.op_moves.specs.Moves as moves
use Rattle.op_moves.specs.Moves.{Outcome, outcome}
use Rattle.op_moves.proofs.MoveCosts.{pay-there, pay-short, seek-rises}
use Rattle.op_retrace.specs.Fed.{Fed, IsSound}
use Rattle.op_retrace.specs.Sight.{Sight}
use Rattle.op_cursor.specs.declared.found.Found.{Found}
use Rattle.op_cursor.specs.declared.found.Found.TheVariants as found
use Rattle.op_cursor.specs.declared.search.SearchFault.{SearchFault}
use Rattle.op_cursor.specs.declared.search.SearchFault.TheVariants as search_fault
use Rattle.op_cursor.specs.Moving.{Moving, Bounded, any_run}
use Rattle.op_cursor.specs.inner.Does.{Does, Lacks, from_stand}
use Rattle.op_cursor.specs.inner.Seeks.{Misses}
use Rattle.op_cursor.proofs.JoinedCalls.{comes-so, broke-so}
use Rattle.op_cursor.proofs.JoinedWalks.{walks-nothing}
use Rattle.op_cursor.proofs.FoundPlaces.{does-short}
use Rattle.op_cursor.proofs.FoundSearches.{comes-broke}

module _ (k n : Moving) (p : ℕ) (old new : Fed) (a b : Sight) (before after fuel mid : ℕ)
    (same : (rest : List ℕ) (f : ℕ) → from_stand k (new.run rest) p f fuel ≡ from_stand n (new.run rest) p f mid) where
  pub does-paid : (y : Found) (left : ℕ) → Does any_run n p y old new a b before after mid left
      → Does any_run k p y old new a b before after fuel left
  does-paid y left d = record {
    goes = d.goes;
    found = d.found;
    comes =
        comes-so _ _ old new a b d.goes.sound d.goes.none d.goes.still_sound d.goes.still_none
        (λ rest t z o.
        let r : Run = new.run rest in
        record {
          answer = λ q. same rest old.furthest ∙ o.answer q;
          steps =
              subst (λ (u : Outcome). Bounded old.keeps r (2 * steps_at r u.furthest) old.place new.place before after)
              (sym (same rest p)) o.steps;
        })
        d.comes;
  }

  pub misses-paid : (f : SearchFault) → Misses n p f old new a b before after mid → Misses k p f old new a b before after fuel
  misses-paid search_fault.Memory l = record {
    goes = l.goes;
    comes =
        broke-so _ _ _ _ old new a b l.goes.sound l.goes.none
        (λ rest t o.
        let r : Run = new.run rest in
        let far = ap (λ (u : Outcome). u.furthest) (same rest old.furthest) in
        let w = o.within in (
          omega arith,
          record {
            within = omega arith;
            most = subst (λ (u : Outcome). after ≤ before + 2 * steps_at r u.furthest) (sym (same rest p)) o.most;
          },
        ))
        l.comes;
  }
  misses-paid (search_fault.Feed f) s = record {
    none = s.none;
    sound = s.sound;
    first = s.first;
    cause = s.cause;
    furthest = s.furthest;
    places = s.places;
    apart = s.apart;
    counts = s.counts;
    too_long = s.too_long;
    broke =
        broke-so _ _ _ _ old new a b s.sound s.none
        (λ rest t o.
        let r : Run = new.run rest in
        let far = ap (λ (u : Outcome). u.furthest) (same rest old.furthest) in
        let w = o.within in (
          omega arith,
          record {
            within = omega arith;
            most = subst (λ (u : Outcome). after ≤ before + 2 * steps_at r u.furthest) (sym (same rest p)) o.most;
          },
        ))
        s.broke;
  }

-- a move that lacks memory before it asks its feed
pub lacks-nothing : (k : Moving) (p : ℕ) (v : Fed) (a : Sight) (n fuel : ℕ) → v.fault ≡ None → IsSound v
    → ((r : Run) (f : ℕ) → f ≤ (from_stand k r p f fuel).furthest) → Lacks k p v v a a n n fuel
lacks-nothing k p v a n fuel none sound rises =
    let w = walks-nothing v a n none sound in
    record {
      goes = w.goes;
      comes =
          comes-broke _ _ _ v v a a sound none sound none
          (λ rest z o.
          let up = rises (v.run rest) v.furthest in
          (up, record { within = up; most = omega arith })) w.comes;
    }

-- a pattern's size
pub seek-paid : (t : Term Text) (r : Run) (p f fuel left : ℕ) → fuel ≡ left + size t
    → from_stand (moves.seek t) r p f fuel
    ≡ moves.search_on (tested t) (events_of r.turns) r.ending (record { place = p; furthest = f }) left
seek-paid t r p f fuel left h =
    let go : ℕ → Outcome = λ l. moves.search_on (tested t) (events_of r.turns) r.ending (record { place = p; furthest = f }) l in
    let paid : fuel - size t ≡ left = omega (arith, h) in
    pay-there (size t) f fuel go (omega (arith, h)) ∙ ap go paid

pub seek-short : (t : Term Text) (p : ℕ) (v : Fed) (a : Sight) (n fuel left : ℕ) → v.fault ≡ None → IsSound v → fuel < size t → left ≡ 0
    → Does any_run (moves.seek t) p found.Spent v v a a n n fuel left
seek-short t p v a n fuel left none sound h z =
    subst (λ (l : ℕ). Does any_run (moves.seek t) p found.Spent v v a a n n fuel l) (sym z)
    (does-short (moves.seek t) p v a n fuel none sound
    (λ r f. pay-short (size t) f fuel
    (λ l. moves.search_on (tested t) (events_of r.turns) r.ending (record { place = p; furthest = f }) l) h))

pub seek-lacks : (t : Term Text) (p : ℕ) (v : Fed) (a : Sight) (n fuel : ℕ) → v.fault ≡ None → IsSound v
    → Lacks (moves.seek t) p v v a a n n fuel
seek-lacks t p v a n fuel none sound =
    lacks-nothing (moves.seek t) p v a n fuel none sound
    (λ r f. seek-rises t (events_of r.turns) r.ending (record { place = p; furthest = f }) fuel)
