-- Where a feed stands, and where it goes.
use Rattle.std.proofs.Common.{◌≡◌, ℕ, ◌+◌, ◌-◌, ◌<◌, ◌≤◌, ◌^◌, min, max, Bool, true, false, not, ◌&&◌, List, [], ◌∷◌, ◌++◌, length}
use Rattle.std.proofs.Common.{take, drop, Option, Some, None, is_some, refl, sym, ap, ◌∙◌, subst, arith, append_assoc, append-nil, length-append}
use Rattle.std.proofs.Common.{get_or}
use Rattle.std.proofs.lemmas.List.{get_or-append_right, take-take, length-take}
use Rattle.std.proofs.Math.Seq.{take-length}
use Rattle.op_logic.specs.Names.{named}
use Rattle.op_logic.proofs.BoolCases.{by_order}
use Rattle.op_trace.specs.Database.{Text}
use Rattle.op_trace.specs.World.{World, Event, Turn, Shown, Solved, loaded}
use Rattle.op_trace.specs.Outside.{no_outside}
use Rattle.op_machine.specs.Acts.{setup_for}
use Rattle.op_trace.specs.Run.{Run, started, events_of, worlds_of, steps_at, looked_at, output_at}
use Rattle.op_store.specs.declared.goals.goal.Goal.{Goal}
use Rattle.op_store.specs.Stored.{Stored, database_of}
use Rattle.op_machine.specs.declared.turn.Ending.{Ending}
use Rattle.op_machine.specs.declared.turn.Last.{Last}
use Rattle.op_machine.specs.declared.turn.Last.TheVariants as last
use Rattle.op_machine.specs.Machine.{is_event, is_solution}
use Rattle.op_machine.specs.Machine.{Kept, answered, has_event, has_solution, event_now, world_now, to_come}
use Rattle.op_moves.specs.Places.{event_count, place_behind, turns_to, least_steps, IsWrittenBehind, IsCourse, Rising, IsNumbered}
use Rattle.op_moves.proofs.RisingPlaces.{run-course, run-rises, run-numbers, first-later, IsLater}
use Rattle.op_retrace.proofs.TableActs.{table-goes-on}
use Rattle.op_moves.proofs.TurnPlaces.{events-append, worlds-append, worlds-count, events-few, behind, IsAt, is-at, is-past}
use Rattle.op_retrace.specs.declared.feed.FeedStep.TheVariants as step
use Rattle.op_retrace.specs.Fed.{event_by, event_shown, IsMachineAt, AtEnd, Looked, Stands, Pays, Over}
use Rattle.op_retrace.specs.Fed.{furthest_behind, BrokenOver}
use Rattle.op_retrace.specs.Holding.{Held, run_by, run_of, fed_of, first_held, to_show, IsStarted, IsHere}
use Rattle.op_retrace.specs.inner.Coming.{AreSolutions, last_steps, Came, Ended, Stops}

shown-by : (k : Kept) (b : Bool) → has_event k ≡ b → event_shown k ≡ event_by b k
shown-by k b h = ap (λ t. event_by t k) h

drop-past : (ts us : List Turn) → drop (length ts) (ts ++ us) ≡ us
drop-past [] us = refl
drop-past (t ∷ ts) us = drop-past ts us

-- a machine that shows an event shows no solution
event-only : (k : Kept) → has_event k ≡ true → has_solution k ≡ false
event-only k h = go k.last k.faulted h
  where
    go : (l : Last) (f : Bool) → (is_event l && not f) ≡ true → (is_solution l && not f) ≡ false
    go last.Nothing f e = refl
    go last.Event f e = refl
    go last.Solution f e = absurd cc

-- without an event none can be looked at
shows-none : (k : Kept) (b : Bool) → has_event k ≡ false → (has_event k && b) ≡ true → ⊥
shows-none k b h = go (has_event k) h
  where
    go : (x : Bool) → x ≡ false → (x && b) ≡ true → ⊥
    go false e f = cc
    go true e f = cc

-- where these turns are past, a machine has the rest of the run still to show
machine-at : (k : Kept) (r : Run) (p : ℕ) (past : List Turn) → k.faulted ≡ false → has_solution k ≡ false
    → r.turns ≡ past ++ (to_show k).turns → r.ending ≡ (to_show k).ending → r.world ≡ (to_show k).world
    → turns_to r.turns p ≡ length past → output_at r p ≡ [] → IsMachineAt k r p
machine-at k r p past whole none turns ending world count quiet =
    let same : to_come k no_outside (output_at r p) ≡ to_show k = ap (to_come k no_outside) quiet in
    record {
      whole = whole;
      no_solution = none;
      outside = no_outside;
      turns = ap (λ (x : Run). x.turns) same ∙ sym (ap (λ n. drop n r.turns) count ∙ ap (drop (length past)) turns
          ∙ drop-past past (to_show k).turns);
      ending = ap (λ (x : Run). x.ending) same ∙ sym ending;
      world = ap (λ (x : Run). x.world) same ∙ sym world;
    }

-- the run over a program is a course, whatever the program
course-by : (t : Stored) (g : Goal) (budget wanted : ℕ)
    → IsCourse (started g.vars (loaded (database_of t))) (run_by t g budget wanted).turns (run_by t g budget wanted).world
course-by t g budget wanted =
    run-course (setup_for budget wanted) (named t.names g.body) g.vars (loaded (database_of t)) (table-goes-on budget wanted)
    (omega arith)

rises-by : (t : Stored) (g : Goal) (budget wanted : ℕ) → Rising (run_by t g budget wanted)
rises-by t g budget wanted =
    run-rises (setup_for budget wanted) (named t.names g.body) g.vars (loaded (database_of t)) (table-goes-on budget wanted)
    (omega arith)

numbered-by : (t : Stored) (g : Goal) (budget wanted : ℕ) → IsNumbered (run_by t g budget wanted)
numbered-by t g budget wanted =
    run-numbers (setup_for budget wanted) (named t.names g.body) g.vars (loaded (database_of t)) (table-goes-on budget wanted)
    (omega arith) refl

-- at the start nothing is past
pub starts-here : (t : Stored) (g : Goal) (budget wanted : ℕ) (k : Kept) → IsStarted t g budget wanted k
    → IsHere (first_held t g budget wanted k) (run_by t g budget wanted)
starts-here t g budget wanted k s =
    let r : Run = run_by t g budget wanted in
    record {
      stands = record {
        within = omega arith;
        looked = omega arith;
        rising = rises-by t g budget wanted;
        numbered = numbered-by t g budget wanted;
        event = sym (shown-by k false s.no_event);
        steps = s.steps;
        turns = s.answered ∙ sym (no-turns r.turns);
        machine = machine-at k r 0 [] s.whole s.no_solution (sym (ap (λ (x : Run). x.turns) s.run))
            (sym (ap (λ (x : Run). x.ending) s.run)) (sym (ap (λ (x : Run). x.world) s.run)) (no-turns r.turns) refl;
        first = λ z. s.tables;
        names = ap (λ (x : Stored). take (length t.names) x.names) s.tables ∙ take-length t.names;
        drawn = refl;
        limit = omega arith;
        ended_within = λ z. absurd cc;
        few = λ z. omega arith;
      };
      past = [];
      turns = sym (ap (λ (x : Run). x.turns) s.run);
      ending = sym (ap (λ (x : Run). x.ending) s.run);
      world = sym (ap (λ (x : Run). x.world) s.run);
      count = sym s.answered;
      seen = omega arith;
      quiet = refl;
      few = omega arith;
    }
  where
    no-turns : (ts : List Turn) → turns_to ts 0 ≡ 0
    no-turns [] = refl
    no-turns (Shown e w ∷ ts) = refl
    no-turns (Solved σ w ∷ ts) = refl

-- a machine that was started again stands at place 0
pub again-here : (h : Held) (k : Kept) → IsHere h (run_of h) → IsStarted h.store h.goal h.budget h.wanted k
    → IsHere (record h { machine = k; place = 0 }) (run_of h)
again-here h k i s =
    let f = starts-here h.store h.goal h.budget h.wanted k s in
    let old = i.stands in
    record {
      stands = record {
        within = omega arith;
        looked = looked-again h.ending old.looked;
        rising = old.rising;
        numbered = old.numbered;
        event = f.stands.event;
        steps = f.stands.steps;
        turns = f.stands.turns;
        machine = f.stands.machine;
        first = f.stands.first;
        names = f.stands.names;
        drawn = old.drawn;
        limit = old.limit;
        ended_within = old.ended_within;
        few = λ z. omega arith;
      };
      past = f.past;
      turns = f.turns;
      ending = f.ending;
      world = f.world;
      count = f.count;
      seen = f.seen;
      quiet = i.quiet;
      few = f.few;
    }
  where
    looked-again : (o : Option Ending) → Looked (fed_of h) (run_of h) o → Looked (fed_of (record h { machine = k; place = 0 })) (run_of h) o
    looked-again None l = l
    looked-again (Some e) l = record {
      furthest = l.furthest;
      names = l.names;
      ending = l.ending;
      here = λ z. (let p = l.furthest in absurd (omega arith));
      known = λ z. (let p = l.furthest in absurd (omega arith));
    }

-- solutions have no events and no worlds
solved-events : (ts : List Turn) → AreSolutions ts → events_of ts ≡ []
solved-events [] a = refl
solved-events (Shown e w ∷ ts) a = absurd a.0
solved-events (Solved σ w ∷ ts) a = solved-events ts a.1

-- where the end was not reached, or the feed doesn't stand there, it stands before it
pub before-none : (h : Held) (r : Run) → Stands (fed_of h) r → h.ending ≡ None → h.place ≤ event_count r
before-none h r s none =
    let l : h.furthest ≤ event_count r = subst (Looked (fed_of h) r) none s.looked in
    let w = s.within in
    omega arith

pub before-some : (h : Held) (r : Run) (e : Ending) → Stands (fed_of h) r → h.ending ≡ Some e → (h.place ≡ h.furthest → ⊥)
    → h.place ≤ event_count r
before-some h r e s some other =
    let l : AtEnd (fed_of h) r e = subst (Looked (fed_of h) r) some s.looked in
    let w = s.within in
    let f = l.furthest in
    omega (arith, other)

at-max : {A : Type 0} (f : ℕ → A) (a b : ℕ) (x : A) → f a ≡ x → f b ≡ x → f (max a b) ≡ x
at-max f a b x p q =
    by_order a b
    (λ l. let e : max a b ≡ b = omega arith in ap f e ∙ q)
    (λ l. let e : max a b ≡ a = omega arith in ap f e ∙ p)

-- the parts of a place that a machine has come to
parts-at : (r : Run) (p : ℕ) (k : Kept) → get_or (worlds_of r.turns) p r.world ≡ world_now k
    → (steps_at r (p + 1) ≡ k.steps) × (looked_at r (p + 1) ≡ 0) × (output_at r (p + 1) ≡ [])
parts-at r p k h =
    let w : World = world_now k in
    (behind 0 (λ w. w.steps) r p w h, behind 0 (λ w. w.looked) r p w h, behind [] (λ w. w.output) r p w h)

-- where the turns up to the machine's last one are past
past-turns : (r : Run) (past ts rest shown : List Turn) → r.turns ≡ past ++ shown → shown ≡ ts ++ rest → r.turns ≡ (past ++ ts) ++ rest
past-turns r past ts rest shown p q = p ∙ ap (λ (us : List Turn). past ++ us) q ∙ sym (append_assoc past ts rest)

past-events : (past ts : List Turn) (n : ℕ) → AreSolutions ts → length (events_of past) ≡ n → length (events_of (past ++ ts)) ≡ n
past-events past ts n a h =
    ap length (events-append past ts) ∙ ap (λ (es : List Event). length (events_of past ++ es)) (solved-events ts a)
    ∙ ap length (append-nil (events_of past)) ∙ h

module _ (h : Held) (r : Run) (k : Kept) (ts : List Turn) (i : IsHere h r) (before : h.place ≤ event_count r) where
  seen-all : length (events_of i.past) ≡ h.place
  seen-all = let s = i.seen in omega arith

  -- the next event
  pub next-at : Came h.machine k ts → IsAt r h.place (event_now k) (world_now k) (length (i.past ++ ts) + 1)
  next-at c =
      is-at r (i.past ++ ts) (event_now k) (world_now k) (to_show k).turns h.place
      (past-turns r i.past ts (Shown (event_now k) (world_now k) ∷ (to_show k).turns) (to_show h.machine).turns i.turns c.turns)
      (past-events i.past ts h.place c.solutions seen-all)

  -- the end: all events are past
  pub end-count : (e : Ending) → Ended h.machine k e ts → event_count r ≡ h.place
  end-count e c =
      ap (λ (us : List Turn). length (events_of us)) (i.turns ∙ ap (λ (us : List Turn). i.past ++ us) c.turns)
      ∙ past-events i.past ts h.place c.solutions seen-all

-- a feed that was asked for what comes next
abbrev pub gone_on : Held → Kept → Option Ending → Held
gone_on h k o = record h { machine = k; place = h.place + 1; furthest = max h.furthest (h.place + 1); ending = o }

-- the places up to the furthest one, where the feed goes to an event
looked-next : (h : Held) (r : Run) (k : Kept) (o : Option Ending) → h.place + 1 ≤ event_count r → Looked (fed_of h) r o
    → Looked (fed_of (gone_on h k o)) r o
looked-next h r k None n l = omega arith
looked-next h r k (Some e) n l = record {
  furthest = let f = l.furthest in omega arith;
  names = l.names;
  ending = l.ending;
  here = λ z. (let f = l.furthest in absurd (omega arith));
  known = λ z. (let f = l.furthest in absurd (omega arith));
}

pub names-on : (loaded old new : List Text) → take (length loaded) old ≡ loaded → take (length old) new ≡ old
    → take (length loaded) new ≡ loaded
names-on loaded old new p q =
    let l : length loaded ≤ length old = omega (arith, length-take (length loaded) old, ap length p) in
    sym (take-take (length loaded) (length old) new l) ∙ ap (take (length loaded)) q ∙ p

pub next-here : (h : Held) (r : Run) (k : Kept) (ts : List Turn) → IsHere h r → h.place ≤ event_count r → Came h.machine k ts
    → answered k < 2 ^ 63 → k.faulted ≡ false → take (length h.machine.tables.names) k.tables.names ≡ h.machine.tables.names
    → IsHere (gone_on h k h.ending) r
next-here h r k ts i before c few whole names =
    let a = next-at h r k ts i before c in
    let p = parts-at r h.place k a.world in
    let old = i.stands in
    let shown : List Turn = Shown (event_now k) (world_now k) ∷ [] in
    let past : List Turn = i.past ++ ts in
    let count : length past + 1 ≡ answered k =
    (let n = i.count in let m = c.count in let l = length-append i.past ts in omega arith) in
    let longer : length (past ++ shown) ≡ answered k = (let l = length-append past shown in omega arith) in
    let events : length (events_of (past ++ shown)) ≡ h.place + 1 =
    (let e = past-events i.past ts h.place c.solutions (seen-all h r k ts i before) in
    let l = ap length (events-append past shown) in
    let m = length-append (events_of past) (event_now k ∷ []) in omega arith) in
    let within = a.within in
    let turns : r.turns ≡ (past ++ shown) ++ (to_show k).turns =
    past-turns r past shown (to_show k).turns (shown ++ (to_show k).turns)
    (past-turns r i.past ts (shown ++ (to_show k).turns) (to_show h.machine).turns i.turns c.turns) refl in
    let below : h.place + 1 < 2 ^ 63 = (let f = events-few (past ++ shown) in omega arith) in
    let to : turns_to r.turns (h.place + 1) ≡ length (past ++ shown) = (let t = a.turns_are in omega arith) in
    record {
      stands = record {
        within = omega arith;
        looked = looked-next h r k h.ending a.within old.looked;
        rising = old.rising;
        numbered = old.numbered;
        event = a.event ∙ sym (shown-by k true c.shown);
        steps = sym p.0;
        turns = sym (a.turns_are ∙ count);
        machine = machine-at k r (h.place + 1) (past ++ shown) whole (event-only k c.shown) turns (i.ending ∙ c.ending)
            (i.world ∙ c.world) to p.2;
        first = λ z. absurd (omega arith);
        names = names-on h.store.names h.machine.tables.names k.tables.names old.names names;
        drawn = sym (at-max (looked_at r) h.furthest (h.place + 1) 0 (sym old.drawn) p.1);
        limit = old.limit;
        ended_within = old.ended_within;
        few = λ z. below;
      };
      past = past ++ shown;
      turns = turns;
      ending = i.ending ∙ c.ending;
      world = i.world ∙ c.world;
      count = longer;
      seen = omega arith;
      quiet = at-max (output_at r) h.furthest (h.place + 1) [] i.quiet p.2;
      few = let f = events-few (past ++ shown) in omega arith;
    }

pub end-here : (h : Held) (r : Run) (k : Kept) (ts : List Turn) (e : Ending) → IsHere h r → h.place ≤ event_count r → Ended h.machine k e ts
    → answered k < 2 ^ 63 → k.faulted ≡ false → take (length h.machine.tables.names) k.tables.names ≡ h.machine.tables.names
    → IsHere (gone_on h k (Some e)) r
end-here h r k ts e i before c few whole names =
    let n = end-count h r k ts i before e c in
    let a = is-past r h.place n in
    let world : r.world ≡ world_now k = i.world ∙ c.world ∙ c.last in
    let p = parts-at r h.place k (a.world ∙ world) in
    let old = i.stands in
    let past : List Turn = i.past ++ ts in
    let turns : r.turns ≡ past = i.turns ∙ ap (λ (us : List Turn). i.past ++ us) c.turns in
    let count : length past ≡ answered k =
    (let m = i.count in let l = c.count in let j = length-append i.past ts in omega arith) in
    let events : length (events_of past) ≡ h.place = past-events i.past ts h.place c.solutions (seen-all h r k ts i before) in
    let furthest : max h.furthest (h.place + 1) ≡ event_count r + 1 = (let l = end-furthest h r old in omega arith) in
    let all : r.turns ≡ past ++ (to_show k).turns = turns ∙ sym (ap (λ (us : List Turn). past ++ us) c.none ∙ append-nil past) in
    record {
      stands = record {
        within = omega arith;
        looked = record {
          furthest = furthest;
          names = k.tables.names;
          ending = i.ending ∙ c.ending ∙ c.is;
          here = λ z. refl;
          known = λ z. c.known;
        };
        rising = old.rising;
        numbered = old.numbered;
        event = a.event ∙ sym (shown-by k false c.shown);
        steps = sym p.0;
        turns = sym (a.turns_are ∙ ap length turns ∙ count);
        machine = machine-at k r (h.place + 1) past whole c.no_solution all (i.ending ∙ c.ending) (i.world ∙ c.world)
            (a.turns_are ∙ ap length turns) p.2;
        first = λ z. absurd (omega arith);
        names = names-on h.store.names h.machine.tables.names k.tables.names old.names names;
        drawn = sym (at-max (looked_at r) h.furthest (h.place + 1) 0 (sym old.drawn) p.1);
        limit = old.limit;
        ended_within = old.ended_within;
        few = λ z. absurd (shows-none k (not (is_some h.fault)) c.shown z);
      };
      past = past;
      turns = all;
      ending = i.ending ∙ c.ending;
      world = i.world ∙ c.world;
      count = count;
      seen = omega arith;
      quiet = at-max (output_at r) h.furthest (h.place + 1) [] i.quiet p.2;
      few = let f = events-few past in omega arith;
    }
  where
    most : (o : Option Ending) (x : Held) (q : Run) → Looked (fed_of x) q o → x.furthest ≤ event_count q + 1
    most None x q l = omega arith
    most (Some y) x q l = let f = l.furthest in omega arith

    end-furthest : (x : Held) (q : Run) → Stands (fed_of x) q → x.furthest ≤ event_count q + 1
    end-furthest x q s = most x.ending x q s.looked

-- what the machine has paid between two places
pays-next : (r : Run) (p before m k : ℕ) → p + 1 ≤ event_count r → m ≤ k → m ≡ steps_at r p → k ≡ steps_at r (p + 1)
    → Pays 0 r p (p + 1) before (before + (k - m))
pays-next r p before m k within later from to =
    let low : least_steps r p ≡ m = (let e : min p (event_count r) ≡ p = omega arith in ap (steps_at r) e ∙ sym from) in
    let high : least_steps r (p + 1) ≡ k = (let e : min (p + 1) (event_count r) ≡ p + 1 = omega arith in ap (steps_at r) e ∙ sym to) in
    record { later = omega arith; most = omega arith; least = λ z. omega arith }

pays-end : (r : Run) (p before m k : ℕ) → event_count r ≡ p → m ≤ k → m ≡ steps_at r p → k ≡ steps_at r (p + 1)
    → Pays 0 r p (p + 1) before (before + (k - m))
pays-end r p before m k n later from to =
    let same : least_steps r (p + 1) ≡ least_steps r p =
    (let e : min (p + 1) (event_count r) ≡ min p (event_count r) = omega arith in ap (steps_at r) e) in
    record { later = omega arith; most = omega arith; least = λ z. omega arith }

shows-by : (k : Kept) {A : Type 0} (o : Option A) → has_event k ≡ true → o ≡ None → has_event k && not (is_some o) ≡ true
shows-by k o h n = rw (h, n) refl

pub over-next : (h : Held) (r : Run) (k : Kept) (ts : List Turn) (before after : ℕ) → IsHere h r → h.place ≤ event_count r
    → Came h.machine k ts → IsHere (gone_on h k h.ending) r → h.fault ≡ None → answered k < 2 ^ 63 → h.machine.steps ≤ k.steps
    → after ≡ before + (k.steps - h.machine.steps)
    → Over step.Event r r (fed_of h) (fed_of (gone_on h k h.ending)) [] [] before after
over-next h r k ts before after i there c new none few later paid =
    let a = next-at h r k ts i there c in
    let n = new.stands in
    let f = new.few in
    let w = a.within in
    let below : h.place + 1 < 2 ^ 63 = (let e = events-few new.past in let s = new.seen in let m = new.count in omega arith) in
    record {
      run = refl;
      comes = record {
        place = refl;
        within = a.within;
        few = below;
        ending = refl;
        shown = shows-by k h.fault c.shown none;
      };
      output = new.quiet ∙ sym (ap (λ (xs : List ℕ). xs ++ []) i.quiet);
      looked = sym n.drawn ∙ sym (let d = i.stands.drawn in omega arith);
      pays = subst (Pays 0 r h.place (h.place + 1) before) (sym paid)
          (pays-next r h.place before h.machine.steps k.steps a.within later i.stands.steps n.steps);
    }

pub over-end : (h : Held) (r : Run) (k : Kept) (ts : List Turn) (e : Ending) (before after : ℕ) → IsHere h r → h.place ≤ event_count r
    → Ended h.machine k e ts → IsHere (gone_on h k (Some e)) r → h.machine.steps ≤ k.steps
    → after ≡ before + (k.steps - h.machine.steps)
    → Over step.End r r (fed_of h) (fed_of (gone_on h k (Some e))) [] [] before after
over-end h r k ts e before after i there c new later paid =
    let n = new.stands in
    let count = end-count h r k ts i there e c in
    record {
      run = refl;
      comes = record { past = omega arith; place = omega arith; ending = refl };
      output = new.quiet ∙ sym (ap (λ (xs : List ℕ). xs ++ []) i.quiet);
      looked = sym n.drawn ∙ sym (let d = i.stands.drawn in omega arith);
      pays = subst (Pays 0 r h.place (h.place + 1) before) (sym paid)
          (pays-end r h.place before h.machine.steps k.steps count later i.stands.steps n.steps);
    }

-- where the feed stands at the end already
pub over-again : (h : Held) (r : Run) (e : Ending) (before : ℕ) → IsHere h r → h.ending ≡ Some e → h.place ≡ h.furthest
    → Over step.End r r (fed_of h) (fed_of h) [] [] before before
over-again h r e before i some there =
    let l : AtEnd (fed_of h) r e = subst (Looked (fed_of h) r) some i.stands.looked in
    let f = l.furthest in
    record {
      run = refl;
      comes = record { past = omega arith; place = omega arith; ending = ap is_some some };
      output = sym (append-nil (output_at r h.furthest));
      looked = omega arith;
      pays = record { later = omega arith; most = omega arith; least = λ z. omega arith };
    }

-- the course of a run behind some of its turns
record Behind (us : List Turn) (v : World) : Type 0 where
  from : World
  course : IsCourse from us v

course-behind : (w : World) (ts us : List Turn) (v : World) → IsCourse w (ts ++ us) v → Behind us v
course-behind w [] us v c = record { from = w; course = c }
course-behind w (Shown e u ∷ ts) us v c = course-behind u ts us v c.1
course-behind w (Solved σ u ∷ ts) us v c = course-behind u ts us v c.1

-- solutions come with no more steps than the next place
last-below : (u : World) (ss rest : List Turn) (v : World) (n : ℕ) → AreSolutions ss → IsCourse u (ss ++ rest) v
    → n ≤ (get_or (worlds_of (ss ++ rest)) 0 v).steps → last_steps n ss ≤ (get_or (worlds_of (ss ++ rest)) 0 v).steps
last-below u [] rest v n a c h = h
last-below u (Shown e w ∷ ss) rest v n a c h = absurd a.0
last-below u (Solved σ w ∷ ss) rest v n a c h =
    let l : IsLater w (get_or (worlds_of (ss ++ rest)) 0 v) = first-later w (ss ++ rest) v 0 c.1 in
    last-below w ss rest v w.steps a.1 c.1 l.steps

-- the world behind so many events
world-behind : (r : Run) (past us : List Turn) (p : ℕ) → r.turns ≡ past ++ us → length (events_of past) ≡ p
    → get_or (worlds_of r.turns) p r.world ≡ get_or (worlds_of us) 0 r.world
world-behind r past us p h n =
    let count : length (worlds_of past) ≡ p = worlds-count past ∙ n in
    let z : p - p ≡ 0 = omega arith in
    ap (λ (ws : List World). get_or ws p r.world) (ap worlds_of h ∙ worlds-append past us)
    ∙ get_or-append_right (worlds_of past) (worlds_of us) p p r.world count (omega arith)
    ∙ ap (λ i. get_or (worlds_of us) i r.world) z

-- what a fault leaves behind: nothing was put or taken, and the steps are no more than those up to the place behind
pub broken-over : (h : Held) (k : Kept) (before after : ℕ) → IsHere h (run_of h) → h.place ≤ event_count (run_of h) → Stops h.machine k
    → h.machine.steps ≤ k.steps → after ≡ before + (k.steps - h.machine.steps)
    → BrokenOver (run_of h) (run_of h) (fed_of h) [] [] before after
broken-over h k before after i there s later paid =
    let r : Run = run_of h in
    let us : List Turn = s.skipped ++ s.rest in
    let turns : r.turns ≡ i.past ++ us = i.turns ∙ ap (λ (x : List Turn). i.past ++ x) s.turns in
    let seen : length (events_of i.past) ≡ h.place = (let e = i.seen in omega arith) in
    let w : World = started h.goal.vars (loaded (database_of h.store)) in
    let b : Behind us r.world =
    course-behind w i.past us r.world
    (subst (λ (x : List Turn). IsCourse w x r.world) turns (course-by h.store h.goal h.budget h.wanted)) in
    let here : get_or (worlds_of r.turns) h.place r.world ≡ get_or (worlds_of us) 0 r.world =
    world-behind r i.past us h.place turns seen in
    let steps : steps_at r (h.place + 1) ≡ (get_or (worlds_of us) 0 r.world).steps =
    behind 0 (λ w. w.steps) r h.place (get_or (worlds_of us) 0 r.world) here in
    let rising = i.stands.rising in
    let from = i.stands.steps in
    let below : h.machine.steps ≤ (get_or (worlds_of us) 0 r.world).steps =
    (let u = rising.steps h.place (h.place + 1) (omega arith) in omega arith) in
    let last = last-below b.from s.skipped s.rest r.world h.machine.steps s.solutions b.course below in
    let reached = s.steps in
    let place : place_behind r h.place ≡ h.place + 1 = omega arith in
    let up : h.furthest ≤ furthest_behind r (fed_of h) = omega arith in
    let high : steps_at r (place_behind r h.place) ≡ steps_at r (h.place + 1) = ap (steps_at r) place in
    record {
      run = refl;
      output = subst (λ (xs : List ℕ). IsWrittenBehind xs (output_at r (furthest_behind r (fed_of h))))
          (sym (append-nil (output_at r h.furthest))) (rising.output h.furthest (furthest_behind r (fed_of h)) up);
      looked = let u = rising.looked h.furthest (furthest_behind r (fed_of h)) up in omega arith;
      later = omega arith;
      most = omega arith;
    }
