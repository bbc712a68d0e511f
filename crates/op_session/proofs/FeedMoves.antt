-- The feed's moves.
use Rattle.std.proofs.Common.{◌≡◌, ℕ, zero, suc, ◌+◌, ◌-◌, ◌<◌, ◌≤◌, max, Bool, true, false, List, [], ◌∷◌, length, drop, get_or, Option}
use Rattle.std.proofs.Common.{Some, None, is_some, nat_le, cond, refl, sym, ap, ◌∙◌, subst, arith, add-one}
use Rattle.std.specs.Prelude.{slice_index_or}
use Rattle.std.proofs.lemmas.Bool.Decides.{nat_tests}
use Rattle.op_term.specs.Ops.{Table}
use Rattle.op_store.specs.Stored.{Stored}
use Rattle.op_session.specs.Traced.{Traced}
use Rattle.op_session.specs.inner.Reader.{IsReader}
use Rattle.op_trace.specs.World.{World, Event}
use Rattle.op_trace.specs.Run.{Run, events_of, worlds_of, steps_at}
use Rattle.op_trace.specs.Ending as ending
use Rattle.op_machine.specs.Machine.{Kept, event_now, world_now}
use Rattle.op_session.specs.declared.feed.Feed.{Feed}
use Rattle.op_session.specs.declared.feed.End.{End}
use Rattle.op_event.specs.Line.{event_line}
use Rattle.op_moves.specs.Moves.{Stand, At, Outcome, outcome, moved, end_found}
use Rattle.op_moves.specs.Places.{event_count}
use Rattle.op_session.specs.Session.{line_at, next_in}
use Rattle.op_session.specs.inner.Feeding.{to_show, found_at, AtEnd, Feeds, ShowsEvent, ShowsEnd, Shows, Arrives, ArrivesAt, Finds, IsHere}

-- where a list goes on
pub record GoesOn {X : Type 0} (xs : List X) (p : ℕ) (x : X) (ys : List X) : Type 0 where
  pub within : p < length xs
  pub rest : drop (p + 1) xs ≡ ys
  pub here : (d : X) → get_or xs p d ≡ x

pub goes_on : {X : Type 0} (xs : List X) (p : ℕ) (x : X) (ys : List X) → drop p xs ≡ x ∷ ys → GoesOn xs p x ys
goes_on [] zero x ys h = absurd cc
goes_on [] (suc p) x ys h = absurd cc
goes_on (y ∷ xs) zero x ys h = record { within = omega arith; rest = cc; here = λ d. cc }
goes_on (y ∷ xs) (suc p) x ys h = let g = goes_on xs p x ys h in
    record { within = let w = g.within in omega arith; rest = rw add-one (rw add-one at g.rest); here = g.here }

pub at_end_of : {X : Type 0} (xs : List X) (p : ℕ) → drop p xs ≡ [] → length xs ≤ p
at_end_of [] p h = omega arith
at_end_of (y ∷ xs) zero h = absurd cc
at_end_of (y ∷ xs) (suc p) h = let g = at_end_of xs p h in omega arith

pub past_end : {X : Type 0} (xs : List X) (p : ℕ) (d : X) → length xs ≤ p → get_or xs p d ≡ d
past_end [] p d h = refl
past_end (y ∷ xs) zero d h = absurd (omega arith)
past_end (y ∷ xs) (suc p) d h = past_end xs p d (omega arith)

pub line_here : (ops : Table) (es : List Event) (p : ℕ) (e : Event) (rest : List Event) → drop p es ≡ e ∷ rest
    → line_at ops es p ≡ event_line ops e
line_here ops [] zero e rest h = absurd cc
line_here ops [] (suc p) e rest h = absurd cc
line_here ops (x ∷ es) zero e rest h = let i : x ≡ e = cc in ap (event_line ops) i
line_here ops (x ∷ es) (suc p) e rest h = line_here ops es p e rest h

pub le_true : (m n : ℕ) → m ≤ n → nat_le m n ≡ true
le_true m n h = grind (arith, nat_tests)

pub le_false : (m n : ℕ) → n < m → nat_le m n ≡ false
le_false m n h = grind (arith, nat_tests)

steps_by : (b : Bool) (x v : World) → b ≡ false → v ≡ x → cond b 0 v.steps ≡ x.steps
steps_by true x v h e = absurd cc
steps_by false x v h e = ap (λ (w : World). w.steps) e

-- the steps at an event
pub steps_here : (run : Run) (p : ℕ) (w : World) (ws : List World) → drop p (worlds_of run.turns) ≡ w ∷ ws → steps_at run (p + 1) ≡ w.steps
steps_here run p w ws h =
    let g = goes_on (worlds_of run.turns) p w ws h in
    let i : p ≡ p + 1 - 1 = omega arith in
    steps_by (nat_le (p + 1) 0) w (slice_index_or (worlds_of run.turns) (p + 1 - 1) run.world) (le_false (p + 1) 0 (omega arith))
    (subst (λ i. get_or (worlds_of run.turns) i run.world ≡ w) i (g.here run.world))

-- the steps at the end
pub steps_past : (run : Run) (p : ℕ) → length (worlds_of run.turns) ≤ p → steps_at run (p + 1) ≡ run.world.steps
steps_past run p h =
    let i : p ≡ p + 1 - 1 = omega arith in
    steps_by (nat_le (p + 1) 0) run.world (slice_index_or (worlds_of run.turns) (p + 1 - 1) run.world) (le_false (p + 1) 0
    (omega arith)) (subst (λ i. get_or (worlds_of run.turns) i run.world ≡ run.world) i (past_end
    (worlds_of run.turns) p run.world h))

-- where nothing is found at the end, the place stays
pub moved_end : (s : Stand) (x : ending.Ending) (f left : ℕ) → moved s (outcome (end_found x) f left) ≡ record {
  place = s.place;
  furthest = f;
}
moved_end s ending.Stopped f left = refl
moved_end s ending.Failed f left = refl
moved_end s (ending.Thrown b) f left = refl
moved_end s (ending.Halted i) f left = refl
moved_end s ending.Spent f left = refl

pub next_here : (traced : Traced) (s : Stand) → s.place < event_count traced.run
    → next_in traced s ≡ outcome (At (s.place + 1)) (max s.furthest (s.place + 1)) 999998
next_here traced s h = rw (le_true (s.place + 1) (event_count traced.run) (omega arith)) refl

pub next_past : (traced : Traced) (s : Stand) → event_count traced.run ≤ s.place
    → next_in traced s ≡ outcome (end_found traced.run.ending) (max s.furthest (event_count traced.run + 1)) 999998
next_past traced s h = rw (le_false (s.place + 1) (event_count traced.run) (omega arith)) refl

-- where the user stands behind the end
pub stands_past : (traced : Traced) (s : Stand) → event_count traced.run ≤ s.place → s.furthest ≤ event_count traced.run + 1
    → moved s (next_in traced s) ≡ record { place = s.place; furthest = event_count traced.run + 1 }
stands_past traced s h f =
    let most : max s.furthest (event_count traced.run + 1) ≡ event_count traced.run + 1 = omega arith in
    rw (next_past traced s h, most) (moved_end s traced.run.ending (event_count traced.run + 1) 999998)

pub finds_event : (traced : Traced) (s : Stand) (t : Stored) (k n : Kept) → Feeds traced s (record {
  machine = k;
  ended = None;
  commands = t;
}) → ShowsEvent k n → k.steps ≤ n.steps → n.tables.table ≡ k.tables.table → ArrivesAt traced s
    (record { machine = n; ended = None; commands = t })
finds_event traced s t k n f e later same =
    let here = f.events ∙ e.events in
    let worlds = f.worlds ∙ e.worlds in
    let g = goes_on (events_of traced.run.turns) s.place (event_now n) (events_of (to_show n).turns) here in
    let w = goes_on (worlds_of traced.run.turns) s.place (world_now n) (worlds_of (to_show n).turns) worlds in
    let steps = steps_here traced.run s.place (world_now n) (worlds_of (to_show n).turns) worlds in
    let looked : s.furthest ≡ s.place = f.looked in
    let most : max s.furthest (s.place + 1) ≡ s.place + 1 = omega arith in
    let within = g.within in
    record {
      arrives = record {
        found = ap (λ (o : Outcome). o.found) (next_here traced s g.within);
        feeds = rw (next_here traced s g.within) (record {
          events = g.rest;
          worlds = w.rest;
          ending = f.ending ∙ e.ending;
          world = f.world ∙ e.world;
          within = omega arith;
          steps = rw most (sym steps);
          least = omega (arith, steps);
          looked = most;
          operators = same ∙ f.operators;
          reads = f.reads;
        });
      };
      here = e.here;
      line = line_here traced.table (events_of traced.run.turns) s.place (event_now n) (events_of (to_show n).turns) here;
    }

-- the end is found, where nothing stands behind the place
pub finds_end : (traced : Traced) (s : Stand) (t : Stored) (k n : Kept) (e : End) → Feeds traced s
    (record { machine = k; ended = None; commands = t }) → ShowsEnd k n e → k.steps ≤ n.steps → n.tables.table ≡ k.tables.table
    → Arrives traced s (record { machine = n; ended = Some e; commands = t }) (end_found traced.run.ending)
finds_end traced s t k n e f h later same =
    let none : drop s.place (events_of traced.run.turns) ≡ [] = f.events ∙ h.none in
    let no_worlds : drop s.place (worlds_of traced.run.turns) ≡ [] = f.worlds ∙ h.no_worlds in
    let past = at_end_of (events_of traced.run.turns) s.place none in
    let within = f.within in
    let place : s.place ≡ event_count traced.run = omega arith in
    let no_more = at_end_of (worlds_of traced.run.turns) s.place no_worlds in
    let steps = steps_past traced.run s.place no_more in
    let world : traced.run.world.steps ≡ n.steps = ap (λ (w : World). w.steps) (f.world ∙ h.world) in
    let least = f.least in
    let looked : s.furthest ≡ s.place = f.looked in
    record {
      found = ap (λ (o : Outcome). o.found) (next_past traced s past);
      feeds = rw (stands_past traced s past (omega arith)) (record {
        events = none ∙ sym h.events;
        worlds = no_worlds ∙ sym h.worlds;
        ending = f.ending ∙ h.same_ending;
        world = f.world ∙ h.world ∙ sym h.same_world;
        within = within;
        steps = rw (← place) (sym (steps ∙ world));
        least = omega arith;
        looked = record { furthest = refl; place = place; ending = ap end_found f.ending ∙ h.ending };
        operators = same ∙ f.operators;
        reads = f.reads;
      });
    }

-- and again
pub finds_end_again : (traced : Traced) (s : Stand) (t : Stored) (k : Kept) (e : End) → Feeds traced s
    (record { machine = k; ended = Some e; commands = t }) → Arrives traced s (record { machine = k; ended = Some e; commands = t })
    (end_found traced.run.ending)
finds_end_again traced s t k e f =
    let looked : AtEnd traced.run s e = f.looked in
    let place = looked.place in
    record {
      found = ap (λ (o : Outcome). o.found) (next_past traced s (omega arith));
      feeds = rw (stands_past traced s (omega arith) (omega (arith, looked.furthest))) (record {
        events = f.events;
        worlds = f.worlds;
        ending = f.ending;
        world = f.world;
        within = f.within;
        steps = rw (← looked.furthest) f.steps;
        least = f.least;
        looked = record { furthest = refl; place = looked.place; ending = looked.ending };
        operators = f.operators;
        reads = f.reads;
      });
    }

pub finds_by : (traced : Traced) (s : Stand) (feed : Feed) (e : End) → end_found traced.run.ending ≡ found_at e
    → Arrives traced s feed (end_found traced.run.ending) → Finds traced s feed (Some e)
finds_by traced s feed e h a = subst (λ x. Arrives traced s feed x) h a

-- after the machine was asked
pub finds_asked : (traced : Traced) (s : Stand) (t : Stored) (k n : Kept) (was o : Option End) → is_some was ≡ false
    → Feeds traced s (record { machine = k; ended = was; commands = t }) → Shows k n o → k.steps ≤ n.steps
    → n.tables.table ≡ k.tables.table → Finds traced s (record { machine = n; ended = o; commands = t }) o
finds_asked traced s t k n (Some e) o none f h later same = absurd cc
finds_asked traced s t k n None None none f h later same = finds_event traced s t k n f h later same
finds_asked traced s t k n None (Some e) none f h later same =
    finds_by traced s _ e (ap end_found f.ending ∙ h.ending) (finds_end traced s t k n e f h later same)

-- after it was not
pub finds_known : (traced : Traced) (s : Stand) (t : Stored) (k : Kept) (o : Option End) → is_some o ≡ true
    → Feeds traced s (record { machine = k; ended = o; commands = t }) → Finds traced s (record {
      machine = k;
      ended = o;
      commands = t;
    }) o
finds_known traced s t k None some f = absurd cc
finds_known traced s t k (Some e) some f = let l : AtEnd traced.run s e = f.looked in finds_by traced s _ e l.ending
    (finds_end_again traced s t k e f)

pub here_asked : (k n : Kept) (o : Option End) → Shows k n o → IsHere o n
here_asked k n None h = h.here
here_asked k n (Some e) h = tt

pub here_known : (k : Kept) (o : Option End) → is_some o ≡ true → IsHere o k
here_known k None some = absurd cc
here_known k (Some e) some = tt

-- commands that were read leave the feed where it stands
pub feeds_reader : (traced : Traced) (s : Stand) (t u : Stored) (k : Kept) (o : Option End) → IsReader u
    → Feeds traced s (record { machine = k; ended = o; commands = t }) → Feeds traced s (record { machine = k; ended = o; commands = u })
feeds_reader traced s t u k o reads f = record {
  events = f.events;
  worlds = f.worlds;
  ending = f.ending;
  world = f.world;
  within = f.within;
  steps = f.steps;
  least = f.least;
  looked = f.looked;
  operators = f.operators;
  reads = reads;
}
