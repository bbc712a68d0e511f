-- What a feed that makes the run again does at each call.
use Rattle.std.proofs.Common.{◌≡◌, ℕ, ◌+◌, ◌-◌, ◌≤◌, max, Bool, true, false, ◌&&◌, ◌==◌, [], length, take, Option, Some, None}
use Rattle.std.proofs.Common.{is_some, refl, sym, ap, subst, arith}
use Rattle.std.proofs.lemmas.Bool.Decides.{nat_tests}
use Rattle.std.proofs.KnownBytes.{Appends-nil}
use Rattle.op_desk.specs.Contents.{Known}
use Rattle.op_trace.specs.Outside.{nothing}
use Rattle.op_trace.specs.Run.{Run}
use Rattle.op_machine.specs.declared.turn.Ending.{Ending}
use Rattle.op_machine.specs.Machine.{Kept}
use Rattle.op_moves.specs.Places.{event_count}
use Rattle.op_retrace.specs.declared.fault.Cause.{Cause}
use Rattle.op_retrace.specs.declared.feed.FeedStep.{FeedStep}
use Rattle.op_retrace.specs.declared.feed.FeedStep.TheVariants as step
use Rattle.op_retrace.specs.Fed.{Advances, Breaks, Over, source_of}
use Rattle.op_retrace.specs.Holding.{Held, run_of, fed_of, IsHere, IsHolding}
use Rattle.op_retrace.specs.inner.Coming.{Comes, Stops, kept_by, step_by}
use Rattle.op_retrace.proofs.StandingPlaces.{before-none, before-some, gone_on, next-here, end-here, over-next, over-end, over-again}
use Rattle.op_retrace.proofs.StandingPlaces.{broken-over}
use Rattle.op_retrace.proofs.TakenSources.{takes-nothing}

pub none-or : {A : Type 0} (o : Option A) → ((x : A) → o ≡ Some x → ⊥) → o ≡ None
none-or None h = refl
none-or (Some x) h = absurd (h x refl)

first-false : (a b : Bool) → (a && b) ≡ false → b ≡ true → a ≡ false
first-false false b h e = refl
first-false true b h e = absurd cc

both-true : (a b : Bool) → (a && b) ≡ true → (a ≡ true) × (b ≡ true)
both-true true b h = (refl, h)
both-true false b h = absurd cc

-- a feed that doesn't stand at the end stands before it
pub stands-before : (h : Held) (r : Run) → IsHere h r → (h.place == h.furthest && is_some h.ending) ≡ false → h.place ≤ event_count r
stands-before h r i test = go h.ending refl
  where
    go : (o : Option Ending) → h.ending ≡ o → h.place ≤ event_count r
    go None e = before-none h r i.stands e
    go (Some x) e =
        let other : (h.place == h.furthest) ≡ false = first-false (h.place == h.furthest) (is_some h.ending) test (ap is_some e) in
        before-some h r x i.stands e (λ same. grind (arith, nat_tests))

pub stands-at-end : (h : Held) → (h.place == h.furthest && is_some h.ending) ≡ true → (h.place ≡ h.furthest) × (is_some h.ending ≡ true)
stands-at-end h test =
    let both = both-true (h.place == h.furthest) (is_some h.ending) test in
    let there : (h.place == h.furthest) ≡ true = both.0 in
    (grind (arith, nat_tests), both.1)

pub comes-here : (h : Held) (k : Kept) (o : Option Ending) → IsHere h (run_of h) → h.place ≤ event_count (run_of h)
    → Comes o h.machine k → take (length h.machine.tables.names) k.tables.names ≡ h.machine.tables.names
    → IsHere (gone_on h k (kept_by h.ending o)) (run_of h)
comes-here h k None i before c names = next-here h (run_of h) k c.skipped i before c.comes c.few c.whole names
comes-here h k (Some e) i before c names = end-here h (run_of h) k c.skipped e i before c.comes c.few c.whole names

comes-over : (h : Held) (k : Kept) (o : Option Ending) (before after : ℕ) → h.fault ≡ None → IsHere h (run_of h)
    → h.place ≤ event_count (run_of h) → Comes o h.machine k → IsHere (gone_on h k (kept_by h.ending o)) (run_of h)
    → h.machine.steps ≤ k.steps → after ≡ before + (k.steps - h.machine.steps)
    → Over (step_by o) (run_of h) (run_of h) (fed_of h) (fed_of (gone_on h k (kept_by h.ending o))) [] [] before after
comes-over h k None before after none i there c new later paid =
    over-next h (run_of h) k c.skipped before after i there c.comes new none c.few later paid
comes-over h k (Some e) before after none i there c new later paid =
    over-end h (run_of h) k c.skipped e before after i there c.comes new later paid

pub advances-on : (h : Held) (k : Kept) (o : Option Ending) (left written : Known) (before after : ℕ) → h.fault ≡ None
    → IsHere h (run_of h) → h.place ≤ event_count (run_of h) → Comes o h.machine k
    → take (length h.machine.tables.names) k.tables.names ≡ h.machine.tables.names → h.machine.steps ≤ k.steps
    → after ≡ before + (k.steps - h.machine.steps)
    → Advances (step_by o) (fed_of h) (fed_of (gone_on h k (kept_by h.ending o))) left left written written before after
advances-on h k o left written before after none i there c names later paid =
    let new = comes-here h k o i there c names in
    record {
      loaded = refl;
      keeps = refl;
      names = names;
      furthest = refl;
      taking = nothing;
      takes = takes-nothing (source_of left (fed_of h));
      put = [];
      appends = Appends-nil written;
      over = λ rest. comes-over h k o before after none i there c new later paid;
    }

pub advances-again : (h : Held) (left written : Known) (before : ℕ) → IsHere h (run_of h) → h.place ≡ h.furthest → is_some h.ending ≡ true
    → take (length h.machine.tables.names) h.machine.tables.names ≡ h.machine.tables.names
    → Advances step.End (fed_of h) (fed_of h) left left written written before before
advances-again h left written before i there some names = go h.ending refl some
  where
    go : (o : Option Ending) → h.ending ≡ o → is_some o ≡ true
        → Advances step.End (fed_of h) (fed_of h) left left written written before before
    go None e s = absurd cc
    go (Some x) e s = record {
      loaded = refl;
      keeps = refl;
      names = names;
      furthest = omega arith;
      taking = nothing;
      takes = takes-nothing (source_of left (fed_of h));
      put = [];
      appends = Appends-nil written;
      over = λ rest. over-again h (run_of h) x before i e there;
    }

pub breaks-off : (h : Held) (k : Kept) (f : Option Cause) (left written : Known) (before after : ℕ) → IsHere h (run_of h)
    → h.place ≤ event_count (run_of h) → Stops h.machine k → h.machine.steps ≤ k.steps → after ≡ before + (k.steps - h.machine.steps)
    → Breaks (fed_of h) (fed_of (record h { machine = k; fault = f })) left left written written before after
breaks-off h k f left written before after i there s later paid = record {
  loaded = refl;
  keeps = refl;
  place = refl;
  furthest = refl;
  ending = refl;
  taking = nothing;
  takes = takes-nothing (source_of left (fed_of h));
  put = [];
  appends = Appends-nil written;
  over = λ rest. broken-over h k before after i there s later paid;
}

-- a feed whose fields have these values has gone on
abbrev pub with_fields : Held → Kept → ℕ → ℕ → Option Ending → Held
with_fields h k p f x = record h { machine = k; place = p; furthest = f; ending = x }

gone-as : (h : Held) (k : Kept) (o : Option Ending) (p f : ℕ) (x : Option Ending) → p ≡ h.place + 1 → f ≡ max h.furthest (h.place + 1)
    → x ≡ kept_by h.ending o → gone_on h k (kept_by h.ending o) ≡ with_fields h k p f x
gone-as h k o p f x a b c = rw (a, b, c) refl

pub holds-on : (h : Held) (k : Kept) (o : Option Ending) (p f : ℕ) (x : Option Ending) → p ≡ h.place + 1 → f ≡ max h.furthest (h.place + 1)
    → x ≡ kept_by h.ending o → IsHolding h → IsHere (gone_on h k (kept_by h.ending o)) (run_of h) → IsHolding (with_fields h k p f x)
holds-on h k o p f x a b c holds here = record {
  goal = holds.goal;
  some = holds.some;
  limit = holds.limit;
  here = λ none. subst (λ (v : Held). IsHere v (run_of h)) (gone-as h k o p f x a b c) here;
}

pub advances-as : (h : Held) (k : Kept) (o : Option Ending) (s : FeedStep) (p f : ℕ) (x : Option Ending) (left written : Known)
    (before after : ℕ) → p ≡ h.place + 1 → f ≡ max h.furthest (h.place + 1) → x ≡ kept_by h.ending o → s ≡ step_by o
    → Advances (step_by o) (fed_of h) (fed_of (gone_on h k (kept_by h.ending o))) left left written written before after
    → Advances s (fed_of h) (fed_of (with_fields h k p f x)) left left written written before after
advances-as h k o s p f x left written before after a b c d on =
    subst (λ (t : FeedStep). Advances t (fed_of h) (fed_of (with_fields h k p f x)) left left written written before after) (sym d)
    (subst (λ (v : Held). Advances (step_by o) (fed_of h) (fed_of v) left left written written before after) (gone-as h k o p f x a b c) on)
