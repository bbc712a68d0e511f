-- Where the calls of a run are numbered in their order, each box is called before it is seen elsewhere.
use Rattle.std.proofs.Common.{◌≡◌, inl, inr, ℕ, zero, suc, ◌+◌, ◌<◌, ◌≤◌, ◌==◌, ◌&&◌, Bool, true, false, List, [], ◌∷◌}
use Rattle.std.proofs.Common.{Some, refl, ap, ◌∙◌, subst, arith}
use Rattle.std.proofs.lemmas.Bool.Decides.{nat_tests}
use Rattle.op_logic.specs.Term.{Term}
use Rattle.op_logic.proofs.BoolCases.{by_order, if_true, if_false}
use Rattle.op_trace.specs.declared.barrier.Barrier.TheVariants.{Call}
use Rattle.op_trace.specs.Database.{Text}
use Rattle.op_trace.specs.World.{World, Event, Turn, Shown, Solved, Goal}
use Rattle.op_trace.specs.Act.{Setup}
use Rattle.op_trace.specs.Run.{run, started, events_of}
use Rattle.op_moves.specs.Moves.{At, event_at, nth_event, numbered, is_call, call_in, call_of}
use Rattle.op_moves.specs.Boxes.{IsCalledBefore, AreCalled}
use Rattle.op_moves.proofs.CountedCalls.{IsGiven, IsParent, IsNumberOf, given_after, Number, visit-numbers}

-- the first event is the call that is looked for
call-first : (p : ℕ) (x : Event) (xs : List (ℕ × Event)) (k : ℕ) → is_call x.port ≡ true → x.call ≡ k → call_in ((p, x) ∷ xs) k ≡ At p
call-first p x xs k t e =
    let q : (x.call == k) ≡ true = grind (arith, nat_tests) in
    if_true (is_call x.port && (x.call == k)) (At p) (call_in xs k) (ap (λ (b : Bool). b && (x.call == k)) t ∙ q)

-- it isn't, since it is no call, or that of another box
skip-port : (p : ℕ) (x : Event) (xs : List (ℕ × Event)) (k : ℕ) → is_call x.port ≡ false → call_in ((p, x) ∷ xs) k ≡ call_in xs k
skip-port p x xs k t =
    if_false (is_call x.port && (x.call == k)) (At p) (call_in xs k) (ap (λ (b : Bool). b && (x.call == k)) t)

skip-box : (p : ℕ) (x : Event) (xs : List (ℕ × Event)) (k : ℕ) → is_call x.port ≡ true → x.call < k
    → call_in ((p, x) ∷ xs) k ≡ call_in xs k
skip-box p x xs k t l =
    let q : (x.call == k) ≡ false = grind (arith, nat_tests) in
    if_false (is_call x.port && (x.call == k)) (At p) (call_in xs k) (ap (λ (b : Bool). b && (x.call == k)) t ∙ q)

-- a box was called at one of the events, the first at place p, that lie before an event
abbrev Before : ℕ → List Event → ℕ → ℕ → Type 0
Before p es i k = (j : ℕ) × ((j < i) × (call_in (numbered p es) k ≡ At (p + j)))

-- What is known of an event, where n numbers were given out before the first: so many are by then, and each that is new belongs to a call
-- before it, or to its own.
record Seen (c n p : ℕ) (es : List Event) (i : ℕ) (e : Event) : Type 0 where
  pub count : ℕ
  pub more : n ≤ count
  pub number : IsNumberOf (is_call e.port) c count e.call
  pub parent : IsParent c count e.parent
  pub before : (k : ℕ) → n < k → k ≤ count → Before p es i k
  pub here : is_call e.port ≡ true → call_in (numbered p es) (count + 1) ≡ At (p + i)

-- behind an event that is no call
seen-behind : (c n p : ℕ) (x : Event) (es : List Event) (i : ℕ) (e : Event) → is_call x.port ≡ false → Seen c n (p + 1) es i e
    → Seen c n p (x ∷ es) (suc i) e
seen-behind c n p x es i e t s = record {
  count = s.count;
  more = s.more;
  number = s.number;
  parent = s.parent;
  before = λ k l m.
      let b : Before (p + 1) es i k = s.before k l m in
      let q : p + 1 + b.0 ≡ p + suc b.0 = omega arith in
      (suc b.0, (omega (arith, b.1.0), skip-port p x (numbered (p + 1) es) k t ∙ b.1.1 ∙ ap At q));
  here = λ h.
      let q : p + 1 + i ≡ p + suc i = omega arith in
      skip-port p x (numbered (p + 1) es) (s.count + 1) t ∙ s.here h ∙ ap At q;
}

-- behind a call
seen-called : (c n p : ℕ) (x : Event) (es : List Event) (i : ℕ) (e : Event) → is_call x.port ≡ true → x.call ≡ n + 1
    → Seen c (n + 1) (p + 1) es i e → Seen c n p (x ∷ es) (suc i) e
seen-called c n p x es i e t own s = record {
  count = s.count;
  more = let l = s.more in omega arith;
  number = s.number;
  parent = s.parent;
  before = λ k l m. by_order (n + 1) k
      (λ (far : n + 1 < k).
      let b : Before (p + 1) es i k = s.before k far m in
      let q : p + 1 + b.0 ≡ p + suc b.0 = omega arith in
      (suc b.0, (omega (arith, b.1.0), skip-box p x (numbered (p + 1) es) k t (omega arith) ∙ b.1.1 ∙ ap At q)))
      (λ (near : k ≤ n + 1).
      let q : p ≡ p + 0 = omega arith in
      (0, (omega arith, call-first p x (numbered (p + 1) es) k t (omega arith) ∙ ap At q)));
  here = λ h.
      let l = s.more in
      let q : p + 1 + i ≡ p + suc i = omega arith in
      skip-box p x (numbered (p + 1) es) (s.count + 1) t (omega arith) ∙ s.here h ∙ ap At q;
}

seen-at : (c n : ℕ) (ts : List Turn) (m p i : ℕ) (e : Event) → Number c n ts m → nth_event (events_of ts) i ≡ Some e
    → Seen c n p (events_of ts) i e
seen-at c n [] m p i e a h = absurd cc
seen-at c n (Shown x u ∷ ts) m p zero e a h = subst (λ (y : Event). Seen c n p (x ∷ events_of ts) zero y) is first
  where
    is : x ≡ e
    is = cc

    own : (b : Bool) → b ≡ true → IsNumberOf b c n x.call → x.call ≡ n + 1
    own true t q = q
    own false t q = absurd cc

    first : Seen c n p (x ∷ events_of ts) zero x
    first = record {
      count = n;
      more = omega arith;
      number = a.0;
      parent = a.1;
      before = λ k l m. absurd (omega (arith, l, m));
      here = λ t.
          let q : p ≡ p + 0 = omega arith in
          call-first p x (numbered (p + 1) (events_of ts)) (n + 1) t (own (is_call x.port) t a.0) ∙ ap At q;
    }
seen-at c n (Shown x u ∷ ts) m p (suc i) e a h =
    over (is_call x.port) refl a.0 a.2 (λ n l. seen-at c n ts m (p + 1) i e l h)
  where
    over : (b : Bool) → is_call x.port ≡ b → IsNumberOf b c n x.call → Number c (given_after b n) ts m
        → ((k : ℕ) → Number c k ts m → Seen c k (p + 1) (events_of ts) i e) → Seen c n p (x ∷ events_of ts) (suc i) e
    over true t q l behind = seen-called c n p x (events_of ts) i e t q (behind (n + 1) l)
    over false t q l behind = seen-behind c n p x (events_of ts) i e t (behind n l)
seen-at c n (Solved σ u ∷ ts) m p i e a h = seen-at c n ts m p i e a h

-- from the first event on
call-of-in : (es : List Event) (k : ℕ) → 0 < k → call_of es k ≡ call_in (numbered 1 es) k
call-of-in es zero h = absurd (omega arith)
call-of-in es (suc k) h = refl

module _ (c m : ℕ) (ts : List Turn) (a : Number c c ts m) where
  given-before : (i : ℕ) (e : Event) (k : ℕ) (s : Seen c c 1 (events_of ts) i e) → IsGiven c s.count k
      → IsCalledBefore (events_of ts) (suc i) k
  given-before i e k s g =
      let b : Before 1 (events_of ts) i k = s.before k g.0 g.1 in
      (1 + b.0, (omega (arith, b.1.0), call-of-in (events_of ts) k (omega (arith, g.0)) ∙ b.1.1))

  called-here : (i : ℕ) (e : Event) → event_at (events_of ts) i ≡ Some e → is_call e.port ≡ true → call_of (events_of ts) e.call ≡ At i
  called-here zero e h t = absurd cc
  called-here (suc i) e h t =
      let s : Seen c c 1 (events_of ts) i e = seen-at c c ts m 1 i e a h in
      let k : e.call ≡ s.count + 1 = own (is_call e.port) s.count t s.number in
      let q : 1 + i ≡ suc i = omega arith in
      call-of-in (events_of ts) e.call (omega (arith, k)) ∙ ap (call_in (numbered 1 (events_of ts))) k ∙ s.here t ∙ ap At q
    where
      own : (b : Bool) (n : ℕ) → b ≡ true → IsNumberOf b c n e.call → e.call ≡ n + 1
      own true n t q = q
      own false n t q = absurd cc

  called-before : (i : ℕ) (e : Event) → event_at (events_of ts) i ≡ Some e → is_call e.port ≡ false
      → IsCalledBefore (events_of ts) i e.call
  called-before zero e h t = absurd cc
  called-before (suc i) e h t =
      let s : Seen c c 1 (events_of ts) i e = seen-at c c ts m 1 i e a h in
      given-before i e e.call s (own (is_call e.port) s.count t s.number)
    where
      own : (b : Bool) (n : ℕ) → b ≡ false → IsNumberOf b c n e.call → IsGiven c n e.call
      own true n t q = absurd cc
      own false n t q = q

  parent-before : (i : ℕ) (e : Event) → event_at (events_of ts) i ≡ Some e → 0 < e.parent → IsCalledBefore (events_of ts) i e.parent
  parent-before zero e h t = absurd cc
  parent-before (suc i) e h t =
      let s : Seen c c 1 (events_of ts) i e = seen-at c c ts m 1 i e a h in
      given-before i e e.parent s (own s.count s.parent)
    where
      own : (n : ℕ) → IsParent c n e.parent → IsGiven c n e.parent
      own n (inl z) = absurd (omega arith)
      own n (inr g) = g

  pub numbered-called : AreCalled (events_of ts)
  numbered-called = record { here = called-here; before = called-before; parent = parent-before }

pub run-called : (s : Setup) (g : Term Text) (n : ℕ) (w : World) → AreCalled (events_of (run s g n w).turns)
run-called s g n w =
    numbered-called w.calls (run s g n w).world.calls (run s g n w).turns
    (visit-numbers s (Goal g (Call 0) ∷ []) [] (started n w) refl)
