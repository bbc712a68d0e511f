-- One look of a search, and what it still comes to.
use Rattle.std.proofs.Common.{◌≡◌, ℕ, zero, suc, ◌+◌, ◌-◌, ◌<◌, ◌≤◌, max, Bool, true, false, cond, not, ◌&&◌, List, [], ◌∷◌}
use Rattle.std.proofs.Common.{length, drop, Option, Some, None, is_some, refl, sym, ap, ◌∙◌, subst, arith}
use Rattle.op_logic.proofs.BoolCases.{by_test, by_order, if_true, if_false}
use Rattle.op_trace.specs.World.{Event}
use Rattle.op_trace.specs.Ending.{Ending}
use Rattle.op_trace.specs.Run.{Run, events_of}
use Rattle.op_machine.specs.declared.turn.Ending as machine
use Rattle.op_machine.specs.declared.turn.Ending.TheVariants as answer
use Rattle.op_machine.specs.Machine.{Kept, event_now, has_event, ending_for}
use Rattle.op_moves.specs.Pattern.{Test}
use Rattle.op_moves.specs.Moves as moves
use Rattle.op_moves.specs.Moves.{Outcome, outcome, pay, search, later, numbered, look_at_end, end_found, event_at, nth_event}
use Rattle.op_moves.proofs.MoveCosts.{pay-there, pay-short, on-rises}
use Rattle.op_retrace.specs.declared.feed.FeedStep.TheVariants as step
use Rattle.op_retrace.specs.Fed.{Fed, Stands, Looked, AtNext, AtLast, event_by, event_shown, shows_event}
use Rattle.op_retrace.specs.Sight.{Sight}
use Rattle.op_cursor.specs.declared.found.Found.{Found}
use Rattle.op_cursor.specs.declared.found.Found.TheVariants as found
use Rattle.op_cursor.specs.declared.search.Sought.{Sought}
use Rattle.op_cursor.specs.inner.Walks.{Advanced, behind}
use Rattle.op_cursor.specs.inner.Finds.{found_of, found_at_end, sought_test, searched, Finds, LooksOn, LooksAt, Tells, Looks}

drop-nth : (es : List Event) (i : ℕ) (e : Event) → nth_event es i ≡ Some e → drop i es ≡ e ∷ drop (suc i) es
drop-nth [] i e h = absurd cc
drop-nth (x ∷ xs) zero e h = let q : x ≡ e = cc in ap (λ (y : Event). y ∷ xs) q
drop-nth (x ∷ xs) (suc i) e h = drop-nth xs i e h

drop-end : (es : List Event) (p : ℕ) → length es ≤ p → drop p es ≡ []
drop-end [] zero h = refl
drop-end [] (suc p) h = refl
drop-end (x ∷ xs) zero h = absurd (omega (arith, h))
drop-end (x ∷ xs) (suc p) h = drop-end xs p (omega (arith, h))

pub later-event : (es : List Event) (p q : ℕ) (e : Event) → q ≡ p + 1 → event_at es q ≡ Some e
    → later es p ≡ (q, e) ∷ later es q
later-event es p q e h k =
    let i : q ≡ suc p = omega (arith, h) in
    let n : nth_event es p ≡ Some e = sym (ap (event_at es) i) ∙ k in
    let j : p + 1 ≡ q = sym h in
    ap (numbered (p + 1)) (drop-nth es p e n)
    ∙ (ap (λ (m : ℕ). numbered m (e ∷ drop (suc p) es)) j ∙ ap (λ (m : ℕ). (q, e) ∷ numbered (q + 1) (drop m es)) (sym i))

pub later-end : (es : List Event) (p : ℕ) → length es ≤ p → later es p ≡ []
later-end es p h = ap (numbered (p + 1)) (drop-end es p h)

pub nth-some : {P : Type 0} (es : List Event) (i : ℕ) → i < length es → ((e : Event) → nth_event es i ≡ Some e → P) → P
nth-some [] i h f = absurd (omega (arith, h))
nth-some (x ∷ xs) zero h f = f x refl
nth-some (x ∷ xs) (suc i) h f = nth-some xs i (omega (arith, h)) f

module _ (test : Event → Test) (behind_them : ℕ → ℕ → Outcome) where
  pub event-paid : (j : ℕ) (e : Event) (xs : List (ℕ × Event)) (f fuel mid left : ℕ) → fuel ≡ mid + 1 → mid ≡ left + (test e).cost
      → search test ((j, e) ∷ xs) behind_them f fuel
      ≡ cond (test e).yes (outcome (moves.At j) (max f j) left) (search test xs behind_them (max f j) left)
  event-paid j e xs f fuel mid left h k =
      let tell : ℕ → Outcome =
      λ rest. cond (test e).yes (outcome (moves.At j) (max f j) rest) (search test xs behind_them (max f j) rest) in
      let n : fuel - 1 ≡ mid = omega (arith, h) in
      let m : mid - (test e).cost ≡ left = omega (arith, k) in
      pay-there 1 f fuel (λ rest. pay (test e).cost (max f j) rest tell) (omega (arith, h))
      ∙ (ap (λ (l : ℕ). pay (test e).cost (max f j) l tell) n
      ∙ (pay-there (test e).cost (max f j) mid tell (omega (arith, k)) ∙ ap tell m))

  pub event-dear : (j : ℕ) (e : Event) (xs : List (ℕ × Event)) (f fuel mid : ℕ) → fuel ≡ mid + 1 → mid < (test e).cost
      → search test ((j, e) ∷ xs) behind_them f fuel ≡ outcome moves.Spent (max f j) 0
  event-dear j e xs f fuel mid h k =
      let tell : ℕ → Outcome =
      λ rest. cond (test e).yes (outcome (moves.At j) (max f j) rest) (search test xs behind_them (max f j) rest) in
      let n : fuel - 1 ≡ mid = omega (arith, h) in
      pay-there 1 f fuel (λ rest. pay (test e).cost (max f j) rest tell) (omega (arith, h))
      ∙ (ap (λ (l : ℕ). pay (test e).cost (max f j) l tell) n ∙ pay-short (test e).cost (max f j) mid tell k)

  pub event-short : (j : ℕ) (e : Event) (xs : List (ℕ × Event)) (f fuel : ℕ) → fuel < 1
      → search test ((j, e) ∷ xs) behind_them f fuel ≡ outcome moves.Spent f 0
  event-short j e xs f fuel h =
      pay-short 1 f fuel (λ left. pay (test e).cost (max f j) left
      (λ rest. cond (test e).yes (outcome (moves.At j) (max f j) rest) (search test xs behind_them (max f j) rest))) h

  event-looks : (j : ℕ) (e : Event) (xs : List (ℕ × Event)) (f fuel : ℕ) → 1 ≤ fuel
      → ((g left : ℕ) → g ≤ (search test xs behind_them g left).furthest)
      → max f j ≤ (search test ((j, e) ∷ xs) behind_them f fuel).furthest
  event-looks j e xs f fuel h rises =
      by_order (fuel - 1) (test e).cost
      (λ l. subst (λ (o : Outcome). max f j ≤ o.furthest) (sym (event-dear j e xs f fuel (fuel - 1) (omega (arith, h)) l)) (omega arith))
      (λ l. let left : ℕ = (fuel - 1) - (test e).cost in
      subst (λ (o : Outcome). max f j ≤ o.furthest)
      (sym (event-paid j e xs f fuel (fuel - 1) left (omega (arith, h)) (omega (arith, l))))
      (by_test (test e).yes
      (λ t. subst (λ (o : Outcome). max f j ≤ o.furthest) (sym (if_true (test e).yes _ _ t)) (omega arith))
      (λ t. subst (λ (o : Outcome). max f j ≤ o.furthest) (sym (if_false (test e).yes _ _ t)) (rises (max f j) left))))

-- the event at which a feed stands is that of the run
both-true : (a b : Bool) → (a && b) ≡ true → a ≡ true
both-true true b h = refl
both-true false b h = absurd cc

shown-now : (k : Kept) → has_event k ≡ true → event_shown k ≡ Some (event_now k)
shown-now k h = ap (λ (b : Bool). event_by b k) h

pub event-now : (v : Fed) (r : Run) → Stands v r → shows_event v ≡ true → event_at (events_of r.turns) v.place ≡ Some (event_now v.machine)
event-now v r s h = s.event ∙ shown-now v.machine (both-true (has_event v.machine) (not (is_some v.fault)) h)

-- the end at which a feed stands is that of the run
end-told : (names : List (List ℕ)) (e : machine.Ending) → end_found (ending_for names e) ≡ found_at_end (Some e)
end-told names answer.Stopped = refl
end-told names answer.Failed = refl
end-told names (answer.Thrown b) = refl
end-told names (answer.Halted n) = refl
end-told names answer.Spent = refl

pub end-now : (v : Fed) (r : Run) → Stands v r → is_some v.ending ≡ true → end_found r.ending ≡ found_at_end v.ending
end-now v r s h = go v.ending refl s.looked
  where
    go : (o : Option machine.Ending) → v.ending ≡ o → Looked v r o → end_found r.ending ≡ found_at_end v.ending
    go None e l = absurd cc
    go (Some x) e l = ap end_found l.ending ∙ (end-told l.names x ∙ ap found_at_end (sym e))

-- looks
short-search : (test : Event → Test) (xs : List (ℕ × Event)) (es : List Event) (e : Ending) (f fuel : ℕ) → fuel < 1
    → search test xs (look_at_end es e) f fuel ≡ outcome moves.Spent f 0
short-search test [] es e f fuel h = pay-short 1 f fuel (λ left. outcome (end_found e) (max f (length es + 1)) left) h
short-search test (y ∷ ys) es e f fuel h = event-short test (look_at_end es e) y.0 y.1 ys f fuel h

pub short-finds : (x : Sought) (v : Fed) (fuel : ℕ) → fuel < 1 → Finds x found.Spent v.place fuel v 0
short-finds x v fuel h rest f k =
    let r : Run = v.run rest in
    let same : f ≡ max f v.place = omega (arith, k) in
    short-search (sought_test x) (later (events_of r.turns) v.place) (events_of r.turns) r.ending f fuel h
    ∙ ap (λ (g : ℕ). outcome moves.Spent g 0) same

pub end-finds : (x : Sought) (y : Found) (old new : Fed) (a b : Sight) (before after fuel left : ℕ)
    → Advanced step.End old new a b before after → fuel ≡ left + 1 → found_of y ≡ found_at_end new.ending
    → Finds x y old.place fuel new left
end-finds x y old new a b before after fuel left d h e rest f k =
    let o = d.advances.over rest in
    let r : Run = new.run rest in
    let c : AtLast r old new = subst (λ (q : Run). AtLast q old new) (sym o.run) o.comes in
    let s : Stands new r = d.goes.still_sound d.goes.still_none rest in
    let none : later (events_of r.turns) old.place ≡ [] = later-end (events_of r.turns) old.place c.past in
    let n : fuel - 1 ≡ left = omega (arith, h) in
    let told : end_found r.ending ≡ found_of y = end-now new r s c.ending ∙ sym e in
    let far : max f (length (events_of r.turns) + 1) ≡ max f new.place = ap (max f) (sym c.place) in
    ap (λ (xs : List (ℕ × Event)). search (sought_test x) xs (look_at_end (events_of r.turns) r.ending) f fuel) none
    ∙ (pay-there 1 f fuel (λ l. outcome (end_found r.ending) (max f (length (events_of r.turns) + 1)) l) (omega (arith, h))
    ∙ (ap (λ (l : ℕ). outcome (end_found r.ending) (max f (length (events_of r.turns) + 1)) l) n
    ∙ (ap (λ (z : moves.Found). outcome z (max f (length (events_of r.turns) + 1)) left) told
    ∙ ap (λ (g : ℕ). outcome (found_of y) g left) far)))

module _ (x : Sought) (old new : Fed) (a b : Sight) (before after fuel mid : ℕ)
    (d : Advanced step.Event old new a b before after) (h : fuel ≡ mid + 1) where
  next-event : (rest : List ℕ)
      → later (events_of (new.run rest).turns) old.place
      ≡ (new.place, event_now new.machine) ∷ later (events_of (new.run rest).turns) new.place
  next-event rest =
      let o = d.advances.over rest in
      let r : Run = new.run rest in
      let c : AtNext r old new = subst (λ (q : Run). AtNext q old new) (sym o.run) o.comes in
      later-event (events_of r.turns) old.place new.place (event_now new.machine) c.place
      (event-now new r (d.goes.still_sound d.goes.still_none rest) c.shown)

  searched-next : (rest : List ℕ) (f : ℕ)
      → searched x old.place f (new.run rest) fuel
      ≡ search (sought_test x) ((new.place, event_now new.machine) ∷ later (events_of (new.run rest).turns) new.place)
      (look_at_end (events_of (new.run rest).turns) (new.run rest).ending) f fuel
  searched-next rest f =
      ap (λ (xs : List (ℕ × Event)). search (sought_test x) xs (look_at_end (events_of (new.run rest).turns) (new.run rest).ending) f fuel)
      (next-event rest)

  pub event-finds : (y : Option Found) (left : ℕ) → Tells y (sought_test x (event_now new.machine)) new.place mid left
      → Looks x y old fuel new left
  event-finds (Some (found.At j)) left t = λ rest f k.
      let e = event_now new.machine in
      let at : new.place ≡ j = sym t.0 in
      searched-next rest f
      ∙ (event-paid (sought_test x) (look_at_end (events_of (new.run rest).turns) (new.run rest).ending) new.place e
      (later (events_of (new.run rest).turns) new.place) f fuel mid left h t.2
      ∙ (if_true (sought_test x e).yes _ _ t.1 ∙ ap (λ (n : ℕ). outcome (moves.At n) (max f new.place) left) at))
  event-finds (Some found.Spent) left t = λ rest f k.
      searched-next rest f
      ∙ (event-dear (sought_test x) (look_at_end (events_of (new.run rest).turns) (new.run rest).ending) new.place (event_now new.machine)
      (later (events_of (new.run rest).turns) new.place) f fuel mid h t.0
      ∙ ap (λ (n : ℕ). outcome moves.Spent (max f new.place) n) (sym t.1))
  event-finds (Some found.NoEvent) left t = absurd t
  event-finds (Some found.PastBudget) left t = absurd t
  event-finds None left t =
      let o = d.advances.over [] in (
        λ rest f k.
            let e = event_now new.machine in
            searched-next rest f
            ∙ (event-paid (sought_test x) (look_at_end (events_of (new.run rest).turns) (new.run rest).ending) new.place e
            (later (events_of (new.run rest).turns) new.place) f fuel mid left h t.1 ∙ if_false (sought_test x e).yes _ _ t.0),
        o.comes.place,
        o.comes.few,
      )

  pub event-looked : LooksAt x (λ r. new.place) old.place fuel new
  event-looked rest f k =
      let r : Run = new.run rest in
      subst (λ (o : Outcome). max f new.place ≤ o.furthest) (sym (searched-next rest f))
      (event-looks (sought_test x) (look_at_end (events_of r.turns) r.ending) new.place (event_now new.machine)
      (later (events_of r.turns) new.place) f fuel (omega (arith, h))
      (λ g left. on-rises (sought_test x) (events_of r.turns) r.ending (record { place = new.place; furthest = g }) left))

-- with a step at hand, a search looks at the place behind
pub looks-behind : (x : Sought) (p fuel : ℕ) (v : Fed) → 1 ≤ fuel → LooksAt x (λ r. behind r p) p fuel v
looks-behind x p fuel v h rest f k =
    let r : Run = v.run rest in
    let es = events_of r.turns in
    by_order p (length es)
    (λ l. nth-some es p l (λ e n.
    let far : max f (behind r p) ≤ max f (p + 1) = omega arith in
    let i : p + 1 ≡ suc p = omega arith in
    let some : event_at es (p + 1) ≡ Some e = ap (event_at es) i ∙ n in
    let looked = event-looks (sought_test x) (look_at_end es r.ending) (p + 1) e (later es (p + 1)) f fuel h
    (λ g left. on-rises (sought_test x) es r.ending (record { place = p + 1; furthest = g }) left) in
    subst (λ (xs : List (ℕ × Event)). max f (behind r p) ≤ (search (sought_test x) xs (look_at_end es r.ending) f fuel).furthest)
    (sym (later-event es p (p + 1) e refl some)) (omega (arith, far, looked))))
    (λ l. let there : look_at_end es r.ending f fuel ≡ outcome (end_found r.ending) (max f (length es + 1)) (fuel - 1) =
    pay-there 1 f fuel (λ left. outcome (end_found r.ending) (max f (length es + 1)) left) h in
    subst (λ (xs : List (ℕ × Event)). max f (behind r p) ≤ (search (sought_test x) xs (look_at_end es r.ending) f fuel).furthest)
    (sym (later-end es p l))
    (subst (λ (o : Outcome). max f (behind r p) ≤ o.furthest) (sym there) (omega (arith, l))))

-- each run of the one is a run of the other
abbrev pub SameRuns : Fed → Fed → Type 0
SameRuns old new = (rest : List ℕ) → (earlier : List ℕ) × (new.run rest ≡ old.run earlier)

module _ (x : Sought) (p fuel : ℕ) (mid new : Fed) (left : ℕ) (on : LooksOn x p fuel mid left) (same : SameRuns mid new)
    (later_on : p ≤ mid.place) where
  goes-on : (rest : List ℕ) (f : ℕ) → p ≤ f
      → searched x p f (new.run rest) fuel ≡ searched x mid.place (max f mid.place) (new.run rest) left
  goes-on rest f k =
      let s = same rest in
      subst (λ (r : Run). searched x p f r fuel ≡ searched x mid.place (max f mid.place) r left) (sym s.1) (on s.0 f k)

  pub finds-on : (y : Found) (rests : ℕ) → mid.place ≤ new.place → Finds x y mid.place left new rests → Finds x y p fuel new rests
  finds-on y rests h g rest f k =
      let e : max (max f mid.place) new.place ≡ max f new.place = omega (arith, h) in
      goes-on rest f k ∙ (g rest (max f mid.place) (omega arith) ∙ ap (λ (m : ℕ). outcome (found_of y) m rests) e)

  pub looks-on : (rests : ℕ) → mid.place ≤ new.place → LooksOn x mid.place left new rests → LooksOn x p fuel new rests
  looks-on rests h g rest f k =
      let e : max (max f mid.place) new.place ≡ max f new.place = omega (arith, h) in
      goes-on rest f k
      ∙ (g rest (max f mid.place) (omega arith) ∙ ap (λ (m : ℕ). searched x new.place m (new.run rest) rests) e)

  pub looked-on : (at : Run → ℕ) → LooksAt x at mid.place left new → LooksAt x at p fuel new
  looked-on at g rest f k =
      let m = g rest (max f mid.place) (omega arith) in
      subst (λ (o : Outcome). max f (at (new.run rest)) ≤ o.furthest) (sym (goes-on rest f k)) (omega (arith, m))

pub looks-nothing : (x : Sought) (v : Fed) (fuel : ℕ) → LooksOn x v.place fuel v fuel
looks-nothing x v fuel rest f k =
    let e : f ≡ max f v.place = omega (arith, k) in
    ap (λ (m : ℕ). searched x v.place m (v.run rest) fuel) e
