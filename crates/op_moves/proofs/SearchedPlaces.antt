-- Where searches stop: at the first event that is accepted, in the order of looking.
use Rattle.std.proofs.Common.{◌≡◌, ℕ, zero, suc, ◌+◌, ◌-◌, ◌<◌, ◌≤◌, leb, max, true, false, cond, List, [], ◌∷◌, ◌++◌, length, take, drop}
use Rattle.std.proofs.Common.{reverse, Some, sym, ◌∙◌, ap, subst, refl, arith}
use Rattle.std.proofs.lemmas.List.{reverse-append}
use Rattle.std.proofs.lemmas.Bool.{le-leb}
use Rattle.op_logic.proofs.BoolCases.{by_test, by_order, if_true, if_false}
use Rattle.op_trace.specs.World.{Event}
use Rattle.op_trace.specs.Ending.{Ending}
use Rattle.op_trace.specs.Ending as ending
use Rattle.op_moves.specs.Pattern.{Test}
use Rattle.op_moves.specs.Moves.{Stand, Found, At, No_event, Spent, Outcome, outcome, pay, look_at_end, numbered}
use Rattle.op_moves.specs.Moves.{Past_budget, nth_event, end_found, search, search_on, search_back, prev, next, moved, goto, look, last}
use Rattle.op_moves.specs.Moves.{last_found, later, call_in, call_of}
use Rattle.op_moves.specs.Laws.{yes_of, accepted, calls}
use Rattle.op_moves.proofs.MoveCosts.{pay-there, pay-short}

-- what is found was paid for
pay-found : (n f fuel : ℕ) (rest : ℕ → Outcome) (x : Found) → (Spent ≡ x → ⊥) → (pay n f fuel rest).found ≡ x
    → (n ≤ fuel) × ((rest (fuel - n)).found ≡ x)
pay-found n f fuel rest x h e =
    by_order fuel n
    (λ l. absurd (h (sym (ap (λ (o : Outcome). o.found) (pay-short n f fuel rest l)) ∙ e)))
    (λ l. (l, sym (ap (λ (o : Outcome). o.found) (pay-there n f fuel rest l)) ∙ e))

module _ (test : Event → Test) (behind : ℕ → ℕ → Outcome) where
  -- one look: the event is accepted and found, or the search goes on
  first-look : {P : Type 0} (y : ℕ × Event) (ys : List (ℕ × Event)) (f fuel : ℕ) (x : Found) → (Spent ≡ x → ⊥)
      → (search test (y ∷ ys) behind f fuel).found ≡ x
      → ((test y.1).yes ≡ true → At y.0 ≡ x → P)
      → ((test y.1).yes ≡ false → (left : ℕ) → (search test ys behind (max f y.0) left).found ≡ x → P) → P
  first-look y ys f fuel x h e hit miss =
      let g = max f y.0 in
      let a = pay-found 1 f fuel (λ left. pay (test y.1).cost g left (λ rest. cond (test y.1).yes (outcome (At y.0) g rest)
      (search test ys behind g rest))) x h e in
      let b = pay-found (test y.1).cost g (fuel - 1) (λ rest. cond (test y.1).yes (outcome (At y.0) g rest)
      (search test ys behind g rest)) x h a.1 in
      let left = (fuel - 1) - (test y.1).cost in
      by_test (test y.1).yes
      (λ t. hit t (sym (ap (λ (o : Outcome). o.found) (if_true (test y.1).yes (outcome (At y.0) g left) (search test ys behind g left) t))
      ∙ b.1))
      (λ t. miss t left (sym (ap (λ (o : Outcome). o.found) (if_false (test y.1).yes (outcome (At y.0) g left)
      (search test ys behind g left) t)) ∙ b.1))

-- the events from a place on, each with its place
record Stops (test : Event → Test) (es : List Event) (j0 j : ℕ) : Type 0 where
  pub index : ℕ
  pub at : j ≡ j0 + index
  pub yes : yes_of test (nth_event es index) ≡ true
  pub none : (i : ℕ) → i < index → yes_of test (nth_event es i) ≡ false

module _ (test : Event → Test) (behind : ℕ → ℕ → Outcome) (never : (f left j : ℕ) → (behind f left).found ≡ At j → ⊥) where
  stops-on : (es : List Event) (j0 f fuel j : ℕ) → (search test (numbered j0 es) behind f fuel).found ≡ At j → Stops test es j0 j
  stops-on [] j0 f fuel j e = absurd (never f fuel j e)
  stops-on (x ∷ xs) j0 f fuel j e =
      first-look test behind (j0, x) (numbered (j0 + 1) xs) f fuel (At j) (λ h. cc) e
      (λ t q. let i : j0 ≡ j = cc in
      record { index = 0; at = omega (arith, i); yes = t; none = λ k l. absurd (omega (arith, l)) })
      (λ t left q. let s = stops-on xs (j0 + 1) (max f j0) left j q in
      record { index = suc s.index; at = omega (arith, s.at); yes = s.yes; none = before s.index t s.none })
    where
      before : (n : ℕ) → (test x).yes ≡ false → ((i : ℕ) → i < n → yes_of test (nth_event xs i) ≡ false)
          → (i : ℕ) → i < suc n → yes_of test (nth_event (x ∷ xs) i) ≡ false
      before n t h zero l = t
      before n t h (suc i) l = h i (omega (arith, l))

  -- where the search ends behind them, none is accepted
  none-on : (es : List Event) (j0 f fuel : ℕ) (x : Found) → (Spent ≡ x → ⊥) → ((j : ℕ) → At j ≡ x → ⊥)
      → (search test (numbered j0 es) behind f fuel).found ≡ x → (i : ℕ) → yes_of test (nth_event es i) ≡ false
  none-on [] j0 f fuel x h k e i = refl
  none-on (y ∷ ys) j0 f fuel x h k e zero =
      first-look test behind (j0, y) (numbered (j0 + 1) ys) f fuel x h e (λ t q. absurd (k j0 q)) (λ t left q. t)
  none-on (y ∷ ys) j0 f fuel x h k e (suc i) =
      first-look test behind (j0, y) (numbered (j0 + 1) ys) f fuel x h e (λ t q. absurd (k j0 q))
      (λ t left q. none-on ys (j0 + 1) (max f j0) left x h k q i)

nth-drop : (es : List Event) (p i : ℕ) → nth_event (drop p es) i ≡ nth_event es (p + i)
nth-drop [] zero i = refl
nth-drop [] (suc p) i = refl
nth-drop (x ∷ xs) zero i = let e : 0 + i ≡ i = omega arith in ap (nth_event (x ∷ xs)) (sym e)
nth-drop (x ∷ xs) (suc p) i = let e : suc p + i ≡ suc (p + i) = omega arith in nth-drop xs p i ∙ ap (nth_event (x ∷ xs)) (sym e)

accepted-drop : (test : Event → Test) (es : List Event) (p i j : ℕ) → j ≡ p + 1 + i
    → accepted test es j ≡ yes_of test (nth_event (drop p es) i)
accepted-drop test es p i j e =
    let q : j ≡ suc (p + i) = omega (arith, e) in
    ap (accepted test es) q ∙ ap (yes_of test) (sym (nth-drop es p i))

nth-inside : (test : Event → Test) (es : List Event) (i : ℕ) → yes_of test (nth_event es i) ≡ true → i < length es
nth-inside test [] i e = absurd cc
nth-inside test (x ∷ xs) zero e = omega arith
nth-inside test (x ∷ xs) (suc i) e = omega (arith, nth-inside test xs i e)

accepted-inside : (test : Event → Test) (es : List Event) (j : ℕ) → accepted test es j ≡ true → j ≤ length es
accepted-inside test es zero e = omega arith
accepted-inside test es (suc j) e = omega (arith, nth-inside test es j e)

end-never : (es : List Event) (e : Ending) (f left j : ℕ) → (look_at_end es e f left).found ≡ At j → ⊥
end-never es e f left j h =
    over e (pay-found 1 f left (λ rest. outcome (end_found e) (max f (length es + 1)) rest) (At j) (λ q. cc) h).1
  where
    over : (x : Ending) → end_found x ≡ At j → ⊥
    over ending.Stopped q = cc
    over ending.Failed q = cc
    over (ending.Thrown b) q = cc
    over (ending.Halted n) q = cc
    over ending.Spent q = cc

module _ (test : Event → Test) (es : List Event) (e : Ending) (s : Stand) (fuel : ℕ) where
  pub on-found : (j : ℕ) → (search_on test es e s fuel).found ≡ At j
      → (s.place < j) × (j ≤ length es) × (accepted test es j ≡ true) × ((i : ℕ) → s.place < i → i < j → accepted test es i ≡ false)
  on-found j h =
      let t = stops-on test (look_at_end es e) (end-never es e) (drop s.place es) (s.place + 1) s.furthest fuel j h in
      let y : accepted test es j ≡ true = accepted-drop test es s.place t.index j t.at ∙ t.yes in (
        omega (arith, t.at),
        accepted-inside test es j y,
        y,
        λ i l m.
            let q : i ≡ s.place + 1 + (i - (s.place + 1)) = omega (arith, l) in
            accepted-drop test es s.place (i - (s.place + 1)) i q ∙ t.none (i - (s.place + 1)) (omega (arith, l, m, t.at)),
      )

  pub on-none : (x : Found) → (Spent ≡ x → ⊥) → ((j : ℕ) → At j ≡ x → ⊥) → (search_on test es e s fuel).found ≡ x
      → (i : ℕ) → s.place < i → accepted test es i ≡ false
  on-none x h k f i l =
      let q : i ≡ s.place + 1 + (i - (s.place + 1)) = omega (arith, l) in
      accepted-drop test es s.place (i - (s.place + 1)) i q
      ∙ none-on test (look_at_end es e) (end-never es e) (drop s.place es) (s.place + 1) s.furthest fuel x h k f (i - (s.place + 1))

-- the events before a place, the last first
nth-last : {P : Type 0} (es : List Event) (k : ℕ) → k < length es
    → ((x : Event) → nth_event es k ≡ Some x → take (suc k) es ≡ take k es ++ x ∷ [] → P) → P
nth-last [] k l f = absurd (omega arith)
nth-last (x ∷ xs) zero l f = f x refl refl
nth-last (x ∷ xs) (suc k) l f = nth-last xs k (omega (arith, l)) (λ y e t. f y e (ap (λ ys. x ∷ ys) t))

numbered-last : (j : ℕ) (xs : List Event) (x : Event) → numbered j (xs ++ x ∷ []) ≡ numbered j xs ++ (j + length xs, x) ∷ []
numbered-last j [] x = let e : j ≡ j + 0 = omega arith in ap (λ (k : ℕ). (k, x) ∷ []) e
numbered-last j (y ∷ ys) x =
    let e : j + 1 + length ys ≡ j + suc (length ys) = omega arith in
    ap (λ zs. (j, y) ∷ zs) (numbered-last (j + 1) ys x ∙ ap (λ (k : ℕ). numbered (j + 1) ys ++ (k, x) ∷ []) e)

length-take : (es : List Event) (k : ℕ) → k ≤ length es → length (take k es) ≡ k
length-take es zero l = refl
length-take [] (suc k) l = absurd (omega arith)
length-take (x ∷ xs) (suc k) l = ap suc (length-take xs k (omega (arith, l)))

before-last : {P : Type 0} (es : List Event) (k : ℕ) → k < length es
    → ((x : Event) → nth_event es k ≡ Some x
    → reverse (numbered 1 (take (suc k) es)) ≡ (suc k, x) ∷ reverse (numbered 1 (take k es)) → P) → P
before-last es k l f =
    nth-last es k l (λ x e t.
    let n : 1 + length (take k es) ≡ suc k = omega (arith, length-take es k (omega (arith, l))) in
    f x e (ap (λ xs. reverse (numbered 1 xs)) t ∙ (ap reverse (numbered-last 1 (take k es) x)
    ∙ (reverse-append (numbered 1 (take k es)) ((1 + length (take k es), x) ∷ [])
    ∙ ap (λ (m : ℕ). (m, x) ∷ reverse (numbered 1 (take k es))) n))))

record StopsBack (test : Event → Test) (es : List Event) (k j : ℕ) : Type 0 where
  pub some : 0 < j
  pub below : j ≤ k
  pub yes : accepted test es j ≡ true
  pub none : (i : ℕ) → j < i → i ≤ k → accepted test es i ≡ false

module _ (test : Event → Test) (es : List Event) where
  more : (k j : ℕ) → StopsBack test es k j → accepted test es (suc k) ≡ false → StopsBack test es (suc k) j
  more k j s t = record {
    some = s.some;
    below = omega (arith, s.below);
    yes = s.yes;
    none = λ i l m. by_order i (suc k) (λ n. s.none i l (omega (arith, n)))
        (λ n. let q : i ≡ suc k = omega (arith, m, n) in ap (accepted test es) q ∙ t);
  }

  stops-back : (k : ℕ) → k ≤ length es → (f fuel j : ℕ)
      → (search test (reverse (numbered 1 (take k es))) (outcome No_event) f fuel).found ≡ At j → StopsBack test es k j
  stops-back zero l f fuel j e = absurd (let q : No_event ≡ At j = e in cc)
  stops-back (suc k) l f fuel j e =
      before-last es k (omega (arith, l)) (λ x n r.
      first-look test (outcome No_event) (suc k, x) (reverse (numbered 1 (take k es))) f fuel (At j) (λ h. cc)
      (subst (λ (zs : List (ℕ × Event)). (search test zs (outcome No_event) f fuel).found ≡ At j) r e)
      (λ t q. let i : suc k ≡ j = cc in
      record {
        some = omega (arith, i);
        below = omega (arith, i);
        yes = ap (accepted test es) (sym i) ∙ (ap (yes_of test) n ∙ t);
        none = λ m a b. absurd (omega (arith, i, a, b));
      })
      (λ t left q. more k j (stops-back k (omega (arith, l)) (max f (suc k)) left j q) (ap (yes_of test) n ∙ t)))

  none-back : (k : ℕ) → k ≤ length es → (f fuel : ℕ)
      → (search test (reverse (numbered 1 (take k es))) (outcome No_event) f fuel).found ≡ No_event
      → (i : ℕ) → i ≤ k → accepted test es i ≡ false
  none-back zero l f fuel e zero h = refl
  none-back zero l f fuel e (suc i) h = absurd (omega (arith, h))
  none-back (suc k) l f fuel e i h =
      before-last es k (omega (arith, l)) (λ x n r.
      first-look test (outcome No_event) (suc k, x) (reverse (numbered 1 (take k es))) f fuel No_event (λ q. cc)
      (subst (λ (zs : List (ℕ × Event)). (search test zs (outcome No_event) f fuel).found ≡ No_event) r e)
      (λ t q. absurd cc)
      (λ t left q. by_order i (suc k) (λ m. none-back k (omega (arith, l)) (max f (suc k)) left q i (omega (arith, m)))
      (λ m. let a : i ≡ suc k = omega (arith, h, m) in ap (accepted test es) a ∙ (ap (yes_of test) n ∙ t))))

module _ (test : Event → Test) (es : List Event) (s : Stand) (fuel : ℕ) (there : s.place ≤ length es + 1) where
  pub back-found : (j : ℕ) → (search_back test es s fuel).found ≡ At j
      → (0 < j) × (j < s.place) × (accepted test es j ≡ true) × ((i : ℕ) → j < i → i < s.place → accepted test es i ≡ false)
  back-found j h =
      let t = stops-back test es (s.place - 1) (omega (arith, there)) s.furthest fuel j h in
      (t.some, omega (arith, t.some, t.below), t.yes, λ i l m. t.none i l (omega (arith, m)))

  pub back-none : (search_back test es s fuel).found ≡ No_event → (i : ℕ) → i < s.place → accepted test es i ≡ false
  back-none h i l = none-back test es (s.place - 1) (omega (arith, there)) s.furthest fuel h i (omega (arith, l))

-- a search that finds none ends behind the last event
module _ (test : Event → Test) (behind : ℕ → ℕ → Outcome) (x : Found) (h : Spent ≡ x → ⊥) (k : (j : ℕ) → At j ≡ x → ⊥) where
  ends-behind : {P : Type 0} (ys : List (ℕ × Event)) (f fuel : ℕ) → (search test ys behind f fuel).found ≡ x
      → ((g left : ℕ) → (behind g left).found ≡ x → P) → P
  ends-behind [] f fuel e q = q f fuel e
  ends-behind (y ∷ ys) f fuel e q =
      first-look test behind y ys f fuel x h e (λ t d. absurd (k y.0 d)) (λ t left d. ends-behind ys (max f y.0) left d q)

pub on-end : (test : Event → Test) (es : List Event) (e : Ending) (s : Stand) (fuel : ℕ) (x : Found) → (Spent ≡ x → ⊥)
    → ((j : ℕ) → At j ≡ x → ⊥) → (search_on test es e s fuel).found ≡ x → end_found e ≡ x
on-end test es e s fuel x h k d =
    ends-behind test (look_at_end es e) x h k (later es s.place) s.furthest fuel d
    (λ g left q. (pay-found 1 g left (λ rest. outcome (end_found e) (max g (length es + 1)) rest) x h q).1)

look-found : (j : ℕ) (y : Found) (s : Stand) (fuel : ℕ) (x : Found) → (Spent ≡ x → ⊥) → (look j y s fuel).found ≡ x → y ≡ x
look-found j y s fuel x h d = (pay-found 1 s.furthest fuel (λ left. outcome y (max s.furthest j) left) x h d).1

pub goto-end : (es : List Event) (e : Ending) (j : ℕ) (s : Stand) (fuel : ℕ) (x : Found) → (Spent ≡ x → ⊥)
    → ((i : ℕ) → At i ≡ x → ⊥) → (goto es e j s fuel).found ≡ x → end_found e ≡ x
goto-end es e j s fuel x h k d =
    by_test (leb j (length es))
    (λ t. absurd (k j (look-found j (At j) s fuel x h (sym (ap (λ (o : Outcome). o.found) (if_true _ _ _ t)) ∙ d))))
    (λ t. look-found (length es + 1) (end_found e) s fuel x h (sym (ap (λ (o : Outcome). o.found) (if_false _ _ _ t)) ∙ d))

pub last-end : (es : List Event) (e : Ending) (s : Stand) (fuel : ℕ) (x : Found) → (Spent ≡ x → ⊥)
    → ((i : ℕ) → At i ≡ x → ⊥) → (last es e s fuel).found ≡ x → end_found e ≡ x
last-end es e s fuel x h k d =
    over (length es) (end_found e) (look-found (length es + 1) (last_found (length es) (end_found e)) s fuel x h d)
  where
    over : (n : ℕ) (y : Found) → last_found n y ≡ x → y ≡ x
    over zero y q = q
    over (suc n) (At i) q = q
    over (suc n) No_event q = absurd (k (suc n) q)
    over (suc n) Past_budget q = q
    over (suc n) Spent q = q

pub spent-of : (e : Ending) → end_found e ≡ Past_budget → e ≡ ending.Spent
spent-of ending.Stopped q = absurd cc
spent-of ending.Failed q = absurd cc
spent-of (ending.Thrown b) q = absurd cc
spent-of (ending.Halted n) q = absurd cc
spent-of ending.Spent q = refl

pub not-spent : (e : Ending) → end_found e ≡ No_event → e ≡ ending.Spent → ⊥
not-spent ending.Stopped q d = cc
not-spent ending.Failed q d = cc
not-spent (ending.Thrown b) q d = cc
not-spent (ending.Halted n) q d = cc
not-spent ending.Spent q d = cc

-- the call of a box
calls-stop : (k : ℕ) (es : List Event) (j0 j : ℕ) → call_in (numbered j0 es) k ≡ At j → Stops (calls k) es j0 j
calls-stop k [] j0 j e = absurd (let q : No_event ≡ At j = e in cc)
calls-stop k (x ∷ xs) j0 j e =
    by_test (calls k x).yes
    (λ t. let q : At j0 ≡ At j = sym (if_true (calls k x).yes (At j0) (call_in (numbered (j0 + 1) xs) k) t) ∙ e in
    let i : j0 ≡ j = cc in
    record { index = 0; at = omega (arith, i); yes = t; none = λ m l. absurd (omega (arith, l)) })
    (λ t. let s = calls-stop k xs (j0 + 1) j
    (sym (if_false (calls k x).yes (At j0) (call_in (numbered (j0 + 1) xs) k) t) ∙ e) in
    record { index = suc s.index; at = omega (arith, s.at); yes = s.yes; none = before s.index t s.none })
  where
    before : (n : ℕ) → (calls k x).yes ≡ false → ((i : ℕ) → i < n → yes_of (calls k) (nth_event xs i) ≡ false)
        → (i : ℕ) → i < suc n → yes_of (calls k) (nth_event (x ∷ xs) i) ≡ false
    before n t h zero l = t
    before n t h (suc i) l = h i (omega (arith, l))

calls-none : (k : ℕ) (es : List Event) (j0 : ℕ) → call_in (numbered j0 es) k ≡ No_event → (i : ℕ)
    → yes_of (calls k) (nth_event es i) ≡ false
calls-none k [] j0 e i = refl
calls-none k (x ∷ xs) j0 e zero =
    by_test (calls k x).yes
    (λ t. let q : At j0 ≡ No_event = sym (if_true (calls k x).yes (At j0) (call_in (numbered (j0 + 1) xs) k) t) ∙ e in absurd cc)
    (λ t. t)
calls-none k (x ∷ xs) j0 e (suc i) =
    by_test (calls k x).yes
    (λ t. let q : At j0 ≡ No_event = sym (if_true (calls k x).yes (At j0) (call_in (numbered (j0 + 1) xs) k) t) ∙ e in absurd cc)
    (λ t. calls-none k xs (j0 + 1) (sym (if_false (calls k x).yes (At j0) (call_in (numbered (j0 + 1) xs) k) t) ∙ e) i)

accepted-at : (test : Event → Test) (es : List Event) (i j : ℕ) → j ≡ 1 + i → accepted test es j ≡ yes_of test (nth_event es i)
accepted-at test es i j e = let q : j ≡ suc i = omega (arith, e) in ap (accepted test es) q

pub call-found : (es : List Event) (k j : ℕ) → call_of es k ≡ At j
    → (0 < k) × (accepted (calls k) es j ≡ true) × ((i : ℕ) → i < j → accepted (calls k) es i ≡ false)
call-found es zero j e = absurd (let q : No_event ≡ At j = e in cc)
call-found es (suc k) j e =
    let s = calls-stop (suc k) es 1 j e in
    (omega arith, accepted-at (calls (suc k)) es s.index j s.at ∙ s.yes, earlier-none s.at s.none)
  where
    earlier-none : {n : ℕ} → j ≡ 1 + n → ((i : ℕ) → i < n → yes_of (calls (suc k)) (nth_event es i) ≡ false)
        → (i : ℕ) → i < j → accepted (calls (suc k)) es i ≡ false
    earlier-none {n} a h zero l = refl
    earlier-none {n} a h (suc i) l = h i (omega (arith, a, l))

pub call-none : (es : List Event) (k : ℕ) → 0 < k → call_of es k ≡ No_event → (i : ℕ) → accepted (calls k) es i ≡ false
call-none es zero h e i = absurd (omega (arith, h))
call-none es (suc k) h e zero = refl
call-none es (suc k) h e (suc i) = calls-none (suc k) es 1 e i

-- forward and back again
pub there-and-back : (es : List Event) (e : Ending) (s : Stand) (fuel more : ℕ) → s.place < length es → 0 < fuel → 0 < more
    → (prev (moved s (next es e s fuel)) more).found ≡ At s.place
there-and-back es e s fuel more h k l =
    let n : s.place + 1 ≡ suc s.place = omega arith in
    let b : leb (s.place + 1) (length es) ≡ true = le-leb (s.place + 1) (length es) (omega (arith, h)) in
    let g : next es e s fuel ≡ outcome (At (s.place + 1)) (max s.furthest (s.place + 1)) (fuel - 1) =
    if_true _ _ _ b ∙ pay-there 1 s.furthest fuel (λ left. outcome (At (s.place + 1)) (max s.furthest (s.place + 1)) left) (omega
    (arith, k)) in
    ap (λ (o : Outcome). (prev (moved s o) more).found) g
    ∙ (ap (λ (p : ℕ). (prev (record { place = p; furthest = max s.furthest (s.place + 1) }) more).found) n
    ∙ ap (λ (o : Outcome). o.found) (pay-there 1 (max s.furthest (s.place + 1)) more
    (λ left. outcome (At s.place) (max (max s.furthest (s.place + 1)) s.place) left) (omega (arith, l))))
