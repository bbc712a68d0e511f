-- What moves take, and that the furthest place never falls.
use Rattle.std.proofs.Common.{◌≡◌, ℕ, zero, suc, ◌+◌, ◌-◌, ◌<◌, ◌≤◌, leb, max, Bool, true, false, cond, ◌&&◌, ◌==◌, List, [], ◌∷◌, length}
use Rattle.std.proofs.Common.{Option, Some, None, sym, subst, refl, arith}
use Rattle.std.proofs.lemmas.Bool.{le-leb, lt-leb}
use Rattle.op_logic.specs.Term.{Term, size}
use Rattle.op_logic.proofs.BoolCases.{by_test, by_order, if_true, if_false}
use Rattle.op_trace.specs.Database.{Text}
use Rattle.op_trace.specs.World.{Event}
use Rattle.op_trace.specs.Ending.{Ending}
use Rattle.op_trace.specs.Ending as ending
use Rattle.op_moves.specs.Pattern.{Test, tested}
use Rattle.op_moves.specs.Moves.{Stand, Found, At, No_event, Past_budget, Spent, Outcome, outcome, pay, look, look_at_end, later, earlier}
use Rattle.op_moves.specs.Moves.{end_found, last_found, goto, prev, prev_of, first, last, is_call}
use Rattle.op_moves.specs.Moves.{call_in, call_of, numbered, parent, retry}
use Rattle.op_moves.specs.Moves.{search, search_on, search_back, seek, seek_back, leaves, finish, finish_of, event_at}
use Rattle.op_moves.specs.Laws.{Costs, price}

pub pay-there : (n f fuel : ℕ) (rest : ℕ → Outcome) → n ≤ fuel → pay n f fuel rest ≡ rest (fuel - n)
pay-there n f fuel rest h = if_true _ _ _ (le-leb n fuel h)

pub pay-short : (n f fuel : ℕ) (rest : ℕ → Outcome) → fuel < n → pay n f fuel rest ≡ outcome Spent f 0
pay-short n f fuel rest h = if_false _ _ _ (lt-leb n fuel h)

pay-costs : (n f fuel p : ℕ) (rest : ℕ → Outcome) → ((left : ℕ) → Costs p left (rest left)) → Costs (n + p) fuel (pay n f fuel rest)
pay-costs n f fuel p rest h =
    by_order fuel n
    (λ l. subst (λ (o : Outcome). Costs (n + p) fuel o) (sym (pay-short n f fuel rest l))
    (record { short = λ k. refl; enough = λ k. absurd (omega (arith, l, k)) }))
    (λ l. let c = h (fuel - n) in
    subst (λ (o : Outcome). Costs (n + p) fuel o) (sym (pay-there n f fuel rest l))
    (record {
      short = λ k. c.short (omega (arith, l, k));
      enough = λ k. (let e = c.enough (omega (arith, l, k)) in (e.0, omega (arith, l, e.1)));
    }))

free : (x : Found) (f left : ℕ) → (x ≡ Spent → ⊥) → Costs 0 left (outcome x f left)
free x f left h = record { short = λ k. absurd (omega (arith, k)); enough = λ k. (h, omega arith) }

end-found : (e : Ending) → end_found e ≡ Spent → ⊥
end-found ending.Stopped h = cc
end-found ending.Failed h = cc
end-found (ending.Thrown b) h = cc
end-found (ending.Halted n) h = cc
end-found ending.Spent h = cc

last-found : (n : ℕ) (x : Found) → (x ≡ Spent → ⊥) → last_found n x ≡ Spent → ⊥
last-found zero x h e = h e
last-found (suc n) (At j) h e = cc
last-found (suc n) No_event h e = cc
last-found (suc n) Past_budget h e = cc
last-found (suc n) Spent h e = h refl

call-found : (xs : List (ℕ × Event)) (k : ℕ) → call_in xs k ≡ Spent → ⊥
call-found [] k e = cc
call-found (x ∷ xs) k e = over (is_call x.1.port && (x.1.call == k)) (call_in xs k) (call-found xs k) e
  where
    over : (b : Bool) (y : Found) → (y ≡ Spent → ⊥) → cond b (At x.0) y ≡ Spent → ⊥
    over true y h e = cc
    over false y h e = h e

call-of-found : (es : List Event) (k : ℕ) → call_of es k ≡ Spent → ⊥
call-of-found es zero e = cc
call-of-found es (suc k) e = call-found (numbered 1 es) (suc k) e

look-costs : (j : ℕ) (x : Found) (s : Stand) (fuel : ℕ) → (x ≡ Spent → ⊥) → Costs 1 fuel (look j x s fuel)
look-costs j x s fuel h = pay-costs 1 s.furthest fuel 0 (λ left. outcome x (max s.furthest j) left) (λ left. free x (max s.furthest
    j) left h)

pub goto-costs : (es : List Event) (e : Ending) (j : ℕ) (s : Stand) (fuel : ℕ) → Costs 1 fuel (goto es e j s fuel)
goto-costs es e j s fuel =
    by_test (leb j (length es))
    (λ d. subst (λ (o : Outcome). Costs 1 fuel o) (sym (if_true _ _ _ d)) (look-costs j (At j) s fuel (λ h. cc)))
    (λ d. subst (λ (o : Outcome). Costs 1 fuel o) (sym (if_false _ _ _ d)) (look-costs (length es + 1) (end_found e) s fuel (end-found e)))

prev-of-costs : (p : ℕ) (s : Stand) (fuel : ℕ) → Costs 1 fuel (prev_of p s fuel)
prev-of-costs zero s fuel = look-costs 0 No_event s fuel (λ h. cc)
prev-of-costs (suc p) s fuel = look-costs p (At p) s fuel (λ h. cc)

pub prev-costs : (s : Stand) (fuel : ℕ) → Costs 1 fuel (prev s fuel)
prev-costs s fuel = prev-of-costs s.place s fuel

pub first-costs : (s : Stand) (fuel : ℕ) → Costs 1 fuel (first s fuel)
first-costs s fuel = look-costs 0 (At 0) s fuel (λ h. cc)

pub last-costs : (es : List Event) (e : Ending) (s : Stand) (fuel : ℕ) → Costs 1 fuel (last es e s fuel)
last-costs es e s fuel =
    look-costs (length es + 1) (last_found (length es) (end_found e)) s fuel (last-found (length es) (end_found e) (end-found e))

pub parent-costs : (es : List Event) (s : Stand) (fuel : ℕ) → Costs 1 fuel (parent es s fuel)
parent-costs es s fuel = look-costs _ _ s fuel (call-of-found es _)

pub retry-costs : (es : List Event) (s : Stand) (fuel : ℕ) → Costs 1 fuel (retry es s fuel)
retry-costs es s fuel = look-costs _ _ s fuel (call-of-found es _)

either-costs : (y : Bool) (p left : ℕ) (o q : Outcome) → Costs 0 left o → Costs p left q → Costs (cond y 0 p) left (cond y o q)
either-costs true p left o q h k = h
either-costs false p left o q h k = k

module _ (test : Event → Test) (behind : ℕ → ℕ → Outcome) (b : ℕ) (h : (f left : ℕ) → Costs b left (behind f left)) where
  search-costs : (xs : List (ℕ × Event)) (f fuel : ℕ) → Costs (price test xs b) fuel (search test xs behind f fuel)
  search-costs [] f fuel = h f fuel
  search-costs (x ∷ xs) f fuel =
      pay-costs 1 f fuel ((test x.1).cost + cond (test x.1).yes 0 (price test xs b)) _
      (λ left. pay-costs (test x.1).cost (max f x.0) left (cond (test x.1).yes 0 (price test xs b)) _
      (λ rest. either-costs (test x.1).yes (price test xs b) rest (outcome (At x.0) (max f x.0) rest)
      (search test xs behind (max f x.0) rest) (free (At x.0) (max f x.0) rest (λ e. cc)) (search-costs xs (max f x.0) rest)))

pub on-costs : (test : Event → Test) (es : List Event) (e : Ending) (s : Stand) (fuel : ℕ)
    → Costs (price test (later es s.place) 1) fuel (search_on test es e s fuel)
on-costs test es e s fuel =
    search-costs test (look_at_end es e) 1
    (λ f left. pay-costs 1 f left 0 (λ rest. outcome (end_found e) (max f (length es + 1)) rest)
    (λ rest. free (end_found e) (max f (length es + 1)) rest (end-found e))) (later es s.place) s.furthest fuel

pub back-costs : (test : Event → Test) (es : List Event) (s : Stand) (fuel : ℕ)
    → Costs (price test (earlier es s.place) 0) fuel (search_back test es s fuel)
back-costs test es s fuel =
    search-costs test (outcome No_event) 0 (λ f left. free No_event f left (λ e. cc)) (earlier es s.place) s.furthest fuel

pub seek-costs : (p : Term Text) (es : List Event) (e : Ending) (s : Stand) (fuel : ℕ)
    → Costs (size p + price (tested p) (later es s.place) 1) fuel (seek p es e s fuel)
seek-costs p es e s fuel =
    pay-costs (size p) s.furthest fuel (price (tested p) (later es s.place) 1) _ (λ left. on-costs (tested p) es e s left)

pub seek-back-costs : (p : Term Text) (es : List Event) (s : Stand) (fuel : ℕ)
    → Costs (size p + price (tested p) (earlier es s.place) 0) fuel (seek_back p es s fuel)
seek-back-costs p es s fuel =
    pay-costs (size p) s.furthest fuel (price (tested p) (earlier es s.place) 0) _ (λ left. back-costs (tested p) es s left)

-- the furthest place
pay-rises : (n g f fuel : ℕ) (rest : ℕ → Outcome) → g ≤ f → ((left : ℕ) → g ≤ (rest left).furthest) → g ≤ (pay n f fuel rest).furthest
pay-rises n g f fuel rest h k =
    by_order fuel n
    (λ l. subst (λ (o : Outcome). g ≤ o.furthest) (sym (pay-short n f fuel rest l)) h)
    (λ l. subst (λ (o : Outcome). g ≤ o.furthest) (sym (pay-there n f fuel rest l)) (k (fuel - n)))

look-rises : (j : ℕ) (x : Found) (s : Stand) (fuel : ℕ) → s.furthest ≤ (look j x s fuel).furthest
look-rises j x s fuel =
    pay-rises 1 s.furthest s.furthest fuel (λ left. outcome x (max s.furthest j) left) (omega arith) (λ left. omega arith)

pub goto-rises : (es : List Event) (e : Ending) (j : ℕ) (s : Stand) (fuel : ℕ) → s.furthest ≤ (goto es e j s fuel).furthest
goto-rises es e j s fuel =
    by_test (leb j (length es))
    (λ d. subst (λ (o : Outcome). s.furthest ≤ o.furthest) (sym (if_true _ _ _ d)) (look-rises j (At j) s fuel))
    (λ d. subst (λ (o : Outcome). s.furthest ≤ o.furthest) (sym (if_false _ _ _ d)) (look-rises (length es + 1) (end_found e) s fuel))

prev-of-rises : (p : ℕ) (s : Stand) (fuel : ℕ) → s.furthest ≤ (prev_of p s fuel).furthest
prev-of-rises zero s fuel = look-rises 0 No_event s fuel
prev-of-rises (suc p) s fuel = look-rises p (At p) s fuel

pub prev-rises : (s : Stand) (fuel : ℕ) → s.furthest ≤ (prev s fuel).furthest
prev-rises s fuel = prev-of-rises s.place s fuel

pub first-rises : (s : Stand) (fuel : ℕ) → s.furthest ≤ (first s fuel).furthest
first-rises s fuel = look-rises 0 (At 0) s fuel

pub last-rises : (es : List Event) (e : Ending) (s : Stand) (fuel : ℕ) → s.furthest ≤ (last es e s fuel).furthest
last-rises es e s fuel = look-rises (length es + 1) (last_found (length es) (end_found e)) s fuel

pub parent-rises : (es : List Event) (s : Stand) (fuel : ℕ) → s.furthest ≤ (parent es s fuel).furthest
parent-rises es s fuel = look-rises _ _ s fuel

pub retry-rises : (es : List Event) (s : Stand) (fuel : ℕ) → s.furthest ≤ (retry es s fuel).furthest
retry-rises es s fuel = look-rises _ _ s fuel

either-rises : (y : Bool) (g : ℕ) (o q : Outcome) → g ≤ o.furthest → g ≤ q.furthest → g ≤ (cond y o q).furthest
either-rises true g o q h k = h
either-rises false g o q h k = k

module _ (test : Event → Test) (behind : ℕ → ℕ → Outcome) (h : (f left : ℕ) → f ≤ (behind f left).furthest) where
  search-rises : (xs : List (ℕ × Event)) (g f fuel : ℕ) → g ≤ f → g ≤ (search test xs behind f fuel).furthest
  search-rises [] g f fuel l = omega (arith, l, h f fuel)
  search-rises (x ∷ xs) g f fuel l =
      let tell : ℕ → Outcome =
      λ rest. cond (test x.1).yes (outcome (At x.0) (max f x.0) rest) (search test xs behind (max f x.0) rest) in
      pay-rises 1 g f fuel (λ left. pay (test x.1).cost (max f x.0) left tell) l
      (λ left. pay-rises (test x.1).cost g (max f x.0) left tell (omega (arith, l)) (λ rest. either-rises (test x.1).yes g
      (outcome (At x.0) (max f x.0) rest) (search test xs behind (max f x.0) rest) (omega (arith, l))
      (search-rises xs g (max f x.0) rest (omega (arith, l)))))

pub on-rises : (test : Event → Test) (es : List Event) (e : Ending) (s : Stand) (fuel : ℕ)
    → s.furthest ≤ (search_on test es e s fuel).furthest
on-rises test es e s fuel =
    search-rises test (look_at_end es e)
    (λ f left. pay-rises 1 f f left (λ rest. outcome (end_found e) (max f (length es + 1)) rest) (omega arith) (λ rest. omega arith))
    (later es s.place) s.furthest s.furthest fuel (omega arith)

pub back-rises : (test : Event → Test) (es : List Event) (s : Stand) (fuel : ℕ)
    → s.furthest ≤ (search_back test es s fuel).furthest
back-rises test es s fuel =
    search-rises test (outcome No_event) (λ f left. omega arith) (earlier es s.place) s.furthest s.furthest fuel (omega arith)

pub seek-rises : (p : Term Text) (es : List Event) (e : Ending) (s : Stand) (fuel : ℕ) → s.furthest ≤ (seek p es e s fuel).furthest
seek-rises p es e s fuel =
    pay-rises (size p) s.furthest s.furthest fuel (λ left. search_on (tested p) es e s left) (omega arith) (λ left. on-rises
    (tested p) es e s left)

pub seek-back-rises : (p : Term Text) (es : List Event) (s : Stand) (fuel : ℕ) → s.furthest ≤ (seek_back p es s fuel).furthest
seek-back-rises p es s fuel =
    pay-rises (size p) s.furthest s.furthest fuel (λ left. search_back (tested p) es s left) (omega arith) (λ left. back-rises
    (tested p) es s left)

finish-of-rises : (o : Option Event) (es : List Event) (e : Ending) (s : Stand) (fuel : ℕ)
    → s.furthest ≤ (finish_of o es e s fuel).furthest
finish-of-rises None es e s fuel = omega arith
finish-of-rises (Some x) es e s fuel = on-rises (leaves x.call) es e s fuel

pub finish-rises : (es : List Event) (e : Ending) (s : Stand) (fuel : ℕ) → s.furthest ≤ (finish es e s fuel).furthest
finish-rises es e s fuel = finish-of-rises (event_at es s.place) es e s fuel
