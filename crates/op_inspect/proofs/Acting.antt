-- Answers that are made of answers: what is paid first, and what was made before.
use Rattle.std.proofs.Common.{◌≡◌, ℕ, ◌+◌, ◌-◌, ◌<◌, ◌≤◌, nat_le, Bool, true, false, List, Result, Ok, Err}
use Rattle.std.proofs.Common.{refl, sym, ap, ◌∙◌, subst, arith}
use Rattle.std.proofs.lemmas.Bool.Decides.{nat_tests}
use Rattle.op_term.specs.declared.walk.WalkFault.{WalkFault}
use Rattle.op_term.specs.declared.walk.WalkFault.TheVariants.{Memory, Spent}
use Rattle.op_bind.specs.State.{State}
use Rattle.op_bind.proofs.StateGrowth.{grows-grows}
use Rattle.op_trace.specs.World.{World}
use Rattle.op_trace.specs.Act.{Act, paid, pay}
use Rattle.op_inspect.specs.Answering.{decided}
use Rattle.op_inspect.specs.Outcomes.{IsAnswer, Answers, IsSetting, texts_of, outcome_of}
use Rattle.op_inspect.specs.declared.outcome.Outcome.{Outcome}
use Rattle.op_inspect.specs.inner.Settings.{Stays}
use Rattle.op_inspect.proofs.TextsLater.{stays-self, names-names}

-- an act that pays so many steps and then is another
pub record IsPart (k : ℕ) (a b : Act) : Type 0 where
  pub cost : a.cost ≡ k + b.cost
  pub after : a.after ≡ b.after
  pub yield : a.yield ≡ b.yield

pub same-part : (a b : Act) → a ≡ b → IsPart 0 a b
same-part a b e = record {
  cost = ap (λ (x : Act). x.cost) e ∙ zero-first b.cost;
  after = ap (λ (x : Act). x.after) e;
  yield = ap (λ
      (x : Act). x.yield) e;
}
  where
    zero-first : (n : ℕ) → n ≡ 0 + n
    zero-first n = omega arith

pub pay-part : (k left : ℕ) (w : World) (rest : ℕ → Act) → k ≤ left → IsPart k (pay k left w rest) (rest (left - k))
pay-part k left w rest h = go (nat_le k left) refl
  where
    go : (b : Bool) → nat_le k left ≡ b → IsPart k (paid b k left w rest) (rest (left - k))
    go true e = record { cost = refl; after = refl; yield = refl }
    go false e = absurd (grind (arith, nat_tests))

pub pay-short : (k left : ℕ) (w : World) (rest : ℕ → Act) → left < k → left < (pay k left w rest).cost
pay-short k left w rest h = go (nat_le k left) refl
  where
    go : (b : Bool) → nat_le k left ≡ b → left < (paid b k left w rest).cost
    go true e = absurd (grind (arith, nat_tests))
    go false e = omega arith

-- the state in which the rest begins, and the answer of the rest
pub answers-from : (A B : World → Act) (k : ℕ) (a b c : List (List ℕ)) (s t u : State) (left middle after : ℕ)
    (r : Result Outcome WalkFault)
    → Stays a b s t → left ≡ k + middle
    → ((w : World) → w.variables ≡ s.count → IsPart k (A w) (B (record w { variables = t.count })))
    → Answers B b t middle r c u after → Answers A a s left r c u after
answers-from A B k a b c s t u left middle after r stays e part rest = record {
  answer = go r rest.answer;
  kept = names-names a b c stays.kept rest.kept;
  grows = grows-grows s t u stays.grows rest.grows;
  falls = omega (arith, e, rest.falls);
}
  where
    go : (q : Result Outcome WalkFault) → IsAnswer B t.count middle q c u after → IsAnswer A s.count left q c u after
    go (Ok o) x = (
      λ w same.
          let p = part w same in
          let y = x.0 (record w { variables = t.count }) refl in
          record { cost = omega (arith, e, p.cost, y.cost); world = p.after ∙ y.world; yield = p.yield ∙ y.yield },
      x.1,
    )
    go (Err Spent) x = λ w same.
        let p = part w same in
        let y = x (record w { variables = t.count }) refl in
        omega (arith, e, p.cost, y)
    go (Err Memory) x = tt

-- nothing was paid, and nothing was made
pub answers-same : (A B : World → Act) (a c : List (List ℕ)) (s u : State) (left after : ℕ) (r : Result Outcome WalkFault)
    → ((w : World) → w.variables ≡ s.count → A w ≡ B w) → Answers B a s left r c u after → Answers A a s left r c u after
answers-same A B a c s u left after r e rest =
    answers-from A B 0 a a c s s u left left after r (stays-self a s) (omega arith)
    (λ w same. same-part (A w) (B (record w { variables = s.count }))
    (e w same ∙ ap (λ (n : ℕ). B (record w { variables = n })) same)) rest

-- want of memory, and of steps
pub answers-memory : (A : World → Act) (a c : List (List ℕ)) (s u : State) (left after : ℕ) → Stays a c s u → after ≤ left
    → Answers A a s left (Err Memory) c u after
answers-memory A a c s u left after stays h = record { answer = tt; kept = stays.kept; grows = stays.grows; falls = h }

pub answers-spent : (A : World → Act) (a c : List (List ℕ)) (s u : State) (left after : ℕ) → Stays a c s u → after ≤ left
    → ((w : World) → w.variables ≡ s.count → left < (A w).cost) → Answers A a s left (Err Spent) c u after
answers-spent A a c s u left after stays h short = record { answer = short; kept = stays.kept; grows = stays.grows; falls = h }

-- a test
pub decided-answers : (b : Bool) (names : List (List ℕ)) (s : State) (left : ℕ) → IsSetting names s
    → Answers (decided b (texts_of names s)) names s left (Ok (outcome_of b)) names s left
decided-answers b names s left k = record {
  answer = go b;
  kept = (stays-self names s).kept;
  grows = (stays-self names s).grows;
  falls = omega arith;
}
  where
    world-is : (w : World) → w.variables ≡ s.count → w ≡ record w { variables = s.count }
    world-is w e = ap (λ (n : ℕ). record w { variables = n }) e

    go : (c : Bool) → IsAnswer (decided c (texts_of names s)) s.count left (Ok (outcome_of c)) names s left
    go true = (λ w e. record { cost = omega arith; world = world-is w e; yield = refl }, k)
    go false = (λ w e. record { cost = omega arith; world = world-is w e; yield = refl }, tt)

-- a fault of a walk
pub fault-answers : (A : World → Act) (a c : List (List ℕ)) (s u : State) (left after : ℕ) (f : WalkFault) → Stays a c s u → after ≤ left
    → (f ≡ Spent → (w : World) → w.variables ≡ s.count → left < (A w).cost) → Answers A a s left (Err f) c u after
fault-answers A a c s u left after Memory stays h short = answers-memory A a c s u left after stays h
fault-answers A a c s u left after Spent stays h short = answers-spent A a c s u left after stays h (short refl)

pub part-part : (k : ℕ) (a b c : Act) → IsPart k a b → IsPart 0 b c → IsPart k a c
part-part k a b c p q = record { cost = omega (arith, p.cost, q.cost); after = p.after ∙ q.after; yield = p.yield ∙ q.yield }

-- steps are paid, something is made, and then comes the answer
pub paid-then : (A : World → Act) (k : ℕ) (rest : ℕ → World → Act) (B : World → Act) (a b c : List (List ℕ)) (s t u : State)
    (left middle after : ℕ) (r : Result Outcome WalkFault) → Stays a b s t → ((w : World) → A w ≡ pay k left w (λ l. rest l w))
    → left ≡ middle + k
    → ((w : World) → w.variables ≡ s.count → IsPart 0 (rest middle w) (B (record w { variables = t.count })))
    → Answers B b t middle r c u after → Answers A a s left r c u after
paid-then A k rest B a b c s t u left middle after r stays is e part x =
    answers-from A B k a b c s t u left middle after r stays (omega (arith, e))
    (λ w same.
    let first : IsPart k (A w) (rest (left - k) w) =
    subst (λ (y : Act). IsPart k y (rest (left - k) w)) (sym (is w)) (pay-part k left w (λ l. rest l w) (omega (arith, e))) in
    let second : IsPart k (A w) (rest middle w) = subst (λ (n : ℕ). IsPart k (A w) (rest n w)) (omega (arith, e)) first in
    part-part k (A w) (rest middle w) (B (record w { variables = t.count })) second (part w same)) x

pub paid-answers : (A : World → Act) (k : ℕ) (rest : ℕ → World → Act) (a c : List (List ℕ)) (s u : State) (left middle after : ℕ)
    (r : Result Outcome WalkFault) → ((w : World) → A w ≡ pay k left w (λ l. rest l w)) → left ≡ middle + k
    → Answers (rest middle) a s middle r c u after → Answers A a s left r c u after
paid-answers A k rest a c s u left middle after r is e x =
    paid-then A k rest (rest middle) a a c s s u left middle after r (stays-self a s) is e
    (λ w same. same-part (rest middle w) (rest middle (record w { variables = s.count }))
    (ap (λ (n : ℕ). rest middle (record w { variables = n })) same)) x

pub paid-fault : (A : World → Act) (k : ℕ) (rest : ℕ → World → Act) (a c : List (List ℕ)) (s u : State) (left after : ℕ) (f : WalkFault)
    → ((w : World) → A w ≡ pay k left w (λ l. rest l w)) → Stays a c s u → after ≤ left → (f ≡ Spent → left < k)
    → Answers A a s left (Err f) c u after
paid-fault A k rest a c s u left after f is stays less short =
    fault-answers A a c s u left after f stays less
    (λ e w same. subst (λ (y : Act). left < y.cost) (sym (is w)) (pay-short k left w (λ l. rest l w) (short e)))

-- a test, once it was paid
pub decided-outcome : (b : Bool) (o : Outcome) (names : List (List ℕ)) (s : State) (left : ℕ) → o ≡ outcome_of b → IsSetting names s
    → Answers (decided b (texts_of names s)) names s left (Ok o) names s left
decided-outcome b o names s left e k =
    subst (λ (x : Outcome). Answers (decided b (texts_of names s)) names s left (Ok x) names s left) (sym e)
    (decided-answers b names s left k)

-- something is made without a step, and then comes the answer
pub made-answers : (A B : World → Act) (a b c : List (List ℕ)) (s t u : State) (left after : ℕ) (r : Result Outcome WalkFault)
    → Stays a b s t → t.count ≡ s.count → ((w : World) → A w ≡ B w) → Answers B b t left r c u after → Answers A a s left r c u after
made-answers A B a b c s t u left after r stays count e x =
    answers-from A B 0 a b c s t u left left after r stays (omega arith)
    (λ w same. same-part (A w) (B (record w { variables = t.count }))
    (e w ∙ ap (λ (n : ℕ). B (record w { variables = n })) (same ∙ sym count))) x
