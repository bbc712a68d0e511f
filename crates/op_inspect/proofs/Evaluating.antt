-- Evaluations as acts: a value goes on, and a fault ends.
use Rattle.std.proofs.Common.{◌≡◌, ℕ, ◌+◌, ◌-◌, ◌<◌, ◌≤◌, nat_le, Bool, true, false, List}
use Rattle.std.proofs.Common.{Option, Some, None, Result, Ok, Err, refl, sym, ap, ◌∙◌, subst, arith}
use Rattle.std.specs.Prelude.{ℤ, IfSome, if◌then◌else◌}
use Rattle.std.proofs.lemmas.Bool.Decides.{nat_tests}
use Rattle.op_logic.specs.Term.{Term}
use Rattle.op_logic.specs.Bind.{Bindings, within}
use Rattle.op_logic.specs.Names.{named}
use Rattle.op_bind.specs.State.{State, value_of}
use Rattle.op_trace.specs.Database.{Text}
use Rattle.op_trace.specs.World.{World}
use Rattle.op_trace.specs.Act.{Act, pay}
use Rattle.op_trace.specs.Builtins.{throw}
use Rattle.op_term.specs.declared.walk.WalkFault.{WalkFault}
use Rattle.op_inspect.specs.Arithmetic.{Cause, Evaluated, evaluated}
use Rattle.op_inspect.specs.Errors.{error_of_cause}
use Rattle.op_inspect.specs.Evaluation.{valued, evaluating}
use Rattle.op_inspect.specs.Told.{evaluated_within, cause_of}
use Rattle.op_inspect.specs.Outcomes.{text_at, texts_of, Answers}
use Rattle.op_inspect.specs.declared.fault.EvalFault.{EvalFault}
use Rattle.op_inspect.specs.declared.fault.EvalFault.TheVariants as fault
use Rattle.op_inspect.specs.declared.outcome.Outcome.{Outcome}
use Rattle.op_inspect.specs.inner.Problems.{AnswersFault}
use Rattle.op_inspect.specs.inner.Settings.{Stays}
use Rattle.op_inspect.proofs.Acting.{paid-answers, answers-memory, answers-spent, pay-short}
use Rattle.op_inspect.proofs.TextsLater.{stays-self, value-text}

-- what was evaluated, and how many nodes were met
pub record IsFound (left after : ℕ) (p : Evaluated) (q : Result ℤ Cause) : Type 0 where
  pub is : p ≡ (q, p.1)
  pub paid : left ≡ after + p.1

abbrev told : Bool → ℕ → Evaluated → Option (Result ℤ Cause × ℕ)
told b left p = if◌then◌else◌ {A = Option (Result ℤ Cause × ℕ)} b (let r : Result ℤ Cause × ℕ = (p.0, left - p.1) in Some r) None

some-same : (x y : Result ℤ Cause × ℕ) → Some x ≡ Some y → x ≡ y
some-same x y e = cc

pub within-found : (left after : ℕ) (p : Evaluated) (q : Result ℤ Cause) → within left (Some p) ≡ Some (q, after) → IsFound left after p q
within-found left after p q h = go (nat_le p.1 left) refl h
  where
    go : (b : Bool) → nat_le p.1 left ≡ b → told b left p ≡ Some (q, after) → IsFound left after p q
    go true e k =
        let fits : p.1 ≤ left = grind (arith, nat_tests) in
        let r : Result ℤ Cause × ℕ = (q, after) in
        let l : Result ℤ Cause × ℕ = (p.0, left - p.1) in
        let same : l ≡ r = some-same l r k in
        let first : p.0 ≡ q = ap (λ (z : Result ℤ Cause × ℕ). z.0) same in
        let second : left - p.1 ≡ after = ap (λ (z : Result ℤ Cause × ℕ). z.1) same in
        record { is = ap (λ (z : Result ℤ Cause). (z, p.1)) first; paid = omega (arith, fits, second) }
    go false e k = cc

pub within-short : (left : ℕ) (p : Evaluated) → within left (Some p) ≡ None → left < p.1
within-short left p h = go (nat_le p.1 left) refl h
  where
    go : (b : Bool) → nat_le p.1 left ≡ b → told b left p ≡ None → left < p.1
    go true e k = cc
    go false e k = grind (arith, nat_tests)

valued-short : (p : Evaluated) (left : ℕ) (σ : Bindings Text) (w : World) (rest : ℤ → ℕ → Act) → left < p.1 → left <
    (valued p left σ w rest).cost
valued-short (Ok x, n) left σ w rest h = pay-short n left w (rest x) h
valued-short (Err c, n) left σ w rest h = pay-short n left w (λ l. throw l σ (error_of_cause c) w) h

stays-equal : (names more : List (List ℕ)) (s u : State) → more ≡ names → u ≡ s → Stays names more s u
stays-equal names more s u e f =
    subst (λ (m : List (List ℕ)). Stays names m s u) (sym e) (subst (λ (x : State). Stays names names s x) (sym f) (stays-self names s))

module _ (names : List (List ℕ)) (s : State) (r left middle : ℕ) where
  abbrev pub met : Evaluated
  met = evaluated (named names (value_of s r))

  pub evaluating-value : (w : World) (rest : ℤ → ℕ → Act) → evaluating (text_at names s r) left (texts_of names s) w rest
      ≡ valued met left (texts_of names s) w rest
  evaluating-value w rest = ap (λ (x : Term Text). valued (evaluated x) left (texts_of names s) w rest) (sym (value-text names s r))

  pub value-paid : (x : ℤ) → evaluated_within left (named names (value_of s r)) ≡ Some (Ok x, middle) → left ≡ middle + met.1
  value-paid x h = (within-found left middle met (Ok x) h).paid

  pub value-goes : (x : ℤ) → evaluated_within left (named names (value_of s r)) ≡ Some (Ok x, middle) → (w : World) (rest : ℤ → ℕ → Act)
      → evaluating (text_at names s r) left (texts_of names s) w rest ≡ pay met.1 left w (rest x)
  value-goes x h w rest =
      evaluating-value w rest
      ∙ ap (λ (p : Evaluated). valued p left (texts_of names s) w rest) (within-found left middle met (Ok x) h).is

  module _ (A : World → Act) (rest : World → ℤ → ℕ → Act) (more : List (List ℕ)) (u : State) (after : ℕ) (result : Result Outcome WalkFault)
      (is : (w : World) → A w ≡ evaluating (text_at names s r) left (texts_of names s) w (rest w)) (less : middle ≤ left) where
    caused : (c : Cause) → evaluated_within left (named names (value_of s r)) ≡ Some (Err c, middle)
        → Answers (throw middle (texts_of names s) (error_of_cause c)) names s middle result more u after
        → Answers A names s left result more u after
    caused c h x =
        let found = within-found left middle met (Err c) h in
        paid-answers A met.1 (λ l w. throw l (texts_of names s) (error_of_cause c) w) names more s u left middle after result
        (λ w. is w ∙ (evaluating-value w (rest w)
        ∙ ap (λ (p : Evaluated). valued p left (texts_of names s) w (rest w)) found.is)) found.paid x

    pub fault-ends : (e : EvalFault)
        → IfSome (cause_of names e) (λ c. evaluated_within left (named names (value_of s r)) ≡ Some (Err c, middle))
        → (e ≡ fault.Spent → evaluated_within left (named names (value_of s r)) ≡ None)
        → AnswersFault e names s middle result more u after → Answers A names s left result more u after
    fault-ends fault.Memory h k x =
        subst (λ (q : Result Outcome WalkFault). Answers A names s left q more u after) (sym x.0)
        (answers-memory A names more s u left after (stays-equal names more s u x.1 x.2) (omega (arith, x.3, less)))
    fault-ends fault.Spent h k x =
        subst (λ (q : Result Outcome WalkFault). Answers A names s left q more u after) (sym x.0)
        (answers-spent A names more s u left after (stays-equal names more s u x.1 x.2) (omega (arith, x.3, less))
        (λ w same. subst (λ (a : Act). left < a.cost) (sym (is w ∙ evaluating-value w (rest w)))
        (valued-short met left (texts_of names s) w (rest w) (within-short left met (k refl)))))
    fault-ends fault.Unbound h k x = caused _ h (x _ refl)
    fault-ends (fault.Evaluable f n) h k x = caused _ h (x _ refl)
    fault-ends fault.Overflow h k x = caused _ h (x _ refl)
    fault-ends fault.ZeroDivisor h k x = caused _ h (x _ refl)
    fault-ends fault.Undefined h k x = caused _ h (x _ refl)
