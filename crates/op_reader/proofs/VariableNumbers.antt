-- Variables that are numbered by first occurrence.
use Rattle.std.proofs.Common.{◌≡◌, ℕ, suc, ◌+◌, ◌<◌, ◌≤◌, ◌==◌, Bool, true, false, ◌||◌, cond, List, [], ◌∷◌, ◌++◌, length, max}
use Rattle.std.proofs.Common.{Option, Some, None, refl, ap, sym, ◌∙◌, arith, subst, length-append}
use Rattle.std.specs.Prelude.{unwrap_or, bytes_eq}
use Rattle.std.proofs.lemmas.Bool.{eq-eqb}
use Rattle.op_logic.specs.Term.{Term, var, int, node, Args, no_args, arg, occurs, occurs_args, rename, rename_args, IsWithin, ArgsWithin}
use Rattle.op_logic.proofs.BoolCases.{by_test, by_order, if_true, if_false}
use Rattle.op_token.specs.declared.token.Token.{Token}
use Rattle.op_reader.specs.Reading.{AreCounted}
use Rattle.op_reader.specs.Words.{spelling, is_variable, is_anonymous, met_from, met_at, number_of, with_variable, met_behind, variables_of}
use Rattle.op_reader.specs.Words.{named_from}
use Rattle.op_reader.specs.Variables.{variables, args_variables, AreNumbered, HasVariables}

-- numbers below a count
abbrev AreBelow : ℕ → List ℕ → Type 0
AreBelow n [] = Unit {0}
AreBelow n (v ∷ vs) = (v < n) × AreBelow n vs

below_left : (n : ℕ) (vs ws : List ℕ) → AreBelow n (vs ++ ws) → AreBelow n vs
below_left n [] ws h = tt
below_left n (v ∷ vs) ws h = (h.0, below_left n vs ws h.1)

below_right : (n : ℕ) (vs ws : List ℕ) → AreBelow n (vs ++ ws) → AreBelow n ws
below_right n [] ws h = h
below_right n (v ∷ vs) ws h = below_right n vs ws h.1

-- whether a number is among some
abbrev has : ℕ → List ℕ → Bool
has v [] = false
has v (w ∷ ws) = (v == w) || has v ws

or_false : (b : Bool) → b ≡ (b || false)
or_false true = refl
or_false false = refl

or_more : (a b c : Bool) → (a || (b || c)) ≡ ((a || b) || c)
or_more true b c = refl
or_more false b c = refl

or_first : (a b : Bool) → a ≡ true → (a || b) ≡ true
or_first true b h = refl
or_first false b h = cc

or_second : (a b : Bool) → b ≡ true → (a || b) ≡ true
or_second true b h = refl
or_second false b h = h

has-append : (v : ℕ) (ws xs : List ℕ) → (has v ws || has v xs) ≡ has v (ws ++ xs)
has-append v [] xs = refl
has-append v (w ∷ ws) xs = sym (or_more (v == w) (has v ws) (has v xs)) ∙ ap (λ b. (v == w) || b) (has-append v ws xs)

module _ {N : Type 0} where
  mutual
    within_of : (n : ℕ) (t : Term N) → AreBelow n (variables t) → IsWithin n t
    within_of n (var v) h = h.0
    within_of n (int i) h = tt
    within_of n (node f ts) h = args_within_of n ts h

    args_within_of : (n : ℕ) (ts : Args N) → AreBelow n (args_variables ts) → ArgsWithin n ts
    args_within_of n no_args h = tt
    args_within_of n (arg t ts) h = (
      within_of n t (below_left n (variables t) (args_variables ts) h),
      args_within_of n ts (below_right n (variables t) (args_variables ts) h),
    )

  mutual
    occurs-has : (v : ℕ) (t : Term N) → occurs v t ≡ has v (variables t)
    occurs-has v (var w) = or_false (v == w)
    occurs-has v (int i) = refl
    occurs-has v (node f ts) = occurs_args-has v ts

    occurs_args-has : (v : ℕ) (ts : Args N) → occurs_args v ts ≡ has v (args_variables ts)
    occurs_args-has v no_args = refl
    occurs_args-has v (arg t ts) =
        ap (λ b. b || occurs_args v ts) (occurs-has v t)
        ∙ (ap (λ b. has v (variables t) || b) (occurs_args-has v ts) ∙ has-append v (variables t) (args_variables ts))

-- numbers by first occurrence are below their count, and all of them are there
numbered_below : (m : ℕ) (vs : List ℕ) (n : ℕ) → AreNumbered m vs n → (m ≤ n) × AreBelow n vs
numbered_below m [] n h = (omega arith, tt)
numbered_below m (v ∷ vs) n h = let i = numbered_below (max m (suc v)) vs n h.1 in (omega arith, (omega arith, i.1))

numbered_there : (m : ℕ) (vs : List ℕ) (n k : ℕ) → AreNumbered m vs n → m ≤ k → k < n → has k vs ≡ true
numbered_there m [] n k h l g = absurd (omega arith)
numbered_there m (v ∷ vs) n k h l g =
    by_order k (max m (suc v))
    (λ e. let first : v ≤ m = h.0 in or_first (k == v) (has k vs) (eq-eqb k v (omega arith)))
    (λ e. or_second (k == v) (has k vs) (numbered_there (max m (suc v)) vs n k h.1 e g))

-- the numbers of the variables of some tokens
abbrev pub numbers : List ℕ → List (List ℕ) → List Token → List ℕ
numbers text met [] = []
numbers text met (t ∷ ts) = cond (is_variable t.kind) (number_of met (spelling text t) ∷ []) [] ++ numbers text (met_behind text met t) ts

met_below : (n : ℕ) (met : List (List ℕ)) (name : List ℕ) (k : ℕ) → met_from n met name ≡ Some k → k < n + length met
met_below n [] name k h = cc
met_below n (w ∷ ws) name k h =
    by_test (bytes_eq name w)
    (λ e. let i : Some n ≡ Some k = sym (if_true _ _ _ e) ∙ h in let j : n ≡ k = cc in omega arith)
    (λ e. let i : k < suc n + length ws = met_below (suc n) ws name k (sym (if_false _ _ _ e) ∙ h) in omega arith)

met_at_below : (met : List (List ℕ)) (name : List ℕ) (k : ℕ) → met_at met name ≡ Some k → k < length met
met_at_below met name k h =
    by_test (is_anonymous name)
    (λ e. let i : None ≡ Some k = sym (if_true _ _ _ e) ∙ h in cc)
    (λ e. let i : k < 0 + length met = met_below 0 met name k (sym (if_false _ _ _ e) ∙ h) in omega arith)

number_step : (met : List (List ℕ)) (name : List ℕ) (o : Option ℕ) (vs : List ℕ) (n : ℕ) → ((k : ℕ) → o ≡ Some k → k < length met) →
    AreNumbered (length (elim o as (λ _. List (List ℕ)) [ Some n ↦ met | None ↦ met ++ name ∷ [] ])) vs n →
    AreNumbered (length met) (unwrap_or o (length met) ∷ vs) n
number_step met name None vs n g h =
    let e : length (met ++ name ∷ []) ≡ max (length met) (suc (length met)) = omega (arith, length-append met (name ∷ [])) in
    (omega arith, subst (λ (m : ℕ). AreNumbered m vs n) e h)
number_step met name (Some k) vs n g h =
    let l : k < length met = g k refl in
    let e : length met ≡ max (length met) (suc k) = omega arith in
    (omega arith, subst (λ (m : ℕ). AreNumbered m vs n) e h)

token_step : (b : Bool) (met : List (List ℕ)) (name : List ℕ) (vs : List ℕ) (n : ℕ) →
    AreNumbered (length (cond b (with_variable met name) met)) vs n →
    AreNumbered (length met) (cond b (number_of met name ∷ []) [] ++ vs) n
token_step true met name vs n h = number_step met name (met_at met name) vs n (met_at_below met name) h
token_step false met name vs n h = h

numbers_numbered : (text : List ℕ) (met : List (List ℕ)) (ts : List Token) →
    AreNumbered (length met) (numbers text met ts) (length (variables_of text met ts))
numbers_numbered text met [] = refl
numbers_numbered text met (t ∷ ts) =
    token_step (is_variable t.kind) met (spelling text t) (numbers text (met_behind text met t) ts)
    (length (variables_of text met (t ∷ ts)))
    (numbers_numbered text (met_behind text met t) ts)

-- the named ones
named_step : (b : Bool) (m : ℕ) (x : List ℕ × ℕ) (ns : List (List ℕ × ℕ)) → x.1 < m → AreCounted m ns → AreCounted m (cond b ns (x ∷ ns))
named_step true m x ns l h = h
named_step false m x ns l h = (l, h)

named_counted : (n : ℕ) (met : List (List ℕ)) → AreCounted (n + length met) (named_from n met)
named_counted n [] = tt
named_counted n (name ∷ names) =
    let e : suc n + length names ≡ n + length (name ∷ names) = omega arith in
    named_step (is_anonymous name) (n + length (name ∷ names)) (name, n) (named_from (suc n) names) (omega arith)
    (subst (λ (m : ℕ). AreCounted m (named_from (suc n) names)) e (named_counted (suc n) names))

-- a term whose variables are numbered
by_numbers : {N : Type 0} (n : ℕ) (t : Term N) (names : List (List ℕ × ℕ)) → AreNumbered 0 (variables t) n → AreCounted n names →
    HasVariables n t names
by_numbers n t names h c = record {
  within = within_of n t (numbered_below 0 (variables t) n h).1;
  there = λ v l. occurs-has v t ∙ numbered_there 0 (variables t) n v h (omega arith) l;
  numbered = h;
  named = c;
}

-- a term whose variables are those of some tokens
pub has_variables : {N : Type 0} (text : List ℕ) (ts : List Token) (t : Term N) → variables t ≡ numbers text [] ts →
    HasVariables (length (variables_of text [] ts)) t (named_from 0 (variables_of text [] ts))
has_variables text ts t e =
    let n = length (variables_of text [] ts) in
    by_numbers n t (named_from 0 (variables_of text [] ts))
    (subst (λ (vs : List ℕ). AreNumbered 0 vs n) (sym e) (numbers_numbered text [] ts))
    (subst (λ (m : ℕ). AreCounted m (named_from 0 (variables_of text [] ts))) (omega arith) (named_counted 0 (variables_of text [] ts)))

-- names change no variables
mutual
  variables-rename : {N M : Type 0} (f : N → M) (t : Term N) → variables (rename f t) ≡ variables t
  variables-rename f (var v) = refl
  variables-rename f (int i) = refl
  variables-rename f (node n ts) = args_variables-rename f ts

  args_variables-rename : {N M : Type 0} (f : N → M) (ts : Args N) → args_variables (rename_args f ts) ≡ args_variables ts
  args_variables-rename f no_args = refl
  args_variables-rename f (arg t ts) =
      ap (λ vs. vs ++ args_variables (rename_args f ts)) (variables-rename f t) ∙ ap (λ vs. variables t ++ vs) (args_variables-rename f ts)

pub has_unnamed : {N M : Type 0} (f : N → M) (n : ℕ) (t : Term N) (names : List (List ℕ × ℕ)) → HasVariables n (rename f t) names →
    HasVariables n t names
has_unnamed f n t names h = by_numbers n t names (subst (λ (vs : List ℕ). AreNumbered 0 vs n) (variables-rename f t) h.numbered) h.named
