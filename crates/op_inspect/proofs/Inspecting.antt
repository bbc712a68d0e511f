-- The acts of goals by how many arguments they have.
use Rattle.std.proofs.Common.{◌≡◌, ◌≢◌, ℕ, ◌==◌, true, false, List, [], ◌∷◌, length, get_or, Option, Some, option_map}
use Rattle.std.proofs.Common.{sym, ap, ◌∙◌, arith}
use Rattle.std.specs.Option.{is_some}
use Rattle.op_logic.specs.Term.{node}
use Rattle.op_logic.specs.Names.{name_at, named}
use Rattle.op_logic.proofs.AppliedBindings.{eq_of}
use Rattle.op_logic.proofs.BoolCases.{by_test, if_false}
use Rattle.op_term.specs.Places.{args_at}
use Rattle.op_bind.specs.State.{State}
use Rattle.op_trace.specs.Database.{Text}
use Rattle.op_trace.specs.World.{World}
use Rattle.op_trace.specs.Act.{Act}
use Rattle.op_inspect.specs.Outcomes.{text_at, texts_of}
use Rattle.op_inspect.specs.Inspected.{of_one, of_two, of_three, act_of_one, act_of_two, act_of_three, act_if_any, act_on_terms, is_builtin}
use Rattle.op_inspect.specs.declared.builtin.OfOne.{OfOne}
use Rattle.op_inspect.specs.declared.builtin.OfTwo.{OfTwo}
use Rattle.op_inspect.specs.declared.builtin.OfThree.{OfThree}

pub one-argument : (xs : List ℕ) (a : ℕ) → length xs ≡ 1 → a ≡ get_or xs 0 a → xs ≡ a ∷ []
one-argument [] a h e = absurd (omega (arith, h))
one-argument (x ∷ []) a h e = ap (λ (y : ℕ). y ∷ []) (sym e)
one-argument (x ∷ y ∷ xs) a h e = absurd (omega (arith, h))

pub two-arguments : (xs : List ℕ) (a b : ℕ) → length xs ≡ 2 → a ≡ get_or xs 0 a → b ≡ get_or xs 1 b → xs ≡ a ∷ b ∷ []
two-arguments [] a b h e f = absurd (omega (arith, h))
two-arguments (x ∷ []) a b h e f = absurd (omega (arith, h))
two-arguments (x ∷ y ∷ []) a b h e f = ap (λ (z : ℕ). z ∷ y ∷ []) (sym e) ∙ ap (λ (z : ℕ). a ∷ z ∷ []) (sym f)
two-arguments (x ∷ y ∷ z ∷ xs) a b h e f = absurd (omega (arith, h))

pub three-arguments : (xs : List ℕ) (a b c : ℕ) → length xs ≡ 3 → a ≡ get_or xs 0 a → b ≡ get_or xs 1 b → c ≡ get_or xs 2 c
    → xs ≡ a ∷ b ∷ c ∷ []
three-arguments [] a b c h e f g = absurd (omega (arith, h))
three-arguments (x ∷ []) a b c h e f g = absurd (omega (arith, h))
three-arguments (x ∷ y ∷ []) a b c h e f g = absurd (omega (arith, h))
three-arguments (x ∷ y ∷ z ∷ []) a b c h e f g =
    ap (λ (u : ℕ). u ∷ y ∷ z ∷ []) (sym e) ∙ (ap (λ (u : ℕ). a ∷ u ∷ z ∷ []) (sym f) ∙ ap (λ (u : ℕ). a ∷ b ∷ u ∷ []) (sym g))
three-arguments (x ∷ y ∷ z ∷ u ∷ xs) a b c h e f g = absurd (omega (arith, h))

-- a builtin that is neither of one argument nor of two is of three
pub is-three : (f : Text) (n : ℕ) → is_builtin f n ≡ true → n ≢ 1 → n ≢ 2 → n ≡ 3
is-three f n h one two =
    by_test (n == 1) (λ e. absurd (one (eq_of n 1 e)))
    (λ e. by_test (n == 2) (λ g. absurd (two (eq_of n 2 g)))
    (λ g. by_test (n == 3) (eq_of n 3) (λ k. absurd (no
    (sym (if_false (n == 1) (is_some (of_one f)) _ e ∙ (if_false (n == 2) (is_some (of_two f)) _ g
    ∙ if_false (n == 3) (is_some (of_three f)) false k)) ∙ h)))))
  where
    no : false ≡ true → ⊥
    no e = cc

module _ (names : List (List ℕ)) (s : State) (f left : ℕ) (args : List ℕ) (w : World) where
  abbrev the_act : List ℕ → Act
  the_act xs = act_on_terms left (named names (node f (args_at s.terms xs))) (texts_of names s) w

  pub one-act : (a : ℕ) (k : OfOne) → args ≡ a ∷ [] → of_one (name_at names f) ≡ Some k
      → the_act args ≡ act_of_one k (text_at names s a) left (texts_of names s) w
  one-act a k e h =
      ap the_act e
      ∙ ap (λ (o : Option OfOne). act_if_any w (option_map (λ b. act_of_one b (text_at names s a) left (texts_of names s) w) o)) h

  pub two-act : (a b : ℕ) (k : OfTwo) → args ≡ a ∷ b ∷ [] → of_two (name_at names f) ≡ Some k
      → the_act args ≡ act_of_two k (text_at names s a) (text_at names s b) left (texts_of names s) w
  two-act a b k e h =
      ap the_act e ∙ ap (λ (o : Option OfTwo). act_if_any w
      (option_map (λ i. act_of_two i (text_at names s a) (text_at names s b) left (texts_of names s) w) o)) h

  pub three-act : (a b c : ℕ) (k : OfThree) → args ≡ a ∷ b ∷ c ∷ [] → of_three (name_at names f) ≡ Some k
      → the_act args ≡ act_of_three k (text_at names s a) (text_at names s b) (text_at names s c) left (texts_of names s) w
  three-act a b c k e h =
      ap the_act e ∙ ap (λ (o : Option OfThree). act_if_any w
      (option_map (λ i. act_of_three i (text_at names s a) (text_at names s b) (text_at names s c) left (texts_of names s) w) o)) h
