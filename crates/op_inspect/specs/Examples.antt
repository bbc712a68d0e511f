-- Small expressions, each function, and each error at its border.
use Rattle.std.specs.Prelude.{◌≡◌, ℕ, ◌-◌, List, ℤ, pos, negsuc, codes, Ok, Err, Some, None, refl}
use Rattle.op_logic.specs.Term.{Term, var, int, node, no_args, arg, atom}
use Rattle.op_inspect.specs.Arithmetic.{Evaluated, instantiation, evaluable, evaluation, evaluated}
use Rattle.op_inspect.specs.Told.{evaluated_within}
use Rattle.op_inspect.specs.declared.fault.EvaluationError.{EvaluationError}
use Rattle.op_inspect.specs.declared.fault.EvaluationError.TheVariants.{Overflow, ZeroDivisor, Undefined}

abbrev one : List ℕ → ℤ → Term (List ℕ)
one f x = node f (arg (int x) no_args)

abbrev two : List ℕ → ℤ → ℤ → Term (List ℕ)
two f x y = node f (arg (int x) (arg (int y) no_args))

-- 2 ^ 63 - 1 and -2 ^ 63
abbrev greatest : ℤ
greatest = pos 9223372036854775807

abbrev least : ℤ
least = negsuc 9223372036854775807

abbrev minus : ℕ → ℤ
minus n = negsuc (n - 1)

abbrev gives : ℤ → Evaluated
gives x = (Ok x, 3)

abbrev fails : EvaluationError → Evaluated
fails e = (Err (evaluation e), 3)

-- sums, differences and products, up to the border and past it
pub a_sum : evaluated (two (codes "+") (pos 2) (pos 3)) ≡ gives (pos 5)
a_sum = refl

pub the_greatest_sum : evaluated (two (codes "+") (pos 9223372036854775806) (pos 1)) ≡ gives greatest
the_greatest_sum = refl

pub a_sum_past_the_border : evaluated (two (codes "+") greatest (pos 1)) ≡ fails Overflow
a_sum_past_the_border = refl

pub the_least_difference : evaluated (two (codes "-") (minus 9223372036854775807) (pos 1)) ≡ gives least
the_least_difference = refl

pub a_difference_past_the_border : evaluated (two (codes "-") least (pos 1)) ≡ fails Overflow
a_difference_past_the_border = refl

pub the_least_product : evaluated (two (codes "*") (pos 4611686018427387904) (minus 2)) ≡ gives least
the_least_product = refl

pub a_product_past_the_border : evaluated (two (codes "*") (pos 4611686018427387904) (pos 2)) ≡ fails Overflow
a_product_past_the_border = refl

-- -7 by 2: cut toward zero, and rounded down
pub a_quotient : evaluated (two (codes "//") (minus 7) (pos 2)) ≡ gives (minus 3)
a_quotient = refl

pub a_remainder : evaluated (two (codes "rem") (minus 7) (pos 2)) ≡ gives (minus 1)
a_remainder = refl

pub a_floor : evaluated (two (codes "div") (minus 7) (pos 2)) ≡ gives (minus 4)
a_floor = refl

pub a_modulus : evaluated (two (codes "mod") (minus 7) (pos 2)) ≡ gives (pos 1)
a_modulus = refl

-- 7 by -2
pub a_quotient_by_a_negative : evaluated (two (codes "//") (pos 7) (minus 2)) ≡ gives (minus 3)
a_quotient_by_a_negative = refl

pub a_remainder_by_a_negative : evaluated (two (codes "rem") (pos 7) (minus 2)) ≡ gives (pos 1)
a_remainder_by_a_negative = refl

pub a_floor_by_a_negative : evaluated (two (codes "div") (pos 7) (minus 2)) ≡ gives (minus 4)
a_floor_by_a_negative = refl

pub a_modulus_by_a_negative : evaluated (two (codes "mod") (pos 7) (minus 2)) ≡ gives (minus 1)
a_modulus_by_a_negative = refl

-- -7 by -2
pub a_quotient_of_negatives : evaluated (two (codes "//") (minus 7) (minus 2)) ≡ gives (pos 3)
a_quotient_of_negatives = refl

pub a_floor_of_negatives : evaluated (two (codes "div") (minus 7) (minus 2)) ≡ gives (pos 3)
a_floor_of_negatives = refl

pub a_modulus_of_negatives : evaluated (two (codes "mod") (minus 7) (minus 2)) ≡ gives (minus 1)
a_modulus_of_negatives = refl

-- the least integer by -1
pub a_quotient_past_the_border : evaluated (two (codes "//") least (minus 1)) ≡ fails Overflow
a_quotient_past_the_border = refl

pub a_floor_past_the_border : evaluated (two (codes "div") least (minus 1)) ≡ fails Overflow
a_floor_past_the_border = refl

pub the_least_remainder : evaluated (two (codes "rem") least (minus 1)) ≡ gives (pos 0)
the_least_remainder = refl

pub the_least_modulus : evaluated (two (codes "mod") least (minus 1)) ≡ gives (pos 0)
the_least_modulus = refl

-- by zero
pub a_quotient_by_zero : evaluated (two (codes "//") (pos 1) (pos 0)) ≡ fails ZeroDivisor
a_quotient_by_zero = refl

pub a_remainder_by_zero : evaluated (two (codes "rem") (pos 1) (pos 0)) ≡ fails ZeroDivisor
a_remainder_by_zero = refl

pub a_floor_by_zero : evaluated (two (codes "div") least (pos 0)) ≡ fails ZeroDivisor
a_floor_by_zero = refl

pub a_modulus_by_zero : evaluated (two (codes "mod") (pos 0) (pos 0)) ≡ fails ZeroDivisor
a_modulus_by_zero = refl

-- the lesser and the greater of two
pub the_lesser : evaluated (two (codes "min") (minus 1) (pos 2)) ≡ gives (minus 1)
the_lesser = refl

pub the_greater : evaluated (two (codes "max") (minus 1) (pos 2)) ≡ gives (pos 2)
the_greater = refl

-- bits of two's complement
pub bits_of_both : evaluated (two (codes "/\\") (minus 4) (pos 6)) ≡ gives (pos 4)
bits_of_both = refl

pub bits_of_either : evaluated (two (codes "\\/") (minus 4) (pos 1)) ≡ gives (minus 3)
bits_of_either = refl

-- shifts, and their counts
pub a_shift_to_the_left : evaluated (two (codes "<<") (pos 3) (pos 4)) ≡ gives (pos 48)
a_shift_to_the_left = refl

pub the_least_shift : evaluated (two (codes "<<") (minus 1) (pos 63)) ≡ gives least
the_least_shift = refl

pub a_shift_past_the_border : evaluated (two (codes "<<") (pos 1) (pos 63)) ≡ fails Overflow
a_shift_past_the_border = refl

pub no_shift_by_sixty_four : evaluated (two (codes "<<") (pos 0) (pos 64)) ≡ fails Undefined
no_shift_by_sixty_four = refl

pub no_shift_by_less_than_nothing : evaluated (two (codes ">>") (pos 0) (minus 1)) ≡ fails Undefined
no_shift_by_less_than_nothing = refl

pub a_shift_to_the_right : evaluated (two (codes ">>") (minus 7) (pos 1)) ≡ gives (minus 4)
a_shift_to_the_right = refl

-- `>>` keeps the sign
pub a_shift_of_the_least : evaluated (two (codes ">>") least (pos 63)) ≡ gives (minus 1)
a_shift_of_the_least = refl

pub no_shift_to_the_right_by_sixty_four : evaluated (two (codes ">>") (pos 1) (pos 64)) ≡ fails Undefined
no_shift_to_the_right_by_sixty_four = refl

-- functions of one argument
pub a_negation : evaluated (one (codes "-") (pos 5)) ≡ (Ok (minus 5), 2)
a_negation = refl

pub a_negation_past_the_border : evaluated (one (codes "-") least) ≡ (Err (evaluation Overflow), 2)
a_negation_past_the_border = refl

pub an_identity : evaluated (one (codes "+") least) ≡ (Ok least, 2)
an_identity = refl

pub a_magnitude : evaluated (one (codes "abs") (minus 5)) ≡ (Ok (pos 5), 2)
a_magnitude = refl

pub a_magnitude_past_the_border : evaluated (one (codes "abs") least) ≡ (Err (evaluation Overflow), 2)
a_magnitude_past_the_border = refl

pub a_sign : evaluated (one (codes "sign") (minus 5)) ≡ (Ok (minus 1), 2)
a_sign = refl

pub the_sign_of_zero : evaluated (one (codes "sign") (pos 0)) ≡ (Ok (pos 0), 2)
the_sign_of_zero = refl

pub a_complement : evaluated (one (codes "\\") (pos 5)) ≡ (Ok (minus 6), 2)
a_complement = refl

pub the_complement_of_the_least : evaluated (one (codes "\\") least) ≡ (Ok greatest, 2)
the_complement_of_the_least = refl

-- a variable is met, and no node behind it
pub a_variable : evaluated (node (codes "+") (arg (var 0) (arg (atom (codes "a")) no_args))) ≡ (Err instantiation, 2)
a_variable = refl

-- a name that is no function's is told before its arguments are evaluated
pub no_function : evaluated (node (codes "f") (arg (var 0) no_args)) ≡ (Err (evaluable (codes "f") 1), 1)
no_function = refl

pub an_atom : evaluated (node (codes "*") (arg (int (pos 1)) (arg (atom (codes "+")) no_args))) ≡ (Err (evaluable (codes "+") 0), 3)
an_atom = refl

pub three_arguments : evaluated (node (codes "+") (arg (var 0) (arg (var 1) (arg (var 2) no_args)))) ≡ (Err (evaluable (codes "+") 3), 1)
three_arguments = refl

-- 1 // 0 + X: a function has its error once its arguments are evaluated, before the next argument is met
pub an_error_on_the_left : evaluated (node (codes "+") (arg (two (codes "//") (pos 1) (pos 0)) (arg (var 0) no_args)))
    ≡ (Err (evaluation ZeroDivisor), 4)
an_error_on_the_left = refl

-- a step for each node
pub enough_steps : evaluated_within 3 (two (codes "+") (pos 1) (pos 2)) ≡ Some (Ok (pos 3), 0)
enough_steps = refl

pub a_step_too_few : evaluated_within 2 (two (codes "+") (pos 1) (pos 2)) ≡ None
a_step_too_few = refl
