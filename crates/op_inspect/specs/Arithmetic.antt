-- Arithmetic over integers of 64 bits (ISO/IEC 13211-1, 9.1, 9.3 and 9.4; shift counts are this project's own): the functions by their
-- names, their values, and the value of an expression with the count of its nodes (7.9).
use Rattle.std.specs.Prelude.{ℕ, zero, suc, ◌+◌, ◌/◌, ◌^◌, nat_lt, Bool, List, codes, bytes_eq, if◌then◌else◌}
use Rattle.std.specs.Prelude.{ℤ, pos, negsuc, neg_ℤ, ◌+ℤ◌, ◌-ℤ◌, ◌*ℤ◌, int_div, unsigned_abs, Option, Some, None}
use Rattle.std.specs.Prelude.{Result, Ok, Err}
use Rattle.std.specs.Int.{int_min, int_max, int_signum, int_bit_and, int_bit_or, int_bit_not, w64}
use Rattle.op_logic.specs.Term.{Term, var, int, node, no_args, arg, arity}
use Rattle.op_inspect.specs.declared.fault.EvaluationError.{EvaluationError}
use Rattle.op_inspect.specs.declared.fault.EvaluationError.TheVariants.{Overflow, ZeroDivisor, Undefined}
use Rattle.op_inspect.specs.declared.function.Unary.{Unary}
use Rattle.op_inspect.specs.declared.function.Unary.TheVariants.{Identity, Negation, Magnitude, Sign, Complement}
use Rattle.op_inspect.specs.declared.function.Binary.{Binary}
use Rattle.op_inspect.specs.declared.function.Binary.TheVariants.{Sum, Difference, Product, Quotient, Remainder, Floor, Modulus}
use Rattle.op_inspect.specs.declared.function.Binary.TheVariants.{Least, Greatest, And, Or, ShiftLeft, ShiftRight}

-- the functions of one argument, and of two; another name is no function's
abbrev pub unary_of : List ℕ → Option Unary
unary_of name =
    if bytes_eq name (codes "+") then Some Identity else
    if bytes_eq name (codes "-") then Some Negation else
    if bytes_eq name (codes "abs") then Some Magnitude else
    if bytes_eq name (codes "sign") then Some Sign else
    if bytes_eq name (codes "\\") then Some Complement else
    None

abbrev pub other_binary_of : List ℕ → Option Binary
other_binary_of name =
    if bytes_eq name (codes "min") then Some Least else
    if bytes_eq name (codes "max") then Some Greatest else
    if bytes_eq name (codes "/\\") then Some And else
    if bytes_eq name (codes "\\/") then Some Or else
    if bytes_eq name (codes "<<") then Some ShiftLeft else
    if bytes_eq name (codes ">>") then Some ShiftRight else
    None

abbrev pub binary_of : List ℕ → Option Binary
binary_of name =
    if bytes_eq name (codes "+") then Some Sum else
    if bytes_eq name (codes "-") then Some Difference else
    if bytes_eq name (codes "*") then Some Product else
    if bytes_eq name (codes "//") then Some Quotient else
    if bytes_eq name (codes "rem") then Some Remainder else
    if bytes_eq name (codes "div") then Some Floor else
    if bytes_eq name (codes "mod") then Some Modulus else
    other_binary_of name

-- an integer, if it has 64 bits
abbrev pub is_small : ℤ → Bool
is_small (pos n) = nat_lt n (2 ^ 63)
is_small (negsuc n) = nat_lt n (2 ^ 63)

abbrev pub Answer : Type 0
Answer = Result ℤ EvaluationError

abbrev pub within : ℤ → Answer
within z = if is_small z then Ok z else Err Overflow

-- the quotient of an integer and a natural number, rounded down
abbrev pub rounded_down : ℤ → ℕ → ℤ
rounded_down (pos a) b = pos (a / b)
rounded_down (negsuc a) b = negsuc (a / b)

-- the quotient of two integers, rounded down
abbrev pub floor : ℤ → ℤ → ℤ
floor x (pos b) = rounded_down x b
floor x (negsuc b) = rounded_down (neg_ℤ x) (suc b)

-- an answer, unless the divisor is 0
abbrev pub divided : ℤ → Answer → Answer
divided (pos zero) answer = Err ZeroDivisor
divided (pos (suc n)) answer = answer
divided (negsuc n) answer = answer

-- how many bits to shift by, from 0 to 63
abbrev pub count_of : ℤ → Option ℕ
count_of (pos n) = if nat_lt n 64 then Some n else None
count_of (negsuc n) = None

abbrev pub shifted : Option ℕ → (ℕ → Answer) → Answer
shifted None answer = Err Undefined
shifted (Some n) answer = answer n

-- `abs` and `-` of the least integer are past 64 bits; `\` turns each bit
abbrev pub unary_value : Unary → ℤ → Answer
unary_value Identity x = Ok x
unary_value Negation x = within (neg_ℤ x)
unary_value Magnitude x = within (pos (unsigned_abs x))
unary_value Sign x = Ok (int_signum x)
unary_value Complement x = Ok (int_bit_not w64 x)

-- `//` cuts toward zero and `div` rounds down; `rem` and `mod` are what is left behind them, so that `mod` is 0 or has the divisor's sign;
-- `/\` and `\/` go by the 64 bits of two's complement; a shift multiplies, or divides and rounds down
abbrev pub binary_value : Binary → ℤ → ℤ → Answer
binary_value Sum x y = within (x +ℤ y)
binary_value Difference x y = within (x -ℤ y)
binary_value Product x y = within (x *ℤ y)
binary_value Quotient x y = divided y (within (int_div x y))
binary_value Remainder x y = divided y (Ok (x -ℤ int_div x y *ℤ y))
binary_value Floor x y = divided y (within (floor x y))
binary_value Modulus x y = divided y (Ok (x -ℤ floor x y *ℤ y))
binary_value Least x y = Ok (int_min x y)
binary_value Greatest x y = Ok (int_max x y)
binary_value And x y = Ok (int_bit_and w64 x y)
binary_value Or x y = Ok (int_bit_or w64 x y)
binary_value ShiftLeft x y = shifted (count_of y) (λ n. within (x *ℤ pos (2 ^ n)))
binary_value ShiftRight x y = shifted (count_of y) (λ n. Ok (rounded_down x (2 ^ n)))

-- why an expression has no value (7.12.2): a variable, a name and a number of arguments that are no function's, or an error of a function
pub data Cause : Type 0 where
  instantiation : Cause
  evaluable : List ℕ → ℕ → Cause
  evaluation : EvaluationError → Cause

-- a value or the cause that there is none, and how many nodes were met
abbrev pub Evaluated : Type 0
Evaluated = Result ℤ Cause × ℕ

abbrev pub add_nodes : ℕ → Evaluated → Evaluated
add_nodes n e = (e.0, n + e.1)

-- it goes on with a value, and a cause ends it
abbrev pub and_then : Evaluated → (ℤ → Evaluated) → Evaluated
and_then (Ok x, n) rest = add_nodes n (rest x)
and_then (Err c, n) rest = (Err c, n)

-- what a function answers for values: no further node is met
abbrev pub answered : Answer → Evaluated
answered (Ok x) = (Ok x, 0)
answered (Err e) = (Err (evaluation e), 0)

-- it goes on with a function, and ends where there is none of a name and a number of arguments
abbrev pub if_function : {F : Type 0} → Option F → List ℕ → ℕ → (F → Evaluated) → Evaluated
if_function None name n rest = (Err (evaluable name n), 0)
if_function (Some f) name n rest = rest f

-- an expression from the left: each node is met before its arguments, and a function is looked for before they are evaluated
abbrev pub evaluated : Term (List ℕ) → Evaluated
evaluated (var v) = (Err instantiation, 1)
evaluated (int i) = (Ok i, 1)
evaluated (node f no_args) = (Err (evaluable f 0), 1)
evaluated (node f (arg t no_args)) =
    add_nodes 1 (if_function (unary_of f) f 1 (λ g. and_then (evaluated t) (λ x. answered (unary_value g x))))
evaluated (node f (arg t (arg u no_args))) =
    add_nodes 1 (if_function (binary_of f) f 2 (λ g.
    and_then (evaluated t) (λ x. and_then (evaluated u) (λ y. answered (binary_value g x y)))))
evaluated (node f (arg t (arg u (arg v ts)))) = (Err (evaluable f (3 + arity ts)), 1)
