-- Small rows, with their trees or refused.
use Rattle.std.specs.Prelude.{◌≡◌, ℕ, List, [], ◌∷◌, Option, Some, None, true, false, refl, codes}
use Rattle.op_logic.specs.Term.{Term, atom}
use Rattle.op_term.specs.declared.ops.OpKind.{OpKind}
use Rattle.op_term.specs.declared.ops.OpKind.TheVariants.{Xfx, Xfy, Yfx, Fy, Fx, Xf, Yf}
use Rattle.op_reader.specs.Row.{Member, operand, operator, is_row, with_one, with_two, tree, tree_of}

abbrev Name : Type 0
Name = List ℕ

abbrev op : Name → ℕ → OpKind → Member Name
op name priority kind = operator (record { name = name; priority = priority; kind = kind })

abbrev read : List (Member Name) → Option (Term Name)
read ps = tree 1200 ps

abbrev neck : Member Name
neck = op (codes ":-") 1200 Xfx

abbrev directive : Member Name
directive = op (codes ":-") 1200 Fx

abbrev comma : Member Name
comma = op (codes ",") 1000 Xfy

abbrev negation : Member Name
negation = op (codes "\\+") 900 Fy

abbrev eq : Member Name
eq = op (codes "=") 700 Xfx

abbrev plus : Member Name
plus = op (codes "+") 500 Yfx

abbrev minus : Member Name
minus = op (codes "-") 500 Yfx

abbrev times : Member Name
times = op (codes "*") 400 Yfx

abbrev neg : Member Name
neg = op (codes "-") 200 Fy

abbrev hat : Member Name
hat = op (codes "^") 200 Xfy

abbrev power : Member Name
power = op (codes "**") 200 Xfx

abbrev own_right : Member Name
own_right = op (codes "r") 500 Xfy

abbrev own_before : Member Name
own_before = op (codes "p") 500 Fy

abbrev own_before_x : Member Name
own_before_x = op (codes "q") 500 Fx

abbrev own_behind : Member Name
own_behind = op (codes "s") 500 Yf

abbrev own_behind_x : Member Name
own_behind_x = op (codes "z") 500 Xf

abbrev own_both : Member Name
own_both = op (codes "n") 500 Xfx

abbrev own_low : Member Name
own_low = op (codes "k") 100 Yf

abbrev a : Term Name
a = atom (codes "a")

abbrev b : Term Name
b = atom (codes "b")

abbrev c : Term Name
c = atom (codes "c")

abbrev d : Term Name
d = atom (codes "d")

-- a
pub a_single_operand : tree 0 (operand a ∷ []) ≡ Some a
unfolding tree_of
a_single_operand = refl

-- a - b - c
pub to_the_left : read (operand a ∷ minus ∷ operand b ∷ minus ∷ operand c ∷ []) ≡ Some (with_two (codes "-") (with_two (codes "-") a b) c)
unfolding tree_of
to_the_left = refl

-- a - b + c
pub left_of_two_names : read (operand a ∷ minus ∷ operand b ∷ plus ∷ operand c ∷ [])
    ≡ Some (with_two (codes "+") (with_two (codes "-") a b) c)
unfolding tree_of
left_of_two_names = refl

-- a , b , c
pub to_the_right : read (operand a ∷ comma ∷ operand b ∷ comma ∷ operand c ∷ []) ≡ Some (with_two (codes ",") a (with_two (codes ",") b c))
unfolding tree_of
to_the_right = refl

-- a = b = c
pub to_neither_side : read (operand a ∷ eq ∷ operand b ∷ eq ∷ operand c ∷ []) ≡ None
unfolding tree_of
to_neither_side = refl

-- a :- b , c
pub a_clause : read (operand a ∷ neck ∷ operand b ∷ comma ∷ operand c ∷ []) ≡ Some (with_two (codes ":-") a (with_two (codes ",") b c))
unfolding tree_of
a_clause = refl

-- a :- b :- c
pub two_necks : read (operand a ∷ neck ∷ operand b ∷ neck ∷ operand c ∷ []) ≡ None
unfolding tree_of
two_necks = refl

-- :- a :- b
pub a_directive_of_a_clause : read (directive ∷ operand a ∷ neck ∷ operand b ∷ []) ≡ None
unfolding tree_of
a_directive_of_a_clause = refl

-- a + b * c = d
pub three_levels : read (operand a ∷ plus ∷ operand b ∷ times ∷ operand c ∷ eq ∷ operand d ∷ [])
    ≡ Some (with_two (codes "=") (with_two (codes "+") a (with_two (codes "*") b c)) d)
unfolding tree_of
three_levels = refl

-- - - a
pub signs : read (neg ∷ neg ∷ operand a ∷ []) ≡ Some (with_one (codes "-") (with_one (codes "-") a))
unfolding tree_of
signs = refl

-- :- :- a
pub two_directives : read (directive ∷ directive ∷ operand a ∷ []) ≡ None
unfolding tree_of
two_directives = refl

-- - a ^ b
pub a_sign_over_a_power : read (neg ∷ operand a ∷ hat ∷ operand b ∷ []) ≡ Some (with_one (codes "-") (with_two (codes "^") a b))
unfolding tree_of
a_sign_over_a_power = refl

-- - a ^ b ^ c
pub a_sign_over_two_powers : read (neg ∷ operand a ∷ hat ∷ operand b ∷ hat ∷ operand c ∷ [])
    ≡ Some (with_one (codes "-") (with_two (codes "^") a (with_two (codes "^") b c)))
unfolding tree_of
a_sign_over_two_powers = refl

-- a ^ - b
pub a_sign_behind_a_power : read (operand a ∷ hat ∷ neg ∷ operand b ∷ []) ≡ Some (with_two (codes "^") a (with_one (codes "-") b))
unfolding tree_of
a_sign_behind_a_power = refl

-- - a ** b
pub a_sign_over_a_power_without_y : read (neg ∷ operand a ∷ power ∷ operand b ∷ [])
    ≡ Some (with_one (codes "-") (with_two (codes "**") a b))
unfolding tree_of
a_sign_over_a_power_without_y = refl

-- a ** - b
pub a_sign_behind_a_power_without_y : read (operand a ∷ power ∷ neg ∷ operand b ∷ []) ≡ None
unfolding tree_of
a_sign_behind_a_power_without_y = refl

-- a - - b - c
pub a_sign_within_a_sum : read (operand a ∷ minus ∷ neg ∷ operand b ∷ minus ∷ operand c ∷ [])
    ≡ Some (with_two (codes "-") (with_two (codes "-") a (with_one (codes "-") b)) c)
unfolding tree_of
a_sign_within_a_sum = refl

-- a = \+ b
pub a_negation_behind_a_lower_one : read (operand a ∷ eq ∷ negation ∷ operand b ∷ []) ≡ None
unfolding tree_of
a_negation_behind_a_lower_one = refl

-- \+ a = b
pub a_negation_over_an_equation : read (negation ∷ operand a ∷ eq ∷ operand b ∷ [])
    ≡ Some (with_one (codes "\\+") (with_two (codes "=") a b))
unfolding tree_of
a_negation_over_an_equation = refl

-- a , \+ b , c
pub a_negation_in_the_middle : read (operand a ∷ comma ∷ negation ∷ operand b ∷ comma ∷ operand c ∷ [])
    ≡ Some (with_two (codes ",") a (with_two (codes ",") (with_one (codes "\\+") b) c))
unfolding tree_of
a_negation_in_the_middle = refl

-- a r b - c
pub right_then_left : read (operand a ∷ own_right ∷ operand b ∷ minus ∷ operand c ∷ [])
    ≡ Some (with_two (codes "r") a (with_two (codes "-") b c))
unfolding tree_of
right_then_left = refl

-- a - b r c
pub left_then_right : read (operand a ∷ minus ∷ operand b ∷ own_right ∷ operand c ∷ []) ≡ None
unfolding tree_of
left_then_right = refl

-- a - b r c + d
pub left_right_left : read (operand a ∷ minus ∷ operand b ∷ own_right ∷ operand c ∷ plus ∷ operand d ∷ []) ≡ None
unfolding tree_of
left_right_left = refl

-- a r b - c + d
pub right_left_left : read (operand a ∷ own_right ∷ operand b ∷ minus ∷ operand c ∷ plus ∷ operand d ∷ [])
    ≡ Some (with_two (codes "r") a (with_two (codes "+") (with_two (codes "-") b c) d))
unfolding tree_of
right_left_left = refl

-- a r b - c r d
pub right_left_right : read (operand a ∷ own_right ∷ operand b ∷ minus ∷ operand c ∷ own_right ∷ operand d ∷ []) ≡ None
unfolding tree_of
right_left_right = refl

-- p a - b
pub before_then_left : read (own_before ∷ operand a ∷ minus ∷ operand b ∷ []) ≡ Some (with_one (codes "p") (with_two (codes "-") a b))
unfolding tree_of
before_then_left = refl

-- a - p b
pub left_then_before : read (operand a ∷ minus ∷ own_before ∷ operand b ∷ []) ≡ None
unfolding tree_of
left_then_before = refl

-- a r p b
pub right_then_before : read (operand a ∷ own_right ∷ own_before ∷ operand b ∷ []) ≡ Some (with_two (codes "r") a (with_one (codes "p") b))
unfolding tree_of
right_then_before = refl

-- q a - b
pub before_x_then_left : read (own_before_x ∷ operand a ∷ minus ∷ operand b ∷ []) ≡ Some (with_two (codes "-") (with_one (codes "q") a) b)
unfolding tree_of
before_x_then_left = refl

-- q a r b
pub before_x_then_right : read (own_before_x ∷ operand a ∷ own_right ∷ operand b ∷ []) ≡ None
unfolding tree_of
before_x_then_right = refl

-- p a n b
pub before_then_both : read (own_before ∷ operand a ∷ own_both ∷ operand b ∷ []) ≡ Some (with_one (codes "p") (with_two (codes "n") a b))
unfolding tree_of
before_then_both = refl

-- a n b - c
pub both_then_left : read (operand a ∷ own_both ∷ operand b ∷ minus ∷ operand c ∷ [])
    ≡ Some (with_two (codes "-") (with_two (codes "n") a b) c)
unfolding tree_of
both_then_left = refl

-- a n b r c
pub both_then_right : read (operand a ∷ own_both ∷ operand b ∷ own_right ∷ operand c ∷ []) ≡ None
unfolding tree_of
both_then_right = refl

-- a r b n c
pub right_then_both : read (operand a ∷ own_right ∷ operand b ∷ own_both ∷ operand c ∷ [])
    ≡ Some (with_two (codes "r") a (with_two (codes "n") b c))
unfolding tree_of
right_then_both = refl

-- a s s
pub behind_twice : read (operand a ∷ own_behind ∷ own_behind ∷ []) ≡ Some (with_one (codes "s") (with_one (codes "s") a))
unfolding tree_of
behind_twice = refl

-- a z z
pub behind_x_twice : read (operand a ∷ own_behind_x ∷ own_behind_x ∷ []) ≡ None
unfolding tree_of
behind_x_twice = refl

-- a - b s
pub behind_a_sum : read (operand a ∷ minus ∷ operand b ∷ own_behind ∷ []) ≡ Some (with_one (codes "s") (with_two (codes "-") a b))
unfolding tree_of
behind_a_sum = refl

-- a - b z
pub behind_x_a_sum : read (operand a ∷ minus ∷ operand b ∷ own_behind_x ∷ []) ≡ None
unfolding tree_of
behind_x_a_sum = refl

-- a r b s
pub behind_to_the_right : read (operand a ∷ own_right ∷ operand b ∷ own_behind ∷ [])
    ≡ Some (with_two (codes "r") a (with_one (codes "s") b))
unfolding tree_of
behind_to_the_right = refl

-- a s - b
pub behind_and_left : read (operand a ∷ own_behind ∷ minus ∷ operand b ∷ []) ≡ Some (with_two (codes "-") (with_one (codes "s") a) b)
unfolding tree_of
behind_and_left = refl

-- a s r b
pub behind_and_right : read (operand a ∷ own_behind ∷ own_right ∷ operand b ∷ []) ≡ None
unfolding tree_of
behind_and_right = refl

-- a - b k
pub behind_low : read (operand a ∷ minus ∷ operand b ∷ own_low ∷ []) ≡ Some (with_two (codes "-") a (with_one (codes "k") b))
unfolding tree_of
behind_low = refl

-- a s * b
pub behind_and_a_lower_one : read (operand a ∷ own_behind ∷ times ∷ operand b ∷ []) ≡ None
unfolding tree_of
behind_and_a_lower_one = refl

-- p a s
pub before_and_behind : read (own_before ∷ operand a ∷ own_behind ∷ []) ≡ Some (with_one (codes "p") (with_one (codes "s") a))
unfolding tree_of
before_and_behind = refl

-- q a s
pub before_x_and_behind : read (own_before_x ∷ operand a ∷ own_behind ∷ []) ≡ Some (with_one (codes "s") (with_one (codes "q") a))
unfolding tree_of
before_x_and_behind = refl

-- q a z
pub before_x_and_behind_x : read (own_before_x ∷ operand a ∷ own_behind_x ∷ []) ≡ None
unfolding tree_of
before_x_and_behind_x = refl

-- - a s
pub lower_before_and_behind : read (neg ∷ operand a ∷ own_behind ∷ []) ≡ Some (with_one (codes "s") (with_one (codes "-") a))
unfolding tree_of
lower_before_and_behind = refl

-- the bound of the whole row
pub within_its_bound : tree 700 (operand a ∷ eq ∷ operand b ∷ []) ≡ Some (with_two (codes "=") a b)
unfolding tree_of
within_its_bound = refl

pub above_its_bound : tree 699 (operand a ∷ eq ∷ operand b ∷ []) ≡ None
unfolding tree_of
above_its_bound = refl

-- members that alternate, and that don't
pub a_row : is_row (neg ∷ neg ∷ operand a ∷ own_behind ∷ own_behind ∷ eq ∷ negation ∷ operand b ∷ []) ≡ true
a_row = refl

pub an_operand_too_many : is_row (operand a ∷ operand b ∷ []) ≡ false
an_operand_too_many = refl

pub an_operand_too_few : is_row (operand a ∷ eq ∷ []) ≡ false
an_operand_too_few = refl
