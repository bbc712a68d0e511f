-- Small clauses, read with the operators at first.
use Rattle.std.specs.Prelude.{◌≡◌, ℕ, pos, negsuc, List, [], ◌∷◌, codes, refl}
use Rattle.std.specs.Result.{result_unwrap_or}
use lib.Utf8.{encode}
use Rattle.std.specs.Str.{chars}
use Rattle.op_logic.specs.Term.{Term, var, int, node, atom, no_args, arg}
use Rattle.op_term.specs.Ops.{iso_table, iso_operators, set_in}
use Rattle.op_term.specs.declared.ops.OpKind.{OpKind}
use Rattle.op_term.specs.declared.ops.OpKind.TheVariants.{Fy, Xf}
use Rattle.op_term.specs.declared.quotes.DoubleQuotes.TheVariants.{Codes, Chars, Atom}
use Rattle.op_reader.specs.declared.fault.ReadFaultKind.TheVariants.{Token as BadToken, NoEnd, Unbalanced, NoOperand, Priority}
use Rattle.op_token.specs.declared.token.TokenFaultKind.TheVariants.{BadChar, NumberRange}
use Rattle.op_reader.specs.Reading.{Outcome, term, end, refused, reading_of}
use Rattle.op_reader.specs.Row.{tree_of}

abbrev T : Type 0
T = Term (List ℕ)

abbrev a : T
a = atom (codes "a")

abbrev b : T
b = atom (codes "b")

abbrev c : T
c = atom (codes "c")

abbrev x : T
x = atom (codes "x")

abbrev nil : T
nil = atom (codes "[]")

abbrev one : List ℕ → T → T
one f t = node f (arg t no_args)

abbrev two : List ℕ → T → T → T
two f t u = node f (arg t (arg u no_args))

abbrev pair : T → T → T
pair t u = two (codes ".") t u

abbrev reads : List ℕ → Outcome
reads text = reading_of iso_table Codes text

-- with one operator of the user's own
abbrev reads_with : ℕ → OpKind → List ℕ → List ℕ → Outcome
reads_with priority kind name text = reading_of (result_unwrap_or (set_in iso_table (pos priority) kind name) iso_table) Codes text

pub an_atom : reads (codes "a.") ≡ term a [] 2
unfolding reading_of iso_table iso_operators tree_of
an_atom = refl

pub an_infix : reads (codes "a- b.") ≡ term (two (codes "-") a b) [] 5
unfolding reading_of iso_table iso_operators tree_of
an_infix = refl

pub left : reads (codes "a-b-c.") ≡ term (two (codes "-") (two (codes "-") a b) c) [] 6
unfolding reading_of iso_table iso_operators tree_of
left = refl

pub right : reads (codes "a^b^c.") ≡ term (two (codes "^") a (two (codes "^") b c)) [] 6
unfolding reading_of iso_table iso_operators tree_of
right = refl

pub neither : reads (codes "a=b=c.") ≡ refused 0 Priority
unfolding reading_of iso_table iso_operators tree_of
neither = refl

pub two_clauses : reads (codes " a :- b :- c .") ≡ refused 1 Priority
unfolding reading_of iso_table iso_operators tree_of
two_clauses = refl

pub a_compound : reads (codes "f(a,B, b, B,_,C).")
    ≡ term (node (codes "f") (arg a (arg (var 0) (arg b (arg (var 0) (arg (var 1) (arg (var 2) no_args)))))))
    ((codes "B", 0) ∷ (codes "C", 2) ∷ []) 17
unfolding reading_of iso_table iso_operators tree_of
a_compound = refl

pub anonymous : reads (codes "f(_,_a,_,_a).")
    ≡ term (node (codes "f") (arg (var 0) (arg (var 1) (arg (var 2) (arg (var 1) no_args))))) ((codes "_a", 1) ∷ []) 13
unfolding reading_of iso_table iso_operators tree_of
anonymous = refl

pub a_space_before : reads (codes "f (a).") ≡ refused 2 NoOperand
unfolding reading_of iso_table iso_operators tree_of
a_space_before = refl

pub no_argument : reads (codes "f().") ≡ refused 2 NoOperand
unfolding reading_of iso_table iso_operators tree_of
no_argument = refl

pub a_list : reads (codes "[a,b|x].") ≡ term (pair a (pair b x)) [] 8
unfolding reading_of iso_table iso_operators tree_of
a_list = refl

pub a_list_of_one : reads (codes "[a] .") ≡ term (pair a nil) [] 5
unfolding reading_of iso_table iso_operators tree_of
a_list_of_one = refl

pub the_empty_list : reads (codes "[ /**/ ].") ≡ term nil [] 9
unfolding reading_of iso_table iso_operators tree_of
the_empty_list = refl

pub a_second_bar : reads (codes "[a|b|c].") ≡ refused 4 NoOperand
unfolding reading_of iso_table iso_operators tree_of
a_second_bar = refl

pub a_comma_in_a_tail : reads (codes "[a|b,c].") ≡ refused 4 NoOperand
unfolding reading_of iso_table iso_operators tree_of
a_comma_in_a_tail = refl

pub a_bar_in_an_argument : reads (codes "f(a|b).") ≡ refused 3 NoOperand
unfolding reading_of iso_table iso_operators tree_of
a_bar_in_an_argument = refl

pub a_bar : reads (codes "a|b.") ≡ refused 1 NoOperand
unfolding reading_of iso_table iso_operators tree_of
a_bar = refl

pub no_first_element : reads (codes "[|a].") ≡ refused 1 NoOperand
unfolding reading_of iso_table iso_operators tree_of
no_first_element = refl

pub an_applied_list : reads (codes "[](a).") ≡ term (one (codes "[]") a) [] 6
unfolding reading_of iso_table iso_operators tree_of
an_applied_list = refl

pub applied_braces : reads (codes "{ }(a).") ≡ term (one (codes "{}") a) [] 7
unfolding reading_of iso_table iso_operators tree_of
applied_braces = refl

pub braces : reads (codes "{a,b}.") ≡ term (one (codes "{}") (two (codes ",") a b)) [] 6
unfolding reading_of iso_table iso_operators tree_of
braces = refl

pub empty_braces : reads (codes "{}.") ≡ term (atom (codes "{}")) [] 3
unfolding reading_of iso_table iso_operators tree_of
empty_braces = refl

pub a_part_in_brackets : reads (codes "(a,b).") ≡ term (two (codes ",") a b) [] 6
unfolding reading_of iso_table iso_operators tree_of
a_part_in_brackets = refl

pub brackets_in_arguments : reads (codes "f((a,b),c).") ≡ term (two (codes "f") (two (codes ",") a b) c) [] 11
unfolding reading_of iso_table iso_operators tree_of
brackets_in_arguments = refl

pub nothing_in_brackets : reads (codes "().") ≡ refused 1 NoOperand
unfolding reading_of iso_table iso_operators tree_of
nothing_in_brackets = refl

pub a_negative_number : reads (codes "-1.") ≡ term (int (negsuc 0)) [] 3
unfolding reading_of iso_table iso_operators tree_of
a_negative_number = refl

pub negative_zero : reads (codes "-0.") ≡ term (int (pos 0)) [] 3
unfolding reading_of iso_table iso_operators tree_of
negative_zero = refl

pub a_minus_before_a_space : reads (codes "- 1.") ≡ term (one (codes "-") (int (pos 1))) [] 4
unfolding reading_of iso_table iso_operators tree_of
a_minus_before_a_space = refl

pub a_minus_with_an_argument : reads (codes "-(1).") ≡ term (one (codes "-") (int (pos 1))) [] 5
unfolding reading_of iso_table iso_operators tree_of
a_minus_with_an_argument = refl

pub a_minus_before_brackets : reads (codes "- (1).") ≡ term (one (codes "-") (int (pos 1))) [] 6
unfolding reading_of iso_table iso_operators tree_of
a_minus_before_brackets = refl

pub a_quoted_minus : reads (codes "'-'1.") ≡ term (one (codes "-") (int (pos 1))) [] 5
unfolding reading_of iso_table iso_operators tree_of
a_quoted_minus = refl

pub a_difference : reads (codes "a-1.") ≡ term (two (codes "-") a (int (pos 1))) [] 4
unfolding reading_of iso_table iso_operators tree_of
a_difference = refl

pub minus_a_negative_number : reads (codes "a- -1.") ≡ term (two (codes "-") a (int (negsuc 0))) [] 6
unfolding reading_of iso_table iso_operators tree_of
minus_a_negative_number = refl

pub a_minus_in_a_list : reads (codes "[-].") ≡ term (pair (atom (codes "-")) nil) [] 4
unfolding reading_of iso_table iso_operators tree_of
a_minus_in_a_list = refl

pub a_minus_as_an_operand : reads (codes "- = x.") ≡ term (two (codes "=") (atom (codes "-")) x) [] 6
unfolding reading_of iso_table iso_operators tree_of
a_minus_as_an_operand = refl

pub a_minus_before_a_minus : reads (codes "- - a.") ≡ term (one (codes "-") (one (codes "-") a)) [] 6
unfolding reading_of iso_table iso_operators tree_of
a_minus_before_a_minus = refl

pub a_minus_before_a_call : reads (codes "- =(x).") ≡ term (one (codes "-") (one (codes "=") x)) [] 7
unfolding reading_of iso_table iso_operators tree_of
a_minus_before_a_call = refl

pub a_prefix_operator_as_an_argument : reads (codes "f(:- , a).") ≡ term (two (codes "f") (atom (codes ":-")) a) [] 10
unfolding reading_of iso_table iso_operators tree_of
a_prefix_operator_as_an_argument = refl

pub a_prefix_operator_before_brackets : reads (codes "\\+ (a,b).") ≡ term (one (codes "\\+") (two (codes ",") a b)) [] 9
unfolding reading_of iso_table iso_operators tree_of
a_prefix_operator_before_brackets = refl

pub a_prefix_operator_with_arguments : reads (codes "\\+(a,b).") ≡ term (two (codes "\\+") a b) [] 8
unfolding reading_of iso_table iso_operators tree_of
a_prefix_operator_with_arguments = refl

pub a_prefix_operator_alone : reads (codes "\\+ .") ≡ term (atom (codes "\\+")) [] 4
unfolding reading_of iso_table iso_operators tree_of
a_prefix_operator_alone = refl

pub an_infix_operator_as_an_operand : reads (codes "= = = .") ≡ term (two (codes "=") (atom (codes "=")) (atom (codes "="))) [] 7
unfolding reading_of iso_table iso_operators tree_of
an_infix_operator_as_an_operand = refl

pub a_rule : reads (codes "a:-b,c.") ≡ term (two (codes ":-") a (two (codes ",") b c)) [] 7
unfolding reading_of iso_table iso_operators tree_of
a_rule = refl

pub a_rule_as_an_argument : reads (codes "f(a:-b).") ≡ refused 0 Priority
unfolding reading_of iso_table iso_operators tree_of
a_rule_as_an_argument = refl

pub a_quoted_comma : reads (codes "a ',' b.") ≡ term (two (codes ",") a b) [] 8
unfolding reading_of iso_table iso_operators tree_of
a_quoted_comma = refl

pub a_quoted_comma_in_arguments : reads (codes "f(a ',' b).") ≡ refused 0 Priority
unfolding reading_of iso_table iso_operators tree_of
a_quoted_comma_in_arguments = refl

pub a_comma_first : reads (codes ", a.") ≡ refused 0 NoOperand
unfolding reading_of iso_table iso_operators tree_of
a_comma_first = refl

pub nothing : reads (codes ".") ≡ refused 0 NoOperand
unfolding reading_of iso_table iso_operators tree_of
nothing = refl

pub an_operand_too_much : reads (codes "a b.") ≡ refused 2 NoOperand
unfolding reading_of iso_table iso_operators tree_of
an_operand_too_much = refl

pub a_missing_operand : reads (codes "a = (b + ).") ≡ refused 9 NoOperand
unfolding reading_of iso_table iso_operators tree_of
a_missing_operand = refl

pub a_prefix_operator_before_an_infix_one : reads (codes "- , a.") ≡ term (two (codes ",") (atom (codes "-")) a) [] 6
unfolding reading_of iso_table iso_operators tree_of
a_prefix_operator_before_an_infix_one = refl

pub codes_of_a_text : reads (codes "\"ab\".") ≡ term (pair (int (pos 97)) (pair (int (pos 98)) nil)) [] 5
unfolding reading_of iso_table iso_operators tree_of chars
codes_of_a_text = refl

pub an_open_bracket : reads (codes "f(a.") ≡ refused 1 Unbalanced
unfolding reading_of iso_table iso_operators tree_of
an_open_bracket = refl

pub the_innermost_open_bracket : reads (codes "f([a.") ≡ refused 2 Unbalanced
unfolding reading_of iso_table iso_operators tree_of
the_innermost_open_bracket = refl

pub another_bracket : reads (codes "f([a) b.") ≡ refused 4 Unbalanced
unfolding reading_of iso_table iso_operators tree_of
another_bracket = refl

pub a_closing_bracket : reads (codes "a) b.") ≡ refused 1 Unbalanced
unfolding reading_of iso_table iso_operators tree_of
a_closing_bracket = refl

pub no_end : reads (codes "a b") ≡ refused 3 NoEnd
unfolding reading_of iso_table iso_operators tree_of
no_end = refl

pub layout_alone : reads (codes " % a.") ≡ end
unfolding reading_of iso_table iso_operators tree_of
layout_alone = refl

pub no_token : reads (codes "a ` .") ≡ refused 2 (BadToken BadChar)
unfolding reading_of iso_table iso_operators tree_of
no_token = refl

pub a_fault_behind_the_end : reads (codes "a. `") ≡ term a [] 2
unfolding reading_of iso_table iso_operators tree_of
a_fault_behind_the_end = refl

pub the_least_integer : reads (codes "-9223372036854775808.") ≡ term (int (negsuc 9223372036854775807)) [] 21
unfolding reading_of iso_table iso_operators tree_of
the_least_integer = refl

pub a_minus_that_makes_none : reads (codes "a -9223372036854775808.") ≡ refused 3 (BadToken NumberRange)
unfolding reading_of iso_table iso_operators tree_of
a_minus_that_makes_none = refl

pub a_minus_that_makes_none_late : reads (codes "f(a -9223372036854775808,b) b.") ≡ refused 28 NoOperand
unfolding reading_of iso_table iso_operators tree_of
a_minus_that_makes_none_late = refl

-- the flag for text in double quotes
pub characters_of_a_text : reading_of iso_table Chars (codes "\"ab\".") ≡ term (pair a (pair b nil)) [] 5
unfolding reading_of iso_table iso_operators tree_of chars encode
characters_of_a_text = refl

pub the_atom_of_a_text : reading_of iso_table Atom (codes "\"a b\".") ≡ term (atom (codes "a b")) [] 6
unfolding reading_of iso_table iso_operators tree_of
the_atom_of_a_text = refl

-- operators of the user's own
pub a_postfix_operator : reads_with 200 Xf (codes "!") (codes "a! = b.") ≡ term (two (codes "=") (one (codes "!") a) b) [] 7
unfolding reading_of iso_table iso_operators tree_of
a_postfix_operator = refl

pub a_prefix_operator_before_an_infix_only : reads_with 700 Fy (codes "p") (codes "p * x.")
    ≡ term (two (codes "*") (atom (codes "p")) x) [] 6
unfolding reading_of iso_table iso_operators tree_of
a_prefix_operator_before_an_infix_only = refl

pub a_prefix_operator_before_a_name : reads_with 700 Fy (codes "p") (codes "p p x.") ≡ term (one (codes "p") (one (codes "p") x)) [] 6
unfolding reading_of iso_table iso_operators tree_of
a_prefix_operator_before_a_name = refl

-- the - is no prefix operator here, and makes a negative number
pub a_prefix_operator_before_a_negative_number : reads_with 0 Fy (codes "-") (codes "\\+ -1.")
    ≡ term (one (codes "\\+") (int (negsuc 0))) [] 6
unfolding reading_of iso_table iso_operators tree_of
a_prefix_operator_before_a_negative_number = refl

pub a_prefix_operator_before_an_infix_minus : reads_with 0 Fy (codes "-") (codes "\\+ - 1.")
    ≡ term (two (codes "-") (atom (codes "\\+")) (int (pos 1))) [] 7
unfolding reading_of iso_table iso_operators tree_of
a_prefix_operator_before_an_infix_minus = refl
