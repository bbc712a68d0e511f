-- Small terms, written.
use Rattle.std.specs.Prelude.{◌≡◌, ℕ, pos, negsuc, List, refl, codes}
use Rattle.std.specs.Fmt.{digits}
use lib.Utf8.{encode}
use Rattle.std.specs.Str.{chars}
use Rattle.op_logic.specs.Term.{Term, var, int, node, Args, no_args, arg, atom}
use Rattle.op_term.specs.declared.ops.OpKind.TheVariants.{Xfx}
use Rattle.op_term.specs.Ops.{iso_operators, iso_table, with_op}
use Rattle.op_writer.specs.declared.style.Style.TheVariants.{Quoted, Canonical}
use Rattle.op_writer.specs.declared.bound.Bound.TheVariants.{Operand}
use Rattle.op_writer.specs.Text.{text_of, text_in}

abbrev Text : Type 0
Text = Term (List ℕ)

abbrev one : Text → Args (List ℕ)
one t = arg t no_args

abbrev two : Text → Text → Args (List ℕ)
two t u = arg t (arg u no_args)

abbrev written : Text → List ℕ
written t = text_of iso_table Quoted t 1200

-- the prefix operator - before a digit
pub a_minus_and_a_number : written (node (codes "t") (one (node (codes "-") (one (int (pos 1)))))) ≡ codes "t(- 1)"
unfolding iso_table iso_operators digits
a_minus_and_a_number = refl

-- two symbol characters at a seam
pub a_negative_number : written (node (codes "t") (one (node (codes "-") (two (atom (codes "a")) (int (negsuc 0)))))) ≡ codes "t(a- -1)"
unfolding iso_table iso_operators digits
a_negative_number = refl

pub an_operator_alone : written (node (codes "t") (one (node (codes ".") (two (atom (codes "-")) (atom (codes "[]")))))) ≡ codes "t([-])"
unfolding iso_table iso_operators digits
an_operator_alone = refl

pub an_operator_as_an_operand : written (node (codes "t") (one (node (codes "=") (two (atom (codes "-")) (atom (codes "x"))))))
    ≡ codes "t((-)=x)"
unfolding iso_table iso_operators digits
an_operator_as_an_operand = refl

pub a_new_operator : text_of (with_op iso_table 700 Xfx (codes "===>")) Quoted
    (node (codes "p") (one (node (codes "===>") (two (atom (codes "a")) (atom (codes "b")))))) 1200 ≡ codes "p(a===>b)"
unfolding iso_table iso_operators digits
a_new_operator = refl

pub a_value_of_a_binding : text_in iso_table Quoted (Operand 699) (atom (codes "<")) ≡ codes "(<)"
unfolding iso_table iso_operators digits
a_value_of_a_binding = refl

pub a_list_and_its_rest : written (node (codes ".") (two (atom (codes "a")) (node (codes ".") (two (var 3) (var 0))))) ≡ codes "[a,_3|_0]"
unfolding iso_table iso_operators digits
a_list_and_its_rest = refl

-- a bracket behind a prefix operator
pub a_bracket : written (node (codes "\\+") (one (node (codes ",") (two (atom (codes "a")) (atom (codes "b")))))) ≡ codes "\\+ (a,b)"
unfolding iso_table iso_operators digits
a_bracket = refl

pub equal_priority : written (node (codes "-") (two (int (pos 1)) (node (codes "-") (two (int (pos 2)) (int (pos 3)))))) ≡ codes "1-(2-3)"
unfolding iso_table iso_operators digits
equal_priority = refl

pub words : written (node (codes "is") (two (var 0) (node (codes "mod") (two (var 1) (int (pos 2)))))) ≡ codes "_0 is _1 mod 2"
unfolding iso_table iso_operators digits
words = refl

pub quotes : written (node (codes "A b") (one (atom (codes "it's\n")))) ≡ codes "'A b'('it\\'s\\n')"
unfolding iso_table iso_operators chars digits encode
quotes = refl

pub a_letter : written (node (codes "$VAR") (one (int (pos 27)))) ≡ codes "B1"
unfolding iso_table iso_operators digits
a_letter = refl

pub canonical : text_of iso_table Canonical (node (codes "+") (two (node (codes "$VAR") (one (int (pos 27))))
    (node (codes "{}") (one (atom (codes "-")))))) 1200 ≡ codes "+('$VAR'(27),{-})"
unfolding iso_table iso_operators chars digits encode
canonical = refl
