-- Small terms, written and read again; and what the law leaves out.
use Rattle.std.specs.Prelude.{◌≡◌, ℕ, pos, negsuc, List, [], ◌∷◌, ◌++◌, refl, codes}
use Rattle.std.specs.Str.{chars}
use Rattle.std.specs.Fmt.{digits}
use lib.Utf8.{encode}
use Rattle.op_logic.specs.Term.{Term, var, int, node, Args, no_args, arg, atom}
use Rattle.op_term.specs.declared.ops.OpKind.TheVariants.{Xfx, Xfy, Yfx, Fy, Fx, Xf, Yf}
use Rattle.op_term.specs.Ops.{Table, iso_operators, iso_table, with_op}
use Rattle.op_reader.specs.Row.{tree_of}
use Rattle.op_reader.specs.Reading.{term, refused, reading_of}
use Rattle.op_reader.specs.declared.fault.ReadFaultKind.TheVariants.{Token, NoEnd}
use Rattle.op_token.specs.declared.token.TokenFaultKind.TheVariants.{NumberRange}
use Rattle.op_term.specs.declared.quotes.DoubleQuotes.TheVariants.{Codes}
use Rattle.op_writer.specs.declared.style.Style.TheVariants.{Plain, Quoted, Canonical}
use Rattle.op_writer.specs.Text.{text_of}
use Rattle.op_readback.specs.ReadBack.{clause_text, IsReadBack}

abbrev ops : Table
ops =
    with_op (with_op (with_op (with_op (with_op (with_op (with_op (with_op iso_table 700 Xfx (codes "===>")) 500 Xfy (codes "xor")) 400
    Yfx (codes "my op")) 300 Yf (codes "done"))
    250 Xf (codes "##")) 300 Fy (codes "pp")) 300 Yf (codes "pp")) 900 Fx (codes "spy")

abbrev IsQuoted : Term (List ℕ) → Type 0
IsQuoted t = IsReadBack ops Codes Quoted t 1200

abbrev IsCanonical : Term (List ℕ) → Type 0
IsCanonical t = IsReadBack ops Codes Canonical t 1200

abbrev one : Term (List ℕ) → Args (List ℕ)
one t = arg t no_args

abbrev two : Term (List ℕ) → Term (List ℕ) → Args (List ℕ)
two t u = arg t (arg u no_args)

pub quoted-1 : IsQuoted (atom [])
unfolding reading_of tree_of iso_table iso_operators digits chars encode
quoted-1 = refl

pub quoted-2 : IsQuoted (atom (10 ∷ 9 ∷ []))
unfolding reading_of tree_of iso_table iso_operators digits chars encode
quoted-2 = refl

pub quoted-3 : IsQuoted (atom (codes "."))
unfolding reading_of tree_of iso_table iso_operators digits chars encode
quoted-3 = refl

pub quoted-4 : IsQuoted (int (negsuc 9223372036854775807))
unfolding reading_of tree_of iso_table iso_operators digits chars encode
quoted-4 = refl

pub quoted-5 : IsQuoted (node (codes "f") (one (node (codes ":-") (two (atom (codes "a")) (atom (codes "b"))))))
unfolding reading_of tree_of iso_table iso_operators digits chars encode
quoted-5 = refl

pub quoted-6 : IsQuoted (node (codes "[]") (one (atom (codes "a"))))
unfolding reading_of tree_of iso_table iso_operators digits chars encode
quoted-6 = refl

pub quoted-7 : IsQuoted (node (codes ".") (two (atom (codes "a")) (atom (codes "b"))))
unfolding reading_of tree_of iso_table iso_operators digits chars encode
quoted-7 = refl

pub quoted-8 : IsQuoted (node (codes ".") (two (atom (codes "|")) (node (codes ".") (two (atom (codes ",")) (atom (codes "-"))))))
unfolding reading_of tree_of iso_table iso_operators digits chars encode
quoted-8 = refl

pub quoted-9 : IsQuoted (node (codes "{}") (one (node (codes ",") (two (atom (codes "a")) (atom (codes "b"))))))
unfolding reading_of tree_of iso_table iso_operators digits chars encode
quoted-9 = refl

pub quoted-10 : IsQuoted (node (codes "$VAR") (one (int (negsuc 0))))
unfolding reading_of tree_of iso_table iso_operators digits chars encode
quoted-10 = refl

pub quoted-11 : IsQuoted (node (codes "-") (two (atom (codes "a")) (node (codes "-") (two (atom (codes "b")) (atom (codes "c"))))))
unfolding reading_of tree_of iso_table iso_operators digits chars encode
quoted-11 = refl

pub quoted-12 : IsQuoted (node (codes ":-")
    (two (atom (codes "a")) (node (codes ";") (two (node (codes ",") (two (atom (codes "b")) (atom (codes "c"))))
    (node (codes "->") (two (atom (codes "d")) (atom (codes "e"))))))))
unfolding reading_of tree_of iso_table iso_operators digits chars encode
quoted-12 = refl

pub quoted-13 : IsQuoted (node (codes ":-") (two (node (codes ":-") (two (atom (codes "a")) (atom (codes "b")))) (atom (codes "c"))))
unfolding reading_of tree_of iso_table iso_operators digits chars encode
quoted-13 = refl

pub quoted-14 : IsQuoted (node (codes "-") (one (node (codes "-") (one (int (pos 1))))))
unfolding reading_of tree_of iso_table iso_operators digits chars encode
quoted-14 = refl

pub quoted-15 : IsQuoted (node (codes "-") (one (int (negsuc 0))))
unfolding reading_of tree_of iso_table iso_operators digits chars encode
quoted-15 = refl

pub quoted-16 : IsQuoted (node (codes "-") (one (atom (codes "A"))))
unfolding reading_of tree_of iso_table iso_operators digits chars encode
quoted-16 = refl

pub quoted-17 : IsQuoted (node (codes "##") (one (node (codes "##") (one (atom (codes "a"))))))
unfolding reading_of tree_of iso_table iso_operators digits chars encode
quoted-17 = refl

pub quoted-18 : IsQuoted (node (codes "-") (one (node (codes "done") (one (int (pos 1))))))
unfolding reading_of tree_of iso_table iso_operators digits chars encode
quoted-18 = refl

pub quoted-19 : IsQuoted (node (codes "f") (two (atom (codes "dynamic")) (atom (codes ","))))
unfolding reading_of tree_of iso_table iso_operators digits chars encode
quoted-19 = refl

pub quoted-20 : IsQuoted (node (codes "pp") (one (node (codes "pp") (one (node (codes "done") (one (atom (codes "a"))))))))
unfolding reading_of tree_of iso_table iso_operators digits chars encode
quoted-20 = refl

pub quoted-21 : IsQuoted (node (codes "-") (one (node (codes "^") (two (node (codes "-") (one (int (pos 1)))) (int (pos 2))))))
unfolding reading_of tree_of iso_table iso_operators digits chars encode
quoted-21 = refl

pub quoted-22 : IsQuoted (node (codes ",") (two (atom (codes "-")) (atom (codes "="))))
unfolding reading_of tree_of iso_table iso_operators digits chars encode
quoted-22 = refl

pub quoted-23 : IsQuoted (node (codes "my op") (two (atom (codes "my op")) (atom (codes "A"))))
unfolding reading_of tree_of iso_table iso_operators digits chars encode
quoted-23 = refl

pub quoted-24 : IsQuoted (node (codes "my op") (two (int (pos 0)) (atom (codes "'"))))
unfolding reading_of tree_of iso_table iso_operators digits chars encode
quoted-24 = refl

pub quoted-25 : IsQuoted (node (codes "->") (two (node (codes "->") (two (atom (codes "a")) (atom (codes "b")))) (atom (codes "c"))))
unfolding reading_of tree_of iso_table iso_operators digits chars encode
quoted-25 = refl

pub canonical-1 : IsCanonical (node (codes "$VAR") (one (int (pos 0))))
unfolding reading_of tree_of iso_table iso_operators digits chars encode
canonical-1 = refl

pub canonical-2 : IsCanonical (node (codes ":-")
    (two (atom (codes "a")) (node (codes ";") (two (node (codes ",") (two (atom (codes "b")) (atom (codes "c"))))
    (node (codes "->") (two (atom (codes "d")) (atom (codes "e"))))))))
unfolding reading_of tree_of iso_table iso_operators digits chars encode
canonical-2 = refl

pub canonical-3 : IsCanonical (node (codes ".") (two (atom (codes "|")) (node (codes ".") (two (atom (codes ",")) (atom (codes "-"))))))
unfolding reading_of tree_of iso_table iso_operators digits chars encode
canonical-3 = refl

-- What the law leaves out is false there. '$VAR'(1) is written as B, and a variable is read
pub letter : reading_of ops Codes (clause_text ops Quoted (node (codes "$VAR") (one (int (pos 1)))) 1200)
    ≡ term (var 0) ((codes "B", 0) ∷ []) 3
unfolding reading_of tree_of iso_table iso_operators digits chars encode
letter = refl

-- with no space before it the full stop is read with a symbol character
pub no-space : reading_of ops Codes (text_of ops Quoted (atom (codes "+")) 1200 ++ codes ".") ≡ refused 2 NoEnd
unfolding reading_of tree_of iso_table iso_operators digits chars encode
no-space = refl

-- the plain style writes the name A without quotes, and a variable is read
pub plain : reading_of ops Codes (clause_text ops Plain (atom (codes "A")) 1200) ≡ term (var 0) ((codes "A", 0) ∷ []) 3
unfolding reading_of tree_of iso_table iso_operators digits chars encode
plain = refl

-- a variable is written as _ with its number, and is read as one that has a name
pub variable : reading_of ops Codes (clause_text ops Quoted (var 7) 1200) ≡ term (var 0) ((codes "_7", 0) ∷ []) 4
unfolding reading_of tree_of iso_table iso_operators digits chars encode
variable = refl

-- an integer past 64 bits is refused
pub past-64-bits : reading_of ops Codes (clause_text ops Quoted (int (pos 9223372036854775808)) 1200) ≡ refused 0 (Token NumberRange)
unfolding reading_of tree_of iso_table iso_operators digits chars encode
past-64-bits = refl
