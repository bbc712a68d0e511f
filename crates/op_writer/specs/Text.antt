-- The text of a term (this project's own rules for spaces, brackets and lists; ISO/IEC 13211-1, 7.10.5, for quotes, operators and
-- '$VAR'(N)).
use Rattle.std.specs.Prelude.{ℕ, pos, ◌≤◌, ◌+◌, ◌-◌, ◌/◌, ◌%◌, ◌==◌, ◌||◌, ◌&&◌, nat_lt, nat_le, Bool, true, false, not, List, [], ◌∷◌}
use Rattle.std.specs.Prelude.{◌++◌, if◌then◌else◌, Option, Some, None, is_some, codes, bytes_eq, decimal}
use Rattle.std.specs.Fmt.{signed_decimal}
use Rattle.op_logic.specs.Term.{Term, var, int, node, Args, no_args, arg, arity}
use Rattle.op_term.specs.declared.ops.Meaning.{Meaning}
use Rattle.op_term.specs.Ops.{Table, prefix_in, infix_in, postfix_in, is_y_left, is_y_right}
use Rattle.op_writer.specs.declared.style.Style.{Style}
use Rattle.op_writer.specs.declared.style.Style.TheVariants.{Canonical}
use Rattle.op_writer.specs.declared.bound.Bound.{Bound}
use Rattle.op_writer.specs.declared.bound.Bound.TheVariants.{Whole, Operand, Left, Right}
use Rattle.op_writer.specs.declared.notation.Notation.{Notation}
use Rattle.op_writer.specs.declared.notation.Notation.TheVariants.{List as Listed, Braces, Infix, Prefix as Before, Postfix as Behind}
use Rattle.op_writer.specs.declared.notation.Notation.TheVariants.{Functional}
use Rattle.op_writer.specs.declared.edge.Edge.TheVariants.{Other}
use Rattle.op_writer.specs.Spelling.{is_symbolic, name_text}
use Rattle.op_writer.specs.Fragments.{Fragment, plain, prefix_operator, spaced}

-- whether a term whose operator has this priority and kind stands without brackets where a bound is: of equal priority alone on the left
-- side where both are yfx or yf, and on the right side where both are xfy or fy
abbrev pub fits : Bound → Meaning → Bool
fits (Whole p) m = nat_le m.priority p
fits (Operand p) m = nat_le m.priority p
fits (Left p) m = nat_lt m.priority p || (m.priority == p && is_y_left m.kind)
fits (Right p) m = nat_lt m.priority p || (m.priority == p && is_y_right m.kind)

-- the bounds of an operator's operands
abbrev pub left_of : Meaning → Bound
left_of m = if is_y_left m.kind then Left m.priority else Operand (m.priority - 1)

abbrev pub right_of : Meaning → Bound
right_of m = if is_y_right m.kind then Right m.priority else Operand (m.priority - 1)

abbrev pub is_operand : Bound → Bool
is_operand (Whole p) = false
is_operand _ = true

-- an argument and an element of a list
abbrev pub argument : Bound
argument = Whole 999

-- where a term stands: within a bound, or as the rest of a list
pub data Place : Type 0 where
  within : Bound → Place
  rest : Place

abbrev pub sign : List ℕ → List Fragment
sign t = plain t ∷ []

abbrev pub bracketed : Bool → List Fragment → List Fragment
bracketed b ps = if b then sign (codes "(") ++ ps ++ sign (codes ")") else ps

abbrev pub is_operator : Table → List ℕ → Bool
is_operator ops f = is_some (prefix_in ops f) || is_some (infix_in ops f) || is_some (postfix_in ops f)

-- an atom: an operator stands in brackets where it is an operand
abbrev pub atom_fragments : Table → Style → List ℕ → Bound → List Fragment
atom_fragments ops style f bound = bracketed (is_operand bound && is_operator ops f) (sign (name_text style f))

-- an infix operator: the comma is written as it is in every style, and , and ; and what is written in symbol characters alone
-- have no spaces of their own; every other one stands between two spaces, also one with an empty name or in quotes
abbrev pub infix_fragments : Style → List ℕ → List Fragment
infix_fragments style f =
    if bytes_eq f (codes ",") then sign f else
    if bytes_eq f (codes ";") || is_symbolic (name_text style f) then sign (name_text style f) else
    sign (codes " ") ++ sign (name_text style f) ++ sign (codes " ")

-- a prefix operator: what is written in symbol characters alone has no space of its own; every other one has a space behind it, also one
-- with an empty name or in quotes
abbrev pub prefix_fragments : Style → List ℕ → List Fragment
prefix_fragments style f =
    if is_symbolic (name_text style f) then prefix_operator (name_text style f) ∷ [] else
    sign (name_text style f) ++ sign (codes " ")

-- a postfix operator always has a space before it, also one of symbol characters
abbrev pub postfix_fragments : Style → List ℕ → List Fragment
postfix_fragments style f = sign (codes " ") ++ sign (name_text style f)

-- what a term of a name and so many arguments is written in: lists and braces in every style, operators in those but the canonical;
-- where a name is both prefix and postfix, the prefix form
abbrev pub unary : Option Meaning → Option Meaning → Notation
unary (Some m) other = Before m
unary None (Some m) = Behind m
unary None None = Functional

abbrev pub binary : Option Meaning → Notation
binary (Some m) = Infix m
binary None = Functional

abbrev pub is_canonical : Style → Bool
is_canonical Canonical = true
is_canonical _ = false

abbrev pub notation_of : Table → Style → List ℕ → ℕ → Notation
notation_of ops style f n =
    if n == 2 && bytes_eq f (codes ".") then Listed else
    if n == 1 && bytes_eq f (codes "{}") then Braces else
    if is_canonical style then Functional else
    if n == 2 then binary (infix_in ops f) else
    if n == 1 then unary (prefix_in ops f) (postfix_in ops f) else Functional

-- its operator has a priority
abbrev pub HasPriority : Notation → Type 0
HasPriority (Infix m) = 1 ≤ m.priority
HasPriority (Before m) = 1 ≤ m.priority
HasPriority (Behind m) = 1 ≤ m.priority
HasPriority notation = Unit {0}

-- the number of a term '$VAR'(N) with N of 0 or more, where the style has letters for it
abbrev pub only_one : Args (List ℕ) → Option (Term (List ℕ))
only_one no_args = None
only_one (arg t no_args) = Some t
only_one (arg t (arg u us)) = None

abbrev pub natural : Option (Term (List ℕ)) → Option ℕ
natural (Some (int (pos n))) = Some n
natural _ = None

abbrev pub letter_of : Style → List ℕ → Args (List ℕ) → Option ℕ
letter_of style f ts = if not (is_canonical style) && bytes_eq f (codes "$VAR") then natural (only_one ts) else None

-- the letter N mod 26, and N // 26 where it is not 0
abbrev pub letter_text : ℕ → List ℕ
letter_text n = (65 + n % 26) ∷ (if nat_lt n 26 then [] else decimal (n / 26))

-- what a part comes to at a place
abbrev pub Form : Type 0
Form = Place → List Fragment

-- further arguments, each behind a comma, and the bracket
abbrev pub further : List Form → List Fragment
further [] = sign (codes ")")
further (f ∷ fs) = sign (codes ",") ++ f (within argument) ++ further fs

-- functional notation: the name, and directly behind it the arguments in brackets, with a comma and no space between two; a name without
-- arguments stands alone
abbrev pub functional : List ℕ → List Form → List Fragment
functional name [] = sign name
functional name (f ∷ fs) = sign name ++ sign (codes "(") ++ f (within argument) ++ further fs

-- a compound within a bound; operands are within their operator's bounds, and brackets stand round where its priority passes the bound
abbrev pub compound : Style → List ℕ → List Form → Bound → Notation → List Fragment
-- a list: its first element within 999, and the rest, in square brackets
compound style f (a ∷ b ∷ []) bound Listed = sign (codes "[") ++ a (within argument) ++ b rest
-- an infix operator between its operands
compound style f (a ∷ b ∷ []) bound (Infix m) =
    bracketed (not (fits bound m)) (a (within (left_of m)) ++ infix_fragments style f ++ b (within (right_of m)))
-- a term in braces, within 1200
compound style f (a ∷ []) bound Braces = sign (codes "{") ++ a (within (Whole 1200)) ++ sign (codes "}")
-- a prefix operator before its operand
compound style f (a ∷ []) bound (Before m) = bracketed (not (fits bound m)) (prefix_fragments style f ++ a (within (right_of m)))
-- a postfix operator behind its operand
compound style f (a ∷ []) bound (Behind m) = bracketed (not (fits bound m)) (a (within (left_of m)) ++ postfix_fragments style f)
-- every other compound: functional notation, in any bound
compound style f fs bound notation = functional (name_text style f) fs

-- the rest of a list: a further element behind a comma, the end, or another term behind a bar
abbrev pub rest_of : List Form → Notation → List Fragment → List Fragment
rest_of (a ∷ b ∷ []) Listed other = sign (codes ",") ++ a (within argument) ++ b rest
rest_of fs notation other = sign (codes "|") ++ other ++ sign (codes "]")

-- what is written in one fragment, and never in brackets: a variable, an integer, a letter; as the rest of a list it stands behind a bar
abbrev pub leaf : List ℕ → Form
leaf t (within bound) = sign t
leaf t rest = sign (codes "|") ++ sign t ++ sign (codes "]")

-- an atom; as the rest of a list [] ends it, and every other atom stands behind a bar as an argument does
abbrev pub atom_form : Table → Style → List ℕ → Form
atom_form ops style f (within bound) = atom_fragments ops style f bound
atom_form ops style f rest =
    if bytes_eq f (codes "[]") then sign (codes "]") else sign (codes "|") ++ atom_fragments ops style f argument ++ sign (codes "]")

-- a compound within a bound, or as the rest of a list
abbrev pub compound_form : Style → List ℕ → List Form → Notation → Form
compound_form style f fs notation (within bound) = compound style f fs bound notation
compound_form style f fs notation rest = rest_of fs notation (compound style f fs argument notation)

-- a name with its arguments: an atom without any, a letter where it has one, else a compound
abbrev pub named_form : Table → Style → List ℕ → Args (List ℕ) → Option ℕ → List Form → Form
named_form ops style f ts letter [] = atom_form ops style f
named_form ops style f ts (Some n) fs = leaf (letter_text n)
named_form ops style f ts None fs = compound_form style f fs (notation_of ops style f (arity ts))

abbrev mutual
  pub form_of : Table → Style → Term (List ℕ) → Form
  -- a variable: _ and its number
  form_of ops style (var n) = leaf (codes "_" ++ decimal n)
  -- an integer: in decimal, a negative one behind -
  form_of ops style (int i) = leaf (signed_decimal i)
  -- a name with its arguments
  form_of ops style (node f ts) = named_form ops style f ts (letter_of style f ts) (forms_of ops style ts)

  pub forms_of : Table → Style → Args (List ℕ) → List Form
  forms_of ops style no_args = []
  forms_of ops style (arg t ts) = form_of ops style t ∷ forms_of ops style ts

-- the text of a term within a bound
abbrev pub text_in : Table → Style → Bound → Term (List ℕ) → List ℕ
text_in ops style bound t = spaced Other (form_of ops style t (within bound))

-- the text of a term within a priority
abbrev pub text_of : Table → Style → Term (List ℕ) → ℕ → List ℕ
text_of ops style t priority = text_in ops style (Whole priority) t
