-- The lexemes that the text of a term without variables consists of.
use Rattle.std.specs.Prelude.{◌≡◌, ℕ, ℤ, ◌||◌, ◌&&◌, not, Bool, List, [], ◌∷◌, ◌++◌, if◌then◌else◌, None, codes, bytes_eq}
use Rattle.std.specs.Fmt.{signed_decimal}
use Rattle.std.specs.Str.{IsUtf8}
use Rattle.op_readback.specs.ReadBack.{IsSmall}
use Rattle.op_logic.specs.Term.{Term, var, int, node, Args, no_args, arg, arity}
use Rattle.op_term.specs.Ops.{Table}
use Rattle.op_writer.specs.declared.style.Style.{Style}
use Rattle.op_writer.specs.declared.style.Style.TheVariants.{Quoted}
use Rattle.op_writer.specs.declared.bound.Bound.{Bound}
use Rattle.op_writer.specs.declared.bound.Bound.TheVariants.{Whole}
use Rattle.op_writer.specs.declared.notation.Notation.{Notation}
use Rattle.op_writer.specs.declared.notation.Notation.TheVariants.{List as Listed, Braces, Infix, Prefix, Postfix}
use Rattle.op_writer.specs.Spelling.{is_symbolic, name_text}
use Rattle.op_writer.specs.Fragments.{Fragment, plain, prefix_operator}
use Rattle.op_writer.specs.Text.{Place, within, rest, fits, left_of, right_of, is_operand, argument, is_operator, notation_of, letter_of}

-- a bracket, a comma, a bar or a space; a name; a prefix operator of symbol characters; an integer with its sign
pub data Lexeme : Type 0 where
  sign : ℕ → Lexeme
  name : List ℕ → Lexeme
  prefix_name : List ℕ → Lexeme
  number : ℤ → Lexeme

abbrev pub lexeme_fragment : Lexeme → Fragment
lexeme_fragment (sign b) = plain (b ∷ [])
lexeme_fragment (name f) = plain (name_text Quoted f)
lexeme_fragment (prefix_name f) = prefix_operator (name_text Quoted f)
lexeme_fragment (number i) = plain (signed_decimal i)

abbrev pub LexemeForm : Type 0
LexemeForm = Place → List Lexeme

abbrev pub in_brackets : Bool → List Lexeme → List Lexeme
in_brackets b ms = if b then sign 40 ∷ (ms ++ sign 41 ∷ []) else ms

abbrev pub infix_lexemes : List ℕ → List Lexeme
infix_lexemes f =
    if bytes_eq f (codes ",") then sign 44 ∷ [] else
    if bytes_eq f (codes ";") || is_symbolic (name_text Quoted f) then name f ∷ [] else sign 32 ∷ name f ∷ sign 32 ∷ []

abbrev pub prefix_lexemes : List ℕ → List Lexeme
prefix_lexemes f = if is_symbolic (name_text Quoted f) then prefix_name f ∷ [] else name f ∷ sign 32 ∷ []

abbrev pub further_lexemes : List LexemeForm → List Lexeme
further_lexemes [] = sign 41 ∷ []
further_lexemes (f ∷ fs) = sign 44 ∷ (f (within argument) ++ further_lexemes fs)

abbrev pub functional_lexemes : List ℕ → List LexemeForm → List Lexeme
functional_lexemes f [] = name f ∷ []
functional_lexemes f (a ∷ fs) = name f ∷ sign 40 ∷ (a (within argument) ++ further_lexemes fs)

abbrev pub compound_lexemes : List ℕ → List LexemeForm → Bound → Notation → List Lexeme
compound_lexemes f (a ∷ b ∷ []) bound Listed = sign 91 ∷ (a (within argument) ++ b rest)
compound_lexemes f (a ∷ b ∷ []) bound (Infix m) =
    in_brackets (not (fits bound m)) (a (within (left_of m)) ++ (infix_lexemes f ++ b (within (right_of m))))
compound_lexemes f (a ∷ []) bound Braces = sign 123 ∷ (a (within (Whole 1200)) ++ sign 125 ∷ [])
compound_lexemes f (a ∷ []) bound (Prefix m) = in_brackets (not (fits bound m)) (prefix_lexemes f ++ a (within (right_of m)))
compound_lexemes f (a ∷ []) bound (Postfix m) = in_brackets (not (fits bound m)) (a (within (left_of m)) ++ (sign 32 ∷ name f ∷ []))
compound_lexemes f fs bound notation = functional_lexemes f fs

abbrev pub rest_lexemes : List LexemeForm → Notation → List Lexeme → List Lexeme
rest_lexemes (a ∷ b ∷ []) Listed other = sign 44 ∷ (a (within argument) ++ b rest)
rest_lexemes fs notation other = sign 124 ∷ (other ++ sign 93 ∷ [])

abbrev pub atom_lexemes : Table → List ℕ → Bound → List Lexeme
atom_lexemes ops f bound = in_brackets (is_operand bound && is_operator ops f) (name f ∷ [])

abbrev pub leaf_lexemes : ℤ → LexemeForm
leaf_lexemes i (within bound) = number i ∷ []
leaf_lexemes i rest = sign 124 ∷ number i ∷ sign 93 ∷ []

abbrev pub atom_form_lexemes : Table → List ℕ → LexemeForm
atom_form_lexemes ops f (within bound) = atom_lexemes ops f bound
atom_form_lexemes ops f rest = if bytes_eq f (codes "[]") then sign 93 ∷ [] else sign 124 ∷ (atom_lexemes ops f argument ++ sign 93 ∷ [])

abbrev pub compound_form_lexemes : List ℕ → List LexemeForm → Notation → LexemeForm
compound_form_lexemes f fs notation (within bound) = compound_lexemes f fs bound notation
compound_form_lexemes f fs notation rest = rest_lexemes fs notation (compound_lexemes f fs argument notation)

abbrev pub named_lexemes : Table → Style → List ℕ → ℕ → List LexemeForm → LexemeForm
named_lexemes ops style f n [] = atom_form_lexemes ops f
named_lexemes ops style f n (a ∷ fs) = compound_form_lexemes f (a ∷ fs) (notation_of ops style f n)

abbrev mutual
  pub lexemes_of : Table → Style → Term (List ℕ) → LexemeForm
  lexemes_of ops style (var v) place = []
  lexemes_of ops style (int i) place = leaf_lexemes i place
  lexemes_of ops style (node f ts) place = named_lexemes ops style f (arity ts) (all_lexemes ops style ts) place

  pub all_lexemes : Table → Style → Args (List ℕ) → List LexemeForm
  all_lexemes ops style no_args = []
  all_lexemes ops style (arg t ts) = lexemes_of ops style t ∷ all_lexemes ops style ts

-- no variables, and no '$VAR'(N) that the style has a letter for; names are texts, and integers have 64 bits
abbrev mutual
  pub IsWritten : Style → Term (List ℕ) → Type 0
  IsWritten style (var v) = ⊥
  IsWritten style (int i) = IsSmall i
  IsWritten style (node f ts) = IsUtf8 f × (letter_of style f ts ≡ None) × AreWritten style ts

  pub AreWritten : Style → Args (List ℕ) → Type 0
  AreWritten style no_args = Unit {0}
  AreWritten style (arg t ts) = IsWritten style t × AreWritten style ts
