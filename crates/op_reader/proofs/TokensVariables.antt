-- The words of tokens have the variables of the tokens.
use Rattle.std.proofs.Common.{◌≡◌, ℕ, Bool, true, false, cond, List, [], ◌∷◌, ◌++◌, map, Option, Some, None, refl, ap, sym, ◌∙◌}
use Rattle.std.specs.Prelude.{ℤ, pos, nat_lt, ◌-◌, drop, codes, slice_index, if◌then◌else◌}
use Rattle.std.specs.Option.{option_and_then}
use Rattle.std.specs.Str.{chars}
use Rattle.op_logic.specs.Term.{int, atom}
use Rattle.op_logic.proofs.BoolCases.{if_false}
use Rattle.op_term.specs.Ops.{Table, prefix_in}
use Rattle.op_term.specs.declared.ops.Meaning.{Meaning}
use Rattle.op_token.specs.declared.token.Token.{Token}
use Rattle.op_token.specs.declared.token.TokenKind.{TokenKind}
use Rattle.op_token.specs.declared.token.TokenKind.TheVariants.{Name, QuotedName, Variable, Integer, Text, OpenRound, OpenSquare, OpenCurly}
use Rattle.op_token.specs.Tokens.{is_minus, unquoted}
use Rattle.op_token.specs.Spelling.{least_magnitude}
use Rattle.op_term.specs.declared.quotes.DoubleQuotes.{DoubleQuotes}
use Rattle.op_term.specs.declared.quotes.DoubleQuotes.TheVariants.{Codes, Chars, Atom}
use Rattle.op_reader.specs.declared.bracket.Bracket.{Bracket}
use Rattle.op_reader.specs.declared.bracket.Bracket.TheVariants.{Round, Square, Curly}
use Rattle.op_reader.specs.Words.{AsOperand, functor, prefix, plain, excess, AsOperator, joins, misplaced, Word, opened}
use Rattle.op_reader.specs.Words.{word, Source, spelling, is_variable, number_of, with_variable, met_behind, char_term}
use Rattle.op_reader.specs.Words.{text_term, as_operator, operator_of, opens, magnitude, magnitude_behind, negated, negative, stands_alone}
use Rattle.op_reader.specs.Words.{bare_name, signed_or_bare, name_as_operand, operand_word, integer_word, is_empty_pair}
use Rattle.op_reader.specs.Words.{empty_name, empty_word, opening_word, word_by, words_from, words_of}
use Rattle.op_reader.specs.Variables.{variables}
use Rattle.op_reader.proofs.VariableNumbers.{numbers}
use Rattle.op_reader.proofs.RowsVariables.{terms_variables, list_variables}
use Rattle.op_reader.proofs.JoinedWords.{pair_step}
use Rattle.op_reader.proofs.WordsVariables.{operand_variables, is_sign, word_variables, needs_number, OperatorIsPlain, IsPlainWord}
use Rattle.op_reader.proofs.WordsVariables.{words_variables, BeginsPlain, ArePlain}

abbrev T : Type 0
T = List ℕ

-- text has no variables
chars_plain : (q : DoubleQuotes) (cs : List ℕ) → terms_variables (map (char_term q) cs) ≡ []
chars_plain q [] = refl
chars_plain Codes (c ∷ cs) = chars_plain Codes cs
chars_plain Chars (c ∷ cs) = chars_plain Chars cs
chars_plain Atom (c ∷ cs) = chars_plain Atom cs

text_plain : (q : DoubleQuotes) (s : T) → variables (text_term q s) ≡ []
text_plain Atom s = refl
text_plain Codes s = list_variables (codes ".") (atom (codes "[]")) (map (char_term Codes) (chars s))
    ∙ ap (λ (vs : List ℕ). vs ++ []) (chars_plain Codes (chars s))
text_plain Chars s = list_variables (codes ".") (atom (codes "[]")) (map (char_term Chars) (chars s))
    ∙ ap (λ (vs : List ℕ). vs ++ []) (chars_plain Chars (chars s))

-- nor have names
bare_plain : (o : Option Meaning) (b : Bool) (name : T) →
    operand_variables (elim o as (λ _. AsOperand T)
    [ Some m ↦ if b then plain (atom name) else prefix (operator_of name m) | None ↦ plain (atom name) ]) ≡ []
bare_plain None b name = refl
bare_plain (Some m) true name = refl
bare_plain (Some m) false name = refl

bare_no_sign : (o : Option Meaning) (b : Bool) (name : T) →
    is_sign (elim o as (λ _. AsOperand T)
    [ Some m ↦ if b then plain (atom name) else prefix (operator_of name m) | None ↦ plain (atom name) ]) ≡ false
bare_no_sign None b name = refl
bare_no_sign (Some m) true name = refl
bare_no_sign (Some m) false name = refl

signed_plain : (o : Option ℤ) (a : AsOperand T) → operand_variables a ≡ [] → operand_variables (signed_or_bare o a) ≡ []
signed_plain None a h = h
signed_plain (Some z) a h = refl

either_plain : (b : Bool) (x y : AsOperand T) → operand_variables x ≡ [] → operand_variables y ≡ [] → operand_variables (cond b x y) ≡ []
either_plain true x y h g = h
either_plain false x y h g = g

name_plain : (table : Table) (text : T) (t : Token) (name : T) (ts : List Token) →
    operand_variables (name_as_operand table text t name ts) ≡ []
name_plain table text t name ts =
    either_plain (opens ts) (functor name) (signed_or_bare (negative text t ts) (bare_name table text name ts)) refl
    (signed_plain (negative text t ts) (bare_name table text name ts) (bare_plain (prefix_in table name) (stands_alone table text ts) name))

operator_plain : (a : AsOperand T) (o : AsOperator T) → operand_variables a ≡ [] → OperatorIsPlain a o
operator_plain a (joins o) h = h
operator_plain a misplaced h = tt

-- the first token is no variable
abbrev BeginsOther : List Token → Type 0
BeginsOther [] = Unit {0}
BeginsOther (u ∷ us) = is_variable u.kind ≡ false

magnitude_other : (k : TokenKind) (m : ℕ) → magnitude k ≡ Some m → is_variable k ≡ false
magnitude_other Variable m h = cc
magnitude_other k m h = refl

behind_other : (ts : List Token) (m : ℕ) → magnitude_behind ts ≡ Some m → BeginsOther ts
behind_other [] m h = tt
behind_other (u ∷ us) m h = magnitude_other u.kind m (taken u.layout_before (magnitude u.kind) h)
  where
    taken : (b : Bool) (o : Option ℕ) → cond b None o ≡ Some m → o ≡ Some m
    taken true o g = cc
    taken false o g = g

-- behind the - of a negative number
signed : (o : Option ℤ) (a : AsOperand T) → is_sign (signed_or_bare o a) ≡ true → is_sign a ≡ false → (z : ℤ) × (o ≡ Some z)
signed None a h g = absurd (let i : true ≡ false = sym h ∙ g in cc)
signed (Some z) a h g = (z, refl)

negative_other : (b : Bool) (ts : List Token) (z : ℤ) → cond b (option_and_then negated (magnitude_behind ts)) None ≡ Some z →
    BeginsOther ts
negative_other false ts z h = cc
negative_other true ts z h = by_magnitude (magnitude_behind ts) (λ m e. behind_other ts m e) h
  where
    by_magnitude : (o : Option ℕ) → ((m : ℕ) → o ≡ Some m → BeginsOther ts) → option_and_then negated o ≡ Some z → BeginsOther ts
    by_magnitude None f g = cc
    by_magnitude (Some m) f g = f m refl

either_sign : (b : Bool) (x y : AsOperand T) → is_sign x ≡ false → is_sign (cond b x y) ≡ true → is_sign y ≡ true
either_sign true x y h g = absurd (let i : true ≡ false = sym g ∙ h in cc)
either_sign false x y h g = g

name_sign : (table : Table) (text : T) (t : Token) (name : T) (ts : List Token) → is_sign (name_as_operand table text t name ts) ≡ true →
    BeginsOther ts
name_sign table text t name ts h =
    let bare = bare_name table text name ts in
    let i = signed (negative text t ts) bare (either_sign (opens ts) (functor name) (signed_or_bare (negative text t ts) bare) refl h)
    (bare_no_sign (prefix_in table name) (stands_alone table text ts) name) in
    negative_other (is_minus t.kind (slice_index text t.from) (t.to - t.from)) ts i.0 i.1

-- the word of a token of a kind
record IsWord (s : Source) (met : List T) (t : Token) (ts : List Token) (k : TokenKind) : Type 0 where
  plain : IsPlainWord (word_by k s met t ts)
  variables : word_variables (word_by k s met t ts) ≡ cond (is_variable k) (number_of met (spelling s.text t) ∷ []) []
  number : needs_number (word_by k s met t ts) ≡ true → (is_empty_pair k ts ≡ false) × BeginsOther ts

-- a word that has no variables and isn't the - of a number, either way of a test
record IsOther (w : Word T) : Type 0 where
  plain : IsPlainWord w
  variables : word_variables w ≡ []
  number : needs_number w ≡ false

either_other : (b : Bool) (v w : Word T) → IsOther v → IsOther w → IsOther (cond b v w)
either_other true v w h g = h
either_other false v w h g = g

operand_other : (b : Bool) (place : ℕ) (x y : AsOperand T) → operand_variables x ≡ [] → operand_variables y ≡ [] → is_sign x ≡ false →
    is_sign y ≡ false →
    IsOther (word place (cond b x y) misplaced)
operand_other true place x y h g i j = record { plain = tt; variables = h; number = i }
operand_other false place x y h g i j = record { plain = tt; variables = g; number = j }

integer_other : (t : Token) (m : ℕ) → IsOther (integer_word t m)
integer_other t m =
    either_other (nat_lt m least_magnitude) (operand_word t (int (pos m))) (word t.from excess misplaced)
    (record { plain = tt; variables = refl; number = refl }) (record { plain = tt; variables = refl; number = refl })

opening_other : (t : Token) (b : Bracket) (ts : List Token) → IsOther (opening_word t b ts)
opening_other t b ts =
    either_other (is_empty_pair t.kind ts) (empty_word t (empty_name b) (drop 1 ts)) (opened t.from b)
    (operand_other (opens (drop 1 ts)) t.from (functor (empty_name b)) (plain (atom (empty_name b))) refl refl refl refl)
    (record { plain = tt; variables = refl; number = refl })

other_word : (s : Source) (met : List T) (t : Token) (ts : List Token) (k : TokenKind) → is_variable k ≡ false →
    IsOther (word_by k s met t ts) → IsWord s met t ts k
other_word s met t ts k e h = record {
  plain = h.plain;
  variables = h.variables ∙ sym (if_false (is_variable k) (number_of met (spelling s.text t) ∷ []) [] e);
  number = λ g. absurd (let i : true ≡ false = sym g ∙ h.number in cc);
}

no_name_pair : (ts : List Token) → is_empty_pair Name ts ≡ false
no_name_pair [] = refl
no_name_pair (u ∷ us) = refl

no_quoted_pair : (ts : List Token) → is_empty_pair QuotedName ts ≡ false
no_quoted_pair [] = refl
no_quoted_pair (u ∷ us) = refl

simple : (w : Word T) → IsPlainWord w → word_variables w ≡ [] → needs_number w ≡ false → IsOther w
simple w p v n = record { plain = p; variables = v; number = n }

is_word : (s : Source) (met : List T) (t : Token) (ts : List Token) (k : TokenKind) → IsWord s met t ts k
is_word s met t ts Name = let name = spelling s.text t in record {
  plain = operator_plain (name_as_operand s.table s.text t name ts) (as_operator s.table name) (name_plain s.table s.text t name ts);
  variables = name_plain s.table s.text t name ts;
  number = λ h. (no_name_pair ts, name_sign s.table s.text t name ts h);
}
is_word s met t ts QuotedName = let name = unquoted s.text t in record {
  plain = operator_plain (name_as_operand s.table s.text t name ts) (as_operator s.table name) (name_plain s.table s.text t name ts);
  variables = name_plain s.table s.text t name ts;
  number = λ h. (no_quoted_pair ts, name_sign s.table s.text t name ts h);
}
is_word s met t ts Variable = record { plain = tt; variables = refl; number = λ h. absurd (cc) }
is_word s met t ts (Integer m) = other_word s met t ts (Integer m) refl (integer_other t m)
is_word s met t ts Text = other_word s met t ts Text refl
    (simple (word_by Text s met t ts) tt (text_plain s.quotes (unquoted s.text t)) refl)
is_word s met t ts OpenRound = other_word s met t ts OpenRound refl (opening_other t Round ts)
is_word s met t ts OpenSquare = other_word s met t ts OpenSquare refl (opening_other t Square ts)
is_word s met t ts OpenCurly = other_word s met t ts OpenCurly refl (opening_other t Curly ts)
is_word s met t ts k = other_word s met t ts k refl (simple (word_by k s met t ts) tt refl refl)

-- the words of tokens
module _ (s : Source) where
  begins_plain : (met : List T) (inside : Bool) (ts : List Token) → inside ≡ false → BeginsOther ts →
      BeginsPlain (words_from s met inside ts)
  begins_plain met inside [] e h = tt
  begins_plain met true (u ∷ us) e h = cc
  begins_plain met false (u ∷ us) e h =
      (is_word s met u us u.kind).variables ∙ if_false (is_variable u.kind) (number_of met (spelling s.text u) ∷ []) [] h

  other_step : (b : Bool) (met : List T) (name : T) (ts : List Token) → b ≡ false →
      numbers s.text met ts ≡ cond b (number_of met name ∷ []) [] ++ numbers s.text (cond b (with_variable met name) met) ts
  other_step true met name ts e = cc
  other_step false met name ts e = refl

  pair_other : (k : TokenKind) (ts : List Token) → is_empty_pair k ts ≡ true → BeginsOther ts
  pair_other k [] h = tt
  pair_other k (u ∷ us) h = pair_step k u.kind u us refl h

  words_plain : (met : List T) (inside : Bool) (ts : List Token) → (inside ≡ true → BeginsOther ts) →
      ArePlain (words_from s met inside ts) × (words_variables (words_from s met inside ts) ≡ numbers s.text met ts)
  words_plain met inside [] g = (tt, refl)
  words_plain met true (t ∷ ts) g =
      let i = words_plain met false ts (λ e. absurd (cc)) in
      (i.0, i.1 ∙ other_step (is_variable t.kind) met (spelling s.text t) ts (g refl))
  words_plain met false (t ∷ ts) g =
      let w = is_word s met t ts t.kind in
      let after = met_behind s.text met t in
      let i = words_plain after (is_empty_pair t.kind ts) ts (pair_other t.kind ts) in (
        (w.plain, (λ h. let n = w.number h in begins_plain after (is_empty_pair t.kind ts) ts n.0 n.1), i.0),
        ap (λ (vs : List ℕ). vs ++ words_variables (words_from s after (is_empty_pair t.kind ts) ts)) w.variables
            ∙ ap (λ (vs : List ℕ). cond (is_variable t.kind) (number_of met (spelling s.text t) ∷ []) [] ++ vs) i.1,
      )

  pub clause_words : (ts : List Token) → ArePlain (words_of s ts) × (words_variables (words_of s ts) ≡ numbers s.text [] ts)
  clause_words ts = words_plain [] false ts (λ e. absurd (cc))
