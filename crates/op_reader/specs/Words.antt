-- The words of a clause: each token with what it is where an operand is expected, and where an operator is. What a token is there
-- depends on the two tokens behind it alone (ISO/IEC 13211-1, 6.3.1 and 6.3.4; where an operator's name is an operand is this
-- project's own).
use Rattle.std.specs.Prelude.{ℕ, suc, pos, neg_ℤ, ◌-◌, Bool, true, false, not, ◌&&◌, ◌||◌, ℤ, List, [], ◌∷◌, ◌++◌, map, drop, length}
use Rattle.std.specs.Prelude.{slice_index, slice_range, Option, Some, None, is_some, unwrap_or, codes, bytes_eq, encode_utf8, nat_lt}
use Rattle.std.specs.Prelude.{nat_le, option_and_then, if◌then◌else◌}
use Rattle.std.specs.Option.{option_map_or}
use Rattle.std.specs.Str.{chars}
use Rattle.op_logic.specs.Term.{Term, var, int, node, atom, no_args, arg}
use Rattle.op_term.specs.Ops.{Table, prefix_in, infix_in, postfix_in}
use Rattle.op_term.specs.declared.ops.Meaning.{Meaning}
use Rattle.op_token.specs.declared.token.Token.{Token}
use Rattle.op_token.specs.declared.token.TokenKind.{TokenKind}
use Rattle.op_token.specs.declared.token.TokenKind.TheVariants.{Name, QuotedName, Variable, Integer, Text, OpenRound, CloseRound}
use Rattle.op_token.specs.declared.token.TokenKind.TheVariants.{OpenSquare, CloseSquare, OpenCurly, CloseCurly, Comma, Bar, End}
use Rattle.op_token.specs.Spelling.{least_magnitude}
use Rattle.op_token.specs.Tokens.{is_minus, unquoted}
use Rattle.op_term.specs.declared.quotes.DoubleQuotes.{DoubleQuotes}
use Rattle.op_term.specs.declared.quotes.DoubleQuotes.TheVariants.{Codes, Atom}
use Rattle.op_reader.specs.declared.bracket.Bracket.{Bracket}
use Rattle.op_reader.specs.declared.bracket.Bracket.TheVariants.{Round, Square, Curly}
use Rattle.op_reader.specs.Row.{Operator}

-- where an operand is expected: a name whose arguments follow; the - of a negative number, with that number; a prefix operator; an
-- operand by itself; an integer that only a - before it could make one of 64 bits
pub data AsOperand (N : Type 0) : Type 0 where
  functor : N → AsOperand N
  minus : Term N → AsOperand N
  prefix : Operator N → AsOperand N
  plain : Term N → AsOperand N
  excess : AsOperand N

-- where an operator is expected: an infix or a postfix operator; or nothing that may stand there
pub data AsOperator (N : Type 0) : Type 0 where
  joins : Operator N → AsOperator N
  misplaced : AsOperator N

-- brackets, commas, bars and other words, each with its place
pub data Word (N : Type 0) : Type 0 where
  opened : ℕ → Bracket → Word N
  closed : ℕ → Word N
  comma : ℕ → AsOperator N → Word N
  bar : ℕ → Word N
  word : ℕ → AsOperand N → AsOperator N → Word N

-- a text, with the operators and the flag for text in double quotes
pub record Source : Type 0 where
  pub table : Table
  pub quotes : DoubleQuotes
  pub text : List ℕ

abbrev pub source : Table → DoubleQuotes → List ℕ → Source
source table quotes text = record { table = table; quotes = quotes; text = text }

abbrev pub spelling : List ℕ → Token → List ℕ
spelling text t = slice_range text t.from t.to

-- the name that a token is
abbrev pub name_of : List ℕ → Token → Option (List ℕ)
name_of text t = elim (t.kind) [ Name ↦ Some (spelling text t) | QuotedName ↦ Some (unquoted text t) | kind ↦ None ]

-- the variables, by their names in order of first occurrence; each _ is a new one

abbrev pub is_variable : TokenKind → Bool
is_variable Variable = true
is_variable kind = false

abbrev pub is_anonymous : List ℕ → Bool
is_anonymous name = bytes_eq name (codes "_")

-- the number of a variable with a name among some, of which the first has the number n
abbrev pub met_from : ℕ → List (List ℕ) → List ℕ → Option ℕ
met_from n [] name = None
met_from n (w ∷ ws) name = if bytes_eq name w then Some n else met_from (suc n) ws name

abbrev pub met_at : List (List ℕ) → List ℕ → Option ℕ
met_at met name = if is_anonymous name then None else met_from 0 met name

-- a new variable has the next number
abbrev pub number_of : List (List ℕ) → List ℕ → ℕ
number_of met name = unwrap_or (met_at met name) (length met)

abbrev pub with_variable : List (List ℕ) → List ℕ → List (List ℕ)
with_variable met name = elim (met_at met name) [ Some n ↦ met | None ↦ met ++ name ∷ [] ]

abbrev pub met_behind : List ℕ → List (List ℕ) → Token → List (List ℕ)
met_behind text met t = if is_variable t.kind then with_variable met (spelling text t) else met

-- the variables of some tokens, behind those met before
abbrev pub variables_of : List ℕ → List (List ℕ) → List Token → List (List ℕ)
variables_of text met [] = met
variables_of text met (t ∷ ts) = variables_of text (met_behind text met t) ts

-- the named ones with their numbers
abbrev pub named_from : ℕ → List (List ℕ) → List (List ℕ × ℕ)
named_from n [] = []
named_from n (name ∷ names) = if is_anonymous name then named_from (suc n) names else (name, n) ∷ named_from (suc n) names

-- text in double quotes

-- a list is '.'(H,T) or []
abbrev pub list_of : {N : Type 0} → N → Term N → List (Term N) → Term N
list_of dot end [] = end
list_of dot end (t ∷ ts) = node dot (arg t (arg (list_of dot end ts) no_args))

abbrev pub char_term : DoubleQuotes → ℕ → Term (List ℕ)
char_term Codes c = int (pos c)
char_term quotes c = atom (encode_utf8 c)

abbrev pub text_term : DoubleQuotes → List ℕ → Term (List ℕ)
text_term Atom s = atom s
text_term quotes s = list_of (codes ".") (atom (codes "[]")) (map (char_term quotes) (chars s))

-- names as operators

abbrev pub operator_of : List ℕ → Meaning → Operator (List ℕ)
operator_of name m = record { name = name; priority = m.priority; kind = m.kind }

abbrev pub as_operator : Table → List ℕ → AsOperator (List ℕ)
as_operator table name =
    elim (infix_in table name) [
      | Some m ↦ joins (operator_of name m)
      | None ↦ option_map_or (λ m. joins (operator_of name m)) (postfix_in table name) misplaced
    ]

-- a ( stands first among these tokens, directly behind the token before
abbrev pub opens : List Token → Bool
opens [] = false
opens (u ∷ us) = elim (u.kind) [ OpenRound ↦ not u.layout_before | kind ↦ false ]

abbrev pub magnitude : TokenKind → Option ℕ
magnitude (Integer m) = Some m
magnitude kind = None

-- the magnitude of an integer that stands first among these tokens, directly behind the token before
abbrev pub magnitude_behind : List Token → Option ℕ
magnitude_behind [] = None
magnitude_behind (u ∷ us) = if u.layout_before then None else magnitude u.kind

-- the negative integer of 64 bits with a magnitude
abbrev pub negated : ℕ → Option ℤ
negated m = if nat_le m least_magnitude then Some (neg_ℤ (pos m)) else None

-- the integer that the unquoted name - makes negative
abbrev pub negative : List ℕ → Token → List Token → Option ℤ
negative text t ts =
    if is_minus t.kind (slice_index text t.from) (t.to - t.from) then option_and_then negated (magnitude_behind ts) else None

-- )  ]  }  , and the bar
abbrev pub ends_operand : TokenKind → Bool
ends_operand CloseRound = true
ends_operand CloseSquare = true
ends_operand CloseCurly = true
ends_operand Comma = true
ends_operand Bar = true
ends_operand kind = false

-- an infix operator that is no prefix operator
abbrev pub is_infix_alone : Table → List ℕ → Bool
is_infix_alone table name = is_some (infix_in table name) && not (is_some (prefix_in table name))

abbrev pub is_infix_name : Table → List ℕ → Token → Bool
is_infix_name table text t = option_map_or (is_infix_alone table) (name_of text t) false

-- a name that behind another one can only be an infix operator
abbrev pub is_infix_only : Table → List ℕ → Token → List Token → Bool
is_infix_only table text t ts = is_infix_name table text t && not (opens ts) && not (is_some (negative text t ts))

-- a prefix operator's name is an operand before these tokens: before what ends an operand, and before an infix operator
abbrev pub stands_alone : Table → List ℕ → List Token → Bool
stands_alone table text [] = true
stands_alone table text (u ∷ us) = ends_operand u.kind || is_infix_only table text u us

-- a name that no arguments follow
abbrev pub bare_name : Table → List ℕ → List ℕ → List Token → AsOperand (List ℕ)
bare_name table text name ts =
    elim (prefix_in table name) [
      | Some m ↦ if stands_alone table text ts then plain (atom name) else prefix (operator_of name m)
      | None ↦ plain (atom name)
    ]

abbrev pub signed_or_bare : Option ℤ → AsOperand (List ℕ) → AsOperand (List ℕ)
signed_or_bare (Some i) bare = minus (int i)
signed_or_bare None bare = bare

-- a name before these tokens: a functor where arguments follow, the - of a negative number, else a name by itself
abbrev pub name_as_operand : Table → List ℕ → Token → List ℕ → List Token → AsOperand (List ℕ)
name_as_operand table text t name ts = if opens ts then functor name else signed_or_bare (negative text t ts) (bare_name table text name ts)

abbrev pub name_word : Table → List ℕ → Token → List ℕ → List Token → Word (List ℕ)
name_word table text t name ts = word t.from (name_as_operand table text t name ts) (as_operator table name)

-- an operand that is never an operator
abbrev pub operand_word : Token → Term (List ℕ) → Word (List ℕ)
operand_word t term = word t.from (plain term) misplaced

abbrev pub integer_word : Token → ℕ → Word (List ℕ)
integer_word t m = if nat_lt m least_magnitude then operand_word t (int (pos m)) else word t.from excess misplaced

-- [] and {} are names, also with layout inside
abbrev pub is_empty_pair : TokenKind → List Token → Bool
is_empty_pair kind [] = false
is_empty_pair OpenSquare (u ∷ us) = elim (u.kind) [ CloseSquare ↦ true | kind ↦ false ]
is_empty_pair OpenCurly (u ∷ us) = elim (u.kind) [ CloseCurly ↦ true | kind ↦ false ]
is_empty_pair kind (u ∷ us) = false

abbrev pub empty_name : Bracket → List ℕ
empty_name Square = codes "[]"
empty_name b = codes "{}"

-- before these tokens behind it
abbrev pub empty_word : Token → List ℕ → List Token → Word (List ℕ)
empty_word t name ts = word t.from (if opens ts then functor name else plain (atom name)) misplaced

abbrev pub opening_word : Token → Bracket → List Token → Word (List ℕ)
opening_word t b ts =
    if is_empty_pair t.kind ts then empty_word t (empty_name b) (drop 1 ts) else opened t.from b

-- the word that a token of a kind is before these tokens. No end token is among those of a clause
abbrev pub word_by : TokenKind → Source → List (List ℕ) → Token → List Token → Word (List ℕ)
word_by Name s met t ts = name_word s.table s.text t (spelling s.text t) ts
word_by QuotedName s met t ts = name_word s.table s.text t (unquoted s.text t) ts
word_by Variable s met t ts = operand_word t (var (number_of met (spelling s.text t)))
word_by (Integer m) s met t ts = integer_word t m
word_by Text s met t ts = operand_word t (text_term s.quotes (unquoted s.text t))
word_by OpenRound s met t ts = opening_word t Round ts
word_by OpenSquare s met t ts = opening_word t Square ts
word_by OpenCurly s met t ts = opening_word t Curly ts
word_by Comma s met t ts = comma t.from (as_operator s.table (codes ","))
word_by Bar s met t ts = bar t.from
word_by End s met t ts = bar t.from
word_by kind s met t ts = closed t.from

abbrev pub word_of : Source → List (List ℕ) → Token → List Token → Word (List ℕ)
word_of s met t ts = word_by t.kind s met t ts

-- the words of tokens, behind these variables; `inside` says that the first token belongs to a name [] or {} before it
abbrev pub words_from : Source → List (List ℕ) → Bool → List Token → List (Word (List ℕ))
words_from s met inside [] = []
words_from s met true (t ∷ ts) = words_from s met false ts
words_from s met false (t ∷ ts) = word_of s met t ts ∷ words_from s (met_behind s.text met t) (is_empty_pair t.kind ts) ts

-- the words of a clause
abbrev pub words_of : Source → List Token → List (Word (List ℕ))
words_of s ts = words_from s [] false ts
