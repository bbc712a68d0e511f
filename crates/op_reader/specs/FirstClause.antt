-- The first clause of a text: its tokens up to the end token (ISO/IEC 13211-1, 6.2.1 and 6.4), and whether its brackets match.
use Rattle.std.specs.Prelude.{ℕ, Bool, true, false, List, [], ◌∷◌, drop, Option, Some, None, option_map, if◌then◌else◌}
use Rattle.op_token.specs.declared.token.Token.{Token}
use Rattle.op_token.specs.declared.token.TokenKind.{TokenKind}
use Rattle.op_token.specs.declared.token.TokenKind.TheVariants.{OpenRound, CloseRound, OpenSquare, CloseSquare, OpenCurly, CloseCurly, End}
use Rattle.op_reader.specs.declared.bracket.Bracket.{Bracket}
use Rattle.op_reader.specs.declared.bracket.Bracket.TheVariants.{Round, Square, Curly}
use Rattle.op_reader.specs.declared.bracket.Opened.{Opened}

-- the tokens before an end token, and that token
pub record Sentence : Type 0 where
  pub tokens : List Token
  pub stop : Token

abbrev pub sentence : List Token → Token → Sentence
sentence tokens stop = record { tokens = tokens; stop = stop }

abbrev pub is_end : TokenKind → Bool
is_end End = true
is_end kind = false

abbrev pub with_first : Token → Sentence → Sentence
with_first t s = record { tokens = t ∷ s.tokens; stop = s.stop }

-- up to the first end token; None where there is none
abbrev pub sentence_of : List Token → Option Sentence
sentence_of [] = None
sentence_of (t ∷ ts) = if is_end t.kind then Some (record { tokens = []; stop = t }) else option_map (with_first t) (sentence_of ts)

abbrev pub opening : TokenKind → Option Bracket
opening OpenRound = Some Round
opening OpenSquare = Some Square
opening OpenCurly = Some Curly
opening kind = None

abbrev pub closing : TokenKind → Option Bracket
closing CloseRound = Some Round
closing CloseSquare = Some Square
closing CloseCurly = Some Curly
closing kind = None

abbrev pub is_same : Bracket → Bracket → Bool
is_same Round Round = true
is_same Square Square = true
is_same Curly Curly = true
is_same a b = false

-- whether a closing bracket matches the innermost of those that are open
abbrev pub closes : List Opened → Bracket → Bool
closes [] b = false
closes (o ∷ os) b = is_same o.bracket b

-- whether a token may stand behind these open brackets, the innermost first; and those that are open behind it
abbrev pub fits : List Opened → Token → Bool
fits os t = elim (closing t.kind) [ Some b ↦ closes os b | None ↦ true ]

abbrev pub open_behind : List Opened → Token → List Opened
open_behind os t =
    elim (opening t.kind) [
      | Some b ↦ record { bracket = b; place = t.from } ∷ os
      | None ↦ elim (closing t.kind) [ Some b ↦ drop 1 os | None ↦ os ]
    ]

abbrev pub innermost : List Opened → Option ℕ
innermost [] = None
innermost (o ∷ os) = Some o.place

-- the place of the first closing bracket that doesn't match the innermost open one, else of the innermost bracket that is open at
-- the end; None where all brackets match
abbrev pub unmatched : List Opened → List Token → Option ℕ
unmatched os [] = innermost os
unmatched os (t ∷ ts) = if fits os t then unmatched (open_behind os t) ts else Some t.from
