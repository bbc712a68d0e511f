-- The tokens (ISO/IEC 13211-1, 6.4), each as what is said of the whole of its bytes. Nothing here says how a text is walked over.
use Rattle.std.specs.Prelude.{◌≡◌, ℕ, suc, ◌==◌, ◌+◌, ◌*◌, ◌<◌, ◌≤◌, Bool, true, false, ◌&&◌, ◌||◌, not, List, [], ◌∷◌, ◌++◌, length}
use Rattle.std.specs.Prelude.{codes, fold, encode_utf8, Option, Some, None, if◌then◌else◌}
use Rattle.std.specs.List.{list_all, list_any}
use Rattle.std.specs.Option.{option_map_or}
use Rattle.std.specs.Char.{IsScalar}
use Rattle.op_token.specs.declared.token.TokenKind.{TokenKind}
use Rattle.op_token.specs.declared.token.TokenKind.TheVariants.{Name, QuotedName, Variable, Integer, Text, OpenRound, CloseRound}
use Rattle.op_token.specs.declared.token.TokenKind.TheVariants.{OpenSquare, CloseSquare, OpenCurly, CloseCurly, Comma, Bar, End}

-- the characters (6.5)
abbrev pub small_letters : List ℕ
small_letters = codes "abcdefghijklmnopqrstuvwxyz"

abbrev pub variable_starts : List ℕ
variable_starts = codes "ABCDEFGHIJKLMNOPQRSTUVWXYZ_"

abbrev pub alphanumeric : List ℕ
alphanumeric = codes "abcdefghijklmnopqrstuvwxyzABCDEFGHIJKLMNOPQRSTUVWXYZ0123456789_"

abbrev pub symbol_characters : List ℕ
symbol_characters = codes "+-*/\\^<>=~:.?@#&$"

abbrev pub layout_characters : List ℕ
layout_characters = 32 ∷ 9 ∷ 10 ∷ 11 ∷ 12 ∷ 13 ∷ []

abbrev pub is_one_of : List ℕ → ℕ → Bool
is_one_of characters b = list_any (λ c. b == c) characters

abbrev pub are_of : List ℕ → List ℕ → Bool
are_of characters s = list_all (is_one_of characters) s

-- the bytes from here on begin a comment
abbrev pub opens_comment : List ℕ → Bool
opens_comment [] = false
opens_comment (b ∷ []) = false
opens_comment (b ∷ c ∷ s) = b == 47 && c == 42

-- a word: a character of one class, and letters, digits and _ behind it
abbrev pub is_word_from : List ℕ → List ℕ → Bool
is_word_from first [] = false
is_word_from first (b ∷ s) = is_one_of first b && are_of alphanumeric s

-- symbol characters, one at least, which begin no comment
abbrev pub is_symbol_name : List ℕ → Bool
is_symbol_name [] = false
is_symbol_name (b ∷ s) = are_of symbol_characters (b ∷ s) && not (opens_comment (b ∷ s))

-- an unquoted name (6.4.2)
pub data IsName (s : List ℕ) : Type 0 where
  word_name : is_word_from small_letters s ≡ true → IsName s
  symbol_name : is_symbol_name s ≡ true → IsName s
  cut_name : s ≡ codes "!" → IsName s
  semicolon_name : s ≡ codes ";" → IsName s

-- the number that digits spell to a base (6.4.4)
abbrev pub place_in : List ℕ → ℕ → ℕ
place_in [] b = 0
place_in (c ∷ s) b = if b == c then 0 else suc (place_in s b)

abbrev pub value_of_digit : ℕ → ℕ
value_of_digit b = if is_one_of (codes "ABCDEF") b then place_in (codes "0123456789ABCDEF") b else place_in (codes "0123456789abcdef") b

abbrev pub value_of_digits : ℕ → List ℕ → ℕ
value_of_digits base s = fold (λ n b. n * base + value_of_digit b) 0 s

-- some digits, one at least, and their number
pub record IsNumber (base : ℕ) (digits s : List ℕ) (n : ℕ) : Type 0 where
  pub some : 0 < length s
  pub each : are_of digits s ≡ true
  pub value : value_of_digits base s ≡ n

abbrev pub octal_digits : List ℕ
octal_digits = codes "01234567"

abbrev pub decimal_digits : List ℕ
decimal_digits = codes "0123456789"

abbrev pub hexadecimal_digits : List ℕ
hexadecimal_digits = codes "0123456789abcdefABCDEF"

-- what the sign behind a backslash stands for (6.4.2.1)
abbrev pub signs : List ℕ
signs = codes "abfnrtv\\'\"`"

abbrev pub sign_value : ℕ → ℕ
sign_value b =
    if b == 97 then 7 else if b == 98 then 8 else if b == 102 then 12 else if b == 110 then 10 else if b == 114 then 13
    else if b == 116 then 9 else if b == 118 then 11 else b

-- an escape, without its backslash: a sign, a newline, which stands for nothing, or the number of a character
pub data IsEscape (s : List ℕ) (value : Option ℕ) : Type 0 where
  sign : (b : ℕ) → is_one_of signs b ≡ true → s ≡ b ∷ [] → value ≡ Some (sign_value b) → IsEscape s value
  newline : s ≡ 10 ∷ [] → value ≡ None → IsEscape s value
  octal_code : (digits : List ℕ) (n : ℕ) → IsNumber 8 octal_digits digits n → IsScalar n
      → s ≡ digits ++ codes "\\" → value ≡ Some n → IsEscape s value
  hexadecimal_code : (digits : List ℕ) (n : ℕ) → IsNumber 16 hexadecimal_digits digits n → IsScalar n
      → s ≡ codes "x" ++ (digits ++ codes "\\") → value ≡ Some n → IsEscape s value

-- one character of a text in quotes, and the bytes that it stands for: itself, but no quote, backslash or newline; the quote doubled,
-- for one quote; or an escape, for its character in UTF-8, and for nothing where the backslash stands before a newline
pub data IsQuotedCharacter (quote : ℕ) (s meant : List ℕ) : Type 0 where
  plain : (c : ℕ) → IsScalar c → is_one_of (quote ∷ codes "\\\n") c ≡ false → s ≡ encode_utf8 c → meant ≡ s
      → IsQuotedCharacter quote s meant
  doubled : s ≡ quote ∷ quote ∷ [] → meant ≡ quote ∷ [] → IsQuotedCharacter quote s meant
  escaped : (e : List ℕ) (value : Option ℕ) → IsEscape e value → s ≡ 92 ∷ e → meant ≡ option_map_or encode_utf8 value []
      → IsQuotedCharacter quote s meant

-- some characters of a text in quotes, one behind the other, and the bytes that they stand for
pub data AreQuoted (quote : ℕ) : List ℕ → List ℕ → Type 0 where
  no_characters : AreQuoted quote [] []
  one_more : (c meant s rest : List ℕ) → IsQuotedCharacter quote c meant → AreQuoted quote s rest
      → AreQuoted quote (c ++ s) (meant ++ rest)

-- a text between two quotes, and the bytes that it stands for
pub record IsQuoted (quote : ℕ) (s meant : List ℕ) : Type 0 where
  pub inside : List ℕ
  pub are : AreQuoted quote inside meant
  pub whole : s ≡ quote ∷ (inside ++ quote ∷ [])

-- a quoted token, and the bytes that it stands for
abbrev pub StandsFor : TokenKind → List ℕ → List ℕ → Type 0
StandsFor QuotedName s meant = IsQuoted 39 s meant
StandsFor Text s meant = IsQuoted 34 s meant
StandsFor kind s meant = ⊥

-- what stands behind 0' : a character but the quote and the backslash, the quote doubled, or an escape that stands for a character
pub data IsCharacterCode (s : List ℕ) (n : ℕ) : Type 0 where
  character : IsScalar n → (n ≡ 39 → ⊥) → (n ≡ 92 → ⊥) → s ≡ encode_utf8 n → IsCharacterCode s n
  quote_twice : s ≡ codes "''" → n ≡ 39 → IsCharacterCode s n
  escape : (e : List ℕ) → IsEscape e (Some n) → s ≡ 92 ∷ e → IsCharacterCode s n

-- the integers: up to the greatest of 64 bits, and one more where the name - stands directly before
pub data IsInRange (minus : Bool) (n : ℕ) : Type 0 where
  within : n ≤ 9223372036854775807 → IsInRange minus n
  least : minus ≡ true → n ≡ 9223372036854775808 → IsInRange minus n

-- digits, with the base in front of them where it isn't 10 (6.4.4)
pub data AreDigits (s : List ℕ) (n : ℕ) : Type 0 where
  decimal : IsNumber 10 decimal_digits s n → AreDigits s n
  binary : (digits : List ℕ) → IsNumber 2 (codes "01") digits n → s ≡ codes "0b" ++ digits → AreDigits s n
  octal : (digits : List ℕ) → IsNumber 8 octal_digits digits n → s ≡ codes "0o" ++ digits → AreDigits s n
  hexadecimal : (digits : List ℕ) → IsNumber 16 hexadecimal_digits digits n → s ≡ codes "0x" ++ digits → AreDigits s n

-- an integer (6.4.4)
pub data IsInteger (minus : Bool) (s : List ℕ) (n : ℕ) : Type 0 where
  number : AreDigits s n → IsInRange minus n → IsInteger minus s n
  code : (c : List ℕ) → IsCharacterCode c n → s ≡ codes "0'" ++ c → IsInteger minus s n

-- the spellings of each kind of token; `minus` says that the unquoted name - stands directly before
abbrev pub IsToken : Bool → TokenKind → List ℕ → Type 0
IsToken minus Name s = IsName s
IsToken minus QuotedName s = (meant : List ℕ) × IsQuoted 39 s meant
IsToken minus Variable s = is_word_from variable_starts s ≡ true
IsToken minus (Integer n) s = IsInteger minus s n
IsToken minus Text s = (meant : List ℕ) × IsQuoted 34 s meant
IsToken minus OpenRound s = s ≡ codes "("
IsToken minus CloseRound s = s ≡ codes ")"
IsToken minus OpenSquare s = s ≡ codes "["
IsToken minus CloseSquare s = s ≡ codes "]"
IsToken minus OpenCurly s = s ≡ codes "{"
IsToken minus CloseCurly s = s ≡ codes "}"
IsToken minus Comma s = s ≡ codes ","
IsToken minus Bar s = s ≡ codes "|"
IsToken minus End s = s ≡ codes "."

-- layout, % or the end stands here
abbrev pub follows_end : List ℕ → Bool
follows_end [] = true
follows_end (b ∷ s) = is_one_of layout_characters b || b == 37

-- a full stop by itself is the end where layout, % or the end of the text stands behind it, and else a name (6.4.8)
abbrev pub IsBefore : TokenKind → List ℕ → List ℕ → Type 0
IsBefore End s behind = follows_end behind ≡ true
IsBefore Name s behind = s ≡ codes "." → follows_end behind ≡ false
IsBefore kind s behind = Unit {0}
