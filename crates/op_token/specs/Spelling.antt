-- The spellings (ISO/IEC 13211-1, 6.4): what begins at a place of a text, to its end, or the first fault in it. `at` is the place of the
-- bytes, and the first `inside` of them belong to a character or an escape that has begun.
use Rattle.std.specs.Prelude.{ℕ, zero, suc, ◌≤◌, ◌==◌, ◌+◌, ◌-◌, ◌*◌, Bool, true, false, ◌||◌, ◌&&◌, nat_le, nat_lt, List, [], ◌∷◌}
use Rattle.std.specs.Prelude.{take, drop, fold, Option, Some, None, unwrap_or, if◌then◌else◌}
use Rattle.std.specs.Option.{option_map_or}
use Rattle.op_token.specs.declared.spelling.Spelling.{Spelling}
use Rattle.op_token.specs.declared.spelling.Spelling.TheVariants.{Gap, Whole, Fault}
use Rattle.op_token.specs.declared.token.TokenKind.{TokenKind}
use Rattle.op_token.specs.declared.token.TokenKind.TheVariants.{Name, QuotedName, Variable, Integer, Text, End}
use Rattle.op_token.specs.declared.token.TokenFaultKind.{TokenFaultKind}
use Rattle.op_token.specs.declared.token.TokenFaultKind.TheVariants.{BadChar, OpenQuote, OpenComment, BadEscape, BadNumber, NumberRange}
use Rattle.op_token.specs.declared.class.Class.{Class}
use Rattle.op_token.specs.declared.class.Class.TheVariants.{Layout, Percent, Small, Capital, Digit, SingleQuote, DoubleQuote}
use Rattle.op_token.specs.declared.class.Class.TheVariants.{Slash, Dot, Symbol, Solo, Punctuation, Bad}
use Rattle.op_token.specs.declared.set.Set.{Set}
use Rattle.op_token.specs.declared.set.Set.TheVariants.{Word, Symbol as symbols, Decimal, Hexadecimal, Octal, Binary}
use Rattle.op_token.specs.declared.escape.Escape.{Escape}
use Rattle.op_token.specs.Set.{has, run, begins_with}
use Rattle.op_token.specs.Character.{is_scalar, char_at}
use Rattle.op_token.specs.Class.{class_of}

abbrev pub fault : ℕ → TokenFaultKind → Spelling
fault place kind = Fault (record { place = place; kind = kind })

-- behind a % : a comment to the end of the line
abbrev pub line_from : ℕ → ℕ → List ℕ → Spelling
line_from at inside [] = Gap at
line_from at (suc n) (b ∷ s) = line_from (suc at) n s
line_from at zero (b ∷ s) =
    if b == 10 then Gap (suc at)
    else option_map_or (λ c. line_from (suc at) c.more s) (char_at b s) (fault at BadChar)

-- behind a /* at `start` : a comment to the first */
abbrev pub block_from : ℕ → ℕ → ℕ → List ℕ → Spelling
block_from start at inside [] = fault start OpenComment
block_from start at (suc n) (b ∷ s) = block_from start (suc at) n s
block_from start at zero (b ∷ s) =
    if b == 42 && begins_with 47 s then Gap (suc (suc at))
    else option_map_or (λ c. block_from start (suc at) c.more s) (char_at b s) (fault at BadChar)

-- the number that digits to a base spell
abbrev pub digit_value : ℕ → ℕ
digit_value b = if nat_le b 57 then b - 48 else if nat_le b 90 then b - 55 else b - 87

abbrev pub number_of : ℕ → List ℕ → ℕ
number_of base digits = fold (λ n b. n * base + digit_value b) 0 digits

-- the escapes of one letter or sign: \n \t \a \b \f \v \r \\ \' \" \`
abbrev pub simple_escape : ℕ → Option ℕ
simple_escape b =
    if b == 110 then Some 10 else
    if b == 116 then Some 9 else
    if b == 97 then Some 7 else
    if b == 98 then Some 8 else
    if b == 102 then Some 12 else
    if b == 118 then Some 11 else
    if b == 114 then Some 13 else
    if b == 92 || b == 39 || b == 34 || b == 96 then Some b else None

-- an escape by a number: digits of a set to a base, one at least, and a backslash, for a scalar value; `lead` bytes stand before them
abbrev pub numbered : ℕ → Set → ℕ → List ℕ → Option Escape
numbered base set lead s =
    let digits = run set s in
    let code = number_of base (take digits s) in
    if nat_lt 0 digits && begins_with 92 (drop digits s) && is_scalar code
    then Some (record { code = Some code; len = lead + digits + 1 }) else None

-- the escape behind a backslash: what it stands for, and its length
abbrev pub escape_at : List ℕ → Option Escape
escape_at [] = None
escape_at (b ∷ s) =
    option_map_or (λ c. Some (record { code = Some c; len = 1 }))
    (simple_escape b)
    (if b == 10 then Some (record { code = None; len = 1 }) else
    if b == 120 then numbered 16 Hexadecimal 1 s else
    if has Octal b then numbered 8 Octal 0 (b ∷ s) else None)

-- behind a quote at `start`: quoted text to the same quote, which is doubled inside
abbrev pub quoted_from : TokenKind → ℕ → ℕ → ℕ → ℕ → List ℕ → Spelling
quoted_from kind quote start at inside [] = fault start OpenQuote
quoted_from kind quote start at (suc n) (b ∷ s) = quoted_from kind quote start (suc at) n s
quoted_from kind quote start at zero (b ∷ s) =
    if b == 10 then fault start OpenQuote
    else if b == quote then (if begins_with quote s then quoted_from kind quote start (suc at) 1 s else Whole kind (suc at))
    else if b == 92 then option_map_or (λ e. quoted_from kind quote start (suc at) e.len s) (escape_at s) (fault at BadEscape)
    else option_map_or (λ c. quoted_from kind quote start (suc at) c.more s) (char_at b s) (fault at BadChar)

-- the greatest magnitude of an integer, which stands behind the name - alone
abbrev pub least_magnitude : ℕ
least_magnitude = 9223372036854775808

-- an integer token, where its magnitude is not too great; `minus` says that the name - stands directly before it
abbrev pub ranged : ℕ → Bool → ℕ → ℕ → Spelling
ranged at minus magnitude end =
    if nat_lt magnitude least_magnitude || (minus && magnitude == least_magnitude)
    then Whole (Integer magnitude) end else fault at NumberRange

-- behind 0x, 0o or 0b at `at`: digits to a base, one at least
abbrev pub based : ℕ → Set → ℕ → Bool → List ℕ → Spelling
based base set at minus s =
    let digits = run set s in
    if digits == 0 then fault at BadNumber else ranged at minus (number_of base (take digits s)) (at + 2 + digits)

-- whether these bytes are a . and a digit at least
abbrev pub is_fraction : List ℕ → Bool
is_fraction [] = false
is_fraction (b ∷ []) = false
is_fraction (b ∷ c ∷ s) = b == 46 && has Decimal c

-- decimal digits at `at`, without a fraction
abbrev pub decimal : ℕ → Bool → List ℕ → Spelling
decimal at minus s =
    let digits = run Decimal s in
    if is_fraction (drop digits s) then fault at BadNumber else ranged at minus (number_of 10 (take digits s)) (at + digits)

-- behind 0' at `at` and a backslash: an escape, but that of a newline
abbrev pub escaped_code_at : ℕ → List ℕ → Spelling
escaped_code_at at s =
    if begins_with 10 s then fault at BadNumber
    else option_map_or (λ e. Whole (Integer (unwrap_or e.code 0)) (at + 3 + e.len)) (escape_at s) (fault (at + 2) BadEscape)

-- behind 0' at `at`: an escape, a doubled quote, or a character other than the quote and the backslash
abbrev pub code_at : ℕ → List ℕ → Spelling
code_at at [] = fault at BadNumber
code_at at (b ∷ s) =
    if b == 92 then escaped_code_at at s
    else if b == 39 then (if begins_with 39 s then Whole (Integer 39) (at + 4) else fault at BadNumber)
    else option_map_or (λ c. Whole (Integer c.code) (at + 3 + c.more)) (char_at b s) (fault at BadNumber)

-- an integer, from its first digit on
abbrev pub number_at : ℕ → Bool → List ℕ → Spelling
number_at at minus [] = fault at BadNumber
number_at at minus (b ∷ s) =
    if b == 48 && begins_with 39 s then code_at at (drop 1 s) else
    if b == 48 && begins_with 120 s then based 16 Hexadecimal at minus (drop 1 s) else
    if b == 48 && begins_with 111 s then based 8 Octal at minus (drop 1 s) else
    if b == 48 && begins_with 98 s then based 2 Binary at minus (drop 1 s) else
    decimal at minus (b ∷ s)

-- a full stop ends before these bytes: layout, % or the end
abbrev pub ends_clause : List ℕ → Bool
ends_clause [] = true
ends_clause (b ∷ s) = elim (class_of b) [ Layout ↦ true | Percent ↦ true | k ↦ false ]

-- behind a . : the end where it is a symbol name by itself
abbrev pub dot_at : ℕ → List ℕ → Spelling
dot_at at s = if run symbols s == 0 && ends_clause s then Whole End (at + 1) else Whole Name (at + 1 + run symbols s)

-- behind a / : a comment, or a symbol name
abbrev pub slash_at : ℕ → List ℕ → Spelling
slash_at at s = if begins_with 42 s then block_from at (at + 2) 0 (drop 1 s) else Whole Name (at + 1 + run symbols s)

-- what a byte of a class begins, with the bytes behind it
abbrev pub spelled : Class → ℕ → Bool → ℕ → List ℕ → Spelling
spelled Layout at minus b s = Gap (at + 1)
spelled Percent at minus b s = line_from (at + 1) 0 s
spelled Small at minus b s = Whole Name (at + 1 + run Word s)
spelled Capital at minus b s = Whole Variable (at + 1 + run Word s)
spelled Digit at minus b s = number_at at minus (b ∷ s)
spelled SingleQuote at minus b s = quoted_from QuotedName 39 at (at + 1) 0 s
spelled DoubleQuote at minus b s = quoted_from Text 34 at (at + 1) 0 s
spelled Slash at minus b s = slash_at at s
spelled Dot at minus b s = dot_at at s
spelled Symbol at minus b s = Whole Name (at + 1 + run symbols s)
spelled Solo at minus b s = Whole Name (at + 1)
spelled (Punctuation kind) at minus b s = Whole kind (at + 1)
spelled Bad at minus b s = fault at BadChar

-- what begins at a place, with the bytes from there on
abbrev pub begins : ℕ → Bool → List ℕ → Spelling
begins at minus [] = Gap at
begins at minus (b ∷ s) = spelled (class_of b) at minus b s

-- a spelling ends at least behind one place and at most behind another
abbrev pub EndsBy : ℕ → ℕ → Spelling → Type 0
EndsBy low high (Gap end) = (low ≤ end) × (end ≤ high)
EndsBy low high (Whole kind end) = (low ≤ end) × (end ≤ high)
EndsBy low high (Fault f) = Unit {0}
