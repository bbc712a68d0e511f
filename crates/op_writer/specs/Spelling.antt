-- How a name is spelt (ISO/IEC 13211-1, 6.4.2).
use Rattle.std.specs.Prelude.{ℕ, ◌+◌, ◌/◌, ◌%◌, Bool, false, not, ◌||◌, ◌&&◌, ◌==◌, nat_le, nat_lt, List, [], ◌∷◌, ◌++◌, take}
use Rattle.std.specs.Prelude.{if◌then◌else◌, codes, bytes_eq, encode_utf8}
use Rattle.std.specs.List.{list_all, flat_map}
use Rattle.std.specs.Str.{chars}
use Rattle.op_base.specs.Characters.{is_symbol, is_word, is_small}
use Rattle.op_writer.specs.declared.style.Style.{Style}
use Rattle.op_writer.specs.declared.style.Style.TheVariants.{Plain, Quoted, Canonical}

-- symbol characters alone, one at least: an empty name isn't made of symbol characters
abbrev pub is_symbolic : List ℕ → Bool
is_symbolic [] = false
is_symbolic (b ∷ bs) = is_symbol b && list_all is_symbol bs

-- a small letter, and then letters, digits and _
abbrev pub is_word_name : List ℕ → Bool
is_word_name [] = false
is_word_name (b ∷ bs) = is_small b && list_all is_word bs

-- the other names that stand without quotes: [] {} ! ;
abbrev pub is_solo : List ℕ → Bool
is_solo name = bytes_eq name (codes "[]") || bytes_eq name (codes "{}") || bytes_eq name (codes "!") || bytes_eq name (codes ";")

-- symbol characters that are quoted all the same: the name . alone, and the names that begin with /* as a comment does
abbrev pub is_other_token : List ℕ → Bool
is_other_token name = bytes_eq name (codes ".") || bytes_eq (take 2 name) (codes "/*")

-- a name that needs no quotes
abbrev pub is_unquoted : List ℕ → Bool
is_unquoted name = is_word_name name || is_solo name || (is_symbolic name && not (is_other_token name))

-- a control character: U+0000 to U+001F and U+007F to U+009F
abbrev pub is_control : ℕ → Bool
is_control c = nat_lt c 32 || (nat_le 127 c && nat_lt c 160)

-- a digit to base 16
abbrev pub digit : ℕ → ℕ
digit d = if nat_lt d 10 then 48 + d else 87 + d

-- a number below 256 in hexadecimal, without leading zeros
abbrev pub hexadecimal : ℕ → List ℕ
hexadecimal c = if nat_lt c 16 then digit c ∷ [] else digit (c / 16) ∷ digit (c % 16) ∷ []

-- a character inside quotes: newline, tab, the backslash and the quote have escapes of their own; every other control character stands by
-- its number in hexadecimal, between \x and \ ; each further character is itself
abbrev pub escaped : ℕ → List ℕ
escaped c =
    if c == 10 then codes "\\n" else
    if c == 9 then codes "\\t" else
    if c == 92 then codes "\\\\" else
    if c == 39 then codes "\\'" else
    if is_control c then codes "\\x" ++ hexadecimal c ++ codes "\\" else encode_utf8 c

-- a name in quotes: its characters, each as it stands inside, between two quotes
abbrev pub quoted : List ℕ → List ℕ
quoted name = codes "'" ++ flat_map escaped (chars name) ++ codes "'"

-- a name as a style writes it: plain as it is, else in quotes where it needs them
abbrev pub name_text : Style → List ℕ → List ℕ
name_text Plain name = name
name_text Quoted name = if is_unquoted name then name else quoted name
name_text Canonical name = if is_unquoted name then name else quoted name
