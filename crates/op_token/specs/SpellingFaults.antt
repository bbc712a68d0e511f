-- The faults of tokens (ISO/IEC 13211-1, 6.4), each as what is said of the bytes from the place on where it begins; and layout and
-- comments, each as what is said of the whole of its bytes. Nothing here says how a text is walked over. Where one of these begins, it
-- comes before any token that is spelt there as well: 0xg is a fault, though 0 is an integer, and /* a comment, though / is a name.
use Rattle.std.specs.Prelude.{◌≡◌, ℕ, ◌==◌, ◌+◌, ◌<◌, Bool, true, false, ◌&&◌, ◌||◌, List, [], ◌∷◌, ◌++◌, length, map, codes, All}
use Rattle.std.specs.Prelude.{encode_utf8, Option}
use Rattle.std.specs.List.{concat}
use Rattle.std.specs.Char.{IsScalar}
use Rattle.op_token.specs.declared.token.TokenFaultKind.{TokenFaultKind}
use Rattle.op_token.specs.declared.token.TokenFaultKind.TheVariants.{BadChar, OpenQuote, OpenComment, BadEscape, BadNumber, NumberRange}
use Rattle.op_token.specs.Spellings.{layout_characters, alphanumeric, symbol_characters, octal_digits, decimal_digits}
use Rattle.op_token.specs.Spellings.{hexadecimal_digits, is_one_of, IsNumber, IsInRange, IsEscape, AreQuoted, IsCharacterCode}

-- some characters in UTF-8
pub record AreCharacters (s : List ℕ) : Type 0 where
  pub characters : List ℕ
  pub each : All IsScalar characters
  pub joined : s ≡ concat (map encode_utf8 characters)

-- a byte is here, and no character begins with it
pub record HasNoCharacter (s : List ℕ) : Type 0 where
  pub some : 0 < length s
  pub none : (c : ℕ) (behind : List ℕ) → IsScalar c → s ≡ encode_utf8 c ++ behind → ⊥

-- no escape begins here
abbrev pub HasNoEscape : List ℕ → Type 0
HasNoEscape s = (e behind : List ℕ) (value : Option ℕ) → IsEscape e value → s ≡ e ++ behind → ⊥

-- these bytes begin with one of some characters
abbrev pub starts_with : List ℕ → List ℕ → Bool
starts_with characters [] = false
starts_with characters (b ∷ s) = is_one_of characters b

-- the end of a comment stands in these bytes
abbrev pub closes_comment : List ℕ → Bool
closes_comment [] = false
closes_comment (b ∷ s) = (b == 42 && starts_with (codes "/") s) || closes_comment s

-- a comment begins here, and behind some characters of it, which don't end it, the rest stands: from % on, and from /* on
pub record LineUpTo (s rest : List ℕ) : Type 0 where
  pub body : List ℕ
  pub are : AreCharacters body
  pub open_still : is_one_of body 10 ≡ false
  pub split : s ≡ codes "%" ++ (body ++ rest)

pub record BlockUpTo (s rest : List ℕ) : Type 0 where
  pub body : List ℕ
  pub are : AreCharacters body
  pub open_still : closes_comment body ≡ false
  pub split : s ≡ codes "/*" ++ (body ++ rest)

-- a text in quotes begins here, and behind some characters of it the rest stands
pub record QuotedUpTo (s rest : List ℕ) : Type 0 where
  pub quote : ℕ
  pub body : List ℕ
  pub meant : List ℕ
  pub is_quote : is_one_of (codes "'\"") quote ≡ true
  pub are : AreQuoted quote body meant
  pub split : s ≡ quote ∷ (body ++ rest)

-- layout, or a comment; one that no newline ends goes to the end of the text (6.4.1)
pub data IsGap (s behind : List ℕ) : Type 0 where
  layout : (b : ℕ) → is_one_of layout_characters b ≡ true → s ≡ b ∷ [] → IsGap s behind
  line_comment : LineUpTo s (10 ∷ []) → IsGap s behind
  last_comment : LineUpTo s [] → behind ≡ [] → IsGap s behind
  block_comment : BlockUpTo s (codes "*/") → IsGap s behind

-- the characters that may begin a token, layout or a comment
abbrev pub beginners : List ℕ
beginners = layout_characters ++ (alphanumeric ++ (symbol_characters ++ codes "'\"%!;()[]{},|"))

-- a byte that begins nothing, or one that is no part of a character in a comment or in quotes
pub data IsBadCharacter (s : List ℕ) (place : ℕ) : Type 0 where
  begins_nothing : (b : ℕ) (behind : List ℕ) → is_one_of beginners b ≡ false → s ≡ b ∷ behind → place ≡ 0 → IsBadCharacter s place
  in_line : (rest : List ℕ) (w : LineUpTo s rest) → HasNoCharacter rest → place ≡ 1 + length w.body → IsBadCharacter s place
  in_block : (rest : List ℕ) (w : BlockUpTo s rest) → HasNoCharacter rest → place ≡ 2 + length w.body → IsBadCharacter s place
  in_quotes : (rest : List ℕ) (w : QuotedUpTo s rest) → HasNoCharacter rest → place ≡ 1 + length w.body → IsBadCharacter s place

-- the end of the bytes, or a newline
abbrev pub ends_line : List ℕ → Bool
ends_line [] = true
ends_line (b ∷ s) = b == 10

-- a backslash in quotes, or behind 0' , where no escape begins
pub data IsBadEscape (s : List ℕ) (place : ℕ) : Type 0 where
  escape_in_quotes : (rest : List ℕ) (w : QuotedUpTo s (92 ∷ rest)) → HasNoEscape rest → place ≡ 1 + length w.body → IsBadEscape s place
  escape_in_code : (rest : List ℕ) → s ≡ codes "0'\\" ++ rest → HasNoEscape rest → place ≡ 2 → IsBadEscape s place

-- a . and a digit stand here
abbrev pub starts_fraction : List ℕ → Bool
starts_fraction [] = false
starts_fraction (b ∷ s) = b == 46 && starts_with decimal_digits s

-- a prefix without a digit; digits, a full stop and a digit; 0' without a character, or with a backslash before a newline
pub data IsBadNumber (s : List ℕ) : Type 0 where
  no_binary : (rest : List ℕ) → s ≡ codes "0b" ++ rest → starts_with (codes "01") rest ≡ false → IsBadNumber s
  no_octal : (rest : List ℕ) → s ≡ codes "0o" ++ rest → starts_with octal_digits rest ≡ false → IsBadNumber s
  no_hexadecimal : (rest : List ℕ) → s ≡ codes "0x" ++ rest → starts_with hexadecimal_digits rest ≡ false → IsBadNumber s
  fraction : (digits rest : List ℕ) (n : ℕ) → IsNumber 10 decimal_digits digits n → starts_fraction rest ≡ true
      → s ≡ digits ++ rest → IsBadNumber s
  no_code : (rest : List ℕ) → s ≡ codes "0'" ++ rest → starts_with (codes "\\") rest ≡ false
      → ((c behind : List ℕ) (n : ℕ) → IsCharacterCode c n → rest ≡ c ++ behind → ⊥) → IsBadNumber s
  newline_code : (rest : List ℕ) → s ≡ codes "0'\\" ++ 10 ∷ rest → IsBadNumber s

-- digits that no further digit and no fraction follow, for a number that is too great
pub data IsTooGreat (minus : Bool) (s : List ℕ) : Type 0 where
  great_decimal : (digits rest : List ℕ) (n : ℕ) → IsNumber 10 decimal_digits digits n → (IsInRange minus n → ⊥)
      → starts_with decimal_digits rest ≡ false → starts_fraction rest ≡ false → s ≡ digits ++ rest → IsTooGreat minus s
  great_binary : (digits rest : List ℕ) (n : ℕ) → IsNumber 2 (codes "01") digits n → (IsInRange minus n → ⊥)
      → starts_with (codes "01") rest ≡ false → s ≡ codes "0b" ++ (digits ++ rest) → IsTooGreat minus s
  great_octal : (digits rest : List ℕ) (n : ℕ) → IsNumber 8 octal_digits digits n → (IsInRange minus n → ⊥)
      → starts_with octal_digits rest ≡ false → s ≡ codes "0o" ++ (digits ++ rest) → IsTooGreat minus s
  great_hexadecimal : (digits rest : List ℕ) (n : ℕ) → IsNumber 16 hexadecimal_digits digits n → (IsInRange minus n → ⊥)
      → starts_with hexadecimal_digits rest ≡ false → s ≡ codes "0x" ++ (digits ++ rest) → IsTooGreat minus s

-- the faults: what stands from a place on where one begins, and how far behind that place it is told
abbrev pub IsFault : Bool → TokenFaultKind → List ℕ → ℕ → Type 0
IsFault minus BadChar s place = IsBadCharacter s place
IsFault minus OpenQuote s place = (rest : List ℕ) × QuotedUpTo s rest × (ends_line rest ≡ true) × (place ≡ 0)
IsFault minus OpenComment s place = BlockUpTo s [] × (place ≡ 0)
IsFault minus BadEscape s place = IsBadEscape s place
IsFault minus BadNumber s place = IsBadNumber s × (place ≡ 0)
IsFault minus NumberRange s place = IsTooGreat minus s × (place ≡ 0)
