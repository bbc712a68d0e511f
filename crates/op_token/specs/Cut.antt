-- The cutting of a text into term texts, in front of reading (this project's own): where the first term text stands. It is a walk by
-- whole spellings, from the first byte that isn't layout. Of each byte only its kind counts.
use Rattle.std.specs.Prelude.{◌≡◌, slice_range, drop, ℕ, zero, suc, Bool, true, false, List, [], ◌∷◌, map, Option, Some, None}
use Rattle.std.specs.Prelude.{unwrap_or, length, if◌then◌else◌}
use Rattle.std.specs.Option.{option_map, option_map_or}
use Rattle.op_base.specs.Characters.{is_layout}
use Rattle.op_token.specs.declared.piece.Piece.{Piece}
use Rattle.op_token.specs.declared.piece.Piece.TheVariants.{Text, NoEnd, Empty}
use Rattle.op_token.specs.declared.kind.Kind.{Kind}
use Rattle.op_token.specs.declared.kind.Kind.TheVariants.{Newline, Layout, Percent, Slash, Star, Dot, Backslash, Quote, Zero}
use Rattle.op_token.specs.declared.kind.QuoteMark.{QuoteMark}
use Rattle.op_token.specs.declared.kind.QuoteMark.TheVariants.{Single, Double}
use Rattle.op_token.specs.Kind.{kind_of, is_word, is_symbol, is_gap}

-- how many bytes a comment has behind its %, with the newline that ends it
abbrev pub line : List Kind → ℕ
line [] = 0
line (Newline ∷ s) = 1
line (k ∷ s) = suc (line s)

-- how many bytes a comment has behind its /*, where a */ ends it
abbrev pub block : List Kind → Option ℕ
block [] = None
block (Star ∷ Slash ∷ s) = Some 2
block (k ∷ s) = option_map suc (block s)

-- what is behind a / : the bytes of a comment from its * on, where there is a whole one
abbrev pub comment : List Kind → Option ℕ
comment (Star ∷ s) = option_map suc (block s)
comment s = None

-- how many bytes quoted text has behind the quote that begins it: to the same quote, or to a newline that no backslash took
abbrev pub quoted : QuoteMark → List Kind → ℕ
quoted q [] = 0
quoted q (Newline ∷ s) = 1
quoted q (Backslash ∷ []) = 1
quoted q (Backslash ∷ k ∷ s) = suc (suc (quoted q s))
quoted Single (Quote Single ∷ s) = 1
quoted Double (Quote Double ∷ s) = 1
quoted q (k ∷ s) = suc (quoted q s)

-- how many bytes belong to the character behind 0' : of a character past ASCII the first, since its others begin and end nothing
abbrev pub code : List Kind → ℕ
code [] = 0
code (Backslash ∷ []) = 1
code (Backslash ∷ k ∷ s) = 2
code (Quote Single ∷ Quote Single ∷ s) = 2
code (k ∷ s) = 1

-- how many of the bytes behind a byte belong to the spelling that it begins; `before` is the byte before it
abbrev pub spelled : Kind → Kind → List Kind → ℕ
spelled before Percent s = line s
spelled before Slash (Star ∷ s) = suc (unwrap_or (block s) (length s))
spelled before (Quote q) s = quoted q s
spelled before Zero (Quote Single ∷ s) = if is_word before then 0 else suc (code s)
spelled before k s = 0

-- a full stop ends before these bytes
abbrev pub is_followed : List Kind → Bool
is_followed [] = true
is_followed (k ∷ s) = is_gap k

-- a . that ends the text: no symbol character before it, and layout, % or the end behind it
abbrev pub ends : Kind → Kind → List Kind → Bool
ends before Dot s = if is_symbol before then false else is_followed s
ends before k s = false

-- the place behind the . that ends the text; `at` is the place of these bytes, and the first `inside` of them belong to a spelling
-- that has begun
abbrev pub end_from : ℕ → ℕ → Kind → List Kind → Option ℕ
end_from at inside before [] = None
end_from at (suc n) before (k ∷ s) = end_from (suc at) n k s
end_from at zero before (k ∷ s) = if ends before k s then Some (suc at) else end_from (suc at) (spelled before k s) k s

-- layout and whole comments alone
abbrev pub blank_from : ℕ → List Kind → Bool
blank_from inside [] = true
blank_from (suc n) (k ∷ s) = blank_from n s
blank_from zero (Newline ∷ s) = blank_from 0 s
blank_from zero (Layout ∷ s) = blank_from 0 s
blank_from zero (Percent ∷ s) = blank_from (line s) s
blank_from zero (Slash ∷ s) = option_map_or (λ n. blank_from n s) (comment s) false
blank_from zero (k ∷ s) = false

-- the text from its first byte to its end, where it has one
abbrev pub piece : ℕ → Option ℕ → Bool → Piece
piece from (Some end) blank = Text from end
piece from None blank = if blank then Empty else NoEnd

abbrev pub cut_from : ℕ → List Kind → Piece
cut_from at (Newline ∷ s) = cut_from (suc at) s
cut_from at (Layout ∷ s) = cut_from (suc at) s
cut_from at s = piece at (end_from at 0 Layout s) (blank_from 0 s)

-- the first term text of these bytes
abbrev pub cut_of : List ℕ → Piece
cut_of bytes = cut_from 0 (map kind_of bytes)

-- the bytes of the text
abbrev pub text_in : Piece → List ℕ → List ℕ
text_in (Text from end) bytes = slice_range bytes from end
text_in p bytes = []

-- the layout byte behind a text's end is taken too; a % there begins what follows
abbrev pub behind_layout : List ℕ → List ℕ
behind_layout [] = []
behind_layout (b ∷ s) = if is_layout b then s else b ∷ s

-- what is left behind the text
abbrev pub rest_in : Piece → List ℕ → List ℕ
rest_in (Text from end) bytes = behind_layout (drop end bytes)
rest_in p bytes = bytes

abbrev pub IsText : Piece → Type 0
IsText (Text from end) = Unit {0}
IsText p = ⊥

-- the text's end has just one byte behind it, of n
abbrev pub EndsBefore : Piece → ℕ → Type 0
EndsBefore (Text from end) n = suc end ≡ n
EndsBefore p n = ⊥

-- no text has an end with a byte behind it, of n
abbrev pub IsUnended : Piece → ℕ → Type 0
IsUnended (Text from end) n = end ≡ n
IsUnended p n = Unit {0}

-- a term text has ended, and the last of these bytes has shown it
abbrev pub IsFollowed : List ℕ → Type 0
IsFollowed bytes = EndsBefore (cut_of bytes) (length bytes)

-- no term text of these bytes has a byte behind its end
abbrev pub IsOpen : List ℕ → Type 0
IsOpen bytes = IsUnended (cut_of bytes) (length bytes)

-- these bytes are none, or begin with layout or %
abbrev pub IsBehindGap : List ℕ → Type 0
IsBehindGap [] = Unit {0}
IsBehindGap (b ∷ s) = is_gap (kind_of b) ≡ true

-- the piece, a byte further on
abbrev pub moved : Piece → Piece
moved (Text from end) = Text (suc from) (suc end)
moved p = p

abbrev pub is_text : Piece → Bool
is_text (Text from end) = true
is_text p = false

-- the term texts of these bytes, one behind the other, at most n of them
abbrev pub texts : ℕ → List ℕ → List (List ℕ)
texts zero s = []
texts (suc n) s = if is_text (cut_of s) then text_in (cut_of s) s ∷ texts n (rest_in (cut_of s) s) else []

-- what is behind them
abbrev pub behind_texts : ℕ → List ℕ → List ℕ
behind_texts zero s = s
behind_texts (suc n) s = if is_text (cut_of s) then behind_texts n (rest_in (cut_of s) s) else s
