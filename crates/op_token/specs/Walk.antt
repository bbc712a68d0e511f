-- The walk that cuts, a byte at a time: what a place in the walk says of the bytes to come.
use Rattle.std.specs.Prelude.{ℕ, fold, suc, Bool, true, false, ◌&&◌, List, [], ◌∷◌, Option, Some, None, unwrap_or, length, if◌then◌else◌}
use Rattle.std.specs.Option.{option_map_or}
use Rattle.op_token.specs.declared.piece.Piece.{Piece}
use Rattle.op_token.specs.declared.kind.Kind.{Kind}
use Rattle.op_token.specs.declared.kind.Kind.TheVariants.{Newline, Layout, Percent, Slash, Star, Dot, Backslash, Quote, Zero}
use Rattle.op_token.specs.declared.kind.QuoteMark.TheVariants.{Single, Double}
use Rattle.op_token.specs.declared.walk.Mode.{Mode}
use Rattle.op_token.specs.declared.walk.Walk.{Walk}
use Rattle.op_token.specs.declared.walk.Mode.TheVariants.{Lead, Between, AfterSlash, AfterZero, AfterDot, InLine, InBlock}
use Rattle.op_token.specs.declared.walk.Mode.TheVariants.{AfterStar, InQuotes, Escaped, InCode, CodeEscaped, CodeQuote, Ended}
use Rattle.op_token.specs.Kind.{kind_of, is_word, is_symbol, is_gap}
use Rattle.op_token.specs.Cut.{line, block, comment, quoted, code, spelled, is_followed, end_from, blank_from, piece, cut_from}

-- the rest of a comment whose last byte so far is a *
abbrev pub star : List Kind → Option ℕ
star (Slash ∷ s) = Some 1
star s = block s

-- where the text ends, behind a byte that may have begun a longer spelling
abbrev pub end_in : ℕ → Mode → List Kind → Option ℕ
end_in at Lead s = end_from at 0 Layout s
end_in at (Between before) s = end_from at 0 before s
end_in at AfterSlash s = end_from at (spelled Layout Slash s) Slash s
end_in at AfterZero s = end_from at (spelled Layout Zero s) Zero s
end_in at AfterDot s = if is_followed s then Some at else end_from at 0 Dot s
end_in at InLine s = end_from at (line s) Percent s
end_in at InBlock s = end_from at (unwrap_or (block s) (length s)) Star s
end_in at AfterStar s = end_from at (unwrap_or (star s) (length s)) Star s
end_in at (InQuotes q) s = end_from at (quoted q s) (Quote q) s
end_in at (Escaped q) [] = None
end_in at (Escaped q) (k ∷ s) = end_from at (suc (quoted q s)) Backslash (k ∷ s)
end_in at InCode s = end_from at (code s) (Quote Single) s
end_in at CodeEscaped s = end_from at 1 Backslash s
end_in at CodeQuote (Quote Single ∷ s) = end_from at 1 (Quote Single) (Quote Single ∷ s)
end_in at CodeQuote s = end_from at 0 (Quote Single) s
end_in at (Ended end) s = Some end

-- layout and whole comments alone
abbrev pub blank_in : Mode → List Kind → Bool
blank_in Lead s = blank_from 0 s
blank_in (Between before) s = blank_from 0 s
blank_in AfterSlash s = option_map_or (λ n. blank_from n s) (comment s) false
blank_in InLine s = blank_from (line s) s
blank_in InBlock s = option_map_or (λ n. blank_from n s) (block s) false
blank_in AfterStar s = option_map_or (λ n. blank_from n s) (star s) false
blank_in mode s = false

-- the piece that the bytes so far and these make
abbrev pub piece_at : ℕ → ℕ → Bool → Mode → List Kind → Piece
piece_at at from blank Lead s = cut_from at s
piece_at at from blank mode s = piece from (end_in at mode s) (blank && blank_in mode s)

abbrev pub piece_in : Walk → List Kind → Piece
piece_in w s = piece_at w.at w.from w.blank w.mode s

-- the step from between two spellings
abbrev pub top_of : Kind → Kind → Mode
top_of before Percent = InLine
top_of before Slash = AfterSlash
top_of before (Quote q) = InQuotes q
top_of before Zero = if is_word before then Between Zero else AfterZero
top_of before Dot = if is_symbol before then Between Dot else AfterDot
top_of before k = Between k

-- the step
abbrev pub next_of : ℕ → Mode → Kind → Mode
next_of at Lead Newline = Lead
next_of at Lead Layout = Lead
next_of at Lead k = top_of Layout k
next_of at (Between before) k = top_of before k
next_of at AfterSlash Star = InBlock
next_of at AfterSlash k = top_of Slash k
next_of at AfterZero (Quote Single) = InCode
next_of at AfterZero k = top_of Zero k
next_of at AfterDot k = if is_gap k then Ended at else top_of Dot k
next_of at InLine Newline = Between Newline
next_of at InLine k = InLine
next_of at InBlock Star = AfterStar
next_of at InBlock k = InBlock
next_of at AfterStar Slash = Between Slash
next_of at AfterStar Star = AfterStar
next_of at AfterStar k = InBlock
next_of at (InQuotes q) Newline = Between Newline
next_of at (InQuotes q) Backslash = Escaped q
next_of at (InQuotes Single) (Quote Single) = Between (Quote Single)
next_of at (InQuotes Double) (Quote Double) = Between (Quote Double)
next_of at (InQuotes q) k = InQuotes q
next_of at (Escaped q) k = InQuotes q
next_of at InCode Backslash = CodeEscaped
next_of at InCode (Quote Single) = CodeQuote
next_of at InCode k = Between k
next_of at CodeEscaped k = Between k
next_of at CodeQuote (Quote Single) = Between (Quote Single)
next_of at CodeQuote k = top_of (Quote Single) k
next_of at (Ended end) k = Ended end

-- whether layout and comments alone are still possible
abbrev pub keeps_top : Kind → Bool
keeps_top Newline = true
keeps_top Layout = true
keeps_top Percent = true
keeps_top Slash = true
keeps_top k = false

abbrev pub keeps_blank : Mode → Kind → Bool
keeps_blank (Between before) k = keeps_top k
keeps_blank AfterSlash Star = true
keeps_blank InLine k = true
keeps_blank InBlock k = true
keeps_blank AfterStar k = true
keeps_blank mode k = false

abbrev pub blank_of : Bool → Mode → Kind → Bool
blank_of blank Lead k = keeps_top k
blank_of blank mode k = blank && keeps_blank mode k

-- the place of the first byte that isn't layout
abbrev pub from_of : ℕ → ℕ → Mode → ℕ
from_of at from Lead = at
from_of at from mode = from

abbrev pub step_of : Walk → Kind → Walk
step_of w k = record {
  at = suc w.at;
  from = from_of w.at w.from w.mode;
  blank = blank_of w.blank w.mode k;
  mode = next_of w.at w.mode k;
}

-- the walk before the first byte
abbrev pub start : Walk
start = record { at = 0; from = 0; blank = true; mode = Lead }

-- the walk after some bytes
abbrev pub walked : List ℕ → Walk
walked bytes = fold (λ w b. step_of w (kind_of b)) start bytes

abbrev pub has_ended : Mode → Bool
has_ended (Ended end) = true
has_ended mode = false
