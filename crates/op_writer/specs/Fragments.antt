-- The fragments of a text, and the spaces between them.
use Rattle.std.specs.Prelude.{ℕ, ◌-◌, ◌==◌, ◌||◌, Bool, false, List, [], ◌∷◌, ◌++◌, length, slice_get, if◌then◌else◌, codes, bytes_eq}
use Rattle.std.specs.Option.{option_map_or}
use Rattle.op_base.specs.Characters.{is_symbol, is_word, is_digit}
use Rattle.op_writer.specs.declared.edge.Edge.{Edge}
use Rattle.op_writer.specs.declared.edge.Edge.TheVariants.{Other, Word, Symbol, Prefix, Minus}

-- a fragment: some bytes, or a prefix operator of symbol characters
pub data Fragment : Type 0 where
  plain : List ℕ → Fragment
  prefix_operator : List ℕ → Fragment

-- how a text ends, by its last byte
abbrev pub edge_at : ℕ → Edge
edge_at b = if is_symbol b then Symbol else if is_word b then Word else Other

abbrev pub edge_of : Edge → List ℕ → Edge
edge_of e t = option_map_or edge_at (slice_get t (length t - 1)) e

abbrev pub prefix_edge : List ℕ → Edge
prefix_edge t = if bytes_eq t (codes "-") then Minus else Prefix

-- whether a space stands between a text and a fragment that begins with a byte: where both are symbol characters there, or both are
-- letters,
-- digits or _ ; behind a prefix operator before a bracket; behind the prefix operator - before a digit
abbrev pub is_apart : Edge → ℕ → Bool
is_apart Other b = false
is_apart Word b = is_word b
is_apart Symbol b = is_symbol b
is_apart Prefix b = is_symbol b || b == 40
is_apart Minus b = is_symbol b || b == 40 || is_digit b

abbrev pub set_apart : Edge → List ℕ → List ℕ
set_apart e [] = []
set_apart e (b ∷ bs) = if is_apart e b then codes " " ++ b ∷ bs else b ∷ bs

abbrev pub text_of : Fragment → List ℕ
text_of (plain t) = t
text_of (prefix_operator t) = t

abbrev pub edge_behind : Edge → Fragment → Edge
edge_behind e (plain t) = edge_of e t
edge_behind e (prefix_operator t) = prefix_edge t

-- fragments one behind the other, behind a text that ends so
abbrev pub spaced : Edge → List Fragment → List ℕ
spaced e [] = []
spaced e (p ∷ ps) = set_apart e (text_of p) ++ spaced (edge_behind e p) ps
