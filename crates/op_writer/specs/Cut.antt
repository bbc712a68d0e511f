-- A text in a line (this project's own).
use Rattle.std.specs.Prelude.{ℕ, zero, suc, ◌+◌, ◌&&◌, Bool, nat_le, nat_lt, List, ◌++◌, length, take, slice_index, if◌then◌else◌, codes}
use Rattle.op_term.specs.Ops.{Table}
use Rattle.op_logic.specs.Term.{Term}
use Rattle.op_writer.specs.declared.style.Style.TheVariants.{Quoted}
use Rattle.op_writer.specs.declared.bound.Bound.TheVariants.{Whole, Operand}
use Rattle.op_writer.specs.Text.{text_in}

-- the greatest place, at most n, at which a character begins
unfoldable pub boundary : List ℕ → ℕ → ℕ
boundary t zero = 0
boundary t (suc n) = if nat_le 128 (slice_index t (suc n)) && nat_lt (slice_index t (suc n)) 192 then boundary t n else suc n

-- the front of a text: all of it, or one byte more than a limit
abbrev pub front_of : ℕ → List ℕ → List ℕ
front_of limit t = take (1 + limit) t

-- at most 4,096 bytes whole; of more the whole characters within 4,096 bytes, and three dots
abbrev pub cut : List ℕ → List ℕ
cut t = if nat_le (length t) 4096 then t else take (boundary t 4096) t ++ codes "..."

-- the quoted text of a term, cut; as an operand an operator's atom stands in brackets
abbrev pub short : Table → Term (List ℕ) → ℕ → Bool → List ℕ
short ops t priority operand = cut (text_in ops Quoted (if operand then Operand priority else Whole priority) t)
