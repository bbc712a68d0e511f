-- What is taken from a source of bytes.
use Rattle.std.specs.Prelude.{◌≡◌, ℕ, ◌+◌, Bool, true, false, [], length, IsSome}
use Rattle.std.specs.Io.KnownBytes.{Consumes, IsAtEnd}
use Rattle.op_desk.specs.Contents.{Known}
use Rattle.op_trace.specs.Outside.{Taking}

-- what a source has left, as far as that is told, how many bytes were taken from it, and whether its end was met
pub record Source : Type 0 where
  pub left : Known
  pub drawn : ℕ
  pub ended : Bool

-- the end was met: nothing is left then
abbrev pub MeetsEnd : Bool → Source → Source → Type 0
MeetsEnd true a b = (b.ended ≡ true) × (IsSome a.left → IsAtEnd b.left)
MeetsEnd false a b = b.ended ≡ a.ended

-- one source comes from another by a taking; after the end nothing is taken
pub record Takes (t : Taking) (a b : Source) : Type 0 where
  pub consumes : Consumes a.left b.left t.bytes
  pub drawn : b.drawn ≡ a.drawn + length t.bytes
  pub end : MeetsEnd t.over a b
  pub ended : a.ended ≡ true → (t.bytes ≡ []) × (b.ended ≡ true)
