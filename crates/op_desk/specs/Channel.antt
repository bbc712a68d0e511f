-- The five channels of a desk, told apart.
use Rattle.std.specs.Prelude.{ℕ, Bool, true, false, List, [], ◌∷◌, ◌==◌, bytes_eq}
use Rattle.op_desk.specs.declared.chan.Chan.{Chan}
use Rattle.op_desk.specs.declared.chan.Chan.TheVariants.{Commands, Input, Output, Talk, Note}

-- The channels that are read. The others are written.
abbrev pub is_read : Chan → Bool
is_read Commands = true
is_read Input = true
is_read Output = false
is_read Talk = false
is_read Note = false

-- A channel's place in the list of the five.
abbrev pub place_of : Chan → ℕ
place_of Commands = 0
place_of Input = 1
place_of Output = 2
place_of Talk = 3
place_of Note = 4

-- Two channels are the same one.
abbrev pub same_chan : Chan → Chan → Bool
same_chan a b = place_of a == place_of b

-- The name `-`, which stands for a standard stream.
abbrev pub dash : List ℕ
dash = 45 ∷ []

abbrev pub is_dash : List ℕ → Bool
is_dash name = bytes_eq name dash
