-- What a source of bytes has.
use Rattle.std.specs.Prelude.{◌≡◌, ℕ, ◌<◌, ◌≤◌, List, [], ◌++◌, Some, length, take, drop}
use Rattle.op_desk.specs.declared.chan.Chan.{Chan}
use Rattle.op_desk.specs.declared.chan.Chan.TheVariants.{Commands, Input, Output, Talk, Note}
use Rattle.op_desk.specs.declared.source.Content.{Content}
use Rattle.op_desk.specs.declared.source.Content.TheVariants.{Nothing, Standard, File}
use Rattle.op_desk.specs.declared.source.Source.{Source}
use Rattle.op_desk.specs.declared.sources.Sources.{Sources}
use Rattle.op_desk.specs.Contents.{Known}

-- The bytes that a channel is connected with, beside those of its standard stream.
abbrev pub content_of : Content → List ℕ → List ℕ
content_of Nothing standard = []
content_of Standard standard = standard
content_of (File bytes) standard = bytes

-- What was not yet taken.
abbrev pub rest_of : Source → List ℕ
rest_of source = drop source.taken (content_of source.content source.standard)

-- What a channel has left: nothing, if it is written.
abbrev pub left_in : Sources → Chan → List ℕ
left_in sources Commands = rest_of sources.commands
left_in sources Input = rest_of sources.input
left_in sources Output = []
left_in sources Talk = []
left_in sources Note = []

-- What the name `-` gives to a channel: nothing, if it is written.
abbrev pub standard_in : Sources → Chan → List ℕ
standard_in sources Commands = sources.commands.standard
standard_in sources Input = sources.input.standard
standard_in sources Output = []
standard_in sources Talk = []
standard_in sources Note = []

-- The bytes of each channel, told.
abbrev pub told : (Chan → List ℕ) → Chan → Known
told bytes chan = Some (bytes chan)

-- The first n bytes of the buffer were at the front, and n is 0 with room only where nothing was left.
pub record TakesFront (old new into : List ℕ) (n : ℕ) : Type 0 where
  pub within : n ≤ length into
  pub bytes : old ≡ take n into ++ new
  pub end : n ≡ 0 → 0 < length into → new ≡ []
