-- A value for each channel.
use Rattle.op_desk.specs.declared.by_chan.ByChan.{ByChan}
use Rattle.op_desk.specs.declared.chan.Chan.{Chan}
use Rattle.op_desk.specs.declared.chan.Chan.TheVariants.{Commands, Input, Output, Talk, Note}

-- The channel's value.
abbrev pub at : {A : Type 0} → ByChan A → Chan → A
at values Commands = values.commands
at values Input = values.input
at values Output = values.output
at values Talk = values.talk
at values Note = values.note
