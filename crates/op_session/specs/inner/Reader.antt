-- The store that commands are read with.
use Rattle.std.specs.Prelude.{◌≡◌}
use Rattle.op_term.specs.Ops.{iso_table}
use Rattle.op_term.specs.declared.quotes.DoubleQuotes.TheVariants.{Codes}
use Rattle.op_store.specs.Stored.{Stored}

-- a store that reads commands: with the operators of the standard, and text in double quotes as codes
pub record IsReader (s : Stored) : Type 0 where
  pub operators : s.table ≡ iso_table
  pub quotes : s.flags.quotes ≡ Codes
