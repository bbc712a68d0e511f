-- The body that a term stands for under bindings, over the numbers of names.
use Rattle.std.specs.Prelude.{ℕ, List}
use Rattle.op_logic.specs.Term.{Term}
use Rattle.op_logic.specs.Bind.{Bindings}
use Rattle.op_logic.specs.Laws.{rename_bindings}
use Rattle.op_logic.specs.Names.{name_at, named}
use Rattle.op_trace.specs.Body.{Division, divided}

abbrev pub divided_in : List (List ℕ) → Bindings ℕ → Term ℕ → Division
divided_in names σ t = divided (rename_bindings (name_at names) σ) (named names t)
