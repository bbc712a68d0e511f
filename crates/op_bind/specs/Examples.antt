-- A copy of a term, by computation.
use Rattle.std.specs.Prelude.{◌≡◌, ℕ, List, codes, refl}
use Rattle.op_logic.specs.Term.{Term, var, node, Args, no_args, arg}
use Rattle.op_bind.specs.Copied.{copied}

abbrev three : ℕ → ℕ → ℕ → Term (List ℕ)
three u v w = node (codes "h") (arg (var u) (arg (var v) (arg (var w) no_args)))

-- h(Z,X,Z), its variables numbered from 3 on by first occurrence
pub copied_variables : copied 3 (three 7 2 7) ≡ three 3 4 3
copied_variables = refl
