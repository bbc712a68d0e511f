-- A renamed copy of a term (ISO/IEC 13211-1, 7.1.6.2): its variables are new, numbered by first occurrence.
use Rattle.std.specs.Prelude.{ℕ, nat_eq, ◌+◌}
use Rattle.std.specs.List.{position_or_len}
use Rattle.op_logic.specs.Term.{Term, var}
use Rattle.op_logic.specs.Laws.{instance_of}
use Rattle.op_term.specs.Variables.{distinct_variables}

-- in place of each variable the one that is numbered, from `first` on, by its place among the term's variables
abbrev pub copied : {N : Type 0} → ℕ → Term N → Term N
copied first t = instance_of (λ v. var (first + position_or_len (nat_eq v) (distinct_variables t))) t
