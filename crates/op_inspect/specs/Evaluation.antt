-- Evaluation (ISO/IEC 13211-1, 8.6 and 8.7), at a step for each node that is met.
use Rattle.std.specs.Prelude.{ℕ, ℤ, Ok, Err}
use Rattle.std.specs.Ordering.{int_cmp}
use Rattle.op_logic.specs.Term.{Term, int}
use Rattle.op_logic.specs.Bind.{Bindings, apply}
use Rattle.op_trace.specs.Database.{Text}
use Rattle.op_trace.specs.World.{World}
use Rattle.op_trace.specs.Act.{Act, pay}
use Rattle.op_trace.specs.Builtins.{throw}
use Rattle.op_inspect.specs.Arithmetic.{Evaluated, evaluated}
use Rattle.op_inspect.specs.Answering.{decided, unify_terms}
use Rattle.op_inspect.specs.Comparison.{holds}
use Rattle.op_inspect.specs.Errors.{error_of_cause}
use Rattle.op_inspect.specs.declared.relation.Relation.{Relation}

-- it goes on with the value, or the error is thrown
abbrev pub valued : Evaluated → ℕ → Bindings Text → World → (ℤ → ℕ → Act) → Act
valued (Ok x, n) left σ w rest = pay n left w (rest x)
valued (Err c, n) left σ w rest = pay n left w (λ l. throw l σ (error_of_cause c) w)

abbrev pub evaluating : Term Text → ℕ → Bindings Text → World → (ℤ → ℕ → Act) → Act
evaluating t left σ w rest = valued (evaluated (apply σ t)) left σ w rest

-- `X is E` (8.6.1)
abbrev pub is_act : Term Text → Term Text → ℕ → Bindings Text → World → Act
is_act t e left σ w = evaluating e left σ w (λ x l. unify_terms t (int x) l σ w w)

-- `=:=`, `=\=`, `<`, `=<`, `>`, `>=` (8.7.1): from the left
abbrev pub compared_with : Relation → ℤ → Term Text → ℕ → Bindings Text → World → Act
compared_with r x u left σ w = evaluating u left σ w (λ y l. decided (holds r (int_cmp x y)) σ w)

abbrev pub arithmetic_act : Relation → Term Text → Term Text → ℕ → Bindings Text → World → Act
arithmetic_act r t u left σ w = evaluating t left σ w (λ x l. compared_with r x u l σ w)
