-- A term's copy, and its variables (ISO/IEC 13211-1, 8.5.4 and 8.5.5), at a step for each of its nodes and then a unification.
use Rattle.std.specs.Prelude.{ℕ, ◌+◌, List, [], ◌∷◌, length, Option, Some, None, codes}
use Rattle.op_logic.specs.Term.{Term, var, Args, no_args, arg, size}
use Rattle.op_logic.specs.Bind.{Bindings, apply}
use Rattle.op_trace.specs.Database.{Text}
use Rattle.op_trace.specs.World.{World}
use Rattle.op_trace.specs.Act.{Act, pay}
use Rattle.op_trace.specs.Builtins.{type_error}
use Rattle.op_trace.specs.Copy.{variables_of, copied}
use Rattle.op_inspect.specs.Answering.{refused_by, unify_terms}
use Rattle.op_inspect.specs.Lists.{Listed, No_list, list_of, listed}

-- copy_term/2: the copy has new variables, which stay given out also where it does not unify
abbrev pub copy_act : Term Text → Term Text → ℕ → Bindings Text → World → Act
copy_act t u left σ w =
    let b : Term Text = apply σ t in
    pay (size b) left w
    (λ l. unify_terms u (copied w.variables b) l σ w (record w { variables = w.variables + length (variables_of b) }))

abbrev pub variables_as : List ℕ → Args Text
variables_as [] = no_args
variables_as (v ∷ vs) = arg (var v) (variables_as vs)

abbrev pub no_list_error : Listed → Term Text → Option (Term Text)
no_list_error No_list l = Some (type_error (codes "list") l)
no_list_error x l = None

-- term_variables/2: the list of the variables by first occurrence
abbrev pub variables_listed : Term Text → Term Text → ℕ → Bindings Text → World → Act
variables_listed t l left σ w =
    let b : Term Text = apply σ t in
    pay (size b) left w (λ k. unify_terms l (list_of (variables_as (variables_of b))) k σ w w)

abbrev pub variables_act : Term Text → Term Text → ℕ → Bindings Text → World → Act
variables_act t l left σ w = refused_by (no_list_error (listed σ l) l) left σ w (variables_listed t l left σ w)
