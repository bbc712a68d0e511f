-- Comparison in the standard order (ISO/IEC 13211-1, 8.4), at a step for each pair of nodes that is compared.
use Rattle.std.specs.Prelude.{ℕ, Bool, ◌||◌, Option, Some, None, codes, if◌then◌else◌}
use Rattle.std.specs.declared.cmp.Ordering.{Ordering}
use Rattle.std.specs.declared.cmp.Ordering.TheVariants.{Less, Equal, Greater}
use Rattle.std.specs.Prelude.{true, false}
use Rattle.op_logic.specs.Term.{Term, var, node, no_args, atom}
use Rattle.op_logic.specs.Bind.{Bindings, apply, follow}
use Rattle.op_term.specs.Order.{standard_order, pairs_compared}
use Rattle.op_trace.specs.Database.{Text, text_eq}
use Rattle.op_trace.specs.World.{World}
use Rattle.op_trace.specs.Act.{Act, pay}
use Rattle.op_trace.specs.Builtins.{type_error}
use Rattle.op_inspect.specs.Errors.{domain_error}
use Rattle.op_inspect.specs.Answering.{decided, refused_by, unify_terms}
use Rattle.op_inspect.specs.declared.relation.Relation.{Relation}
use Rattle.op_inspect.specs.declared.relation.Relation.TheVariants as relation

-- which orders a relation holds of
abbrev pub holds : Relation → Ordering → Bool
holds relation.Same Equal = true
holds relation.Different Less = true
holds relation.Different Greater = true
holds relation.Below Less = true
holds relation.AtMost Less = true
holds relation.AtMost Equal = true
holds relation.Above Greater = true
holds relation.AtLeast Greater = true
holds relation.AtLeast Equal = true
holds _ _ = false

abbrev pub compared : Term Text → Term Text → ℕ → Bindings Text → World → (Ordering → ℕ → Act) → Act
compared t u left σ w rest =
    let a : Term Text = apply σ t in
    let b : Term Text = apply σ u in
    pay (pairs_compared a b) left w (rest (standard_order a b))

-- `==`, `\==`, `@<`, `@=<`, `@>`, `@>=` (8.4.1)
abbrev pub order_act : Relation → Term Text → Term Text → ℕ → Bindings Text → World → Act
order_act r t u left σ w = compared t u left σ w (λ o l. decided (holds r o) σ w)

-- compare/3 (8.4.2)
abbrev pub text_of_order : Ordering → Text
text_of_order Less = codes "<"
text_of_order Equal = codes "="
text_of_order Greater = codes ">"

abbrev pub is_order : Text → Bool
is_order f = text_eq f (codes "<") || (text_eq f (codes "=") || text_eq f (codes ">"))

-- by the first argument, once it was followed
abbrev pub compare_error : Term Text → Option (Term Text)
compare_error (var v) = None
compare_error (node f no_args) = if is_order f then None else Some (domain_error (codes "order") (atom f))
compare_error t = Some (type_error (codes "atom") t)

abbrev pub order_told : Term Text → Term Text → Term Text → ℕ → Bindings Text → World → Act
order_told o t u left σ w = compared t u left σ w (λ r l. unify_terms o (atom (text_of_order r)) l σ w w)

abbrev pub compare_act : Term Text → Term Text → Term Text → ℕ → Bindings Text → World → Act
compare_act o t u left σ w = refused_by (compare_error (follow σ o)) left σ w (order_told o t u left σ w)
