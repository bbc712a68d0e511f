-- Terms that are taken apart and built (ISO/IEC 13211-1, 8.5.1 to 8.5.3): a step for each argument that is made or listed, and then a
-- unification. Arguments are looked at once they were followed.
use Rattle.std.specs.Prelude.{ℕ, zero, suc, ◌+◌, nat_lt, ℤ, pos, negsuc, [], ◌∷◌, Option, Some, None, codes}
use Rattle.std.specs.Prelude.{if◌then◌else◌}
use Rattle.op_logic.specs.Term.{Term, var, int, node, Args, no_args, arg, atom, args_of, arity, nth_arg}
use Rattle.op_logic.specs.Bind.{Bindings, follow}
use Rattle.op_trace.specs.Database.{Text}
use Rattle.op_trace.specs.World.{World}
use Rattle.op_trace.specs.Act.{Act, Fails, done, pay}
use Rattle.op_trace.specs.Builtins.{instantiation_error, type_error, throw}
use Rattle.op_inspect.specs.Errors.{domain_error}
use Rattle.op_inspect.specs.Answering.{refused_by, unify_terms, unify_pairs}
use Rattle.op_inspect.specs.Lists.{Listed, Elements, Partial, No_list, list_of, listed}

abbrev pub negative_error : ℤ → Term Text
negative_error i = domain_error (codes "not_less_than_zero") (int i)

-- functor/3 (8.5.1) of a term that is no variable: its name, which is itself where it is atomic, and how many arguments it has
abbrev pub name_of : Term Text → Term Text
name_of (var v) = var v
name_of (int i) = int i
name_of (node f ts) = atom f

-- of a variable: a name that can have so many arguments
abbrev pub name_error : Term Text → ℕ → Option (Term Text)
name_error (node f (arg t ts)) n = Some (type_error (codes "atomic") (node f (arg t ts)))
name_error (int i) (suc n) = Some (type_error (codes "atom") (int i))
name_error _ n = None

abbrev pub functor_error : Term Text → Term Text → Option (Term Text)
functor_error (var v) n = Some instantiation_error
functor_error f (var v) = Some instantiation_error
functor_error f (node g us) = Some (type_error (codes "integer") (node g us))
functor_error f (int (negsuc i)) = Some (negative_error (negsuc i))
functor_error f (int (pos n)) = name_error f n

-- so many variables, numbered from a first one on
abbrev pub variables_from : {N : Type 0} → ℕ → ℕ → Args N
variables_from first zero = no_args
variables_from first (suc n) = arg (var first) (variables_from (suc first) n)

-- a name with arguments; an integer has none
abbrev pub with_arguments : {N : Type 0} → Term N → Args N → Term N
with_arguments (node f us) ts = node f ts
with_arguments t ts = t

abbrev pub count_in : Term Text → ℕ
count_in (int (pos n)) = n
count_in t = 0

abbrev pub made_functor : Term Text → Term Text → ℕ → ℕ → Bindings Text → World → Act
made_functor t f n left σ w =
    pay n left w (λ l. unify_terms t (with_arguments f (variables_from w.variables n)) l σ w (record w { variables = w.variables + n }))

abbrev pub functor_built : Term Text → Term Text → Term Text → ℕ → Bindings Text → World → Act
functor_built t f n left σ w =
    refused_by (functor_error (follow σ f) (follow σ n)) left σ w (made_functor t (follow σ f) (count_in (follow σ n)) left σ w)

abbrev pub functor_taken : Term Text → Term Text → Term Text → ℕ → Bindings Text → World → Act
functor_taken t f n left σ w = unify_pairs ((f, name_of t) ∷ (n, int (pos (arity (args_of t)))) ∷ []) left σ w w

abbrev pub functor_by : Term Text → Term Text → Term Text → ℕ → Bindings Text → World → Act
functor_by (var v) f n left σ w = functor_built (var v) f n left σ w
functor_by t f n left σ w = functor_taken t f n left σ w

abbrev pub functor_act : Term Text → Term Text → Term Text → ℕ → Bindings Text → World → Act
functor_act t f n left σ w = functor_by (follow σ t) f n left σ w

-- arg/3 (8.5.2)
abbrev pub arg_error : Term Text → Term Text → Option (Term Text)
arg_error (var v) t = Some instantiation_error
arg_error n (var v) = Some instantiation_error
arg_error (node g us) t = Some (type_error (codes "integer") (node g us))
arg_error n (int i) = Some (type_error (codes "compound") (int i))
arg_error n (node f no_args) = Some (type_error (codes "compound") (atom f))
arg_error (int (negsuc i)) t = Some (negative_error (negsuc i))
arg_error n t = None

-- the arguments are counted from 1
abbrev pub arg_found : ℕ → Args Text → Term Text → ℕ → Bindings Text → World → Act
arg_found zero ts a left σ w = done w Fails
arg_found (suc i) ts a left σ w = if nat_lt i (arity ts) then unify_terms a (nth_arg ts i) left σ w w else done w Fails

abbrev pub arg_act : Term Text → Term Text → Term Text → ℕ → Bindings Text → World → Act
arg_act n t a left σ w =
    refused_by (arg_error (follow σ n) (follow σ t)) left σ w (arg_found (count_in (follow σ n)) (args_of (follow σ t)) a left σ w)

-- `T =.. L` (8.5.3), where T is no variable: the list of its name and its arguments
abbrev pub parts_of : Term Text → Args Text
parts_of (node f ts) = arg (atom f) ts
parts_of t = arg t no_args

-- where T is a variable: a list of a name and arguments; the name is looked at once it was followed
abbrev pub head_error : Term Text → Args Text → Option (Term Text)
head_error (var v) ts = Some instantiation_error
head_error (node f no_args) ts = None
head_error (int i) no_args = None
head_error h no_args = Some (type_error (codes "atomic") h)
head_error h (arg t ts) = Some (type_error (codes "atom") h)

abbrev pub term_made : Term Text → Term Text → Args Text → ℕ → Bindings Text → World → Act
term_made t f ts left σ w = pay (arity ts) left w (λ k. unify_terms t (with_arguments f ts) k σ w w)

abbrev pub univ_of_elements : Term Text → Term Text → Args Text → ℕ → Bindings Text → World → Act
univ_of_elements t h ts left σ w = refused_by (head_error (follow σ h) ts) left σ w (term_made t (follow σ h) ts left σ w)

abbrev pub univ_listed : Listed → Term Text → Term Text → ℕ → Bindings Text → World → Act
univ_listed Partial t l left σ w = throw left σ instantiation_error w
univ_listed No_list t l left σ w = throw left σ (type_error (codes "list") l) w
univ_listed (Elements no_args) t l left σ w = throw left σ (domain_error (codes "non_empty_list") l) w
univ_listed (Elements (arg h ts)) t l left σ w = univ_of_elements t h ts left σ w

abbrev pub univ_built : Term Text → Term Text → ℕ → Bindings Text → World → Act
univ_built t l left σ w = univ_listed (listed σ l) t l left σ w

abbrev pub univ_taken : Term Text → Term Text → ℕ → Bindings Text → World → Act
univ_taken t l left σ w = pay (arity (args_of t)) left w (λ k. unify_terms l (list_of (parts_of t)) k σ w w)

abbrev pub univ_by : Term Text → Term Text → ℕ → Bindings Text → World → Act
univ_by (var v) l left σ w = univ_built (var v) l left σ w
univ_by t l left σ w = univ_taken t l left σ w

abbrev pub univ_act : Term Text → Term Text → ℕ → Bindings Text → World → Act
univ_act t l left σ w = univ_by (follow σ t) l left σ w
