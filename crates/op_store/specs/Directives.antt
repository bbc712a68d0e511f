-- Directives (ISO/IEC 13211-1, 7.4.2): what they make of a world.
use Rattle.std.specs.Prelude.{ℕ, pos, negsuc, ℤ, nat_le, Bool, true, false, List, [], ◌∷◌, ◌++◌, Option, Some, None, option_map}
use Rattle.std.specs.Prelude.{option_and_then, Result, Ok, Err, bytes_eq, codes, if◌then◌else◌}
use Rattle.op_logic.specs.Term.{Term, var, int, node, Args, no_args, arg}
use Rattle.op_trace.specs.Database.{Text}
use Rattle.op_term.specs.Ops.{Table, set_in}
use Rattle.op_term.specs.declared.ops.OpKind.{OpKind}
use Rattle.op_term.specs.declared.ops.OpKind.TheVariants.{Xfx, Xfy, Yfx, Fy, Fx, Xf, Yf}
use Rattle.op_term.specs.declared.quotes.DoubleQuotes.{DoubleQuotes}
use Rattle.op_term.specs.declared.quotes.DoubleQuotes.TheVariants.{Codes, Chars, Atom}
use Rattle.op_store.specs.declared.names.locked.Locked.{Locked}
use Rattle.op_trace.specs.Database.{Indicator, name_arity, Procedure, Database, procedure_in, set_procedure, no_clauses}
use Rattle.op_store.specs.Locked.{is_locked}
use Rattle.op_store.specs.Fault.{Fault, locked, directive, and_then}

abbrev pub is_name : Text → Text → Bool
is_name f g = bytes_eq f g

abbrev pub atom_name : Term Text → Option Text
atom_name (var v) = None
atom_name (int i) = None
atom_name (node f no_args) = Some f
atom_name (node f (arg t ts)) = None

abbrev pub integer : Term Text → Option ℤ
integer (var v) = None
integer (int i) = Some i
integer (node f ts) = None

abbrev pub natural : Term Text → Option ℕ
natural (int (pos n)) = Some n
natural t = None

-- lists

abbrev pub listed : Text → Args Text → List (Option (List (Term Text))) → Option (List (Term Text))
listed f no_args tails = if is_name f (codes "[]") then Some [] else None
listed f (arg h (arg t no_args)) (o ∷ tail ∷ []) = if is_name f (codes ".") then option_map (λ ts. h ∷ ts) tail else None
listed f ts tails = None

-- the elements of a list
abbrev mutual
  pub elements : Term Text → Option (List (Term Text))
  elements (var v) = None
  elements (int i) = None
  elements (node f ts) = listed f ts (each_elements ts)

  pub each_elements : Args Text → List (Option (List (Term Text)))
  each_elements no_args = []
  each_elements (arg t ts) = elements t ∷ each_elements ts

-- what stands between commas

abbrev pub conjoined : Text → Args Text → List (List (Term Text)) → List (Term Text)
conjoined f ts (a ∷ b ∷ []) = if is_name f (codes ",") then a ++ b else node f ts ∷ []
conjoined f ts parts = node f ts ∷ []

abbrev mutual
  pub conjuncts : Term Text → List (Term Text)
  conjuncts (var v) = var v ∷ []
  conjuncts (int i) = int i ∷ []
  conjuncts (node f ts) = conjoined f ts (each_conjuncts ts)

  pub each_conjuncts : Args Text → List (List (Term Text))
  each_conjuncts no_args = []
  each_conjuncts (arg t ts) = conjuncts t ∷ each_conjuncts ts

-- the entries of a directive on procedures: a list's elements, or the parts of a conjunction
abbrev pub entries : Term Text → List (Term Text)
entries t = elim (elements t) [ Some ts ↦ ts | None ↦ conjuncts t ]

-- an entry is Name/Arity
abbrev pub indicated : Text → Option Text → Option ℕ → Option Indicator
indicated f (Some name) (Some n) = if is_name f (codes "/") then Some (name_arity name n) else None
indicated f name n = None

abbrev pub indicator : Term Text → Option Indicator
indicator (node f (arg t (arg u no_args))) = indicated f (atom_name t) (natural u)
indicator t = None

abbrev pub or_directive : {A : Type 0} → Option A → Result A Fault
or_directive (Some a) = Ok a
or_directive None = Err directive

-- a procedure that has static clauses can't become dynamic
abbrev pub may_change : Database → Indicator → Option Procedure → Result Database Fault
may_change w k None = Ok (set_procedure w k no_clauses)
may_change w k (Some p) = if p.dynamic then Ok w else Err directive

abbrev pub made_dynamic : Locked → Database → Indicator → Result Database Fault
made_dynamic l w k = if is_locked l k then Err (locked k) else may_change w k (procedure_in w.procedures k)

-- from the left, each entry for its form, then for what it names
abbrev pub all_dynamic : Locked → Database → List (Term Text) → Result Database Fault
all_dynamic l w [] = Ok w
all_dynamic l w (t ∷ ts) = and_then (or_directive (indicator t)) (λ k. and_then (made_dynamic l w k) (λ u. all_dynamic l u ts))

-- entries that have no effect
abbrev pub all_indicate : Database → List (Term Text) → Result Database Fault
all_indicate w [] = Ok w
all_indicate w (t ∷ ts) = and_then (or_directive (indicator t)) (λ k. all_indicate w ts)

-- operators

abbrev pub op_kind : Text → Option OpKind
op_kind f =
    if is_name f (codes "xfx") then Some Xfx else
    if is_name f (codes "xfy") then Some Xfy else
    if is_name f (codes "yfx") then Some Yfx else
    if is_name f (codes "fy") then Some Fy else
    if is_name f (codes "fx") then Some Fx else
    if is_name f (codes "xf") then Some Xf else
    if is_name f (codes "yf") then Some Yf else
    None

-- the names of some atoms
abbrev pub atom_names : List (Term Text) → Option (List Text)
atom_names [] = Some []
atom_names (t ∷ ts) = option_and_then (λ f. option_map (λ fs. f ∷ fs) (atom_names ts)) (atom_name t)

-- one name, or a list of names, of which [] is the empty one
abbrev pub operator_names : Term Text → Option (List Text)
operator_names t = elim (elements t) [ Some ts ↦ atom_names ts | None ↦ option_map (λ f. f ∷ []) (atom_name t) ]

abbrev pub ops_set : ℤ → OpKind → Table → List Text → Result Table Fault
ops_set p kind table [] = Ok table
ops_set p kind table (f ∷ fs) = elim (set_in table p kind f) [ Ok t ↦ ops_set p kind t fs | Err e ↦ Err directive ]

-- a priority, or 0, which stands for no operator
abbrev pub is_priority : ℤ → Bool
is_priority (pos n) = nat_le n 1200
is_priority (negsuc n) = false

abbrev pub with_ops : Database → Option ℤ → Option OpKind → Option (List Text) → Result Database Fault
with_ops w (Some p) (Some kind) (Some names) =
    if is_priority p then and_then (ops_set p kind w.table names) (λ table. Ok (record w { table = table })) else Err directive
with_ops w p kind names = Err directive

-- flags

abbrev pub quotes_named : Text → Option DoubleQuotes
quotes_named f =
    if is_name f (codes "codes") then Some Codes else
    if is_name f (codes "chars") then Some Chars else
    if is_name f (codes "atom") then Some Atom else
    None

abbrev pub unknown_named : Text → Option Bool
unknown_named f =
    if is_name f (codes "error") then Some false else
    if is_name f (codes "fail") then Some true else
    None

abbrev pub with_flag : Database → Text → Text → Result Database Fault
with_flag w flag value =
    if is_name flag (codes "double_quotes")
    then and_then (or_directive (quotes_named value))
    (λ q. Ok (record w { flags = record { quotes = q; unknown_fails = w.flags.unknown_fails } })) else
    if is_name flag (codes "unknown")
    then and_then (or_directive (unknown_named value))
    (λ b. Ok (record w { flags = record { quotes = w.flags.quotes; unknown_fails = b } })) else
    Err directive

abbrev pub with_flag_of : Database → Option Text → Option Text → Result Database Fault
with_flag_of w (Some flag) (Some value) = with_flag w flag value
with_flag_of w flag value = Err directive

-- the goal of initialization/1 is noted and not run
abbrev pub of_one : Locked → Database → Text → Term Text → Result Database Fault
of_one l w f t =
    if is_name f (codes "dynamic") then all_dynamic l w (entries t) else
    if is_name f (codes "discontiguous") then all_indicate w (entries t) else
    if is_name f (codes "multifile") then all_indicate w (entries t) else
    if is_name f (codes "initialization") then Ok w else
    Err directive

-- what a directive makes of a world; another one, or one with unfit arguments, is refused
abbrev pub directed : Locked → Database → Term Text → Result Database Fault
directed l w (node f (arg t no_args)) = of_one l w f t
directed l w (node f (arg t (arg u no_args))) =
    if is_name f (codes "set_prolog_flag") then with_flag_of w (atom_name t) (atom_name u) else Err directive
directed l w (node f (arg t (arg u (arg v no_args)))) =
    if is_name f (codes "op") then with_ops w (integer t) (option_and_then op_kind (atom_name u)) (operator_names v) else Err directive
directed l w t = Err directive
