-- A clause that joins a store.
use Rattle.std.proofs.Common.{◌≡◌, ℕ, suc, Bool, true, false, List, Option, Some, Ok, Err, refl, sym, ap, ◌∙◌}
use Rattle.std.specs.Prelude.{option_map}
use Rattle.op_logic.proofs.BoolCases.{if_true, if_false}
use Rattle.op_logic.specs.Term.{Term, var, int, node, Args, no_args, arg, arity, rename_args}
use Rattle.op_logic.specs.Names.{name_at, named, IsTable}
use Rattle.op_trace.specs.Database.{Text, Clause}
use Rattle.op_bind.specs.declared.places.Clause.{Clause as NumberedClause}
use Rattle.op_store.specs.declared.names.locked.Locked.{Locked}
use Rattle.op_store.specs.declared.procedures.pi.Pi.{Pi}
use Rattle.op_trace.specs.Database.{Indicator, indicator_of_term, Database, Procedure, procedure_in, with_procedure, extended, with_clause}
use Rattle.op_store.specs.Locked.{is_locked}
use Rattle.op_store.specs.Fault.{locked}
use Rattle.op_store.specs.Clauses.{with_parts}
use Rattle.op_store.specs.NumberedProcedures.{NumberedProcedures, numbered_procedure_in, with_numbered_procedure, extended_numbered, pi_of}
use Rattle.op_store.specs.NumberedProcedures.{indicator_named, clause_named, procedures_named}
use Rattle.op_store.specs.Stored.{Stored, database_of, with_numbered_clause}
use Rattle.op_store.proofs.NamedProcedures.{found-named, put-named, extended-named}

arity-renamed : (f : ℕ → Text) (ts : Args ℕ) → arity (rename_args f ts) ≡ arity ts
arity-renamed f no_args = refl
arity-renamed f (arg t ts) = ap suc (arity-renamed f ts)

pub indicator-of-named : (names : List Text) (t : Term ℕ) → indicator_of_term (named names t) ≡ option_map (indicator_named names) (pi_of t)
indicator-of-named names (var v) = refl
indicator-of-named names (int i) = refl
indicator-of-named names (node f ts) =
    ap (λ (n : ℕ). let k : Indicator = record { name = name_at names f; arity = n } in Some k) (arity-renamed (name_at names) ts)

pub parts-locked : (l : Locked) (w : Database) (h : Term Text) (n : ℕ) (ok : Option Indicator) (k : Indicator) (ob : Option (Term Text))
    (b : Term Text) → ok ≡ Some k → ob ≡ Some b → is_locked l k ≡ true → with_parts l w h n ok ob ≡ Err (locked k)
parts-locked l w h n ok k ob b ek eb e =
    ap (λ (o : Option Indicator). with_parts l w h n o ob) ek
    ∙ (ap (λ (o : Option (Term Text)). with_parts l w h n (Some k) o) eb ∙ if_true (is_locked l k) _ _ e)

abbrev pub clause_of : Database → Term Text → ℕ → Term Text → Clause
clause_of w h n b = record { id = w.next; head = h; body = b; variables = n }

pub parts-joined : (l : Locked) (w : Database) (h : Term Text) (n : ℕ) (ok : Option Indicator) (k : Indicator) (ob : Option (Term Text))
    (b : Term Text) → ok ≡ Some k → ob ≡ Some b → is_locked l k ≡ false
    → with_parts l w h n ok ob ≡ Ok (with_clause w k (clause_of w h n b))
parts-joined l w h n ok k ob b ek eb e =
    ap (λ (o : Option Indicator). with_parts l w h n o ob) ek
    ∙ (ap (λ (o : Option (Term Text)). with_parts l w h n (Some k) o) eb ∙ if_false (is_locked l k) _ _ e)

pub world-joins : (s : Stored) (k : Pi) (r : NumberedClause) → IsTable s.names
    → with_clause (database_of s) (indicator_named s.names k) (clause_named s.names r) ≡ database_of (with_numbered_clause s k r)
world-joins s k r t =
    let ps : NumberedProcedures = s.procedures in
    let put : with_procedure (procedures_named s.names ps) (indicator_named s.names k)
    (extended (procedure_in (procedures_named s.names ps) (indicator_named s.names k)) (clause_named s.names r))
    ≡ procedures_named s.names (with_numbered_procedure ps k (extended_numbered (numbered_procedure_in ps k) r)) =
    ap (λ (o : Option Procedure). with_procedure (procedures_named s.names ps) (indicator_named s.names k)
    (extended o (clause_named s.names r))) (found-named s.names t ps k)
    ∙ (ap (with_procedure (procedures_named s.names ps) (indicator_named s.names k)) (extended-named s.names (numbered_procedure_in ps k) r)
    ∙ put-named s.names t ps k (extended_numbered (numbered_procedure_in ps k) r)) in
    ap (λ (ps : List (Indicator × Procedure)).
    let w : Database = record { procedures = ps; next = suc s.next; table = s.table; flags = s.flags } in w) put

-- a name that is locked
pub locked-told : (l : Locked) (w : Database) (names : List Text) (pi : Pi) (head : Term ℕ) (n : ℕ) (ob : Option (Term Text)) (b : Term ℕ)
    (is : Bool) → pi_of head ≡ Some pi → Some (named names b) ≡ ob
    → is ≡ is_locked l (indicator_named names pi) → is ≡ true
    → with_parts l w (named names head) n (indicator_of_term (named names head)) ob ≡ Err (locked (indicator_named names pi))
locked-told l w names pi head n ob b is ek eb el e =
    parts-locked l w (named names head) n (indicator_of_term (named names head)) (indicator_named names pi) ob (named names b)
    (indicator-of-named names head ∙ ap (λ (o : Option Pi). option_map (indicator_named names) o) ek) (sym eb) (sym el ∙ e)

-- a clause that joins
pub joined-told : (s new : Stored) (pi : Pi) (head own body : Term ℕ) (n vars : ℕ) (ob : Option (Term Text)) (is : Bool) → IsTable s.names
    → pi_of head ≡ Some pi → Some (named s.names body) ≡ ob
    → is ≡ is_locked s.locked (indicator_named s.names pi) → is ≡ false → own ≡ head → vars ≡ n
    → new ≡ with_numbered_clause s pi (record { id = s.next; head = own; body = body; vars = vars })
    → with_parts s.locked (database_of s) (named s.names head) n (indicator_of_term (named s.names head)) ob ≡ Ok (database_of new)
joined-told s new pi head own body n vars ob is t ek eb el e eo ev en =
    let k : Indicator = indicator_named s.names pi in
    let r : NumberedClause = record { id = s.next; head = own; body = body; vars = vars } in
    parts-joined s.locked (database_of s) (named s.names head) n (indicator_of_term (named s.names head)) k ob (named s.names body)
    (indicator-of-named s.names head ∙ ap (λ (o : Option Pi). option_map (indicator_named s.names) o) ek) (sym eb) (sym el ∙ e)
    ∙ (ap (λ (h : Term ℕ). Ok (with_clause (database_of s) k (clause_of (database_of s) (named s.names h) n (named s.names body)))) (sym eo)
    ∙ (ap (λ (m : ℕ). Ok (with_clause (database_of s) k (clause_of (database_of s) (named s.names own) m (named s.names body)))) (sym ev)
    ∙ (ap (λ (w : Database). Ok w) (world-joins s pi r t) ∙ ap (λ (x : Stored). Ok (database_of x)) (sym en))))
