-- What the joining of terms tells, over the names of a store.
use Rattle.std.specs.Prelude.{◌≡◌, ℕ, suc, List, drop, length, Option, Some, None, Result, Ok, Err}
use Rattle.op_term.specs.Ops.{Table}
use Rattle.op_trace.specs.Database.{Text}
use Rattle.op_store.specs.declared.loading.load_fault.LoadFault.{LoadFault}
use Rattle.op_store.specs.declared.loading.load_fault.LoadFault.TheVariants as load_faults
use Rattle.op_store.specs.declared.loading.load_fault.LoadFaultKind.TheVariants as kinds
use Rattle.op_store.specs.declared.names.locked.Locked.{Locked}
use Rattle.op_store.specs.declared.loading.term_fault.TermFault.{TermFault}
use Rattle.op_store.specs.declared.loading.term_fault.TermFault.TheVariants.{Memory, Refused}
use Rattle.op_store.specs.Fault.{Fault, directive}
use Rattle.op_store.specs.Load.{load_from, line_at, loaded, stopped}
use Rattle.op_store.specs.Queries.{fault_named, IsKnownFault}
use Rattle.op_store.specs.Stored.{Stored, database_of}
use Rattle.op_trace.specs.Database.{Database}

abbrev pub with_names : Stored → List Text → Stored
with_names s names = record s { names = names }

-- the world behind a term, or why it was refused, where a name that is locked is in the table
abbrev pub TellsTerm : {U : Type 0} → Stored → Result U TermFault → Result Database Fault → Type 0
TellsTerm new (Ok u) w = w ≡ Ok (database_of new)
TellsTerm new (Err Memory) w = Unit {0}
TellsTerm new (Err (Refused kind)) w = (w ≡ Err (fault_named new.names kind)) × IsKnownFault (length new.names) kind

-- the operators behind a directive, or that it was refused
abbrev pub TellsOps : {U : Type 0} → Table → Result U TermFault → Result Table Fault → Type 0
TellsOps new (Ok u) t = t ≡ Ok new
TellsOps new (Err Memory) t = Unit {0}
TellsOps new (Err (Refused kind)) t = (t ≡ Err directive) × (kind ≡ kinds.Directive)

-- what the first term of bytes that begin at a line makes of a world: so many bytes are used, or none is left, or it is refused
abbrev pub TellsStep : Locked → Database → ℕ → List ℕ → Stored → Result (Option ℕ) LoadFault → Type 0
TellsStep l w line bytes new (Ok None) = (n : ℕ) → load_from (suc n) l w line bytes ≡ loaded (database_of new)
TellsStep l w line bytes new (Ok (Some used)) =
    (n : ℕ) → load_from (suc n) l w line bytes ≡ load_from n l (database_of new) (line_at line bytes used) (drop used bytes)
TellsStep l w line bytes new (Err load_faults.Memory) = database_of new ≡ w
TellsStep l w line bytes new (Err (load_faults.At place kind)) =
    (n : ℕ) → load_from (suc n) l w line bytes ≡ stopped (database_of new) place (fault_named new.names kind)
