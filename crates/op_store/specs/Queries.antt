-- Goals and commands over the numbers of names, and over the names.
use Rattle.std.specs.Prelude.{◌≡◌, ◌<◌, ℕ, List, [], Some, None, Result, Ok, Err}
use Rattle.op_logic.specs.Names.{named, HasNames}
use Rattle.op_logic.specs.Term.{IsWithin}
use Rattle.op_store.specs.Counted.{variable_count}
use Rattle.op_trace.specs.Database.{Text}
use Rattle.op_reader.specs.declared.term_reader.Read.{Read}
use Rattle.op_reader.specs.Reading.{AreCounted}
use Rattle.op_store.specs.declared.goals.goal.Goal.{Goal}
use Rattle.op_store.specs.declared.goals.goal.Converted.{Converted}
use Rattle.op_store.specs.declared.goals.goal.Converted.TheVariants as converted_as
use Rattle.op_store.specs.declared.goals.command_fault.CommandFault.{CommandFault}
use Rattle.op_store.specs.declared.goals.command_fault.CommandFault.TheVariants as faults
use Rattle.op_trace.specs.Body.{converted}
use Rattle.op_store.specs.Load.{Query, Found, Bad, unreadable, not_body, Loaded, loaded, stopped}
use Rattle.op_store.specs.Stored.{Stored, database_of}
use Rattle.op_store.specs.Fault.{Fault, syntax, trailing, head, body, locked, directive}
use Rattle.op_store.specs.NumberedProcedures.{indicator_named}
use Rattle.op_store.specs.declared.loading.load_fault.LoadFaultKind.{LoadFaultKind}
use Rattle.op_store.specs.declared.loading.load_fault.LoadFaultKind.TheVariants as kinds
use Rattle.op_store.specs.declared.loading.load_fault.LoadFault.{LoadFault}
use Rattle.op_store.specs.declared.loading.load_fault.LoadFault.TheVariants as load_faults

abbrev pub query_named : List Text → Goal → Query
query_named names g = record { body = named names g.body; names = g.names; variables = g.vars }

-- a goal whose names are in a table of so many, and whose variables are counted
pub record IsSoundGoal (n : ℕ) (g : Goal) : Type 0 where
  pub names : HasNames n g.body
  pub within : IsWithin g.vars g.body
  pub counted : AreCounted g.vars g.names

abbrev pub IsSoundConverted : ℕ → Converted → Type 0
IsSoundConverted n (converted_as.Goal g) = IsSoundGoal n g
IsSoundConverted n (converted_as.NotBody t) = HasNames n t

-- the goal of a term that was read, or the term, which stands for no body
abbrev pub IsConverted : List Text → Read → Converted → Type 0
IsConverted names r (converted_as.Goal g) =
    ((converted [] (named names r.term)).body ≡ Some (named names g.body)) × (g.names ≡ r.names)
    × (g.vars ≡ variable_count (named names r.term))
IsConverted names r (converted_as.NotBody t) = ((converted [] (named names r.term)).body ≡ None) × (t ≡ r.term)

-- a term that stands for no body has its names in a table of so many
abbrev pub IsSoundFault : ℕ → CommandFault → Type 0
IsSoundFault n (faults.NotBody t) = HasNames n t
IsSoundFault n e = Unit {0}

-- what reading a command tells, over the names of a table
abbrev pub TellsCommand : List Text → Result Goal CommandFault → Result Query Bad → Type 0
TellsCommand names (Ok g) q = q ≡ Ok (query_named names g)
TellsCommand names (Err faults.Memory) q = Unit {0}
TellsCommand names (Err (faults.Bad place kind)) q = q ≡ Err (unreadable place kind)
TellsCommand names (Err (faults.NotBody t)) q = q ≡ Err (not_body (named names t))

-- a fault over the names of a table
abbrev pub fault_named : List Text → LoadFaultKind → Fault
fault_named names (kinds.Syntax kind) = syntax kind
fault_named names kinds.Trailing = trailing
fault_named names kinds.Head = head
fault_named names kinds.Body = body
fault_named names (kinds.Locked k) = locked (indicator_named names k)
fault_named names kinds.Directive = directive

-- what reading a goal tells
abbrev pub TellsGoal : List Text → Result Goal LoadFault → Result Query Found → Type 0
TellsGoal names (Ok g) q = q ≡ Ok (query_named names g)
TellsGoal names (Err load_faults.Memory) q = Unit {0}
TellsGoal names (Err (load_faults.At line kind)) q = q ≡ Err (record { line = line; fault = fault_named names kind })

-- what loading a text tells, over the names of the store behind it
abbrev pub TellsLoad : {U : Type 0} → Stored → Result U LoadFault → Loaded → Type 0
TellsLoad new (Ok u) l = l ≡ loaded (database_of new)
TellsLoad new (Err load_faults.Memory) l = Unit {0}
TellsLoad new (Err (load_faults.At line kind)) l = l ≡ stopped (database_of new) line (fault_named new.names kind)

-- a name that is locked is in a table of so many
abbrev pub IsKnownFault : ℕ → LoadFaultKind → Type 0
IsKnownFault n (kinds.Locked k) = k.name.0 < n
IsKnownFault n kind = Unit {0}

abbrev pub IsSoundLoadFault : ℕ → LoadFault → Type 0
IsSoundLoadFault n load_faults.Memory = Unit {0}
IsSoundLoadFault n (load_faults.At line kind) = IsKnownFault n kind
