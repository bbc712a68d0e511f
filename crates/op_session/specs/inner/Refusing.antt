-- What calls leave that come before a session: they go on with what they read, or refuse it and end.
use Rattle.std.specs.Prelude.{ℕ, List, [], ◌∷◌, Option, Some, option_map, Result, Ok, Err}
use Rattle.op_desk.specs.Contents.{Files}
use Rattle.op_trace.specs.Database.{Text}
use Rattle.op_store.specs.Queries.{fault_named}
use Rattle.op_store.specs.declared.loading.load_fault.LoadFault.{LoadFault}
use Rattle.op_store.specs.declared.loading.load_fault.LoadFault.TheVariants as load_faults
use Rattle.op_session.specs.declared.status.Status.{Status}
use Rattle.op_session.specs.declared.status.Status.TheVariants as status
use Rattle.op_session.specs.Words.{fault_words, load_line}
use Rattle.op_session.specs.Call.{Outcome, Line, outcome_of}
use Rattle.op_session.specs.Sight.{Sight}
use Rattle.op_session.specs.inner.Steps.{Untouched}
use Rattle.op_session.specs.inner.Progress.{Leaves, IsOutcome}

-- the outcome of a call by the name of a file and a goal, where the shelf is told
abbrev pub told_outcome : Option Files → List ℕ → List ℕ → Option Outcome
told_outcome shelf name goal = option_map (λ files. outcome_of files (name ∷ goal ∷ [])) shelf

-- a refusal's line; nothing for want of memory
abbrev pub Refuses : List Text → List ℕ → LoadFault → Status → Sight → Sight → Type 0
Refuses names name load_faults.Memory s a b = (o : Option Outcome) (n : ℕ) → Leaves o s a b n n
Refuses names name (load_faults.At line kind) s a b =
    (n : ℕ) → Leaves (Some (Line status.Load (load_line name line (fault_words (fault_named names kind))))) s a b n n

-- a call of this outcome has changed nothing, and what it has by now says its outcome; or it has ended, and no step was made
abbrev pub GoesOn : {A : Type 0} → Result A Status → Option Outcome → (A → Outcome) → Sight → Sight → Type 0
GoesOn (Ok x) o by a b = Untouched a b × IsOutcome o (by x)
GoesOn (Err s) o by a b = (n : ℕ) → Leaves o s a b n n
