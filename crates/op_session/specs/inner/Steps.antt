-- What small steps do to what a desk shows.
use Rattle.std.specs.Prelude.{◌≡◌, ◌≤◌, ℕ, IsTrue, List, [], ◌∷◌, length, Option, Some, None, Result, Ok, Err}
use Rattle.std.specs.Io.KnownBytes.{Appends, Consumes, IsAtEnd}
use Rattle.op_desk.specs.declared.chan.Chan.TheVariants.{Commands, Talk}
use Rattle.op_desk.specs.Contents.{AppendsFront, IsFile, IsLonger, IsMissing}
use Rattle.op_desk.specs.Frame.{SameBut}
use Rattle.op_session.specs.declared.status.Status.{Status}
use Rattle.op_session.specs.declared.status.Status.TheVariants as status
use Rattle.op_session.specs.Promise.{CountsAs, IsBroken, IsFaultless, IsUnread, IsUnwritten}
use Rattle.op_session.specs.Sight.{Sight}

-- what only the commands and the answers can change
pub record Quiet (a b : Sight) : Type 0 where
  pub left : SameBut Commands a.left b.left
  pub written : SameBut Talk a.written b.written
  pub shelf : b.shelf ≡ a.shelf
  pub steady : IsTrue a.steady → IsTrue b.steady

-- and without a fault
pub record Calm (a b : Sight) : Type 0 where
  pub quiet : Quiet a b
  pub reads : b.reads ≡ a.reads
  pub writes : b.writes ≡ a.writes

-- a fault of reading or writing, or want of memory
pub record Fault (s : Status) (a b : Sight) : Type 0 where
  pub broken : IsBroken s
  pub quiet : Quiet a b
  pub counts : CountsAs s a.reads b.reads a.writes b.writes
  pub faultless : IsTrue a.steady → IsFaultless s

-- a byte of the commands was taken, or none is left
pub record TakesByte (a b : Sight) (byte : ℕ) : Type 0 where
  pub calm : Calm a b
  pub talk : b.written Talk ≡ a.written Talk
  pub front : Consumes (a.left Commands) (b.left Commands) (byte ∷ [])

pub record TakesNone (a b : Sight) : Type 0 where
  pub calm : Calm a b
  pub talk : b.written Talk ≡ a.written Talk
  pub none : Consumes (a.left Commands) (b.left Commands) []
  pub end : IsAtEnd (b.left Commands)

-- neither commands nor answers changed
pub record TakesNothing (s : Status) (a b : Sight) : Type 0 where
  pub fault : Fault s a b
  pub unread : IsUnread s
  pub talk : b.written Talk ≡ a.written Talk
  pub commands : b.left Commands ≡ a.left Commands

abbrev pub Takes : Sight → Sight → Result (Option ℕ) Status → Type 0
Takes a b (Ok (Some byte)) = TakesByte a b byte
Takes a b (Ok None) = TakesNone a b
Takes a b (Err s) = TakesNothing s a b

-- bytes were written to Talk
pub record SaysAll (a b : Sight) (bytes : List ℕ) : Type 0 where
  pub calm : Calm a b
  pub talk : Appends (a.written Talk) (b.written Talk) bytes
  pub commands : b.left Commands ≡ a.left Commands

-- a front of them was
pub record SaysFront (s : Status) (a b : Sight) (bytes : List ℕ) : Type 0 where
  pub fault : Fault s a b
  pub unwritten : IsUnwritten s
  pub talk : AppendsFront (a.written Talk) (b.written Talk) bytes
  pub commands : b.left Commands ≡ a.left Commands

abbrev pub Says : Sight → Sight → List ℕ → Result (Unit {0}) Status → Type 0
Says a b bytes (Ok x) = SaysAll a b bytes
Says a b bytes (Err s) = SaysFront s a b bytes

-- the status of a call that ends by this one, where all could be written
abbrev pub ended_as : Status → Result (Unit {0}) Status → Status
ended_as s (Ok x) = s
ended_as s (Err t) = t

-- neither commands nor answers changed, and there was no fault
pub record Untouched (a b : Sight) : Type 0 where
  pub calm : Calm a b
  pub talk : b.written Talk ≡ a.written Talk
  pub commands : b.left Commands ≡ a.left Commands

-- a file could not be read: a steady desk fails only where it is missing
pub record Unread (name : List ℕ) (s : Status) (a b : Sight) : Type 0 where
  pub unread : IsUnread s
  pub quiet : Quiet a b
  pub counts : CountsAs s a.reads b.reads a.writes b.writes
  pub missing : IsTrue a.steady → s ≡ status.Read → IsMissing a.shelf name
  pub talk : b.written Talk ≡ a.written Talk
  pub commands : b.left Commands ≡ a.left Commands

-- a whole file, or it is too long
pub record ReadsFile (name bytes : List ℕ) (a b : Sight) : Type 0 where
  pub untouched : Untouched a b
  pub file : IsFile a.shelf name bytes
  pub short : length bytes ≤ 16777216

pub record ReadsTooLong (name : List ℕ) (a b : Sight) : Type 0 where
  pub untouched : Untouched a b
  pub long : IsLonger a.shelf name 16777216

abbrev pub Reads : List ℕ → Sight → Sight → Result (Option (List ℕ)) Status → Type 0
Reads name a b (Ok (Some bytes)) = ReadsFile name bytes a b
Reads name a b (Ok None) = ReadsTooLong name a b
Reads name a b (Err s) = Unread name s a b
