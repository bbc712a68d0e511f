-- What a desk may tell of its bytes, and what its calls do to them.
use Rattle.std.specs.Prelude.{◌≡◌, ℕ, ◌<◌, ◌≤◌, true, false, List, [], ◌∷◌, length, take, drop, Option, Some, None, IsSomeAnd, option_map}
use Rattle.std.specs.Prelude.{option_and_then, if◌then◌else◌, bytes_eq, ⊤}
use Rattle.std.specs.Io.KnownBytes.{Appends}
use Rattle.op_desk.specs.Channel.{is_read, is_dash}
use Rattle.op_desk.specs.declared.chan.Chan.{Chan}

-- Bytes that may be told: None claims nothing.
abbrev pub Known : Type 0
Known = Option (List ℕ)

-- Names with their bytes.
abbrev pub Files : Type 0
Files = List (List ℕ × List ℕ)

-- The bytes that a name has.
abbrev pub bytes_of : Files → List ℕ → Known
bytes_of [] name = None
bytes_of (file ∷ files) name = if bytes_eq file.0 name then Some file.1 else bytes_of files name

-- No name stands in the list twice.
abbrev pub IsNamedOnce : Files → Type 0
IsNamedOnce [] = Unit {0}
IsNamedOnce (file ∷ files) = (bytes_of files file.0 ≡ None) × IsNamedOnce files

-- The list after a name was given bytes: in its place, or at the end where the name is new.
abbrev pub with_file : Files → List ℕ → List ℕ → Files
with_file [] name bytes = (name, bytes) ∷ []
with_file (file ∷ files) name bytes = if bytes_eq file.0 name then (name, bytes) ∷ files else file ∷ with_file files name bytes

-- These are the bytes of the name, where the shelf is told.
abbrev pub IsFile : Option Files → List ℕ → List ℕ → Type 0
IsFile None name bytes = ⊤
IsFile (Some files) name bytes = bytes_of files name ≡ Some bytes

-- The name has more than so many bytes, where the shelf is told.
abbrev pub IsLonger : Option Files → List ℕ → ℕ → Type 0
IsLonger None name limit = ⊤
IsLonger (Some files) name limit = IsSomeAnd (bytes_of files name) (λ bytes. limit < length bytes)

-- The shelf is told and doesn't have the name.
abbrev pub IsMissing : Option Files → List ℕ → Type 0
IsMissing None name = ⊥
IsMissing (Some files) name = bytes_of files name ≡ None

-- The channel is read, and the name is neither `-` nor on the shelf.
pub record CannotAttach (shelf : Option Files) (chan : Chan) (name : List ℕ) : Type 0 where
  pub read : is_read chan ≡ true
  pub named : is_dash name ≡ false
  pub missing : IsMissing shelf name

-- What a channel that is read has left after it was attached.
abbrev pub attached : Option Files → Known → List ℕ → Known
attached shelf standard name =
    if is_dash name then standard else option_and_then (λ files. bytes_of files name) shelf

-- What a channel that is written holds after it was attached: nothing.
abbrev pub emptied : Known → Known
emptied known = option_map (λ _. []) known

-- The first n bytes of the buffer are those of the file from the place on, and n is 0 with room only at the file's end.
pub record FileGives (file : List ℕ) (from : ℕ) (into : List ℕ) (n : ℕ) : Type 0 where
  pub bytes : take n into ≡ take n (drop from file)
  pub end : n ≡ 0 → 0 < length into → length file ≤ from

-- The same of the file that the name has, where the shelf is told.
abbrev pub Gives : Option Files → List ℕ → ℕ → List ℕ → ℕ → Type 0
Gives None name from into n = ⊤
Gives (Some files) name from into n = IsSomeAnd (bytes_of files name) (λ file. FileGives file from into n)

-- Told bytes grow by a front of these bytes.
pub record AppendsFront (old new : Known) (bytes : List ℕ) : Type 0 where
  pub count : ℕ
  pub within : count ≤ length bytes
  pub front : Appends old new (take count bytes)
