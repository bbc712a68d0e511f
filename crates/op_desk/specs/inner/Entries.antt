-- The files of a shelf as they are kept.
use Rattle.std.specs.Prelude.{◌≡◌, ℕ, ◌<◌, List, length, take, map, None, slice_index_or}
use Rattle.op_desk.specs.declared.shelf.Entry.{Entry}
use Rattle.op_desk.specs.Contents.{Files, bytes_of}

abbrev pub files_of : List Entry → Files
files_of entries = map (λ entry. (entry.name, entry.bytes)) entries

-- The first entry of the name lies at the place.
pub record Holds (entries : List Entry) (name : List ℕ) (place : ℕ) : Type 0 where
  pub within : place < length entries
  pub before : bytes_of (files_of (take place entries)) name ≡ None
  pub here : (other : Entry) → (slice_index_or entries place other).name ≡ name
