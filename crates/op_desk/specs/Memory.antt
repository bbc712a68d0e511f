-- What a desk in memory holds.
use Rattle.std.specs.Prelude.{ℕ, ◌+◌, ◌-◌, ◌^◌, Bool, true, false, List, [], ◌∷◌, min, Contains}
use Rattle.op_desk.specs.declared.chan.Chan.{Chan}
use Rattle.op_desk.specs.declared.fail.Fail.{Fail}
use Rattle.op_desk.specs.declared.fail.Fail.TheVariants as fail
use Rattle.op_desk.specs.declared.memory_desk.MemoryDesk.{MemoryDesk}
use Rattle.op_desk.specs.Channels.{at}
use Rattle.op_desk.specs.Contents.{Files}
use Rattle.op_desk.specs.Source.{left_in, standard_in}

-- The bytes of each channel that were not yet taken.
abbrev pub left_of : MemoryDesk → Chan → List ℕ
left_of desk = left_in desk.sources

-- The bytes that were put on each channel.
abbrev pub written_of : MemoryDesk → Chan → List ℕ
written_of desk = at desk.written

-- The files.
abbrev pub shelf_of : MemoryDesk → Files
shelf_of desk = desk.shelf

-- What `-` gives to each channel.
abbrev pub standard_of : MemoryDesk → Chan → List ℕ
standard_of desk = standard_in desk.sources

-- Whether each channel was not yet used.
abbrev pub fresh_of : MemoryDesk → Chan → Bool
fresh_of desk = at desk.fresh

-- The calls that are to fail.
abbrev pub failing_of : MemoryDesk → List Fail
failing_of desk = desk.failing.items

abbrev pub is_empty : List Fail → Bool
is_empty [] = true
is_empty (_ ∷ _) = false

-- No call is to fail.
abbrev pub never_fails : MemoryDesk → Bool
never_fails desk = is_empty desk.failing.items

-- How many faults of reading and of writing there were.
abbrev pub read_faults_of : MemoryDesk → ℕ
read_faults_of desk = desk.read_faults

abbrev pub write_faults_of : MemoryDesk → ℕ
write_faults_of desk = desk.write_faults

-- How many calls of each kind there were.
abbrev pub attaches_of : MemoryDesk → ℕ
attaches_of desk = desk.attaches

abbrev pub takes_of : MemoryDesk → Chan → ℕ
takes_of desk = at desk.takes

abbrev pub puts_of : MemoryDesk → Chan → ℕ
puts_of desk = at desk.puts

abbrev pub fetches_of : MemoryDesk → ℕ
fetches_of desk = desk.fetches

-- The next count, which stands still at its type's end.
abbrev pub one_more : ℕ → ℕ
one_more n = min (n + 1) (2 ^ 64 - 1)

-- The next call of each kind is to fail.
abbrev pub AttachFails : MemoryDesk → Type 0
AttachFails desk = Contains (failing_of desk) (fail.Attach (one_more (attaches_of desk)))

abbrev pub TakeFails : MemoryDesk → Chan → Type 0
TakeFails desk chan = Contains (failing_of desk) (fail.Take chan (one_more (takes_of desk chan)))

abbrev pub PutFails : MemoryDesk → Chan → Type 0
PutFails desk chan = Contains (failing_of desk) (fail.Put chan (one_more (puts_of desk chan)))

abbrev pub FetchFails : MemoryDesk → Type 0
FetchFails desk = Contains (failing_of desk) (fail.Fetch (one_more (fetches_of desk)))
