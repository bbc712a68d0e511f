use Rattle.std.proofs.Common.{◌≡◌, ◌<◌, ◌+◌, ◌^◌, ℕ, take, length}
use Rattle.op_store.specs.Load.{load_from}
use Rattle.op_store.specs.Stored.{database_of}
use Rattle.op_store.proofs.loading.load.load_all.Given as goal

abbrev pub invariant-terms : goal.invariant-terms
invariant-terms l = record {
  tells : (k : ℕ) → load_from (l.counter + k) l.fn.store.locked (database_of l.fn.store) 1 l.text
      ≡ load_from k l.fn.store.locked (database_of l.store) l.line l.bytes;
  small : l.line + length l.bytes < 2 ^ 64;
  names : take (length l.fn.store.names) l.store.names ≡ l.fn.store.names;
  locked : l.store.locked ≡ l.fn.store.locked;
}
