use Rattle.std.proofs.Common.{◌≡◌, drop}
use Rattle.op_store.specs.Directives.{ops_set}
use Rattle.op_store.specs.inner.Shapes.{names_of}
use Rattle.op_store.proofs.loading.operators.set_each.Given as goal

abbrev pub invariant-names : goal.invariant-names
invariant-names l = record {
  tells : ops_set l.priority l.kind l.fn.store.table (names_of l.fn.store.names l.names)
      ≡ ops_set l.priority l.kind l.store.table (names_of l.fn.store.names (drop l.name-index l.names));
  kept : l.store ≡ record l.fn.store { table = l.store.table };
  one : l.name-index ≡ 0 → l.store ≡ l.fn.store;
}
