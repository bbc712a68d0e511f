use Rattle.std.proofs.Common.{◌≡◌, map, drop, take, length}
use Rattle.op_logic.specs.Names.{named}
use Rattle.op_store.specs.Directives.{all_dynamic}
use Rattle.op_store.specs.Stored.{database_of}
use Rattle.op_store.proofs.loading.directive.add_dynamic.Given as goal

abbrev pub invariant-entries : goal.invariant-entries
invariant-entries g l = record {
  tells : all_dynamic l.fn.store.locked (database_of l.fn.store) (map (λ p. named l.fn.store.names (g.T.Tree.term l.tree p)) l.entries)
      ≡ all_dynamic l.fn.store.locked (database_of l.store)
      (map (λ p. named l.fn.store.names (g.T.Tree.term l.tree p)) (drop l.entry-index l.entries));
  kept : l.store ≡ record l.fn.store { procedures = l.store.procedures };
  front : take (length l.fn.store.procedures) l.store.procedures ≡ l.fn.store.procedures;
}
