use Rattle.std.proofs.Common.{◌≡◌, map, drop}
use Rattle.op_logic.specs.Names.{named}
use Rattle.op_trace.specs.Database.{Database}
use Rattle.op_store.specs.Directives.{all_indicate as the_indicators}
use Rattle.op_store.proofs.loading.indicator.all_indicate.Given as goal

abbrev pub invariant-entries : goal.invariant-entries
invariant-entries g l =
    (w : Database) → the_indicators w (map (λ p. named l.symbols (g.T.Tree.term l.tree p)) l.entries)
    ≡ the_indicators w (map (λ p. named l.symbols (g.T.Tree.term l.tree p)) (drop l.entry-index l.entries))
