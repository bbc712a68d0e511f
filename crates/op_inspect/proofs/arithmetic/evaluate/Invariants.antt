use Rattle.std.proofs.Common.{◌≡◌, ◌+◌, ◌-◌, ◌*◌, ◌≤◌, length}
use Rattle.op_inspect.specs.Arithmetic.{add_nodes}
use Rattle.op_inspect.specs.inner.Pending.{meaning_at, all_resumed, next_meaning, IsReadyNext, AreReady, moves_left}
use Rattle.op_inspect.proofs.arithmetic.evaluate.Given as goal

abbrev pub invariant-walk : goal.invariant-walk
invariant-walk l = record {
  paid : l.fuel ≤ l.fn.fuel;
  next : IsReadyNext (length l.symbols) l.bindings l.next;
  ready : AreReady (length l.symbols) l.bindings l.pending.items;
  meaning : meaning_at l.symbols l.bindings l.term
      ≡ add_nodes (l.fn.fuel - l.fuel) (all_resumed l.symbols l.bindings l.pending.items (next_meaning l.symbols l.bindings l.next));
}

abbrev pub decreases-walk : goal.decreases-walk
decreases-walk l = 3 * l.fuel + moves_left l.pending.items
