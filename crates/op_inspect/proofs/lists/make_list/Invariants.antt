use Rattle.std.proofs.Common.{◌≤◌, length, drop}
use Rattle.op_inspect.specs.Lists.{list_of}
use Rattle.op_inspect.specs.inner.Seen.{texts}
use Rattle.op_inspect.specs.inner.Settings.{Makes, Stays}
use Rattle.op_inspect.proofs.lists.make_list.Given as goal

abbrev pub invariant-back : goal.invariant-back
invariant-back l = record {
  made : Makes l.fn.symbols l.fn.bindings l.symbols l.bindings l.list (list_of (texts l.fn.symbols l.fn.bindings (drop l.i l.elements)));
  stays : Stays l.fn.symbols l.symbols l.fn.bindings l.bindings;
  within : l.i ≤ length l.elements;
}

abbrev pub decreases-back : goal.decreases-back
decreases-back l = l.i
