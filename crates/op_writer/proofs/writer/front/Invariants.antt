use Rattle.std.proofs.Common.{◌≡◌, ◌≤◌, ◌++◌, length, reverse}
use Rattle.op_logic.specs.Names.{named}
use Rattle.op_writer.specs.Cut.{front_of}
use Rattle.op_writer.specs.Fragments.{spaced}
use Rattle.op_writer.specs.Text.{text_in}
use Rattle.op_writer.specs.inner.Stack.{AreGood, fragments, weights, ways_of}
use Rattle.op_writer.proofs.writer.front.Given as goal

abbrev pub decreases-write : goal.decreases-write
decreases-write g l = weights (g.T.Tree.term l.tree) (reverse l.stack.items)

abbrev pub invariant-write : goal.invariant-write
invariant-write g l =
    (front_of l.limit (text_in l.setting.ops.now l.setting.style l.fn.bound (named l.setting.symbols.now (g.T.Tree.term l.tree l.at)))
    ≡ front_of l.limit (l.written.front.bytes ++ spaced l.written.edge (fragments (g.T.Tree.term l.tree) (ways_of l.setting)
    (reverse l.stack.items))))
    × AreGood (g.T.Tree.term l.tree) (g.T.Tree.IsPlace l.tree) (length l.setting.symbols.now) (reverse l.stack.items)
    × (length l.written.front.bytes ≤ l.limit)
    × (l.written.front.limit ≡ l.limit)
