use Rattle.std.proofs.Common.{arith}
use Rattle.op_term.proofs.BuilderCalls.{same-length}
use Rattle.op_term.proofs.builder.Builder.len.Goals as goal

pub returns : goal.returns
returns c =
    let l = same-length c.self.inside.parts.items c.self.inside.cells.items c.self.invariant.0 c.args.self.now c.self.view_is in
    omega (arith, c.self.inside.cells.ok.0)
