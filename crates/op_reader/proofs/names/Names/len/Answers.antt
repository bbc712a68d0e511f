use Rattle.std.proofs.Common.{◌≡◌, ℕ, length, sym, ap, ◌∙◌, arith}
use Rattle.op_reader.proofs.VariableTables.{numbered-length}
use Rattle.op_reader.proofs.names.Names.len.Goals as goal

pub returns : goal.returns
returns c =
    let k : length c.args.self.now ≡ length c.self.inside.numbers.items =
    sym (ap length c.self.view_is) ∙ numbered-length c.self.inside.names c.self.inside.numbers.items c.self.invariant in
    omega (arith, c.len.ensures, c.self.inside.numbers.ok.0, k)
