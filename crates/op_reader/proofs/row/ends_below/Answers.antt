use Rattle.std.proofs.Common.{ℕ, ltb, sym, ◌∙◌, ap}
use Rattle.op_reader.proofs.ClosedSpines.{last_found}
use Rattle.op_reader.proofs.row.ends_below.Goals as goal

pub returns-in-Some : goal.returns-in-Some
returns-in-Some c =
    ap (λ (n : ℕ). ltb n c.args.priority) c.right_bound.ensures
    ∙ sym (last_found c.args.priority c.args.branches.now c.in-Some.branch.now c.in-Some.ensures.value)
