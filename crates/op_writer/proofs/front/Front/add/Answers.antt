use Rattle.std.proofs.Common.{◌+◌, ◌-◌, ◌++◌, ℕ, List, ◌∙◌, ap, arith}
use Rattle.op_writer.proofs.TextFronts.{front-add}
use Rattle.op_writer.proofs.front.Front.add.Goals as goal

pub returns-clause-bytes : goal.returns-clause-bytes
returns-clause-bytes c =
    let old = c.args.self.now.bytes in
    let n = c.args.self.now.limit in
    c.in_ok-append.ensures.ok
    ∙ (ap (λ (t : List ℕ). old ++ t) c.beginning.ensures ∙ front-add n (n - c.len.result + 1) old c.args.more.now
    (omega (arith, c.len.ensures, c.requires.room)))
