use Rattle.std.proofs.Common.{◌≡◌, ℕ, ◌+◌, List, length, sym, ◌∙◌, ap, arith}
use Rattle.op_bind.specs.State.{State}
use Rattle.op_bind.proofs.RenewedTerms
use Rattle.op_bind.proofs.bindings.Bindings.add_renewed.Goals as goal

pub returns-in-Ok-clause-count : goal.returns-in-Ok-clause-count
returns-in-Ok-clause-count c = λ t h.
    let first = c.args.self.now.count in
    let met = c.in_ok-met.met.keys in
    let n : c.add_numbered.new.self.count ≡ first + length met =
    omega (arith, c.in-Ok.ensures.count, ap (λ (s : State). s.count) c.in_ok-fresh.ensures.ok, c.len.ensures.len) in
    RenewedTerms.copy-count first c.add_numbered.new.self.count c.args.nodes.now met t c.in_ok-met.ensures h n
