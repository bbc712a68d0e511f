use Rattle.std.proofs.Common.{◌≡◌, ℕ, ◌+◌, ◌∙◌, List, length, map, sym, subst, ap, arith}
use Rattle.op_term.specs.declared.node.Node.{Node}
use Rattle.op_bind.specs.Copied.{copied}
use Rattle.op_bind.specs.inner.Built.{NodesWithin}
use Rattle.op_bind.proofs.RenewedTerms
use Rattle.op_bind.proofs.bindings.Bindings.add_numbered.Goals as goal

pub add-requires-clause-nodes : goal.add-requires-clause-nodes
add-requires-clause-nodes c =
    let t = c.requires.nodes.0 in
    let met = c.args.met.now.keys in (
      copied c.args.first t,
      c.in_ok-renewed.ensures ∙ RenewedTerms.renewed-copy c.args.first c.args.nodes.now met t c.requires.met c.requires.nodes.1,
    )

pub add-requires-clause-within : goal.add-requires-clause-within
add-requires-clause-within c =
    let met = c.args.met.now.keys in
    let w = RenewedTerms.copy-within c.args.first c.args.nodes.now met c.requires.met in
    subst (λ (n : ℕ). NodesWithin n c.in_ok-renewed.renewed.items) (sym c.requires.count)
    (subst (λ (ns : List Node). NodesWithin (c.args.first + length met) ns) (sym c.in_ok-renewed.ensures) w)

pub returns-clause-value : goal.returns-clause-value
returns-clause-value c =
    RenewedTerms.on-copy c.add.new.self.terms c.args.first c.args.nodes.now c.in_ok-renewed.renewed.items c.args.met.now.keys
    c.requires.met c.in_ok-renewed.ensures c.add.result c.add.ensures.value
