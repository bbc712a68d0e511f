use Rattle.std.proofs.Common.{◌≡◌, ℕ, List, length, reverse, sym, ◌∙◌, ap, subst, arith}
use Rattle.op_term.specs.declared.node.Node.{Node}
use Rattle.op_bind.specs.State.{State, bindings}
use Rattle.op_bind.specs.inner.Built.{NodesWithin}
use Rattle.op_bind.proofs.LoadedTerms
use Rattle.op_bind.proofs.bindings.Bindings.add.Goals as goal

pub invariant_of-self : goal.invariant_of-self
invariant_of-self c =
    let n = length c.self.inside.table.items in
    let given = subst (λ (s : State). NodesWithin s.count c.args.nodes.items) (sym c.self.view_is) c.requires.within in
    LoadedTerms.sound-load c.self.inside.nodes c.build.new.made (reverse c.self.inside.trail.items) c.self.inside.table.items
    c.self.invariant c.build.ensures.kept (c.in-Ok.ensures.within n given c.self.invariant.within)

pub returns-in-Ok-clause-added : goal.returns-in-Ok-clause-added
returns-in-Ok-clause-added c = omega (arith, c.in-Ok.ensures.added, ap (λ (s : State). length s.terms) c.self.view_is)

pub returns-in-Ok-clause-bindings : goal.returns-in-Ok-clause-bindings
returns-in-Ok-clause-bindings c =
    LoadedTerms.load-bindings (length c.self.inside.table.items) c.self.inside.nodes c.build.new.made
    (reverse c.self.inside.trail.items) c.self.invariant.are_bound c.build.ensures.kept
    ∙ ap bindings c.self.view_is
