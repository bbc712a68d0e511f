use Rattle.std.proofs.Common.{◌<◌, ap, sym, ◌∙◌, subst, arith, All, length}
use Rattle.op_inspect.proofs.MakingFunctors.{skeleton-starts, skeleton-more, skeleton-root}
use Rattle.op_inspect.proofs.skeleton.skeleton.Goals as goal

pub variables-init : goal.variables-init
variables-init c = record {
  skeleton = skeleton-starts c.new-nodes.result c.new-parts.result.items c.new-nodes.ensures c.new-parts.ensures.items;
}

pub variables-preserved : goal.variables-preserved
variables-preserved c = record {
  skeleton = skeleton-more c.variables.i c.in_ok-var.field-0 c.variables.nodes c.var.new.self c.variables.parts.items
      c.push.new.self.items c.variables.invariant.skeleton c.in_ok-var.ensures.ok c.in_ok-var.ensures.number c.in_ok-push.ensures.items;
}

pub compound-requires-clause-given : goal.compound-requires-clause-given
compound-requires-clause-given c =
    subst (All (λ p. p < length c.variables.nodes)) (sym c.deref.ensures.value) c.variables.invariant.skeleton.below

pub compound-requires-clause-some : goal.compound-requires-clause-some
compound-requires-clause-some c =
    let parts = ap length c.deref.ensures.value in omega (arith, parts, c.variables.invariant.skeleton.made, c.requires)

pub returns : goal.returns
returns c =
    c.finish.ensures
    ∙ skeleton-root c.variables.i c.args.count c.args.name.0 c.in_ok-root.root c.variables.nodes c.compound.new.self
    c.variables.parts.items c.deref.result.now c.variables.invariant.skeleton (omega (arith, c.requires)) c.deref.ensures.value
    c.in_ok-root.ensures.ok c.in_ok-root.ensures.number
