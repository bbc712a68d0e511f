use Rattle.std.proofs.Common.{◌∙◌, sym, ap}
use Rattle.op_store.specs.inner.BodyParts.{part_of_pair}
use Rattle.op_store.proofs.BodyParts.{of-pair, of-other}
use Rattle.op_store.proofs.bodies.body_part.part_of.Goals as goal

pub returns-then-arity-eq2 : goal.returns-then-arity-eq2
returns-then-arity-eq2 g c =
    c.pair_part.ensures ∙ (ap part_of_pair c.name_of.ensures
    ∙ sym (of-pair c.args.symbols.now (g.T.FollowedTerms.term c.args.terms.now c.args.at.now)
    c.in-Struct.name c.in-Struct.arity c.in-Struct.ensures
    c.if-arity-eq2.true))

pub returns-else-arity-eq2 : goal.returns-else-arity-eq2
returns-else-arity-eq2 g c =
    sym (of-other c.args.symbols.now (g.T.FollowedTerms.term c.args.terms.now c.args.at.now)
    c.in-Struct.name c.in-Struct.arity c.in-Struct.ensures
    c.if-arity-eq2.false)
