use Rattle.op_store.proofs.ConversionPlaces.{IsWalk}
use Rattle.op_store.proofs.bodies.convert.nodes_of.Given as goal

abbrev pub invariant-walk : goal.invariant-walk
invariant-walk g l =
    IsWalk l.symbols (g.T.FollowedTerms.under l.terms) (g.T.FollowedTerms.term l.terms) (g.T.FollowedTerms.IsPlace l.terms) l.at l.fn.fuel
    l.fuel l.met.items l.todo.items

abbrev pub decreases-walk : goal.decreases-walk
decreases-walk g l = l.fuel
