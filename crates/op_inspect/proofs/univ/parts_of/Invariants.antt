use Rattle.std.proofs.Common.{◌<◌, ◌∷◌, [], length, All}
use Rattle.op_term.proofs.ArgumentLists.{Pushed}
use Rattle.op_term.specs.Places.{term_at}
use Rattle.op_inspect.proofs.univ.parts_of.Given as goal

abbrev pub invariant-push : goal.invariant-push
invariant-push l = record {
  pushed : Pushed (term_at l.bindings.terms) (term_at l.bindings.terms l.at) (l.name ∷ []) l.parts.items l.i;
  there : All (λ r. r < length l.bindings.terms) l.parts.items;
}
