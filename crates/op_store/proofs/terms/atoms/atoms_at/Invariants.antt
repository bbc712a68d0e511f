use Rattle.std.proofs.Common.{◌≡◌, ◌<◌, ◌++◌, ℕ, List, map, drop, All}
use Rattle.std.specs.Prelude.{option_map}
use Rattle.op_logic.specs.Names.{named, HasNames}
use Rattle.op_store.specs.Directives.{atom_names}
use Rattle.op_store.specs.inner.Shapes.{names_of}
use Rattle.op_store.proofs.terms.atoms.atoms_at.Given as goal

abbrev pub invariant-atoms : goal.invariant-atoms
invariant-atoms g l = record {
  tells : (names : List (List ℕ)) → atom_names (map (λ p. named names (g.T.Tree.term l.tree p)) l.places)
      ≡ option_map (λ fs. names_of names l.atoms.items ++ fs)
      (atom_names (map (λ p. named names (g.T.Tree.term l.tree p)) (drop l.at-index l.places)));
  there : (n : ℕ) → All (λ p. HasNames n (g.T.Tree.term l.tree p)) l.places → All (λ s. s.0 < n) l.atoms.items;
}
