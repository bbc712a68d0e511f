use Rattle.std.proofs.Common.{◌≡◌, drop, [], ℕ}
use Rattle.std.specs.Prelude.{map, All}
use Rattle.op_reader.specs.declared.row_kind.RowKind.TheVariants.{Clause}
use Rattle.op_reader.specs.Roles.{levels_of, an_operand}
use Rattle.op_reader.specs.inner.RoleLists.{WordBelow, RoleBelow, View, word_in, with_roles, on_layers, roles_left, left_at}
use Rattle.op_reader.proofs.roles.roles_of.Given as goal

abbrev pub invariant-loop-word : goal.invariant-loop-word
invariant-loop-word l = record {
  roles : (v : View) →
      roles_left Clause [] an_operand (levels_of l.stop (map (word_in v) l.words))
      ≡ on_layers (with_roles v l.roles.items) (left_at v l.spot (levels_of l.stop (map (word_in v) (drop l.word-index l.words))));
  below : (n : ℕ) → All (WordBelow n) l.words → All (RoleBelow n) l.roles.items;
}
