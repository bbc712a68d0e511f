use Rattle.std.proofs.Common.{◌≡◌, ℕ, ◌<◌, List, [], length, get_or, sym, ap, ◌∙◌}
use Rattle.op_logic.proofs.NameTables.{name_at-below}
use Rattle.op_reader.proofs.VariableTables.{within-names, numbered-name}
use Rattle.op_reader.proofs.names.Names.name.Goals as goal

pub name_of-requires : goal.name_of-requires
name_of-requires c = within-names c.self.inside.names c.self.inside.numbers.items _ c.args.i c.self.invariant c.self.view_is c.requires

pub returns : goal.returns
returns c =
    let l : c.args.i < length c.self.inside.names =
    within-names c.self.inside.names c.self.inside.numbers.items _ c.args.i c.self.invariant c.self.view_is c.requires in
    c.name_of.ensures
    ∙ (name_at-below c.self.inside.names c.args.i l
    ∙ (sym (numbered-name c.self.inside.names c.self.inside.numbers.items c.args.i c.self.invariant)
    ∙ ap (λ (es : List (List ℕ × ℕ)). (get_or es c.args.i ([], 0)).0) c.self.view_is))
