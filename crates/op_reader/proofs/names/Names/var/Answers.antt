use Rattle.std.proofs.Common.{◌≡◌, ℕ, ◌<◌, List, [], length, get_or, sym, ap, ◌∙◌, arith}
use Rattle.std.proofs.lemmas.List.{get_or_default}
use Rattle.op_reader.proofs.VariableTables.{within-numbers, numbered-number}
use Rattle.op_reader.proofs.names.Names.var.Goals as goal

pub index-requires : goal.index-requires
index-requires c =
    let l : c.args.i < length c.self.inside.numbers.items =
    within-numbers c.self.inside.names c.self.inside.numbers.items _ c.args.i c.self.invariant c.self.view_is c.requires in
    omega (arith, l, c.self.inside.numbers.ok.0)

pub returns : goal.returns
returns c =
    let l : c.args.i < length c.self.inside.numbers.items =
    within-numbers c.self.inside.names c.self.inside.numbers.items _ c.args.i c.self.invariant c.self.view_is c.requires in
    c.index.ensures
    ∙ (get_or_default c.self.inside.numbers.items c.args.i c.index.result.now 0 l
    ∙ (sym (numbered-number c.self.inside.names c.self.inside.numbers.items c.args.i c.self.invariant)
    ∙ ap (λ (es : List (List ℕ × ℕ)). (get_or es c.args.i ([], 0)).1) c.self.view_is))
