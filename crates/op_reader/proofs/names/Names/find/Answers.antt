use Rattle.std.proofs.Common.{◌≡◌, ℕ, ◌<◌, false, List, [], length, get_or, Some, None, sym, ap, ◌∙◌, arith}
use Rattle.std.specs.Str.{bytes_eq}
use Rattle.std.proofs.lemmas.List.{get_or_default}
use Rattle.std.proofs.lemmas.List.Quantifiers.{position-Some}
use Rattle.op_reader.specs.Names.{number_of}
use Rattle.op_reader.proofs.VariableTables.{number-found, number-none}
use Rattle.op_reader.proofs.names.Names.find.Goals as goal

pub index-requires : goal.index-requires
index-requires c =
    let p = position-Some (bytes_eq c.args.name.now) c.self.inside.names c.in-Some.at.0 [] (sym c.in-Some.ensures.index) in
    let here = p.0 in
    omega (arith, here, c.self.invariant, c.self.inside.numbers.ok.0)

pub returns-in-Some : goal.returns-in-Some
returns-in-Some c =
    let name = c.args.name.now in
    let p = position-Some (bytes_eq name) c.self.inside.names c.in-Some.at.0 [] (sym c.in-Some.ensures.index) in
    let l : c.in-Some.at.0 < length c.self.inside.numbers.items = let here = p.0 in omega (arith, here, c.self.invariant) in
    ap Some (c.index.ensures ∙ get_or_default c.self.inside.numbers.items c.in-Some.at.0 c.index.result.now 0 l)
    ∙ (sym (number-found name c.self.inside.names c.self.inside.numbers.items c.in-Some.at.0 c.self.invariant p.0 p.1 p.2)
    ∙ ap (number_of name) c.self.view_is)

pub returns-in-None : goal.returns-in-None
returns-in-None c =
    let name = c.args.name.now in
    sym (number-none name c.self.inside.names c.self.inside.numbers.items (sym c.in-None.ensures.found))
    ∙ ap (number_of name) c.self.view_is
