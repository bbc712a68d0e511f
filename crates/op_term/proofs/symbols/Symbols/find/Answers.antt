use Rattle.std.proofs.Common.{ℕ, List, sym, ◌∙◌, ap}
use Rattle.std.specs.Str.{bytes_eq}
use Rattle.std.specs.List.{position, list_any}
use Rattle.op_term.proofs.SymbolTexts.{position-texts, list_any-texts}
use Rattle.op_term.proofs.symbols.Symbols.find.Goals as goal

pub returns-in-Some-clause-index : goal.returns-in-Some-clause-index
returns-in-Some-clause-index c =
    let name = c.args.name.now in
    c.in-Some.ensures.index
    ∙ (sym (position-texts name c.self.inside.names.keys) ∙ ap (λ (s : List (List ℕ)). position (bytes_eq name) s) c.self.view_is)

pub returns-in-None-clause-index : goal.returns-in-None-clause-index
returns-in-None-clause-index c =
    let name = c.args.name.now in
    c.in-None.ensures.index
    ∙ (sym (position-texts name c.self.inside.names.keys) ∙ ap (λ (s : List (List ℕ)). position (bytes_eq name) s) c.self.view_is)

pub returns-in-Some-clause-found : goal.returns-in-Some-clause-found
returns-in-Some-clause-found c =
    let name = c.args.name.now in
    c.in-Some.ensures.found
    ∙ (sym (list_any-texts name c.self.inside.names.keys) ∙ ap (λ (s : List (List ℕ)). list_any (bytes_eq name) s) c.self.view_is)

pub returns-in-None-clause-found : goal.returns-in-None-clause-found
returns-in-None-clause-found c =
    let name = c.args.name.now in
    c.in-None.ensures.found
    ∙ (sym (list_any-texts name c.self.inside.names.keys) ∙ ap (λ (s : List (List ℕ)). list_any (bytes_eq name) s) c.self.view_is)
