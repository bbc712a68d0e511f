use Rattle.std.proofs.Common.{◌≡◌, ℕ, List, [], ◌∷◌, ◌++◌, length, sym, ap, ◌∙◌}
use Rattle.op_reader.specs.Names.{numbered, number_of}
use Rattle.op_reader.proofs.VariableTables.{number-joined}
use Rattle.op_reader.proofs.names.Names.push.Goals as goal

pub invariant_of-self-in-Ok : goal.invariant_of-self-in-Ok
invariant_of-self-in-Ok c =
    let name = c.args.name.now in
    let j = number-joined name c.self.inside.names c.intern.new.self c.self.inside.numbers.items c.args.var c.self.invariant
    (ap (number_of name) c.self.view_is ∙ c.requires) c.in-Ok.ensures.exact in
    j.1 ∙ ap length (sym c.in_ok-push.ensures.items)

pub returns-in-Ok-clause-ok : goal.returns-in-Ok-clause-ok
returns-in-Ok-clause-ok c =
    let name = c.args.name.now in
    let j = number-joined name c.self.inside.names c.intern.new.self c.self.inside.numbers.items c.args.var c.self.invariant
    (ap (number_of name) c.self.view_is ∙ c.requires) c.in-Ok.ensures.exact in
    ap (numbered c.intern.new.self) c.in_ok-push.ensures.items
    ∙ (j.0 ∙ ap (λ (es : List (List ℕ × ℕ)). es ++ (name, c.args.var) ∷ []) c.self.view_is)
