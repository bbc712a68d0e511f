use Rattle.std.proofs.Common.{sym, ◌∙◌, subst}
use Rattle.op_logic.specs.Names.{IsTable}
use Rattle.op_term.proofs.SymbolTexts.{texts-copied}
use Rattle.op_term.proofs.symbols.Symbols.copy.Goals as goal

pub invariant_of-result : goal.invariant_of-result
invariant_of-result c =
    let e = texts-copied c.self.inside.names.keys c.in_ok-clone.field-0.keys c.in_ok-clone.ensures.cases in
    subst IsTable (sym e) c.self.invariant

pub returns : goal.returns
returns c = texts-copied c.self.inside.names.keys c.in_ok-clone.field-0.keys c.in_ok-clone.ensures.cases ∙ c.self.view_is
