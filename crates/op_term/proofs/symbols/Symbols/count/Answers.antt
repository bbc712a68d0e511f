use Rattle.std.proofs.Common.{All, subst}
use Rattle.std.specs.Str.{IsUtf8}
use Rattle.op_term.proofs.SymbolTexts.{are-texts}
use Rattle.op_term.proofs.symbols.Symbols.count.Goals as goal

pub returns-clause-texts : goal.returns-clause-texts
returns-clause-texts c = subst (All IsUtf8) c.self.view_is (are-texts c.self.inside.names.keys)
