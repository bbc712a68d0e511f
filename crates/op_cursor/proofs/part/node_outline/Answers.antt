use Rattle.std.proofs.Common.{sym}
use Rattle.op_term.specs.Places.{term_at}
use Rattle.op_cursor.proofs.EventParts.{struct-head}
use Rattle.op_cursor.proofs.part.node_outline.Goals as goal

pub returns-in-Struct-clause-outline : goal.returns-in-Struct-clause-outline
returns-in-Struct-clause-outline c = λ own names.
    struct-head own (term_at c.args.whole.now.terms c.args.at) c.in-Struct.name c.in-Struct.n (sym c.in-Struct.ensures)
