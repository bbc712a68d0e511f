use Rattle.std.proofs.Common.{sym, ◌∙◌, ap}
use Rattle.op_term.specs.Places.{term_at}
use Rattle.op_cursor.specs.inner.OwnNames.{own_node}
use Rattle.op_cursor.proofs.OwnTables.{head-renamed}
use Rattle.op_cursor.proofs.own_names.OwnTreeTree.node.Goals as goal

pub returns : goal.returns
returns c =
    let names = c.args.self.now.symbols.now in
    let own = c.args.self.now.own.now in
    c.own_node.ensures ∙ (ap (own_node names own) c.node.ensures
    ∙ sym (head-renamed names own (term_at c.args.self.now.whole.now.terms c.args.at.now)))
