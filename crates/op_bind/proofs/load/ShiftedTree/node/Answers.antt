use Rattle.std.proofs.Common.{ap, ◌∙◌}
use Rattle.op_term.specs.Places.{term_at}
use Rattle.op_bind.specs.inner.Loaded.{shifted_node}
use Rattle.op_bind.proofs.LoadedTerms.{head-shift}
use Rattle.op_bind.proofs.load.ShiftedTree.node.Goals as goal

pub returns : goal.returns
returns c =
    let first = c.args.self.now.first in
    c.shift_node.ensures ∙ (ap (shifted_node first) c.node.ensures ∙ head-shift first (term_at c.args.self.now.whole.terms c.args.at.now))
