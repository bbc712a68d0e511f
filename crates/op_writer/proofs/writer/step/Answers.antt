use Rattle.std.proofs.Common.{◌++◌, reverse, sym, ◌∙◌, ap}
use Rattle.op_writer.specs.Cut.{front_of}
use Rattle.op_writer.specs.Fragments.{spaced}
use Rattle.op_writer.specs.inner.Stack.{ways_of, fragments, fragments_of, fragment_of}
use Rattle.op_writer.proofs.TextFronts.{front-fragment}
use Rattle.op_writer.proofs.writer.step.Goals as goal

pub returns-in_ok-lexeme-in-Lexeme-clause-same : goal.returns-in_ok-lexeme-in-Lexeme-clause-same
returns-in_ok-lexeme-in-Lexeme-clause-same g c =
    let w = ways_of c.args.setting.now in
    let term = g.T.Tree.term c.args.tree.now in
    let old = c.args.written.now in
    let ps = fragments term w (reverse c.args.stack.now.items) in
    front-fragment old.front.limit old.front.bytes c.lexeme.new.self.front.bytes old.edge c.lexeme.new.self.edge
    (fragment_of w c.in-Lexeme.lexeme) ps
    c.in_ok-lexeme-in-Lexeme.ensures.bytes c.in_ok-lexeme-in-Lexeme.ensures.edge
    ∙ ap (λ i. front_of old.front.limit (old.front.bytes ++ spaced old.edge (fragments_of term w i ++ ps))) (sym c.in-Lexeme.is)
