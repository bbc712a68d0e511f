use Rattle.std.proofs.Common.{ap, ◌∙◌}
use Rattle.std.specs.Prelude.{not}
use Rattle.op_logic.specs.Names.{named}
use Rattle.op_store.proofs.DirectiveLaws.{indicate-goes, indicate-refused}
use Rattle.op_store.proofs.loading.indicator.all_indicate.Goals as goal

pub returns-then-is_none : goal.returns-then-is_none
returns-then-is_none g c = λ w.
    c.entries.invariant w ∙ indicate-refused (λ p. named c.args.symbols.now (g.T.Tree.term c.args.tree.now p)) c.args.symbols.now w
    c.args.entries.now c.entries.entry-index c.entry-item.result c.indicator_of.result
    c.entries-test.true c.entry-item.is c.indicator_of.ensures.indicator (c.is_none.ensures ∙ ap not c.if-is_none.true)

pub entries-preserved : goal.entries-preserved
entries-preserved g c = λ w.
    c.entries.invariant w ∙ indicate-goes (λ p. named c.args.symbols.now (g.T.Tree.term c.args.tree.now p)) c.args.symbols.now w
    c.args.entries.now c.entries.entry-index c.entry-item.result c.indicator_of.result
    c.entries-test.true c.entry-item.is c.indicator_of.ensures.indicator (c.is_none.ensures ∙ ap not c.if-is_none.false)
