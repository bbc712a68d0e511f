use Rattle.std.proofs.Common.{ℕ, List, ◌++◌, ◌∙◌, ap, sym}
use Rattle.op_logic.specs.Names.{named}
use Rattle.op_writer.specs.declared.bound.Bound.{Bound}
use Rattle.op_writer.specs.declared.style.Style.TheVariants.{Quoted}
use Rattle.op_writer.specs.Cut.{cut}
use Rattle.op_writer.specs.Text.{text_in}
use Rattle.op_writer.proofs.CutTexts.{cut-front}
use Rattle.op_writer.proofs.text.write_cut.Goals as goal

pub returns-clause-ok : goal.returns-clause-ok
returns-clause-ok g c =
    let t = named c.args.symbols.now (g.T.Tree.term c.args.tree.now c.args.at.now) in
    let whole = text_in c.args.ops.now Quoted c.of-bound.result t in
    let same = cut-front c.in_ok-text.text whole c.in_ok-text.ensures in
    c.in_ok-add_cut.ensures.ok
    ∙ ap (λ (x : List ℕ). c.args.out.now ++ x)
    (ap cut c.as_slice.ensures ∙ (sym same ∙ ap (λ (b : Bound). cut (text_in c.args.ops.now Quoted b t)) c.of-bound.ensures))
