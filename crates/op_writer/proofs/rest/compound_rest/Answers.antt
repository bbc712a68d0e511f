use Rattle.std.proofs.Common.{ℕ, List, ◌∙◌, ap}
use Rattle.op_writer.specs.Text.{notation_of}
use Rattle.op_writer.specs.inner.Stack.{ways_of}
use Rattle.op_writer.proofs.CompoundForms.{barred-struct}
use Rattle.op_writer.proofs.rest.compound_rest.Goals as goal

pub barred-requires : goal.barred-requires
barred-requires g c =
    let w = ways_of c.args.setting.now in
    let t = g.T.Tree.term c.args.tree.now c.args.at.now in
    record {
      place = c.requires.place;
      barred = barred-struct w t c.args.name c.args.n c.requires.node
          (λ e. c.in_default.not-List (c.of.ensures.value ∙ (ap (λ (x : List ℕ). notation_of w.ops w.style x c.args.n) c.name_of.ensures
          ∙ e)));
      good = c.requires.good;
    }
