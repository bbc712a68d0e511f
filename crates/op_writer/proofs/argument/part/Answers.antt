use Rattle.std.proofs.Common.{ℕ, length, sym, subst}
use Rattle.op_logic.specs.Term.{Term}
use Rattle.op_logic.specs.Names.{HasNames}
use Rattle.op_writer.proofs.TermArguments.{names-part}
use Rattle.op_writer.proofs.argument.part.Goals as goal

pub returns-clause-place : goal.returns-clause-place
returns-clause-place g c =
    let n = length c.args.setting.now.symbols.now in (
      c.part.ensures.place,
      subst (λ (t : Term ℕ). HasNames n t) (sym c.part.ensures.value)
          (names-part n (g.T.Tree.term c.args.tree.now c.args.at.now) c.args.i c.requires.place.1 c.requires.there),
    )
