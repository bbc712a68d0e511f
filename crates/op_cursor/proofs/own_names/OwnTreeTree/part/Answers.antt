use Rattle.std.proofs.Common.{◌<◌, length, sym, ◌∙◌, ap, subst, arith}
use Rattle.op_logic.specs.Term.{args_of, arity, rename}
use Rattle.op_logic.specs.Names.{HasNames}
use Rattle.op_term.specs.Places.{term_at}
use Rattle.op_cursor.specs.inner.OwnNames.{own_number, AreOwn}
use Rattle.op_cursor.proofs.EventParts.{part-names}
use Rattle.op_cursor.proofs.OwnTables.{arity-renamed, nth-renamed, part-own}
use Rattle.op_cursor.proofs.own_names.OwnTreeTree.part.Goals as goal

pub part-requires-clause-there : goal.part-requires-clause-there
part-requires-clause-there c =
    omega (
      arith,
      c.requires.there,
      arity-renamed (own_number c.args.self.now.symbols.now c.args.self.now.own.now)
          (term_at c.args.self.now.whole.now.terms c.args.at.now),
    )

pub returns-clause-place : goal.returns-clause-place
returns-clause-place c =
    let names = c.args.self.now.symbols.now in
    let own = c.args.self.now.own.now in
    let t = term_at c.args.self.now.whole.now.terms c.args.at.now in (
      c.part.ensures.place,
      subst (HasNames (length names)) (sym c.part.ensures.value) (part-names (length names) t c.args.i c.requires.place.1),
      subst (AreOwn names own) (sym c.part.ensures.value) (part-own names own t c.args.i c.requires.place.2),
    )

pub returns-clause-value : goal.returns-clause-value
returns-clause-value c =
    let g = own_number c.args.self.now.symbols.now c.args.self.now.own.now in
    let t = term_at c.args.self.now.whole.now.terms c.args.at.now in
    let l : c.args.i < arity (args_of t) = omega (arith, c.requires.there, arity-renamed g t) in
    ap (rename g) c.part.ensures.value ∙ sym (nth-renamed g t c.args.i l)
