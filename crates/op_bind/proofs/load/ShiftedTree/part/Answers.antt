use Rattle.std.proofs.Common.{◌<◌, ◌^◌, ℕ, sym, ap, ◌∙◌, subst, arith}
use Rattle.op_logic.specs.Term.{Term, IsWithin, shift, args_of, arity}
use Rattle.op_term.specs.Places.{term_at}
use Rattle.op_bind.proofs.LoadedTerms.{arity-of-shift, part-of-shift, part-within}
use Rattle.op_bind.proofs.load.ShiftedTree.part.Goals as goal

pub part-requires-clause-there : goal.part-requires-clause-there
part-requires-clause-there c =
    let t = term_at c.args.self.now.whole.terms c.args.at.now in
    omega (arith, c.requires.there, arity-of-shift c.args.self.now.first t)

pub returns-clause-place : goal.returns-clause-place
returns-clause-place c =
    let first = c.args.self.now.first in
    let t = term_at c.args.self.now.whole.terms c.args.at.now in
    let l : c.args.i < arity (args_of t) = omega (arith, c.requires.there, arity-of-shift first t) in
    let e = part-of-shift first t c.args.i l ∙ ap (shift first) (sym c.part.ensures.value) in (
      c.part.ensures.place,
      subst (λ (u : Term ℕ). IsWithin (2 ^ 64) u) e (part-within (2 ^ 64) (shift first t) c.args.i c.requires.there c.requires.place.1),
    )

pub returns-clause-value : goal.returns-clause-value
returns-clause-value c =
    let first = c.args.self.now.first in
    let t = term_at c.args.self.now.whole.terms c.args.at.now in
    let l : c.args.i < arity (args_of t) = omega (arith, c.requires.there, arity-of-shift first t) in
    ap (shift first) c.part.ensures.value ∙ sym (part-of-shift first t c.args.i l)
