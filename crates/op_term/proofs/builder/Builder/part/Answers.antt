use Rattle.std.proofs.Common.{◌<◌, length, sym, ◌∙◌, ap, arith}
use Rattle.op_logic.specs.Term.{nth_arg, arity}
use Rattle.op_term.specs.Places.{term_at}
use Rattle.op_term.proofs.BuilderCalls.{arity-at, nth-at}
use Rattle.op_term.proofs.builder.Builder.part.Goals as goal

pub number_at-requires : goal.number_at-requires
number_at-requires c =
    omega (arith, c.requires.there, ap arity c.parts.ensures.value, arity-at c.args.self.now c.parts.result.now)

pub returns-clause-below : goal.returns-clause-below
returns-clause-below c =
    let l : c.args.i < length c.parts.result.now =
    omega (arith, c.requires.there, ap arity c.parts.ensures.value, arity-at c.args.self.now c.parts.result.now) in
    omega (arith, c.number_at.ensures, c.parts.ensures.below c.args.i 0 l)

pub returns-clause-value : goal.returns-clause-value
returns-clause-value c =
    let l : c.args.i < length c.parts.result.now =
    omega (arith, c.requires.there, ap arity c.parts.ensures.value, arity-at c.args.self.now c.parts.result.now) in
    ap (term_at c.args.self.now) c.number_at.ensures
    ∙ (sym (nth-at c.args.self.now c.parts.result.now c.args.i l) ∙ ap (λ a. nth_arg a c.args.i) c.parts.ensures.value)
