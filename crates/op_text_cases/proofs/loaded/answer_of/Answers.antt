use Rattle.std.proofs.Common.{◌≡◌, ◌∙◌, sym, arith}
use Rattle.op_term.specs.Places.{term_at}
use Rattle.op_term.proofs.Heads.{head-struct}
use Rattle.op_text_cases.proofs.loaded.answer_of.Goals as goal

pub argument-left-requires-clause-within : goal.argument-left-requires-clause-within
argument-left-requires-clause-within c =
    (head-struct (term_at c.args.bindings.now.terms c.args.equation.now) _ _ (sym c.outline.ensures ∙ c.in-Struct-default-eq2.is)).2

pub argument-right-requires-clause-within : goal.argument-right-requires-clause-within
argument-right-requires-clause-within c =
    omega (
      arith,
      (head-struct (term_at c.args.bindings.now.terms c.args.equation.now) _ _ (sym c.outline.ensures
          ∙ c.in-Struct-default-eq2.is)).1,
    )
