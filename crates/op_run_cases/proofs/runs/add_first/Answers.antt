use Rattle.op_term.specs.Places.{term_at}
use Rattle.std.proofs.Common.{sym, ◌∙◌}
use Rattle.op_term.proofs.Heads.{head-struct}
use Rattle.op_run_cases.proofs.runs.add_first.Goals as goal

pub argument-requires-clause-within : goal.argument-requires-clause-within
argument-requires-clause-within c =
    (head-struct (term_at c.args.bindings.now.terms c.args.goal.now) _ _ (sym c.outline.ensures ∙ c.in-Struct.is)).2
