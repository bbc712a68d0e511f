use Rattle.std.proofs.Common.{◌≡◌, ◌<◌, ap, ◌∙◌, arith}
use Rattle.op_logic.specs.Term.{args_of, arity}
use Rattle.op_term.specs.Arguments.{argument_count}
use Rattle.op_term.specs.Places.{term_at}
use Rattle.op_term.proofs.ArgumentLists.{count-head}
use Rattle.op_machine.specs.declared.core_state.Core.{Core}
use Rattle.op_machine.proofs.AddedArguments.{adds-none}
use Rattle.op_machine.proofs.core_state.Core.make_goal.Goals as goal

pub returns-then-added-lt2-clause-value : goal.returns-then-added-lt2-clause-value
returns-then-added-lt2-clause-value c =
    let old : Core = c.args.self.now in
    let g = term_at old.bindings.terms c.args.goal in
    let count : c.arity-added.result ≡ arity (args_of g) = c.arity-added.ensures ∙ (ap argument_count c.outline.ensures ∙ count-head g) in
    let few : arity (args_of g) < 2 = omega (arith, c.if-added-lt2.true, count) in
    adds-none old.store g (term_at old.bindings.terms c.args.argument) few
