use Rattle.std.proofs.Common.{◌≡◌, ◌<◌, length, map, All}
use Rattle.op_logic.specs.Term.{args_of}
use Rattle.op_term.specs.Places.{term_at}
use Rattle.op_machine.proofs.AddedArguments.{arguments_between}
use Rattle.op_machine.proofs.inspection.arguments_of.Given as goal

abbrev pub invariant-loop-i : goal.invariant-loop-i
invariant-loop-i l = record {
  there : All (λ r. r < length l.bindings.terms) l.args.items;
  terms : map (term_at l.bindings.terms) l.args.items ≡ arguments_between 0 l.i (args_of (term_at l.bindings.terms l.goal));
}
