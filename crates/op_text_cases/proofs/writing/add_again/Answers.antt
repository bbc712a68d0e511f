use Rattle.std.proofs.Common.{◌≡◌, ℕ, subst, arith}
use Rattle.op_logic.specs.Term.{IsWithin}
use Rattle.op_text_cases.proofs.writing.add_again.Goals as goal

pub written_and_read-requires-clause-closed : goal.written_and_read-requires-clause-closed
written_and_read-requires-clause-closed c =
    let none : c.args.read.now.vars ≡ 0 = omega arith in
    subst (λ (n : ℕ). IsWithin n c.args.read.now.term) none c.requires.variables.within
