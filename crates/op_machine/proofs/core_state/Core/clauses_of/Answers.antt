use Rattle.std.proofs.Common.{sym, ◌∙◌}
use Rattle.op_term.specs.Places.{term_at}
use Rattle.op_machine.specs.declared.core_state.Core.{Core}
use Rattle.op_machine.proofs.ProcedureOf.{inside-found, inside-none}
use Rattle.op_machine.proofs.core_state.Core.clauses_of.Goals as goal

pub returns-in_ok-snapshot-in-Some-clause-inside : goal.returns-in_ok-snapshot-in-Some-clause-inside
returns-in_ok-snapshot-in-Some-clause-inside c =
    let old : Core = c.args.self.now in
    let t = term_at old.bindings.terms c.args.goal in
    inside-found old.store t c.in_ok-snapshot-in-Some.field-0
    (c.in_ok-snapshot-in-Some.ensures.procedure t (sym (c.pi_of.ensures t (sym c.outline.ensures)) ∙ c.in-Some.is))

pub returns-in-None-clause-inside : goal.returns-in-None-clause-inside
returns-in-None-clause-inside c =
    let old : Core = c.args.self.now in
    let t = term_at old.bindings.terms c.args.goal in
    inside-none old.store t (sym (c.pi_of.ensures t (sym c.outline.ensures)) ∙ c.in-None.is)
