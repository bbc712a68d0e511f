use Rattle.std.proofs.Common.{sym, subst}
use Rattle.op_term.specs.Places.{term_at}
use Rattle.op_machine.specs.declared.builtin_kind.Builtin.TheVariants as builtin
use Rattle.op_machine.specs.declared.core_state.Core.{Core}
use Rattle.op_machine.specs.declared.core_state.Step.TheVariants as step
use Rattle.op_machine.specs.inner.BuiltinKinds.{HasArgument}
use Rattle.op_machine.proofs.ExecutedGoals.{act-proceeds, same-proceeds, goal-proceeds, executed-kind, fails-advances}
use Rattle.op_machine.proofs.core_state.Core.execute_goal.Goals as goal

pub returns-in-Run-clause-advances : goal.returns-in-Run-clause-advances
returns-in-Run-clause-advances c =
    let old : Core = c.args.self.now in
    act-proceeds old c.run_argument.new.self _ _ c.args.call c.args.goal c.args.rest c.run_argument.result
    (executed-kind old c.builtin_of.result (builtin.Run c.in-Run.around) c.args.goal
    (c.builtin_of.ensures.act (term_at old.bindings.terms c.args.goal) (sym c.outline.ensures)) c.in-Run.is) c.run_argument.ensures.advances

pub run_argument-requires-clause-argument : goal.run_argument-requires-clause-argument
run_argument-requires-clause-argument c =
    let old : Core = c.args.self.now in
    c.builtin_of.ensures.argument (term_at old.bindings.terms c.args.goal) (sym c.outline.ensures)
    (subst HasArgument (sym c.in-Run.is) tt)

pub returns-in-Catch-clause-advances : goal.returns-in-Catch-clause-advances
returns-in-Catch-clause-advances c =
    let old : Core = c.args.self.now in
    act-proceeds old c.run_part.new.self _ _ c.args.call c.args.goal c.args.rest c.run_part.result
    (executed-kind old c.builtin_of.result builtin.Catch c.args.goal
    (c.builtin_of.ensures.act (term_at old.bindings.terms c.args.goal) (sym c.outline.ensures)) c.in-Catch.is)
    c.run_part.ensures.advances

pub run_part-requires-clause-argument : goal.run_part-requires-clause-argument
run_part-requires-clause-argument c =
    let old : Core = c.args.self.now in
    c.builtin_of.ensures.argument (term_at old.bindings.terms c.args.goal) (sym c.outline.ensures)
    (subst HasArgument (sym c.in-Catch.is) tt)

pub returns-in-Throw-clause-advances : goal.returns-in-Throw-clause-advances
returns-in-Throw-clause-advances c =
    let old : Core = c.args.self.now in
    act-proceeds old c.throw_argument.new.self _ _ c.args.call c.args.goal c.args.rest c.throw_argument.result
    (executed-kind old c.builtin_of.result builtin.Throw c.args.goal
    (c.builtin_of.ensures.act (term_at old.bindings.terms c.args.goal) (sym c.outline.ensures)) c.in-Throw.is)
    c.throw_argument.ensures.advances

pub throw_argument-requires-clause-argument : goal.throw_argument-requires-clause-argument
throw_argument-requires-clause-argument c =
    let old : Core = c.args.self.now in
    c.builtin_of.ensures.argument (term_at old.bindings.terms c.args.goal) (sym c.outline.ensures)
    (subst HasArgument (sym c.in-Throw.is) tt)

pub returns-in-Halt-clause-advances : goal.returns-in-Halt-clause-advances
returns-in-Halt-clause-advances c =
    let old : Core = c.args.self.now in
    same-proceeds old c.halt.new.self _ _ c.args.call c.args.goal c.args.rest c.halt.result
    (executed-kind old c.builtin_of.result builtin.Halt c.args.goal
    (c.builtin_of.ensures.act (term_at old.bindings.terms c.args.goal) (sym c.outline.ensures)) c.in-Halt.is)
    (c.halt.ensures.advances c.args.call c.args.goal c.args.rest)

pub returns-in-HaltWith-clause-advances : goal.returns-in-HaltWith-clause-advances
returns-in-HaltWith-clause-advances c =
    let old : Core = c.args.self.now in
    act-proceeds old c.halt_with.new.self _ _ c.args.call c.args.goal c.args.rest c.halt_with.result
    (executed-kind old c.builtin_of.result builtin.HaltWith c.args.goal
    (c.builtin_of.ensures.act (term_at old.bindings.terms c.args.goal) (sym c.outline.ensures)) c.in-HaltWith.is)
    c.halt_with.ensures.advances

pub halt_with-requires-clause-argument : goal.halt_with-requires-clause-argument
halt_with-requires-clause-argument c =
    let old : Core = c.args.self.now in
    c.builtin_of.ensures.argument (term_at old.bindings.terms c.args.goal) (sym c.outline.ensures)
    (subst HasArgument (sym c.in-HaltWith.is) tt)

pub returns-in-Unknown-clause-advances : goal.returns-in-Unknown-clause-advances
returns-in-Unknown-clause-advances c =
    let old : Core = c.args.self.now in
    act-proceeds old c.meet_unknown.new.self _ _ c.args.call c.args.goal c.args.rest c.meet_unknown.result
    (executed-kind old c.builtin_of.result (builtin.Unknown c.in-Unknown.name c.in-Unknown.arity) c.args.goal
    (c.builtin_of.ensures.act (term_at old.bindings.terms c.args.goal) (sym c.outline.ensures)) c.in-Unknown.is)
    c.meet_unknown.ensures.advances

pub meet_unknown-requires-clause-name : goal.meet_unknown-requires-clause-name
meet_unknown-requires-clause-name c =
    let old : Core = c.args.self.now in
    c.builtin_of.ensures.known (term_at old.bindings.terms c.args.goal) c.in-Unknown.name c.in-Unknown.arity (sym c.outline.ensures)
    c.requires.goal.1 c.in-Unknown.is

pub returns-in-NoGoal-clause-advances : goal.returns-in-NoGoal-clause-advances
returns-in-NoGoal-clause-advances c =
    let old : Core = c.args.self.now in
    same-proceeds old _ _ _ c.args.call c.args.goal c.args.rest step.Silent
    (executed-kind old c.builtin_of.result builtin.NoGoal c.args.goal
    (c.builtin_of.ensures.act (term_at old.bindings.terms c.args.goal) (sym c.outline.ensures)) c.in-NoGoal.is)
    (fails-advances old c.args.call c.args.goal c.args.rest c.requires.good c.requires.steps)

pub builtin_of-requires : goal.builtin_of-requires
builtin_of-requires c = (term_at c.args.self.now.bindings.terms c.args.goal, sym c.outline.ensures, c.requires.goal.1)

pub returns-in-OnTerms-clause-advances : goal.returns-in-OnTerms-clause-advances
returns-in-OnTerms-clause-advances c =
    let old : Core = c.args.self.now in
    goal-proceeds old c.inspect_goal.new.self _ _ c.args.call c.args.goal c.args.rest c.inspect_goal.result
    (executed-kind old c.builtin_of.result (builtin.OnTerms c.in-OnTerms.name c.in-OnTerms.count) c.args.goal
    (c.builtin_of.ensures.act (term_at old.bindings.terms c.args.goal) (sym c.outline.ensures)) c.in-OnTerms.is)
    c.inspect_goal.ensures.advances

pub inspect_goal-requires-clause-builtin : goal.inspect_goal-requires-clause-builtin
inspect_goal-requires-clause-builtin c =
    let old : Core = c.args.self.now in
    c.builtin_of.ensures.terms (term_at old.bindings.terms c.args.goal) c.in-OnTerms.name c.in-OnTerms.count (sym c.outline.ensures) c.in-OnTerms.is
