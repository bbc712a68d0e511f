use Rattle.std.proofs.Common.{◌∷◌, length, IfOk, sym, subst, arith}
use Rattle.op_machine.specs.declared.continuations.Item.{Item}
use Rattle.op_machine.specs.declared.core_state.Core.{Core}
use Rattle.op_machine.specs.Meaning.{setup_of, world_in, level_in, items_now, bindings_now, choice_points_in, item_term}
use Rattle.op_machine.specs.Resume.{Forward, move}
use Rattle.op_machine.specs.inner.Moves.{Advances, Proceeds}
use Rattle.op_machine.specs.inner.Invariant.{IsItem}
use Rattle.op_machine.proofs.ProgramLaws.{answer_proceeds}
use Rattle.op_machine.proofs.core_state.Core.perform.Goals as goal

pub run_part-requires-clause-argument : goal.run_part-requires-clause-argument
run_part-requires-clause-argument c =
    let old : Core = c.args.self.now in
    omega (arith, (subst (IsItem (length old.store.names) old.bindings.terms) c.in-Recover.is c.requires.item).1)

pub returns-in-Recover-clause-advances : goal.returns-in-Recover-clause-advances
returns-in-Recover-clause-advances c =
    let old : Core = c.args.self.now in
    let new : Core = c.run_part.new.self in
    let advances : Item → Type 0 = λ i.
    IfOk c.run_part.result (Advances old new (move (setup_of old) (Forward (item_term old.store (level_in old) i
    ∷ items_now old c.args.rest) (choice_points_in old) (bindings_now old) (world_in old)))) in
    answer_proceeds old new _ c.run_part.result (subst advances (sym c.in-Recover.is) c.run_part.ensures.advances)

pub returns-in-Execute-clause-advances : goal.returns-in-Execute-clause-advances
returns-in-Execute-clause-advances c =
    let old : Core = c.args.self.now in
    let new : Core = c.execute_goal.new.self in
    let advances : Item → Type 0 = λ i.
    IfOk c.execute_goal.result (Proceeds old new (move (setup_of old) (Forward (item_term old.store (level_in old) i
    ∷ items_now old c.args.rest) (choice_points_in old) (bindings_now old) (world_in old)))) in
    subst advances (sym c.in-Execute.is) c.execute_goal.ensures.advances
