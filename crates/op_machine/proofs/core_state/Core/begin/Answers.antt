use Rattle.std.proofs.Common.{length, refl}
use Rattle.op_machine.specs.declared.core_state.Core.{Core}
use Rattle.op_machine.specs.declared.start.Parts.{Parts}
use Rattle.op_machine.proofs.StartLaws.{core_of, first-core, first-begun, first-sound}
use Rattle.op_machine.proofs.core_state.Core.begin.Goals as goal

pub returns-clause-begun : goal.returns-clause-begun
returns-clause-begun c =
    let p : Parts = c.in_ok-parts.parts in
    let core : Core = core_of c.args.store c.new.result p c.args.budget c.args.wanted in
    first-begun core c.args.goal.now p.body (length c.args.store.names) c.args.budget c.args.wanted c.requires.goal
    (first-core c.args.store c.new.result p c.args.goal.now c.args.budget c.args.wanted c.in_ok-parts.ensures c.new.ensures.choices
    c.new.ensures.boxes) refl refl

pub returns-clause-sound : goal.returns-clause-sound
returns-clause-sound c =
    let p : Parts = c.in_ok-parts.parts in
    let core : Core = core_of c.args.store c.new.result p c.args.budget c.args.wanted in
    first-sound core c.args.goal.now p.body c.requires.goal
    (first-core c.args.store c.new.result p c.args.goal.now c.args.budget c.args.wanted c.in_ok-parts.ensures c.new.ensures.choices
    c.new.ensures.boxes) c.requires.limit
