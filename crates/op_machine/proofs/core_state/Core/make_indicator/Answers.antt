use Rattle.std.proofs.Common.{◌≡◌, pos, codes, w64, SFits, sym, ap, ◌∙◌, subst, arith}
use Rattle.std.proofs.lemmas.Int.{to_z-of_z}
use Rattle.std.proofs.lemmas.Result.{IfOk-weaker, OkIff-at_ok}
use Rattle.op_logic.specs.Term.{int, atom}
use Rattle.op_logic.specs.Names.{name_at}
use Rattle.op_machine.specs.declared.core_state.Core.{Core}
use Rattle.op_machine.specs.Meaning.{goal_now}
use Rattle.op_machine.specs.inner.Moves.{Makes}
use Rattle.op_machine.proofs.ControlLaws.{first-name}
use Rattle.op_machine.proofs.MadeJoins.{first-there, makes-joins, made-goal, made-name, made-name_at, pair-same}
use Rattle.op_machine.proofs.core_state.Core.make_indicator.Goals as goal

pub make_pair-requires-clause-name : goal.make_pair-requires-clause-name
make_pair-requires-clause-name c =
    let old : Core = c.args.self.now in
    let one = c.in_ok-name in
    let two = c.in_ok-count in
    made-name c.make_atom.new.self c.make_integer.new.self two.count two.ensures.made 21
    (made-name old c.make_atom.new.self one.name one.ensures.made 21
    (first-there old.store.names 21 c.names_law.ensures.begins (omega arith)))

pub returns-clause-made : goal.returns-clause-made
returns-clause-made c =
    let old : Core = c.args.self.now in
    let named : Core = c.make_atom.new.self in
    let counted : Core = c.make_integer.new.self in
    let new : Core = c.make_pair.new.self in
    let both = makes-joins old named counted c.in_ok-name.name c.in_ok-count.count c.in_ok-name.ensures.made c.in_ok-count.ensures.made in
    IfOk-weaker c.make_pair.result (Makes counted new) (Makes old new)
    (λ r m. makes-joins old counted new c.in_ok-count.count r both m) c.make_pair.ensures.made

pub returns-clause-value : goal.returns-clause-value
returns-clause-value c =
    let old : Core = c.args.self.now in
    let named : Core = c.make_atom.new.self in
    let counted : Core = c.make_integer.new.self in
    let one = c.in_ok-name.ensures.made in
    let two = c.in_ok-count.ensures.made in
    let name = c.in_ok-name.name in
    let count = c.in_ok-count.count in
    let slash : name_at counted.store.names 21 ≡ codes "/" =
    made-name_at named counted count two 21 ∙ (made-name_at old named name one 21
    ∙ first-name old.store.names 21 c.names_law.ensures.begins (omega arith)) in
    let is_name : goal_now counted name ≡ atom (name_at old.store.names c.args.name.0) =
    made-goal named counted count two name one.there ∙ c.in_ok-name.ensures.value in
    let number : SFits w64 (pos c.args.arity) × (c.in-Ok.number ≡ pos c.args.arity) =
    OkIff-at_ok c.try_from.result (SFits w64 (pos c.args.arity)) (pos c.args.arity) c.in-Ok.number c.try_from.ensures c.in-Ok.is in
    let same = to_z-of_z w64 c.in-Ok.number (subst (SFits w64) (sym number.1) number.0) in
    let is_count : goal_now counted count ≡ int (pos c.args.arity) = c.in_ok-count.ensures.value ∙ ap int (same ∙ number.1) in
    IfOk-weaker c.make_pair.result _ _
    (λ r e. e ∙ pair-same (name_at counted.store.names 21) (codes "/") (goal_now counted name) (atom (name_at old.store.names
    c.args.name.0))
    (goal_now counted count) (int (pos c.args.arity)) slash is_name is_count) c.make_pair.ensures.value
