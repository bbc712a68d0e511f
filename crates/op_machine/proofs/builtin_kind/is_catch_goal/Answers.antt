use Rattle.std.proofs.Common.{◌∙◌}
use Rattle.op_term.proofs.Heads.{head-struct}
use Rattle.op_machine.proofs.BuiltinLaws.{catch-decided}
use Rattle.op_machine.proofs.ControlLaws.{on-true}
use Rattle.op_machine.proofs.builtin_kind.is_catch_goal.Goals as goal

pub returns-in-Struct-clause-catch : goal.returns-in-Struct-clause-catch
returns-in-Struct-clause-catch c =
    λ g e.
    let h = head-struct g c.in-Struct.name c.in-Struct.arity (e ∙ c.in-Struct.is) in
    catch-decided c.args.store.now c.names_law.ensures.table c.names_law.ensures.begins c.is_catch_name.result c.in-Struct.name.0
    c.in-Struct.arity g c.is_catch_name.ensures.yes c.is_catch_name.ensures.no h.0 h.1

pub returns-in-Struct-clause-three : goal.returns-in-Struct-clause-three
returns-in-Struct-clause-three c =
    on-true c.is_catch_name.result c.is_catch_name.ensures.yes
    (λ q g e. let h = head-struct g c.in-Struct.name c.in-Struct.arity (e ∙ c.in-Struct.is) in h.1 ∙ q.1)
