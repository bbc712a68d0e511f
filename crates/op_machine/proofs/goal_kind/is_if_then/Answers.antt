use Rattle.std.proofs.Common.{ap, ◌∙◌, sym}
use Rattle.op_logic.specs.Term.{args_of, node, arity}
use Rattle.op_logic.specs.Names.{IsTable}
use Rattle.op_store.specs.Stored.{Stored}
use Rattle.op_term.proofs.Heads.{head-struct}
use Rattle.op_machine.proofs.ControlLaws.{on-true, on-false, name-of, if_then-disjunction, other-disjunction}
use Rattle.op_machine.proofs.goal_kind.is_if_then.Goals as goal

pub returns-in-Struct-clause-yes : goal.returns-in-Struct-clause-yes
returns-in-Struct-clause-yes c =
    on-true c.is_arrow.result c.is_arrow.ensures.yes
    (λ q g e. let h = head-struct g c.in-Struct.name c.in-Struct.arity (e ∙ c.in-Struct.is) in h.1 ∙ q.1)

pub returns-in-Struct-clause-condition : goal.returns-in-Struct-clause-condition
returns-in-Struct-clause-condition c =
    let t : Stored = c.args.store.now in
    let table : IsTable t.names = c.names_law.ensures.table in
    on-true c.is_arrow.result c.is_arrow.ensures.yes
    (λ q g e b.
    let h = head-struct g c.in-Struct.name c.in-Struct.arity (e ∙ c.in-Struct.is) in
    if_then-disjunction t table c.names_law.ensures.begins g b (h.0 ∙ ap (λ f. node f (args_of g)) q.0) (h.1 ∙ q.1))

pub returns-in-Struct-clause-no : goal.returns-in-Struct-clause-no
returns-in-Struct-clause-no c =
    let t : Stored = c.args.store.now in
    let table : IsTable t.names = c.names_law.ensures.table in
    on-false c.is_arrow.result c.is_arrow.ensures.no
    (λ q g e b.
    let h = head-struct g c.in-Struct.name c.in-Struct.arity (e ∙ c.in-Struct.is) in
    other-disjunction t table c.names_law.ensures.begins g b
    (λ ts same two. q (name-of c.in-Struct.name.0 5 (args_of g) ts (sym h.0 ∙ same)) (sym h.1 ∙ (ap (λ x. arity (args_of x)) same ∙ two))))
