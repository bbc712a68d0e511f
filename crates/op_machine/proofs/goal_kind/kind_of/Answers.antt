use Rattle.std.proofs.Common.{◌≡◌, ℕ, sym, ap, ◌∙◌, subst}
use Rattle.op_logic.specs.Term.{Term, args_of}
use Rattle.op_logic.specs.Names.{IsTable}
use Rattle.op_store.specs.Stored.{Stored}
use Rattle.op_trace.specs.Visit.{control}
use Rattle.op_machine.specs.declared.goal_kind.GoalKind.{GoalKind}
use Rattle.op_machine.specs.Program.{goal_named}
use Rattle.op_machine.specs.inner.GoalKinds.{control_of_kind}
use Rattle.op_term.proofs.Heads.{head-atom, head-struct}
use Rattle.op_machine.proofs.ControlLaws.{atom-control, struct-control, no-pair}
use Rattle.op_machine.proofs.goal_kind.kind_of.Goals as goal

pub returns-in-Atom-clause-control : goal.returns-in-Atom-clause-control
returns-in-Atom-clause-control c =
    λ g e.
    let t : Stored = c.args.store.now in
    let k : GoalKind = c.atom_kind.result in
    let table : IsTable t.names = c.names_law.ensures.table in
    ap (λ (x : Term ℕ). control (goal_named t x)) (head-atom g c.in-Atom.name (e ∙ c.in-Atom.is))
    ∙ atom-control t table c.names_law.ensures.begins g c.in-Atom.name.0 k c.atom_kind.ensures.true_name c.atom_kind.ensures.fail_name
    c.atom_kind.ensures.false_name c.atom_kind.ensures.cut_name c.atom_kind.ensures.other

pub returns-in-Atom-clause-two : goal.returns-in-Atom-clause-two
returns-in-Atom-clause-two c =
    λ g e pair.
    no-pair c.in-Atom.name.0 c.atom_kind.result pair c.atom_kind.ensures.true_name c.atom_kind.ensures.fail_name
    c.atom_kind.ensures.false_name c.atom_kind.ensures.cut_name c.atom_kind.ensures.other

pub returns-in-Struct-clause-control : goal.returns-in-Struct-clause-control
returns-in-Struct-clause-control c =
    λ g e.
    let t : Stored = c.args.store.now in
    let k : GoalKind = c.struct_kind.result in
    let table : IsTable t.names = c.names_law.ensures.table in
    let h = head-struct g c.in-Struct.name c.in-Struct.arity (e ∙ c.in-Struct.is) in
    subst (λ (x : Term ℕ). control (goal_named t x) ≡ control_of_kind t x k) (sym h.0)
    (struct-control t table c.names_law.ensures.begins c.in-Struct.name.0 (args_of g) k h.2
    (λ a b. c.struct_kind.ensures.conjunction a (sym h.1 ∙ b)) (λ a b. c.struct_kind.ensures.disjunction a (sym h.1 ∙ b))
    (λ a b. c.struct_kind.ensures.if_then a (sym h.1 ∙ b))
    c.struct_kind.ensures.other (λ no. c.struct_kind.ensures.long (λ a. no (h.1 ∙ a))))

pub returns-in-Struct-clause-two : goal.returns-in-Struct-clause-two
returns-in-Struct-clause-two c =
    λ g e pair.
    (head-struct g c.in-Struct.name c.in-Struct.arity (e ∙ c.in-Struct.is)).1 ∙ c.struct_kind.ensures.two pair
