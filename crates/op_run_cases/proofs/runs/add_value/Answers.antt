use Rattle.std.proofs.Common.{ℕ, length, sym, ◌∙◌, subst}
use Rattle.op_logic.specs.Term.{Term}
use Rattle.op_logic.specs.Names.{HasNames}
use Rattle.op_bind.specs.State.{value_of}
use Rattle.op_term.proofs.Heads.{head-atom, head-struct}
use Rattle.op_run_cases.proofs.runs.add_value.Goals as goal

pub name_of-requires : goal.name_of-requires
name_of-requires c =
    let n : ℕ = length c.args.symbols.now in
    let P : Term ℕ → Type 0 = λ t. HasNames n t in
    (subst P (head-atom (value_of c.args.bindings.now c.args.value.now) c.in-Atom.name (sym c.head_of.ensures
    ∙ c.in-Atom.is)) c.requires.names).0

pub name_of-requires-in-Struct : goal.name_of-requires-in-Struct
name_of-requires-in-Struct c =
    let n : ℕ = length c.args.symbols.now in
    let P : Term ℕ → Type 0 = λ t. HasNames n t in
    (subst P (head-struct (value_of c.args.bindings.now c.args.value.now) c.in-Struct.name _ (sym c.head_of.ensures
    ∙ c.in-Struct.is)).0 c.requires.names).0
