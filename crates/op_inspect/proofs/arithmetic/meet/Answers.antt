use Rattle.std.proofs.Common.{length, sym, ap, ◌∙◌, rules}
use Rattle.std.proofs.lemmas.Int.{to_z-of_z}
use Rattle.std.specs.Prelude.{ℤ, Ok, FitsSigned}
use Rattle.std.specs.Int.{w64}
use Rattle.op_bind.specs.State.{value_of}
use Rattle.op_inspect.specs.Arithmetic.{instantiation, add_nodes}
use Rattle.op_inspect.specs.inner.Pending.{all_resumed}
use Rattle.op_inspect.proofs.MetNodes.{unbound-not-spent, evaluable-not-spent, met-variable, met-integer, met-atom, met-many, known-atom}
use Rattle.op_inspect.proofs.MetNodes.{known-struct}
use Rattle.op_inspect.proofs.PendingFunctions.{resumed-add, resumed-ends}
use Rattle.op_inspect.proofs.arithmetic.meet.Goals as goal

pub returns-in-Var-clause-goes : goal.returns-in-Var-clause-goes
returns-in-Var-clause-goes c =
    let s = c.args.bindings.now in
    let names = c.args.symbols.now in
    let ps = c.args.pending.now.items in (
      unbound-not-spent,
      tt,
      ap (all_resumed names s ps) (met-variable names (value_of s c.args.at.now) c.in-Var.field-0 c.in-Var.ensures)
          ∙ resumed-ends names s ps instantiation 1,
    )

pub returns-in-Int-clause-goes : goal.returns-in-Int-clause-goes
returns-in-Int-clause-goes c =
    let s = c.args.bindings.now in
    let names = c.args.symbols.now in
    let ps = c.args.pending.now.items in
    let fits : FitsSigned w64 c.in-Int.i = search rules in (
      tt,
      c.requires.pending,
      ap (all_resumed names s ps) (met-integer names (value_of s c.args.at.now) c.in-Int.i c.in-Int.ensures)
          ∙ (resumed-add names s ps 1 (Ok c.in-Int.i, 0)
          ∙ ap (λ (i : ℤ). add_nodes 1 (all_resumed names s ps (Ok i, 0))) (sym (to_z-of_z w64 c.in-Int.i fits))),
    )

pub returns-in-Atom-clause-goes : goal.returns-in-Atom-clause-goes
returns-in-Atom-clause-goes c =
    let s = c.args.bindings.now in
    let names = c.args.symbols.now in
    let ps = c.args.pending.now.items in
    let t = value_of s c.args.at.now in (
      evaluable-not-spent c.in-Atom.name 0,
      known-atom t c.in-Atom.name (length names) c.in-Atom.ensures c.requires.ready.1,
      ap (all_resumed names s ps) (met-atom names t c.in-Atom.name c.in-Atom.ensures) ∙ resumed-ends names s ps _ 1,
    )

pub returns-in-Struct-clause-goes : goal.returns-in-Struct-clause-goes
returns-in-Struct-clause-goes c =
    let s = c.args.bindings.now in
    let names = c.args.symbols.now in
    let ps = c.args.pending.now.items in
    let t = value_of s c.args.at.now in (
      evaluable-not-spent c.in-Struct.name c.in-Struct.n,
      known-struct t c.in-Struct.name c.in-Struct.n (length names) c.in-Struct.ensures c.requires.ready.1,
      ap (all_resumed names s ps) (met-many names t c.in-Struct.name c.in-Struct.n c.in-Struct.ensures c.in-Struct.n-test.0.1
          c.in-Struct.n-test.1) ∙ resumed-ends names s ps _ 1,
    )
