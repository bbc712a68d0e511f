use Rattle.std.proofs.Common.{◌<◌, ◌∙◌, arith}
use Rattle.op_term.proofs.Heads.{head-atom, head-struct}
use Rattle.op_machine.proofs.BuiltinLaws.{atom-act, single-act, longer-act}
use Rattle.op_machine.proofs.BuiltinNames.{atom-kind, single-kind, longer-kind}
use Rattle.op_machine.proofs.builtin_kind.control_of.Goals as goal

pub returns-in-Atom-clause-act : goal.returns-in-Atom-clause-act
returns-in-Atom-clause-act c =
    λ g e left σ w.
    let b = c.atom_builtin.ensures in
    atom-act c.args.store.now c.names_law.ensures.table c.names_law.ensures.begins left σ w c.in-Atom.name c.atom_builtin.result g
    (record { halt = b.halt; other = b.other }) (head-atom g c.in-Atom.name (e ∙ c.in-Atom.is))

pub returns-in-Struct-default-eq1-clause-act : goal.returns-in-Struct-default-eq1-clause-act
returns-in-Struct-default-eq1-clause-act c =
    λ g e left σ w.
    let one = c.in-Struct-default-eq1 in
    let h = head-struct g one.name one.field-1 (e ∙ one.is) in
    let b = c.single_builtin.ensures in
    let count = rw one.is at one.field-1-test in
    single-act c.args.store.now c.names_law.ensures.table c.names_law.ensures.begins left σ w one.name c.single_builtin.result g
    (record { call = b.call; once = b.once; not = b.not; throw = b.throw; halt = b.halt; other = b.other }) h.0 (h.1 ∙ count)

pub returns-in-Struct-clause-act : goal.returns-in-Struct-clause-act
returns-in-Struct-clause-act c =
    λ g e left σ w.
    let more = c.in-Struct in
    let h = head-struct g more.name more.arity (e ∙ more.is) in
    let b = c.longer_builtin.ensures in
    let count = rw more.is at more.arity-test in
    let many : 1 < more.arity = omega (arith, h.1, h.2, count.1) in
    longer-act c.args.store.now c.names_law.ensures.table c.names_law.ensures.begins left σ w more.name more.arity
    c.longer_builtin.result g
    (record { call = b.call; long = b.long; catch = b.catch; other_catch = b.other_catch; other = b.other }) h.0 h.1 many

pub returns-in-Atom-clause-own : goal.returns-in-Atom-clause-own
returns-in-Atom-clause-own c =
    λ g e.
    let b = c.atom_builtin.ensures in
    atom-kind c.args.store.now c.names_law.ensures.table c.names_law.ensures.begins c.in-Atom.name c.atom_builtin.result g
    (record { halt = b.halt; other = b.other }) (head-atom g c.in-Atom.name (e ∙ c.in-Atom.is))

pub returns-in-Struct-default-eq1-clause-own : goal.returns-in-Struct-default-eq1-clause-own
returns-in-Struct-default-eq1-clause-own c =
    λ g e.
    let one = c.in-Struct-default-eq1 in
    let h = head-struct g one.name one.field-1 (e ∙ one.is) in
    let b = c.single_builtin.ensures in
    let count = rw one.is at one.field-1-test in
    single-kind c.args.store.now c.names_law.ensures.table c.names_law.ensures.begins one.name c.single_builtin.result g
    (record { call = b.call; once = b.once; not = b.not; throw = b.throw; halt = b.halt; other = b.other }) h.0 (h.1 ∙ count)

pub returns-in-Struct-clause-own : goal.returns-in-Struct-clause-own
returns-in-Struct-clause-own c =
    λ g e.
    let more = c.in-Struct in
    let h = head-struct g more.name more.arity (e ∙ more.is) in
    let b = c.longer_builtin.ensures in
    longer-kind c.args.store.now c.names_law.ensures.table c.names_law.ensures.begins more.name more.arity c.longer_builtin.result g
    (record { call = b.call; long = b.long; catch = b.catch; other_catch = b.other_catch; other = b.other }) h.0 h.1
