use Rattle.std.proofs.Common.{◌≡◌, subst, OnOk}
use Rattle.op_logic.specs.Names.{with_name}
use Rattle.op_store.specs.Stored.{Stored}
use Rattle.op_store.specs.inner.Told.{with_names}
use Rattle.op_store.proofs.Soundness.{joined-sound, joined-exact}
use Rattle.op_store.proofs.store.Store.intern.Goals as goal

pub invariant_of-self : goal.invariant_of-self
invariant_of-self c = joined-sound _ _ _ _ _ _ _ c.self.invariant c.count-count.ensures.table c.intern-sym.ensures.kept

pub returns-clause-exact : goal.returns-clause-exact
returns-clause-exact c =
    let i = c.self.inside in
    let old : Stored =
    record { locked = i.locked; names = i.symbols; table = i.ops; flags = i.flags; procedures = i.procedures; next = i.next } in
    let new = c.intern-sym.new.self in
    subst (λ (s : Stored). OnOk c.intern-sym.result (with_names old new ≡ with_names s (with_name s.names c.args.name.now))) c.self.view_is
    (joined-exact i.locked i.symbols new i.ops i.flags i.procedures i.next c.intern-sym.result c.args.name.now c.intern-sym.ensures.exact)
