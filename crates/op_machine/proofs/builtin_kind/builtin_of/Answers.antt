use Rattle.std.proofs.Common.{◌≡◌, subst}
use Rattle.op_trace.specs.Builtins as control
use Rattle.op_machine.specs.Program.{goal_named}
use Rattle.op_machine.specs.declared.builtin_kind.Builtin.{Builtin}
use Rattle.op_machine.specs.inner.BuiltinKinds.{act_of_kind, IsOfControl}
use Rattle.op_machine.proofs.BuiltinNames.{other-act, other-terms, other-known, own-act, own-terms}
use Rattle.op_machine.proofs.builtin_kind.builtin_of.Goals as goal

pub other_builtin-requires : goal.other_builtin-requires
other_builtin-requires c =
    let g = c.requires.0 in
    c.control_of.ensures.known g c.in-Unknown.name c.in-Unknown.arity c.requires.1 c.requires.2 c.in-Unknown.is

pub returns-in-Unknown-clause-act : goal.returns-in-Unknown-clause-act
returns-in-Unknown-clause-act c =
    λ g e left σ w.
    let t = c.args.store.now in
    other-act t c.in-Unknown.name c.in-Unknown.arity c.other_builtin.result g c.other_builtin.ensures.yes c.other_builtin.ensures.no
    (subst (λ (b : Builtin). IsOfControl t b g) c.in-Unknown.is (c.control_of.ensures.own g e)) left σ w
    (subst (λ (b : Builtin). control.act_of_goal left (goal_named t g) σ w ≡ act_of_kind t b (goal_named t g) left σ w) c.in-Unknown.is
    (c.control_of.ensures.act g e left σ w))

pub returns-in-Unknown-clause-known : goal.returns-in-Unknown-clause-known
returns-in-Unknown-clause-known c =
    λ g f n e names is.
    let t = c.args.store.now in
    other-known t c.in-Unknown.name c.in-Unknown.arity c.other_builtin.result g c.other_builtin.ensures.yes c.other_builtin.ensures.no
    (subst (λ (b : Builtin). IsOfControl t b g) c.in-Unknown.is (c.control_of.ensures.own g e)) f n names is

pub returns-in-Unknown-clause-terms : goal.returns-in-Unknown-clause-terms
returns-in-Unknown-clause-terms c =
    λ g f n e is.
    let t = c.args.store.now in
    other-terms t c.in-Unknown.name c.in-Unknown.arity c.other_builtin.result g c.other_builtin.ensures.yes c.other_builtin.ensures.no
    (subst (λ (b : Builtin). IsOfControl t b g) c.in-Unknown.is (c.control_of.ensures.own g e)) f n is

pub returns-in_default-clause-act : goal.returns-in_default-clause-act
returns-in_default-clause-act c =
    λ g e left σ w.
    own-act c.args.store.now c.control_of.result g (c.control_of.ensures.own g e) c.in_default.not-Unknown left σ w
    (c.control_of.ensures.act g e left σ w)

pub returns-in_default-clause-terms : goal.returns-in_default-clause-terms
returns-in_default-clause-terms c =
    λ g f n e is. own-terms c.args.store.now c.control_of.result g f n (c.control_of.ensures.own g e) is
