use Rattle.std.proofs.Common.{◌≡◌, ℕ, Bool, List, length, map, All, sym, ap, ◌∙◌, subst}
use Rattle.op_logic.specs.Term.{Term, node, args_of}
use Rattle.op_logic.specs.Names.{name_at, named, HasNames}
use Rattle.op_term.specs.Arguments.{args_list}
use Rattle.op_term.specs.Places.{term_at, args_at}
use Rattle.op_bind.specs.State.{State, mark_of}
use Rattle.op_bind.proofs.StateGrowth.{mark-stays}
use Rattle.op_inspect.specs.Inspected.{is_builtin, act_on_terms}
use Rattle.op_inspect.specs.Outcomes.{Answers, IsKnown, IsSetting}
use Rattle.op_machine.specs.declared.core_state.Core.{Core}
use Rattle.op_machine.specs.declared.inspection.Inspection.{Inspection}
use Rattle.op_machine.specs.Meaning.{goal_now, bindings_now}
use Rattle.op_machine.specs.inner.Inspection.{success, settled}
use Rattle.op_machine.specs.inner.Moves.{steps_left}
use Rattle.op_machine.proofs.InspectedGoals.{args-at, args-count, args-known, asked-answers, has-asked}
use Rattle.op_machine.proofs.core_state.Core.ask.Goals as goal

pub arguments_of-requires-clause-count : goal.arguments_of-requires-clause-count
arguments_of-requires-clause-count c = sym c.requires.builtin.1

pub lend-inspected-requires : goal.lend-inspected-requires
lend-inspected-requires c =
    let old : Core = c.args.self.now in
    let n : ℕ = length old.store.names in
    let t = term_at old.bindings.terms c.args.goal in
    let names = subst (HasNames n) c.requires.builtin.0 c.requires.goal.1 in
    let count = args-count old.bindings.terms (args_of t) c.in-Ok.args.items c.in-Ok.ensures.terms in
    record {
      name = names.0;
      builtin = ap (is_builtin (name_at old.store.names c.args.name.0)) (count ∙ c.requires.builtin.1) ∙ c.requires.builtin.2;
      args = subst (λ (s : State). All (IsKnown old.store.names s) c.in-Ok.args.items) (sym c.replace-bindings.ensures.value)
          (args-known old.bindings.terms n (args_of t) c.in-Ok.args.items c.in-Ok.ensures.there c.in-Ok.ensures.terms names.1);
      setting = subst (IsSetting old.store.names) (sym c.replace-bindings.ensures.value) c.requires.good.level.bound;
    }

-- the goal of the call is that of the machine
called : (old : Core) (f : ℕ) (rs : List ℕ) (t : Term ℕ) → t ≡ node f (args_of t)
    → map (term_at old.bindings.terms) rs ≡ args_list (args_of t)
    → named old.store.names (node f (args_at old.bindings.terms rs)) ≡ named old.store.names t
called old f rs t is e = ap (named old.store.names) (ap (node f) (args-at old.bindings.terms (args_of t) rs e) ∙ sym is)

pub settle-requires : goal.settle-requires
settle-requires c =
    let old : Core = c.args.self.now in
    let t = term_at old.bindings.terms c.args.goal in
    let i : Inspection = record {
      name = c.args.name;
      args = c.in-Ok.args;
      bindings = c.replace-bindings.result;
      fuel = c.new-fuel.result;
    } in
    let a = asked-answers old c.lend-inspected.new.self.names i c.lend-inspected.result c.args.goal c.replace-bindings.ensures.value
    c.new-fuel.ensures
    (called old c.args.name.0 c.in-Ok.args.items t c.requires.builtin.0 c.in-Ok.ensures.terms)
    c.lend-inspected.ensures.makes in
    mark-stays old.bindings c.lend-inspected.result.bindings c.mark-mark.result c.mark-mark.ensures.good a.grows

pub returns : goal.returns
returns c =
    let old : Core = c.args.self.now in
    let t = term_at old.bindings.terms c.args.goal in
    let i : Inspection = record {
      name = c.args.name;
      args = c.in-Ok.args;
      bindings = c.replace-bindings.result;
      fuel = c.new-fuel.result;
    } in
    let r = c.lend-inspected.result in
    let a = asked-answers old c.lend-inspected.new.self.names i r c.args.goal c.replace-bindings.ensures.value c.new-fuel.ensures
    (called old c.args.name.0 c.in-Ok.args.items t c.requires.builtin.0 c.in-Ok.ensures.terms)
    c.lend-inspected.ensures.makes in
    let b = subst (λ (left : ℕ). Answers (act_on_terms (steps_left old) (goal_now old c.args.goal) (bindings_now old)) old.store.names
    old.bindings (steps_left old) r.answer c.lend-inspected.new.self.names r.bindings left) (sym c.left.ensures) a in
    let e : c.settle.new.bindings ≡ settled (success r.answer) r.bindings (mark_of old.bindings) =
    c.settle.ensures
    ∙ (ap (λ (x : Bool). settled x r.bindings c.mark-mark.result) c.is_success.ensures
    ∙ ap (settled (success r.answer) r.bindings) c.mark-mark.ensures.mark) in
    record {
      asked = has-asked old c.lend-inspected.new.self r.bindings c.settle.new.bindings c.left.result c.args.goal r.answer c.requires.steps
          (record { rest = c.lend-inspected.ensures.kept; names = c.lend-inspected.ensures.names }) c.lend-inspected.ensures.world b e;
    }
