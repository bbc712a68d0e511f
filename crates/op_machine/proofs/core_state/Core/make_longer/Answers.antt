use Rattle.std.proofs.Common.{◌<◌, ◌∙◌, ℕ, List, length, Result, Ok, Err, IfOk, sym, ap, subst}
use Rattle.std.proofs.lemmas.Result.{IfOk-weaker}
use Rattle.op_logic.specs.Term.{node, args_of}
use Rattle.op_logic.specs.Names.{HasNames, ArgsHaveNames}
use Rattle.op_term.specs.Places.{term_at, args_at}
use Rattle.op_machine.specs.declared.core_state.Core.{Core}
use Rattle.op_machine.specs.Program.{goal_named}
use Rattle.op_machine.specs.inner.BuiltinKinds.{behind_first}
use Rattle.op_machine.proofs.AddedArguments.{AreAdded, added-pushed, added-some, added-names, adds-named, behind-some, behind-names}
use Rattle.op_machine.proofs.GoalArguments.{args-names}
use Rattle.op_machine.proofs.MadeJoins.{term-made}
use Rattle.op_machine.proofs.core_state.Core.make_longer.Goals as goal

both-ok : {A E : Type 0} (o : Result A E) (P Q R : A → Type 0) → ((r : A) → P r → Q r → R r) → IfOk o P → IfOk o Q → IfOk o R
both-ok (Ok r) P Q R f p q = f r p q
both-ok (Err e) P Q R f p q = tt

-- the places that were pushed are those of the arguments
abbrev ArePlaces : Core → ℕ → ℕ → List ℕ → Type 0
ArePlaces old a g rs =
    AreAdded old.bindings.terms (args_of (term_at old.bindings.terms a)) (behind_first (args_of (term_at old.bindings.terms g))) rs

pub compound-requires-clause-some : goal.compound-requires-clause-some
compound-requires-clause-some c =
    let old : Core = c.args.self.now in
    let ts = old.bindings.terms in
    let first = args_of (term_at ts c.args.argument) in
    let second = args_of (term_at ts c.args.goal) in
    let all = added-pushed ts first second c.new-parts.result.items c.push_arguments.new.parts.items c.push_arguments-2.new.parts.items
    c.args.count c.args.end c.new-parts.ensures.items c.requires.count c.requires.end c.in_ok-push_arguments.ensures.terms
    c.in_ok-push_arguments-2.ensures.terms in
    subst (λ (rs : List ℕ). 0 < length rs) (sym c.deref.ensures.value)
    (added-some ts first (behind_first second) c.push_arguments-2.new.parts.items all
    (behind-some second c.args.end c.requires.end c.requires.some))

pub returns-clause-made : goal.returns-clause-made
returns-clause-made c =
    let old : Core = c.args.self.now in
    let ts = old.bindings.terms in
    let first = args_of (term_at ts c.args.argument) in
    let second = args_of (term_at ts c.args.goal) in
    let all = added-pushed ts first second c.new-parts.result.items c.push_arguments.new.parts.items c.push_arguments-2.new.parts.items
    c.args.count c.args.end c.new-parts.ensures.items c.requires.count c.requires.end c.in_ok-push_arguments.ensures.terms
    c.in_ok-push_arguments-2.ensures.terms in
    let here : ArePlaces old c.args.argument c.args.goal c.deref.result.now =
    subst (ArePlaces old c.args.argument c.args.goal) (sym c.deref.ensures.value) all in
    let n : ℕ = length old.store.names in
    let names : HasNames n (node c.args.name.0 first) = subst (HasNames n) c.requires.name c.requires.argument.1 in
    let more : ArgsHaveNames n (args_of (term_at ts c.args.goal)) = args-names n (term_at ts c.args.goal) c.requires.goal.1 in
    let has : HasNames n (node c.args.name.0 (args_at ts c.deref.result.now)) =
    (names.0, added-names ts n first (behind_first second) c.deref.result.now here names.1 (behind-names n second more)) in
    both-ok c.compound.result _ _ _
    (λ r there value. term-made old c.compound.new.self r (node c.args.name.0 (args_at ts c.deref.result.now)) c.compound.ensures.grows
    c.compound.ensures.bindings c.compound.ensures.count there value has) c.compound.ensures.there c.compound.ensures.value

pub returns-clause-value : goal.returns-clause-value
returns-clause-value c =
    let old : Core = c.args.self.now in
    let ts = old.bindings.terms in
    let first = args_of (term_at ts c.args.argument) in
    let second = args_of (term_at ts c.args.goal) in
    let all = added-pushed ts first second c.new-parts.result.items c.push_arguments.new.parts.items c.push_arguments-2.new.parts.items
    c.args.count c.args.end c.new-parts.ensures.items c.requires.count c.requires.end c.in_ok-push_arguments.ensures.terms
    c.in_ok-push_arguments-2.ensures.terms in
    let here : ArePlaces old c.args.argument c.args.goal c.deref.result.now =
    subst (ArePlaces old c.args.argument c.args.goal) (sym c.deref.ensures.value) all in
    IfOk-weaker c.compound.result _ _
    (λ r value. ap (goal_named old.store) value
    ∙ adds-named old.store ts c.args.name.0 (term_at ts c.args.argument) (term_at ts c.args.goal) c.deref.result.now c.requires.name here)
    c.compound.ensures.value
