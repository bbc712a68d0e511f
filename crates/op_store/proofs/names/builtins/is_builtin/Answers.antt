use Rattle.std.proofs.Common.{ℕ, ◌==◌, List, sym, ap, ◌∙◌}
use Rattle.op_logic.proofs.BoolCases.{if_false}
use Rattle.op_trace.specs.Database.{Text}
use Rattle.op_store.specs.Locked.{builtins, is_among}
use Rattle.op_store.proofs.Numbers.{not-eq}
use Rattle.op_store.proofs.names.builtins.is_builtin.Goals as goal

pub returns-then-arity-eq0 : goal.returns-then-arity-eq0
unfolding builtins
returns-then-arity-eq0 c = c.is_among.ensures ∙ sym (ap (λ (n : ℕ). is_among (builtins n) c.args.name.now) c.if-arity-eq0.true)

pub returns-then-arity-eq1 : goal.returns-then-arity-eq1
unfolding builtins
returns-then-arity-eq1 c =
    c.is_among-then-arity-eq1.ensures ∙ sym (ap (λ (n : ℕ). is_among (builtins n) c.args.name.now) c.if-arity-eq1.true)

pub returns-then-arity-eq2 : goal.returns-then-arity-eq2
unfolding builtins
returns-then-arity-eq2 c =
    c.is_among-then-arity-eq2.ensures ∙ sym (ap (λ (n : ℕ). is_among (builtins n) c.args.name.now) c.if-arity-eq2.true)

pub returns-then-arity-eq3 : goal.returns-then-arity-eq3
unfolding builtins
returns-then-arity-eq3 c =
    c.is_among-then-arity-eq3.ensures ∙ sym (ap (λ (n : ℕ). is_among (builtins n) c.args.name.now) c.if-arity-eq3.true)

pub returns-then-arity-eq5 : goal.returns-then-arity-eq5
unfolding builtins
returns-then-arity-eq5 c =
    c.is_among-then-arity-eq5.ensures ∙ sym (ap (λ (n : ℕ). is_among (builtins n) c.args.name.now) c.if-arity-eq5.true)

pub returns-else-arity-eq5 : goal.returns-else-arity-eq5
unfolding builtins
returns-else-arity-eq5 c =
    c.is_call.ensures
    ∙ sym (ap (λ (names : List Text). is_among names c.args.name.now)
    (if_false (c.args.arity == 0) _ _ (not-eq c.args.arity 0 c.if-arity-eq0.false)
    ∙ (if_false (c.args.arity == 1) _ _ (not-eq c.args.arity 1 c.if-arity-eq1.false)
    ∙ (if_false (c.args.arity == 2) _ _ (not-eq c.args.arity 2 c.if-arity-eq2.false)
    ∙ (if_false (c.args.arity == 3) _ _ (not-eq c.args.arity 3 c.if-arity-eq3.false)
    ∙ (if_false (c.args.arity == 5) _ _ (not-eq c.args.arity 5 c.if-arity-eq5.false)))))))
