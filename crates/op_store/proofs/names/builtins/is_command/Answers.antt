use Rattle.std.proofs.Common.{ℕ, ◌==◌, List, sym, ap, ◌∙◌}
use Rattle.op_logic.proofs.BoolCases.{if_false}
use Rattle.op_trace.specs.Database.{Text}
use Rattle.op_store.specs.Locked.{commands, is_among}
use Rattle.op_store.proofs.Numbers.{not-eq}
use Rattle.op_store.proofs.names.builtins.is_command.Goals as goal

pub returns-then-arity-eq0 : goal.returns-then-arity-eq0
unfolding commands
returns-then-arity-eq0 c = c.is_among.ensures ∙ sym (ap (λ (n : ℕ). is_among (commands n) c.args.name.now) c.if-arity-eq0.true)

pub returns-then-arity-eq1 : goal.returns-then-arity-eq1
unfolding commands
returns-then-arity-eq1 c =
    c.is_among-then-arity-eq1.ensures ∙ sym (ap (λ (n : ℕ). is_among (commands n) c.args.name.now) c.if-arity-eq1.true)

pub returns-then-arity-eq3 : goal.returns-then-arity-eq3
unfolding commands
returns-then-arity-eq3 c =
    c.is_among-then-arity-eq3.ensures ∙ sym (ap (λ (n : ℕ). is_among (commands n) c.args.name.now) c.if-arity-eq3.true)

pub returns-then-arity-eq6 : goal.returns-then-arity-eq6
unfolding commands
returns-then-arity-eq6 c =
    c.is_among-then-arity-eq6.ensures ∙ sym (ap (λ (n : ℕ). is_among (commands n) c.args.name.now) c.if-arity-eq6.true)

pub returns-else-arity-eq6 : goal.returns-else-arity-eq6
unfolding commands
returns-else-arity-eq6 c =
    sym (ap (λ (names : List Text). is_among names c.args.name.now)
    (if_false (c.args.arity == 0) _ _ (not-eq c.args.arity 0 c.if-arity-eq0.false)
    ∙ (if_false (c.args.arity == 1) _ _ (not-eq c.args.arity 1 c.if-arity-eq1.false)
    ∙ (if_false (c.args.arity == 3) _ _ (not-eq c.args.arity 3 c.if-arity-eq3.false)
    ∙ (if_false (c.args.arity == 6) _ _ (not-eq c.args.arity 6 c.if-arity-eq6.false))))))
