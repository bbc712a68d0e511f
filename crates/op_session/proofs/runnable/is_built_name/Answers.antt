use Rattle.std.proofs.Common.{ℕ, ◌==◌, List, sym, ap, ◌∙◌, arith}
use Rattle.op_logic.proofs.BoolCases.{if_false}
use Rattle.op_trace.specs.Database.{Text}
use Rattle.op_store.specs.Locked.{is_among}
use Rattle.std.proofs.lemmas.Bool.Decides.{nat_tests}
use Rattle.op_session.specs.Runnable.{built}
use Rattle.op_session.proofs.runnable.is_built_name.Goals as goal

pub returns-then-arity-eq0 : goal.returns-then-arity-eq0
unfolding built
returns-then-arity-eq0 c = c.is_among.ensures ∙ sym (ap (λ (n : ℕ). is_among (built n) c.args.name.now) c.if-arity-eq0.true)

pub returns-then-arity-eq1 : goal.returns-then-arity-eq1
unfolding built
returns-then-arity-eq1 c =
    c.is_among-then-arity-eq1.ensures ∙ sym (ap (λ (n : ℕ). is_among (built n) c.args.name.now) c.if-arity-eq1.true)

pub returns-then-arity-eq2 : goal.returns-then-arity-eq2
unfolding built
returns-then-arity-eq2 c =
    c.is_among-then-arity-eq2.ensures ∙ sym (ap (λ (n : ℕ). is_among (built n) c.args.name.now) c.if-arity-eq2.true)

pub returns-then-arity-eq3 : goal.returns-then-arity-eq3
unfolding built
returns-then-arity-eq3 c =
    c.is_among-then-arity-eq3.ensures ∙ sym (ap (λ (n : ℕ). is_among (built n) c.args.name.now) c.if-arity-eq3.true)

pub returns-else-arity-eq3 : goal.returns-else-arity-eq3
unfolding built
returns-else-arity-eq3 c =
    c.is_among-else-arity-eq3.ensures
    ∙ sym (ap (λ (names : List Text). is_among names c.args.name.now)
    (if_false (c.args.arity == 0) _ _ (grind (arith, nat_tests))
    ∙ (if_false (c.args.arity == 1) _ _ (grind (arith, nat_tests))
    ∙ (if_false (c.args.arity == 2) _ _ (grind (arith, nat_tests))
    ∙ (if_false (c.args.arity == 3) _ _ (grind (arith, nat_tests)))))))
