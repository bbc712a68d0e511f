-- An act whose steps are not there is not begun.
use Rattle.std.proofs.Common.{◌≡◌, ℕ, ◌<◌, List, Result, Ok, Err, IsErr, IsErrAnd, sym, subst, arith}
use Rattle.op_bind.specs.State.{State}
use Rattle.op_trace.specs.World.{World}
use Rattle.op_trace.specs.Act.{Act, pay}
use Rattle.op_term.specs.declared.walk.WalkFault.{WalkFault}
use Rattle.op_term.specs.declared.walk.WalkFault.TheVariants.{Spent}
use Rattle.op_inspect.specs.Outcomes.{Answers}
use Rattle.op_inspect.specs.declared.outcome.Outcome.{Outcome}
use Rattle.op_inspect.proofs.Acting.{answers-spent, pay-short}
use Rattle.op_inspect.proofs.TextsLater.{stays-self}

pub not-begun : (A : World → Act) (k : ℕ) (rest : ℕ → World → Act) (names : List (List ℕ)) (s : State) (left after : ℕ)
    (r : Result Outcome WalkFault) → ((w : World) → A w ≡ pay k left w (λ l. rest l w)) → after ≡ left → left < k
    → IsErr r × IsErrAnd r (λ e. e ≡ Spent) → Answers A names s left r names s after
not-begun A k rest names s left after (Ok x) is same short told = let no : ⊥ = cc in absurd no
not-begun A k rest names s left after (Err f) is same short told =
    subst (λ (e : WalkFault). Answers A names s left (Err e) names s after) (sym told.1)
    (answers-spent A names names s s left after (stays-self names s) (omega (arith, same))
    (λ w _. subst (λ (y : Act). left < y.cost) (sym (is w)) (pay-short k left w (λ l. rest l w) short)))
