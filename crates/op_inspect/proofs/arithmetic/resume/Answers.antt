use Rattle.std.proofs.Common.{[], ◌∷◌, ◌++◌, ap, ◌∙◌, arith}
use Rattle.std.proofs.lemmas.Int.{to_z-of_z}
use Rattle.std.specs.Prelude.{ℤ}
use Rattle.std.specs.Int.{w64}
use Rattle.op_inspect.specs.inner.Pending.{moves_left, moves_of}
use Rattle.op_inspect.specs.declared.pending.Pending.TheVariants.{Second}
use Rattle.op_inspect.proofs.PendingFunctions.{first-goes, moves-push}
use Rattle.op_inspect.proofs.arithmetic.resume.Goals as goal

pub returns-in_ok-push-in-First-clause-goes : goal.returns-in_ok-push-in-First-clause-goes
returns-in_ok-push-in-First-clause-goes c =
    let ps = c.args.pending.now.items in
    let items = c.in_ok-push-in-First.ensures.items
    ∙ ap (λ (z : ℤ). ps ++ Second c.in-First.f z ∷ []) (to_z-of_z w64 c.args.x c.ranges.x) in
    λ names s one all.
    first-goes names s ps c.push.new.self.items c.args.function c.in-First.f c.in-First.second c.args.x c.in-First.is items one all

pub returns-in_ok-push-in-First-clause-moves : goal.returns-in_ok-push-in-First-clause-moves
returns-in_ok-push-in-First-clause-moves c =
    let more = ap moves_left c.in_ok-push-in-First.ensures.items ∙ moves-push c.args.pending.now.items (Second c.in-First.f _) in
    let two = ap moves_of c.in-First.is in
    omega (arith, more, two)
