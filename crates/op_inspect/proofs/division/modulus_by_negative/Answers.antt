use Rattle.std.proofs.Common.{◌∙◌, ◌≡◌, true, ap, subst}
use Rattle.std.proofs.lemmas.Int.{to_z-of_z}
use Rattle.std.specs.Prelude.{ℤ, pos, int_le, unsigned_abs}
use Rattle.std.specs.Int.{w64}
use Rattle.op_inspect.proofs.IntegerValues.{negated, left-below, mod-behind}
use Rattle.op_inspect.proofs.division.modulus_by_negative.Goals as goal

pub returns-then-x-le0 : goal.returns-then-x-le0
returns-then-x-le0 c =
    let same = to_z-of_z w64 c.args.x c.ranges.x in
    negated _ (left-below c.unsigned_abs.result c.args.d c.requires.some c.requires.small)
    ∙ mod-behind c.args.x c.args.d c.unsigned_abs.result
    (subst (λ (z : ℤ). int_le z (pos 0) ≡ true) same c.if-x-le0.true)
    (c.unsigned_abs.ensures.value ∙ ap unsigned_abs same)
