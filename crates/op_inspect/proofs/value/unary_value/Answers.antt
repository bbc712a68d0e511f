use Rattle.std.proofs.Common.{◌∙◌, sym, ap, subst}
use Rattle.std.proofs.lemmas.Int.{to_z-of_z}
use Rattle.std.specs.Prelude.{ℤ, pos, neg_ℤ, unsigned_abs, SomeIff, FitsSigned}
use Rattle.std.specs.Int.{w64}
use Rattle.op_inspect.specs.Arithmetic.{unary_value as the_unary}
use Rattle.op_inspect.specs.declared.function.Unary.{Unary}
use Rattle.op_inspect.proofs.IntegerValues.{abs-value}
use Rattle.op_inspect.proofs.value.unary_value.Goals as goal

pub returns-in-Magnitude : goal.returns-in-Magnitude
returns-in-Magnitude c =
    let told : SomeIff c.checked_abs.result (FitsSigned w64 (neg_ℤ c.args.x)) (pos (unsigned_abs c.args.x)) =
    subst (λ (y : ℤ). SomeIff c.checked_abs.result (FitsSigned w64 (neg_ℤ y)) (pos (unsigned_abs y)))
    (to_z-of_z w64 c.args.x c.ranges.x) c.checked_abs.ensures in
    c.within-in-Magnitude.ensures (pos (unsigned_abs c.args.x)) (abs-value c.args.x c.ranges.x c.checked_abs.result told)
    ∙ ap (λ (f : Unary). the_unary f c.args.x) (sym c.in-Magnitude.is)
