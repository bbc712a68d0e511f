use Rattle.std.proofs.Common.{◌∙◌, ◌^◌, sym, ap, subst}
use Rattle.std.proofs.Math.Path.{ap₂}
use Rattle.std.proofs.lemmas.Int.{to_z-of_z}
use Rattle.std.specs.Prelude.{ℤ, pos, ◌*ℤ◌, FitsSigned}
use Rattle.std.specs.Int.{w128, cast_signed, cast_unsigned}
use Rattle.op_inspect.specs.Arithmetic.{within as the_within}
use Rattle.op_inspect.proofs.IntegerValues.{widened, power-widened, shift-fits}
use Rattle.op_inspect.proofs.value.times_power.Goals as goal

pub overflow_mul-x : goal.overflow_mul-x
overflow_mul-x c =
    subst (FitsSigned w128)
    (sym (ap₂ (λ (a b : ℤ). a *ℤ b) (widened c.args.x c.ranges.x) (power-widened c.args.n c.requires c.pow.result c.pow.ensures)))
    (shift-fits c.args.x c.args.n c.ranges.x c.requires)

pub returns : goal.returns
returns c =
    let product = ap₂ (λ (a b : ℤ). a *ℤ b) (widened c.args.x c.ranges.x) (power-widened c.args.n c.requires c.pow.result c.pow.ensures) in
    c.narrowed.ensures
    ∙ ap the_within (ap (λ (z : ℤ). cast_signed w128 (cast_unsigned w128 z)) product
    ∙ to_z-of_z w128 (c.args.x *ℤ pos (2 ^ c.args.n)) (shift-fits c.args.x c.args.n c.ranges.x c.requires))
