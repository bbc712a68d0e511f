use Rattle.std.proofs.Common.{◌∙◌, sym, ap}
use Rattle.std.proofs.lemmas.Int.{rem_is}
use Rattle.std.specs.Prelude.{ℤ, Ok}
use Rattle.std.specs.Int.{w64, cast_signed, cast_unsigned}
use Rattle.op_inspect.specs.Arithmetic.{Answer}
use Rattle.op_inspect.proofs.IntegerValues.{divided-other, rem-behind}
use Rattle.op_inspect.proofs.value.remainder.Goals as goal

pub returns : goal.returns
returns c =
    ap {B = Answer} (λ (r : ℤ). Ok r) (
    ap (λ (r : ℤ). cast_signed w64 (cast_unsigned w64 r)) c.wrapping_rem.ensures
    ∙ (rem_is w64 c.args.x c.args.y c.ranges.x c.ranges.y ∙ rem-behind c.args.x c.args.y))
    ∙ sym (divided-other c.args.y _ (λ e. c.if-y-eq0.false (ap (cast_unsigned w64) e)))
