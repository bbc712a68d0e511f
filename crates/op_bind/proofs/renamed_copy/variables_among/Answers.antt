use Rattle.std.proofs.Common.{◌≡◌, ℕ, ◌+◌, ◌-◌, ◌<◌, length, subst, refl, arith}
use Rattle.op_bind.proofs.RenewedTerms.{AreMet, one-met}
use Rattle.op_bind.proofs.renamed_copy.variables_among.Goals as goal

pub back-preserved : goal.back-preserved
back-preserved c =
    let i = c.back.i - 1 in
    let e : c.back.i ≡ i + 1 = omega (arith, c.back-test.true) in
    let l : i < length c.args.nodes.now = omega (arith, c.back-test.true, c.back.invariant.within) in
    let before = subst (λ (k : ℕ). AreMet c.args.nodes.now k c.back.met.keys) e c.back.invariant.met in
    record {
      met = one-met c.args.nodes.now i _ _ c.back.met.keys c.meet.new.met.keys l refl c.in_ok-meet.ensures before;
      within = omega (arith, l);
    }
