use Rattle.std.proofs.Common.{◌≡◌, ℕ, ◌+◌, ◌-◌, ◌<◌, [], Some, length, take, get_or, sym, ◌∙◌, ap, arith}
use Rattle.std.proofs.lemmas.List.{get_or_default}
use Rattle.op_logic.specs.Bind.{lookup}
use Rattle.op_cursor.specs.declared.part.Part.{Part}
use Rattle.op_cursor.specs.inner.Parts.{part_term}
use Rattle.op_cursor.specs.inner.Stacks.{values_from}
use Rattle.op_cursor.proofs.PairStacks.{value-here, value-below}
use Rattle.op_cursor.proofs.values.value_of.Goals as goal

pub returns-then-bound-v-clause-some : goal.returns-then-bound-v-clause-some
returns-then-bound-v-clause-some c = λ p e w.
    let xs = c.args.values.now in
    let n = c.down.n - 1 in
    let k : n + 1 ≡ c.down.n = omega (arith, c.down-test.true) in
    let l : n < length xs = omega (arith, c.down.invariant.inside, c.down-test.true) in
    let y : ℕ × Part = c.index-values-n.result in
    let x : ℕ × Part = c.index-values-n-in-down.result in
    let q : y ≡ x = c.index-values-n.is ∙ (get_or_default xs n y x l ∙ sym c.index-values-n-in-down.is) in
    let b : x.0 ≡ c.args.v =
    omega (arith, c.if-bound-v.true, ap (λ (z : ℕ × Part). z.0) q, ap (λ (z : ℕ × Part). z.0) c.index-values-n.is) in
    let r : x.1 ≡ (get_or xs n x).1 = ap (λ (z : ℕ × Part). z.1) c.index-values-n-in-down.is in
    let s : x.1 ≡ p = cc in
    c.down.invariant.below w ∙ (ap (λ (m : ℕ). lookup (values_from w (take m xs) []) c.args.v) (sym k)
    ∙ (value-here w xs n x l c.index-values-n-in-down.is c.args.v b ∙ ap (λ (z : Part). Some (part_term w z)) s))

pub down-preserved : goal.down-preserved
down-preserved c =
    let xs = c.args.values.now in
    let n = c.down.n - 1 in
    let k : n + 1 ≡ c.down.n = omega (arith, c.down-test.true) in
    let l : n < length xs = omega (arith, c.down.invariant.inside, c.down-test.true) in
    let y : ℕ × Part = c.index-values-n.result in
    record {
      inside = omega (arith, c.down.invariant.inside);
      below = λ w.
          c.down.invariant.below w ∙ (ap (λ (m : ℕ). lookup (values_from w (take m xs) []) c.args.v) (sym k)
          ∙ value-below w xs n y l c.index-values-n.is c.args.v
          (λ z. omega (arith, z, c.if-bound-v.false, ap (λ (x : ℕ × Part). x.0) c.index-values-n.is)));
    }
