-- The loop over pairs: the pairs that are left come to what the whole comes to.
use Rattle.std.proofs.Common.{◌≡◌, ℕ, ◌+◌, ◌<◌, true, false, [], ◌∷◌, sym, ◌∙◌, ap, arith}
use Rattle.op_logic.specs.Term.{Term}
use Rattle.op_logic.specs.Bind.{Bindings, Pairs}
use Rattle.op_trace.specs.Database.{Text}
use Rattle.op_moves.specs.Pattern.{Clashes, pairs_more, matched, test_of}
use Rattle.op_moves.specs.Pairs.{all_matched, went_on}
use Rattle.op_moves.proofs.MatchedPairs.{pairs-none, pairs-both, on-nothing, taken, taken-more, taken-on, matched-some}

pub record IsMatching (p t : Term Text) (start left : ℕ) (σ : Bindings Text) (ps : Pairs Text) : Type 0 where
  pub used : ℕ
  pub paid : start ≡ left + used
  pub whole : pairs_more used (all_matched σ ps) ≡ matched [] p t

pub matching-starts : (p t : Term Text) (start : ℕ) → IsMatching p t start start [] ((p, t) ∷ [])
matching-starts p t start = record {
  used = 0;
  paid = omega arith;
  whole = pairs-none (all_matched [] ((p, t) ∷ [])) ∙ on-nothing (matched [] p t);
}

module _ (p t : Term Text) (start left : ℕ) (σ : Bindings Text) where
  pub matching-ends : IsMatching p t start left σ []
      → (true ≡ (test_of (matched [] p t)).yes) × (start ≡ left + (test_of (matched [] p t)).cost)
  matching-ends m = (ap (λ x. (test_of x).yes) m.whole, omega (arith, m.paid, ap (λ x. (test_of x).cost) m.whole))

  module _ (x y : Term Text) (rest : Pairs Text) (m : IsMatching p t start left σ ((x, y) ∷ rest)) where
    pub matching-spent : left < 1 → start < (test_of (matched [] p t)).cost
    matching-spent h =
        let a = ap taken m.whole in
        omega (
          arith,
          h,
          m.paid,
          a,
          taken-more m.used (all_matched σ ((x, y) ∷ rest)),
          matched-some σ x y,
          taken-on (matched σ x y) (λ τ. all_matched τ rest),
        )

    module _ (after : ℕ) (τ : Bindings Text) (more : Pairs Text) (l : left ≡ after + 1) where
      pub matching-clashes : all_matched σ ((x, y) ∷ rest) ≡ went_on false τ more
          → (false ≡ (test_of (matched [] p t)).yes) × (start ≡ after + (test_of (matched [] p t)).cost)
      matching-clashes e =
          let w : Clashes (m.used + 1) ≡ matched [] p t = sym (ap (pairs_more m.used) e) ∙ m.whole in
          (ap (λ z. (test_of z).yes) w, omega (arith, l, m.paid, ap (λ z. (test_of z).cost) w))

      pub matching-goes : all_matched σ ((x, y) ∷ rest) ≡ went_on true τ more → IsMatching p t start after τ more
      matching-goes e = record {
        used = m.used + 1;
        paid = omega (arith, l, m.paid);
        whole = sym (pairs-both m.used 1 (all_matched τ more)) ∙ (sym (ap (pairs_more m.used) e) ∙ m.whole);
      }
