-- Bindings are undone one by one.
use Rattle.std.proofs.Common.{◌≡◌, ℕ, ◌+◌, ◌-◌, ◌<◌, ◌≤◌, length, drop, sym, ◌∙◌, ap, refl, arith, length-drop}
use Rattle.std.proofs.lemmas.List.{drop-drop}
use Rattle.op_bind.specs.State.{State, oldest}

-- so many bindings are left, and they are the oldest
pub record IsUndoing (first now : State) (floor : ℕ) : Type 0 where
  pub terms : now.terms ≡ first.terms
  pub count : now.count ≡ first.count
  pub least : floor ≤ length now.bound
  pub enough : length now.bound ≤ length first.bound
  pub bound : now.bound ≡ oldest (length now.bound) first.bound

pub undoing-starts : (s : State) (least : ℕ) → least ≤ length s.bound → IsUndoing s s least
undoing-starts s least h =
    let z : length s.bound - length s.bound ≡ 0 = omega arith in
    record { terms = refl; count = refl; least = h; enough = omega arith; bound = sym (ap (λ (k : ℕ). drop k s.bound) z) }

pub undoing-more : (first now next : State) (least : ℕ) → IsUndoing first now least → least < length now.bound → next.terms ≡ now.terms
    → next.count ≡ now.count → next.bound ≡ drop 1 now.bound → IsUndoing first next least
undoing-more first now next least u l t c b =
    let n : length next.bound ≡ length now.bound - 1 = ap length b ∙ length-drop 1 now.bound in
    let k : (length first.bound - length now.bound) + 1 ≡ length first.bound - length next.bound = omega (arith, u.enough) in
    let e : drop 1 now.bound ≡ drop 1 (drop (length first.bound - length now.bound) first.bound) = ap (drop 1) u.bound in
    record {
      terms = t ∙ u.terms;
      count = c ∙ u.count;
      least = omega arith;
      enough = omega (arith, u.enough);
      bound = b ∙ (e ∙ (drop-drop 1 (length first.bound - length now.bound) first.bound ∙ ap (λ (m : ℕ). drop m first.bound) k));
    }
