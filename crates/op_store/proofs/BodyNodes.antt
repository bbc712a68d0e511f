-- The nodes of a body.
use Rattle.std.proofs.Common.{◌≡◌, ℕ, zero, suc, ◌+◌, ◌<◌, List, [], ◌∷◌, length, get_or, subst, arith}
use Rattle.op_store.specs.Nodes.{IsLinked, AreLinked}
use Rattle.op_store.specs.declared.bodies.body_node.BodyNode.{BodyNode}

linked-from : {P : Type 0} (xs : List (BodyNode P)) (i n k : ℕ) (d : BodyNode P) → k < length xs → AreLinked i n xs
    → IsLinked (i + k) n (get_or xs k d)
linked-from [] i n k d h l = absurd (omega arith)
linked-from (x ∷ xs) i n zero d h l = let e : i ≡ i + 0 = omega arith in subst (λ (j : ℕ). IsLinked j n x) e l.0
linked-from (x ∷ xs) i n (suc k) d h l =
    let e : suc i + k ≡ i + suc k = omega arith in subst (λ (j : ℕ). IsLinked j n (get_or xs k d)) e
    (linked-from xs (suc i) n k d (omega arith) l.1)

pub linked-at : {P : Type 0} (xs : List (BodyNode P)) (n k : ℕ) (d : BodyNode P) → k < length xs → AreLinked 0 n xs
    → IsLinked k n (get_or xs k d)
linked-at xs n k d h l = let e : 0 + k ≡ k = omega arith in subst (λ (j : ℕ). IsLinked j n (get_or xs k d)) e (linked-from xs 0 n k d h l)
