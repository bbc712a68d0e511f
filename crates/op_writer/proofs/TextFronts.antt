-- The fronts of texts.
use Rattle.std.proofs.Common.{◌≡◌, ◌<◌, ◌≤◌, ◌+◌, ℕ, zero, suc, List, [], ◌∷◌, ◌++◌, length, take, refl, sym, ◌∙◌, ap, arith}
use Rattle.std.proofs.lemmas.List.{take-append-le, take_all, length-take, append_assoc}
use Rattle.std.proofs.Math.Seq.{take-append-add}
use Rattle.op_writer.specs.declared.edge.Edge.{Edge}
use Rattle.op_writer.specs.Cut.{front_of}
use Rattle.op_writer.specs.Fragments.{Fragment, set_apart, text_of, edge_behind, spaced}

pub front-within : (n : ℕ) (t : List ℕ) → length (front_of n t) ≤ 1 + n
front-within n t = omega (arith, length-take (1 + n) t)

pub front-all : (n : ℕ) (t : List ℕ) → length t ≤ 1 + n → front_of n t ≡ t
front-all n t l = take_all (1 + n) t l

-- what is added where there is room
pub front-add : (n k : ℕ) (a b : List ℕ) → length a + k ≡ 1 + n → a ++ take k b ≡ front_of n (a ++ b)
front-add n k a b e = sym (take-append-add a b k) ∙ ap (λ (m : ℕ). take m (a ++ b)) e

take-again : (n : ℕ) (a b : List ℕ) → take n (take n a ++ b) ≡ take n (a ++ b)
take-again zero a b = refl
take-again (suc n) [] b = refl
take-again (suc n) (x ∷ a) b = ap (λ (t : List ℕ). x ∷ t) (take-again n a b)

-- the front of a longer text is that of its front
pub front-again : (n : ℕ) (a b : List ℕ) → front_of n (front_of n a ++ b) ≡ front_of n (a ++ b)
front-again n a b = take-again (1 + n) a b

-- a full front is that of every longer text
pub front-full : (n : ℕ) (a b : List ℕ) → n < length (front_of n a) → front_of n a ≡ front_of n (a ++ b)
front-full n a b l = sym (take-append-le (1 + n) a b (omega (arith, l, length-take (1 + n) a)))

-- a front within the limit is the whole
pub front-whole : (n : ℕ) (b t : List ℕ) → b ≡ front_of n t → length b ≤ n → b ≡ t
front-whole n b t e l = e ∙ take_all (1 + n) t (omega (arith, l, ap length e, length-take (1 + n) t))

-- and one that is longer says that the whole is longer
pub front-longer : (n : ℕ) (b t : List ℕ) → b ≡ front_of n t → n < length b → n < length t
front-longer n b t e l = omega (arith, l, ap length e, length-take (1 + n) t)

-- a fragment is added
pub front-fragment : (n : ℕ) (old new : List ℕ) (before behind : Edge) (p : Fragment) (ps : List Fragment)
    → new ≡ front_of n (old ++ set_apart before (text_of p)) → behind ≡ edge_behind before p
    → front_of n (new ++ spaced behind ps) ≡ front_of n (old ++ spaced before (p ∷ ps))
front-fragment n old new before behind p ps h e =
    ap (λ (x : List ℕ). front_of n (x ++ spaced behind ps)) h
    ∙ (front-again n (old ++ set_apart before (text_of p)) (spaced behind ps)
    ∙ (ap (front_of n) (append_assoc old (set_apart before (text_of p)) (spaced behind ps))
    ∙ ap (λ (x : Edge). front_of n (old ++ (set_apart before (text_of p) ++ spaced x ps))) e))
