-- The body's term that a conversion gives.
use Rattle.std.proofs.Common.{◌≡◌, ℕ, ◌≤◌, List, [], ◌∷◌, length, take, Option, Some, None, refl, ap, arith}
use Rattle.std.specs.Prelude.{option_map}
use Rattle.std.proofs.lemmas.List.{length-take}
use Rattle.op_logic.specs.Term.{Term, var, int, node, Args, no_args, arg}
use Rattle.op_logic.specs.Names.{HasNames, ArgsHaveNames}
use Rattle.op_trace.specs.Body.{Body}

pub body-read : (o : Option Body) (r : Option (List Body)) → option_map (λ b. Some (b ∷ [])) o ≡ Some r
    → (b : Body) × ((o ≡ Some b) × (r ≡ Some (b ∷ [])))
body-read None r e = absurd cc
body-read (Some b) r e = (b, (refl, cc))

mutual
  pub has-more : (m n : ℕ) (t : Term ℕ) → m ≤ n → HasNames m t → HasNames n t
  has-more m n (var v) l h = tt
  has-more m n (int i) l h = tt
  has-more m n (node f ts) l h = (omega (arith, h.0), args-have-more m n ts l h.1)

  args-have-more : (m n : ℕ) (ts : Args ℕ) → m ≤ n → ArgsHaveNames m ts → ArgsHaveNames n ts
  args-have-more m n no_args l h = tt
  args-have-more m n (arg t ts) l h = (has-more m n t l h.0, args-have-more m n ts l h.1)

pub names-more : (old new : List (List ℕ)) → take (length old) new ≡ old → length old ≤ length new
names-more old new e = omega (arith, ap length e, length-take (length old) new)

pub kept-has : (old new : List (List ℕ)) (t : Term ℕ) → take (length old) new ≡ old → HasNames (length old) t → HasNames (length new) t
kept-has old new t e h = has-more (length old) (length new) t (names-more old new e) h
