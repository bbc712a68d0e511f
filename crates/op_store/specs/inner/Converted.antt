-- The term of a converted body, over the numbers of names.
use Rattle.std.specs.Prelude.{◌≡◌, ◌<◌, ℕ, List, [], ◌∷◌, length, map, codes}
use Rattle.op_logic.specs.Term.{Term, node, no_args, arg}
use Rattle.op_trace.specs.Body.{pair}
use Rattle.op_logic.specs.Names.{name_at, named, HasNames}
use Rattle.op_term.specs.Places.{term_at}
use Rattle.op_store.specs.declared.names.control_names.ControlNames.{ControlNames}

-- the numbers of the names of the control constructs and of call/1
pub record AreControlNames (names : List (List ℕ)) (k : ControlNames) : Type 0 where
  pub comma : name_at names k.comma.0 ≡ codes ","
  pub semicolon : name_at names k.semicolon.0 ≡ codes ";"
  pub arrow : name_at names k.arrow.0 ≡ codes "->"
  pub call : name_at names k.call.0 ≡ codes "call"
  pub comma_there : k.comma.0 < length names
  pub semicolon_there : k.semicolon.0 < length names
  pub arrow_there : k.arrow.0 < length names
  pub call_there : k.call.0 < length names

-- the terms at some numbers, over texts
abbrev pub texts_at : List (List ℕ) → List (Term ℕ) → List ℕ → List (Term (List ℕ))
texts_at names made rs = map (λ r. named names (term_at made r)) rs

-- they have names below n
abbrev pub AreNamed : ℕ → List (Term ℕ) → List ℕ → Type 0
AreNamed n made [] = Unit {0}
AreNamed n made (r ∷ rs) = HasNames n (term_at made r) × AreNamed n made rs

-- the first two terms are joined under a name
abbrev pub paired : List ℕ → List (Term (List ℕ)) → List (Term (List ℕ))
paired f (t ∷ u ∷ s) = pair f t u ∷ s
paired f s = s

-- the first term becomes the argument of a name
abbrev pub called : List ℕ → List (Term (List ℕ)) → List (Term (List ℕ))
called f (t ∷ s) = node f (arg t no_args) ∷ s
called f s = s
