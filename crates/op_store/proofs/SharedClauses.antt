-- Clauses that are shared.
use Rattle.std.proofs.Common.{◌≡◌, ℕ, zero, suc, ◌<◌, List, [], ◌∷◌, ◌++◌, map, length, get_or, Vec, Global, Result, Ok, Err, OnErr, refl}
use Rattle.std.proofs.Common.{ap, ◌∙◌, arith}
use Rattle.std.specs.declared.rc.Rc.{Rc}
use mathlib.Core.Logic.{◌⊎◌, inl, inr}
use Rattle.std.specs.List.{AllZip}
use Rattle.std.proofs.lemmas.List.{map-append}
use Rattle.op_bind.specs.declared.places.Clause.{Clause as NumberedClause}

abbrev pub SharedClause : Type 0
SharedClause = Rc NumberedClause Global

abbrev pub values : List SharedClause → List NumberedClause
values rs = map (λ r. r.value) rs

values-zip : (rs copies : List SharedClause) → AllZip (λ r copy. copy.value ≡ r.value) rs copies → values copies ≡ values rs
values-zip [] [] h = refl
values-zip [] (c ∷ cs) h = absurd h
values-zip (r ∷ rs) [] h = absurd h
values-zip (r ∷ rs) (c ∷ cs) h =
    ap (λ (x : NumberedClause). x ∷ values cs) h.0 ∙ ap (λ (xs : List NumberedClause). r.value ∷ xs) (values-zip rs cs h.1)

pub same-values : (old new : Vec SharedClause Global) (l : Type 0)
    → ((new ≡ old) ⊎ (AllZip (λ r copy. copy.value ≡ r.value) old.items new.items × l)) → values new.items ≡ values old.items
same-values old new l (inl e) = ap (λ (v : Vec SharedClause Global). values v.items) e
same-values old new l (inr h) = values-zip old.items new.items h.0

pub push-values : (old own new : Vec SharedClause Global) (r : SharedClause) (l : Type 0)
    → ((own ≡ old) ⊎ (AllZip (λ r copy. copy.value ≡ r.value) old.items own.items × l)) → new.items ≡ own.items ++ r ∷ []
    → values new.items ≡ values old.items ++ r.value ∷ []
push-values old own new r l h e =
    ap values e ∙ (map-append (λ (x : SharedClause). x.value) own.items (r ∷ [])
    ∙ ap (λ (xs : List NumberedClause). xs ++ r.value ∷ []) (same-values old own l h))

pub value-at : (rs : List SharedClause) (k : ℕ) (r : SharedClause) → k < length rs → get_or (values rs) k r.value ≡ (get_or rs k r).value
value-at [] k r h = absurd (omega arith)
value-at (x ∷ xs) zero r h = refl
value-at (x ∷ xs) (suc k) r h = value-at xs k r (omega arith)

pub on-err : {A E P : Type 0} (r : Result A E) → P → OnErr r P
on-err (Ok a) p = tt
on-err (Err e) p = p
