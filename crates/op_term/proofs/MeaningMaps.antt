-- The operator table of a map from strings.
use Rattle.std.proofs.Common.{◌≡◌, ℕ, Bool, true, false, cond, List, [], ◌∷◌, map, Option, Some, String, ap, refl, unwrap_or}
use Rattle.std.specs.Str.{bytes_eq}
use Rattle.std.specs.String.{string_bytes, string_eq}
use Rattle.std.specs.Map.{lookup}
use Rattle.std.specs.List.{AllZip}
use Rattle.indexmap.specs.IndexMap.{insert_entry}
use Rattle.op_term.specs.declared.ops.Meanings.{Meanings}
use Rattle.op_term.specs.Ops.{Table, meanings_in, no_meaning, with_meanings}

abbrev pub table_of : {Z : Type 0} → List (String Z × Meanings) → Table
table_of es = map (λ e. (string_bytes e.0, e.1)) es

chosen : (b : Bool) (m : Meanings) (o : Option Meanings) (r : Meanings) → unwrap_or o no_meaning ≡ r
    → unwrap_or (cond b (Some m) o) no_meaning ≡ cond b m r
chosen true m o r e = refl
chosen false m o r e = e

module _ {Z : Type 0} where
  pub meanings-lookup : (name : List ℕ) (es : List (String Z × Meanings))
      → unwrap_or (lookup (λ k. bytes_eq name (string_bytes k)) es) no_meaning ≡ meanings_in (table_of es) name
  meanings-lookup name [] = refl
  meanings-lookup name (e ∷ es) = chosen (bytes_eq name (string_bytes e.0)) e.1 _ _ (meanings-lookup name es)

  joined : (b : Bool) (e : String Z × Meanings) (m : Meanings) (es fs : List (String Z × Meanings)) (ts : Table) → table_of fs ≡ ts
      → table_of (cond b ((e.0, m) ∷ es) (e ∷ fs)) ≡ cond b ((string_bytes e.0, m) ∷ table_of es) ((string_bytes e.0, e.1) ∷ ts)
  joined true e m es fs ts h = refl
  joined false e m es fs ts h = ap (λ (t : Table). (string_bytes e.0, e.1) ∷ t) h

  pub inserted : (k : String Z) (m : Meanings) (es : List (String Z × Meanings))
      → table_of (insert_entry string_eq es k m) ≡ with_meanings (table_of es) (string_bytes k) m
  inserted k m [] = refl
  inserted k m (e ∷ es) = joined (bytes_eq (string_bytes k) (string_bytes e.0)) e m es _ _ (inserted k m es)

  -- entries that were copied one by one
  pub entries-copied : (es fs : List (String Z × Meanings)) → AllZip (λ p q. (string_bytes q.0 ≡ string_bytes p.0) × (q.1 ≡ p.1)) es fs
      → table_of fs ≡ table_of es
  entries-copied [] [] h = refl
  entries-copied [] (f ∷ fs) h = absurd h
  entries-copied (e ∷ es) [] h = absurd h
  entries-copied (e ∷ es) (f ∷ fs) h =
      let a = entries-copied es fs h.1 in let b : string_bytes f.0 ≡ string_bytes e.0 = h.0.0 in let d : f.1 ≡ e.1 = h.0.1 in cc
