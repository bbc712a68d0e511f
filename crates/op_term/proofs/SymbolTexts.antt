-- The texts of a set of strings.
use Rattle.std.proofs.Common.{◌≡◌, ℕ, ◌<◌, true, false, cond, List, [], ◌∷◌, ◌++◌, ◌||◌, map, length, get_or, All, Some, String, sym, ◌∙◌}
use Rattle.std.proofs.Common.{ap, subst, refl, arith, Fits, w8}
use Rattle.std.specs.Str.{bytes_eq, IsUtf8}
use Rattle.std.specs.String.{string_bytes, string_eq}
use Rattle.std.specs.List.{AllZip, list_any, position, position_or_len}
use Rattle.std.proofs.lemmas.List.{length-map, map-append, get_or_default}
use Rattle.std.proofs.lemmas.List.Quantifiers.{position-Some}
use Rattle.std.proofs.lemmas.List.Folds.{list_any_at}
use Rattle.std.proofs.lemmas.List.Elements.{All-map}
use Rattle.std.proofs.lemmas.Str.{IsUtf8-string_bytes}
use Rattle.std.proofs.lemmas.Slice.Eq.{bytes_eq-Decides}
use Rattle.op_logic.specs.Names.{name_at, with_name, IsTable}
use Rattle.op_logic.proofs.NameTables.{name_at-below, IsTable-push}
use Rattle.op_logic.proofs.BoolCases.{if_true, if_false}

module _ {Z : Type 0} where
  pub are-texts : (ks : List (String Z)) → All IsUtf8 (map (λ k. string_bytes k) ks)
  are-texts ks = All-map IsUtf8 (λ k. string_bytes k) ks (λ i k l. IsUtf8-string_bytes (get_or ks i k))

  pub list_any-texts : (name : List ℕ) (ks : List (String Z)) → list_any (bytes_eq name) (map (λ k. string_bytes k) ks)
      ≡ list_any (λ k. bytes_eq name (string_bytes k)) ks
  list_any-texts name [] = refl
  list_any-texts name (k ∷ ks) = ap (λ b. bytes_eq name (string_bytes k) || b) (list_any-texts name ks)

  first-texts : (name : List ℕ) (ks : List (String Z)) → position_or_len (bytes_eq name) (map (λ k. string_bytes k) ks)
      ≡ position_or_len (λ k. bytes_eq name (string_bytes k)) ks
  first-texts name [] = refl
  first-texts name (k ∷ ks) = let e = first-texts name ks in cc

  pub position-texts : (name : List ℕ) (ks : List (String Z)) → position (bytes_eq name) (map (λ k. string_bytes k) ks)
      ≡ position (λ k. bytes_eq name (string_bytes k)) ks
  position-texts name ks =
      let e = first-texts name ks in
      let l : length (map (λ k. string_bytes k) ks) ≡ length ks = length-map ks (λ k. string_bytes k) in
      cc

-- a name that was found has that number
module _ (texts : List (List ℕ)) (name : List ℕ) (at : ℕ) (found : Some at ≡ position (bytes_eq name) texts) where
  there : (at < length texts) × (bytes_eq name (get_or texts at []) ≡ true)
  there = let p = position-Some (bytes_eq name) texts at [] (sym found) in (p.0, p.1)

  pub found-named : name_at texts at ≡ name
  found-named = name_at-below texts at there.0 ∙ sym ((bytes_eq-Decides name (get_or texts at [])).0 there.1)

  pub found-exact : with_name texts name ≡ texts
  found-exact = if_true _ _ _ (list_any_at (bytes_eq name) texts at [] there.0 there.1)

pub absent-exact : (texts : List (List ℕ)) (name : List ℕ) → list_any (bytes_eq name) texts ≡ false
    → with_name texts name ≡ texts ++ name ∷ []
absent-exact texts name h = if_false _ _ _ h

pub bytes-fit : (name : List ℕ) → ((i : ℕ) → Fits w8 (get_or name i 0)) → All (λ b. b < 256) name
bytes-fit name h k d l =
    let f : get_or name k 0 < 256 = omega (arith, h k) in
    subst (λ (n : ℕ). n < 256) (get_or_default name k 0 d l) f

-- a string that was not there joins at the end
module _ {Z : Type 0} (name : List ℕ) (owned : String Z) (is : string_bytes owned ≡ name) (ks new : List (String Z))
    (absent : false ≡ list_any (λ k. bytes_eq name (string_bytes k)) ks)
    (inserted : new ≡ cond (list_any (string_eq owned) ks) ks (ks ++ owned ∷ [])) where
  pub not_there : list_any (bytes_eq name) (map (λ k. string_bytes k) ks) ≡ false
  not_there = list_any-texts name ks ∙ sym absent

  pub joined : map (λ k. string_bytes k) new ≡ map (λ k. string_bytes k) ks ++ name ∷ []
  joined =
      let a : list_any (string_eq owned) ks ≡ false = ap (λ (n : List ℕ). list_any (λ k. bytes_eq n (string_bytes k)) ks) is ∙ sym absent in
      let n : new ≡ ks ++ owned ∷ [] = inserted ∙ if_false _ _ _ a in
      ap (map (λ k. string_bytes k)) n ∙ (map-append (λ k. string_bytes k) ks (owned ∷ [])
      ∙ ap (λ (t : List ℕ). map (λ k. string_bytes k) ks ++ t ∷ []) is)

  pub joined-exact : map (λ k. string_bytes k) new ≡ with_name (map (λ k. string_bytes k) ks) name
  joined-exact = joined ∙ sym (absent-exact (map (λ k. string_bytes k) ks) name not_there)

  pub joined-table : IsTable (map (λ k. string_bytes k) ks) → All (λ b. b < 256) name → IsTable (map (λ k. string_bytes k) new)
  joined-table t small = subst IsTable (sym joined) (IsTable-push (map (λ k. string_bytes k) ks) name t not_there small)

-- strings that were copied one by one
pub texts-copied : {Z : Type 0} (xs ys : List (String Z)) → AllZip (λ x y. string_bytes y ≡ string_bytes x) xs ys
    → map (λ k. string_bytes k) ys ≡ map (λ k. string_bytes k) xs
texts-copied [] [] h = refl
texts-copied [] (y ∷ ys) h = absurd h
texts-copied (x ∷ xs) [] h = absurd h
texts-copied (x ∷ xs) (y ∷ ys) h = let a = texts-copied xs ys h.1 in let b : string_bytes y ≡ string_bytes x = h.0 in cc
