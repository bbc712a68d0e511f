-- A term over texts is that of one term over the numbers of a table.
use Rattle.std.proofs.Common.{◌≡◌, ℕ, List, refl}
use Rattle.op_logic.specs.Term.{Term, var, int, node, Args, no_args, arg, rename_args}
use Rattle.op_logic.specs.Names.{name_at, named, IsTable}
use Rattle.op_logic.proofs.NameTables.{same_number}

module _ (names : List (List ℕ)) (table : IsTable names) where
  mutual
    pub named-same : (t u : Term ℕ) → named names t ≡ named names u → t ≡ u
    named-same (var v) (var w) e = let s : v ≡ w = cc in cc
    named-same (var v) (int j) e = absurd cc
    named-same (var v) (node g us) e = absurd cc
    named-same (int i) (var w) e = absurd cc
    named-same (int i) (int j) e = let s : i ≡ j = cc in cc
    named-same (int i) (node g us) e = absurd cc
    named-same (node f ts) (var w) e = absurd cc
    named-same (node f ts) (int j) e = absurd cc
    named-same (node f ts) (node g us) e =
        let n : name_at names f ≡ name_at names g = cc in
        let s : f ≡ g = same_number names table f g n in
        let a : rename_args (name_at names) ts ≡ rename_args (name_at names) us = cc in
        let b : ts ≡ us = args-named-same ts us a in
        cc

    args-named-same : (ts us : Args ℕ) → rename_args (name_at names) ts ≡ rename_args (name_at names) us → ts ≡ us
    args-named-same no_args no_args e = refl
    args-named-same no_args (arg u us) e = absurd cc
    args-named-same (arg t ts) no_args e = absurd cc
    args-named-same (arg t ts) (arg u us) e =
        let a : named names t ≡ named names u = cc in
        let b : rename_args (name_at names) ts ≡ rename_args (name_at names) us = cc in
        let d : t ≡ u = named-same t u a in
        let s : ts ≡ us = args-named-same ts us b in
        cc
