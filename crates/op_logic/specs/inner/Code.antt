-- How the logic stores a term.
use Rattle.std.specs.Prelude.{◌≡◌, ℕ, List, refl}
use Rattle.std.specs.Coded.{Coded, coded_ℕ, coded_ℤ, coded_list}
use base.Stored.{Gv, gnil, gnum, gcons}
use Rattle.std.proofs.Common.{ap}
use Rattle.op_logic.specs.Term.{Term, var, int, node, Args, no_args, arg}

abbrev mutual
  pub stored_term : {N : Type 0} → (N → Gv) → Term N → Gv
  stored_term c (var v) = gcons (gnum 0) (gnum v)
  stored_term c (int i) = gcons (gnum 1) (coded_ℤ.code i)
  stored_term c (node f ts) = gcons (gnum 2) (gcons (c f) (stored_args c ts))

  pub stored_args : {N : Type 0} → (N → Gv) → Args N → Gv
  stored_args c no_args = gnil
  stored_args c (arg t ts) = gcons (stored_term c t) (stored_args c ts)

module _ {N : Type 0} (c : Coded N) where
  mutual
    pub stored_term_inj : (t u : Term N) → stored_term c.code t ≡ stored_term c.code u → t ≡ u
    stored_term_inj (var v) (var w) p = let e : v ≡ w = cc in cc
    stored_term_inj (var v) (int j) p = cc
    stored_term_inj (var v) (node g us) p = cc
    stored_term_inj (int i) (var w) p = cc
    stored_term_inj (int i) (int j) p = let e : coded_ℤ.code i ≡ coded_ℤ.code j = cc in ap int (coded_ℤ.inj i j e)
    stored_term_inj (int i) (node g us) p = cc
    stored_term_inj (node f ts) (var w) p = cc
    stored_term_inj (node f ts) (int j) p = cc
    stored_term_inj (node f ts) (node g us) p =
        let n : c.code f ≡ c.code g = cc in
        let m : f ≡ g = c.inj f g n in
        let a : stored_args c.code ts ≡ stored_args c.code us = cc in
        let b : ts ≡ us = stored_args_inj ts us a in
        cc

    pub stored_args_inj : (ts us : Args N) → stored_args c.code ts ≡ stored_args c.code us → ts ≡ us
    stored_args_inj no_args no_args p = refl
    stored_args_inj no_args (arg u us) p = cc
    stored_args_inj (arg t ts) no_args p = cc
    stored_args_inj (arg t ts) (arg u us) p =
        let a : stored_term c.code t ≡ stored_term c.code u = cc in
        let b : stored_args c.code ts ≡ stored_args c.code us = cc in
        let d : t ≡ u = stored_term_inj t u a in
        let e : ts ≡ us = stored_args_inj ts us b in
        cc

  abbrev pub coded_term : Coded (Term N)
  coded_term = record { code = stored_term c.code; inj = stored_term_inj }

abbrev pub term_code : Coded (Term ℕ)
term_code = coded_term coded_ℕ

abbrev pub terms_code : Coded (List (Term ℕ))
terms_code = coded_list term_code
