-- The quoted style has a letter for the compounds '$VAR'(N) with N of 0 or more, and for no other.
use Rattle.std.proofs.Common.{◌≡◌, ℕ, pos, negsuc, List, Option, None, refl, ◌∙◌, ap}
use Rattle.std.specs.Prelude.{codes}
use Rattle.std.specs.Str.{bytes_eq}
use Rattle.std.proofs.lemmas.Slice.Eq.{bytes_eq-Decides}
use Rattle.op_logic.proofs.BoolCases.{by_test, if_true, if_false}
use Rattle.op_logic.specs.Term.{var, int, node, Args, no_args, arg}
use Rattle.op_writer.specs.declared.style.Style.TheVariants.{Quoted}
use Rattle.op_writer.specs.Text.{only_one, natural, letter_of}
use Rattle.op_readback.specs.ReadBack.{IsNoLetter}

no-natural : (f : List ℕ) (ts : Args (List ℕ)) → f ≡ codes "$VAR" → IsNoLetter (node f ts) → ◌≡◌ {A = Option ℕ} (natural (only_one ts)) None
no-natural f no_args e h = refl
no-natural f (arg (var v) no_args) e h = refl
no-natural f (arg (int (pos n)) no_args) e h = absurd (h n (ap (λ (g : List ℕ). node g (arg (int (pos n)) no_args)) e))
no-natural f (arg (int (negsuc n)) no_args) e h = refl
no-natural f (arg (node g us) no_args) e h = refl
no-natural f (arg t (arg u us)) e h = refl

-- a compound that is none of these has no letter
pub no-letter-of : (f : List ℕ) (ts : Args (List ℕ)) → IsNoLetter (node f ts) → letter_of Quoted f ts ≡ None
no-letter-of f ts h =
    by_test (bytes_eq f (codes "$VAR"))
    (λ e. if_true (bytes_eq f (codes "$VAR")) _ _ e ∙ no-natural f ts ((bytes_eq-Decides f (codes "$VAR")).0 e) h)
    (λ e. if_false (bytes_eq f (codes "$VAR")) _ _ e)
