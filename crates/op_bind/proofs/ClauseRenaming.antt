-- A clause's head is brought in and matched.
use Rattle.std.proofs.Common.{◌≡◌, ℕ, ◌+◌, ◌-◌, ◌<◌, ◌≤◌, List, length, take, Option, Some, None, leb, sym, ◌∙◌, ap, subst, arith}
use Rattle.std.proofs.lemmas.Bool.{le-leb, lt-leb}
use Rattle.std.proofs.lemmas.List.{get_or-take, length-take-le}
use Rattle.op_logic.specs.Term.{Term, var, int, node, Args, no_args, arg, IsWithin, ArgsWithin, shift, shift_args}
use Rattle.op_logic.specs.Bind.{Bindings, Solved}
use Rattle.op_logic.proofs.BoolCases.{if_true, if_false}
use Rattle.op_term.specs.Places.{term_at}
use Rattle.op_bind.specs.State.{State, mark_of, undone, bindings, IsGoodMark}
use Rattle.op_bind.specs.Within.{AllWithin}
use Rattle.op_bind.specs.inner.Sound.{AreBound, IsSound}
use Rattle.op_bind.specs.Grown.{Grows}
use Rattle.op_bind.specs.Unified.{unified, with_variables}
use Rattle.op_bind.proofs.StateGrowth.{term-stays, bindings-stay, refs-of-mark, undone-later}

mutual
  pub shift-within : (n first : ℕ) (t : Term ℕ) → IsWithin n t → IsWithin (first + n) (shift first t)
  shift-within n first (var v) h = omega (arith, h)
  shift-within n first (int i) h = tt
  shift-within n first (node f ts) h = shift_args-within n first ts h

  shift_args-within : (n first : ℕ) (ts : Args ℕ) → ArgsWithin n ts → ArgsWithin (first + n) (shift_args first ts)
  shift_args-within n first no_args h = tt
  shift_args-within n first (arg t ts) h = (shift-within n first t h.0, shift_args-within n first ts h.1)

-- what is unified is the goal and the head, under the bindings of before
pub matched : (a b : State) → IsGoodMark a (mark_of a) → Grows a b → b.bound ≡ a.bound → (g h left : ℕ) (t : Term ℕ) → g < length a.terms
    → term_at b.terms h ≡ t → unified left b (term_at b.terms g) (term_at b.terms h) ≡ unified left a (term_at a.terms g) t
matched a b m grows e g h left t l q =
    let σ : bindings b ≡ bindings a = bindings-stay a b grows e (refs-of-mark a m) in
    let x : term_at b.terms g ≡ term_at a.terms g = term-stays a b grows g l in
    cc

pub variables-paid : (n : ℕ) (u : Option (Solved ℕ)) (σ : Bindings ℕ) (left after : ℕ) → u ≡ Some (Some σ, left) → left ≡ after + n
    → with_variables n u ≡ Some (Some σ, after)
variables-paid n u σ left after e l =
    let z : left - n ≡ after = omega arith in
    ap (with_variables n) e ∙ (if_true (leb n left) (Some (Some σ, left - n)) None (le-leb n left (omega arith))
    ∙ ap (λ k. Some (Some σ, k)) z)

pub variables-spent : (n : ℕ) (u : Option (Solved ℕ)) (σ : Bindings ℕ) (left : ℕ) → u ≡ Some (Some σ, left) → left < n
    → with_variables n u ≡ None
variables-spent n u σ left e l = ap (with_variables n) e ∙ if_false (leb n left) (Some (Some σ, left - n)) None (lt-leb n left l)

-- numbers that nothing has are taken back
pub sound-fewer : (ts : List (Term ℕ)) (ps : List (ℕ × ℕ)) (table : List (Option ℕ)) (n : ℕ) → IsSound ts ps table → n ≤ length table
    → AllWithin n ts → AreBound n ts ps → IsSound ts ps (take n table)
sound-fewer ts ps table n s l w b =
    let len : n ≡ length (take n table) = sym (length-take-le n table l) in
    record {
      within = subst (λ (k : ℕ). AllWithin k ts) len w;
      are_bound = subst (λ (k : ℕ). AreBound k ts ps) len b;
      looked_up = λ v d h. get_or-take n table v d (omega arith) ∙ s.looked_up v d (omega arith);
    }

-- after the undoing all is as before, but for the numbers
pub unmatched : (a b : State) → Grows a b → record (undone b (mark_of a)) { count = a.count } ≡ a
unmatched a b h = ap (λ (s : State). record s { count = a.count }) (undone-later a b h)
