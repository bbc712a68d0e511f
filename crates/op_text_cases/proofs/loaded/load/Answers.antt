use Rattle.std.proofs.Common.{◌≡◌, ℕ, [], List, sym, ap, ◌∙◌, subst, arith}
use Rattle.op_logic.specs.Term.{Term, IsWithin, shift}
use Rattle.op_logic.specs.Names.{HasNames}
use Rattle.op_logic.specs.Bind.{apply}
use Rattle.op_logic.proofs.ShiftedTerms.{shift-none, shift-names}
use Rattle.op_term.specs.Places.{term_at}
use Rattle.op_bind.specs.State.{State, resolved, value_of}
use Rattle.op_reader.specs.declared.term_reader.Read.{Read}
use Rattle.op_text_cases.proofs.loaded.load.Goals as goal

pub load-requires : goal.load-requires
load-requires c =
    let r : Read = c.args.read.now in
    let first : c.in_ok-first.first ≡ 0 = c.in_ok-first.ensures.number ∙ c.requires.none in
    let count : c.fresh.new.self.count ≡ r.vars = omega (arith, ap (λ (s : State). s.count) c.in_ok-first.ensures.ok, c.requires.none) in
    subst (λ (n : ℕ). IsWithin n (shift c.in_ok-first.first r.term)) (sym count)
    (subst (λ (k : ℕ). IsWithin r.vars (shift k r.term)) (sym first)
    (subst (IsWithin r.vars) (sym (shift-none r.term)) c.requires.variables.within))

pub returns-clause-names : goal.returns-clause-names
returns-clause-names c =
    λ n has.
    let s : State = c.load.new.self in
    let free : s.bound ≡ [] = c.in_ok-at.ensures.bound ∙ (ap (λ (w : State). w.bound) c.in_ok-first.ensures.ok ∙ c.requires.free) in
    let value : value_of s c.in_ok-at.at ≡ shift c.in_ok-first.first c.args.read.now.term =
    ap (λ b. apply (resolved s.terms b) (term_at s.terms c.in_ok-at.at)) free ∙ c.in_ok-at.ensures.value in
    subst (HasNames n) (sym value) (shift-names n c.in_ok-first.first c.args.read.now.term has)
