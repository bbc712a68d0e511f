use Rattle.std.proofs.Common.{◌≡◌, ℕ, ◌+◌, Some, None, sym, ◌∙◌, ap, subst, refl, Ok, rules}
use Rattle.op_logic.specs.Term.{IsWithin, shift}
use Rattle.op_term.specs.Places.{term_at}
use Rattle.op_bind.specs.State.{State, bindings, IsGoodMark, Marked}
use Rattle.op_bind.proofs.StateGrowth
use Rattle.op_bind.proofs.ClauseRenaming
use Rattle.op_bind.specs.Unified.{unified, with_variables}
use Rattle.op_bind.proofs.bindings.Bindings.match_clause.Goals as goal

pub load-requires : goal.load-requires
load-requires c =
    let a = c.args.self.now in
    let n = c.args.clause.now.vars in
    let count : c.fresh.new.self.count ≡ c.in_ok-first.first + n = ap (λ (s : State). s.count) c.in_ok-first.ensures.ok
    ∙ ap (λ k. k + n) (sym c.in_ok-first.ensures.number) in
    subst (λ (k : ℕ). IsWithin k (shift c.in_ok-first.first c.args.clause.now.head)) (sym count)
    (ClauseRenaming.shift-within n c.in_ok-first.first c.args.clause.now.head c.requires.head)

pub load-requires-in-Yes : goal.load-requires-in-Yes
load-requires-in-Yes c =
    let a = c.args.self.now in
    let n = c.args.clause.now.vars in
    let count : c.unify.new.self.count ≡ c.in_ok-first.first + n =
    c.in_ok-unify.ensures.later.count ∙ (c.in_ok-head.ensures.count ∙ (ap (λ (s : State). s.count) c.in_ok-first.ensures.ok
    ∙ ap (λ k. k + n) (sym c.in_ok-first.ensures.number))) in
    subst (λ (k : ℕ). IsWithin k (shift c.in_ok-first.first c.args.clause.now.body)) (sym count)
    (ClauseRenaming.shift-within n c.in_ok-first.first c.args.clause.now.body c.requires.body)

pub returns-in_err-unify-clause-spent : goal.returns-in_err-unify-clause-spent
returns-in_err-unify-clause-spent c = λ q.
    let a = c.args.self.now in
    let f = c.fresh.new.self in
    let h = c.load.new.self in
    let n = c.args.clause.now.vars in
    let g = c.args.goal.now in
    let head = shift a.count c.args.clause.now.head in
    let good = subst (λ (m : Marked). IsGoodMark a m) c.mark-mark.ensures.mark c.mark-mark.ensures.good in
    let grows = StateGrowth.grows-grows a f h c.in_ok-first.ensures.grows c.in_ok-head.ensures.grows in
    let bound : h.bound ≡ a.bound = c.in_ok-head.ensures.bound ∙ ap (λ (s : State). s.bound) c.in_ok-first.ensures.ok in
    let value : term_at h.terms c.in_ok-head.head ≡ head = c.in_ok-head.ensures.value
    ∙ ap (λ (k : ℕ). shift k c.args.clause.now.head) c.in_ok-first.ensures.number in
    let same = ClauseRenaming.matched a h good grows bound g c.in_ok-head.head c.args.fuel.now head c.requires.there value in
    let t : unified c.args.fuel.now h (term_at h.terms g) (term_at h.terms c.in_ok-head.head) ≡ None = search rules in
    ap (with_variables n) (sym same ∙ t)

pub returns-in_err-spend-in-Yes-clause-spent : goal.returns-in_err-spend-in-Yes-clause-spent
returns-in_err-spend-in-Yes-clause-spent c = λ q.
    let a = c.args.self.now in
    let f = c.fresh.new.self in
    let h = c.load.new.self in
    let n = c.args.clause.now.vars in
    let g = c.args.goal.now in
    let head = shift a.count c.args.clause.now.head in
    let good = subst (λ (m : Marked). IsGoodMark a m) c.mark-mark.ensures.mark c.mark-mark.ensures.good in
    let grows = StateGrowth.grows-grows a f h c.in_ok-first.ensures.grows c.in_ok-head.ensures.grows in
    let bound : h.bound ≡ a.bound = c.in_ok-head.ensures.bound ∙ ap (λ (s : State). s.bound) c.in_ok-first.ensures.ok in
    let value : term_at h.terms c.in_ok-head.head ≡ head = c.in_ok-head.ensures.value
    ∙ ap (λ (k : ℕ). shift k c.args.clause.now.head) c.in_ok-first.ensures.number in
    let same = ClauseRenaming.matched a h good grows bound g c.in_ok-head.head c.args.fuel.now head c.requires.there value in
    let u = sym same ∙ c.in_ok-unify.ensures.yes (ap Ok c.in-Yes.is) in
    ClauseRenaming.variables-spent n (unified c.args.fuel.now a (term_at a.terms g) head) (bindings c.unify.new.self) c.unify.new.fuel u
    (c.in_err-spend-in-Yes.ensures.spent.0 refl)

pub returns-in-Yes-clause-yes : goal.returns-in-Yes-clause-yes
returns-in-Yes-clause-yes c =
    let a = c.args.self.now in
    let f = c.fresh.new.self in
    let h = c.load.new.self in
    let n = c.args.clause.now.vars in
    let g = c.args.goal.now in
    let head = shift a.count c.args.clause.now.head in
    let good = subst (λ (m : Marked). IsGoodMark a m) c.mark-mark.ensures.mark c.mark-mark.ensures.good in
    let grows = StateGrowth.grows-grows a f h c.in_ok-first.ensures.grows c.in_ok-head.ensures.grows in
    let bound : h.bound ≡ a.bound = c.in_ok-head.ensures.bound ∙ ap (λ (s : State). s.bound) c.in_ok-first.ensures.ok in
    let value : term_at h.terms c.in_ok-head.head ≡ head = c.in_ok-head.ensures.value
    ∙ ap (λ (k : ℕ). shift k c.args.clause.now.head) c.in_ok-first.ensures.number in
    let same = ClauseRenaming.matched a h good grows bound g c.in_ok-head.head c.args.fuel.now head c.requires.there value in
    let u = sym same ∙ c.in_ok-unify.ensures.yes (ap Ok c.in-Yes.is) in
    ClauseRenaming.variables-paid n (unified c.args.fuel.now a (term_at a.terms g) head) (bindings c.unify.new.self) c.unify.new.fuel
    c.spend.new.self u c.in_ok-spend-in-Yes.ensures.ok
    ∙ ap (λ σ. Some (Some σ, c.spend.new.self)) (sym c.in_ok-body-in-Yes.ensures.bindings)

pub returns-in-No-clause-no : goal.returns-in-No-clause-no
returns-in-No-clause-no c = λ q.
    let a = c.args.self.now in
    let f = c.fresh.new.self in
    let h = c.load.new.self in
    let n = c.args.clause.now.vars in
    let g = c.args.goal.now in
    let head = shift a.count c.args.clause.now.head in
    let good = subst (λ (m : Marked). IsGoodMark a m) c.mark-mark.ensures.mark c.mark-mark.ensures.good in
    let grows = StateGrowth.grows-grows a f h c.in_ok-first.ensures.grows c.in_ok-head.ensures.grows in
    let bound : h.bound ≡ a.bound = c.in_ok-head.ensures.bound ∙ ap (λ (s : State). s.bound) c.in_ok-first.ensures.ok in
    let value : term_at h.terms c.in_ok-head.head ≡ head = c.in_ok-head.ensures.value
    ∙ ap (λ (k : ℕ). shift k c.args.clause.now.head) c.in_ok-first.ensures.number in
    let same = ClauseRenaming.matched a h good grows bound g c.in_ok-head.head c.args.fuel.now head c.requires.there value in
    let u = sym same ∙ c.in_ok-unify.ensures.no (ap Ok c.in-No.is) in
    ap (with_variables n) u
