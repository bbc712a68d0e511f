use Rattle.std.proofs.Common.{◌≡◌, List, [], ◌∷◌, ◌++◌, Err, subst, refl, sym, ap, ◌∙◌}
use Rattle.op_store.specs.declared.bodies.body_fault.BodyFault.TheVariants.{NotCallable}
use Rattle.op_store.proofs.ConversionPlaces.{IsWalk, Goes, walk-starts, walk-goes, walk-next, walk-spent, walk-refused}
use Rattle.op_store.proofs.bodies.convert.nodes_of.Goals as goal

pub returns-in_err-spend-clause-spent : goal.returns-in_err-spend-clause-spent
returns-in_err-spend-clause-spent g c = λ _.
    let names = c.args.symbols.now in
    let under = g.T.FollowedTerms.under c.args.terms.now in
    let term = g.T.FollowedTerms.term c.args.terms.now in
    let place = g.T.FollowedTerms.IsPlace c.args.terms.now in
    let w = subst (λ (ps : List _). IsWalk names under term place c.args.at.now c.args.fuel.now c.walk.fuel c.walk.met.items ps)
    c.in-Some.ensures.items c.walk.invariant in
    walk-spent names under term place c.args.at.now c.args.fuel.now c.walk.fuel c.walk.met.items c.pop.new.self.items c.in-Some.next
    (c.in_err-spend.ensures.spent.0 refl) w

pub meet-requires-clause-place : goal.meet-requires-clause-place
meet-requires-clause-place g c =
    let names = c.args.symbols.now in
    let under = g.T.FollowedTerms.under c.args.terms.now in
    let term = g.T.FollowedTerms.term c.args.terms.now in
    let place = g.T.FollowedTerms.IsPlace c.args.terms.now in
    let w = subst (λ (ps : List _). IsWalk names under term place c.args.at.now c.args.fuel.now c.walk.fuel c.walk.met.items ps)
    c.in-Some.ensures.items c.walk.invariant in
    (walk-next names under term place c.args.at.now c.args.fuel.now c.walk.fuel c.walk.met.items c.pop.new.self.items c.in-Some.next w).0

pub meet-requires-clause-names : goal.meet-requires-clause-names
meet-requires-clause-names g c =
    let names = c.args.symbols.now in
    let under = g.T.FollowedTerms.under c.args.terms.now in
    let term = g.T.FollowedTerms.term c.args.terms.now in
    let place = g.T.FollowedTerms.IsPlace c.args.terms.now in
    let w = subst (λ (ps : List _). IsWalk names under term place c.args.at.now c.args.fuel.now c.walk.fuel c.walk.met.items ps)
    c.in-Some.ensures.items c.walk.invariant in
    (walk-next names under term place c.args.at.now c.args.fuel.now c.walk.fuel c.walk.met.items c.pop.new.self.items c.in-Some.next w).1

pub walk-init : goal.walk-init
walk-init g c =
    let names = c.args.symbols.now in
    let under = g.T.FollowedTerms.under c.args.terms.now in
    let term = g.T.FollowedTerms.term c.args.terms.now in
    let place = g.T.FollowedTerms.IsPlace c.args.terms.now in
    let at = c.args.at.now in
    let start = c.args.fuel.now in
    let todo : c.push.new.self.items ≡ at ∷ [] =
    c.in_ok-push.ensures.items ∙ ap (λ (ps : List _). ps ++ at ∷ []) c.new-todo.ensures.items in
    subst (λ (ps : List _). IsWalk names under term place at start start c.new-met.result.items ps) (sym todo)
    (subst (λ (xs : List _). IsWalk names under term place at start start xs (at ∷ [])) (sym c.new-met.ensures.items)
    (walk-starts names under term place at start c.requires.place c.requires.names))

pub walk-preserved : goal.walk-preserved
walk-preserved g c =
    let names = c.args.symbols.now in
    let under = g.T.FollowedTerms.under c.args.terms.now in
    let term = g.T.FollowedTerms.term c.args.terms.now in
    let place = g.T.FollowedTerms.IsPlace c.args.terms.now in
    let w = subst (λ (ps : List _). IsWalk names under term place c.args.at.now c.args.fuel.now c.walk.fuel c.walk.met.items ps)
    c.in-Some.ensures.items c.walk.invariant in
    let r = c.in_default-meet.ensures in
    let goes : Goes names under term place c.walk.met.items c.meet.new.met.items c.pop.new.self.items c.meet.new.todo.items c.in-Some.next =
    record { left = r.left; todo_good = r.todo; met_good = r.met } in
    walk-goes names under term place c.args.at.now c.args.fuel.now c.walk.fuel c.spend.new.self c.walk.met.items c.meet.new.met.items
    c.pop.new.self.items c.meet.new.todo.items c.in-Some.next c.in_ok-spend.ensures.ok goes w

pub returns-in-Err-clause-not_callable : goal.returns-in-Err-clause-not_callable
returns-in-Err-clause-not_callable g c = λ e.
    let names = c.args.symbols.now in
    let under = g.T.FollowedTerms.under c.args.terms.now in
    let term = g.T.FollowedTerms.term c.args.terms.now in
    let place = g.T.FollowedTerms.IsPlace c.args.terms.now in
    let w = subst (λ (ps : List _). IsWalk names under term place c.args.at.now c.args.fuel.now c.walk.fuel c.walk.met.items ps)
    c.in-Some.ensures.items c.walk.invariant in
    let f : c.in-Err.fault ≡ NotCallable = cc in
    (walk-refused names under term place c.args.at.now c.args.fuel.now c.walk.fuel c.spend.new.self c.walk.met.items c.pop.new.self.items
    c.in-Some.next c.in_ok-spend.ensures.ok (c.in-Err.ensures.refused (ap Err f)) w).0
