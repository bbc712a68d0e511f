use Rattle.std.proofs.Common.{ℕ, List, sym, subst, arith}
use Rattle.op_bind.proofs.StateGrowth.{grows-grows}
use Rattle.op_store.specs.declared.bodies.body_node.BodyNode.{BodyNode}
use Rattle.op_store.proofs.BodyTerms.{none-left}
use Rattle.op_store.proofs.BoundBodies.{IsBuilding, building-starts, building-needs, building-places, building-goes}
use Rattle.op_store.proofs.BoundBodies.{built-term, built-named, built-one}
use Rattle.op_store.proofs.bodies.body_in.build_in.Goals as goal

pub back-init : goal.back-init
back-init c =
    subst (λ (ks : List ℕ). IsBuilding c.args.known c.args.made.now c.args.met.items c.args.met.items c.args.made.now ks)
    (sym c.new-stack.ensures.items) (building-starts c.args.known c.args.made.now c.args.met.items c.requires.places)

pub push_part-requires-clause-places : goal.push_part-requires-clause-places
push_part-requires-clause-places c =
    let known = c.args.known in
    let start = c.args.made.now in
    let all = c.args.met.items in
    let w = subst (λ (xs : List (BodyNode ℕ)). IsBuilding known start all xs c.back.made c.back.stack.items) c.in-Some.ensures.items
    c.back.invariant in
    building-places known start all c.pop.new.self.items c.in-Some.part c.back.made c.back.stack.items w

pub push_part-requires-clause-parts : goal.push_part-requires-clause-parts
push_part-requires-clause-parts c =
    let known = c.args.known in
    let start = c.args.made.now in
    let all = c.args.met.items in
    let w = subst (λ (xs : List (BodyNode ℕ)). IsBuilding known start all xs c.back.made c.back.stack.items) c.in-Some.ensures.items
    c.back.invariant in
    building-needs known start c.requires.body.0 c.requires.body.1.0 all c.pop.new.self.items c.in-Some.part c.back.made c.back.stack.items
    c.requires.body.1.1.0 c.requires.body.1.1.1 w

pub push_part-requires-clause-there : goal.push_part-requires-clause-there
push_part-requires-clause-there c = c.back.invariant.making.there

pub back-preserved : goal.back-preserved
back-preserved c =
    let known = c.args.known in
    let start = c.args.made.now in
    let all = c.args.met.items in
    let w = subst (λ (xs : List (BodyNode ℕ)). IsBuilding known start all xs c.back.made c.back.stack.items) c.in-Some.ensures.items
    c.back.invariant in
    building-goes known start all c.pop.new.self.items c.in-Some.part c.back.made c.push_part.new.made c.back.stack.items
    c.push_part.new.stack.items c.in_ok-push_part.ensures.took c.in_ok-push_part.ensures.there c.in_ok-push_part.ensures.named
    c.push_part.ensures.grows c.push_part.ensures.bound c.push_part.ensures.bindings c.push_part.ensures.count w

pub returns-in_err-push_part-clause-grows : goal.returns-in_err-push_part-clause-grows
returns-in_err-push_part-clause-grows c =
    grows-grows c.args.made.now c.back.made c.push_part.new.made c.back.invariant.grows c.push_part.ensures.grows

pub index-root-requires : goal.index-root-requires
index-root-requires c =
    let known = c.args.known in
    let start = c.args.made.now in
    let all = c.args.met.items in
    let empty = none-left c.back.met.items (omega (arith, c.in_default.ensures.cases.0, c.back.met.ok.0)) in
    let w = subst (λ (xs : List (BodyNode ℕ)). IsBuilding known start all xs c.back.made c.back.stack.items) empty c.back.invariant in
    let one = built-one known start c.requires.body.0 c.requires.body.1.0 all c.back.made c.back.stack.items c.requires.body.1.1.0
    c.requires.body.1.1.1 w in
    omega (arith, one)

pub returns-clause-there : goal.returns-clause-there
returns-clause-there c =
    let known = c.args.known in
    let start = c.args.made.now in
    let all = c.args.met.items in
    let empty = none-left c.back.met.items (omega (arith, c.in_default.ensures.cases.0, c.back.met.ok.0)) in
    let w = subst (λ (xs : List (BodyNode ℕ)). IsBuilding known start all xs c.back.made c.back.stack.items) empty c.back.invariant in
    (built-term known start c.requires.body.0 c.requires.body.1.0 all c.back.made c.back.stack.items c.index-root.result.now
    c.index-root.ensures c.requires.body.1.1.0 c.requires.body.1.1.1 w).0

pub returns-clause-term : goal.returns-clause-term
returns-clause-term c = λ names b k e.
    let known = c.args.known in
    let start = c.args.made.now in
    let all = c.args.met.items in
    let empty = none-left c.back.met.items (omega (arith, c.in_default.ensures.cases.0, c.back.met.ok.0)) in
    let w = subst (λ (xs : List (BodyNode ℕ)). IsBuilding known start all xs c.back.made c.back.stack.items) empty c.back.invariant in
    (built-term known start names b all c.back.made c.back.stack.items c.index-root.result.now c.index-root.ensures k e w).1

pub returns-clause-has : goal.returns-clause-has
returns-clause-has c = λ names k h.
    let known = c.args.known in
    let start = c.args.made.now in
    let all = c.args.met.items in
    let empty = none-left c.back.met.items (omega (arith, c.in_default.ensures.cases.0, c.back.met.ok.0)) in
    let w = subst (λ (xs : List (BodyNode ℕ)). IsBuilding known start all xs c.back.made c.back.stack.items) empty c.back.invariant in
    built-named known start c.requires.body.0 c.requires.body.1.0 all c.back.made c.back.stack.items c.index-root.result.now
    c.index-root.ensures c.requires.body.1.1.0 c.requires.body.1.1.1 w names k h

pub returns-clause-bound : goal.returns-clause-bound
returns-clause-bound c = c.back.invariant.bound

pub returns-clause-bindings : goal.returns-clause-bindings
returns-clause-bindings c = c.back.invariant.same

pub returns-clause-count : goal.returns-clause-count
returns-clause-count c = c.back.invariant.count

pub returns-clause-grows : goal.returns-clause-grows
returns-clause-grows c = c.back.invariant.grows
