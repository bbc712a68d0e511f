use Rattle.std.proofs.Common.{List, All, subst, ap, ◌∙◌, arith}
use Rattle.op_store.specs.Nodes.{leaves}
use Rattle.op_logic.specs.Names.{named}
use Rattle.op_store.specs.declared.bodies.body_node.BodyNode.{BodyNode}
use Rattle.op_store.proofs.BodyTerms.{IsMaking, making-needs, making-goes, places-last, places-rest, root-is, none-left}
use Rattle.op_store.proofs.bodies.build_body.build_body.Goals as goal

pub push_part-requires-clause-places : goal.push_part-requires-clause-places
push_part-requires-clause-places g c =
    let term = g.T.Tree.term c.args.tree.now in
    let place = g.T.Tree.IsPlace c.args.tree.now in
    let p = subst (λ (xs : List (BodyNode _)). All place (leaves xs)) c.in-Some.ensures.items c.back.invariant.places in
    places-last place c.pop.new.self.items c.in-Some.node p

pub push_part-requires-clause-parts : goal.push_part-requires-clause-parts
push_part-requires-clause-parts g c =
    let term = g.T.Tree.term c.args.tree.now in
    let place = g.T.Tree.IsPlace c.args.tree.now in
    let m = subst (λ (xs : List (BodyNode _)). IsMaking term c.args.known c.args.met.items xs c.back.made c.back.stack.items)
    c.in-Some.ensures.items c.back.invariant.making in
    making-needs term c.args.known c.requires.body.0 c.requires.body.1.0 c.args.met.items c.pop.new.self.items c.in-Some.node c.back.made
    c.back.stack.items c.requires.body.1.1.0 c.requires.body.1.1.1 m

pub back-preserved : goal.back-preserved
back-preserved g c =
    let term = g.T.Tree.term c.args.tree.now in
    let place = g.T.Tree.IsPlace c.args.tree.now in
    let m = subst (λ (xs : List (BodyNode _)). IsMaking term c.args.known c.args.met.items xs c.back.made c.back.stack.items)
    c.in-Some.ensures.items c.back.invariant.making in
    let p = subst (λ (xs : List (BodyNode _)). All place (leaves xs)) c.in-Some.ensures.items c.back.invariant.places in
    record {
      making = making-goes term c.args.known c.args.met.items c.pop.new.self.items c.in-Some.node c.back.made c.push_part.new.made
          c.back.stack.items c.push_part.new.stack.items c.in_ok-push_part.ensures.took c.in_ok-push_part.ensures.there m;
      places = places-rest place c.pop.new.self.items c.in-Some.node p;
    }

pub finish-requires : goal.finish-requires
finish-requires g c =
    let term = g.T.Tree.term c.args.tree.now in
    let empty = none-left c.back.met.items (omega (arith, c.in_default.ensures.cases.0, c.back.met.ok.0)) in
    let m = subst (λ (xs : List (BodyNode _)). IsMaking term c.args.known c.args.met.items xs c.back.made c.back.stack.items) empty
    c.back.invariant.making in
    (root-is term c.args.known c.requires.body.0 c.requires.body.1.0 c.args.met.items c.back.made c.back.stack.items c.index-root.result.now
    c.index-root.ensures c.requires.body.1.1.0 c.requires.body.1.1.1 m).0

pub returns : goal.returns
returns g c = λ names b k e.
    let term = g.T.Tree.term c.args.tree.now in
    let empty = none-left c.back.met.items (omega (arith, c.in_default.ensures.cases.0, c.back.met.ok.0)) in
    let m = subst (λ (xs : List (BodyNode _)). IsMaking term c.args.known c.args.met.items xs c.back.made c.back.stack.items) empty
    c.back.invariant.making in
    ap (named names) c.finish.ensures
    ∙ (root-is term c.args.known names b c.args.met.items c.back.made c.back.stack.items c.index-root.result.now c.index-root.ensures k e
    m).1
