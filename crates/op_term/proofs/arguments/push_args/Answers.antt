use Rattle.std.proofs.Common.{◌<◌, List, subst, sym, All, arith}
use Rattle.std.proofs.lemmas.List.Elements.{All-push}
use Rattle.op_logic.specs.Term.{args_of, arity}
use Rattle.op_term.proofs.ArgumentLists.{pushed-more, pushed-all}
use Rattle.op_term.proofs.arguments.push_args.Goals as goal

pub push-preserved : goal.push-preserved
push-preserved g c =
    let term = g.T.Tree.term c.args.tree.now in
    let t = g.T.Tree.term c.args.tree.now c.args.at.now in
    let h : c.push.i < arity (args_of t) = omega (arith, c.requires.count) in
    record {
      pushed = pushed-more term t c.args.todo.now.items c.push.todo.items c.push-in-push.new.self.items c.push.i c.part.result h
          c.in_ok-push.ensures.items c.part.ensures.value c.push.invariant.pushed;
      there = subst (λ (ps : List _). All (g.T.Tree.IsPlace c.args.tree.now) ps) (sym c.in_ok-push.ensures.items)
          (All-push (g.T.Tree.IsPlace c.args.tree.now) c.push.todo.items c.part.result c.push.invariant.there c.part.ensures.place);
    }

pub returns-clause-terms : goal.returns-clause-terms
returns-clause-terms g c =
    let term = g.T.Tree.term c.args.tree.now in
    let t = g.T.Tree.term c.args.tree.now c.args.at.now in
    pushed-all term t c.args.todo.now.items c.push.todo.items c.push.i (omega (arith, c.requires.count)) c.push.invariant.pushed
