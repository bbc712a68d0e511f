use Rattle.std.proofs.Common.{◌≡◌, ◌<◌, ◌+◌, ◌-◌, ℕ, List, subst, sym, All, arith}
use Rattle.std.proofs.lemmas.List.Elements.{All-push}
use Rattle.op_logic.specs.Term.{args_of, arity}
use Rattle.op_term.proofs.TermOrders.{ArePushed, none-pushed, one-pushed}
use Rattle.op_term.proofs.order.push_pairs.Goals as goal

pub down-init : goal.down-init
down-init g c =
    let term = g.T.Tree.term c.args.tree.now in
    record {
      pushed = none-pushed term (term c.args.a.now) (term c.args.b.now) c.args.todo.now.items c.args.n c.requires.left c.requires.right;
      there = c.requires.todo;
      within = omega arith;
    }

pub down-preserved : goal.down-preserved
down-preserved g c =
    let term = g.T.Tree.term c.args.tree.now in
    let place = g.T.Tree.IsPlace c.args.tree.now in
    let t = term c.args.a.now in
    let u = term c.args.b.now in
    let old = c.args.todo.now.items in
    let i = c.down.i - 1 in
    let l : i < arity (args_of t) = omega (arith, c.requires.left, c.down.invariant.within, c.down-test.true) in
    let r : i < arity (args_of u) = omega (arith, c.requires.right, c.down.invariant.within, c.down-test.true) in
    let e : c.down.i ≡ i + 1 = omega (arith, c.down-test.true) in
    let before = subst (λ (k : ℕ). ArePushed term t u old c.down.todo.items k) e c.down.invariant.pushed in
    record {
      pushed = one-pushed term t u old c.down.todo.items c.push.new.self.items i (c.part.result, c.part-in-down.result) l r
          c.part.ensures.value c.part-in-down.ensures.value c.in_ok-push.ensures.items before;
      there = subst (λ (ps : List _). All (λ p. place p.0 × place p.1) ps) (sym c.in_ok-push.ensures.items)
          (All-push (λ p. place p.0 × place p.1) c.down.todo.items (c.part.result, c.part-in-down.result) c.down.invariant.there
          (c.part.ensures.place, c.part-in-down.ensures.place));
      within = omega (arith, c.down.invariant.within);
    }
