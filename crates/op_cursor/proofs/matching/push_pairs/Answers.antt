use Rattle.std.proofs.Common.{◌≡◌, ◌<◌, ◌+◌, ◌-◌, ℕ, length, subst, arith}
use Rattle.op_logic.specs.Term.{args_of, arity}
use Rattle.op_cursor.specs.declared.part.Part.{Part}
use Rattle.op_cursor.specs.declared.part.Side.{Side}
use Rattle.op_cursor.specs.inner.Parts.{part_term, side_term}
use Rattle.op_cursor.proofs.PairStacks.{ArePushed, none-pushed, one-pushed, pairs-more}
use Rattle.op_cursor.proofs.FollowedSides.{side-arity}
use Rattle.op_cursor.proofs.matching.push_pairs.Goals as goal

pub down-init : goal.down-init
down-init c =
    let terms = c.args.whole.now.terms in
    let own = c.args.names.now in
    let v = c.args.view.now in
    record {
      pushed = none-pushed terms own v (side_term terms own v c.args.side.now) (part_term v c.args.part.now) c.args.todo.now.items c.args.n
          c.requires.left;
      there = c.requires.todo;
      within = omega arith;
    }

pub side_argument-left-requires-clause-there : goal.side_argument-left-requires-clause-there
side_argument-left-requires-clause-there c = λ own.
    let e = side-arity c.args.whole.now.terms own c.args.names.now c.args.view.now c.args.side.now in
    omega (arith, e, c.requires.left, c.down.invariant.within, c.down-test.true)

pub down-preserved : goal.down-preserved
down-preserved c =
    let terms = c.args.whole.now.terms in
    let own = c.args.names.now in
    let v = c.args.view.now in
    let t = side_term terms own v c.args.side.now in
    let u = part_term v c.args.part.now in
    let old = c.args.todo.now.items in
    let i = c.down.i - 1 in
    let l : i < arity (args_of t) = omega (arith, c.requires.left, c.down.invariant.within, c.down-test.true) in
    let r : i < arity (args_of u) = omega (arith, c.requires.right, c.down.invariant.within, c.down-test.true) in
    let e : c.down.i ≡ i + 1 = omega (arith, c.down-test.true) in
    let before = subst (λ (k : ℕ). ArePushed terms own v t u old c.down.todo.items k) e c.down.invariant.pushed in
    let pair : Side × Part = (c.side_argument-left.result, c.argument-right.result) in
    record {
      pushed = one-pushed terms own v t u old c.down.todo.items c.push.new.self.items i pair l r
          (c.side_argument-left.ensures.value own) c.argument-right.ensures.value c.in_ok-push.ensures.ok before;
      there = pairs-more terms own v c.down.todo.items c.push.new.self.items pair c.in_ok-push.ensures.ok c.down.invariant.there (
        c.side_argument-left.ensures.side,
        c.side_argument-left.ensures.names (length own) c.requires.pair.1,
        c.argument-right.ensures.part,
      );
      within = omega (arith, c.down.invariant.within);
    }
