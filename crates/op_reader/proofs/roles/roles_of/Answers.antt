use Rattle.std.proofs.Common.{◌+◌, ◌∙◌, subst, sym, ap, [], ℕ, drop}
use Rattle.std.specs.Prelude.{map, Option, All}
use Rattle.op_reader.specs.declared.row_kind.RowKind.TheVariants.{Clause}
use Rattle.op_reader.specs.Roles.{levels_of, an_operand}
use Rattle.op_reader.specs.inner.RoleLists.{WordBelow, word_in, roles_left, on_layers, with_roles, left_at, Advances}
use Rattle.op_reader.specs.declared.word.Word.{Word}
use Rattle.op_reader.proofs.JoinedRoles.{whole_err, first_left, stopped, finished}
use Rattle.op_reader.proofs.roles.roles_of.Goals as goal

pub returns-in-Some-clause-roles : goal.returns-in-Some-clause-roles
returns-in-Some-clause-roles c v outer =
    let refused = subst (λ (o : Option ℕ). Advances c.loop-word.spot c.loop-word.roles.items c.word-item.result c.advance.new.spot
    c.advance.new.roles.items o) c.in-Some.is c.in_ok-place.ensures.advances in
    whole_err c.args.stop (map (word_in v) c.args.words.now) c.in-Some.place outer
    (stopped v c.args.stop c.args.words.now c.loop-word.word-index c.word-item.result c.loop-word.roles.items c.loop-word.spot
    (roles_left Clause [] an_operand (levels_of c.args.stop (map (word_in v) c.args.words.now))) c.in-Some.place
    c.loop-word-test.true c.word-item.is (refused v) (c.loop-word.invariant.roles v))

pub returns-clause-roles : goal.returns-clause-roles
returns-clause-roles c =
    finished c.args.stop c.args.words.now c.loop-word.word-index c.loop-word.roles.items c.loop-word.spot c.ended.result
    c.loop-word-test.false c.loop-word.invariant.roles c.ended.ensures.ended

pub loop-word-preserved : goal.loop-word-preserved
loop-word-preserved c =
    let i = c.loop-word.word-index in
    let w = c.word-item.result in
    let advanced = subst (λ (o : Option ℕ). Advances c.loop-word.spot c.loop-word.roles.items w c.advance.new.spot
    c.advance.new.roles.items o) c.in_default.is c.in_ok-place.ensures.advances in
    let last : (n : ℕ) → All (WordBelow n) c.args.words.now → WordBelow n w =
    λ n h. subst (λ (u : Word). WordBelow n u) (sym c.word-item.is) (h i w c.loop-word-test.true) in record {
      roles = λ v. c.loop-word.invariant.roles v
          ∙ ap (λ l. on_layers (with_roles v c.loop-word.roles.items) (left_at v c.loop-word.spot l))
          (first_left v c.args.stop c.args.words.now i w c.loop-word-test.true c.word-item.is)
          ∙ advanced v (levels_of c.args.stop (map (word_in v) (drop (i + 1) c.args.words.now)));
      below = λ n h. c.in_ok-place.ensures.below n (last n h) (c.loop-word.invariant.below n h);
    }

pub returns-clause-below : goal.returns-clause-below
returns-clause-below c n h = c.ended.ensures.below n (c.loop-word.invariant.below n h)
