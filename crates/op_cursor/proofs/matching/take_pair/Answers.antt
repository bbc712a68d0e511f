use Rattle.std.proofs.Common.{◌≡◌, ℕ, true, List, [], ◌∷◌, length, sym, ◌∙◌, ap, subst}
use Rattle.op_logic.specs.Term.{Term, args_of, arity}
use Rattle.op_logic.specs.Bind.{zip_args}
use Rattle.op_trace.specs.Database.{Text}
use Rattle.op_moves.specs.Pattern.{pairs_more}
use Rattle.op_moves.specs.Pairs.{all_matched, head_of, same_head, variable, went_on}
use Rattle.op_cursor.specs.declared.part.Part.{Part}
use Rattle.op_cursor.specs.inner.Outlines.{outlined}
use Rattle.op_cursor.specs.inner.Parts.{part_term, side_term}
use Rattle.op_cursor.specs.inner.Stacks.{pairs_from, values_from, IsFollowed}
use Rattle.op_moves.proofs.MatchedPairs.{node-met, free-met}
use Rattle.op_cursor.proofs.PairStacks.{values-push}
use Rattle.op_cursor.proofs.FollowedSides.{head-variable, count-arity, node-outline, heads-arity}
use Rattle.op_cursor.proofs.matching.take_pair.Goals as goal

pub side_outline-left-requires : goal.side_outline-left-requires
side_outline-left-requires c =
    let f : IsFollowed c.args.whole.now.terms c.args.values.now.items c.args.side.now c.followed-side.result =
    subst (λ (xs : List (ℕ × Part)). IsFollowed c.args.whole.now.terms xs c.args.side.now c.followed-side.result) c.as_slice.ensures
    c.followed-side.ensures in
    f.side c.args.view.now c.requires.pair.0 c.requires.values

pub returns-in-Variable-clause-met : goal.returns-in-Variable-clause-met
returns-in-Variable-clause-met c =
    let terms = c.args.whole.now.terms in
    let own = c.args.names.now in
    let v = c.args.view.now in
    let items = c.args.values.now.items in
    let f : IsFollowed terms items c.args.side.now c.followed-side.result =
    subst (λ (xs : List (ℕ × Part)). IsFollowed terms xs c.args.side.now c.followed-side.result) c.as_slice.ensures
    c.followed-side.ensures in
    let t = part_term v c.args.part.now in
    let qs = pairs_from terms own v c.args.todo.now.items [] in
    let e : variable c.in-Variable.v ≡ head_of (side_term terms own v c.followed-side.result) = c.in-Variable.ensures.outline own in
    let pair : ℕ × Part = (c.in-Variable.v, c.args.part.now) in
    f.same own v t qs
    ∙ (ap (λ (x : Term Text). all_matched (values_from v items []) ((x, t) ∷ qs))
    (head-variable (side_term terms own v c.followed-side.result) c.in-Variable.v e)
    ∙ (free-met (values_from v items []) c.in-Variable.v t qs (f.free own v c.in-Variable.v e)
    ∙ ap (λ τ. pairs_more 1 (all_matched τ qs)) (sym (values-push v items c.push.new.self.items pair c.in_ok-push.ensures.ok))))

pub agree-requires : goal.agree-requires
agree-requires c =
    let f : IsFollowed c.args.whole.now.terms c.args.values.now.items c.args.side.now c.followed-side.result =
    subst (λ (xs : List (ℕ × Part)). IsFollowed c.args.whole.now.terms xs c.args.side.now c.followed-side.result) c.as_slice.ensures
    c.followed-side.ensures in
    let n = length c.args.names.now in
    record {
      left = c.side_outline-left.ensures.texts n (f.names n c.requires.pair.1);
      right = c.part_outline.ensures.texts n;
    }

pub push_pairs-requires : goal.push_pairs-requires
push_pairs-requires c =
    let terms = c.args.whole.now.terms in
    let own = c.args.names.now in
    let v = c.args.view.now in
    let f : IsFollowed terms c.args.values.now.items c.args.side.now c.followed-side.result =
    subst (λ (xs : List (ℕ × Part)). IsFollowed terms xs c.args.side.now c.followed-side.result) c.as_slice.ensures
    c.followed-side.ensures in
    let s = side_term terms own v c.followed-side.result in
    let t = part_term v c.args.part.now in
    let left = c.side_outline-left.ensures.outline own in
    let right = c.part_outline.ensures.outline own in
    let yes : c.agree.result ≡ true = c.if-not-agree.false in
    let same : same_head (head_of s) (head_of t) ≡ true =
    ap (λ h. same_head h (head_of t)) (sym left) ∙ (ap (same_head (outlined own v.names c.side_outline-left.result)) (sym right)
    ∙ (sym c.agree.ensures ∙ yes)) in
    let n : c.count.result ≡ arity (args_of s) = c.count.ensures ∙ count-arity own v.names c.side_outline-left.result s left in
    record {
      pair = (f.side v c.requires.pair.0 c.requires.values, f.names (length own) c.requires.pair.1, c.requires.pair.2);
      left = n;
      right = n ∙ heads-arity s t same;
      todo = c.requires.todo;
    }

pub returns : goal.returns
returns c =
    let terms = c.args.whole.now.terms in
    let own = c.args.names.now in
    let v = c.args.view.now in
    let items = c.args.values.now.items in
    let f : IsFollowed terms items c.args.side.now c.followed-side.result =
    subst (λ (xs : List (ℕ × Part)). IsFollowed terms xs c.args.side.now c.followed-side.result) c.as_slice.ensures
    c.followed-side.ensures in
    let s = side_term terms own v c.followed-side.result in
    let t = part_term v c.args.part.now in
    let σ = values_from v items [] in
    let qs = pairs_from terms own v c.args.todo.now.items [] in
    let left = c.side_outline-left.ensures.outline own in
    let right = c.part_outline.ensures.outline own in
    let yes : c.agree.result ≡ true = c.if-not-agree.false in
    let same : same_head (head_of s) (head_of t) ≡ true =
    ap (λ h. same_head h (head_of t)) (sym left) ∙ (ap (same_head (outlined own v.names c.side_outline-left.result)) (sym right)
    ∙ (sym c.agree.ensures ∙ yes)) in
    let node = node-outline own v.names c.side_outline-left.result s left c.in_default.not-Variable in
    record {
      met = f.same own v t qs ∙ (node-met σ s t qs node ∙ (ap (λ b. went_on b σ (zip_args (args_of s) (args_of t) qs)) same
          ∙ ap (λ ps. pairs_more 1 (all_matched σ ps)) (sym c.in_ok-push_pairs.ensures.pairs)));
      values = c.requires.values;
      todo = c.in_ok-push_pairs.ensures.todo;
    }
