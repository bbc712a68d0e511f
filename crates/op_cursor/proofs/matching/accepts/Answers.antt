use Rattle.std.proofs.Common.{◌≡◌, [], ◌∷◌, ◌++◌, ℕ, List, true, false, subst, sym, ap, ◌∙◌, All, refl, arith}
use Rattle.op_logic.specs.Bind.{Pairs}
use Rattle.op_logic.specs.Names.{named}
use Rattle.op_term.specs.Places.{term_at}
use Rattle.op_trace.specs.Database.{Text}
use Rattle.op_moves.specs.EventTerm.{event_term}
use Rattle.op_moves.specs.Pairs.{all_matched, went_on}
use Rattle.op_event.specs.View.{event_in}
use Rattle.op_cursor.specs.declared.part.Part.{Part}
use Rattle.op_cursor.specs.declared.part.Part.TheVariants as part
use Rattle.op_cursor.specs.declared.part.Side.{Side}
use Rattle.op_cursor.specs.declared.part.Side.TheVariants as side
use Rattle.op_cursor.specs.inner.Parts.{part_term, side_term, IsPart}
use Rattle.op_cursor.specs.inner.Stacks.{pairs_from, values_from}
use Rattle.op_cursor.proofs.MatchingLoop.{IsMatching, matching-starts, matching-spent, matching-clashes, matching-goes}
use Rattle.op_cursor.proofs.PairStacks.{pairs-top, pairs-there, pairs-more}
use Rattle.op_cursor.proofs.matching.accepts.Goals as goal

pub pairs-init : goal.pairs-init
pairs-init c =
    let terms = c.args.whole.now.terms in
    let own = c.args.names.now in
    let v = c.args.view.now in
    let root = c.args.whole.now.root in
    let p = named own (term_at terms root) in
    let t = event_term (event_in v) in
    let n = c.args.fuel.now in
    let pair : Side × Part = (side.Pattern root, part.Whole) in
    let items : c.push.new.self.items ≡ pair ∷ [] =
    c.in_ok-push.ensures.ok ∙ (ap (λ (xs : List (Side × Part)). xs ++ (side.Pattern c.root.result, part.Whole) ∷ [])
    c.new-todo.ensures.items
    ∙ ap (λ (r : ℕ). (side.Pattern r, part.Whole) ∷ []) c.root.ensures.root) in
    record {
      matching = subst (λ (ps : Pairs Text). IsMatching p t n n (values_from v c.new-values.result.items []) ps)
          (sym (ap (λ (xs : List (Side × Part)). pairs_from terms own v xs []) items))
          (subst (λ (xs : List (ℕ × Part)). IsMatching p t n n (values_from v xs []) ((p, t) ∷ [])) (sym c.new-values.ensures.items)
          (matching-starts p t n));
      values = subst (λ (xs : List (ℕ × Part)). All (λ x. IsPart v x.1) xs) (sym c.new-values.ensures.items)
          (λ k d h. absurd (omega (arith, h)));
      there = pairs-more terms own v [] c.push.new.self.items pair items (λ k d h. absurd (omega (arith, h)))
          (c.requires.there, c.requires.names, tt);
      falls = omega arith;
    }

pub returns-in_err-spend-clause-spent : goal.returns-in_err-spend-clause-spent
returns-in_err-spend-clause-spent c = λ _.
    let terms = c.args.whole.now.terms in
    let own = c.args.names.now in
    let v = c.args.view.now in
    let p = named own (term_at terms c.args.whole.now.root) in
    let t = event_term (event_in v) in
    let pair : Side × Part = c.in-Some.pair in
    let σ = values_from v c.pairs.values.items [] in
    let qs = pairs_from terms own v c.pop.new.self.items [] in
    let m = subst (λ (ps : Pairs Text). IsMatching p t c.args.fuel.now c.pairs.fuel σ ps)
    (pairs-top terms own v c.pop.new.self.items c.pairs.todo.items pair c.in-Some.ensures.items) c.pairs.invariant.matching in
    matching-spent p t c.args.fuel.now c.pairs.fuel σ (side_term terms own v pair.0) (part_term v pair.1) qs m
    (c.in_err-spend.ensures.spent.0 refl)

pub take_pair-requires-clause-pair : goal.take_pair-requires-clause-pair
take_pair-requires-clause-pair c =
    (pairs-there c.args.whole.now.terms c.args.names.now c.args.view.now c.pop.new.self.items c.pairs.todo.items c.in-Some.pair
    c.in-Some.ensures.items c.pairs.invariant.there).0

pub take_pair-requires-clause-todo : goal.take_pair-requires-clause-todo
take_pair-requires-clause-todo c =
    (pairs-there c.args.whole.now.terms c.args.names.now c.args.view.now c.pop.new.self.items c.pairs.todo.items c.in-Some.pair
    c.in-Some.ensures.items c.pairs.invariant.there).1

pub returns-then-not-branch-clause-answer : goal.returns-then-not-branch-clause-answer
returns-then-not-branch-clause-answer c =
    let terms = c.args.whole.now.terms in
    let own = c.args.names.now in
    let v = c.args.view.now in
    let p = named own (term_at terms c.args.whole.now.root) in
    let t = event_term (event_in v) in
    let pair : Side × Part = c.in-Some.pair in
    let σ = values_from v c.pairs.values.items [] in
    let qs = pairs_from terms own v c.pop.new.self.items [] in
    let τ = values_from v c.take_pair.new.values.items [] in
    let rs = pairs_from terms own v c.take_pair.new.todo.items [] in
    let m = subst (λ (ps : Pairs Text). IsMatching p t c.args.fuel.now c.pairs.fuel σ ps)
    (pairs-top terms own v c.pop.new.self.items c.pairs.todo.items pair c.in-Some.ensures.items) c.pairs.invariant.matching in
    let no : c.in_ok-take_pair.field-0 ≡ false = c.if-not-branch.true in
    let e = subst (λ b. all_matched σ ((side_term terms own v pair.0, part_term v pair.1) ∷ qs) ≡ went_on b τ rs) no
    c.in_ok-take_pair.ensures.met in
    (matching-clashes p t c.args.fuel.now c.pairs.fuel σ (side_term terms own v pair.0) (part_term v pair.1) qs m c.spend.new.self τ rs
    c.in_ok-spend.ensures.ok e).0

pub returns-then-not-branch-clause-paid : goal.returns-then-not-branch-clause-paid
returns-then-not-branch-clause-paid c =
    let terms = c.args.whole.now.terms in
    let own = c.args.names.now in
    let v = c.args.view.now in
    let p = named own (term_at terms c.args.whole.now.root) in
    let t = event_term (event_in v) in
    let pair : Side × Part = c.in-Some.pair in
    let σ = values_from v c.pairs.values.items [] in
    let qs = pairs_from terms own v c.pop.new.self.items [] in
    let τ = values_from v c.take_pair.new.values.items [] in
    let rs = pairs_from terms own v c.take_pair.new.todo.items [] in
    let m = subst (λ (ps : Pairs Text). IsMatching p t c.args.fuel.now c.pairs.fuel σ ps)
    (pairs-top terms own v c.pop.new.self.items c.pairs.todo.items pair c.in-Some.ensures.items) c.pairs.invariant.matching in
    let no : c.in_ok-take_pair.field-0 ≡ false = c.if-not-branch.true in
    let e = subst (λ b. all_matched σ ((side_term terms own v pair.0, part_term v pair.1) ∷ qs) ≡ went_on b τ rs) no
    c.in_ok-take_pair.ensures.met in
    (matching-clashes p t c.args.fuel.now c.pairs.fuel σ (side_term terms own v pair.0) (part_term v pair.1) qs m c.spend.new.self τ rs
    c.in_ok-spend.ensures.ok e).1

pub pairs-preserved : goal.pairs-preserved
pairs-preserved c =
    let terms = c.args.whole.now.terms in
    let own = c.args.names.now in
    let v = c.args.view.now in
    let p = named own (term_at terms c.args.whole.now.root) in
    let t = event_term (event_in v) in
    let pair : Side × Part = c.in-Some.pair in
    let σ = values_from v c.pairs.values.items [] in
    let qs = pairs_from terms own v c.pop.new.self.items [] in
    let τ = values_from v c.take_pair.new.values.items [] in
    let rs = pairs_from terms own v c.take_pair.new.todo.items [] in
    let m = subst (λ (ps : Pairs Text). IsMatching p t c.args.fuel.now c.pairs.fuel σ ps)
    (pairs-top terms own v c.pop.new.self.items c.pairs.todo.items pair c.in-Some.ensures.items) c.pairs.invariant.matching in
    let yes : c.in_ok-take_pair.field-0 ≡ true = c.if-not-branch.false in
    let e = subst (λ b. all_matched σ ((side_term terms own v pair.0, part_term v pair.1) ∷ qs) ≡ went_on b τ rs) yes
    c.in_ok-take_pair.ensures.met in
    record {
      matching = matching-goes p t c.args.fuel.now c.pairs.fuel σ (side_term terms own v pair.0) (part_term v pair.1) qs m c.spend.new.self
          τ rs c.in_ok-spend.ensures.ok e;
      values = c.in_ok-take_pair.ensures.values;
      there = c.in_ok-take_pair.ensures.todo;
      falls = omega (arith, c.pairs.invariant.falls, c.in_ok-spend.ensures.ok);
    }
