use Rattle.std.proofs.Common.{◌≡◌, [], ℕ, List, refl, reverse}
use Rattle.std.specs.Prelude.{codes}
use Rattle.op_logic.specs.Names.{name_at, named}
use Rattle.op_store.specs.inner.Converted.{texts_at, paired}
use Rattle.op_store.specs.declared.bodies.body_node.BodyNode.TheVariants as nodes
use Rattle.op_store.proofs.ProcedureLaws.{on-ok}
use Rattle.op_store.proofs.BodyTerms.{one-there, took-pair}
use Rattle.op_store.proofs.bodies.build_body.push_part.Goals as goal

pub push_call-requires-clause-one : goal.push_call-requires-clause-one
push_call-requires-clause-one g c =
    one-there [] c.push_goal-in-CallOf.new.made c.push_goal-in-CallOf.new.stack.items
    (named [] (g.T.Tree.term c.args.tree.now c.in-CallOf.at)) (texts_at [] c.args.made.now (reverse c.args.stack.now.items))
    (c.in_ok-push_goal-in-CallOf.ensures.goal [])

pub returns-in-And-clause-took : goal.returns-in-And-clause-took
returns-in-And-clause-took g c =
    on-ok c.push_pair.result
    (λ (q : (names : List (List ℕ)) → texts_at names c.push_pair.new.made (reverse c.push_pair.new.stack.items)
    ≡ paired (name_at names c.args.known.comma.0) (texts_at names c.args.made.now (reverse c.args.stack.now.items))).
    λ names bodies k h.
    took-pair (λ p. named names (g.T.Tree.term c.args.tree.now p)) c.args.node (nodes.And c.in-And.field-0 c.in-And.field-1) (codes ",")
    (name_at names c.args.known.comma.0) names c.args.made.now c.args.stack.now.items bodies
    (texts_at names c.push_pair.new.made (reverse c.push_pair.new.stack.items)) c.in-And.is refl c.requires.parts k.comma (λ t u s. refl) h
    (q names))
    c.push_pair.ensures.paired

pub returns-in-Or-clause-took : goal.returns-in-Or-clause-took
returns-in-Or-clause-took g c =
    on-ok c.push_pair-in-Or.result
    (λ (q : (names : List (List ℕ)) → texts_at names c.push_pair-in-Or.new.made (reverse c.push_pair-in-Or.new.stack.items)
    ≡ paired (name_at names c.args.known.semicolon.0) (texts_at names c.args.made.now (reverse c.args.stack.now.items))).
    λ names bodies k h.
    took-pair (λ p. named names (g.T.Tree.term c.args.tree.now p)) c.args.node (nodes.Or c.in-Or.field-0 c.in-Or.field-1) (codes ";")
    (name_at names c.args.known.semicolon.0) names c.args.made.now c.args.stack.now.items bodies
    (texts_at names c.push_pair-in-Or.new.made (reverse c.push_pair-in-Or.new.stack.items)) c.in-Or.is refl c.requires.parts k.semicolon
    (λ t u s. refl) h (q names))
    c.push_pair-in-Or.ensures.paired

pub returns-in-Then-clause-took : goal.returns-in-Then-clause-took
returns-in-Then-clause-took g c =
    on-ok c.push_pair-in-Then.result
    (λ (q : (names : List (List ℕ)) → texts_at names c.push_pair-in-Then.new.made (reverse c.push_pair-in-Then.new.stack.items)
    ≡ paired (name_at names c.args.known.arrow.0) (texts_at names c.args.made.now (reverse c.args.stack.now.items))).
    λ names bodies k h.
    took-pair (λ p. named names (g.T.Tree.term c.args.tree.now p)) c.args.node (nodes.Then c.in-Then.field-0 c.in-Then.field-1) (codes "->")
    (name_at names c.args.known.arrow.0) names c.args.made.now c.args.stack.now.items bodies
    (texts_at names c.push_pair-in-Then.new.made (reverse c.push_pair-in-Then.new.stack.items)) c.in-Then.is refl c.requires.parts k.arrow
    (λ t u s. refl) h (q names))
    c.push_pair-in-Then.ensures.paired
