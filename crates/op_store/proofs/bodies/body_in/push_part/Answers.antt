use Rattle.std.proofs.Common.{◌≡◌, ◌<◌, [], ◌∷◌, ℕ, List, All, length, reverse, refl, sym, ap, subst, arith}
use Rattle.std.specs.Prelude.{codes}
use Rattle.op_logic.specs.Names.{name_at, named, HasNames}
use Rattle.op_term.specs.Places.{term_at}
use Rattle.op_term.specs.inner.Cells.{AllBelow}
use Rattle.op_bind.proofs.StateGrowth.{grows-self}
use Rattle.op_store.specs.Nodes.{leaves}
use Rattle.op_store.specs.inner.Converted.{AreNamed, texts_at, paired, called}
use Rattle.op_store.specs.declared.bodies.body_node.BodyNode.{BodyNode}
use Rattle.op_store.specs.declared.bodies.body_node.BodyNode.TheVariants as nodes
use Rattle.op_store.proofs.ProcedureLaws.{on-ok}
use Rattle.op_store.proofs.BodyTerms.{took-goal, took-call, took-pair}
use Rattle.op_store.proofs.bodies.body_in.push_part.Goals as goal

pub returns-in-Goal-clause-there : goal.returns-in-Goal-clause-there
returns-in-Goal-clause-there c =
    let old = c.args.made.now.terms in
    let all = subst (λ (x : BodyNode ℕ). All (λ p. p < length old) (leaves (x ∷ []))) c.in-Goal.is c.requires.places in
    on-ok c.push_goal.result
    (λ (q : reverse c.push_goal.new.stack.items ≡ c.in-Goal.at ∷ reverse c.args.stack.now.items).
    subst (λ (ks : List ℕ). AllBelow (length old) ks) (sym q) (all 0 c.in-Goal.at (omega arith), c.requires.there))
    c.push_goal.ensures

pub returns-in-Goal-clause-took : goal.returns-in-Goal-clause-took
returns-in-Goal-clause-took c =
    let old = c.args.made.now.terms in
    on-ok c.push_goal.result
    (λ (q : reverse c.push_goal.new.stack.items ≡ c.in-Goal.at ∷ reverse c.args.stack.now.items).
    λ names bodies k h.
    took-goal (λ p. named names (term_at old p)) c.args.part c.in-Goal.at bodies (texts_at names old (reverse c.args.stack.now.items))
    (texts_at names old (reverse c.push_goal.new.stack.items)) c.in-Goal.is h (ap (texts_at names old) q))
    c.push_goal.ensures

pub returns-in-Goal-clause-named : goal.returns-in-Goal-clause-named
returns-in-Goal-clause-named c =
    let old = c.args.made.now.terms in
    on-ok c.push_goal.result
    (λ (q : reverse c.push_goal.new.stack.items ≡ c.in-Goal.at ∷ reverse c.args.stack.now.items).
    λ names k h m.
    let all = subst (λ (x : BodyNode ℕ). All (λ p. HasNames (length names) (term_at old p)) (leaves (x ∷ []))) c.in-Goal.is h in
    subst (λ (ks : List ℕ). AreNamed (length names) old ks) (sym q) (all 0 c.in-Goal.at (omega arith), m))
    c.push_goal.ensures

pub returns-in-Goal-clause-grows : goal.returns-in-Goal-clause-grows
returns-in-Goal-clause-grows c = grows-self c.args.made.now

pub push_call-requires-clause-place : goal.push_call-requires-clause-place
push_call-requires-clause-place c =
    let old = c.args.made.now.terms in
    let all = subst (λ (x : BodyNode ℕ). All (λ p. p < length old) (leaves (x ∷ []))) c.in-CallOf.is c.requires.places in
    all 0 c.in-CallOf.at (omega arith)

pub returns-in-CallOf-clause-took : goal.returns-in-CallOf-clause-took
returns-in-CallOf-clause-took c =
    let old = c.args.made.now.terms in
    let more = c.push_call.new.made.terms in
    on-ok c.push_call.result
    (λ (q : (names : List (List ℕ)) → texts_at names more (reverse c.push_call.new.stack.items)
    ≡ called (name_at names c.args.known.call.0) (texts_at names old (c.in-CallOf.at ∷ reverse c.args.stack.now.items))).
    λ names bodies k h.
    took-call (λ p. named names (term_at old p)) c.args.part c.in-CallOf.at (name_at names c.args.known.call.0) bodies
    (texts_at names old (reverse c.args.stack.now.items)) (texts_at names more (reverse c.push_call.new.stack.items)) c.in-CallOf.is k.call
    h (q names))
    c.push_call.ensures.called

pub returns-in-CallOf-clause-named : goal.returns-in-CallOf-clause-named
returns-in-CallOf-clause-named c =
    let old = c.args.made.now.terms in
    on-ok c.push_call.result
    (λ (q : (n : ℕ) → c.args.known.call.0 < n → AreNamed n old (c.in-CallOf.at ∷ reverse c.args.stack.now.items)
    → AreNamed n c.push_call.new.made.terms (reverse c.push_call.new.stack.items)).
    λ names k h m.
    let all = subst (λ (x : BodyNode ℕ). All (λ p. HasNames (length names) (term_at old p)) (leaves (x ∷ []))) c.in-CallOf.is h in
    q (length names) k.call_there (all 0 c.in-CallOf.at (omega arith), m))
    c.push_call.ensures.named

pub returns-in-And-clause-took : goal.returns-in-And-clause-took
returns-in-And-clause-took c =
    let old = c.args.made.now.terms in
    let more = c.push_pair.new.made.terms in
    on-ok c.push_pair.result
    (λ (q : (names : List (List ℕ)) → texts_at names more (reverse c.push_pair.new.stack.items)
    ≡ paired (name_at names c.args.known.comma.0) (texts_at names old (reverse c.args.stack.now.items))).
    λ names bodies k h.
    took-pair (λ p. named names (term_at old p)) c.args.part (nodes.And c.in-And.field-0 c.in-And.field-1) (codes ",")
    (name_at names c.args.known.comma.0) names old c.args.stack.now.items bodies (texts_at names more (reverse c.push_pair.new.stack.items))
    c.in-And.is refl c.requires.parts k.comma (λ t u s. refl) h (q names))
    c.push_pair.ensures.paired

pub returns-in-And-clause-named : goal.returns-in-And-clause-named
returns-in-And-clause-named c =
    on-ok c.push_pair.result
    (λ (q : (n : ℕ) → c.args.known.comma.0 < n → AreNamed n c.args.made.now.terms (reverse c.args.stack.now.items)
    → AreNamed n c.push_pair.new.made.terms (reverse c.push_pair.new.stack.items)).
    λ names k h m. q (length names) k.comma_there m)
    c.push_pair.ensures.named

pub returns-in-Or-clause-took : goal.returns-in-Or-clause-took
returns-in-Or-clause-took c =
    let old = c.args.made.now.terms in
    let more = c.push_pair-in-Or.new.made.terms in
    on-ok c.push_pair-in-Or.result
    (λ (q : (names : List (List ℕ)) → texts_at names more (reverse c.push_pair-in-Or.new.stack.items)
    ≡ paired (name_at names c.args.known.semicolon.0) (texts_at names old (reverse c.args.stack.now.items))).
    λ names bodies k h.
    took-pair (λ p. named names (term_at old p)) c.args.part (nodes.Or c.in-Or.field-0 c.in-Or.field-1) (codes ";")
    (name_at names c.args.known.semicolon.0) names old c.args.stack.now.items bodies
    (texts_at names more (reverse c.push_pair-in-Or.new.stack.items))
    c.in-Or.is refl c.requires.parts k.semicolon (λ t u s. refl) h (q names))
    c.push_pair-in-Or.ensures.paired

pub returns-in-Or-clause-named : goal.returns-in-Or-clause-named
returns-in-Or-clause-named c =
    on-ok c.push_pair-in-Or.result
    (λ (q : (n : ℕ) → c.args.known.semicolon.0 < n → AreNamed n c.args.made.now.terms (reverse c.args.stack.now.items)
    → AreNamed n c.push_pair-in-Or.new.made.terms (reverse c.push_pair-in-Or.new.stack.items)).
    λ names k h m. q (length names) k.semicolon_there m)
    c.push_pair-in-Or.ensures.named

pub returns-in-Then-clause-took : goal.returns-in-Then-clause-took
returns-in-Then-clause-took c =
    let old = c.args.made.now.terms in
    let more = c.push_pair-in-Then.new.made.terms in
    on-ok c.push_pair-in-Then.result
    (λ (q : (names : List (List ℕ)) → texts_at names more (reverse c.push_pair-in-Then.new.stack.items)
    ≡ paired (name_at names c.args.known.arrow.0) (texts_at names old (reverse c.args.stack.now.items))).
    λ names bodies k h.
    took-pair (λ p. named names (term_at old p)) c.args.part (nodes.Then c.in-Then.field-0 c.in-Then.field-1) (codes "->")
    (name_at names c.args.known.arrow.0) names old c.args.stack.now.items bodies
    (texts_at names more (reverse c.push_pair-in-Then.new.stack.items))
    c.in-Then.is refl c.requires.parts k.arrow (λ t u s. refl) h (q names))
    c.push_pair-in-Then.ensures.paired

pub returns-in-Then-clause-named : goal.returns-in-Then-clause-named
returns-in-Then-clause-named c =
    on-ok c.push_pair-in-Then.result
    (λ (q : (n : ℕ) → c.args.known.arrow.0 < n → AreNamed n c.args.made.now.terms (reverse c.args.stack.now.items)
    → AreNamed n c.push_pair-in-Then.new.made.terms (reverse c.push_pair-in-Then.new.stack.items)).
    λ names k h m. q (length names) k.arrow_there m)
    c.push_pair-in-Then.ensures.named
