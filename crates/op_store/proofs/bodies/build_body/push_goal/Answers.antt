use Rattle.std.proofs.Common.{◌∷◌, reverse, ap, ◌∙◌}
use Rattle.op_logic.specs.Term.{Term}
use Rattle.op_logic.specs.Names.{named}
use Rattle.op_store.specs.inner.Converted.{texts_at}
use Rattle.std.proofs.Common.{ℕ}
use Rattle.op_store.proofs.BodyTerms.{joined-below, joined-texts}
use Rattle.op_store.proofs.bodies.build_body.push_goal.Goals as goal

pub returns-clause-there : goal.returns-clause-there
returns-clause-there g c =
    joined-below c.args.made.now c.copy_term.new.made c.args.stack.now.items c.in_ok-root.root c.push.new.self.items
    c.copy_term.ensures.kept c.in_ok-root.ensures.there c.in_ok-push.ensures.items c.requires.there

pub returns-clause-goal : goal.returns-clause-goal
returns-clause-goal g c = λ names.
    joined-texts names c.args.made.now c.copy_term.new.made c.args.stack.now.items c.in_ok-root.root c.push.new.self.items
    c.copy_term.ensures.kept c.in_ok-push.ensures.items c.requires.there
    ∙ ap (λ (t : Term ℕ). named names t ∷ texts_at names c.args.made.now (reverse c.args.stack.now.items)) c.in_ok-root.ensures.term
