use Rattle.std.proofs.Common.{◌≡◌, ◌==◌, false, ap, sym, ◌∙◌, List, ℕ, arith}
use Rattle.std.proofs.lemmas.Bool.Decides.{nat_tests}
use Rattle.op_logic.specs.Names.{name_at}
use Rattle.op_session.specs.inner.Parts.{is_control_pair_name}
use Rattle.op_session.proofs.RunnableBodies.{control_pair-two, control_pair-other}
use Rattle.op_session.proofs.runnable.is_control_pair.Goals as goal

pub returns-then-arity-eq2 : goal.returns-then-arity-eq2
returns-then-arity-eq2 g c =
    c.is_control_pair_name.ensures ∙ ap (λ (x : List ℕ). is_control_pair_name x) c.name_of.ensures
    ∙ ap (λ (ns : List (List ℕ)). is_control_pair_name (name_at ns c.in-Struct.name.0)) c.symbols.ensures.names
    ∙ control_pair-two c.args.store.now.names (g.T.Tree.term c.args.tree.now c.args.at.now) c.in-Struct.name c.in-Struct.arity
    c.in-Struct.ensures c.if-arity-eq2.true

pub returns-else-arity-eq2 : goal.returns-else-arity-eq2
returns-else-arity-eq2 g c =
    let other = control_pair-other c.args.store.now.names (g.T.Tree.term c.args.tree.now c.args.at.now) c.in-Struct.name
    c.in-Struct.arity c.in-Struct.ensures c.if-arity-eq2.false in
    let no : (c.in-Struct.arity == 2) ≡ false = grind (arith, nat_tests, c.if-arity-eq2.false) in
    no ∙ sym other
