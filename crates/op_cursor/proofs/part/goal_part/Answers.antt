use Rattle.std.proofs.Common.{◌≡◌, ◌<◌, sym, ◌∙◌, ap, subst, ℕ, arith, length}
use Rattle.op_logic.specs.Term.{Term, args_of, arity, nth_arg}
use Rattle.op_logic.specs.Names.{named, HasNames}
use Rattle.op_term.specs.Head.{head}
use Rattle.op_term.specs.declared.node.Node.TheVariants.{Var}
use Rattle.op_bind.specs.State.{State, value_of}
use Rattle.op_moves.specs.EventTerm.{shown}
use Rattle.op_cursor.proofs.EventParts.{arity-goal, nth-goal, part-names}
use Rattle.op_cursor.proofs.part.goal_part.Goals as goal

pub part-requires : goal.part-requires
part-requires c =
    let s = c.args.view.now.state in
    let t = value_of s c.args.at in
    let names = c.args.view.now.names in
    let e : c.bindings-bindings.result.now ≡ s = c.bindings-bindings.ensures in
    let no : (v : ℕ) → head t ≡ Var v → ⊥ =
    λ v h. c.in_default.not-Var v (c.head_of.ensures ∙ (ap (λ (x : State). head (value_of x c.args.at)) e ∙ h)) in
    let l : c.args.i < arity (args_of t) = omega (arith, arity-goal names t no, c.requires.there) in
    record {
      place = subst (λ (x : State). c.args.at < length x.terms) (sym e) c.requires.part.0;
      there = subst (λ (x : State). c.args.i < arity (args_of (value_of x c.args.at))) (sym e) l;
    }

pub returns-in_default : goal.returns-in_default
returns-in_default c =
    let s = c.args.view.now.state in
    let t = value_of s c.args.at in
    let names = c.args.view.now.names in
    let e : c.bindings-bindings.result.now ≡ s = c.bindings-bindings.ensures in
    let no : (v : ℕ) → head t ≡ Var v → ⊥ =
    λ v h. c.in_default.not-Var v (c.head_of.ensures ∙ (ap (λ (x : State). head (value_of x c.args.at)) e ∙ h)) in
    let l : c.args.i < arity (args_of t) = omega (arith, arity-goal names t no, c.requires.there) in
    let p : c.part.result < length s.terms = subst (λ (x : State). c.part.result < length x.terms) e c.part.ensures.place in
    let q = subst (λ (x : State). value_of x c.part.result ≡ nth_arg (args_of (value_of x c.args.at)) c.args.i) e c.part.ensures.value in
    record {
      part = (p, subst (λ (x : Term ℕ). HasNames (length names) x) (sym q) (part-names (length names) t c.args.i c.requires.part.1));
      value = ap (λ (x : Term ℕ). shown (named names x)) q ∙ sym (nth-goal names t no c.args.i l);
    }
