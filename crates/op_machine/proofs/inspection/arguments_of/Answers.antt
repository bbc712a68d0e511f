use Rattle.std.proofs.Common.{◌≡◌, ◌<◌, ◌∙◌, List, [], length, sym, subst, All, arith}
use Rattle.std.proofs.lemmas.List.Elements.{All-push}
use Rattle.op_logic.specs.Term.{args_of, arity}
use Rattle.op_term.specs.Places.{term_at}
use Rattle.op_bind.specs.declared.places.Ref.{Ref}
use Rattle.op_machine.proofs.AddedArguments.{pushed-argument, between-all}
use Rattle.op_machine.proofs.inspection.arguments_of.Goals as goal

pub loop-i-preserved : goal.loop-i-preserved
loop-i-preserved c =
    let ts = c.args.bindings.now.terms in
    let t = term_at ts c.args.goal in
    let inside : c.loop-i.i < arity (args_of t) = omega (arith, c.requires.count, c.loop-i-test.true) in
    record {
      there = subst (λ (rs : List Ref). All (λ r. r < length ts) rs) (sym {A = List Ref} c.in_ok-push.ensures.ok)
          (All-push (λ r. r < length ts) c.loop-i.args.items c.argument.result c.loop-i.invariant.there c.argument.ensures.there);
      terms = pushed-argument ts t [] c.loop-i.args.items c.push.new.self.items 0 c.loop-i.i c.argument.result (omega arith) inside
          c.in_ok-push.ensures.ok c.argument.ensures.value c.loop-i.invariant.terms;
    }

pub returns-clause-terms : goal.returns-clause-terms
returns-clause-terms c =
    let t = term_at c.args.bindings.now.terms c.args.goal in
    let all : c.loop-i.i ≡ c.args.count = omega (arith, c.loop-i-test.false, c.loop-i.auto.i-end) in
    c.loop-i.invariant.terms ∙ between-all (args_of t) c.loop-i.i (sym (all ∙ c.requires.count))
