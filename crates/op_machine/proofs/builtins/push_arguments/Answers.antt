use Rattle.std.proofs.Common.{◌<◌, List, sym, subst, All, length, arith}
use Rattle.std.proofs.lemmas.List.Elements.{All-push}
use Rattle.op_logic.specs.Term.{args_of, arity}
use Rattle.op_term.specs.Places.{term_at}
use Rattle.op_bind.specs.declared.places.Ref.{Ref}
use Rattle.op_machine.proofs.AddedArguments.{pushed-argument}
use Rattle.op_machine.proofs.builtins.push_arguments.Goals as goal

pub loop-i-preserved : goal.loop-i-preserved
loop-i-preserved c =
    let ts = c.args.bindings.now.terms in
    let t = term_at ts c.args.goal in
    let inside : c.loop-i.i < arity (args_of t) = omega (arith, c.requires.within, c.loop-i-test.true) in
    record {
      there = subst (λ (rs : List Ref). All (λ r. r < length ts) rs) (sym {A = List Ref} c.in_ok-push.ensures.items)
          (All-push (λ r. r < length ts) c.loop-i.parts.items c.argument.result c.loop-i.invariant.there c.argument.ensures.there);
      terms = pushed-argument ts t c.args.parts.now.items c.loop-i.parts.items c.push.new.self.items c.args.from c.loop-i.i
          c.argument.result
          c.loop-i.auto.i inside c.in_ok-push.ensures.items c.argument.ensures.value c.loop-i.invariant.terms;
    }
