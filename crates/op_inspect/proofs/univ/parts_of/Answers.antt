use Rattle.std.proofs.Common.{◌≡◌, ◌<◌, ◌∷◌, [], ap, sym, ◌∙◌, subst, arith, length, All}
use Rattle.std.proofs.lemmas.List.Elements.{All-push}
use Rattle.op_logic.specs.Term.{arity, args_of}
use Rattle.op_term.proofs.ArgumentLists.{count-head, pushed-more, pushed-all}
use Rattle.op_term.specs.Arguments.{argument_count}
use Rattle.op_term.specs.Places.{term_at}
use Rattle.op_inspect.proofs.univ.parts_of.Goals as goal

pub push-preserved : goal.push-preserved
push-preserved c =
    let s = c.args.bindings.now in
    let t = term_at s.terms c.args.at.now in
    let count : c.arity-i-end.result ≡ arity (args_of t) =
    c.arity-i-end.ensures ∙ (ap argument_count c.outline.ensures ∙ count-head t) in
    let within : c.push.i < arity (args_of t) = omega (arith, c.push-test.true, count) in
    record {
      pushed = pushed-more (term_at s.terms) t (c.args.name.now ∷ []) c.push.parts.items c.push-in-push.new.self.items c.push.i
          c.argument.result within c.in_ok-push-2.ensures.items c.argument.ensures.value c.push.invariant.pushed;
      there = subst (All (λ r. r < length s.terms)) (sym c.in_ok-push-2.ensures.items)
          (All-push (λ r. r < length s.terms) c.push.parts.items c.argument.result c.push.invariant.there c.argument.ensures.there);
    }

pub returns-clause-terms : goal.returns-clause-terms
returns-clause-terms c =
    let s = c.args.bindings.now in
    let t = term_at s.terms c.args.at.now in
    let count : c.arity-i-end.result ≡ arity (args_of t) =
    c.arity-i-end.ensures ∙ (ap argument_count c.outline.ensures ∙ count-head t) in
    pushed-all (term_at s.terms) t (c.args.name.now ∷ []) c.push.parts.items c.push.i
    (omega (arith, c.push-test.false, c.push.auto.i-end, count)) c.push.invariant.pushed
