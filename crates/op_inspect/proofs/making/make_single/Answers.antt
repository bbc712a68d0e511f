use Rattle.std.proofs.Common.{◌≡◌, ◌<◌, [], ◌∷◌, length}
use Rattle.op_logic.specs.Term.{node, arg, no_args}
use Rattle.op_term.specs.Places.{term_at, args_at}
use Rattle.op_inspect.specs.Outcomes.{text_at}
use Rattle.op_inspect.specs.inner.Settings.{Makes}
use Rattle.op_inspect.proofs.MakingTerms.{makes-single, ok-both}
use Rattle.op_inspect.proofs.making.make_single.Goals as goal

pub returns-clause-made : goal.returns-clause-made
returns-clause-made c =
    let s = c.args.bindings.now in
    let t = c.compound.new.self in
    ok-both c.compound.result (λ r. r < length t.terms) (λ r. term_at t.terms r ≡ node c.in_ok-name.name.0 (args_at s.terms
    (c.args.part.now ∷ [])))
    (λ r. Makes c.args.symbols.now s c.intern.new.self t r (node c.args.text.now (arg
    (text_at c.args.symbols.now c.args.bindings.now c.args.part.now) no_args)))
    c.compound.ensures.there c.compound.ensures.value
    (λ r h e. makes-single c.args.symbols.now c.intern.new.self s t c.in_ok-name.ensures.kept c.compound.ensures.bindings
    c.compound.ensures.count
    r c.in_ok-name.name.0 c.args.text.now h c.in_ok-name.ensures.within c.in_ok-name.ensures.named c.args.part.now e c.requires.part)
