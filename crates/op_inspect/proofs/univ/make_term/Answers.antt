use Rattle.std.proofs.Common.{◌≡◌, ◌<◌, sym, ◌∙◌, length}
use Rattle.op_logic.specs.Term.{node}
use Rattle.op_term.proofs.Heads.{head-atom}
use Rattle.op_term.specs.Places.{term_at, args_at}
use Rattle.op_inspect.specs.Construction.{with_arguments}
use Rattle.op_inspect.specs.Outcomes.{text_at}
use Rattle.op_inspect.specs.inner.Seen.{texts}
use Rattle.op_inspect.specs.inner.Settings.{Makes}
use Rattle.op_inspect.proofs.ArgumentTexts.{there-at}
use Rattle.op_inspect.proofs.MakingFunctors.{no-count}
use Rattle.op_inspect.proofs.MakingParts.{makes-alone, makes-args}
use Rattle.op_inspect.proofs.MakingTerms.{ok-both}
use Rattle.op_inspect.proofs.TextsLater.{stays-self}
use Rattle.op_inspect.proofs.univ.make_term.Goals as goal

pub compound-requires-clause-there : goal.compound-requires-clause-there
compound-requires-clause-there c = there-at c.args.symbols.now c.args.bindings.now c.args.args.now c.requires.args

pub returns-then-args-eq0-clause-made : goal.returns-then-args-eq0-clause-made
returns-then-args-eq0-clause-made c =
    makes-alone c.args.symbols.now c.args.bindings.now c.args.name.now c.args.args.now c.requires.name c.requires.can c.if-args-eq0.true

pub returns-else-args-eq0-clause-made : goal.returns-else-args-eq0-clause-made
returns-else-args-eq0-clause-made c =
    let names = c.args.symbols.now in
    let s = c.args.bindings.now in
    let t = c.compound.new.self in
    let f = c.in-Atom.atom.0 in
    let q = c.args.name.now in
    let xs = c.args.args.now in
    ok-both c.compound.result (λ r. r < length t.terms) (λ r. term_at t.terms r ≡ node f (args_at s.terms xs))
    (λ r. Makes names s names t r (with_arguments (text_at names s q) (texts names s xs))) c.compound.ensures.there
    c.compound.ensures.value
    (λ r there value. makes-args names s t q r f xs c.requires.name
    (head-atom (term_at s.terms q) c.in-Atom.atom (sym c.outline.ensures ∙ c.in-Atom.is)) c.requires.args there value
    c.compound.ensures.bindings c.compound.ensures.count)

pub returns-in_default : goal.returns-in_default
returns-in_default c = record {
  made = makes-alone c.args.symbols.now c.args.bindings.now c.args.name.now c.args.args.now c.requires.name c.requires.can
      (no-count (term_at c.args.bindings.now.terms c.args.name.now) (length c.args.args.now) c.requires.can
      (λ f e. c.in_default.not-Atom f (c.outline.ensures ∙ e)));
  stays = stays-self c.args.symbols.now c.args.bindings.now;
}
