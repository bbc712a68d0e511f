use Rattle.std.proofs.Common.{sym, ◌∙◌, arith}
use Rattle.op_term.proofs.Heads.{head-atom}
use Rattle.op_term.specs.Places.{term_at}
use Rattle.op_inspect.specs.Construction.{variables_from, with_arguments}
use Rattle.op_inspect.specs.Outcomes.{text_at}
use Rattle.op_inspect.specs.inner.Made.{MakesNew}
use Rattle.op_inspect.proofs.MakingFunctors.{makes-compound, makes-itself, no-count, ok-three}
use Rattle.op_inspect.proofs.TextsLater.{stays-self}
use Rattle.op_inspect.proofs.functor.make_functor.Goals as goal

pub make_compound-requires : goal.make_compound-requires
make_compound-requires c = omega (arith, c.if-count-eq0.false)

pub returns-then-count-eq0-clause-made : goal.returns-then-count-eq0-clause-made
returns-then-count-eq0-clause-made c =
    makes-itself c.args.symbols.now c.args.bindings.now c.args.name.now c.args.count c.requires.name c.requires.can c.if-count-eq0.true

pub returns-else-count-eq0-clause-made : goal.returns-else-count-eq0-clause-made
returns-else-count-eq0-clause-made c =
    let names = c.args.symbols.now in
    let s = c.args.bindings.now in
    let t = c.make_compound.new.bindings in
    let f = c.in-Atom.atom.0 in
    let q = c.args.name.now in
    ok-three c.make_compound.result t.terms s.count c.args.count t.count f
    (MakesNew names s t) (with_arguments (text_at names s q) (variables_from s.count c.args.count))
    c.make_compound.ensures.there c.make_compound.ensures.value c.make_compound.ensures.count
    (λ r there value count. makes-compound names s t q r f c.args.count c.requires.name
    (head-atom (term_at s.terms q) c.in-Atom.atom (sym c.outline.ensures ∙ c.in-Atom.is)) there value c.make_compound.ensures.bindings count)

pub returns-in_default : goal.returns-in_default
returns-in_default c = record {
  made = makes-itself c.args.symbols.now c.args.bindings.now c.args.name.now c.args.count c.requires.name c.requires.can
      (no-count (term_at c.args.bindings.now.terms c.args.name.now) c.args.count c.requires.can
      (λ f e. c.in_default.not-Atom f (c.outline.ensures ∙ e)));
  stays = stays-self c.args.symbols.now c.args.bindings.now;
}
