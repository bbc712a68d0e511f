use Rattle.std.proofs.Common.{◌+◌, ap, sym, Err, length, subst}
use Rattle.op_logic.specs.Term.{size}
use Rattle.op_logic.specs.Names.{named, HasNames}
use Rattle.op_term.specs.Variables.{distinct_variables}
use Rattle.op_bind.specs.State.{value_of}
use Rattle.op_bind.specs.Copied as copies
use Rattle.op_inspect.specs.Answering.{unify_terms}
use Rattle.op_inspect.specs.Copies.{copy_act}
use Rattle.op_inspect.specs.Outcomes.{text_at, texts_of}
use Rattle.op_inspect.proofs.Acting.{paid-fault}
use Rattle.op_inspect.proofs.NamedCopies.{copied-names}
use Rattle.op_inspect.proofs.TextsLater.{stays-self}
use Rattle.op_inspect.proofs.Values.{value-known, copied-answers, copy-value}
use Rattle.op_inspect.proofs.copies.copy.Goals as goal

pub unify_terms-requires-clause-b : goal.unify_terms-requires-clause-b
unify_terms-requires-clause-b c = (
  c.in-Ok.ensures.there,
  subst (HasNames (length c.args.symbols.now)) (sym c.in-Ok.ensures.value)
      (copied-names (length c.args.symbols.now) c.args.bindings.now.count (value_of c.args.bindings.now c.args.term.now)
      (value-known c.args.symbols.now c.args.bindings.now c.args.term.now c.requires.setting c.requires.term)),
)

pub returns-in-Ok : goal.returns-in-Ok
returns-in-Ok c =
    copied-answers c.args.symbols.now c.args.bindings.now c.args.term.now c.args.other.now c.in-Ok.copy c.copy.new.self
    c.unify_terms.new.bindings
    c.args.fuel.now c.copy.new.fuel c.unify_terms.new.fuel c.unify_terms.result c.requires.setting c.requires.other c.in-Ok.ensures.grows
    c.in-Ok.ensures.bindings c.in-Ok.ensures.count c.in-Ok.ensures.value c.in-Ok.ensures.paid c.unify_terms.ensures

pub returns-in-Err : goal.returns-in-Err
returns-in-Err c =
    let names = c.args.symbols.now in
    let s = c.args.bindings.now in
    let v = value_of s c.args.term.now in
    let other = text_at names s c.args.other.now in
    paid-fault (copy_act (text_at names s c.args.term.now) other c.args.fuel.now (texts_of names s)) (size v)
    (λ l w. unify_terms other (named names (copies.copied w.variables v)) l (texts_of names s) w
    (record w { variables = w.variables + length (distinct_variables v) })) names names s c.copy.new.self c.args.fuel.now c.copy.new.fuel
    c.in-Err.fault (λ w. copy-value names s c.args.term.now c.args.fuel.now other w)
    (record { kept = (stays-self names s).kept; grows = c.in-Err.ensures.grows }) c.in-Err.ensures.falls
    (λ e. c.in-Err.ensures.spent (ap Err e))
