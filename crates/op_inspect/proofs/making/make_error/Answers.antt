use Rattle.std.proofs.Common.{ap, ◌∙◌, codes}
use Rattle.op_logic.specs.Term.{Term, atom}
use Rattle.op_trace.specs.Database.{Text}
use Rattle.op_trace.specs.Body.{pair}
use Rattle.op_trace.specs.Builtins.{error_of}
use Rattle.op_inspect.specs.Outcomes.{text_at}
use Rattle.op_inspect.specs.inner.Settings.{Makes}
use Rattle.op_inspect.proofs.TextsLater.{known-later, text-later}
use Rattle.op_inspect.proofs.MakingTerms.{ok-then, makes-then, makes-text}
use Rattle.op_inspect.proofs.making.make_error.Goals as goal

pub make_pair-requires-clause-first : goal.make_pair-requires-clause-first
make_pair-requires-clause-first c =
    known-later c.args.symbols.now c.make_atom.new.symbols c.args.bindings.now c.make_atom.new.bindings c.args.error.now
    c.in_ok-origin.ensures.stays
    c.requires.error

pub returns-clause-made : goal.returns-clause-made
returns-clause-made c =
    let a = c.args.symbols.now in
    let s = c.args.bindings.now in
    let b = c.make_atom.new.symbols in
    let t = c.make_atom.new.bindings in
    let d = c.make_pair.new.symbols in
    let u = c.make_pair.new.bindings in
    let o = c.in_ok-origin.origin in
    let e = c.args.error.now in
    ok-then c.make_pair.result (λ r. Makes b t d u r (pair (codes "error") (text_at b t e) (text_at b t o)))
    (λ r. Makes a s d u r (error_of (text_at a s e))) c.make_pair.ensures.made
    (λ r m. makes-text a s d u r (pair (codes "error") (text_at b t e) (text_at b t o)) (error_of (text_at a s e))
    (makes-then a b d s t u o r (atom (codes "opium")) (pair (codes "error") (text_at b t e) (text_at b t o)) c.in_ok-origin.ensures.made m)
    (ap (λ (x : Term Text). pair (codes "error") x (text_at b t o)) (text-later a b s t e c.in_ok-origin.ensures.stays c.requires.error)
    ∙ ap (λ (x : Term Text). pair (codes "error") (text_at a s e) x) c.in_ok-origin.ensures.made.text))
