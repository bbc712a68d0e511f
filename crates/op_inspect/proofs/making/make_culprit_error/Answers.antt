use Rattle.std.proofs.Common.{◌≡◌, ap, ◌∙◌}
use Rattle.op_logic.specs.Term.{Term, atom}
use Rattle.op_trace.specs.Database.{Text}
use Rattle.op_trace.specs.Body.{pair}
use Rattle.op_trace.specs.Builtins.{error_of}
use Rattle.op_inspect.specs.Outcomes.{text_at}
use Rattle.op_inspect.specs.inner.Settings.{Makes}
use Rattle.op_inspect.proofs.TextsLater.{known-later, text-later}
use Rattle.op_inspect.proofs.MakingTerms.{ok-then, makes-then, makes-text}
use Rattle.op_inspect.proofs.making.make_culprit_error.Goals as goal

pub make_pair-requires-clause-second : goal.make_pair-requires-clause-second
make_pair-requires-clause-second c =
    known-later c.args.symbols.now c.make_atom.new.symbols c.args.bindings.now c.make_atom.new.bindings c.args.culprit.now
    c.in_ok-word.ensures.stays
    c.requires.culprit

pub returns-clause-made : goal.returns-clause-made
returns-clause-made c =
    let a = c.args.symbols.now in
    let s = c.args.bindings.now in
    let b = c.make_atom.new.symbols in
    let t = c.make_atom.new.bindings in
    let d = c.make_pair.new.symbols in
    let u = c.make_pair.new.bindings in
    let g = c.make_error.new.symbols in
    let v = c.make_error.new.bindings in
    let kind = c.args.kind.now in
    let q = c.args.culprit.now in
    let o = c.in_ok-word.word in
    let e = c.in_ok-error.error in
    let first : pair kind (text_at b t o) (text_at b t q) ≡ pair kind (atom c.args.word.now) (text_at a s q) =
    ap (λ (x : Term Text). pair kind x (text_at b t q)) c.in_ok-word.ensures.made.text
    ∙ ap (λ (x : Term Text). pair kind (atom c.args.word.now) x) (text-later a b s t q c.in_ok-word.ensures.stays c.requires.culprit) in
    let m = makes-then a b d s t u o e (atom c.args.word.now) (pair kind (text_at b t o) (text_at b t q)) c.in_ok-word.ensures.made
    c.in_ok-error.ensures.made in
    ok-then c.make_error.result (λ r. Makes d u g v r (error_of (text_at d u e)))
    (λ r. Makes a s g v r (error_of (pair kind (atom c.args.word.now) (text_at a s q)))) c.make_error.ensures.made
    (λ r n. makes-text a s g v r (error_of (text_at d u e)) (error_of (pair kind (atom c.args.word.now) (text_at a s q)))
    (makes-then a d g s u v e r (pair kind (text_at b t o) (text_at b t q)) (error_of (text_at d u e)) m n)
    (ap error_of (c.in_ok-error.ensures.made.text ∙ first)))
