use Rattle.std.proofs.Common.{◌≡◌, ℕ, [], Option, sym, ap, ◌∙◌, subst, refl}
use Rattle.std.specs.Prelude.{option_map}
use Rattle.op_logic.specs.Term.{Term, IsWithin}
use Rattle.op_logic.specs.Names.{named}
use Rattle.op_term.specs.Places.{term_at}
use Rattle.op_trace.specs.Body.{converted}
use Rattle.op_store.proofs.VariableCounts.{count-named, counted-exactly}
use Rattle.op_store.proofs.ConvertedTerm.{kept-has}
use Rattle.op_store.proofs.goals.goal.convert_read.Goals as goal

pub returns-in-Some-clause-goal : goal.returns-in-Some-clause-goal
returns-in-Some-clause-goal c =
    let names = c.converted_term.new.symbols in
    let w = c.new-whole.result in
    let t : Term ℕ = c.args.read.term in
    let e : term_at w.terms c.root.result ≡ t = ap (term_at w.terms) c.root.ensures.root ∙ c.new-whole.ensures.value in (
      ap (λ (t : Term ℕ). (converted [] (named names t)).body) (sym e)
          ∙ (sym c.in_ok-body.ensures.body ∙ ap (λ (o : Option (Term ℕ)). option_map (named names) o) c.in-Some.is),
      refl,
      counted-exactly c.args.read.vars t c.requires.variables.within c.requires.variables.there ∙ sym (count-named names t),
    )

pub returns-in-Some-clause-sound : goal.returns-in-Some-clause-sound
returns-in-Some-clause-sound c =
    let w = c.new-whole.result in
    let t : Term ℕ = c.args.read.term in
    let n : ℕ = c.args.read.vars in
    let e : term_at w.terms c.root.result ≡ t = ap (term_at w.terms) c.root.ensures.root ∙ c.new-whole.ensures.value in
    let within : IsWithin n (term_at w.terms c.root.result) = subst (λ (x : Term ℕ). IsWithin n x) (sym e) c.requires.variables.within in
    record {
      names = rw c.in-Some.is at c.in_ok-body.ensures.has;
      within = rw c.in-Some.is at c.in_ok-body.ensures.within n within;
      counted = c.requires.variables.named;
    }

pub returns-in-None-clause-sound : goal.returns-in-None-clause-sound
returns-in-None-clause-sound c =
    kept-has c.args.symbols.now c.converted_term.new.symbols c.args.read.term c.converted_term.ensures.kept c.requires.names
