use Rattle.std.proofs.Common.{◌≡◌, ℕ, [], length, sym, subst}
use Rattle.op_logic.specs.Term.{Term, IsWithin}
use Rattle.op_logic.specs.Names.{named}
use Rattle.op_reader.specs.Reading.{term, reading_of}
use Rattle.op_readback.specs.ReadBack.{clause_over}
use Rattle.op_readback.proofs.ReadBackTerms.{read-of, one-term, no-end, no-refusal, same-term, counts-none}
use Rattle.op_readback.proofs.through_text.written_and_read.Goals as goal
use Rattle.op_readback.proofs.through_text.written_and_read.Goals.{In-Ok-Term}

-- the term that is read, its named variables and the bytes used
found : (c : In-Ok-Term) → (named c.args.symbols.now c.args.term.now ≡ named c.read_term.new.symbols c.in-Ok-Term.read.term)
    × ([] ≡ c.in-Ok-Term.read.names)
    × (length (clause_over c.args.symbols.now c.args.ops.now c.args.style c.args.term.now c.args.priority) ≡ c.in-Ok-Term.read.used)
found c =
    let read = c.in-Ok-Term.read in
    let reading : reading_of c.args.ops.now c.args.quotes c.as_slice.result.now
    ≡ term (named c.args.symbols.now c.args.term.now) []
    (length (clause_over c.args.symbols.now c.args.ops.now c.args.style c.args.term.now c.args.priority)) =
    read-of c.args.ops.now c.args.quotes c.args.style (named c.args.symbols.now c.args.term.now) c.args.priority
    c.in_ok-text.text c.as_slice.result.now c.as_slice.ensures c.in_ok-text.ensures.text
    (c.texts_law.ensures c.args.style c.args.quotes c.args.priority c.requires.style c.requires.priority) in
    one-term (reading_of c.args.ops.now c.args.quotes c.as_slice.result.now) (named c.args.symbols.now c.args.term.now)
    (length (clause_over c.args.symbols.now c.args.ops.now c.args.style c.args.term.now c.args.priority)) reading
    (named c.read_term.new.symbols read.term) read.names read.used (rw c.in-Ok-Term.field-0-is at c.in-Ok-Term.ensures.tells)

pub returns-in-Ok-Term-clause-term : goal.returns-in-Ok-Term-clause-term
returns-in-Ok-Term-clause-term c =
    same-term c.args.symbols.now c.read_term.new.symbols c.names_law.ensures c.in-Ok-Term.ensures.kept
    c.args.term.now c.in-Ok-Term.read.term c.requires.names (found (goal.at.returns-in-Ok-Term-clause-term c).In-Ok-Term).0

pub returns-in-Ok-Term-clause-unnamed : goal.returns-in-Ok-Term-clause-unnamed
returns-in-Ok-Term-clause-unnamed c = sym (found (goal.at.returns-in-Ok-Term-clause-unnamed c).In-Ok-Term).1

pub returns-in-Ok-Term-clause-closed : goal.returns-in-Ok-Term-clause-closed
returns-in-Ok-Term-clause-closed c =
    let read = c.in-Ok-Term.read in
    let same : read.term ≡ c.args.term.now =
    same-term c.args.symbols.now c.read_term.new.symbols c.names_law.ensures c.in-Ok-Term.ensures.kept
    c.args.term.now read.term c.requires.names (found (goal.at.returns-in-Ok-Term-clause-closed c).In-Ok-Term).0 in
    counts-none read.vars read.term read.names (subst (λ (t : Term ℕ). IsWithin 0 t) (sym same) c.requires.closed)
    (rw c.in-Ok-Term.field-0-is at c.in-Ok-Term.ensures.variables)

pub returns-in-Ok-Term-clause-all : goal.returns-in-Ok-Term-clause-all
returns-in-Ok-Term-clause-all c = sym (found (goal.at.returns-in-Ok-Term-clause-all c).In-Ok-Term).2
