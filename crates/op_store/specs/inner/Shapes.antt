-- Terms by their outermost nodes, with the places of their arguments.
use Rattle.std.specs.Prelude.{◌≡◌, ℕ, Bool, false, ◌||◌, bytes_eq, codes, map, if◌then◌else◌, Some, None, List, [], ◌∷◌}
use Rattle.op_logic.specs.Term.{Term, var, int, node, no_args, arg}
use Rattle.op_logic.specs.Names.{name_at}
use Rattle.op_term.specs.declared.symbols.Sym.{Sym}
use Rattle.op_trace.specs.Database.{Text}
use Rattle.op_store.specs.inner.Parts.{body_text}
use Rattle.op_store.specs.Clauses.{Sentence, clause, command, query}
use Rattle.op_store.specs.declared.loading.sentence.Sentence.{Sentence as Parts}
use Rattle.op_store.specs.declared.loading.sentence.Sentence.TheVariants.{Clause, Directive, Query}
use Rattle.op_trace.specs.Database.{Database}
use Rattle.op_trace.specs.declared.flags.Flags.{Flags}
use Rattle.op_store.specs.declared.loading.directive.Word.{Word}
use Rattle.op_store.specs.declared.loading.directive.Word.TheVariants.{Dynamic, Declaration, Initialization, Other as Unknown}
use Rattle.op_store.specs.declared.terms.shape.Shape.{Shape}
use Rattle.op_store.specs.declared.terms.shape.Shape.TheVariants.{Int, Atom, One, Two, Three, Other}

-- a variable, or a compound of more than three arguments
abbrev pub IsOther : Term ℕ → Type 0
IsOther (var v) = Unit {0}
IsOther (int i) = ⊥
IsOther (node f no_args) = ⊥
IsOther (node f (arg a no_args)) = ⊥
IsOther (node f (arg a (arg b no_args))) = ⊥
IsOther (node f (arg a (arg b (arg c no_args)))) = ⊥
IsOther (node f (arg a (arg b (arg c (arg d ts))))) = Unit {0}

abbrev pub IsShape : {P : Type 0} → (P → Term ℕ) → Term ℕ → Shape P → Type 0
IsShape term t (Int i) = t ≡ int i
IsShape term t (Atom f) = t ≡ node f.0 no_args
IsShape term t (One f a) = t ≡ node f.0 (arg (term a) no_args)
IsShape term t (Two f a b) = t ≡ node f.0 (arg (term a) (arg (term b) no_args))
IsShape term t (Three f a b c) = t ≡ node f.0 (arg (term a) (arg (term b) (arg (term c) no_args)))
IsShape term t Other = IsOther t

abbrev pub places_in : {P : Type 0} → Shape P → List P
places_in (Int i) = []
places_in (Atom f) = []
places_in (One f a) = a ∷ []
places_in (Two f a b) = a ∷ b ∷ []
places_in (Three f a b c) = a ∷ b ∷ c ∷ []
places_in Other = []

-- a compound of two arguments under a name
abbrev pub is_pair : Text → Term Text → Bool
is_pair name (node f (arg a (arg b no_args))) = bytes_eq f name
is_pair name t = false

abbrev pub is_atom : Text → Term Text → Bool
is_atom name (node f no_args) = bytes_eq f name
is_atom name t = false

abbrev pub names_of : List Text → List Sym → List Text
names_of names atoms = map (λ s. name_at names s.0) atoms

-- a term of a text, by the places of its parts

abbrev pub sentence_text : {P : Type 0} → (P → Term Text) → Parts P → Sentence
sentence_text text (Clause h b) = clause (text h) (body_text text b)
sentence_text text (Directive d) = command (text d)
sentence_text text Query = query

abbrev pub one_of : {P : Type 0} → Text → P → P → Parts P
one_of f whole part =
    if bytes_eq f (codes ":-") then Directive part else
    if bytes_eq f (codes "?-") then Query else
    Clause whole None

abbrev pub sentence_places : {P : Type 0} → Parts P → List P
sentence_places (Clause h (Some b)) = h ∷ b ∷ []
sentence_places (Clause h None) = h ∷ []
sentence_places (Directive d) = d ∷ []
sentence_places Query = []

-- a directive of one argument
abbrev pub word : Text → Word
word f =
    if bytes_eq f (codes "dynamic") then Dynamic else
    if bytes_eq f (codes "discontiguous") || bytes_eq f (codes "multifile") then Declaration else
    if bytes_eq f (codes "initialization") then Initialization else
    Unknown

abbrev pub with_flags : Database → Flags → Database
with_flags w flags = record w { flags = flags }
