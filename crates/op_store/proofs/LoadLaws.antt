-- What the joining of terms tells of a store.
use Rattle.std.proofs.Common.{◌≡◌, ℕ, suc, max, List, [], length, take, drop, Option, Some, None, Result, Ok, Err, All, refl, sym, ap, ◌∙◌}
use Rattle.std.proofs.Common.{subst, arith}
use Rattle.std.specs.Prelude.{IfSome}
use Rattle.op_logic.specs.Term.{Term}
use Rattle.op_logic.specs.Names.{named, HasNames}
use Rattle.op_logic.proofs.NameTables.{named-more}
use Rattle.op_trace.specs.Database.{Text}
use Rattle.op_reader.specs.Reading.{Outcome, term, end, refused, reading_of}
use Rattle.op_reader.specs.declared.fault.ReadFaultKind.{ReadFaultKind}
use Rattle.op_store.specs.declared.names.locked.Locked.{Locked}
use Rattle.op_trace.specs.Body.{converted}
use Rattle.op_store.specs.Clauses.{clause, sentence_of, of_sentence, with_parts, with_term}
use Rattle.op_store.specs.Counted.{variable_count}
use Rattle.op_store.specs.Load.{Loaded, loaded, stopped, load_from, line_at, fault_line, first_token}
use Rattle.op_store.specs.inner.Parts.{body_text, body_variables}
use Rattle.op_trace.specs.Database.{Database, indicator_of_term}
use Rattle.op_store.specs.Fault.{Fault, syntax}
use Rattle.op_store.proofs.VariableCounts.{count-named}
use Rattle.op_store.specs.Queries.{fault_named, IsKnownFault}
use Rattle.op_store.specs.Stored.{Stored, database_of}
use Rattle.op_store.specs.inner.Told.{TellsTerm, with_names}
use Rattle.op_store.specs.inner.Shapes.{sentence_places}
use Rattle.op_store.specs.declared.loading.sentence.Sentence.TheVariants.{Clause}
use Rattle.op_store.specs.declared.loading.term_fault.TermFault.{TermFault}
use Rattle.op_store.specs.declared.loading.term_fault.TermFault.TheVariants.{Memory, Refused}

-- a fault is told by a store's names alone
pub told-same : (U : Type 0) (a b : Stored) (e : TermFault) (w : Result Database Fault) → b.names ≡ a.names → TellsTerm {U = U} a (Err e) w
    → TellsTerm {U = U} b (Err e) w
told-same U a b Memory w n h = tt
told-same U a b (Refused kind) w n h = (
  h.0 ∙ ap (λ (ns : List Text). Err (fault_named ns kind)) (sym n),
  subst (λ (ns : List Text). IsKnownFault (length ns) kind) (sym n) h.1,
)

-- a clause that was read

module _ {P : Type 0} (tree : P → Term ℕ) where
  abbrev body_names : ℕ → Option P → Type 0
  body_names n b = IfSome b (λ p. HasNames n (tree p))

  body-more : (old new : List Text) → take (length old) new ≡ old → (b : Option P) → body_names (length old) b
      → body_text (λ p. named old (tree p)) b ≡ body_text (λ p. named new (tree p)) b
  body-more old new kept None h = refl
  body-more old new kept (Some p) h = sym (named-more old new kept (tree p) h)

  body-count : (names : List Text) (h : P) (b : Option P)
      → max (variable_count (named names (tree h))) (variable_count (body_text (λ p. named names (tree p)) b))
      ≡ body_variables (λ p. variable_count (tree p)) h b
  body-count names h None = let e = count-named names (tree h) in omega arith
  body-count names h (Some p) =
      ap (λ (n : ℕ). max n (variable_count (named names (tree p)))) (count-named names (tree h))
      ∙ ap (max (variable_count (tree h))) (count-named names (tree p))

  pub clause-told : (l : Locked) (w : Database) (old new : List Text) (t : Term ℕ) (h : P) (b : Option P) → take (length old) new ≡ old
      → HasNames (length old) t → HasNames (length old) (tree h) → IfSome b (λ p. HasNames (length old) (tree p))
      → clause (named old (tree h)) (body_text (λ p. named old (tree p)) b) ≡ sentence_of (named old t)
      → with_parts l w (named new (tree h)) (body_variables (λ p. variable_count (tree p)) h b) (indicator_of_term (named new (tree h)))
      (converted [] (body_text (λ p. named new (tree p)) b)).body ≡ with_term l w (named new t)
  clause-told l w old new t h b kept ht hh hb e =
      let head : named new (tree h) ≡ named old (tree h) = named-more old new kept (tree h) hh in
      sym (ap (with_term l w) (named-more old new kept t ht)
      ∙ (ap (of_sentence l w) (sym e)
      ∙ (ap (λ (u : Term Text). of_sentence l w (clause u (body_text (λ p. named old (tree p)) b))) (sym head)
      ∙ (ap (λ (u : Term Text). of_sentence l w (clause (named new (tree h)) u)) (body-more old new kept b hb)
      ∙ ap (λ (n : ℕ). with_parts l w (named new (tree h)) n (indicator_of_term (named new (tree h)))
      (converted [] (body_text (λ p. named new (tree p)) b)).body) (body-count new h b)))))

  places-known : (Q : P → Type 0) (h : P) (b : Option P) → All Q (sentence_places (Clause h b)) → Q h × IfSome b Q
  places-known Q h None k = (k 0 h (omega arith), tt)
  places-known Q h (Some p) k = (k 0 h (omega arith), k 1 h (omega arith))

  if-some : (Q R : P → Type 0) (b : Option P) → ((p : P) → Q p → R p) → IfSome b Q → IfSome b R
  if-some Q R None f k = tt
  if-some Q R (Some p) f k = f p k

  -- the names that the clause was read with are the old ones
  pub clause-read : (Q : P → Type 0) (l : Locked) (w : Database) (old new syms : List Text) (t : Term ℕ) (root h : P) (b : Option P)
      → syms ≡ old → tree root ≡ t → take (length old) new ≡ old → HasNames (length old) t
      → All (λ p. Q p × HasNames (length syms) (tree p)) (sentence_places (Clause h b))
      → clause (named syms (tree h)) (body_text (λ p. named syms (tree p)) b) ≡ sentence_of (named syms (tree root))
      → with_parts l w (named new (tree h)) (body_variables (λ p. variable_count (tree p)) h b) (indicator_of_term (named new (tree h)))
      (converted [] (body_text (λ p. named new (tree p)) b)).body ≡ with_term l w (named new t)
  clause-read Q l w old new syms t root h b s e kept ht known said =
      let places : All (λ p. Q p × HasNames (length old) (tree p)) (sentence_places (Clause h b)) =
      subst (λ (ns : List Text). All (λ p. Q p × HasNames (length ns) (tree p)) (sentence_places (Clause h b))) s known in
      let both = places-known (λ p. Q p × HasNames (length old) (tree p)) h b places in
      clause-told l w old new t h b kept ht both.0.1
      (if-some (λ p. Q p × HasNames (length old) (tree p)) (λ p. HasNames (length old) (tree p)) b (λ p k. k.1) both.1)
      (subst (λ (ns : List Text). clause (named ns (tree h)) (body_text (λ p. named ns (tree p)) b) ≡ sentence_of (named ns t)) s
      (subst (λ (u : Term ℕ). clause (named syms (tree h)) (body_text (λ p. named syms (tree p)) b) ≡ sentence_of (named syms u)) e said))

-- a term that was read with new names
pub term-kept : (old mid new : Stored) (t : Term ℕ) (r : Result Database Fault) → database_of mid ≡ database_of old
    → mid ≡ with_names old mid.names
    → take (length mid.names) new.names ≡ mid.names → HasNames (length mid.names) t
    → with_term mid.locked (database_of mid) (named new.names t) ≡ r → with_term old.locked (database_of old) (named mid.names t) ≡ r
term-kept old mid new t r w k kept h e =
    ap (λ (x : Stored). with_term x.locked (database_of old) (named mid.names t)) (sym k)
    ∙ (ap (λ (v : Database). with_term mid.locked v (named mid.names t)) (sym w)
    ∙ (ap (with_term mid.locked (database_of mid)) (sym (named-more mid.names new.names kept t h)) ∙ e))

pub stopped-same : (v w : Database) (m n : ℕ) (f : Fault) → v ≡ w → m ≡ n → stopped v m f ≡ stopped w n f
stopped-same v w m n f e k = ap (λ (x : Database). stopped x m f) e ∙ ap (λ (i : ℕ). stopped w i f) k

-- one term of a text

abbrev taken : Locked → Database → ℕ → List ℕ → ℕ → ℕ → Result Database Fault → Loaded
taken l w line bytes used n r =
    elim r [
      | Err f ↦ stopped w (line_at line bytes (first_token bytes)) f
      | Ok u ↦ load_from n l u (line_at line bytes used) (drop used bytes)
    ]

abbrev stepped : Locked → Database → ℕ → List ℕ → ℕ → Outcome → Loaded
stepped l w line bytes n o =
    elim o [
      | end ↦ loaded w
      | refused place kind ↦ stopped w (fault_line line bytes place) (syntax kind)
      | term t names used ↦ taken l w line bytes used n (with_term l w t)
    ]

pub step-end : (l : Locked) (w : Database) (line : ℕ) (bytes : List ℕ) → reading_of w.table w.flags.quotes bytes ≡ end → (n : ℕ)
    → load_from (suc n) l w line bytes ≡ loaded w
unfolding load_from
step-end l w line bytes e n = ap (λ (o : Outcome). stepped l w line bytes n o) e

pub step-refused : (l : Locked) (w : Database) (line : ℕ) (bytes : List ℕ) (place : ℕ) (kind : ReadFaultKind)
    → reading_of w.table w.flags.quotes bytes ≡ refused place kind
    → (n : ℕ) → load_from (suc n) l w line bytes ≡ stopped w (fault_line line bytes place) (syntax kind)
unfolding load_from
step-refused l w line bytes place kind e n = ap (λ (o : Outcome). stepped l w line bytes n o) e

pub step-fault : (l : Locked) (w : Database) (line : ℕ) (bytes : List ℕ) (t : Term Text) (names : List (Text × ℕ)) (used : ℕ) (f : Fault)
    → reading_of w.table w.flags.quotes bytes ≡ term t names used → with_term l w t ≡ Err f
    → (n : ℕ) → load_from (suc n) l w line bytes ≡ stopped w (line_at line bytes (first_token bytes)) f
unfolding load_from
step-fault l w line bytes t names used f e r n =
    ap (λ (o : Outcome). stepped l w line bytes n o) e ∙ ap (taken l w line bytes used n) r

pub step-goes : (l : Locked) (w u : Database) (line : ℕ) (bytes : List ℕ) (t : Term Text) (names : List (Text × ℕ)) (used : ℕ)
    → reading_of w.table w.flags.quotes bytes ≡ term t names used → with_term l w t ≡ Ok u
    → (n : ℕ) → load_from (suc n) l w line bytes ≡ load_from n l u (line_at line bytes used) (drop used bytes)
unfolding load_from
step-goes l w u line bytes t names used e r n =
    ap (λ (o : Outcome). stepped l w line bytes n o) e ∙ ap (taken l w line bytes used n) r
