-- What the calls of a store keep.
use Rattle.std.proofs.Common.{◌≡◌, ℕ, zero, map, suc, ◌<◌, ◌≤◌, ◌==◌, ◌&&◌, max, Bool, true, false, List, [], ◌∷◌, ◌++◌, length, take}
use Rattle.std.proofs.Common.{Option, Some, None, All, refl, sym, ap, ◌∙◌, subst, arith, Result, Ok, Err, OnOk}
use Rattle.std.specs.Prelude.{IfSome}
use Rattle.std.proofs.lemmas.Bool.Decides.{Decides-eqb}
use Rattle.std.proofs.lemmas.List.{length-take}
use Rattle.std.proofs.lemmas.List.Elements.{All-push, All-head, All-tail}
use Rattle.op_logic.proofs.BoolCases.{by_test, if_true, if_false}
use Rattle.op_logic.specs.Term.{Term, var, int, node, no_args, IsWithin}
use Rattle.op_store.specs.Counted.{variable_count}
use Rattle.op_logic.specs.Names.{IsTable, HasNames, named, name_at, with_name}
use Rattle.op_logic.proofs.NameTables.{named-more}
use Rattle.op_trace.specs.Database.{Text, Clause}
use Rattle.op_bind.specs.declared.places.Clause.{Clause as NumberedClause}
use Rattle.op_store.specs.declared.procedures.pi.Pi.{Pi}
use Rattle.op_term.specs.Ops.{Table}
use Rattle.op_trace.specs.declared.flags.Flags.{Flags}
use Rattle.op_store.specs.declared.names.locked.Locked.{Locked}
use Rattle.op_store.specs.declared.procedures.procedure.Procedure.{Procedure as NumberedProcedure}
use Rattle.op_store.specs.NumberedProcedures.{clause_named, procedure_named, indicator_named, procedures_named, NumberedProcedures, pi_eq}
use Rattle.op_store.specs.NumberedProcedures.{numbered_procedure_in, with_numbered_procedure, extended_numbered, pi_of}
use Rattle.op_store.specs.NumberedProcedures.{IsNumberedClause, IsNumberedProcedure, AreNumberedProcedures}
use Rattle.op_store.specs.Stored.{Stored, IsSound, database_of, with_numbered_clause, first_names}
use Rattle.op_trace.specs.Database.{Database, Indicator, name_arity, Procedure}
use Rattle.op_store.specs.inner.Parts.{body_variables}
use Rattle.op_store.specs.inner.Told.{with_names}
use Rattle.op_store.proofs.ConvertedTerm.{has-more, kept-has, names-more}
use Rattle.op_store.proofs.ConversionNames.{within-count}

numbered-more : (m n : ℕ) (k : Pi) (r : NumberedClause) → m ≤ n → IsNumberedClause m k r → IsNumberedClause n k r
numbered-more m n k r l s = record {
  for = s.for;
  head_names = has-more m n r.head l s.head_names;
  body_names = has-more m n r.body l s.body_names;
  head_within = s.head_within;
  body_within = s.body_within;
}

-- the procedures over more names
pub procedures-more : (m n : ℕ) (ps : NumberedProcedures) → m ≤ n → AreNumberedProcedures m ps → AreNumberedProcedures n ps
procedures-more m n [] l h = tt
procedures-more m n (e ∷ es) l h = (
  record {
    name = omega (arith, h.0.name);
    clauses = λ i d k. numbered-more m n e.0 _ l
        (h.0.clauses i d k);
  },
  procedures-more m n es l h.1,
)

take-front : {A : Type 0} (k n : ℕ) (xs : List A) → k ≤ n → take k (take n xs) ≡ take k xs
take-front zero n xs l = refl
take-front (suc k) zero xs l = absurd (omega arith)
take-front (suc k) (suc n) [] l = refl
take-front {A = A} (suc k) (suc n) (x ∷ xs) l = ap (λ (ys : List A). x ∷ ys) (take-front k n xs (omega arith))

-- names that grow begin as before
pub begins-more : (first old new : List Text) → take (length first) old ≡ first → take (length old) new ≡ old
    → take (length first) new ≡ first
begins-more first old new b e =
    let l : length first ≤ length old = omega (arith, length-take (length first) old, ap length b) in
    sym (take-front (length first) (length old) new l) ∙ (ap (take (length first)) e ∙ b)

pub sound-more : (s : Stored) (names : List Text) → IsSound s → IsTable names → take (length s.names) names ≡ s.names
    → IsSound (with_names s names)
sound-more s names h t e = record {
  names = t;
  begins = begins-more first_names s.names names h.begins e;
  table = h.table;
  procedures = procedures-more (length s.names) (length names) s.procedures (names-more s.names names e) h.procedures;
}

both : (a b : Bool) → (a && b) ≡ true → (a ≡ true) × (b ≡ true)
both true b h = (refl, h)
both false b h = absurd cc

pub same-pi : (a b : Pi) → pi_eq a b ≡ true → a ≡ b
same-pi a b h =
    let two = both (a.name.0 == b.name.0) (a.arity == b.arity) h in
    let name : a.name.0 ≡ b.name.0 = (Decides-eqb a.name.0 b.name.0).0 two.0 in
    let arity : a.arity ≡ b.arity = (Decides-eqb a.arity b.arity).0 two.1 in
    rw name (rw arity refl)

-- the name of a procedure with a clause is in the table
pub indicator-below : (n : ℕ) (t : Term ℕ) (k : Pi) → pi_of t ≡ Some k → HasNames n t → k.name.0 < n
indicator-below n (var v) k e h = absurd cc
indicator-below n (int i) k e h = absurd cc
indicator-below n (node f ts) k e h = subst (λ (o : Option Pi). IfSome o (λ k. k.name.0 < n)) e h.0

numbered-push : (n : ℕ) (k : Pi) (rs : List NumberedClause) (r : NumberedClause) → All (λ r. IsNumberedClause n k r) rs
    → IsNumberedClause n k r → All (λ r. IsNumberedClause n k r) (rs ++ r ∷ [])
numbered-push n k rs r h s = All-push (λ (q : NumberedClause). IsNumberedClause n k q) rs r h s

numbered-none : (n : ℕ) (k : Pi) → All (λ r. IsNumberedClause n k r) []
numbered-none n k = λ i d l. absurd (omega arith)

new-procedure : (n : ℕ) (k : Pi) (r : NumberedClause) → IsNumberedClause n k r → IsNumberedProcedure n k (extended_numbered None r)
new-procedure n k r s = record {
  name = indicator-below n r.head k s.for s.head_names;
  clauses = numbered-push n k [] r
      (numbered-none n k) s;
}

more-clauses : (n : ℕ) (k : Pi) (p : NumberedProcedure) (r : NumberedClause) → IsNumberedProcedure n k p → IsNumberedClause n k r
    → IsNumberedProcedure n k (extended_numbered (Some p) r)
more-clauses n k p r h s = record { name = h.name; clauses = numbered-push n k p.clauses r h.clauses s }

procedure-found : (n : ℕ) (k : Pi) (ps : NumberedProcedures) (r : NumberedClause) → AreNumberedProcedures n ps → IsNumberedClause n k r
    → IsNumberedProcedure n k (extended_numbered (numbered_procedure_in ps k) r)
procedure-found n k [] r h s = new-procedure n k r s
procedure-found n k (e ∷ es) r h s =
    by_test (pi_eq k e.0)
    (λ y. subst (λ (o : Option NumberedProcedure). IsNumberedProcedure n k (extended_numbered o r))
    (sym (if_true (pi_eq k e.0) (Some e.1) (numbered_procedure_in es k) y))
    (more-clauses n k e.1 r (subst (λ (x : Pi). IsNumberedProcedure n x e.1) (sym (same-pi k e.0 y)) h.0) s))
    (λ y. subst (λ (o : Option NumberedProcedure). IsNumberedProcedure n k (extended_numbered o r))
    (sym (if_false (pi_eq k e.0) (Some e.1) (numbered_procedure_in es k) y))
    (procedure-found n k es r h.1 s))

pub procedure-put : (n : ℕ) (k : Pi) (p : NumberedProcedure) (ps : NumberedProcedures) → AreNumberedProcedures n ps
    → IsNumberedProcedure n k p → AreNumberedProcedures n (with_numbered_procedure ps k p)
procedure-put n k p [] h s = (s, tt)
procedure-put n k p (e ∷ es) h s =
    by_test (pi_eq k e.0)
    (λ y. subst (λ (rs : NumberedProcedures). AreNumberedProcedures n rs)
    (sym (if_true (pi_eq k e.0) ((e.0, p) ∷ es) (e ∷ with_numbered_procedure es k p) y))
    (subst (λ (x : Pi). IsNumberedProcedure n x p) (same-pi k e.0 y) s, h.1))
    (λ y. subst (λ (rs : NumberedProcedures). AreNumberedProcedures n rs)
    (sym (if_false (pi_eq k e.0) ((e.0, p) ∷ es) (e ∷ with_numbered_procedure es k p) y))
    (h.0, procedure-put n k p es h.1 s))

-- a clause that joins
pub sound-joins : (s : Stored) (k : Pi) (r : NumberedClause) → IsSound s → IsNumberedClause (length s.names) k r
    → IsSound (with_numbered_clause s k r)
sound-joins s k r h i = record {
  names = h.names;
  begins = h.begins;
  table = h.table;
  procedures = procedure-put (length s.names) k (extended_numbered (numbered_procedure_in s.procedures k) r) s.procedures h.procedures
      (procedure-found (length s.names) k s.procedures r h.procedures i);
}

-- a clause's variables are those of its parts
module _ {P : Type 0} (term : P → Term ℕ) where
  pub head-counted : (h : P) (b : Option P) → IsWithin (body_variables (λ p. variable_count (term p)) h b) (term h)
  head-counted h None = within-count (term h) _ (omega arith)
  head-counted h (Some p) = within-count (term h) (max (variable_count (term h)) (variable_count (term p))) (omega arith)

  pub body-counted : (h : P) (b : Option P) → IfSome b (λ p. IsWithin (body_variables (λ p. variable_count (term p)) h b) (term p))
  body-counted h None = tt
  body-counted h (Some p) = within-count (term p) (max (variable_count (term h)) (variable_count (term p))) (omega arith)

pub numbered-made : (old new : List Text) (k : Pi) (r : NumberedClause) (head : Term ℕ) (n : ℕ) → take (length old) new ≡ old
    → Some k ≡ pi_of head → r.head ≡ head → HasNames (length old) head → HasNames (length new) r.body
    → r.vars ≡ n → IsWithin n head → IsWithin n r.body → IsNumberedClause (length new) k r
numbered-made old new k r head n e f own h b v wh wb = record {
  for = ap pi_of own ∙ sym f;
  head_names = subst (λ (t : Term ℕ). HasNames (length new) t) (sym own) (kept-has old new head e h);
  body_names = b;
  head_within = subst (λ (t : Term ℕ). IsWithin r.vars t) (sym own) (subst (λ (m : ℕ). IsWithin m head) (sym v) wh);
  body_within = subst (λ (m : ℕ). IsWithin m r.body) (sym v) wb;
}

-- a procedure that is found
pub procedure-at : (n : ℕ) (k : Pi) (ps : NumberedProcedures) (p : NumberedProcedure) → AreNumberedProcedures n ps
    → numbered_procedure_in ps k ≡ Some p → IsNumberedProcedure n k p
procedure-at n k [] p h e = absurd cc
procedure-at n k (x ∷ xs) p h e =
    by_test (pi_eq k x.0)
    (λ y. let same : x.1 ≡ p = cc (sym (if_true (pi_eq k x.0) (Some x.1) (numbered_procedure_in xs k) y) ∙ e) in
    subst (λ (q : NumberedProcedure). IsNumberedProcedure n k q) same
    (subst (λ (i : Pi). IsNumberedProcedure n i x.1) (sym (same-pi k x.0 y)) h.0))
    (λ y. procedure-at n k xs p h.1 (sym (if_false (pi_eq k x.0) (Some x.1) (numbered_procedure_in xs k) y) ∙ e))

-- names that grow name the clauses as before

module _ (old new : List Text) (kept : take (length old) new ≡ old) where
  name-kept : (f : ℕ) → f < length old → name_at new f ≡ name_at old f
  name-kept f l = let e : named new (node f no_args) ≡ named old (node f no_args) = named-more old new kept (node f no_args) (l, tt) in cc

  clause-kept : (k : Pi) (r : NumberedClause) → IsNumberedClause (length old) k r → clause_named new r ≡ clause_named old r
  clause-kept k r h =
      ap (λ (t : Term Text). let c : Clause = record { id = r.id; head = t; body = named new r.body; variables = r.vars } in c)
      (named-more old new kept r.head h.head_names)
      ∙ ap (λ (t : Term Text). let c : Clause = record { id = r.id; head = named old r.head; body = t; variables = r.vars } in c)
      (named-more old new kept r.body h.body_names)

  clauses-kept : (k : Pi) (rs : List NumberedClause) → All (λ r. IsNumberedClause (length old) k r) rs
      → map (clause_named new) rs ≡ map (clause_named old) rs
  clauses-kept k [] h = refl
  clauses-kept k (r ∷ rs) h =
      ap (λ (c : Clause). c ∷ map (clause_named new) rs)
      (clause-kept k r (All-head (λ (r : NumberedClause). IsNumberedClause (length old) k r) r rs h))
      ∙ ap (λ (cs : List Clause). clause_named old r ∷ cs) (clauses-kept k rs
      (All-tail (λ (r : NumberedClause). IsNumberedClause (length old) k r) r rs h))

  procedure-kept : (k : Pi) (p : NumberedProcedure) → IsNumberedProcedure (length old) k p → procedure_named new p ≡ procedure_named old p
  procedure-kept k p h =
      ap (λ (cs : List Clause). let q : Procedure = record { dynamic = p.dynamic; clauses = cs } in q) (clauses-kept k p.clauses h.clauses)

  procedures-kept : (ps : NumberedProcedures) → AreNumberedProcedures (length old) ps → procedures_named new ps ≡ procedures_named old ps
  procedures-kept [] h = refl
  procedures-kept (e ∷ es) h =
      ap (λ (f : Text). (name_arity f e.0.arity, procedure_named new e.1) ∷ procedures_named new es) (name-kept e.0.name.0 h.0.name)
      ∙ (ap (λ (p : Procedure). (indicator_named old e.0, p) ∷ procedures_named new es) (procedure-kept e.0 e.1 h.0)
      ∙ ap (λ (ps : List (Indicator × Procedure)). (indicator_named old e.0, procedure_named old e.1) ∷ ps) (procedures-kept es h.1))

pub world-kept : (s : Stored) (names : List Text) → take (length s.names) names ≡ s.names → IsSound s
    → database_of (with_names s names) ≡ database_of s
world-kept s names kept h =
    ap (λ (ps : List (Indicator × Procedure)).
    let w : Database = record { procedures = ps; next = s.next; table = s.table; flags = s.flags } in w)
    (procedures-kept s.names names kept s.procedures h.procedures)

-- of a store, by its fields, to which names join: it is sound as before, and has the same world
module _ (l : Locked) (old new : List Text) (t : Table) (f : Flags) (ps : NumberedProcedures) (next : ℕ) where
  abbrev pub before : Stored
  before = record { locked = l; names = old; table = t; flags = f; procedures = ps; next = next }

  pub joined-sound : IsSound before → IsTable new → take (length old) new ≡ old → IsSound (with_names before new)
  joined-sound h table kept = sound-more before new h table kept

  pub joined-world : IsSound before → take (length old) new ≡ old → database_of (with_names before new) ≡ database_of before
  joined-world h kept = world-kept before new kept h

  pub joined-exact : {A E : Type 0} (r : Result A E) (name : Text) → OnOk r (new ≡ with_name old name)
      → OnOk r (with_names before new ≡ with_names before (with_name old name))
  joined-exact (Ok a) name e = ap (λ (ns : List Text). with_names before ns) e
  joined-exact (Err x) name e = tt
