-- Directives on procedures, on operators and on flags, entry by entry.
use Rattle.std.proofs.Common.{◌≡◌, ℕ, zero, suc, ◌+◌, ◌<◌, ◌≤◌, cond, Bool, true, false, List, [], ◌∷◌, ◌++◌, length, map, take, drop}
use Rattle.std.proofs.Common.{get_or, Option, Some, None, Result, Ok, Err, All, refl, sym, ap, ◌∙◌, subst, arith, append-nil, ◌||◌}
use Rattle.std.specs.Prelude.{option_map, option_and_then, is_some, codes, bytes_eq, ℤ}
use Rattle.std.proofs.lemmas.List.{drop_more, map-append}
use Rattle.op_logic.proofs.BoolCases.{by_test, if_true, if_false}
use Rattle.op_logic.specs.Term.{Term}
use Rattle.op_logic.specs.Names.{name_at, IsTable}
use Rattle.op_term.specs.Ops.{Table, set_in}
use Rattle.op_term.specs.declared.ops.OpKind.{OpKind}
use Rattle.op_term.specs.declared.ops.OpFault.{OpFault}
use Rattle.op_term.specs.declared.symbols.Sym.{Sym}
use Rattle.op_trace.specs.Database.{Text}
use Rattle.op_store.specs.declared.loading.directive.Word.{Word}
use Rattle.op_store.specs.declared.loading.directive.Word.TheVariants as words
use Rattle.op_store.specs.declared.names.locked.Locked.{Locked}
use Rattle.op_store.specs.declared.procedures.pi.Pi.{Pi}
use Rattle.op_store.specs.declared.procedures.procedure.Procedure.{Procedure as NumberedProcedure}
use Rattle.op_trace.specs.Database.{Indicator, Database, Procedure, set_procedure, no_clauses}
use Rattle.op_store.specs.Fault.{Fault, directive, and_then}
use Rattle.op_store.specs.Locked.{is_locked}
use Rattle.op_store.specs.Directives.{elements, operator_names, atom_name, atom_names, indicator, or_directive, made_dynamic, may_change}
use Rattle.op_store.specs.Directives.{all_dynamic, all_indicate, entries, of_one, ops_set}
use Rattle.op_store.specs.NumberedProcedures.{NumberedProcedures, numbered_procedure_in, with_numbered_procedure, no_numbered_clauses}
use Rattle.op_store.specs.NumberedProcedures.{pi_eq, indicator_named, procedure_named, procedures_named, AreNumberedProcedures}
use Rattle.op_store.specs.inner.Shapes.{names_of, word}
use Rattle.op_store.specs.Stored.{Stored, database_of}
use Rattle.op_store.proofs.NamedProcedures.{found-named, put-named}
use Rattle.op_store.proofs.DirectiveEntries.{before, before-more}
use Rattle.op_store.proofs.Soundness.{procedure-put}

-- the element at an index, and those behind it
at-next : {A : Type 0} (xs : List A) (i : ℕ) (x : A) → i < length xs → x ≡ get_or xs i x → drop i xs ≡ x ∷ drop (i + 1) xs
at-next xs i x l e = drop_more xs i x l ∙ ap (λ y. y ∷ drop (i + 1) xs) (sym e)

pub at-end : {A : Type 0} (xs : List A) (i : ℕ) → length xs ≤ i → drop i xs ≡ []
at-end [] zero l = refl
at-end [] (suc i) l = refl
at-end (x ∷ xs) zero l = absurd (omega arith)
at-end (x ∷ xs) (suc i) l = at-end xs i (omega arith)

pub at-has : {A : Type 0} (Q : A → Type 0) (xs : List A) (i : ℕ) (x : A) → i < length xs → x ≡ get_or xs i x → All Q xs → Q x
at-has Q xs i x l e h = subst Q (sym e) (h i x l)

-- a list that grows twice
pub front-joins : {A : Type 0} (a b c : List A) → take (length a) b ≡ a → take (length b) c ≡ b → take (length a) c ≡ a
front-joins [] b c e f = refl
front-joins (x ∷ a) [] c e f = absurd cc
front-joins (x ∷ a) (y ∷ b) [] e f = absurd cc
front-joins (x ∷ a) (y ∷ b) (z ∷ c) e f =
    let first : y ≡ x = cc in
    let second : z ≡ y = cc in
    let ea : take (length a) b ≡ a = cc in
    let eb : take (length b) c ≡ b = cc in
    ap (λ (h : _). h ∷ take (length a) c) (second ∙ first) ∙ ap (λ (t : List _). x ∷ t) (front-joins a b c ea eb)

module _ {P : Type 0} (text : P → Term Text) where
  abbrev rest : List P → ℕ → List (Term Text)
  rest xs i = map text (drop i xs)

  rest-next : (xs : List P) (i : ℕ) (x : P) → i < length xs → x ≡ get_or xs i x → rest xs i ≡ text x ∷ rest xs (i + 1)
  rest-next xs i x l e = ap (map text) (at-next xs i x l e)

  -- entries

  indicate-on : (w : Database) (ts : List (Term Text)) (o : Option Indicator) → is_some o ≡ true
      → and_then (or_directive o) (λ k. all_indicate w ts) ≡ all_indicate w ts
  indicate-on w ts None e = absurd cc
  indicate-on w ts (Some k) e = refl

  indicate-off : (w : Database) (ts : List (Term Text)) (o : Option Indicator) → is_some o ≡ false
      → and_then (or_directive o) (λ k. all_indicate w ts) ≡ Err directive
  indicate-off w ts None e = refl
  indicate-off w ts (Some k) e = absurd cc

  mapped-some : {A B : Type 0} (f : A → B) (o : Option A) → is_some (option_map f o) ≡ is_some o
  mapped-some f None = refl
  mapped-some f (Some a) = refl

  pub indicate-goes : (names : List Text) (w : Database) (xs : List P) (i : ℕ) (x : P) (r : Option Pi) → i < length xs → x ≡ get_or xs i x
      → option_map (indicator_named names) r ≡ indicator (text x) → is_some r ≡ true
      → all_indicate w (map text (drop i xs)) ≡ all_indicate w (map text (drop (i + 1) xs))
  indicate-goes names w xs i x r l e k s =
      ap (all_indicate w) (rest-next xs i x l e) ∙ indicate-on w (rest xs (i + 1)) (indicator (text x))
      (ap is_some (sym k) ∙ (mapped-some (indicator_named names) r ∙ s))

  pub indicate-refused : (names : List Text) (w : Database) (xs : List P) (i : ℕ) (x : P) (r : Option Pi) → i < length xs
      → x ≡ get_or xs i x
      → option_map (indicator_named names) r ≡ indicator (text x) → is_some r ≡ false
      → all_indicate w (map text (drop i xs)) ≡ Err directive
  indicate-refused names w xs i x r l e k s =
      ap (all_indicate w) (rest-next xs i x l e) ∙ indicate-off w (rest xs (i + 1)) (indicator (text x))
      (ap is_some (sym k) ∙ (mapped-some (indicator_named names) r ∙ s))

  pub dynamic-refused : (l : Locked) (w : Database) (xs : List P) (i : ℕ) (x : P) → i < length xs → x ≡ get_or xs i x
      → None ≡ indicator (text x) → all_dynamic l w (map text (drop i xs)) ≡ Err directive
  dynamic-refused l w xs i x h e k =
      ap (all_dynamic l w) (rest-next xs i x h e)
      ∙ ap (λ (o : Option Indicator). and_then (or_directive o)
      (λ k. and_then (made_dynamic l w k) (λ u. all_dynamic l u (rest xs (i + 1))))) (sym k)

  pub dynamic-met : (l : Locked) (w : Database) (xs : List P) (i : ℕ) (x : P) (k : Indicator) → i < length xs → x ≡ get_or xs i x
      → Some k ≡ indicator (text x)
      → all_dynamic l w (map text (drop i xs)) ≡ and_then (made_dynamic l w k) (λ u. all_dynamic l u (map text (drop (i + 1) xs)))
  dynamic-met l w xs i x k h e f =
      ap (all_dynamic l w) (rest-next xs i x h e)
      ∙ ap (λ (o : Option Indicator). and_then (or_directive o)
      (λ k. and_then (made_dynamic l w k) (λ u. all_dynamic l u (rest xs (i + 1))))) (sym f)

  pub dynamic-goes : (l : Locked) (w u : Database) (xs : List P) (i : ℕ) (x : P) (k : Indicator) → i < length xs → x ≡ get_or xs i x
      → Some k ≡ indicator (text x) → made_dynamic l w k ≡ Ok u
      → all_dynamic l w (map text (drop i xs)) ≡ all_dynamic l u (map text (drop (i + 1) xs))
  dynamic-goes l w u xs i x k h e f m =
      dynamic-met l w xs i x k h e f ∙ ap (λ (r : Result Database Fault). and_then r (λ u. all_dynamic l u (rest xs (i + 1)))) m

  pub dynamic-stops : (l : Locked) (w : Database) (xs : List P) (i : ℕ) (x : P) (k : Indicator) (f : Fault) → i < length xs
      → x ≡ get_or xs i x
      → Some k ≡ indicator (text x) → made_dynamic l w k ≡ Err f
      → all_dynamic l w (map text (drop i xs)) ≡ Err f
  dynamic-stops l w xs i x k f h e g m =
      dynamic-met l w xs i x k h e g ∙ ap (λ (r : Result Database Fault). and_then r (λ u. all_dynamic l u (rest xs (i + 1)))) m

  -- atoms

  pub atoms-refused : (xs : List P) (i : ℕ) (x : P) → i < length xs → x ≡ get_or xs i x → None ≡ atom_name (text x)
      → atom_names (map text (drop i xs)) ≡ None
  atoms-refused xs i x l e k = ap atom_names (rest-next xs i x l e) ∙ by (atom_name (text x)) (sym k)
    where
      by : (o : Option Text) → o ≡ None → option_and_then (λ f. option_map (λ fs. f ∷ fs) (atom_names (rest xs (i + 1)))) o ≡ None
      by None h = refl
      by (Some f) h = absurd cc

  pub atoms-go : (names : List Text) (xs : List P) (i : ℕ) (x : P) (met new : List Sym) (s : Sym) → i < length xs → x ≡ get_or xs i x
      → Some (name_at names s.0) ≡ atom_name (text x) → new ≡ met ++ s ∷ []
      → before (names_of names met) (atom_names (map text (drop i xs)))
      ≡ before (names_of names new) (atom_names (map text (drop (i + 1) xs)))
  atoms-go names xs i x met new s l e k n =
      ap (before (names_of names met)) (ap atom_names (rest-next xs i x l e)
      ∙ ap (λ (o : Option Text). option_and_then (λ f. option_map (λ fs. f ∷ fs) (atom_names (rest xs (i + 1)))) o) (sym k))
      ∙ (before-more (names_of names met) (name_at names s.0) (atom_names (rest xs (i + 1)))
      ∙ ap (λ (fs : List Text). before fs (atom_names (rest xs (i + 1)))) (sym (map-append (λ (s : Sym). name_at names s.0) met (s ∷ []))
      ∙ ap (names_of names) (sym n)))

before-end : (ts : List Text) → before ts (Some []) ≡ Some ts
before-end ts = ap Some (append-nil ts)

pub atoms-end : {P : Type 0} (text : P → Term Text) (xs : List P) (i : ℕ) (ts : List Text) → length xs ≤ i
    → before ts (atom_names (map text (drop i xs))) ≡ Some ts
atoms-end text xs i ts l = ap (λ (ys : List _). before ts (atom_names (map text ys))) (at-end xs i l) ∙ before-end ts

-- one procedure

abbrev changed_by : Database → Indicator → Option Bool → Result Database Fault
changed_by w k o = elim o [ None ↦ Ok (set_procedure w k no_clauses) | Some d ↦ cond d (Ok w) (Err directive) ]

change-on : (names : List Text) (w : Database) (k : Indicator) (o : Option NumberedProcedure)
    → may_change w k (option_map (procedure_named names) o) ≡ changed_by w k (option_map (λ p. p.dynamic) o)
change-on names w k None = refl
change-on names w k (Some p) = refl

made-by : (s : Stored) (k : Pi) (is : Bool) (o : Option Bool) → IsTable s.names → is ≡ is_locked s.locked (indicator_named s.names k)
    → is ≡ false → o ≡ option_map (λ p. p.dynamic) (numbered_procedure_in s.procedures k)
    → made_dynamic s.locked (database_of s) (indicator_named s.names k) ≡ changed_by (database_of s) (indicator_named s.names k) o
made-by s k is o t e n f =
    if_false (is_locked s.locked (indicator_named s.names k)) _ _ (sym e ∙ n)
    ∙ (ap (may_change (database_of s) (indicator_named s.names k)) (found-named s.names t s.procedures k)
    ∙ (change-on s.names (database_of s) (indicator_named s.names k) (numbered_procedure_in s.procedures k)
    ∙ ap (changed_by (database_of s) (indicator_named s.names k)) (sym f)))

pub made-kept : (s : Stored) (k : Pi) (is : Bool) → IsTable s.names → is ≡ is_locked s.locked (indicator_named s.names k) → is ≡ false
    → Some true ≡ option_map (λ p. p.dynamic) (numbered_procedure_in s.procedures k)
    → made_dynamic s.locked (database_of s) (indicator_named s.names k) ≡ Ok (database_of s)
made-kept s k is t e n f = made-by s k is (Some true) t e n f

pub made-static : (s : Stored) (k : Pi) (is : Bool) → IsTable s.names → is ≡ is_locked s.locked (indicator_named s.names k) → is ≡ false
    → Some false ≡ option_map (λ p. p.dynamic) (numbered_procedure_in s.procedures k)
    → made_dynamic s.locked (database_of s) (indicator_named s.names k) ≡ Err directive
made-static s k is t e n f = made-by s k is (Some false) t e n f

pub made-new : (s : Stored) (k : Pi) (ps : NumberedProcedures) (is : Bool) → IsTable s.names
    → is ≡ is_locked s.locked (indicator_named s.names k)
    → is ≡ false → None ≡ option_map (λ p. p.dynamic) (numbered_procedure_in s.procedures k)
    → ps ≡ with_numbered_procedure s.procedures k no_numbered_clauses
    → made_dynamic s.locked (database_of s) (indicator_named s.names k) ≡ Ok (database_of (record s { procedures = ps }))
made-new s k ps is t e n f w =
    made-by s k is None t e n f
    ∙ ap (λ (ps : List (Indicator × Procedure)).
    let x : Database = record { procedures = ps; next = s.next; table = s.table; flags = s.flags } in Ok x)
    (put-named s.names t s.procedures k no_numbered_clauses ∙ ap (procedures_named s.names) (sym w))

pub none-there : (ps : NumberedProcedures) (k : Pi) → None ≡ option_map (λ p. p.dynamic) (numbered_procedure_in ps k)
    → numbered_procedure_in ps k ≡ None
none-there ps k e = by (numbered_procedure_in ps k) e
  where
    by : (o : Option NumberedProcedure) → None ≡ option_map (λ p. p.dynamic) o → o ≡ None
    by None e = refl
    by (Some p) e = absurd cc

pub new-behind : (ps : NumberedProcedures) (k : Pi) (p : NumberedProcedure) → numbered_procedure_in ps k ≡ None
    → take (length ps) (with_numbered_procedure ps k p) ≡ ps
new-behind [] k p e = refl
new-behind (x ∷ xs) k p e =
    by_test (pi_eq k x.0)
    (λ y. let bad : Some x.1 ≡ None = sym (if_true (pi_eq k x.0) (Some x.1) (numbered_procedure_in xs k) y) ∙ e in absurd cc)
    (λ y. ap (take (suc (length xs))) (if_false (pi_eq k x.0) ((x.0, p) ∷ xs) (x ∷ with_numbered_procedure xs k p) y)
    ∙ ap (λ (ps : NumberedProcedures). x ∷ ps) (new-behind xs k p (sym (if_false (pi_eq k x.0) (Some x.1) (numbered_procedure_in xs k) y)
    ∙ e)))

pub procedures-dynamic : (n : ℕ) (k : Pi) (ps : NumberedProcedures) → k.name.0 < n → AreNumberedProcedures n ps
    → AreNumberedProcedures n (with_numbered_procedure ps k no_numbered_clauses)
procedures-dynamic n k ps l h = procedure-put n k no_numbered_clauses ps h (record { name = l; clauses = λ i d b. absurd (omega arith) })

pub procedures-front : (n m : ℕ) (ps : NumberedProcedures) → AreNumberedProcedures n ps → AreNumberedProcedures n (take m ps)
procedures-front n zero ps h = tt
procedures-front n (suc m) [] h = tt
procedures-front n (suc m) (e ∷ es) h = (h.0, procedures-front n m es h.1)

-- words of directives

word-by : {A : Type 0} (a b c d : Bool) (x y z u : A) (v : Word)
    → cond a words.Dynamic (cond (b || c) words.Declaration (cond d words.Initialization words.Other)) ≡ v
    → cond a x (cond b y (cond c y (cond d z u)))
    ≡ elim v [ words.Dynamic ↦ x | words.Declaration ↦ y | words.Initialization ↦ z | words.Other ↦ u ]
word-by true b c d x y z u v e =
    ap (λ (v : Word). elim v [ words.Dynamic ↦ x | words.Declaration ↦ y | words.Initialization ↦ z | words.Other ↦ u ]) e
word-by false true c d x y z u v e =
    ap (λ (v : Word). elim v [ words.Dynamic ↦ x | words.Declaration ↦ y | words.Initialization ↦ z | words.Other ↦ u ]) e
word-by false false true d x y z u v e =
    ap (λ (v : Word). elim v [ words.Dynamic ↦ x | words.Declaration ↦ y | words.Initialization ↦ z | words.Other ↦ u ]) e
word-by false false false true x y z u v e =
    ap (λ (v : Word). elim v [ words.Dynamic ↦ x | words.Declaration ↦ y | words.Initialization ↦ z | words.Other ↦ u ]) e
word-by false false false false x y z u v e =
    ap (λ (v : Word). elim v [ words.Dynamic ↦ x | words.Declaration ↦ y | words.Initialization ↦ z | words.Other ↦ u ]) e

pub one-by-word : (l : Locked) (w : Database) (f : Text) (t : Term Text) (v : Word) → word f ≡ v
    → of_one l w f t ≡ elim v [
      | words.Dynamic ↦ all_dynamic l w (entries t)
      | words.Declaration ↦ all_indicate w (entries t)
      | words.Initialization ↦ Ok w
      | words.Other ↦ Err directive
    ]
one-by-word l w f t v e =
    word-by (bytes_eq f (codes "dynamic")) (bytes_eq f (codes "discontiguous")) (bytes_eq f (codes "multifile"))
    (bytes_eq f (codes "initialization")) (all_dynamic l w (entries t)) (all_indicate w (entries t)) (Ok w) (Err directive) v e

-- operators

pub names-listed : (t : Term Text) (ts : List (Term Text)) → Some ts ≡ elements t → operator_names t ≡ atom_names ts
names-listed t ts e =
    ap (λ (o : Option (List (Term Text))). elim o [ Some ts ↦ atom_names ts | None ↦ option_map (λ f. f ∷ []) (atom_name t) ]) (sym e)

abbrev set_on : ℤ → OpKind → List Text → Result Table OpFault → Result Table Fault
set_on p kind fs r = elim r [ Ok t ↦ ops_set p kind t fs | Err e ↦ Err directive ]

abbrev left : List Text → List Sym → ℕ → List Text
left names ss i = names_of names (drop i ss)

left-next : (names : List Text) (ss : List Sym) (i : ℕ) (s : Sym) → i < length ss → s ≡ get_or ss i s
    → left names ss i ≡ name_at names s.0 ∷ left names ss (i + 1)
left-next names ss i s l e = ap (names_of names) (at-next ss i s l e)

pub ops-go : (names : List Text) (p : ℤ) (kind : OpKind) (t u : Table) (ss : List Sym) (i : ℕ) (s : Sym) → i < length ss → s ≡ get_or ss i s
    → set_in t p kind (name_at names s.0) ≡ Ok u
    → ops_set p kind t (names_of names (drop i ss)) ≡ ops_set p kind u (names_of names (drop (i + 1) ss))
ops-go names p kind t u ss i s l e r = ap (ops_set p kind t) (left-next names ss i s l e) ∙ ap (set_on p kind (left names ss (i + 1))) r

pub ops-stop : (names : List Text) (p : ℤ) (kind : OpKind) (t : Table) (ss : List Sym) (i : ℕ) (s : Sym) (f : OpFault) → i < length ss
    → s ≡ get_or ss i s → set_in t p kind (name_at names s.0) ≡ Err f
    → ops_set p kind t (names_of names (drop i ss)) ≡ Err directive
ops-stop names p kind t ss i s f l e r = ap (ops_set p kind t) (left-next names ss i s l e) ∙ ap (set_on p kind (left names ss (i + 1))) r

pub ops-end : (names : List Text) (p : ℤ) (kind : OpKind) (t : Table) (ss : List Sym) (i : ℕ) → length ss ≤ i
    → ops_set p kind t (names_of names (drop i ss)) ≡ Ok t
ops-end names p kind t ss i l = ap (λ (us : List Sym). ops_set p kind t (names_of names us)) (at-end ss i l)
