-- Which goals can be run, by their outermost nodes, and a walk over the parts of a body.
use Rattle.std.proofs.Common.{◌≡◌, ◌≢◌, ℕ, suc, ◌+◌, ◌<◌, ◌&&◌, ◌||◌, Bool, true, false, cond, List, [], ◌∷◌, ◌++◌, map}
use Rattle.std.proofs.Common.{Some, codes, refl, sym, ap, ◌∙◌, arith, sum_by, All}
use Rattle.std.specs.Prelude.{not}
use Rattle.std.proofs.lemmas.List.{map-append}
use Rattle.std.proofs.lemmas.List.Folds.{list_all-append}
use Rattle.std.proofs.lemmas.List.Sums.{sum_by-append}
use Rattle.std.proofs.lemmas.List.Elements.{All-append}
use Rattle.std.specs.List.{list_all}
use Rattle.op_logic.specs.Term.{Term, var, int, node, no_args, arg, atom, args_of, nth_arg, arity, size}
use Rattle.op_logic.specs.Names.{name_at, named, HasNames}
use Rattle.op_logic.proofs.RenamedUnification.{arity-rename}
use Rattle.op_term.specs.Head.{head, sym as name}
use Rattle.op_term.specs.declared.symbols.Sym.{Sym}
use Rattle.op_term.specs.declared.node.Node.TheVariants as nodes
use Rattle.op_trace.specs.Database.{Text, text_eq}
use Rattle.op_trace.specs.Visit.{Control, TrueGoal, FailGoal, CutGoal, Conjunction, Disjunction, IfThenElse, BoxedGoal}
use Rattle.op_trace.specs.Visit.{control_of_disjunction, control_of_pair}
use Rattle.op_bind.specs.declared.places.Clause.{Clause as NumberedClause}
use Rattle.op_store.specs.declared.procedures.pi.Pi.{Pi}
use Rattle.op_store.specs.NumberedProcedures.{NumberedProcedures, all_numbered_clauses, IsNumberedClause, AreNumberedProcedures}
use Rattle.op_trace.specs.Database.{name_arity, indicator_of_term}
use Rattle.op_store.specs.declared.names.locked.Locked.TheVariants.{Program}
use Rattle.op_inspect.specs.Inspected.{is_builtin}
use Rattle.op_store.specs.Locked.{is_locked}
use Rattle.op_session.specs.Runnable.{built, is_built, has_box, is_runnable}
use Rattle.op_session.specs.inner.Parts.{is_control_pair_name, is_control_pair, all_runnable}

-- a compound's name and arity, by its outermost node
pub built-struct : (names : List Text) (t : Term ℕ) (f : Sym) (n : ℕ) → nodes.Struct f n ≡ head t
    → is_built (Some (name_arity (name_at names f.0) n)) ≡ is_built (indicator_of_term (named names t))
built-struct names (var v) f n e = absurd cc
built-struct names (int i) f n e = absurd cc
built-struct names (node g no_args) f n e = absurd cc
built-struct names (node g (arg a ts)) f n e =
    let s : f ≡ name g = cc in
    let k : n ≡ suc (arity ts) = cc in
    ap (λ (x : Sym). is_built (Some (name_arity (name_at names x.0) n))) s
    ∙ ap (λ (m : ℕ). is_built (Some (name_arity (name_at names g) m))) k
    ∙ ap (λ (m : ℕ). is_built (Some (name_arity (name_at names g) (suc m)))) (sym (arity-rename (name_at names) ts))

-- a control construct of two parts is a compound of two arguments with the name `,`, `;` or `->`
pub control_pair-two : (names : List Text) (t : Term ℕ) (f : Sym) (n : ℕ) → nodes.Struct f n ≡ head t → n ≡ 2
    → is_control_pair_name (name_at names f.0) ≡ is_control_pair (named names t)
control_pair-two names (var v) f n e two = absurd cc
control_pair-two names (int i) f n e two = absurd cc
control_pair-two names (node g no_args) f n e two = absurd cc
control_pair-two names (node g (arg a no_args)) f n e two = let k : n ≡ 1 = cc in absurd (omega arith)
control_pair-two names (node g (arg a (arg b no_args))) f n e two =
    let s : f ≡ name g = cc in ap (λ (x : Sym). is_control_pair_name (name_at names x.0)) s
control_pair-two names (node g (arg a (arg b (arg c ts)))) f n e two =
    let k : n ≡ suc (suc (suc (arity ts))) = cc in absurd (omega arith)

pub control_pair-other : (names : List Text) (t : Term ℕ) (f : Sym) (n : ℕ) → nodes.Struct f n ≡ head t → n ≢ 2
    → is_control_pair (named names t) ≡ false
control_pair-other names (var v) f n e two = absurd cc
control_pair-other names (int i) f n e two = absurd cc
control_pair-other names (node g no_args) f n e two = absurd cc
control_pair-other names (node g (arg a no_args)) f n e two = refl
control_pair-other names (node g (arg a (arg b no_args))) f n e two = let k : n ≡ 2 = cc in absurd (two k)
control_pair-other names (node g (arg a (arg b (arg c ts)))) f n e two = refl

-- a control construct of two parts has no box
disjunction-unboxed : (a b : Term Text) → has_box (control_of_disjunction a b) ≡ false
disjunction-unboxed (var v) b = refl
disjunction-unboxed (int i) b = refl
disjunction-unboxed (node f no_args) b = refl
disjunction-unboxed (node f (arg c no_args)) b = refl
disjunction-unboxed (node f (arg c (arg t no_args))) b =
    elim (text_eq f (codes "->"))
    as (λ x. has_box (cond x (IfThenElse c t b) (Disjunction (node f (arg c (arg t no_args))) b)) ≡ false) [ true ↦ refl | false ↦ refl ]
disjunction-unboxed (node f (arg c (arg t (arg u ts)))) b = refl

pair-unboxed : (f : Text) (a b : Term Text) → is_control_pair_name f ≡ true → has_box (control_of_pair f a b) ≡ false
pair-unboxed f a b e =
    by (text_eq f (codes ",")) (text_eq f (codes ";")) (text_eq f (codes "->")) (control_of_disjunction a b) (disjunction-unboxed a b) e
  where
    by : (c s i : Bool) (d : Control) → has_box d ≡ false → (c || (s || i)) ≡ true
        → has_box (cond c (Conjunction a b) (cond s d (cond i (IfThenElse a b (atom (codes "fail"))) BoxedGoal))) ≡ false
    by true s i d h e = refl
    by false true i d h e = h
    by false false true d h e = refl
    by false false false d h e = absurd cc

-- and another compound of two arguments has one
pair-boxed : (f : Text) (a b : Term Text) → is_control_pair_name f ≡ false → has_box (control_of_pair f a b) ≡ true
pair-boxed f a b e =
    by (text_eq f (codes ",")) (text_eq f (codes ";")) (text_eq f (codes "->")) (control_of_disjunction a b) e
  where
    by : (c s i : Bool) (d : Control) → (c || (s || i)) ≡ false
        → has_box (cond c (Conjunction a b) (cond s d (cond i (IfThenElse a b (atom (codes "fail"))) BoxedGoal))) ≡ true
    by true s i d e = absurd cc
    by false true i d e = absurd cc
    by false false true d e = absurd cc
    by false false false d e = refl

-- a name is asked for where it has a box, and those of the control constructs without parts are built
atom-met : (t f u c h l b : Bool)
    → not (l && not ((t || (f || (u || (c || (h || false))))) || b))
    ≡ cond (has_box (cond t TrueGoal (cond f FailGoal (cond u FailGoal (cond c CutGoal BoxedGoal)))))
    (not (l && not ((t || (f || (u || (c || (h || false))))) || b))) true
atom-met true f u c h true b = refl
atom-met true f u c h false b = refl
atom-met false true u c h true b = refl
atom-met false true u c h false b = refl
atom-met false false true c h true b = refl
atom-met false false true c h false b = refl
atom-met false false false true h true b = refl
atom-met false false false true h false b = refl
atom-met false false false false h l b = refl

and-one : (a b : Bool) → (a && (b && true)) ≡ (a && b)
and-one true true = refl
and-one true false = refl
and-one false b = refl

-- the two parts of a control construct
pub record Parts (names : List Text) (t : Term ℕ) : Type 0 where
  pub two : arity (args_of t) ≡ 2
  pub run : is_runnable (named names t)
      ≡ (is_runnable (named names (nth_arg (args_of t) 0)) && is_runnable (named names (nth_arg (args_of t) 1)))
  pub less : size (nth_arg (args_of t) 0) + size (nth_arg (args_of t) 1) < size t

pub parts-of : (names : List Text) (t : Term ℕ) → is_control_pair (named names t) ≡ true → Parts names t
parts-of names (var v) e = absurd cc
parts-of names (int i) e = absurd cc
parts-of names (node f no_args) e = absurd cc
parts-of names (node f (arg a no_args)) e = absurd cc
parts-of names (node f (arg a (arg b no_args))) e =
    let g : Text = name_at names f in
    let c : Term Text = named names a in
    let d : Term Text = named names b in
    let p : Bool = is_built (indicator_of_term (node g (arg c (arg d no_args)))) in
    record {
      two = refl;
      run =
          ap (λ (x : Bool). cond x p (list_all (λ (b : Bool). b) (is_runnable c ∷ is_runnable d ∷ []))) (pair-unboxed g c d e)
          ∙ and-one (is_runnable c) (is_runnable d);
      less = omega arith;
    }
parts-of names (node f (arg a (arg b (arg c ts)))) e = absurd cc

pub part-names : (names : List Text) (t : Term ℕ) (n : ℕ) → is_control_pair (named names t) ≡ true → HasNames n t
    → HasNames n (nth_arg (args_of t) 0) × HasNames n (nth_arg (args_of t) 1)
part-names names (var v) n e h = absurd cc
part-names names (int i) n e h = absurd cc
part-names names (node f no_args) n e h = absurd cc
part-names names (node f (arg a no_args)) n e h = absurd cc
part-names names (node f (arg a (arg b no_args))) n e h = (h.1.0, h.1.1.0)
part-names names (node f (arg a (arg b (arg c ts)))) n e h = absurd cc

pub other-part : (names : List Text) (t : Term ℕ) → is_control_pair (named names t) ≡ false
    → is_built (indicator_of_term (named names t)) ≡ is_runnable (named names t)
unfolding built
other-part names (var v) e = refl
other-part names (int i) e = refl
other-part names (node f no_args) e =
    let g : Text = name_at names f in
    atom-met (text_eq g (codes "true")) (text_eq g (codes "fail")) (text_eq g (codes "false")) (text_eq g (codes "!"))
    (text_eq g (codes "halt")) (is_locked Program (name_arity g 0)) (is_builtin g 0)
other-part names (node f (arg a no_args)) e = refl
other-part names (node f (arg a (arg b no_args))) e =
    let g : Text = name_at names f in
    let c : Term Text = named names a in
    let d : Term Text = named names b in
    let p : Bool = is_built (indicator_of_term (node g (arg c (arg d no_args)))) in
    sym (ap (λ (x : Bool). cond x p (list_all (λ (b : Bool). b) (is_runnable c ∷ is_runnable d ∷ []))) (pair-boxed g c d e))
other-part names (node f (arg a (arg b (arg c ts)))) e = refl

size-some : (t : Term ℕ) → 0 < size t
size-some (var v) = omega arith
size-some (int i) = omega arith
size-some (node f ts) = omega arith

pub list_all-map : {A B : Type 0} (p : B → Bool) (f : A → B) (xs : List A) → list_all p (map f xs) ≡ list_all (λ x. p (f x)) xs
list_all-map p f [] = refl
list_all-map p f (x ∷ xs) = ap (λ (b : Bool). p (f x) && b) (list_all-map p f xs)

-- the names of the clauses' bodies are those of the store
bodies-named : (n : ℕ) (k : Pi) (rs : List NumberedClause) → All (λ (r : NumberedClause). IsNumberedClause n k r) rs
    → All (λ (r : NumberedClause). HasNames n r.body) rs
bodies-named n k rs all i d h = (all i d h).body_names

pub procedures-bodies : (n : ℕ) (ps : NumberedProcedures) → AreNumberedProcedures n ps
    → All (λ (r : NumberedClause). HasNames n r.body) (all_numbered_clauses ps)
procedures-bodies n [] h = λ i d l. absurd (omega (arith, l))
procedures-bodies n (e ∷ es) h =
    All-append (λ (r : NumberedClause). HasNames n r.body) e.1.clauses (all_numbered_clauses es)
    (bodies-named n e.0 e.1.clauses h.0.clauses) (procedures-bodies n es h.1)

and-turned : (a b : Bool) → (a && (b && true)) ≡ (b && a)
and-turned true true = refl
and-turned true false = refl
and-turned false true = refl
and-turned false false = refl

-- the places that are left to be met
module _ {A : Type 0} (names : List Text) (term : A → Term ℕ) where
  abbrev pub shown : A → Term Text
  shown p = named names (term p)

  -- a part that is no control construct of two parts is met
  pub met-one : (ps : List A) (p : A) (b : Bool) → is_control_pair (shown p) ≡ false → b ≡ is_built (indicator_of_term (shown p))
      → all_runnable (map shown (ps ++ p ∷ [])) ≡ (b && all_runnable (map shown ps))
  met-one ps p b other e =
      ap all_runnable (map-append shown ps (p ∷ []))
      ∙ list_all-append is_runnable (map shown ps) (shown p ∷ [])
      ∙ and-turned (all_runnable (map shown ps)) (is_runnable (shown p))
      ∙ ap (λ (x : Bool). x && all_runnable (map shown ps)) (sym (e ∙ other-part names (term p) other))

  -- a control construct of two parts leaves its two parts
  pub met-two : (ps qs rs : List A) (p a b : A) → is_control_pair (shown p) ≡ true → qs ≡ ps ++ b ∷ [] → rs ≡ qs ++ a ∷ []
      → term a ≡ nth_arg (args_of (term p)) 0 → term b ≡ nth_arg (args_of (term p)) 1
      → all_runnable (map shown (ps ++ p ∷ [])) ≡ all_runnable (map shown rs)
  met-two ps qs rs p a b pair eq er ea eb =
      let parts = parts-of names (term p) pair in
      let first : is_runnable (named names (nth_arg (args_of (term p)) 0)) ≡ is_runnable (shown a) =
      ap (λ (t : Term ℕ). is_runnable (named names t)) (sym ea) in
      let second : is_runnable (named names (nth_arg (args_of (term p)) 1)) ≡ is_runnable (shown b) =
      ap (λ (t : Term ℕ). is_runnable (named names t)) (sym eb) in
      let run : is_runnable (shown p) ≡ (is_runnable (shown a) && is_runnable (shown b)) =
      parts.run ∙ ap (λ (x : Bool). x && is_runnable (named names (nth_arg (args_of (term p)) 1))) first
      ∙ ap (λ (x : Bool). is_runnable (shown a) && x) second in
      let before : all_runnable (map shown (ps ++ p ∷ [])) ≡ (all_runnable (map shown ps) && (is_runnable (shown p) && true)) =
      ap all_runnable (map-append shown ps (p ∷ [])) ∙ list_all-append is_runnable (map shown ps) (shown p ∷ []) in
      let one : all_runnable (map shown (ps ++ b ∷ [])) ≡ (all_runnable (map shown ps) && (is_runnable (shown b) && true)) =
      ap all_runnable (map-append shown ps (b ∷ [])) ∙ list_all-append is_runnable (map shown ps) (shown b ∷ []) in
      let after : all_runnable (map shown ((ps ++ b ∷ []) ++ a ∷ []))
      ≡ (all_runnable (map shown (ps ++ b ∷ [])) && (is_runnable (shown a) && true)) =
      ap all_runnable (map-append shown (ps ++ b ∷ []) (a ∷ []))
      ∙ list_all-append is_runnable (map shown (ps ++ b ∷ [])) (shown a ∷ []) in
      let all : rs ≡ (ps ++ b ∷ []) ++ a ∷ [] = er ∙ ap (λ (xs : List A). xs ++ a ∷ []) eq in
      before ∙ ap (λ (x : Bool). all_runnable (map shown ps) && (x && true)) run
      ∙ turned (all_runnable (map shown ps)) (is_runnable (shown a)) (is_runnable (shown b))
      ∙ ap (λ (x : Bool). x && (is_runnable (shown a) && true)) (sym one) ∙ sym after
      ∙ ap (λ (xs : List A). all_runnable (map shown xs)) (sym all)
    where
      turned : (x a b : Bool) → (x && ((a && b) && true)) ≡ ((x && (b && true)) && (a && true))
      turned true true true = refl
      turned true true false = refl
      turned true false true = refl
      turned true false false = refl
      turned false a b = refl

  -- what is left gets smaller
  abbrev pub weight : List A → ℕ
  weight ps = sum_by (λ p. size (term p)) ps

  pub less-one : (ps : List A) (p : A) → weight ps < weight (ps ++ p ∷ [])
  less-one ps p =
      let e = sum_by-append (λ p. size (term p)) ps (p ∷ []) in
      let s = size-some (term p) in
      rw e (omega arith)

  pub less-two : (ps qs rs : List A) (p a b : A) → is_control_pair (shown p) ≡ true → qs ≡ ps ++ b ∷ [] → rs ≡ qs ++ a ∷ []
      → term a ≡ nth_arg (args_of (term p)) 0 → term b ≡ nth_arg (args_of (term p)) 1 → weight rs < weight (ps ++ p ∷ [])
  less-two ps qs rs p a b pair eq er ea eb =
      let parts = parts-of names (term p) pair in
      let less = parts.less in
      let sa : size (term a) ≡ size (nth_arg (args_of (term p)) 0) = ap size ea in
      let sb : size (term b) ≡ size (nth_arg (args_of (term p)) 1) = ap size eb in
      let e1 : weight rs ≡ weight (qs ++ a ∷ []) = ap weight er in
      let e2 = sum_by-append (λ p. size (term p)) qs (a ∷ []) in
      let e3 : weight qs ≡ weight (ps ++ b ∷ []) = ap weight eq in
      let e4 = sum_by-append (λ p. size (term p)) ps (b ∷ []) in
      let e5 = sum_by-append (λ p. size (term p)) ps (p ∷ []) in
      omega (arith, e1, e2, e3, e4, e5, sa, sb, less)
