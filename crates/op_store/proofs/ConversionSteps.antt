-- A walk over the parts of a body, one part after the other.
use Rattle.std.proofs.Common.{◌≡◌, ◌≢◌, ℕ, zero, suc, ◌+◌, ◌<◌, cond, Bool, true, false, List, [], ◌∷◌, ◌++◌, map, reverse, Option, Some}
use Rattle.std.proofs.Common.{None, All, refl, sym, ap, ◌∙◌, subst, arith}
use Rattle.std.specs.Prelude.{option_map, option_and_then, bytes_eq, codes, ◌||◌}
use Rattle.std.proofs.lemmas.List.{reverse-append}
use Rattle.std.proofs.lemmas.List.Elements.{All-append, All-push}
use Rattle.std.proofs.lemmas.Slice.Eq.{bytes_eq-Decides}
use Rattle.op_logic.specs.Term.{Term, var, int, node, Args, no_args, arg, args_of, nth_arg, arity, rename, rename_args}
use Rattle.op_logic.specs.Bind.{Bindings, apply, follow}
use Rattle.op_logic.specs.Names.{name_at, named, HasNames, ArgsHaveNames}
use Rattle.op_trace.specs.Body.{Body, goal, call, control, Division, one_step, has_parts, joined, compound, divided_by, divisions_by}
use Rattle.op_trace.specs.Body.{divided}
use Rattle.op_store.specs.inner.BodyParts.{part_of_term, part_of_pair}
use Rattle.op_store.specs.Nodes.{leaves}
use Rattle.op_store.specs.inner.Walk.{Bodies, with_first, bodies_of, took, read, Left, left_of, step_before, refused}
use Rattle.op_store.specs.declared.bodies.body_part.Part.{Part}
use Rattle.op_store.specs.declared.bodies.body_part.Part.TheVariants as parts
use Rattle.op_store.specs.declared.bodies.body_node.BodyNode.{BodyNode}
use Rattle.op_store.specs.declared.bodies.body_node.BodyNode.TheVariants as nodes
use Rattle.op_store.proofs.FollowedParts.{parts_under}

abbrev pub T : Type 0
T = Term (List ℕ)

-- the name of a control construct
abbrev pub control_name : Part → List ℕ → List ℕ
control_name parts.Conjunction f = codes ","
control_name parts.Disjunction f = codes ";"
control_name parts.IfThen f = codes "->"
control_name p f = f

named-by : (f : List ℕ) (a b c : Bool) → (a ≡ true → f ≡ codes ",") → (b ≡ true → f ≡ codes ";") → (c ≡ true → f ≡ codes "->")
    → f ≡ control_name (cond a parts.Conjunction (cond b parts.Disjunction (cond c parts.IfThen parts.Goal))) f
named-by f true b c p q r = p refl
named-by f false true c p q r = q refl
named-by f false false true p q r = r refl
named-by f false false false p q r = refl

part_of_pair-named : (f : List ℕ) → f ≡ control_name (part_of_pair f) f
part_of_pair-named f =
    named-by f (bytes_eq f (codes ",")) (bytes_eq f (codes ";")) (bytes_eq f (codes "->"))
    (bytes_eq-Decides f (codes ",")).0 (bytes_eq-Decides f (codes ";")).0 (bytes_eq-Decides f (codes "->")).0

-- `part_of_pair` is no variable and no number
part_of_pair-cond : (a b c : Bool) (x : Part) → cond a parts.Conjunction (cond b parts.Disjunction (cond c parts.IfThen parts.Goal)) ≡ x
    → (x ≡ parts.Variable → ⊥) × (x ≡ parts.Number → ⊥)
part_of_pair-cond true b c x e = (λ h. cc, λ h. cc)
part_of_pair-cond false true c x e = (λ h. cc, λ h. cc)
part_of_pair-cond false false true x e = (λ h. cc, λ h. cc)
part_of_pair-cond false false false x e = (λ h. cc, λ h. cc)

part_of_pair-none : (f : List ℕ) → (part_of_pair f ≡ parts.Variable → ⊥) × (part_of_pair f ≡ parts.Number → ⊥)
part_of_pair-none f = part_of_pair-cond (bytes_eq f (codes ",")) (bytes_eq f (codes ";")) (bytes_eq f (codes "->")) (part_of_pair f) refl

-- one of the three
abbrev pub IsControl : Part → Type 0
IsControl parts.Conjunction = Unit {0}
IsControl parts.Disjunction = Unit {0}
IsControl parts.IfThen = Unit {0}
IsControl p = ⊥

-- their names are those that have parts
control-cond : (a b c : Bool) (p : Part) → cond a parts.Conjunction (cond b parts.Disjunction (cond c parts.IfThen parts.Goal)) ≡ p
    → IsControl p → (a || (b || c)) ≡ true
control-cond true b c p e h = refl
control-cond false true c p e h = refl
control-cond false false true p e h = refl
control-cond false false false p e h = let Q : Part → Type 0 = IsControl in absurd (subst Q (sym e) h)

control-has : (f : List ℕ) (p : Part) → part_of_pair f ≡ p → IsControl p → has_parts f ≡ true
control-has f p e h = control-cond (bytes_eq f (codes ",")) (bytes_eq f (codes ";")) (bytes_eq f (codes "->")) p e h

goal-cond : (a b c : Bool) → cond a parts.Conjunction (cond b parts.Disjunction (cond c parts.IfThen parts.Goal)) ≡ parts.Goal
    → (a || (b || c)) ≡ false
goal-cond true b c e = absurd cc
goal-cond false true c e = absurd cc
goal-cond false false true e = absurd cc
goal-cond false false false e = refl

goal-has : (f : List ℕ) → part_of_pair f ≡ parts.Goal → has_parts f ≡ false
goal-has f e = goal-cond (bytes_eq f (codes ",")) (bytes_eq f (codes ";")) (bytes_eq f (codes "->")) e

not-goal : (t : T) (p : Part) → part_of_term t ≡ p → IsControl p → part_of_term t ≢ parts.Goal
not-goal t parts.Conjunction e h g = cc
not-goal t parts.Disjunction e h g = cc
not-goal t parts.IfThen e h g = cc
not-goal t parts.Variable e h g = h
not-goal t parts.Goal e h g = h
not-goal t parts.Number e h g = h

not-variable : (p : Part) → IsControl p → p ≢ parts.Variable
not-variable p h e = let Q : Part → Type 0 = IsControl in subst Q e h

not-number : (p : Part) → IsControl p → p ≢ parts.Number
not-number p h e = let Q : Part → Type 0 = IsControl in subst Q e h

-- a control construct has two parts
pub control-two : (t : T) (p : Part) → part_of_term t ≡ p → IsControl p → arity (args_of t) ≡ 2
control-two (var v) p e h = absurd (not-variable p h (sym e))
control-two (int i) p e h = absurd (not-number p h (sym e))
control-two (node f no_args) p e h = absurd (not-goal (node f no_args) p e h refl)
control-two (node f (arg a no_args)) p e h = absurd (not-goal (node f (arg a no_args)) p e h refl)
control-two (node f (arg a (arg b no_args))) p e h = refl
control-two (node f (arg a (arg b (arg c ts)))) p e h = absurd (not-goal (node f (arg a (arg b (arg c ts)))) p e h refl)

-- and is divided by them
pub control-divided : (σ : Bindings (List ℕ)) (t a b : T) (p : Part) → part_of_term t ≡ p → IsControl p → a ≡ nth_arg (args_of t) 0
    → b ≡ nth_arg (args_of t) 1 → parts_under σ t ≡ joined (control_name p []) (divided σ a) (divided σ b)
control-divided σ (var v) a b p e h ea eb = absurd (not-variable p h (sym e))
control-divided σ (int i) a b p e h ea eb = absurd (not-number p h (sym e))
control-divided σ (node f no_args) a b p e h ea eb = absurd (not-goal (node f no_args) p e h refl)
control-divided σ (node f (arg x no_args)) a b p e h ea eb = absurd (not-goal (node f (arg x no_args)) p e h refl)
control-divided σ (node f (arg x (arg y no_args))) a b p e h ea eb =
    let g : Division = one_step (Some (goal (node f (arg x (arg y no_args))))) in
    let j : Division = joined f (divided σ x) (divided σ y) in
    let one : parts_under σ (node f (arg x (arg y no_args))) ≡ j = ap (λ (c : Bool). cond c j g) (control-has f p e h) in
    let n : f ≡ control_name p [] = part_of_pair-named f ∙ (ap (λ (q : Part). control_name q f) e ∙ same p f h) in
    one ∙ (ap (λ (k : List ℕ). joined k (divided σ x) (divided σ y)) n
    ∙ (ap (λ (u : T). joined (control_name p []) (divided σ u) (divided σ y)) (sym ea)
    ∙ ap (λ (u : T). joined (control_name p []) (divided σ a) (divided σ u)) (sym eb)))
  where
    same : (p : Part) (f : List ℕ) → IsControl p → control_name p f ≡ control_name p []
    same parts.Conjunction f h = refl
    same parts.Disjunction f h = refl
    same parts.IfThen f h = refl
    same parts.Variable f h = absurd h
    same parts.Goal f h = absurd h
    same parts.Number f h = absurd h
control-divided σ (node f (arg x (arg y (arg z ts)))) a b p e h ea eb = absurd (not-goal (node f (arg x (arg y (arg z ts)))) p e h refl)

-- other parts are divided by themselves
pub goal-divided : (σ : Bindings (List ℕ)) (t : T) → part_of_term t ≡ parts.Goal → parts_under σ t ≡ one_step (Some (goal t))
goal-divided σ (var v) e = absurd cc
goal-divided σ (int i) e = absurd cc
goal-divided σ (node f no_args) e = refl
goal-divided σ (node f (arg a no_args)) e = refl
goal-divided σ (node f (arg a (arg b no_args))) e =
    ap (λ (c : Bool). cond c (joined f (divided σ a) (divided σ b)) (one_step (Some (goal (node f (arg a (arg b no_args)))))))
    (goal-has f e)
goal-divided σ (node f (arg a (arg b (arg c ts)))) e = refl

pub variable-divided : (σ : Bindings (List ℕ)) (t : T) → part_of_term t ≡ parts.Variable → parts_under σ t ≡ one_step (Some (call t))
variable-divided σ (var v) e = refl
variable-divided σ (int i) e = absurd cc
variable-divided σ (node f no_args) e = absurd cc
variable-divided σ (node f (arg a no_args)) e = absurd cc
variable-divided σ (node f (arg a (arg b no_args))) e = absurd ((part_of_pair-none f).0 e)
variable-divided σ (node f (arg a (arg b (arg c ts)))) e = absurd cc

pub number-divided : (σ : Bindings (List ℕ)) (t : T) → part_of_term t ≡ parts.Number → parts_under σ t ≡ one_step None
number-divided σ (var v) e = absurd cc
number-divided σ (int i) e = refl
number-divided σ (node f no_args) e = absurd cc
number-divided σ (node f (arg a no_args)) e = absurd cc
number-divided σ (node f (arg a (arg b no_args))) e = absurd ((part_of_pair-none f).1 e)
number-divided σ (node f (arg a (arg b (arg c ts)))) e = absurd cc

-- each conversion costs something
joined-some : (f : List ℕ) (o : Option Body) (m : ℕ) (b : Division) → 0 < (joined f (record { tree = o; steps = m }) b).steps
joined-some f None m b = omega arith
joined-some f (Some t) m b = omega arith

either-some : (b : Bool) (c d : Division) → 0 < c.steps → 0 < d.steps → 0 < (cond b c d).steps
either-some true c d h k = h
either-some false c d h k = k

compound-some : (f : List ℕ) (t : T) (ds : List Division) → 0 < (compound f t ds).steps
compound-some f t [] = omega arith
compound-some f t (a ∷ []) = omega arith
compound-some f t (a ∷ b ∷ []) =
    either-some (has_parts f) (joined f a b) (one_step (Some (goal t))) (joined-some f a.tree a.steps b) (omega arith)
compound-some f t (a ∷ b ∷ c ∷ ds) = omega arith

by-some : (s : T) (σ : Bindings (List ℕ)) (t : T) → 0 < (divided_by s σ t).steps
by-some (var v) σ t = omega arith
by-some (int i) σ t = omega arith
by-some (node f ss) σ t = compound-some f (follow σ t) (divisions_by ss σ (args_of (follow σ t)))

divided-some : (σ : Bindings (List ℕ)) (t : T) → 0 < (divided σ t).steps
divided-some σ t = by-some (apply σ t) σ t

left-same : (b c : Option (Option (List Body))) (m n : ℕ) → b ≡ c → m ≡ n
    → (let x : Left = record { bodies = b; steps = m } in x) ≡ record { bodies = c; steps = n }
left-same b c m n e f =
    ap (λ (q : Option (Option (List Body))). let x : Left = record { bodies = q; steps = m } in x) e
    ∙ ap (λ (q : ℕ). let x : Left = record { bodies = c; steps = q } in x) f

module _ {P : Type 0} (text : P → T) where
  pub read-push : (xs : List (BodyNode P)) (x : BodyNode P) (o : Option (List Body))
      → read text (xs ++ x ∷ []) o ≡ read text xs (option_and_then (took text x) o)
  read-push [] x o = refl
  read-push (y ∷ ys) x o = ap (option_and_then (took text y)) (read-push ys x o)

module _ {P : Type 0} (σ : Bindings (List ℕ)) (text : P → T) where
  abbrev finished : List (BodyNode P) → Option (List Body) → Option (Option (List Body))
  finished met o = option_map (λ s. read text met (Some s)) o

  left-next : (met : List (BodyNode P)) (todo : List P) (next : P) → left_of σ text met (todo ++ next ∷ [])
      ≡ record {
        bodies = finished met (with_first (divided σ (text next)) (bodies_of σ (map text (reverse todo)))).bodies;
        steps = (with_first (divided σ (text next)) (bodies_of σ (map text (reverse todo)))).steps;
      }
  left-next met todo next =
      ap (λ (ps : List P). let b = bodies_of σ (map text ps) in
      let x : Left = record { bodies = finished met b.bodies; steps = b.steps } in x) (reverse-append todo (next ∷ []))

  leaf-bodies : (met : List (BodyNode P)) (x : BodyNode P) (v : Body) (o : Option (List Body))
      → ((s : List Body) → took text x s ≡ Some (v ∷ s))
      → finished met (option_map (λ ts. v ∷ ts) o) ≡ finished (met ++ x ∷ []) o
  leaf-bodies met x v None h = refl
  leaf-bodies met x v (Some ts) h = ap Some (ap (read text met) (sym (h ts)) ∙ sym (read-push text met x (Some ts)))

  -- a part that is a goal or a variable
  pub left-leaf : (met new : List (BodyNode P)) (todo : List P) (next : P) (x : BodyNode P) (v : Body)
      → divided σ (text next) ≡ one_step (Some v)
      → ((s : List Body) → took text x s ≡ Some (v ∷ s)) → new ≡ met ++ x ∷ []
      → left_of σ text met (todo ++ next ∷ []) ≡ step_before (left_of σ text new todo)
  left-leaf met new todo next x v e h n =
      let r : Bodies = bodies_of σ (map text (reverse todo)) in
      left-next met todo next
      ∙ (ap (λ (c : Division). let b = with_first c r in let y : Left = record { bodies = finished met b.bodies; steps = b.steps } in y) e
      ∙ (left-same (finished met (option_map (λ ts. v ∷ ts) r.bodies)) (finished (met ++ x ∷ []) r.bodies) (1 + r.steps) (suc r.steps)
      (leaf-bodies met x v r.bodies h) (omega arith)
      ∙ ap (λ (ns : List (BodyNode P)). step_before (left_of σ text ns todo)) (sym n)))

  pub left-refused : (met : List (BodyNode P)) (todo : List P) (next : P) → divided σ (text next) ≡ one_step None
      → left_of σ text met (todo ++ next ∷ []) ≡ refused
  left-refused met todo next e =
      let r : Bodies = bodies_of σ (map text (reverse todo)) in
      left-next met todo next
      ∙ ap (λ (c : Division). let b = with_first c r in let y : Left = record { bodies = finished met b.bodies; steps = b.steps } in y) e

  pair-bodies : (f : List ℕ) (oa ob : Option Body) (m n : ℕ) (r : Bodies) (o : Option (List Body)) (met : List (BodyNode P))
      (x : BodyNode P) → o ≡ r.bodies → ((t u : Body) (s : List Body) → took text x (t ∷ u ∷ s) ≡ Some (control f t u ∷ s))
      → finished met (with_first (joined f (record { tree = oa; steps = m }) (record { tree = ob; steps = n }))
      (record { bodies = o; steps = r.steps })).bodies
      ≡ finished (met ++ x ∷ []) (with_first (record { tree = oa; steps = m })
      (with_first (record { tree = ob; steps = n }) (record { bodies = o; steps = r.steps }))).bodies
  pair-bodies f None ob m n r o met x e h = refl
  pair-bodies f (Some t) None m n r o met x e h = refl
  pair-bodies f (Some t) (Some u) m n r None met x e h = refl
  pair-bodies f (Some t) (Some u) m n r (Some ts) met x e h =
      ap Some (ap (read text met) (sym (h t u ts)) ∙ sym (read-push text met x (Some (t ∷ u ∷ ts))))

  pair-steps : (f : List ℕ) (oa ob : Option Body) (m n : ℕ) (r : Bodies)
      → (with_first (joined f (record { tree = oa; steps = m }) (record { tree = ob; steps = n })) r).steps
      ≡ suc (with_first (record { tree = oa; steps = m }) (with_first (record { tree = ob; steps = n }) r)).steps
  pair-steps f None ob m n r = refl
  pair-steps f (Some t) None m n r = refl
  pair-steps f (Some t) (Some u) m n r = omega arith

  left-parts : (met : List (BodyNode P)) (todo : List P) (a b : P) → left_of σ text met (todo ++ b ∷ a ∷ [])
      ≡ record {
        bodies = finished met
            (with_first (divided σ (text a)) (with_first (divided σ (text b)) (bodies_of σ (map text (reverse todo))))).bodies;
        steps = (with_first (divided σ (text a)) (with_first (divided σ (text b)) (bodies_of σ (map text (reverse todo))))).steps;
      }
  left-parts met todo a b =
      ap (λ (ps : List P). let b = bodies_of σ (map text ps) in
      let x : Left = record { bodies = finished met b.bodies; steps = b.steps } in x) (reverse-append todo (b ∷ a ∷ []))

  -- a control construct
  pub left-pair : (met new : List (BodyNode P)) (todo more : List P) (next a b : P) (x : BodyNode P) (f : List ℕ)
      → divided σ (text next) ≡ joined f (divided σ (text a)) (divided σ (text b))
      → ((t u : Body) (s : List Body) → took text x (t ∷ u ∷ s) ≡ Some (control f t u ∷ s)) → new ≡ met ++ x ∷ []
      → more ≡ todo ++ b ∷ a ∷ []
      → left_of σ text met (todo ++ next ∷ []) ≡ step_before (left_of σ text new more)
  left-pair met new todo more next a b x f e h n k =
      let r : Bodies = bodies_of σ (map text (reverse todo)) in
      let ca : Division = divided σ (text a) in
      let cb : Division = divided σ (text b) in
      left-next met todo next
      ∙ (ap (λ (c : Division). let b = with_first c r in let y : Left = record { bodies = finished met b.bodies; steps = b.steps } in y) e
      ∙ (left-same (finished met (with_first (joined f ca cb) r).bodies) (finished (met ++ x ∷ []) (with_first ca (with_first cb r)).bodies)
      (with_first (joined f ca cb) r).steps (suc (with_first ca (with_first cb r)).steps)
      (pair-bodies f ca.tree cb.tree ca.steps cb.steps r r.bodies met x refl h) (pair-steps f ca.tree cb.tree ca.steps cb.steps r)
      ∙ (sym (ap step_before (left-parts (met ++ x ∷ []) todo a b))
      ∙ (ap (λ (ns : List (BodyNode P)). step_before (left_of σ text ns (todo ++ b ∷ a ∷ []))) (sym n)
      ∙ ap (λ (ps : List P). step_before (left_of σ text new ps)) (sym k)))))

  first-some : (o : Option Body) (m : ℕ) (r : Bodies) → 0 < m → 0 < (with_first (record { tree = o; steps = m }) r).steps
  first-some None m r h = h
  first-some (Some t) m r h = omega arith

  pub left-some : (met : List (BodyNode P)) (todo : List P) (next : P) → 0 < (left_of σ text met (todo ++ next ∷ [])).steps
  left-some met todo next =
      subst (λ (l : Left). 0 < l.steps) (sym (left-next met todo next))
      (first-some (divided σ (text next)).tree (divided σ (text next)).steps (bodies_of σ (map text (reverse todo)))
      (divided-some σ (text next)))

  -- the walk begins with the whole
  start-bodies : (o : Option Body) (m : ℕ) → finished []
      (with_first (record { tree = o; steps = m }) (record { bodies = Some []; steps = 0 })).bodies ≡ option_map (λ t. Some (t ∷ [])) o
  start-bodies None m = refl
  start-bodies (Some t) m = refl

  start-steps : (o : Option Body) (m : ℕ) → (with_first (record { tree = o; steps = m }) (record { bodies = Some []; steps = 0 })).steps ≡ m
  start-steps None m = refl
  start-steps (Some t) m = omega arith

  pub left-start : (at : P) → left_of σ text [] (at ∷ [])
      ≡ record { bodies = option_map (λ t. Some (t ∷ [])) (divided σ (text at)).tree; steps = (divided σ (text at)).steps }
  left-start at =
      let c : Division = divided σ (text at) in
      left-same (finished [] (with_first c (bodies_of σ [])).bodies) (option_map (λ t. Some (t ∷ [])) c.tree)
      (with_first c (bodies_of σ [])).steps c.steps (start-bodies c.tree c.steps) (start-steps c.tree c.steps)

-- the places of the goals
pub leaves-append : {P : Type 0} (xs ys : List (BodyNode P)) → leaves (xs ++ ys) ≡ leaves xs ++ leaves ys
leaves-append [] ys = refl
leaves-append (nodes.Goal p ∷ xs) ys = ap (λ ps. p ∷ ps) (leaves-append xs ys)
leaves-append (nodes.CallOf p ∷ xs) ys = ap (λ ps. p ∷ ps) (leaves-append xs ys)
leaves-append (nodes.And a b ∷ xs) ys = leaves-append xs ys
leaves-append (nodes.Or a b ∷ xs) ys = leaves-append xs ys
leaves-append (nodes.Then a b ∷ xs) ys = leaves-append xs ys

pub leaves-goal : {P : Type 0} (Q : P → Type 0) (met new : List (BodyNode P)) (x : BodyNode P) (p : P) → new ≡ met ++ x ∷ []
    → leaves (x ∷ []) ≡ p ∷ [] → All Q (leaves met) → Q p → All Q (leaves new)
leaves-goal Q met new x p e l h q =
    subst (λ ps. All Q ps) (sym (ap leaves e ∙ (leaves-append met (x ∷ []) ∙ ap (λ ps. leaves met ++ ps) l)))
    (All-push Q (leaves met) p h q)

pub leaves-other : {P : Type 0} (Q : P → Type 0) (met new : List (BodyNode P)) (x : BodyNode P) → new ≡ met ++ x ∷ [] → leaves (x ∷ []) ≡ []
    → All Q (leaves met) → All Q (leaves new)
leaves-other Q met new x e l h =
    subst (λ ps. All Q ps) (sym (ap leaves e ∙ (leaves-append met (x ∷ []) ∙ (ap (λ ps. leaves met ++ ps) l ∙ nil (leaves met))))) h
  where
    nil : {A : Type 0} (xs : List A) → xs ++ [] ≡ xs
    nil [] = refl
    nil (y ∷ ys) = ap (λ zs. y ∷ zs) (nil ys)

pub all-two : {P : Type 0} (Q : P → Type 0) (todo more : List P) (a b : P) → more ≡ todo ++ b ∷ a ∷ [] → All Q todo → Q a → Q b → All Q more
all-two Q todo more a b e h qa qb =
    subst (λ ps. All Q ps) (sym e) (All-append Q todo (b ∷ a ∷ []) h
    (All-push Q (b ∷ []) a (All-push Q [] b (λ k d l. absurd (omega arith)) qb) qa))

-- the parts of a term over texts are those of the term
nth-named : (f : ℕ → List ℕ) (ts : Args ℕ) (i : ℕ) → rename f (nth_arg ts i) ≡ nth_arg (rename_args f ts) i
nth-named f no_args i = refl
nth-named f (arg t ts) zero = refl
nth-named f (arg t ts) (suc i) = nth-named f ts i

args-named : (names : List (List ℕ)) (t : Term ℕ) → args_of (named names t) ≡ rename_args (name_at names) (args_of t)
args-named names (var v) = refl
args-named names (int i) = refl
args-named names (node f ts) = refl

pub part-named : (names : List (List ℕ)) (t a : Term ℕ) (i : ℕ) → a ≡ nth_arg (args_of t) i
    → named names a ≡ nth_arg (args_of (named names t)) i
part-named names t a i e =
    ap (named names) e ∙ (nth-named (name_at names) (args_of t) i ∙ ap (λ (ts : Args (List ℕ)). nth_arg ts i) (sym (args-named names t)))

arity-rename : (f : ℕ → List ℕ) (ts : Args ℕ) → arity (rename_args f ts) ≡ arity ts
arity-rename f no_args = refl
arity-rename f (arg t ts) = ap suc (arity-rename f ts)

pub arity-named : (names : List (List ℕ)) (t : Term ℕ) → arity (args_of (named names t)) ≡ arity (args_of t)
arity-named names t = ap arity (args-named names t) ∙ arity-rename (name_at names) (args_of t)

nth-has : (n : ℕ) (ts : Args ℕ) (i : ℕ) → ArgsHaveNames n ts → HasNames n (nth_arg ts i)
nth-has n no_args i h = tt
nth-has n (arg t ts) zero h = h.0
nth-has n (arg t ts) (suc i) h = nth-has n ts i h.1

args-have : (n : ℕ) (t : Term ℕ) → HasNames n t → ArgsHaveNames n (args_of t)
args-have n (var v) h = tt
args-have n (int i) h = tt
args-have n (node f ts) h = h.1

pub part-has : (n : ℕ) (t a : Term ℕ) (i : ℕ) → a ≡ nth_arg (args_of t) i → HasNames n t → HasNames n a
part-has n t a i e h = subst (λ (x : Term ℕ). HasNames n x) (sym e) (nth-has n (args_of t) i (args-have n t h))
