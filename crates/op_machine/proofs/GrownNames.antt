-- Names join those of a program: a machine means what it meant, and what held of it still holds.
use Rattle.std.proofs.Common.{◌≡◌, ℕ, zero, suc, ◌<◌, ◌≤◌, List, [], ◌∷◌, length, take, map, reverse, Option, Some, None}
use Rattle.std.proofs.Common.{refl, ap, ◌∙◌}
use Rattle.std.proofs.lemmas.List.Elements.{All-head, All-tail}
use Rattle.op_logic.specs.Term.{Term}
use Rattle.op_logic.specs.Bind.{Bindings}
use Rattle.op_logic.specs.Laws.{rename_bindings}
use Rattle.op_logic.specs.Names.{name_at, HaveNames}
use Rattle.op_logic.proofs.NameTables.{named-more}
use Rattle.op_term.specs.Places.{term_at}
use Rattle.op_bind.specs.State.{resolved}
use Rattle.op_bind.specs.declared.places.Clause.{Clause as NumberedClause}
use Rattle.op_store.specs.Stored.{Stored}
use Rattle.op_inspect.proofs.TextsLater.{has-more}
use Rattle.op_machine.proofs.MadeJoins.{names-more}
use Rattle.op_trace.specs.Database.{Text, Clause}
use Rattle.op_trace.specs.World as world
use Rattle.op_trace.specs.Visit as visit
use Rattle.op_machine.specs.declared.continuations.Item.{Item}
use Rattle.op_machine.specs.declared.continuations.Item.TheVariants as item
use Rattle.op_machine.specs.declared.choice_points.ChoiceKind.{ChoiceKind}
use Rattle.op_machine.specs.declared.choice_points.ChoiceKind.TheVariants as kind
use Rattle.op_machine.specs.declared.core_state.Core.{Core}
use Rattle.op_machine.specs.Program.{IsKnown, AreKnown, clause_in, clauses_from}
use Rattle.op_machine.specs.Meaning.{Frame, Level, level_at, level_in, bindings_in, term_in, item_term, items_in, choice_point_by}
use Rattle.op_machine.specs.Meaning.{choice_points_of}
use Rattle.op_machine.specs.inner.Continuations.{continuation_in}
use Rattle.op_machine.specs.inner.Invariant.{IsGoal, IsItem, AreItems, IsLevel, IsKind, IsFrame, AreFrames, IsBall, IsGood}

-- these names instead
abbrev pub renamed_store : Stored → List Text → Stored
renamed_store t names = record t { names = names }

abbrev pub renamed_core : Core → List Text → Core
renamed_core c names = record c { store = renamed_store c.store names }

have-more : (m n : ℕ) (σ : Bindings ℕ) → m ≤ n → HaveNames m σ → HaveNames n σ
have-more m n [] l h = tt
have-more m n (p ∷ σ) l h = (has-more m n l p.1 h.0, have-more m n σ l h.1)

bindings-more : (old new : List Text) (σ : Bindings ℕ) → take (length old) new ≡ old → HaveNames (length old) σ
    → rename_bindings (name_at new) σ ≡ rename_bindings (name_at old) σ
bindings-more old new [] e h = refl
bindings-more old new (p ∷ σ) e h = let a = named-more old new e p.1 h.0 in let b = bindings-more old new σ e h.1 in cc

known-more : (m n : ℕ) (r : NumberedClause) → m ≤ n → IsKnown m r → IsKnown n r
known-more m n r l h = (
  h.0,
  record {
    for = h.1.for;
    head_names = has-more m n l r.head h.1.head_names;
    body_names = has-more m n l r.body h.1.body_names;
    head_within = h.1.head_within;
    body_within = h.1.body_within;
  },
)

pub goal-more : (m n : ℕ) (ts : List (Term ℕ)) (r : ℕ) → m ≤ n → IsGoal m ts r → IsGoal n ts r
goal-more m n ts r l h = (h.0, has-more m n l (term_at ts r) h.1)

item-more : (m n : ℕ) (ts : List (Term ℕ)) (i : Item) → m ≤ n → IsItem m ts i → IsItem n ts i
item-more m n ts (item.Goal r b) l h = goal-more m n ts r l h
item-more m n ts (item.Cut b) l h = tt
item-more m n ts (item.Exit k r) l h = goal-more m n ts r l h
item-more m n ts (item.Execute k r) l h = goal-more m n ts r l h
item-more m n ts (item.Recover k r) l h = (goal-more m n ts r l h.0, h.1)

items-more : (m n : ℕ) (ts : List (Term ℕ)) (I : List Item) → m ≤ n → AreItems m ts I → AreItems n ts I
items-more m n ts [] l h = tt
items-more m n ts (i ∷ I) l h = (item-more m n ts i l h.0, items-more m n ts I l h.1)

kind-more : (m n : ℕ) (ts : List (Term ℕ)) (g : ℕ) (q : ChoiceKind) → m ≤ n → IsKind m ts g q → IsKind n ts g q
kind-more m n ts g (kind.Redo k) l h = tt
kind-more m n ts g (kind.Branch b) l h = tt
kind-more m n ts g (kind.More k rs i) l h = (h.0, λ j d lt. known-more m n _ l (h.1 j d lt))
kind-more m n ts g (kind.Fail k) l h = tt
kind-more m n ts g (kind.Catch k) l h = h
kind-more m n ts g (kind.Condition c b) l h = tt

ball-more : (m n v : ℕ) (b : Option (Term ℕ)) → m ≤ n → IsBall m v b → IsBall n v b
ball-more m n v None l h = tt
ball-more m n v (Some b) l h = (has-more m n l b h.0, h.1)

module _ (t : Stored) (names : List Text) (kept : take (length t.names) names ≡ t.names) where
  pub more : length t.names ≤ length names
  more = names-more t.names names kept

  level-more : (floor : ℕ) (v : Level) → IsLevel t floor v → IsLevel (renamed_store t names) floor v
  level-more floor v h = record {
    continuations = λ m l. items-more (length t.names) (length names) v.terms (continuation_in v.continuations m) more
        (h.continuations m l);
    bound = have-more (length t.names) (length names) (resolved v.terms v.bound) more h.bound;
    floor_there = h.floor_there;
  }

  frame-more : (v : Level) (f : Frame) → IsFrame t v f → IsFrame (renamed_store t names) v f
  frame-more v f h = record {
    rest = h.rest;
    goal = goal-more (length t.names) (length names) v.terms f.kept.goal more h.goal;
    kind = kind-more (length t.names) (length names) v.terms f.kept.goal f.kept.kind more h.kind;
  }

  frames-more : (floor : ℕ) (v : Level) (F : List Frame) → AreFrames t floor v F → AreFrames (renamed_store t names) floor v F
  frames-more floor v [] h = tt
  frames-more floor v (f ∷ F) h = (
    h.0,
    level-more floor (level_at f v) h.1,
    frame-more (level_at f v) f h.2,
    frames-more floor (level_at f v) F h.3,
  )

  -- what each part means
  pub goal-same : (v : Level) (r : ℕ) → IsGoal (length t.names) v.terms r → term_in (renamed_store t names) v r ≡ term_in t v r
  goal-same v r h = named-more t.names names kept (term_at v.terms r) h.1

  pub bindings-same : (floor : ℕ) (v : Level) → IsLevel t floor v → bindings_in (renamed_store t names) v ≡ bindings_in t v
  bindings-same floor v h = bindings-more t.names names (resolved v.terms v.bound) kept h.bound

  item-same : (v : Level) (i : Item) → IsItem (length t.names) v.terms i → item_term (renamed_store t names) v i ≡ item_term t v i
  item-same v (item.Goal r m) h = ap (λ (x : Term Text). world.Goal x m) (goal-same v r h)
  item-same v (item.Cut m) h = refl
  item-same v (item.Exit k r) h = ap (world.Exit k) (goal-same v r h)
  item-same v (item.Execute k r) h = ap (world.Execute world.First k) (goal-same v r h)
  item-same v (item.Recover k r) h = ap (world.Execute world.Recovery k) (goal-same v r h.0)

  list-same : (v : Level) (I : List Item) → AreItems (length t.names) v.terms I
      → map (item_term (renamed_store t names) v) I ≡ map (item_term t v) I
  list-same v [] h = refl
  list-same v (i ∷ I) h =
      let first : item_term (renamed_store t names) v i ≡ item_term t v i = item-same v i h.0 in
      let rest : map (item_term (renamed_store t names) v) I ≡ map (item_term t v) I = list-same v I h.1 in
      cc

  pub items-same : (floor : ℕ) (v : Level) (n : ℕ) → IsLevel t floor v → n < length v.continuations
      → items_in (renamed_store t names) v n ≡ items_in t v n
  items-same floor v n h l = list-same v (continuation_in v.continuations n) (h.continuations n l)

  clause-same : (r : NumberedClause) → IsKnown (length t.names) r → clause_in (renamed_store t names) r ≡ clause_in t r
  clause-same r h =
      let a = named-more t.names names kept r.head h.1.head_names in
      let b = named-more t.names names kept r.body h.1.body_names in
      cc

  clauses-same : (rs : List NumberedClause) (i : ℕ) → AreKnown (length t.names) rs
      → clauses_from (renamed_store t names) rs i ≡ clauses_from t rs i
  clauses-same [] zero h = refl
  clauses-same [] (suc i) h = refl
  clauses-same (r ∷ rs) zero h =
      let first : clause_in (renamed_store t names) r ≡ clause_in t r =
      clause-same r (All-head (IsKnown (length t.names)) r rs h) in
      let rest : clauses_from (renamed_store t names) rs 0 ≡ clauses_from t rs 0 =
      clauses-same rs 0 (All-tail (IsKnown (length t.names)) r rs h) in
      ap (λ (c : Clause). c ∷ clauses_from (renamed_store t names) rs 0) first ∙ ap (λ (cs : List Clause). clause_in t r ∷ cs) rest
  clauses-same (r ∷ rs) (suc i) h = clauses-same rs i (All-tail (IsKnown (length t.names)) r rs h)

  module _ (floor : ℕ) (v : Level) (g n : ℕ) (level : IsLevel t floor v) (goal : IsGoal (length t.names) v.terms g)
      (there : n < length v.continuations) where
    -- over a term, bindings and items
    each : (P : Term Text → Bindings Text → List world.Item → visit.Choice)
        → P (term_in (renamed_store t names) v g) (bindings_in (renamed_store t names) v) (items_in (renamed_store t names) v n)
        ≡ P (term_in t v g) (bindings_in t v) (items_in t v n)
    each P =
        ap (λ (x : Term Text). P x (bindings_in (renamed_store t names) v) (items_in (renamed_store t names) v n)) (goal-same v g goal)
        ∙ (ap (λ (σ : Bindings Text). P (term_in t v g) σ (items_in (renamed_store t names) v n)) (bindings-same floor v level)
        ∙ ap (P (term_in t v g) (bindings_in t v)) (items-same floor v n level there))

    choice-same : (q : ChoiceKind) → IsKind (length t.names) v.terms g q
        → choice_point_by (renamed_store t names) v q g n ≡ choice_point_by t v q g n
    choice-same (kind.Redo k) h = each (visit.Redo k)
    choice-same (kind.Branch m) h = each (λ x. visit.Branch x m)
    choice-same (kind.More k rs i) h =
        each (visit.More (clauses_from (renamed_store t names) rs i) k)
        ∙ ap (λ (cs : List Clause). visit.More cs k (term_in t v g) (bindings_in t v) (items_in t v n)) (clauses-same rs i h.1)
    choice-same (kind.Fail k) h = each (visit.Fail k)
    choice-same (kind.Catch k) h = each (visit.Catch k)
    choice-same (kind.Condition c m) h = each (λ x. visit.Condition c x m)

  pub choices-same : (floor : ℕ) (v : Level) (F : List Frame) → AreFrames t floor v F
      → choice_points_of (renamed_store t names) v F ≡ choice_points_of t v F
  choices-same floor v [] h = refl
  choices-same floor v (f ∷ F) h =
      let first = choice-same floor (level_at f v) f.kept.goal f.rest h.1 h.2.goal h.2.rest f.kept.kind h.2.kind in
      let rest : choice_points_of (renamed_store t names) (level_at f v) F ≡ choice_points_of t (level_at f v) F =
      choices-same floor (level_at f v) F h.3 in
      ap (λ (c : visit.Choice). c ∷ choice_points_of (renamed_store t names) (level_at f v) F) first
      ∙ ap (λ (K : List visit.Choice). choice_point_by t (level_at f v) f.kept.kind f.kept.goal f.rest ∷ K) rest

pub grown-good : (c : Core) (names : List Text) → take (length c.store.names) names ≡ c.store.names → IsGood c
    → IsGood (renamed_core c names)
grown-good c names kept good = record {
  level = level-more c.store names kept c.floor.terms (level_in c) good.level;
  frames = frames-more c.store names kept c.floor.terms (level_in c) (reverse c.frames.choices) good.frames;
  mode = good.mode;
  values = good.values;
  failure = good.failure;
  ball = ball-more (length c.store.names) (length names) c.bindings.count c.ball (names-more c.store.names names kept) good.ball;
  boxes = good.boxes;
  boxed = good.boxed;
}
