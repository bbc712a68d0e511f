-- Moments that follow one another: what was there is still there, so earlier choice points mean what they meant.
use Rattle.std.proofs.Common.{◌≡◌, ℕ, ◌-◌, ◌<◌, ◌≤◌, List, [], ◌∷◌, ◌++◌, length, take, drop, map, All, pos, refl, sym, ap, ◌∙◌}
use Rattle.std.proofs.Common.{subst, arith, length-append}
use Rattle.std.proofs.lemmas.List.{get_or-take, take-take}
use Rattle.std.proofs.Math.Seq.{take-length, take-append_seam}
use Rattle.op_logic.specs.Term.{Term, int, args_of, arity}
use Rattle.op_logic.specs.Names.{HasNames, HaveNames}
use Rattle.op_term.specs.Places.{term_at}
use Rattle.op_bind.specs.State as bind
use Rattle.op_bind.specs.State.{oldest, resolved, mark_of, undone, bindings, IsGoodMark}
use Rattle.op_bind.specs.Grown.{Grows}
use Rattle.op_bind.proofs.UnificationLoop.{oldest-oldest}
use Rattle.op_trace.specs.World as world
use Rattle.op_machine.specs.declared.continuations.Item.{Item}
use Rattle.op_machine.specs.declared.continuations.Item.TheVariants as item
use Rattle.op_machine.specs.Meaning.{Frame}
use Rattle.op_machine.proofs.ContinuationLaws.{longer, longer-each}
use Rattle.op_machine.specs.inner.Continuations.{continuation_in}
use Rattle.op_store.specs.Stored.{Stored}
use Rattle.op_machine.specs.Program.{goal_named}
use Rattle.op_machine.specs.Meaning.{Level, level_at, level_of, items_in, item_term, choice_points_of, choice_point_of}
use Rattle.op_machine.specs.inner.Invariant.{IsGoal, HasRecovery, IsItem, AreItems, IsLevel, IsEarlier, IsFrame, AreFrames, AreValues}
use Rattle.op_machine.specs.inner.Invariant.{IsFailure}

-- what was there is the beginning of what is there
pub record Rises (v w : Level) : Type 0 where
  pub terms_there : length v.terms ≤ length w.terms
  pub terms : take (length v.terms) w.terms ≡ v.terms
  pub bound_there : length v.bound ≤ length w.bound
  pub bound : oldest (length v.bound) w.bound ≡ v.bound
  pub continuations_there : length v.continuations ≤ length w.continuations
  pub continuations : take (length v.continuations) w.continuations ≡ v.continuations

pub oldest-all : (ps : List (ℕ × ℕ)) → oldest (length ps) ps ≡ ps
oldest-all ps = let z : length ps - length ps ≡ 0 = omega arith in ap (λ (k : ℕ). drop k ps) z

pub rises-bindings : (s u : bind.State) (L : List (List Item)) → Grows s u → Rises (level_of s L) (level_of u L)
rises-bindings s u L g = record {
  terms_there = g.terms_there;
  terms = g.terms;
  bound_there = g.bound_there;
  bound = g.bound;
  continuations_there = omega arith;
  continuations = take-length L;
}

pub rises-continuations : (s : bind.State) (L : List (List Item)) (I : List Item) → Rises (level_of s L) (level_of s (L ++ I ∷ []))
rises-continuations s L I = record {
  terms_there = omega arith;
  terms = take-length s.terms;
  bound_there = omega arith;
  bound = oldest-all s.bound;
  continuations_there = omega (arith, length-append L (I ∷ []));
  continuations = take-append_seam L (I ∷ []);
}

pub level_at-rises : (v w : Level) (f : Frame) → Rises v w → IsEarlier f v → level_at f w ≡ level_at f v
level_at-rises v w f r e =
    let t : take f.mark.terms w.terms ≡ take f.mark.terms v.terms =
    sym (take-take f.mark.terms (length v.terms) w.terms e.terms_there) ∙ ap (take f.mark.terms) r.terms in
    let b : oldest f.mark.bound w.bound ≡ oldest f.mark.bound v.bound =
    sym (oldest-oldest f.mark.bound (length v.bound) w.bound e.bound_there r.bound_there) ∙ ap (oldest f.mark.bound) r.bound in
    let l : take f.kept.continuations w.continuations ≡ take f.kept.continuations v.continuations =
    sym (take-take f.kept.continuations (length v.continuations) w.continuations e.continuations_there)
    ∙ ap (take f.kept.continuations) r.continuations in
    cc

pub earlier-rises : (v w : Level) (f : Frame) → Rises v w → IsEarlier f v → IsEarlier f w
earlier-rises v w f r e =
    let b : oldest f.mark.bound w.bound ≡ oldest f.mark.bound v.bound =
    sym (oldest-oldest f.mark.bound (length v.bound) w.bound e.bound_there r.bound_there) ∙ ap (oldest f.mark.bound) r.bound in
    record {
      terms_there = omega (arith, e.terms_there, r.terms_there);
      bound_there = omega (arith, e.bound_there, r.bound_there);
      bound_below = subst (λ (ps : List (ℕ × ℕ)). All (λ p. p.1 < f.mark.terms) ps) (sym b) e.bound_below;
      continuations_there = omega (arith, e.continuations_there, r.continuations_there);
    }

-- choice points that were there mean what they meant
pub choice_points-rise : (t : Stored) (floor : ℕ) (v w : Level) (F : List Frame) → Rises v w → AreFrames t floor v F
    → choice_points_of t w F ≡ choice_points_of t v F
choice_points-rise t floor v w [] r a = refl
choice_points-rise t floor v w (f ∷ F) r a =
    ap (λ (u : Level). choice_point_of t u f ∷ choice_points_of t u F) (level_at-rises v w f r a.0)

pub frames-rise : (t : Stored) (floor : ℕ) (v w : Level) (F : List Frame) → Rises v w → AreFrames t floor v F → AreFrames t floor w F
frames-rise t floor v w [] r a = tt
frames-rise t floor v w (f ∷ F) r a =
    let e : level_at f v ≡ level_at f w = sym (level_at-rises v w f r a.0) in (
      earlier-rises v w f r a.0,
      subst (IsLevel t floor) e a.1,
      subst (λ (u : Level). IsFrame t u f) e a.2,
      subst (λ (u : Level). AreFrames t floor u F) e a.3,
    )

-- so do terms, items and continuations
pub term-rises : (v w : Level) (r : ℕ) → Rises v w → r < length v.terms → term_at w.terms r ≡ term_at v.terms r
term-rises v w r h l =
    sym (get_or-take (length v.terms) w.terms r (int (pos 0)) l) ∙ ap (λ (ts : List (Term ℕ)). term_at ts r) h.terms

pub goal-rises : (n : ℕ) (v w : Level) (r : ℕ) → Rises v w → IsGoal n v.terms r → IsGoal n w.terms r
goal-rises n v w r h g = (omega (arith, g.0, h.terms_there), subst (HasNames n) (sym (term-rises v w r h g.0)) g.1)

pub item-rises : (n : ℕ) (t : Stored) (v w : Level) (i : Item) → Rises v w → IsItem n v.terms i → item_term t w i ≡ item_term t v i
item-rises n t v w (item.Goal r m) h a = ap (λ (x : Term ℕ). world.Goal (goal_named t x) m) (term-rises v w r h a.0)
item-rises n t v w (item.Cut m) h a = refl
item-rises n t v w (item.Exit k r) h a = ap (λ (x : Term ℕ). world.Exit k (goal_named t x)) (term-rises v w r h a.0)
item-rises n t v w (item.Execute k r) h a = ap (λ (x : Term ℕ). world.Execute world.First k (goal_named t x)) (term-rises v w r h a.0)
item-rises n t v w (item.Recover k r) h a =
    ap (λ (x : Term ℕ). world.Execute world.Recovery k (goal_named t x)) (term-rises v w r h a.0.0)

pub recovery-rises : (v w : Level) (r : ℕ) → Rises v w → r < length v.terms → HasRecovery v.terms r → HasRecovery w.terms r
recovery-rises v w r h l a = subst (λ (x : Term ℕ). arity (args_of x) ≡ 3) (sym (term-rises v w r h l)) a

pub is-item-rises : (n : ℕ) (v w : Level) (i : Item) → Rises v w → IsItem n v.terms i → IsItem n w.terms i
is-item-rises n v w (item.Goal r m) h a = goal-rises n v w r h a
is-item-rises n v w (item.Cut m) h a = tt
is-item-rises n v w (item.Exit k r) h a = goal-rises n v w r h a
is-item-rises n v w (item.Execute k r) h a = goal-rises n v w r h a
is-item-rises n v w (item.Recover k r) h a = (goal-rises n v w r h a.0, recovery-rises v w r h a.0.0 a.1)

pub items-rise : (n : ℕ) (t : Stored) (v w : Level) (I : List Item) → Rises v w → AreItems n v.terms I → map (item_term t w) I
    ≡ map (item_term t v) I
items-rise n t v w [] h a = refl
items-rise n t v w (i ∷ I) h a =
    let first : item_term t w i ≡ item_term t v i = item-rises n t v w i h a.0 in
    let rest : map (item_term t w) I ≡ map (item_term t v) I = items-rise n t v w I h a.1 in
    cc

pub are-items-rise : (n : ℕ) (v w : Level) (I : List Item) → Rises v w → AreItems n v.terms I → AreItems n w.terms I
are-items-rise n v w [] h a = tt
are-items-rise n v w (i ∷ I) h a = (is-item-rises n v w i h a.0, are-items-rise n v w I h a.1)

pub continuation-rises : (v w : Level) (m : ℕ) → Rises v w → m < length v.continuations → continuation_in w.continuations m
    ≡ continuation_in v.continuations m
continuation-rises v w m h l =
    sym (get_or-take (length v.continuations) w.continuations m [] l) ∙ ap (λ (L : List (List Item)). continuation_in L m) h.continuations

pub items_in-rise : (t : Stored) (floor : ℕ) (v w : Level) (m : ℕ) → Rises v w → IsLevel t floor v → m < length v.continuations
    → items_in t w m ≡ items_in t v m
items_in-rise t floor v w m h lev l =
    ap (map (item_term t w)) (continuation-rises v w m h l)
    ∙ items-rise (length t.names) t v w (continuation_in v.continuations m) h (lev.continuations m l)

pub values-rise : (floor : ℕ) (v w : Level) (rs : List ℕ) (ps : List (List ℕ × ℕ)) → Rises v w → floor ≤ length v.terms
    → AreValues (take floor v.terms) rs ps → AreValues (take floor w.terms) rs ps
values-rise floor v w rs ps h f a =
    let e : take floor w.terms ≡ take floor v.terms = sym (take-take floor (length v.terms) w.terms f) ∙ ap (take floor) h.terms in
    subst (λ (ts : List (Term ℕ)). AreValues ts rs ps) (sym e) a

pub failure-rises : (floor : ℕ) (v w : Level) (r : ℕ) → Rises v w → floor ≤ length v.terms → IsFailure (take floor v.terms) r
    → IsFailure (take floor w.terms) r
failure-rises floor v w r h f a =
    let e : take floor w.terms ≡ take floor v.terms = sym (take-take floor (length v.terms) w.terms f) ∙ ap (take floor) h.terms in
    subst (λ (ts : List (Term ℕ)). IsFailure ts r) (sym e) a

-- a level that has further bindings and terms, but the same continuations
pub level-bindings : (t : Stored) (floor : ℕ) (s u : bind.State) (L : List (List Item)) → Grows s u
    → HaveNames (length t.names) (bindings u)
    → IsLevel t floor (level_of s L) → IsLevel t floor (level_of u L)
level-bindings t floor s u L g names lev = record {
  continuations = λ m l. are-items-rise (length t.names) (level_of s L) (level_of u L) (continuation_in L m) (rises-bindings s u L g)
      (lev.continuations m l);
  bound = names;
  floor_there = omega (arith, lev.floor_there, g.terms_there);
}

-- a level with a further continuation
pub level-continuations : (t : Stored) (floor : ℕ) (s : bind.State) (L : List (List Item)) (i : Item) (n : ℕ)
    → IsLevel t floor (level_of s L)
    → IsItem (length t.names) s.terms i → n < length L → IsLevel t floor (level_of s (longer L i n))
level-continuations t floor s L i n lev it h = record {
  continuations = longer-each (λ (m : ℕ) (I : List Item). AreItems (length t.names) s.terms I) L i n lev.continuations
      (it, lev.continuations n h);
  bound = lev.bound;
  floor_there = lev.floor_there;
}

-- a choice point that is made now is made at this level
pub level-now : (s : bind.State) (L : List (List Item)) (f : Frame) → f.mark ≡ mark_of s → f.kept.continuations ≡ length L
    → level_at f (level_of s L) ≡ level_of s L
level-now s L f m l =
    let t : take f.mark.terms s.terms ≡ s.terms = ap (λ (k : bind.Marked). take k.terms s.terms) m ∙ take-length s.terms in
    let b : oldest f.mark.bound s.bound ≡ s.bound = ap (λ (k : bind.Marked). oldest k.bound s.bound) m ∙ oldest-all s.bound in
    let n : take f.kept.continuations L ≡ L = ap (λ (k : ℕ). take k L) l ∙ take-length L in
    cc

pub earlier-now : (s : bind.State) (L : List (List Item)) (f : Frame) → IsGoodMark s f.mark → f.kept.continuations ≡ length L
    → IsEarlier f (level_of s L)
earlier-now s L f g l = record {
  terms_there = g.terms_there;
  bound_there = g.bound_there;
  bound_below = g.bound_below;
  continuations_there = omega arith;
}
