-- What the code's unification comes to, as an act over texts.
use Rattle.std.proofs.Common.{◌≡◌, ℕ, zero, suc, ◌+◌, ◌-◌, ◌<◌, ◌≤◌, ◌&&◌, ◌==◌, nat_eq}
use Rattle.std.proofs.Common.{nat_le, Bool, true, false, List, [], ◌∷◌, length, Option, Some, None}
use Rattle.std.proofs.Common.{Ok, Err, refl, sym, ap, ◌∙◌, subst, arith, if◌then◌else◌}
use Rattle.std.proofs.lemmas.Bool.Decides.{nat_tests}
use Rattle.op_logic.specs.Term.{Term, var, int, node, Args, no_args, arg, size, arity, occurs, rename_args}
use Rattle.std.specs.Ordering.{int_eq}
use Rattle.op_trace.proofs.WalkSteps.{IsLess, within-less}
use Rattle.op_bind.proofs.StateGrowth.{grows-self, undone-later}
use Rattle.op_logic.specs.Bind.{Bindings, Pairs, Solved, Reduction, clash, goes}
use Rattle.op_logic.specs.Bind.{apply, follow, bind_reduction, meet, reduction, solve, unify}
use Rattle.op_logic.specs.Laws.{rename_found, rename_solved, pay}
use Rattle.op_logic.specs.Names.{name_at, named, IsTable}
use Rattle.op_logic.proofs.RenamedUnification.{unify-named}
use Rattle.op_logic.proofs.UnifierNames.{unify-names, FoundHasNames}
use Rattle.op_logic.proofs.StepCounts.{unify-reduction}
use Rattle.op_logic.proofs.FollowedTerms.{follow-int, follow-node}
use Rattle.op_term.specs.Places.{term_at}
use Rattle.op_term.specs.declared.walk.WalkFault.TheVariants.{Memory, Spent}
use Rattle.op_bind.specs.State as bind
use Rattle.op_bind.specs.State.{State, undone, mark_of}
use Rattle.op_bind.specs.Grown.{Grows}
use Rattle.op_bind.specs.Unified.{unified}
use Rattle.op_trace.specs.Database.{Text, text_eq}
use Rattle.op_trace.specs.World.{World}
use Rattle.op_trace.specs.Act.{Yield, Fails, Act}
use Rattle.op_inspect.specs.Answering.{by_unifier, succeeds_with, succeeds_without, different_act}
use Rattle.op_inspect.specs.Outcomes.{Comes, Answers, IsKnown, IsSetting, texts_of, text_at}
use Rattle.op_inspect.specs.declared.outcome.Outcome.TheVariants.{Yes, No}
use Rattle.op_inspect.specs.inner.Settings.{IsAtomic}
use Rattle.op_inspect.proofs.Acting.{IsPart}
use Rattle.op_inspect.proofs.TextsLater.{stays-self}

-- an act by a unifier that was found
pub unifier-comes : (u : Option (Solved Text)) (o : Option (Bindings Text)) (l left count : ℕ) (w before : World) (h : Option
    (Bindings Text) → Yield)
    → u ≡ Some (o, l) → l ≤ left → w.variables ≡ count → Comes (by_unifier u left before w h) w left (h o) count l
unifier-comes u o l left count w before h e less same =
    subst (λ (x : Option (Solved Text)). Comes (by_unifier x left before w h) w left (h o) count l) (sym e)
    (record { cost = omega (arith, less); world = ap (λ (n : ℕ). record w { variables = n }) same; yield = refl })

pub unifier-short : (u : Option (Solved Text)) (left : ℕ) (before w : World) (h : Option (Bindings Text) → Yield)
    → u ≡ None → left < (by_unifier u left before w h).cost
unifier-short u left before w h e =
    subst (λ (x : Option (Solved Text)). left < (by_unifier x left before w h).cost) (sym e) (omega arith)

-- no more steps are left than there were
pub unified-less : (left l : ℕ) (s : State) (a b : Term ℕ) (o : Option (Bindings ℕ)) → unified left s a b ≡ Some (o, l) → l ≤ left
unified-less left l s a b o e =
    subst (IsLess {A = Option (Bindings ℕ)} left) e
    (within-less {A = Option (Bindings ℕ)} left (solve nat_eq left (bind.bindings s) ((a, b) ∷ [])))

module _ (names : List (List ℕ)) (table : IsTable names) (s : State) (a b left : ℕ) (setting : IsSetting names s)
    (ka : IsKnown names s a) (kb : IsKnown names s b) where
  -- the unification over texts, and over numbers
  abbrev pub found_text : Option (Solved Text)
  found_text = unify text_eq left (texts_of names s) ((text_at names s a, text_at names s b) ∷ [])

  abbrev pub found_number : Option (Solved ℕ)
  found_number = unified left s (term_at s.terms a) (term_at s.terms b)

  pub found-text : found_text ≡ rename_solved (name_at names) found_number
  found-text = unify-named names table left (bind.bindings s) ((term_at s.terms a, term_at s.terms b) ∷ [])

  module _ (t : State) (after : ℕ) (grows : Grows s t) (count : t.count ≡ s.count) where
    abbrev act_by : (Option (Bindings Text) → Yield) → World → Act
    act_by h w = by_unifier found_text left w w h

    pub found-yes : found_number ≡ Some (Some (bind.bindings t), after) → IsSetting names t
    found-yes e = subst (FoundHasNames (length names)) e
        (unify-names (length names) left (bind.bindings s) ((term_at s.terms a, term_at s.terms b) ∷ []) setting (ka.1, kb.1, tt))

    pub yes-answers : found_number ≡ Some (Some (bind.bindings t), after) → Answers (act_by succeeds_with) names s left
        (Ok Yes) names t after
    yes-answers e = record {
      answer = (
        λ w same. unifier-comes found_text (Some (texts_of names t)) after left t.count w w succeeds_with
            (found-text ∙ ap (rename_solved (name_at names)) e)
            (unified-less left after s (term_at s.terms a) (term_at s.terms b) (Some (bind.bindings t)) e) (same ∙ sym count),
        found-yes e,
      );
      kept = (stays-self names s).kept;
      grows = grows;
      falls = unified-less left after s (term_at s.terms a) (term_at s.terms b) (Some (bind.bindings t)) e;
    }

    pub no-answers : (h : Option (Bindings Text) → Yield) (o : Option (Bindings ℕ)) → h (rename_found (name_at names) o) ≡ Fails
        → found_number ≡ Some (o, after) → Answers (act_by h) names s left (Ok No) names t after
    no-answers h o fails e = record {
      answer = (
        λ w same. subst (λ (y : Yield). Comes (act_by h w) w left y t.count after) fails
            (unifier-comes found_text (rename_found (name_at names) o) after left t.count w w h
            (found-text ∙ ap (rename_solved (name_at names)) e)
            (unified-less left after s (term_at s.terms a) (term_at s.terms b) o e) (same ∙ sym count)),
        tt,
      );
      kept = (stays-self names s).kept;
      grows = grows;
      falls = unified-less left after s (term_at s.terms a) (term_at s.terms b) o e;
    }

    pub spent-answers : (h : Option (Bindings Text) → Yield) → found_number ≡ None → after ≤ left
        → Answers (act_by h) names s left (Err Spent) names t after
    spent-answers h e less = record {
      answer = λ w same. unifier-short found_text left w w h (found-text ∙ ap (rename_solved (name_at names)) e);
      kept = (stays-self names s).kept;
      grows = grows;
      falls = less;
    }

    pub memory-answers : (h : Option (Bindings Text) → Yield) → after ≤ left → Answers (act_by h) names s left (Err Memory) names t after
    memory-answers h less = record { answer = tt; kept = (stays-self names s).kept; grows = grows; falls = less }

    -- where there is no unifier, what was bound is undone
    pub undone-answers : (u : State) → u ≡ undone t (mark_of s) → found_number ≡ Some (None, after)
        → Answers (different_act (text_at names s a) (text_at names s b) left (texts_of names s)) names s left (Ok Yes) names u after
    undone-answers u e f =
        let back : u ≡ s = e ∙ (undone-later s t grows ∙ ap (λ (n : ℕ). record s { count = n }) count) in
        subst (λ (x : State). Answers (different_act (text_at names s a) (text_at names s b) left (texts_of names s)) names s left
        (Ok Yes) names x after) (sym back)
        (record {
          answer = (
            λ w same. unifier-comes found_text None after left s.count w w (succeeds_without (texts_of names s))
                (found-text ∙ ap (rename_solved (name_at names)) f)
                (unified-less left after s (term_at s.terms a) (term_at s.terms b) None f) same,
            setting,
          );
          kept = (stays-self names s).kept;
          grows = grows-self s;
          falls = unified-less left after s (term_at s.terms a) (term_at s.terms b) None f;
        })

-- a reduction that leaves the other pairs as they are
data IsSingle (r : Pairs Text → Reduction Text) : Type 0 where
  clashes : (c : ℕ) → ((ps : Pairs Text) → r ps ≡ clash c) → IsSingle r
  binds : (τ : Bindings Text) (c : ℕ) → ((ps : Pairs Text) → r ps ≡ goes τ ps c) → IsSingle r

-- an integer or an atom
abbrev pub IsAtomicText : Term Text → Type 0
IsAtomicText (var v) = ⊥
IsAtomicText (int i) = Unit {0}
IsAtomicText (node f ts) = ts ≡ no_args

if-single : (t : Bool) (f g : Pairs Text → Reduction Text) → IsSingle f → IsSingle g → IsSingle (λ ps. if t then f ps else g ps)
if-single true f g x y = x
if-single false f g x y = y

bind-single : (v : ℕ) (t : Term Text) (σ : Bindings Text) → IsSingle (bind_reduction v t σ)
bind-single v t σ =
    if-single (occurs v (apply σ t)) (λ ps. clash (1 + size (apply σ t))) (λ ps. goes ((v, t) ∷ σ) ps (1 + size (apply σ t)))
    (clashes (1 + size (apply σ t)) (λ ps. refl)) (binds ((v, t) ∷ σ) (1 + size (apply σ t)) (λ ps. refl))

meet-single : (x : Term Text) (b : Term Text) (σ : Bindings Text) → IsAtomicText b → IsSingle (meet text_eq x b σ)
meet-single x (var v) σ h = absurd h
meet-single (var v) (int j) σ h = bind-single v (int j) σ
meet-single (int i) (int j) σ h =
    if-single (int_eq i j) (λ ps. goes σ ps 1) (λ ps. clash 1) (binds σ 1 (λ ps. refl)) (clashes 1 (λ ps. refl))
meet-single (node f ts) (int j) σ h = clashes 1 (λ ps. refl)
meet-single (var v) (node g no_args) σ h = bind-single v (node g no_args) σ
meet-single (int i) (node g no_args) σ h = clashes 1 (λ ps. refl)
meet-single (node f no_args) (node g no_args) σ h =
    if-single (text_eq f g && true) (λ ps. goes σ ps 1) (λ ps. clash 1) (binds σ 1 (λ ps. refl)) (clashes 1 (λ ps. refl))
meet-single (node f (arg t ts)) (node g no_args) σ h =
    if-single (text_eq f g && (suc (arity ts) == 0)) (λ ps. goes σ ps 1) (λ ps. clash 1) (binds σ 1 (λ ps. refl)) (clashes 1 (λ ps. refl))
meet-single x (node g (arg u us)) σ h = absurd (no-arg u us h)
  where
    no-arg : (u : Term Text) (us : Args Text) → arg u us ≡ no_args → ⊥
    no-arg u us e = cc

atomic-followed : (σ : Bindings Text) (b : Term Text) → IsAtomicText b → follow σ b ≡ b
atomic-followed σ (var v) h = absurd h
atomic-followed σ (int i) h = follow-int σ i
atomic-followed σ (node g ts) h = follow-node σ g ts

reduction-single : (σ : Bindings Text) (a b : Term Text) → IsAtomicText b → IsSingle (reduction text_eq σ a b)
reduction-single σ a b h =
    subst (λ (x : Term Text). IsSingle (meet text_eq (follow σ a) x σ)) (sym (atomic-followed σ b h)) (meet-single (follow σ a) b σ h)

-- what the first pair comes to, with what is behind it
abbrev pub then_pairs : Option (Solved Text) → Pairs Text → Option (Solved Text)
then_pairs None qs = None
then_pairs (Some (None, l)) qs = Some (None, l)
then_pairs (Some (Some τ, l)) qs = unify text_eq l τ qs

abbrev found_with : Bindings Text → ℕ → Option (Solved Text)
found_with τ n = let r : Solved Text = (Some τ, n) in Some r

none-left : (l : ℕ) (τ : Bindings Text) → unify text_eq l τ [] ≡ Some (Some τ, l)
none-left zero τ = refl
none-left (suc l) τ = go (nat_le 0 (suc l)) refl
  where
    go : (b : Bool) → nat_le 0 (suc l) ≡ b → if◌then◌else◌ {A = Option (Solved Text)} b (found_with τ (suc l - 0)) None ≡ found_with τ
        (suc l)
    go true e = let same : suc l - 0 ≡ suc l = omega arith in ap (found_with τ) same
    go false e = absurd (grind (arith, nat_tests))

pub first-pair : (left : ℕ) (σ : Bindings Text) (a b : Term Text) (qs : Pairs Text) → IsAtomicText b
    → unify text_eq left σ ((a, b) ∷ qs) ≡ then_pairs (unify text_eq left σ ((a, b) ∷ [])) qs
first-pair left σ a b qs h = go (reduction-single σ a b h)
  where
    clashed : (c : ℕ) (t : Bool) → (if t then Some (None, left - c) else None) ≡ then_pairs (if t then Some (None, left - c) else None) qs
    clashed c true = refl
    clashed c false = refl

    bound : (τ : Bindings Text) (c : ℕ) (t : Bool) → (if t then unify text_eq (left - c) τ qs else None)
        ≡ then_pairs (if t then unify text_eq (left - c) τ [] else None) qs
    bound τ c true = sym (ap (λ (r : Option (Solved Text)). then_pairs r qs) (none-left (left - c) τ))
    bound τ c false = refl

    go : IsSingle (reduction text_eq σ a b) → unify text_eq left σ ((a, b) ∷ qs) ≡ then_pairs (unify text_eq left σ ((a, b) ∷ [])) qs
    go (clashes c e) =
        unify-reduction text_eq left σ (a, b) qs
        ∙ (ap (λ (r : Reduction Text). pay left r (unify text_eq)) (e qs)
        ∙ (clashed c (nat_le c left)
        ∙ sym (ap (λ (r : Option (Solved Text)). then_pairs r qs) (unify-reduction text_eq left σ (a, b) []
        ∙ ap (λ (r : Reduction Text). pay left r (unify text_eq)) (e [])))))
    go (binds τ c e) =
        unify-reduction text_eq left σ (a, b) qs
        ∙ (ap (λ (r : Reduction Text). pay left r (unify text_eq)) (e qs)
        ∙ (bound τ c (nat_le c left)
        ∙ sym (ap (λ (r : Option (Solved Text)). then_pairs r qs) (unify-reduction text_eq left σ (a, b) []
        ∙ ap (λ (r : Reduction Text). pay left r (unify text_eq)) (e [])))))

-- a unification that began with fewer steps left is a part of one that began with more
pub unifier-part : (u : Option (Solved Text)) (left l : ℕ) (w v : World) (h : Option (Bindings Text) → Yield) → IsLess {A = Option
    (Bindings Text)} l u
    → l ≤ left → w ≡ v → IsPart (left - l) (by_unifier u left w w h) (by_unifier u l v v h)
unifier-part None left l w v h less below e = record { cost = omega arith; after = e; yield = refl }
unifier-part (Some r) left l w v h less below e = record { cost = omega (arith, less); after = e; yield = refl }

pub text-less : (l : ℕ) (τ : Bindings Text) (ps : Pairs Text) → IsLess {A = Option (Bindings Text)} l (unify text_eq l τ ps)
text-less l τ ps = within-less {A = Option (Bindings Text)} l (solve text_eq l τ ps)

module _ (names : List (List ℕ)) (table : IsTable names) (s : State) (a b c d left : ℕ) (setting : IsSetting names s)
    (ka : IsKnown names s a) (kb : IsKnown names s b) (atomic : IsAtomicText (text_at names s b)) where
  abbrev both_found : Option (Solved Text)
  both_found = unify text_eq left (texts_of names s)
      ((text_at names s a, text_at names s b) ∷ (text_at names s c, text_at names s d) ∷ [])

  both-is : (o : Option (Solved ℕ)) → unified left s (term_at s.terms a) (term_at s.terms b) ≡ o
      → both_found ≡ then_pairs (rename_solved (name_at names) o) ((text_at names s c, text_at names s d) ∷ [])
  both-is o e =
      first-pair left (texts_of names s) (text_at names s a) (text_at names s b) ((text_at names s c, text_at names s d) ∷ []) atomic
      ∙ ap (λ (r : Option (Solved Text)). then_pairs r ((text_at names s c, text_at names s d) ∷ []))
      (found-text names table s a b left setting ka kb ∙ ap (rename_solved (name_at names)) e)

  -- the second pair follows where the first was unified
  pub both-part : (t : State) (l : ℕ) → unified left s (term_at s.terms a) (term_at s.terms b) ≡ Some (Some (bind.bindings t), l) →
      (w v : World)
      → w ≡ v → IsPart (left - l) (by_unifier both_found left w w succeeds_with)
      (by_unifier (unify text_eq l (texts_of names t) ((text_at names s c, text_at names s d) ∷ [])) l v v succeeds_with)
  both-part t l e w v same =
      subst (λ (x : Option (Solved Text)). IsPart (left - l) (by_unifier x left w w succeeds_with)
      (by_unifier (unify text_eq l (texts_of names t) ((text_at names s c, text_at names s d) ∷ [])) l v v succeeds_with))
      (sym (both-is (Some (Some (bind.bindings t), l)) e))
      (unifier-part (unify text_eq l (texts_of names t) ((text_at names s c, text_at names s d) ∷ [])) left l w v succeeds_with
      (text-less l (texts_of names t) ((text_at names s c, text_at names s d) ∷ []))
      (unified-less left l s (term_at s.terms a) (term_at s.terms b) (Some (bind.bindings t)) e) same)

  pub both-no : (l : ℕ) → unified left s (term_at s.terms a) (term_at s.terms b) ≡ Some (None, l) → both_found ≡ Some (None, l)
  both-no l e = both-is (Some (None, l)) e

  pub both-spent : unified left s (term_at s.terms a) (term_at s.terms b) ≡ None → both_found ≡ None
  both-spent e = both-is None e

  pub both-no-answers : (t : State) (l : ℕ) → Grows s t → t.count ≡ s.count
      → unified left s (term_at s.terms a) (term_at s.terms b) ≡ Some (None, l)
      → Answers (λ w. by_unifier both_found left w w succeeds_with) names s left (Ok No) names t l
  both-no-answers t l grows count e =
      let less = unified-less left l s (term_at s.terms a) (term_at s.terms b) None e in
      record {
        answer = (λ w same. unifier-comes both_found None l left t.count w w succeeds_with (both-no l e) less (same ∙ sym count), tt);
        kept = (stays-self names s).kept;
        grows = grows;
        falls = less;
      }

pub atomic-text : (names : List (List ℕ)) (t : Term ℕ) → IsAtomic t → IsAtomicText (named names t)
atomic-text names (var v) h = h
atomic-text names (int i) h = tt
atomic-text names (node f ts) h = ap (rename_args (name_at names)) h
