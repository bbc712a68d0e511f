-- A ball comes to the next open box, whatever choice points lie above that of the box.
use Rattle.std.proofs.Common.{◌≡◌, ℕ, Bool, true, false, List, [], ◌∷◌, refl, sym, ap, if◌then◌else◌}
use Rattle.op_logic.specs.Term.{Term}
use Rattle.op_logic.specs.Bind.{Bindings}
use Rattle.op_trace.specs.Database.{Text}
use Rattle.op_trace.specs.World.{World, Item}
use Rattle.op_trace.specs.Act.{Setup}
use Rattle.op_trace.specs.Visit.{is_open, around, Choice, Redo, Branch, More, Again, Fail, Catch, Condition}
use Rattle.op_machine.specs.Resume.{Moved, leaving, raised, ball_met}
use Rattle.op_machine.specs.inner.Barriers.{left_to}

module _ (s : Setup) (b : Term Text) (o : List ℕ) where
  first-open : (p m : Moved) (t : Bool) → t ≡ true → m ≡ (if t then m else p)
  first-open p m t e = sym (ap (λ (u : Bool). if u then m else p) e)

  pub leaving-left : (K : List Choice) (w : World) → leaving s b o K w ≡ leaving s b o (left_to o K) w
  leaving-left [] w = refl
  leaving-left (Redo k g σ J ∷ K) w = leaving-left K w
  leaving-left (Branch t m σ J ∷ K) w = leaving-left K w
  leaving-left (More cs k g σ J ∷ K) w = leaving-left K w
  leaving-left (Again t k g σ J ∷ K) w = leaving-left K w
  leaving-left (Condition n t m σ J ∷ K) w = leaving-left K w
  leaving-left (Fail k g σ J ∷ K) w = go (is_open k o) refl (leaving-left K w)
    where
      go : (t : Bool) → is_open k o ≡ t → leaving s b o K w ≡ leaving s b o (left_to o K) w
          → (if t then raised k g σ J K b (around k o) w else leaving s b o K w)
          ≡ leaving s b o (if t then Fail k g σ J ∷ K else left_to o K) w
      go true e below = first-open (leaving s b o K w) (raised k g σ J K b (around k o) w) (is_open k o) e
      go false e below = below
  leaving-left (Catch k g σ J ∷ K) w = go (is_open k o) refl (leaving-left K w)
    where
      go : (t : Bool) → is_open k o ≡ t → leaving s b o K w ≡ leaving s b o (left_to o K) w
          → (if t then ball_met s k g σ J K b (around k o) w else leaving s b o K w)
          ≡ leaving s b o (if t then Catch k g σ J ∷ K else left_to o K) w
      go true e below = first-open (leaving s b o K w) (ball_met s k g σ J K b (around k o) w) (is_open k o) e
      go false e below = below

  -- at the choice point of an open box the ball comes to the box
  pub leaving-open : (k : ℕ) (g : Term Text) (σ : Bindings Text) (J : List Item) (K : List Choice) (w : World)
      → is_open k o ≡ true → leaving s b o (Fail k g σ J ∷ K) w ≡ raised k g σ J K b (around k o) w
  leaving-open k g σ J K w e =
      ap (λ (t : Bool). if t then raised k g σ J K b (around k o) w else leaving s b o K w) e

  pub leaving-caught : (k : ℕ) (g : Term Text) (σ : Bindings Text) (J : List Item) (K : List Choice) (w : World)
      → is_open k o ≡ true → leaving s b o (Catch k g σ J ∷ K) w ≡ ball_met s k g σ J K b (around k o) w
  leaving-caught k g σ J K w e =
      ap (λ (t : Bool). if t then ball_met s k g σ J K b (around k o) w else leaving s b o K w) e
