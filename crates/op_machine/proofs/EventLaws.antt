-- What an event shows.
use Rattle.std.proofs.Common.{◌≡◌, ℕ, ◌+◌, List, [], ◌∷◌, length, map, refl, sym, ap, ◌∙◌, arith}
use Rattle.op_logic.specs.Term.{Term}
use Rattle.op_logic.specs.Bind.{apply}
use Rattle.op_trace.specs.declared.port.Port.{Port}
use Rattle.op_trace.specs.World as world
use Rattle.op_trace.specs.Database.{Text}
use Rattle.op_trace.specs.World.{World, Event, open_boxes, head_number}
use Rattle.op_trace.specs.Visit.{event_of}
use Rattle.op_machine.specs.declared.continuations.Item.{Item}
use Rattle.op_machine.specs.declared.continuations.Item.TheVariants as item
use Rattle.op_machine.specs.declared.core_state.Core.{Core}
use Rattle.op_machine.specs.inner.Continuations.{continuation_in, opened}
use Rattle.op_store.specs.Stored.{Stored}
use Rattle.op_machine.specs.Meaning.{Level, level_in, item_term, items_now, goal_now, bindings_now, world_in, event_seen}
use Rattle.op_machine.proofs.NamedTerms.{value-named}

pub open_boxes-items : (t : Stored) (v : Level) (I : List Item) → open_boxes (map (item_term t v) I) ≡ opened I
open_boxes-items t v [] = refl
open_boxes-items t v (item.Goal f m ∷ I) = open_boxes-items t v I
open_boxes-items t v (item.Cut m ∷ I) = open_boxes-items t v I
open_boxes-items t v (item.Exit k g ∷ I) = ap (λ ks. k ∷ ks) (open_boxes-items t v I)
open_boxes-items t v (item.Execute k g ∷ I) = ap (λ ks. k ∷ ks) (open_boxes-items t v I)
open_boxes-items t v (item.Recover k g ∷ I) = ap (λ ks. k ∷ ks) (open_boxes-items t v I)

abbrev an_event : World → Port → ℕ → Term Text → ℕ → ℕ → Event
an_event w p k g parent depth = record { chrono = w.events + 1; call = k; parent = parent; depth = depth; port = p; goal = g }

pub event-shown : (c : Core) (p : Port) (k g n parent depth : ℕ) → parent ≡ head_number (opened (continuation_in c.continuations n))
    → depth ≡ length (opened (continuation_in c.continuations n))
    → event_seen c.store c.bindings (record { chrono = c.events + 1; call = k; parent = parent; depth = depth + 1; port = p; goal = g })
    ≡ event_of p k (goal_now c g) (bindings_now c) (items_now c n) (world_in c)
event-shown c p k g n parent depth ep ed =
    let J : List world.Item = items_now c n in
    let w : World = world_in c in
    let o : open_boxes J ≡ opened (continuation_in c.continuations n) =
    open_boxes-items c.store (level_in c) (continuation_in c.continuations n) in
    let e : depth + 1 ≡ 1 + length (open_boxes J) = omega (arith, ap length o) in
    ap (λ (t : Term Text). an_event w p k t parent (depth + 1)) (value-named c.store c.bindings g)
    ∙ (ap (λ (x : ℕ). an_event w p k (apply (bindings_now c) (goal_now c g)) x (depth + 1)) (ep ∙ sym (ap head_number o))
    ∙ ap (λ (x : ℕ). an_event w p k (apply (bindings_now c) (goal_now c g)) (head_number (open_boxes J)) x) e)
