-- A machine passes over solutions.
use Rattle.std.proofs.Common.{◌≡◌, ℕ, List, [], ◌∷◌, ◌++◌, refl, sym, ap, ◌∙◌, arith, append_assoc}
use Rattle.std.proofs.Common.{length-append}
use Rattle.op_trace.specs.World.{Turn, Shown, Solved}
use Rattle.op_trace.specs.Run.{Run}
use Rattle.op_machine.specs.declared.turn.Turn.TheVariants as turn
use Rattle.op_machine.specs.Meaning.{bindings_in}
use Rattle.op_machine.specs.Machine.{Kept, world_now, level_now, Answers}
use Rattle.op_retrace.specs.Holding.{to_show}
use Rattle.op_retrace.specs.inner.Coming.{IsSolution, AreSolutions, last_steps, Passed}

last-behind : (n : ℕ) (ts : List Turn) (t : Turn) → last_steps n (ts ++ t ∷ []) ≡ last_steps 0 (t ∷ [])
last-behind n [] (Shown e w) = refl
last-behind n [] (Solved σ w) = refl
last-behind n (Shown e w ∷ ts) t = last-behind w.steps ts t
last-behind n (Solved σ w ∷ ts) t = last-behind w.steps ts t

solutions-more : (ts : List Turn) (t : Turn) → AreSolutions ts → IsSolution t → AreSolutions (ts ++ t ∷ [])
solutions-more [] t a b = (b, tt)
solutions-more (x ∷ ts) t a b = (a.0, solutions-more ts t a.1 b)

-- the solution that a machine has answered
abbrev solution_now : Kept → Turn
solution_now k = Solved (bindings_in k.tables (level_now k)) (world_now k)

pub passed-more : (old mid new : Kept) (ts : List Turn) → Passed old mid ts
    → Answers turn.Solution mid new (to_show mid) (to_show new) (world_now new) → Passed old new (ts ++ solution_now new ∷ [])
passed-more old mid new ts p a =
    let here = a.0 in
    record {
      turns = p.turns ∙ ap (λ (r : Run). ts ++ r.turns) here ∙ sym (append_assoc ts (solution_now new ∷ []) (to_show new).turns);
      ending = p.ending ∙ ap (λ (r : Run). r.ending) here;
      world = p.world ∙ ap (λ (r : Run). r.world) here;
      solutions = solutions-more ts (solution_now new) p.solutions tt;
      count = let c = p.count in let d = a.2 in let e = length-append ts (solution_now new ∷ []) in omega arith;
      steps = sym (last-behind old.steps ts (solution_now new));
    }
