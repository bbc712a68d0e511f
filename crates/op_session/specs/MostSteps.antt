-- The most steps that a run has counted.
use Rattle.std.specs.Prelude.{ℕ, List, [], ◌∷◌, max}
use Rattle.op_trace.specs.World.{Turn, Shown, Solved}
use Rattle.op_trace.specs.Run.{Run}

-- at one of its turns
abbrev pub most_at : List Turn → ℕ
most_at [] = 0
most_at (Shown e w ∷ ts) = max w.steps (most_at ts)
most_at (Solved σ w ∷ ts) = max w.steps (most_at ts)

-- or at its end
abbrev pub most_steps : Run → ℕ
most_steps run = max (most_at run.turns) run.world.steps
