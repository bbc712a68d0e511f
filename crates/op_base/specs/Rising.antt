-- Counts that rise.
use Rattle.std.specs.Prelude.{ℕ, ◌+◌, ◌-◌, ◌^◌, ◌≤◌, min}

-- A count of 64 bits rose: it is greater, or stands at its type's end.
abbrev pub Rose : ℕ → ℕ → Type 0
Rose before after = min (before + 1) (2 ^ 64 - 1) ≤ after
