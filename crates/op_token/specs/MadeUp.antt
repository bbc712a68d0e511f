-- A text is made up of its tokens, with layout and comments between them.
use Rattle.std.specs.Prelude.{◌≡◌, ℕ, ◌==◌, ◌-◌, ◌<◌, ◌≤◌, Bool, true, false, ◌&&◌, List, [], ◌∷◌, Option, Some, None}
use Rattle.std.specs.Prelude.{drop, length, slice_index, slice_range, if◌then◌else◌}
use Rattle.op_token.specs.declared.token.Token.{Token}
use Rattle.op_token.specs.declared.token.TokenFault.{TokenFault}
use Rattle.op_token.specs.declared.spelling.Spelling.TheVariants.{Whole, Fault}
use Rattle.op_token.specs.Spelling.{begins}
use Rattle.op_token.specs.Tokens.{is_minus}
use Rattle.op_token.specs.SpellingFaults.{IsGap}

-- from one place to another there are layout and whole comments alone
pub data Gaps (text : List ℕ) : ℕ → ℕ → Type 0 where
  none : {i : ℕ} → Gaps text i i
  further : {i j k : ℕ} → Gaps text i j → j < k → k ≤ length text → IsGap (slice_range text j k) (drop k text) → Gaps text i k

-- from a place on, the text is gaps and tokens in turn to its end, or to a place where a fault begins. `minus` says that the name -
-- ends at the place, so that it stands directly before what begins there
abbrev pub MadeUp : List ℕ → ℕ → Bool → List Token → Option TokenFault → Type 0
MadeUp text at minus [] None = Gaps text at (length text)
MadeUp text at minus [] (Some f) = (i : ℕ) × (Gaps text at i × (begins i (minus && at == i) (drop i text) ≡ Fault f))
MadeUp text at minus (t ∷ ts) f =
    Gaps text at t.from
    × ((t.layout_before ≡ true → at < t.from) × (t.layout_before ≡ false → at ≡ t.from))
    × (begins t.from (if t.layout_before then false else minus) (drop t.from text) ≡ Whole t.kind t.to)
    × ((t.from < t.to) × (t.to ≤ length text))
    × MadeUp text t.to (is_minus t.kind (slice_index text t.from) (t.to - t.from)) ts f
