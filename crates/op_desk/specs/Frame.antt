-- What a call changes of the five channels, and what it leaves.
use Rattle.std.specs.Prelude.{◌≡◌, if◌then◌else◌}
use Rattle.op_desk.specs.Channel.{same_chan}
use Rattle.op_desk.specs.declared.chan.Chan.{Chan}
use Rattle.op_desk.specs.declared.chan.Chan.TheVariants.{Commands, Input, Output, Talk, Note}

-- A fact of each channel.
pub record Each (P : Chan → Type 0) : Type 0 where
  pub commands : P Commands
  pub input : P Input
  pub output : P Output
  pub talk : P Talk
  pub note : P Note

-- Every channel has what it had.
abbrev pub Same : {A : Type 0} → (Chan → A) → (Chan → A) → Type 0
Same old new = Each (λ c. new c ≡ old c)

-- This channel has the value, and every other channel what it had.
abbrev pub Becomes : {A : Type 0} → Chan → A → (Chan → A) → (Chan → A) → Type 0
Becomes chan value old new = Each (λ c. new c ≡ (if same_chan c chan then value else old c))

-- Every other channel has what it had.
abbrev pub SameBut : {A : Type 0} → Chan → (Chan → A) → (Chan → A) → Type 0
SameBut chan old new = Becomes chan (new chan) old new
