-- Frames at a channel that is not known.
use Rattle.std.proofs.Common.{◌≡◌, Bool, true, false, cond, refl, sym, ap, ◌∙◌}
use Rattle.op_desk.specs.Channel.{same_chan}
use Rattle.op_desk.specs.Frame.{Each, Same, Becomes, SameBut}
use Rattle.op_desk.specs.declared.chan.Chan.{Chan}
use Rattle.op_desk.specs.declared.chan.Chan.TheVariants.{Commands, Input, Output, Talk, Note}

pub Each-at : {P : Chan → Type 0} → Each P → (c : Chan) → P c
Each-at h Commands = h.commands
Each-at h Input = h.input
Each-at h Output = h.output
Each-at h Talk = h.talk
Each-at h Note = h.note

pub Each-from : {P : Chan → Type 0} → ((c : Chan) → P c) → Each P
Each-from h = record { commands = h Commands; input = h Input; output = h Output; talk = h Talk; note = h Note }

pub same_chan-refl : (c : Chan) → same_chan c c ≡ true
same_chan-refl Commands = refl
same_chan-refl Input = refl
same_chan-refl Output = refl
same_chan-refl Talk = refl
same_chan-refl Note = refl

pub Same-refl : {A : Type 0} (f : Chan → A) → Same f f
Same-refl f = Each-from (λ c. refl)

pub Same-then : {A : Type 0} {f g h : Chan → A} → Same f g → Same g h → Same f h
Same-then {f = f} {g = g} {h = h} p q = Each-from (λ c. Each-at q c ∙ Each-at p c)

pub Same-at : {A : Type 0} {f g : Chan → A} (c : Chan) → Same f g → g c ≡ f c
Same-at c p = Each-at p c

-- the channel has the value
pub Becomes-at : {A : Type 0} (chan : Chan) (value : A) (f g : Chan → A) → Becomes chan value f g → g chan ≡ value
Becomes-at chan value f g p = Each-at p chan ∙ ap (λ b. cond b value (f chan)) (same_chan-refl chan)

-- another channel has what it had
pub Becomes-at_other : {A : Type 0} (chan : Chan) (value : A) (f g : Chan → A) (c : Chan) → same_chan c chan ≡ false
    → Becomes chan value f g → g c ≡ f c
Becomes-at_other chan value f g c other p = Each-at p c ∙ ap (λ b. cond b value (f c)) other

pub SameBut-from_Becomes : {A : Type 0} (chan : Chan) (value : A) (f g : Chan → A) → Becomes chan value f g → SameBut chan f g
SameBut-from_Becomes chan value f g p =
    Each-from (λ c. Each-at p c ∙ ap (λ v. cond (same_chan c chan) v (f c)) (sym (Becomes-at chan value f g p)))

pub SameBut-from_Same : {A : Type 0} (chan : Chan) (f g : Chan → A) → Same f g → SameBut chan f g
SameBut-from_Same Commands f g p = record { commands = refl; input = p.input; output = p.output; talk = p.talk; note = p.note }
SameBut-from_Same Input f g p = record { commands = p.commands; input = refl; output = p.output; talk = p.talk; note = p.note }
SameBut-from_Same Output f g p = record { commands = p.commands; input = p.input; output = refl; talk = p.talk; note = p.note }
SameBut-from_Same Talk f g p = record { commands = p.commands; input = p.input; output = p.output; talk = refl; note = p.note }
SameBut-from_Same Note f g p = record { commands = p.commands; input = p.input; output = p.output; talk = p.talk; note = refl }

-- two changes of one channel, one after the other
pub SameBut-then : {A : Type 0} (chan : Chan) (f g h : Chan → A) → SameBut chan f g → SameBut chan g h → SameBut chan f h
SameBut-then Commands f g h p q =
    record { commands = refl; input = q.input ∙ p.input; output = q.output ∙ p.output; talk = q.talk ∙ p.talk; note = q.note ∙ p.note }
SameBut-then Input f g h p q =
    record {
      commands = q.commands ∙ p.commands;
      input = refl;
      output = q.output ∙ p.output;
      talk = q.talk
          ∙ p.talk;
      note = q.note ∙ p.note;
    }
SameBut-then Output f g h p q =
    record {
      commands = q.commands ∙ p.commands;
      input = q.input ∙ p.input;
      output = refl;
      talk = q.talk
          ∙ p.talk;
      note = q.note ∙ p.note;
    }
SameBut-then Talk f g h p q =
    record {
      commands = q.commands ∙ p.commands;
      input = q.input ∙ p.input;
      output = q.output
          ∙ p.output;
      talk = refl;
      note = q.note ∙ p.note;
    }
SameBut-then Note f g h p q =
    record {
      commands = q.commands ∙ p.commands;
      input = q.input ∙ p.input;
      output = q.output
          ∙ p.output;
      talk = q.talk ∙ p.talk;
      note = refl;
    }

pub SameBut-at_other : {A : Type 0} (chan : Chan) (f g : Chan → A) (c : Chan) → same_chan c chan ≡ false → SameBut chan f g → g c ≡ f c
SameBut-at_other chan f g c other p = Becomes-at_other chan (g chan) f g c other p

-- what a channel became last is what it has
pub Becomes-then : {A : Type 0} (chan : Chan) (value : A) (f g h : Chan → A) → SameBut chan f g
    → Becomes chan value g h → Becomes chan value f h
Becomes-then chan value f g h p q =
    Each-from (λ c. Each-at q c ∙ (pick (same_chan c chan) value (g c) (g chan) (f c) (Each-at p c)))
  where
    pick : {A : Type 0} (b : Bool) (value x y z : A) → x ≡ cond b y z → cond b value x ≡ cond b value z
    pick true value x y z e = refl
    pick false value x y z e = e
