-- The walk, a byte at a time, finds the piece that the walk by whole spellings finds.
use Rattle.std.proofs.Common.{◌≡◌, ℕ, suc, Bool, true, false, ◌&&◌, List, [], ◌∷◌, Option, Some, None, length, refl, ap, sym, ◌∙◌}
use Rattle.std.specs.Prelude.{unwrap_or}
use Rattle.std.specs.Option.{option_map, option_map_or}
use Rattle.op_token.specs.declared.kind.Kind.{Kind}
use Rattle.op_token.specs.declared.kind.Kind.TheVariants.{Newline, Layout, Percent, Slash, Star, Dot, Backslash, Quote, Zero, Word, Sign}
use Rattle.op_token.specs.declared.kind.QuoteMark.{QuoteMark}
use Rattle.op_token.specs.declared.kind.QuoteMark.TheVariants.{Single, Double}
use Rattle.op_token.specs.declared.walk.Mode.{Mode}
use Rattle.op_token.specs.declared.walk.Walk.{Walk}
use Rattle.op_token.specs.declared.walk.Mode.TheVariants.{Lead, Between, AfterSlash, AfterZero, AfterDot, InLine, InBlock}
use Rattle.op_token.specs.declared.walk.Mode.TheVariants.{AfterStar, InQuotes, Escaped, InCode, CodeEscaped, CodeQuote, Ended}
use Rattle.op_token.specs.Cut.{line, block, quoted, end_from, blank_from, piece}
use Rattle.op_token.specs.Walk.{end_in, blank_in, piece_in, top_of, next_of, keeps_top, keeps_blank, blank_of, from_of, step_of, piece_at}

-- a step from between two spellings
pub top_ends : (at : ℕ) (before k : Kind) (s : List Kind) → end_from at 0 before (k ∷ s) ≡ end_in (suc at) (top_of before k) s
top_ends at before Slash [] = refl
top_ends at before Slash (Star ∷ s) = refl
top_ends at before Slash (k ∷ s) = refl
top_ends at Word Zero [] = refl
top_ends at Word Zero (Quote Single ∷ s) = refl
top_ends at Word Zero (k ∷ s) = refl
top_ends at Zero Zero [] = refl
top_ends at Zero Zero (Quote Single ∷ s) = refl
top_ends at Zero Zero (k ∷ s) = refl
top_ends at before Zero [] = refl
top_ends at before Zero (Quote Single ∷ s) = refl
top_ends at before Zero (k ∷ s) = refl
top_ends at Slash Dot s = refl
top_ends at Star Dot s = refl
top_ends at Dot Dot s = refl
top_ends at Backslash Dot s = refl
top_ends at Sign Dot s = refl
top_ends at before Dot s = refl
top_ends at before k s = refl

-- how many bytes of a comment are left, where one more than some are, or all of those there
left_suc : (o : Option ℕ) (n : ℕ) → unwrap_or (option_map suc o) (suc n) ≡ suc (unwrap_or o n)
left_suc None n = refl
left_suc (Some x) n = refl

-- a place in a comment, a byte further
block_on : (at n : ℕ) (before k : Kind) (o : Option ℕ) (s : List Kind)
    → end_from at (unwrap_or (option_map suc o) (suc n)) before (k ∷ s) ≡ end_from (suc at) (unwrap_or o n) k s
block_on at n before k None s = refl
block_on at n before k (Some x) s = refl

-- the byte before a spelling's byte that is not its first has no meaning
any_before : (at n : ℕ) (k l : Kind) (s : List Kind) → end_from at (suc n) k s ≡ end_from at (suc n) l s
any_before at n k l [] = refl
any_before at n k l (m ∷ s) = refl

block_before : (at : ℕ) (k l : Kind) (s : List Kind)
    → end_from at (unwrap_or (block s) (length s)) k s ≡ end_from at (unwrap_or (block s) (length s)) l s
block_before at k l [] = refl
block_before at k l (Star ∷ Slash ∷ s) = refl
block_before at k l (Star ∷ []) = refl
block_before at k l (Star ∷ m ∷ s) =
    block_on at (length (m ∷ s)) k Star (block (m ∷ s)) (m ∷ s) ∙ sym (block_on at (length (m ∷ s)) l Star (block (m ∷ s)) (m ∷ s))
block_before at k l (m ∷ s) = block_on at (length s) k m (block s) s ∙ sym (block_on at (length s) l m (block s) s)

line_before : (at : ℕ) (k l : Kind) (s : List Kind) → end_from at (line s) k s ≡ end_from at (line s) l s
line_before at k l [] = refl
line_before at k l (Newline ∷ s) = refl
line_before at k l (m ∷ s) = refl

quoted_before : (at : ℕ) (q : QuoteMark) (k l : Kind) (s : List Kind) → end_from at (quoted q s) k s ≡ end_from at (quoted q s) l s
quoted_before at q k l [] = refl
quoted_before at q k l (Newline ∷ s) = refl
quoted_before at q k l (Backslash ∷ []) = refl
quoted_before at q k l (Backslash ∷ m ∷ s) = refl
quoted_before at Single k l (Quote Single ∷ s) = refl
quoted_before at Double k l (Quote Double ∷ s) = refl
quoted_before at Single k l (m ∷ s) = refl
quoted_before at Double k l (m ∷ s) = refl

-- a step, as for the end
pub next_ends : (at : ℕ) (mode : Mode) (k : Kind) (s : List Kind) → (mode ≡ Lead → ⊥)
    → end_in at mode (k ∷ s) ≡ end_in (suc at) (next_of at mode k) s
next_ends at Lead k s h = absurd (h refl)
next_ends at (Between before) k s h = top_ends at before k s
next_ends at AfterSlash Star s h = refl
next_ends at AfterSlash k s h = top_ends at Slash k s
next_ends at AfterZero (Quote Single) s h = refl
next_ends at AfterZero k s h = top_ends at Zero k s
next_ends at AfterDot Newline s h = refl
next_ends at AfterDot Layout s h = refl
next_ends at AfterDot Percent s h = refl
next_ends at AfterDot k s h = top_ends at Dot k s
next_ends at InLine Newline s h = refl
next_ends at InLine k s h = line_before (suc at) k Percent s
next_ends at InBlock Star [] h = refl
next_ends at InBlock Star (Slash ∷ s) h = refl
next_ends at InBlock Star (k ∷ s) h = block_on at (length (k ∷ s)) Star Star (block (k ∷ s)) (k ∷ s)
next_ends at InBlock k s h = block_on at (length s) Star k (block s) s ∙ block_before (suc at) k Star s
next_ends at AfterStar Slash s h = refl
next_ends at AfterStar Star [] h = refl
next_ends at AfterStar Star (Slash ∷ s) h = refl
next_ends at AfterStar Star (k ∷ s) h = block_on at (length (k ∷ s)) Star Star (block (k ∷ s)) (k ∷ s)
next_ends at AfterStar k s h = block_on at (length s) Star k (block s) s ∙ block_before (suc at) k Star s
next_ends at (InQuotes q) Newline s h = refl
next_ends at (InQuotes q) Backslash [] h = refl
next_ends at (InQuotes q) Backslash (k ∷ s) h = refl
next_ends at (InQuotes Single) (Quote Single) s h = refl
next_ends at (InQuotes Double) (Quote Double) s h = refl
next_ends at (InQuotes Single) k s h = quoted_before (suc at) Single k (Quote Single) s
next_ends at (InQuotes Double) k s h = quoted_before (suc at) Double k (Quote Double) s
next_ends at (Escaped q) k s h = quoted_before (suc at) q k (Quote q) s
next_ends at InCode Backslash [] h = refl
next_ends at InCode Backslash (k ∷ s) h = refl
next_ends at InCode (Quote Single) [] h = refl
next_ends at InCode (Quote Single) (Quote Single ∷ s) h = refl
next_ends at InCode (Quote Single) (k ∷ s) h = refl
next_ends at InCode k s h = refl
next_ends at CodeEscaped k s h = refl
next_ends at CodeQuote (Quote Single) s h = refl
next_ends at CodeQuote k s h = top_ends at (Quote Single) k s
next_ends at (Ended end) k s h = refl

-- as for the comments
suc_blank : (o : Option ℕ) (k : Kind) (s : List Kind)
    → option_map_or (λ n. blank_from n (k ∷ s)) (option_map suc o) false ≡ option_map_or (λ n. blank_from n s) o false
suc_blank None k s = refl
suc_blank (Some n) k s = refl

top_keeps : (before k : Kind) (s : List Kind) → blank_from 0 (k ∷ s) ≡ (keeps_top k && blank_in (top_of before k) s)
top_keeps before Newline s = refl
top_keeps before Layout s = refl
top_keeps before Percent s = refl
top_keeps before Slash s = refl
top_keeps before k s = refl

pub next_keeps : (at : ℕ) (mode : Mode) (k : Kind) (s : List Kind) → (mode ≡ Lead → ⊥)
    → blank_in mode (k ∷ s) ≡ (keeps_blank mode k && blank_in (next_of at mode k) s)
next_keeps at Lead k s h = absurd (h refl)
next_keeps at (Between before) k s h = top_keeps before k s
next_keeps at AfterSlash Star s h = suc_blank (block s) Star s
next_keeps at AfterSlash k s h = refl
next_keeps at InLine Newline s h = refl
next_keeps at InLine k s h = refl
next_keeps at InBlock Star [] h = refl
next_keeps at InBlock Star (Slash ∷ s) h = refl
next_keeps at InBlock Star (k ∷ s) h = suc_blank (block (k ∷ s)) Star (k ∷ s)
next_keeps at InBlock k s h = suc_blank (block s) k s
next_keeps at AfterStar Slash s h = refl
next_keeps at AfterStar Star [] h = refl
next_keeps at AfterStar Star (Slash ∷ s) h = refl
next_keeps at AfterStar Star (k ∷ s) h = suc_blank (block (k ∷ s)) Star (k ∷ s)
next_keeps at AfterStar k s h = suc_blank (block s) k s
next_keeps at mode k s h = refl

-- only leading layout leads to leading layout
top_leads : (before k : Kind) → top_of before k ≡ Lead → ⊥
top_leads Zero Zero = λ e. cc
top_leads Word Zero = λ e. cc
top_leads before Zero = λ e. cc
top_leads Slash Dot = λ e. cc
top_leads Star Dot = λ e. cc
top_leads Dot Dot = λ e. cc
top_leads Backslash Dot = λ e. cc
top_leads Sign Dot = λ e. cc
top_leads before Dot = λ e. cc
top_leads before k = λ e. cc

pub next_leads : (at : ℕ) (mode : Mode) (k : Kind) → (mode ≡ Lead → ⊥) → next_of at mode k ≡ Lead → ⊥
next_leads at Lead k h = absurd (h refl)
next_leads at (Between before) k h = top_leads before k
next_leads at AfterSlash Star h = λ e. cc
next_leads at AfterSlash k h = top_leads Slash k
next_leads at AfterZero (Quote Single) h = λ e. cc
next_leads at AfterZero k h = top_leads Zero k
next_leads at AfterDot Newline h = λ e. cc
next_leads at AfterDot Layout h = λ e. cc
next_leads at AfterDot Percent h = λ e. cc
next_leads at AfterDot k h = top_leads Dot k
next_leads at InLine Newline h = λ e. cc
next_leads at InLine k h = λ e. cc
next_leads at InBlock Star h = λ e. cc
next_leads at InBlock k h = λ e. cc
next_leads at AfterStar Slash h = λ e. cc
next_leads at AfterStar Star h = λ e. cc
next_leads at AfterStar k h = λ e. cc
next_leads at (InQuotes q) Newline h = λ e. cc
next_leads at (InQuotes q) Backslash h = λ e. cc
next_leads at (InQuotes Single) (Quote Single) h = λ e. cc
next_leads at (InQuotes Double) (Quote Double) h = λ e. cc
next_leads at (InQuotes Single) k h = λ e. cc
next_leads at (InQuotes Double) k h = λ e. cc
next_leads at (Escaped q) k h = λ e. cc
next_leads at InCode Backslash h = λ e. cc
next_leads at InCode (Quote Single) h = λ e. cc
next_leads at InCode k h = λ e. cc
next_leads at CodeEscaped k h = λ e. cc
next_leads at CodeQuote (Quote Single) h = λ e. cc
next_leads at CodeQuote k h = top_leads (Quote Single) k
next_leads at (Ended end) k h = λ e. cc

-- the piece behind the leading layout
pub not_lead : (at from : ℕ) (blank : Bool) (mode : Mode) (s : List Kind) → (mode ≡ Lead → ⊥)
    → piece_at at from blank mode s ≡ piece from (end_in at mode s) (blank && blank_in mode s)
not_lead at from blank Lead s h = absurd (h refl)
not_lead at from blank mode s h = refl

and_assoc : (a b c : Bool) → (a && (b && c)) ≡ ((a && b) && c)
and_assoc true b c = refl
and_assoc false b c = refl

both : (from : ℕ) {o p : Option ℕ} {a b : Bool} → o ≡ p → a ≡ b → piece from o a ≡ piece from p b
both from e d = cc

from_is : (at from : ℕ) (mode : Mode) → (mode ≡ Lead → ⊥) → from_of at from mode ≡ from
from_is at from Lead h = absurd (h refl)
from_is at from mode h = refl

blank_is : (blank : Bool) (mode : Mode) (k : Kind) → (mode ≡ Lead → ⊥) → blank_of blank mode k ≡ (blank && keeps_blank mode k)
blank_is blank Lead k h = absurd (h refl)
blank_is blank mode k h = refl

-- a step
lead_steps : (at : ℕ) (k : Kind) (s : List Kind) → end_from at 0 Layout (k ∷ s) ≡ end_in (suc at) (top_of Layout k) s
    → blank_from 0 (k ∷ s) ≡ (keeps_top k && blank_in (top_of Layout k) s)
    → piece at (end_from at 0 Layout (k ∷ s)) (blank_from 0 (k ∷ s)) ≡ piece_at (suc at) at (keeps_top k) (top_of Layout k) s
lead_steps at k s e d = both at e d ∙ sym (not_lead (suc at) at (keeps_top k) (top_of Layout k) s (top_leads Layout k))

pub steps_at : (at from : ℕ) (blank : Bool) (mode : Mode) (k : Kind) (s : List Kind) → (mode ≡ Lead → ⊥)
    → piece_at at from blank mode (k ∷ s) ≡ piece_at (suc at) (from_of at from mode) (blank_of blank mode k) (next_of at mode k) s
steps_at at from blank mode k s h =
    not_lead at from blank mode (k ∷ s) h
    ∙ both from (next_ends at mode k s h)
    (ap (λ b. blank && b) (next_keeps at mode k s h) ∙ and_assoc blank (keeps_blank mode k) (blank_in (next_of at mode k) s))
    ∙ sym (ap (λ b. piece from (end_in (suc at) (next_of at mode k) s) (b && blank_in (next_of at mode k) s)) (blank_is blank mode k h))
    ∙ sym (ap (λ f. piece f (end_in (suc at) (next_of at mode k) s) (blank_of blank mode k && blank_in (next_of at mode k) s))
    (from_is at from mode h))
    ∙ sym (not_lead (suc at) (from_of at from mode) (blank_of blank mode k) (next_of at mode k) s (next_leads at mode k h))

lead_at : (at from : ℕ) (blank : Bool) (k : Kind) (s : List Kind)
    → piece_at at from blank Lead (k ∷ s) ≡ piece_at (suc at) at (keeps_top k) (next_of at Lead k) s
lead_at at from blank Newline s = refl
lead_at at from blank Layout s = refl
lead_at at from blank k s = lead_steps at k s (top_ends at Layout k s) (top_keeps Layout k s)

all_at : (at from : ℕ) (blank : Bool) (mode : Mode) (k : Kind) (s : List Kind)
    → piece_at at from blank mode (k ∷ s) ≡ piece_at (suc at) (from_of at from mode) (blank_of blank mode k) (next_of at mode k) s
all_at at from blank Lead k s = lead_at at from blank k s
all_at at from blank mode k s = steps_at at from blank mode k s (λ e. cc)

pub piece_steps : (w : Walk) (k : Kind) (s : List Kind) → piece_in w (k ∷ s) ≡ piece_in (step_of w k) s
piece_steps w k s = all_at w.at w.from w.blank w.mode k s
