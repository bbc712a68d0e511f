-- Where a text ends, and what more bytes change.
use Rattle.std.proofs.Common.{◌≡◌, ℕ, zero, suc, ◌+◌, ◌-◌, ◌<◌, ◌≤◌, Bool, true, false, List, [], ◌∷◌, ◌++◌, Option, Some, None}
use Rattle.std.proofs.Common.{length, take, drop, refl, ap, sym, ◌∙◌, cond, arith, subst, inl, inr, ◌⊎◌, length-append, length-drop}
use Rattle.std.proofs.Common.{set, get_or, drop-cons, add-one}
use Rattle.std.specs.Prelude.{map, fold, if◌then◌else◌, slice_range, IsTrue, ◌↔◌}
use Rattle.std.specs.Bool.{OnFalse}
use Rattle.std.proofs.lemmas.List.Sums.{fold_push}
use Rattle.std.proofs.lemmas.List.{map-append, length-map, take-append-le, drop-append-le}
use Rattle.std.specs.Option.{option_map}
use Rattle.op_token.specs.declared.piece.Piece.{Piece}
use Rattle.op_token.specs.declared.piece.Piece.TheVariants.{Text, NoEnd, Empty}
use Rattle.op_token.specs.declared.kind.Kind.{Kind}
use Rattle.op_token.specs.declared.kind.Kind.TheVariants.{Newline, Layout, Percent, Slash, Star, Dot, Backslash, Quote, Zero, Word, Sign}
use Rattle.op_token.specs.declared.kind.QuoteMark.TheVariants.{Single, Double}
use Rattle.op_token.specs.declared.walk.Mode.{Mode}
use Rattle.op_token.specs.declared.walk.Walk.{Walk}
use Rattle.op_token.specs.declared.walk.Mode.TheVariants.{Lead, Between, AfterSlash, AfterZero, AfterDot, InLine, InBlock}
use Rattle.op_token.specs.declared.walk.Mode.TheVariants.{AfterStar, InQuotes, Escaped, InCode, CodeEscaped, CodeQuote, Ended}
use Rattle.op_base.specs.Characters.{is_layout}
use Rattle.op_token.specs.Kind.{kind_of, is_gap}
use Rattle.op_token.specs.Cut.{spelled, is_followed, ends, end_from, blank_from, piece, cut_from, cut_of, IsFollowed, IsOpen}
use Rattle.op_token.specs.Cut.{EndsBefore, IsUnended, IsBehindGap, behind_layout, rest_in, text_in, IsText, is_text, moved, texts}
use Rattle.op_token.specs.Cut.{behind_texts}
use Rattle.op_token.specs.Walk.{piece_in, top_of, next_of, step_of, piece_at, walked, start, has_ended}
use Rattle.op_token.proofs.WalkedPieces.{piece_steps}

-- the end of a text is behind its place, and not behind the bytes
pub end_within : (at inside : ℕ) (before : Kind) (s : List Kind) (e : ℕ) → end_from at inside before s ≡ Some e
    → (at < e) × (e ≤ at + length s)
end_within at inside before [] e h = cc
end_within at (suc n) before (k ∷ s) e h = let i = end_within (suc at) n k s e h in (omega arith, omega arith)
end_within at zero before (k ∷ s) e h =
    elim (ends before k s) as
    (λ b. cond b (Some (suc at)) (end_from (suc at) (spelled before k s) k s) ≡ Some e → (at < e) × (e ≤ at + suc (length s))) [
      | true ↦ λ p. let q : suc at ≡ e = cc in (omega arith, omega arith)
      | false ↦ λ p. let i = end_within (suc at) (spelled before k s) k s e p in (omega arith, omega arith)
    ] h

pub cut_within_from : (at : ℕ) (s : List Kind) (f e : ℕ) → cut_from at s ≡ Text f e → (f < e) × (e ≤ at + length s)
cut_within_from at [] f e h = cc
cut_within_from at (Newline ∷ s) f e h = let i = cut_within_from (suc at) s f e h in (i.0, omega arith)
cut_within_from at (Layout ∷ s) f e h = let i = cut_within_from (suc at) s f e h in (i.0, omega arith)
cut_within_from at (k ∷ s) f e h =
    piece_within at (end_from at 0 Layout (k ∷ s)) (blank_from 0 (k ∷ s)) (k ∷ s) f e (λ x p. end_within at 0 Layout (k ∷ s) x p) h
  where
    piece_within : (at : ℕ) (o : Option ℕ) (b : Bool) (s : List Kind) (f e : ℕ)
        → ((x : ℕ) → o ≡ Some x → (at < x) × (x ≤ at + length s)) → piece at o b ≡ Text f e → (f < e) × (e ≤ at + length s)
    piece_within at None true s f e g h = cc
    piece_within at None false s f e g h = cc
    piece_within at (Some x) b s f e g h = let p : at ≡ f = cc in let q : x ≡ e = cc in let i = g x refl in (omega arith, omega arith)

pub cut_within : (s : List ℕ) (f e : ℕ) → cut_of s ≡ Text f e → (f < e) × (e ≤ length s)
cut_within s f e h = let i = cut_within_from 0 (map kind_of s) f e h in (i.0, omega (arith, length-map s kind_of))

-- a walk over bytes
pub walked_piece : (w : Walk) (bytes : List ℕ) (s : List Kind)
    → piece_in (fold (λ w b. step_of w (kind_of b)) w bytes) s ≡ piece_in w (map kind_of bytes ++ s)
walked_piece w [] s = refl
walked_piece w (b ∷ bytes) s = walked_piece (step_of w (kind_of b)) bytes s ∙ sym (piece_steps w (kind_of b) (map kind_of bytes ++ s))

pub walked_at : (w : Walk) (bytes : List ℕ) → (fold (λ w b. step_of w (kind_of b)) w bytes).at ≡ w.at + length bytes
walked_at w [] = omega arith
walked_at w (b ∷ bytes) = let i = walked_at (step_of w (kind_of b)) bytes in omega arith

pub walked_push : (bytes : List ℕ) (b : ℕ) → walked (bytes ++ b ∷ []) ≡ step_of (walked bytes) (kind_of b)
walked_push bytes b = fold_push (λ w c. step_of w (kind_of c)) start bytes b

-- behind an end are layout, % or nothing
next_behind : (at e : ℕ) (k : Kind) (s : List Kind) → suc at < e → is_followed (drop (e - suc at) s) ≡ true
    → is_followed (drop (e - at) (k ∷ s)) ≡ true
next_behind at e k s h f = let d : e - at ≡ suc (e - suc at) = omega arith in rw d f

ends_followed : (before k : Kind) (s : List Kind) → ends before k s ≡ true → is_followed s ≡ true
ends_followed Slash Dot s h = cc
ends_followed Star Dot s h = cc
ends_followed Dot Dot s h = cc
ends_followed Backslash Dot s h = cc
ends_followed Sign Dot s h = cc
ends_followed before Dot s h = h
ends_followed before k s h = cc

first_behind : (b : Bool) (o : Option ℕ) (at e : ℕ) (k : Kind) (s : List Kind) → (b ≡ true → is_followed s ≡ true)
    → (o ≡ Some e → (suc at < e) × (is_followed (drop (e - suc at) s) ≡ true)) → cond b (Some (suc at)) o ≡ Some e
    → is_followed (drop (e - at) (k ∷ s)) ≡ true
first_behind true o at e k s f g h = let q : suc at ≡ e = cc in let d : e - at ≡ suc zero = omega arith in rw d (f refl)
first_behind false o at e k s f g h = let i = g h in next_behind at e k s i.0 i.1

end_behind : (at inside : ℕ) (before : Kind) (s : List Kind) (e : ℕ) → end_from at inside before s ≡ Some e
    → is_followed (drop (e - at) s) ≡ true
end_behind at inside before [] e h = cc
end_behind at (suc n) before (k ∷ s) e h = next_behind at e k s (end_within (suc at) n k s e h).0 (end_behind (suc at) n k s e h)
end_behind at zero before (k ∷ s) e h =
    first_behind (ends before k s) (end_from (suc at) (spelled before k s) k s) at e k s (ends_followed before k s)
    (λ p. ((end_within (suc at) (spelled before k s) k s e p).0, end_behind (suc at) (spelled before k s) k s e p)) h

piece_behind : (at : ℕ) (o : Option ℕ) (b : Bool) (s : List Kind) (f e : ℕ)
    → ((x : ℕ) → o ≡ Some x → is_followed (drop (x - at) s) ≡ true) → piece at o b ≡ Text f e → is_followed (drop (e - at) s) ≡ true
piece_behind at None true s f e g h = cc
piece_behind at None false s f e g h = cc
piece_behind at (Some x) b s f e g h = let q : x ≡ e = cc in subst (λ y. is_followed (drop (y - at) s) ≡ true) q (g x refl)

cut_end_above : (at : ℕ) (s : List Kind) (f e : ℕ) → cut_from at s ≡ Text f e → at < e
cut_end_above at [] f e h = cc
cut_end_above at (Newline ∷ s) f e h = let i = cut_end_above (suc at) s f e h in omega arith
cut_end_above at (Layout ∷ s) f e h = let i = cut_end_above (suc at) s f e h in omega arith
cut_end_above at (k ∷ s) f e h =
    piece_above at (end_from at 0 Layout (k ∷ s)) (blank_from 0 (k ∷ s)) f e (λ x p. (end_within at 0 Layout (k ∷ s) x p).0) h
  where
    piece_above : (at : ℕ) (o : Option ℕ) (b : Bool) (f e : ℕ) → ((x : ℕ) → o ≡ Some x → at < x) → piece at o b ≡ Text f e → at < e
    piece_above at None true f e g h = cc
    piece_above at None false f e g h = cc
    piece_above at (Some x) b f e g h = let q : x ≡ e = cc in subst (λ y. at < y) q (g x refl)

cut_behind_from : (at : ℕ) (s : List Kind) (f e : ℕ) → cut_from at s ≡ Text f e → is_followed (drop (e - at) s) ≡ true
cut_behind_from at [] f e h = cc
cut_behind_from at (Newline ∷ s) f e h = next_behind at e Newline s (cut_end_above (suc at) s f e h) (cut_behind_from (suc at) s f e h)
cut_behind_from at (Layout ∷ s) f e h = next_behind at e Layout s (cut_end_above (suc at) s f e h) (cut_behind_from (suc at) s f e h)
cut_behind_from at (k ∷ s) f e h =
    piece_behind at (end_from at 0 Layout (k ∷ s)) (blank_from 0 (k ∷ s)) (k ∷ s) f e (λ x p. end_behind at 0 Layout (k ∷ s) x p) h

drop_kinds : (n : ℕ) (s : List ℕ) → drop n (map kind_of s) ≡ map kind_of (drop n s)
drop_kinds zero s = refl
drop_kinds (suc n) [] = refl
drop_kinds (suc n) (b ∷ s) = drop_kinds n s

followed_gap : (s : List ℕ) → is_followed (map kind_of s) ≡ true → IsBehindGap s
followed_gap [] h = tt
followed_gap (b ∷ s) h = h

pub cut_behind : (s : List ℕ) (f e : ℕ) → cut_of s ≡ Text f e → IsBehindGap (drop e s)
cut_behind s f e h =
    let d : e - 0 ≡ e = omega arith in
    let i : is_followed (drop (e - 0) (map kind_of s)) ≡ true = cut_behind_from 0 (map kind_of s) f e h in
    followed_gap (drop e s)
    (subst (λ k. is_followed k ≡ true) (drop_kinds e s) (subst (λ n. is_followed (drop n (map kind_of s)) ≡ true) d i))

-- the walk after these bytes, and the piece
kinds_nil : (k : List Kind) → k ++ [] ≡ k
kinds_nil [] = refl
kinds_nil (x ∷ k) = ap (λ y. x ∷ y) (kinds_nil k)

pub walk_cut : (p : List ℕ) → piece_in (walked p) [] ≡ cut_of p
walk_cut p = walked_piece start p [] ∙ ap (λ k. cut_from 0 k) (kinds_nil (map kind_of p))

pub walk_more : (p r : List ℕ) → piece_in (walked p) (map kind_of r) ≡ cut_of (p ++ r)
walk_more p r = walked_piece start p (map kind_of r) ∙ ap (λ k. cut_from 0 k) (sym (map-append kind_of p r))

pub walk_length : (p : List ℕ) → (walked p).at ≡ length p
walk_length p = let i = walked_at start p in omega arith

-- a mode is at the end, or not
mode_cases : (m : Mode) → (has_ended m ≡ false) ⊎ ((e : ℕ) × (m ≡ Ended e))
mode_cases (Ended e) = inr (e, refl)
mode_cases m = inl refl

ended_not : (m : Mode) (e : ℕ) → m ≡ Ended e → has_ended m ≡ true
ended_not (Ended x) e h = refl
ended_not m e h = cc

top_ended : (before k : Kind) (e : ℕ) → top_of before k ≡ Ended e → ⊥
top_ended Zero Zero e = λ h. cc
top_ended Word Zero e = λ h. cc
top_ended before Zero e = λ h. cc
top_ended Slash Dot e = λ h. cc
top_ended Star Dot e = λ h. cc
top_ended Dot Dot e = λ h. cc
top_ended Backslash Dot e = λ h. cc
top_ended Sign Dot e = λ h. cc
top_ended before Dot e = λ h. cc
top_ended before k e = λ h. cc

next_ended : (at : ℕ) (m : Mode) (k : Kind) (e : ℕ) → has_ended m ≡ false → next_of at m k ≡ Ended e → at ≡ e
next_ended at Lead Newline e f h = cc
next_ended at Lead Layout e f h = cc
next_ended at Lead k e f h = absurd (top_ended Layout k e h)
next_ended at (Between before) k e f h = absurd (top_ended before k e h)
next_ended at AfterSlash Star e f h = cc
next_ended at AfterSlash k e f h = absurd (top_ended Slash k e h)
next_ended at AfterZero (Quote Single) e f h = cc
next_ended at AfterZero k e f h = absurd (top_ended Zero k e h)
next_ended at AfterDot Newline e f h = cc
next_ended at AfterDot Layout e f h = cc
next_ended at AfterDot Percent e f h = cc
next_ended at AfterDot k e f h = absurd (top_ended Dot k e h)
next_ended at InLine Newline e f h = cc
next_ended at InLine k e f h = cc
next_ended at InBlock Star e f h = cc
next_ended at InBlock k e f h = cc
next_ended at AfterStar Slash e f h = cc
next_ended at AfterStar Star e f h = cc
next_ended at AfterStar k e f h = cc
next_ended at (InQuotes q) Newline e f h = cc
next_ended at (InQuotes q) Backslash e f h = cc
next_ended at (InQuotes Single) (Quote Single) e f h = cc
next_ended at (InQuotes Double) (Quote Double) e f h = cc
next_ended at (InQuotes Single) k e f h = cc
next_ended at (InQuotes Double) k e f h = cc
next_ended at (Escaped q) k e f h = cc
next_ended at InCode Backslash e f h = cc
next_ended at InCode (Quote Single) e f h = cc
next_ended at InCode k e f h = cc
next_ended at CodeEscaped k e f h = cc
next_ended at CodeQuote (Quote Single) e f h = cc
next_ended at CodeQuote k e f h = absurd (top_ended (Quote Single) k e h)
next_ended at (Ended x) k e f h = cc

unended_at : (at from : ℕ) (blank : Bool) (m : Mode) → has_ended m ≡ false → IsUnended (piece_at at from blank m []) at
unended_at at from blank Lead h = tt
unended_at at from true (Between before) h = tt
unended_at at from false (Between before) h = tt
unended_at at from true InLine h = tt
unended_at at from false InLine h = tt
unended_at at from blank AfterDot h = refl
unended_at at from blank (Ended e) h = cc
unended_at at from true m h = tt
unended_at at from false m h = tt

ended_at : (at from : ℕ) (blank : Bool) (m : Mode) (e : ℕ) (s : List Kind) → m ≡ Ended e → piece_at at from blank m s ≡ Text from e
ended_at at from blank m e s h = ap (λ m. piece_at at from blank m s) h

-- an end that was shown stands before the last byte
pub ended_before : (w : Walk) (bytes : List ℕ) → ((x : ℕ) → w.mode ≡ Ended x → x < w.at) → (e : ℕ)
    → (fold (λ w b. step_of w (kind_of b)) w bytes).mode ≡ Ended e → e < (fold (λ w b. step_of w (kind_of b)) w bytes).at
ended_before w [] g e h = g e h
ended_before w (b ∷ bytes) g e h = ended_before (step_of w (kind_of b)) bytes (λ x p. step_before w.at w.mode (kind_of b) x g p) e h
  where
    step_before : (at : ℕ) (m : Mode) (k : Kind) (x : ℕ) → ((x : ℕ) → m ≡ Ended x → x < at) → next_of at m k ≡ Ended x → x < suc at
    step_before at m k x g p = elim (mode_cases m) [
      | inl f ↦ let q = next_ended at m k x f p in omega arith
      | inr y ↦
          let r : next_of at (Ended y.0) k ≡ Ended x = subst (λ m. next_of at m k ≡ Ended x) y.1 p in
          let q : y.0 ≡ x = cc in
          let z = g y.0 y.1 in
          omega arith
    ]

pub ended_length : (p : List ℕ) (e : ℕ) → (walked p).mode ≡ Ended e → e < length p
ended_length p e h = let i = ended_before start p (λ x q. cc) e h in let l = walk_length p in omega arith

pub ended_cut : (p : List ℕ) (e : ℕ) → (walked p).mode ≡ Ended e → cut_of p ≡ Text (walked p).from e
ended_cut p e h = sym (walk_cut p) ∙ ended_at (walked p).at (walked p).from (walked p).blank (walked p).mode e [] h

pub open_mode : (p : List ℕ) → IsOpen p → has_ended (walked p).mode ≡ false
open_mode p o = elim (mode_cases (walked p).mode) [
  | inl f ↦ f
  | inr y ↦
      let i = ended_length p y.0 y.1 in
      let u : IsUnended (Text (walked p).from y.0) (length p) = subst (λ x. IsUnended x (length p)) (ended_cut p y.0 y.1) o in
      let v : y.0 ≡ length p = u in
      absurd (omega arith)
]

pub mode_open : (p : List ℕ) → has_ended (walked p).mode ≡ false → IsOpen p
mode_open p h =
    subst (λ n. IsUnended (cut_of p) n) (walk_length p)
    (subst (λ x. IsUnended x (walked p).at) (walk_cut p)
    (unended_at (walked p).at (walked p).from (walked p).blank (walked p).mode h))

pub followed_is : (x : Piece) (n : ℕ) → EndsBefore x n → (f : ℕ) × ((t : ℕ) × ((x ≡ Text f t) × (suc t ≡ n)))
followed_is (Text f t) n h = (f, (t, (refl, h)))
followed_is NoEnd n h = absurd h
followed_is Empty n h = absurd h

open_not : (x : Piece) (n : ℕ) → IsUnended x n → EndsBefore x n → ⊥
open_not (Text f t) n u h = let p : t ≡ n = u in let q : suc t ≡ n = h in omega arith
open_not NoEnd n u h = h
open_not Empty n u h = h

pub open_followed : (p : List ℕ) → IsOpen p → IsFollowed p → ⊥
open_followed p o f = open_not (cut_of p) (length p) o f

pub push_followed : (p : List ℕ) (b : ℕ) → IsOpen p → has_ended (walked (p ++ b ∷ [])).mode ≡ true → IsFollowed (p ++ b ∷ [])
push_followed p b o h = elim (mode_cases (walked (p ++ b ∷ [])).mode) [
  | inl f ↦ absurd cc
  | inr y ↦
      let n : next_of (walked p).at (walked p).mode (kind_of b) ≡ Ended y.0 = subst (λ w. w.mode ≡ Ended y.0) (walked_push p b) y.1 in
      let q : (walked p).at ≡ y.0 = next_ended (walked p).at (walked p).mode (kind_of b) y.0 (open_mode p o) n in
      let l = walk_length p in
      let z : length (p ++ b ∷ []) ≡ suc (length p) = omega (arith, length-append p (b ∷ [])) in
      let e : suc y.0 ≡ length (p ++ b ∷ []) = omega arith in
      subst (λ x. EndsBefore x (length (p ++ b ∷ []))) (sym (ended_cut (p ++ b ∷ []) y.0 y.1)) e
]

-- more bytes change nothing of a text with a byte behind its end
pub cut_any_more : (p r : List ℕ) (f t : ℕ) → cut_of p ≡ Text f t → t < length p → cut_of (p ++ r) ≡ Text f t
cut_any_more p r f t h l = elim (mode_cases (walked p).mode) [
  | inl m ↦
      let u : IsUnended (Text f t) (length p) = subst (λ x. IsUnended x (length p)) h (mode_open p m) in
      let v : t ≡ length p = u in
      absurd (omega arith)
  | inr y ↦
      sym (walk_more p r)
      ∙ ended_at (walked p).at (walked p).from (walked p).blank (walked p).mode y.0 (map kind_of r) y.1
      ∙ sym (ended_cut p y.0 y.1)
      ∙ h
]

pub cut_more : (p r : List ℕ) → IsFollowed p → cut_of (p ++ r) ≡ cut_of p
cut_more p r h = let i = followed_is (cut_of p) (length p) h in cut_any_more p r i.0 i.1.0 i.1.1.0 (omega (arith, i.1.1.1)) ∙ sym i.1.1.0

pub text_more : (p r : List ℕ) → IsFollowed p → text_in (cut_of p) (p ++ r) ≡ text_in (cut_of p) p
text_more p r h =
    let i = followed_is (cut_of p) (length p) h in
    let w = cut_within p i.0 i.1.0 i.1.1.0 in
    let g = range_more p r i.0 i.1.0 w.0 w.1 in
    subst (λ x. text_in x (p ++ r) ≡ text_in x p) (sym i.1.1.0) g
  where
    range_more : (p r : List ℕ) (f t : ℕ) → f < t → t ≤ length p → slice_range (p ++ r) f t ≡ slice_range p f t
    range_more p r f t h l =
        let le : f ≤ length p = omega arith in
        let le2 : t - f ≤ length (drop f p) = omega (arith, length-drop f p) in
        ap (take (t - f)) (drop-append-le f p r le) ∙ take-append-le (t - f) (drop f p) r le2

behind_layout_more : (s r : List ℕ) → 0 < length s → behind_layout (s ++ r) ≡ behind_layout s ++ r
behind_layout_more [] r h = absurd (omega arith)
behind_layout_more (b ∷ s) r h = elim (is_layout b) as (λ c. cond c (s ++ r) (b ∷ s ++ r) ≡ cond c s (b ∷ s) ++ r) [
  | true ↦ refl
  | false ↦ refl
]

pub rest_more : (p r : List ℕ) → IsFollowed p → rest_in (cut_of p) (p ++ r) ≡ rest_in (cut_of p) p ++ r
rest_more p r h =
    let i = followed_is (cut_of p) (length p) h in
    let w = cut_within p i.0 i.1.0 i.1.1.0 in
    let l : 0 < length (drop i.1.0 p) = omega (arith, i.1.1.1, length-drop i.1.0 p) in
    let g = ap behind_layout (drop-append-le i.1.0 p r w.1) ∙ behind_layout_more (drop i.1.0 p) r l in
    subst (λ x. rest_in x (p ++ r) ≡ rest_in x p ++ r) (sym i.1.1.0) g

-- behind the end of a text that is followed stands the byte that showed it
drop_end : (p : List ℕ) (b n : ℕ) (h : IsFollowed p) → suc n ≡ length p → b ≡ get_or p n b
    → drop (followed_is (cut_of p) (length p) h).1.0 p ≡ b ∷ []
drop_end p b n h l g =
    let i = followed_is (cut_of p) (length p) h in
    let q : n ≡ i.1.0 = omega (arith, i.1.1.1) in
    subst (λ n. drop n p ≡ b ∷ []) q (drop_last p b n l g)
  where
    drop_last : (p : List ℕ) (b n : ℕ) → suc n ≡ length p → b ≡ get_or p n b → drop n p ≡ b ∷ []
    drop_last [] b n l g = cc
    drop_last (x ∷ []) b zero l g = ap (λ y. y ∷ []) (sym g)
    drop_last (x ∷ y ∷ p) b zero l g = absurd (omega arith)
    drop_last (x ∷ p) b (suc n) l g = drop_last p b n (omega arith) g

pub rest_last : (p : List ℕ) (b n : ℕ) → IsFollowed p → suc n ≡ length p → b ≡ get_or p n b → rest_in (cut_of p) p ≡ behind_layout (b ∷ [])
rest_last p b n h l g =
    let i = followed_is (cut_of p) (length p) h in
    subst (λ x. rest_in x p ≡ behind_layout (b ∷ [])) (sym i.1.1.0) (ap behind_layout (drop_end p b n h l g))

-- that byte is layout or %
pub last_gap : (p : List ℕ) (b n : ℕ) → IsFollowed p → suc n ≡ length p → b ≡ get_or p n b → is_gap (kind_of b) ≡ true
last_gap p b n h l g =
    let i = followed_is (cut_of p) (length p) h in
    subst (λ s. IsBehindGap s) (drop_end p b n h l g) (cut_behind p i.0 i.1.0 i.1.1.0)

-- what is left of it has no end
gap_open : (b : ℕ) → is_gap (kind_of b) ≡ true → IsOpen (behind_layout (b ∷ []))
gap_open b h = elim (is_layout b) as (λ c. IsOpen (cond c [] (b ∷ []))) [
  | true ↦ tt
  | false ↦ kind_open (kind_of b) h
]
  where
    kind_open : (k : Kind) → is_gap k ≡ true → IsUnended (cut_from 0 (k ∷ [])) 1
    kind_open Newline h = tt
    kind_open Layout h = tt
    kind_open Percent h = tt
    kind_open k h = cc

-- so what is left behind a text that is followed has no end
pub rest_open : (p : List ℕ) (b n : ℕ) → IsFollowed p → suc n ≡ length p → b ≡ get_or p n b → IsOpen (rest_in (cut_of p) p)
rest_open p b n h l g = subst IsOpen (sym (rest_last p b n h l g)) (gap_open b (last_gap p b n h l g))

-- what a push says
pub push_says : (p : List ℕ) (b : ℕ) (r : Bool) → IsOpen p → r ≡ has_ended (walked (p ++ b ∷ [])).mode
    → (IsTrue r ↔ IsFollowed (p ++ b ∷ [])) × OnFalse r (IsOpen (p ++ b ∷ []))
push_says p b true o h = ((λ t. push_followed p b o (sym h), λ f. refl), tt)
push_says p b false o h = let g = mode_open (p ++ b ∷ []) (sym h) in ((λ t. absurd cc, λ f. absurd (open_followed (p ++ b ∷ []) g f)), g)

-- the piece of a walk without a further byte
pub piece_is : (w : Walk) (p : List ℕ) (x : Piece) → w ≡ walked p → x ≡ piece_in w [] → cut_of p ≡ x
piece_is w p x h e = sym (walk_cut p) ∙ ap (λ v. piece_in v []) (sym h) ∙ sym e

-- a byte in front alone
pub take_set : (p : List ℕ) (b : ℕ) → 0 < length p → take 1 (set p 0 b) ≡ b ∷ []
take_set [] b h = absurd (omega arith)
take_set (x ∷ p) b h = refl

pub followed_some : (p : List ℕ) → IsFollowed p → 0 < length p
followed_some p h = let i = followed_is (cut_of p) (length p) h in omega (arith, i.1.1.1)

pub text_is : (x : Piece) → IsText x → (f : ℕ) × ((t : ℕ) × (x ≡ Text f t))
text_is (Text f t) h = (f, (t, refl))
text_is NoEnd h = absurd h
text_is Empty h = absurd h

-- once the walk is at the end, no byte changes the piece
pub ended_piece : (w : Walk) (s : List Kind) → has_ended w.mode ≡ true → piece_in w [] ≡ piece_in w s
ended_piece w s h = elim (mode_cases w.mode) [
  | inl f ↦ absurd cc
  | inr y ↦ ended_at w.at w.from w.blank w.mode y.0 [] y.1 ∙ sym (ended_at w.at w.from w.blank w.mode y.0 s y.1)
]

-- a step over the bytes at an index
pub step_drop : (w : Walk) (s : List ℕ) (i : ℕ) (d : ℕ) → i < length s
    → piece_in (step_of w (kind_of (get_or s i d))) (map kind_of (drop (i + 1) s)) ≡ piece_in w (map kind_of (drop i s))
step_drop w s i d h = rw (add-one i, drop-cons s i d h) (sym (piece_steps w (kind_of (get_or s i d)) (map kind_of (drop (suc i) s))))

-- the texts of a whole byte list, from the one that has been followed
texts_at : (n : ℕ) (s : List ℕ) (x : Piece) → cut_of s ≡ x
    → texts (suc n) s ≡ (if is_text x then text_in x s ∷ texts n (rest_in x s) else [])
texts_at n s x h = ap (λ y. if is_text y then text_in y s ∷ texts n (rest_in y s) else []) h

behind_at : (n : ℕ) (s : List ℕ) (x : Piece) → cut_of s ≡ x
    → behind_texts (suc n) s ≡ (if is_text x then behind_texts n (rest_in x s) else s)
behind_at n s x h = ap (λ y. if is_text y then behind_texts n (rest_in y s) else s) h

followed_text : (p : List ℕ) → IsFollowed p → is_text (cut_of p) ≡ true
followed_text p h = let i = followed_is (cut_of p) (length p) h in ap is_text i.1.1.0

pub texts_more : (n : ℕ) (p r : List ℕ) → IsFollowed p → texts (suc n) (p ++ r) ≡ text_in (cut_of p) p ∷ texts n (rest_in (cut_of p) p ++ r)
texts_more n p r h =
    texts_at n (p ++ r) (cut_of p) (cut_more p r h)
    ∙ ap (λ b. if b then text_in (cut_of p) (p ++ r) ∷ texts n (rest_in (cut_of p) (p ++ r)) else []) (followed_text p h)
    ∙ ap (λ t. t ∷ texts n (rest_in (cut_of p) (p ++ r))) (text_more p r h)
    ∙ ap (λ s. text_in (cut_of p) p ∷ texts n s) (rest_more p r h)

pub behind_more : (n : ℕ) (p r : List ℕ) → IsFollowed p → behind_texts (suc n) (p ++ r) ≡ behind_texts n (rest_in (cut_of p) p ++ r)
behind_more n p r h =
    behind_at n (p ++ r) (cut_of p) (cut_more p r h)
    ∙ ap (λ b. if b then behind_texts n (rest_in (cut_of p) (p ++ r)) else p ++ r) (followed_text p h)
    ∙ ap (behind_texts n) (rest_more p r h)

-- leading layout is skipped
end_moved : (at inside : ℕ) (before : Kind) (s : List Kind)
    → end_from (suc at) inside before s ≡ option_map suc (end_from at inside before s)
end_moved at inside before [] = refl
end_moved at (suc n) before (k ∷ s) = end_moved (suc at) n k s
end_moved at zero before (k ∷ s) =
    both_ends (ends before k s) (end_from (suc (suc at)) (spelled before k s) k s) (end_from (suc at) (spelled before k s) k s)
    (end_moved (suc at) (spelled before k s) k s)
  where
    both_ends : (b : Bool) (o p : Option ℕ) → o ≡ option_map suc p
        → cond b (Some (suc (suc at))) o ≡ option_map suc (cond b (Some (suc at)) p)
    both_ends true o p e = refl
    both_ends false o p e = e

piece_moved : (at : ℕ) (o : Option ℕ) (b : Bool) → piece (suc at) (option_map suc o) b ≡ moved (piece at o b)
piece_moved at None true = refl
piece_moved at None false = refl
piece_moved at (Some x) b = refl

cut_from_moved : (at : ℕ) (s : List Kind) → cut_from (suc at) s ≡ moved (cut_from at s)
cut_from_moved at [] = refl
cut_from_moved at (Newline ∷ s) = cut_from_moved (suc at) s
cut_from_moved at (Layout ∷ s) = cut_from_moved (suc at) s
cut_from_moved at (k ∷ s) =
    ap (λ o. piece (suc at) o (blank_from 0 (k ∷ s))) (end_moved at 0 Layout (k ∷ s))
    ∙ piece_moved at (end_from at 0 Layout (k ∷ s)) (blank_from 0 (k ∷ s))

pub cut_newline : (b : ℕ) (s : List ℕ) → kind_of b ≡ Newline → cut_of (b ∷ s) ≡ moved (cut_of s)
cut_newline b s h = ap (λ k. cut_from 0 (k ∷ map kind_of s)) h ∙ cut_from_moved 0 (map kind_of s)

pub cut_layout : (b : ℕ) (s : List ℕ) → kind_of b ≡ Layout → cut_of (b ∷ s) ≡ moved (cut_of s)
cut_layout b s h = ap (λ k. cut_from 0 (k ∷ map kind_of s)) h ∙ cut_from_moved 0 (map kind_of s)

pub followed_is_text : (p : List ℕ) → IsFollowed p → IsText (cut_of p)
followed_is_text p h =
    let i = followed_is (cut_of p) (length p) h in
    let t : IsText (Text i.0 i.1.0) = tt in
    subst IsText (sym i.1.1.0) t
