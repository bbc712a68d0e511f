-- A text is made up of its tokens, with layout and comments between them.
use Rattle.std.proofs.Common.{◌≡◌, ℕ, zero, suc, ◌+◌, ◌-◌, ◌<◌, ◌≤◌, Bool, true, false, ◌&&◌, List, [], ◌∷◌, None, length, take, drop}
use Rattle.std.proofs.Common.{get_or, refl, ap, sym, ◌∙◌, subst, cond, arith, inl, inr}
use Rattle.std.specs.Prelude.{◌==◌, slice_range}
use Rattle.std.proofs.lemmas.Bool.{cases_lt, ne_eqb, eq-eqb, and_right}
use Rattle.op_token.specs.declared.spelling.Spelling.{Spelling}
use Rattle.op_token.specs.declared.spelling.Spelling.TheVariants.{Gap, Whole, Fault}
use Rattle.op_token.specs.Spelling.{begins, EndsBy}
use Rattle.op_token.specs.Tokens.{Lexed, is_minus, lex}
use Rattle.op_token.specs.MadeUp.{Gaps, none, further, MadeUp}
use Rattle.op_token.specs.SpellingFaults.{IsGap}
use Rattle.op_token.proofs.ListRests.{drop_one, drop_all}
use Rattle.op_token.proofs.SpellingEnds.{gap_ends}
use Rattle.op_token.proofs.LexedSpellings.{drop_behind, ends_front, lex_gap, lex_whole, lex_fault}
use Rattle.op_token.proofs.FaultSoundness.{gap_found}

abbrev pub Made : List ℕ → ℕ → Bool → Lexed → Type 0
Made text at minus l = MadeUp text at minus l.tokens l.fault

-- a flag of layout since a place
abbrev pub Since : ℕ → ℕ → Bool → Type 0
Since from at l = (l ≡ true → from < at) × (l ≡ false → from ≡ at)

-- what is passed over at a place
gap_here : (text : List ℕ) (at : ℕ) (m : Bool) (k : ℕ) → at < length text → begins at m (drop at text) ≡ Gap k
    → IsGap (slice_range text at k) (drop k text)
gap_here text at m k i p =
    let b = get_or text at 0 in
    let s = drop (at + 1) text in
    let d : drop at text ≡ b ∷ s = drop_one text at i in
    let q : begins at m (b ∷ s) ≡ Gap k = ap (begins at m) (sym d) ∙ p in
    let w : IsGap (take (k - at) (b ∷ s)) (drop (k - at) (b ∷ s)) = gap_found at m b s k q in
    let l : at < k = (gap_ends at m b s k q).0 in
    let e : at + (k - at) ≡ k = omega arith in
    subst (IsGap (slice_range text at k)) (drop_behind at (k - at) text ∙ ap (λ n. drop n text) e)
    (subst (λ t. IsGap (take (k - at) t) (drop (k - at) t)) (sym d) w)

-- the name - stands directly before a place where no gap is between
directly : (from at : ℕ) (before l : Bool) → Since from at l → cond l false before ≡ (before && from == at)
directly from at before true s =
    sym (and_right before (from == at) (ne_eqb from at (λ e. let p : from < at = s.0 refl in omega arith)))
directly from at before false s = kept before (from == at) (eq-eqb from at (s.1 refl))
  where
    kept : (a b : Bool) → b ≡ true → a ≡ (a && b)
    kept true b h = sym h
    kept false b h = refl

at_end : (text : List ℕ) (at : ℕ) (l m : Bool) → at ≡ length text → lex at 0 l m (drop at text) ≡ record { tokens = []; fault = None }
at_end text at l m e = ap (λ n. lex at 0 l m (drop n text)) e ∙ ap (lex at 0 l m) (drop_all text)

module _ (text : List ℕ) (from at : ℕ) (before l m : Bool) (i : at < length text) (g : Gaps text from at) (s : Since from at l)
    (e : m ≡ cond l false before)
    (gap : (k : ℕ) → at + 1 ≤ k → k ≤ length text → Gaps text from k → Made text from before (lex k 0 true false (drop k text)))
    (whole : (k : ℕ) (n : Bool) → at + 1 ≤ k → k ≤ length text → Made text k n (lex k 0 false n (drop k text))) where
  made_step : (x : Spelling) → begins at m (drop at text) ≡ x → EndsBy (at + 1) (length text) x
      → Made text from before (lex at 0 l m (drop at text))
  made_step (Gap k) p b =
      subst (Made text from before) (sym (lex_gap text at l m i k p))
      (gap k b.0 b.1 (further g (omega (arith, b.0)) b.1 (gap_here text at m k i p)))
  made_step (Whole kind k) p b =
      subst (Made text from before) (sym (lex_whole text at l m i kind k p)) (
        g,
        s,
        subst (λ n. begins at n (drop at text) ≡ Whole kind k) e p,
        (omega (arith, b.0), b.1),
        whole k (is_minus kind (get_or text at 0) (k - at)) b.0 b.1,
      )
  made_step (Fault f) p b =
      subst (Made text from before) (sym (lex_fault text at l m i f p))
      (at, (g, subst (λ n. begins at n (drop at text) ≡ Fault f) (e ∙ directly from at before l s) p))

pub made_up : (f : ℕ) (text : List ℕ) (from at : ℕ) (before l m : Bool) → length text ≤ at + f → at ≤ length text → Gaps text from at
    → from ≤ at → Since from at l → m ≡ cond l false before → Made text from before (lex at 0 l m (drop at text))
made_up zero text from at before l m h w g o s e =
    let q : at ≡ length text = omega arith in
    subst (Made text from before) (sym (at_end text at l m q)) (subst (Gaps text from) q g)
made_up (suc f) text from at before l m h w g o s e = elim (cases_lt at (length text)) [
  | inr n ↦
      let q : at ≡ length text = omega arith in
      subst (Made text from before) (sym (at_end text at l m q)) (subst (Gaps text from) q g)
  | inl i ↦
      made_step text from at before l m i g s e
      (λ k a b h2. made_up f text from k before true false (omega arith) b h2 (omega arith) ((λ t. omega arith), (λ t. cc)) refl)
      (λ k n a b. made_up f text k k n false n (omega arith) b none (omega arith) ((λ t. cc), (λ t. refl)) refl)
      (begins at m (drop at text)) refl (ends_front text at m i)
]

pub text_made_up : (text : List ℕ) → Made text 0 false (lex 0 0 false false text)
text_made_up text =
    made_up (length text) text 0 0 false false false (omega arith) (omega arith) none (omega arith) ((λ t. cc), (λ t. refl)) refl
