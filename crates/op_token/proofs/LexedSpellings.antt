-- A spelling further in a text.
use Rattle.std.proofs.Common.{◌≡◌, ℕ, zero, suc, ◌+◌, ◌-◌, ◌<◌, ◌≤◌, Bool, true, false, List, [], ◌∷◌, Some, length, drop, get_or}
use Rattle.std.proofs.Common.{refl, ap, sym, ◌∙◌, subst, arith, length-drop}
use Rattle.op_token.specs.declared.token.TokenKind.{TokenKind}
use Rattle.op_token.specs.declared.token.TokenFault.{TokenFault}
use Rattle.op_token.specs.declared.spelling.Spelling.TheVariants.{Gap, Whole, Fault}
use Rattle.op_token.specs.Spelling.{begins, EndsBy}
use Rattle.op_token.specs.Tokens.{push, is_minus, on_spelling, lex}
use Rattle.op_token.proofs.ListRests.{drop_one}
use Rattle.op_token.proofs.SpellingEnds.{begins_ends}

-- the bytes of a spelling that has begun are passed
pub lex_inside : (at n : ℕ) (l m : Bool) (s : List ℕ) → n ≤ length s → lex at n l m s ≡ lex (at + n) 0 l m (drop n s)
lex_inside at zero l m s h = let e : at + 0 ≡ at = omega arith in rw e refl
lex_inside at (suc n) l m [] h = absurd (omega arith)
lex_inside at (suc n) l m (b ∷ s) h =
    let e : at + suc n ≡ suc at + n = omega arith in
    rw e (lex_inside (suc at) n l m s (omega arith))

pub drop_behind : (i n : ℕ) (s : List ℕ) → drop n (drop i s) ≡ drop (i + n) s
drop_behind zero n s = let e : 0 + n ≡ n = omega arith in rw e refl
drop_behind (suc i) n [] = nil n
  where
    nil : (n : ℕ) → drop {A = ℕ} n [] ≡ drop {A = ℕ} (suc i + n) []
    nil zero = let e : suc i + 0 ≡ suc i = omega arith in rw e refl
    nil (suc n) = let e : suc i + suc n ≡ suc (i + suc n) = omega arith in rw e refl
drop_behind (suc i) n (b ∷ s) = let e : suc i + n ≡ suc (i + n) = omega arith in rw e (drop_behind i n s)

pub lex_to : (text : List ℕ) (at end : ℕ) (l m : Bool) → at + 1 ≤ end → end ≤ length text
    → lex (suc at) (end - suc at) l m (drop (at + 1) text) ≡ lex end 0 l m (drop end text)
lex_to text at end l m p q =
    let d : length (drop (at + 1) text) ≡ length text - (at + 1) = length-drop (at + 1) text in
    let w : end - suc at ≤ length (drop (at + 1) text) = omega arith in
    let e : suc at + (end - suc at) ≡ end = omega arith in
    let f : at + 1 + (end - suc at) ≡ end = omega arith in
    lex_inside (suc at) (end - suc at) l m (drop (at + 1) text) w
    ∙ ap (λ a. lex a 0 l m (drop (end - suc at) (drop (at + 1) text))) e
    ∙ ap (λ s. lex end 0 l m s) (drop_behind (at + 1) (end - suc at) text ∙ ap (λ n. drop n text) f)

pub lex_front : (text : List ℕ) (at : ℕ) (l m : Bool) → at < length text
    → lex at 0 l m (drop at text) ≡ lex at 0 l m (get_or text at 0 ∷ drop (at + 1) text)
lex_front text at l m h = ap (λ s. lex at 0 l m s) (drop_one text at h)

pub begins_front : (text : List ℕ) (at : ℕ) (m : Bool) → at < length text
    → begins at m (drop at text) ≡ begins at m (get_or text at 0 ∷ drop (at + 1) text)
begins_front text at m h = ap (λ s. begins at m s) (drop_one text at h)

pub ends_front : (text : List ℕ) (at : ℕ) (m : Bool) → at < length text → EndsBy (at + 1) (length text) (begins at m (drop at text))
ends_front text at m h =
    let d = length-drop (at + 1) text in
    let e : at + suc (length (drop (at + 1) text)) ≡ length text = omega arith in
    subst (EndsBy (at + 1) (length text)) (sym (begins_front text at m h))
    (subst (λ n. EndsBy (at + 1) n (begins at m (get_or text at 0 ∷ drop (at + 1) text))) e
    (begins_ends at m (get_or text at 0) (drop (at + 1) text)))

-- the steps of a scanner
module _ (text : List ℕ) (at : ℕ) (l m : Bool) (h : at < length text) where
  pub lex_gap : (end : ℕ) → begins at m (drop at text) ≡ Gap end → lex at 0 l m (drop at text) ≡ lex end 0 true false (drop end text)
  lex_gap end e =
      let w : EndsBy (at + 1) (length text) (Gap end) = subst (EndsBy (at + 1) (length text)) e (ends_front text at m h) in
      lex_front text at l m h
      ∙ ap (λ x.
      on_spelling x (λ end. lex (suc at) (end - suc at) true false (drop (at + 1) text))
      (λ kind end.
      push (record { kind = kind; from = at; to = end; layout_before = l })
      (lex (suc at) (end - suc at) false (is_minus kind (get_or text at 0) (end - at)) (drop (at + 1) text))))
      (sym (begins_front text at m h) ∙ e)
      ∙ lex_to text at end true false w.0 w.1

  pub lex_whole : (kind : TokenKind) (end : ℕ) → begins at m (drop at text) ≡ Whole kind end
      → lex at 0 l m (drop at text)
      ≡ push (record { kind = kind; from = at; to = end; layout_before = l })
      (lex end 0 false (is_minus kind (get_or text at 0) (end - at)) (drop end text))
  lex_whole kind end e =
      let w : EndsBy (at + 1) (length text) (Whole kind end) = subst (EndsBy (at + 1) (length text)) e (ends_front text at m h) in
      lex_front text at l m h
      ∙ ap (λ x.
      on_spelling x (λ end. lex (suc at) (end - suc at) true false (drop (at + 1) text))
      (λ kind end.
      push (record { kind = kind; from = at; to = end; layout_before = l })
      (lex (suc at) (end - suc at) false (is_minus kind (get_or text at 0) (end - at)) (drop (at + 1) text))))
      (sym (begins_front text at m h) ∙ e)
      ∙ ap (push (record { kind = kind; from = at; to = end; layout_before = l }))
      (lex_to text at end false (is_minus kind (get_or text at 0) (end - at)) w.0 w.1)

  pub lex_fault : (f : TokenFault) → begins at m (drop at text) ≡ Fault f
      → lex at 0 l m (drop at text) ≡ record { tokens = []; fault = Some f }
  lex_fault f e =
      lex_front text at l m h
      ∙ ap (λ x.
      on_spelling x (λ end. lex (suc at) (end - suc at) true false (drop (at + 1) text))
      (λ kind end.
      push (record { kind = kind; from = at; to = end; layout_before = l })
      (lex (suc at) (end - suc at) false (is_minus kind (get_or text at 0) (end - at)) (drop (at + 1) text))))
      (sym (begins_front text at m h) ∙ e)
