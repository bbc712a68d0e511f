-- The names of the tokens of a written text.
use Rattle.std.proofs.Common.{◌≡◌, ◌<◌, ◌-◌, ◌+◌, ℕ, suc, pos, negsuc, Bool, true, false, not, ◌&&◌, ◌==◌, List, [], ◌∷◌, ◌++◌, map, Some}
use Rattle.std.proofs.Common.{length, take, drop, get_or, refl, sym, ◌∙◌, ap, subst, arith, length-append}
use Rattle.std.specs.Prelude.{codes, slice_index, slice_range, decimal}
use Rattle.std.specs.Str.{bytes_eq, IsUtf8}
use Rattle.std.proofs.Math.Seq.{take-append_seam, drop-append_seam, drop-append-add}
use Rattle.std.proofs.lemmas.List.{append_assoc, get_or-append-add}
use Rattle.std.proofs.lemmas.Bool.{eqb-true}
use Rattle.op_logic.proofs.BoolCases.{by_test, if_true, if_false}
use Rattle.op_token.specs.declared.token.TokenKind.{TokenKind}
use Rattle.op_token.specs.declared.token.TokenKind.TheVariants.{Name, QuotedName, Integer, OpenRound, CloseRound, OpenSquare, CloseSquare}
use Rattle.op_token.specs.declared.token.TokenKind.TheVariants.{OpenCurly, CloseCurly, Comma, Bar}
use Rattle.op_token.specs.Set.{begins_with}
use Rattle.op_token.specs.Tokens.{text_from}
use Rattle.op_writer.specs.declared.edge.Edge.{Edge}
use Rattle.op_writer.specs.declared.edge.Edge.TheVariants.{Other}
use Rattle.op_writer.specs.Spelling.{is_unquoted, quoted}
use Rattle.op_writer.specs.Fragments.{is_apart, set_apart, spaced, edge_behind}
use Rattle.op_readback.proofs.Lexemes.{Lexeme, sign, name, prefix_name, number, lexeme_fragment}
use Rattle.op_readback.proofs.NameSpellings.{quoted-text}
use Rattle.op_readback.proofs.LexemeTexts.{lexeme_text, IsLexeme, is_risky, IsClean, is_sign, by-sign, unquoted-text, quoted-name-text}
use Rattle.op_readback.proofs.LexemeTexts.{begun}
use Rattle.op_readback.proofs.LexemeTokens.{Known, tok, sign_kind, name_tokens, lexeme_tokens, is_space, gap, tokens, AreLexemes, ended}
use Rattle.op_readback.proofs.LexemeTokens.{behind, set-apart-is, space-apart}
use Rattle.op_readback.proofs.KnownWords.{IsKnown, AreKnown, is_name, OfKind}

known-append : (text : List ℕ) (ks js : List Known) → AreKnown text ks → AreKnown text js → AreKnown text (ks ++ js)
known-append text [] js h g = g
known-append text (k ∷ ks) js h g = (h.0, known-append text ks js h.1 g)

-- a text that has some bytes at a place
module _ (text pre : List ℕ) where
  abbrev At : List ℕ → Type 0
  At x = text ≡ pre ++ x

  first-at : (b : ℕ) (bs : List ℕ) → At (b ∷ bs) → slice_index text (length pre) ≡ b
  first-at b bs h =
      ap (λ (t : List ℕ). get_or t (length pre) 0) h
      ∙ (ap (λ (n : ℕ). get_or (pre ++ b ∷ bs) n 0) (let q : length pre ≡ length pre + 0 = omega arith in q)
      ∙ get_or-append-add pre (b ∷ bs) 0 0)

  range-at : (f rest : List ℕ) → At (f ++ rest) → slice_range text (length pre) (length pre + length f) ≡ f
  range-at f rest h =
      ap (λ (n : ℕ). take n (drop (length pre) text)) (let q : length pre + length f - length pre ≡ length f = omega arith in q)
      ∙ (ap (λ (t : List ℕ). take (length f) (drop (length pre) t)) h
      ∙ (ap (take (length f)) (drop-append_seam pre (f ++ rest)) ∙ take-append_seam f rest))

  minus-is : (b : ℕ) (bs : List ℕ) → (b == 45 && suc (length bs) == 1) ≡ bytes_eq (b ∷ bs) (codes "-")
  minus-is b [] = refl
  minus-is b (c ∷ bs) = by_test (suc (length (c ∷ bs)) == 1)
      (λ e. absurd (let q = eqb-true (suc (length (c ∷ bs))) 1 e in let z : length (c ∷ bs)
      ≡ suc (length bs) = refl in omega (arith, q, z)))
      (λ e. ap (λ (x : Bool). b == 45 && x) e)

  known-name : (b : ℕ) (bs rest : List ℕ) (l : Bool) → At ((b ∷ bs) ++ rest)
      → IsKnown text (tok Name (length pre) (length pre + length (b ∷ bs)) l, b ∷ bs)
  known-name b bs rest l h = record {
    kind = tt;
    named = λ _. ap (λ (x : List ℕ). Some x) (range-at (b ∷ bs) rest h);
    minus =
        ap (λ (x : ℕ). x == 45 && length pre + length (b ∷ bs) - length pre == 1) (first-at b (bs ++ rest) h)
        ∙ (ap (λ (n : ℕ). b == 45 && n == 1) (let z : length (b ∷ bs) ≡ suc (length bs) = refl in let q : length pre + length
        (b ∷ bs) - length pre ≡ suc (length bs) = omega (arith, z) in q) ∙ minus-is b bs);
  }

  known-some : (f rest : List ℕ) (l : Bool) → 0 < length f → At (f ++ rest)
      → IsKnown text (tok Name (length pre) (length pre + length f) l, f)
  known-some [] rest l some h = absurd (omega (arith, some))
  known-some (b ∷ bs) rest l some h = known-name b bs rest l h

  known-quoted : (f rest : List ℕ) (l : Bool) → IsUtf8 f → begins_with 39 rest ≡ false → At (quoted f ++ rest)
      → IsKnown text (tok QuotedName (length pre) (length pre + length (quoted f)) l, f)
  known-quoted f rest l u stop h = record {
    kind = tt;
    named = λ _. ap (λ (x : List ℕ). Some x)
        (ap (λ (q : ℕ). text_from q 0 (drop (length pre + 1) text)) (first-at 39 _ h)
        ∙ (ap (λ (t : List ℕ). text_from 39 0 (drop (length pre + 1) t)) h
        ∙ (ap (text_from 39 0) (drop-append-add pre (quoted f ++ rest) 1) ∙ quoted-text f rest u stop)));
    minus = refl;
  }

  known-token : (kind : TokenKind) (to : ℕ) (l : Bool) → OfKind kind → is_name kind ≡ false → (from : ℕ)
      → IsKnown text (tok kind from to l, [])
  known-token OpenRound to l o n from = record { kind = o; named = λ y. absurd (let z : false ≡ true = y in cc); minus = refl }
  known-token CloseRound to l o n from = record { kind = o; named = λ y. absurd (let z : false ≡ true = y in cc); minus = refl }
  known-token OpenSquare to l o n from = record { kind = o; named = λ y. absurd (let z : false ≡ true = y in cc); minus = refl }
  known-token CloseSquare to l o n from = record { kind = o; named = λ y. absurd (let z : false ≡ true = y in cc); minus = refl }
  known-token OpenCurly to l o n from = record { kind = o; named = λ y. absurd (let z : false ≡ true = y in cc); minus = refl }
  known-token CloseCurly to l o n from = record { kind = o; named = λ y. absurd (let z : false ≡ true = y in cc); minus = refl }
  known-token Comma to l o n from = record { kind = o; named = λ y. absurd (let z : false ≡ true = y in cc); minus = refl }
  known-token Bar to l o n from = record { kind = o; named = λ y. absurd (let z : false ≡ true = y in cc); minus = refl }
  known-token (Integer m) to l o n from = record { kind = o; named = λ y. absurd (let z : false ≡ true = y in cc); minus = refl }
  known-token Name to l o n from = absurd (let z : true ≡ false = n in cc)
  known-token QuotedName to l o n from = absurd (let z : true ≡ false = n in cc)
  known-token kind to l o n from = absurd o

  sign-known : (b : ℕ) → is_sign b ≡ true → (from to : ℕ) (l : Bool) → IsKnown text (tok (sign_kind b) from to l, [])
  sign-known = by-sign (λ b. (from to : ℕ) (l : Bool) → IsKnown text (tok (sign_kind b) from to l, []))
      (λ from to l. known-token Bar to l tt refl from) (λ from to l. known-token OpenRound to l tt refl from)
      (λ from to l. known-token CloseRound to l tt refl from) (λ from to l. known-token OpenSquare to l tt refl from)
      (λ from to l. known-token CloseSquare to l tt refl from) (λ from to l. known-token OpenCurly to l tt refl from)
      (λ from to l. known-token CloseCurly to l tt refl from) (λ from to l. known-token Comma to l tt refl from)
      (λ from to l. known-token Bar to l tt refl from)

  name-known : (f rest : List ℕ) (l : Bool) → IsUtf8 f → At (lexeme_text (name f) ++ rest)
      → (is_risky (name f) ≡ true → begins_with 39 rest ≡ false) → AreKnown text (name_tokens f (length pre) l)
  name-known f rest l u h stop = by_test (bytes_eq f (codes "[]"))
      (λ e. subst (AreKnown text) (sym (if_true (bytes_eq f (codes "[]")) _ _ e)) (
        known-token OpenSquare (length pre + 1) l tt refl (length pre),
        (known-token CloseSquare (length pre + 2) false tt refl (length pre + 1), tt),
      ))
      (λ e. subst (AreKnown text) (sym (if_false (bytes_eq f (codes "[]")) _ _ e)) (by_test (bytes_eq f (codes "{}"))
      (λ d. subst (AreKnown text) (sym (if_true (bytes_eq f (codes "{}")) _ _ d)) (
        known-token OpenCurly (length pre + 1) l tt refl (length pre),
        (known-token CloseCurly (length pre + 2) false tt refl (length pre + 1), tt),
      ))
      (λ d. subst (AreKnown text) (sym (if_false (bytes_eq f (codes "{}")) _ _ d)) (by_test (is_unquoted f)
      (λ q. subst (AreKnown text) (sym (if_true (is_unquoted f) _ _ q)) (plain q))
      (λ q. subst (AreKnown text) (sym (if_false (is_unquoted f) _ _ q))
      (known-quoted f rest l u (stop (ap not q)) (subst (λ (x : List ℕ). At (x ++ rest)) (quoted-name-text f q) h), tt))))))
    where
      some : (q : is_unquoted f ≡ true) → 0 < length f
      some q = let b = begun (name f) u in let t : f ≡ b.first ∷ b.more = sym (unquoted-text f q)
          ∙ b.bytes in let z : length f ≡ suc (length b.more) = ap length t in omega (arith, z)

      plain : is_unquoted f ≡ true → AreKnown text ((tok Name (length pre) (length pre + length f) l, f) ∷ [])
      plain q = (known-some f rest l (some q) (subst (λ (x : List ℕ). At (x ++ rest)) (unquoted-text f q) h), tt)

  lexeme-known : (m : Lexeme) (rest : List ℕ) (l : Bool) → IsLexeme m → At (lexeme_text m ++ rest)
      → (is_risky m ≡ true → begins_with 39 rest ≡ false) → AreKnown text (lexeme_tokens m (length pre) l)
  lexeme-known (sign b) rest l k h stop = (sign-known b k (length pre) (length pre + 1) l, tt)
  lexeme-known (name f) rest l k h stop = name-known f rest l k h stop
  lexeme-known (prefix_name f) rest l k h stop =
      let b = begun (prefix_name f) k in
      let t : f ≡ b.first ∷ b.more = sym (unquoted-text f k.0) ∙ b.bytes in
      let z : length f ≡ suc (length b.more) = ap length t in
      (known-some f rest l (omega (arith, z)) (subst (λ (x : List ℕ). At (x ++ rest)) (unquoted-text f k.0) h), tt)
  lexeme-known (number (pos n)) rest l k h stop = (known-token (Integer n) (length pre + length (decimal n)) l tt refl (length pre), tt)
  lexeme-known (number (negsuc n)) rest l k h stop = (
    known-some (45 ∷ []) (decimal (suc n) ++ rest) l (let z : length {A = ℕ} (45 ∷ []) ≡ 1 = refl in omega (arith, z)) h,
    (known-token (Integer (suc n)) (length pre + 1 + length (decimal (suc n))) false tt refl (length pre + 1), tt),
  )

lexeme-ended : (m : Lexeme) (ms : List Lexeme) (e : Edge) (x : List ℕ) → set_apart e (lexeme_text m) ≡ x
    → ended e (m ∷ ms) ≡ x ++ ended (edge_behind e (lexeme_fragment m)) ms
lexeme-ended m ms e x q =
    let more = spaced (edge_behind e (lexeme_fragment m)) (map lexeme_fragment ms) in
    ap (λ (y : List ℕ). (y ++ more) ++ 32 ∷ 46 ∷ []) q ∙ append_assoc x more (32 ∷ 46 ∷ [])

space-text : (m : Lexeme) (ms : List Lexeme) → is_space m ≡ true → (e : Edge) → ended e (m ∷ ms) ≡ 32 ∷ ended Other ms
space-text (sign b) ms k e = subst (λ (x : ℕ). ended e (sign x ∷ ms) ≡ 32 ∷ ended Other ms) (sym (eqb-true b 32 k))
    (ap (λ (x : List ℕ). (x ++ spaced Other (map lexeme_fragment ms)) ++ 32 ∷ 46 ∷ []) (if_false (is_apart e 32) (32 ∷ 32 ∷ [])
    (32 ∷ []) (space-apart e)))
space-text (name f) ms k e = absurd (let z : false ≡ true = k in cc)
space-text (prefix_name f) ms k e = absurd (let z : false ≡ true = k in cc)
space-text (number i) ms k e = absurd (let z : false ≡ true = k in cc)

tail : (m : Lexeme) (ms : List Lexeme) → AreLexemes (m ∷ ms) → {q : Bool} → IsClean q (m ∷ ms) → (text pre : List ℕ) (e : Edge) (l : Bool)
    → text ≡ pre ++ (lexeme_text m ++ ended (edge_behind e (lexeme_fragment m)) ms)
    → ((p : List ℕ) (r : Bool) → text ≡ p ++ ended (edge_behind e (lexeme_fragment m)) ms
    → AreKnown text (tokens (length p) (edge_behind e (lexeme_fragment m)) r ms))
    → AreKnown text (lexeme_tokens m (length pre) l ++ tokens (length pre + length (lexeme_text m))
    (edge_behind e (lexeme_fragment m)) false ms)
tail m ms h c text pre e l there rest =
    let e2 = edge_behind e (lexeme_fragment m) in
    known-append text (lexeme_tokens m (length pre) l) (tokens (length pre + length (lexeme_text m)) e2 false ms)
    (lexeme-known text pre m (ended e2 ms) l h.0 there (behind e2 (is_risky m) ms h.1 c.1).quote)
    (subst (λ (n : ℕ). AreKnown text (tokens n e2 false ms)) (length-append pre (lexeme_text m))
    (rest (pre ++ lexeme_text m) false (there ∙ sym (append_assoc pre (lexeme_text m) (ended e2 ms)))))

-- all tokens
pub tokens-known : (ms : List Lexeme) → AreLexemes ms → (q : Bool) → IsClean q ms → (text pre : List ℕ) (e : Edge) (l : Bool)
    → text ≡ pre ++ ended e ms → AreKnown text (tokens (length pre) e l ms)
tokens-known [] h q c text pre e l t = tt
tokens-known (m ∷ ms) h q c text pre e l t = by_test (is_space m)
    (λ k. subst (AreKnown text) (sym (if_true (is_space m) _ _ k))
    (subst (λ (n : ℕ). AreKnown text (tokens n Other true ms)) (let z = length-append pre (32 ∷ []) in let y : length {A = ℕ} (32 ∷ [])
    ≡ 1 = refl in let p : length (pre ++ 32 ∷ []) ≡ length pre + 1 = omega (arith, z, y) in p)
    (tokens-known ms h.1 (is_risky m) c.1 text (pre ++ 32 ∷ []) Other true (t ∙ (ap (λ (x : List ℕ). pre ++ x) (space-text m ms k e)
    ∙ sym (append_assoc pre (32 ∷ []) (ended Other ms)))))))
    (λ k. subst (AreKnown text) (sym (if_false (is_space m) _ _ k)) (by_test (gap e (lexeme_text m))
    (λ g. subst (AreKnown text) (sym (if_true (gap e (lexeme_text m)) _ _ g))
    (let there : text ≡ (pre ++ 32 ∷ []) ++ (lexeme_text m ++ ended (edge_behind e (lexeme_fragment m)) ms) =
    t ∙ (ap (λ (x : List ℕ). pre ++ x) (lexeme-ended m ms e (32 ∷ lexeme_text m) (set-apart-is e (lexeme_text m)
    ∙ if_true (gap e (lexeme_text m)) _ _ g)) ∙ sym (append_assoc pre (32 ∷ [])
    (lexeme_text m ++ ended (edge_behind e (lexeme_fragment m)) ms))) in
    let size : length (pre ++ 32 ∷ []) ≡ length pre + 1 =
    (let z = length-append pre (32 ∷ []) in let y : length {A = ℕ} (32 ∷ []) ≡ 1 = refl in omega (arith, z, y)) in
    subst (λ (n : ℕ). AreKnown text (lexeme_tokens m n true ++ tokens (n + length (lexeme_text m))
    (edge_behind e (lexeme_fragment m)) false ms))
    size
    (tail m ms h c text (pre ++ 32 ∷ []) e true there (λ p r w. tokens-known ms h.1 (is_risky m) c.1 text p
    (edge_behind e (lexeme_fragment m)) r w))))
    (λ g. subst (AreKnown text) (sym (if_false (gap e (lexeme_text m)) _ _ g))
    (let there : text ≡ pre ++ (lexeme_text m ++ ended (edge_behind e (lexeme_fragment m)) ms) =
    t ∙ ap (λ (x : List ℕ). pre ++ x) (lexeme-ended m ms e (lexeme_text m) (set-apart-is e (lexeme_text m)
    ∙ if_false (gap e (lexeme_text m)) _ _ g)) in
    tail m ms h c text pre e l there (λ p r w. tokens-known ms h.1 (is_risky m) c.1 text p (edge_behind e (lexeme_fragment m)) r w)))))
