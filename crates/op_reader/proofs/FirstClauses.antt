-- The tokens of a first clause, taken one by one.
use Rattle.std.proofs.Common.{◌≡◌, ◌∙◌, sym, ap, true, false, Bool, List, [], ◌∷◌, ◌++◌, append_assoc, append-nil, if◌then◌else◌, refl, ℕ}
use Rattle.std.proofs.Common.{◌<◌, ◌≤◌, take, length, get_or, arith, All}
use Rattle.std.specs.Prelude.{Contains}
use Rattle.std.proofs.lemmas.List.{length-take, get_or-take, get_or_default}
use Rattle.op_token.specs.Tokens.{scan_of}
use Rattle.op_token.proofs.TokenTexts.{token_within, plain_text, quoted_text}
use Rattle.op_reader.specs.inner.Shown.{HasText}
use Rattle.std.specs.Prelude.{Option, Some, None, option_map}
use Rattle.op_token.specs.declared.token.Token.{Token}
use Rattle.op_reader.specs.FirstClause.{Sentence, sentence_of, is_end, with_first}

-- a clause with these tokens in front of it
abbrev pub before : List Token → Sentence → Sentence
before ts s = record { tokens = ts ++ s.tokens; stop = s.stop }

pub before_more : (ts : List Token) (t : Token) (s : Option Sentence) →
    option_map (before ts) (option_map (with_first t) s) ≡ option_map (before (ts ++ t ∷ [])) s
before_more ts t None = refl
before_more ts t (Some s) = ap (λ us. Some (record { tokens = us; stop = s.stop })) (sym (append_assoc ts (t ∷ []) s.tokens))

pub begins_further : (ts us : List Token) (t : Token) (whole : Option Sentence) → is_end t.kind ≡ false →
    whole ≡ option_map (before ts) (sentence_of (t ∷ us)) → whole ≡ option_map (before (ts ++ t ∷ [])) (sentence_of us)
begins_further ts us t whole e h =
    h
    ∙ ap (λ b. option_map (before ts) (if b then Some (record { tokens = []; stop = t }) else option_map (with_first t) (sentence_of us))) e
    ∙ before_more ts t (sentence_of us)

pub begins_here : (ts us : List Token) (t : Token) (whole : Option Sentence) → is_end t.kind ≡ true →
    whole ≡ option_map (before ts) (sentence_of (t ∷ us)) → whole ≡ Some (record { tokens = ts; stop = t })
begins_here ts us t whole e h =
    h
    ∙ ap (λ b. option_map (before ts) (if b then Some (record { tokens = []; stop = t }) else option_map (with_first t) (sentence_of us))) e
    ∙ ap (λ vs. Some (record { tokens = vs; stop = t })) (append-nil ts)

-- the tokens of a clause are the first ones of its text
ended_front : (b : Bool) (t : Token) (ts : List Token) (o : Option Sentence) (c : Sentence)
    → (if b then Some (record { tokens = []; stop = t }) else option_map (with_first t) o) ≡ Some c →
    ((d : Sentence) → o ≡ Some d → take (length d.tokens) ts ≡ d.tokens) → take (length c.tokens) (t ∷ ts) ≡ c.tokens
ended_front true t ts o c h f =
    let e : record { tokens = []; stop = t } ≡ c = cc in
    ap (λ (d : Sentence). take (length d.tokens) (t ∷ ts)) (sym e) ∙ ap (λ (d : Sentence). d.tokens) e
ended_front false t ts None c h f = cc
ended_front false t ts (Some d) c h f =
    let e : with_first t d ≡ c = cc in
    ap (λ (x : Sentence). take (length x.tokens) (t ∷ ts)) (sym e) ∙ ap (λ us. t ∷ us) (f d refl) ∙ ap (λ (x : Sentence). x.tokens) e

sentence_front : (ts : List Token) (c : Sentence) → sentence_of ts ≡ Some c → take (length c.tokens) ts ≡ c.tokens
sentence_front [] c h = cc
sentence_front (t ∷ ts) c h = ended_front (is_end t.kind) t ts (sentence_of ts) c h (λ d g. sentence_front ts d g)

in_front : (ts us : List Token) (i : ℕ) (d : Token) → take (length us) ts ≡ us → i < length us → Contains ts (get_or us i d)
in_front ts us i d e h =
    let x = get_or us i d in
    let longer : length us ≤ length ts = omega (arith, length-take (length us) ts, ap length e) in
    let same : get_or us i x ≡ x = get_or_default us i x d h in
    (i, omega arith, sym (get_or-take (length us) ts i x h) ∙ ap (λ vs. get_or vs i x) e ∙ same)

has_text : (text : List ℕ) (t : Token) → Contains (scan_of text).tokens t → HasText text t
has_text text t h =
    let inside = token_within text t h in
    record { some = inside.0; within = inside.1; plain = plain_text text t h; quoted = quoted_text text t h }

pub have_texts : (text : List ℕ) (ts : List Token) (stop : Token)
    → sentence_of (scan_of text).tokens ≡ Some (record { tokens = ts; stop = stop }) → All (HasText text) ts
have_texts text ts stop h =
    λ i d l. has_text text (get_or ts i d) (in_front (scan_of text).tokens ts i d (sentence_front (scan_of text).tokens
    (record { tokens = ts; stop = stop }) h) l)
