-- The tokens of a text (ISO/IEC 13211-1, 6.4), one behind the other, and the first fault where there is one.
use Rattle.std.specs.Prelude.{◌≡◌, ℕ, zero, suc, ◌==◌, ◌+◌, ◌-◌, ◌≤◌, ◌<◌, length, Bool, true, false, ◌&&◌, Result, Ok, Err, List}
use Rattle.std.specs.Prelude.{[], ◌∷◌, ◌++◌, drop, Option, Some, None, slice_index, encode_utf8, if◌then◌else◌}
use Rattle.std.specs.Option.{option_map_or}
use Rattle.op_token.specs.declared.token.Token.{Token}
use Rattle.op_token.specs.declared.token.TokenKind.{TokenKind}
use Rattle.op_token.specs.declared.token.TokenKind.TheVariants.{Name, QuotedName, Variable, Text}
use Rattle.op_token.specs.declared.token.TokenFault.{TokenFault}
use Rattle.op_token.specs.declared.spelling.Spelling.{Spelling}
use Rattle.op_token.specs.declared.spelling.Spelling.TheVariants.{Gap, Whole, Fault}
use Rattle.op_token.specs.Spelling.{begins, escape_at}
use Rattle.op_token.specs.Set.{begins_with}

-- tokens, and the fault behind them
pub record Lexed : Type 0 where
  pub tokens : List Token
  pub fault : Option TokenFault

abbrev pub push : Token → Lexed → Lexed
push t l = record { tokens = t ∷ l.tokens; fault = l.fault }

-- the unquoted name - , from its first byte and its length
abbrev pub is_minus : TokenKind → ℕ → ℕ → Bool
is_minus Name b n = b == 45 && n == 1
is_minus kind b n = false

abbrev pub on_spelling : Spelling → (ℕ → Lexed) → (TokenKind → ℕ → Lexed) → Lexed
on_spelling (Gap end) gap token = gap end
on_spelling (Whole kind end) gap token = token kind end
on_spelling (Fault f) gap token = record { tokens = []; fault = Some f }

-- the tokens of the bytes at a place, of which the first `inside` belong to a spelling that has begun. `layout` says that layout or a
-- comment stands directly before, `minus` that the name - does
abbrev pub lex : ℕ → ℕ → Bool → Bool → List ℕ → Lexed
lex at inside layout minus [] = record { tokens = []; fault = None }
lex at (suc n) layout minus (b ∷ s) = lex (suc at) n layout minus s
lex at zero layout minus (b ∷ s) =
    on_spelling (begins at minus (b ∷ s))
    (λ end. lex (suc at) (end - suc at) true false s)
    (λ kind end.
    push (record { kind = kind; from = at; to = end; layout_before = layout })
    (lex (suc at) (end - suc at) false (is_minus kind b (end - at)) s))

-- what a scanner has in front of it: its text, and the tokens to come with the fault behind them
pub record Scan : Type 0 where
  pub text : List ℕ
  pub tokens : List Token
  pub fault : Option TokenFault

abbrev pub scan_from : ℕ → Bool → List ℕ → Scan
scan_from at minus text = let l = lex at 0 false minus (drop at text) in record { text = text; tokens = l.tokens; fault = l.fault }

-- the tokens of a whole text
abbrev pub scan_of : List ℕ → Scan
scan_of text = let l = lex 0 0 false false text in record { text = text; tokens = l.tokens; fault = l.fault }

-- what the next token behind a place is: the first of those that come from there
abbrev pub Finds : List ℕ → ℕ → Bool → Result (Option Token) TokenFault → Type 0
Finds text at minus (Ok (Some t)) =
    (lex at 0 false minus (drop at text)
    ≡ push t (lex t.to 0 false (is_minus t.kind (slice_index text t.from) (t.to - t.from)) (drop t.to text)))
    × (t.from < t.to) × (t.to ≤ length text)
Finds text at minus (Ok None) = lex at 0 false minus (drop at text) ≡ record { tokens = []; fault = None }
Finds text at minus (Err f) = lex at 0 false minus (drop at text) ≡ record { tokens = []; fault = Some f }

-- what a call of a scanner gives: the first of the tokens to come, which the new scan no longer has; None where none is to come and no
-- fault is behind them; that fault where none is to come. But for a token nothing changes
abbrev pub Gives : Scan → Scan → Result (Option Token) TokenFault → Type 0
Gives before after (Ok (Some t)) =
    (before.tokens ≡ t ∷ after.tokens) × (after.text ≡ before.text) × (after.fault ≡ before.fault)
    × (t.from < t.to) × (t.to ≤ length before.text)
Gives before after (Ok None) = (before.tokens ≡ []) × (before.fault ≡ None) × (after ≡ before)
Gives before after (Err f) = (before.tokens ≡ []) × (before.fault ≡ Some f) × (after ≡ before)

-- the characters behind a quote, in UTF-8, to the quote that ends them: each byte is itself, but for the doubled quote and the escapes
abbrev pub escaped : Option ℕ → List ℕ
escaped None = []
escaped (Some c) = encode_utf8 c

abbrev pub text_from : ℕ → ℕ → List ℕ → List ℕ
text_from quote inside [] = []
text_from quote (suc n) (b ∷ s) = text_from quote n s
text_from quote zero (b ∷ s) =
    if b == quote then (if begins_with quote s then b ∷ text_from quote 1 s else [])
    else if b == 92 then option_map_or (λ e. escaped e.code ++ text_from quote e.len s) (escape_at s) (text_from quote 0 s)
    else b ∷ text_from quote 0 s

-- the characters that the quoted text at a token stands for
abbrev pub unquoted : List ℕ → Token → List ℕ
unquoted text t = text_from (slice_index text t.from) 0 (drop (t.from + 1) text)

-- what one byte of quoted text appends, with the bytes that belong to it
abbrev pub Continues : ℕ → ℕ → List ℕ → List ℕ → List ℕ → Option ℕ → Type 0
Continues quote b s before after None = (text_from quote 0 (b ∷ s) ≡ []) × (after ≡ before)
Continues quote b s before after (Some n) =
    (part : List ℕ) × (after ≡ before ++ part) × (text_from quote 0 (b ∷ s) ≡ part ++ text_from quote n s)

-- an unquoted name or a variable
abbrev pub IsPlain : TokenKind → Type 0
IsPlain Name = Unit {0}
IsPlain Variable = Unit {0}
IsPlain kind = ⊥

-- quoted text
abbrev pub IsQuoted : TokenKind → Type 0
IsQuoted QuotedName = Unit {0}
IsQuoted Text = Unit {0}
IsQuoted kind = ⊥
