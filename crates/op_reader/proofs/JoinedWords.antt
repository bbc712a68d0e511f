-- Words that join on the right.
use Rattle.std.proofs.Common.{◌≡◌, ℕ, ◌<◌, ◌≤◌, ◌+◌, ◌-◌, suc, List, [], ◌∷◌, ◌++◌, length, take, drop, refl, ap, sym, ◌∙◌, subst, arith}
use Rattle.std.proofs.Common.{true, false, append_assoc, get_or}
use Rattle.std.specs.Prelude.{map, All, if◌then◌else◌}
use Rattle.std.proofs.lemmas.List.{map_push, length-drop, drop-drop}
use Rattle.std.proofs.lemmas.List.Elements.{All-push}
use Rattle.std.proofs.Math.Seq.{drop-cons}
use Rattle.op_logic.specs.Term.{Term}
use Rattle.op_token.specs.declared.token.Token.{Token}
use Rattle.op_token.specs.declared.token.TokenKind.{TokenKind}
use Rattle.op_token.specs.declared.token.TokenKind.TheVariants.{Variable, OpenSquare, OpenCurly, CloseSquare, CloseCurly}
use Rattle.op_reader.specs.declared.word.Word.{Word as DeclaredWord}
use Rattle.op_reader.specs.declared.word.Word.TheVariants.{Other}
use Rattle.op_reader.specs.declared.word.AsOperand.{AsOperand as DeclaredAsOperand}
use Rattle.op_reader.specs.declared.word.AsOperand.TheVariants.{Minus, Plain}
use Rattle.op_reader.specs.declared.words.Made.{Made}
use Rattle.op_reader.specs.Words.{Source, Word, word_of, words_from, variables_of, met_behind, with_variable, spelling, is_variable}
use Rattle.op_reader.specs.Words.{is_empty_pair}
use Rattle.op_reader.specs.inner.RoleLists.{word_in, OperandBelow, WordBelow}
use Rattle.op_reader.specs.inner.Shown.{ShowsWord, ShowsWords, HasMet, Worded}
use Rattle.op_reader.proofs.ShownNodes.{kept_length, later_back}

operand_below_more : (n m : ℕ) (a : DeclaredAsOperand) → n ≤ m → OperandBelow n a → OperandBelow m a
operand_below_more n m (Minus k) l h = omega arith
operand_below_more n m (Plain k) l h = omega arith
operand_below_more n m a l h = h

pub word_below_more : (n m : ℕ) (w : DeclaredWord) → n ≤ m → WordBelow n w → WordBelow m w
word_below_more n m (Other place a o) l h = operand_below_more n m a l h
word_below_more n m w l h = h

pub words_shown_more : (names more : List (List ℕ)) (terms further : List (Term ℕ)) (held next : List DeclaredWord)
    (us : List (Word (List ℕ))) (w : DeclaredWord) (u : Word (List ℕ)) →
    take (length names) more ≡ names → take (length terms) further ≡ terms → next ≡ held ++ w ∷ [] →
    ShowsWords names terms held us → ShowsWord more further w u → ShowsWords more further next (us ++ u ∷ [])
words_shown_more names more terms further held next us w u k l e s one =
    let longer = kept_length terms further l in
    record {
      below = subst (λ (ws : List DeclaredWord). All (WordBelow (length further)) ws) (sym e)
          (All-push (WordBelow (length further)) held w (λ i d h. word_below_more (length terms) (length further) (get_or held i d) longer
          (s.below i d h)) one.below);
      shown = λ v h. ap (map (word_in v)) e ∙ map_push (word_in v) held w
          ∙ ap (λ ws. ws ++ word_in v w ∷ []) (s.shown v (later_back v names more terms further k l h))
          ∙ ap (λ x. us ++ x ∷ []) (one.shown v h);
    }

-- the second token of a name [] or {} is no variable
pub pair_step : (kind k : TokenKind) (u : Token) (us : List Token) → u.kind ≡ k → is_empty_pair kind (u ∷ us) ≡ true → is_variable k ≡ false
pair_step OpenSquare Variable u us e h =
    absurd (let g : is_empty_pair OpenSquare (u ∷ us) ≡ false = ap (λ j. elim j [ CloseSquare ↦ true | _ ↦ false ]) e in cc)
pair_step OpenCurly Variable u us e h =
    absurd (let g : is_empty_pair OpenCurly (u ∷ us) ≡ false = ap (λ j. elim j [ CloseCurly ↦ true | _ ↦ false ]) e in cc)
pair_step kind Variable u us e h = cc
pair_step kind k u us e h = refl

-- what is left behind a word
pub record Leaves (s : Source) (t : Token) (us rest : List Token) : Type 0 where
  pub words : (met : List (List ℕ)) → words_from s met (is_empty_pair t.kind us) us ≡ words_from s met false rest
  pub variables : (met : List (List ℕ)) → variables_of s.text met us ≡ variables_of s.text met rest

pub leaves_one : (s : Source) (t : Token) (us : List Token) → is_empty_pair t.kind us ≡ false → Leaves s t us us
leaves_one s t us h = record { words = λ met. ap (λ b. words_from s met b us) h; variables = λ met. refl }

pub leaves_two : (s : Source) (t u : Token) (us : List Token) → is_empty_pair t.kind (u ∷ us) ≡ true → Leaves s t (u ∷ us) us
leaves_two s t u us h =
    record {
      words = λ met. ap (λ b. words_from s met b (u ∷ us)) h;
      variables = λ met. ap (λ b. variables_of s.text (if b then with_variable met (spelling s.text u) else met) us)
          (pair_step t.kind u.kind u us refl h);
    }

pub worded_more : (s : Source) (ts : List Token) (at next : ℕ) (t : Token) (us : List Token) (names more : List (List ℕ))
    (made new : Made) (held joined : List DeclaredWord) (w : DeclaredWord) →
    drop at ts ≡ t ∷ us → Leaves s t us (drop next ts) → take (length names) more ≡ names
    → take (length made.nodes) new.nodes ≡ made.nodes →
    joined ≡ held ++ w ∷ [] → new.count ≤ next →
    ((met : List (List ℕ)) → HasMet made.names made.count met → ShowsWord more new.nodes w (word_of s met t us)) →
    ((met : List (List ℕ)) → HasMet made.names made.count met → HasMet new.names new.count (met_behind s.text met t)) →
    Worded s ts at names made held → Worded s ts next more new joined
worded_more s ts at next t us names more made new held joined w here left k l e few shows meets before =
    let met = before.met in
    let after = met_behind s.text met t in
    record {
      met = after;
      words = before.words ++ word_of s met t us ∷ [];
      shown = words_shown_more names more made.nodes new.nodes held joined before.words w (word_of s met t us) k l e before.shown
          (shows met before.has_met);
      whole = before.whole
          ∙ ap (λ vs. before.words ++ words_from s met false vs) here
          ∙ ap (λ ws. before.words ++ word_of s met t us ∷ ws) (left.words after)
          ∙ sym (append_assoc before.words (word_of s met t us ∷ []) (words_from s after false (drop next ts)));
      has_met = meets met before.has_met;
      variables = before.variables ∙ ap (λ vs. variables_of s.text met vs) here ∙ left.variables after;
      few = few;
    }

-- the tokens from a place on
pub tokens_here : (ts us : List Token) (at : ℕ) (t : Token) → at < length ts → t ≡ get_or ts at t
    → us ≡ drop (suc at) ts → drop at ts ≡ t ∷ us
tokens_here ts us at t h e r = drop-cons ts at t h ∙ ap (λ u. u ∷ drop (suc at) ts) (sym e) ∙ ap (λ vs. t ∷ vs) (sym r)

pub leaves_next : (s : Source) (ts us : List Token) (at : ℕ) (t : Token) → us ≡ drop (suc at) ts → is_empty_pair t.kind us ≡ false
    → Leaves s t us (drop (at + 1) ts)
leaves_next s ts us at t r h =
    let n : suc at ≡ at + 1 = omega arith in
    subst (λ (vs : List Token). Leaves s t us vs) (r ∙ ap (λ k. drop k ts) n) (leaves_one s t us h)

drop_two : (ts : List Token) (at : ℕ) (u : Token) (us : List Token) → u ∷ us ≡ drop (suc at) ts → us ≡ drop (at + 2) ts
drop_two ts at u us r =
    let n : suc at + 1 ≡ at + 2 = omega arith in
    ap (drop 1) r ∙ drop-drop 1 (suc at) ts ∙ ap (λ k. drop k ts) n

pub leaves_next_but_one : (s : Source) (ts us : List Token) (at : ℕ) (t : Token) → us ≡ drop (suc at) ts → is_empty_pair t.kind us ≡ true
    → Leaves s t us (drop (at + 2) ts)
leaves_next_but_one s ts [] at t r h = absurd (let g : is_empty_pair t.kind [] ≡ false = refl in cc)
leaves_next_but_one s ts (u ∷ us) at t r h =
    subst (λ (vs : List Token). Leaves s t (u ∷ us) vs) (drop_two ts at u us r) (leaves_two s t u us h)

pub pair_length : (ts us : List Token) (at : ℕ) (kind : TokenKind) → at < length ts → us ≡ drop (suc at) ts
    → is_empty_pair kind us ≡ true → at + 2 ≤ length ts
pair_length ts [] at kind l r h = absurd (let g : is_empty_pair kind [] ≡ false = refl in cc)
pair_length ts (u ∷ us) at kind l r h =
    let k : length (u ∷ us) ≡ length ts - suc at = ap length r ∙ length-drop (suc at) ts in
    let some : length (u ∷ us) ≡ suc (length us) = refl in
    omega arith

pub worded_none : (s : Source) (ts : List Token) (names : List (List ℕ)) (made : Made) (held : List DeclaredWord) → made.names ≡ []
    → made.count ≡ 0 → held ≡ [] →
    Worded s ts 0 names made held
worded_none s ts names made held n k e =
    record {
      met = [];
      words = [];
      shown = record {
        below = subst (λ (ws : List DeclaredWord). All (WordBelow (length made.nodes)) ws) (sym e) (λ i d h. absurd (omega arith));
        shown = λ v h. ap (map (word_in v)) e;
      };
      whole = refl;
      has_met = record { named = n; counted = k };
      variables = refl;
      few = omega arith;
    }
