-- The boxes that a machine keeps, as continuations and boxes are added, and a choice point is returned to.
use Rattle.std.proofs.Common.{◌≡◌, ℕ, zero, suc, ◌+◌, ◌<◌, ◌≤◌, Bool, true, false, List, [], ◌∷◌, ◌++◌, length, take, nat_lt, All, refl}
use Rattle.std.proofs.Common.{sym, ap, ◌∙◌, subst, arith, if◌then◌else◌}
use Rattle.std.proofs.lemmas.List.{get_or-take, length-take-le}
use Rattle.std.proofs.lemmas.List.Elements.{All-filter, All-append}
use Rattle.op_trace.specs.declared.barrier.Barrier.{Barrier}
use Rattle.op_frames.specs.declared.boxes.BoxFrame.{BoxFrame}
use Rattle.op_machine.specs.declared.choice_points.ChoiceKind.{ChoiceKind}
use Rattle.op_machine.specs.declared.choice_points.ChoiceKind.TheVariants as kind
use Rattle.op_frames.specs.Frames.{open_from}
use Rattle.op_frames.proofs.Chains.{chain-pushed, chain-kept}
use Rattle.op_machine.specs.declared.continuations.Item.{Item}
use Rattle.op_machine.specs.declared.continuations.Item.TheVariants as item
use Rattle.op_machine.specs.Meaning.{Frame}
use Rattle.op_machine.specs.inner.Cuts.{frame_stays, frame_goes, keep_frames}
use Rattle.op_machine.specs.inner.Continuations.{continuation_in}
use Rattle.op_machine.specs.inner.Boxes.{boxes_before, exits, innermost, IsCalled, IsEntered, AreBoxes, IsTried, AreBoxed}
use Rattle.op_machine.proofs.ContinuationLaws.{longer, longer-each}

-- a box that was called stays so, where its chain and its continuation stay
pub called-along : (B C : List BoxFrame) (L M : List (List Item)) (c d k g n : ℕ) → c ≤ d → continuation_in M n ≡ continuation_in L n
    → open_from C k ≡ open_from B k
    → IsCalled B c L k g n → IsCalled C d M k g n
called-along B C L M c d k g n h l o a = record {
  given = omega (arith, a.given);
  chain = o ∙ (a.chain ∙ ap (λ (I : List Item). (k, g) ∷ exits I) (sym l));
}

tried-along : (B C : List BoxFrame) (L M : List (List Item)) (q : ChoiceKind) (c g n : ℕ) → continuation_in M n ≡ continuation_in L n
    → ((k : ℕ) → k ≤ c → open_from C k ≡ open_from B k) → IsTried B c L q g n → IsTried C c M q g n
tried-along B C L M (kind.Redo k) c g n l o a = tt
tried-along B C L M (kind.Branch m) c g n l o a = tt
tried-along B C L M (kind.More k rs i) c g n l o a = called-along B C L M c c k g n (omega arith) l (o k a.given) a
tried-along B C L M (kind.Fail k) c g n l o a = a
tried-along B C L M (kind.Catch k) c g n l o a = called-along B C L M c c k g n (omega arith) l (o k a.given) a
tried-along B C L M (kind.Condition d m) c g n l o a = tt

-- so do choice points, where the continuations and the chains that were there stay
pub boxed-along : (B C : List BoxFrame) (L M : List (List Item)) (c d l m : ℕ) (F : List Frame) → c ≤ d → l ≤ m
    → ((n : ℕ) → n < l → continuation_in M n ≡ continuation_in L n) → ((k : ℕ) → k ≤ c → open_from C k ≡ open_from B k)
    → AreBoxed B L c l F → AreBoxed C M d m F
boxed-along B C L M c d l m [] hc hl ls os a = tt
boxed-along B C L M c d l m (f ∷ F) hc hl ls os a =
    let calls : f.kept.calls ≤ c = a.0.calls_there in
    let continuations : f.kept.continuations ≤ l = a.0.continuations_there in (
      record {
        calls_there = omega arith;
        continuations_there = omega arith;
        rest = a.0.rest;
        given = λ n h. subst (λ (I : List Item). innermost I ≤ f.kept.calls) (sym (ls n (omega arith))) (a.0.given n h);
        tried = tried-along B C L M f.kept.kind f.kept.calls f.kept.goal f.rest (ls f.rest (omega (arith, a.0.rest)))
            (λ k h. os k (omega arith)) a.0.tried;
      },
      boxed-along B C L M f.kept.calls f.kept.calls f.kept.continuations f.kept.continuations F (omega arith) (omega arith)
          (λ n h. ls n (omega arith)) (λ k h. os k (omega arith)) a.1,
    )

-- also where more boxes were called and more continuations are there
pub boxed-more : (B : List BoxFrame) (L : List (List Item)) (c d l m : ℕ) (F : List Frame) → c ≤ d → l ≤ m → AreBoxed B L c l F
    → AreBoxed B L d m F
boxed-more B L c d l m F hc hl a = boxed-along B B L L c d l m F hc hl (λ n h. refl) (λ k h. refl) a

-- and so do those that a cut keeps
pub keep-boxed : (B : List BoxFrame) (L : List (List Item)) (c l : ℕ) (F : List Frame) (m : Barrier) → AreBoxed B L c l F
    → AreBoxed B L c l (keep_frames m F)
keep-boxed B L c l [] m a = tt
keep-boxed B L c l (f ∷ F) m a = go (frame_stays f m) (frame_goes f m) (keep-boxed B L f.kept.calls f.kept.continuations F m a.1)
  where
    go : (p q : Bool) → AreBoxed B L f.kept.calls f.kept.continuations (keep_frames m F)
        → AreBoxed B L c l (if p then f ∷ F else (if q then F else keep_frames m F))
    go true q below = a
    go false true below = boxed-more B L f.kept.calls c f.kept.continuations l F a.0.calls_there a.0.continuations_there a.1
    go false false below = boxed-more B L f.kept.calls c f.kept.continuations l (keep_frames m F)
        a.0.calls_there a.0.continuations_there below

entered-given : (B : List BoxFrame) (c : ℕ) (L : List (List Item)) (i : Item) (n : ℕ) → AreBoxes B c L → n < length L → IsEntered B c L i n
    → innermost (i ∷ continuation_in L n) ≤ c
entered-given B c L (item.Goal g m) n a h e = a.given n h
entered-given B c L (item.Cut m) n a h e = a.given n h
entered-given B c L (item.Exit k g) n a h e = e.given
entered-given B c L (item.Execute k g) n a h e = e.given
entered-given B c L (item.Recover k g) n a h e = e.given

entered-chain : (B : List BoxFrame) (c : ℕ) (L : List (List Item)) (i : Item) (n : ℕ) → AreBoxes B c L → n < length L → IsEntered B c L i n
    → open_from B (innermost (i ∷ continuation_in L n)) ≡ exits (i ∷ continuation_in L n)
entered-chain B c L (item.Goal g m) n a h e = a.chains n h
entered-chain B c L (item.Cut m) n a h e = a.chains n h
entered-chain B c L (item.Exit k g) n a h e = e.chain
entered-chain B c L (item.Execute k g) n a h e = e.chain
entered-chain B c L (item.Recover k g) n a h e = e.chain

pub longer-boxes : (B : List BoxFrame) (c : ℕ) (L : List (List Item)) (i : Item) (n : ℕ) → AreBoxes B c L → n < length L
    → IsEntered B c L i n
    → AreBoxes B c (longer L i n)
longer-boxes B c L i n a h e = record {
  numbers = a.numbers;
  given = longer-each (λ (m : ℕ) (I : List Item). innermost I ≤ c) L i n a.given (entered-given B c L i n a h e);
  chains = longer-each (λ (m : ℕ) (I : List Item). open_from B (innermost I) ≡ exits I) L i n a.chains (entered-chain B c L i n a h e);
}

-- the first item of a continuation is that of a box that was called before the rest
pub first-entered : (B : List BoxFrame) (c : ℕ) (L : List (List Item)) (n : ℕ) (i : Item) (m : ℕ) → AreBoxes B c L → n < length L
    → continuation_in L n ≡ i ∷ continuation_in L m → IsEntered B c L i m
first-entered B c L n (item.Goal g b) m a h e = tt
first-entered B c L n (item.Cut b) m a h e = tt
first-entered B c L n (item.Exit k g) m a h e = record {
  given = subst (λ (I : List Item). innermost I ≤ c) e (a.given n h);
  chain = subst (λ (I : List Item). open_from B (innermost I) ≡ exits I) e (a.chains n h);
}
first-entered B c L n (item.Execute k g) m a h e = record {
  given = subst (λ (I : List Item). innermost I ≤ c) e (a.given n h);
  chain = subst (λ (I : List Item). open_from B (innermost I) ≡ exits I) e (a.chains n h);
}
first-entered B c L n (item.Recover k g) m a h e = record {
  given = subst (λ (I : List Item). innermost I ≤ c) e (a.given n h);
  chain = subst (λ (I : List Item). open_from B (innermost I) ≡ exits I) e (a.chains n h);
}

-- a box is called before a continuation
abbrev pub with_box : List BoxFrame → BoxFrame → List BoxFrame
with_box B b = B ++ b ∷ []

pub pushed-boxes : (B : List BoxFrame) (c : ℕ) (L : List (List Item)) (b : BoxFrame) → b.number ≡ c + 1 → AreBoxes B c L
    → AreBoxes (with_box B b) (c + 1) L
pushed-boxes B c L b e a = record {
  numbers = All-append (λ (x : BoxFrame). x.number ≤ c + 1) B (b ∷ []) (λ i d h. let l : _ = a.numbers i d h in omega arith) (one e);
  given = λ n h. omega (arith, a.given n h);
  chains = λ n h. chain-kept B b (innermost (continuation_in L n)) (omega (arith, a.given n h)) ∙ a.chains n h;
}
  where
    one : b.number ≡ c + 1 → All (λ (x : BoxFrame). x.number ≤ c + 1) (b ∷ [])
    one e zero d h = omega arith
    one e (suc i) d h = absurd (omega arith)

pub pushed-called : (B : List BoxFrame) (c : ℕ) (L : List (List Item)) (b : BoxFrame) (n : ℕ) → b.number ≡ c + 1 → b.parent
    ≡ innermost (continuation_in L n) → n < length L
    → AreBoxes B c L → IsCalled (with_box B b) (c + 1) L (c + 1) b.goal n
pushed-called B c L b n e p h a = record {
  given = omega arith;
  chain = subst (λ (k : ℕ). open_from (with_box B b) k ≡ (k, b.goal) ∷ exits (continuation_in L n)) e
      (chain-pushed B b (omega arith) ∙ ap (λ (x : List (ℕ × ℕ)). (b.number, b.goal) ∷ x) (ap (open_from B) p ∙ a.chains n h));
}

-- back to a choice point: the boxes and the continuations that were made since are dropped
pub taken-same : (L : List (List Item)) (l m : ℕ) → m < l → continuation_in (take l L) m ≡ continuation_in L m
taken-same L l m h = get_or-take l L m [] h

pub restored-boxes : (B : List BoxFrame) (c : ℕ) (L : List (List Item)) (F : List Frame) (f : Frame)
    → ((k : ℕ) → k < f.kept.calls + 1 → open_from (boxes_before (f.kept.calls + 1) B) k ≡ open_from B k)
    → AreBoxes B c L → AreBoxed B L c (length L) (f ∷ F)
    → AreBoxes (boxes_before (f.kept.calls + 1) B) c (take f.kept.continuations L)
restored-boxes B c L F f stay a b =
    let calls : f.kept.calls ≤ c = b.0.calls_there in
    let len : length (take f.kept.continuations L)
    ≡ f.kept.continuations = length-take-le f.kept.continuations L b.0.continuations_there in
    let P : List Item → Type 0 = λ J. innermost J ≤ c in
    let Q : List Item → Type 0 = λ J. open_from (boxes_before (f.kept.calls + 1) B) (innermost J) ≡ exits J in
    record {
      numbers = All-filter (λ (x : BoxFrame). nat_lt x.number (f.kept.calls + 1)) (λ (x : BoxFrame). x.number ≤ c) B a.numbers;
      given = λ n h. subst P (sym (taken-same L f.kept.continuations n (omega arith))) (omega (arith, b.0.given n (omega arith)));
      chains = λ n h.
          subst Q (sym (taken-same L f.kept.continuations n (omega arith)))
          (stay (innermost (continuation_in L n)) (omega (arith, b.0.given n (omega arith)))
          ∙ a.chains n (omega (arith, b.0.continuations_there)));
    }

pub restored-boxed : (B : List BoxFrame) (c : ℕ) (L : List (List Item)) (F : List Frame) (f : Frame)
    → ((k : ℕ) → k < f.kept.calls + 1 → open_from (boxes_before (f.kept.calls + 1) B) k ≡ open_from B k)
    → AreBoxed B L c (length L) (f ∷ F)
    → AreBoxed (boxes_before (f.kept.calls + 1) B) (take f.kept.continuations L) c (length (take f.kept.continuations L)) F
restored-boxed B c L F f stay b =
    let len : length (take f.kept.continuations L)
    ≡ f.kept.continuations = length-take-le f.kept.continuations L b.0.continuations_there in
    boxed-along B (boxes_before (f.kept.calls + 1) B) L (take f.kept.continuations L) f.kept.calls c f.kept.continuations
    (length (take f.kept.continuations L)) F b.0.calls_there (omega arith)
    (λ n h. taken-same L f.kept.continuations n h) (λ k h. stay k (omega arith)) b.1

-- the clauses that it tries are those of a box that is still kept
pub restored-tried : (B : List BoxFrame) (c : ℕ) (L : List (List Item)) (F : List Frame) (f : Frame)
    → ((k : ℕ) → k < f.kept.calls + 1 → open_from (boxes_before (f.kept.calls + 1) B) k ≡ open_from B k)
    → AreBoxed B L c (length L) (f ∷ F)
    → IsTried (boxes_before (f.kept.calls + 1) B) f.kept.calls (take f.kept.continuations L) f.kept.kind f.kept.goal f.rest
restored-tried B c L F f stay b =
    tried-along B (boxes_before (f.kept.calls + 1) B) L (take f.kept.continuations L) f.kept.kind f.kept.calls f.kept.goal f.rest
    (taken-same L f.kept.continuations f.rest b.0.rest) (λ k h. stay k (omega arith)) b.0.tried
