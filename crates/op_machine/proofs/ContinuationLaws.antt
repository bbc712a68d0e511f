-- Laws of continuations that share their ends.
use Rattle.std.proofs.Common.{◌≡◌, ℕ, zero, suc, ◌+◌, ◌-◌, ◌<◌, ◌≤◌, List, [], ◌∷◌, ◌++◌, length, take, get_or, refl, sym, ap, ◌∙◌, subst}
use Rattle.std.proofs.Common.{arith, length-append}
use Rattle.std.proofs.lemmas.List.{get_or_append_left, take-take}
use Rattle.std.proofs.Math.Seq.{get_or-append_seam, take-append_seam, take-length}
use Rattle.op_logic.proofs.BoolCases.{by_order}
use Rattle.op_trace.specs.World.{head_number}
use Rattle.op_machine.specs.declared.continuations.Item.{Item}
use Rattle.op_machine.specs.declared.continuations.Item.TheVariants as item
use Rattle.op_machine.specs.declared.continuations.Cell.{Cell}
use Rattle.op_machine.specs.inner.Continuations.{continuation_in, only_empty, continuations_after, continuations_of, opened, AreLinked}
use Rattle.op_machine.specs.inner.Continuations.{Begins}

-- a further continuation
abbrev pub longer : List (List Item) → Item → ℕ → List (List Item)
longer L i n = L ++ (i ∷ continuation_in L n) ∷ []

pub length-longer : (L : List (List Item)) (i : Item) (n : ℕ) → length (longer L i n) ≡ length L + 1
length-longer L i n = length-append L ((i ∷ continuation_in L n) ∷ [])

pub longer-same : (L : List (List Item)) (i : Item) (n m : ℕ) → m < length L → continuation_in (longer L i n) m ≡ continuation_in L m
longer-same L i n m h = get_or_append_left L ((i ∷ continuation_in L n) ∷ []) [] m h

pub longer-last : (L : List (List Item)) (i : Item) (n : ℕ) → continuation_in (longer L i n) (length L) ≡ i ∷ continuation_in L n
longer-last L i n = get_or-append_seam L (i ∷ continuation_in L n) [] []

-- what holds of each continuation that was there, and of the further one, holds of each
pub longer-each : (P : ℕ → List Item → Type 0) (L : List (List Item)) (i : Item) (n : ℕ)
    → ((m : ℕ) → m < length L → P m (continuation_in L m)) → P (length L) (i ∷ continuation_in L n)
    → (m : ℕ) → m < length (longer L i n) → P m (continuation_in (longer L i n) m)
longer-each P L i n each last m h =
    by_order m (length L)
    (λ l. subst (P m) (sym (longer-same L i n m l)) (each m l))
    (λ g.
    let e : m ≡ length L = omega (arith, length-longer L i n) in
    subst (λ (k : ℕ). P k (continuation_in (longer L i n) k)) (sym e) (subst (P (length L)) (sym (longer-last L i n)) last))

-- the one that a cell begins
abbrev pub joined : List (List Item) → Cell → List (List Item)
joined L c = longer L c.item c.rest

pub length-continuations_after : (L : List (List Item)) (cs : List Cell) → length (continuations_after L cs) ≡ length L + length cs
length-continuations_after L [] = omega arith
length-continuations_after L (c ∷ cs) = length-continuations_after (joined L c) cs ∙ omega (arith, length-longer L c.item c.rest)

pub continuation_in-continuations_after : (L : List (List Item)) (cs : List Cell) (n : ℕ) → n < length L
    → continuation_in (continuations_after L cs) n ≡ continuation_in L n
continuation_in-continuations_after L [] n h = refl
continuation_in-continuations_after L (c ∷ cs) n h =
    let l : n < length (joined L c) = omega (arith, length-longer L c.item c.rest) in
    continuation_in-continuations_after (joined L c) cs n l ∙ longer-same L c.item c.rest n h

pub continuations_after-push : (L : List (List Item)) (cs : List Cell) (c : Cell) → continuations_after L (cs ++ c ∷ [])
    ≡ joined (continuations_after L cs) c
continuations_after-push L [] c = refl
continuations_after-push L (b ∷ cs) c = continuations_after-push (joined L b) cs c

pub AreLinked-push : (L : List (List Item)) (cs : List Cell) (c : Cell) → AreLinked L cs
    → c.rest < length (continuations_after L cs)
    → c.parent ≡ head_number (opened (c.item ∷ continuation_in (continuations_after L cs) c.rest))
    → c.depth ≡ length (opened (c.item ∷ continuation_in (continuations_after L cs) c.rest))
    → AreLinked L (cs ++ c ∷ [])
AreLinked-push L [] c l r p d = (r, p, d, tt)
AreLinked-push L (b ∷ cs) c l r p d = (l.0, l.1, l.2, AreLinked-push (joined L b) cs c l.3 r p d)

abbrev pub AreShallow : List (List Item) → Type 0
AreShallow L = (m : ℕ) → m < length L → length (opened (continuation_in L m)) ≤ m

pub only_empty-shallow : AreShallow only_empty
only_empty-shallow zero h = omega arith
only_empty-shallow (suc m) h = absurd (omega arith)

pub opened-cons : (i : Item) (I : List Item) → length (opened (i ∷ I)) ≤ suc (length (opened I))
opened-cons (item.Goal f m) I = omega arith
opened-cons (item.Cut m) I = omega arith
opened-cons (item.Exit k g) I = omega arith
opened-cons (item.Execute k g) I = omega arith
opened-cons (item.Recover k g) I = omega arith

pub joined-shallow : (L : List (List Item)) (c : Cell) → c.rest < length L → AreShallow L → AreShallow (joined L c)
joined-shallow L c r s =
    let small : length (opened (c.item ∷ continuation_in L c.rest)) ≤ length L =
    omega (arith, opened-cons c.item (continuation_in L c.rest), s c.rest r) in
    longer-each (λ (m : ℕ) (I : List Item). length (opened I) ≤ m) L c.item c.rest s small

pub cell-begins : (L : List (List Item)) (cs : List Cell) (i : ℕ) (d : Cell) → AreShallow L → AreLinked L cs → i < length cs
    → Begins (continuations_after L cs) (length L + i) (get_or cs i d)
cell-begins L [] i d s l h = absurd (omega arith)
cell-begins L (c ∷ cs) zero d s l h =
    let M : List (List Item) = continuations_after (joined L c) cs in
    let here : length L < length (joined L c) = omega (arith, length-longer L c.item c.rest) in
    let there : c.rest < length (joined L c) = omega (arith, length-longer L c.item c.rest, l.0) in
    let at_end : continuation_in M (length L) ≡ c.item ∷ continuation_in L c.rest =
    continuation_in-continuations_after (joined L c) cs (length L) here ∙ longer-last L c.item c.rest in
    let rest : continuation_in M c.rest ≡ continuation_in L c.rest = continuation_in-continuations_after (joined L c) cs c.rest there
    ∙ longer-same L c.item c.rest c.rest l.0 in
    let small : length (opened (c.item ∷ continuation_in L c.rest)) ≤ length L =
    omega (arith, opened-cons c.item (continuation_in L c.rest), s c.rest l.0) in
    let e : length L + 0 ≡ length L = omega arith in
    subst (λ n. Begins M n c) (sym e) (record {
      continuation = at_end ∙ ap (λ (I : List Item). c.item ∷ I) (sym rest);
      below = l.0;
      parent = l.1 ∙ ap (λ (I : List Item). head_number (opened I)) (sym at_end);
      depth = l.2 ∙ ap (λ (I : List Item). length (opened I)) (sym at_end);
      shallow = subst (λ (I : List Item). length (opened I) ≤ length L) (sym at_end) small;
    })
cell-begins L (c ∷ cs) (suc i) d s l h =
    let e : length (joined L c) + i ≡ length L + suc i = omega (arith, length-longer L c.item c.rest) in
    subst (λ n. Begins (continuations_after (joined L c) cs) n (get_or cs i d)) e
    (cell-begins (joined L c) cs i d (joined-shallow L c l.0 s) l.3 (omega arith))

pub length_continuations_of : (cs : List Cell) → length (continuations_of cs) ≡ suc (length cs)
length_continuations_of cs = length-continuations_after only_empty cs ∙ omega arith

pub first_list : (cs : List Cell) → continuation_in (continuations_of cs) 0 ≡ []
first_list cs = continuation_in-continuations_after only_empty cs 0 (omega arith)

pub continuation_begins : (cs : List Cell) (n : ℕ) (d : Cell) → AreLinked only_empty cs → 0 < n → n < length (continuations_of cs)
    → Begins (continuations_of cs) n (get_or cs (n - 1) d)
continuation_begins cs n d l p h =
    let e : 1 + (n - 1) ≡ n = omega arith in
    let i : n - 1 < length cs = omega (arith, length_continuations_of cs) in
    subst (λ m. Begins (continuations_of cs) m (get_or cs (n - 1) d)) e (cell-begins only_empty cs (n - 1) d only_empty-shallow l i)

take-first : (L M : List (List Item)) (n : ℕ) → n ≤ length L → take (length L) M ≡ L → take n M ≡ take n L
take-first L M n h e = sym (take-take n (length L) M h) ∙ ap (take n) e

-- what was there is the beginning
first-continuations : (L : List (List Item)) (cs : List Cell) → take (length L) (continuations_after L cs) ≡ L
first-continuations L [] = take-length L
first-continuations L (c ∷ cs) =
    take-first (joined L c) (continuations_after (joined L c) cs) (length L) (omega (arith, length-longer L c.item c.rest))
    (first-continuations (joined L c) cs) ∙ take-append_seam L ((c.item ∷ continuation_in L c.rest) ∷ [])

-- the first cells make the first continuations
cut-after : (L : List (List Item)) (cs : List Cell) (n : ℕ) → n ≤ length cs → continuations_after L (take n cs)
    ≡ take (length L + n) (continuations_after L cs)
cut-after L cs zero h =
    let e : length L ≡ length L + 0 = omega arith in
    sym (first-continuations L cs) ∙ ap (λ k. take k (continuations_after L cs)) e
cut-after L [] (suc n) h = absurd (omega arith)
cut-after L (c ∷ cs) (suc n) h =
    let e : length (joined L c) + n ≡ length L + suc n = omega (arith, length-longer L c.item c.rest) in
    cut-after (joined L c) cs n (omega arith) ∙ ap (λ k. take k (continuations_after (joined L c) cs)) e

pub continuations-cut : (cs : List Cell) (n : ℕ) → 0 < n → n ≤ length (continuations_of cs) → continuations_of (take (n - 1) cs)
    ≡ take n (continuations_of cs)
continuations-cut cs n p h =
    let e : 1 + (n - 1) ≡ n = omega arith in
    cut-after only_empty cs (n - 1) (omega (arith, length_continuations_of cs)) ∙ ap (λ k. take k (continuations_of cs)) e

pub linked-cut : (L : List (List Item)) (cs : List Cell) (n : ℕ) → AreLinked L cs → AreLinked L (take n cs)
linked-cut L cs zero l = tt
linked-cut L [] (suc n) l = tt
linked-cut L (c ∷ cs) (suc n) l = (l.0, l.1, l.2, linked-cut (joined L c) cs n l.3)
