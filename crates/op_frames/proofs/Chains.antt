-- The chain of a box's parents, in boxes by rising number.
use Rattle.std.proofs.Common.{◌≡◌, ℕ, zero, suc, ◌+◌, ◌-◌, ◌<◌, ◌≤◌, ◌==◌, Bool, true, false, List, [], ◌∷◌, ◌++◌, length, take, reverse}
use Rattle.std.proofs.Common.{slice_index_or, filter, nat_lt, refl, sym, ap, ◌∙◌, subst, arith, if◌then◌else◌, cond}
use Rattle.std.specs.List.{All, AllWithin}
use Rattle.std.proofs.lemmas.List.Sorted.{IsNonDecreasingBy-push}
use Rattle.std.proofs.Math.Seq.{take-suc}
use Rattle.std.proofs.lemmas.List.{reverse-append, take_all}
use Rattle.std.proofs.lemmas.List.Elements.{All-nil, All-cons, All-append}
use Rattle.std.proofs.lemmas.Bool.Decides.{nat_tests}
use Rattle.op_frames.specs.declared.boxes.BoxFrame.{BoxFrame}
use Rattle.op_frames.specs.Frames.{chain, open_from, AreRising, HaveLowerParents, AreFalling}

pub chain-zero : (B : List BoxFrame) → chain B 0 ≡ []
chain-zero [] = refl
chain-zero (b ∷ B) = refl

-- a box of another number is passed over
pub chain-other : (b : BoxFrame) (B : List BoxFrame) (n : ℕ) → (b.number == n) ≡ false → chain (b ∷ B) n ≡ chain B n
chain-other b B zero e = sym (chain-zero B)
chain-other b B (suc n) e =
    let z : (suc n == 0) ≡ false = grind (arith, nat_tests) in
    ap (λ (t : Bool). if t then [] else (if b.number == suc n then (suc n, b.goal) ∷ chain B b.parent else chain B (suc n))) z
    ∙ ap (λ (t : Bool). if t then (suc n, b.goal) ∷ chain B b.parent else chain B (suc n)) e

pub chain-here : (b : BoxFrame) (B : List BoxFrame) (n : ℕ) → 0 < n → b.number ≡ n → chain (b ∷ B) n ≡ (n, b.goal) ∷ chain B b.parent
chain-here b B n some e =
    let z : (n == 0) ≡ false = grind (arith, nat_tests) in
    let t : (b.number == n) ≡ true = grind (arith, nat_tests) in
    ap (λ (t : Bool). if t then [] else (if b.number == n then (n, b.goal) ∷ chain B b.parent else chain B n)) z
    ∙ ap (λ (t : Bool). if t then (n, b.goal) ∷ chain B b.parent else chain B n) t

-- the newest of the first comes first
pub newest : {X : Type 0} (xs : List X) (j : ℕ) (d : X) → j < length xs → reverse (take (suc j) xs)
    ≡ slice_index_or xs j d ∷ reverse (take j xs)
newest xs j d h = ap reverse (take-suc xs j d h) ∙ reverse-append (take j xs) (slice_index_or xs j d ∷ [])

-- boxes of other numbers are passed over
pub chain-passes : (xs : List BoxFrame) (n i k : ℕ) (d : BoxFrame) → i + k ≤ length xs
    → ((j : ℕ) → i ≤ j → j < i + k → ((slice_index_or xs j d).number == n) ≡ false)
    → chain (reverse (take (i + k) xs)) n ≡ chain (reverse (take i xs)) n
chain-passes xs n i zero d h o = let e : i + 0 ≡ i = omega arith in ap (λ (x : ℕ). chain (reverse (take x xs)) n) e
chain-passes xs n i (suc k) d h o =
    let e : i + suc k ≡ suc (i + k) = omega arith in
    ap (λ (x : ℕ). chain (reverse (take x xs)) n) e
    ∙ (ap (λ (B : List BoxFrame). chain B n) (newest xs (i + k) d (omega arith))
    ∙ (chain-other (slice_index_or xs (i + k) d) (reverse (take (i + k) xs)) n (o (i + k) (omega arith) (omega arith))
    ∙ chain-passes xs n i k d (omega arith) (λ j low high. o j low (omega arith))))

-- the boxes from one on have other numbers
pub chain-behind : (xs : List BoxFrame) (n i : ℕ) (d : BoxFrame) → i ≤ length xs
    → ((j : ℕ) → i ≤ j → j < length xs → ((slice_index_or xs j d).number == n) ≡ false)
    → chain (reverse xs) n ≡ chain (reverse (take i xs)) n
chain-behind xs n i d h o =
    let e : i + (length xs - i) ≡ length xs = omega arith in
    ap (λ (B : List BoxFrame). chain (reverse B) n) (sym (take_all (i + (length xs - i)) xs (omega arith)))
    ∙ chain-passes xs n i (length xs - i) d (omega arith) (λ j low high. o j low (omega arith))

-- a box with the number, and none with it behind
pub chain-found : (xs : List BoxFrame) (n i : ℕ) (b : BoxFrame) → 0 < n → i < length xs → slice_index_or xs i b ≡ b → b.number ≡ n
    → ((j : ℕ) → i < j → j < length xs → n < (slice_index_or xs j b).number)
    → chain (reverse xs) n ≡ (n, b.goal) ∷ chain (reverse (take i xs)) b.parent
chain-found xs n i b some there is number above =
    chain-behind xs n (suc i) b (omega arith) (λ j low high. let m : n < (slice_index_or xs j b).number = above j (omega arith) high in
    grind (arith, nat_tests))
    ∙ (ap (λ (B : List BoxFrame). chain B n) (newest xs i b there ∙ ap (λ (x : BoxFrame). x ∷ reverse (take i xs)) is)
    ∙ chain-here b (reverse (take i xs)) n some number)

-- no box has the number: those up to a place have lesser ones, those behind greater ones
pub chain-none : (xs : List BoxFrame) (n i : ℕ) (d : BoxFrame) → i ≤ length xs
    → ((j : ℕ) → j < i → (slice_index_or xs j d).number < n)
    → ((j : ℕ) → i ≤ j → j < length xs → n < (slice_index_or xs j d).number)
    → chain (reverse xs) n ≡ []
chain-none xs n i d there below above =
    let e : 0 + i ≡ i = omega arith in
    chain-behind xs n i d there (λ j low high. let m : n < (slice_index_or xs j d).number = above j low high in grind (arith, nat_tests))
    ∙ (ap (λ (k : ℕ). chain (reverse (take k xs)) n) (sym e)
    ∙ chain-passes xs n 0 i d (omega arith) (λ j low high. let m : (slice_index_or xs j d).number < n = below j (omega arith) in
    grind (arith, nat_tests)))

-- what passes a test stands before what doesn't
pub filter-partition : {X : Type 0} (p : X → Bool) (xs : List X) (k : ℕ) → k ≤ length xs
    → AllWithin (λ x. p x ≡ true) xs 0 k → AllWithin (λ x. p x ≡ false) xs k (length xs) → filter p xs ≡ take k xs
filter-partition p [] zero h a b = refl
filter-partition p [] (suc k) h a b = absurd (omega arith)
filter-partition {X} p (x ∷ xs) zero h a b =
    ap (λ (t : Bool). cond t (x ∷ filter p xs) (filter p xs)) (b 0 x (omega arith) (omega arith))
    ∙ filter-partition p xs zero (omega arith) (λ i d low high. absurd (omega arith))
    (λ i d low high. b (suc i) d (omega arith) (omega arith))
filter-partition {X} p (x ∷ xs) (suc k) h a b =
    ap (λ (t : Bool). cond t (x ∷ filter p xs) (filter p xs)) (a 0 x (omega arith) (omega arith))
    ∙ ap (λ (l : List X). x ∷ l) (filter-partition p xs k (omega arith) (λ i d low high. a (suc i) d (omega arith) (omega arith))
    (λ i d low high. b (suc i) d (omega arith) (omega arith)))

pub rising-push : (B : List BoxFrame) (b : BoxFrame) → AreRising B → All (λ (x : BoxFrame). x.number < b.number) B
    → AreRising (B ++ b ∷ [])
rising-push B b rises less =
    IsNonDecreasingBy-push (λ (x : BoxFrame). x.number) B b rises
    (λ d some. let l : (slice_index_or B (length B - 1) d).number < b.number = less (length B - 1) d (omega arith) in omega (arith, l))

-- a box that is pushed begins a chain, and the others stay
pub chain-pushed : (B : List BoxFrame) (b : BoxFrame) → 0 < b.number → open_from (B ++ b ∷ []) b.number
    ≡ (b.number, b.goal) ∷ open_from B b.parent
chain-pushed B b some = ap (λ (R : List BoxFrame). chain R b.number) (reverse-append B (b ∷ []))
    ∙ chain-here b (reverse B) b.number some refl

pub chain-kept : (B : List BoxFrame) (b : BoxFrame) (n : ℕ) → n < b.number → open_from (B ++ b ∷ []) n ≡ open_from B n
chain-kept B b n less =
    let e : (b.number == n) ≡ false = grind (arith, nat_tests) in
    ap (λ (R : List BoxFrame). chain R n) (reverse-append B (b ∷ [])) ∙ chain-other b (reverse B) n e

rising-behind : (b : BoxFrame) (B : List BoxFrame) → AreRising (b ∷ B) → AreRising B
rising-behind b B r i j x h l = r (suc i) (suc j) x (omega arith) (omega arith)

-- how many boxes stand first with numbers below one
abbrev pub IsFront : List BoxFrame → ℕ → ℕ → Type 0
IsFront B d k = (k ≤ length B) × AllWithin (λ (x : BoxFrame). nat_lt x.number d ≡ true) B 0 k
    × AllWithin (λ (x : BoxFrame). nat_lt x.number d ≡ false) B k (length B)

pub front : (B : List BoxFrame) (d : ℕ) → AreRising B → (k : ℕ) × IsFront B d k
front [] d r = (0, (omega arith, (λ i x low high. absurd (omega arith)), (λ i x low high. absurd (omega arith))))
front (b ∷ B) d r = go (nat_lt b.number d) refl (front B d (rising-behind b B r))
  where
    go : (t : Bool) → nat_lt b.number d ≡ t → (k : ℕ) × IsFront B d k → (k : ℕ) × IsFront (b ∷ B) d k
    go true e f = (suc f.0, (omega (arith, f.1.0), first, behind))
      where
        first : AllWithin (λ (x : BoxFrame). nat_lt x.number d ≡ true) (b ∷ B) 0 (suc f.0)
        first zero x low high = e
        first (suc i) x low high = f.1.1 i x (omega arith) (omega arith)

        behind : AllWithin (λ (x : BoxFrame). nat_lt x.number d ≡ false) (b ∷ B) (suc f.0) (length (b ∷ B))
        behind zero x low high = absurd (omega arith)
        behind (suc i) x low high = f.1.2 i x (omega arith) (omega arith)
    go false e f = (0, (omega arith, (λ i x low high. absurd (omega arith)), (λ i x low high. above i x high)))
      where
        above : (i : ℕ) (x : BoxFrame) → i < length (b ∷ B) → nat_lt (slice_index_or (b ∷ B) i x).number d ≡ false
        above i x h =
            let least : b.number ≤ (slice_index_or (b ∷ B) i x).number = r 0 i x (omega arith) h in
            grind (arith, nat_tests)

-- a drop of boxes leaves the chains of the lesser ones
pub chain-dropped : (B : List BoxFrame) (d n : ℕ) → AreRising B → n < d → open_from (filter (λ (b : BoxFrame). nat_lt b.number d) B) n
    ≡ open_from B n
chain-dropped B d n r less =
    let x : BoxFrame = record { number = 0; parent = 0; goal = 0; mark = record { terms = 0; bound = 0 } } in
    let f = front B d r in
    ap (λ (L : List BoxFrame). chain (reverse L) n) (filter-partition (λ (b : BoxFrame). nat_lt b.number d) B f.0 f.1.0 f.1.1 f.1.2)
    ∙ sym (chain-behind B n f.0 x f.1.0
    (λ j low high.
    let m : nat_lt (slice_index_or B j x).number d ≡ false = f.1.2 j x low high in
    grind (arith, nat_tests)))

all-behind : {X : Type 0} (P : X → Type 0) (x : X) (xs : List X) → All P (x ∷ xs) → All P xs
all-behind P x xs a k d h = a (suc k) d (omega arith)

all-reverse : {X : Type 0} (P : X → Type 0) (xs : List X) → All P xs → All P (reverse xs)
all-reverse P [] a = a
all-reverse P (x ∷ xs) a =
    subst (All P) (sym (reverse-append (x ∷ []) xs))
    (All-append P (reverse xs) (x ∷ []) (all-reverse P xs (all-behind P x xs a)) (All-cons P x [] (a 0 x (omega arith)) (All-nil P)))

-- a box and those around it have no greater number than the first
chain-below : (B : List BoxFrame) (n : ℕ) → HaveLowerParents B → All (λ (p : ℕ × ℕ). p.0 ≤ n) (chain B n)
chain-below [] n low = All-nil (λ (p : ℕ × ℕ). p.0 ≤ n)
chain-below (b ∷ B) n low =
    let behind : HaveLowerParents B = all-behind (λ (x : BoxFrame). x.parent < x.number) b B low in
    go (n == 0) (b.number == n) refl (chain-below B b.parent behind) (chain-below B n behind)
  where
    parent : b.parent < b.number
    parent = low 0 b (omega arith)

    around : b.number ≡ n → All (λ (p : ℕ × ℕ). p.0 ≤ b.parent) (chain B b.parent) → All (λ (p : ℕ × ℕ). p.0 ≤ n) (chain B b.parent)
    around e a k d h = let l : (slice_index_or (chain B b.parent) k d).0 ≤ b.parent = a k d h in omega (arith, l, parent, e)

    go : (z t : Bool) → (b.number == n) ≡ t → All (λ (p : ℕ × ℕ). p.0 ≤ b.parent) (chain B b.parent)
        → All (λ (p : ℕ × ℕ). p.0 ≤ n) (chain B n)
        → All (λ (p : ℕ × ℕ). p.0 ≤ n) (if z then [] else (if t then (n, b.goal) ∷ chain B b.parent else chain B n))
    go true t e a k = All-nil (λ (p : ℕ × ℕ). p.0 ≤ n)
    go false true e a k =
        let number : b.number ≡ n = grind (arith, nat_tests) in
        All-cons (λ (p : ℕ × ℕ). p.0 ≤ n) (n, b.goal) (chain B b.parent) (omega arith) (around number a)
    go false false e a k = k

chain-falls : (B : List BoxFrame) (n : ℕ) → HaveLowerParents B → AreFalling (chain B n)
chain-falls [] n low = tt
chain-falls (b ∷ B) n low =
    let behind : HaveLowerParents B = all-behind (λ (x : BoxFrame). x.parent < x.number) b B low in
    go (n == 0) (b.number == n) refl (chain-below B b.parent behind) (chain-falls B b.parent behind) (chain-falls B n behind)
  where
    parent : b.parent < b.number
    parent = low 0 b (omega arith)

    around : b.number ≡ n → All (λ (p : ℕ × ℕ). p.0 ≤ b.parent) (chain B b.parent) → All (λ (p : ℕ × ℕ). p.0 < n) (chain B b.parent)
    around e a k d h = let l : (slice_index_or (chain B b.parent) k d).0 ≤ b.parent = a k d h in omega (arith, l, parent, e)

    go : (z t : Bool) → (b.number == n) ≡ t → All (λ (p : ℕ × ℕ). p.0 ≤ b.parent) (chain B b.parent) → AreFalling (chain B b.parent)
        → AreFalling (chain B n) → AreFalling (if z then [] else (if t then (n, b.goal) ∷ chain B b.parent else chain B n))
    go true t e a f k = tt
    go false true e a f k =
        let number : b.number ≡ n = grind (arith, nat_tests) in
        (around number a, f)
    go false false e a f k = k

-- the numbers of open boxes fall
pub open-falls : (B : List BoxFrame) (n : ℕ) → HaveLowerParents B → AreFalling (open_from B n)
open-falls B n low = chain-falls (reverse B) n (all-reverse (λ (x : BoxFrame). x.parent < x.number) B low)

-- a box that is called in one of lesser number
pub lower-push : (B : List BoxFrame) (b : BoxFrame) → HaveLowerParents B → b.parent < b.number → HaveLowerParents (B ++ b ∷ [])
lower-push B b low less =
    let P : BoxFrame → Type 0 = λ (x : BoxFrame). x.parent < x.number in
    All-append P B (b ∷ []) low (All-cons P b [] less (All-nil P))

-- a chain through a box goes on in all boxes as in those before it
pub chain-parent : (B : List BoxFrame) (i : ℕ) (b : BoxFrame) → AreRising B → HaveLowerParents B → i < length B → slice_index_or B i b ≡ b
    → open_from B b.parent ≡ chain (reverse (take i B)) b.parent
chain-parent B i b rises low there is =
    let here : (slice_index_or B i b).number ≡ b.number = ap (λ (x : BoxFrame). x.number) is in
    let outer : (slice_index_or B i b).parent ≡ b.parent = ap (λ (x : BoxFrame). x.parent) is in
    let less : (slice_index_or B i b).parent < (slice_index_or B i b).number = low i b there in
    chain-behind B b.parent i b (omega arith)
    (λ j from high.
    let up : (slice_index_or B i b).number ≤ (slice_index_or B j b).number = rises i j b from high in
    let more : b.parent < (slice_index_or B j b).number = omega arith in
    grind (arith, nat_tests))
