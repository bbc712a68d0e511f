-- Bytes that are put in parts, and files that are taken block by block.
use Rattle.std.proofs.Common.{◌≡◌, ℕ, ◌+◌, ◌-◌, ◌<◌, ◌≤◌, List, [], ◌++◌, length, take, drop, Option, Some, None, IsSomeAnd, refl, sym, ap}
use Rattle.std.proofs.Common.{◌∙◌, arith, append_assoc, length-append, length-drop}
use Rattle.std.specs.Prelude.{⊤}
use Rattle.std.proofs.lemmas.List.{take_rest, take_all, take_at, length-take}
use Rattle.std.proofs.Math.Seq.{take-add}
use Rattle.std.specs.Io.KnownBytes.{Appends}
use Rattle.op_desk.specs.Contents.{Known, Files, FileGives, Gives, IsFile, IsLonger, bytes_of}

-- bytes that grow twice grow by both
pub Appends-then : (a b c : Known) (xs ys : List ℕ) → Appends a b xs → Appends b c ys → Appends a c (xs ++ ys)
Appends-then None b c xs ys p q = tt
Appends-then (Some s) None c xs ys p q = absurd p
Appends-then (Some s) (Some t) None xs ys p q = absurd q
Appends-then (Some s) (Some t) (Some u) xs ys p q = q ∙ ap (λ v. v ++ ys) p ∙ append_assoc s xs ys

-- after n more of the bytes from k on, the first k + n were put
pub Appends-more : (a b c : Known) (xs : List ℕ) (k n : ℕ) → Appends a b (take k xs)
    → Appends b c (take n (take (length xs - k) (drop k xs))) → Appends a c (take (k + n) xs)
Appends-more a b c xs k n p q =
    let q' = rw take_rest at q in
    rw (take-add k n xs) (Appends-then a b c (take k xs) (take n (drop k xs)) p q')

-- a file begins with the bytes
abbrev pub BeginsAt : Known → List ℕ → Type 0
BeginsAt None bytes = ⊤
BeginsAt (Some file) bytes = (length bytes ≤ length file) × (bytes ≡ take (length bytes) file)

-- the name's file begins with the bytes, where the shelf is told
abbrev pub Begins : Option Files → List ℕ → List ℕ → Type 0
Begins None name bytes = ⊤
Begins (Some files) name bytes = BeginsAt (bytes_of files name) bytes

pub Begins-nil : (shelf : Option Files) (name : List ℕ) → Begins shelf name []
Begins-nil None name = tt
Begins-nil (Some files) name = at_nil (bytes_of files name)
  where
    at_nil : (o : Known) → BeginsAt o []
    at_nil None = tt
    at_nil (Some file) = (omega arith, refl)

-- the block lies within the file
block_length : (file block : List ℕ) (k n : ℕ) → n ≤ length block → FileGives file k block n → n ≤ length file - k
block_length file block k n fits gives =
    let e = ap length gives.bytes in
    let f = simp (length-take, length-drop) at e in
    omega arith

file_more : (file bytes block : List ℕ) (n : ℕ) → n ≤ length block → BeginsAt (Some file) bytes → FileGives file (length bytes) block n
    → BeginsAt (Some file) (bytes ++ take n block)
file_more file bytes block n fits begins gives =
    let short = block_length file block (length bytes) n fits gives in
    let size : length (bytes ++ take n block) ≡ length bytes + n = simp (length-append, length-take) (omega arith) in
    let all : bytes ++ take n block ≡ take (length bytes + n) file = ap (λ v. v ++ take n block) begins.1
    ∙ ap (λ v. take (length bytes) file ++ v) gives.bytes ∙ sym (take-add (length bytes) n file) in
    (let b = begins.0 in omega arith, all ∙ ap (λ k. take k file) (sym size))

pub Begins-more : (shelf : Option Files) (name bytes block : List ℕ) (n : ℕ) → n ≤ length block → Begins shelf name bytes
    → Gives shelf name (length bytes) block n → Begins shelf name (bytes ++ take n block)
Begins-more None name bytes block n fits begins gives = tt
Begins-more (Some files) name bytes block n fits begins gives = at_file (bytes_of files name) begins gives
  where
    at_file : (o : Known) → BeginsAt o bytes → IsSomeAnd o (λ file. FileGives file (length bytes) block n)
        → BeginsAt o (bytes ++ take n block)
    at_file None b g = tt
    at_file (Some file) b g = file_more file bytes block n fits b g

-- what begins a file of no more bytes is the file
pub IsFile-at_end : (shelf : Option Files) (name bytes block : List ℕ) (n : ℕ) → n ≡ 0 → 0 < length block → Begins shelf name bytes
    → Gives shelf name (length bytes) block n → IsFile shelf name bytes
IsFile-at_end None name bytes block n none room begins gives = tt
IsFile-at_end (Some files) name bytes block n none room begins gives = at_file (bytes_of files name) begins gives
  where
    at_file : (o : Known) → BeginsAt o bytes → IsSomeAnd o (λ file. FileGives file (length bytes) block n) → o ≡ Some bytes
    at_file None b g = absurd g
    at_file (Some file) b g = ap (λ v. Some v) (sym (b.1 ∙ take_all (length bytes) file (g.end none room)))

-- a block past the limit lies in a file past the limit
pub IsLonger-at_block : (shelf : Option Files) (name bytes block : List ℕ) (n limit : ℕ) → n ≤ length block → limit < length bytes + n
    → Begins shelf name bytes → Gives shelf name (length bytes) block n → IsLonger shelf name limit
IsLonger-at_block None name bytes block n limit fits past begins gives = tt
IsLonger-at_block (Some files) name bytes block n limit fits past begins gives = at_file (bytes_of files name) begins gives
  where
    at_file : (o : Known) → BeginsAt o bytes → IsSomeAnd o (λ file. FileGives file (length bytes) block n)
        → IsSomeAnd o (λ file. limit < length file)
    at_file None b g = absurd g
    at_file (Some file) b g =
        let short = block_length file block (length bytes) n fits g in
        let within = b.0 in
        omega arith

pub grown_length : (bytes xs grown : List ℕ) (n : ℕ) → grown ≡ bytes ++ take n xs → length grown ≤ length bytes + n
grown_length bytes xs grown n e =
    let f = simp (length-append, length-take) at (ap length e) in
    omega arith

-- a turn of taking a file
pub Begins-step : (shelf shelf' : Option Files) (name bytes block held grown : List ℕ) (from n : ℕ) → shelf' ≡ shelf → from ≡ length bytes
    → n ≤ length block → Begins shelf name bytes → Gives shelf' name from block n → held ≡ block → grown ≡ bytes ++ take n held
    → Begins shelf name grown
Begins-step shelf shelf' name bytes block held grown from n s f fits begins gives h e =
    rw (e, h) (Begins-more shelf name bytes block n fits begins (rw (← s, ← f) gives))

pub at_buffer : (block rest held : List ℕ) (size : ℕ) → held ≡ take size (block ++ rest) → length block ≡ size → held ≡ block
at_buffer block rest held size h s = h ∙ take_at block rest size s
