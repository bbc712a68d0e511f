-- What the entries of a shelf hold at the place of a name.
use Rattle.std.proofs.Common.{◌≡◌, ℕ, zero, suc, ◌+◌, ◌<◌, false, List, [], ◌∷◌, ◌++◌, length, take, set, get_or, Some, None, bytes_eq}
use Rattle.std.proofs.Common.{refl, sym, ap, ◌∙◌, arith, add-one}
use Rattle.op_desk.specs.declared.shelf.Entry.{Entry}
use Rattle.op_desk.specs.Contents.{bytes_of, with_file}
use Rattle.op_desk.specs.inner.Entries.{files_of, Holds}
use Rattle.op_desk.proofs.ShelfLaws.{not_chosen, bytes_eq-same}

absent_next : (es : List Entry) (name : List ℕ) (i : ℕ) (d : Entry) → bytes_of (files_of (take i es)) name ≡ None
    → bytes_eq (get_or es i d).name name ≡ false → bytes_of (files_of (take (suc i) es)) name ≡ None
absent_next [] name i d none ne = refl
absent_next (e ∷ es) name zero d none ne = rw ne refl
absent_next (e ∷ es) name (suc i) d none ne =
    let p = not_chosen (bytes_eq e.name name) e.bytes (bytes_of (files_of (take i es)) name) none in
    rw (p.0) (absent_next es name i d p.1 ne)

-- a name that is in no entry before i, and not in the one at i, is in no entry before i + 1
pub absent_more : (es : List Entry) (name : List ℕ) (i : ℕ) (d : Entry) → bytes_of (files_of (take i es)) name ≡ None
    → bytes_eq (get_or es i d).name name ≡ false → bytes_of (files_of (take (i + 1) es)) name ≡ None
absent_more es name i d none ne = rw add-one (absent_next es name i d none ne)

pub bytes_at : (es : List Entry) (name : List ℕ) (i : ℕ) (d : Entry) → i < length es → bytes_of (files_of (take i es)) name ≡ None
    → (get_or es i d).name ≡ name → bytes_of (files_of es) name ≡ Some (get_or es i d).bytes
bytes_at [] name i d lt none is = absurd (omega arith)
bytes_at (e ∷ es) name zero d lt none is = rw (bytes_eq-same e.name name is) refl
bytes_at (e ∷ es) name (suc i) d lt none is =
    let p = not_chosen (bytes_eq e.name name) e.bytes (bytes_of (files_of (take i es)) name) none in
    rw (p.0) (bytes_at es name i d (omega arith) p.1 is)

pub files_of-set : (es : List Entry) (i : ℕ) (new d : Entry) → i < length es → bytes_of (files_of (take i es)) new.name ≡ None
    → (get_or es i d).name ≡ new.name → files_of (set es i new) ≡ with_file (files_of es) new.name new.bytes
files_of-set [] i new d lt none is = absurd (omega arith)
files_of-set (e ∷ es) zero new d lt none is = rw (bytes_eq-same e.name new.name is) refl
files_of-set (e ∷ es) (suc i) new d lt none is =
    let p = not_chosen (bytes_eq e.name new.name) e.bytes (bytes_of (files_of (take i es)) new.name) none in
    rw (p.0) (ap (λ fs. (e.name, e.bytes) ∷ fs) (files_of-set es i new d (omega arith) p.1 is))

pub files_of-push : (es : List Entry) (new : Entry) → bytes_of (files_of es) new.name ≡ None
    → files_of (es ++ new ∷ []) ≡ with_file (files_of es) new.name new.bytes
files_of-push [] new none = refl
files_of-push (e ∷ es) new none =
    let p = not_chosen (bytes_eq e.name new.name) e.bytes (bytes_of (files_of es) new.name) none in
    rw (p.0) (ap (λ fs. (e.name, e.bytes) ∷ fs) (files_of-push es new p.1))

moved : (es xs : List Entry) (name n : List ℕ) (i : ℕ) → Holds es name i → es ≡ xs → name ≡ n → Holds xs n i
moved es xs name n i h p q = rw (← p, ← q) h

-- the bytes of the name are those of the entry at its place
pub bytes_at_place : (es xs : List Entry) (name n : List ℕ) (i : ℕ) (e : Entry) → Holds es name i → es ≡ xs → name ≡ n → e ≡ get_or xs i e
    → bytes_of (files_of xs) n ≡ Some e.bytes
bytes_at_place es xs name n i e h p q is =
    let k = moved es xs name n i h p q in
    bytes_at xs n i e k.within k.before (k.here e) ∙ ap (λ (v : Entry). Some v.bytes) (sym is)

-- an entry put at the place of its name gives the name its bytes
pub files_of-set_at_place : (es xs : List Entry) (name : List ℕ) (i : ℕ) (new : Entry) → Holds es name i → es ≡ xs → name ≡ new.name
    → files_of (set xs i new) ≡ with_file (files_of xs) new.name new.bytes
files_of-set_at_place es xs name i new h p q =
    let k = moved es xs name new.name i h p q in
    files_of-set xs i new new k.within k.before (k.here new)

-- an entry of a new name at the end gives the name its bytes
pub files_of-push_new : (es xs : List Entry) (name : List ℕ) (new : Entry) → bytes_of (files_of es) name ≡ None → es ≡ xs
    → name ≡ new.name → files_of (xs ++ new ∷ []) ≡ with_file (files_of xs) new.name new.bytes
files_of-push_new es xs name new h p q = files_of-push xs new (rw (← p, ← q) h)
