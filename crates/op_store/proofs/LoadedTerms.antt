-- Loading a text, term by term.
use Rattle.std.proofs.Common.{◌≡◌, ℕ, suc, ◌+◌, ◌-◌, ◌<◌, List, length, Err, refl, sym, ap, ◌∙◌, subst, arith}
use Rattle.op_store.specs.declared.loading.load_fault.LoadFault.{LoadFault}
use Rattle.op_store.specs.declared.loading.load_fault.LoadFault.TheVariants.{Memory, At}
use Rattle.op_store.specs.declared.names.locked.Locked.{Locked}
use Rattle.op_trace.specs.Database.{Database}
use Rattle.op_store.specs.Load.{Loaded, loaded, stopped, load_from, load_text}
use Rattle.op_store.specs.Queries.{TellsLoad, fault_named}
use Rattle.op_store.specs.Stored.{Stored, database_of}
use Rattle.op_store.specs.inner.Told.{TellsStep}

load-none : (l : Locked) (w : Database) (line : ℕ) (bytes : List ℕ) → load_from 0 l w line bytes ≡ loaded w
unfolding load_from
load-none l w line bytes = refl

-- so many terms were loaded, and what is left is loaded from there
abbrev pub Left : Locked → Database → List ℕ → ℕ → Database → ℕ → List ℕ → Type 0
Left l start text done w line bytes = (k : ℕ) → load_from (done + k) l start 1 text ≡ load_from k l w line bytes

-- the last term
pub at-last : (l m : Locked) (start w : Database) (text bytes : List ℕ) (done line : ℕ) (x : Loaded) → Left l start text done w line bytes
    → m ≡ l → done < length text + 1
    → ((n : ℕ) → load_from (suc n) m w line bytes ≡ x) → load_text l start text ≡ x
at-last l m start w text bytes done line x h e b step =
    let k : ℕ = length text - done in
    let all : suc (length text) ≡ done + suc k = omega arith in
    ap (λ (n : ℕ). load_from n l start 1 text) all ∙ (h (suc k) ∙ subst (λ (o : Locked). load_from (suc k) o w line bytes ≡ x) e (step k))

-- as many terms as there may be
pub at-most : (l : Locked) (start w : Database) (text bytes : List ℕ) (done line : ℕ) → Left l start text done w line bytes
    → done ≡ suc (length text) → load_text l start text ≡ loaded w
at-most l start w text bytes done line h e =
    let all : suc (length text) ≡ done + 0 = omega arith in
    ap (λ (n : ℕ). load_from n l start 1 text) all ∙ (h 0 ∙ load-none l w line bytes)

pub so-far : (l : Locked) (start w : Database) (text bytes : List ℕ) (done line : ℕ) → Left l start text done w line bytes
    → (load_from (done + 0) l start 1 text).world ≡ w
so-far l start w text bytes done line h = ap (λ (x : Loaded). x.world) (h 0 ∙ load-none l w line bytes)

pub err-told : (U : Type 0) (l m : Locked) (start : Database) (old new : Stored) (text bytes : List ℕ) (done line : ℕ) (e : LoadFault)
    → Left l start text done (database_of old) line bytes → m ≡ l → done < length text + 1
    → TellsStep m (database_of old) line bytes new (Err e) → TellsLoad {U = U} new (Err e) (load_text l start text)
err-told U l m start old new text bytes done line Memory h k b t = tt
err-told U l m start old new text bytes done line (At place kind) h k b t =
    at-last l m start (database_of old) text bytes done line (stopped (database_of new) place (fault_named new.names kind)) h k b t

pub err-stands : (l m : Locked) (start : Database) (old new : Stored) (text bytes : List ℕ) (done line : ℕ) (e : LoadFault)
    → Left l start text done (database_of old) line bytes → m ≡ l → done < length text + 1
    → TellsStep m (database_of old) line bytes new (Err e) → (n : ℕ) × (database_of new ≡ (load_from n l start 1 text).world)
err-stands l m start old new text bytes done line Memory h k b t =
    (done + 0, t ∙ sym (so-far l start (database_of old) text bytes done line h))
err-stands l m start old new text bytes done line (At place kind) h k b t =
    let last =
    at-last l m start (database_of old) text bytes done line (stopped (database_of new) place (fault_named new.names kind)) h k b t in
    (suc (length text), sym (ap (λ (x : Loaded). x.world) last))
