-- Calls of a feed, one after the other.
use Rattle.std.proofs.Common.{◌≡◌, ℕ, ◌+◌, ◌≤◌, min, List, [], ◌++◌, length, Option, Some, None, IfSome, refl, sym, ap, ◌∙◌}
use Rattle.std.proofs.Common.{subst, arith, append-nil, append_assoc, length-append}
use Rattle.std.proofs.KnownBytes.{Appends-nil, Appends-trans}
use Rattle.op_desk.specs.Contents.{Known}
use Rattle.op_trace.specs.Outside.{Taking, nothing, follow, and_then}
use Rattle.op_trace.specs.Run.{Run, output_at}
use Rattle.op_machine.proofs.TakingLaws.{follow-then}
use Rattle.op_machine.specs.declared.turn.Ending.{Ending}
use Rattle.op_machine.specs.Machine.{HasBallNames}
use Rattle.op_moves.specs.Places.{event_count, Rising}
use Rattle.op_retrace.specs.declared.feed.FeedStep.{FeedStep}
use Rattle.op_retrace.specs.declared.feed.FeedStep.TheVariants as step
use Rattle.op_retrace.specs.Fed.{Fed, Stands, IsSound, Looked, Pays, ComesTo, Advances, IsReset, source_of}
use Rattle.op_retrace.specs.Went.{WentOver, Went}
use Rattle.op_retrace.proofs.TakenSources.{takes-nothing, takes-then, bytes-then, over-takes-nothing}

-- a place costs nothing beyond itself
pays-nothing : (keeps : ℕ) (r : Run) (p n : ℕ) → Pays keeps r p p n n
pays-nothing keeps r p n = record { later = omega arith; most = omega arith; least = λ z. omega arith }

pub pays-then : (keeps : ℕ) (r : Run) (a b c n m k : ℕ) → Rising r → a ≤ b → b ≤ c → Pays keeps r a b n m → Pays keeps r b c m k
    → Pays keeps r a c n k
pays-then keeps r a b c n m k rising h l p q =
    let s = rising.steps a b h in
    let t = rising.steps b c l in
    let low = rising.steps (min a (event_count r)) (min b (event_count r)) (omega arith) in
    let high = rising.steps (min b (event_count r)) (min c (event_count r)) (omega arith) in
    let x = p.most in
    let y = q.most in
    let first = p.later in
    let second = q.later in
    record {
      later = omega arith;
      most = omega arith;
      least = λ z. (let u = p.least z in let v = q.least z in omega arith);
    }

-- nothing was done
pub went-nothing : (v : Fed) (left written : Known) (n : ℕ) → v.fault ≡ None → v.place ≤ v.furthest
    → Went v.place v v left left written written n n
went-nothing v left written n none within = record {
  none = none;
  still_none = none;
  loaded = refl;
  keeps = refl;
  later = omega arith;
  furthest = omega arith;
  taking = nothing;
  takes = takes-nothing (source_of left v);
  put = [];
  appends = Appends-nil written;
  over = λ rest. record {
    run = refl;
    output = sym (append-nil (output_at (v.run rest) v.furthest));
    looked = omega arith;
    pays = pays-nothing v.keeps (v.run rest) v.place n;
  };
}

-- a reset
pub went-reset : (old new : Fed) (left written : Known) (n : ℕ) → old.fault ≡ None → IsReset old new
    → Went 0 old new left left written written n n
went-reset old new left written n none e =
    subst (λ (v : Fed). Went 0 old v left left written written n n) (sym e) (record {
      none = none;
      still_none = none;
      loaded = refl;
      keeps = refl;
      later = omega arith;
      furthest = omega arith;
      taking = nothing;
      takes = takes-nothing (source_of left old);
      put = [];
      appends = Appends-nil written;
      over = λ rest. record {
        run = refl;
        output = sym (append-nil (output_at (old.run rest) old.furthest));
        looked = omega arith;
        pays = pays-nothing old.keeps (old.run rest) 0 n;
      };
    })

-- an advance goes no place back
pub comes-later : (s : FeedStep) (r : Run) (old new : Fed) → Stands old r → ComesTo s r old new → old.place ≤ new.place
comes-later step.Event r old new t c = let p = c.place in omega arith
comes-later step.End r old new t c = go old.ending t.looked
  where
    go : (o : Option Ending) → Looked old r o → old.place ≤ new.place
    go None l = let w = t.within in let p = c.place in omega arith
    go (Some e) l = let w = t.within in let f = l.furthest in let p = c.place in omega arith

-- and then an advance
pub went-on : (from : ℕ) (s : FeedStep) (old mid new : Fed) (left left_mid left_now written written_mid written_now : Known)
    (before between after : ℕ)
    → Went from old mid left left_mid written written_mid before between → IsSound mid
    → Advances s mid new left_mid left_now written_mid written_now between after → new.fault ≡ None
    → Went from old new left left_now written written_now before after
went-on from s old mid new left left_mid left_now written written_mid written_now before between after w sound a none =
    let t : Taking = w.taking in
    let u : Taking = a.taking in
    let bytes : (and_then t u).bytes ≡ t.bytes ++ u.bytes =
    bytes-then t u (λ o. over-takes-nothing t u (source_of left old) (source_of left_mid mid) (source_of left_now new) w.takes a.takes o) in
    let place : mid.place ≤ new.place =
    comes-later s (mid.run (follow u [])) mid new (sound w.still_none (follow u [])) (a.over []).comes in
    record {
      none = w.none;
      still_none = none;
      loaded = a.loaded ∙ w.loaded;
      keeps = a.keeps ∙ w.keeps;
      later = let l = w.later in omega arith;
      furthest = let f = w.furthest in let g = a.furthest in omega arith;
      taking = and_then t u;
      takes = takes-then t u (source_of left old) (source_of left_mid mid) (source_of left_now new) w.takes a.takes;
      put = w.put ++ a.put;
      appends = Appends-trans written written_mid written_now w.put a.put w.appends a.appends;
      over = λ rest. over rest bytes place;
    }
  where
    over : (rest : List ℕ) → (and_then w.taking a.taking).bytes ≡ w.taking.bytes ++ a.taking.bytes → mid.place ≤ new.place
        → WentOver from (old.run (follow (and_then w.taking a.taking) rest)) (new.run rest) old new (and_then w.taking a.taking).bytes
        (w.put ++ a.put) before after
    over rest bytes place =
        let q : Run = mid.run (follow a.taking rest) in
        let x = w.over (follow a.taking rest) in
        let y = a.over rest in
        let joined : follow (and_then w.taking a.taking) rest ≡ follow w.taking (follow a.taking rest) =
        follow-then w.taking a.taking rest in
        let same : old.run (follow (and_then w.taking a.taking) rest) ≡ q = ap old.run joined ∙ sym x.run in
        let at_first : WentOver from q q old mid w.taking.bytes w.put before between =
        subst (λ (r : Run). WentOver from r q old mid w.taking.bytes w.put before between) (sym x.run) x in
        let stands : Stands mid q = sound w.still_none (follow a.taking rest) in
        let k : Pays old.keeps q mid.place new.place between after =
        subst (λ (n : ℕ). Pays n q mid.place new.place between after) w.keeps y.pays in
        let long : length (and_then w.taking a.taking).bytes ≡ length w.taking.bytes + length a.taking.bytes =
        ap length bytes ∙ length-append w.taking.bytes a.taking.bytes in
        subst (λ (r : Run). WentOver from r (new.run rest) old new (and_then w.taking a.taking).bytes (w.put ++ a.put) before after)
        (sym same) (record {
          run = y.run;
          output = y.output ∙ ap (λ (xs : List ℕ). xs ++ a.put) at_first.output
              ∙ append_assoc (output_at q old.furthest) w.put a.put;
          looked = let l = y.looked in let m = at_first.looked in omega arith;
          pays = pays-then old.keeps q from mid.place new.place before between after stands.rising w.later place at_first.pays k;
        })

-- at the end the names of a ball are those of the machine that stands there
pub end-known : (v : Fed) (r : Run) → Stands v r → v.place ≡ event_count r + 1
    → IfSome v.ending (HasBallNames (length v.machine.tables.names))
end-known v r s there = go v.ending s.looked
  where
    go : (o : Option Ending) → Looked v r o → IfSome o (HasBallNames (length v.machine.tables.names))
    go None l = tt
    go (Some e) l = let f = l.furthest in l.known (omega arith)

pub advanced-known : (old new : Fed) (left left_now written written_now : Known) (before after : ℕ)
    → Advances step.End old new left left_now written written_now before after → IsSound new → new.fault ≡ None
    → IfSome new.ending (HasBallNames (length new.machine.tables.names))
advanced-known old new left left_now written written_now before after a sound none =
    let x = a.over [] in
    let r : Run = old.run (follow a.taking []) in
    end-known new r (subst (λ (q : Run). Stands new q) x.run (sound none [])) x.comes.place
