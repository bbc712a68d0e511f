-- Walks of a feed, one after the other.
use Rattle.std.proofs.Common.{◌≡◌, ℕ, ◌+◌, ◌<◌, ◌≤◌, List, Option, Some, None, refl, sym, ap}
use Rattle.std.proofs.Common.{leb, ◌^◌, [], ◌∙◌, subst, arith, Result, Ok, Err, IsErrOf, OnOk, IfErr}
use Rattle.std.proofs.lemmas.Bool.{le-leb, lt-leb}
use Rattle.op_base.specs.Rising.{Rose}
use Rattle.op_logic.proofs.BoolCases.{if_true, if_false, by_order}
use Rattle.op_desk.specs.declared.chan.Chan.TheVariants.{Input, Output}
use Rattle.op_desk.proofs.FrameLaws.{Same-refl, Same-then, SameBut-from_Same, SameBut-then}
use Rattle.op_trace.specs.Outside.{follow}
use Rattle.op_trace.specs.Run.{Run}
use Rattle.op_machine.specs.declared.turn.Ending.{Ending}
use Rattle.op_moves.specs.Places.{event_count}
use Rattle.op_retrace.specs.declared.feed.FeedStep.{FeedStep}
use Rattle.op_retrace.specs.declared.feed.FeedStep.TheVariants as step
use Rattle.op_retrace.specs.declared.fault.FeedFault.{FeedFault}
use Rattle.op_retrace.specs.declared.fault.FeedFault.TheVariants as fault
use Rattle.op_retrace.specs.Fed.{Fed, IsSound, Stands, Looked, Pays, ComesTo, Advances, IsReset}
use Rattle.op_retrace.specs.Sight.{Sight, Apart, Counts}
use Rattle.op_retrace.proofs.WaysOn.{pays-then}
use Rattle.op_cursor.specs.Comes.{Comes}
use Rattle.op_cursor.specs.inner.Walks.{Calm, Goes, Walks, Advanced, behind, start_of}
use Rattle.op_cursor.proofs.JoinedCalls.{comes-nothing, comes-so, comes-then, comes-reset}

-- desks
pub apart-nothing : (a : Sight) → Apart a a
apart-nothing a = record {
  left = SameBut-from_Same Input a.left a.left (Same-refl a.left);
  written = SameBut-from_Same Output a.written a.written (Same-refl a.written);
  shelf = refl;
  standard = Same-refl a.standard;
  commands = refl;
  talk = refl;
  note = refl;
}

pub apart-then : (a m b : Sight) → Apart a m → Apart m b → Apart a b
apart-then a m b p q = record {
  left = SameBut-then Input a.left m.left b.left p.left q.left;
  written = SameBut-then Output a.written m.written b.written p.written q.written;
  shelf = q.shelf ∙ p.shelf;
  standard = Same-then p.standard q.standard;
  commands = q.commands ∙ p.commands;
  talk = q.talk ∙ p.talk;
  note = q.note ∙ p.note;
}

pub calm-nothing : (a : Sight) → Calm a a
calm-nothing a = record { apart = apart-nothing a; reads = refl; writes = refl; steady = λ s. s }

pub calm-then : (a m b : Sight) → Calm a m → Calm m b → Calm a b
calm-then a m b p q = record {
  apart = apart-then a m b p.apart q.apart;
  reads = q.reads ∙ p.reads;
  writes = q.writes ∙ p.writes;
  steady = λ s. q.steady (p.steady s);
}

-- an answer that is no fault counts none
pub calm-ok : {T : Type 0} (a b : Sight) (x : T) → Apart a b → Counts a b (Ok x) → Calm a b
calm-ok a b x p c = record { apart = p; reads = c.reads (λ e. cc); writes = c.writes (λ e. cc); steady = c.steady }

pub same-fault : {T : Type 0} (f g : FeedFault) → IsErrOf {T = T} (Err f) g → f ≡ g
same-fault f g e = cc

pub counts-fault : {T U : Type 0} (a b : Sight) (f : FeedFault) → Counts {T = T} a b (Err f) → Counts {T = U} a b (Err f)
counts-fault {T = T} {U = U} a b f c = record {
  reads = λ h. c.reads (λ e. h (ap Err (same-fault f fault.Read e)));
  read = λ e. c.read (ap Err (same-fault f fault.Read e));
  writes = λ h. c.writes (λ e. h (ap Err (same-fault f fault.Write e)));
  write = λ e. c.write (ap Err (same-fault f fault.Write e));
  steady = c.steady;
  unread = λ s e. c.unread s (ap Err (same-fault f fault.Read e));
  unwritten = λ s e. c.unwritten s (ap Err (same-fault f fault.Write e));
}

-- behind calls that counted no fault
pub counts-then : {T : Type 0} (a m b : Sight) (r : Result T FeedFault) → Calm a m → Counts m b r → Counts a b r
counts-then a m b r p c = record {
  reads = λ h. c.reads h ∙ p.reads;
  read = λ e. subst (λ n. Rose n b.reads) p.reads (c.read e);
  writes = λ h. c.writes h ∙ p.writes;
  write = λ e. subst (λ n. Rose n b.writes) p.writes (c.write e);
  steady = λ s. c.steady (p.steady s);
  unread = λ s. c.unread (p.steady s);
  unwritten = λ s. c.unwritten (p.steady s);
}

pub counts-calm : {T : Type 0} (a b : Sight) (r : Result T FeedFault) → ((f : FeedFault) → IsErrOf r f → ⊥) → Calm a b → Counts a b r
counts-calm a b r h c = record {
  reads = λ k. c.reads;
  read = λ e. absurd (h fault.Read e);
  writes = λ k. c.writes;
  write = λ e. absurd (h fault.Write e);
  steady = c.steady;
  unread = λ s e. h fault.Read e;
  unwritten = λ s e. h fault.Write e;
}

pub goes-then : (old mid new : Fed) (a m b : Sight) → Goes old mid a m → Goes mid new m b → Goes old new a b
goes-then old mid new a m b p q = record {
  none = p.none;
  still_none = q.still_none;
  sound = p.sound;
  still_sound = q.still_sound;
  furthest = let h = p.furthest in let k = q.furthest in omega arith;
  calm = calm-then a m b p.calm q.calm;
}

-- an advance goes no place back
pub comes-later : (s : FeedStep) (r : Run) (old new : Fed) → Stands old r → ComesTo s r old new → old.place ≤ new.place
comes-later step.Event r old new t c = let p = c.place in omega arith
comes-later step.End r old new t c = go old.ending t.looked
  where
    go : (o : Option Ending) → Looked old r o → old.place ≤ new.place
    go None l = let w = t.within in let p = c.place in omega arith
    go (Some e) l = let w = t.within in let f = l.furthest in let p = c.place in omega arith

pub advances-comes : (s : FeedStep) (old new : Fed) (a b : Sight) (before after : ℕ)
    → Advances s old new (a.left Input) (b.left Input) (a.written Output) (b.written Output) before after
    → Comes (λ r. ComesTo s r old new × Pays old.keeps r old.place new.place before after) old new a b
advances-comes s old new a b before after d = record {
  loaded = d.loaded;
  keeps = d.keeps;
  taking = d.taking;
  takes = d.takes;
  put = d.put;
  appends = d.appends;
  over = λ rest. (let o = d.over rest in record { run = o.run; output = o.output; looked = o.looked });
  so = λ rest. (let o = d.over rest in (o.comes, o.pays));
}

pub place-within : (v : Fed) (r : Run) → Stands v r → v.place ≤ event_count r + 1
place-within v r s = go v.ending s.looked
  where
    go : (o : Option Ending) → Looked v r o → v.place ≤ event_count r + 1
    go None l = let w = s.within in omega arith
    go (Some e) l = let w = s.within in let f = l.furthest in omega arith

pays-nothing : (keeps : ℕ) (r : Run) (p n : ℕ) → Pays keeps r p p n n
pays-nothing keeps r p n = record { most = omega arith; later = omega arith; least = λ z. omega arith }

pub walks-nothing : (v : Fed) (a : Sight) (n : ℕ) → v.fault ≡ None → IsSound v → Walks v.place v v a a n n
walks-nothing v a n none sound = record {
  goes = record {
    none = none;
    still_none = none;
    sound = sound;
    still_sound = sound;
    furthest = omega arith;
    calm = calm-nothing a;
  };
  later = omega arith;
  furthest = let w = (sound none []).within in omega arith;
  comes = comes-nothing _ v a (λ rest. pays-nothing v.keeps (v.run rest) v.place n);
}

pub walks-reset : (old new : Fed) (a : Sight) (n : ℕ) → old.fault ≡ None → IsSound old → IsReset old new → IsSound new
    → Walks 0 old new a a n n
walks-reset old new a n none sound e still =
    let still_none : new.fault ≡ None = ap (λ (v : Fed). v.fault) e ∙ none in
    let same : new.furthest ≡ old.furthest = ap (λ (v : Fed). v.furthest) e in
    let place : new.place ≡ 0 = ap (λ (v : Fed). v.place) e in
    record {
      goes = record {
        none = none;
        still_none = still_none;
        sound = sound;
        still_sound = still;
        furthest = omega arith;
        calm = calm-nothing a;
      };
      later = omega arith;
      furthest = omega arith;
      comes =
          comes-so (λ r. Pays old.keeps r 0 0 n n) _ old new a a sound none still still_none
          (λ rest x y p. subst (λ (m : ℕ). Pays old.keeps (new.run rest) 0 m n n) (sym place) p)
          (comes-reset (λ r. Pays old.keeps r 0 0 n n) old new a e (λ rest. pays-nothing old.keeps (old.run rest) 0 n));
    }

pub walks-step : (s : FeedStep) (old new : Fed) (a b : Sight) (before after : ℕ) → Advanced s old new a b before after
    → Walks old.place old new a b before after
walks-step s old new a b before after d = record {
  goes = d.goes;
  later =
      let o = d.advances.over [] in
      comes-later s (old.run (follow d.advances.taking [])) old new (d.goes.sound d.goes.none (follow d.advances.taking [])) o.comes;
  furthest = d.advances.furthest;
  comes =
      comes-so _ _ old new a b d.goes.sound d.goes.none d.goes.still_sound d.goes.still_none (λ rest x y p. p.1)
      (advances-comes s old new a b before after d.advances);
}

pub walks-then : (from : ℕ) (old mid new : Fed) (a m b : Sight) (before between after : ℕ)
    → Walks from old mid a m before between → Walks mid.place mid new m b between after → Walks from old new a b before after
walks-then from old mid new a m b before between after p q =
    let goes = goes-then old mid new a m b p.goes q.goes in
    let keeps : mid.keeps ≡ old.keeps = p.comes.keeps in
    record {
      goes = goes;
      later = let h = p.later in let k = q.later in omega arith;
      furthest = let h = p.furthest in let k = q.furthest in let l = q.later in omega arith;
      comes =
          comes-so _ _ old new a b goes.sound goes.none goes.still_sound goes.still_none
          (λ rest x y o. pays-then old.keeps (new.run rest) from mid.place new.place before between after x.rising p.later q.later o.0
          (subst (λ (n : ℕ). Pays n (new.run rest) mid.place new.place between after) keeps o.1))
          (comes-then _ _ old mid new a m b p.comes q.comes);
    }

pub walks-on : (from : ℕ) (s : FeedStep) (old mid new : Fed) (a m b : Sight) (before between after : ℕ)
    → Walks from old mid a m before between → Advanced s mid new m b between after → Walks from old new a b before after
walks-on from s old mid new a m b before between after p d =
    walks-then from old mid new a m b before between after p (walks-step s mid new m b between after d)

-- where a walk to a place begins
pub start-here : (a p : ℕ) → a ≤ p → start_of a p ≡ a
start-here a p h = if_true (leb a p) a 0 (le-leb a p h)

pub start-zero : (a p : ℕ) → p < a → start_of a p ≡ 0
start-zero a p h = if_false (leb a p) a 0 (lt-leb a p h)

-- the place behind a limit was reached
pub past-there : (v : Fed) (limit : ℕ) (r : Run) → Stands v r → v.place ≤ limit + 1 → limit < v.place → v.place ≡ behind r limit
past-there v limit r s h k = let n = place-within v r s in omega arith

pub end-there : (old new : Fed) (limit : ℕ) (a b : Sight) (before after : ℕ) → Advanced step.End old new a b before after
    → old.place ≤ limit → (rest : List ℕ) → new.place ≡ behind (new.run rest) limit
end-there old new limit a b before after d h rest =
    let o = d.advances.over rest in
    let p = o.comes.past in
    let q = o.comes.place in
    subst (λ (r : Run). new.place ≡ behind r limit) (sym o.run) (omega arith)

pub event-there : (old new : Fed) (a b : Sight) (before after : ℕ) → Advanced step.Event old new a b before after
    → (new.place ≡ old.place + 1) × (new.place < 2 ^ 63)
event-there old new a b before after d = let o = d.advances.over [] in (o.comes.place, o.comes.few)

pub start-fits : (a p : ℕ) → start_of a p ≤ p
start-fits a p =
    by_order p a
    (λ l. subst (λ (n : ℕ). n ≤ p) (sym (start-zero a p l)) (omega arith))
    (λ l. subst (λ (n : ℕ). n ≤ p) (sym (start-here a p l)) l)

pub event-on : (s : FeedStep) (old new : Fed) (a b : Sight) (before after : ℕ) → s ≡ step.Event → Advanced s old new a b before after
    → (new.place ≡ old.place + 1) × (new.place < 2 ^ 63)
event-on s old new a b before after e d =
    event-there old new a b before after (subst (λ (t : FeedStep). Advanced t old new a b before after) e d)

-- of answers
pub on-ok : {T E P Q R : Type 0} (r : Result T E) → OnOk r P → OnOk r Q → (P → Q → R) → OnOk r R
on-ok (Ok x) p q h = h p q
on-ok (Err e) p q h = tt

pub if-err : {T E : Type 0} {P Q : E → Type 0} (r : Result T E) → IfErr r P → ((e : E) → P e → Q e) → IfErr r Q
if-err (Ok x) p h = tt
if-err (Err e) p h = h e p

pub ok-no-fault : {T : Type 0} (x : T) (f : FeedFault) → IsErrOf {T = T} (Ok x) f → ⊥
ok-no-fault x f e = cc
