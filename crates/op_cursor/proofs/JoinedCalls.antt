-- Calls of a feed, one after the other.
use Rattle.std.proofs.Common.{◌≡◌, ℕ, ◌+◌, ◌≤◌, List, [], ◌++◌, length}
use Rattle.std.proofs.Common.{refl, sym, ap, ◌∙◌, subst, arith, append-nil, append_assoc, length-append}
use Rattle.std.proofs.Common.{None, true}
use Rattle.std.proofs.KnownBytes.{Appends-nil, Appends-trans}
use Rattle.op_desk.specs.declared.chan.Chan.TheVariants.{Input, Output}
use Rattle.op_trace.specs.Outside.{Taking, nothing, follow, and_then}
use Rattle.op_trace.specs.Run.{Run, output_at}
use Rattle.op_machine.proofs.TakingLaws.{follow-then}
use Rattle.op_retrace.specs.Fed.{Fed, IsSound, Stands, IsReset, source_of}
use Rattle.op_retrace.specs.Sight.{Sight}
use Rattle.op_retrace.proofs.TakenSources.{takes-nothing, takes-then, bytes-then, over-takes-nothing}
use Rattle.op_cursor.specs.Comes.{Comes, ComesOver, Broke, BrokeOver}

-- nothing was done
pub comes-nothing : (P : Run → Type 0) (v : Fed) (a : Sight) → ((rest : List ℕ) → P (v.run rest)) → Comes P v v a a
comes-nothing P v a h = record {
  loaded = refl;
  keeps = refl;
  taking = nothing;
  takes = takes-nothing (source_of (a.left Input) v);
  put = [];
  appends = Appends-nil (a.written Output);
  over = λ rest. record {
    run = refl;
    output = sym (append-nil (output_at (v.run rest) v.furthest));
    looked = omega arith;
  };
  so = h;
}

-- what is so of the run, by where the feed stood and where it stands
pub comes-so : (P Q : Run → Type 0) (old new : Fed) (a b : Sight) → IsSound old → old.fault ≡ None → IsSound new → new.fault ≡ None
    → ((rest : List ℕ) → Stands old (new.run rest) → Stands new (new.run rest) → P (new.run rest) → Q (new.run rest))
    → Comes P old new a b → Comes Q old new a b
comes-so P Q old new a b sound none still still_none h c = record {
  loaded = c.loaded;
  keeps = c.keeps;
  taking = c.taking;
  takes = c.takes;
  put = c.put;
  appends = c.appends;
  over = c.over;
  so = λ rest.
      let e : new.run rest ≡ old.run (follow c.taking rest) = (c.over rest).run in
      let s : Stands old (new.run rest) = subst (λ (r : Run). Stands old r) (sym e) (sound none (follow c.taking rest)) in
      let p : P (new.run rest) = subst (λ (r : Run). P r) (sym e) (c.so rest) in
      subst (λ (r : Run). Q r) e (h rest s (still still_none rest) p);
}

module _ (P Q : Run → Type 0) (old mid new : Fed) (a m b : Sight) (c : Comes P old mid a m) where
  bytes-joined : (u : Taking) → ((c.taking).over ≡ true → u.bytes ≡ []) → (and_then c.taking u).bytes ≡ c.taking.bytes ++ u.bytes
  bytes-joined u h = bytes-then c.taking u h

  run-joined : (u : Taking) (rest : List ℕ) → mid.run (follow u rest) ≡ old.run (follow (and_then c.taking u) rest)
  run-joined u rest =
      let joined : follow (and_then c.taking u) rest ≡ follow c.taking (follow u rest) = follow-then c.taking u rest in
      (c.over (follow u rest)).run ∙ ap old.run (sym joined)

  first-over : (u : Taking) (rest : List ℕ)
      → ComesOver (mid.run (follow u rest)) (mid.run (follow u rest)) old mid c.taking.bytes c.put × P (mid.run (follow u rest))
  first-over u rest =
      let x = c.over (follow u rest) in (
        subst (λ (r : Run). ComesOver r (mid.run (follow u rest)) old mid c.taking.bytes c.put) (sym x.run) x,
        subst (λ (r : Run). P r) (sym x.run) (c.so (follow u rest)),
      )

  pub comes-then : Comes Q mid new m b → Comes (λ r. P r × Q r) old new a b
  comes-then d =
      let t : Taking = c.taking in
      let u : Taking = d.taking in
      let bytes = bytes-joined u
      (λ o. over-takes-nothing t u (source_of (a.left Input) old) (source_of (m.left Input) mid) (source_of (b.left Input) new)
      c.takes d.takes o) in
      let long : length (and_then t u).bytes ≡ length t.bytes + length u.bytes = ap length bytes ∙ length-append t.bytes u.bytes in
      record {
        loaded = d.loaded ∙ c.loaded;
        keeps = d.keeps ∙ c.keeps;
        taking = and_then t u;
        takes = takes-then t u (source_of (a.left Input) old) (source_of (m.left Input) mid) (source_of (b.left Input) new) c.takes d.takes;
        put = c.put ++ d.put;
        appends = Appends-trans (a.written Output) (m.written Output) (b.written Output) c.put d.put c.appends d.appends;
        over = λ rest.
            let q : Run = mid.run (follow u rest) in
            let x = (first-over u rest).0 in
            let y = d.over rest in
            subst (λ (r : Run). ComesOver r (new.run rest) old new (and_then t u).bytes (c.put ++ d.put)) (run-joined u rest) (record {
              run = y.run;
              output = y.output ∙ ap (λ (xs : List ℕ). xs ++ d.put) x.output ∙ append_assoc (output_at q old.furthest) c.put d.put;
              looked = let l = y.looked in let k = x.looked in omega arith;
            });
        so = λ rest. subst (λ (r : Run). P r × Q r) (run-joined u rest) ((first-over u rest).1, d.so rest);
      }

  pub broke-then : (to : Run → ℕ) → Broke to Q mid new m b → Broke to (λ r. P r × Q r) old new a b
  broke-then to d =
      let t : Taking = c.taking in
      let u : Taking = d.taking in
      let bytes = bytes-joined u
      (λ o. over-takes-nothing t u (source_of (a.left Input) old) (source_of (m.left Input) mid) (source_of (b.left Input) new)
      c.takes d.takes o) in
      let long : length (and_then t u).bytes ≡ length t.bytes + length u.bytes = ap length bytes ∙ length-append t.bytes u.bytes in
      record {
        loaded = d.loaded ∙ c.loaded;
        keeps = d.keeps ∙ c.keeps;
        taking = and_then t u;
        takes = takes-then t u (source_of (a.left Input) old) (source_of (m.left Input) mid) (source_of (b.left Input) new) c.takes d.takes;
        put = c.put ++ d.put;
        appends = Appends-trans (a.written Output) (m.written Output) (b.written Output) c.put d.put c.appends d.appends;
        over = λ rest.
            let q : Run = mid.run (follow u rest) in
            let x = (first-over u rest).0 in
            let y = d.over rest in
            let w = y.output in
            subst (λ (r : Run). BrokeOver (to r) r (new.run rest) old (and_then t u).bytes (c.put ++ d.put)) (run-joined u rest) (record {
              run = y.run;
              output = (
                w.0,
                w.1 ∙ ap (λ (xs : List ℕ). xs ++ w.0)
                    (ap (λ (xs : List ℕ). xs ++ d.put) x.output ∙ append_assoc (output_at q old.furthest) c.put d.put),
              );
              looked = let l = y.looked in let k = x.looked in omega arith;
            });
        so = λ rest. subst (λ (r : Run). P r × Q r) (run-joined u rest) ((first-over u rest).1, d.so rest);
      }

-- what is so of the run where a fault came, on the way to a place that is no earlier
pub broke-so : (to further : Run → ℕ) (P Q : Run → Type 0) (old new : Fed) (a b : Sight) → IsSound old → old.fault ≡ None
    → ((rest : List ℕ) → Stands old (new.run rest) → P (new.run rest) → (to (new.run rest) ≤ further (new.run rest)) × Q (new.run rest))
    → Broke to P old new a b → Broke further Q old new a b
broke-so to further P Q old new a b sound none h c = record {
  loaded = c.loaded;
  keeps = c.keeps;
  taking = c.taking;
  takes = c.takes;
  put = c.put;
  appends = c.appends;
  over = λ rest.
      let r : Run = old.run (follow c.taking rest) in
      let s : Stands old r = sound none (follow c.taking rest) in
      let y = c.over rest in
      let k = (told rest).0 in
      let w = y.output in
      let more = s.rising.output (to r) (further r) k in
      let looks = s.rising.looked (to r) (further r) k in
      record {
        run = y.run;
        output = (
          w.0 ++ more.0,
          more.1 ∙ ap (λ (xs : List ℕ). xs ++ more.0) w.1 ∙ append_assoc (output_at r old.furthest ++ c.put) w.0 more.0,
        );
        looked = let l = y.looked in omega arith;
      };
  so = λ rest. (told rest).1;
}
  where
    told : (rest : List ℕ)
        → (to (old.run (follow c.taking rest)) ≤ further (old.run (follow c.taking rest))) × Q (old.run (follow c.taking rest))
    told rest =
        let e : new.run rest ≡ old.run (follow c.taking rest) = (c.over rest).run in
        let s : Stands old (new.run rest) = subst (λ (r : Run). Stands old r) (sym e) (sound none (follow c.taking rest)) in
        let p : P (new.run rest) = subst (λ (r : Run). P r) (sym e) (c.so rest) in
        subst (λ (r : Run). (to r ≤ further r) × Q r) e (h rest s p)

-- a reset
pub comes-reset : (P : Run → Type 0) (old new : Fed) (a : Sight) → IsReset old new → ((rest : List ℕ) → P (old.run rest))
    → Comes P old new a a
comes-reset P old new a e h = subst (λ (v : Fed). Comes P old v a a) (sym e) (record {
  loaded = refl;
  keeps = refl;
  taking = nothing;
  takes = takes-nothing (source_of (a.left Input) old);
  put = [];
  appends = Appends-nil (a.written Output);
  over = λ rest. record {
    run = refl;
    output = sym (append-nil (output_at (old.run rest) old.furthest));
    looked = omega arith;
  };
  so = h;
})
