-- Takings from a source, one after the other.
use Rattle.std.proofs.Common.{◌≡◌, ℕ, ◌+◌, Bool, true, false, List, [], ◌++◌, length, Some, None, refl, sym, ap, ◌∙◌}
use Rattle.std.proofs.Common.{subst, arith, append-nil, length-append}
use Rattle.std.specs.Prelude.{IsSome}
use Rattle.std.specs.Io.KnownBytes.{Consumes, IsAtEnd}
use Rattle.std.proofs.KnownBytes.{Consumes-nil, Consumes-trans}
use Rattle.op_desk.specs.Contents.{Known}
use Rattle.op_trace.specs.Outside.{Taking, nothing, and_then, then_by}
use Rattle.op_retrace.specs.Takes.{Source, MeetsEnd, Takes}

pub takes-nothing : (a : Source) → Takes nothing a a
takes-nothing a = record { consumes = Consumes-nil a.left; drawn = omega arith; end = refl; ended = λ h. (refl, h) }

-- what is told stays told
told-after : (a b : Known) (xs : List ℕ) → Consumes a b xs → IsSome a → IsSome b
told-after None b xs c h = absurd cc
told-after (Some x) None xs c h = absurd c
told-after (Some x) (Some y) xs c h = refl

end-stays : (b c : Known) → Consumes b c [] → IsAtEnd b → IsSome b → IsAtEnd c
end-stays None c e h s = absurd cc
end-stays (Some x) None e h s = absurd e
end-stays (Some x) (Some y) e h s = sym e ∙ h

-- the bytes of two takings: after the end there are none
pub bytes-then : (t u : Taking) → (t.over ≡ true → u.bytes ≡ []) → (and_then t u).bytes ≡ t.bytes ++ u.bytes
bytes-then t u h = go t.over refl
  where
    go : (o : Bool) → t.over ≡ o → (then_by o t u).bytes ≡ t.bytes ++ u.bytes
    go true e = sym (ap (λ (xs : List ℕ). t.bytes ++ xs) (h e) ∙ append-nil t.bytes)
    go false e = refl

over-ends : (t : Taking) (a b : Source) → Takes t a b → t.over ≡ true → b.ended ≡ true
over-ends t a b p o = let e : MeetsEnd true a b = subst (λ (x : Bool). MeetsEnd x a b) o p.end in e.0

-- nothing is taken behind the end
pub over-takes-nothing : (t u : Taking) (a b c : Source) → Takes t a b → Takes u b c → t.over ≡ true → u.bytes ≡ []
over-takes-nothing t u a b c p q o = (q.ended (over-ends t a b p o)).0

ends-then : (t u : Taking) (a b c : Source) → Takes t a b → Takes u b c → MeetsEnd (and_then t u).over a c
ends-then t u a b c p q = go t.over refl u.over refl
  where
    go : (o : Bool) → t.over ≡ o → (x : Bool) → u.over ≡ x → MeetsEnd (then_by o t u).over a c
    go true e x f =
        let m : MeetsEnd true a b = subst (λ (y : Bool). MeetsEnd y a b) e p.end in
        let none : u.bytes ≡ [] = over-takes-nothing t u a b c p q e in
        subst (λ (y : Bool). MeetsEnd y a c) (sym e) (
          (q.ended m.0).1,
          λ s. end-stays b.left c.left (subst (Consumes b.left c.left) none q.consumes) (m.1 s)
              (told-after a.left b.left t.bytes p.consumes s),
        )
    go false e true f =
        let n : MeetsEnd true b c = subst (λ (y : Bool). MeetsEnd y b c) f q.end in
        subst (λ (y : Bool). MeetsEnd y a c) (sym f) (n.0, λ s. n.1 (told-after a.left b.left t.bytes p.consumes s))
    go false e false f =
        let m : MeetsEnd false a b = subst (λ (y : Bool). MeetsEnd y a b) e p.end in
        let n : MeetsEnd false b c = subst (λ (y : Bool). MeetsEnd y b c) f q.end in
        subst (λ (y : Bool). MeetsEnd y a c) (sym f) (n ∙ m)

pub takes-then : (t u : Taking) (a b c : Source) → Takes t a b → Takes u b c → Takes (and_then t u) a c
takes-then t u a b c p q =
    let bytes : (and_then t u).bytes ≡ t.bytes ++ u.bytes = bytes-then t u (λ o. over-takes-nothing t u a b c p q o) in
    let long : length (and_then t u).bytes ≡ length t.bytes + length u.bytes = ap length bytes ∙ length-append t.bytes u.bytes in
    record {
      consumes = subst (Consumes a.left c.left) (sym bytes) (Consumes-trans a.left b.left c.left t.bytes u.bytes p.consumes q.consumes);
      drawn = let d = p.drawn in let e = q.drawn in omega arith;
      end = ends-then t u a b c p q;
      ended = λ h. (let m = p.ended h in let n = q.ended m.1 in
          (bytes ∙ ap (λ (xs : List ℕ). xs ++ u.bytes) m.0 ∙ n.0, n.1));
    }
