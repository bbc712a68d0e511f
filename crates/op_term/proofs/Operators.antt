-- What looking up, setting and the table at first come to.
use Rattle.std.proofs.Common.{◌≡◌, ◌≤◌, ℕ, ℤ, pos, negsuc, Bool, true, false, not, cond, ◌&&◌, ◌||◌, List, [], ◌∷◌, Option, Some, None}
use Rattle.std.proofs.Common.{Result, Ok, Err, sym, ◌∙◌, ap, subst, refl, arith, is_some, IfSome, nat_eq, leb}
use Rattle.std.specs.Prelude.{codes}
use Rattle.std.specs.Str.{bytes_eq}
use Rattle.std.specs.List.{list_all}
use Rattle.std.proofs.lemmas.Slice.Eq.{bytes_eq-Decides}
use Rattle.std.proofs.lemmas.Bool.{leb-true, leb-false, eqb-false}
use Rattle.op_logic.proofs.BoolCases.{by_test, if_true, if_false}
use Rattle.op_term.specs.declared.ops.OpKind.{OpKind}
use Rattle.op_term.specs.declared.ops.OpKind.TheVariants.{Xfx, Xfy, Yfx, Fy, Fx, Xf, Yf}
use Rattle.op_term.specs.declared.ops.OpFault.{OpFault}
use Rattle.op_term.specs.declared.ops.OpFault.TheVariants.{Priority, Comma, Reserved, Clash}
use Rattle.op_term.specs.declared.ops.Meaning.{Meaning}
use Rattle.op_term.specs.declared.ops.Meanings.{Meanings}
use Rattle.op_term.specs.Ops.{Table, no_meaning, meanings_in, with_meanings, with_op, meaning_of, changed, is_prefix, is_infix, is_postfix}
use Rattle.op_term.specs.Ops.{is_reserved, clashes, set_in, iso_table, IsMeaning, IsTable}

-- a name that was given meanings has these
pub meanings-same : (t : Table) (name : List ℕ) (ms : Meanings) → meanings_in (with_meanings t name ms) name ≡ ms
meanings-same [] name ms = if_true (bytes_eq name name) ms no_meaning ((bytes_eq-Decides name name).1 refl)
meanings-same (e ∷ es) name ms = by_test (bytes_eq name e.0)
    (λ h. ap (λ (t : Table). meanings_in t name) (if_true (bytes_eq name e.0) ((e.0, ms) ∷ es) (e ∷ with_meanings es name ms) h)
    ∙ if_true (bytes_eq name e.0) ms (meanings_in es name) h)
    (λ h. ap (λ (t : Table). meanings_in t name) (if_false (bytes_eq name e.0) ((e.0, ms) ∷ es) (e ∷ with_meanings es name ms) h)
    ∙ (if_false (bytes_eq name e.0) e.1 (meanings_in (with_meanings es name ms) name) h ∙ meanings-same es name ms))

-- and the others keep theirs
pub meanings-other : (t : Table) (name : List ℕ) (ms : Meanings) (other : List ℕ) → bytes_eq other name ≡ false
    → meanings_in (with_meanings t name ms) other ≡ meanings_in t other
meanings-other [] name ms other h = if_false (bytes_eq other name) ms no_meaning h
meanings-other (e ∷ es) name ms other h = by_test (bytes_eq name e.0)
    (λ g. let same : name ≡ e.0 = (bytes_eq-Decides name e.0).0 g in
    let apart : bytes_eq other e.0 ≡ false = subst (λ (n : List ℕ). bytes_eq other n ≡ false) same h in
    ap (λ (t : Table). meanings_in t other) (if_true (bytes_eq name e.0) ((e.0, ms) ∷ es) (e ∷ with_meanings es name ms) g)
    ∙ (if_false (bytes_eq other e.0) ms (meanings_in es other) apart
    ∙ sym (if_false (bytes_eq other e.0) e.1 (meanings_in es other) apart)))
    (λ g. ap (λ (t : Table). meanings_in t other) (if_false (bytes_eq name e.0) ((e.0, ms) ∷ es) (e ∷ with_meanings es name ms) g)
    ∙ ap (λ (m : Meanings). cond (bytes_eq other e.0) e.1 m) (meanings-other es name ms other h))

-- what holds of the meanings of each name
abbrev pub Sound : Meanings → Type 0
Sound ms = IfSome ms.as_prefix (IsMeaning is_prefix) × IfSome ms.as_infix (IsMeaning is_infix) × IfSome ms.as_postfix (IsMeaning is_postfix)
    × (is_some ms.as_infix && is_some ms.as_postfix ≡ false)

pub sound-in : (t : Table) → IsTable t → (name : List ℕ) → Sound (meanings_in t name)
sound-in t h name = (h.prefixes name, h.infixes name, h.postfixes name, h.apart name)

meaning-sound : (class : OpKind → Bool) (n : ℕ) (kind : OpKind) → class kind ≡ true → n ≤ 1200
    → IfSome (meaning_of n kind) (IsMeaning class)
meaning-sound class n kind c h =
    let some : Option Meaning = Some (record { priority = n; kind = kind }) in
    by_test (nat_eq n 0)
    (λ e. subst (λ (m : Option Meaning). IfSome m (IsMeaning class)) (sym (if_true (nat_eq n 0) None some e)) tt)
    (λ e. subst (λ (m : Option Meaning). IfSome m (IsMeaning class)) (sym (if_false (nat_eq n 0) None some e))
    (c, (let z = eqb-false n 0 e in omega arith), h))

or-left : (a b : Bool) → a || b ≡ false → a ≡ false
or-left true b h = h
or-left false b h = refl

and-second : (a b : Bool) → b ≡ false → a && b ≡ false
and-second true b h = h
and-second false b h = refl

and-first : (a b : Bool) → a ≡ false → a && b ≡ false
and-first true b h = absurd (let e : true ≡ false = h in cc)
and-first false b h = refl

sound-changed : (kind : OpKind) (n : ℕ) (ms : Meanings) → Sound ms → n ≤ 1200 → clashes kind ms ≡ false
    → Sound (changed kind (meaning_of n kind) ms)
sound-changed Fy n ms s h c = (meaning-sound is_prefix n Fy refl h, s.1, s.2, s.3)
sound-changed Fx n ms s h c = (meaning-sound is_prefix n Fx refl h, s.1, s.2, s.3)
sound-changed Xfx n ms s h c = (
  s.0,
  meaning-sound is_infix n Xfx refl h,
  s.2,
  and-second (is_some (meaning_of n Xfx)) (is_some ms.as_postfix)
      (or-left (is_some ms.as_postfix) false c),
)
sound-changed Xfy n ms s h c = (
  s.0,
  meaning-sound is_infix n Xfy refl h,
  s.2,
  and-second (is_some (meaning_of n Xfy)) (is_some ms.as_postfix)
      (or-left (is_some ms.as_postfix) false c),
)
sound-changed Yfx n ms s h c = (
  s.0,
  meaning-sound is_infix n Yfx refl h,
  s.2,
  and-second (is_some (meaning_of n Yfx)) (is_some ms.as_postfix)
      (or-left (is_some ms.as_postfix) false c),
)
sound-changed Xf n ms s h c =
    (s.0, s.1, meaning-sound is_postfix n Xf refl h, and-first (is_some ms.as_infix) (is_some (meaning_of n Xf)) c)
sound-changed Yf n ms s h c =
    (s.0, s.1, meaning-sound is_postfix n Yf refl h, and-first (is_some ms.as_infix) (is_some (meaning_of n Yf)) c)

table-of : (t : Table) → ((name : List ℕ) → Sound (meanings_in t name))
    → meanings_in t (codes ",") ≡ record { as_prefix = None; as_infix = Some (record { priority = 1000; kind = Xfy }); as_postfix = None }
    → ((name : List ℕ) → is_reserved name ≡ true → meanings_in t name ≡ no_meaning) → IsTable t
table-of t s c r = record {
  prefixes = λ name. (s name).0;
  infixes = λ name. (s name).1;
  postfixes = λ name. (s name).2;
  apart = λ name. (s name).3;
  comma = c;
  reserved = r;
}

-- a name that differs from one that passes a test, where the other doesn't pass it
differs : (test : List ℕ → Bool) (a b : List ℕ) → test a ≡ true → test b ≡ false → bytes_eq a b ≡ false
differs test a b h g = by_test (bytes_eq a b)
    (λ e. absurd (let same : a ≡ b = (bytes_eq-Decides a b).0 e in let f : test a ≡ test b = ap test same in let k : true ≡ false = sym h
    ∙ (f ∙ g) in cc))
    (λ e. e)

table-with : (t : Table) (n : ℕ) (kind : OpKind) (name : List ℕ) → IsTable t → n ≤ 1200 → bytes_eq name (codes ",") ≡ false
    → is_reserved name ≡ false
    → clashes kind (meanings_in t name) ≡ false → IsTable (with_op t n kind name)
table-with t n kind name h small comma reserved clash =
    let ms : Meanings = changed kind (meaning_of n kind) (meanings_in t name) in
    table-of (with_op t n kind name)
    (λ other. by_test (bytes_eq other name)
    (λ e. let same : other ≡ name = (bytes_eq-Decides other name).0 e in
    subst Sound (sym (ap (meanings_in (with_meanings t name ms)) same ∙ meanings-same t name ms))
    (sound-changed kind n (meanings_in t name) (sound-in t h name) small clash))
    (λ e. subst Sound (sym (meanings-other t name ms other e)) (sound-in t h other)))
    (meanings-other t name ms (codes ",") (differs (λ x. bytes_eq x (codes ",")) (codes ",") name refl comma) ∙ h.comma)
    (λ other r. meanings-other t name ms other (differs is_reserved other name r reserved) ∙ h.reserved other r)

err-ok : {A E : Type 0} (e : E) (a : A) {P : Type 0} → Err e ≡ Ok a → P
err-ok e a h = absurd (cc)

-- a table stays one when an operator is set
pub IsTable-set : (t : Table) (p : ℤ) (kind : OpKind) (name : List ℕ) (new : Table) → IsTable t
    → set_in t p kind name ≡ Ok new → IsTable new
IsTable-set t (negsuc n) kind name new h e = absurd (let f : Err Priority ≡ Ok new = e in cc)
IsTable-set t (pos n) kind name new h e = by_test (leb 1201 n)
    (λ a. absurd (let f : Err Priority ≡ Ok new = sym (if_true _ _ _ a) ∙ e in cc))
    (λ a. let e1 = sym (if_false _ _ _ a) ∙ e in
    by_test (bytes_eq name (codes ","))
    (λ b. absurd (let f : Err Comma ≡ Ok new = sym (if_true _ _ _ b) ∙ e1 in cc))
    (λ b. let e2 = sym (if_false _ _ _ b) ∙ e1 in
    by_test (is_reserved name)
    (λ r. absurd (let f : Err Reserved ≡ Ok new = sym (if_true _ _ _ r) ∙ e2 in cc))
    (λ r. let e3 = sym (if_false _ _ _ r) ∙ e2 in
    by_test (clashes kind (meanings_in t name))
    (λ d. absurd (let f : Err Clash ≡ Ok new = sym (if_true _ _ _ d) ∙ e3 in cc))
    (λ d. let f : ◌≡◌ {A = Result Table OpFault} (Ok (with_op t n kind name)) (Ok new) = sym (if_false _ _ _ d) ∙ e3 in
    let same : with_op t n kind name ≡ new = cc in
    subst IsTable same (table-with t n kind name h (let l = leb-false 1201 n a in omega arith) b r d)))))

-- a test of what holds of the meanings of each name
abbrev is_in : (OpKind → Bool) → Option Meaning → Bool
is_in class None = true
is_in class (Some m) = class m.kind && (leb 1 m.priority && leb m.priority 1200)

abbrev is_sound : Meanings → Bool
is_sound ms =
    is_in is_prefix ms.as_prefix && (is_in is_infix ms.as_infix && (is_in is_postfix ms.as_postfix && not
    (is_some ms.as_infix && is_some ms.as_postfix)))

both : (a b : Bool) → a && b ≡ true → (a ≡ true) × (b ≡ true)
both true b h = (refl, h)
both false b h = absurd (let e : false ≡ true = h in cc)

meaning-in : (class : OpKind → Bool) (o : Option Meaning) → is_in class o ≡ true → IfSome o (IsMeaning class)
meaning-in class None h = tt
meaning-in class (Some m) h =
    let a = both _ _ h in let b = both _ _ a.1 in (a.0, leb-true 1 m.priority b.0, leb-true m.priority 1200 b.1)

not-true : (b : Bool) → not b ≡ true → b ≡ false
not-true true h = absurd (let e : false ≡ true = h in cc)
not-true false h = refl

sound-is : (ms : Meanings) → is_sound ms ≡ true → Sound ms
sound-is ms h =
    let a = both _ _ h in let b = both _ _ a.1 in let d = both _ _ b.1 in
    (meaning-in is_prefix ms.as_prefix a.0, meaning-in is_infix ms.as_infix b.0, meaning-in is_postfix ms.as_postfix d.0, not-true _ d.1)

sound-all : (t : Table) → list_all (λ e. is_sound e.1) t ≡ true → (name : List ℕ) → Sound (meanings_in t name)
sound-all [] h name = (tt, tt, tt, refl)
sound-all (e ∷ es) h name =
    let a = both _ _ h in
    by_test (bytes_eq name e.0)
    (λ b. subst Sound (sym (if_true (bytes_eq name e.0) e.1 (meanings_in es name) b)) (sound-is e.1 a.0))
    (λ b. subst Sound (sym (if_false (bytes_eq name e.0) e.1 (meanings_in es name) b)) (sound-all es a.1 name))

-- the reserved names
or-both : {P : Type 0} (a b : Bool) → (a ≡ true → P) → (b ≡ true → P) → a || b ≡ true → P
or-both true b f g h = f refl
or-both false b f g h = g h

reserved-are : (P : List ℕ → Type 0) → P (codes "[]") → P (codes "{}") → P (codes "|") → (name : List ℕ) → is_reserved name ≡ true → P name
reserved-are P p q r name = or-both _ _
    (or-both _ _ (λ e. subst P (sym ((bytes_eq-Decides name (codes "[]")).0 e)) p)
    (λ e. subst P (sym ((bytes_eq-Decides name (codes "{}")).0 e)) q))
    (λ e. subst P (sym ((bytes_eq-Decides name (codes "|")).0 e)) r)

pub IsTable-iso : IsTable iso_table
unfolding iso_table
IsTable-iso =
    table-of iso_table (sound-all iso_table refl) refl (reserved-are (λ name. meanings_in iso_table name ≡ no_meaning) refl refl refl)
