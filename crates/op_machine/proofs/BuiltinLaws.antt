-- Which builtin of control a goal is of, by the numbers of names.
use Rattle.std.proofs.Common.{◌≡◌, ◌≢◌, ℕ, suc, ◌<◌, ◌≤◌, ◌==◌, ◌&&◌, nat_le, Bool, true, false, length, take, codes, refl, sym, ap, ◌∙◌}
use Rattle.std.proofs.Common.{subst, arith, if◌then◌else◌}
use Rattle.std.proofs.lemmas.Bool.Decides.{nat_tests, Decides-eqb}
use Rattle.op_logic.specs.Term.{Term, node, Args, no_args, arg, args_of, arity, rename_args}
use Rattle.op_logic.specs.Bind.{Bindings, follow}
use Rattle.op_logic.specs.Names.{name_at, IsTable}
use Rattle.op_logic.proofs.BoolCases.{by_order, by_test}
use Rattle.op_logic.proofs.RenamedUnification.{arity-rename}
use Rattle.op_term.specs.declared.symbols.Sym.{Sym}
use Rattle.op_trace.specs.Database.{Text, text_eq}
use Rattle.op_trace.specs.World.{World}
use Rattle.op_trace.specs.Act.{Act}
use Rattle.op_trace.specs.Builtins.{run_goal, alone, unknown, act_of_goal}
use Rattle.op_trace.specs.Visit.{is_catch}
use Rattle.std.specs.Bool.{OnTrue, OnFalse}
use Rattle.op_store.specs.Stored.{Stored, first_names}
use Rattle.op_machine.specs.Program.{goal_named}
use Rattle.op_machine.specs.inner.BuiltinKinds.{act_of_kind}
use Rattle.op_machine.specs.declared.builtin_kind.Builtin.{Builtin}
use Rattle.op_machine.specs.declared.builtin_kind.Builtin.TheVariants as builtin
use Rattle.op_machine.specs.declared.builtin_kind.Around.TheVariants.{Alone, FirstSolution, NoSolution}
use Rattle.op_machine.proofs.ControlLaws.{by_equal, same-text, other-text}

-- what decides the builtin of an atom, of a goal with one argument and of one with more
pub record AtomBuiltin (f : Sym) (b : Builtin) : Type 0 where
  pub halt : f.0 ≡ 11 → b ≡ builtin.Halt
  pub other : f.0 ≢ 11 → b ≡ builtin.Unknown f 0

pub record SingleBuiltin (f : Sym) (b : Builtin) : Type 0 where
  pub call : f.0 ≡ 7 → b ≡ builtin.Run Alone
  pub once : f.0 ≡ 8 → b ≡ builtin.Run FirstSolution
  pub not : f.0 ≡ 9 → b ≡ builtin.Run NoSolution
  pub throw : f.0 ≡ 10 → b ≡ builtin.Throw
  pub halt : f.0 ≡ 11 → b ≡ builtin.HaltWith
  pub other : f.0 ≢ 7 → f.0 ≢ 8 → f.0 ≢ 9 → f.0 ≢ 10 → f.0 ≢ 11 → b ≡ builtin.Unknown f 1

pub record LongerBuiltin (f : Sym) (n : ℕ) (b : Builtin) : Type 0 where
  pub call : f.0 ≡ 7 → n ≤ 8 → b ≡ builtin.Run Alone
  pub long : 8 < n → b ≡ builtin.Unknown f n
  pub catch : f.0 ≡ 12 → n ≡ 3 → b ≡ builtin.Catch
  pub other_catch : f.0 ≡ 12 → n ≢ 3 → b ≡ builtin.Unknown f n
  pub other : f.0 ≢ 7 → f.0 ≢ 12 → b ≡ builtin.Unknown f n

both-hold : (a b : Bool) → a ≡ true → b ≡ true → (a && b) ≡ true
both-hold true b p q = q
both-hold false b p q = p

first-fails : (a b : Bool) → a ≡ false → (a && b) ≡ false
first-fails true b p = absurd cc
first-fails false b p = refl

second-fails : (a b : Bool) → b ≡ false → (a && b) ≡ false
second-fails true b q = q
second-fails false b q = refl

-- how many arguments stand behind the first
more-than-eight : (a n : ℕ) → suc a ≡ n → 8 < n → nat_le a 7 ≡ false
more-than-eight a n e h = grind (arith, nat_tests)

up-to-eight : (a n : ℕ) → suc a ≡ n → n ≤ 8 → nat_le a 7 ≡ true
up-to-eight a n e h = grind (arith, nat_tests)

exactly-three : (a n : ℕ) → suc a ≡ n → n ≡ 3 → (a == 2) ≡ true
exactly-three a n e h = grind (arith, nat_tests)

not-three : (a n : ℕ) → suc a ≡ n → n ≢ 3 → (a == 2) ≡ false
not-three a n e h = by_test (a == 2) (λ t. absurd (h (omega (arith, e, (Decides-eqb a 2).0 t)))) (λ t. t)

-- the act of a goal, by its name and its arguments
module _ (t : Stored) (table : IsTable t.names) (begins : take (length first_names) t.names ≡ first_names) (left : ℕ) (σ : Bindings Text)
    (w : World) where
  -- the act of a goal is that of a builtin
  abbrev pub IsAct : Builtin → Term ℕ → Type 0
  IsAct b g = act_of_goal left (goal_named t g) σ w ≡ act_of_kind t b (goal_named t g) left σ w

  as-builtin : (g : Term ℕ) (b c : Builtin) → c ≡ b → IsAct b g → IsAct c g
  as-builtin g b c e h = subst (λ (x : Builtin). IsAct x g) (sym e) h

  halt-atom : (f : Sym) → f.0 ≡ 11 → IsAct builtin.Halt (node f.0 no_args)
  halt-atom f e = rw (same-text t table begins f.0 11 (codes "halt") (omega arith) refl e) refl

  other-atom : (f : Sym) → f.0 ≢ 11 → IsAct (builtin.Unknown f 0) (node f.0 no_args)
  other-atom f e = rw (other-text t table begins f.0 11 (codes "halt") (omega arith) refl e) refl

  pub atom-act : (f : Sym) (b : Builtin) (g : Term ℕ) → AtomBuiltin f b → g ≡ node f.0 no_args → IsAct b g
  atom-act f b g h e =
      let a : Term ℕ = node f.0 no_args in
      subst (IsAct b) (sym e)
      (by_equal f.0 11 (λ q. as-builtin a builtin.Halt b (h.halt q) (halt-atom f q))
      (λ q. as-builtin a (builtin.Unknown f 0) b (h.other q) (other-atom f q)))

  -- a name is that of a number, or is not
  is-name : (n k : ℕ) (x : Text) → k < 22 → name_at first_names k ≡ x → n ≡ k → text_eq (name_at t.names n) x ≡ true
  is-name n k x h e q = same-text t table begins n k x h e q

  is-other : (n k : ℕ) (x : Text) → k < 22 → name_at first_names k ≡ x → n ≢ k → text_eq (name_at t.names n) x ≡ false
  is-other n k x h e q = other-text t table begins n k x h e q

  call-single : (f : Sym) (a : Term ℕ) → f.0 ≡ 7 → IsAct (builtin.Run Alone) (node f.0 (arg a no_args))
  call-single f a e = rw (is-name f.0 7 (codes "call") (omega arith) refl e) refl

  once-single : (f : Sym) (a : Term ℕ) → f.0 ≡ 8 → IsAct (builtin.Run FirstSolution) (node f.0 (arg a no_args))
  once-single f a e = rw (
    is-other f.0 7 (codes "call") (omega arith) refl (λ q. omega arith),
    is-name f.0 8 (codes "once") (omega arith) refl e,
  ) refl

  not-single : (f : Sym) (a : Term ℕ) → f.0 ≡ 9 → IsAct (builtin.Run NoSolution) (node f.0 (arg a no_args))
  not-single f a e = rw (
    is-other f.0 7 (codes "call") (omega arith) refl (λ q. omega arith),
    is-other f.0 8 (codes "once") (omega arith) refl (λ q. omega arith),
    is-name f.0 9 (codes "\\+") (omega arith) refl e,
  ) refl

  throw-single : (f : Sym) (a : Term ℕ) → f.0 ≡ 10 → IsAct builtin.Throw (node f.0 (arg a no_args))
  throw-single f a e = rw (
    is-other f.0 7 (codes "call") (omega arith) refl (λ q. omega arith),
    is-other f.0 8 (codes "once") (omega arith) refl (λ q. omega arith),
    is-other f.0 9 (codes "\\+") (omega arith) refl (λ q. omega arith),
    is-name f.0 10 (codes "throw") (omega arith) refl e,
  ) refl

  halt-single : (f : Sym) (a : Term ℕ) → f.0 ≡ 11 → IsAct builtin.HaltWith (node f.0 (arg a no_args))
  halt-single f a e = rw (
    is-other f.0 7 (codes "call") (omega arith) refl (λ q. omega arith),
    is-other f.0 8 (codes "once") (omega arith) refl (λ q. omega arith),
    is-other f.0 9 (codes "\\+") (omega arith) refl (λ q. omega arith),
    is-other f.0 10 (codes "throw") (omega arith) refl (λ q. omega arith),
    is-name f.0 11 (codes "halt") (omega arith) refl e,
  ) refl

  other-single : (f : Sym) (a : Term ℕ) → f.0 ≢ 7 → f.0 ≢ 8 → f.0 ≢ 9 → f.0 ≢ 10 → f.0 ≢ 11
      → IsAct (builtin.Unknown f 1) (node f.0 (arg a no_args))
  other-single f a p q r s u = rw (
    is-other f.0 7 (codes "call") (omega arith) refl p,
    is-other f.0 8 (codes "once") (omega arith) refl q,
    is-other f.0 9 (codes "\\+") (omega arith) refl r,
    is-other f.0 10 (codes "throw") (omega arith) refl s,
    is-other f.0 11 (codes "halt") (omega arith) refl u,
  ) refl

  single-args : (f : Sym) (b : Builtin) (ts : Args ℕ) → SingleBuiltin f b → arity ts ≡ 1 → IsAct b (node f.0 ts)
  single-args f b no_args h e = absurd (omega (arith, e))
  single-args f b (arg a no_args) h e =
      let g : Term ℕ = node f.0 (arg a no_args) in
      by_equal f.0 7 (λ q. as-builtin g (builtin.Run Alone) b (h.call q) (call-single f a q)) (λ k.
      by_equal f.0 8 (λ q. as-builtin g (builtin.Run FirstSolution) b (h.once q) (once-single f a q)) (λ l.
      by_equal f.0 9 (λ q. as-builtin g (builtin.Run NoSolution) b (h.not q) (not-single f a q)) (λ m.
      by_equal f.0 10 (λ q. as-builtin g builtin.Throw b (h.throw q) (throw-single f a q)) (λ n.
      by_equal f.0 11 (λ q. as-builtin g builtin.HaltWith b (h.halt q) (halt-single f a q)) (λ o.
      as-builtin g (builtin.Unknown f 1) b (h.other k l m n o) (other-single f a k l m n o))))))
  single-args f b (arg a (arg c ts)) h e = absurd (omega (arith, e))

  pub single-act : (f : Sym) (b : Builtin) (g : Term ℕ) → SingleBuiltin f b → g ≡ node f.0 (args_of g) → arity (args_of g) ≡ 1 → IsAct b g
  single-act f b g h e one = subst (IsAct b) (sym e) (single-args f b (args_of g) h one)

  -- the act of a goal with more than one argument
  module _ (f : Sym) (n : ℕ) (b : Builtin) (x y : Term ℕ) (us : Args ℕ) (h : LongerBuiltin f n b) (e : arity (arg x (arg y us)) ≡ n) where
    abbrev name : Text
    name = name_at t.names f.0

    abbrev first : Term Text
    first = goal_named t x

    abbrev rest : Args Text
    rest = arg (goal_named t y) (rename_args (name_at t.names) us)

    abbrev g : Term ℕ
    g = node f.0 (arg x (arg y us))

    -- by whether it is a call, and whether it is a catch
    abbrev act_by : Bool → Bool → Act
    act_by c d =
        if c then run_goal alone (follow σ first) rest left σ w else
        if d then run_goal alone (follow σ first) no_args left σ w else unknown name (suc (arity rest)) left σ w

    abbrev calls : Bool
    calls = text_eq name (codes "call") && nat_le (arity rest) 7

    abbrev catches : Bool
    catches = text_eq name (codes "catch") && (arity rest == 2)

    count : suc (arity rest) ≡ n
    count = ap (λ (k : ℕ). suc (suc k)) (arity-rename (name_at t.names) us) ∙ e

    none : calls ≡ false → catches ≡ false → IsAct (builtin.Unknown f n) g
    none p q = ap (λ (c : Bool). act_by c catches) p ∙ (ap (act_by false) q ∙ ap (λ (k : ℕ). unknown name k left σ w) count)

    no-catch : f.0 ≢ 12 → catches ≡ false
    no-catch p = first-fails (text_eq name (codes "catch")) (arity rest == 2) (is-other f.0 12 (codes "catch") (omega arith) refl p)

    no-call : f.0 ≢ 7 → calls ≡ false
    no-call p = first-fails (text_eq name (codes "call")) (nat_le (arity rest) 7) (is-other f.0 7 (codes "call") (omega arith) refl p)

    call-longer : f.0 ≡ 7 → IsAct b g
    call-longer q =
        by_order 8 n
        (λ l. as-builtin g (builtin.Unknown f n) b (h.long l)
        (none (second-fails (text_eq name (codes "call")) (nat_le (arity rest) 7) (more-than-eight (arity rest) n count l))
        (no-catch (λ p. omega (arith, p, q)))))
        (λ l. as-builtin g (builtin.Run Alone) b (h.call q l)
        (ap (λ (c : Bool). act_by c catches)
        (both-hold (text_eq name (codes "call")) (nat_le (arity rest) 7) (is-name f.0 7 (codes "call") (omega arith) refl q)
        (up-to-eight (arity rest) n count l))))

    catch-longer : f.0 ≡ 12 → IsAct b g
    catch-longer q =
        let not_call : calls ≡ false = no-call (λ p. omega (arith, p, q)) in
        by_equal n 3
        (λ three. as-builtin g builtin.Catch b (h.catch q three)
        (ap (λ (c : Bool). act_by c catches) not_call
        ∙ ap (act_by false)
        (both-hold (text_eq name (codes "catch")) (arity rest == 2)
        (is-name f.0 12 (codes "catch") (omega arith) refl q) (exactly-three (arity rest) n count three))))
        (λ no. as-builtin g (builtin.Unknown f n) b (h.other_catch q no)
        (none not_call (second-fails (text_eq name (codes "catch")) (arity rest == 2) (not-three (arity rest) n count no))))

    pub longer-pair : IsAct b g
    longer-pair =
        by_equal f.0 7 call-longer (λ p.
        by_equal f.0 12 catch-longer (λ q.
        as-builtin g (builtin.Unknown f n) b (h.other p q) (none (no-call p) (no-catch q))))

  longer-args : (f : Sym) (n : ℕ) (b : Builtin) (ts : Args ℕ) → LongerBuiltin f n b → arity ts ≡ n → 1 < n → IsAct b (node f.0 ts)
  longer-args f n b no_args h e many = absurd (omega (arith, e))
  longer-args f n b (arg x no_args) h e many = absurd (omega (arith, e))
  longer-args f n b (arg x (arg y us)) h e many = longer-pair f n b x y us h e

  pub longer-act : (f : Sym) (n : ℕ) (b : Builtin) (g : Term ℕ) → LongerBuiltin f n b → g ≡ node f.0 (args_of g) → arity (args_of g) ≡ n
      → 1 < n → IsAct b g
  longer-act f n b g h e count many = subst (IsAct b) (sym e) (longer-args f n b (args_of g) h count many)

module _ (t : Stored) (table : IsTable t.names) (begins : take (length first_names) t.names ≡ first_names) where
  -- which goals are those of catch/3
  catch-args : (f : ℕ) (ts : Args ℕ) → f ≡ 12 → arity ts ≡ 3 → is_catch (goal_named t (node f ts)) ≡ true
  catch-args f no_args q e = absurd (omega (arith, e))
  catch-args f (arg x no_args) q e = absurd (omega (arith, e))
  catch-args f (arg x (arg y no_args)) q e = absurd (omega (arith, e))
  catch-args f (arg x (arg y (arg z no_args))) q e = same-text t table begins f 12 (codes "catch") (omega arith) refl q
  catch-args f (arg x (arg y (arg z (arg u us)))) q e = absurd (omega (arith, e))

  other-args : (f : ℕ) (ts : Args ℕ) → (f ≡ 12 → arity ts ≡ 3 → ⊥) → is_catch (goal_named t (node f ts)) ≡ false
  other-args f no_args h = refl
  other-args f (arg x no_args) h = refl
  other-args f (arg x (arg y no_args)) h = refl
  other-args f (arg x (arg y (arg z no_args))) h = other-text t table begins f 12 (codes "catch") (omega arith) refl (λ q. h q refl)
  other-args f (arg x (arg y (arg z (arg u us)))) h = refl

  catch-same : (f : ℕ) (n : ℕ) (g : Term ℕ) → g ≡ node f (args_of g) → arity (args_of g) ≡ n → f ≡ 12 → n ≡ 3
      → true ≡ is_catch (goal_named t g)
  catch-same f n g is count q three =
      sym (ap (λ (x : Term ℕ). is_catch (goal_named t x)) is ∙ catch-args f (args_of g) q (count ∙ three))

  catch-other : (f : ℕ) (n : ℕ) (g : Term ℕ) → g ≡ node f (args_of g) → arity (args_of g) ≡ n → (f ≡ 12 → n ≡ 3 → ⊥)
      → false ≡ is_catch (goal_named t g)
  catch-other f n g is count h =
      sym (ap (λ (x : Term ℕ). is_catch (goal_named t x)) is ∙ other-args f (args_of g) (λ q e. h q (sym count ∙ e)))

  pub catch-decided : (r : Bool) (f n : ℕ) (g : Term ℕ) → OnTrue r ((f ≡ 12) × (n ≡ 3)) → OnFalse r (f ≡ 12 → n ≡ 3 → ⊥)
      → g ≡ node f (args_of g) → arity (args_of g) ≡ n → r ≡ is_catch (goal_named t g)
  catch-decided true f n x holds fails is count = catch-same f n x is count holds.0 holds.1
  catch-decided false f n x holds fails is count = catch-other f n x is count fails
