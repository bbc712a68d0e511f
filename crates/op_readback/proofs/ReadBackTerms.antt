-- Terms of the code are written and read again.
use Rattle.std.proofs.Common.{◌≡◌, ◌<◌, ℕ, List, [], ◌++◌, length, take, All, refl, sym, ◌∙◌, ap, subst, arith}
use Rattle.std.specs.Str.{IsUtf8}
use Rattle.op_logic.specs.Term.{Term, var, int, node, Args, no_args, arg, rename_args, IsWithin, ArgsWithin}
use Rattle.op_logic.specs.Names as tables
use Rattle.op_logic.specs.Names.{name_at, named, HasNames, ArgsHaveNames}
use Rattle.op_logic.proofs.Injective.{named-same}
use Rattle.op_logic.proofs.NameTables.{name_at-below, named-more}
use Rattle.op_term.specs.Integers.{HasSmallIntegers, HaveSmallIntegers}
use Rattle.op_term.specs.Ops.{Table, IsTable}
use Rattle.op_reader.specs.declared.fault.ReadFaultKind.{ReadFaultKind}
use Rattle.op_term.specs.declared.quotes.DoubleQuotes.{DoubleQuotes}
use Rattle.op_reader.specs.Reading.{Outcome, term, end, refused, reading_of}
use Rattle.op_reader.specs.Variables.{variables, args_variables, AreNumbered, HasVariables}
use Rattle.op_writer.specs.declared.style.Style.{Style}
use Rattle.op_writer.specs.declared.style.Style.TheVariants.{Plain, Quoted, Canonical}
use Rattle.op_readback.specs.ReadBack.{IsClosed, AreClosed, clause_text, IsReadBack, AreReadBack}
use Rattle.op_readback.proofs.ReadBackLaw.{quoted-is-read-back, canonical-is-read-back}

abbrev Text : Type 0
Text = List ℕ

-- a term without variables is closed over texts, where the names of its table are texts and its integers have 64 bits
module _ (table : List Text) (texts : All IsUtf8 table) where
  mutual
    closed-named : (t : Term ℕ) → IsWithin 0 t → HasNames (length table) t → HasSmallIntegers t → IsClosed (named table t)
    closed-named (var v) w h s = absurd (omega (arith, w))
    closed-named (int i) w h s = s
    closed-named (node f ts) w h s = (subst IsUtf8 (sym (name_at-below table f h.0)) (texts f [] h.0), args-closed-named ts w h.1 s)

    args-closed-named : (ts : Args ℕ) → ArgsWithin 0 ts → ArgsHaveNames (length table) ts → HaveSmallIntegers ts
        → AreClosed (rename_args (name_at table) ts)
    args-closed-named no_args w h s = tt
    args-closed-named (arg t ts) w h s = (closed-named t w.0 h.0 s.0, args-closed-named ts w.1 h.1 s.1)

reads : (ops : Table) → IsTable ops → (t : Term Text) → IsClosed t → AreReadBack ops t
reads ops table t h Plain quotes p r l = absurd r
reads ops table t h Quoted quotes p r l = quoted-is-read-back ops table quotes t p h r l
reads ops table t h Canonical quotes p r l = canonical-is-read-back ops table quotes t p h l

pub texts-are-read-back : (ops : Table) → IsTable ops → (table : List Text) → All IsUtf8 table → (t : Term ℕ)
    → IsWithin 0 t → HasNames (length table) t → HasSmallIntegers t → AreReadBack ops (named table t)
texts-are-read-back ops o table u t w h s = reads ops o (named table t) (closed-named table u t w h s)

-- what is read of a text that is a term's
pub read-of : (ops : Table) (quotes : DoubleQuotes) (style : Style) (t : Term Text) (p : ℕ) (text bytes : Text) → bytes ≡ text
    → text ≡ clause_text ops style t p → IsReadBack ops quotes style t p
    → reading_of ops quotes bytes ≡ term t [] (length (clause_text ops style t p))
read-of ops quotes style t p text bytes e f h = ap (reading_of ops quotes) (e ∙ f) ∙ h

-- two readings of one outcome
module _ (o : Outcome) (t : Term Text) (n : ℕ) (is : o ≡ term t [] n) where
  same-terms : (u : Term Text) (ns : List (Text × ℕ)) (m : ℕ) → term t [] n ≡ term u ns m → (t ≡ u) × ([] ≡ ns) × (n ≡ m)
  same-terms u ns m e = let a : t ≡ u = cc in let b : [] ≡ ns = cc in let d : n ≡ m = cc in (a, b, d)

  pub one-term : (u : Term Text) (ns : List (Text × ℕ)) (m : ℕ) → o ≡ term u ns m → (t ≡ u) × ([] ≡ ns) × (n ≡ m)
  one-term u ns m e = same-terms u ns m (sym is ∙ e)

  pub no-end : o ≡ end → ⊥
  no-end e = let f : term t [] n ≡ end = sym is ∙ e in absurd cc

  pub no-refusal : (place : ℕ) (kind : ReadFaultKind) → o ≡ refused place kind → ⊥
  no-refusal place kind e = let f : term t [] n ≡ refused place kind = sym is ∙ e in absurd cc

-- over a table that grew, a term with the same text is the same term
pub same-term : (old new : List Text) → tables.IsTable new → take (length old) new ≡ old → (t u : Term ℕ) → HasNames (length old) t
    → named old t ≡ named new u → u ≡ t
same-term old new table kept t u h e = named-same new table u t (sym e ∙ sym (named-more old new kept t h))

-- a term without variables has none
mutual
  no-variables : (t : Term ℕ) → IsWithin 0 t → variables t ≡ []
  no-variables (var v) w = absurd (omega (arith, w))
  no-variables (int i) w = refl
  no-variables (node f ts) w = args-no-variables ts w

  args-no-variables : (ts : Args ℕ) → ArgsWithin 0 ts → args_variables ts ≡ []
  args-no-variables no_args w = refl
  args-no-variables (arg t ts) w =
      ap (λ (vs : List ℕ). vs ++ args_variables ts) (no-variables t w.0) ∙ args-no-variables ts w.1

pub counts-none : (n : ℕ) (t : Term ℕ) (ns : List (Text × ℕ)) → IsWithin 0 t → HasVariables n t ns → n ≡ 0
counts-none n t ns w h = sym (subst (λ (vs : List ℕ). AreNumbered 0 vs n) (no-variables t w) h.numbered)
