-- Names join those of a program, or none do.
use Rattle.std.proofs.Common.{◌≡◌, length, take, Result, IfOk, refl, sym, ap, ◌∙◌, subst, arith}
use Rattle.std.proofs.lemmas.List.{take-take}
use Rattle.std.proofs.lemmas.Result.{IfOk-weaker}
use Rattle.std.proofs.Math.Seq.{take-length}
use Rattle.op_store.specs.Stored.{Stored}
use Rattle.op_machine.proofs.MadeJoins.{names-more}
use Rattle.op_machine.specs.declared.core_state.Core.{Core}
use Rattle.op_machine.specs.declared.core_state.Step.{Step}
use Rattle.op_machine.specs.Resume.{Moved}
use Rattle.op_machine.specs.inner.Moves.{HasGrown, Keeps, KeepsProgram, Advances, Proceeds}

pub grown-self : (t : Stored) → HasGrown t t
grown-self t = record { rest = refl; names = take-length t.names }

pub grown-same : (s t : Stored) → t ≡ s → HasGrown s t
grown-same s t e = subst (HasGrown s) (sym e) (grown-self s)

pub grown-grown : (a b c : Stored) → HasGrown a b → HasGrown b c → HasGrown a c
grown-grown a b c h k = record {
  rest = k.rest ∙ ap (λ (x : Stored). record x { names = c.names }) h.rest;
  names = sym (take-take (length a.names) (length b.names) c.names (names-more a.names b.names h.names))
      ∙ (ap (take (length a.names)) k.names ∙ h.names);
}

pub keeps_program : (old new : Core) → Keeps old new → KeepsProgram old new
keeps_program old new k = record { store = grown-same old.store new.store k.store; names = k.names; later = k.later }

pub keeps-keeps : (a b c : Core) → KeepsProgram a b → KeepsProgram b c → KeepsProgram a c
keeps-keeps a b c h k = record {
  store = grown-grown a.store b.store c.store h.store k.store;
  names = k.names ∙ h.names;
  later = omega (arith, h.later, k.later);
}

pub proceeds : (old new : Core) (m : Moved) (s : Step) → Advances old new m s → Proceeds old new m s
proceeds old new m s a = record {
  turns = a.turns;
  state = a.state;
  good = a.good;
  looked = a.looked;
  store = grown-same old.store new.store a.store;
  names = a.names;
  budget = a.budget;
  wanted = a.wanted;
}

pub answer_proceeds : {E : Type 0} (old new : Core) (m : Moved) (o : Result Step E) → IfOk o (Advances old new m)
    → IfOk o (Proceeds old new m)
answer_proceeds old new m o a = IfOk-weaker o (λ s. Advances old new m s) (λ s. Proceeds old new m s) (λ s. proceeds old new m s) a
