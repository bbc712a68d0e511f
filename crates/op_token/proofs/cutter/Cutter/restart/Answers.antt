use Rattle.std.proofs.Common.{◌≡◌, suc, ◌-◌, ◌∷◌, [], cond, ◌∙◌, ap, sym, subst, length, arith}
use Rattle.op_token.specs.Cut.{cut_of, rest_in, IsFollowed}
use Rattle.op_base.specs.Characters.{is_layout}
use Rattle.op_token.proofs.TermTexts.{take_set, followed_some, rest_last}
use Rattle.op_token.proofs.cutter.Cutter.restart.Goals as goal
use Rattle.op_token.proofs.cutter.Cutter.restart.Goals.{After-is_layout}

-- what is left is the byte that showed the end, but for layout
left : (c : After-is_layout)
    → rest_in (cut_of c.self.inside.bytes.items) c.self.inside.bytes.items
    ≡ cond c.is_layout.result [] (c.index-byte.result.now ∷ [])
left c =
    let items = c.self.inside.bytes.items in
    let byte = c.index-byte.result.now in
    let f : IsFollowed items = subst IsFollowed (sym c.self.view_is) c.requires in
    let l : suc (c.len-last.result - 1) ≡ length items =
    omega (arith, followed_some items f, c.len-last.ensures, c.self.inside.bytes.ok.0) in
    let e : is_layout byte ≡ c.is_layout.result = sym c.is_layout.ensures in
    rest_last items byte (c.len-last.result - 1) f l c.index-byte.ensures ∙ ap (λ b. cond b [] (byte ∷ [])) e

pub returns-then-is_layout-clause-rest : goal.returns-then-is_layout-clause-rest
returns-then-is_layout-clause-rest c =
    c.clear.ensures.items
    ∙ sym (left (goal.at.returns-then-is_layout-clause-rest c).After-is_layout
    ∙ ap (λ b. cond b [] (c.index-byte.result.now ∷ [])) c.if-is_layout.true)
    ∙ ap (λ s. rest_in (cut_of s) s) c.self.view_is

pub returns-else-is_layout-clause-rest : goal.returns-else-is_layout-clause-rest
returns-else-is_layout-clause-rest c =
    let f : IsFollowed c.self.inside.bytes.items = subst IsFollowed (sym c.self.view_is) c.requires in
    c.truncate.ensures.items
    ∙ take_set c.self.inside.bytes.items c.index-byte.result.now (followed_some c.self.inside.bytes.items f)
    ∙ sym (left (goal.at.returns-else-is_layout-clause-rest c).After-is_layout
    ∙ ap (λ b. cond b [] (c.index-byte.result.now ∷ [])) c.if-is_layout.false)
    ∙ ap (λ s. rest_in (cut_of s) s) c.self.view_is
