use Rattle.std.proofs.Common.{◌≡◌, ℕ, ◌+◌, ◌-◌, IfOk, IfErr, sym, subst, arith}
use Rattle.op_retrace.specs.Sight.{sight}
use Rattle.op_cursor.specs.Seen.{IsPlaceOf}
use Rattle.op_cursor.specs.Moving.{any_run, to_place}
use Rattle.op_cursor.specs.inner.Does.{Does, Fails}
use Rattle.op_cursor.proofs.FoundPlaces.{zero-does}
use Rattle.op_cursor.proofs.find.find_place.Goals as goal

pub returns-then-n-eq0-clause-does : goal.returns-then-n-eq0-clause-does
returns-then-n-eq0-clause-does g c p i =
    let v = g.F.Feed.fed c.args.feed.now in
    let a = sight g.D.Desk c.args.desk.now in
    let z : c.args.n ≡ 0 = c.if-n-eq0.true in
    subst (λ (k : ℕ). Does any_run (to_place k) p c.find_start.result v v a a c.args.steps.now c.args.steps.now c.args.fuel.now
    c.find_start.new.fuel) (sym z)
    (zero-does p c.find_start.result v a c.args.steps.now c.args.fuel.now c.find_start.new.fuel c.requires.none c.requires.sound i
    c.find_start.ensures.finds c.find_start.ensures.place)

pub returns-clause-does : goal.returns-clause-does
returns-clause-does g c =
    let t = c.if-n-eq0.false in
    let e : c.args.n - 1 + 1 ≡ c.args.n = grind arith in
    subst (λ (k : ℕ). IfOk c.find_behind.result (λ y. (p : ℕ) → IsPlaceOf (g.F.Feed.fed c.args.feed.now) p → Does any_run (to_place k) p y
    (g.F.Feed.fed c.args.feed.now) (g.F.Feed.fed c.find_behind.new.feed) (sight g.D.Desk c.args.desk.now)
    (sight g.D.Desk c.find_behind.new.desk) c.args.steps.now c.find_behind.new.steps c.args.fuel.now c.find_behind.new.fuel)) e
    c.find_behind.ensures.does

pub returns-clause-fails : goal.returns-clause-fails
returns-clause-fails g c =
    let t = c.if-n-eq0.false in
    let e : c.args.n - 1 + 1 ≡ c.args.n = grind arith in
    subst (λ (k : ℕ). IfErr c.find_behind.result (λ f. (p : ℕ) → IsPlaceOf (g.F.Feed.fed c.args.feed.now) p → Fails (to_place k) p f
    (g.F.Feed.fed c.args.feed.now) (g.F.Feed.fed c.find_behind.new.feed) (sight g.D.Desk c.args.desk.now)
    (sight g.D.Desk c.find_behind.new.desk) c.args.steps.now c.find_behind.new.steps c.args.fuel.now)) e c.find_behind.ensures.fails
