-- How a session ends.
use Rattle.std.proofs.Common.{◌≡◌, ℕ, ◌+◌, ◌<◌, ◌≤◌, min, List, [], ◌++◌, length, take, drop, Option, Some, None, Result, Ok, Err}
use Rattle.std.proofs.Common.{true, refl, sym, ap, ◌∙◌, subst, arith, length-append}
use Rattle.std.proofs.lemmas.List.{append-nil, take_at, drop_at}
use Rattle.std.proofs.KnownBytes.{Appends-trans}
use Rattle.std.specs.Io.KnownBytes.{Appends, Consumes, IsAtEnd}
use Rattle.op_desk.specs.declared.chan.Chan.TheVariants.{Commands, Talk}
use Rattle.op_trace.specs.Run.{steps_at}
use Rattle.op_session.specs.Traced.{Traced}
use Rattle.op_session.specs.declared.feed.End.{End}
use Rattle.op_token.specs.declared.piece.Piece.TheVariants.{Text, NoEnd, Empty}
use Rattle.op_token.specs.Cut.{cut_of, text_in}
use Rattle.op_session.specs.declared.feed.Feed.{Feed}
use Rattle.op_session.specs.declared.status.Status.{Status}
use Rattle.op_session.specs.declared.status.Status.TheVariants as status
use Rattle.op_session.specs.Call.{Session, channel_limit}
use Rattle.op_moves.specs.Moves.{Stand, at_start}
use Rattle.op_moves.specs.Places.{event_count}
use Rattle.op_trace.specs.Outside.{Taking}
use Rattle.op_session.specs.Session.{answer_to, from_first, so_far, complete, is_due, command_text}
use Rattle.op_session.specs.Session.{Course, session, said_by, said_in}
use Rattle.op_session.specs.Promise.{WhenTold, IsPrefix, too_long_line, InLast, AtLimit, Costs, Finished, PastLimit}
use Rattle.op_session.specs.Sight.{Sight}
use Rattle.op_session.specs.inner.Steps.{Calm, SaysAll, SaysFront, Says, ended_as}
use Rattle.op_session.specs.inner.Feeding.{AtEnd, Looked, Feeds}
use Rattle.op_session.specs.inner.Giving.{GivesAll, GivesFront, Gives}
use Rattle.op_session.specs.inner.Behind.{with_answer, IsRest}
use Rattle.op_session.specs.inner.Progress.{Holds, BreaksOff, Leaves, Ends}
use Rattle.op_session.proofs.CommandTexts.{so_far_is, complete_none, complete_one, all_read}
use Rattle.op_session.proofs.SaidToCommands.{said_one, between, front_so_far, prefix_take, answer_front}
use Rattle.op_session.proofs.BetweenBytes.{calm_more, fault_more, paid_by, paid_so_far, paid_for, told_taken, left_broken, no_line}
use Rattle.op_session.proofs.CallEnds.{not_done, leaves_fault}

-- a session that was broken off
pub leaves_broken : (traced : Traced) (s : Status) (a b : Sight) (before after : ℕ) → BreaksOff traced s a b before after
    → Leaves (Some (Session traced)) s a b before after
leaves_broken traced s a b before after k =
    leaves_fault (Some (Session traced)) s a b before after k.fault.broken k.fault.quiet k.fault.counts (λ t u. k.fault.faultless t)
    (λ e. absurd (not_done s k.fault.broken e)) k.left

-- the steps are those of the furthest place that a session over these commands looks at
costs_by : (traced : Traced) (t : Taking) (feed : Feed) (before after : ℕ) → Feeds traced (session traced t).stand feed
    → after ≡ before + feed.machine.steps → Costs traced t before after
costs_by traced t feed before after f e = record {
  most = paid_by traced (session traced t).stand feed before after f e;
  least = least (session traced t).stand f feed.ended f.looked;
}
  where
    at : (s : Stand) (n : ℕ) → min s.furthest (event_count traced.run) ≡ n → steps_at traced.run n ≤ feed.machine.steps
        → before + steps_at traced.run (min s.furthest (event_count traced.run)) ≤ after
    at s n i h = subst (λ n. before + steps_at traced.run n ≤ after) (sym i) (step (steps_at traced.run n) h)
      where
        step : (m : ℕ) → m ≤ feed.machine.steps → before + m ≤ after
        step m h = omega (arith, e)

    least : (s : Stand) → Feeds traced s feed → (o : Option End) → Looked traced.run s o
        → before + steps_at traced.run (min s.furthest (event_count traced.run)) ≤ after
    least s f None l = let within = f.within in let l' : s.furthest ≡ s.place = l in at s s.place (omega arith) f.least
    least s f (Some x) l =
        let l' : AtEnd traced.run s x = l in let p = l'.place in let q = l'.furthest in at s s.place (omega arith) f.least

-- all commands were taken and answered
pub finishes : (traced : Traced) (a b : Sight) (before after : ℕ) (taken : List ℕ) (feed : Feed) → Calm a b
    → Consumes (a.left Commands) (b.left Commands) taken → IsAtEnd (b.left Commands) → length taken < channel_limit
    → Appends (a.written Talk) (b.written Talk) (said_in traced (complete taken))
    → Feeds traced (session traced (complete taken)).stand feed → after ≡ before + feed.machine.steps
    → Leaves (Some (Session traced)) status.Done a b before after
finishes traced a b before after taken feed calm c end short talk f e = record {
  done = λ h. told_taken (a.left Commands) (b.left Commands) taken (λ bytes. Finished traced bytes a b) c done;
  cost = λ h. told_taken (a.left Commands) (b.left Commands) taken (λ bytes. Costs traced (complete bytes) before after) c cost;
  load = λ h. absurd cc;
  too_long = λ h. absurd cc;
  broken = λ h. absurd h;
  untaken = λ h. absurd h;
  unpaid = λ h. absurd h;
  usage = λ h. cc;
  different = λ h. cc;
  counts = (calm.reads, calm.writes);
  left = calm.quiet.left;
  written = calm.quiet.written;
  faultless = λ t u. tt;
}
  where
    none : (rest : List ℕ) → b.left Commands ≡ Some rest → rest ≡ []
    none rest l = subst IsAtEnd l end

    all : (bytes rest : List ℕ) → b.left Commands ≡ Some rest → bytes ≡ taken ++ rest → taken ≡ bytes
    all bytes rest l are = sym (are ∙ ap (λ r. taken ++ r) (none rest l) ∙ append-nil taken)

    done : (bytes rest : List ℕ) → b.left Commands ≡ Some rest → bytes ≡ taken ++ rest → Finished traced bytes a b
    done bytes rest l are =
        let q : taken ≡ bytes = all bytes rest l are in
        record {
          short = subst (λ t. length t < channel_limit) q short;
          answers = subst (λ t. Appends (a.written Talk) (b.written Talk) (said_in traced (complete t))) q talk;
          read = l ∙ ap (λ r. Some r) (none rest l ∙ sym (all_read traced true (length bytes) at_start bytes));
        }

    cost : (bytes rest : List ℕ) → b.left Commands ≡ Some rest → bytes ≡ taken ++ rest → Costs traced (complete bytes) before after
    cost bytes rest l are =
        subst (λ t. Costs traced (complete t) before after) (all bytes rest l are)
        (costs_by traced (complete taken) feed before after f e)

-- nothing but layout and comments is left
pub ends_empty : (traced : Traced) (a b : Sight) (n before after : ℕ) (p : List ℕ) (feed : Feed) → Holds traced a b n before after p feed
    → IsAtEnd (b.left Commands) → n < channel_limit → cut_of p ≡ Empty → Leaves (Some (Session traced)) status.Done a b before after
ends_empty traced a b n before after p feed h end short e =
    let count = h.count in
    let all : session traced (complete h.taken) ≡ h.course = complete_none traced h.course h.taken p h.cuts e in
    finishes traced a b before after h.taken feed h.calm h.commands end (omega arith)
    (subst (λ (c : Course). Appends (a.written Talk) (b.written Talk) (said_by c)) (sym all) h.talk)
    (subst (λ (c : Course). Feeds traced c.stand feed) (sym all) h.feeds) h.cost

-- where all was taken, and one command is left
whole_rest : (traced : Traced) (a b : Sight) (n before after : ℕ) (p text : List ℕ) (feed : Feed)
    → (h : Holds traced a b n before after p feed) → IsRest p text
    → session traced (complete h.taken) ≡ with_answer traced h.course text
whole_rest traced a b n before after p text feed h e =
    complete_one traced h.course h.taken p h.cuts h.unended e.0 ∙ ap (λ t. with_answer traced h.course t) (sym e.1)

-- that one was answered
ends_given : (traced : Traced) (a b c : Sight) (n before after paid : ℕ) (p text : List ℕ) (feed new : Feed)
    → (h : Holds traced a b n before after p feed) → IsAtEnd (b.left Commands) → n < channel_limit → IsRest p text
    → GivesAll traced h.course.stand text feed new after paid b c → Leaves (Some (Session traced)) status.Done a c before paid
ends_given traced a b c n before after paid p text feed new h end short e g =
    let count = h.count in
    let all : session traced (complete h.taken) ≡ with_answer traced h.course text = whole_rest traced a b n before after p text feed h e in
    finishes traced a c before paid h.taken new (calm_more a b c h.calm g.says.calm)
    (subst (λ k. Consumes (a.left Commands) k h.taken) (sym g.says.commands) h.commands)
    (subst IsAtEnd (sym g.says.commands) end) (omega arith)
    (subst (λ (d : Course). Appends (a.written Talk) (c.written Talk) (said_by d)) (sym all)
    (subst (Appends (a.written Talk) (c.written Talk)) (sym (said_one traced h.course text))
    (Appends-trans (a.written Talk) (b.written Talk) (c.written Talk) (said_by h.course)
    (answer_to traced h.course.stand text).text h.talk g.says.talk)))
    (subst (λ (d : Course). Feeds traced d.stand new) (sym all) g.feeds)
    (let cost = h.cost in let pays = g.pays.cost in let later = g.pays.later in omega arith)

-- or could not be answered
ends_stopped : (traced : Traced) (s : Status) (a b c : Sight) (n before after paid : ℕ) (p text : List ℕ) (feed new : Feed)
    → (h : Holds traced a b n before after p feed)
    → IsAtEnd (b.left Commands) → n < channel_limit → IsRest p text
    → GivesFront traced h.course.stand text feed new s after paid b c → BreaksOff traced s a c before paid
ends_stopped traced s a b c n before after paid p text feed new h end short e g =
    let answer = (answer_to traced h.course.stand text).text in
    let said = said_by h.course in
    let w = said ++ take g.says.talk.count answer in
    let whole : session traced (so_far h.taken) ≡ h.course = so_far_is traced h.course h.taken p h.cuts h.unended in
    let all : session traced (complete h.taken) ≡ with_answer traced h.course text = whole_rest traced a b n before after p text feed h e in
    let none : (rest : List ℕ) → c.left Commands ≡ Some rest → rest ≡ [] = λ rest l. subst IsAtEnd (sym g.says.commands ∙ l) end in
    let front : IsPrefix w (said_in traced (complete h.taken)) =
    subst (λ (d : Course). IsPrefix w (said_by d)) (sym all) (answer_front traced h.course text g.says.talk.count) in
    record {
      fault = fault_more s a b c h.calm g.says.fault;
      left = left_broken traced s InLast a c h.taken w [] before paid g.says.unwritten
          (subst (λ n. n < channel_limit) (sym h.count) short)
          none
          (subst (λ k. Consumes (a.left Commands) k h.taken) (sym g.says.commands) h.commands)
          (no_line (a.written Talk) (c.written Talk) w
          (Appends-trans (a.written Talk) (b.written Talk) (c.written Talk) said (take g.says.talk.count answer) h.talk g.says.talk.front))
          (λ rest l. subst (λ t. IsPrefix w (said_in traced (complete t)))
          (sym (ap (λ r. h.taken ++ r) (none rest l) ∙ append-nil h.taken)) front)
          (between traced h.course (so_far h.taken) (complete h.taken) text g.says.talk.count whole all)
          ([], refl)
          (paid_for traced s a b n before after paid p text feed new (complete h.taken) h all g.feeds g.pays);
    }

-- another byte would be asked for
past_limit : (traced : Traced) (a c : Sight) (taken : List ℕ) (before after : ℕ) → length taken ≡ channel_limit
    → Consumes (a.left Commands) (c.left Commands) taken
    → Appends (a.written Talk) (c.written Talk) (said_in traced (so_far taken) ++ too_long_line)
    → ((rest : List ℕ) → IsPrefix (said_in traced (so_far taken)) (said_in traced (complete (taken ++ rest))))
    → Costs traced (so_far taken) before after
    → WhenTold (a.left Commands) (λ bytes. PastLimit traced bytes a c before after)
past_limit traced a c taken before after l consumes w front k =
    told_taken (a.left Commands) (c.left Commands) taken (λ bytes. PastLimit traced bytes a c before after) consumes past
  where
    past : (bytes rest : List ℕ) → c.left Commands ≡ Some rest → bytes ≡ taken ++ rest → PastLimit traced bytes a c before after
    past bytes rest e are =
        let behind : rest ≡ drop channel_limit bytes = sym (ap (drop channel_limit) are ∙ drop_at taken rest channel_limit l) in
        let same : taken ≡ take channel_limit bytes = sym (ap (take channel_limit) are ∙ take_at taken rest channel_limit l) in
        record {
          long = rw are (omega (arith, length-append taken rest));
          left = e ∙ ap (λ r. Some r) behind;
          front = subst (λ t. IsPrefix (said_in traced (so_far t)) (said_in traced (complete bytes))) same
              (subst (λ t. IsPrefix (said_in traced (so_far taken)) (said_in traced (complete t))) (sym are) (front rest));
          written = subst (λ t. Appends (a.written Talk) (c.written Talk) (said_in traced (so_far t) ++ too_long_line)) same w;
          costs = subst (λ t. Costs traced (so_far t) before after) same k;
        }

pub passes_limit : (traced : Traced) (a b c : Sight) (before after : ℕ) (p : List ℕ) (feed : Feed)
    → Holds traced a b channel_limit before after p feed
    → SaysAll b c too_long_line → Leaves (Some (Session traced)) status.TooLong a c before after
passes_limit traced a b c before after p feed h g =
    let calm = calm_more a b c h.calm g.calm in
    let whole : session traced (so_far h.taken) ≡ h.course = so_far_is traced h.course h.taken p h.cuts h.unended in
    record {
      done = λ e. absurd cc;
      cost = λ e. absurd cc;
      load = λ e. absurd cc;
      too_long = λ e. past_limit traced a c h.taken before after h.count
          (subst (λ k. Consumes (a.left Commands) k h.taken) (sym g.commands) h.commands)
          (subst (λ (d : Course). Appends (a.written Talk) (c.written Talk) (said_by d ++ too_long_line)) (sym whole)
          (Appends-trans (a.written Talk) (b.written Talk) (c.written Talk) (said_by h.course) too_long_line h.talk g.talk))
          (λ rest. subst (λ (d : Course). IsPrefix (said_by d) (said_in traced (complete (h.taken ++ rest)))) (sym whole)
          (front_so_far traced h.course h.taken p rest h.cuts))
          (costs_by traced (so_far h.taken) feed before after
          (subst (λ (d : Course). Feeds traced d.stand feed) (sym whole) h.feeds) h.cost);
      broken = λ e. absurd e;
      untaken = λ e. absurd e;
      unpaid = λ e. absurd e;
      usage = λ e. cc;
      different = λ e. cc;
      counts = (calm.reads, calm.writes);
      left = calm.quiet.left;
      written = calm.quiet.written;
      faultless = λ t u. tt;
    }

pub stops_at_limit : (traced : Traced) (s : Status) (a b c : Sight) (before after : ℕ) (p : List ℕ) (feed : Feed)
    → Holds traced a b channel_limit before after p feed → SaysFront s b c too_long_line → BreaksOff traced s a c before after
stops_at_limit traced s a b c before after p feed h g =
    let said = said_by h.course in
    let line = take g.talk.count too_long_line in
    let whole : session traced (so_far h.taken) ≡ h.course = so_far_is traced h.course h.taken p h.cuts h.unended in
    record {
      fault = fault_more s a b c h.calm g.fault;
      left = left_broken traced s AtLimit a c h.taken said line before after g.unwritten h.count
          (λ rest e. tt)
          (subst (λ k. Consumes (a.left Commands) k h.taken) (sym g.commands) h.commands)
          (Appends-trans (a.written Talk) (b.written Talk) (c.written Talk) said line h.talk g.talk.front)
          (λ rest e. front_so_far traced h.course h.taken p rest h.cuts)
          (ap said_by (sym whole))
          (prefix_take g.talk.count too_long_line)
          (paid_so_far traced a b channel_limit before after p feed (so_far h.taken) h whole);
    }

-- the rest, as a session meets it
pub rest_ends : (traced : Traced) (a b c : Sight) (n before after paid : ℕ) (p text : List ℕ) (feed new : Feed)
    → (r : Result (Unit {0}) Status) → (h : Holds traced a b n before after p feed) → IsAtEnd (b.left Commands) → n < channel_limit
    → IsRest p text → Gives traced h.course.stand text feed new after paid b c r
    → Ends traced a before c paid r
rest_ends traced a b c n before after paid p text feed new (Ok x) h end short e g =
    ends_given traced a b c n before after paid p text feed new h end short e g
rest_ends traced a b c n before after paid p text feed new (Err s) h end short e g =
    ends_stopped traced s a b c n before after paid p text feed new h end short e g

-- a whole text, or one without its end
pub text_rest : (f t : ℕ) (p text : List ℕ) → cut_of p ≡ Text f t → text ≡ text_in (cut_of p) p → IsRest p text
text_rest f t p text e et = (
  ap (λ x. is_due true x (length p)) e,
  et ∙ ap (λ x. text_in x p) e ∙ sym (ap (λ x. command_text x p) e),
)

pub no_end_rest : (p text : List ℕ) → cut_of p ≡ NoEnd → text ≡ from_first p → IsRest p text
no_end_rest p text e et = (ap (λ x. is_due true x (length p)) e, et ∙ sym (ap (λ x. command_text x p) e))

pub rest_leaves : (traced : Traced) (a b : Sight) (before after : ℕ) (r : Result (Unit {0}) Status) → Ends traced a before b after r
    → Leaves (Some (Session traced)) (ended_as status.Done r) a b before after
rest_leaves traced a b before after (Ok x) e = e
rest_leaves traced a b before after (Err s) e = leaves_broken traced s a b before after e

pub limit_leaves : (traced : Traced) (a b c : Sight) (n before after : ℕ) (p : List ℕ) (feed : Feed) (r : Result (Unit {0}) Status)
    → n ≡ channel_limit → Holds traced a b n before after p feed → Says b c too_long_line r
    → Leaves (Some (Session traced)) (ended_as status.TooLong r) a c before after
limit_leaves traced a b c n before after p feed (Ok x) e h g =
    passes_limit traced a b c before after p feed (subst (λ n. Holds traced a b n before after p feed) e h) g
limit_leaves traced a b c n before after p feed (Err s) e h g = leaves_broken traced s a c before after
    (stops_at_limit traced s a b c before after p feed (subst (λ n. Holds traced a b n before after p feed) e h) g)
