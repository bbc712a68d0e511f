-- What calls leave that end before a session, or by one that another layer ran.
use Rattle.std.proofs.Common.{◌≡◌, ℕ, ◌+◌, ◌<◌, ◌≤◌, List, [], ◌++◌, take, Option, Some, None, Result, Ok, Err, IsTrue}
use Rattle.std.proofs.Common.{refl, sym, ◌∙◌, subst, arith}
use Rattle.std.proofs.KnownBytes.{Appends-nil, Consumes-nil}
use Rattle.std.specs.Io.KnownBytes.{Appends, Consumes}
use Rattle.op_desk.specs.declared.chan.Chan.TheVariants.{Commands, Talk}
use Rattle.op_desk.specs.Contents.{AppendsFront}
use Rattle.op_desk.proofs.FrameLaws.{SameBut-then}
use Rattle.op_trace.specs.Run.{steps_at}
use Rattle.op_session.specs.declared.status.Status.{Status}
use Rattle.op_session.specs.declared.status.Status.TheVariants as status
use Rattle.op_session.specs.Traced.{Traced}
use Rattle.op_session.specs.Call.{Outcome, Line, Missing, Session, channel_limit}
use Rattle.op_session.specs.Session.{so_far, complete, said_in}
use Rattle.op_session.specs.Promise.{WhenTold, InTaking, IsUnread, IsBroken, IsFaultless, CountsAs, too_long_line}
use Rattle.op_session.specs.Promise.{Finished, Costs, PastLimit, BrokenOff, DoneAs, CostsAs, LoadAs, TooLongAs, BrokenAs, HasFile}
use Rattle.op_session.specs.Sight.{Sight}
use Rattle.op_session.specs.inner.Steps.{Quiet, SaysFront, Says, Untouched, Unread, ended_as}
use Rattle.op_session.specs.inner.Progress.{Leaves, IsOutcome}
use Rattle.op_session.proofs.BetweenBytes.{calm_start, left_broken}

pub not_done : (s : Status) → IsBroken s → s ≡ status.Done → ⊥
not_done s i e = subst IsBroken e i

-- a fault of the desk, or want of memory
pub leaves_fault : (o : Option Outcome) (s : Status) (a b : Sight) (before after : ℕ) → IsBroken s → Quiet a b
    → CountsAs s a.reads b.reads a.writes b.writes
    → (IsTrue a.steady → WhenTold o (λ x. HasFile x → IsFaultless s)) → WhenTold o (λ x. CostsAs x s a before after)
    → WhenTold o (λ x. BrokenAs x s a b before after) → Leaves o s a b before after
leaves_fault o status.Read a b before after i q c f p w = record {
  done = λ h. absurd cc;
  cost = p;
  load = λ h. absurd cc;
  too_long = λ h. absurd cc;
  broken = λ h. w;
  untaken = λ h. absurd h;
  unpaid = λ h. absurd h;
  usage = λ h. cc;
  different = λ h. cc;
  counts = c;
  left = q.left;
  written = q.written;
  faultless = f;
}
leaves_fault o status.Write a b before after i q c f p w = record {
  done = λ h. absurd cc;
  cost = p;
  load = λ h. absurd cc;
  too_long = λ h. absurd cc;
  broken = λ h. w;
  untaken = λ h. absurd h;
  unpaid = λ h. absurd h;
  usage = λ h. cc;
  different = λ h. cc;
  counts = c;
  left = q.left;
  written = q.written;
  faultless = f;
}
leaves_fault o status.Memory a b before after i q c f p w = record {
  done = λ h. absurd cc;
  cost = p;
  load = λ h. absurd cc;
  too_long = λ h. absurd cc;
  broken = λ h. w;
  untaken = λ h. absurd h;
  unpaid = λ h. absurd h;
  usage = λ h. cc;
  different = λ h. cc;
  counts = c;
  left = q.left;
  written = q.written;
  faultless = f;
}
leaves_fault o s a b before after i q c f p w = absurd i

none_taken : 0 < 67108864
none_taken = omega arith

no_fewer : (n m : ℕ) → n ≤ n + m
no_fewer n m = omega arith

-- nothing was said or taken
untouched_session : (traced : Traced) (s : Status) (a b : Sight) (n : ℕ) → IsUnread s → b.written Talk ≡ a.written Talk
    → b.left Commands ≡ a.left Commands → WhenTold (a.left Commands) (λ bytes. BrokenOff traced s bytes a b n n)
untouched_session traced s a b n u t c =
    left_broken traced s InTaking a b [] [] [] n n u none_taken (λ rest e. tt)
    (subst (λ k. Consumes (a.left Commands) k []) (sym c) (Consumes-nil (a.left Commands)))
    (subst (λ k. Appends (a.written Talk) k []) (sym t) (Appends-nil (a.written Talk)))
    (λ rest e. (said_in traced (complete rest), refl)) refl ([], refl) (no_fewer n (steps_at traced.run 0))

pub no_front : (a b : Sight) (text : List ℕ) → b.written Talk ≡ a.written Talk → AppendsFront (a.written Talk) (b.written Talk) text
no_front a b text t =
    record { count = 0; within = omega arith; front = subst (λ k. Appends (a.written Talk) k []) (sym t) (Appends-nil (a.written Talk)) }

untouched_by : (x : Outcome) (s : Status) (a b : Sight) (n : ℕ) → IsUnread s → b.written Talk ≡ a.written Talk
    → b.left Commands ≡ a.left Commands → BrokenAs x s a b n n
untouched_by (Line t text) status.Read a b n u k c = (k, c)
untouched_by (Line t text) status.Memory a b n u k c = (no_front a b text k, c)
untouched_by (Line t text) s a b n u k c = absurd u
untouched_by Missing s a b n u k c = (u, k, c)
untouched_by (Session traced) s a b n u k c =
    untouched_session traced s a b n u k c

-- no step was made
unpaid_by : (x : Outcome) (s : Status) (a : Sight) (n : ℕ) → IsBroken s → CostsAs x s a n n
unpaid_by (Line t text) s a n i = refl
unpaid_by Missing s a n i = refl
unpaid_by (Session traced) s a n i = λ e. absurd (not_done s i e)

told_any : (o : Option Outcome) (P : Outcome → Type 0) → ((x : Outcome) → P x) → WhenTold o P
told_any None P f = tt
told_any (Some x) P f = f x

told_by : {A : Type 0} (o : Option A) (P Q : A → Type 0) → ((x : A) → P x → Q x) → WhenTold o P → WhenTold o Q
told_by None P Q f p = tt
told_by (Some x) P Q f p = f x p

pub leaves_memory : (o : Option Outcome) (a b : Sight) (before : ℕ) → Untouched a b → Leaves o status.Memory a b before before
leaves_memory o a b before u =
    leaves_fault o status.Memory a b before before tt u.calm.quiet (u.calm.reads, u.calm.writes)
    (λ t. told_any o (λ x. HasFile x → IsFaultless status.Memory) (λ x f. tt))
    (told_any o (λ x. CostsAs x status.Memory a before before) (λ x. unpaid_by x status.Memory a before tt))
    (told_any o (λ x. BrokenAs x status.Memory a b before before) (λ x. untouched_by x status.Memory a b before tt u.talk u.commands))

-- a file that could not be read
pub leaves_unread : (o : Option Outcome) (name : List ℕ) (s : Status) (a b : Sight) (before : ℕ)
    → (IsTrue a.steady → s ≡ status.Read → WhenTold o (λ x. HasFile x → ⊥)) → Unread name s a b → Leaves o s a b before before
leaves_unread o name status.Read a b before m u =
    leaves_fault o status.Read a b before before tt u.quiet u.counts (λ t. m t refl)
    (told_any o (λ x. CostsAs x status.Read a before before) (λ x. unpaid_by x status.Read a before tt))
    (told_any o (λ x. BrokenAs x status.Read a b before before) (λ x. untouched_by x status.Read a b before tt u.talk u.commands))
leaves_unread o name status.Memory a b before m u =
    leaves_fault o status.Memory a b before before tt u.quiet u.counts
    (λ t. told_any o (λ x. HasFile x → IsFaultless status.Memory) (λ x f. tt))
    (told_any o (λ x. CostsAs x status.Memory a before before) (λ x. unpaid_by x status.Memory a before tt))
    (told_any o (λ x. BrokenAs x status.Memory a b before before) (λ x. untouched_by x status.Memory a b before tt u.talk u.commands))
leaves_unread o name s a b before m u = absurd u.unread

-- a fault line that could not be written
pub leaves_half : (s t : Status) (line : List ℕ) (a b : Sight) (before : ℕ) → SaysFront t a b line
    → Leaves (Some (Line s line)) t a b before before
leaves_half s status.Write line a b before g =
    leaves_fault (Some (Line s line)) status.Write a b before before tt g.fault.quiet g.fault.counts (λ t h. g.fault.faultless t) refl
    (g.talk, g.commands)
leaves_half s status.Memory line a b before g =
    leaves_fault (Some (Line s line)) status.Memory a b before before tt g.fault.quiet g.fault.counts (λ t h. g.fault.faultless t) refl
    (g.talk, g.commands)
leaves_half s t line a b before g = absurd g.unwritten

-- a line that was
pub leaves_load : (line : List ℕ) (a b : Sight) (before : ℕ) (r : Result (Unit {0}) Status) → Says a b line r
    → Leaves (Some (Line status.Load line)) (ended_as status.Load r) a b before before
leaves_load line a b before (Ok x) g = record {
  done = λ h. absurd cc;
  cost = refl;
  load = λ h. g.talk;
  too_long = λ h. absurd cc;
  broken = λ h. absurd h;
  untaken = λ h. g.commands;
  unpaid = λ h. refl;
  usage = λ h. cc;
  different = λ h. cc;
  counts = (g.calm.reads, g.calm.writes);
  left = g.calm.quiet.left;
  written = g.calm.quiet.written;
  faultless = λ t h. tt;
}
leaves_load line a b before (Err t) g = leaves_half status.Load t line a b before g

pub leaves_long : (line : List ℕ) (a b : Sight) (before : ℕ) (r : Result (Unit {0}) Status) → Says a b line r
    → Leaves (Some (Line status.TooLong line)) (ended_as status.TooLong r) a b before before
leaves_long line a b before (Ok x) g = record {
  done = λ h. absurd cc;
  cost = refl;
  load = λ h. absurd cc;
  too_long = λ h. (g.talk, g.commands);
  broken = λ h. absurd h;
  untaken = λ h. absurd h;
  unpaid = λ h. absurd h;
  usage = λ h. cc;
  different = λ h. cc;
  counts = (g.calm.reads, g.calm.writes);
  left = g.calm.quiet.left;
  written = g.calm.quiet.written;
  faultless = λ t h. tt;
}
leaves_long line a b before (Err t) g = leaves_half status.TooLong t line a b before g

-- the outcome under another name, or untold
pub retell : (o : Option Outcome) (x : Outcome) (s : Status) (a b : Sight) (before after : ℕ) → IsOutcome o x
    → Leaves (Some x) s a b before after
    → Leaves o s a b before after
retell None x s a b before after i l = record {
  done = λ h. tt;
  cost = tt;
  load = λ h. tt;
  too_long = λ h. tt;
  broken = λ h. tt;
  untaken = l.untaken;
  unpaid = l.unpaid;
  usage = l.usage;
  different = l.different;
  counts = l.counts;
  left = l.left;
  written = l.written;
  faultless = λ t. tt;
}
retell (Some y) x s a b before after i l = subst (λ x. Leaves (Some x) s a b before after) (sym i) l

-- what was untouched before
finished_after : (traced : Traced) (bytes : List ℕ) (a b c : Sight) → Untouched a b → Finished traced bytes b c
    → Finished traced bytes a c
finished_after traced bytes a b c u d = record {
  short = d.short;
  answers = subst (λ t. Appends t (c.written Talk) (said_in traced (complete bytes))) u.talk d.answers;
  read = d.read;
}

past_limit_after : (traced : Traced) (bytes : List ℕ) (a b c : Sight) (before after : ℕ) → Untouched a b
    → PastLimit traced bytes b c before after → PastLimit traced bytes a c before after
past_limit_after traced bytes a b c before after u d = record {
  long = d.long;
  left = d.left;
  front = d.front;
  written = subst (λ t. Appends t (c.written Talk) (said_in traced (so_far (take channel_limit bytes)) ++ too_long_line)) u.talk d.written;
  costs = d.costs;
}

broken_off_after : (traced : Traced) (s : Status) (bytes : List ℕ) (a b c : Sight) (before after : ℕ) → Untouched a b
    → BrokenOff traced s bytes b c before after → BrokenOff traced s bytes a c before after
broken_off_after traced s bytes a b c before after u d = record {
  met = d.met;
  taken = d.taken;
  rest = d.rest;
  answers = d.answers;
  line = d.line;
  is_met = d.is_met;
  bytes_are = d.bytes_are;
  left = d.left;
  count = d.count;
  is_taken = d.is_taken;
  front = d.front;
  answered = d.answered;
  line_front = d.line_front;
  written = subst (λ t. Appends t (c.written Talk) (d.answers ++ d.line)) u.talk d.written;
  paid = d.paid;
}

done_after : (a b c : Sight) → Untouched a b → (x : Outcome) → DoneAs x b c → DoneAs x a c
done_after a b c u (Line s text) d = d
done_after a b c u Missing d = d
done_after a b c u (Session traced) d =
    subst (λ k. WhenTold k (λ bytes. Finished traced bytes a c)) u.commands
    (told_by (b.left Commands) (λ bytes. Finished traced bytes b c) (λ bytes. Finished traced bytes a c)
    (λ bytes. finished_after traced bytes a b c u) d)

cost_after : (s : Status) (a b : Sight) (before after : ℕ) → Untouched a b → (x : Outcome) → CostsAs x s b before after
    → CostsAs x s a before after
cost_after s a b before after u (Line t text) d = d
cost_after s a b before after u Missing d = d
cost_after s a b before after u (Session traced) d =
    λ e. subst (λ k. WhenTold k (λ bytes. Costs traced (complete bytes) before after)) u.commands (d e)

load_after : (a b c : Sight) → Untouched a b → (x : Outcome) → LoadAs x b c → LoadAs x a c
load_after a b c u (Line status.Load text) d = subst (λ t. Appends t (c.written Talk) text) u.talk d
load_after a b c u x d = absurd d

too_long_after : (a b c : Sight) (before after : ℕ) → Untouched a b → (x : Outcome) → TooLongAs x b c before after
    → TooLongAs x a c before after
too_long_after a b c before after u (Line status.TooLong text) d =
    (subst (λ t. Appends t (c.written Talk) text) u.talk d.0, d.1 ∙ u.commands)
too_long_after a b c before after u (Session traced) d =
    subst (λ k. WhenTold k (λ bytes. PastLimit traced bytes a c before after)) u.commands
    (told_by (b.left Commands) (λ bytes. PastLimit traced bytes b c before after) (λ bytes. PastLimit traced bytes a c before after)
    (λ bytes. past_limit_after traced bytes a b c before after u) d)
too_long_after a b c before after u x d = absurd d

broken_after : (s : Status) (a b c : Sight) (before after : ℕ) → Untouched a b → (x : Outcome) → BrokenAs x s b c before after
    → BrokenAs x s a c before after
broken_after status.Read a b c before after u (Line t text) d = (d.0 ∙ u.talk, d.1 ∙ u.commands)
broken_after s a b c before after u (Line t text) d = (subst (λ k. AppendsFront k (c.written Talk) text) u.talk d.0, d.1 ∙ u.commands)
broken_after s a b c before after u Missing d = (d.0, d.1 ∙ u.talk, d.2 ∙ u.commands)
broken_after s a b c before after u (Session traced) d =
    subst (λ k. WhenTold k (λ bytes. BrokenOff traced s bytes a c before after)) u.commands
    (told_by (b.left Commands) (λ bytes. BrokenOff traced s bytes b c before after) (λ bytes. BrokenOff traced s bytes a c before after)
    (λ bytes. broken_off_after traced s bytes a b c before after u) d)

pub leaves_after : (o : Option Outcome) (s : Status) (a b c : Sight) (before after : ℕ) → Untouched a b → Leaves o s b c before after
    → Leaves o s a c before after
leaves_after o s a b c before after u l = record {
  done = λ h. told_by o (λ x. DoneAs x b c) (λ x. DoneAs x a c) (done_after a b c u) (l.done h);
  cost = told_by o (λ x. CostsAs x s b before after) (λ x. CostsAs x s a before after) (cost_after s a b before after u) l.cost;
  load = λ h. told_by o (λ x. LoadAs x b c) (λ x. LoadAs x a c) (load_after a b c u) (l.load h);
  too_long = λ h.
      told_by o (λ x. TooLongAs x b c before after) (λ x. TooLongAs x a c before after) (too_long_after a b c before after u)
      (l.too_long h);
  broken = λ h.
      told_by o (λ x. BrokenAs x s b c before after) (λ x. BrokenAs x s a c before after) (broken_after s a b c before after u)
      (l.broken h);
  untaken = λ h. l.untaken h ∙ u.commands;
  unpaid = l.unpaid;
  usage = l.usage;
  different = l.different;
  counts = subst (λ n. CountsAs s n c.reads a.writes c.writes) u.calm.reads
      (subst (λ n. CountsAs s b.reads c.reads n c.writes) u.calm.writes l.counts);
  left = SameBut-then Commands a.left b.left c.left u.calm.quiet.left l.left;
  written = SameBut-then Talk a.written b.written c.written u.calm.quiet.written l.written;
  faultless = λ t. l.faultless (u.calm.quiet.steady t);
}

pub untouched_start : (a : Sight) → Untouched a a
untouched_start a = record { calm = calm_start a; talk = refl; commands = refl }
