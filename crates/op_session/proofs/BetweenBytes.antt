-- A session between two bytes of its commands.
use Rattle.std.proofs.Common.{◌≡◌, ℕ, suc, ◌+◌, ◌-◌, ◌<◌, ◌≤◌, List, [], ◌∷◌, ◌++◌, length, take, get_or, Some, None}
use Rattle.std.proofs.Common.{refl, sym, ap, ◌∙◌, subst, arith, length-append}
use Rattle.std.proofs.lemmas.List.{append-nil, get_or_default}
use Rattle.std.proofs.KnownBytes.{Appends-nil, Appends-trans, Consumes-nil, Consumes-trans}
use Rattle.std.specs.Io.KnownBytes.{Appends, Consumes}
use Rattle.op_desk.specs.declared.chan.Chan.TheVariants.{Commands, Talk}
use Rattle.op_desk.specs.Contents.{Known}
use Rattle.op_desk.proofs.FrameLaws.{Same-refl, SameBut-from_Same, SameBut-then}
use Rattle.op_trace.specs.Run.{Run, steps_at}
use Rattle.op_session.specs.Traced.{Traced}
use Rattle.op_token.specs.Cut.{cut_of, text_in, rest_in, IsOpen, IsFollowed}
use Rattle.op_token.proofs.TermTexts as cutting
use Rattle.op_session.specs.declared.feed.Feed.{Feed}
use Rattle.op_session.specs.declared.status.Status.{Status}
use Rattle.op_session.specs.declared.status.Status.TheVariants as status
use Rattle.op_session.specs.Call.{channel_limit}
use Rattle.op_moves.specs.Moves.{Stand, at_start}
use Rattle.op_session.specs.MostSteps.{most_steps}
use Rattle.op_trace.specs.Outside.{Taking}
use Rattle.op_session.specs.Session.{answer_to, so_far, complete, Course, no_more, session, said_by, said_in}
use Rattle.op_session.specs.Promise.{WhenTold, IsPrefix, CostsAtMost, all_but_last, Met, InTaking, InKeeping, InAnswering}
use Rattle.op_session.specs.Promise.{IsMet, IsCount, IsTaken, Reached, Paid, PaidFor, line_met, BrokenOff, CountsAs}
use Rattle.op_session.specs.Sight.{Sight}
use Rattle.op_session.specs.inner.Steps.{Quiet, Calm, Fault, TakesByte, TakesNothing}
use Rattle.op_session.specs.inner.Feeding.{to_show, Feeds, most_of}
use Rattle.op_session.specs.inner.Giving.{Pays, GivesAll, GivesFront}
use Rattle.op_session.specs.inner.Behind.{with_answer}
use Rattle.op_session.specs.inner.Progress.{Cuts, Holds, BreaksOff}
use Rattle.op_session.proofs.CommandTexts.{followed_length, cuts_start, cuts_byte, cuts_text, so_far_is}
use Rattle.op_session.proofs.SaidToCommands.{said_one, between, whole_kept, front_so_far, front_of_answer}

pub quiet_more : (a b c : Sight) → Quiet a b → Quiet b c → Quiet a c
quiet_more a b c p q = record {
  left = SameBut-then Commands a.left b.left c.left p.left q.left;
  written = SameBut-then Talk a.written b.written c.written p.written q.written;
  shelf = q.shelf ∙ p.shelf;
  steady = λ s. q.steady (p.steady s);
}

pub calm_more : (a b c : Sight) → Calm a b → Calm b c → Calm a c
calm_more a b c p q = record { quiet = quiet_more a b c p.quiet q.quiet; reads = q.reads ∙ p.reads; writes = q.writes ∙ p.writes }

quiet_start : (a : Sight) → Quiet a a
quiet_start a = record {
  left = SameBut-from_Same Commands a.left a.left (Same-refl a.left);
  written = SameBut-from_Same Talk a.written a.written (Same-refl a.written);
  shelf = refl;
  steady = λ s. s;
}

pub calm_start : (a : Sight) → Calm a a
calm_start a = record { quiet = quiet_start a; reads = refl; writes = refl }

pub fault_more : (s : Status) (a b c : Sight) → Calm a b → Fault s b c → Fault s a c
fault_more s a b c p q = record {
  broken = q.broken;
  quiet = quiet_more a b c p.quiet q.quiet;
  counts =
      subst (λ n. CountsAs s n c.reads a.writes c.writes) p.reads (subst (λ n. CountsAs s b.reads c.reads n c.writes) p.writes q.counts);
  faultless = λ t. q.faultless (p.quiet.steady t);
}

pub memory_fault : (a : Sight) → Fault status.Memory a a
memory_fault a = record { broken = tt; quiet = (calm_start a).quiet; counts = (refl, refl); faultless = λ t. tt }

pub holds_start : (traced : Traced) (a : Sight) (before : ℕ) (feed : Feed) → Feeds traced at_start feed → feed.machine.steps ≡ 0
    → to_show feed.machine ≡ traced.run → Holds traced a a 0 before before [] feed
holds_start traced a before feed f none same = record {
  taken = [];
  course = no_more at_start;
  count = refl;
  cuts = cuts_start traced;
  unended = tt;
  commands = Consumes-nil (a.left Commands);
  talk = Appends-nil (a.written Talk);
  feeds = f;
  cost = omega arith;
  most = subst (λ (r : Run). most_of feed.machine ≤ most_steps r) same (omega arith);
  calm = calm_start a;
}

-- a byte that ended no text
pub holds_byte : (traced : Traced) (a b c : Sight) (n before after byte : ℕ) (p : List ℕ) (feed : Feed)
    → Holds traced a b n before after p feed → TakesByte b c byte → IsOpen (p ++ byte ∷ [])
    → Holds traced a c (suc n) before after (p ++ byte ∷ []) feed
holds_byte traced a b c n before after byte p feed h t o = record {
  taken = h.taken ++ byte ∷ [];
  course = h.course;
  count = let count = h.count in omega (arith, length-append h.taken (byte ∷ []));
  cuts = cuts_byte traced h.course h.taken p byte h.cuts;
  unended = o;
  commands = Consumes-trans (a.left Commands) (b.left Commands) (c.left Commands) h.taken (byte ∷ []) h.commands t.front;
  talk = subst (λ k. Appends (a.written Talk) k (said_by h.course)) (sym t.talk) h.talk;
  feeds = h.feeds;
  cost = h.cost;
  most = h.most;
  calm = calm_more a b c h.calm t.calm;
}

-- a byte that ended a text, and the answer to it
pub holds_text : (traced : Traced) (a b c d : Sight) (n before after paid byte : ℕ) (p : List ℕ) (feed new : Feed)
    → (h : Holds traced a b n before after p feed) → TakesByte b c byte → IsFollowed (p ++ byte ∷ []) → IsOpen
    (rest_in (cut_of (p ++ byte ∷ [])) (p ++ byte ∷ []))
    → GivesAll traced h.course.stand (text_in (cut_of (p ++ byte ∷ [])) (p ++ byte ∷ [])) feed new after paid c d
    → Holds traced a d (suc n) before paid (rest_in (cut_of (p ++ byte ∷ [])) (p ++ byte ∷ [])) new
holds_text traced a b c d n before after paid byte p feed new h t f o g =
    let q = p ++ byte ∷ [] in
    let text = text_in (cut_of q) q in
    record {
      taken = h.taken ++ byte ∷ [];
      course = with_answer traced h.course text;
      count = let count = h.count in omega (arith, length-append h.taken (byte ∷ []));
      cuts = cuts_text traced h.course (h.taken ++ byte ∷ []) q (cuts_byte traced h.course h.taken p byte h.cuts) f;
      unended = o;
      commands = subst (λ k. Consumes (a.left Commands) k (h.taken ++ byte ∷ [])) (sym g.says.commands)
          (Consumes-trans (a.left Commands) (b.left Commands) (c.left Commands) h.taken (byte ∷ []) h.commands t.front);
      talk = subst (Appends (a.written Talk) (d.written Talk)) (sym (said_one traced h.course text))
          (Appends-trans (a.written Talk) (c.written Talk) (d.written Talk) (said_by h.course)
          (answer_to traced h.course.stand text).text
          (subst (λ k. Appends (a.written Talk) k (said_by h.course)) (sym t.talk) h.talk) g.says.talk);
      feeds = g.feeds;
      cost = let cost = h.cost in let pays = g.pays.cost in let later = g.pays.later in omega arith;
      most = let most = h.most in let rises = g.rises in omega arith;
      calm = calm_more a c d (calm_more a b c h.calm t.calm) g.says.calm;
    }

-- the steps are no more than those of the furthest place
pub paid_by : (traced : Traced) (s : Stand) (feed : Feed) (before after : ℕ) → Feeds traced s feed → after ≡ before + feed.machine.steps
    → after ≤ before + steps_at traced.run s.furthest
paid_by traced s feed before after f e = subst (λ n. after ≤ before + n) f.steps (omega (arith, e))

pub paid_so_far : (traced : Traced) (a b : Sight) (n before after : ℕ) (p : List ℕ) (feed : Feed) (t : Taking)
    → (h : Holds traced a b n before after p feed) → session traced t ≡ h.course → CostsAtMost traced t before after
paid_so_far traced a b n before after p feed t h e =
    subst (λ (c : Course). after ≤ before + steps_at traced.run c.stand.furthest) (sym e)
    (paid_by traced h.course.stand feed before after h.feeds h.cost)

-- and of one command more
pub paid_one : (traced : Traced) (a b : Sight) (n before after paid : ℕ) (p text : List ℕ) (feed new : Feed) (t : Taking)
    → (h : Holds traced a b n before after p feed) → session traced t ≡ with_answer traced h.course text
    → Feeds traced (answer_to traced h.course.stand text).stand new → Pays feed new after paid → CostsAtMost traced t before paid
paid_one traced a b n before after paid p text feed new t h e f k =
    let made : paid ≡ before + new.machine.steps = let cost = h.cost in let pays = k.cost in let later = k.later in omega arith in
    subst (λ (c : Course). paid ≤ before + steps_at traced.run c.stand.furthest) (sym e)
    (paid_by traced (answer_to traced h.course.stand text).stand new before paid f made)

-- and where that one was not answered whole
pub paid_for : (traced : Traced) (s : Status) (a b : Sight) (n before after paid : ℕ) (p text : List ℕ) (feed new : Feed) (t : Taking)
    → (h : Holds traced a b n before after p feed) → session traced t ≡ with_answer traced h.course text
    → (s ≡ status.Write → Feeds traced (answer_to traced h.course.stand text).stand new) → Pays feed new after paid
    → PaidFor s traced t before paid
paid_for traced s a b n before after paid p text feed new t h e f k =
    (λ w. paid_one traced a b n before after paid p text feed new t h e (f w) k, most h.cost h.most k.cost k.later k.within)
  where
    most : after ≡ before + feed.machine.steps → most_of feed.machine ≤ most_steps traced.run
        → paid ≡ after + (new.machine.steps - feed.machine.steps) → feed.machine.steps ≤ new.machine.steps
        → new.machine.steps ≤ most_of feed.machine → paid ≤ before + most_steps traced.run
    most c m d l w = omega arith

-- what was told of the commands is what was taken and what is left
pub told_taken : (commands left : Known) (taken : List ℕ) (P : List ℕ → Type 0) → Consumes commands left taken
    → ((bytes rest : List ℕ) → left ≡ Some rest → bytes ≡ taken ++ rest → P bytes) → WhenTold commands P
told_taken None left taken P c f = tt
told_taken (Some bytes) None taken P c f = absurd c
told_taken (Some bytes) (Some rest) taken P c f = f bytes rest refl c

-- what a session that was broken off leaves, where the commands are told
pub left_broken : (traced : Traced) (s : Status) (m : Met) (a b : Sight) (taken answers line : List ℕ) (before after : ℕ)
    → IsMet m s → IsCount m (length taken) → ((rest : List ℕ) → b.left Commands ≡ Some rest → IsTaken m traced taken rest)
    → Consumes (a.left Commands) (b.left Commands) taken → Appends (a.written Talk) (b.written Talk) (answers ++ line)
    → ((rest : List ℕ) → b.left Commands ≡ Some rest → IsPrefix answers (said_in traced (complete (taken ++ rest))))
    → Reached m (said_in traced) taken answers → IsPrefix line (line_met m) → Paid m s traced taken before after
    → WhenTold (a.left Commands) (λ bytes. BrokenOff traced s bytes a b before after)
left_broken traced s m a b taken answers line before after i n k c w front enough l paid =
    told_taken (a.left Commands) (b.left Commands) taken (λ bytes. BrokenOff traced s bytes a b before after) c
    (λ bytes rest e are. record {
      met = m;
      taken = taken;
      rest = rest;
      answers = answers;
      line = line;
      is_met = i;
      bytes_are = are;
      left = e;
      count = n;
      is_taken = k rest e;
      front = subst (λ t. IsPrefix answers (said_in traced (complete t))) (sym are) (front rest e);
      answered = enough;
      line_front = l;
      written = w;
      paid = paid;
    })

-- nothing stands behind the answers
pub no_line : (talk said : Known) (answers : List ℕ) → Appends talk said answers → Appends talk said (answers ++ [])
no_line talk said answers = subst (Appends talk said) (sym (append-nil answers))

-- a byte could not be taken
pub breaks_take : (traced : Traced) (s : Status) (a b c : Sight) (n before after : ℕ) (p : List ℕ) (feed : Feed) → n < channel_limit
    → Holds traced a b n before after p feed → TakesNothing s b c → BreaksOff traced s a c before after
breaks_take traced s a b c n before after p feed short h t =
    let answers = said_by h.course in
    let whole : session traced (so_far h.taken) ≡ h.course = so_far_is traced h.course h.taken p h.cuts h.unended in
    record {
      fault = fault_more s a b c h.calm t.fault;
      left = left_broken traced s InTaking a c h.taken answers [] before after t.unread
          (subst (λ n. n < channel_limit) (sym h.count) short)
          (λ rest e. tt)
          (subst (λ k. Consumes (a.left Commands) k h.taken) (sym t.commands) h.commands)
          (no_line (a.written Talk) (c.written Talk) answers (subst (λ k. Appends (a.written Talk) k answers) (sym t.talk) h.talk))
          (λ rest e. front_so_far traced h.course h.taken p rest h.cuts)
          (ap said_by (sym whole))
          ([], refl)
          (paid_so_far traced a b n before after p feed (so_far h.taken) h whole);
    }

-- behind a text that ended no other has
pub rest_open : (q : List ℕ) → IsFollowed q → IsOpen (rest_in (cut_of q) q)
rest_open q f = by (last_of q (followed_length q f))
  where
    last_of : (q : List ℕ) → 2 ≤ length q → (b : ℕ) × (b ≡ get_or q (length q - 1) b)
    last_of q l = (get_or q (length q - 1) 0, get_or_default q (length q - 1) 0 (get_or q (length q - 1) 0) (omega arith))

    by : (b : ℕ) × (b ≡ get_or q (length q - 1) b) → IsOpen (rest_in (cut_of q) q)
    by l =
        let two = followed_length q f in
        cutting.rest_open q l.0 (length q - 1) f (omega arith) l.1

-- one byte more may be taken
pub count_byte : (n : ℕ) (taken : List ℕ) (byte : ℕ) → length taken ≡ n → n < channel_limit → length (taken ++ byte ∷ []) ≤ channel_limit
count_byte n taken byte e h = omega (arith, length-append taken (byte ∷ []))

-- a byte could not be kept
pub breaks_push : (traced : Traced) (a b c : Sight) (n before after byte : ℕ) (p : List ℕ) (feed : Feed) → n < channel_limit
    → Holds traced a b n before after p feed → TakesByte b c byte → BreaksOff traced status.Memory a c before after
breaks_push traced a b c n before after byte p feed short h t =
    let taken = h.taken ++ byte ∷ [] in
    let answers = said_by h.course in
    let cuts : Cuts traced h.course taken (p ++ byte ∷ []) = cuts_byte traced h.course h.taken p byte h.cuts in
    let kept : session traced (so_far (all_but_last taken)) ≡ h.course = whole_kept traced h.course h.taken p byte h.cuts h.unended in
    record {
      fault = fault_more status.Memory a c c (calm_more a b c h.calm t.calm) (memory_fault c);
      left = left_broken traced status.Memory InKeeping a c taken answers [] before after refl
          (count_byte n h.taken byte h.count short)
          (λ rest e. tt)
          (Consumes-trans (a.left Commands) (b.left Commands) (c.left Commands) h.taken (byte ∷ []) h.commands t.front)
          (no_line (a.written Talk) (c.written Talk) answers (subst (λ k. Appends (a.written Talk) k answers) (sym t.talk) h.talk))
          (λ rest e. front_so_far traced h.course taken (p ++ byte ∷ []) rest cuts)
          (ap said_by (sym kept))
          ([], refl)
          (paid_so_far traced a b n before after p feed (so_far (all_but_last taken)) h kept);
    }

-- an answer could not be given
pub breaks_say : (traced : Traced) (s : Status) (a b c d : Sight) (n before after paid byte : ℕ) (p : List ℕ) (feed new : Feed)
    → n < channel_limit
    → (h : Holds traced a b n before after p feed) → TakesByte b c byte → IsFollowed (p ++ byte ∷ [])
    → GivesFront traced h.course.stand (text_in (cut_of (p ++ byte ∷ [])) (p ++ byte ∷ [])) feed new s after paid c d
    → BreaksOff traced s a d before paid
breaks_say traced s a b c d n before after paid byte p feed new short h t f g =
    let q = p ++ byte ∷ [] in
    let taken = h.taken ++ byte ∷ [] in
    let cuts : Cuts traced h.course taken q = cuts_byte traced h.course h.taken p byte h.cuts in
    let text = text_in (cut_of q) q in
    let answer = (answer_to traced h.course.stand text).text in
    let said = said_by h.course in
    let front = take g.says.talk.count answer in
    let kept : session traced (so_far (all_but_last taken)) ≡ h.course = whole_kept traced h.course h.taken p byte h.cuts h.unended in
    let whole : session traced (so_far taken) ≡ with_answer traced h.course text =
    so_far_is traced (with_answer traced h.course text) taken (rest_in (cut_of q) q) (cuts_text traced h.course taken q cuts f)
    (rest_open q f) in
    record {
      fault = fault_more s a c d (calm_more a b c h.calm t.calm) g.says.fault;
      left = left_broken traced s InAnswering a d taken (said ++ front) [] before paid g.says.unwritten
          (count_byte n h.taken byte h.count short)
          (λ rest e. (answer, ap (λ (c : Course). c.answers) whole ∙ ap (λ (c : Course). c.answers ++ answer ∷ []) (sym kept)))
          (subst (λ k. Consumes (a.left Commands) k taken) (sym g.says.commands)
          (Consumes-trans (a.left Commands) (b.left Commands) (c.left Commands) h.taken (byte ∷ []) h.commands t.front))
          (no_line (a.written Talk) (d.written Talk) (said ++ front)
          (Appends-trans (a.written Talk) (c.written Talk) (d.written Talk) said front
          (subst (λ k. Appends (a.written Talk) k said) (sym t.talk) h.talk) g.says.talk.front))
          (λ rest e. front_of_answer traced h.course taken q rest g.says.talk.count cuts f)
          (between traced h.course (so_far (all_but_last taken)) (so_far taken) text g.says.talk.count kept whole)
          ([], refl)
          (paid_for traced s a b n before after paid p text feed new (so_far taken) h whole g.feeds g.pays);
    }

-- the same, as a session meets it
pub goes_open : (traced : Traced) (a b c : Sight) (n before after byte : ℕ) (p q : List ℕ) (feed : Feed)
    → Holds traced a b n before after p feed → TakesByte b c byte → q ≡ p ++ byte ∷ [] → IsOpen q
    → Holds traced a c (suc n) before after q feed
goes_open traced a b c n before after byte p q feed h t e o =
    subst (λ q. Holds traced a c (suc n) before after q feed) (sym e)
    (holds_byte traced a b c n before after byte p feed h t (subst IsOpen e o))

pub goes_text : (traced : Traced) (a b c d : Sight) (n before after paid byte : ℕ) (p q text rest : List ℕ) (feed new : Feed)
    → (h : Holds traced a b n before after p feed) → TakesByte b c byte
    → q ≡ p ++ byte ∷ [] → IsFollowed q → text ≡ text_in (cut_of q) q → rest ≡ rest_in (cut_of q) q → IsOpen rest
    → GivesAll traced h.course.stand text feed new after paid c d
    → Holds traced a d (suc n) before paid rest new
goes_text traced a b c d n before after paid byte p q text rest feed new h t e f et er o g =
    let z = er ∙ ap (λ q. rest_in (cut_of q) q) e in
    subst (λ r. Holds traced a d (suc n) before paid r new) (sym z)
    (holds_text traced a b c d n before after paid byte p feed new h t (subst IsFollowed e f) (subst IsOpen z o)
    (subst (λ t. GivesAll traced h.course.stand t feed new after paid c d) (et ∙ ap (λ q. text_in (cut_of q) q) e) g))

pub stops_text : (traced : Traced) (s : Status) (a b c d : Sight) (n before after paid byte : ℕ) (p q text : List ℕ) (feed new : Feed)
    → n < channel_limit
    → (h : Holds traced a b n before after p feed) → TakesByte b c byte
    → q ≡ p ++ byte ∷ [] → IsFollowed q → text ≡ text_in (cut_of q) q
    → GivesFront traced h.course.stand text feed new s after paid c d
    → BreaksOff traced s a d before paid
stops_text traced s a b c d n before after paid byte p q text feed new short h t e f et g =
    breaks_say traced s a b c d n before after paid byte p feed new short h t (subst IsFollowed e f)
    (subst (λ t. GivesFront traced h.course.stand t feed new s after paid c d) (et ∙ ap (λ q. text_in (cut_of q) q) e) g)
