-- How rounds follow where the messages end, and how a run ends.
use Rattle.std.proofs.Common.{◌≡◌, inr, ℕ, ◌+◌, ◌-◌, ◌^◌, min, IsSome, Bool, true, List, [], ◌++◌, Option, None, refl, sym, ap, ◌∙◌, subst, length, append-nil, length-append, add_assoc, drop, arith}
use Rattle.std.specs.Global.{Vec}
use Rattle.std.specs.Io.KnownBytes.{Appends, Consumes}
use Rattle.cp_frame.specs.declared.mode.Mode.{Mode}
use Rattle.cp_messages.specs.declared.message.Message.{Message}
use Rattle.cp_stream.specs.declared.fault.StreamFault.TheVariants as streams
use Rattle.cp_stream.specs.Read.{FailedOnce}
use Rattle.cp_vat_machine.specs.declared.effect.Effect.{Effect}
use Rattle.cp_connection.specs.declared.event.ConnectionStats.{ConnectionStats}
use Rattle.cp_tail_calls.specs.Bridging.{sent_of}
use Rattle.cp_connection.specs.Effects.{AreFramesOf}
use Rattle.cp_connection.specs.Link.{Link}
use Rattle.cp_servants.specs.Servant.{Kind}
use Rattle.cp_serve.specs.declared.fault.ServeFault.{ServeFault}
use Rattle.cp_serve.specs.declared.fault.ServeFault.TheVariants as faults
use Rattle.cp_serve.specs.declared.serving.Server.{Server}
use Rattle.cp_serve.specs.Work.{Work}
use Rattle.cp_serve.specs.Service.{Rounds, none_yet, one_more, written}
use Rattle.cp_serve.specs.Output.{Device, Writes, WritesPart, IsOver, IsServed, IsCutOff, IsStopped}
use Rattle.cp_serve.specs.Matching.{Matches, IsAllDone}
use Rattle.cp_serve.specs.Reached.{owed, ahead, ready_of, AllOut, Reached, Closes, EndsPart, EndsSo, IsUnended, Rounded, report_of}
use Rattle.cp_serve.proofs.Running.{ran_takes, ran_closes, run_of}
use Rattle.cp_serve.proofs.Written.{ahead_none, queued, writes_none, writes_both, writes_all, part_later}
use Rattle.cp_serve.proofs.Simulating.{open_work, closed_work, rests_after, follows_round}
use Rattle.cp_serve.proofs.Reaching.{kept_front, all_written}
use Rattle.cp_serve.proofs.Landing.{lands_writes, breaks_part, is_written_out}

module _ {A : Type 0} {kind : Kind A} where
  -- no round followed yet
  pub closes_none : (first : Work) (s : Server) (seen : List A) (to : Device) → IsAllDone first (owed s) → AllOut s → Closes kind first s seen to true s seen to
  closes_none first s seen to rests out = record {
    sent = [];
    last = first;
    closes = none_yet;
    rests = rests;
    writes = writes_none to;
    counts = λ n e. e ∙ ap (λ (k : ℕ). min k (2 ^ 64 - 1)) (omega arith);
    all_out = out;
    same_messages = refl;
    same_mode = refl;
  }

  module _ (first : Work) (old : Server) (seen : List A) (before : Device) where
    -- the rounds so far, of which all was written
    abbrev pub ends_there : {gave : Bool} (s : Server) (others : List A) (to : Device) → Closes kind first old seen before gave s others to → EndsPart kind first old seen before to
    ends_there {gave = gave} s others to h = record { gave = gave; sent = h.sent; last = h.last; others = others; closes = h.closes; writes = writes_all before to h.writes }

    -- the vat closed
    pub ends_closed : (s : Server) (others : List A) (to : Device) → Closes kind first old seen before true s others to → IsSome s.connection.fault → EndsSo kind first old seen before s others to
    ends_closed s others to h ended = (true, h, inr (closed_work s.connection h.last (owed s) h.rests.matches ended h.rests.none_left))

    -- One round more followed.
    module _ (mid s : Server) {between others : Vec A} (gave : Bool) (to : Device) (h : Closes kind first old seen before true mid between.items to) (is_open : mid.connection.fault ≡ None)
        (round : Rounded kind mid gave s between others) (ready : s.ready ≡ length s.connection.unwritten) where
      abbrev Went : Type 0
      Went = (next : Work) × Rounds kind h.last between.items gave next others.items × Matches mid.connection next (owed s) × (next.effects ≡ [])

      went : Went
      went = follows_round round h.last h.rests.matches h.rests.none_left

      still : h.last.closed ≡ None
      still = (open_work mid.connection h.last (owed mid) h.rests.matches is_open).0

      frames_of : AreFramesOf old.connection.mode went.0.sent went.2.bytes
      frames_of =
          subst (λ (x : Mode). AreFramesOf x went.0.sent went.2.bytes) h.same_mode
          (subst (λ (ms : List Message). AreFramesOf mid.connection.mode ms went.2.bytes) (append-nil went.0.sent)
          (subst (λ (es : List Effect). AreFramesOf mid.connection.mode (went.0.sent ++ sent_of es) went.2.bytes) went.3 went.2.frames))

      bytes_of : s.connection.unwritten ≡ went.2.bytes
      bytes_of = went.2.goes_out ∙ ap (λ (x : List ℕ). x ++ went.2.bytes) h.all_out

      ready_bytes : ready_of s ≡ s.connection.unwritten
      ready_bytes = kept_front s.connection.unwritten s.connection.unwritten [] s.ready (sym (append-nil s.connection.unwritten)) ready

      -- what the round leads to goes out
      goes : Writes old.connection.mode went.0.sent to (ahead to (ready_of s))
      goes =
          subst (λ (d : Device). Writes old.connection.mode went.0.sent d (ahead to (ready_of s))) (ahead_none to [] refl)
          (queued old.connection.mode went.0.sent went.2.bytes [] (ready_of s) to frames_of (ready_bytes ∙ bytes_of))

      -- all of it
      pub closes_more : (new : Server) (after : Device) → new.connection ≡ record s.connection { unwritten = drop s.ready s.connection.unwritten } → new ≡ record s { connection = new.connection; ready = 0 }
          → Appends to.bytes after.bytes (ready_of s) → after.failures ≡ to.failures → Closes kind first old seen before gave new others.items after
      closes_more new after l e moved same =
          let sent : List Message = went.0.sent in
          let stats : new.connection.stats ≡ s.connection.stats = ap (λ (x : Link). x.stats) l in
          record {
            sent = h.sent ++ sent;
            last = written went.0;
            closes = one_more h.closes still went.1 refl refl;
            rests =
                subst (λ (x : Server). IsAllDone (written went.0) (owed x)) (sym (is_written_out s new ready l e))
                (rests_after went.2 went.3 (record s.connection { unwritten = [] }) refl refl refl refl);
            writes = writes_both before to after h.writes (lands_writes to after (ready_of s) moved same goes);
            counts = λ n i.
                ap (λ (t : ConnectionStats). t.sent) stats ∙ went.2.counts (n + length h.sent) (h.counts n i)
                ∙ ap (λ (es : List Effect). min ((n + length h.sent) + length (sent ++ sent_of es)) (2 ^ 64 - 1)) went.3
                ∙ ap (λ (ms : List Message). min ((n + length h.sent) + length ms) (2 ^ 64 - 1)) (append-nil sent)
                ∙ ap (λ (k : ℕ). min k (2 ^ 64 - 1)) (add_assoc n (length h.sent) (length sent) ∙ ap (λ (k : ℕ). n + k) (sym (length-append h.sent sent)));
            all_out = ap (λ (x : Server). x.connection.unwritten) (is_written_out s new ready l e);
            same_messages = ap (λ (t : ConnectionStats). t.messages) stats ∙ ap (λ (t : ConnectionStats). t.messages) went.2.same_stats ∙ h.same_messages;
            same_mode = ap (λ (x : Link). x.mode) l ∙ went.2.same_mode ∙ h.same_mode;
          }

      -- or a beginning
      pub ends_within : (after : Device) (gone left : List ℕ) → ready_of s ≡ gone ++ left → Appends to.bytes after.bytes gone → EndsPart kind first old seen before after
      ends_within after gone left splits moved = record {
        gave = gave;
        sent = h.sent ++ went.0.sent;
        last = written went.0;
        others = others.items;
        closes = one_more h.closes still went.1 refl refl;
        writes = part_later h.sent went.0.sent before to after h.writes (breaks_part {held = to} to after (ready_of s) gone left splits moved (writes_none to) (writes_all to (ahead to (ready_of s)) goes));
      }

    pub why_unended : (s : Server) (others : List A) (to after : Device) {gave : Bool} → Closes kind first old seen before gave s others to → FailedOnce to.failures after.failures → FailedOnce before.failures after.failures
    why_unended s others to after h failed = subst (λ (n : ℕ). FailedOnce n after.failures) h.writes.counted failed

-- ---- the whole run

module _ {A : Type 0} {kind : Kind A} {mode : Mode} {start : List A} {held : Device} where
  abbrev cut_closing : (bytes rest : List ℕ) (left : Option (List ℕ)) {s : Server} {seen : List A} (mid to : Device) (r : Reached kind mode start held bytes rest s seen mid) → AllOut s
      → IsOver bytes rest left r.last → EndsPart kind r.last s seen mid to → IsCutOff kind mode start bytes left held to
  cut_closing bytes rest left {s = s} {seen = seen} mid to r out over p = record {
    taken = r.taken;
    rest = rest;
    messages = r.messages;
    sent = r.sent ++ p.sent;
    starts = inr (p.gave, p.last, p.others, record { mid = r.last; between = seen; first = r.sent; closing = p.sent; takes = r.takes; closes = p.closes; all = refl }, over);
    writes = part_later r.sent p.sent held mid to (all_written bytes rest s r out) (subst (λ (x : Mode). WritesPart x p.sent mid to) r.same_mode p.writes);
  }

  -- the rounds stopped
  pub ends_short : (bytes rest : List ℕ) (from left : Device) (others : List A) {s : Server} {seen : List A} (mid to : Device) (r : Reached kind mode start held bytes rest s seen mid) → AllOut s
      → Consumes from.bytes left.bytes bytes → IsOver bytes rest left.bytes r.last → EndsPart kind r.last s seen mid to → (fault : ServeFault) → IsUnended mid to fault
      → IsStopped kind mode start from left held to others fault
  ends_short bytes rest from left others mid to r out consumed over p (faults.Stream (streams.Refused at refusal)) h = absurd h
  ends_short bytes rest from left others mid to r out consumed over p (faults.Stream (streams.Device error)) h =
      (bytes, consumed, (inr (subst (λ (n : ℕ). FailedOnce n to.failures) r.writes.counted h), cut_closing bytes rest left.bytes mid to r out over p))
  ends_short bytes rest from left others mid to r out consumed over p faults.OutOfMemory h = (bytes, consumed, cut_closing bytes rest left.bytes mid to r out over p)

  -- the rounds came to their end, and so did the run
  pub ends_served : (bytes rest : List ℕ) (from left : Device) (s new : Server) (seen others : List A) (mid to : Device) (r : Reached kind mode start held bytes rest s seen mid) → AllOut s
      → Consumes from.bytes left.bytes bytes → IsOver bytes rest left.bytes r.last → EndsSo kind r.last s seen mid new others to → IsServed kind mode start from left held to (report_of new) others
  ends_served bytes rest from left s new seen others mid to r out consumed over h = record {
    bytes = bytes;
    consumed = consumed;
    taken = r.taken;
    rest = rest;
    messages = r.messages;
    sent = r.sent ++ h.1.sent;
    last = h.1.last;
    output = record {
      gave = h.0;
      sends = record { mid = r.last; between = seen; first = r.sent; closing = h.1.sent; takes = r.takes; closes = h.1.closes; all = refl };
      ends = h.2;
    };
    run =
        run_of r.taken (r.sent ++ h.1.sent) h.1.last
        (ran_closes r.taken r.sent r.last seen h.0 h.1.sent h.1.last others (ran_takes start r.taken r.sent r.last seen r.takes) h.1.closes);
    is_over = over;
    writes = writes_both held mid to (all_written bytes rest s r out) (subst (λ (x : Mode). Writes x h.1.sent mid to) r.same_mode h.1.writes);
    counts = record {
      counts_taken = h.1.same_messages ∙ r.counted;
      counts_sent = h.1.counts (length r.sent) r.counted_sent ∙ ap (λ (k : ℕ). min k (2 ^ 64 - 1)) (sym (length-append r.sent h.1.sent));
      reason = h.1.rests.matches.reason;
    };
  }
