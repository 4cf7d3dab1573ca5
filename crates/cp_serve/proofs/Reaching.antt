-- How what a server has come to goes on.
use Rattle.std.proofs.Common.{◌==◌, ◌≡◌, ◌≢◌, ◌⊎◌, ◌↔◌, inl, inr, ℕ, ◌+◌, ◌-◌, ◌^◌, ◌<◌, ◌≤◌, min, Bool, IsTrue, IsSome, List, [], ◌∷◌, ◌++◌, Option, Some, None, Ok, refl, sym, ap, ◌∙◌, subst, length, append-nil, append_assoc, length-append, true, false, true≢false, take, drop, arith}
use Rattle.std.proofs.lemmas.Bool.{false≢true}
use Rattle.std.proofs.lemmas.Bool.Decides.{nat_tests}
use Rattle.std.proofs.lemmas.List.{length_push, length-drop, nil_from_length}
use Rattle.std.proofs.Math.Seq.{take-append_seam, take-length, drop-append_seam}
use Rattle.std.proofs.Math.ListN.{drop_of_length-le}
use Rattle.std.specs.FinMap.{remove}
use Rattle.std.specs.Global.{Vec}
use Rattle.std.specs.Io.KnownBytes.{Consumes, IsAtEnd}
use Rattle.std.proofs.KnownBytes.{Consumes-trans}
use Rattle.cp_words.specs.Limits.{Bounds, standard}
use Rattle.cp_frame.specs.declared.fault.FrameFault.TheVariants as frame_faults
use Rattle.cp_frame.specs.declared.mode.Mode.{Mode}
use Rattle.cp_frame.specs.Stream.{Open}
use Rattle.cp_frame.specs.Reader as frames
use Rattle.cp_messages.specs.declared.message.Message.{Message}
use Rattle.cp_stream.specs.declared.fault.Refusal.{Refusal}
use Rattle.cp_stream.specs.declared.fault.Refusal.TheVariants as refusals
use Rattle.cp_stream.specs.declared.fault.StreamFault.TheVariants as streams
use Rattle.cp_stream.specs.Stream.{Messages, IsFrameOf, HasFault}
use Rattle.cp_stream.proofs.Reading.{messages_push}
use Rattle.cp_tables.specs.Table.{Table}
use Rattle.cp_refs.specs.declared.call.Origin.{Origin}
use Rattle.cp_vat_machine.specs.declared.effect.Effect.{Effect}
use Rattle.cp_vat_machine.specs.declared.event.Event.TheVariants as events
use Rattle.cp_vat_machine.specs.declared.event.Value.TheVariants as values
use Rattle.cp_vat_machine.specs.declared.fault.VatFault.{VatFault}
use Rattle.cp_vat_machine.specs.declared.fault.VatFault.TheVariants as vat_faults
use Rattle.cp_vat_machine.proofs.Basics.{none_out}
use Rattle.cp_connection.specs.declared.fault.ConnectionFault.{ConnectionFault}
use Rattle.cp_connection.specs.declared.fault.ConnectionFault.TheVariants as connections
use Rattle.cp_connection.specs.declared.event.ConnectionEvent.{ConnectionEvent}
use Rattle.cp_connection.specs.declared.event.ConnectionStats.{ConnectionStats}
use Rattle.cp_connection.specs.Doing.{Does}
use Rattle.cp_tail_calls.specs.Bridging.{sent_of}
use Rattle.cp_connection.specs.Effects.{happening_by, AreFramesOf}
use Rattle.cp_connection.specs.Finishing.{ReceivesNaming}
use Rattle.cp_connection.specs.Link.{Link, HasCome, new_link}
use Rattle.cp_connection.specs.Moves.{Moves}
use Rattle.cp_connection.specs.Receiving.{Reads, Receives, IsUnread, IsUnreceived, EndsBadly}
use Rattle.cp_connection.specs.Receiving as receiving
use Rattle.cp_connection.specs.Refusing.{refusal_of}
use Rattle.cp_connection.proofs.Finishing.{receives_of}
use Rattle.cp_connection.proofs.Living.{lives_move}
use Rattle.cp_connection.proofs.Moving.{moves_received, moves_unreceived}
use Rattle.cp_servants.specs.Servant.{Kind}
use Rattle.cp_objects.specs.ObjectTable.{ObjectTableKind}
use Rattle.cp_objects.specs.Listed.{listed}
use Rattle.cp_dispatch.specs.Canceling.{Cancels, answer_given_up}
use Rattle.cp_dispatch.specs.Canceling as canceling
use Rattle.cp_dispatch.specs.Receiving.{IsCutShort, is_unreceived, ran_out}
use Rattle.cp_dispatch.specs.Rounds as rounds
use Rattle.cp_dispatch.specs.Work as objects
use Rattle.cp_serve.specs.declared.fault.ServeFault.{ServeFault}
use Rattle.cp_serve.specs.declared.fault.ServeFault.TheVariants as faults
use Rattle.cp_serve.specs.declared.serving.Server.{Server}
use Rattle.cp_serve.specs.Work.{Work}
use Rattle.cp_serve.specs.Service.{TakesAll, none_taken, takes_more, written, new_work}
use Rattle.cp_serve.specs.Output.{Device, Writes, IsPlace, IsFaultOfRest, IsOver, HasTaken, IsCutOff, StopsFor, ReadsTo}
use Rattle.cp_serve.specs.Faults.{fault_of}
use Rattle.cp_serve.specs.Matching.{Matches, IsAllDone}
use Rattle.cp_serve.specs.Reached.{owed, ahead, ready_of, AllOut, Reached, ReadsOn, Serves, GoesOn, Fills, TakesFront, FrontStops, WorksOut, FollowsIf, IsNew}
use Rattle.cp_serve.proofs.Written.{ahead_none, queued, writes_none, writes_both, writes_all}
use Rattle.cp_serve.proofs.Simulating.{refusal_is, open_work, closed_work, rests_after, follows_message}

-- ---- messages and their places

-- more bytes follow
pub messages_grow : (mode : Mode) (limits : Bounds) (b : List ℕ) (ms : List Message) (rest more : List ℕ) → Messages mode limits b ms rest → Messages mode limits (b ++ more) ms (rest ++ more)
messages_grow mode limits b [] rest more h = ap (λ (x : List ℕ). x ++ more) h
messages_grow mode limits b (m ∷ ms) rest more h =
    (h.0, h.1 ++ more, ap (λ (x : List ℕ). x ++ more) h.2 ∙ append_assoc h.0 h.1 more, h.3, messages_grow mode limits h.1 ms rest more h.4)

-- the rest is a part of the bytes
rest_fits : (mode : Mode) (limits : Bounds) (b : List ℕ) (ms : List Message) (rest : List ℕ) → Messages mode limits b ms rest → length rest ≤ length b
rest_fits mode limits b [] rest h = omega (arith, ap (λ (x : List ℕ). length x) h)
rest_fits mode limits b (m ∷ ms) rest h = omega (arith, rest_fits mode limits h.1 ms rest h.4, ap (λ (x : List ℕ). length x) h.2, length-append h.0 h.1)

-- a frame ended
place_more : (bytes rest front : List ℕ) (at new : ℕ) → length rest ≤ length bytes → IsPlace bytes rest at → new ≡ min (at + length (rest ++ front)) (2 ^ 64 - 1) → IsPlace (bytes ++ front) [] new
place_more bytes rest front at new fits h k = omega (arith, fits, h, k, length-append rest front, length-append bytes front)

-- bytes came that end no frame
place_stays : (bytes rest more : List ℕ) (at : ℕ) → IsPlace bytes rest at → IsPlace (bytes ++ more) (rest ++ more) at
place_stays bytes rest more at h = omega (arith, h, length-append rest more, length-append bytes more)

counts_one : (n at new : ℕ) → at ≡ min n (2 ^ 64 - 1) → new ≡ min (at + 1) (2 ^ 64 - 1) → new ≡ min (n + 1) (2 ^ 64 - 1)
counts_one n at new h k = omega (arith, h, k)

grown : (mode : Mode) (bytes rest front : List ℕ) (taken : List Message) → Messages mode standard bytes taken rest → Messages mode standard (bytes ++ front) taken ((rest ++ front) ++ [])
grown mode bytes rest front taken h = subst (λ (x : List ℕ). Messages mode standard (bytes ++ front) taken x) (sym (append-nil (rest ++ front))) (messages_grow mode standard bytes taken rest front h)

-- ---- bytes that are to go out

-- what was to go out still is, before what came after it
pub moves_grow : {a b : Link} {taken : List ℕ} {handed : List ConnectionEvent} → Moves a taken [] handed b → (more : List ℕ) × (b.unwritten ≡ a.unwritten ++ more)
moves_grow h = (h.bytes, sym h.goes_out)

pub kept_front : (u v more : List ℕ) (n : ℕ) → v ≡ u ++ more → n ≡ length u → take n v ≡ u
kept_front u v more n e f = ap (λ (k : ℕ). take k v) f ∙ ap (λ (x : List ℕ). take (length u) x) e ∙ take-append_seam u more

module _ {A : Type 0} {kind : Kind A} where
  -- all that is to go out is ready
  pub is_all_ready : {mode : Mode} {start : List A} {held : Device} (bytes rest : List ℕ) (s : Server) {seen : List A} {to : Device} → Reached kind mode start held bytes rest s seen to → ready_of s ≡ s.connection.unwritten
  is_all_ready bytes rest s r = kept_front s.connection.unwritten s.connection.unwritten [] s.ready (sym (append-nil s.connection.unwritten)) r.all_ready

-- ---- connections that go on as they were

pub rests_as : {w : Work} {o : objects.Work} → IsAllDone w o → (link : Link) → link.vat ≡ o.link.vat → link.tails ≡ o.link.tails → link.happened ≡ o.link.happened → link.fault ≡ o.link.fault → IsAllDone w (record o { link = link })
rests_as {w = w} {o = o} r link vat tails happened fault =
    subst (λ (x : Work). IsAllDone x (record o { link = link })) (ap (λ (ms : List Message). record w { sent = ms }) (sym r.none_unsent)) (rests_after r.matches r.none_left link vat tails happened fault)

-- so many bytes came as were read
came_is : (mode : Mode) (limits : Bounds) (state : frames.State) (b : List ℕ) → frames.IsReading state → frames.Stands mode limits state b → frames.taken_of state ≡ length b
came_is mode limits frames.failed b h k = absurd h
came_is mode limits (frames.refusing fault) b h k = absurd h
came_is mode limits (frames.reading rest taken) b h k = k.1

is_open_of : (mode : Mode) (limits : Bounds) (state : frames.State) (b : List ℕ) → frames.IsReading state → frames.Stands mode limits state b → Open mode limits b
is_open_of mode limits frames.failed b h k = absurd h
is_open_of mode limits (frames.refusing fault) b h k = absurd h
is_open_of mode limits (frames.reading rest taken) b h k = k.2

no_fault : {X Y : Type 0} {x : X} (f : Option X) → f ≡ None → f ≡ Some x → Y
no_fault f none some = none_out (sym none ∙ some)

-- the rest has a fault, whatever follows
fault_of_rest : (mode : Mode) (rest : List ℕ) (left : Option (List ℕ)) (refusal : Refusal) → HasFault mode standard rest refusal → IsFaultOfRest mode rest left refusal
fault_of_rest mode rest left (refusals.Frame frame_faults.TooManySegments) h = h
fault_of_rest mode rest left (refusals.Frame frame_faults.FrameTooLarge) h = h
fault_of_rest mode rest left (refusals.Frame frame_faults.Truncated) h = absurd h.2
fault_of_rest mode rest left (refusals.Frame frame_faults.RunPastFrame) h = h
fault_of_rest mode rest left (refusals.Frame frame_faults.Failed) h = h
fault_of_rest mode rest left (refusals.Frame frame_faults.OutOfMemory) h = h
fault_of_rest mode rest left (refusals.Tree fault) h = h
fault_of_rest mode rest left (refusals.Schema fault) h = h
fault_of_rest mode rest left (refusals.Write fault) h = h

module _ {A : Type 0} {kind : Kind A} {mode : Mode} {start : List A} {held : Device} where
  -- ---- bytes that end no frame

  pub reached_on : (bytes rest more : List ℕ) (s : Server) (state : frames.State) {seen : List A} {to : Device} → Reached kind mode start held bytes rest s seen to
      → Reached kind mode start held (bytes ++ more) (rest ++ more) (record s { connection = record s.connection { reading = state } }) seen to
  reached_on bytes rest more s state r = record {
    taken = r.taken;
    sent = r.sent;
    messages = messages_grow mode standard bytes r.taken rest more r.messages;
    last = r.last;
    takes = r.takes;
    rests = rests_as r.rests (record s.connection { reading = state }) refl refl refl refl;
    writes = r.writes;
    all_ready = r.all_ready;
    place = place_stays bytes rest more s.connection.stats.bytes r.place;
    counted = r.counted;
    counted_sent = r.counted_sent;
    same_mode = r.same_mode;
    same_limits = r.same_limits;
  }

  serves_on : (bytes rest piece : List ℕ) (s : Server) (link : Link) {seen : List A} {to : Device} → Reached kind mode start held bytes rest s seen to → HasCome s.connection rest
      → receiving.ReadsOn s.connection piece link → Serves kind mode start held (bytes ++ piece) (record s { connection = link }) seen to
  serves_on bytes rest piece s link {seen = seen} {to = to} r came reads = (
    rest ++ piece,
    subst (λ (l : Link). Reached kind mode start held (bytes ++ piece) (rest ++ piece) (record s { connection = l }) seen to) (sym reads.same) (reached_on bytes rest piece s link.reading r),
    record { came = reads.came rest came; is_open = ap (λ (l : Link). l.fault) reads.same ∙ reads.was_open },
  )

  -- ---- a message more

  module _ (bytes rest front : List ℕ) (s new : Server) (m : Message) (mid link : Link) {seen others : Vec A} {to : Device} (r : Reached kind mode start held bytes rest s seen.items to) (on : ReadsOn rest s)
      (reads : Reads s.connection front m mid) (d : Does mid (events.Receive m) (Ok values.Nothing) link) (works : WorksOut kind (record s { connection = link }) new seen others)
      (ready : new.ready ≡ length new.connection.unwritten) where
    begins : IsAllDone r.last (record (owed s) { link = mid })
    begins = rests_as r.rests mid (ap (λ (l : Link). l.vat) reads.same) (ap (λ (l : Link). l.tails) reads.same) (ap (λ (l : Link). l.happened) reads.same) (ap (λ (l : Link). l.fault) reads.same)

    counts_bytes : mid.stats.bytes ≡ min (s.connection.stats.bytes + length (rest ++ front)) (2 ^ 64 - 1)
    counts_bytes = ap (λ (t : ConnectionStats). t.bytes) (reads.counts rest on.came)

    is_frame : IsFrameOf mode standard (rest ++ front) m
    is_frame = subst (λ (l : Bounds). IsFrameOf mode l (rest ++ front) m) r.same_limits (subst (λ (x : Mode). IsFrameOf x s.connection.limits (rest ++ front) m) r.same_mode (reads.is_frame rest on.came))

    goes_on_after : (next : Work) → Matches mid next (owed new) → next.effects ≡ [] → TakesAll kind new_work start (r.taken ++ m ∷ []) (r.sent ++ next.sent) (written next) others.items
        → GoesOn kind mode start held (bytes ++ front) new others.items to
    goes_on_after next matches none takes = by new.connection.fault refl
      where
        same_mode : mid.mode ≡ mode
        same_mode = ap (λ (l : Link). l.mode) reads.same ∙ r.same_mode

        frames_of : AreFramesOf mode next.sent matches.bytes
        frames_of =
            subst (λ (x : Mode). AreFramesOf x next.sent matches.bytes) same_mode
            (subst (λ (ms : List Message). AreFramesOf mid.mode ms matches.bytes) (append-nil next.sent) (subst (λ (es : List Effect). AreFramesOf mid.mode (next.sent ++ sent_of es) matches.bytes) none matches.frames))

        goes_out : new.connection.unwritten ≡ s.connection.unwritten ++ matches.bytes
        goes_out = matches.goes_out ∙ ap (λ (x : List ℕ). x ++ matches.bytes) (ap (λ (l : Link). l.unwritten) reads.same)

        there : Reached kind mode start held (bytes ++ front) [] new others.items to
        there = record {
          taken = r.taken ++ m ∷ [];
          sent = r.sent ++ next.sent;
          messages = messages_push mode standard (bytes ++ front) r.taken (rest ++ front) [] m (grown mode bytes rest front r.taken r.messages) is_frame;
          last = written next;
          takes = takes;
          rests = rests_after matches none new.connection refl refl refl refl;
          writes = writes_both held (ahead to s.connection.unwritten) (ahead to new.connection.unwritten) r.writes (queued mode next.sent matches.bytes s.connection.unwritten new.connection.unwritten to frames_of goes_out);
          all_ready = ready;
          place = place_more bytes rest front s.connection.stats.bytes new.connection.stats.bytes (rest_fits mode standard bytes r.taken rest r.messages) r.place (ap (λ (t : ConnectionStats). t.bytes) matches.same_stats ∙ counts_bytes);
          counted =
              counts_one (length r.taken) s.connection.stats.messages new.connection.stats.messages r.counted (ap (λ (t : ConnectionStats). t.messages) matches.same_stats ∙ ap (λ (t : ConnectionStats). t.messages) (reads.counts rest on.came))
              ∙ ap (λ (n : ℕ). min n (2 ^ 64 - 1)) (sym (length_push r.taken m));
          counted_sent =
              matches.counts (length r.sent) (ap (λ (t : ConnectionStats). t.sent) (reads.counts rest on.came) ∙ r.counted_sent)
              ∙ ap (λ (es : List Effect). min (length r.sent + length (next.sent ++ sent_of es)) (2 ^ 64 - 1)) none
              ∙ ap (λ (ms : List Message). min (length r.sent + length ms) (2 ^ 64 - 1)) (append-nil next.sent)
              ∙ ap (λ (n : ℕ). min n (2 ^ 64 - 1)) (sym (length-append r.sent next.sent));
          same_mode = matches.same_mode ∙ same_mode;
          same_limits = matches.same_limits ∙ ap (λ (l : Link). l.limits) reads.same ∙ r.same_limits;
        }

        came : HasCome new.connection []
        came = rw (matches.same_mode, matches.same_limits, matches.same_reading) reads.fresh

        by : (f : Option ConnectionFault) → new.connection.fault ≡ f → GoesOn kind mode start held (bytes ++ front) new others.items to
        by None e = inl ([], there, record { came = came; is_open = e })
        by (Some fault) e = inr ([], there, subst (λ (f : Option ConnectionFault). IsSome f) (sym e) refl)

    serves_more : GoesOn kind mode start held (bytes ++ front) new others.items to
    serves_more =
        let more = follows_message m link works.2 works.3 d works.4 works.5 r.last begins.matches in
        let still = (open_work s.connection r.last (owed s) r.rests.matches on.is_open).0 in
        goes_on_after more.0 more.2 more.3 (takes_more m r.takes still more.1 refl refl refl)

  -- ---- cut off

  -- what was reached, cut off there
  abbrev pub cut_there : (bytes rest more : List ℕ) (left : Option (List ℕ)) {s : Server} {seen : List A} {to : Device} → Reached kind mode start held bytes rest s seen to
      → IsCutOff kind mode start (bytes ++ more) left held (ahead to s.connection.unwritten)
  cut_there bytes rest more left {s = s} {to = to} r = record {
    taken = r.taken;
    rest = rest ++ more;
    messages = messages_grow mode standard bytes r.taken rest more r.messages;
    sent = r.sent;
    starts = inl (_, _, r.takes);
    writes = writes_all held (ahead to s.connection.unwritten) r.writes;
  }

  -- what was reached, with bytes after it that end no frame
  abbrev has_taken : (bytes rest more : List ℕ) {s : Server} {seen : List A} {to : Device} → Reached kind mode start held bytes rest s seen to → s.connection.fault ≡ None
      → HasTaken kind mode start (bytes ++ more) held (ahead to s.connection.unwritten) seen
  has_taken bytes rest more {s = s} r is_open = record {
    taken = r.taken;
    rest = rest ++ more;
    messages = messages_grow mode standard bytes r.taken rest more r.messages;
    sent = r.sent;
    last = r.last;
    takes = r.takes;
    is_open = (open_work s.connection r.last (owed s) r.rests.matches is_open).0;
    writes = r.writes;
  }

  -- ---- a piece isn't taken

  -- the bytes can't be read on
  stops_unread : (bytes rest piece : List ℕ) (from left : Device) (s : Server) {seen : List A} {to : Device} → Reached kind mode start held bytes rest s seen to → ReadsOn rest s → (fault : ConnectionFault)
      → IsUnread s.connection piece fault → StopsFor kind mode start (bytes ++ piece) from left held (ahead to s.connection.unwritten) seen (fault_of fault)
  stops_unread bytes rest piece from left s r on (connections.Unreadable at refusal) h = inl (record {
    before = has_taken bytes rest piece r on.is_open;
    fault =
        fault_of_rest mode (rest ++ piece) left.bytes refusal
        (subst (λ (l : Bounds). HasFault mode l (rest ++ piece) refusal) r.same_limits (subst (λ (x : Mode). HasFault x s.connection.limits (rest ++ piece) refusal) r.same_mode (h.1 rest on.came)));
    place = h.0 ∙ place_stays bytes rest piece s.connection.stats.bytes r.place;
  })
  stops_unread bytes rest piece from left s r on connections.OutOfMemory h = cut_there bytes rest piece left.bytes r
  stops_unread bytes rest piece from left s r on connections.Closed h = absurd h
  stops_unread bytes rest piece from left s r on (connections.Refused refusal) h = absurd h

  -- ---- all that was ready went out

  pub all_written : (bytes rest : List ℕ) (s : Server) {seen : List A} {to : Device} → (r : Reached kind mode start held bytes rest s seen to) → AllOut s → Writes mode r.sent held to
  all_written bytes rest s {to = to} r out = subst (λ (d : Device). Writes mode r.sent held d) (ahead_none to s.connection.unwritten out) r.writes

  -- what was reached
  abbrev pub taken_out : (bytes rest : List ℕ) (s : Server) {seen : List A} {to : Device} → Reached kind mode start held bytes rest s seen to → AllOut s → s.connection.fault ≡ None → HasTaken kind mode start bytes held to seen
  taken_out bytes rest s r out is_open = record {
    taken = r.taken;
    rest = rest;
    messages = r.messages;
    sent = r.sent;
    last = r.last;
    takes = r.takes;
    is_open = (open_work s.connection r.last (owed s) r.rests.matches is_open).0;
    writes = all_written bytes rest s r out;
  }

  -- cut off there
  abbrev pub cut_out : (bytes rest : List ℕ) (left : Option (List ℕ)) (s : Server) {seen : List A} {to : Device} → Reached kind mode start held bytes rest s seen to → AllOut s → IsCutOff kind mode start bytes left held to
  cut_out bytes rest left s {to = to} r out =
      record { taken = r.taken; rest = rest; messages = r.messages; sent = r.sent; starts = inl (_, _, r.takes); writes = writes_all held to (all_written bytes rest s r out) }

  -- no message that came whole is left
  pub rest_is_open : (rest : List ℕ) (s : Server) {bytes : List ℕ} {seen : List A} {to : Device} → Reached kind mode start held bytes rest s seen to → ReadsOn rest s → Open mode standard rest
  rest_is_open rest s r on =
      let there = is_open_of s.connection.mode s.connection.limits s.connection.reading rest on.came.0 on.came.1 in
      subst (λ (l : Bounds). Open mode l rest) r.same_limits (subst (λ (x : Mode). Open x s.connection.limits rest) r.same_mode there)

  -- the stream ends inside a frame
  pub stops_inside : (bytes rest : List ℕ) (from left : Device) (s : Server) (link : Link) {seen : List A} {to : Device} → Reached kind mode start held bytes rest s seen to → ReadsOn rest s → AllOut s
      → (fault : ConnectionFault) → EndsBadly s.connection fault link → IsAtEnd left.bytes → StopsFor kind mode start bytes from left held to seen (fault_of fault)
  stops_inside bytes rest from left s link r on out fault (inl ended) at_end = no_fault s.connection.fault on.is_open ended.0
  stops_inside bytes rest from left s link {seen = seen} {to = to} r on out fault (inr h) at_end =
      subst (λ (f : ConnectionFault). StopsFor kind mode start bytes from left held to seen (fault_of f)) (sym h.0)
      (inl (record {
        before = taken_out bytes rest s r out on.is_open;
        fault = (h.2 rest on.came, rest_is_open rest s r on, at_end);
        place = r.place;
      }))

-- a refusal of the vat's is for memory to a server
refusal_full : (refusal : VatFault) → fault_of (refusal_of refusal) ≡ faults.OutOfMemory
refusal_full refusal = by (refusal_is refusal)
  where
    by : (refusal ≡ vat_faults.OutOfMemory) ⊎ ((refusal ≢ vat_faults.OutOfMemory) × (refusal_of refusal ≡ connections.Refused refusal)) → fault_of (refusal_of refusal) ≡ faults.OutOfMemory
    by (inl full) = ap (λ (r : VatFault). fault_of (refusal_of r)) full
    by (inr h) = ap fault_of h.1

-- nothing is worked off where nothing happened
works_none : {H : Type 0} {table : ObjectTableKind H} {old new : objects.Work} {seen others : H} → old.link.happened ≡ [] → rounds.WorksOff table old new seen others → (new ≡ old) × (others ≡ seen)
works_none none (rounds.none_left e) = (refl, refl)
works_none none (rounds.handles first link hands handled rest) = let e : ◌≡◌ {A = List ConnectionEvent} [] (first ∷ link.happened) = sym none ∙ hands.0 in absurd (cc (e))

module _ {A : Type 0} {kind : Kind A} {mode : Mode} {start : List A} {held : Device} where
  -- what was reached is seen of what the server owes, and of how much is ready
  reached_by : (bytes rest : List ℕ) (s t : Server) {seen : List A} {to : Device} → owed t ≡ owed s → t.ready ≡ s.ready → Reached kind mode start held bytes rest s seen to
      → Reached kind mode start held bytes rest t seen to
  reached_by bytes rest s t {to = to} same ready h = record {
    taken = h.taken;
    sent = h.sent;
    messages = h.messages;
    last = h.last;
    takes = h.takes;
    rests = subst (λ (w : objects.Work). IsAllDone h.last w) (sym same) h.rests;
    writes = subst (λ (l : Link). Writes mode h.sent held (ahead to l.unwritten)) (sym link) h.writes;
    all_ready = ready ∙ h.all_ready ∙ ap (λ (l : Link). length l.unwritten) (sym link);
    place = subst (λ (l : Link). IsPlace bytes rest l.stats.bytes) (sym link) h.place;
    counted = ap (λ (l : Link). l.stats.messages) link ∙ h.counted;
    counted_sent = ap (λ (l : Link). l.stats.sent) link ∙ h.counted_sent;
    same_mode = ap (λ (l : Link). l.mode) link ∙ h.same_mode;
    same_limits = ap (λ (l : Link). l.limits) link ∙ h.same_limits;
  }
    where
      link : t.connection ≡ s.connection
      link = ap (λ (w : objects.Work). w.link) same

  goes_by : (bytes : List ℕ) (s t : Server) {seen : List A} {to : Device} → owed t ≡ owed s → t.ready ≡ s.ready → GoesOn kind mode start held bytes s seen to
      → GoesOn kind mode start held bytes t seen to
  goes_by bytes s t same ready (inl h) =
      let link = ap (λ (w : objects.Work). w.link) same in
      inl (h.0, reached_by bytes h.0 s t same ready h.1, record { came = subst (λ (l : Link). HasCome l h.0) (sym link) h.2.came; is_open = ap (λ (l : Link). l.fault) link ∙ h.2.is_open })
  goes_by bytes s t same ready (inr h) =
      inr (h.0, reached_by bytes h.0 s t same ready h.1, subst (λ (w : objects.Work). IsSome w.link.fault) (sym same) h.2)

-- of a list of objects none is told that a call was given up, which is owed no more
cancels_listed : {A : Type 0} (kind : Kind A) {given_up : Option Origin} {o new : objects.Work} {seen others : Vec A} → Cancels (listed kind) given_up o new seen others
    → (owed_then : Table ℕ) × (new ≡ record o { owed = owed_then }) × (others ≡ seen)
cancels_listed kind {o = o} (canceling.gives_none_up none same still) = (o.owed, same, still)
cancels_listed kind {o = o} (canceling.is_not_owed origin is none same still) = (o.owed, same, still)
cancels_listed kind {o = o} (canceling.is_owed origin ticket is owed_ (canceling.by_none told same)) = (remove o.owed (objects.key_of origin), same, told.1)
cancels_listed kind (canceling.is_owed origin ticket is owed_ (canceling.by_object called link number told kept calls works)) = none_out (sym told.0)

cancels_none : {H : Type 0} {table : ObjectTableKind H} {given_up : Option Origin} {o new : objects.Work} {seen others : H} → given_up ≡ None → Cancels table given_up o new seen others
    → (new ≡ o) × (others ≡ seen)
cancels_none e (canceling.gives_none_up none same still) = (same, still)
cancels_none e (canceling.is_not_owed origin is none same still) = (same, still)
cancels_none e (canceling.is_owed origin ticket is owed_ told) = none_out (sym e ∙ is)

-- nothing is finished where no frame ended
finishes_nothing : (old : Server) (piece : List ℕ) (link : Link) (count : ℕ) (finished : Option ℕ) → ReceivesNaming old.connection piece count finished link → frames.taken_of link.reading ≢ 0 → finished ≡ None
finishes_nothing old piece link count finished (inl h) some = h.1
finishes_nothing old piece link count finished (inr h) some =
    absurd (some (ap (λ (s : frames.State). frames.taken_of s) h.7.same_reading ∙ came_is h.3.mode h.3.limits h.3.reading [] h.6.fresh.0 h.6.fresh.1))

-- nothing happened where no frame ended
no_news : (old : Server) (piece : List ℕ) (link : Link) (count : ℕ) → Receives old.connection piece count link → frames.taken_of link.reading ≢ 0 → old.connection.happened ≡ [] → link.happened ≡ []
no_news old piece link count (inl h) some none = ap (λ (l : Link). l.happened) h.1.same ∙ none
no_news old piece link count (inr h) some none =
    absurd (some (ap (λ (s : frames.State). frames.taken_of s) h.7.same_reading ∙ came_is h.3.mode h.3.limits h.3.reading [] h.6.fresh.0 h.6.fresh.1))

-- ---- the clauses of a piece that is read up to the end of a frame

module _ {A : Type 0} {kind : Kind A} (old : Server) (piece : List ℕ) (link : Link) where
  -- no frame ends in it
  takes_none : (count : ℕ) (back : List ℕ) {seen : List A} → Receives old.connection piece count link → frames.taken_of link.reading ≢ 0 → back ≡ drop count piece
      → TakesFront kind old piece back (record old { connection = link }) seen seen
  takes_none count back {seen = seen} (inl h) some e mode start held to bytes serves = (
    piece,
    sym (ap (λ (x : List ℕ). piece ++ x) (e ∙ ap (λ (n : ℕ). drop n piece) h.0 ∙ drop_of_length-le piece {i = length piece} (omega arith)) ∙ append-nil piece),
    inl (serves_on bytes serves.0 piece old link serves.1 serves.2.came h.1),
  )
  takes_none count back (inr h) some e mode start held to bytes serves =
      absurd (some (ap (λ (s : frames.State). frames.taken_of s) h.7.same_reading ∙ came_is h.3.mode h.3.limits h.3.reading [] h.6.fresh.0 h.6.fresh.1))

  -- a frame ends in it
  takes_one : (count : ℕ) (back : List ℕ) (new : Server) {seen others : Vec A} → Receives old.connection piece count link → frames.taken_of link.reading ≡ 0 → 0 < length piece → back ≡ drop count piece
      → WorksOut kind (record old { connection = link }) new seen others → new.ready ≡ length new.connection.unwritten → TakesFront kind old piece back new seen.items others.items
  takes_one count back new (inl h) none some e works ready mode start held to bytes serves =
      let came = h.1.came serves.0 serves.2.came in
      absurd (omega (arith, some, none, came_is link.mode link.limits link.reading (serves.0 ++ piece) came.0 came.1, length-append serves.0 piece))
  takes_one count back new (inr h) none some e works ready mode start held to bytes serves = (
    h.0,
    h.4 ∙ ap (λ (x : List ℕ). h.0 ++ x) (sym (drop-append_seam h.0 h.1) ∙ ap (λ (x : List ℕ). drop (length h.0) x) (sym h.4) ∙ ap (λ (n : ℕ). drop n piece) (sym h.5) ∙ sym e),
    serves_more bytes serves.0 h.0 old new h.2 h.3 link serves.1 serves.2 h.6 h.7 works ready,
  )

  -- either way
  pub takes_front : (count : ℕ) (back : List ℕ) (has_ended : Bool) (finished : Option ℕ) (worked : objects.Work) (mid new : Server) {seen told between : Vec A} (others : Vec A)
      → ReceivesNaming old.connection piece count finished link → ((has_ended ≡ true) ↔ (frames.taken_of link.reading ≡ 0)) → 0 < length piece → back ≡ drop count piece
      → rounds.WorksOff (listed kind) (owed (record old { connection = link })) worked seen told → Cancels (listed kind) (answer_given_up finished) worked (owed mid) told between → mid.ready ≡ old.ready → FollowsIf kind has_ended mid new between others
      → TakesFront kind old piece back new seen.items others.items
  takes_front count back true finished worked mid new {told = told} others received ended some e works cancels ready follows =
      let after = cancels_listed kind cancels in
      let round : rounds.Rounds (listed kind) (record worked { owed = after.0 }) follows.0.0 (owed new) told others =
      subst (λ (w : objects.Work). rounds.Rounds (listed kind) w follows.0.0 (owed new) told others) after.1
      (subst (λ (os : Vec A). rounds.Rounds (listed kind) (owed mid) follows.0.0 (owed new) os others) after.2 follows.0.1) in
      takes_one count back new (receives_of received) (ended.0 refl) some e (worked, told, follows.0.0, after.0, works, round) follows.1
  takes_front count back false finished worked mid new {seen = seen} others received ended some e works cancels ready follows = λ mode start held to bytes serves.
      let open_ : frames.taken_of link.reading ≢ 0 = λ none. true≢false (sym (ended.1 none)) in
      let rests = serves.1.rests in
      let none : link.happened ≡ [] = no_news old piece link count (receives_of received) open_ (rests.matches.happens ∙ ap (λ (es : List Effect). happening_by es) rests.none_left) in
      let quiet = cancels_none (ap answer_given_up (finishes_nothing old piece link count finished received open_)) cancels in
      let same = works_none none works in
      let fills = takes_none count back (receives_of received) open_ e mode start held to bytes serves in
      subst (λ (os : Vec A). Fills kind mode start held bytes piece back new os.items to) (sym (follows.1 ∙ quiet.1 ∙ same.1))
      (subst (λ (x : Server). Fills kind mode start held bytes piece back x seen.items to) (sym follows.0) (fills.0, fills.1, goes_by (bytes ++ fills.0) (record old { connection = link }) mid (quiet.0 ∙ same.0) ready fills.2))

  -- memory ran out for what a message leads to
  pub stops_working : (count : ℕ) (new : Server) {seen : List A} (others : List A) → Receives old.connection piece count link → objects.Lives link new.connection → new.ready ≡ old.ready
      → FrontStops kind old piece new faults.OutOfMemory seen others
  stops_working count new others received lives same mode start held from left to bytes serves =
      let first = moves_grow (moves_received old.connection link piece count received) in
      let rest = moves_grow (lives_move lives.1) in
      let all : new.connection.unwritten ≡ old.connection.unwritten ++ (first.0 ++ rest.0) = rest.1 ∙ ap (λ (x : List ℕ). x ++ rest.0) first.1 ∙ append_assoc old.connection.unwritten first.0 rest.0 in
      subst (λ (x : List ℕ). IsCutOff kind mode start (bytes ++ piece) left.bytes held (ahead to x)) (sym (kept_front old.connection.unwritten new.connection.unwritten (first.0 ++ rest.0) new.ready all (same ∙ serves.1.all_ready)))
      (cut_there bytes serves.0 piece left.bytes serves.1)

  -- it isn't taken
  pub stops_receiving : (taken : List ℕ) (fault : ConnectionFault) (told : ServeFault) {seen : List A} → IsUnreceived old.connection piece taken fault link → told ≡ fault_of fault
      → FrontStops kind old piece (record old { connection = link }) told seen seen
  stops_receiving taken fault told {seen = seen} unreceived e mode start held from left to bytes serves =
      let grows = moves_grow (moves_unreceived old.connection link piece taken fault unreceived) in
      subst (λ (f : ServeFault). StopsFor kind mode start (bytes ++ piece) from left held (ahead to (take old.ready link.unwritten)) seen f) (sym e)
      (subst (λ (x : List ℕ). StopsFor kind mode start (bytes ++ piece) from left held (ahead to x) seen (fault_of fault)) (sym (kept_front old.connection.unwritten link.unwritten grows.0 old.ready grows.1 serves.1.all_ready))
      (by unreceived))
    where
      by : IsUnreceived old.connection piece taken fault link → StopsFor kind mode start (bytes ++ piece) from left held (ahead to old.connection.unwritten) seen (fault_of fault)
      by (inl h) = no_fault old.connection.fault serves.2.is_open h.1.0
      by (inr (inl h)) = stops_unread bytes serves.0 piece from left old serves.1 serves.2 fault h.1
      by (inr (inr h)) =
          subst (λ (f : ServeFault). StopsFor kind mode start (bytes ++ piece) from left held (ahead to old.connection.unwritten) seen f) (sym (ap fault_of h.5.1 ∙ refusal_full h.5.0))
          (cut_there bytes serves.0 piece left.bytes serves.1)

-- a piece wasn't taken to the end of a message and what follows of it
pub stops_short : {A : Type 0} {kind : Kind A} (old : Server) (piece : List ℕ) (fault : ConnectionFault) (new : Server) (told : ServeFault) {seen others : Vec A}
    → IsCutShort old.connection piece fault new.connection seen others → new.ready ≡ old.ready → told ≡ fault_of fault → FrontStops kind old piece new told seen.items others.items
stops_short {A = A} {kind = kind} old piece fault new told {seen = seen} (is_unreceived taken unreceived same) ready e =
    subst (λ (os : Vec A). FrontStops kind old piece new told seen.items os.items) (sym same)
    (subst (λ (n : ℕ). FrontStops kind old piece (record new { ready = n }) told seen.items seen.items) (sym ready) (stops_receiving old piece new.connection taken fault told unreceived e))
stops_short {kind = kind} old piece fault new told {seen = seen} {others = others} (ran_out count mid received lives memory) ready e =
    subst (λ (f : ServeFault). FrontStops kind old piece new f seen.items others.items) (sym (e ∙ ap fault_of memory)) (stops_working old piece mid count new others.items received lives ready)

-- ---- the clauses of a block and a piece

module _ {A : Type 0} {kind : Kind A} {mode : Mode} {start : List A} {held : Device} where
  pub serves_none : (bytes : List ℕ) {s : Server} {seen : List A} {to : Device} → Serves kind mode start held bytes s seen to → Serves kind mode start held (bytes ++ []) s seen to
  serves_none bytes {s = s} {seen = seen} {to = to} h = subst (λ (x : List ℕ). Serves kind mode start held x s seen to) (sym (append-nil bytes)) h

  -- the whole piece was taken
  pub serves_all : (bytes fed left piece : List ℕ) {s : Server} {seen : List A} {to : Device} → piece ≡ fed ++ left → left ≡ [] → Serves kind mode start held (bytes ++ fed) s seen to
      → Serves kind mode start held (bytes ++ piece) s seen to
  serves_all bytes fed left piece {s = s} {seen = seen} {to = to} e none h =
      subst (λ (x : List ℕ). Serves kind mode start held (bytes ++ x) s seen to) (sym (e ∙ ap (λ (x : List ℕ). fed ++ x) none ∙ append-nil fed)) h

  -- the connection ended
  pub goes_over : (bytes : List ℕ) (left : Option (List ℕ)) (s : Server) {seen : List A} {to : Device} → GoesOn kind mode start held bytes s seen to → IsSome s.connection.fault
      → (rest : List ℕ) × (all : Reached kind mode start held bytes rest s seen to) × IsOver bytes rest left all.last
  goes_over bytes left s (inl h) ended = (h.0, h.1, inr (inl (closed_work s.connection h.1.last (owed s) h.1.rests.matches ended h.1.rests.none_left)))
  goes_over bytes left s (inr h) ended = (h.0, h.1, inr (inl (closed_work s.connection h.1.last (owed s) h.1.rests.matches ended h.1.rests.none_left)))

  -- it didn't
  pub goes_still : (bytes : List ℕ) (s : Server) {seen : List A} {to : Device} → GoesOn kind mode start held bytes s seen to → s.connection.fault ≡ None → Serves kind mode start held bytes s seen to
  goes_still bytes s (inl h) is_open = h
  goes_still bytes s (inr h) is_open = absurd (none_some s.connection.fault is_open h.2)
    where
      none_some : (f : Option ConnectionFault) → f ≡ None → IsSome f → ⊥
      none_some None e h = cc (h)
      none_some (Some x) e h = cc (e)

  -- what follows a front of the piece that was taken before
  pub fills_after : (bytes fed left piece back : List ℕ) {s : Server} {seen : List A} {to : Device} → piece ≡ fed ++ left → Fills kind mode start held (bytes ++ fed) left back s seen to → Fills kind mode start held bytes piece back s seen to
  fills_after bytes fed left piece back {s = s} {seen = seen} {to = to} e h = (
    fed ++ h.0,
    e ∙ ap (λ (x : List ℕ). fed ++ x) h.1 ∙ sym (append_assoc fed h.0 back),
    subst (λ (x : List ℕ). GoesOn kind mode start held x s seen to) (append_assoc bytes fed h.0) h.2,
  )

  -- and the stream is read on
  pub fills_still : (bytes piece back : List ℕ) (s : Server) {seen : List A} {to : Device} → Fills kind mode start held bytes piece back s seen to → s.connection.fault ≡ None
      → (fed : List ℕ) × (piece ≡ fed ++ back) × Serves kind mode start held (bytes ++ fed) s seen to
  fills_still bytes piece back s h is_open = (h.0, h.1, goes_still (bytes ++ h.0) s h.2 is_open)

-- what follows the bytes that were taken
pub rest_of_piece : (piece : List ℕ) (count n : ℕ) → n ≡ length piece - count → take n (drop count piece) ≡ drop count piece
rest_of_piece piece count n e = ap (λ (k : ℕ). take k (drop count piece)) (e ∙ sym (length-drop count piece)) ∙ take-length (drop count piece)

-- what isn't there by a test is none
pub not_some : {X : Type 0} (o : Option X) (b : Bool) → (IsTrue b ↔ IsSome o) → b ≡ false → o ≡ None
not_some None b h e = refl
not_some (Some x) b h e = absurd (false≢true (sym e ∙ h.1 refl))

-- nothing is left by a test
pub none_left_by : (xs : List ℕ) → (length xs == 0) ≡ true → xs ≡ []
none_left_by xs e = nil_from_length xs (grind (arith, nat_tests, e))

module _ {A : Type 0} (kind : Kind A) where
  -- no call of the reader failed
  pub reads_well : (mode : Mode) (start : List A) (from left held to : Device) (others : List A) (fault : ServeFault) → left.failures ≡ from.failures → ReadsTo kind mode start from left held to others fault
  reads_well mode start from left held to others (faults.Stream (streams.Refused at refusal)) same = same
  reads_well mode start from left held to others (faults.Stream (streams.Device error)) same = inl same
  reads_well mode start from left held to others faults.OutOfMemory same = same

-- what was read before, and nothing more
pub reads_nothing : (a b c : Option (List ℕ)) (bytes buffer : List ℕ) (n : ℕ) → Consumes a b bytes → Consumes b c (take n buffer) → n ≡ 0 → Consumes a c bytes
reads_nothing a b c bytes buffer n h k e =
    let none : take n buffer ≡ [] = ap (λ (m : ℕ). take m buffer) e in
    subst (λ (x : List ℕ). Consumes a c x) (append-nil bytes) (Consumes-trans a b c bytes [] h (subst (λ (x : List ℕ). Consumes b c x) none k))

-- this many pieces, of a byte or more each
pub one_more_piece : (bytes piece : List ℕ) (pieces n : ℕ) → pieces ≤ length bytes → n ≡ length piece → n ≢ 0 → pieces + 1 ≤ length (bytes ++ piece)
one_more_piece bytes piece pieces n h e some = omega (arith, h, e, some, length-append bytes piece)

-- ---- a server to which nothing has come

rests_new : (mode : Mode) → IsAllDone new_work (objects.begun false (new_link mode standard (Some 0)))
rests_new mode = record {
  matches = record {
    vat = refl;
    no_tails = refl;
    awaited = refl;
    given_up = refl;
    none_call = refl;
    none_asked = refl;
    none_held = refl;
    none_given = refl;
    happens = refl;
    bytes = [];
    frames = refl;
    goes_out = refl;
    counts = λ n e. e ∙ ap (λ (k : ℕ). min k (2 ^ 64 - 1)) (omega arith);
    same_stats = refl;
    same_mode = refl;
    same_limits = refl;
    same_reading = refl;
    ended = refl;
    closes_by = λ says. absurd (true≢false (sym says));
    between = λ still. refl;
    reason = refl;
  };
  none_left = refl;
  none_unsent = refl;
}

module _ {A : Type 0} {kind : Kind A} where
  pub fresh : (mode : Mode) (s : Server) → IsNew mode s → (start : List A) (held : Device) → Serves kind mode start held [] s start held
  fresh mode s new start held =
      let l = new.connection in (
        [],
        record {
          taken = [];
          sent = [];
          messages = refl;
          last = new_work;
          takes = none_taken;
          rests = subst (λ (x : objects.Work). IsAllDone new_work x) (sym (new.owes s.connection ∙ ap (λ (x : Link). objects.begun false x) l)) (rests_new mode);
          writes = subst (λ (d : Device). Writes mode [] held d) (sym (ahead_none held s.connection.unwritten (ap (λ (x : Link). x.unwritten) l))) (writes_none held);
          all_ready = new.ready ∙ ap (λ (x : List ℕ). length x) (sym (ap (λ (x : Link). x.unwritten) l));
          place = ap (λ (x : Link). x.stats.bytes) l ∙ omega arith;
          counted = ap (λ (x : Link). x.stats.messages) l ∙ omega arith;
          counted_sent = ap (λ (x : Link). x.stats.sent) l ∙ omega arith;
          same_mode = ap (λ (x : Link). x.mode) l;
          same_limits = ap (λ (x : Link). x.limits) l;
        },
        record { came = new.came; is_open = ap (λ (x : Link). x.fault) l },
      )
