-- What is held back in a block goes out to a device, all of it or a beginning.
use Rattle.std.proofs.Common.{◌≡◌, ◌⊎◌, inl, inr, ℕ, IsSome, List, [], ◌∷◌, ◌++◌, Option, Some, None, Result, Ok, Err, IfOk, IfErr, refl, sym, ap, ◌∙◌, subst, append_assoc, drop, length, arith}
use Rattle.std.proofs.lemmas.List.{append_cancel_left}
use Rattle.std.proofs.Math.ListN.{drop_of_length-le}
use Rattle.std.specs.Io.KnownBytes.{Appends, append_known}
use Rattle.cp_words.specs.Limits.{standard}
use Rattle.cp_frame.specs.declared.mode.Mode.{Mode}
use Rattle.cp_messages.specs.declared.message.Message.{Message}
use Rattle.cp_stream.specs.declared.device.DeviceError.{DeviceError}
use Rattle.cp_stream.specs.declared.fault.StreamFault.TheVariants as streams
use Rattle.cp_stream.specs.Read.{FailedOnce}
use Rattle.cp_stream.specs.Write.{IsWrittenAs}
use Rattle.cp_connection.specs.Link.{Link}
use Rattle.cp_serve.specs.declared.fault.ServeFault.{ServeFault}
use Rattle.cp_serve.specs.declared.fault.ServeFault.TheVariants as faults
use Rattle.cp_serve.specs.declared.serving.Server.{Server}
use Rattle.cp_servants.specs.Servant.{Kind}
use Rattle.cp_serve.specs.Output.{Device, AreWrittenAs, Begin, Writes, WritesPart, IsCutOff, StopsFor}
use Rattle.cp_serve.specs.Reached.{Reached, GoesOn, Fills, AllOut, ahead, ready_of}
use Rattle.cp_serve.proofs.Written.{ahead_none, writes_all}
use Rattle.cp_serve.proofs.Reaching.{cut_there, reached_on, rests_as, is_all_ready}

-- Two lists that are equal, each in two parts: the first part of one begins with that of the other.
seam : (f u z v : List ℕ) → f ++ u ≡ z ++ v → ((t : List ℕ) × (f ≡ z ++ t)) ⊎ ((t : List ℕ) × (z ≡ f ++ t) × (u ≡ t ++ v))
seam [] u z v e = inr (z, refl, e)
seam (a ∷ f) u [] v e = inl (a ∷ f, refl)
seam (a ∷ f) u (b ∷ z) v e = by (seam f u z v tails)
  where
    heads : a ≡ b
    heads = cc

    tails : f ++ u ≡ z ++ v
    tails = cc

    by : ((t : List ℕ) × (f ≡ z ++ t)) ⊎ ((t : List ℕ) × (z ≡ f ++ t) × (u ≡ t ++ v)) → ((t : List ℕ) × (a ∷ f ≡ b ∷ (z ++ t))) ⊎ ((t : List ℕ) × (b ∷ z ≡ a ∷ (f ++ t)) × (u ≡ t ++ v))
    by (inl h) = inl (h.0, ap (λ (x : ℕ). x ∷ f) heads ∙ ap (λ (x : List ℕ). b ∷ x) h.1)
    by (inr h) = inr (h.0, ap (λ (x : ℕ). x ∷ z) (sym heads) ∙ ap (λ (x : List ℕ). a ∷ x) h.1, h.2)

front_nil : (z v : List ℕ) → z ++ v ≡ [] → z ≡ []
front_nil [] v e = refl
front_nil (a ∷ z) v e = absurd (cc)

begin_cut : (mode : Mode) (others : List Message) (z v : List ℕ) → Begin mode others (z ++ v) → Begin mode others z
begin_cut mode [] z v h = front_nil z v h
begin_cut mode (m ∷ more) z v (inl h) = inl (front_nil z v h)
begin_cut mode (m ∷ more) z v (inr h) = inr (v ++ h.0, subst (λ (b : List ℕ). IsWrittenAs mode standard standard.frame_words 1 m b) (append_assoc z v h.0) h.1)

-- The bytes are the frames of the first of these messages, and a beginning of the next.
record Cut (mode : Mode) (sent : List Message) (z : List ℕ) : Type 0 where
  first : List Message
  others : List Message
  splits : sent ≡ first ++ others
  bytes : List ℕ
  part : List ℕ
  frames : AreWrittenAs mode first bytes
  begin : Begin mode others part
  is : z ≡ bytes ++ part

cuts : (mode : Mode) (first others : List Message) (bytes part z v : List ℕ) → AreWrittenAs mode first bytes → Begin mode others part → bytes ++ part ≡ z ++ v → Cut mode (first ++ others) z
cuts mode [] others bytes part z v none begin e =
    let whole : part ≡ z ++ v = sym (ap (λ (x : List ℕ). x ++ part) none) ∙ e in
    record {
      first = [];
      others = others;
      splits = refl;
      bytes = [];
      part = z;
      frames = refl;
      begin = begin_cut mode others z v (subst (λ (x : List ℕ). Begin mode others x) whole begin);
      is = refl;
    }
cuts mode (m ∷ first) others bytes part z v (front, back, whole, written, more) begin e =
    by (λ t q. cuts mode first others back part t v more begin q) (seam front (back ++ part) z v (sym (append_assoc front back part) ∙ ap (λ (x : List ℕ). x ++ part) (sym whole) ∙ e))
  where
    by : ((t : List ℕ) → back ++ part ≡ t ++ v → Cut mode (first ++ others) t) → ((t : List ℕ) × (front ≡ z ++ t)) ⊎ ((t : List ℕ) × (z ≡ front ++ t) × (back ++ part ≡ t ++ v)) → Cut mode (m ∷ (first ++ others)) z
    by again (inl h) = record {
      first = [];
      others = m ∷ (first ++ others);
      splits = refl;
      bytes = [];
      part = z;
      frames = refl;
      begin = inr (h.0, subst (λ (b : List ℕ). IsWrittenAs mode standard standard.frame_words 1 m b) h.1 written);
      is = refl;
    }
    by again (inr h) =
        let rest = again h.0 h.2 in
        record {
          first = m ∷ rest.first;
          others = rest.others;
          splits = ap (λ (x : List Message). m ∷ x) rest.splits;
          bytes = front ++ rest.bytes;
          part = rest.part;
          frames = (front, rest.bytes, refl, written, rest.frames);
          begin = rest.begin;
          is = h.1 ∙ ap (λ (x : List ℕ). front ++ x) rest.is ∙ sym (append_assoc front rest.bytes rest.part);
        }

-- what would be there with the block is there once it went out
lands : (h d new : Option (List ℕ)) (block x : List ℕ) → Appends h (append_known d block) x → Appends d new block → Appends h new x
lands None d new block x p q = tt
lands (Some h) None new block x p q = absurd p
lands (Some h) (Some y) None block x p q = absurd q
lands (Some h) (Some y) (Some w) block x p q = q ∙ p

-- and a beginning of it, where the block went out in part
lies : (h d new : Option (List ℕ)) (before x block gone left : List ℕ) → Appends h d before → Appends h (append_known d block) x → block ≡ gone ++ left → Appends d new gone
    → (z : List ℕ) × (v : List ℕ) × (x ≡ z ++ v) × Appends h new z
lies None d new before x block gone left p q e r = ([], x, refl, tt)
lies (Some h) None new before x block gone left p q e r = absurd p
lies (Some h) (Some y) None before x block gone left p q e r = absurd r
lies (Some h) (Some y) (Some w) before x block gone left p q e r =
    let whole : h ++ x ≡ h ++ (before ++ block) = sym q ∙ ap (λ (l : List ℕ). l ++ block) p ∙ append_assoc h before block in (
      before ++ gone,
      left,
      append_cancel_left h x (before ++ block) whole ∙ ap (λ (l : List ℕ). before ++ l) e ∙ sym (append_assoc before gone left),
      r ∙ ap (λ (l : List ℕ). l ++ gone) p ∙ append_assoc h before gone,
    )

-- The block went out.
module _ {mode : Mode} {held : Device} (to new : Device) (block : List ℕ) (moved : Appends to.bytes new.bytes block) (same : new.failures ≡ to.failures) where
  pub lands_writes : {sent : List Message} → Writes mode sent held (ahead to block) → Writes mode sent held new
  lands_writes h =
      record { bytes = h.bytes; frames = h.frames; appends = lands held.bytes to.bytes new.bytes block h.bytes h.appends moved; counted = same ∙ h.counted }

  pub lands_part : {sent : List Message} → WritesPart mode sent held (ahead to block) → WritesPart mode sent held new
  lands_part h = record {
    first = h.first;
    others = h.others;
    splits = h.splits;
    bytes = h.bytes;
    part = h.part;
    frames = h.frames;
    begin = h.begin;
    appends = lands held.bytes to.bytes new.bytes block (h.bytes ++ h.part) h.appends moved;
  }

  module _ {A : Type 0} {kind : Kind A} {start : List A} where
    abbrev lands_cut : (bytes : List ℕ) (left : Option (List ℕ)) → IsCutOff kind mode start bytes left held (ahead to block) → IsCutOff kind mode start bytes left held new
    lands_cut bytes left h = record {
      taken = h.taken;
      rest = h.rest;
      messages = h.messages;
      sent = h.sent;
      starts = h.starts;
      writes = lands_part h.writes;
    }

failed_there : (a b c : ℕ) → c ≡ b → FailedOnce a b → FailedOnce a c
failed_there a b c same h = subst (λ (n : ℕ). FailedOnce a n) (sym same) h

module _ {A : Type 0} (kind : Kind A) (mode : Mode) (start : List A) (held to new : Device) (block : List ℕ) (moved : Appends to.bytes new.bytes block) (same : new.failures ≡ to.failures) where
  pub lands_stops : (bytes : List ℕ) (from left : Device) (objects : List A) (fault : ServeFault) → StopsFor kind mode start bytes from left held (ahead to block) objects fault
      → StopsFor kind mode start bytes from left held new objects fault
  lands_stops bytes from left objects (faults.Stream (streams.Refused at refusal)) (inl h) = inl (record {
    before = record {
      taken = h.before.taken;
      rest = h.before.rest;
      messages = h.before.messages;
      sent = h.before.sent;
      last = h.before.last;
      takes = h.before.takes;
      is_open = h.before.is_open;
      writes = lands_writes to new block moved same h.before.writes;
    };
    fault = h.fault;
    place = h.place;
  })
  lands_stops bytes from left objects (faults.Stream (streams.Refused at refusal)) (inr h) = inr (lands_cut to new block moved same bytes left.bytes h.0, h.1, h.2)
  lands_stops bytes from left objects (faults.Stream (streams.Device error)) (inl failed, h) = (inl failed, lands_cut to new block moved same bytes left.bytes h)
  lands_stops bytes from left objects (faults.Stream (streams.Device error)) (inr failed, h) =
      (inr (failed_there held.failures to.failures new.failures same failed), lands_cut to new block moved same bytes left.bytes h)
  lands_stops bytes from left objects faults.OutOfMemory h = lands_cut to new block moved same bytes left.bytes h

-- A call of the device failed, and a beginning of the block went out.
module _ {mode : Mode} {held : Device} (to new : Device) (block gone left : List ℕ) (splits : block ≡ gone ++ left) (moved : Appends to.bytes new.bytes gone) where
  pub breaks_part : {before sent : List Message} → Writes mode before held to → WritesPart mode sent held (ahead to block) → WritesPart mode sent held new
  breaks_part b h =
      let place = lies held.bytes to.bytes new.bytes b.bytes (h.bytes ++ h.part) block gone left b.appends h.appends splits moved in
      let cut = cuts mode h.first h.others h.bytes h.part place.0 place.1 h.frames h.begin place.2 in
      record {
        first = cut.first;
        others = cut.others;
        splits = h.splits ∙ cut.splits;
        bytes = cut.bytes;
        part = cut.part;
        frames = cut.frames;
        begin = cut.begin;
        appends = subst (λ (x : List ℕ). Appends held.bytes new.bytes x) cut.is place.3;
      }

  pub stops_broken : {A : Type 0} {kind : Kind A} {start : List A} {before : List Message} (error : DeviceError) (bytes : List ℕ) (from upto : Device) (others : List A) → Writes mode before held to
      → IsCutOff kind mode start bytes upto.bytes held (ahead to block) → FailedOnce to.failures new.failures → StopsFor kind mode start bytes from upto held new others (faults.Stream (streams.Device error))
  stops_broken error bytes from upto others b h failed = (
    inr (subst (λ (n : ℕ). FailedOnce n new.failures) b.counted failed),
    record {
      taken = h.taken;
      rest = h.rest;
      messages = h.messages;
      sent = h.sent;
      starts = h.starts;
      writes = breaks_part b h.writes;
    },
  )

-- the whole of a piece, of which a front was taken before
whole : (bytes fed left front back piece : List ℕ) → piece ≡ fed ++ left → left ≡ front ++ back → ((bytes ++ fed) ++ front) ++ back ≡ bytes ++ piece
whole bytes fed left front back piece e f =
    append_assoc (bytes ++ fed) front back ∙ ap (λ (x : List ℕ). (bytes ++ fed) ++ x) (sym f) ∙ append_assoc bytes fed left ∙ ap (λ (x : List ℕ). bytes ++ x) (sym e)

module _ {A : Type 0} {kind : Kind A} {mode : Mode} {start : List A} {held : Device} where
  -- a run that stops was cut off
  cut_of_stops : (bytes : List ℕ) (from left : Device) {to : Device} (objects : List A) (fault : ServeFault) → StopsFor kind mode start bytes from left held to objects fault
      → IsCutOff kind mode start bytes left.bytes held to
  cut_of_stops bytes from left {to = to} objects (faults.Stream (streams.Refused at refusal)) (inl h) = record {
    taken = h.before.taken;
    rest = h.before.rest;
    messages = h.before.messages;
    sent = h.before.sent;
    starts = inl (h.before.last, objects, h.before.takes);
    writes = writes_all held to h.before.writes;
  }
  cut_of_stops bytes from left objects (faults.Stream (streams.Refused at refusal)) (inr h) = h.0
  cut_of_stops bytes from left objects (faults.Stream (streams.Device error)) h = h.1
  cut_of_stops bytes from left objects faults.OutOfMemory h = h

  -- so is one that goes on
  cut_of_goes : (bytes more : List ℕ) (left : Option (List ℕ)) {s : Server} {seen : List A} {to : Device} → GoesOn kind mode start held bytes s seen to → IsCutOff kind mode start (bytes ++ more) left held (ahead to (ready_of s))
  cut_of_goes bytes more left {s = s} {seen = seen} {to = to} h = by h
    where
      there : (rest : List ℕ) → Reached kind mode start held bytes rest s seen to → IsCutOff kind mode start (bytes ++ more) left held (ahead to (ready_of s))
      there rest r = subst (λ (x : List ℕ). IsCutOff kind mode start (bytes ++ more) left held (ahead to x)) (sym (is_all_ready bytes rest s r)) (cut_there bytes rest more left r)

      by : GoesOn kind mode start held bytes s seen to → IsCutOff kind mode start (bytes ++ more) left held (ahead to (ready_of s))
      by (inl r) = there r.0 r.1
      by (inr r) = there r.0 r.1

  pub cut_of_fills : (bytes fed left piece back : List ℕ) (upto : Option (List ℕ)) {s : Server} {seen : List A} {to : Device} → piece ≡ fed ++ left
      → Fills kind mode start held (bytes ++ fed) left back s seen to → IsCutOff kind mode start (bytes ++ piece) upto held (ahead to (ready_of s))
  cut_of_fills bytes fed left piece back upto {s = s} {to = to} e h =
      subst (λ (x : List ℕ). IsCutOff kind mode start x upto held (ahead to (ready_of s))) (whole bytes fed left h.0 back piece e h.1) (cut_of_goes ((bytes ++ fed) ++ h.0) back upto h.2)

  pub cut_of_stopped : (bytes fed left piece : List ℕ) (from upto : Device) (objects : List A) {to : Device} → piece ≡ fed ++ left → (fault : ServeFault)
      → StopsFor kind mode start ((bytes ++ fed) ++ left) from upto held to objects fault → IsCutOff kind mode start (bytes ++ piece) upto.bytes held to
  cut_of_stopped bytes fed left piece from upto objects {to = to} e fault h =
      subst (λ (x : List ℕ). IsCutOff kind mode start x upto.bytes held to) (append_assoc bytes fed left ∙ ap (λ (x : List ℕ). bytes ++ x) (sym e)) (cut_of_stops ((bytes ++ fed) ++ left) from upto objects fault h)

  -- the connection ended within the piece
  pub goes_ended : (bytes fed left piece back : List ℕ) {s : Server} {seen : List A} {to : Device} → piece ≡ fed ++ left → Fills kind mode start held (bytes ++ fed) left back s seen to
      → IsSome s.connection.fault → GoesOn kind mode start held (bytes ++ piece) s seen to
  goes_ended bytes fed left piece back {s = s} {seen = seen} {to = to} e h ended = by h.2
    where
      there : (rest : List ℕ) → Reached kind mode start held ((bytes ++ fed) ++ h.0) rest s seen to → GoesOn kind mode start held (bytes ++ piece) s seen to
      there rest r =
          inr (
            rest ++ back,
            subst (λ (x : List ℕ). Reached kind mode start held x (rest ++ back) s seen to) (whole bytes fed left h.0 back piece e h.1) (reached_on ((bytes ++ fed) ++ h.0) rest back s s.connection.reading r),
            ended,
          )

      by : GoesOn kind mode start held ((bytes ++ fed) ++ h.0) s seen to → GoesOn kind mode start held (bytes ++ piece) s seen to
      by (inl r) = there r.0 r.1
      by (inr r) = there r.0 r.1

-- a server of which all that was ready went out
abbrev pub written_out : Server → Server
written_out s = record s { connection = record s.connection { unwritten = [] }; ready = 0 }

pub is_written_out : (s new : Server) → s.ready ≡ length s.connection.unwritten → new.connection ≡ record s.connection { unwritten = drop s.ready s.connection.unwritten }
    → new ≡ record s { connection = new.connection; ready = 0 } → new ≡ written_out s
is_written_out s new ready l e =
    let none : drop s.ready s.connection.unwritten ≡ [] = drop_of_length-le s.connection.unwritten {i = s.ready} (omega (arith, ready)) in
    e ∙ ap (λ (x : Link). record s { connection = x; ready = 0 }) (l ∙ ap (λ (u : List ℕ). record s.connection { unwritten = u }) none)

module _ {A : Type 0} {kind : Kind A} {mode : Mode} {start : List A} {held : Device} (s new : Server) (to after : Device) (l : new.connection ≡ record s.connection { unwritten = drop s.ready s.connection.unwritten })
    (e : new ≡ record s { connection = new.connection; ready = 0 }) (moved : Appends to.bytes after.bytes (ready_of s)) (same : after.failures ≡ to.failures) where
  lands_reached : (bytes rest : List ℕ) {seen : List A} → Reached kind mode start held bytes rest s seen to → Reached kind mode start held bytes rest (written_out s) seen after
  lands_reached bytes rest r = record {
    taken = r.taken;
    sent = r.sent;
    messages = r.messages;
    last = r.last;
    takes = r.takes;
    rests = rests_as r.rests (record s.connection { unwritten = [] }) refl refl refl refl;
    writes =
        subst (λ (d : Device). Writes mode r.sent held d) (sym (ahead_none after [] refl))
        (lands_writes to after (ready_of s) moved same (subst (λ (x : List ℕ). Writes mode r.sent held (ahead to x)) (sym (is_all_ready bytes rest s r)) r.writes));
    all_ready = refl;
    place = r.place;
    counted = r.counted;
    counted_sent = r.counted_sent;
    same_mode = r.same_mode;
    same_limits = r.same_limits;
  }

  -- what was reached is there once it went out
  lands_goes : (bytes : List ℕ) {seen : List A} → GoesOn kind mode start held bytes s seen to → GoesOn kind mode start held bytes new seen after
  lands_goes bytes {seen = seen} (inl h) =
      subst (λ (x : Server). GoesOn kind mode start held bytes x seen after) (sym (is_written_out s new h.1.all_ready l e)) (inl (h.0, lands_reached bytes h.0 h.1, record { came = h.2.came; is_open = h.2.is_open }))
  lands_goes bytes {seen = seen} (inr h) =
      subst (λ (x : Server). GoesOn kind mode start held bytes x seen after) (sym (is_written_out s new h.1.all_ready l e)) (inr (h.0, lands_reached bytes h.0 h.1, h.2))

  pub lands_fills : (bytes piece back : List ℕ) {seen : List A} → Fills kind mode start held bytes piece back s seen to → Fills kind mode start held bytes piece back new seen after
  lands_fills bytes piece back h = (h.0, h.1, lands_goes (bytes ++ h.0) h.2)

  -- and nothing is left to go out
  pub lands_out : (bytes piece back : List ℕ) {seen : List A} → Fills kind mode start held bytes piece back s seen to → AllOut new
  lands_out bytes piece back {seen = seen} h = by h.2
    where
      by : GoesOn kind mode start held (bytes ++ h.0) s seen to → AllOut new
      by (inl r) = ap (λ (x : Server). x.connection.unwritten) (is_written_out s new r.1.all_ready l e)
      by (inr r) = ap (λ (x : Server). x.connection.unwritten) (is_written_out s new r.1.all_ready l e)

module _ {A : Type 0} (kind : Kind A) where
  pub stops_whole : (mode : Mode) (start : List A) (held to : Device) (objects : List A) (bytes fed left piece : List ℕ) (from upto : Device) → piece ≡ fed ++ left → (fault : ServeFault)
      → StopsFor kind mode start ((bytes ++ fed) ++ left) from upto held to objects fault → StopsFor kind mode start (bytes ++ piece) from upto held to objects fault
  stops_whole mode start held to objects bytes fed left piece from upto e fault h =
      subst (λ (x : List ℕ). StopsFor kind mode start x from upto held to objects fault) (append_assoc bytes fed left ∙ ap (λ (x : List ℕ). bytes ++ x) (sym e)) h

-- either way
pub either_way : {T E C : Type 0} {P : T → Type 0} {Q : E → Type 0} (r : Result T E) → IfOk r P → IfErr r Q → ((x : T) → P x → C) → ((e : E) → Q e → C) → C
either_way (Ok x) h k f g = f x h
either_way (Err e) h k f g = g e k
