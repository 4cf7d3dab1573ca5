-- A piece is read up to the end of a frame.
use Rattle.std.proofs.Common.{◌≡◌, ◌≢◌, ◌⊎◌, inl, inr, ℕ, ◌+◌, ◌-◌, ◌^◌, min, List, [], ◌++◌, None, refl, sym, ap, ◌∙◌, subst, append_assoc}
use Rattle.cp_words.specs.Limits.{Bounds}
use Rattle.cp_frame.specs.declared.mode.Mode.{Mode}
use Rattle.cp_frame.specs.declared.fault.FrameFault.{FrameFault}
use Rattle.cp_frame.specs.declared.fault.FrameFault.TheVariants as frame_faults
use Rattle.cp_frame.specs.Reader as frames
use Rattle.cp_frame.specs.Stream as streams
use Rattle.cp_frame.specs.Frame.{Frame}
use Rattle.cp_messages.specs.declared.message.Message.{Message}
use Rattle.cp_stream.specs.declared.fault.Refusal.{Refusal}
use Rattle.cp_stream.specs.declared.fault.Refusal.TheVariants as refusals
use Rattle.cp_stream.specs.Stream.{Holds, HoldsNone, HasFault}
use Rattle.cp_stream.proofs.Only.{open_nil}
use Rattle.cp_connection.specs.declared.fault.ConnectionFault.TheVariants as faults
use Rattle.cp_connection.specs.declared.event.ConnectionStats.{ConnectionStats}
use Rattle.cp_connection.specs.declared.parts.Parts.{Parts}
use Rattle.cp_connection.specs.Link.{HasCome}
use Rattle.cp_connection.specs.LinkOf.{link_of, GoesOn, unread_at}
use Rattle.cp_connection.specs.Receiving.{counted, Reads, ReadsOn, IsUnread}

-- a reader that stands for nothing, where nothing is at fault, reads on
reads_again : (mode : Mode) (limits : Bounds) (s : frames.State) → frames.Stands mode limits s [] → streams.Open mode limits [] → frames.IsReading s
reads_again mode limits frames.failed h nothing = h
reads_again mode limits (frames.refusing fault) h nothing = absurd (nothing.no_fault fault h)
reads_again mode limits (frames.reading rest taken) h nothing = tt

-- and one that keeps no fault
reads_still : (mode : Mode) (limits : Bounds) (s : frames.State) (b : List ℕ) → frames.Stands mode limits s b → (frames.IsRefusing s → ◌≢◌ {A = List (ℕ × List (List ℕ))} [] []) → frames.IsReading s
reads_still mode limits frames.failed b h none = h
reads_still mode limits (frames.refusing fault) b h none = absurd (none tt refl)
reads_still mode limits (frames.reading rest taken) b h none = tt

module _ (p : Parts) (on : GoesOn p) where
  -- what came of the open frame is what the reader stands for
  pub stands : (rest : List ℕ) → HasCome (link_of p) rest → frames.StandsFor p.frames rest
  stands rest h =
      subst (λ (l : Bounds). frames.Stands p.frames.mode l p.frames.state rest) (sym on.same_limits)
      (subst (λ (m : Mode). frames.Stands m p.limits p.frames.state rest) (sym on.same_mode) h.1)

  -- and so after it was read on, in the same form and within the same limits
  pub stands_new : (r : frames.Reader) (rest : List ℕ) → r.mode ≡ p.frames.mode → r.limits ≡ p.frames.limits → frames.StandsFor r rest
      → frames.Stands p.agenda.mode p.limits r.state rest
  stands_new r rest m l h =
      subst (λ (x : Bounds). frames.Stands p.agenda.mode x r.state rest) (l ∙ on.same_limits)
      (subst (λ (x : Mode). frames.Stands x r.limits r.state rest) (m ∙ on.same_mode) h)

  framed : (S : List (List ℕ)) (b : List ℕ) → Frame p.frames.mode p.frames.limits S b → Frame p.agenda.mode p.limits S b
  framed S b h =
      subst (λ (x : Bounds). Frame p.agenda.mode x S b) on.same_limits (subst (λ (x : Mode). Frame x p.frames.limits S b) on.same_mode h)

  faulty : (b : List ℕ) (fault : FrameFault) → streams.HasFault p.frames.mode p.frames.limits b fault → streams.HasFault p.agenda.mode p.limits b fault
  faulty b fault h =
      subst (λ (x : Bounds). streams.HasFault p.agenda.mode x b fault) on.same_limits (subst (λ (x : Mode). streams.HasFault x p.frames.limits b fault) on.same_mode h)

  -- a message was read
  pub reads_one : (r : frames.Reader) (bytes messages : ℕ) (piece back : List ℕ) (taken : ℕ) (S : List (List ℕ)) (m : Message) (open_ : p.fault ≡ None)
      (gives : frames.GivesNext p.frames piece taken S r back) → Holds p.limits S m → bytes ≡ min (p.bytes + taken) (2 ^ 64 - 1) → messages ≡ min (p.messages + 1) (2 ^ 64 - 1)
      → Reads (link_of p) gives.front m (link_of (record p { frames = r; bytes = bytes; messages = messages }))
  reads_one r bytes messages piece back taken S m open_ gives holds more one = record {
    was_open = open_;
    is_frame = λ rest came. (S, framed S (rest ++ gives.front) (gives.frame rest (stands rest came)), holds);
    counts = λ rest came. tallied (gives.count rest (stands rest came));
    fresh = fresh_new;
    same = refl;
  }
    where
      stood : frames.Stands p.agenda.mode p.limits r.state []
      stood = stands_new r [] gives.same_mode gives.same_limits gives.fresh

      fresh_new : HasCome (link_of (record p { frames = r; bytes = bytes; messages = messages })) []
      fresh_new = (reads_again p.agenda.mode p.limits r.state stood (open_nil p.agenda.mode p.limits), stood)

      tallied : {n : ℕ} → taken ≡ n → ◌≡◌ {A = ConnectionStats} (record { bytes = bytes; messages = messages; sent = p.agenda.sent }) (counted (link_of p).stats n)
      tallied e = cc (more, one, e)

  -- none was, and the piece goes on
  pub reads_on : (r : frames.Reader) (piece : List ℕ) (open_ : p.fault ≡ None) → frames.Gives p.frames piece r [] → ReadsOn (link_of p) piece (link_of (record p { frames = r }))
  reads_on r piece open_ gives = record {
    was_open = open_;
    came = λ rest came. goes (gives.frames rest (stands rest came));
    same = refl;
  }
    where
      goes : {b : List ℕ} → (rest : List ℕ) × streams.Frames p.frames.mode p.frames.limits b [] rest × frames.StandsFor r rest → HasCome (link_of (record p { frames = r })) b
      goes {b = b} h =
          let stood = subst (λ (x : List ℕ). frames.Stands p.agenda.mode p.limits r.state x) (sym h.1) (stands_new r h.0 gives.same_mode gives.same_limits h.2) in
          (reads_still p.agenda.mode p.limits r.state b stood gives.kept, stood)

  -- a fault of framing, or memory
  reported : (piece : List ℕ) (fault : FrameFault) (state : frames.State) → frames.IsReading state → frames.IsReportedFor p.frames piece state fault
      → (fault ≡ frame_faults.OutOfMemory) ⊎ ((rest : List ℕ) → HasCome (link_of p) rest → HasFault p.agenda.mode p.limits (rest ++ piece) (refusals.Frame fault))
  reported piece fault frames.failed r h = absurd r
  reported piece fault (frames.refusing kept) r h = absurd r
  reported piece fault (frames.reading rest taken) r (inl memory) = inl memory
  reported piece fault (frames.reading rest taken) r (inr why) = inr (λ b came. faulty (b ++ piece) fault (why b (stands b came)))

  pub unread_frame : (piece : List ℕ) (fault : FrameFault) → frames.IsReportedFor p.frames piece p.frames.state fault → IsUnread (link_of p) piece (unread_at p.bytes fault)
  unread_frame piece fault h = by fault (reported piece fault p.frames.state on.came.0 h)
    where
      by : (f : FrameFault) → (f ≡ frame_faults.OutOfMemory) ⊎ ((rest : List ℕ) → HasCome (link_of p) rest → HasFault p.agenda.mode p.limits (rest ++ piece) (refusals.Frame f))
          → IsUnread (link_of p) piece (unread_at p.bytes f)
      by frame_faults.OutOfMemory why = tt
      by frame_faults.TooManySegments (inl e) = absurd (cc)
      by frame_faults.TooManySegments (inr why) = (refl, why)
      by frame_faults.FrameTooLarge (inl e) = absurd (cc)
      by frame_faults.FrameTooLarge (inr why) = (refl, why)
      by frame_faults.Truncated (inl e) = absurd (cc)
      by frame_faults.Truncated (inr why) = (refl, why)
      by frame_faults.RunPastFrame (inl e) = absurd (cc)
      by frame_faults.RunPastFrame (inr why) = (refl, why)
      by frame_faults.Failed (inl e) = absurd (cc)
      by frame_faults.Failed (inr why) = (refl, why)

  -- a frame that holds no message
  pub unread_message : (r : frames.Reader) (piece back : List ℕ) (taken : ℕ) (S : List (List ℕ)) (refusal : Refusal) → frames.GivesNext p.frames piece taken S r back → HoldsNone p.limits S refusal
      → IsUnread (link_of p) piece (faults.Unreadable p.bytes refusal)
  unread_message r piece back taken S refusal gives none = (refl, λ rest came. by refusal none (rest ++ gives.front) (whole rest) (framed S (rest ++ gives.front) (gives.frame rest (stands rest came))))
    where
      whole : (rest : List ℕ) → rest ++ piece ≡ (rest ++ gives.front) ++ back
      whole rest = ap (λ (x : List ℕ). rest ++ x) gives.whole ∙ sym (append_assoc rest gives.front back)

      by : (f : Refusal) → HoldsNone p.limits S f → {b : List ℕ} (front : List ℕ) → b ≡ front ++ back → Frame p.agenda.mode p.limits S front → HasFault p.agenda.mode p.limits b f
      by (refusals.Frame fault) h front e frame = absurd h
      by (refusals.Write fault) h front e frame = absurd h
      by (refusals.Tree fault) h front e frame = (S, front, back, e, frame, h)
      by (refusals.Schema fault) h front e frame = (S, front, back, e, frame, h)

-- ---- a connection that read goes on

pub on_after_one : (p : Parts) (r : frames.Reader) (bytes messages taken : ℕ) (piece back : List ℕ) (S : List (List ℕ)) → GoesOn p → frames.GivesNext p.frames piece taken S r back
    → GoesOn (record p { frames = r; bytes = bytes; messages = messages })
on_after_one p r bytes messages taken piece back S on gives =
    let stood = stands_new p on r [] gives.same_mode gives.same_limits gives.fresh in
    record {
      same_mode = gives.same_mode ∙ on.same_mode;
      same_limits = gives.same_limits ∙ on.same_limits;
      rest = [];
      came = (reads_again p.agenda.mode p.limits r.state stood (open_nil p.agenda.mode p.limits), stood);
      kept = on.kept;
      owes = on.owes;
    }
