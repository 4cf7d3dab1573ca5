-- What a relay lets through of a piece.
use Rattle.std.proofs.Common.{◌≡◌, ◌⊎◌, inl, inr, ℕ, ◌+◌, ◌-◌, ◌^◌, ◌<◌, Bool, true, List, [], ◌∷◌, ◌++◌, Option, Some, None, length, take, refl, sym, ◌∙◌, ap, subst, append_assoc, append-nil, length-append, arith}
use Rattle.std.proofs.Math.Seq.{take-append_seam}
use Rattle.std.proofs.lemmas.List.{nil_from_length}
use Rattle.cp_words.specs.Limits.{Bounds}
use Rattle.cp_frame.specs.declared.fault.FrameFault.{FrameFault}
use Rattle.cp_frame.specs.declared.fault.FrameFault.TheVariants as faults
use Rattle.cp_frame.specs.declared.mode.Mode.{Mode}
use Rattle.cp_frame.specs.declared.mode.Mode.TheVariants as modes
use Rattle.cp_frame.specs.Frame.{Frame}
use Rattle.cp_frame.specs.Reader as frames
use Rattle.cp_frame.specs.Stream as streams
use Rattle.cp_frame.specs.Stream.{Laid, NamesFault, RunsPast, numbers}
use Rattle.cp_packed.proofs.Unpacks.{packed_none}
use Rattle.cp_messages.specs.declared.message.Message.{Message}
use Rattle.cp_stream.specs.Stream.{Holds, HoldsNone, Front, HasFault}
use Rattle.cp_stream.specs.Reader.{CountsOn}
use Rattle.cp_stream.specs.declared.fault.Refusal.{Refusal}
use Rattle.cp_stream.specs.declared.fault.Refusal.TheVariants as refusals
use Rattle.cp_relay.specs.declared.output.Output.{Output}
use Rattle.cp_relay.specs.declared.output.Output.TheVariants as outputs
use Rattle.cp_relay.specs.declared.fault.RelayFault.{RelayFault}
use Rattle.cp_relay.specs.declared.fault.RelayCause.{RelayCause}
use Rattle.cp_relay.specs.declared.fault.RelayCause.TheVariants as whys
use Rattle.cp_relay.specs.declared.passage.Passage.{Passage}
use Rattle.cp_relay.specs.Relay.{Relay, StandsFor, IsKept, IsSentFor, Passes, Lets, LetsThrough, IsSameStream, IsUnwritten, StopsFor, GivesNext, GivesNone, StopsNext}
use Rattle.cp_relay.specs.Passage.{seen, IsOpen, kept_with, IsUnwrittenAnew, StopsAtFrame, Refuses, IsMemoryFor}

-- nothing is kept once a frame has gone, in either form
kept_none : (output : Output) → IsKept output [] []
kept_none outputs.AsRead = refl
kept_none (outputs.Anew mode) = refl

-- what is kept with a piece is kept of what has come with it
keeps_with : (output : Output) (kept piece b : List ℕ) → IsKept output kept b → IsKept output (kept_with output kept piece) (b ++ piece)
keeps_with outputs.AsRead kept piece b h = ap (λ (x : List ℕ). x ++ piece) h
keeps_with (outputs.Anew mode) kept piece b h = h

-- what is made of the bytes kept goes out for the frame
sent_for : (output : Output) (limits : Bounds) (kept front b : List ℕ) (m : Message) (sent : List ℕ) → IsKept output kept b → IsSentFor output limits (kept ++ front) m sent → IsSentFor output limits (b ++ front) m sent
sent_for outputs.AsRead limits kept front b m sent h k = k ∙ ap (λ (x : List ℕ). x ++ front) h
sent_for (outputs.Anew mode) limits kept front b m sent h k = k

module _ {V : Type 0} (says : V → Message → Bool → V → Type 0) where
  -- the frames up to a rest, and those of that rest and what follows it, are those of the whole
  pub passes_on : (mode : Mode) (output : Output) (limits : Bounds) (a b : List ℕ) (first second : List Message) (sent more rest last : List ℕ)
      → Passes mode output limits a first sent rest → Passes mode output limits (rest ++ b) second more last → Passes mode output limits (a ++ b) (first ++ second) (sent ++ more) last
  passes_on mode output limits a b [] second sent more rest last h k =
      subst (λ (s : List ℕ). Passes mode output limits (a ++ b) second (s ++ more) last) (sym h.1) (subst (λ (x : List ℕ). Passes mode output limits (x ++ b) second more last) (sym h.0) k)
  passes_on mode output limits a b (m ∷ ms) second sent more rest last h k = (
    h.0,
    h.1 ++ b,
    h.2,
    h.3 ++ more,
    ap (λ x. x ++ b) h.4 ∙ append_assoc h.0 h.1 b,
    ap (λ x. x ++ more) h.5 ∙ append_assoc h.2 h.3 more,
    h.6,
    h.7,
    passes_on mode output limits h.1 b ms second h.3 more rest last h.8 k,
  )

  pub lets_on : (first second : List Message) (v w u : V) → Lets says v first w → Lets says w second u → Lets says v (first ++ second) u
  lets_on [] second v w u h k = subst (λ (x : V). Lets says x second u) h k
  lets_on (m ∷ ms) second v w u h k = (h.0, h.1, lets_on ms second h.0 w u h.2 k)

  -- two pieces are let through as one
  pub lets_both : (old mid new : Relay) (a c : List ℕ) (v w u : V) (out held now b rest last : List ℕ)
      → IsSameStream old mid → LetsThrough says old a mid v w out held b rest → LetsThrough says mid c new w u held now rest last → LetsThrough says old (a ++ c) new v u out now b last
  lets_both old mid new a c v w u out held now b rest last same h k =
      let output = subst (λ (o : Output). Passes mid.frames.mode o mid.frames.limits (rest ++ c) k.messages k.sent last) same.output k.passes in
      let mode = subst (λ (m : Mode). Passes m old.output mid.frames.limits (rest ++ c) k.messages k.sent last) same.mode output in
      let limits = subst (λ (l : Bounds). Passes old.frames.mode old.output l (rest ++ c) k.messages k.sent last) same.limits mode in
      record {
        messages = h.messages ++ k.messages;
        sent = h.sent ++ k.sent;
        passes = subst (λ (x : List ℕ). Passes old.frames.mode old.output old.frames.limits x (h.messages ++ k.messages) (h.sent ++ k.sent) last) (append_assoc b a c)
            (passes_on old.frames.mode old.output old.frames.limits (b ++ a) c h.messages k.messages h.sent k.sent rest last h.passes limits);
        goes_out = k.goes_out ∙ ap (λ (x : List ℕ). x ++ k.sent) h.goes_out ∙ append_assoc out h.sent k.sent;
        let_go = lets_on h.messages k.messages v w u h.let_go k.let_go;
        taken = h.taken + k.taken;
        splits = omega (arith, h.splits, k.splits, length-append b (a ++ c), length-append a c, length-append b a, length-append rest c);
        counts = omega (arith, h.counts, k.counts);
      }

  -- nothing was let through yet
  pub lets_none : (r new : Relay) (piece : List ℕ) (v : V) (out b : List ℕ) → r.at < 2 ^ 64 → new.at ≡ r.at → LetsThrough says r piece new v v out out b (b ++ piece)
  lets_none r new piece v out b small same = record {
    messages = [];
    sent = [];
    passes = (refl, refl);
    goes_out = sym (append-nil out);
    let_go = refl;
    taken = 0;
    splits = omega arith;
    counts = omega (arith, small, same);
  }

-- while a stream is read, a fault of a piece is an allocation failure or one of the rest
reported_here : (r : frames.Reader) (piece : List ℕ) (state : frames.State) (fault : FrameFault) → frames.IsReading state → frames.IsReportedFor r piece state fault
    → (fault ≡ faults.OutOfMemory) ⊎ ((b : List ℕ) → frames.StandsFor r b → HasFault r.mode r.limits (b ++ piece) (refusals.Frame fault))
reported_here r piece frames.failed fault h k = absurd h
reported_here r piece (frames.refusing kept) fault h k = absurd h
reported_here r piece (frames.reading rest taken) fault h k = k

-- a frame of a rest that holds no message is a fault of the rest
holds_none : (mode : Mode) (limits : Bounds) (S : List (List ℕ)) (front back : List ℕ) (refusal : Refusal) → Frame mode limits S front → HoldsNone limits S refusal → HasFault mode limits (front ++ back) refusal
holds_none mode limits S front back (refusals.Frame fault) f h = absurd h
holds_none mode limits S front back (refusals.Tree fault) f h = (S, front, back, refl, f, h)
holds_none mode limits S front back (refusals.Schema fault) f h = (S, front, back, refl, f, h)
holds_none mode limits S front back (refusals.Write fault) f h = absurd h

-- and one that holds a message begins the rest
front_of : (mode : Mode) (limits : Bounds) (S : List (List ℕ)) (front back : List ℕ) (m : Message) → Frame mode limits S front → Holds limits S m → Front mode limits (front ++ back) (length front) m
front_of mode limits S front back m f h = (front, back, refl, refl, (S, f, h))

unwritten : (output : Output) (mode : Mode) (limits : Bounds) (rest : List ℕ) (n : ℕ) (m : Message) (refusal : Refusal) → Front mode limits rest n m → IsUnwrittenAnew output limits m refusal → IsUnwritten output mode limits rest refusal
unwritten outputs.AsRead mode limits rest n m refusal f h = absurd h
unwritten (outputs.Anew to) mode limits rest n m refusal f h = (n, m, f, h)

-- where nothing has come nothing is at fault
laid_none : (mode : Mode) (l : List ℕ) → Laid mode [] l → l ≡ []
laid_none modes.Plain l h = h
laid_none modes.Packed l h =
    let laid = h.0 [] [] packed_none in
    let long : 0 ≡ length (l ++ laid.0) = ap (λ (b : List ℕ). length b) laid.1 in
    nil_from_length l (omega (arith, long, length-append l laid.0))

names_none : (limits : Bounds) (fault : FrameFault) → NamesFault limits [] fault → ⊥
names_none limits faults.TooManySegments h = h
names_none limits faults.FrameTooLarge h = h
names_none limits faults.Truncated h = h
names_none limits faults.RunPastFrame h = h
names_none limits faults.Failed h = h
names_none limits faults.OutOfMemory h = h

no_name : (mode : Mode) (limits : Bounds) (fault : FrameFault) → (l : List ℕ) × Laid mode [] l × NamesFault limits (numbers l) fault → ⊥
no_name mode limits fault h = names_none limits fault (subst (λ (l : List ℕ). NamesFault limits (numbers l) fault) (laid_none mode h.0 h.1) h.2)

no_run : (mode : Mode) (limits : Bounds) → RunsPast mode limits [] → ⊥
no_run modes.Plain limits h = h
no_run modes.Packed limits h = let past : length h.2 < 0 = h.8 [] [] packed_none in absurd (omega (arith, past))

no_fault : (mode : Mode) (limits : Bounds) (fault : FrameFault) → streams.HasFault mode limits [] fault → ⊥
no_fault mode limits faults.TooManySegments h = no_name mode limits faults.TooManySegments h
no_fault mode limits faults.FrameTooLarge h = no_name mode limits faults.FrameTooLarge h
no_fault mode limits faults.Truncated h = no_name mode limits faults.Truncated h
no_fault mode limits faults.RunPastFrame h = no_run mode limits h
no_fault mode limits faults.Failed h = no_name mode limits faults.Failed h
no_fault mode limits faults.OutOfMemory h = no_name mode limits faults.OutOfMemory h

reads_fresh : (mode : Mode) (limits : Bounds) (s : frames.State) → frames.Stands mode limits s [] → frames.IsReading s
reads_fresh mode limits frames.failed h = h
reads_fresh mode limits (frames.refusing fault) h = absurd (no_fault mode limits fault h)
reads_fresh mode limits (frames.reading rest taken) h = tt

reads_still : (mode : Mode) (limits : Bounds) (s : frames.State) (b : List ℕ) → frames.Stands mode limits s b → ¬ (frames.IsRefusing s) → frames.IsReading s
reads_still mode limits frames.failed b h n = h
reads_still mode limits (frames.refusing fault) b h n = absurd (n tt)
reads_still mode limits (frames.reading rest taken) b h n = tt

-- a reader that keeps another buffer for later frames
abbrev pub with_spare : frames.Reader → ℕ → frames.Reader
with_spare r n = record r { spare = n }

-- a frame was taken, whatever buffer is kept
abbrev pub next_with_spare : (old reader : frames.Reader) (piece back : List ℕ) (taken : ℕ) (S : List (List ℕ)) (n : ℕ) → frames.GivesNext old piece taken S reader back
    → frames.GivesNext old piece taken S (with_spare reader n) back
next_with_spare old reader piece back taken S n g = record {
  was_reading = g.was_reading;
  same_mode = g.same_mode;
  same_limits = g.same_limits;
  front = g.front;
  whole = g.whole;
  shorter = g.shorter;
  count = g.count;
  frame = g.frame;
  fresh = g.fresh;
}

-- what a reader is after it was given a buffer
pub as_before : (reader put new : frames.Reader) → frames.IsAsBefore put new → put ≡ reader → new ≡ with_spare reader new.spare
as_before reader put new e same = e ∙ ap (λ (r : frames.Reader). with_spare r new.spare) same

module _ (p : Passage) (o : IsOpen p) (reader : frames.Reader) (new : Passage) (read : new.frames ≡ reader) (same : new.limits ≡ p.limits) where
  -- after a frame the stream is read on
  pub open_next : (piece back : List ℕ) (taken : ℕ) (S : List (List ℕ)) → frames.GivesNext p.frames piece taken S reader back → IsOpen new
  open_next piece back taken S g = record {
    same_limits = ap (λ (r : frames.Reader). r.limits) read ∙ g.same_limits ∙ o.same_limits ∙ sym same;
    reading = subst (λ (r : frames.Reader). frames.IsReading r.state) (sym read) (reads_fresh reader.mode reader.limits reader.state g.fresh);
    some = ([], subst (λ (r : frames.Reader). frames.StandsFor r []) (sym read) g.fresh);
  }

  -- and where none ended
  pub open_none : (piece : List ℕ) → frames.Gives p.frames piece reader [] → IsOpen new
  open_none piece g =
      let given = g.frames o.some.0 o.some.1 in
      record {
        same_limits = ap (λ (r : frames.Reader). r.limits) read ∙ g.same_limits ∙ o.same_limits ∙ sym same;
        reading = subst (λ (r : frames.Reader). frames.IsReading r.state) (sym read) (reads_still reader.mode reader.limits reader.state given.0 given.2 (λ k. g.kept k refl));
        some = (given.0, subst (λ (r : frames.Reader). frames.StandsFor r given.0) (sym read) given.2);
      }

module _ {V : Type 0} (says : V → Message → Bool → V → Type 0) (p : Passage) (o : IsOpen p) where
  -- a piece ends a frame, whose message goes out
  pub gives_next : (reader : frames.Reader) (new : Passage) (piece front back : List ℕ) (taken : ℕ) (S : List (List ℕ)) (v w : V) (out now : List ℕ) (g : frames.GivesNext p.frames piece taken S reader back)
      → front ≡ g.front → (m : Message) → Holds p.limits S m → (sent : List ℕ) → IsSentFor p.output p.limits (p.kept.items ++ front) m sent → now ≡ out ++ sent → says v m true w
      → new.output ≡ p.output → new.kept.items ≡ [] → new.frames ≡ reader → CountsOn p.at taken new.at → GivesNext says (seen p None) piece (seen new None) v w out now back
  gives_next reader new piece front back taken S v w out now g same m holds sent for goes let_go output kept read counts =
      let limits : p.limits ≡ p.frames.limits = sym o.same_limits in
      let held : Holds p.frames.limits S m = subst (λ (l : Bounds). Holds l S m) limits holds in
      let sends : IsSentFor p.output p.frames.limits (p.kept.items ++ g.front) m sent = subst (λ (x : List ℕ). IsSentFor p.output p.frames.limits (p.kept.items ++ x) m sent) same (subst (λ (l : Bounds). IsSentFor p.output l (p.kept.items ++ front) m sent) limits for) in
      record {
        front = g.front;
        whole = g.whole;
        shorter = g.shorter;
        sent = sent;
        goes_out = goes;
        went_on = refl;
        goes_on = refl;
        same_stream = record { output = output; mode = ap (λ (r : frames.Reader). r.mode) read ∙ g.same_mode; limits = ap (λ (r : frames.Reader). r.limits) read ∙ g.same_limits };
        gives = λ b h. (
          record {
            messages = m ∷ [];
            sent = sent;
            passes = (
              b ++ g.front,
              [],
              sent,
              [],
              sym (append-nil (b ++ g.front)),
              sym (append-nil sent),
              (S, g.frame b h.reads, held),
              sent_for p.output p.frames.limits p.kept.items g.front b m sent h.keeps sends,
              (refl, refl),
            );
            goes_out = goes;
            let_go = (w, let_go, refl);
            taken = taken;
            splits = omega (arith, g.count b h.reads);
            counts = counts;
          },
          record {
            goes_on = refl;
            reads = subst (λ (r : frames.Reader). frames.StandsFor r []) (sym read) g.fresh;
            keeps = subst (λ (o : Output). IsKept o new.kept.items []) (sym output) (subst (λ (x : List ℕ). IsKept p.output x []) (sym kept) (kept_none p.output));
            counted = omega (arith, counts);
          },
        );
      }

  -- nothing ends in a piece
  pub gives_none : (reader : frames.Reader) (new : Passage) (piece : List ℕ) (v : V) (out : List ℕ) → frames.Gives p.frames piece reader []
      → new.output ≡ p.output → new.kept.items ≡ kept_with p.output p.kept.items piece → new.frames ≡ reader → new.at ≡ p.at → GivesNone says (seen p None) piece (seen new None) v v out out
  gives_none reader new piece v out g output kept read at = record {
    nothing = refl;
    went_on = refl;
    goes_on = refl;
    same_stream = record { output = output; mode = ap (λ (r : frames.Reader). r.mode) read ∙ g.same_mode; limits = ap (λ (r : frames.Reader). r.limits) read ∙ g.same_limits };
    gives = λ b h.
        let given = g.frames b h.reads in (
          lets_none says (seen p None) (seen new None) piece v out b h.counted at,
          record {
            goes_on = refl;
            reads = subst (λ (r : frames.Reader). frames.StandsFor r (b ++ piece)) (sym read) (subst (λ (x : List ℕ). frames.StandsFor reader x) (sym given.1) given.2);
            keeps = subst (λ (o : Output). IsKept o new.kept.items (b ++ piece)) (sym output) (subst (λ (x : List ℕ). IsKept p.output x (b ++ piece)) (sym kept) (keeps_with p.output p.kept.items piece b h.keeps));
            counted = omega (arith, h.counted, at);
          },
        );
  }

  -- a fault of framing is one of the rest
  pub refuses_frame : (reader : frames.Reader) (piece : List ℕ) (v : V) (fault : FrameFault) → frames.Reports p.frames piece reader fault → Refuses says (seen p None) piece v v (whys.Refused (refusals.Frame fault))
  refuses_frame reader piece v fault k = λ b h.
      elim (reported_here p.frames piece p.frames.state fault o.reading k.reported) [
        | inl memory ↦ inl (inl (ap (λ (f : FrameFault). refusals.Frame f) memory))
        | inr there ↦ inr (refl, inl (there b h.reads))
      ]

  -- where memory runs out nothing is said
  pub refuses_memory : (piece : List ℕ) (v w : V) (why : RelayCause) → IsMemoryFor why → Refuses says (seen p None) piece v w why
  refuses_memory piece v w (whys.Refused refusal) m = λ b h. inl m
  refuses_memory piece v w whys.Forbidden m = absurd m

  -- a frame that ends in the piece doesn't go out
  pub refuses_message : (reader : frames.Reader) (piece back : List ℕ) (taken : ℕ) (S : List (List ℕ)) (v w : V) (why : RelayCause) → frames.GivesNext p.frames piece taken S reader back → StopsAtFrame says p S v w why → Refuses says (seen p None) piece v w why
  refuses_message reader piece back taken S v w whys.Forbidden g h = λ b k.
      let whole : (b ++ g.front) ++ back ≡ b ++ piece = append_assoc b g.front back ∙ ap (λ (x : List ℕ). b ++ x) (sym g.whole) in
      let held : Holds p.frames.limits S h.0 = subst (λ (l : Bounds). Holds l S h.0) (sym o.same_limits) h.1 in (
        length (b ++ g.front),
        h.0,
        subst (λ (x : List ℕ). Front p.frames.mode p.frames.limits x (length (b ++ g.front)) h.0) whole (front_of p.frames.mode p.frames.limits S (b ++ g.front) back h.0 (g.frame b k.reads) held),
        h.2,
      )
  refuses_message reader piece back taken S v w (whys.Refused refusal) g (inl memory) = λ b k. inl memory
  refuses_message reader piece back taken S v w (whys.Refused refusal) g (inr (same, inl none)) = λ b k.
      let whole : (b ++ g.front) ++ back ≡ b ++ piece = append_assoc b g.front back ∙ ap (λ (x : List ℕ). b ++ x) (sym g.whole) in
      let held : HoldsNone p.frames.limits S refusal = subst (λ (l : Bounds). HoldsNone l S refusal) (sym o.same_limits) none in
      inr (same, inl (subst (λ (x : List ℕ). HasFault p.frames.mode p.frames.limits x refusal) whole (holds_none p.frames.mode p.frames.limits S (b ++ g.front) back refusal (g.frame b k.reads) held)))
  refuses_message reader piece back taken S v w (whys.Refused refusal) g (inr (same, inr (m, held, unmade))) = λ b k.
      let whole : (b ++ g.front) ++ back ≡ b ++ piece = append_assoc b g.front back ∙ ap (λ (x : List ℕ). b ++ x) (sym g.whole) in
      let holds : Holds p.frames.limits S m = subst (λ (l : Bounds). Holds l S m) (sym o.same_limits) held in
      let unmade' : IsUnwrittenAnew p.output p.frames.limits m refusal = subst (λ (l : Bounds). IsUnwrittenAnew p.output l m refusal) (sym o.same_limits) unmade in
      let front = subst (λ (x : List ℕ). Front p.frames.mode p.frames.limits x (length (b ++ g.front)) m) whole (front_of p.frames.mode p.frames.limits S (b ++ g.front) back m (g.frame b k.reads) holds) in
      inr (same, inr (unwritten p.output p.frames.mode p.frames.limits (b ++ piece) (length (b ++ g.front)) m refusal front unmade'))

-- a relay stops at a piece of which nothing goes through
pub stops_here : {V : Type 0} (says : V → Message → Bool → V → Type 0) (p : Passage) (before : Option RelayFault) (new : Relay) (piece : List ℕ) (v w : V) (fault : RelayFault) (why : RelayCause)
    → before ≡ None → Refuses says (seen p None) piece v w why → new.fault ≡ Some fault → fault.at ≡ new.at → new.at ≡ p.at → fault.why ≡ why → StopsNext says (seen p before) piece new v w fault
stops_here says p before new piece v w fault why none refuses stopped place at same = record {
  went_on = none;
  stopped = record { says_so = stopped; place = place };
  same = at;
  refused = λ b h.
      let stands = subst (λ (f : Option RelayFault). StandsFor (seen p f) b) none h in
      subst (λ (y : RelayCause). StopsFor says p.output p.frames.mode p.frames.limits (b ++ piece) v w y) (sym same) (refuses b stands);
}

-- what isn't left of a piece is its front
pub front_is : (piece front back : List ℕ) → piece ≡ front ++ back → take (length piece - length back) piece ≡ front
front_is piece front back whole =
    let long : length piece ≡ length front + length back = ap (λ (x : List ℕ). length x) whole ∙ length-append front back in
    let count : length piece - length back ≡ length front = omega (arith, long) in
    ap (λ n. take n piece) count ∙ ap (λ (x : List ℕ). take (length front) x) whole ∙ take-append_seam front back
