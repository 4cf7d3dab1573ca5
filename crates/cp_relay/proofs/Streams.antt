-- Pieces that are fed one after another.
use Rattle.std.proofs.Common.{◌≡◌, inl, inr, ℕ, Bool, List, [], ◌∷◌, ◌++◌, Some, None, length, refl, sym, ◌∙◌, ap, subst, append_assoc, append-nil, rules, arith}
use Rattle.std.proofs.lemmas.List.{append_cancel_right, nil_from_length}
use Rattle.cp_words.specs.Limits.{Bounds}
use Rattle.cp_frame.specs.declared.mode.Mode.{Mode}
use Rattle.cp_frame.specs.Runs.{joined}
use Rattle.cp_frame.specs.Reader as frames
use Rattle.cp_messages.specs.declared.message.Message.{Message}
use Rattle.cp_stream.specs.Stream.{Front, Messages, Stream}
use Rattle.cp_stream.specs.declared.fault.Refusal.TheVariants as refusals
use Rattle.cp_stream.proofs.Only.{fault_holds}
use Rattle.cp_stream.proofs.Runs.{is_one_stream}
use Rattle.cp_relay.specs.declared.output.Output.{Output}
use Rattle.cp_relay.specs.declared.output.Output.TheVariants as outputs
use Rattle.cp_relay.specs.declared.fault.RelayFault.{RelayFault}
use Rattle.cp_relay.specs.declared.fault.RelayCause.{RelayCause}
use Rattle.cp_relay.specs.Relay.{Relay, StandsFor, Passes, LetsThrough, IsSameStream, StopsFor, GivesNext, GivesNone, Gives, Stops, StopsNextAt}
use Rattle.cp_relay.specs.Runs.{Fed, FeedsStream, FeedsSame}
use Rattle.cp_relay.proofs.Passing.{lets_both, lets_none}

some_is_none : (fault : RelayFault) → Some fault ≡ None → ⊥
some_is_none fault e = search (rules)

module _ {V : Type 0} (says : V → Message → Bool → V → Type 0) where
  -- nothing of a piece was fed yet
  pub gives_no_byte : (r : Relay) (v : V) (out : List ℕ) → r.fault ≡ None → Gives says r [] r v v out out
  gives_no_byte r v out on = record {
    went_on = on;
    goes_on = on;
    same_stream = record { output = refl; mode = refl; limits = refl };
    gives = λ b h. (b, subst (λ (x : List ℕ). LetsThrough says r [] r v v out out b x) (append-nil b) (lets_none says r r [] v out b h.counted refl), h);
  }

  same_both : (old mid new : Relay) → IsSameStream old mid → IsSameStream mid new → IsSameStream old new
  same_both old mid new h k = record { output = k.output ∙ h.output; mode = k.mode ∙ h.mode; limits = k.limits ∙ h.limits }

  -- a front of the piece was fed, and then the next frame
  pub gives_more : (old mid new : Relay) (fed left back piece : List ℕ) (v w u : V) (out held now : List ℕ) → Gives says old fed mid v w out held → piece ≡ fed ++ left → (n : GivesNext says mid left new w u held now back)
      → Gives says old (fed ++ n.front) new v u out now × (piece ≡ (fed ++ n.front) ++ back)
  gives_more old mid new fed left back piece v w u out held now h whole n = (
    record {
      went_on = h.went_on;
      goes_on = n.goes_on;
      same_stream = same_both old mid new h.same_stream n.same_stream;
      gives = λ b k.
          let first = h.gives b k in
          let then = n.gives first.0 first.2 in
          ([], lets_both says old mid new fed n.front v w u out held now b first.0 [] h.same_stream first.1 then.0, then.1);
    },
    whole ∙ ap (λ (x : List ℕ). fed ++ x) n.whole ∙ sym (append_assoc fed n.front back),
  )

  -- and then nothing ended in what was left
  pub gives_all : (old mid new : Relay) (fed left piece : List ℕ) (v w u : V) (out held now : List ℕ) → Gives says old fed mid v w out held → piece ≡ fed ++ left → GivesNone says mid left new w u held now
      → Gives says old piece new v u out now
  gives_all old mid new fed left piece v w u out held now h whole n = record {
    went_on = h.went_on;
    goes_on = n.goes_on;
    same_stream = same_both old mid new h.same_stream n.same_stream;
    gives = λ b k.
        let first = h.gives b k in
        let then = n.gives first.0 first.2 in
        let both = lets_both says old mid new fed left v w u out held now b first.0 (first.0 ++ left) h.same_stream first.1 then.0 in
        (first.0 ++ left, subst (λ (x : List ℕ). LetsThrough says old x new v u out now b (first.0 ++ left)) (sym whole) both, then.1);
  }

  -- all of it was fed
  pub gives_whole : (old new : Relay) (fed left piece : List ℕ) (v w : V) (out now : List ℕ) → Gives says old fed new v w out now → piece ≡ fed ++ left → length left ≡ 0 → Gives says old piece new v w out now
  gives_whole old new fed left piece v w out now h whole none =
      let same : piece ≡ fed = whole ∙ ap (λ (x : List ℕ). fed ++ x) (nil_from_length left none) ∙ append-nil fed in
      subst (λ (x : List ℕ). Gives says old x new v w out now) (sym same) h

  -- and then what was left had a fault
  pub stops_after : (old mid new : Relay) (fed left piece : List ℕ) (v w u : V) (out held now : List ℕ) (fault : RelayFault) → Gives says old fed mid v w out held → piece ≡ fed ++ left → now ≡ held → StopsNextAt says mid left new w u fault
      → Stops says old piece new v u out now fault
  stops_after old mid new fed left piece v w u out held now fault h whole nothing (inr n) = absurd (some_is_none fault (sym n.0 ∙ h.goes_on))
  stops_after old mid new fed left piece v w u out held now fault h whole nothing (inl n) = record {
    went_on = h.went_on;
    stopped = n.stopped;
    gives = λ b k.
        let first = h.gives b k in
        let rest = first.0 ++ left in
        let none = lets_none says mid new left w held first.0 first.2.counted n.same in
        let both = lets_both says old mid new fed left v w w out held held b first.0 rest h.same_stream first.1 none in
        let puts = subst (λ (x : List ℕ). LetsThrough says old x new v w out held b rest) (sym whole) both in (
          rest,
          w,
          subst (λ (x : List ℕ). LetsThrough says old piece new v w out x b rest) (sym nothing) puts,
          stops_as old mid rest w u fault.why h.same_stream (n.refused first.0 first.2),
        );
  }
    where
      stops_as : (old mid : Relay) (rest : List ℕ) (v w : V) (why : RelayCause) → IsSameStream old mid → StopsFor says mid.output mid.frames.mode mid.frames.limits rest v w why → StopsFor says old.output old.frames.mode old.frames.limits rest v w why
      stops_as old mid rest v w why same h =
          let output = subst (λ (o : Output). StopsFor says o mid.frames.mode mid.frames.limits rest v w why) same.output h in
          let mode = subst (λ (m : Mode). StopsFor says old.output m mid.frames.limits rest v w why) same.mode output in
          subst (λ (l : Bounds). StopsFor says old.output old.frames.mode l rest v w why) same.limits mode

  -- pieces that were fed in turn are let through as one
  pub feeds_stream : FeedsStream says
  feeds_stream old new [] before after out now b h k =
      let none = subst (λ (x : List ℕ). LetsThrough says old [] old before before out out b x) (append-nil b) (lets_none says old old [] before out b h.counted refl) in
      let relay = subst (λ (r : Relay). LetsThrough says old [] r before before out out b b) (sym k.0) none in
      let visitor = subst (λ (v : V). LetsThrough says old [] new before v out out b b) (sym k.1) relay in
      (b, subst (λ (x : List ℕ). LetsThrough says old [] new before after out x b b) (sym k.2) visitor, subst (λ (r : Relay). StandsFor r b) (sym k.0) h)
  feeds_stream old new (piece ∷ pieces) before after out now b h k =
      let mid = k.0 in
      let visitor = k.1 in
      let held = k.2 in
      let first = k.3.gives b h in
      let then = feeds_stream mid new pieces visitor after held now first.0 first.2 k.4 in
      (then.0, lets_both says old mid new piece (joined pieces) before visitor after out held now b first.0 then.0 k.3.same_stream first.1 then.1, then.2)

  -- where frames go out as they were read, what goes out is what the stream is before its rest
  as_read : (mode : Mode) (limits : Bounds) (b : List ℕ) (ms : List Message) (sent rest : List ℕ) → Passes mode outputs.AsRead limits b ms sent rest → b ≡ sent ++ rest
  as_read mode limits b [] sent rest h = h.0 ∙ ap (λ (x : List ℕ). x ++ rest) (sym h.1)
  as_read mode limits b (m ∷ ms) sent rest h =
      h.4 ∙ ap (λ (x : List ℕ). x ++ h.1) (sym h.7) ∙ ap (λ (x : List ℕ). h.2 ++ x) (as_read mode limits h.1 ms h.3 rest h.8) ∙ sym (append_assoc h.2 h.3 rest) ∙ ap (λ (x : List ℕ). x ++ rest) (sym h.5)

  -- what passes is messages
  are_messages : (mode : Mode) (output : Output) (limits : Bounds) (b : List ℕ) (ms : List Message) (sent rest : List ℕ) → Passes mode output limits b ms sent rest → Messages mode limits b ms rest
  are_messages mode output limits b [] sent rest h = h.0
  are_messages mode output limits b (m ∷ ms) sent rest h = (h.0, h.1, h.4, h.6, are_messages mode output limits h.1 ms h.3 rest h.8)

  same_rest : (mode : Mode) (limits : Bounds) (state : frames.State) (b : List ℕ) (n : ℕ) (m : Message) → frames.Stands mode limits state b → Front mode limits b n m → ⊥
  same_rest mode limits frames.failed b n m h f = h
  same_rest mode limits (frames.refusing fault) b n m h f = fault_holds mode limits b f.0 f.1 m (refusals.Frame fault) h f.2 f.4
  same_rest mode limits (frames.reading rest taken) b n m h f = h.2.no_front f.4.0 f.0 f.1 f.2 f.4.1

  same_stream_of : (old new : Relay) (pieces : List (List ℕ)) (v w : V) (out now : List ℕ) → Fed says old pieces new v w out now → IsSameStream old new
  same_stream_of old new [] v w out now h = subst (λ (r : Relay). IsSameStream old r) (sym h.0) (record { output = refl; mode = refl; limits = refl })
  same_stream_of old new (piece ∷ pieces) v w out now h = same_both old h.0 new h.3.same_stream (same_stream_of h.0 new pieces h.1 w h.2 now h.4)

  -- the messages of a stream, and a rest that begins with none
  is_stream : (old new : Relay) (pieces : List (List ℕ)) (v w : V) (out now b rest : List ℕ) (f : Fed says old pieces new v w out now) (t : LetsThrough says old (joined pieces) new v w out now b rest) → StandsFor new rest
      → Stream old.frames.mode old.frames.limits (b ++ joined pieces) t.messages rest
  is_stream old new pieces v w out now b rest f t h =
      let same = same_stream_of old new pieces v w out now f in
      let mode = subst (λ (m : Mode). frames.Stands m new.frames.limits new.frames.state rest) same.mode h.reads in
      let limits = subst (λ (l : Bounds). frames.Stands old.frames.mode l new.frames.state rest) same.limits mode in
      record {
        messages = are_messages old.frames.mode old.output old.frames.limits (b ++ joined pieces) t.messages t.sent rest t.passes;
        no_more = λ n m k. same_rest old.frames.mode old.frames.limits new.frames.state rest n m limits k;
      }

  pub feeds_same : FeedsSame says
  feeds_same old new other pieces others v v' w w' out now end b plain h f g same =
      let one = feeds_stream old new pieces v v' out now b h f in
      let two = feeds_stream old other others w w' out end b h g in
      let first = is_stream old new pieces v v' out now b one.0 f one.1 one.2 in
      let second = subst (λ (x : List ℕ). Stream old.frames.mode old.frames.limits (b ++ x) two.1.messages two.0) (sym same) (is_stream old other others w w' out end b two.0 g two.1 two.2) in
      let rests : one.0 ≡ two.0 = (is_one_stream old.frames.mode old.frames.limits (b ++ joined pieces) one.1.messages two.1.messages one.0 two.0 first second).1 in
      let left : b ++ joined pieces ≡ one.1.sent ++ one.0 = as_read old.frames.mode old.frames.limits (b ++ joined pieces) one.1.messages one.1.sent one.0 (subst (λ (o : Output). Passes old.frames.mode o old.frames.limits (b ++ joined pieces) one.1.messages one.1.sent one.0) plain one.1.passes) in
      let right : b ++ joined others ≡ two.1.sent ++ two.0 = as_read old.frames.mode old.frames.limits (b ++ joined others) two.1.messages two.1.sent two.0 (subst (λ (o : Output). Passes old.frames.mode o old.frames.limits (b ++ joined others) two.1.messages two.1.sent two.0) plain two.1.passes) in
      let both : one.1.sent ++ one.0 ≡ two.1.sent ++ one.0 = sym left ∙ ap (λ (x : List ℕ). b ++ x) same ∙ right ∙ ap (λ (x : List ℕ). two.1.sent ++ x) (sym rests) in
      let sent : one.1.sent ≡ two.1.sent = append_cancel_right one.1.sent two.1.sent one.0 both in
      let long : length (b ++ joined pieces) ≡ length (b ++ joined others) = ap (λ (x : List ℕ). length (b ++ x)) same in
      let ends : length one.0 ≡ length two.0 = ap (λ (x : List ℕ). length x) rests in
      let taken : one.1.taken ≡ two.1.taken = omega (arith, one.1.splits, two.1.splits, long, ends) in (
        one.1.goes_out ∙ ap (λ (x : List ℕ). out ++ x) sent ∙ sym two.1.goes_out,
        omega (arith, one.1.counts, two.1.counts, taken),
        one.0,
        one.2,
        subst (λ (x : List ℕ). StandsFor other x) (sym rests) two.2,
      )
