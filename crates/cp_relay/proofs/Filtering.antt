-- What a filter puts out is what its relay lets through, as the guard judged it.
use Rattle.std.proofs.lemmas.Option.{none-some}
use Rattle.std.proofs.Common.{◌≡◌, ◌<◌, ℕ, List, [], ◌∷◌, ◌++◌, length, take, Some, None, Bool, true, false, refl, sym, ◌∙◌, ap, subst, arith, length-append}
use Rattle.std.proofs.Math.Seq.{take-append_seam}
use Rattle.std.specs.Global.{Vec}
use Rattle.cp_words.specs.Limits.{Bounds}
use Rattle.cp_frame.specs.declared.mode.Mode.{Mode}
use Rattle.cp_frame.specs.Stream.{NoFront}
use Rattle.cp_frame.specs.Reader as frames
use Rattle.cp_frame.proofs.Cuts.{no_front_of}
use Rattle.cp_messages.specs.declared.message.Message.{Message}
use Rattle.cp_stream.specs.Write.{IsPut}
use Rattle.cp_stream.specs.declared.fault.Refusal.{Refusal}
use Rattle.cp_relay.specs.declared.output.Output.{Output}
use Rattle.cp_relay.specs.Relay.{Relay, StandsFor, Passes, Lets, IsSameStream, GivesNext, GivesNone}
use Rattle.cp_relay.specs.declared.guard.Guard.{Guard}
use Rattle.cp_relay.specs.declared.filter.Filter.{Filter}
use Rattle.cp_relay.specs.declared.filter.FilterFault.{FilterFault}
use Rattle.cp_relay.specs.declared.filter.FilterFault.TheVariants as faults
use Rattle.cp_relay.specs.declared.ruling.Ruling.{Ruling}
use Rattle.cp_relay.specs.declared.ruling.Ruling.TheVariants as rulings
use Rattle.cp_relay.specs.Judged.{judged_from}
use Rattle.cp_relay.specs.Guard.{breach_in, IsSame, Begins, HasJudged, Judges}
use Rattle.cp_relay.specs.Filter.{Does, DoesFrom, GuardsNext, GuardsNone, IsUnputFor, StopsUnanswered, FailsFor, Fails}
use Rattle.cp_relay.proofs.One.{one_of}

-- what a reader stands for begins with no frame
stands_for_none : (mode : Mode) (limits : Bounds) (state : frames.State) (b : List ℕ) → frames.Stands mode limits state b → NoFront mode limits b
stands_for_none mode limits frames.failed b h = absurd h
stands_for_none mode limits (frames.refusing fault) b h = no_front_of mode limits b fault h
stands_for_none mode limits (frames.reading rest taken) b h = h.2.no_front

-- so no message of it passed
none_passed : (before after : Guard) (mode : Mode) (output : Output) (limits : Bounds) (b sent rest : List ℕ) (ms : List Message) → NoFront mode limits b → Passes mode output limits b ms sent rest → Lets Judges before ms after → after ≡ before
none_passed before after mode output limits b sent rest [] none passes lets = lets
none_passed before after mode output limits b sent rest (m ∷ ms) none passes lets = absurd (none passes.6.0 passes.0 passes.1 passes.4 passes.6.1)

-- what stands behind other bytes is taken back, and they stay
pub taken_back : (start : ℕ) (out mid sent : List ℕ) → start ≡ length out → mid ≡ out ++ sent → take start mid ≡ out
taken_back start out mid sent s e = rw (s, e) (take-append_seam out sent)

-- what is done of bytes that stand behind others is done of them alone
does_after : (f : Filter) (v : Ruling) (start : ℕ) (sent : List ℕ) (out mid now answers later : Vec ℕ) → breach_in v ≡ None → start ≡ length out.items → mid.items ≡ out.items ++ sent → DoesFrom f v start mid now answers later
    → Does f v sent out now answers later
does_after f rulings.Passes start sent out mid now answers later is_open s e done = (done.0 ∙ e, done.1)
does_after f (rulings.Changes m) start sent out mid now answers later is_open s e done =
    (subst (λ (x : List ℕ). IsPut f.on f.limits f.limits.frame_words 1 m x now.items) (taken_back start out.items mid.items sent s e) done.0, done.1)
does_after f (rulings.Answers m) start sent out mid now answers later is_open s e done = (done.0 ∙ taken_back start out.items mid.items sent s e, done.1)
does_after f rulings.Drops start sent out mid now answers later is_open s e done = (done.0 ∙ taken_back start out.items mid.items sent s e, done.1)
does_after f (rulings.Closes breach) start sent out mid now answers later is_open s e done = absurd (none-some breach (sym is_open))

-- what the guard judged, where the relay let a frame through
judged_so : (before begun mid after : Guard) (side : Bool) (m : Message) (v : Ruling) → Begins side before begun → (one : HasJudged begun m mid) → ((w : Ruling) → mid.ruling ≡ Some w → v ≡ w) → IsSame mid after
    → record { ruling = v; state = after.state } ≡ judged_from side before.rules.now before.state m
judged_so before begun mid after side m v e one took kept = rw (took one.ruling one.says_so, kept.state, ← e.comes_back, ← e.rules, ← e.state) one.judged

-- a frame isn't empty
some_bytes : (b piece front rest : List ℕ) → piece ≡ front ++ rest → length rest < length piece → b ++ front ≡ [] → ⊥
some_bytes b piece front rest whole shorter nil = omega (arith, shorter, ap (λ (x : List ℕ). length x) whole, length-append front rest, ap (λ (x : List ℕ). length x) nil, length-append b front)

-- and what can't be put out is what it judged of that frame's message
pub stops_unanswered : (before begun mid after : Guard) (old : Filter) (new : Relay) (piece rest : List ℕ) (out put : Vec ℕ) (v : Ruling) (refusal : Refusal) → Begins old.comes_back before begun
    → GivesNext Judges old.relay piece new begun mid out.items put.items rest → ((w : Ruling) → mid.ruling ≡ Some w → v ≡ w) → IsSame mid after → IsUnputFor old.limits v refusal → StopsUnanswered before after old piece refusal
stops_unanswered before begun mid after old new piece rest out put v refusal e n took kept unput = record {
  front = n.front;
  rest = rest;
  whole = n.whole;
  went_on = n.went_on;
  unanswered = λ b h.
      let lets = (n.gives b h).0 in
      let one = one_of begun mid old.relay.frames.mode old.relay.output old.relay.frames.limits (b ++ n.front) lets.sent lets.messages (some_bytes b piece n.front rest n.whole n.shorter) lets.passes lets.let_go in
      record {
        message = one.message;
        is_frame = one.is_frame;
        ruling = v;
        judged = judged_so before begun mid after old.comes_back one.message v e one.goes_on.0 took kept;
        unput = unput;
      };
}

-- where the relay let a frame through, what was judged of its message was done
pub guards_next : (before begun judged after : Guard) (old mid new : Filter) (piece rest : List ℕ) (start : ℕ) (out put now answers later : Vec ℕ) (v : Ruling) → Begins old.comes_back before begun
    → GivesNext Judges old.relay piece mid.relay begun judged out.items put.items rest → ((w : Ruling) → judged.ruling ≡ Some w → v ≡ w) → IsSame judged after
    → before.closed ≡ false → start ≡ length out.items → DoesFrom old v start put now answers later → new.relay ≡ mid.relay → new.on ≡ old.on → new.back ≡ old.back → new.limits ≡ old.limits → new.comes_back ≡ old.comes_back
    → GuardsNext before after old new piece rest out now answers later
guards_next before begun judged after old mid new piece rest start out put now answers later v e n took kept is_open held done relay on back limits side = record {
  front = n.front;
  whole = n.whole;
  shorter = n.shorter;
  went_on = n.went_on;
  is_open = is_open;
  same = record {
    stream = subst (λ (r : Relay). IsSameStream old.relay r) (sym relay) n.same_stream;
    on = on;
    back = back;
    limits = limits;
    comes_back = side;
  };
  guarded = λ b h.
      let g = n.gives b h in
      let lets = g.0 in
      let some = some_bytes b piece n.front rest n.whole n.shorter in
      let one = one_of begun judged old.relay.frames.mode old.relay.output old.relay.frames.limits (b ++ n.front) lets.sent lets.messages some lets.passes lets.let_go in
      let it = one.goes_on.0 in
      let goes : breach_in v ≡ None = ap breach_in (took it.ruling it.says_so) ∙ one.goes_on.1 in (
        record {
          message = one.message;
          is_frame = one.is_frame;
          sent = lets.sent;
          sent_for = one.sent_for;
          ruling = v;
          judged = judged_so before begun judged after old.comes_back one.message v e it took kept;
          rules = kept.rules ∙ it.rules ∙ e.rules;
          called = rw (kept.call, kept.state, ← e.comes_back) it.called;
          is_open = kept.closed ∙ it.closed ∙ e.closed ∙ is_open;
          does = does_after old v start lets.sent out put now answers later goes held lets.goes_out done;
        },
        subst (λ (r : Relay). StandsFor r []) (sym relay) g.1,
      );
}

-- where nothing ended, nothing was judged
pub guards_none : (before begun after : Guard) (old new : Filter) (piece : List ℕ) (out put answers : Vec ℕ) → Begins old.comes_back before begun → GivesNone Judges old.relay piece new.relay begun after out.items put.items
    → before.closed ≡ false → new.on ≡ old.on → new.back ≡ old.back → new.limits ≡ old.limits → new.comes_back ≡ old.comes_back → GuardsNone before after old new piece out put answers answers
guards_none before begun after old new piece out put answers e n is_open on back limits side = record {
  went_on = n.went_on;
  is_open = is_open;
  same = record { stream = n.same_stream; on = on; back = back; limits = limits; comes_back = side };
  goes_on = n.nothing;
  goes_back = refl;
  reads = λ b h.
      let g = n.gives b h in
      let lets = g.0 in
      let read = g.1.reads in
      let none = stands_for_none new.relay.frames.mode new.relay.frames.limits new.relay.frames.state (b ++ piece) read in
      let same : NoFront old.relay.frames.mode old.relay.frames.limits (b ++ piece) = rw (← n.same_stream.mode, ← n.same_stream.limits) none in
      let unasked : after ≡ begun = none_passed begun after old.relay.frames.mode old.relay.output old.relay.frames.limits (b ++ piece) lets.sent (b ++ piece) lets.messages same lets.passes lets.let_go in (
        g.1,
        record {
          rules = ap (λ (x : Guard). x.rules.now) unasked ∙ e.rules;
          state = ap (λ (x : Guard). x.state) unasked ∙ e.state;
          uncalled = ap (λ (x : Guard). x.call) unasked ∙ e.uncalled;
          closed = ap (λ (x : Guard). x.closed) unasked ∙ e.closed;
        },
      );
}

-- a connection that was open is closed for a fault
pub closes_for : (fault : FilterFault) (before judged : Guard) (old new : Filter) (piece : List ℕ) → before.closed ≡ false → FailsFor fault before judged old new piece → Fails fault before (record judged { closed = true }) old new piece
closes_for (faults.Stopped fault) before judged old new piece unclosed h = record { is_open = unclosed; judged = judged; fails = h; closes = refl }
closes_for (faults.Unwritten refusal) before judged old new piece unclosed h = record { is_open = unclosed; judged = judged; fails = h; closes = refl }
closes_for faults.Over before judged old new piece unclosed h = absurd h
