-- What goes through a guarded connection is what was judged, message by message.
use Rattle.std.proofs.Common.{◌≡◌, inl, inr, ℕ, Bool, true, false, List, [], ◌∷◌, ◌++◌, refl, sym, ◌∙◌, ap, subst, append_assoc, append-nil, rules}
use Rattle.std.proofs.lemmas.List.{append_cancel_left, append_cancel_right}
use Rattle.cp_words.specs.Limits.{Bounds}
use Rattle.cp_frame.specs.declared.mode.Mode.{Mode}
use Rattle.cp_messages.specs.declared.message.Message.{Message}
use Rattle.cp_stream.specs.Stream.{IsFrameOf}
use Rattle.cp_stream.specs.Write.{IsWrittenAs}
use Rattle.cp_relay.specs.declared.rules.Rules.{Rules}
use Rattle.cp_relay.specs.declared.state.GuardState.{GuardState}
use Rattle.cp_relay.specs.declared.ruling.Ruling.{Ruling}
use Rattle.cp_relay.specs.declared.ruling.Ruling.TheVariants as rulings
use Rattle.cp_relay.specs.declared.guard.Guard.{Guard}
use Rattle.cp_relay.specs.declared.filter.Filter.{Filter}
use Rattle.cp_relay.specs.Relay.{StandsFor}
use Rattle.cp_relay.specs.Judged.{Judgement, judged_from}
use Rattle.cp_relay.specs.Guard.{IsSecondLater}
use Rattle.cp_relay.specs.Filter.{Follows, IsSameFilter}
use Rattle.cp_relay.specs.Traffic.{Connection, Read, Call, of_caller, of_callee, of_clock, TakesNext, TakesAll, Takes, Runs, caller_sent, callee_sent, to_callee, to_caller, Heard, from_caller, from_callee, second, Form, form_of, AreFrames, caller_frames, callee_frames, knows, PutsFor, PutsAll, IsJudged, IsOpen, OnlyJudgedGoes, NothingAfter}

not_both : (b : Bool) → b ≡ true → b ≡ false → ⊥
not_both b t f = search (rules, sym t ∙ f)

-- what is put behind other bytes is put by itself
alone_put : (mode : Mode) (limits : Bounds) (n k : ℕ) (m : Message) (out x b : List ℕ) → IsWrittenAs mode limits n k m b → out ++ x ≡ out ++ b → x ≡ [] ++ b
alone_put mode limits n k m out x b h e = append_cancel_left out x b e

alone : (on back : Mode) (limits : Bounds) (v : Ruling) (sent out x answers y : List ℕ) → Follows on back limits v sent out (out ++ x) answers (answers ++ y) → Follows on back limits v sent [] x [] y
alone on back limits rulings.Passes sent out x answers y h = (append_cancel_left out x sent h.0, append_cancel_left answers y [] (h.1 ∙ sym (append-nil answers)))
alone on back limits (rulings.Changes m) sent out x answers y h =
    ((h.0.0, h.0.1, append_cancel_left out x h.0.0 h.0.2), append_cancel_left answers y [] (h.1 ∙ sym (append-nil answers)))
alone on back limits (rulings.Answers m) sent out x answers y h =
    (append_cancel_left out x [] (h.0 ∙ sym (append-nil out)), (h.1.0, h.1.1, append_cancel_left answers y h.1.0 h.1.2))
alone on back limits rulings.Drops sent out x answers y h = (append_cancel_left out x [] (h.0 ∙ sym (append-nil out)), append_cancel_left answers y [] (h.1 ∙ sym (append-nil answers)))
alone on back limits (rulings.Closes breach) sent out x answers y h = absurd h

-- a filter of the same stream has the same form
same_form : (old new : Filter) → IsSameFilter old new → form_of new ≡ form_of old
same_form old new h = rw (h.stream.mode, h.stream.limits, h.stream.output, h.on, h.back, h.limits) refl

-- What a call of an open filter heard, and left of its stream: a frame's message, or nothing.
record Hears (before after : Guard) (old new : Filter) (b : List ℕ) (r : Read) : Type 0 where
  pub message : Message
  pub is_frame : IsFrameOf old.relay.frames.mode old.relay.frames.limits (b ++ r.bytes) message
  pub ruling : Ruling
  pub judged : record { ruling = ruling; state = after.state } ≡ judged_from old.comes_back before.rules.now before.state message
  pub puts : PutsFor (form_of old) ruling (b ++ r.bytes) message r.on r.answers
  pub rules : after.rules.now ≡ before.rules.now
  pub is_open : after.closed ≡ false
  pub same : IsSameFilter old new
  pub stands : StandsFor new.relay []

hears : (before after : Guard) (old new : Filter) (b : List ℕ) (r : Read) → StandsFor old.relay b → TakesNext before after old new r → Hears before after old new b r
hears before after old new b r h t =
    let front : t.guards.front ≡ r.bytes = sym (append_cancel_right r.bytes t.guards.front t.rest t.guards.whole) in
    let g = t.guards.guarded b h in
    let one = g.0 in
    let done = subst (λ (x : List ℕ). Follows old.on old.back old.limits one.ruling one.sent t.out.items x t.answers.items t.later.items) t.on one.does in
    let both = subst (λ (x : List ℕ). Follows old.on old.back old.limits one.ruling one.sent t.out.items (t.out.items ++ r.on) t.answers.items x) t.back done in
    record {
      message = one.message;
      is_frame = subst (λ (x : List ℕ). IsFrameOf old.relay.frames.mode old.relay.frames.limits (b ++ x) one.message) front one.is_frame;
      ruling = one.ruling;
      judged = one.judged;
      puts = subst (λ (x : List ℕ). PutsFor (form_of old) one.ruling (b ++ x) one.message r.on r.answers) front (one.sent, one.sent_for, alone old.on old.back old.limits one.ruling one.sent t.out.items r.on t.answers.items r.answers both);
      rules = one.rules;
      is_open = one.is_open;
      same = t.guards.same;
      stands = g.1;
    }

-- A call in which no frame ended heard nothing.
record Waits (before after : Guard) (old new : Filter) (b : List ℕ) (r : Read) : Type 0 where
  pub on : r.on ≡ []
  pub answers : r.answers ≡ []
  pub rules : after.rules.now ≡ before.rules.now
  pub state : after.state ≡ before.state
  pub is_open : after.closed ≡ before.closed
  pub same : IsSameFilter old new
  pub stands : StandsFor new.relay (b ++ r.bytes)

waits : (before after : Guard) (old new : Filter) (b : List ℕ) (r : Read) → StandsFor old.relay b → TakesAll before after old new r → Waits before after old new b r
waits before after old new b r h t =
    let g = t.guards.reads b h in
    record {
      on = append_cancel_left t.out.items r.on [] (sym t.on ∙ t.guards.goes_on ∙ sym (append-nil t.out.items));
      answers = append_cancel_left t.answers.items r.answers [] (sym t.back ∙ t.guards.goes_back ∙ sym (append-nil t.answers.items));
      rules = g.1.rules;
      state = g.1.state;
      is_open = g.1.closed;
      same = t.guards.same;
      stands = g.0;
    }

-- a filter of a closed connection puts nothing out, and the connection stays closed
nothing_taken : (before after : Guard) (old new : Filter) (r : Read) → before.closed ≡ true → Takes before after old new r → (r.on ≡ []) × (r.answers ≡ []) × (after.closed ≡ true)
nothing_taken before after old new r closed (inl t) = absurd (not_both before.closed closed t.guards.is_open)
nothing_taken before after old new r closed (inr (inl t)) = absurd (not_both before.closed closed t.guards.is_open)
nothing_taken before after old new r closed (inr (inr t)) = (t.on, t.back, t.closed)

nil_then : (a b : List ℕ) → a ≡ [] → b ≡ [] → a ++ b ≡ []
nil_then a b e f = rw (e, f) refl

pub nothing_after : NothingAfter
nothing_after old new [] closed run = (refl, refl, ap (λ (c : Connection). c.guard.closed) run ∙ closed)
nothing_after old new (of_caller r ∷ calls) closed run =
    let none = nothing_taken old.guard run.0.guard old.there run.0.there r closed run.1.0 in
    let then = nothing_after run.0 new calls none.2 run.2 in
    (nil_then r.on (to_callee calls) none.0 then.0, nil_then r.answers (to_caller calls) none.1 then.1, then.2)
nothing_after old new (of_callee r ∷ calls) closed run =
    let none = nothing_taken old.guard run.0.guard old.back run.0.back r closed run.1.0 in
    let then = nothing_after run.0 new calls none.2 run.2 in
    (nil_then r.answers (to_callee calls) none.1 then.0, nil_then r.on (to_caller calls) none.0 then.1, then.2)
nothing_after old new (of_clock ∷ calls) closed run = nothing_after run.0 new calls (run.1.0.closed ∙ closed) run.2

-- where the connection closed at once, nothing was heard
ends_here : (old new : Connection) (calls : List Call) (b d : List ℕ) → to_callee calls ≡ [] → to_caller calls ≡ [] → new.guard.closed ≡ true → IsJudged old calls new b d
ends_here old new calls b d callee caller closed = record {
  heard = [];
  caller_left = b ++ caller_sent calls;
  callee_left = d ++ callee_sent calls;
  knows = old.guard.state;
  are_frames = tt;
  of_caller = refl;
  of_callee = refl;
  puts = (callee, caller, refl);
  goes_on = λ is_open. absurd (not_both new.guard.closed closed is_open);
}

-- What follows a call, where the rest of the calls is judged of a connection that reads and writes in the same forms.
module _ (old mid new : Connection) (calls : List Call) where
  -- the rest's frames and bytes, by the forms and rules of the beginning
  frames_as : (heard : List Heard) → form_of mid.there ≡ form_of old.there → form_of mid.back ≡ form_of old.back → AreFrames (form_of mid.there) (form_of mid.back) heard → AreFrames (form_of old.there) (form_of old.back) heard
  frames_as heard there back h =
      subst (λ (f : Form). AreFrames (form_of old.there) f heard) back (subst (λ (f : Form). AreFrames f (form_of mid.back) heard) there h)

  puts_as : (heard : List Heard) (s : GuardState) (callee caller : List ℕ) (end : GuardState) → form_of mid.there ≡ form_of old.there → form_of mid.back ≡ form_of old.back → mid.guard.rules.now ≡ old.guard.rules.now → mid.guard.state ≡ s
      → PutsAll (form_of mid.there) (form_of mid.back) mid.guard.rules.now mid.guard.state heard callee caller end → PutsAll (form_of old.there) (form_of old.back) old.guard.rules.now s heard callee caller end
  puts_as heard s callee caller end there back rules state h =
      let one = subst (λ (f : Form). PutsAll f (form_of mid.back) mid.guard.rules.now mid.guard.state heard callee caller end) there h in
      let two = subst (λ (f : Form). PutsAll (form_of old.there) f mid.guard.rules.now mid.guard.state heard callee caller end) back one in
      let three = subst (λ (r : Rules). PutsAll (form_of old.there) (form_of old.back) r mid.guard.state heard callee caller end) rules two in
      subst (λ (x : GuardState). PutsAll (form_of old.there) (form_of old.back) old.guard.rules.now x heard callee caller end) state three

  -- the filter that took nothing is as it was
  kept_form : (f g : Filter) → f ≡ g → form_of f ≡ form_of g
  kept_form f g e = ap form_of e

  kept_stands : (f g : Filter) (b : List ℕ) → f ≡ g → StandsFor g.relay b → StandsFor f.relay b
  kept_stands f g b e h = subst (λ (x : Filter). StandsFor x.relay b) (sym e) h

  -- a message of the caller was heard
  caller_heard : (r : Read) (b d : List ℕ) → IsOpen old b d → mid.back ≡ old.back → Hears old.guard mid.guard old.there mid.there b r → ((x y : List ℕ) → IsOpen mid x y → IsJudged mid calls new x y)
      → IsJudged old (of_caller r ∷ calls) new b d
  caller_heard r b d h back x then =
      let there = same_form old.there mid.there x.same in
      let behind = kept_form mid.back old.back back in
      let sides : (mid.there.comes_back ≡ false) × (mid.back.comes_back ≡ true) = (x.same.comes_back ∙ h.sides.0, ap (λ (f : Filter). f.comes_back) back ∙ h.sides.1) in
      let j = then [] d (record { is_open = x.is_open; sides = sides; there = x.stands; back = kept_stands mid.back old.back d back h.back }) in
      let frame = b ++ r.bytes in
      let so = x.judged ∙ ap (λ (side : Bool). judged_from side old.guard.rules.now old.guard.state x.message) h.sides.0 in
      let ruled = ap (λ (y : Judgement). y.ruling) so in
      let known = ap (λ (y : Judgement). y.state) so in
      record {
        heard = from_caller frame x.message ∷ j.heard;
        caller_left = j.caller_left;
        callee_left = j.callee_left;
        knows = j.knows;
        are_frames = (x.is_frame, frames_as j.heard there behind j.are_frames);
        of_caller = sym (append_assoc b r.bytes (caller_sent calls)) ∙ ap (λ (y : List ℕ). frame ++ y) j.of_caller ∙ sym (append_assoc frame (caller_frames j.heard) j.caller_left);
        of_callee = j.of_callee;
        puts = (
          r.on,
          to_callee calls,
          r.answers,
          to_caller calls,
          refl,
          refl,
          subst (λ (v : Ruling). PutsFor (form_of old.there) v frame x.message r.on r.answers) ruled x.puts,
          puts_as j.heard (knows old.guard.rules.now old.guard.state (from_caller frame x.message)) (to_callee calls) (to_caller calls) j.knows there behind x.rules known j.puts,
        );
        goes_on = j.goes_on;
      }

  -- a message of the callee was
  callee_heard : (r : Read) (b d : List ℕ) → IsOpen old b d → mid.there ≡ old.there → Hears old.guard mid.guard old.back mid.back d r → ((x y : List ℕ) → IsOpen mid x y → IsJudged mid calls new x y)
      → IsJudged old (of_callee r ∷ calls) new b d
  callee_heard r b d h kept x then =
      let there = kept_form mid.there old.there kept in
      let behind = same_form old.back mid.back x.same in
      let sides : (mid.there.comes_back ≡ false) × (mid.back.comes_back ≡ true) = (ap (λ (f : Filter). f.comes_back) kept ∙ h.sides.0, x.same.comes_back ∙ h.sides.1) in
      let j = then b [] (record { is_open = x.is_open; sides = sides; there = kept_stands mid.there old.there b kept h.there; back = x.stands }) in
      let frame = d ++ r.bytes in
      let so = x.judged ∙ ap (λ (side : Bool). judged_from side old.guard.rules.now old.guard.state x.message) h.sides.1 in
      let ruled = ap (λ (y : Judgement). y.ruling) so in
      let known = ap (λ (y : Judgement). y.state) so in
      record {
        heard = from_callee frame x.message ∷ j.heard;
        caller_left = j.caller_left;
        callee_left = j.callee_left;
        knows = j.knows;
        are_frames = (x.is_frame, frames_as j.heard there behind j.are_frames);
        of_caller = j.of_caller;
        of_callee = sym (append_assoc d r.bytes (callee_sent calls)) ∙ ap (λ (y : List ℕ). frame ++ y) j.of_callee ∙ sym (append_assoc frame (callee_frames j.heard) j.callee_left);
        puts = (
          r.answers,
          to_callee calls,
          r.on,
          to_caller calls,
          refl,
          refl,
          subst (λ (v : Ruling). PutsFor (form_of old.back) v frame x.message r.on r.answers) ruled x.puts,
          puts_as j.heard (knows old.guard.rules.now old.guard.state (from_callee frame x.message)) (to_callee calls) (to_caller calls) j.knows there behind x.rules known j.puts,
        );
        goes_on = j.goes_on;
      }

  -- nothing was heard of a piece: what the rest is judged as is all
  nothing_put : (heard : List Heard) (s : GuardState) (callee caller a c : List ℕ) (end : GuardState) → a ≡ [] → c ≡ [] → PutsAll (form_of old.there) (form_of old.back) old.guard.rules.now s heard callee caller end
      → PutsAll (form_of old.there) (form_of old.back) old.guard.rules.now s heard (a ++ callee) (c ++ caller) end
  nothing_put heard s callee caller a c end e f h =
      let one = subst (λ (x : List ℕ). PutsAll (form_of old.there) (form_of old.back) old.guard.rules.now s heard (x ++ callee) caller end) (sym e) h in
      subst (λ (x : List ℕ). PutsAll (form_of old.there) (form_of old.back) old.guard.rules.now s heard (a ++ callee) (x ++ caller) end) (sym f) one

  caller_waits : (r : Read) (b d : List ℕ) → IsOpen old b d → mid.back ≡ old.back → Waits old.guard mid.guard old.there mid.there b r → ((x y : List ℕ) → IsOpen mid x y → IsJudged mid calls new x y)
      → IsJudged old (of_caller r ∷ calls) new b d
  caller_waits r b d h back x then =
      let there = same_form old.there mid.there x.same in
      let behind = kept_form mid.back old.back back in
      let sides : (mid.there.comes_back ≡ false) × (mid.back.comes_back ≡ true) = (x.same.comes_back ∙ h.sides.0, ap (λ (f : Filter). f.comes_back) back ∙ h.sides.1) in
      let j = then (b ++ r.bytes) d (record { is_open = x.is_open ∙ h.is_open; sides = sides; there = x.stands; back = kept_stands mid.back old.back d back h.back }) in
      let puts = puts_as j.heard old.guard.state (to_callee calls) (to_caller calls) j.knows there behind x.rules x.state j.puts in
      record {
        heard = j.heard;
        caller_left = j.caller_left;
        callee_left = j.callee_left;
        knows = j.knows;
        are_frames = frames_as j.heard there behind j.are_frames;
        of_caller = sym (append_assoc b r.bytes (caller_sent calls)) ∙ j.of_caller;
        of_callee = j.of_callee;
        puts = nothing_put j.heard old.guard.state (to_callee calls) (to_caller calls) r.on r.answers j.knows x.on x.answers puts;
        goes_on = j.goes_on;
      }

  callee_waits : (r : Read) (b d : List ℕ) → IsOpen old b d → mid.there ≡ old.there → Waits old.guard mid.guard old.back mid.back d r → ((x y : List ℕ) → IsOpen mid x y → IsJudged mid calls new x y)
      → IsJudged old (of_callee r ∷ calls) new b d
  callee_waits r b d h kept x then =
      let there = kept_form mid.there old.there kept in
      let behind = same_form old.back mid.back x.same in
      let sides : (mid.there.comes_back ≡ false) × (mid.back.comes_back ≡ true) = (ap (λ (f : Filter). f.comes_back) kept ∙ h.sides.0, x.same.comes_back ∙ h.sides.1) in
      let j = then b (d ++ r.bytes) (record { is_open = x.is_open ∙ h.is_open; sides = sides; there = kept_stands mid.there old.there b kept h.there; back = x.stands }) in
      let puts = puts_as j.heard old.guard.state (to_callee calls) (to_caller calls) j.knows there behind x.rules x.state j.puts in
      record {
        heard = j.heard;
        caller_left = j.caller_left;
        callee_left = j.callee_left;
        knows = j.knows;
        are_frames = frames_as j.heard there behind j.are_frames;
        of_caller = j.of_caller;
        of_callee = sym (append_assoc d r.bytes (callee_sent calls)) ∙ j.of_callee;
        puts = nothing_put j.heard old.guard.state (to_callee calls) (to_caller calls) r.answers r.on j.knows x.answers x.on puts;
        goes_on = j.goes_on;
      }

  second_passed : (b d : List ℕ) → IsOpen old b d → IsSecondLater old.guard mid.guard → mid.there ≡ old.there → mid.back ≡ old.back → ((x y : List ℕ) → IsOpen mid x y → IsJudged mid calls new x y) → IsJudged old (of_clock ∷ calls) new b d
  second_passed b d h x kept back then =
      let there = kept_form mid.there old.there kept in
      let behind = kept_form mid.back old.back back in
      let sides : (mid.there.comes_back ≡ false) × (mid.back.comes_back ≡ true) = (ap (λ (f : Filter). f.comes_back) kept ∙ h.sides.0, ap (λ (f : Filter). f.comes_back) back ∙ h.sides.1) in
      let j = then b d (record { is_open = x.closed ∙ h.is_open; sides = sides; there = kept_stands mid.there old.there b kept h.there; back = kept_stands mid.back old.back d back h.back }) in
      record {
        heard = second ∷ j.heard;
        caller_left = j.caller_left;
        callee_left = j.callee_left;
        knows = j.knows;
        are_frames = frames_as j.heard there behind j.are_frames;
        of_caller = j.of_caller;
        of_callee = j.of_callee;
        puts = (
          [],
          to_callee calls,
          [],
          to_caller calls,
          refl,
          refl,
          (refl, refl),
          puts_as j.heard (knows old.guard.rules.now old.guard.state second) (to_callee calls) (to_caller calls) j.knows there behind x.rules x.state j.puts,
        );
        goes_on = j.goes_on;
      }

  caller_taken : (r : Read) (b d : List ℕ) → IsOpen old b d → mid.back ≡ old.back → Runs mid calls new → ((x y : List ℕ) → IsOpen mid x y → IsJudged mid calls new x y) → Takes old.guard mid.guard old.there mid.there r → IsJudged old (of_caller r ∷ calls) new b d
  caller_taken r b d h back run then (inl t) = caller_heard r b d h back (hears old.guard mid.guard old.there mid.there b r h.there t) then
  caller_taken r b d h back run then (inr (inl t)) = caller_waits r b d h back (waits old.guard mid.guard old.there mid.there b r h.there t) then
  caller_taken r b d h back run then (inr (inr t)) =
      let none = nothing_after mid new calls t.closed run in
      ends_here old new (of_caller r ∷ calls) b d (nil_then r.on (to_callee calls) t.on none.0) (nil_then r.answers (to_caller calls) t.back none.1) none.2

  callee_taken : (r : Read) (b d : List ℕ) → IsOpen old b d → mid.there ≡ old.there → Runs mid calls new → ((x y : List ℕ) → IsOpen mid x y → IsJudged mid calls new x y) → Takes old.guard mid.guard old.back mid.back r → IsJudged old (of_callee r ∷ calls) new b d
  callee_taken r b d h kept run then (inl t) = callee_heard r b d h kept (hears old.guard mid.guard old.back mid.back d r h.back t) then
  callee_taken r b d h kept run then (inr (inl t)) = callee_waits r b d h kept (waits old.guard mid.guard old.back mid.back d r h.back t) then
  callee_taken r b d h kept run then (inr (inr t)) =
      let none = nothing_after mid new calls t.closed run in
      ends_here old new (of_callee r ∷ calls) b d (nil_then r.answers (to_callee calls) t.back none.0) (nil_then r.on (to_caller calls) t.on none.1) none.2

pub only_judged : OnlyJudgedGoes
only_judged old new [] b d h run = record {
  heard = [];
  caller_left = b;
  callee_left = d;
  knows = old.guard.state;
  are_frames = tt;
  of_caller = append-nil b;
  of_callee = append-nil d;
  puts = (refl, refl, refl);
  goes_on = λ is_open. subst (λ (c : Connection). StandsFor c.there.relay b × StandsFor c.back.relay d × (c.guard.state ≡ old.guard.state)) (sym run) (h.there, h.back, refl);
}
only_judged old new (of_caller r ∷ calls) b d h run = caller_taken old run.0 new calls r b d h run.1.1 run.2 (λ x y k. only_judged run.0 new calls x y k run.2) run.1.0
only_judged old new (of_callee r ∷ calls) b d h run = callee_taken old run.0 new calls r b d h run.1.1 run.2 (λ x y k. only_judged run.0 new calls x y k run.2) run.1.0
only_judged old new (of_clock ∷ calls) b d h run = second_passed old run.0 new calls b d h run.1.0 run.1.1 run.1.2 (λ x y k. only_judged run.0 new calls x y k run.2)
