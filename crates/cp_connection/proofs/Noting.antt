-- Effects are noted one after another.
use Rattle.std.proofs.Common.{◌≡◌, ℕ, ◌+◌, ◌-◌, ◌^◌, ◌||◌, min, Bool, true, false, Option, Some, None, List, [], ◌∷◌, ◌++◌, length, refl, sym, ap, ◌∙◌, subst, true≢false, append-nil, append_assoc, length-append, take, arith}
use Rattle.std.proofs.Math.Seq.{take-append_seam}
use Rattle.cp_frame.specs.declared.mode.Mode.{Mode}
use Rattle.cp_messages.specs.declared.message.Message.{Message}
use Rattle.cp_vat_machine.specs.declared.effect.Effect.{Effect}
use Rattle.cp_vat_machine.specs.declared.effect.Effect.TheVariants as effects
use Rattle.cp_tail_calls.specs.Bridging.{sent_of}
use Rattle.cp_tail_calls.specs.Sending.{sent}
use Rattle.cp_tail_calls.specs.Serving.{closes, comes_of, passed_on, sends_first, with_tails}
use Rattle.cp_tail_calls.specs.Tails.{Tails}
use Rattle.cp_tail_calls.specs.declared.forwarding.Trigger.{Trigger}
use Rattle.cp_connection.specs.declared.agenda.Agenda.{Agenda}
use Rattle.cp_connection.specs.declared.agenda.Mark.{Mark}
use Rattle.cp_connection.specs.declared.event.ConnectionEvent.{ConnectionEvent}
use Rattle.cp_connection.specs.declared.event.ConnectionEvent.TheVariants as happenings
use Rattle.cp_connection.specs.Effects.{happening_by, AreFramesOf}
use Rattle.cp_connection.specs.Noting.{Notes, Grows, Stays, Marks, GoesBack}

pub frames_both : (mode : Mode) (a b : List Message) (x y : List ℕ) → AreFramesOf mode a x → AreFramesOf mode b y → AreFramesOf mode (a ++ b) (x ++ y)
frames_both mode [] b x y h k = subst (λ (z : List ℕ). AreFramesOf mode b (z ++ y)) (sym h) k
frames_both mode (m ∷ a) b x y h k = (h.0, h.1 ++ y, ap (λ (z : List ℕ). z ++ y) h.2 ∙ append_assoc h.0 h.1 y, h.3, frames_both mode a b h.1 y h.4 k)

-- ---- effects that don't close the vat, and those after them

-- effects by which the vat closes are among these, or among those
pub closes_both : (a b : List Effect) → closes (a ++ b) ≡ (closes a || closes b)
closes_both [] b = refl
closes_both (effects.Send m ∷ a) b = closes_both a b
closes_both (effects.Deliver object origin ticket call ∷ a) b = closes_both a b
closes_both (effects.Settled question outcome ∷ a) b = closes_both a b
closes_both (effects.Closed reason ∷ a) b = refl

pub closes_later : (a b : List Effect) → closes a ≡ false → closes (a ++ b) ≡ closes b
closes_later a b h = closes_both a b ∙ ap (λ (x : Bool). x || closes b) h

pub sent_both : (a b : List Effect) → closes a ≡ false → sent_of (a ++ b) ≡ sent_of a ++ sent_of b
sent_both [] b h = refl
sent_both (effects.Send m ∷ a) b h = ap (λ (x : List Message). m ∷ x) (sent_both a b h)
sent_both (effects.Deliver object origin ticket call ∷ a) b h = sent_both a b h
sent_both (effects.Settled question outcome ∷ a) b h = sent_both a b h
sent_both (effects.Closed reason ∷ a) b h = absurd (true≢false h)

pub happening_both : (a b : List Effect) → closes a ≡ false → happening_by (a ++ b) ≡ happening_by a ++ happening_by b
happening_both [] b h = refl
happening_both (effects.Send m ∷ a) b h = happening_both a b h
happening_both (effects.Deliver object origin ticket call ∷ a) b h = ap (λ (x : List ConnectionEvent). happenings.Delivered object origin ticket call ∷ x) (happening_both a b h)
happening_both (effects.Settled question outcome ∷ a) b h = ap (λ (x : List ConnectionEvent). happenings.Settled question outcome ∷ x) (happening_both a b h)
happening_both (effects.Closed reason ∷ a) b h = absurd (true≢false h)

-- ---- one after another

counts_sum : (a b c i j k : ℕ) → ((n : ℕ) → a ≡ min n (2 ^ 64 - 1) → b ≡ min (n + i) (2 ^ 64 - 1)) → ((n : ℕ) → b ≡ min n (2 ^ 64 - 1) → c ≡ min (n + j) (2 ^ 64 - 1)) → k ≡ i + j
    → (n : ℕ) → a ≡ min n (2 ^ 64 - 1) → c ≡ min (n + k) (2 ^ 64 - 1)
counts_sum a b c i j k h g e n is = omega (arith, e, g (n + i) (h n is))

pub notes_both : (a b c : Agenda) (first more : List Effect) → closes first ≡ false → Notes a first b → Notes b more c → Notes a (first ++ more) c
notes_both a b c first more still h k = record {
  bytes = h.bytes ++ k.bytes;
  frames =
      subst (λ (ms : List Message). AreFramesOf a.mode ms (h.bytes ++ k.bytes)) (sym (sent_both first more still))
      (frames_both a.mode (sent_of first) (sent_of more) h.bytes k.bytes h.frames (subst (λ (m : Mode). AreFramesOf m (sent_of more) k.bytes) h.same_mode k.frames));
  goes_out = k.goes_out ∙ ap (λ (x : List ℕ). x ++ k.bytes) h.goes_out ∙ append_assoc a.outgoing h.bytes k.bytes;
  happens =
      k.happens ∙ ap (λ (x : List ConnectionEvent). x ++ happening_by more) h.happens ∙ append_assoc a.happened.items (happening_by first) (happening_by more)
      ∙ ap (λ (x : List ConnectionEvent). a.happened.items ++ x) (sym (happening_both first more still));
  counts =
      counts_sum a.sent b.sent c.sent (length (sent_of first)) (length (sent_of more)) (length (sent_of (first ++ more))) h.counts k.counts
      (ap length (sent_both first more still) ∙ length-append (sent_of first) (sent_of more));
  same_mode = k.same_mode ∙ h.same_mode;
}

-- ---- what comes of effects by tail calls

-- The vat closes by what comes of effects if it does by these.
pub closes_comes : (trigger : Trigger) (t : Option Tails) (by : List Effect) → closes (comes_of trigger t by).0 ≡ closes by
closes_comes trigger None by = refl
closes_comes trigger (Some t) by = passes t by
  where
    first : (on : Option Message) (rest : List Effect × Tails) → closes (sends_first on rest).0 ≡ closes rest.0
    first None rest = refl
    first (Some m) rest = refl

    passes : (t : Tails) (by : List Effect) → closes (passed_on trigger t by).0 ≡ closes by
    passes t [] = refl
    passes t (effects.Send m ∷ more) = first (sent t trigger m).0 (passed_on trigger (sent t trigger m).1 more) ∙ passes (sent t trigger m).1 more
    passes t (effects.Deliver object origin ticket call ∷ more) = passes t more
    passes t (effects.Settled question outcome ∷ more) = passes t more
    passes t (effects.Closed reason ∷ more) = refl

-- an effect that doesn't close the vat, and those after it
abbrev pub ComesNext : Trigger → Option Tails → Effect → List Effect → Type 0
ComesNext trigger t e more =
    ((comes_of trigger t (e ∷ more)).0 ≡ (comes_of trigger t (e ∷ [])).0 ++ (comes_of trigger (comes_of trigger t (e ∷ [])).1 more).0)
    × ((comes_of trigger t (e ∷ more)).1 ≡ (comes_of trigger (comes_of trigger t (e ∷ [])).1 more).1)

pub comes_next : (trigger : Trigger) (t : Option Tails) (e : Effect) (more : List Effect) → closes (e ∷ []) ≡ false → ComesNext trigger t e more
comes_next trigger None e more still = (refl, refl)
comes_next trigger (Some t) (effects.Send m) more still = by (sent t trigger m).0 (sent t trigger m).1
  where
    by : (on : Option Message) (u : Tails)
        → ((with_tails (sends_first on (passed_on trigger u more))).0
        ≡ (with_tails (sends_first on ([], u))).0 ++ (comes_of trigger (with_tails (sends_first on ([], u))).1 more).0)
        × ((with_tails (sends_first on (passed_on trigger u more))).1 ≡ (comes_of trigger (with_tails (sends_first on ([], u))).1 more).1)
    by None u = (refl, refl)
    by (Some on) u = (refl, refl)
comes_next trigger (Some t) (effects.Deliver object origin ticket call) more still = (refl, refl)
comes_next trigger (Some t) (effects.Settled question outcome) more still = (refl, refl)
comes_next trigger (Some t) (effects.Closed reason) more still = absurd (true≢false still)

-- the first effect was noted, and then the others
pub notes_more : (a b new : Agenda) (trigger : Trigger) (t u : Option Tails) (e : Effect) (more : List Effect) → closes (e ∷ []) ≡ false → Notes a (comes_of trigger t (e ∷ [])).0 b
    → u ≡ (comes_of trigger t (e ∷ [])).1 → Notes b (comes_of trigger u more).0 new → Notes a (comes_of trigger t (e ∷ more)).0 new
notes_more a b new trigger t u e more still h is k =
    subst (λ (es : List Effect). Notes a es new) (sym (comes_next trigger t e more still).0)
    (notes_both a b new (comes_of trigger t (e ∷ [])).0 (comes_of trigger (comes_of trigger t (e ∷ [])).1 more).0 (closes_comes trigger t (e ∷ []) ∙ still) h
    (subst (λ (x : Option Tails). Notes b (comes_of trigger x more).0 new) is k))

pub tails_more : (trigger : Trigger) (t u : Option Tails) (e : Effect) (more : List Effect) → closes (e ∷ []) ≡ false → u ≡ (comes_of trigger t (e ∷ [])).1
    → (comes_of trigger u more).1 ≡ (comes_of trigger t (e ∷ more)).1
tails_more trigger t u e more still is = ap (λ (x : Option Tails). (comes_of trigger x more).1) is ∙ sym (comes_next trigger t e more still).1

-- nothing after one that closes it counts
pub closes_last : (e : Effect) (more : List Effect) → closes (e ∷ []) ≡ true → closes (e ∷ more) ≡ true
closes_last (effects.Send m) more h = absurd (true≢false (sym h))
closes_last (effects.Deliver object origin ticket call) more h = absurd (true≢false (sym h))
closes_last (effects.Settled question outcome) more h = absurd (true≢false (sym h))
closes_last (effects.Closed reason) more h = refl

pub tails_last : (trigger : Trigger) (t : Option Tails) (e : Effect) (more : List Effect) → closes (e ∷ []) ≡ true
    → (comes_of trigger t (e ∷ more)).1 ≡ (comes_of trigger t (e ∷ [])).1
tails_last trigger t (effects.Send m) more h = absurd (true≢false (sym h))
tails_last trigger t (effects.Deliver object origin ticket call) more h = absurd (true≢false (sym h))
tails_last trigger t (effects.Settled question outcome) more h = absurd (true≢false (sym h))
tails_last trigger None (effects.Closed reason) more h = refl
tails_last trigger (Some t) (effects.Closed reason) more h = refl

pub notes_last : (a b : Agenda) (trigger : Trigger) (t : Option Tails) (e : Effect) (more : List Effect) → closes (e ∷ []) ≡ true
    → Notes a (comes_of trigger t (e ∷ [])).0 b → Notes a (comes_of trigger t (e ∷ more)).0 b
notes_last a b trigger t (effects.Send m) more h n = absurd (true≢false (sym h))
notes_last a b trigger t (effects.Deliver object origin ticket call) more h n = absurd (true≢false (sym h))
notes_last a b trigger t (effects.Settled question outcome) more h n = absurd (true≢false (sym h))
notes_last a b trigger (Some t) (effects.Closed reason) more h n = n
notes_last a b trigger None (effects.Closed reason) more h n = record {
  bytes = n.bytes;
  frames = n.frames;
  goes_out = n.goes_out;
  happens = n.happens;
  counts = n.counts;
  same_mode = n.same_mode;
}

pub notes_none : (a : Agenda) → Notes a [] a
notes_none a = record {
  bytes = [];
  frames = refl;
  goes_out = sym (append-nil a.outgoing);
  happens = sym (append-nil a.happened.items);
  counts = λ n is. omega (arith, is);
  same_mode = refl;
}

-- ---- what was noted before memory ran out

-- nothing comes of no effects
pub notes_end : (a : Agenda) (trigger : Trigger) (t : Option Tails) (by : List Effect) → by ≡ [] → Notes a (comes_of trigger t by).0 a
notes_end a trigger t by none = subst (λ (es : List Effect). Notes a (comes_of trigger t es).0 a) (sym none) (at t)
  where
    at : (t : Option Tails) → Notes a (comes_of trigger t []).0 a
    at None = notes_none a
    at (Some u) = notes_none a

pub grows_none : (a b : Agenda) → b.mode ≡ a.mode → b.outgoing ≡ a.outgoing → b.happened.items ≡ a.happened.items → Grows a b
grows_none a b m o h = record {
  bytes = [];
  goes_out = o ∙ sym (append-nil a.outgoing);
  more = [];
  happens = h ∙ sym (append-nil a.happened.items);
  same_mode = m;
}

pub grows_by : (a b : Agenda) (es : List Effect) → Notes a es b → Grows a b
grows_by a b es h = record { bytes = h.bytes; goes_out = h.goes_out; more = happening_by es; happens = h.happens; same_mode = h.same_mode }

pub grows_both : (a b c : Agenda) → Grows a b → Grows b c → Grows a c
grows_both a b c h k = record {
  bytes = h.bytes ++ k.bytes;
  goes_out = k.goes_out ∙ ap (λ (x : List ℕ). x ++ k.bytes) h.goes_out ∙ append_assoc a.outgoing h.bytes k.bytes;
  more = h.more ++ k.more;
  happens = k.happens ∙ ap (λ (x : List ConnectionEvent). x ++ k.more) h.happens ∙ append_assoc a.happened.items h.more k.more;
  same_mode = k.same_mode ∙ h.same_mode;
}

-- the first of a longer list, as long as the old one was
pub cut_back : {X : Type 0} (old new more : List X) (n : ℕ) → n ≡ length old → new ≡ old ++ more → take n new ≡ old
cut_back old new more n e h = ap (λ (k : ℕ). take k new) e ∙ ap (λ l. take (length old) l) h ∙ take-append_seam old more

-- what was noted after a mark is taken back
pub stays_back : (a b c : Agenda) (mark : Mark) → Marks a mark → Grows a b → GoesBack b mark c → Stays a c
stays_back a b c mark m g back = record {
  same_mode = back.same_mode ∙ g.same_mode;
  same_bytes = back.bytes ∙ cut_back a.outgoing b.outgoing g.bytes mark.unwritten m.bytes g.goes_out;
  same_happenings = back.events ∙ cut_back a.happened.items b.happened.items g.more mark.happened m.events g.happens;
  same_count = back.count ∙ m.count;
}
