-- What a vat behind tail calls and its peer say to each other, by what tail calls did.
use Rattle.std.proofs.Common.{◌≡◌, ℕ, Bool, true, false, List, [], ◌∷◌, ◌++◌, Option, Some, None, Ok, refl, sym, ap, ◌∙◌, subst, append_assoc, append-nil, true≢false}
use Rattle.cp_tables.specs.declared.exchange.Stage.{Stage}
use Rattle.cp_messages.specs.declared.call.Call.{Call}
use Rattle.cp_messages.specs.declared.message.Message.{Message}
use Rattle.cp_vat_machine.specs.Run.{Moment}
use Rattle.cp_vat_machine.specs.State.{State}
use Rattle.cp_vat_machine.specs.declared.effect.Effect.{Effect}
use Rattle.cp_vat_machine.specs.declared.effect.Effect.TheVariants as effects
use Rattle.cp_vat_machine.specs.declared.event.Event.{Event}
use Rattle.cp_vat_machine.specs.declared.event.Event.TheVariants as events
use Rattle.cp_vat_machine.specs.declared.event.Value.{Value}
use Rattle.cp_vat_machine.specs.declared.event.Value.TheVariants as values
use Rattle.cp_tail_calls.specs.declared.forwarding.ForwardedMessage.TheVariants as owed
use Rattle.cp_tail_calls.specs.declared.forwarding.Trigger.{Trigger}
use Rattle.cp_tail_calls.specs.declared.forwarding.Trigger.TheVariants as triggers
use Rattle.cp_tail_calls.specs.Tails.{Tails}
use Rattle.cp_tail_calls.specs.Receiving.{Passed, received}
use Rattle.cp_tail_calls.specs.Sending.{sent}
use Rattle.cp_tail_calls.specs.Runs.{Turn, came, went, passed, Did}
use Rattle.cp_tail_calls.specs.Serving.{Served, moment, closes, Settles, nothing_owed, has_closed, to_peer, to_vat, comes_of, gets, is_message, passed_on, sends_first, trigger_of, Goes, calls, takes, keeps}
use Rattle.cp_tail_calls.specs.Bridging.{if_any, said, got, answered, heard, in_all, message_of, messages_of, sent_of, sent_in, GoesOn, HaveDone, BridgesTurns}

-- ---- lists of messages
grown : (a b c d e : List Message) → b ≡ a ++ d → c ≡ b ++ e → c ≡ a ++ (d ++ e)
grown a b c d e f g = g ∙ ap (λ (x : List Message). x ++ e) f ∙ append_assoc a d e

as_before : (a : List Message) → a ≡ a ++ []
as_before a = sym (append-nil a)

-- ---- turns go on
goes-nowhere : (past : List Turn) → GoesOn past [] [] [] past
goes-nowhere past =
    record {
      said_more = as_before (in_all said past);
      got_more = as_before (in_all got past);
      answered_more = as_before (in_all answered past);
      heard_more = as_before (in_all heard past);
    }

-- The effects of one event are passed on: by turns in which the vat answered and the peer heard. What the peer heard may have come to the vat's closing.
record Passes (past : List Turn) (by out : List Effect) (new : List Turn) : Type 0 where
  said_same : in_all said new ≡ in_all said past
  got_same : in_all got new ≡ in_all got past
  answered_more : in_all answered new ≡ in_all answered past ++ sent_of by
  heard_more : in_all heard new ≡ in_all heard past ++ sent_of out

passes-nothing : (past : List Turn) (by out : List Effect) → sent_of by ≡ [] → sent_of out ≡ [] → Passes past by out past
passes-nothing past by out e f =
    record {
      said_same = refl;
      got_same = refl;
      answered_more = as_before (in_all answered past) ∙ ap (λ (x : List Message). in_all answered past ++ x) (sym e);
      heard_more = as_before (in_all heard past) ∙ ap (λ (x : List Message). in_all heard past ++ x) (sym f);
    }

sends-first : (on : Option Message) (rest : List Effect × Tails) → sent_of (sends_first on rest).0 ≡ if_any on ++ sent_of rest.0
sends-first None rest = refl
sends-first (Some m) rest = refl

sends-first-tails : (on : Option Message) (rest : List Effect × Tails) → (sends_first on rest).1 ≡ rest.1
sends-first-tails None rest = refl
sends-first-tails (Some m) rest = refl

module _ (trigger : Trigger) where
  passes-on : (by : List Effect) (t : Tails) (past : List Turn) → Did past t
      → (new : List Turn) × Did new (passed_on trigger t by).1 × Passes past by (passed_on trigger t by).0 new
  passes-on [] t past did = (past, did, passes-nothing past [] [] refl refl)
  passes-on (effects.Send m ∷ more) t past did =
      let turn = went trigger m (sent t trigger m).0 in
      let rest = passes-on more (sent t trigger m).1 (turn ∷ past) (t, did, refl) in
      let on = (sent t trigger m).0 in
      let later = passed_on trigger (sent t trigger m).1 more in (
        rest.0,
        subst (λ (x : Tails). Did rest.0 x) (sym (sends-first-tails on later)) rest.1,
        record {
          said_same = rest.2.said_same ∙ append-nil (in_all said past);
          got_same = rest.2.got_same ∙ append-nil (in_all got past);
          answered_more = grown (in_all answered past) (in_all answered past ++ m ∷ []) (in_all answered rest.0) (m ∷ []) (sent_of more) refl rest.2.answered_more;
          heard_more =
              grown (in_all heard past) (in_all heard past ++ if_any on) (in_all heard rest.0) (if_any on) (sent_of later.0) refl rest.2.heard_more
              ∙ ap (λ (x : List Message). in_all heard past ++ x) (sym (sends-first on later));
        },
      )
  passes-on (effects.Closed reason ∷ more) t past did = (past, did, passes-nothing past (effects.Closed reason ∷ more) (effects.Closed reason ∷ []) refl refl)
  passes-on (effects.Deliver object origin ticket call ∷ more) t past did =
      let rest = passes-on more t past did in (
        rest.0,
        rest.1,
        record { said_same = rest.2.said_same; got_same = rest.2.got_same; answered_more = rest.2.answered_more; heard_more = rest.2.heard_more },
      )
  passes-on (effects.Settled question outcome ∷ more) t past did =
      let rest = passes-on more t past did in (
        rest.0,
        rest.1,
        record { said_same = rest.2.said_same; got_same = rest.2.got_same; answered_more = rest.2.answered_more; heard_more = rest.2.heard_more },
      )

-- ---- effects that are sent before others, up to the vat's closing
joined-open : (first rest : List Effect) → closes first ≡ false → sent_of (first ++ rest) ≡ sent_of first ++ sent_of rest
joined-open [] rest e = refl
joined-open (effects.Send m ∷ first) rest e = ap (λ (x : List Message). m ∷ x) (joined-open first rest e)
joined-open (effects.Closed reason ∷ first) rest e = absurd (true≢false e)
joined-open (effects.Deliver object origin ticket call ∷ first) rest e = joined-open first rest e
joined-open (effects.Settled question outcome ∷ first) rest e = joined-open first rest e

joined : (closed : Bool) (first rest : List Effect) → closes first ≡ closed → (closed ≡ true → rest ≡ []) → sent_of (first ++ rest) ≡ sent_of first ++ sent_of rest
joined true first rest e none =
    ap (λ (x : List Effect). sent_of (first ++ x)) (none refl)
    ∙ ap (λ (x : List Effect). sent_of x) (append-nil first)
    ∙ sym (append-nil (sent_of first))
    ∙ ap (λ (x : List Effect). sent_of first ++ sent_of x) (sym (none refl))
joined false first rest e none = joined-open first rest e

closes-sends-first : (on : Option Message) (rest : List Effect × Tails) → closes (sends_first on rest).0 ≡ closes rest.0
closes-sends-first None rest = refl
closes-sends-first (Some m) rest = refl

closes-passed : (trigger : Trigger) (by : List Effect) (t : Tails) → closes (passed_on trigger t by).0 ≡ closes by
closes-passed trigger [] t = refl
closes-passed trigger (effects.Send m ∷ more) t =
    closes-sends-first (sent t trigger m).0 (passed_on trigger (sent t trigger m).1 more) ∙ closes-passed trigger more (sent t trigger m).1
closes-passed trigger (effects.Closed reason ∷ more) t = refl
closes-passed trigger (effects.Deliver object origin ticket call ∷ more) t = closes-passed trigger more t
closes-passed trigger (effects.Settled question outcome ∷ more) t = closes-passed trigger more t

some-same : (a b : Tails) → Some a ≡ Some b → a ≡ b
some-same a b e = cc

-- the turns of a vat whose tail calls these are
done-of : (s : Served) (past : List Turn) (t : Tails) → HaveDone s past → s.tails ≡ Some t → Did past t
done-of s past t done e = subst (λ (x : Tails). Did past x) (some-same done.0 t (sym done.1 ∙ e)) done.2

module _ (acts_on : Call → Bool) (stage_of : State → ℕ → Option Stage) where
  nothing-after : (closed : Bool) (old new : Served) (history : List Moment) (out : List Effect) → Settles acts_on stage_of closed old history out new → closed ≡ true → out ≡ []
  nothing-after closed old new history out has_closed e = refl
  nothing-after closed old new history out (nothing_owed x) e = refl
  nothing-after closed old new history out (to_peer m t mid is next settles all) e = absurd (true≢false (sym e))
  nothing-after closed old new history out (to_vat m t mid by vat is next step settles whole all) e = absurd (true≢false (sym e))

  -- what is owed is passed on by turns
  settles-bridge : (closed : Bool) (old new : Served) (history : List Moment) (out : List Effect) (past : List Turn) → HaveDone old past
      → Settles acts_on stage_of closed old history out new → (turns : List Turn) × HaveDone new turns × GoesOn past [] history out turns
  settles-bridge closed old new history out past done has_closed = (past, done, goes-nowhere past)
  settles-bridge closed old new history out past done (nothing_owed x) = (past, done, goes-nowhere past)
  settles-bridge closed old new history out past done (to_peer {out = more} m t mid is next settles all) =
      let turn = passed (stage_of old.vat) (owed.ToPeer m) in
      let rest = settles-bridge false (record old { tails = Some mid }) new history more (turn ∷ past) (mid, refl, (t, done-of old past t done is, next)) settles in (
        rest.0,
        rest.1,
        subst
            (λ (x : List Effect). GoesOn past [] history x rest.0)
            (sym all)
            (record {
              said_more = rest.2.said_more ∙ ap (λ (x : List Message). x ++ []) (append-nil (in_all said past));
              got_more = rest.2.got_more ∙ ap (λ (x : List Message). x ++ messages_of history) (append-nil (in_all got past));
              answered_more = rest.2.answered_more ∙ ap (λ (x : List Message). x ++ sent_in history) (append-nil (in_all answered past));
              heard_more = grown (in_all heard past) (in_all heard past ++ m ∷ []) (in_all heard rest.0) (m ∷ []) (sent_of more) refl rest.2.heard_more;
            }),
      )
  settles-bridge closed old new history out past done (to_vat {history = later} {out = more} m t mid by vat is next step settles whole all) =
      let turn = passed (stage_of old.vat) (owed.ToVat m) in
      let first = passes-on triggers.Message by mid (turn ∷ past) (t, done-of old past t done is, next) in
      let after : Served = record { vat = vat; tails = (comes_of triggers.Message (Some mid) by).1 } in
      let rest = settles-bridge (closes by) after new later more first.0 ((passed_on triggers.Message mid by).1, refl, first.1) settles in
      let heard_all = joined (closes by) (passed_on triggers.Message mid by).0 more (closes-passed triggers.Message by mid) (nothing-after (closes by) after new later more settles) in (
        rest.0,
        rest.1,
        subst
            (λ (h : List Moment). GoesOn past [] h out rest.0)
            (sym whole)
            (subst
            (λ (x : List Effect). GoesOn past [] (moment (events.Receive m) (Ok values.Nothing) by ∷ later) x rest.0)
            (sym all)
            (record {
              said_more = rest.2.said_more ∙ ap (λ (x : List Message). x ++ []) (first.2.said_same ∙ append-nil (in_all said past));
              got_more = grown (in_all got past) (in_all got first.0) (in_all got rest.0) (m ∷ []) (messages_of later) first.2.got_same rest.2.got_more;
              answered_more =
                  grown
                  (in_all answered past)
                  (in_all answered first.0)
                  (in_all answered rest.0)
                  (sent_of by)
                  (sent_in later)
                  (first.2.answered_more ∙ ap (λ (x : List Message). x ++ sent_of by) (append-nil (in_all answered past)))
                  rest.2.answered_more;
              heard_more =
                  grown
                  (in_all heard past)
                  (in_all heard first.0)
                  (in_all heard rest.0)
                  (sent_of (passed_on triggers.Message mid by).0)
                  (sent_of more)
                  (first.2.heard_more ∙ ap (λ (x : List Message). x ++ sent_of (passed_on triggers.Message mid by).0) (append-nil (in_all heard past)))
                  rest.2.heard_more
                  ∙ ap (λ (x : List Message). in_all heard past ++ x) (sym heard_all);
            })),
      )

  -- one event of the vat, and what is owed after it
  record Bridges (old new : Served) (event : Event) (value : Value) (history : List Moment) (out : List Effect) (past turns : List Turn) (h : Goes acts_on stage_of old event value history out new) : Type 0 where
    said_same : in_all said turns ≡ in_all said past
    got_later : in_all got turns ≡ in_all got past ++ messages_of h.later
    answered_more : in_all answered turns ≡ in_all answered past ++ sent_in history
    heard_more : in_all heard turns ≡ in_all heard past ++ sent_of out

  goes-bridge : (old new : Served) (event : Event) (value : Value) (history : List Moment) (out : List Effect) (past : List Turn) → HaveDone old past
      → (h : Goes acts_on stage_of old event value history out new) → (turns : List Turn) × HaveDone new turns × Bridges old new event value history out past turns h
  goes-bridge old new event value history out past done h =
      let trigger = trigger_of event in
      let t = done.0 in
      let first = passes-on trigger h.by t past done.2 in
      let comes = ap (λ (x : Option Tails). comes_of trigger x h.by) done.1 in
      let out_first : (comes_of trigger old.tails h.by).0 ≡ (passed_on trigger t h.by).0 = ap (λ (x : List Effect × Option Tails). x.0) comes in
      let left : (comes_of trigger old.tails h.by).1 ≡ Some (passed_on trigger t h.by).1 = ap (λ (x : List Effect × Option Tails). x.1) comes in
      let after : Served = record { vat = h.vat; tails = (comes_of trigger old.tails h.by).1 } in
      let rest = settles-bridge (closes h.by) after new h.later h.rest first.0 ((passed_on trigger t h.by).1, left, first.1) h.settles in
      let heard_all = joined (closes h.by) (passed_on trigger t h.by).0 h.rest (closes-passed trigger h.by t) (nothing-after (closes h.by) after new h.later h.rest h.settles) in
      let same_out : out ≡ (passed_on trigger t h.by).0 ++ h.rest = h.all ∙ ap (λ (x : List Effect). x ++ h.rest) out_first in (
        rest.0,
        rest.1,
        record {
          said_same = rest.2.said_more ∙ append-nil (in_all said first.0) ∙ first.2.said_same;
          got_later = rest.2.got_more ∙ ap (λ (x : List Message). x ++ messages_of h.later) first.2.got_same;
          answered_more =
              grown (in_all answered past) (in_all answered first.0) (in_all answered rest.0) (sent_of h.by) (sent_in h.later) first.2.answered_more rest.2.answered_more
              ∙ ap (λ (x : List Moment). in_all answered past ++ sent_in x) (sym h.whole);
          heard_more =
              grown (in_all heard past) (in_all heard first.0) (in_all heard rest.0) (sent_of (passed_on trigger t h.by).0) (sent_of h.rest) first.2.heard_more rest.2.heard_more
              ∙ ap (λ (x : List Message). in_all heard past ++ x) (sym heard_all)
              ∙ ap (λ (x : List Effect). in_all heard past ++ sent_of x) (sym same_out);
        },
      )

no-message : (event : Event) → is_message event ≡ false → message_of event ≡ []
no-message (events.Receive m) e = absurd (true≢false e)
no-message other e = refl

pub bridges_turns : BridgesTurns
bridges_turns acts_on stage_of old new event value history out past done (calls event_ call h) =
    let it = goes-bridge acts_on stage_of old new event value history out past done h in
    let none = no-message event call in (
      it.0,
      it.1,
      record {
        said_more = it.2.said_same ∙ as_before (in_all said past) ∙ ap (λ (x : List Message). in_all said past ++ x) (sym none);
        got_more =
            it.2.got_later
            ∙ ap (λ (x : List Message). in_all got past ++ (x ++ messages_of h.later)) (sym none)
            ∙ ap (λ (x : List Moment). in_all got past ++ messages_of x) (sym h.whole);
        answered_more = it.2.answered_more;
        heard_more = it.2.heard_more;
      },
    )
bridges_turns acts_on stage_of old new event value history out past done (takes m on mid comes h) =
    let t = done.0 in
    let turn = came acts_on (stage_of old.vat) m (Some on) in
    let gotten = sym (ap (λ (x : Option Tails). gets acts_on stage_of old.vat x m) done.1) ∙ comes in
    let new_t = (received acts_on (stage_of old.vat) t m).1 in
    let is_on : (received acts_on (stage_of old.vat) t m).0 ≡ Some on = ap (λ (x : Option Message × Option Tails). x.0) gotten in
    let is_mid : mid ≡ Some new_t = sym (ap (λ (x : Option Message × Option Tails). x.1) gotten) in
    let did : Did (turn ∷ past) new_t = (t, done.2, ap {B = Passed} (λ (x : Option Message). (x, new_t)) is_on) in
    let it = goes-bridge acts_on stage_of (record old { tails = mid }) new (events.Receive on) values.Nothing history out (turn ∷ past) (new_t, is_mid, did) h in (
      it.0,
      it.1,
      record {
        said_more = it.2.said_same;
        got_more =
            it.2.got_later
            ∙ append_assoc (in_all got past) (on ∷ []) (messages_of h.later)
            ∙ ap (λ (x : List Moment). in_all got past ++ messages_of x) (sym h.whole);
        answered_more = it.2.answered_more ∙ ap (λ (x : List Message). x ++ sent_in history) (append-nil (in_all answered past));
        heard_more = it.2.heard_more ∙ ap (λ (x : List Message). x ++ sent_of out) (append-nil (in_all heard past));
      },
    )
bridges_turns acts_on stage_of old new event value history out past done (keeps m mid open_ comes settles) =
    let t = done.0 in
    let turn = came acts_on (stage_of old.vat) m None in
    let gotten = sym (ap (λ (x : Option Tails). gets acts_on stage_of old.vat x m) done.1) ∙ comes in
    let new_t = (received acts_on (stage_of old.vat) t m).1 in
    let is_none : (received acts_on (stage_of old.vat) t m).0 ≡ None = ap (λ (x : Option Message × Option Tails). x.0) gotten in
    let is_mid : mid ≡ Some new_t = sym (ap (λ (x : Option Message × Option Tails). x.1) gotten) in
    let did : Did (turn ∷ past) new_t = (t, done.2, ap {B = Passed} (λ (x : Option Message). (x, new_t)) is_none) in
    let it = settles-bridge acts_on stage_of false (record old { tails = mid }) new history out (turn ∷ past) (new_t, is_mid, did) settles in (
      it.0,
      it.1,
      record {
        said_more = it.2.said_more ∙ append-nil (in_all said past ++ m ∷ []);
        got_more = it.2.got_more ∙ ap (λ (x : List Message). x ++ messages_of history) (append-nil (in_all got past));
        answered_more = it.2.answered_more ∙ ap (λ (x : List Message). x ++ sent_in history) (append-nil (in_all answered past));
        heard_more = it.2.heard_more ∙ ap (λ (x : List Message). x ++ sent_of out) (append-nil (in_all heard past));
      },
    )
