-- Tail calls go on by turns, one event after another.
use Rattle.std.proofs.Common.{◌≡◌, ◌≢◌, false, true≢false, List, [], ◌∷◌, ◌++◌, Result, Ok, Err, refl, sym, ap, ◌∙◌, subst, append-nil, append_assoc}
use Rattle.cp_messages.specs.declared.message.Message.{Message}
use Rattle.cp_vat_machine.specs.Asked.{stage_of}
use Rattle.cp_vat_machine.specs.Run.{Moment}
use Rattle.cp_vat_machine.specs.Supported.{is_supported_to_caller}
use Rattle.cp_vat_machine.specs.declared.effect.Effect.{Effect}
use Rattle.cp_vat_machine.specs.declared.event.Event.{Event}
use Rattle.cp_vat_machine.specs.declared.event.Event.TheVariants as events
use Rattle.cp_vat_machine.specs.declared.event.Value.{Value}
use Rattle.cp_vat_machine.specs.declared.fault.VatFault.{VatFault}
use Rattle.cp_tail_calls.specs.Bridging.{HaveDone, answered, got, heard, in_all, message_of, messages_of, said, sent_in, sent_of}
use Rattle.cp_tail_calls.specs.Runs.{Turn}
use Rattle.cp_tail_calls.specs.Serving.{Served, Serves, refuses, is_message}
use Rattle.cp_tail_calls.proofs.Bridging.{bridges_turns}
use Rattle.cp_connection.specs.Turns.{NoneLost, Tells, TellTurns}

-- ---- nothing is said

tells_nothing : (past : List Turn) → Tells past [] [] [] past
tells_nothing past = record {
  said_more = sym (append-nil (in_all said past));
  got_more = sym (append-nil (in_all got past));
  answered_more = sym (append-nil (in_all answered past));
  heard_more = sym (append-nil (in_all heard past));
}

pub tells_none : (old new : Served) (past : List Turn) → new.tails ≡ old.tails → HaveDone old past → TellTurns past [] [] [] new
tells_none old new past same done = (past, (done.0, same ∙ done.1, done.2), tells_nothing past)

-- ---- one after another

both : (a b c x y : List Message) → b ≡ a ++ x → c ≡ b ++ y → c ≡ a ++ (x ++ y)
both a b c x y h k = k ∙ ap (λ (z : List Message). z ++ y) h ∙ append_assoc a x y

module _ (messages_all : (a b : List Moment) → messages_of (a ++ b) ≡ messages_of a ++ messages_of b) (sent_all : (a b : List Moment) → sent_in (a ++ b) ≡ sent_in a ++ sent_in b) where
  pub tells_both : (past mid turns : List Turn) (came more : List Message) (a b : List Moment) (went further : List Message) → Tells past came a went mid → Tells mid more b further turns
      → Tells past (came ++ more) (a ++ b) (went ++ further) turns
  tells_both past mid turns came more a b went further h k = record {
    said_more = both (in_all said past) (in_all said mid) (in_all said turns) came more h.said_more k.said_more;
    got_more =
        both (in_all got past) (in_all got mid) (in_all got turns) (messages_of a) (messages_of b) h.got_more k.got_more
        ∙ ap (λ (z : List Message). in_all got past ++ z) (sym (messages_all a b));
    answered_more =
        both (in_all answered past) (in_all answered mid) (in_all answered turns) (sent_in a) (sent_in b) h.answered_more k.answered_more
        ∙ ap (λ (z : List Message). in_all answered past ++ z) (sym (sent_all a b));
    heard_more = both (in_all heard past) (in_all heard mid) (in_all heard turns) went further h.heard_more k.heard_more;
  }

pub kept_first : (a b : List Moment) → NoneLost (a ++ b) → NoneLost a
kept_first [] b h = tt
kept_first (m ∷ a) b h = (h.0, kept_first a b h.1)

pub kept_later : (a b : List Moment) → NoneLost (a ++ b) → NoneLost b
kept_later [] b h = h
kept_later (m ∷ a) b h = kept_later a b h.1

-- ---- one event

no_message : (event : Event) → is_message event ≡ false → message_of event ≡ []
no_message (events.Receive m) h = absurd (true≢false h)
no_message events.Bootstrap h = refl
no_message (events.Call cap request) h = refl
no_message (events.Answer origin outcome) h = refl
no_message events.Promise h = refl
no_message (events.Resolve p cap) h = refl
no_message (events.Finish q) h = refl
no_message (events.Release i) h = refl
no_message (events.Forget p) h = refl
no_message events.Idle h = refl

pub tells_event : {old new : Served} {event : Event} (result : Result Value VatFault) {history : List Moment} {out : List Effect}
    → Serves is_supported_to_caller stage_of old event result history out new → (past : List Turn) → HaveDone old past → NoneLost history
    → TellTurns past (message_of event) history (sent_of out) new
tells_event {old = old} {new = new} {event = event} (Ok value) {history = history} {out = out} serves past done kept =
    let goes = bridges_turns is_supported_to_caller stage_of old new event value history out past done serves in
    (goes.0, goes.1, record { said_more = goes.2.said_more; got_more = goes.2.got_more; answered_more = goes.2.answered_more; heard_more = goes.2.heard_more })
tells_event {old = old} {new = new} (Err fault) (refuses event step same) past done kept =
    let none : message_of event ≡ [] = no_message event kept.0.0 in
    let still : new ≡ old = same kept.0.1 in (
      past,
      subst (λ (s : Served). HaveDone s past) (sym still) done,
      record {
        said_more = sym (append-nil (in_all said past)) ∙ ap (λ (z : List Message). in_all said past ++ z) (sym none);
        got_more = sym (append-nil (in_all got past)) ∙ ap (λ (z : List Message). in_all got past ++ z) (sym (ap (λ (z : List Message). z ++ []) none));
        answered_more = sym (append-nil (in_all answered past));
        heard_more = sym (append-nil (in_all heard past));
      },
    )
