-- What the application does at the other end, with the waiting calls that leave then, keeps each lane.
use Rattle.std.specs.Prelude.{refl, ℕ, List, ◌++◌, Ok}
use Rattle.cp_messages.specs.declared.message.Message.{Message}
use Rattle.cp_vat_machine.specs.State.{State}
use Rattle.cp_vat_machine.specs.Go.{Leave}
use Rattle.cp_vat_machine.specs.Then.{Done}
use Rattle.cp_vat_machine.specs.Calling.{OwnDone}
use Rattle.cp_vat_machine.specs.Step.{Does}
use Rattle.cp_vat_machine.specs.Local.{Local}
use Rattle.cp_vat_machine.specs.declared.effect.Effect.{Effect}
use Rattle.cp_vat_machine.specs.declared.event.Event.{Event}
use Rattle.cp_vat_laws.proofs.within.Between.{local_is_within}
use Rattle.cp_vat_pair_laws.specs.VatPair.{End, with_mail, messages_sent}
use Rattle.cp_vat_pair_laws.specs.Accounts.{accounts_of}
use Rattle.cp_vat_pair_laws.specs.Lives.{Agree}
use Rattle.cp_vat_pair_laws.specs.Orderly.{IsOrderly}
use Rattle.cp_vat_pair_laws.specs.Places.{NoneFinished}
use Rattle.cp_vat_pair_laws.specs.Lane.{Reference, Delivery, IsStill}
use Rattle.cp_vat_pair_laws.specs.Phases.{LaneHolds}
use Rattle.cp_vat_pair_laws.proofs.still.Go.{leave_grows}
use Rattle.cp_vat_pair_laws.proofs.lane.parts.Midway.{Midway, does_midway}
use Rattle.cp_vat_pair_laws.proofs.lane.other.Chain.{IsThere, chain_kept, chain_known}
use Rattle.cp_vat_pair_laws.proofs.lane.other.Turn.{same_mail}
use Rattle.cp_vat_pair_laws.proofs.lane.other.Leave.{none_is_left, leave_kept}
use Rattle.cp_vat_pair_laws.proofs.lane.other.Does.{does_chain}
use Rattle.cp_vat_pair_laws.proofs.lane.other.CallComes.{HeardKept}

-- The application's own part, and what leaves then.
pub did_there : (here : End) (s last : State) (inbox : List Message) (event : Event) (done : OwnDone) (rest : List Effect) → Local here.vat → NoneFinished here.vat → Local s
    → NoneFinished s → IsOrderly s → Agree (accounts_of s) inbox (accounts_of here.vat) here.inbox → IsThere here s last inbox → IsStill event → Does s event (Ok done)
    → Leave done.2 rest (Ok last) → (ref : Reference) (made : List ℕ) (delivered : List Delivery) → LaneHolds here (record { vat = s; inbox = inbox }) ref made delivered
    → LaneHolds (with_mail here (messages_sent (done.1 ++ rest))) (record { vat = last; inbox = inbox }) ref made delivered
did_there here s last inbox event done rest here_local here_none local_ none orderly agree known still does leave ref made delivered lane =
    let start : Midway s inbox here = record { within = local_is_within s local_; unfinished = none; orderly = orderly; agreed = agree } in
    let chain = does_chain s local_ none (none_is_left start here_none) event done still does in
    let mid = does_midway s inbox here event done local_ none orderly agree still does in
    let later = (leave_grows done.2 last rest mid.within leave).places in
    rw
    (← same_mail here done.1 rest (done.1 ++ rest) refl)
    (leave_kept (with_mail here (messages_sent done.1)) inbox here_local here_none mid (chain_known here last inbox chain later known) leave ref made delivered
    (chain_kept here last inbox chain later known ref made delivered lane))

-- A message that was taken, and what leaves then.
pub heard_there : (here : End) (s last : State) (inbox left : List Message) (done : Done) (rest : List Effect) → Local here.vat → NoneFinished here.vat
    → Midway done.1 left (with_mail here (messages_sent done.0)) → HeardKept here s inbox done left last → Leave done.1 rest (Ok last)
    → (ref : Reference) (made : List ℕ) (delivered : List Delivery) → LaneHolds here (record { vat = s; inbox = inbox }) ref made delivered
    → LaneHolds (with_mail here (messages_sent (done.0 ++ rest))) (record { vat = last; inbox = left }) ref made delivered
heard_there here s last inbox left done rest here_local here_none mid heard leave ref made delivered lane =
    rw
    (← same_mail here done.0 rest (done.0 ++ rest) refl)
    (leave_kept (with_mail here (messages_sent done.0)) left here_local here_none mid heard.1 leave ref made delivered (heard.0 ref made delivered lane))
