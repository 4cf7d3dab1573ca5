-- What a vat does when a Return comes. (rpc.capnp: "Return".)
use Rattle.std.specs.Prelude.{◌≡◌, ℕ, not, false, Bool, if◌then◌else◌, [], ◌∷◌, Option, Some, None, Result, Ok, Err}
use Rattle.std.specs.FinMap.{get}
use Rattle.cp_tables.specs.declared.exchange.Exchange.{Exchange}
use Rattle.cp_tables.specs.declared.exchange.Stage.{Stage}
use Rattle.cp_tables.specs.declared.exchange.Stage.TheVariants as stages
use Rattle.cp_messages.specs.declared.returned.Return.{Return}
use Rattle.cp_messages.specs.declared.returned.Returned.{Returned}
use Rattle.cp_messages.specs.declared.returned.Returned.TheVariants as returns
use Rattle.cp_refs.specs.declared.outcome.Outcome.{Outcome}
use Rattle.cp_refs.specs.declared.outcome.Outcome.TheVariants as outcomes
use Rattle.cp_vat_machine.specs.State.{State, with_exports}
use Rattle.cp_vat_machine.specs.Then.{Done, Then, fault_if, Unless, after}
use Rattle.cp_vat_machine.specs.Receiving.{ReceivesCaps, release_exports}
use Rattle.cp_vat_machine.specs.Give.{GiveAnswer, GiveOwn, without_question}
use Rattle.cp_vat_machine.specs.Go.{finish_of}
use Rattle.cp_vat_machine.specs.declared.entry.QuestionEntry.{QuestionEntry}
use Rattle.cp_vat_machine.specs.declared.fault.PeerFault.{PeerFault}
use Rattle.cp_vat_machine.specs.declared.fault.PeerFault.TheVariants as faults

-- what was returned is taken in as an outcome
abbrev pub ReceivesReturned : State → Returned → Result (Outcome × State) PeerFault → Type 0
ReceivesReturned old (returns.Results p) out = Then (ReceivesCaps old p.cap_table) (λ taken out. out ≡ Ok (outcomes.Results p.content taken.0, taken.1)) out
ReceivesReturned old (returns.Exception x) out = out ≡ Ok (outcomes.Failed x, old)
ReceivesReturned old returns.Canceled out = out ≡ Ok (outcomes.Canceled, old)
ReceivesReturned old other out = ⊥

-- The Return of an own question settles it. That of a question which forwards a call of the peer's finishes it, and answers that call.
abbrev pub Settles : State → ℕ → Option ℕ → Outcome → Result Done PeerFault → Type 0
Settles old q None outcome out = GiveOwn old q outcome out
Settles old q (Some a) outcome out =
    Then (GiveAnswer (without_question old q) a outcome) (λ done out. out ≡ Ok (after (finish_of q false ∷ []) done)) out

-- A Return is taken in, unless the application finished the question: then it only ends, and what the Return names isn't looked at.
abbrev pub ReturnBy : State → Return → QuestionEntry → Stage → Result Done PeerFault → Type 0
ReturnBy old r kept stages.Open out = Then (ReceivesReturned old r.returned) (λ taken. Settles taken.1 r.answer_id kept.forwards taken.0) out
ReturnBy old r kept stages.Finished out = out ≡ Ok ([], without_question old r.answer_id)
ReturnBy old r kept stages.Returned out = ⊥

-- a question that waits for its Return
abbrev pub is_asked : Bool → Stage → Bool
is_asked is_sent stages.Returned = false
is_asked is_sent other = is_sent

-- First the exports that the params named are lowered, if the peer asks for it.
abbrev pub ReturnOf : State → Return → Option (Exchange QuestionEntry) → Result Done PeerFault → Type 0
ReturnOf old r None out = out ≡ Err faults.UnknownQuestion
ReturnOf old r (Some entry) out =
    Unless
    (fault_if (not (is_asked entry.kept.is_sent entry.stage)) faults.UnknownQuestion)
    (Then
    (λ exports. exports ≡ (if r.release_param_caps then release_exports old.counts.exports entry.kept.mentions else Ok old.counts.exports))
    (λ exports. ReturnBy (with_exports old exports) r entry.kept entry.stage))
    out

abbrev pub OnReturn : State → Return → Result Done PeerFault → Type 0
OnReturn old r out = ReturnOf old r (get old.entries.questions r.answer_id) out
