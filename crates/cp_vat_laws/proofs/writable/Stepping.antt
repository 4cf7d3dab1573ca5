-- Each message that a vat ever sends can be written.
use Rattle.std.proofs.Common.{◌≡◌, ℕ, true, true≢false, List, [], ◌∷◌, Option, Result, refl, sym, ◌∙◌}
use Rattle.cp_vat_machine.specs.State.{State, new_state}
use Rattle.cp_vat_machine.specs.Run.{Moment, Steps}
use Rattle.cp_vat_machine.specs.Step.{Follows, all_left, found_full, Step, was_closed, ran_out, refused, did, received, faulted, aborts}
use Rattle.cp_vat_machine.specs.Supported.{is_supported}
use Rattle.cp_vat_machine.specs.declared.effect.Effect.{Effect}
use Rattle.cp_vat_machine.specs.declared.event.Event.{Event}
use Rattle.cp_vat_machine.specs.declared.event.Value.{Value}
use Rattle.cp_vat_machine.specs.declared.fault.PeerFault.{PeerFault}
use Rattle.cp_vat_machine.specs.declared.fault.PeerFault.TheVariants as faults
use Rattle.cp_vat_machine.specs.declared.fault.VatFault.{VatFault}
use Rattle.cp_vat_laws.specs.Sizes.{AllWritable, CapFits, Fits, FitsOpen, OutcomeFits, RequestFits, StepsWrite, RunsWrite}
use Rattle.cp_vat_laws.proofs.writable.Keeping.{AreSent, all_empty, leave_fits, none_fits, sent_both}
use Rattle.cp_vat_laws.proofs.writable.Hearing.{receives_fits}
use Rattle.cp_vat_laws.proofs.writable.Doing.{does_fits}
use Rattle.cp_vat_laws.proofs.writable.Writing.{are_written}
use Rattle.std.proofs.Common.{IfSome}

not_open : (s : State) → s.is_closed ≡ true → FitsOpen s
not_open s closed still = absurd (true≢false (sym closed ∙ still))

aborts_sent : (fault : PeerFault) → AreSent (aborts fault)
aborts_sent faults.QuestionInUse = (refl, (tt, tt))
aborts_sent faults.UnknownQuestion = (refl, (tt, tt))
aborts_sent faults.UnknownAnswer = (refl, (tt, tt))
aborts_sent faults.UnknownExport = (refl, (tt, tt))
aborts_sent faults.ReleaseTooLarge = (refl, (tt, tt))
aborts_sent faults.NotAnOpenPromise = (refl, (tt, tt))
aborts_sent faults.DisembargoTarget = (refl, (tt, tt))
aborts_sent faults.UnknownEmbargo = (refl, (tt, tt))
aborts_sent faults.PayloadTooLarge = (refl, (tt, tt))
aborts_sent faults.TableFull = (refl, (tt, tt))
aborts_sent faults.EchoTooLarge = (refl, (tt, tt))
aborts_sent faults.PeerLacksLevelOne = (refl, (tt, tt))

follows_fits : (mid new : State) (rest : List Effect) → Fits mid → Follows mid rest new → AreSent rest × FitsOpen new
follows_fits mid new rest f (all_left leave) = let went = leave_fits f leave in (went.0, λ still. went.1)
follows_fits mid new rest f (found_full {rest = first} {fault = fault} leave all closed) =
    (rw all (sent_both first (aborts fault) (leave_fits f leave).0 (aborts_sent fault)), not_open new closed)

step_sends : (old new : State) (event : Event) (result : Result Value VatFault) (all : List Effect) → FitsOpen old → Step old event result all new → AreSent all × FitsOpen new
step_sends old new event result all f (was_closed at closed) = (tt, f)
step_sends old new event result all f (ran_out at was closed) = (tt, not_open new closed)
step_sends old new event result all f (refused at was does) = (tt, f)
step_sends old new event result all f (did {value = value} at first rest mid was does follows same) =
    let done = does_fits old (f was) at (value, first, mid) does in
    let more = follows_fits mid new rest done.1 follows in
    (rw same (sent_both first rest done.0 more.0), more.1)
step_sends old new event result all f (received m first rest mid was does follows same) =
    let done = receives_fits old (f was) (is_supported m) m (first, mid) does in
    let more = follows_fits mid new rest done.1 follows in
    (rw same (sent_both first rest done.0 more.0), more.1)
step_sends old new event result all f (faulted {fault = fault} m was does closed) = (aborts_sent fault, not_open new closed)

pub steps_write : StepsWrite
steps_write old new event result all f step = let sends = step_sends old new event result all f step in (are_written all sends.0, sends.1)

-- a new vat keeps nothing
pub new_fits : (bootstrap : Option ℕ) → Fits (new_state bootstrap)
new_fits bootstrap =
    record {
      values_fit =
          record {
            promises = all_empty (λ value. IfSome value CapFits);
            imports = all_empty (λ value. IfSome value CapFits);
            answers = all_empty (λ outcome. IfSome outcome OutcomeFits);
            questions = all_empty (λ question. IfSome question.outcome OutcomeFits);
          };
      exports_fit = all_empty (λ entry. CapFits entry.kept);
      calls_fit = all_empty (λ call. RequestFits call.request);
      over_fits = none_fits;
      embargoes_fit = all_empty CapFits;
    }

run_writes : (history : List Moment) (old last : State) → FitsOpen old → Steps old history last → AllWritable history
run_writes [] old last f steps = tt
run_writes (moment ∷ more) old last f steps =
    let here = steps_write old steps.0 moment.event moment.result moment.effects f steps.1 in
    (here.0, run_writes more steps.0 last here.1 steps.2)

pub runs_write : RunsWrite
runs_write bootstrap history last steps = run_writes history (new_state bootstrap) last (λ still. new_fits bootstrap) steps
