-- What a vat sends when the application calls it, and what it keeps then.
use Rattle.std.proofs.Common.{◌≡◌, ℕ, not, ◌&&◌, cond, Bool, true, false, is_none, List, [], ◌∷◌, ◌++◌, Option, Some, None, IfSome, Ok, Err, refl, inl, inr}
use Rattle.std.specs.List.{list_any}
use Rattle.std.proofs.lemmas.List.{length-map}
use Rattle.std.specs.FinMap.{get, insert, remove}
use Rattle.cp_tables.specs.Counted.{count_of}
use Rattle.cp_tables.specs.declared.exchange.Exchange.{Exchange}
use Rattle.cp_tables.specs.declared.exchange.Stage.{Stage}
use Rattle.cp_tables.specs.declared.exchange.Stage.TheVariants as stages
use Rattle.cp_tables.proofs.TableLemmas.{every-insert, every-remove}
use Rattle.cp_messages.proofs.Nones.{none-left, none-right}
use Rattle.cp_messages.specs.declared.promised_answer.Op.TheVariants as ops
use Rattle.cp_refs.specs.Values.{ValueMaps}
use Rattle.cp_refs.specs.declared.cap.Cap.{Cap}
use Rattle.cp_refs.specs.declared.cap.Cap.TheVariants as caps
use Rattle.cp_refs.specs.declared.call.Origin.{Origin}
use Rattle.cp_refs.specs.declared.call.Request.{Request}
use Rattle.cp_refs.specs.declared.outcome.Outcome.{Outcome}
use Rattle.cp_refs.specs.declared.route.Gate.TheVariants as gates
use Rattle.cp_refs.specs.declared.route.Route.TheVariants as routes
use Rattle.cp_refs.specs.declared.values.QuestionState.{QuestionState}
use Rattle.cp_refs.specs.declared.values.QuestionKind.{QuestionKind}
use Rattle.cp_refs.specs.declared.values.QuestionKind.TheVariants as kinds
use Rattle.cp_vat_machine.specs.State.{State}
use Rattle.cp_vat_machine.specs.Then.{Done, fault_if}
use Rattle.cp_vat_machine.specs.Capacity.{has_capacity, has_ticket, Fresh, cap_fits, outcome_fits, request_fits}
use Rattle.cp_vat_machine.specs.Give.{Give, Settle}
use Rattle.cp_vat_machine.specs.Go.{PendingCall, finish_of}
use Rattle.cp_vat_machine.specs.InUse.{is_import_used, is_promise_used, is_question_used, is_own_question, is_unsettled, has_question, has_promise, has_import, is_local_path, is_pipelined, caps_of}
use Rattle.cp_vat_machine.specs.Calling.{Standing, plain, on_wire, came_to, import_reference, path_reference, question_reference, reference_of, called, own_call, mark_of, with_mark, has_mark_capacity, marked, old_target, FirstEmbargoed, GoBack, GoByValue, GoFrom, OwnDone, not_all, call_refusals, DoCall}
use Rattle.cp_vat_machine.specs.Doing.{DoAnswer, DoRelease, DoForget, awaits, answer_refusals, resolve_refusals, value_refusals, Resolves, Finishes, FinishBy, told_if, without_import, without_promise}
use Rattle.cp_vat_machine.specs.Resolving.{release_of}
use Rattle.cp_vat_machine.specs.Step.{Does}
use Rattle.cp_vat_machine.specs.declared.entry.QuestionEntry.{QuestionEntry}
use Rattle.cp_vat_machine.specs.declared.event.Event.{Event}
use Rattle.cp_vat_machine.specs.declared.event.Event.TheVariants as events
use Rattle.cp_vat_machine.specs.declared.event.Value.TheVariants as values
use Rattle.cp_vat_machine.specs.declared.fault.PeerFault.TheVariants as faults
use Rattle.cp_vat_machine.specs.declared.fault.VatFault.{VatFault}
use Rattle.cp_vat_machine.specs.declared.fault.VatFault.TheVariants as refusals
use Rattle.cp_vat_laws.specs.Sizes.{CapFits, Fits, OutcomeFits, RequestFits, ValuesFit}
use Rattle.cp_vat_laws.proofs.writable.Apart.{ok_in, ok_out, then_out, unless_out, or_full_out}
use Rattle.cp_vat_laws.proofs.writable.Caps.{at_fits, both}
use Rattle.cp_vat_laws.proofs.writable.Keeping.{AreSent, Good, TargetSaid, give_fits, go_fits, goes_fit, promise_put, question_gone, settle_fits}

-- what the application's call did
abbrev pub Own : OwnDone → Type 0
Own done = AreSent done.1 × Fits done.2

pub not_held : {F : Type 0} (b : Bool) (fault : F) → fault_if (not b) fault ≡ [] → b ≡ true
not_held true fault is = refl
not_held false fault is = absurd (cc)

module _ (s : State) (f : Fits s) where
  question_put : (q : ℕ) (kind : QuestionKind) → ValuesFit (record s.values { questions = insert s.values.questions q (record { kind = kind; outcome = None }) })
  question_put q kind =
      record {
        promises = f.values_fit.promises;
        imports = f.values_fit.imports;
        answers = f.values_fit.answers;
        questions = every-insert (λ question. IfSome question.outcome OutcomeFits) s.values.questions q _ f.values_fit.questions tt;
      }

  called_fits : (q : ℕ) (kind : QuestionKind) → Fits (called s q kind)
  called_fits q kind = record { values_fit = question_put q kind; exports_fit = f.exports_fit; calls_fit = f.calls_fit; over_fits = f.over_fits; embargoes_fit = f.embargoes_fit }

  mark_fits : (cap : Cap) (embargo : Option ℕ) → Fits (with_mark s cap embargo)
  mark_fits (caps.Import i) embargo = f
  mark_fits (caps.Pipelined q path) embargo = f
  mark_fits caps.None embargo = f
  mark_fits (caps.Object k) embargo = f
  mark_fits (caps.Promise p) embargo = f
  mark_fits (caps.Broken x) embargo = f

  marked_fits : (mid : State) (cap : Cap) (o : Option (Option ℕ)) → Ok mid ≡ marked s cap o → Fits mid
  marked_fits mid cap (Some embargo) is = rw (ok_in _ _ is) f
  marked_fits mid cap None is = by (has_mark_capacity s cap) is
    where
      by : (b : Bool) → Ok mid ≡ cond b (Ok (with_mark s cap None)) (Err faults.TableFull) → Fits mid
      by true e = rw (ok_in _ _ e) (mark_fits cap None)
      by false e = ok_out e

target_denoted : (cap : Cap) → CapFits cap → TargetSaid (old_target cap)
target_denoted (caps.Import i) h = tt
target_denoted (caps.Pipelined q path) h = rw (length-map path (λ field. ops.GetPointerField field)) h
target_denoted caps.None h = tt
target_denoted (caps.Object k) h = tt
target_denoted (caps.Promise p) h = tt
target_denoted (caps.Broken x) h = tt

module _ (s : State) (f : Fits s) (call : PendingCall) (request : RequestFits call.request) (cap : Cap) (c : CapFits cap) where
  embargoed_fits : (value : Cap) (done : Done) → CapFits value → FirstEmbargoed s call cap value (Ok done) → Good done
  embargoed_fits value done v does =
      let parts = then_out {A = ℕ} {B = Done} (Fresh s.marks.embargoes) _ done does in
      let there : State = record s { marks = record s.marks { embargoes = insert s.marks.embargoes parts.0 value } } in
      let kept : Fits there = record { values_fit = f.values_fit; exports_fit = f.exports_fit; calls_fit = f.calls_fit; over_fits = f.over_fits; embargoes_fit = every-insert CapFits s.marks.embargoes parts.0 value f.embargoes_fit v } in
      let marked = mark_fits there kept cap (Some parts.0) in
      rw (ok_in _ _ parts.2) (
        (target_denoted cap c, tt),
        record { values_fit = marked.values_fit; exports_fit = marked.exports_fit; calls_fit = every-insert (λ call. RequestFits call.request) _ call.ticket _ marked.calls_fit request; over_fits = marked.over_fits; embargoes_fit = marked.embargoes_fit },
      )

  back_fits : (value : Cap) (o : Option (Option ℕ)) (done : Done) → CapFits value → GoBack s call cap value o (Ok done) → Good done
  back_fits value None done v does = goes_fit s f call value done request v does
  back_fits value (Some None) done v does = embargoed_fits value done v does
  back_fits value (Some (Some n)) done v does = go_fits s f call (routes.Wait (gates.Embargo n)) done request tt does

-- what a reference came to
abbrev ReferenceFits : Standing → Type 0
ReferenceFits plain = Unit {0}
ReferenceFits on_wire = Unit {0}
ReferenceFits (came_to value) = CapFits value

import_fits : (o : Option (Option Cap)) → IfSome o (λ value. IfSome value CapFits) → ReferenceFits (import_reference o)
import_fits None h = tt
import_fits (Some None) h = tt
import_fits (Some (Some value)) h = h

path_fits : (path : List ℕ) (kind : QuestionKind) (o : Option Outcome) → IfSome o OutcomeFits → ReferenceFits (path_reference path kind o)
path_fits path kinds.Wire None h = tt
path_fits path kinds.Local None h = tt
path_fits path kinds.Wire (Some outcome) h = at_fits outcome path h
path_fits path kinds.Local (Some outcome) h = at_fits outcome path h

question_fits : (path : List ℕ) (o : Option QuestionState) → IfSome o (λ question. IfSome question.outcome OutcomeFits) → ReferenceFits (question_reference path o)
question_fits path None h = tt
question_fits path (Some question) h = path_fits path question.kind question.outcome h

reference_fits : (v : ValueMaps) → ValuesFit v → (cap : Cap) → ReferenceFits (reference_of v cap)
reference_fits v fits caps.None = tt
reference_fits v fits (caps.Object k) = tt
reference_fits v fits (caps.Promise p) = tt
reference_fits v fits (caps.Import i) = import_fits (get v.imports i) (fits.imports i)
reference_fits v fits (caps.Pipelined q path) = question_fits path (get v.questions q) (fits.questions q)
reference_fits v fits (caps.Broken x) = tt

module _ (s : State) (f : Fits s) where
  module _ (q : ℕ) (request : Request) (r : RequestFits request) (cap : Cap) (c : CapFits cap) where
    value_goes : (value : Cap) (done : Done) → CapFits value → GoByValue s q request cap value (Ok done) → Good done
    value_goes (caps.Import j) done v does = go_fits (called s q kinds.Wire) (called_fits s f q kinds.Wire) (own_call s q request) (routes.Import j) done r tt does
    value_goes (caps.Object k) done v does =
        back_fits (called s q kinds.Local) (called_fits s f q kinds.Local) (own_call s q request) r cap c (caps.Object k) (mark_of s cap) done v does
    value_goes (caps.Promise p) done v does =
        back_fits (called s q kinds.Local) (called_fits s f q kinds.Local) (own_call s q request) r cap c (caps.Promise p) (mark_of s cap) done v does
    value_goes caps.None done v does = goes_fit (called s q kinds.Local) (called_fits s f q kinds.Local) (own_call s q request) caps.None done r v does
    value_goes (caps.Pipelined p path) done v does = goes_fit (called s q kinds.Local) (called_fits s f q kinds.Local) (own_call s q request) (caps.Pipelined p path) done r v does
    value_goes (caps.Broken x) done v does = goes_fit (called s q kinds.Local) (called_fits s f q kinds.Local) (own_call s q request) (caps.Broken x) done r v does

    from_goes : (reference : Standing) (done : Done) → ReferenceFits reference → GoFrom s q request cap reference (Ok done) → Good done
    from_goes plain done h does = goes_fit (called s q kinds.Local) (called_fits s f q kinds.Local) (own_call s q request) cap done r c does
    from_goes on_wire done h does =
        let parts = then_out {A = State} {B = Done} (λ mid. mid ≡ marked (called s q kinds.Wire) cap (mark_of s cap)) _ done does in
        goes_fit parts.0 (marked_fits (called s q kinds.Wire) (called_fits s f q kinds.Wire) parts.0 cap (mark_of s cap) parts.1) (own_call s q request) cap done r c parts.2
    from_goes (came_to value) done h does = value_goes value done h does

  call_does : (cap : Cap) (request : Request) (done : OwnDone) → DoCall s cap request (Ok done) → Own done
  call_does cap request done does =
      let rule = unless_out {A = OwnDone} {F = VatFault} (call_refusals s cap request) _ done does in
      let opens = or_full_out _ _ rule.1 in
      let first = then_out {A = ℕ} {B = OwnDone} (Fresh s.entries.questions) _ done opens in
      let goes = then_out {A = Done} {B = OwnDone} (GoFrom s first.0 request cap (reference_of s.values cap)) _ done first.2 in
      let one = fault_if (not_all (has_question s) (cap ∷ request.caps)) refusals.UnknownQuestion ++ fault_if (not_all (has_promise s) (cap ∷ request.caps)) refusals.UnknownPromise ++ fault_if (list_any (is_local_path s) request.caps) refusals.Unsettled in
      let sizes = fault_if (not (cap_fits cap && request_fits request)) refusals.TooLarge in
      let full = fault_if (not (has_capacity s.entries.questions && has_ticket s)) refusals.Full in
      let held = none-right one sizes (none-left (one ++ sizes) full (none-left (one ++ sizes ++ full) (fault_if (not_all (has_import s) (cap ∷ request.caps)) refusals.UnknownImport) rule.0)) in
      let fits = both (cap_fits cap) (request_fits request) (not_held _ refusals.TooLarge held) in
      rw (ok_in _ _ goes.2) (from_goes first.0 request fits.1 cap fits.0 (reference_of s.values cap) goes.0 (reference_fits s.values f.values_fit cap) goes.1)

  answer_does : (origin : Origin) (outcome : Outcome) (done : OwnDone) → DoAnswer s origin outcome (Ok done) → Own done
  answer_does origin outcome done does =
      let rule = unless_out {A = OwnDone} {F = VatFault} (answer_refusals s origin outcome) _ done does in
      let parts = then_out {A = Done} {B = OwnDone} (Give s origin outcome) _ done (or_full_out _ _ rule.1) in
      let one = fault_if (not (awaits s origin && not (not_all (has_question s) (caps_of outcome)))) refusals.UnknownQuestion ++ fault_if (not_all (has_promise s) (caps_of outcome)) refusals.UnknownPromise ++ fault_if (list_any is_pipelined (caps_of outcome)) refusals.Unsettled in
      let sizes = fault_if (not (outcome_fits outcome)) refusals.TooLarge in
      let held = none-right one sizes (none-left (one ++ sizes) (fault_if (not_all (has_import s) (caps_of outcome)) refusals.UnknownImport) rule.0) in
      rw (ok_in _ _ parts.2) (give_fits s f origin outcome parts.0 (not_held _ refusals.TooLarge held) parts.1)

  resolves_does : (p : ℕ) (cap : Cap) (done : OwnDone) → Resolves s p cap (Ok done) → Own done
  resolves_does p cap done (inl h) = ok_out h.1
  resolves_does p cap done (inr h) =
      let rule = unless_out {A = OwnDone} {F = VatFault} (value_refusals s cap) _ done h.1 in
      let parts = then_out {A = Done} {B = OwnDone} (Settle s p cap) _ done (or_full_out _ _ rule.1) in
      let one = fault_if (is_pipelined cap) refusals.Unsettled in
      let sizes = fault_if (not (cap_fits cap)) refusals.TooLarge in
      let held = none-right one sizes (none-left (one ++ sizes) (fault_if (not (has_import s cap)) refusals.UnknownImport) rule.0) in
      rw (ok_in _ _ parts.2) (settle_fits s f p cap parts.0 (not_held _ refusals.TooLarge held) parts.1)

  told_sent : (b : Bool) (q : ℕ) (release : Bool) → AreSent (told_if b (finish_of q release))
  told_sent true q release = (tt, tt)
  told_sent false q release = tt

  finish_by : (q : ℕ) (kept : QuestionEntry) (stage : Stage) (done : OwnDone) → FinishBy s q kept stage (Ok done) → Own done
  finish_by q kept stages.Open done does = rw (ok_in _ _ does) (told_sent kept.is_sent q true, f)
  finish_by q kept stages.Returned done does =
      rw (ok_in _ _ does) (told_sent kept.is_sent q false, record { values_fit = question_gone s f q; exports_fit = f.exports_fit; calls_fit = f.calls_fit; over_fits = f.over_fits; embargoes_fit = f.embargoes_fit })
  finish_by q kept stages.Finished done does = absurd does

  finishes_does : (q : ℕ) (o : Option (Exchange QuestionEntry)) (done : OwnDone) → Finishes s q o (Ok done) → Own done
  finishes_does q None done does = absurd does
  finishes_does q (Some entry) done does = finish_by q entry.kept entry.stage done does

  release_does : (i : ℕ) (done : OwnDone) → DoRelease s i (Ok done) → Own done
  release_does i done does =
      let is = unless_out {A = OwnDone} {F = VatFault}
      (fault_if (is_import_used s i) refusals.InUse ++ fault_if (is_none (get s.counts.imports i)) refusals.UnknownImport)
      (λ out. out ≡ Ok (values.Nothing, release_of i (count_of s.counts.imports i) ∷ [], without_import s i)) done does in
      let gone : ValuesFit (record s.values { imports = remove s.values.imports i }) =
      record { promises = f.values_fit.promises; imports = every-remove (λ value. IfSome value CapFits) s.values.imports i f.values_fit.imports; answers = f.values_fit.answers; questions = f.values_fit.questions } in
      rw (ok_in _ _ is.1) ((tt, tt), record { values_fit = gone; exports_fit = f.exports_fit; calls_fit = f.calls_fit; over_fits = f.over_fits; embargoes_fit = f.embargoes_fit })

  forget_does : (p : ℕ) (done : OwnDone) → DoForget s p (Ok done) → Own done
  forget_does p done does =
      let is = unless_out {A = OwnDone} {F = VatFault} (fault_if (is_none (get s.values.promises p)) refusals.UnknownPromise
      ++ fault_if (is_unsettled (get s.values.promises p)) refusals.Unsettled
      ++ fault_if (is_promise_used s p) refusals.InUse) (λ out. out ≡ Ok (values.Nothing, [], without_promise s p)) done does in
      let gone : ValuesFit (record s.values { promises = remove s.values.promises p }) =
      record { promises = every-remove (λ value. IfSome value CapFits) s.values.promises p f.values_fit.promises; imports = f.values_fit.imports; answers = f.values_fit.answers; questions = f.values_fit.questions } in
      rw (ok_in _ _ is.1) (tt, record { values_fit = gone; exports_fit = f.exports_fit; calls_fit = f.calls_fit; over_fits = f.over_fits; embargoes_fit = f.embargoes_fit })

  pub does_fits : (event : Event) (done : OwnDone) → Does s event (Ok done) → Own done
  does_fits (events.Receive m) done does = absurd does
  does_fits events.Bootstrap done does =
      let parts = then_out {A = ℕ} {B = OwnDone} (Fresh s.entries.questions) _ done (or_full_out _ _ does) in
      rw (ok_in _ _ parts.2) ((tt, tt), record { values_fit = question_put s f parts.0 kinds.Wire; exports_fit = f.exports_fit; calls_fit = f.calls_fit; over_fits = f.over_fits; embargoes_fit = f.embargoes_fit })
  does_fits (events.Call cap request) done does = call_does cap request done does
  does_fits (events.Answer origin outcome) done does = answer_does origin outcome done does
  does_fits events.Promise done does =
      let parts = then_out {A = ℕ} {B = OwnDone} (Fresh s.values.promises) _ done (or_full_out _ _ does) in
      rw (ok_in _ _ parts.2) (tt, record { values_fit = promise_put s f parts.0 None tt; exports_fit = f.exports_fit; calls_fit = f.calls_fit; over_fits = f.over_fits; embargoes_fit = f.embargoes_fit })
  does_fits (events.Resolve p cap) done does = resolves_does p cap done (unless_out {A = OwnDone} {F = VatFault} (resolve_refusals s p cap) (Resolves s p cap) done does).1
  does_fits (events.Finish q) done does =
      finishes_does q (get s.entries.questions q) done
      (unless_out {A = OwnDone} {F = VatFault} (fault_if (not (is_own_question s q)) refusals.UnknownQuestion ++ fault_if (is_question_used s q) refusals.InUse)
      (Finishes s q (get s.entries.questions q)) done does).1
  does_fits (events.Release i) done does = release_does i done does
  does_fits (events.Forget p) done does = forget_does p done does
  does_fits events.Idle done does = rw (ok_in _ _ does) (tt, f)
