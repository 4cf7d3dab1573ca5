-- What a vat does when a Release, a Resolve, a Disembargo, an Unimplemented or an Abort comes, and so when any message does, found by computing.
use Rattle.std.specs.Prelude.{◌≡◌, refl, ℕ, not, Bool, true, false, if◌then◌else◌, List, [], ◌∷◌, Option, Some, None, Ok, Err}
use Rattle.std.proofs.Common.{sym, ap, ◌∙◌}
use Rattle.std.specs.Ordering.{nat_cmp}
use Rattle.std.specs.FinMap.{get, retain_keys}
use Rattle.std.specs.FinMap.Entries.{where_key}
use Rattle.std.specs.Cmp.Lexicographic.{slice_cmp}
use Rattle.cp_tables.specs.declared.counted.Counted.{Counted}
use Rattle.cp_messages.specs.Written.{message_written}
use Rattle.cp_messages.specs.declared.small.Release.{Release}
use Rattle.cp_messages.specs.declared.resolve.Resolution.{Resolution}
use Rattle.cp_messages.specs.declared.resolve.Resolution.TheVariants as resolutions
use Rattle.cp_messages.specs.declared.resolve.Resolve.{Resolve}
use Rattle.cp_messages.specs.declared.target.Target.{Target}
use Rattle.cp_messages.specs.declared.target.Target.TheVariants as targets
use Rattle.cp_messages.specs.declared.disembargo.DisembargoContext.{DisembargoContext}
use Rattle.cp_messages.specs.declared.disembargo.DisembargoContext.TheVariants as contexts
use Rattle.cp_messages.specs.declared.message.Message.{Message}
use Rattle.cp_messages.specs.declared.message.Message.TheVariants as messages
use Rattle.cp_refs.specs.At.{cap_at}
use Rattle.cp_refs.specs.declared.cap.Cap.{Cap}
use Rattle.cp_refs.specs.declared.cap.Cap.TheVariants as caps
use Rattle.cp_refs.specs.declared.outcome.Outcome.{Outcome}
use Rattle.cp_vat_machine.specs.Then.{fault_if}
use Rattle.cp_vat_machine.specs.Capacity.{message_fits}
use Rattle.cp_vat_machine.specs.Supported.{is_supported}
use Rattle.cp_vat_machine.specs.Receiving.{path_of}
use Rattle.cp_vat_machine.specs.Resolving.{OnRelease, given_back, releases_of, is_open_promise, TakeResolution, ResolveOf, OnResolve, echo_to, Echoes, EchoesExport, EchoesAnswer, EchoesTarget, is_under, embargo_ended, ended_by, OnDisembargo, told, UnknownToPeer}
use Rattle.cp_vat_machine.specs.Step.{On, echo_fits, ReceivesIf, Receives}
use Rattle.cp_vat_machine.specs.declared.effect.Effect.TheVariants as effects
use Rattle.cp_vat_machine.specs.declared.effect.Reason.TheVariants as reasons
use Rattle.cp_vat_machine.specs.declared.entry.ImportKind.{ImportKind}
use Rattle.cp_vat_machine.specs.declared.fault.PeerFault.TheVariants as faults
use Rattle.test_vat.proofs.Known.{Known, state, tabled, pathed, at, at_path, get_is, get_path_is, without, remove_is, retain_is, retain_path_is}
use Rattle.test_vat.proofs.Found.{Finds, lacks, found, beside, moved, decide, unless, follow}
use Rattle.test_vat.proofs.Finding.{ending}
use Rattle.test_vat.proofs.Taking.{known_answer, answer_is, find_taken, find_lowered, find_released}
use Rattle.test_vat.proofs.Receiving.{known_target_faults, target_faults_are, find_bootstrapped, find_called, find_finished, find_return}

abbrev pub find_release : (k : Known) (r : Release) → Finds beside (OnRelease (state k) r)
find_release k r = follow _ (find_released k.exports r.id r.reference_count) (λ exports. found (Ok ([], record k { exports = exports })) refl)

-- what an import came to
abbrev pub find_resolution_taken : (k : Known) (r : Resolution) → Finds beside (TakeResolution (state k) r)
find_resolution_taken k (resolutions.Cap d) = find_taken k d
find_resolution_taken k (resolutions.Exception x) = found (Ok (caps.Broken x, k)) refl
find_resolution_taken k (resolutions.Unknown n) = lacks

abbrev pub find_resolve_of : (k : Known) (r : Resolve) (o : Option (Counted ImportKind)) → Finds beside (ResolveOf (state k) r o)
find_resolve_of k r None = found (Ok (releases_of (given_back r.resolution), k)) refl
find_resolve_of k r (Some entry) =
    unless
    _
    (fault_if (not (is_open_promise entry.kept (at k.import_values r.promise_id))) faults.NotAnOpenPromise)
    (λ i. fault_if (not (is_open_promise entry.kept (get_is k.import_values r.promise_id i))) faults.NotAnOpenPromise)
    (follow
    _
    (find_resolution_taken k r.resolution)
    (λ taken. found (Ok ([], record taken.1 { import_values = (r.promise_id, Some taken.0) ∷ taken.1.import_values })) refl))

abbrev pub find_resolve : (k : Known) (r : Resolve) → Finds beside (OnResolve (state k) r)
find_resolve k r = moved (ResolveOf (state k) r) (get_is k.imports r.promise_id) (find_resolve_of k r (at k.imports r.promise_id))

-- the echo of a Disembargo
abbrev pub find_echo_to : (k : Known) (n : ℕ) (c : Cap) → Finds beside (λ out. out ≡ echo_to (state k) n c)
find_echo_to k n (caps.Import i) =
    found (Ok (effects.Send (messages.Disembargo (record { context = contexts.ReceiverLoopback n; target = targets.ImportedCap i })) ∷ [], k)) refl
find_echo_to k n caps.None = found (Err faults.DisembargoTarget) refl
find_echo_to k n (caps.Object o) = found (Err faults.DisembargoTarget) refl
find_echo_to k n (caps.Promise p) = found (Err faults.DisembargoTarget) refl
find_echo_to k n (caps.Pipelined q path) = found (Err faults.DisembargoTarget) refl
find_echo_to k n (caps.Broken x) = found (Err faults.DisembargoTarget) refl

abbrev pub find_echo : (k : Known) (n : ℕ) (c : Cap) → Finds beside (Echoes (state k) n c)
find_echo k n c = ending k c (λ last out. out ≡ echo_to (state k) n last) (find_echo_to k n)

abbrev pub find_export_echo : (k : Known) (n : ℕ) (o : Option (Counted Cap)) → Finds beside (EchoesExport (state k) n o)
find_export_echo k n None = lacks
find_export_echo k n (Some entry) = find_echo k n entry.kept

abbrev pub find_answer_echo : (k : Known) (n : ℕ) (path : List ℕ) (o : Option (Option Outcome)) → Finds beside (EchoesAnswer (state k) n path o)
find_answer_echo k n path None = lacks
find_answer_echo k n path (Some None) = found (Err faults.DisembargoTarget) refl
find_answer_echo k n path (Some (Some outcome)) = find_echo k n (cap_at outcome path)

abbrev pub find_target_echo : (k : Known) (n : ℕ) (target : Target) → Finds beside (EchoesTarget (state k) n target)
find_target_echo k n (targets.ImportedCap e) = moved (EchoesExport (state k) n) (get_is k.exports e) (find_export_echo k n (at k.exports e))
find_target_echo k n (targets.PromisedAnswer answer) =
    moved
    (EchoesAnswer (state k) n (path_of answer.transform))
    (answer_is k answer.question_id)
    (find_answer_echo k n (path_of answer.transform) (known_answer k answer.question_id))
find_target_echo k n (targets.Unknown m) = lacks

abbrev pub ended_known : Known → ℕ → Cap → Known
ended_known k n c =
    record k {
      marked_imports = where_key nat_cmp (λ i. not (is_under n (at k.marked_imports i))) k.marked_imports;
      marked_paths = where_key (slice_cmp nat_cmp) (λ key. not (is_under n (at_path k.marked_paths key))) k.marked_paths;
      embargoes = without k.embargoes n;
      over_embargoes = (n, c) ∷ k.over_embargoes;
    }

pub ended_is : (k : Known) (n : ℕ) (c : Cap) → embargo_ended (state k) n c ≡ state (ended_known k n c)
ended_is k n c =
    let imports_kept : retain_keys (tabled k.marked_imports) (λ i. not (is_under n (get (tabled k.marked_imports) i))) ≡ tabled (ended_known k n c).marked_imports = (λ j. retain_keys (tabled k.marked_imports) (λ i. not (is_under n (get_is k.marked_imports i j)))) ∙ retain_is k.marked_imports _ in
    let paths_kept : retain_keys (pathed k.marked_paths) (λ key. not (is_under n (get (pathed k.marked_paths) key))) ≡ pathed (ended_known k n c).marked_paths = (λ j. retain_keys (pathed k.marked_paths) (λ key. not (is_under n (get_path_is k.marked_paths key j)))) ∙ retain_path_is k.marked_paths _ in λ i.
    record (state (record k { over_embargoes = (n, c) ∷ k.over_embargoes })) { marks = record { imports = imports_kept i; paths = paths_kept i; embargoes = remove_is k.embargoes n i } }

abbrev pub find_ended : (k : Known) (n : ℕ) (o : Option Cap) → Finds beside (λ out. out ≡ ended_by (state k) n o)
find_ended k n None = found (Err faults.UnknownEmbargo) refl
find_ended k n (Some c) = found (Ok ([], ended_known k n c)) (ap (λ s. Ok ([], s)) (sym (ended_is k n c)))

abbrev pub find_disembargo : (k : Known) (context : DisembargoContext) (target : Target) → Finds beside (OnDisembargo (state k) context target)
find_disembargo k (contexts.SenderLoopback n) target = unless _ (known_target_faults k target) (target_faults_are k target) (find_target_echo k n target)
find_disembargo k (contexts.ReceiverLoopback n) target = moved (λ o out. out ≡ ended_by (state k) n o) (get_is k.embargoes n) (find_ended k n (at k.embargoes n))
find_disembargo k contexts.Accept target = lacks
find_disembargo k (contexts.Provide q) target = lacks
find_disembargo k (contexts.Unknown n) target = lacks

abbrev pub find_unknown : (k : Known) (o : Option Message) → Finds beside (UnknownToPeer (state k) o)
find_unknown k (Some (messages.Resolve r)) = follow _ (find_lowered k.exports (given_back r.resolution)) (λ exports. found (Ok ([], record k { exports = exports })) refl)
find_unknown k None = found (Err faults.PeerLacksLevelOne) refl
find_unknown k (Some (messages.Unimplemented t)) = found (Err faults.PeerLacksLevelOne) refl
find_unknown k (Some (messages.Abort x)) = found (Err faults.PeerLacksLevelOne) refl
find_unknown k (Some (messages.Call c)) = found (Err faults.PeerLacksLevelOne) refl
find_unknown k (Some (messages.Return r)) = found (Err faults.PeerLacksLevelOne) refl
find_unknown k (Some (messages.Finish f)) = found (Err faults.PeerLacksLevelOne) refl
find_unknown k (Some (messages.Release r)) = found (Err faults.PeerLacksLevelOne) refl
find_unknown k (Some (messages.Bootstrap b)) = found (Err faults.PeerLacksLevelOne) refl
find_unknown k (Some (messages.Disembargo d)) = found (Err faults.PeerLacksLevelOne) refl
find_unknown k (Some (messages.Other which body)) = found (Err faults.PeerLacksLevelOne) refl

abbrev pub find_on : (k : Known) (m : Message) → Finds beside (On (state k) m)
find_on k (messages.Unimplemented t) = find_unknown k (told t)
find_on k (messages.Abort x) = found (Ok (effects.Closed (reasons.Peer x) ∷ [], record k { is_closed = true })) refl
find_on k (messages.Call c) = find_called k c
find_on k (messages.Return r) = find_return k r
find_on k (messages.Finish f) = find_finished k f
find_on k (messages.Resolve r) = find_resolve k r
find_on k (messages.Release r) = find_release k r
find_on k (messages.Bootstrap b) = find_bootstrapped k b.question_id
find_on k (messages.Disembargo d) = find_disembargo k d.context d.target
find_on k (messages.Other which body) = lacks

abbrev pub find_received_if : (b : Bool) (k : Known) (m : Message) → Finds beside (ReceivesIf b (state k) m)
find_received_if true k m = unless _ (fault_if (not (message_fits m)) faults.PayloadTooLarge) refl (find_on k m)
find_received_if false k m =
    decide
    (λ b out. out ≡ (if b then Ok (effects.Send (messages.Unimplemented (message_written m)) ∷ [], state k) else Err faults.EchoTooLarge))
    (echo_fits (message_written (messages.Unimplemented (message_written m))))
    (found (Ok (effects.Send (messages.Unimplemented (message_written m)) ∷ [], k)) refl)
    (found (Err faults.EchoTooLarge) refl)

abbrev pub find_received : (k : Known) (m : Message) → Finds beside (Receives (state k) m)
find_received k m = find_received_if (is_supported m) k m
