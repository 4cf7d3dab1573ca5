-- What a call of the application does, found by computing.
use Rattle.std.specs.Prelude.{◌≡◌, refl, ℕ, ◌+◌, ltb, not, ◌&&◌, Bool, true, false, cond, List, [], ◌∷◌, ◌++◌, Option, Some, None, Result, Ok, Err}
use Rattle.std.proofs.Common.{sym, ap}
use Rattle.std.specs.List.{list_any}
use Rattle.cp_tables.specs.Exchange.{new_exchange}
use Rattle.cp_refs.specs.declared.cap.Cap.{Cap}
use Rattle.cp_refs.specs.declared.cap.Cap.TheVariants as caps
use Rattle.cp_refs.specs.declared.call.Request.{Request}
use Rattle.cp_refs.specs.declared.route.Gate.TheVariants as gates
use Rattle.cp_refs.specs.declared.route.Route.TheVariants as routes
use Rattle.cp_refs.specs.declared.values.QuestionKind.{QuestionKind}
use Rattle.cp_refs.specs.declared.values.QuestionKind.TheVariants as kinds
use Rattle.cp_vat_machine.specs.Then.{fault_if, OrFull}
use Rattle.cp_vat_machine.specs.Capacity.{has_ticket, cap_fits, request_fits}
use Rattle.cp_vat_machine.specs.Go.{PendingCall, held_at}
use Rattle.cp_vat_machine.specs.Calling.{Standing, plain, on_wire, came_to, import_reference, question_reference, reference_of, own_call, mark_of, with_mark, marked, has_mark_capacity, disembargo_of, FirstEmbargoed, GoBack, GoByValue, GoFrom, OwnDone, Opens, not_all, call_refusals, DoCall}
use Rattle.cp_vat_machine.specs.declared.effect.Effect.{Effect}
use Rattle.cp_vat_machine.specs.declared.event.Value.{Value}
use Rattle.cp_vat_machine.specs.declared.event.Value.TheVariants as values
use Rattle.cp_vat_machine.specs.declared.fault.PeerFault.{PeerFault}
use Rattle.cp_vat_machine.specs.declared.fault.PeerFault.TheVariants as faults
use Rattle.cp_vat_machine.specs.declared.fault.VatFault.{VatFault}
use Rattle.cp_vat_machine.specs.declared.fault.VatFault.TheVariants as refusals
use Rattle.test_vat.proofs.Known.{Known, state, at, at_path, get_is, get_path_is, size, path_size, path_len_is}
use Rattle.test_vat.proofs.Found.{Finds, lacks, found, beside, moved, unless, follow}
use Rattle.test_vat.proofs.Finding.{find_fresh, room_is}
use Rattle.test_vat.proofs.Going.{held_known, find_gone, find_gone_to}
use Rattle.test_vat.proofs.Uses.{known_question, question_there, known_promise, promise_there, known_import, import_there, known_local, local_there}

-- a value, effects, and the state with them
abbrev pub owned : Value × List Effect × Known → OwnDone
owned x = (x.0, x.1, state x.2)

abbrev pub or_full : {A B : Type 0} {view : A → B} {Rule : Result B PeerFault → Type 0} → Finds view Rule → Finds view (OrFull Rule)
or_full lacks = lacks
or_full {view = view} (found (Ok x) holds) = found (Ok x) (Ok (view x), holds, refl)
or_full (found (Err fault) holds) = found (Err refusals.Full) (Err fault, holds, refl)

abbrev pub known_reference : Known → Cap → Standing
known_reference k (caps.Import i) = import_reference (at k.import_values i)
known_reference k (caps.Pipelined q path) = question_reference path (at k.questions q)
known_reference k caps.None = plain
known_reference k (caps.Object n) = plain
known_reference k (caps.Promise p) = plain
known_reference k (caps.Broken x) = plain

pub reference_is : (k : Known) (c : Cap) → reference_of (state k).values c ≡ known_reference k c
reference_is k (caps.Import i) = ap import_reference (get_is k.import_values i)
reference_is k (caps.Pipelined q path) = ap (question_reference path) (get_is k.questions q)
reference_is k caps.None = refl
reference_is k (caps.Object n) = refl
reference_is k (caps.Promise p) = refl
reference_is k (caps.Broken x) = refl

abbrev pub known_mark : Known → Cap → Option (Option ℕ)
known_mark k (caps.Import i) = at k.marked_imports i
known_mark k (caps.Pipelined q path) = at_path k.marked_paths (q ∷ path)
known_mark k caps.None = None
known_mark k (caps.Object n) = None
known_mark k (caps.Promise p) = None
known_mark k (caps.Broken x) = None

pub mark_is : (k : Known) (c : Cap) → mark_of (state k) c ≡ known_mark k c
mark_is k (caps.Import i) = get_is k.marked_imports i
mark_is k (caps.Pipelined q path) = get_path_is k.marked_paths (q ∷ path)
mark_is k caps.None = refl
mark_is k (caps.Object n) = refl
mark_is k (caps.Promise p) = refl
mark_is k (caps.Broken x) = refl

abbrev pub marked_known : Known → Cap → Option ℕ → Known
marked_known k (caps.Import i) embargo = record k { marked_imports = (i, embargo) ∷ k.marked_imports }
marked_known k (caps.Pipelined q path) embargo = record k { marked_paths = (q ∷ path, embargo) ∷ k.marked_paths }
marked_known k caps.None embargo = k
marked_known k (caps.Object n) embargo = k
marked_known k (caps.Promise p) embargo = k
marked_known k (caps.Broken x) embargo = k

pub marked_is : (k : Known) (c : Cap) (embargo : Option ℕ) → with_mark (state k) c embargo ≡ state (marked_known k c embargo)
marked_is k (caps.Import i) embargo = refl
marked_is k (caps.Pipelined q path) embargo = refl
marked_is k caps.None embargo = refl
marked_is k (caps.Object n) embargo = refl
marked_is k (caps.Promise p) embargo = refl
marked_is k (caps.Broken x) embargo = refl

abbrev pub mark_room : Known → Cap → Bool
mark_room k (caps.Pipelined q path) = ltb (path_size k.marked_paths) 65536
mark_room k caps.None = true
mark_room k (caps.Object n) = true
mark_room k (caps.Promise p) = true
mark_room k (caps.Import i) = true
mark_room k (caps.Broken x) = true

pub mark_room_is : (k : Known) (c : Cap) → has_mark_capacity (state k) c ≡ mark_room k c
mark_room_is k (caps.Pipelined q path) = ap (λ n. ltb n 65536) (path_len_is k.marked_paths)
mark_room_is k caps.None = refl
mark_room_is k (caps.Object n) = refl
mark_room_is k (caps.Promise p) = refl
mark_room_is k (caps.Import i) = refl
mark_room_is k (caps.Broken x) = refl

abbrev pub find_marked_if : (k : Known) (c : Cap) (b : Bool) → Finds state (λ mid. mid ≡ cond b (Ok (with_mark (state k) c None)) (Err faults.TableFull))
find_marked_if k c true = found (Ok (marked_known k c None)) (ap Ok (sym (marked_is k c None)))
find_marked_if k c false = found (Err faults.TableFull) refl

abbrev pub find_marked_by : (k : Known) (c : Cap) (o : Option (Option ℕ)) → Finds state (λ mid. mid ≡ marked (state k) c o)
find_marked_by k c (Some embargo) = found (Ok k) refl
find_marked_by k c None = moved (λ b mid. mid ≡ cond b (Ok (with_mark (state k) c None)) (Err faults.TableFull)) (mark_room_is k c) (find_marked_if k c (mark_room k c))

-- a question of the application's
abbrev pub asked_known : Known → ℕ → QuestionKind → Option ℕ → Bool → Known
asked_known k q kind ticket is_sent =
    record k {
      questions = (q, record { kind = kind; outcome = None }) ∷ k.questions;
      asked = (q, new_exchange (record { forwards = None; ticket = ticket; is_sent = is_sent; is_delivered = false; mentions = [] })) ∷ k.asked;
    }

abbrev pub called_known : Known → ℕ → QuestionKind → Known
called_known k q kind = record (asked_known k q kind (Some k.next_ticket) false) { next_ticket = k.next_ticket + 1 }

abbrev pub embargoed_known : Known → PendingCall → Cap → Cap → ℕ → Known
embargoed_known k call c value n = held_known (marked_known (record k { embargoes = (n, value) ∷ k.embargoes }) c (Some n)) call (gates.Embargo n)

abbrev pub find_embargoed : (k : Known) (call : PendingCall) (c value : Cap) → Finds beside (FirstEmbargoed (state k) call c value)
find_embargoed k call c value =
    follow
    _
    (find_fresh k.embargoes)
    (λ n.
    found
    (Ok (disembargo_of n c ∷ [], embargoed_known k call c value n))
    (ap
    (λ s. Ok (disembargo_of n c ∷ [], held_at s call (gates.Embargo n)))
    (sym (marked_is (record k { embargoes = (n, value) ∷ k.embargoes }) c (Some n)))))

abbrev pub find_back : (k : Known) (call : PendingCall) (c value : Cap) (o : Option (Option ℕ)) → Finds beside (GoBack (state k) call c value o)
find_back k call c value None = find_gone_to k call value
find_back k call c value (Some None) = find_embargoed k call c value
find_back k call c value (Some (Some n)) = find_gone k call (routes.Wait (gates.Embargo n))

abbrev pub find_by_value : (k : Known) (q : ℕ) (request : Request) (c value : Cap) → Finds beside (GoByValue (state k) q request c value)
find_by_value k q request c (caps.Import j) = find_gone (called_known k q kinds.Wire) (own_call (state k) q request) (routes.Import j)
find_by_value k q request c (caps.Object n) =
    moved
    (GoBack (state (called_known k q kinds.Local)) (own_call (state k) q request) c (caps.Object n))
    (mark_is k c)
    (find_back (called_known k q kinds.Local) (own_call (state k) q request) c (caps.Object n) (known_mark k c))
find_by_value k q request c (caps.Promise p) =
    moved
    (GoBack (state (called_known k q kinds.Local)) (own_call (state k) q request) c (caps.Promise p))
    (mark_is k c)
    (find_back (called_known k q kinds.Local) (own_call (state k) q request) c (caps.Promise p) (known_mark k c))
find_by_value k q request c caps.None = find_gone_to (called_known k q kinds.Local) (own_call (state k) q request) caps.None
find_by_value k q request c (caps.Pipelined p path) = find_gone_to (called_known k q kinds.Local) (own_call (state k) q request) (caps.Pipelined p path)
find_by_value k q request c (caps.Broken x) = find_gone_to (called_known k q kinds.Local) (own_call (state k) q request) (caps.Broken x)

abbrev pub find_from : (k : Known) (q : ℕ) (request : Request) (c : Cap) (r : Standing) → Finds beside (GoFrom (state k) q request c r)
find_from k q request c plain = find_gone_to (called_known k q kinds.Local) (own_call (state k) q request) c
find_from k q request c on_wire =
    follow
    _
    (moved (λ o mid. mid ≡ marked (state (called_known k q kinds.Wire)) c o) (mark_is k c) (find_marked_by (called_known k q kinds.Wire) c (known_mark k c)))
    (λ mid. find_gone_to mid (own_call (state k) q request) c)
find_from k q request c (came_to value) = find_by_value k q request c value

abbrev pub find_opened : (k : Known) (c : Cap) (request : Request) → Finds owned (Opens (state k) c request)
find_opened k c request =
    follow _ (find_fresh k.asked) (λ q.
    follow
    _
    (moved (GoFrom (state k) q request c) (reference_is k c) (find_from k q request c (known_reference k c)))
    (λ done. found (Ok (values.Question q, done.0, done.1)) refl))

abbrev pub known_refusals : Known → Cap → Request → List VatFault
known_refusals k c request =
    fault_if (not_all (known_question k) (c ∷ request.caps)) refusals.UnknownQuestion
    ++ fault_if (not_all (known_promise k) (c ∷ request.caps)) refusals.UnknownPromise
    ++ fault_if (list_any (known_local k) request.caps) refusals.Unsettled
    ++ fault_if (not (cap_fits c && request_fits request)) refusals.TooLarge
    ++ fault_if (not (ltb (size k.asked) 65536 && has_ticket (state k))) refusals.Full
    ++ fault_if (not_all (known_import k) (c ∷ request.caps)) refusals.UnknownImport

pub refusals_are : (k : Known) (c : Cap) (request : Request) → call_refusals (state k) c request ≡ known_refusals k c request
refusals_are k c request = λ i.
    fault_if (not_all (λ x. question_there k x i) (c ∷ request.caps)) refusals.UnknownQuestion
    ++ fault_if (not_all (λ x. promise_there k x i) (c ∷ request.caps)) refusals.UnknownPromise
    ++ fault_if (list_any (λ x. local_there k x i) request.caps) refusals.Unsettled
    ++ fault_if (not (cap_fits c && request_fits request)) refusals.TooLarge
    ++ fault_if (not (room_is k.asked i && has_ticket (state k))) refusals.Full
    ++ fault_if (not_all (λ x. import_there k x i) (c ∷ request.caps)) refusals.UnknownImport

abbrev pub find_own_call : (k : Known) (c : Cap) (request : Request) → Finds owned (DoCall (state k) c request)
find_own_call k c request = unless _ (known_refusals k c request) (refusals_are k c request) (or_full (find_opened k c request))
