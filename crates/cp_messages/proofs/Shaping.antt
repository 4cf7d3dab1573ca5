-- What is made is a tree that a message can hold, where its lists are short enough.
use Rattle.std.proofs.Common.{◌≡◌, ℕ, suc, ◌+◌, ◌*◌, ◌^◌, ◌<◌, ◌&&◌, Bool, true, false, List, [], ◌∷◌, length, map, refl, ap, length-append, arith}
use Rattle.std.specs.Prelude.{All, ltb, not}
use Rattle.std.specs.List.{list_all}
use Rattle.std.proofs.lemmas.Bool.Decides.{nat_tests}
use Rattle.std.proofs.lemmas.List.Elements.{All-head, All-tail, All-nil, All-cons, All-push}
use Rattle.cp_tree.specs.Node.{Node, null, struct, no_nodes, node, count, number_of, data_of, row_of}
use Rattle.cp_tree.specs.NodeOf.{bodies_of}
use Rattle.cp_tree.specs.Shaped.{AllFit, HasSizes, Shaped, EachShaped, EachEven}
use Rattle.cp_messages.specs.Representable.{IsU16, IsU32, IsText, IsException, IsOp, IsPromisedAnswer, IsTarget, IsDescriptor, IsPayload, IsSendResultsTo, IsCall, IsReturned, IsReturn, IsResolution, IsResolve, IsDisembargo, IsMessage}
use Rattle.cp_messages.specs.Fitting.{text_fits, exception_fits, promised_answer_fits, target_fits, descriptor_fits, payload_fits, call_fits, returned_fits, resolution_fits, message_fits}
use Rattle.cp_messages.specs.Written.{u16_part, u32_part, bit_part, text_written, body_written, list_written, exception_written, op_written, transform_written, promised_answer_written, target_written, target_pointer, descriptor_written, descriptor_number, descriptor_id, descriptor_pointer, cap_table_written, payload_written, send_results_to_number, third_party_written, call_written, returned_number, returned_question, returned_pointer, return_written, resolution_pointer, resolve_written, disembargo_written, member_written, message_written}
use Rattle.cp_messages.specs.declared.exception.Exception.{Exception}
use Rattle.cp_messages.specs.declared.promised_answer.Op.{Op}
use Rattle.cp_messages.specs.declared.promised_answer.PromisedAnswer.{PromisedAnswer}
use Rattle.cp_messages.specs.declared.target.Target.{Target}
use Rattle.cp_messages.specs.declared.target.Target.TheVariants as targets
use Rattle.cp_messages.specs.declared.descriptor.Descriptor.{Descriptor}
use Rattle.cp_messages.specs.declared.descriptor.Descriptor.TheVariants as descriptors
use Rattle.cp_messages.specs.declared.payload.Payload.{Payload}
use Rattle.cp_messages.specs.declared.call.SendResultsTo.{SendResultsTo}
use Rattle.cp_messages.specs.declared.call.SendResultsTo.TheVariants as results_to
use Rattle.cp_messages.specs.declared.call.Call.{Call}
use Rattle.cp_messages.specs.declared.returned.Returned.{Returned}
use Rattle.cp_messages.specs.declared.returned.Returned.TheVariants as returns
use Rattle.cp_messages.specs.declared.returned.Return.{Return}
use Rattle.cp_messages.specs.declared.resolve.Resolution.{Resolution}
use Rattle.cp_messages.specs.declared.resolve.Resolution.TheVariants as resolutions
use Rattle.cp_messages.specs.declared.resolve.Resolve.{Resolve}
use Rattle.cp_messages.specs.declared.disembargo.Disembargo.{Disembargo}
use Rattle.cp_messages.specs.declared.message.Message.{Message}
use Rattle.cp_messages.specs.declared.message.Message.TheVariants as messages
use Rattle.cp_messages.proofs.Saying.{kind_u16, op_u16}
use Rattle.cp_messages.proofs.Readback.{target_fits_in, descriptor_fits_in, sent_fits, returned_fits_in, resolution_fits_in, context_fits, message_u16}

less : (a b : ℕ) → ltb a b ≡ true → a < b
less a b h = grind (arith, nat_tests)

is-less : (a b : ℕ) → a < b → ltb a b ≡ true
is-less a b h = grind (arith, nat_tests)

and-left : (a b : Bool) → (a && b) ≡ true → a ≡ true
and-left true b h = refl
and-left false b h = cc

and-right : (a b : Bool) → (a && b) ≡ true → b ≡ true
and-right true b h = h
and-right false b h = cc

both : (a b : Bool) → a ≡ true → b ≡ true → (a && b) ≡ true
both a b h k = rw (h, k) refl

one_word : (w : ℕ) → w < 2 ^ 64 → AllFit 64 (w ∷ [])
one_word w h = All-cons (λ n. n < 2 ^ 64) w [] h (All-nil (λ n. n < 2 ^ 64))

-- a struct of one word and one pointer
one_each : (w : ℕ) (t : Node) → w < 2 ^ 64 → Shaped t → Shaped (struct (w ∷ []) (node t no_nodes))
one_each w t h k = ((omega arith, omega arith), one_word w h, (k, tt))

text_shaped : (bs : List ℕ) → IsText bs → text_fits bs ≡ true → Shaped (text_written bs)
text_shaped [] h fits = tt
text_shaped (b ∷ bs) h fits =
    let short : length (b ∷ bs) + 1 < 2 ^ 29 = less _ _ fits in
    (omega (arith, length-append (b ∷ bs) (0 ∷ [])), All-push (λ n. n < 2 ^ 8) (b ∷ bs) 0 h.1 (omega arith))

text_fitting : (bs : List ℕ) → Shaped (text_written bs) → text_fits bs ≡ true
text_fitting [] s = refl
text_fitting (b ∷ bs) s = is-less _ _ (omega (arith, s.0, length-append (b ∷ bs) (0 ∷ [])))

exception_shaped : (e : Exception) → IsException e → exception_fits e ≡ true → Shaped (exception_written e)
exception_shaped e h fits =
    let kind = kind_u16 e.kind h.kind in (
      (omega arith, omega arith),
      one_word _ (omega arith),
      (text_shaped e.reason h.reason (and-left _ _ fits), (text_shaped e.trace h.trace (and-right _ _ fits), tt)),
    )

exception_fitting : (e : Exception) → Shaped (exception_written e) → exception_fits e ≡ true
exception_fitting e s = both _ _ (text_fitting e.reason s.2.0) (text_fitting e.trace s.2.1.0)

-- an element of a list of structs of these sizes
abbrev IsEven : ℕ → ℕ → Node → Type 0
IsEven d n t = (length (data_of t) ≡ d) × (count (row_of t) ≡ n) × AllFit 64 (data_of t) × EachShaped (row_of t)

length-bodies : {X : Type 0} (made : X → Node) (xs : List X) → number_of (bodies_of (map body_written (map made xs))) ≡ length xs
length-bodies made [] = refl
length-bodies made (x ∷ xs) = ap suc (length-bodies made xs)

each_even : {X : Type 0} (P : X → Type 0) (d n : ℕ) (made : X → Node) (even : (x : X) → P x → IsEven d n (made x)) (xs : List X) → All P xs
    → EachEven d n (bodies_of (map body_written (map made xs)))
each_even P d n made even [] h = tt
each_even P d n made even (x ∷ xs) h =
    let e = even x (All-head P x xs h) in
    (e.0, e.1, e.2, e.3, each_even P d n made even xs (All-tail P x xs h))

list_shaped : {X : Type 0} (P : X → Type 0) (d n : ℕ) (made : X → Node) (even : (x : X) → P x → IsEven d n (made x)) (xs : List X) → All P xs
    → HasSizes d n → length xs < 2 ^ 30 → length xs * (d + n) < 2 ^ 29 → Shaped (list_written d n (map made xs))
list_shaped P d n made even [] h sizes few short = tt
list_shaped P d n made even (x ∷ xs) h sizes few short =
    let e = length-bodies made (x ∷ xs) in
    (sizes, rw e few, rw e short, each_even P d n made even (x ∷ xs) h)

op_even : (op : Op) → IsOp op → IsEven 1 0 (op_written op)
op_even op h = let fits = op_u16 op h in (refl, refl, one_word _ (omega (arith, fits.0, fits.1)), tt)

answer_shaped : (p : PromisedAnswer) → IsPromisedAnswer p → promised_answer_fits p ≡ true → Shaped (promised_answer_written p)
answer_shaped p h fits =
    let short : length p.transform < 2 ^ 29 = less _ _ fits in
    one_each _ (transform_written p.transform) (omega (arith, h.question_id)) (list_shaped IsOp 1 0 op_written op_even p.transform h.transform (omega arith, omega arith) (omega arith) (omega arith))

-- a list that a message can hold is short
list_short : {X : Type 0} (d n : ℕ) (made : X → Node) (xs : List X) → Shaped (list_written d n (map made xs)) → length xs * (d + n) < 2 ^ 29
list_short d n made [] s = omega arith
list_short d n made (x ∷ xs) s = rw (length-bodies made (x ∷ xs)) at s.2

answer_fitting : (p : PromisedAnswer) → Shaped (promised_answer_written p) → promised_answer_fits p ≡ true
answer_fitting p s = is-less _ _ (omega (arith, list_short 1 0 op_written p.transform s.2.0))

target_shaped : (t : Target) → IsTarget t → target_fits t ≡ true → Shaped (target_written t)
target_shaped t h fits = let u = target_fits_in t h in one_each _ (target_pointer t) (omega (arith, u.0, u.1)) (by t h fits)
  where
    by : (t : Target) → IsTarget t → target_fits t ≡ true → Shaped (target_pointer t)
    by (targets.ImportedCap id) h fits = tt
    by (targets.PromisedAnswer p) h fits = answer_shaped p h fits
    by (targets.Unknown n) h fits = tt

target_fitting : (t : Target) → Shaped (target_written t) → target_fits t ≡ true
target_fitting (targets.ImportedCap id) s = refl
target_fitting (targets.PromisedAnswer p) s = answer_fitting p s.2.0
target_fitting (targets.Unknown n) s = refl

descriptor_pointer_shaped : (d : Descriptor) → IsDescriptor d → descriptor_fits d ≡ true → Shaped (descriptor_pointer d)
descriptor_pointer_shaped descriptors.None h fits = tt
descriptor_pointer_shaped (descriptors.SenderHosted id) h fits = tt
descriptor_pointer_shaped (descriptors.SenderPromise id) h fits = tt
descriptor_pointer_shaped (descriptors.ReceiverHosted id) h fits = tt
descriptor_pointer_shaped (descriptors.ReceiverAnswer p) h fits = answer_shaped p h fits
descriptor_pointer_shaped (descriptors.ThirdPartyHosted t) h fits = h
descriptor_pointer_shaped (descriptors.Unknown n) h fits = tt

descriptor_fitting : (d : Descriptor) → Shaped (descriptor_pointer d) → descriptor_fits d ≡ true
descriptor_fitting descriptors.None s = refl
descriptor_fitting (descriptors.SenderHosted id) s = refl
descriptor_fitting (descriptors.SenderPromise id) s = refl
descriptor_fitting (descriptors.ReceiverHosted id) s = refl
descriptor_fitting (descriptors.ReceiverAnswer p) s = answer_fitting p s
descriptor_fitting (descriptors.ThirdPartyHosted t) s = refl
descriptor_fitting (descriptors.Unknown n) s = refl

descriptor_word : (d : Descriptor) → IsDescriptor d → u16_part 0 (descriptor_number d) + u32_part 1 (descriptor_id d) < 2 ^ 64
descriptor_word d h = let u = descriptor_fits_in d h in omega (arith, u.0, u.1)

descriptor_shaped : (d : Descriptor) → IsDescriptor d → descriptor_fits d ≡ true → Shaped (descriptor_written d)
descriptor_shaped d h fits = one_each _ (descriptor_pointer d) (descriptor_word d h) (descriptor_pointer_shaped d h fits)

-- a descriptor whose lists are short enough
abbrev IsShort : Descriptor → Type 0
IsShort d = IsDescriptor d × (descriptor_fits d ≡ true)

descriptor_even : (d : Descriptor) → IsShort d → IsEven 1 1 (descriptor_written d)
descriptor_even d h = (refl, refl, one_word _ (descriptor_word d h.0), (descriptor_pointer_shaped d h.0 h.1, tt))

each_short : (ds : List Descriptor) → All IsDescriptor ds → list_all descriptor_fits ds ≡ true → All IsShort ds
each_short [] h fits = All-nil IsShort
each_short (d ∷ ds) h fits =
    All-cons IsShort d ds (All-head IsDescriptor d ds h, and-left _ _ fits) (each_short ds (All-tail IsDescriptor d ds h) (and-right _ _ fits))

each_fitting : (ds : List Descriptor) → EachEven 1 1 (bodies_of (map body_written (map descriptor_written ds))) → list_all descriptor_fits ds ≡ true
each_fitting [] s = refl
each_fitting (d ∷ ds) s = both _ _ (descriptor_fitting d s.3.0) (each_fitting ds s.4)

payload_shaped : (p : Payload) → IsPayload p → payload_fits p ≡ true → Shaped (payload_written p)
payload_shaped p h fits =
    let short : length p.cap_table * 2 < 2 ^ 29 = less _ _ (and-left _ _ fits) in (
      (omega arith, omega arith),
      All-nil (λ n. n < 2 ^ 64),
      (h.content, (list_shaped IsShort 1 1 descriptor_written descriptor_even p.cap_table (each_short p.cap_table h.cap_table (and-right _ _ fits)) (omega arith, omega arith) (omega arith) (omega arith), tt)),
    )

table_fitting : (ds : List Descriptor) → Shaped (cap_table_written ds) → list_all descriptor_fits ds ≡ true
table_fitting [] s = refl
table_fitting (d ∷ ds) s = each_fitting (d ∷ ds) s.3

payload_fitting : (p : Payload) → Shaped (payload_written p) → payload_fits p ≡ true
payload_fitting p s = both _ _ (is-less _ _ (omega (arith, list_short 1 1 descriptor_written p.cap_table s.2.1.0))) (table_fitting p.cap_table s.2.1.0)

third_party_shaped : (s : SendResultsTo) → IsSendResultsTo s → Shaped (third_party_written s)
third_party_shaped results_to.Caller h = tt
third_party_shaped results_to.Yourself h = tt
third_party_shaped (results_to.ThirdParty t) h = h
third_party_shaped (results_to.Unknown n) h = tt

call_shaped : (c : Call) → IsCall c → call_fits c ≡ true → Shaped (call_written c)
call_shaped c h fits =
    let P = λ (n : ℕ). n < 2 ^ 64 in
    let sent = sent_fits c.send_results_to h.send_results_to in
    let first : u32_part 0 c.question_id + u16_part 2 c.method_id + u16_part 3 (send_results_to_number c.send_results_to) < 2 ^ 64 = omega (arith, h.question_id, h.method_id) in (
      (omega arith, omega arith),
      All-cons P _ (c.interface_id ∷ 0 ∷ []) first (All-cons P c.interface_id (0 ∷ []) h.interface_id (one_word 0 (omega arith))),
      (target_shaped c.target h.target (and-left _ _ fits), (payload_shaped c.params h.params (and-right _ _ fits), (third_party_shaped c.send_results_to h.send_results_to, tt))),
    )

call_fitting : (c : Call) → Shaped (call_written c) → call_fits c ≡ true
call_fitting c s = both _ _ (target_fitting c.target s.2.0) (payload_fitting c.params s.2.1.0)

returned_shaped : (r : Returned) → IsReturned r → returned_fits r ≡ true → Shaped (returned_pointer r)
returned_shaped (returns.Results p) h fits = payload_shaped p h fits
returned_shaped (returns.Exception e) h fits = exception_shaped e h fits
returned_shaped returns.Canceled h fits = tt
returned_shaped returns.ResultsSentElsewhere h fits = tt
returned_shaped (returns.TakeFromOtherQuestion q) h fits = tt
returned_shaped (returns.AcceptFromThirdParty t) h fits = h
returned_shaped (returns.Unknown n) h fits = tt

returned_fitting : (r : Returned) → Shaped (returned_pointer r) → returned_fits r ≡ true
returned_fitting (returns.Results p) s = payload_fitting p s
returned_fitting (returns.Exception e) s = exception_fitting e s
returned_fitting returns.Canceled s = refl
returned_fitting returns.ResultsSentElsewhere s = refl
returned_fitting (returns.TakeFromOtherQuestion q) s = refl
returned_fitting (returns.AcceptFromThirdParty t) s = refl
returned_fitting (returns.Unknown n) s = refl

flag_word : (a : ℕ) (b : Bool) → IsU32 a → u32_part 0 a + bit_part 32 b < 2 ^ 34
flag_word a true h = omega arith
flag_word a false h = omega arith

return_word : (a n : ℕ) (b : Bool) → IsU32 a → IsU16 n → u32_part 0 a + bit_part 32 b + u16_part 3 n < 2 ^ 64
return_word a n true h k = omega arith
return_word a n false h k = omega arith

return_shaped : (r : Return) → IsReturn r → returned_fits r.returned ≡ true → Shaped (return_written r)
return_shaped r h fits =
    let P = λ (n : ℕ). n < 2 ^ 64 in
    let u = returned_fits_in r.returned h.returned in
    let second : u32_part 2 (returned_question r.returned) < 2 ^ 64 = omega (arith, u.1) in (
      (omega arith, omega arith),
      All-cons P _ (u32_part 2 (returned_question r.returned) ∷ []) (return_word r.answer_id (returned_number r.returned) (not r.release_param_caps) h.answer_id u.0) (one_word _ second),
      (returned_shaped r.returned h.returned fits, tt),
    )

resolution_shaped : (r : Resolution) → IsResolution r → resolution_fits r ≡ true → Shaped (resolution_pointer r)
resolution_shaped (resolutions.Cap d) h fits = descriptor_shaped d h fits
resolution_shaped (resolutions.Exception e) h fits = exception_shaped e h fits
resolution_shaped (resolutions.Unknown n) h fits = tt

resolution_fitting : (r : Resolution) → Shaped (resolution_pointer r) → resolution_fits r ≡ true
resolution_fitting (resolutions.Cap d) s = descriptor_fitting d s.2.0
resolution_fitting (resolutions.Exception e) s = exception_fitting e s
resolution_fitting (resolutions.Unknown n) s = refl

resolve_shaped : (r : Resolve) → IsResolve r → resolution_fits r.resolution ≡ true → Shaped (resolve_written r)
resolve_shaped r h fits =
    let u = resolution_fits_in r.resolution h.resolution in
    one_each _ (resolution_pointer r.resolution) (omega (arith, h.promise_id)) (resolution_shaped r.resolution h.resolution fits)

disembargo_shaped : (d : Disembargo) → IsDisembargo d → target_fits d.target ≡ true → Shaped (disembargo_written d)
disembargo_shaped d h fits =
    let u = context_fits d.context h.context in
    one_each _ (target_written d.target) (omega (arith, u.0, u.1)) (target_shaped d.target h.target fits)

member_shaped : (m : Message) → IsMessage m → message_fits m ≡ true → Shaped (member_written m)
member_shaped (messages.Unimplemented t) h fits = h
member_shaped (messages.Abort e) h fits = exception_shaped e h fits
member_shaped (messages.Call c) h fits = call_shaped c h fits
member_shaped (messages.Return r) h fits = return_shaped r h fits
member_shaped (messages.Finish f) h fits =
    let w : u32_part 0 f.question_id + bit_part 32 (not f.release_result_caps) < 2 ^ 34 = flag_word f.question_id (not f.release_result_caps) h in
    ((omega arith, omega arith), one_word _ (omega arith), tt)
member_shaped (messages.Resolve r) h fits = resolve_shaped r h fits
member_shaped (messages.Release r) h fits = ((omega arith, omega arith), one_word _ (omega (arith, h.id, h.reference_count)), tt)
member_shaped (messages.Bootstrap b) h fits = one_each _ null (omega (arith, h)) tt
member_shaped (messages.Disembargo d) h fits = disembargo_shaped d h fits
member_shaped (messages.Other n t) h fits = h.2

member_fitting : (m : Message) → Shaped (member_written m) → message_fits m ≡ true
member_fitting (messages.Unimplemented t) s = refl
member_fitting (messages.Abort e) s = exception_fitting e s
member_fitting (messages.Call c) s = call_fitting c s
member_fitting (messages.Return r) s = returned_fitting r.returned s.2.0
member_fitting (messages.Finish f) s = refl
member_fitting (messages.Resolve r) s = resolution_fitting r.resolution s.2.0
member_fitting (messages.Release r) s = refl
member_fitting (messages.Bootstrap b) s = refl
member_fitting (messages.Disembargo d) s = target_fitting d.target s.2.0
member_fitting (messages.Other n t) s = refl

-- A message whose lists are short enough is written as a tree that a message can hold.
pub message_shaped : (m : Message) → IsMessage m → message_fits m ≡ true → Shaped (message_written m)
message_shaped m h fits = let n = message_u16 m h in one_each _ (member_written m) (omega arith) (member_shaped m h fits)

-- The lists of one that a message can hold are short enough.
pub message_fitting : (m : Message) → Shaped (message_written m) → message_fits m ≡ true
message_fitting m s = member_fitting m s.2.0

-- One that has a list that is too long isn't.
pub too_long : (m : Message) → message_fits m ≡ false → Shaped (message_written m) → ⊥
too_long m long s = let fits = message_fitting m s in cc
