-- A message with a list that is too long for it costs more than may be written.
use Rattle.std.proofs.Common.{◌≡◌, ℕ, ◌+◌, ◌*◌, ◌<◌, ◌≤◌, ltb, ◌&&◌, Bool, true, false, List, [], ◌∷◌, length, map, refl, ◌∙◌, arith, length-append}
use Rattle.std.specs.List.{list_all}
use Rattle.std.proofs.lemmas.List.{length-map}
use Rattle.std.proofs.lemmas.Bool.Decides.{nat_tests}
use Rattle.cp_tree.specs.Node.{Node, cost, body_cost}
use Rattle.cp_tree.specs.NodeOf.{bodies_of}
use Rattle.cp_tree.proofs.Trees.{number_in}
use Rattle.cp_messages.specs.Written.{body_written, cap_table_written, descriptor_written, descriptor_pointer, exception_written, list_written, member_written, message_written, op_written, payload_written, promised_answer_written, resolution_pointer, returned_pointer, target_written, text_written}
use Rattle.cp_messages.specs.Fitting.{descriptor_fits, exception_fits, message_fits, payload_fits, promised_answer_fits, resolution_fits, returned_fits, target_fits, text_fits}
use Rattle.cp_messages.specs.declared.exception.Exception.{Exception}
use Rattle.cp_messages.specs.declared.promised_answer.PromisedAnswer.{PromisedAnswer}
use Rattle.cp_messages.specs.declared.target.Target.{Target}
use Rattle.cp_messages.specs.declared.target.Target.TheVariants as targets
use Rattle.cp_messages.specs.declared.descriptor.Descriptor.{Descriptor}
use Rattle.cp_messages.specs.declared.descriptor.Descriptor.TheVariants as descriptors
use Rattle.cp_messages.specs.declared.payload.Payload.{Payload}
use Rattle.cp_messages.specs.declared.returned.Returned.{Returned}
use Rattle.cp_messages.specs.declared.returned.Returned.TheVariants as returns
use Rattle.cp_messages.specs.declared.resolve.Resolution.{Resolution}
use Rattle.cp_messages.specs.declared.resolve.Resolution.TheVariants as resolutions
use Rattle.cp_messages.specs.declared.message.Message.{Message}
use Rattle.cp_messages.specs.declared.message.Message.TheVariants as messages

is_less : (a b : ℕ) → a < b → ltb a b ≡ true
is_less a b less = grind (arith, nat_tests)

both : (a b : Bool) → a ≡ true → b ≡ true → (a && b) ≡ true
both true true p q = refl
both true false p q = q
both false b p q = p

text_cost : (bs : List ℕ) → cost (text_written bs) ≤ 8388605 → text_fits bs ≡ true
text_cost [] dear = refl
text_cost (b ∷ bs) dear =
    let n = length-append (b ∷ bs) (0 ∷ []) in
    is_less (length (b ∷ bs) + 1) 536870912 (omega arith)

exception_cost : (e : Exception) → cost (exception_written e) ≤ 8388605 → exception_fits e ≡ true
exception_cost e dear = both _ _ (text_cost e.reason (omega arith)) (text_cost e.trace (omega arith))

list_cost : {X : Type 0} (d n : ℕ) (made : X → Node) (xs : List X) → length xs ≤ cost (list_written d n (map made xs))
list_cost d n made [] = omega arith
list_cost d n made (x ∷ xs) =
    let size = number_in body_written (map made (x ∷ xs)) ∙ length-map (x ∷ xs) made in
    omega arith

answer_cost : (p : PromisedAnswer) → cost (promised_answer_written p) ≤ 8388605 → promised_answer_fits p ≡ true
answer_cost p dear =
    let long = list_cost 1 0 op_written p.transform in
    is_less (length p.transform) 536870912 (omega arith)

target_cost : (t : Target) → cost (target_written t) ≤ 8388605 → target_fits t ≡ true
target_cost (targets.ImportedCap id) dear = refl
target_cost (targets.PromisedAnswer p) dear = answer_cost p (omega arith)
target_cost (targets.Unknown n) dear = refl

descriptor_cost : (d : Descriptor) → cost (descriptor_pointer d) ≤ 8388605 → descriptor_fits d ≡ true
descriptor_cost descriptors.None dear = refl
descriptor_cost (descriptors.SenderHosted id) dear = refl
descriptor_cost (descriptors.SenderPromise id) dear = refl
descriptor_cost (descriptors.ReceiverHosted id) dear = refl
descriptor_cost (descriptors.ReceiverAnswer p) dear = answer_cost p dear
descriptor_cost (descriptors.ThirdPartyHosted t) dear = refl
descriptor_cost (descriptors.Unknown n) dear = refl

each_cost : (ds : List Descriptor) → body_cost (bodies_of (map body_written (map descriptor_written ds))) ≤ 8388605 → list_all descriptor_fits ds ≡ true
each_cost [] dear = refl
each_cost (d ∷ ds) dear = both _ _ (descriptor_cost d (omega arith)) (each_cost ds (omega arith))

table_cost : (ds : List Descriptor) → cost (cap_table_written ds) ≤ 8388605 → list_all descriptor_fits ds ≡ true
table_cost [] dear = refl
table_cost (d ∷ ds) dear = each_cost (d ∷ ds) (omega arith)

payload_cost : (p : Payload) → cost (payload_written p) ≤ 8388605 → payload_fits p ≡ true
payload_cost p dear =
    let long = list_cost 1 1 descriptor_written p.cap_table in
    both _ _ (is_less (length p.cap_table * 2) 536870912 (omega arith)) (table_cost p.cap_table (omega arith))

returned_cost : (r : Returned) → cost (returned_pointer r) ≤ 8388605 → returned_fits r ≡ true
returned_cost (returns.Results p) dear = payload_cost p dear
returned_cost (returns.Exception e) dear = exception_cost e dear
returned_cost returns.Canceled dear = refl
returned_cost returns.ResultsSentElsewhere dear = refl
returned_cost (returns.TakeFromOtherQuestion q) dear = refl
returned_cost (returns.AcceptFromThirdParty t) dear = refl
returned_cost (returns.Unknown n) dear = refl

resolution_cost : (r : Resolution) → cost (resolution_pointer r) ≤ 8388605 → resolution_fits r ≡ true
resolution_cost (resolutions.Cap d) dear = descriptor_cost d (omega arith)
resolution_cost (resolutions.Exception e) dear = exception_cost e dear
resolution_cost (resolutions.Unknown n) dear = refl

member_cost : (m : Message) → cost (member_written m) ≤ 8388605 → message_fits m ≡ true
member_cost (messages.Unimplemented t) dear = refl
member_cost (messages.Abort e) dear = exception_cost e dear
member_cost (messages.Call c) dear = both _ _ (target_cost c.target (omega arith)) (payload_cost c.params (omega arith))
member_cost (messages.Return r) dear = returned_cost r.returned (omega arith)
member_cost (messages.Finish f) dear = refl
member_cost (messages.Resolve r) dear = resolution_cost r.resolution (omega arith)
member_cost (messages.Release r) dear = refl
member_cost (messages.Bootstrap b) dear = refl
member_cost (messages.Disembargo d) dear = target_cost d.target (omega arith)
member_cost (messages.Other n t) dear = refl

-- what costs so little has short lists
pub message_cost : (m : Message) → cost (message_written m) ≤ 8388608 → message_fits m ≡ true
message_cost m dear = member_cost m (omega arith)
