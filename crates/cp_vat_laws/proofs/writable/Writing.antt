-- What a vat sends can be written.
use Rattle.std.proofs.Common.{◌≡◌, ℕ, ◌+◌, ◌*◌, ◌≤◌, leb, true, List, [], ◌∷◌, length, map, sym, ◌∙◌, subst, arith, length-append}
use Rattle.std.proofs.Math.Nat.{max-le}
use Rattle.std.proofs.lemmas.List.{length-map}
use Rattle.cp_tree.specs.Node.{Node, Nodes, no_nodes, node, null, struct, Bodies, depth, greatest_depth, deepest_body, cost, count, total_cost, body_cost, number_of}
use Rattle.cp_tree.specs.NodeOf.{bodies_of}
use Rattle.cp_tree.proofs.Trees.{number_in}
use Rattle.cp_messages.specs.Written.{body_written, bootstrap_written, call_written, cap_table_written, descriptor_written, descriptor_pointer, disembargo_written, exception_written, finish_written, member_written, message_written, op_written, payload_written, promised_answer_written, release_written, resolution_pointer, resolve_written, return_written, returned_pointer, target_written, target_pointer, text_written, third_party_written, transform_written}
use Rattle.cp_messages.specs.declared.call.Call.{Call}
use Rattle.cp_messages.specs.declared.call.SendResultsTo.{SendResultsTo}
use Rattle.cp_messages.specs.declared.call.SendResultsTo.TheVariants as results_to
use Rattle.cp_messages.specs.declared.exception.Exception.{Exception}
use Rattle.cp_messages.specs.declared.promised_answer.Op.{Op}
use Rattle.cp_messages.specs.declared.promised_answer.PromisedAnswer.{PromisedAnswer}
use Rattle.cp_messages.specs.declared.target.Target.{Target}
use Rattle.cp_messages.specs.declared.target.Target.TheVariants as targets
use Rattle.cp_messages.specs.declared.descriptor.Descriptor.{Descriptor}
use Rattle.cp_messages.specs.declared.descriptor.Descriptor.TheVariants as descriptors
use Rattle.cp_messages.specs.declared.payload.Payload.{Payload}
use Rattle.cp_messages.specs.declared.returned.Returned.{Returned}
use Rattle.cp_messages.specs.declared.returned.Returned.TheVariants as returns
use Rattle.cp_messages.specs.declared.resolve.Resolution.{Resolution}
use Rattle.cp_messages.specs.declared.resolve.Resolution.TheVariants as resolutions
use Rattle.cp_messages.specs.declared.message.Message.{Message}
use Rattle.cp_messages.specs.declared.message.Message.TheVariants as messages
use Rattle.cp_vat_machine.specs.Capacity.{exception_fits}
use Rattle.cp_vat_machine.specs.declared.effect.Effect.{Effect}
use Rattle.cp_vat_machine.specs.declared.effect.Effect.TheVariants as effects
use Rattle.cp_vat_laws.specs.Sizes.{AreWritable, IsWritable, IsWritten}
use Rattle.cp_vat_laws.proofs.writable.Caps.{all_both, both}
use Rattle.cp_vat_laws.proofs.writable.Keeping.{AreSaid, AreSent, CanSend, IsSaid, IsSent, PayloadSaid, ResolutionSaid, ReturnedSaid, TargetSaid, at_most, is_most}

-- A tree, a row of trees and the bodies of a list that nest so deep at most and cost so much at most.
pub record Within (n d : ℕ) (t : Node) : Type 0 where
  pub deep : depth t ≤ n
  pub dear : cost t ≤ d

pub record RowWithin (n d : ℕ) (ts : Nodes) : Type 0 where
  pub deep : greatest_depth ts ≤ n
  pub dear : total_cost ts ≤ d

pub record BodiesWithin (n d : ℕ) (bs : Bodies) : Type 0 where
  pub deep : deepest_body bs ≤ n
  pub dear : body_cost bs ≤ d

null_within : (n d : ℕ) → Within n d null
null_within n d = record { deep = omega arith; dear = omega arith }

no_more_trees : (n : ℕ) → RowWithin n 0 no_nodes
no_more_trees n = record { deep = omega arith; dear = omega arith }

first_tree : (n d e : ℕ) (t : Node) (ts : Nodes) → Within n d t → RowWithin n e ts → RowWithin n (d + e) (node t ts)
first_tree n d e t ts here rest =
    let a = here.dear in
    let b = rest.dear in
    record { deep = max-le here.deep rest.deep; dear = omega arith }

struct_within : (n d e : ℕ) (ws : List ℕ) (ts : Nodes) → RowWithin n d ts → 1 + length ws + count ts + d ≤ e → Within (n + 1) e (struct ws ts)
struct_within n d e ws ts rows most =
    let a = rows.deep in
    let b = rows.dear in
    record { deep = omega arith; dear = omega arith }

wider : (n m d e : ℕ) (t : Node) → Within n d t → n ≤ m → d ≤ e → Within m e t
wider n m d e t here deep dear =
    let a = here.deep in
    let b = here.dear in
    record { deep = omega arith; dear = omega arith }

-- ---- texts
text_within : (bs : List ℕ) → length bs ≤ 65536 → Within 1 8194 (text_written bs)
text_within [] short = null_within 1 8194
text_within (b ∷ bs) short = let n = length-append (b ∷ bs) (0 ∷ []) in record { deep = omega arith; dear = omega arith }

exception_within : (x : Exception) → exception_fits x ≡ true → Within 2 16392 (exception_written x)
exception_within x fits =
    let sizes = both (leb (length x.reason) 65536) (leb (length x.trace) 65536) fits in
    let rows = first_tree 1 8194 8194 _ _ (text_within x.reason (at_most _ _ sizes.0)) (first_tree 1 8194 0 _ _ (text_within x.trace (at_most _ _ sizes.1)) (no_more_trees 1)) in
    struct_within 1 16388 16392 _ _ rows (omega arith)

-- ---- paths
ops_within : (ops : List Op) → BodiesWithin 0 0 (bodies_of (map body_written (map op_written ops)))
ops_within [] = record { deep = omega arith; dear = omega arith }
ops_within (op ∷ ops) =
    let rest = ops_within ops in
    let b = rest.dear in
    record { deep = max-le (omega arith) rest.deep; dear = omega arith }

transform_within : (ops : List Op) → length ops ≤ 16 → Within 1 34 (transform_written ops)
transform_within [] short = null_within 1 34
transform_within (op ∷ ops) short =
    let each = ops_within (op ∷ ops) in
    let a = each.deep in
    let b = each.dear in
    let size : number_of (bodies_of (map body_written (map op_written (op ∷ ops)))) ≡ length (op ∷ ops) = number_in body_written (map op_written (op ∷ ops)) ∙ length-map (op ∷ ops) op_written in
    record { deep = omega arith; dear = omega arith }

promised_within : (p : PromisedAnswer) → leb (length p.transform) 16 ≡ true → Within 2 37 (promised_answer_written p)
promised_within p short = struct_within 1 34 37 _ _ (first_tree 1 34 0 _ _ (transform_within p.transform (at_most _ _ short)) (no_more_trees 1)) (omega arith)

target_pointer_within : (t : Target) → TargetSaid t → Within 2 37 (target_pointer t)
target_pointer_within (targets.ImportedCap id) said = null_within 2 37
target_pointer_within (targets.PromisedAnswer p) said = promised_within p said
target_pointer_within (targets.Unknown n) said = null_within 2 37

target_within : (t : Target) → TargetSaid t → Within 3 40 (target_written t)
target_within t said = struct_within 2 37 40 _ _ (first_tree 2 37 0 _ _ (target_pointer_within t said) (no_more_trees 2)) (omega arith)

-- ---- capability tables
pointer_within : (d : Descriptor) → IsSaid d → Within 2 37 (descriptor_pointer d)
pointer_within descriptors.None said = null_within 2 37
pointer_within (descriptors.SenderHosted id) said = null_within 2 37
pointer_within (descriptors.SenderPromise id) said = null_within 2 37
pointer_within (descriptors.ReceiverHosted id) said = null_within 2 37
pointer_within (descriptors.ReceiverAnswer p) said = promised_within p said
pointer_within (descriptors.ThirdPartyHosted t) said = absurd said
pointer_within (descriptors.Unknown n) said = null_within 2 37

descriptor_within : (d : Descriptor) → IsSaid d → Within 3 40 (descriptor_written d)
descriptor_within d said = struct_within 2 37 40 _ _ (first_tree 2 37 0 _ _ (pointer_within d said) (no_more_trees 2)) (omega arith)

each_within : (ds : List Descriptor) → AreSaid ds → BodiesWithin 2 (37 * length ds) (bodies_of (map body_written (map descriptor_written ds)))
each_within [] said = record { deep = omega arith; dear = omega arith }
each_within (d ∷ ds) said =
    let here = pointer_within d said.0 in
    let rest = each_within ds said.1 in
    let a = here.dear in
    let b = rest.dear in
    record { deep = max-le (max-le here.deep (omega arith)) rest.deep; dear = omega arith }

table_within : (ds : List Descriptor) → length ds ≤ 1024 → AreSaid ds → Within 3 40962 (cap_table_written ds)
table_within [] short said = null_within 3 40962
table_within (d ∷ ds) short said =
    let each = each_within (d ∷ ds) said in
    let a = each.deep in
    let b = each.dear in
    let size : number_of (bodies_of (map body_written (map descriptor_written (d ∷ ds)))) ≡ length (d ∷ ds) = number_in body_written (map descriptor_written (d ∷ ds)) ∙ length-map (d ∷ ds) descriptor_written in
    record { deep = omega arith; dear = omega arith }

payload_within : (p : Payload) → PayloadSaid p → Within 61 4235269 (payload_written p)
payload_within p said =
    let sizes = both (leb (depth p.content) 60) (leb (cost p.content) 4194304) said.0 in
    let content : Within 60 4194304 p.content = record { deep = at_most _ _ sizes.0; dear = at_most _ _ sizes.1 } in
    let table = wider 3 60 40962 40962 _ (table_within p.cap_table said.1 said.2) (omega arith) (omega arith) in
    struct_within 60 4235266 4235269 _ _ (first_tree 60 4194304 40962 _ _ content (first_tree 60 40962 0 _ _ table (no_more_trees 60))) (omega arith)

-- ---- messages
third_within : (to : SendResultsTo) → to ≡ results_to.Caller → Within 61 0 (third_party_written to)
third_within to is = subst (λ to. Within 61 0 (third_party_written to)) (sym is) (null_within 61 0)

call_within : (c : Call) → TargetSaid c.target × PayloadSaid c.params × (c.send_results_to ≡ results_to.Caller) → Within 62 4235316 (call_written c)
call_within c said =
    let target = wider 3 61 40 40 _ (target_within c.target said.0) (omega arith) (omega arith) in
    let rows = first_tree 61 40 4235269 _ _ target (first_tree 61 4235269 0 _ _ (payload_within c.params said.1) (first_tree 61 0 0 _ _ (third_within c.send_results_to said.2) (no_more_trees 61))) in
    struct_within 61 4235309 4235316 _ _ rows (omega arith)

returned_within : (r : Returned) → ReturnedSaid r → Within 61 4235269 (returned_pointer r)
returned_within (returns.Results p) said = payload_within p said
returned_within (returns.Exception x) said = wider 2 61 16392 4235269 _ (exception_within x said) (omega arith) (omega arith)
returned_within returns.Canceled said = null_within 61 4235269
returned_within returns.ResultsSentElsewhere said = absurd said
returned_within (returns.TakeFromOtherQuestion q) said = absurd said
returned_within (returns.AcceptFromThirdParty t) said = absurd said
returned_within (returns.Unknown n) said = absurd said

resolution_within : (r : Resolution) → ResolutionSaid r → Within 3 16392 (resolution_pointer r)
resolution_within (resolutions.Cap d) said = wider 3 3 40 16392 _ (descriptor_within d said) (omega arith) (omega arith)
resolution_within (resolutions.Exception x) said = wider 2 3 16392 16392 _ (exception_within x said) (omega arith) (omega arith)
resolution_within (resolutions.Unknown n) said = absurd said

written : (m : Message) → Within 62 4235400 (member_written m) → IsWritable m
written m here =
    let whole : Within 63 4235403 (message_written m) = struct_within 62 4235400 4235403 _ _ (first_tree 62 4235400 0 _ _ here (no_more_trees 62)) (omega arith) in
    let deep : depth (message_written m) ≤ 64 = let a = whole.deep in omega arith in
    let dear : cost (message_written m) ≤ 8388608 = let b = whole.dear in omega arith in
    all_both _ _ (is_most (depth (message_written m)) 64 deep) (is_most (cost (message_written m)) 8388608 dear)

pub can_write : (m : Message) → CanSend m → IsWritable m
can_write (messages.Unimplemented t) said = said
can_write (messages.Abort x) said = written (messages.Abort x) (wider 2 62 16392 4235400 (exception_written x) (exception_within x said) (omega arith) (omega arith))
can_write (messages.Call c) said = written (messages.Call c) (wider 62 62 4235316 4235400 (call_written c) (call_within c said) (omega arith) (omega arith))
can_write (messages.Return r) said =
    let here : Within 62 4235400 (return_written r) = struct_within 61 4235269 4235400 _ _ (first_tree 61 4235269 0 _ _ (returned_within r.returned said) (no_more_trees 61)) (omega arith) in
    written (messages.Return r) here
can_write (messages.Finish f) said =
    let here : Within 1 3 (finish_written f) = struct_within 0 0 3 _ _ (no_more_trees 0) (omega arith) in
    written (messages.Finish f) (wider 1 62 3 4235400 (finish_written f) here (omega arith) (omega arith))
can_write (messages.Resolve r) said =
    let here : Within 4 16400 (resolve_written r) = struct_within 3 16392 16400 _ _ (first_tree 3 16392 0 _ _ (resolution_within r.resolution said) (no_more_trees 3)) (omega arith) in
    written (messages.Resolve r) (wider 4 62 16400 4235400 (resolve_written r) here (omega arith) (omega arith))
can_write (messages.Release r) said =
    let here : Within 1 3 (release_written r) = struct_within 0 0 3 _ _ (no_more_trees 0) (omega arith) in
    written (messages.Release r) (wider 1 62 3 4235400 (release_written r) here (omega arith) (omega arith))
can_write (messages.Bootstrap b) said =
    let here : Within 1 3 (bootstrap_written b) = struct_within 0 0 3 _ _ (first_tree 0 0 0 _ _ (null_within 0 0) (no_more_trees 0)) (omega arith) in
    written (messages.Bootstrap b) (wider 1 62 3 4235400 (bootstrap_written b) here (omega arith) (omega arith))
can_write (messages.Disembargo d) said =
    let here : Within 4 50 (disembargo_written d) = struct_within 3 40 50 _ _ (first_tree 3 40 0 _ _ (target_within d.target said) (no_more_trees 3)) (omega arith) in
    written (messages.Disembargo d) (wider 4 62 50 4235400 (disembargo_written d) here (omega arith) (omega arith))
can_write (messages.Other which t) said = absurd said

is_written : (effect : Effect) → IsSent effect → IsWritten effect
is_written (effects.Send m) said = can_write m said
is_written (effects.Deliver k origin ticket request) said = tt
is_written (effects.Settled q outcome) said = tt
is_written (effects.Closed reason) said = tt

pub are_written : (all : List Effect) → AreSent all → AreWritable all
are_written [] said = tt
are_written (effect ∷ more) said = (is_written effect said.0, are_written more said.1)
