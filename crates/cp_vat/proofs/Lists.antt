-- The lists of a message cost no more than the tree that it is written as.
use Rattle.std.proofs.Common.{◌≡◌, ℕ, zero, suc, ◌+◌, ◌*◌, ◌<◌, ◌≤◌, List, [], ◌∷◌, length, take, map, get_or, ◌∙◌, add-one, arith}
use Rattle.std.proofs.lemmas.List.{length-map}
use Rattle.cp_tree.specs.Node.{cost, body_cost}
use Rattle.cp_tree.specs.NodeOf.{bodies_of}
use Rattle.cp_tree.proofs.Trees.{number_in}
use Rattle.cp_messages.specs.Written.{body_written, cap_table_written, descriptor_written, descriptor_pointer, list_written, member_written, message_written, op_written, promised_answer_written, resolution_pointer, returned_pointer, target_pointer}
use Rattle.cp_messages.specs.declared.promised_answer.PromisedAnswer.{PromisedAnswer}
use Rattle.cp_messages.specs.declared.target.Target.{Target}
use Rattle.cp_messages.specs.declared.target.Target.TheVariants as targets
use Rattle.cp_messages.specs.declared.descriptor.Descriptor.{Descriptor}
use Rattle.cp_messages.specs.declared.descriptor.Descriptor.TheVariants as descriptors
use Rattle.cp_messages.specs.declared.returned.Returned.{Returned}
use Rattle.cp_messages.specs.declared.returned.Returned.TheVariants as returns
use Rattle.cp_messages.specs.declared.resolve.Resolution.{Resolution}
use Rattle.cp_messages.specs.declared.resolve.Resolution.TheVariants as resolutions
use Rattle.cp_messages.specs.declared.message.Message.{Message}
use Rattle.cp_messages.specs.declared.message.Message.TheVariants as messages
use Rattle.cp_vat.specs.Echoing.{lists_in_each, lists_of_answer, lists_of_descriptor, lists_of_message, lists_of_resolution, lists_of_returned, lists_of_table, lists_of_target}

ops_cost : (p : PromisedAnswer) → lists_of_answer p ≤ cost (promised_answer_written p)
ops_cost p = let e = of_ops p.transform in omega arith
  where
    of_ops : (os : List _) → length os * 2 ≤ cost (list_written 1 0 (map op_written os))
    of_ops [] = omega arith
    of_ops (o ∷ os) =
        let size = number_in body_written (map op_written (o ∷ os)) ∙ length-map (o ∷ os) op_written in
        omega arith

target_lists : (t : Target) → lists_of_target t ≤ cost (target_pointer t)
target_lists (targets.ImportedCap id) = omega arith
target_lists (targets.PromisedAnswer p) = ops_cost p
target_lists (targets.Unknown n) = omega arith

descriptor_lists : (d : Descriptor) → lists_of_descriptor d ≤ cost (descriptor_pointer d)
descriptor_lists descriptors.None = omega arith
descriptor_lists (descriptors.SenderHosted id) = omega arith
descriptor_lists (descriptors.SenderPromise id) = omega arith
descriptor_lists (descriptors.ReceiverHosted id) = omega arith
descriptor_lists (descriptors.ReceiverAnswer p) = ops_cost p
descriptor_lists (descriptors.ThirdPartyHosted t) = omega arith
descriptor_lists (descriptors.Unknown n) = omega arith

each_lists : (ds : List Descriptor) → lists_in_each ds ≤ body_cost (bodies_of (map body_written (map descriptor_written ds)))
each_lists [] = omega arith
each_lists (d ∷ ds) = omega (arith, descriptor_lists d, each_lists ds)

table_lists : (ds : List Descriptor) → lists_of_table ds ≤ cost (cap_table_written ds)
table_lists [] = omega arith
table_lists (d ∷ ds) =
    let size = number_in body_written (map descriptor_written (d ∷ ds)) ∙ length-map (d ∷ ds) descriptor_written in
    omega (arith, each_lists (d ∷ ds))

returned_lists : (r : Returned) → lists_of_returned r ≤ cost (returned_pointer r)
returned_lists (returns.Results p) = omega (arith, table_lists p.cap_table)
returned_lists (returns.Exception e) = omega arith
returned_lists returns.Canceled = omega arith
returned_lists returns.ResultsSentElsewhere = omega arith
returned_lists (returns.TakeFromOtherQuestion q) = omega arith
returned_lists (returns.AcceptFromThirdParty t) = omega arith
returned_lists (returns.Unknown n) = omega arith

resolution_lists : (r : Resolution) → lists_of_resolution r ≤ cost (resolution_pointer r)
resolution_lists (resolutions.Cap d) = omega (arith, descriptor_lists d)
resolution_lists (resolutions.Exception e) = omega arith
resolution_lists (resolutions.Unknown n) = omega arith

member_lists : (m : Message) → lists_of_message m ≤ cost (member_written m)
member_lists (messages.Unimplemented t) = omega arith
member_lists (messages.Abort e) = omega arith
member_lists (messages.Call c) = omega (arith, target_lists c.target, table_lists c.params.cap_table)
member_lists (messages.Return r) = omega (arith, returned_lists r.returned)
member_lists (messages.Finish f) = omega arith
member_lists (messages.Resolve r) = omega (arith, resolution_lists r.resolution)
member_lists (messages.Release r) = omega arith
member_lists (messages.Bootstrap b) = omega arith
member_lists (messages.Disembargo d) = omega (arith, target_lists d.target)
member_lists (messages.Other n t) = omega arith

pub message_lists : (m : Message) → lists_of_message m ≤ cost (message_written m)
message_lists m = omega (arith, member_lists m)

-- the lists in one descriptor more
pub more_lists : (ds : List Descriptor) (i : ℕ) (d : Descriptor) → i < length ds → d ≡ get_or ds i d
    → lists_in_each (take (i + 1) ds) ≡ lists_in_each (take i ds) + lists_of_descriptor d
more_lists [] i d inside is = absurd (omega arith)
more_lists (x ∷ xs) zero d inside is = rw (← is) omega arith
more_lists (x ∷ xs) (suc i) d inside is =
    let e = rw (add-one i) at (more_lists xs i d (omega arith) is) in
    rw (add-one (suc i)) (omega (arith, e))

-- those of the first descriptors cost no more than all
pub some_lists : (ds : List Descriptor) (n : ℕ) → lists_in_each (take n ds) ≤ lists_in_each ds
some_lists [] zero = omega arith
some_lists [] (suc n) = omega arith
some_lists (x ∷ xs) zero = omega arith
some_lists (x ∷ xs) (suc n) = let e = some_lists xs n in omega arith

-- one descriptor more costs more than is left
pub not_enough : (ds : List Descriptor) (i : ℕ) (d : Descriptor) (left rest : ℕ) → i < length ds → d ≡ get_or ds i d
    → left ≡ length ds * 3 + lists_in_each (take i ds) + rest → rest < lists_of_descriptor d → left < lists_of_table ds
not_enough ds i d left rest inside is so_far less =
    let more = more_lists ds i d inside is in
    let some = some_lists ds (i + 1) in
    omega (arith, more, some)

-- and here it doesn't
pub enough : (ds : List Descriptor) (i : ℕ) (d : Descriptor) (left rest next : ℕ) → i < length ds → d ≡ get_or ds i d
    → left ≡ length ds * 3 + lists_in_each (take i ds) + rest → rest ≡ lists_of_descriptor d + next
    → left ≡ length ds * 3 + lists_in_each (take (i + 1) ds) + next
enough ds i d left rest next inside is so_far left_over =
    let more = more_lists ds i d inside is in
    omega (arith, more)
