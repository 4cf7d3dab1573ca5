-- What the tree of an Unimplemented tells.
use Rattle.std.proofs.Common.{◌≡◌, List, [], ◌∷◌, Some, None, Result, Err, refl, sym, ap, ◌∙◌, subst}
use Rattle.cp_tree.specs.Node.{Node, null, cap, struct, list, ptrs, structs}
use Rattle.cp_rpc.specs.Answers.{first_of}
use Rattle.cp_rpc.specs.Looked.{look_of}
use Rattle.cp_rpc.specs.declared.source.SourceKind.TheVariants as looks
use Rattle.cp_messages.specs.Says.{Says}
use Rattle.cp_messages.specs.Denoted.{message_denoted}
use Rattle.cp_messages.specs.Faults.{message_faults}
use Rattle.cp_messages.specs.declared.fault.SchemaFault.{SchemaFault}
use Rattle.cp_messages.specs.declared.message.Message.{Message}
use Rattle.cp_messages.specs.declared.message.Message.TheVariants as messages
use Rattle.cp_messages.specs.declared.resolve.Resolve.{Resolve}
use Rattle.cp_vat_machine.specs.State.{State}
use Rattle.cp_vat_machine.specs.Resolving.{OnUnimplemented, UnknownToPeer, told, told_by}
use Rattle.cp_vat_machine.specs.declared.fault.PeerFault.TheVariants as faults
use Rattle.cp_vat_state.specs.Halts.{Quiet}
use Rattle.cp_vat_state.specs.declared.step_fault.StepFault.{StepFault}

-- A tree that is no struct says a message that isn't a Resolve.
pub no_struct_seen : (old : State) (t : Node) → (look_of t ≡ looks.Struct → ⊥) → OnUnimplemented old t (Err faults.PeerLacksLevelOne)
no_struct_seen old (struct ws ts) other = absurd (other refl)
no_struct_seen old null other = refl
no_struct_seen old (cap i) other = refl
no_struct_seen old (list es) other = refl
no_struct_seen old (ptrs ts) other = refl
no_struct_seen old (structs d n bs) other = refl

-- any other message is needed
pub is_needed : (old : State) (m : Message) → ((r : Resolve) → m ≡ messages.Resolve r → ⊥) → UnknownToPeer old (Some m) (Err faults.PeerLacksLevelOne)
is_needed old (messages.Unimplemented t) other = refl
is_needed old (messages.Abort x) other = refl
is_needed old (messages.Call x) other = refl
is_needed old (messages.Return x) other = refl
is_needed old (messages.Finish x) other = refl
is_needed old (messages.Resolve r) other = absurd (other r refl)
is_needed old (messages.Release x) other = refl
is_needed old (messages.Bootstrap x) other = refl
is_needed old (messages.Disembargo x) other = refl
is_needed old (messages.Other n t) other = refl

says_told : (t : Node) (m : Message) → Says t m → Some m ≡ told t
says_told t m says = sym (ap (λ fs. told_by fs (message_denoted t)) says.sound ∙ ap Some (sym says.said))

-- what the peer doesn't know of a message that a tree says, it doesn't know of the tree
pub told_quiet : (old new : State) (t root : Node) (m : Message) (r : Result (Unit {0}) StepFault) → root ≡ t → Says root m → Quiet (UnknownToPeer old (Some m)) r new → Quiet (OnUnimplemented old t) r new
told_quiet old new t root m r same says acts =
    subst (λ q. Quiet (OnUnimplemented old q) r new) same (subst (λ o. Quiet (UnknownToPeer old o) r new) (says_told root m says) acts)

faulty : (fs : List SchemaFault) (f : SchemaFault) (m : Message) → first_of fs ≡ Some f → None ≡ told_by fs m
faulty [] f m first = cc
faulty (g ∷ fs) f m first = refl

-- a tree that says none
pub none_told : (old : State) (t : Node) (f : SchemaFault) → first_of (message_faults t) ≡ Some f → OnUnimplemented old t (Err faults.PeerLacksLevelOne)
none_told old t f first = subst (λ o. UnknownToPeer old o (Err faults.PeerLacksLevelOne)) (faulty (message_faults t) f (message_denoted t) first) refl
