-- A message that a vat sends is put after a block, unless memory runs out.
use Rattle.std.proofs.Common.{◌≡◌, ℕ, ◌≤◌, ◌&&◌, leb, Bool, true, false, [], ◌∷◌, refl, sym, true≢false, ◌∙◌, arith, inl, inr}
use Rattle.std.proofs.lemmas.Bool.Decides.{nat_tests}
use Rattle.cp_words.specs.Limits.{standard}
use Rattle.cp_tree.specs.Node.{no_nodes, node, depth, cost}
use Rattle.cp_tree.specs.declared.fault.WriteFault.{WriteFault}
use Rattle.cp_tree.specs.declared.fault.WriteFault.TheVariants as writes
use Rattle.cp_writing.proofs.CostWords.{not_too_many}
use Rattle.cp_messages.specs.Written.{member_written, message_written, message_number, u16_part}
use Rattle.cp_messages.specs.declared.message.Message.{Message}
use Rattle.cp_stream.specs.Write.{IsNotLaidOut}
use Rattle.cp_vat_laws.specs.Sizes.{IsWritable}
use Rattle.cp_vat.proofs.Costing.{message_cost}

both_true : (a b : Bool) → (a && b) ≡ true → (a ≡ true) × (b ≡ true)
both_true true b h = (refl, h)
both_true false b h = absurd (true≢false (sym h))

at_most : (a b : ℕ) → leb a b ≡ true → a ≤ b
at_most a b h = grind (arith, nat_tests)

module _ (m : Message) (writes_ : IsWritable m) where
  flat : depth (message_written m) ≤ 64
  flat = at_most (depth (message_written m)) 64 (both_true _ _ writes_).0

  cheap : cost (message_written m) ≤ 8388608
  cheap = at_most (cost (message_written m)) 8388608 (both_true _ _ writes_).1

  -- only memory keeps it from being laid out
  pub is_memory : (fault : WriteFault) → IsNotLaidOut standard standard.frame_words 1 m fault → fault ≡ writes.OutOfMemory
  is_memory writes.OutOfMemory h = refl
  is_memory writes.TooDeep (inl h) = absurd h
  is_memory writes.TooDeep (inr h) = absurd (omega (arith, h.1, flat))
  is_memory writes.TooCostly (inl h) = absurd (true≢false (sym (message_cost m cheap) ∙ h.0))
  is_memory writes.TooCostly (inr h) = absurd (omega (arith, h.1.1, cheap))
  is_memory writes.TooManyWords (inl h) = absurd h
  is_memory writes.TooManyWords (inr h) =
      absurd (not_too_many standard 8388608 (u16_part 0 (message_number m) ∷ []) (node (member_written m) no_nodes) (omega arith) h.0 cheap h.1)
