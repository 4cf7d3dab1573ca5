-- Why a message isn't written.
use Rattle.std.specs.Prelude.{◌≡◌, false, true}
use Rattle.cp_tree.specs.Shaped.{Shaped}
use Rattle.cp_tree.specs.declared.fault.WriteFault.{WriteFault}
use Rattle.cp_tree.specs.declared.fault.WriteFault.TheVariants as faults
use Rattle.cp_messages.specs.Fitting.{message_fits}
use Rattle.cp_messages.specs.Written.{message_written}
use Rattle.cp_messages.specs.declared.message.Message.{Message}

-- A list is too long, so that no message can hold the tree; or each is short enough, and memory ran out.
abbrev pub IsRefusalOf : Message → WriteFault → Type 0
IsRefusalOf m faults.TooCostly = (message_fits m ≡ false) × ¬ (Shaped (message_written m))
IsRefusalOf m faults.OutOfMemory = message_fits m ≡ true
IsRefusalOf m other = ⊥
