use Rattle.std.proofs.Common.{refl, ◌∙◌, ap, append_assoc, ◌++◌}
use Rattle.cp_vat_machine.specs.Step.{aborts, all_left, found_full}
use Rattle.cp_vat.proofs.ending.follow.Goals as goal
use Rattle.cp_vat.proofs.ending.follow.Goals.{in-Ok, in-Err-Fault+in_ok-abort-in-Err-Fault}

pub returns : goal.returns
returns g c =
    elim c.match-leave.branch [
      | in-Ok w ↦
          rw (c.new.ensures, w.effects-is, w.core-is)
          (refl, (w.in-Ok.ensures.0, w.in-Ok.ensures.1, all_left w.in-Ok.ensures.2))
      | in-Err-Fault+in_ok-abort-in-Err-Fault w ↦
          let full = rw w.in-Err-Fault.field-0-is at w.in-Err-Fault.ensures in
          let told = aborts w.in-Err-Fault.fault in
          rw (c.new.ensures, w.effects-is, w.core-is) (
            refl,
            (full.0 ++ told, w.in_ok-abort-in-Err-Fault.ensures ∙ ap (λ e. e ++ told) full.1 ∙ append_assoc _ full.0 told, found_full full.2 refl refl),
          )
    ]

pub leave-requires : goal.leave-requires
leave-requires g c = c.requires
