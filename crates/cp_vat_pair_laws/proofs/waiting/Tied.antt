-- Promises that are tied to an answer are open.
use Rattle.std.specs.Prelude.{◌≡◌, ℕ, ◌+◌, ◌≤◌, not, ◌&&◌, cond, List, [], ◌∷◌}
use Rattle.std.specs.FinMap.{get}
use Rattle.std.specs.FinSet as set
use Rattle.std.proofs.Common.{arith, ap, ◌∙◌}
use Rattle.cp_vat_machine.specs.State.{State}
use Rattle.cp_vat_machine.specs.InUse.{is_unsettled}
use Rattle.cp_vat_machine.specs.Local.{one_if, tied_to}
use Rattle.cp_vat_machine.specs.declared.entry.Tied.{Tied}
use Rattle.cp_vat_machine.proofs.Basics.{is_itself}
use Rattle.cp_vat_pair_laws.specs.Turns.{AreOpen, TiedAreOpen}
use Rattle.cp_vat_laws.proofs.order.Settle.{one_more}
use Rattle.cp_vat_laws.proofs.order.Sound.{within_table, is_open, tied_once}

all_open : (s : State) (tied : List Tied)
    → ((p : ℕ) → tied_to p tied ≤ one_if (is_unsettled (get s.values.promises p) && not (set.contains s.entries.own_promises p))) → AreOpen s.values tied
all_open s [] h = tt
all_open s (tied ∷ more) h =
    let p = tied.promise in
    let all : tied_to p (tied ∷ more) ≡ 1 + tied_to p more = one_more p tied more ∙ ap (λ c. cond c 1 0 + tied_to p more) (is_itself p) in
    let once = tied_once (is_unsettled (get s.values.promises p)) (not (set.contains s.entries.own_promises p)) (tied_to p more) (rw (← all) (h p)) in
    (is_open (get s.values.promises p) once.0, once.1, all_open s more (λ r. omega (arith, h r, one_more r tied more)))

pub tied_are_open : TiedAreOpen
tied_are_open s a entry tied is =
    all_open s entry.kept.tied (λ p. omega (arith, tied p, within_table (λ e. tied_to p e.kept.tied) a entry s.entries.answers is))
