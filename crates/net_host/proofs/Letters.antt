-- Letters are delivered in order.
use Rattle.std.proofs.Common.{◌≡◌, ◌∙◌, ◌∷◌, ◌++◌, [], List, option_to_list, refl, sym, ap, append-nil, append_assoc}
use Rattle.cp_objects.specs.declared.letters.Letter.{Letter}
use Rattle.cp_objects.specs.Letters.{bounced}
use Rattle.cp_objects.specs.ObjectTable.{ObjectTableKind}
use Rattle.net_host.specs.Floor.{Floor, Rounds, Turns, begins, bounces, delivers, delivers_short, ends, goes_on, rests, sweeps, turns}
use Rattle.net_host.specs.Letters.{DeliversInOrder, taken_by, taken_in, written_by, written_in}

module _ {H : Type 0} {table : ObjectTableKind H} where
  turn_in_order : (old new : Floor H) (turn : Turns table old new) → old.letters ++ written_by turn ≡ taken_by turn ++ new.letters
  turn_in_order old new (rests r) = append-nil old.letters ∙ sym r.letters
  turn_in_order old new (goes_on key one next sent was stays puts ended notes added awaits) = sym added
  turn_in_order old new (ends key one last sent end was by puts queued forgets added due) = sym added
  turn_in_order old new (delivers letter one next first served takes puts ended budget awaits) = append-nil old.letters ∙ first
  turn_in_order old new (bounces letter rest first unserved back same ended budget due) =
      ap (λ (x : List Letter). x ++ option_to_list (bounced letter)) first ∙ ap (λ (x : List Letter). letter ∷ x) (sym back)
  turn_in_order old new (delivers_short letter one failed last rest sent end first served lost short added puts queued forgets due) =
      ap (λ (x : List Letter). x ++ sent) first ∙ ap (λ (x : List Letter). letter ∷ x) (sym added)
  turn_in_order old new (sweeps still ended budget letters first) = append-nil old.letters ∙ sym letters

  pub in_order : DeliversInOrder table
  in_order old new begins = append-nil old.letters
  in_order old new (turns {mid = mid} before one) =
      sym (append_assoc old.letters (written_in before) (written_by one)) ∙ ap (λ (x : List Letter). x ++ written_by one) (in_order old mid before)
      ∙ append_assoc (taken_in before) mid.letters (written_by one) ∙ ap (λ (x : List Letter). taken_in before ++ x) (turn_in_order mid new one)
      ∙ sym (append_assoc (taken_in before) (taken_by one) new.letters)
