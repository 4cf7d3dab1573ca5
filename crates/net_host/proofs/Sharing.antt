-- Whatever turns and news there are, what is kept stays within a host's budget.
use Rattle.std.proofs.Common.{◌≡◌, ◌≤◌, ℕ, Option, Some, None, ap, arith}
use Rattle.std.specs.FinMap.{insert, remove}
use Rattle.cp_refs.specs.Memory.{counted}
use Rattle.cp_objects.specs.ObjectTable.{ObjectTableKind}
use Rattle.cp_session.specs.Budget.{IsWithin, Keeping, allowed}
use Rattle.cp_session.proofs.Sharing.{stays}
use Rattle.net_host.specs.Floor.{Floor, ReportsWithin, Rounds, Tells, Turns, begins, bounces, delivers, delivers_short, ends, goes_on, number_of, rests, sweeps, turns}
use Rattle.net_host.specs.Waking.{key_of}
use Rattle.net_host.specs.HostedConnections.{kept_by}
use Rattle.net_host.specs.declared.host.HostEvent.{HostEvent}
use Rattle.net_host.specs.declared.host.HostEvent.TheVariants as all_news

-- a connection came to keep no more than it may, or is served no more
noted : (k next : Keeping) (number bytes : ℕ) → bytes ≤ counted (allowed k number) → next ≡ record k { kept = insert k.kept number bytes } → IsWithin k → IsWithin next
noted k next number bytes few is within = rw is ((stays k number bytes within).0 (omega (arith, few)))

forgotten : (k next : Keeping) (number : ℕ) → next ≡ record k { kept = remove k.kept number } → IsWithin k → IsWithin next
forgotten k next number is within = rw is (stays k number 0 within).1

same : (k next : Keeping) → next ≡ k → IsWithin k → IsWithin next
same k next is within = rw is within

module _ {H : Type 0} where
  told : (old new : Floor H) (news : Option HostEvent) → Tells old news new → IsWithin old.budget → IsWithin new.budget
  told old new None h within = same old.budget new.budget (ap (λ (f : Floor H). f.budget) h.0) within
  told old new (Some (all_news.Connected n peer)) h within = same old.budget new.budget (ap (λ (f : Floor H). f.budget) h.0) within
  told old new (Some (all_news.Refused peer)) h within = same old.budget new.budget (ap (λ (f : Floor H). f.budget) h.0) within
  told old new (Some all_news.Woken) h within = same old.budget new.budget (ap (λ (f : Floor H). f.budget) h.0) within
  told old new (Some (all_news.Ended n peer end stats)) h within = same old.budget new.budget h.2 within

module _ {H : Type 0} {table : ObjectTableKind H} where
  turned : (old new : Floor H) → Turns table old new → IsWithin old.budget → IsWithin new.budget
  turned old new (rests r) within = same old.budget new.budget r.budget within
  turned old new (goes_on key one next sent was stays puts ended note added awaits) within =
      noted old.budget new.budget (number_of key) (kept_by table next) stays.within note within
  turned old new (ends key one last sent end was by puts ended forgets added due) within = forgotten old.budget new.budget (number_of key) forgets within
  turned old new (delivers letter one next first served takes puts ended as_much awaits) within = same old.budget new.budget as_much within
  turned old new (bounces letter rest first unserved back still ended as_much due) within = same old.budget new.budget as_much within
  turned old new (delivers_short letter one failed last rest sent end first served lost short added puts ended forgets due) within =
      forgotten old.budget new.budget (number_of (key_of letter.to)) forgets within
  turned old new (sweeps still ended as_much waits first) within = same old.budget new.budget as_much within

  in_rounds : (old new : Floor H) → Rounds table old new → IsWithin old.budget → IsWithin new.budget
  in_rounds old new begins within = within
  in_rounds old new (turns {mid = mid} before turn) within = turned mid new turn (in_rounds old mid before within)

  pub reports_within : ReportsWithin table
  reports_within old new news h within = told h.0 new news h.2 (in_rounds old h.0 h.1 within)
