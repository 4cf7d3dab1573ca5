-- No connection is served whose stream failed.
use Rattle.std.proofs.Common.{◌≡◌, ◌∙◌, ℕ, Option, Some, None, inl, inr, sym, ap, subst}
use Rattle.std.proofs.lemmas.Bool.{cases_eq}
use Rattle.cp_objects.specs.ObjectTable.{ObjectTableKind}
use Rattle.net_host.specs.declared.host.HostEvent.{HostEvent}
use Rattle.net_host.specs.declared.host.HostEvent.TheVariants as all_news
use Rattle.net_host.specs.Floor.{Begins, Floor, Puts, Rounds, Tells, Turns, begins, bounces, delivers, delivers_short, ends, goes_on, rests, sweeps, turns}
use Rattle.net_host.specs.HostedConnections.{Served}
use Rattle.net_host.specs.Once.{IsUnfailed, NoneFailed, StaysUnfailed}
use Rattle.net_host.specs.Waking.{key_of}
use Rattle.net_host.proofs.Serving.{works_failure}

module _ {H : Type 0} where
  -- a key has another connection, or none
  unfailed_puts : (old new : ℕ → Option (Served H)) (key : ℕ) (slot : Option (Served H)) → Puts old key slot new → ((k : ℕ) → IsUnfailed (old k)) → IsUnfailed slot
      → (k : ℕ) → IsUnfailed (new k)
  unfailed_puts old new key slot puts before here k =
      elim (cases_eq k key) [
        | inl is ↦ subst (λ (s : Option (Served H)). IsUnfailed s) (sym (ap new is ∙ puts.here)) here
        | inr differs ↦ subst (λ (s : Option (Served H)). IsUnfailed s) (sym (puts.elsewhere k differs)) (before k)
      ]

  unfailed_same : (old new : ℕ → Option (Served H)) → new ≡ old → ((k : ℕ) → IsUnfailed (old k)) → (k : ℕ) → IsUnfailed (new k)
  unfailed_same old new same before k = subst (λ (f : ℕ → Option (Served H)). IsUnfailed (f k)) (sym same) (before k)

  told : (old new : Floor H) (news : Option HostEvent) → Tells old news new → NoneFailed old → NoneFailed new
  told old new None h none = unfailed_same old.served new.served (ap (λ (f : Floor H). f.served) h.0) none
  told old new (Some (all_news.Connected n peer)) h none = unfailed_same old.served new.served (ap (λ (f : Floor H). f.served) h.0) none
  told old new (Some (all_news.Refused peer)) h none = unfailed_same old.served new.served (ap (λ (f : Floor H). f.served) h.0) none
  told old new (Some all_news.Woken) h none = unfailed_same old.served new.served (ap (λ (f : Floor H). f.served) h.0) none
  told old new (Some (all_news.Ended n peer end stats)) h none = unfailed_same old.served new.served h.0 none

module _ {H : Type 0} {table : ObjectTableKind H} where
  pub begins_unfailed : (old new : Floor H) (one : Served H) → Begins table old one new → one.failure ≡ None → NoneFailed old → NoneFailed new
  begins_unfailed old new one h unfailed none = unfailed_puts old.served new.served h.key (Some one) h.puts none unfailed

  turned : (old new : Floor H) → Turns table old new → NoneFailed old → NoneFailed new
  turned old new (rests r) none = λ k. subst (λ (s : Option (Served H)). IsUnfailed s) (sym (r.same k)) (none k)
  turned old new (goes_on key one next sent was stays puts ended note added awaits) none =
      let had : one.failure ≡ None = subst (λ (s : Option (Served H)). IsUnfailed s) was (none key) in
      unfailed_puts old.served new.served key (Some next) puts none (works_failure stays.works ∙ had)
  turned old new (ends key one last sent end was by puts ended forgets added due) none = unfailed_puts old.served new.served key None puts none tt
  turned old new (delivers letter one next first served takes puts ended budget awaits) none =
      let had : one.failure ≡ None = subst (λ (s : Option (Served H)). IsUnfailed s) served.there (none (key_of letter.to)) in
      unfailed_puts old.served new.served (key_of letter.to) (Some next) puts none (ap (λ (x : Served H). x.failure) takes.1 ∙ had)
  turned old new (bounces letter rest first unserved back same ended budget due) none = λ k. subst (λ (s : Option (Served H)). IsUnfailed s) (sym (same k)) (none k)
  turned old new (delivers_short letter one failed last rest sent end first served lost short added puts ended forgets due) none =
      unfailed_puts old.served new.served (key_of letter.to) None puts none tt
  turned old new (sweeps same ended budget waits first) none = λ k. subst (λ (s : Option (Served H)). IsUnfailed s) (sym (same k)) (none k)

  in_rounds : (old new : Floor H) → Rounds table old new → NoneFailed old → NoneFailed new
  in_rounds old new begins none = none
  in_rounds old new (turns {mid = mid} before turn) none = turned mid new turn (in_rounds old mid before none)

  pub stays_unfailed : StaysUnfailed table
  stays_unfailed old new news h none = told h.0 new news h.2 (in_rounds old h.0 h.1 none)
