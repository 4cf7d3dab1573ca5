-- Limits of time are looked at by the deadline of each connection.
use Rattle.std.proofs.Common.{◌≡◌, ◌⊎◌, ◌∙◌, ℕ, min, Option, Some, None, inl, inr, refl, sym, ap, subst, arith}
use Rattle.std.proofs.lemmas.Bool.{cases_eq, cases_order}
use Rattle.cp_objects.specs.ObjectTable.{ObjectTableKind}
use Rattle.cp_session.specs.Doing.{due_of}
use Rattle.cp_session.specs.Progress.{earlier}
use Rattle.net_host.specs.declared.host.HostEvent.{HostEvent}
use Rattle.net_host.specs.declared.host.HostEvent.TheVariants as all_news
use Rattle.net_host.specs.Floor.{AwaitsAll, AwaitsEach, BeginsAwaited, Floor, Puts, ReportsAwaited, Rounds, Tells, Turns, begins, bounces, delivers, delivers_short, ends, goes_on, rests, sweeps, turns}
use Rattle.net_host.specs.HostedConnections.{Served}
use Rattle.net_host.proofs.Timing.{same_some}
use Rattle.net_host.specs.Timing.{ComesBy}
use Rattle.net_host.specs.Waking.{key_of}

-- the earlier of two times comes by what either comes by
pub by_first : (deadline : ℕ) (one other : Option ℕ) → ComesBy deadline one → ComesBy deadline (earlier one other)
by_first deadline None other h = absurd (grind (arith, h.1))
by_first deadline (Some a) None h = h
by_first deadline (Some a) (Some b) h = (min a b, refl, omega (arith, same_some a h.0 h.1, h.2))

pub by_second : (deadline : ℕ) (one other : Option ℕ) → ComesBy deadline other → ComesBy deadline (earlier one other)
by_second deadline None other h = h
by_second deadline (Some a) None h = absurd (grind (arith, h.1))
by_second deadline (Some a) (Some b) h = (min a b, refl, omega (arith, same_some b h.0 h.1, h.2))

-- it is one of them
pub one_of : (time : ℕ) (one other : Option ℕ) → earlier one other ≡ Some time → (one ≡ Some time) ⊎ (other ≡ Some time)
one_of time None other e = inr e
one_of time (Some a) None e = inl e
one_of time (Some a) (Some b) e = smaller (same_some (min a b) time e)
  where
    smaller : min a b ≡ time → (Some a ≡ Some time) ⊎ (Some b ≡ Some time)
    smaller is =
        elim (cases_order a b) [
          | inl same ↦ inl (ap (λ x. Some x) (omega (arith, is, same)))
          | inr (inl less) ↦ inl (ap (λ x. Some x) (omega (arith, is, less)))
          | inr (inr more) ↦ inr (ap (λ x. Some x) (omega (arith, is, more)))
        ]

module _ {H : Type 0} (table : ObjectTableKind H) where
  -- nothing is served that wasn't
  same_each : (due next : Option ℕ) (old new : ℕ → Option (Served H)) → ((key : ℕ) → new key ≡ old key) → next ≡ due → AwaitsEach table due old → AwaitsEach table next new
  same_each due next old new same is each key deadline one there has =
      subst (λ d. ComesBy deadline d) (sym is) (each key deadline one (sym (same key) ∙ there) has)

  -- one is served in another state, or from now on, and its deadline counts
  put_each : (due next : Option ℕ) (old new : ℕ → Option (Served H)) (key : ℕ) (one : Served H) → Puts old key (Some one) new → next ≡ earlier due (due_of table one.session)
      → AwaitsEach table due old → AwaitsEach table next new
  put_each due next old new key one puts is each other deadline it there has =
      elim (cases_eq other key) [
        | inl at ↦
            let same : Some one ≡ Some it = sym puts.here ∙ sym (ap new at) ∙ there in
            let own : due_of table one.session ≡ Some deadline = its_due one it same ∙ has in
            subst (λ d. ComesBy deadline d) (sym is) (by_second deadline due (due_of table one.session) (deadline, own, omega arith))
        | inr differs ↦
            subst (λ d. ComesBy deadline d) (sym is) (by_first deadline due (due_of table one.session) (each other deadline it (sym (puts.elsewhere other differs) ∙ there) has))
      ]
    where
      due_in : Option (Served H) → Option ℕ
      due_in None = None
      due_in (Some it) = due_of table it.session

      its_due : (a b : Served H) → Some a ≡ Some b → due_of table a.session ≡ due_of table b.session
      its_due a b e = ap (λ o. due_in o) e

  -- one is served no more
  out_each : (due next : Option ℕ) (old new : ℕ → Option (Served H)) (key : ℕ) → Puts old key None new → next ≡ due → AwaitsEach table due old → AwaitsEach table next new
  out_each due next old new key puts is each other deadline it there has =
      elim (cases_eq other key) [
        | inl at ↦ absurd (cc (ap new at, puts.here, there))
        | inr differs ↦ subst (λ d. ComesBy deadline d) (sym is) (each other deadline it (sym (puts.elsewhere other differs) ∙ there) has)
      ]

  turned : (old new : Floor H) → Turns table old new → AwaitsAll table old → AwaitsAll table new
  turned old new (rests r) all = same_each old.due new.due old.served new.served r.same r.due all
  turned old new (goes_on key one next sent was stays puts ended note added awaits) all = put_each old.due new.due old.served new.served key next puts awaits all
  turned old new (ends key one last sent end was by puts ended forgets added due) all = out_each old.due new.due old.served new.served key puts due all
  turned old new (delivers letter one next first served takes puts ended budget awaits) all =
      put_each old.due new.due old.served new.served (key_of letter.to) next puts awaits all
  turned old new (bounces letter rest first unserved back same ended budget due) all = same_each old.due new.due old.served new.served same due all
  turned old new (delivers_short letter one failed last rest sent end first served lost short added puts ended forgets due) all =
      out_each old.due new.due old.served new.served (key_of letter.to) puts due all
  turned old new (sweeps same ended budget waits first) all = first.each

  in_rounds : (old new : Floor H) → Rounds table old new → AwaitsAll table old → AwaitsAll table new
  in_rounds old new begins all = all
  in_rounds old new (turns {mid = mid} before turn) all = turned mid new turn (in_rounds old mid before all)

  told : (old new : Floor H) (news : Option HostEvent) → Tells old news new → AwaitsAll table old → AwaitsAll table new
  told old new None h all = subst (λ (f : Floor H). AwaitsAll table f) (sym h.0) all
  told old new (Some (all_news.Connected n peer)) h all = subst (λ (f : Floor H). AwaitsAll table f) (sym h.0) all
  told old new (Some (all_news.Refused peer)) h all = subst (λ (f : Floor H). AwaitsAll table f) (sym h.0) all
  told old new (Some all_news.Woken) h all = subst (λ (f : Floor H). AwaitsAll table f) (sym h.0) all
  told old new (Some (all_news.Ended n peer end stats)) h all = same_each old.due new.due old.served new.served (λ key. ap (λ f. f key) h.0) h.4 all

  pub reports_awaited : ReportsAwaited table
  reports_awaited old new news h all = told h.0 new news h.2 (in_rounds old h.0 h.1 all)

  pub begins_awaited : BeginsAwaited table
  begins_awaited old new one h all = put_each old.due new.due old.served new.served h.key one h.puts h.due all
