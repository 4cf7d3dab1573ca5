-- Turns and news keep of each number one connection at most.
use Rattle.std.proofs.Common.{◌≡◌, ◌≢◌, ◌∙◌, ℕ, ◌+◌, eqb, cond, List, [], ◌∷◌, ◌++◌, Option, Some, None, inl, inr, sym, ap, subst, arith}
use Rattle.std.proofs.lemmas.Bool.{cases_eq}
use Rattle.std.proofs.lemmas.Bool.Decides.{nat_tests}
use Rattle.cp_connection.specs.declared.event.ConnectionStats.{ConnectionStats}
use Rattle.cp_objects.specs.ObjectTable.{ObjectTableKind}
use Rattle.net_host.specs.declared.end.End.{End}
use Rattle.net_host.specs.declared.end.Ended.{Ended}
use Rattle.net_host.specs.declared.host.HostEvent.{HostEvent}
use Rattle.net_host.specs.declared.host.HostEvent.TheVariants as all_news
use Rattle.net_host.proofs.Serving.{works_number}
use Rattle.net_host.specs.Floor.{Begins, Floor, Puts, QueuesEnd, Rounds, Tells, Turns, begins, bounces, delivers, delivers_short, ends, goes_on, rests, sweeps, turns}
use Rattle.net_host.specs.HostedConnections.{Served, stats_of}
use Rattle.net_host.specs.Once.{Has, IsGone, IsGoneBy, IsOnce, ends_of}
use Rattle.net_host.specs.Waking.{key_of}

-- one more end
pub ends_of-push : (number : ℕ) (before : List Ended) (ended : Ended) → ends_of number (before ++ ended ∷ []) ≡ ends_of number before + cond (eqb ended.number number) 1 0
ends_of-push number [] ended = omega arith
ends_of-push number (first ∷ before) ended = omega (arith, ends_of-push number before ended)

is_one : (a b : ℕ) → a ≡ b → ◌≡◌ {A = ℕ} (cond (eqb a b) 1 0) 1
is_one a b e = grind (arith, nat_tests)

is_none : (a b : ℕ) → a ≢ b → ◌≡◌ {A = ℕ} (cond (eqb a b) 1 0) 0
is_none a b e = grind (arith, nat_tests)

module _ {H : Type 0} where
  -- what is there is one
  the_one : (slot : Option (Served H)) (one : Served H) (number : ℕ) → slot ≡ Some one → Has slot number → one.number ≡ number
  the_one slot one number e has = ap number_of (sym e ∙ has.there) ∙ has.named
    where
      number_of : Option (Served H) → ℕ
      number_of None = 0
      number_of (Some it) = it.number

  absent : (slot : Option (Served H)) (number : ℕ) → slot ≡ None → Has slot number → ⊥
  absent slot number e has = absurd (cc (e, has.there))

  -- fewer are served, and as many ended
  once_by : (old new : Floor H) (number : ℕ) → ((key : ℕ) → Has (new.served key) number → Has (old.served key) number) → new.ended ≡ old.ended → IsOnce old number → IsOnce new number
  once_by old new number back same once = record {
    one_key = λ key other a b. once.one_key key other (back key a) (back other b);
    unended = λ key a. rw same (once.unended key (back key a));
    one_end = rw same once.one_end;
  }

  gone_by : (old new : Floor H) (number : ℕ) → ((key : ℕ) → Has (new.served key) number → Has (old.served key) number) → new.ended ≡ old.ended → IsGone old number → IsGone new number
  gone_by old new number back same gone = record { unserved = λ key a. gone.unserved key (back key a); unended = rw same gone.unended }

  -- what is under a key that was written, and what was there before
  back_over : (old new : ℕ → Option (Served H)) (key : ℕ) (one next : Served H) (number : ℕ) → old key ≡ Some one → next.number ≡ one.number → Puts old key (Some next) new
      → (other : ℕ) → Has (new other) number → Has (old other) number
  back_over old new key one next number was named puts other has =
      elim (cases_eq other key) [
        | inl is ↦
            let here : new other ≡ Some next = ap new is ∙ puts.here in
            record { one = one; there = ap old is ∙ was; named = sym named ∙ the_one (new other) next number here has }
        | inr differs ↦ subst (λ (slot : Option (Served H)). Has slot number) (puts.elsewhere other differs) has
      ]

  -- what is there, once one was taken out
  back_out : (old new : ℕ → Option (Served H)) (key number : ℕ) → Puts old key None new → (other : ℕ) → Has (new other) number → (other ≢ key) × Has (old other) number
  back_out old new key number puts other has =
      elim (cases_eq other key) [
        | inl is ↦ absurd (absent (new other) number (ap new is ∙ puts.here) has)
        | inr differs ↦ (differs, subst (λ (slot : Option (Served H)). Has slot number) (puts.elsewhere other differs) has)
      ]

  -- one was taken out, and its end is to be told
  once_out : (old new : Floor H) (number key : ℕ) (one : Served H) (end : End) (stats : ConnectionStats) → old.served key ≡ Some one → Puts old.served key None new.served
      → QueuesEnd old one end stats new → IsOnce old number → IsOnce new number
  once_out old new number key one end stats was puts ended once =
      let count : ends_of number new.ended ≡ ends_of number old.ended + cond (eqb one.number number) 1 0 = ap (λ es. ends_of number es) ended ∙ ends_of-push number old.ended _ in
      elim (cases_eq one.number number) [
        | inl named ↦
            let had : Has (old.served key) number = record { one = one; there = was; named = named } in
            let none : ends_of number old.ended ≡ 0 = once.unended key had in
            record {
              one_key = λ a b h k. once.one_key a b (back_out old.served new.served key number puts a h).1 (back_out old.served new.served key number puts b k).1;
              unended = λ a h. absurd ((back_out old.served new.served key number puts a h).0 (once.one_key a key (back_out old.served new.served key number puts a h).1 had));
              one_end = omega (arith, count, none, is_one one.number number named);
            }
        | inr other ↦
            let same : ends_of number new.ended ≡ ends_of number old.ended = omega (arith, count, is_none one.number number other) in
            record {
              one_key = λ a b h k. once.one_key a b (back_out old.served new.served key number puts a h).1 (back_out old.served new.served key number puts b k).1;
              unended = λ a h. same ∙ once.unended a (back_out old.served new.served key number puts a h).1;
              one_end = omega (arith, same, once.one_end);
            }
      ]

  gone_out : (old new : Floor H) (number key : ℕ) (one : Served H) (end : End) (stats : ConnectionStats) → old.served key ≡ Some one → Puts old.served key None new.served
      → QueuesEnd old one end stats new → IsGone old number → IsGone new number
  gone_out old new number key one end stats was puts ended gone =
      let other : one.number ≢ number = λ named. gone.unserved key (record { one = one; there = was; named = named }) in
      let count : ends_of number new.ended ≡ ends_of number old.ended + cond (eqb one.number number) 1 0 = ap (λ es. ends_of number es) ended ∙ ends_of-push number old.ended _ in
      record {
        unserved = λ a h. gone.unserved a (back_out old.served new.served key number puts a h).1;
        unended = omega (arith, count, gone.unended, is_none one.number number other);
      }

module _ {H : Type 0} {table : ObjectTableKind H} where
  once_turn : (old new : Floor H) (number : ℕ) → Turns table old new → IsOnce old number → IsOnce new number
  once_turn old new number (rests r) once =
      once_by old new number (λ key has. subst (λ (slot : Option (Served H)). Has slot number) (r.same key) has) r.ended once
  once_turn old new number (goes_on key one next sent was stays puts same noted added awaits) once =
      once_by old new number (back_over old.served new.served key one next number was (works_number stays.works) puts) same once
  once_turn old new number (ends key one last sent end was by puts ended forgotten added due) once = once_out old new number key one end (stats_of last) was puts ended once
  once_turn old new number (delivers letter one next first served takes puts same budget awaits) once =
      once_by old new number (back_over old.served new.served (key_of letter.to) one next number served.there (ap (λ (x : Served H). x.number) takes.1) puts) same once
  once_turn old new number (bounces letter rest first unserved back still same budget due) once =
      once_by old new number (λ key has. subst (λ (slot : Option (Served H)). Has slot number) (still key) has) same once
  once_turn old new number (delivers_short letter one failed last rest sent end first served lost short added puts ended forgotten due) once =
      once_out old new number (key_of letter.to) one end (stats_of last) served.there puts ended once
  once_turn old new number (sweeps still same budget waits first) once =
      once_by old new number (λ key has. subst (λ (slot : Option (Served H)). Has slot number) (still key) has) same once

  gone_turn : (old new : Floor H) (number : ℕ) → Turns table old new → IsGone old number → IsGone new number
  gone_turn old new number (rests r) gone =
      gone_by old new number (λ key has. subst (λ (slot : Option (Served H)). Has slot number) (r.same key) has) r.ended gone
  gone_turn old new number (goes_on key one next sent was stays puts same noted added awaits) gone =
      gone_by old new number (back_over old.served new.served key one next number was (works_number stays.works) puts) same gone
  gone_turn old new number (ends key one last sent end was by puts ended forgotten added due) gone = gone_out old new number key one end (stats_of last) was puts ended gone
  gone_turn old new number (delivers letter one next first served takes puts same budget awaits) gone =
      gone_by old new number (back_over old.served new.served (key_of letter.to) one next number served.there (ap (λ (x : Served H). x.number) takes.1) puts) same gone
  gone_turn old new number (bounces letter rest first unserved back still same budget due) gone =
      gone_by old new number (λ key has. subst (λ (slot : Option (Served H)). Has slot number) (still key) has) same gone
  gone_turn old new number (delivers_short letter one failed last rest sent end first served lost short added puts ended forgotten due) gone =
      gone_out old new number (key_of letter.to) one end (stats_of last) served.there puts ended gone
  gone_turn old new number (sweeps still same budget waits first) gone =
      gone_by old new number (λ key has. subst (λ (slot : Option (Served H)). Has slot number) (still key) has) same gone

  pub once_rounds : (old new : Floor H) (number : ℕ) → Rounds table old new → IsOnce old number → IsOnce new number
  once_rounds old new number begins once = once
  once_rounds old new number (turns {mid = mid} before turn) once = once_turn mid new number turn (once_rounds old mid number before once)

  pub gone_rounds : (old new : Floor H) (number : ℕ) → Rounds table old new → IsGone old number → IsGone new number
  gone_rounds old new number begins gone = gone
  gone_rounds old new number (turns {mid = mid} before turn) gone = gone_turn mid new number turn (gone_rounds old mid number before gone)

module _ {H : Type 0} where
  -- the first end was reported
  once_told : (old new : Floor H) (number : ℕ) (ended : Ended) → new.served ≡ old.served → old.ended ≡ ended ∷ new.ended → IsOnce old number → IsOnce new number
  once_told old new number ended served is once =
      let back : (key : ℕ) → Has (new.served key) number → Has (old.served key) number = λ key has. subst (λ (f : ℕ → Option (Served H)). Has (f key) number) served has in
      let count : ends_of number old.ended ≡ cond (eqb ended.number number) 1 0 + ends_of number new.ended = ap (λ es. ends_of number es) is in
      record {
        one_key = λ key other a b. once.one_key key other (back key a) (back other b);
        unended = λ key a. let none : ends_of number old.ended ≡ 0 = once.unended key (back key a) in omega (arith, count, none);
        one_end = omega (arith, count, once.one_end);
      }

  gone_told : (old new : Floor H) (number : ℕ) (ended : Ended) → new.served ≡ old.served → old.ended ≡ ended ∷ new.ended → IsGone old number → IsGone new number
  gone_told old new number ended served is gone =
      let count : ends_of number old.ended ≡ cond (eqb ended.number number) 1 0 + ends_of number new.ended = ap (λ es. ends_of number es) is in
      record {
        unserved = λ key has. gone.unserved key (subst (λ (f : ℕ → Option (Served H)). Has (f key) number) served has);
        unended = omega (arith, count, gone.unended);
      }

  -- the one that was reported is gone
  gone_reported : (old new : Floor H) (number : ℕ) (ended : Ended) → new.served ≡ old.served → old.ended ≡ ended ∷ new.ended → ended.number ≡ number → IsOnce old number → IsGone new number
  gone_reported old new number ended served is named once =
      let count : ends_of number old.ended ≡ cond (eqb ended.number number) 1 0 + ends_of number new.ended = ap (λ es. ends_of number es) is in
      let one = is_one ended.number number named in
      record {
        unserved = λ key has. let none : ends_of number old.ended ≡ 0 = once.unended key (subst (λ (f : ℕ → Option (Served H)). Has (f key) number) served has) in absurd (omega (arith, count, one, none));
        unended = omega (arith, count, one, once.one_end);
      }

  pub once_tells : (old new : Floor H) (news : Option HostEvent) (number : ℕ) → Tells old news new → IsOnce old number → IsOnce new number
  once_tells old new None number h once = subst (λ (x : Floor H). IsOnce x number) (sym h.0) once
  once_tells old new (Some (all_news.Connected n peer)) number h once = subst (λ (x : Floor H). IsOnce x number) (sym h.0) once
  once_tells old new (Some (all_news.Refused peer)) number h once = subst (λ (x : Floor H). IsOnce x number) (sym h.0) once
  once_tells old new (Some all_news.Woken) number h once = subst (λ (x : Floor H). IsOnce x number) (sym h.0) once
  once_tells old new (Some (all_news.Ended n peer end stats)) number h once = once_told old new number _ h.0 h.1 once

  pub gone_tells : (old new : Floor H) (news : Option HostEvent) (number : ℕ) → Tells old news new → IsGone old number → IsGone new number
  gone_tells old new None number h gone = subst (λ (x : Floor H). IsGone x number) (sym h.0) gone
  gone_tells old new (Some (all_news.Connected n peer)) number h gone = subst (λ (x : Floor H). IsGone x number) (sym h.0) gone
  gone_tells old new (Some (all_news.Refused peer)) number h gone = subst (λ (x : Floor H). IsGone x number) (sym h.0) gone
  gone_tells old new (Some all_news.Woken) number h gone = subst (λ (x : Floor H). IsGone x number) (sym h.0) gone
  gone_tells old new (Some (all_news.Ended n peer end stats)) number h gone = gone_told old new number _ h.0 h.1 gone

  pub reported_tells : (old new : Floor H) (news : Option HostEvent) (number : ℕ) → Tells old news new → IsOnce old number → IsGoneBy news number new
  reported_tells old new None number h once = tt
  reported_tells old new (Some (all_news.Connected n peer)) number h once = tt
  reported_tells old new (Some (all_news.Refused peer)) number h once = tt
  reported_tells old new (Some all_news.Woken) number h once = tt
  reported_tells old new (Some (all_news.Ended n peer end stats)) number h once = λ named. gone_reported old new number _ h.0 h.1 named once

module _ {H : Type 0} {table : ObjectTableKind H} where
  -- a connection that begins, whose number none had
  pub once_begins : (old new : Floor H) (one : Served H) → Begins table old one new → IsGone old one.number → IsOnce new one.number
  once_begins old new one h gone =
      let only : (key : ℕ) → Has (new.served key) one.number → key ≡ h.key = λ key has.
      elim (cases_eq key h.key) [
        | inl is ↦ is
        | inr differs ↦ absurd (gone.unserved key (subst (λ (slot : Option (Served H)). Has slot one.number) (h.puts.elsewhere key differs) has))
      ] in
      let none : ends_of one.number new.ended ≡ 0 = ap (λ es. ends_of one.number es) h.ended ∙ gone.unended in
      record { one_key = λ key other a b. only key a ∙ sym (only other b); unended = λ key a. none; one_end = omega (arith, none) }
