-- Calls that wait, and the questions that they are of.
use Rattle.std.specs.Prelude.{◌≡◌, refl, ℕ, ◌==◌, Bool, true, false, Option, Some, None}
use Rattle.std.specs.FinMap.{get, insert, remove}
use Rattle.std.proofs.Common.{sym, ◌∙◌, true≢false}
use Rattle.cp_tables.specs.Table.{Table}
use Rattle.cp_tables.specs.declared.exchange.Exchange.{Exchange}
use Rattle.cp_tables.specs.declared.exchange.Stage.{Stage}
use Rattle.cp_tables.specs.declared.exchange.Stage.TheVariants as stages
use Rattle.cp_refs.specs.declared.call.WaitingCall.{WaitingCall}
use Rattle.cp_refs.specs.declared.call.Origin.TheVariants as origins
use Rattle.cp_vat_machine.specs.declared.entry.QuestionEntry.{QuestionEntry}
use Rattle.cp_vat_machine.proofs.Basics.{some_out, none_out, is_equal, is_itself, put_at, gone_at}
use Rattle.cp_vat_pair_laws.specs.Posting.{IsUngiven}
use Rattle.cp_vat_pair_laws.specs.Orderly.{IsHeldBack, NoneWaits, AreHeld}

-- what is known of an entry that isn't held back
abbrev pub IsNotHeldBack : Option (Exchange QuestionEntry) → Type 0
IsNotHeldBack o = IsHeldBack o → ⊥

pub fresh_not : (o : Option (Exchange QuestionEntry)) → o ≡ None → IsNotHeldBack o
fresh_not None is h = h
fresh_not (Some entry) is h = none_out (sym is)

pub sent_not : (entry : Exchange QuestionEntry) → entry.kept.is_sent ≡ true → IsNotHeldBack (Some entry)
sent_not entry is h = true≢false (sym is ∙ h.0.0)

pub delivered_not : (entry : Exchange QuestionEntry) → entry.kept.is_delivered ≡ true → IsNotHeldBack (Some entry)
delivered_not entry is h = true≢false (sym is ∙ h.1)

given_at : (stage : Stage) → stage ≡ stages.Returned → IsUngiven stage → ⊥
given_at stage is h = rw is at h

pub given_not : (entry : Exchange QuestionEntry) → entry.stage ≡ stages.Returned → IsNotHeldBack (Some entry)
given_not entry is h = given_at entry.stage is h.0.1

is_same : (t u : ℕ) → t ≡ u → (t == u) ≡ true
is_same t u same = rw (same) (is_itself u)

module _ (calls : Table WaitingCall) (questions : Table (Exchange QuestionEntry)) (held : AreHeld calls questions) where
  -- no call of such a question waits
  pub none_waits : (q : ℕ) → IsNotHeldBack (get questions q) → NoneWaits calls q
  none_waits q not ticket call is own = not (held.back ticket call q is own)

  -- a question's entry is put in, of which no call waits
  put_back : (q : ℕ) (entry : Exchange QuestionEntry) → NoneWaits calls q → (ticket : ℕ) (call : WaitingCall) (p : ℕ) (b : Bool) → (q == p) ≡ b → get calls ticket ≡ Some call
      → call.origin ≡ origins.Own p → IsHeldBack (get (insert questions q entry) p)
  put_back q entry none ticket call p true t is own = absurd (none ticket call is (rw (is_equal q p t) own))
  put_back q entry none ticket call p false t is own = rw (put_at questions q p entry false t) (held.back ticket call p is own)

  put_here : (q : ℕ) (entry : Exchange QuestionEntry) → (entry.kept.is_delivered ≡ true → entry.kept.is_sent ≡ false) → (p : ℕ) (other : Exchange QuestionEntry) (b : Bool)
      → (q == p) ≡ b → get (insert questions q entry) p ≡ Some other → other.kept.is_delivered ≡ true → other.kept.is_sent ≡ false
  put_here q entry only p other true t is given =
      let same : entry ≡ other = some_out (sym (put_at questions q p entry true t) ∙ is) in
      rw (← same) (only (rw (same) given))
  put_here q entry only p other false t is given = held.here p other (sym (put_at questions q p entry false t) ∙ is) given

  pub put_question : (q : ℕ) (entry : Exchange QuestionEntry) → NoneWaits calls q → (entry.kept.is_delivered ≡ true → entry.kept.is_sent ≡ false)
      → AreHeld calls (insert questions q entry)
  put_question q entry none only =
      record {
        back = λ ticket call p is own. put_back q entry none ticket call p (q == p) refl is own;
        once = held.once;
        here = λ p other is given. put_here q entry only p other (q == p) refl is given;
      }

  -- one that stays held back, or isn't
  again_back : (q : ℕ) (entry other : Exchange QuestionEntry) → get questions q ≡ Some entry → (IsHeldBack (Some entry) → IsHeldBack (Some other)) → (ticket : ℕ) (call : WaitingCall) (p : ℕ)
      (b : Bool) → (q == p) ≡ b → get calls ticket ≡ Some call → call.origin ≡ origins.Own p → IsHeldBack (get (insert questions q other) p)
  again_back q entry other was keeps ticket call p true t is own =
      let back : IsHeldBack (get questions q) = held.back ticket call q is (rw (is_equal q p t) own) in
      rw (put_at questions q p other true t) (keeps (rw was at back))
  again_back q entry other was keeps ticket call p false t is own = rw (put_at questions q p other false t) (held.back ticket call p is own)

  pub put_again : (q : ℕ) (entry other : Exchange QuestionEntry) → get questions q ≡ Some entry → (IsHeldBack (Some entry) → IsHeldBack (Some other))
      → (other.kept.is_delivered ≡ true → other.kept.is_sent ≡ false) → AreHeld calls (insert questions q other)
  put_again q entry other was keeps only =
      record {
        back = λ ticket call p is own. again_back q entry other was keeps ticket call p (q == p) refl is own;
        once = held.once;
        here = λ p more is given. put_here q other only p more (q == p) refl is given;
      }

  -- a question goes of which no call waits
  gone_back : (q : ℕ) → NoneWaits calls q → (ticket : ℕ) (call : WaitingCall) (p : ℕ) (b : Bool) → (q == p) ≡ b → get calls ticket ≡ Some call → call.origin ≡ origins.Own p
      → IsHeldBack (get (remove questions q) p)
  gone_back q none ticket call p true t is own = absurd (none ticket call is (rw (is_equal q p t) own))
  gone_back q none ticket call p false t is own = rw (gone_at questions q p false t) (held.back ticket call p is own)

  gone_here : (q p : ℕ) (other : Exchange QuestionEntry) (b : Bool) → (q == p) ≡ b → get (remove questions q) p ≡ Some other → other.kept.is_delivered ≡ true
      → other.kept.is_sent ≡ false
  gone_here q p other true t is given = none_out (sym (gone_at questions q p true t) ∙ is)
  gone_here q p other false t is given = held.here p other (sym (gone_at questions q p false t) ∙ is) given

  pub gone_question : (q : ℕ) → NoneWaits calls q → AreHeld calls (remove questions q)
  gone_question q none =
      record {
        back = λ ticket call p is own. gone_back q none ticket call p (q == p) refl is own;
        once = held.once;
        here = λ p other is given. gone_here q p other (q == p) refl is given;
      }

  -- a call doesn't wait any more
  was_there : (ticket u : ℕ) (call : WaitingCall) (b : Bool) → (ticket == u) ≡ b → get (remove calls ticket) u ≡ Some call → (b ≡ false) × (get calls u ≡ Some call)
  was_there ticket u call true t is = none_out (sym (gone_at calls ticket u true t) ∙ is)
  was_there ticket u call false t is = (refl, sym (gone_at calls ticket u false t) ∙ is)

  pub gone_call : (ticket : ℕ) → AreHeld (remove calls ticket) questions
  gone_call ticket =
      record {
        back = λ u call q is own. held.back u call q (was_there ticket u call (ticket == u) refl is).1 own;
        once = λ u v call more q is there own other.
            held.once u v call more q (was_there ticket u call (ticket == u) refl is).1 (was_there ticket v more (ticket == v) refl there).1 own other;
        here = held.here;
      }

  -- then none of its question waits
  differs : (t u : ℕ) → t ≡ u → (t == u) ≡ false → ⊥
  differs t u same not = true≢false (sym (is_same t u same) ∙ not)

  pub none_is_left : (ticket : ℕ) (call : WaitingCall) (q : ℕ) → get calls ticket ≡ Some call → call.origin ≡ origins.Own q → NoneWaits (remove calls ticket) q
  none_is_left ticket call q is own u other there too =
      let was = was_there ticket u other (ticket == u) refl there in
      differs ticket u (held.once ticket u call other q is was.1 own too) was.0

  -- a call waits from now on
  new_back : (ticket : ℕ) (call : WaitingCall) → ((q : ℕ) → call.origin ≡ origins.Own q → IsHeldBack (get questions q)) → (u : ℕ) (other : WaitingCall) (q : ℕ) (b : Bool) → (ticket == u) ≡ b
      → get (insert calls ticket call) u ≡ Some other → other.origin ≡ origins.Own q → IsHeldBack (get questions q)
  new_back ticket call back u other q true t is own =
      let same : call ≡ other = some_out (sym (put_at calls ticket u call true t) ∙ is) in
      back q (rw (same) own)
  new_back ticket call back u other q false t is own = held.back u other q (sym (put_at calls ticket u call false t) ∙ is) own

  new_once : (ticket : ℕ) (call : WaitingCall) → ((q : ℕ) → call.origin ≡ origins.Own q → NoneWaits calls q) → (u v : ℕ) (one other : WaitingCall) (q : ℕ) (b c : Bool) → (ticket == u) ≡ b
      → (ticket == v) ≡ c → get (insert calls ticket call) u ≡ Some one → get (insert calls ticket call) v ≡ Some other → one.origin ≡ origins.Own q
      → other.origin ≡ origins.Own q → u ≡ v
  new_once ticket call none u v one other q true true t s is there own also = sym (is_equal ticket u t) ∙ is_equal ticket v s
  new_once ticket call none u v one other q true false t s is there own also =
      let same : call ≡ one = some_out (sym (put_at calls ticket u call true t) ∙ is) in
      absurd (none q (rw (same) own) v other (sym (put_at calls ticket v call false s) ∙ there) also)
  new_once ticket call none u v one other q false true t s is there own also =
      let same : call ≡ other = some_out (sym (put_at calls ticket v call true s) ∙ there) in
      absurd (none q (rw (same) also) u one (sym (put_at calls ticket u call false t) ∙ is) own)
  new_once ticket call none u v one other q false false t s is there own also =
      held.once u v one other q (sym (put_at calls ticket u call false t) ∙ is) (sym (put_at calls ticket v call false s) ∙ there) own also

  pub new_call : (ticket : ℕ) (call : WaitingCall) → ((q : ℕ) → call.origin ≡ origins.Own q → IsHeldBack (get questions q) × NoneWaits calls q)
      → AreHeld (insert calls ticket call) questions
  new_call ticket call may =
      record {
        back = λ u other q is own. new_back ticket call (λ r e. (may r e).0) u other q (ticket == u) refl is own;
        once = λ u v one other q is there own also. new_once ticket call (λ r e. (may r e).1) u v one other q (ticket == u) (ticket == v) refl refl is there own also;
        here = held.here;
      }
