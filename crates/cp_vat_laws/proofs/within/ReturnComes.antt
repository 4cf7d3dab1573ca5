-- A Return that comes.
use Rattle.std.specs.Prelude.{◌≡◌, refl, ℕ, ◌+◌, ◌==◌, ◌||◌, not, cond, if◌then◌else◌, Bool, true, false, List, [], Option, Some, None, is_some, IfSome, IsTrue, Result, Ok}
use Rattle.std.specs.List.{list_any, AllByRecursion}
use Rattle.std.specs.FinMap.{get}
use Rattle.std.proofs.Common.{arith, ap, sym, ◌∙◌, true≢false}
use Rattle.cp_tables.specs.Table.{Table}
use Rattle.cp_tables.specs.declared.counted.Counted.{Counted}
use Rattle.cp_tables.specs.declared.exchange.Exchange.{Exchange}
use Rattle.cp_tables.specs.declared.exchange.Stage.{Stage}
use Rattle.cp_tables.specs.declared.exchange.Stage.TheVariants as stages
use Rattle.cp_messages.specs.declared.returned.Return.{Return}
use Rattle.cp_messages.specs.declared.returned.Returned.{Returned}
use Rattle.cp_messages.specs.declared.returned.Returned.TheVariants as returns
use Rattle.cp_refs.specs.declared.cap.Cap.{Cap}
use Rattle.cp_refs.specs.declared.cap.Cap.TheVariants as caps
use Rattle.cp_refs.specs.declared.call.WaitingCall.{WaitingCall}
use Rattle.cp_refs.specs.declared.call.Origin.TheVariants as origins
use Rattle.cp_refs.specs.declared.outcome.Outcome.{Outcome}
use Rattle.cp_refs.specs.declared.values.QuestionState.{QuestionState}
use Rattle.cp_vat_machine.specs.State.{State, none_over, with_exports}
use Rattle.cp_vat_machine.specs.Then.{Done, Then, fault_if}
use Rattle.cp_vat_machine.specs.InUse.{caps_of, is_pipelined_of}
use Rattle.cp_vat_machine.specs.Local.{is_open_stage, is_forwarding, waiting_of, forwarding_of, one_if, ForwardsRightly, IsThere, OwnIs, is_wire, IsSentIf, IsOpenIf}
use Rattle.cp_vat_machine.specs.declared.entry.QuestionEntry.{QuestionEntry}
use Rattle.cp_vat_machine.specs.declared.fault.PeerFault.{PeerFault}
use Rattle.cp_vat_machine.specs.Receiving.{ReceivesCaps, release_exports}
use Rattle.cp_vat_machine.specs.Give.{GiveAnswer, without_question}
use Rattle.cp_vat_machine.specs.Asking.{ReceivesReturned, Settles, ReturnBy, is_asked, ReturnOf, OnReturn}
use Rattle.cp_vat_machine.specs.declared.fault.PeerFault.TheVariants as faults
use Rattle.cp_vat_machine.proofs.Basics.{not_false, some_out, none_out, ok_in, then_out, is_equal, unless_out, ok_out}
use Rattle.cp_vat_laws.specs.Within.{Within, is_in_hand, HasAnswerPlace, HasQuestionPlace, IsFit, IsOff}
use Rattle.cp_vat_laws.proofs.Tables.{there_of, each_kept, gone_sum, all_of, no_faults, not_met, pass_none}
use Rattle.cp_vat_laws.proofs.within.InHand.{alone_none}
use Rattle.cp_vat_laws.proofs.within.Give.{give_answer_keeps}
use Rattle.cp_vat_laws.proofs.within.GiveOwn.{own_leaves, IsToSettle, give_own_keeps, question_leaves, left_fit}
use Rattle.cp_vat_laws.proofs.within.Follows.{forwards_open}
use Rattle.cp_vat_laws.proofs.within.Exports.{fewer_exports, lower_if}
use Rattle.cp_vat_laws.proofs.within.Take.{Grows, grows_not, take_all_keeps}
use Rattle.cp_vat_laws.proofs.within.Go.{answer_in_hand}

-- what was returned is taken in
pub returned_keeps : (s : State) (returned : Returned) (taken : Outcome × State) → Within s None [] → s.waiting.over ≡ none_over
    → ReceivesReturned s returned (Ok taken)
    → Within taken.1 None [] × Grows s taken.1 × AllByRecursion (IsFit taken.1) (caps_of taken.0)
returned_keeps s (returns.Results p) taken h still is =
    let parts = then_out {A = List Cap × State} {B = Outcome × State} (ReceivesCaps s p.cap_table) _ taken is in
    rw (ok_in _ _ parts.2) (take_all_keeps None [] p.cap_table s parts.0 h still parts.1)
returned_keeps s (returns.Exception x) taken h still is = rw (ok_in _ _ is) (h, grows_not s, tt)
returned_keeps s returns.Canceled taken h still is = rw (ok_in _ _ is) (h, grows_not s, tt)
returned_keeps s returns.ResultsSentElsewhere taken h still is = absurd is
returned_keeps s (returns.TakeFromOtherQuestion q) taken h still is = absurd is
returned_keeps s (returns.AcceptFromThirdParty t) taken h still is = absurd is
returned_keeps s (returns.Unknown n) taken h still is = absurd is

-- A question that was sent: its call is nowhere else.
module _ {s : State} (h : Within s None []) (q : ℕ) (entry : Exchange QuestionEntry) (was : get s.entries.questions q ≡ Some entry)
    (open_ : IsTrue (is_open_stage entry.stage))
    (went : entry.kept.is_sent ≡ true) where
  sent_waits : waiting_of s (origins.Own q) ≡ 0
  sent_waits =
      let place = there_of (HasQuestionPlace s None q) (get s.entries.questions q) entry was (h.questions q) open_ in
      let counted : ◌≡◌ {A = ℕ} (one_if entry.kept.is_sent) 1 = rw (went) refl in
      omega (arith, place, counted)

  sent_to_settle : entry.kept.forwards ≡ None → IsToSettle s None q
  sent_to_settle own =
      record {
        alone = alone_none (origins.Own q);
        waits = sent_waits;
        own = λ e is. ap (λ (x : Exchange QuestionEntry). x.kept.forwards) (some_out (sym is ∙ was)) ∙ own;
        sent = λ e is. there_of (λ (x : Exchange QuestionEntry). is_in_hand None (origins.Own q) ≡ false → IsSentIf (is_wire (get s.values.questions q)) x.kept)
            (get s.entries.questions q) e is (h.wire q) refl;
      }

  -- one that forwards has no value, so no call names a path of it
  no_value : (a : ℕ) → entry.kept.forwards ≡ Some a → get s.values.questions q ≡ None
  no_value a it = absent entry.kept.forwards (get s.values.questions q) it (rw was at (h.questions_valued q))
    where
      absent : (o : Option ℕ) (v : Option QuestionState) → o ≡ Some a → OwnIs o entry.stage v → v ≡ None
      absent None v is valued = none_out is
      absent (Some b) None is valued = refl
      absent (Some b) (Some x) is valued = absurd valued

  unnamed : (a : ℕ) → entry.kept.forwards ≡ Some a → (c : Cap) → IsThere s c → is_pipelined_of q c ≡ false
  unnamed a it caps.None there = refl
  unnamed a it (caps.Object k) there = refl
  unnamed a it (caps.Promise p) there = refl
  unnamed a it (caps.Import i) there = refl
  unnamed a it (caps.Pipelined r path) there = by (r == q) refl
    where
      by : (b : Bool) → (r == q) ≡ b → b ≡ false
      by true t =
          let none : get s.values.questions r ≡ None = rw (is_equal r q t) (no_value a it) in
          absurd (true≢false (sym there ∙ ap is_some none))
      by false t = refl
  unnamed a it (caps.Broken x) there = refl

  module _ (a : ℕ) (it : entry.kept.forwards ≡ Some a) where
    off : (t : ℕ) → IfSome (get s.waiting.calls t) (λ call. list_any (is_pipelined_of q) call.request.caps ≡ false)
    off = each_kept (λ t (c : WaitingCall). AllByRecursion (IsThere s) c.request.caps)
        (λ t (c : WaitingCall). list_any (is_pipelined_of q) c.request.caps ≡ false) s.waiting.calls 0 h.there.calls_
        (λ t c is all. pass_none (is_pipelined_of q) c.request.caps (all_of (IsThere s) (λ x. is_pipelined_of q x ≡ false) c.request.caps (unnamed a it) all))

    forwarding_less : (b : ℕ) → forwarding_of (without_question s q) b + one_if (is_in_hand (Some (origins.Answer a)) (origins.Answer b)) ≡ forwarding_of s b
    forwarding_less b =
        let sum : forwarding_of (without_question s q) b + cond (is_forwarding b entry) 1 0 ≡ forwarding_of s b = gone_sum
        (λ e. cond (is_forwarding b e) 1 0) s.entries.questions q entry was in
        let one : is_forwarding b entry ≡ ((a == b) || false) = rw (it) refl in
        let both : ◌≡◌ {A = ℕ} (cond (is_forwarding b entry) 1 0) (one_if (is_in_hand (Some (origins.Answer a)) (origins.Answer b))) = ap
        (λ c. cond c 1 0) one in
        omega (arith, sum, both)

    placed : (b : ℕ) → IfSome (get s.entries.answers b) (HasAnswerPlace (without_question s q) (Some (origins.Answer a)) b)
    placed = each_kept (HasAnswerPlace s None) (HasAnswerPlace (without_question s q) (Some (origins.Answer a))) s.entries.answers 0 h.answers
        (λ b e is place o. omega (arith, place o, forwarding_less b))

    -- the call that it forwards is in hand
    pub back_in_hand : Within (without_question s q) (Some (origins.Answer a)) []
    back_in_hand = question_leaves h q (Some (origins.Answer a)) off sent_waits (λ r other. refl) placed

    pub back_fit : (c : Cap) → IsFit s c → IsFit (without_question s q) c
    back_fit = left_fit h q (Some (origins.Answer a)) off sent_waits (λ r other. refl) placed

    answers_forwarded : (outcome : Outcome) (done : Done) → AllByRecursion (IsFit s) (caps_of outcome) → GiveAnswer (without_question s q) a outcome (Ok done)
        → Within done.1 None []
    answers_forwarded outcome done fit gives =
        let right = there_of (λ (e : Exchange QuestionEntry). ForwardsRightly s e.kept.forwards e.kept.ticket) (get s.entries.questions q) entry was
        (h.forwards q) in
        let ticket = forwards_open h a entry.kept.forwards entry.kept.ticket it right in
        give_answer_keeps (without_question s q) (Some (origins.Answer a)) a outcome done back_in_hand (answer_in_hand a ticket.0 back_in_hand ticket.1)
        (all_of (IsFit s) (IsFit (without_question s q)) (caps_of outcome) back_fit fit) gives

settles_keeps : (s : State) (q : ℕ) (entry : Exchange QuestionEntry) (forwards : Option ℕ) (outcome : Outcome) (done : Done) → Within s None []
    → get s.entries.questions q ≡ Some entry
    → IsTrue (is_open_stage entry.stage) → entry.kept.is_sent ≡ true → entry.kept.forwards ≡ forwards → AllByRecursion (IsFit s) (caps_of outcome)
    → Settles s q forwards outcome (Ok done)
    → Within done.1 None []
settles_keeps s q entry None outcome done h was open_ went it fit does = give_own_keeps s None q outcome done h
    (sent_to_settle h q entry was open_ went it) fit does
settles_keeps s q entry (Some a) outcome done h was open_ went it fit does =
    let parts = then_out {A = Done} {B = Done} (GiveAnswer (without_question s q) a outcome) _ done does in
    rw (ok_in _ _ parts.2) (answers_forwarded h q entry was open_ went a it outcome parts.0 fit parts.1)

not_open : {Y : Type 0} → stages.Finished ≡ stages.Open → Y
not_open is = absurd (cc)

own_at : (o : Option ℕ) (entry : Exchange QuestionEntry) → IsOpenIf o entry → entry.stage ≡ stages.Finished → o ≡ None
own_at None entry open_ at = refl
own_at (Some a) entry open_ at = not_open (sym at ∙ open_.0)

return_by : (s : State) (r : Return) (entry : Exchange QuestionEntry) (stage : Stage) (done : Done) → Within s None [] → s.waiting.over ≡ none_over
    → get s.entries.questions r.answer_id ≡ Some entry → entry.stage ≡ stage → entry.kept.is_sent ≡ true → ReturnBy s r entry.kept stage (Ok done)
    → Within done.1 None []
return_by s r entry stages.Open done h still was at went does =
    let taken = then_out {A = Outcome × State} {B = Done} (ReceivesReturned s r.returned) _ done does in
    let one = returned_keeps s r.returned taken.0 h still taken.1 in
    let there : get taken.0.1.entries.questions r.answer_id ≡ Some entry = ap (λ m. get m r.answer_id) one.1.asked ∙ was in
    settles_keeps taken.0.1 r.answer_id entry entry.kept.forwards taken.0.0 done one.0 there (rw (at) refl) went refl one.2 taken.2
return_by s r entry stages.Finished done h still was at went does =
    let open_ : IsTrue (is_open_stage entry.stage) = rw (at) refl in
    let own = own_at entry.kept.forwards entry (there_of (λ (e : Exchange QuestionEntry). IsOpenIf e.kept.forwards e)
    (get s.entries.questions r.answer_id) entry was (h.forwarding r.answer_id)) at in
    let off = each_kept (λ t. IsOff r.answer_id) (λ t (c : WaitingCall). list_any (is_pipelined_of r.answer_id) c.request.caps ≡ false) s.waiting.calls 0
    (h.finished r.answer_id entry was at) (λ t c is f. f.1) in
    rw (ok_in _ _ does) (own_leaves h r.answer_id entry was own (alone_none (origins.Own r.answer_id)) (sent_waits h r.answer_id entry was open_ went) off)
return_by s r entry stages.Returned done h still was at went does = absurd does

asked_sent : (is_sent : Bool) (stage : Stage) → is_asked is_sent stage ≡ true → is_sent ≡ true
asked_sent is_sent stages.Open is = is
asked_sent is_sent stages.Finished is = is
asked_sent is_sent stages.Returned is = absurd (true≢false (sym is))

return_of : (s : State) (r : Return) (o : Option (Exchange QuestionEntry)) (done : Done) → Within s None [] → s.waiting.over ≡ none_over
    → get s.entries.questions r.answer_id ≡ o
    → ReturnOf s r o (Ok done) → Within done.1 None []
return_of s r None done h still was does = ok_out does
return_of s r (Some entry) done h still was does =
    let refusals : List PeerFault = fault_if (not (is_asked entry.kept.is_sent entry.stage)) faults.UnknownQuestion in
    let Rule : Result Done PeerFault → Type 0 =
    Then (λ exports. exports ≡ (if r.release_param_caps then release_exports s.counts.exports entry.kept.mentions else Ok s.counts.exports))
    (λ exports. ReturnBy (with_exports s exports) r entry.kept entry.stage) in
    let rule = unless_out {A = Done} {F = PeerFault} refusals Rule done does in
    let none = no_faults {A = Done} {F = PeerFault} refusals Rule done does in
    let asked = not_false _ (not_met (not (is_asked entry.kept.is_sent entry.stage)) faults.UnknownQuestion none) in
    let lowers = then_out {A = Table (Counted Cap)} {B = Done}
    (λ exports. exports ≡ (if r.release_param_caps then release_exports s.counts.exports entry.kept.mentions else Ok s.counts.exports)) _ done rule in
    let fewer = fewer_exports h lowers.0 (lower_if r.release_param_caps s.counts.exports lowers.0 entry.kept.mentions h.counts lowers.1) in
    return_by (with_exports s lowers.0) r entry entry.stage done fewer still was refl (asked_sent entry.kept.is_sent entry.stage asked) lowers.2

pub return_keeps : (s : State) (r : Return) (done : Done) → Within s None [] → s.waiting.over ≡ none_over → OnReturn s r (Ok done) → Within done.1 None []
return_keeps s r done h still does = return_of s r (get s.entries.questions r.answer_id) done h still refl does
