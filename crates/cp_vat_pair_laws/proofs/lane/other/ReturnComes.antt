-- A Return that the other end takes keeps each lane.
use Rattle.std.specs.Prelude.{◌≡◌, refl, ℕ, ◌==◌, not, if◌then◌else◌, Bool, true, false, List, [], ◌∷◌, ◌++◌, flat_map, Option, Some, None, IfSome, Result, Ok}
use Rattle.std.specs.List.{list_any, AllByRecursion}
use Rattle.std.specs.FinMap.{get, remove}
use Rattle.std.proofs.Common.{inl, inr, ap, subst, sym, ◌∙◌, true≢false}
use Rattle.cp_tables.specs.Table.{Table}
use Rattle.cp_tables.specs.declared.counted.Counted.{Counted}
use Rattle.cp_tables.specs.declared.exchange.Exchange.{Exchange}
use Rattle.cp_tables.specs.declared.exchange.Stage.{Stage}
use Rattle.cp_tables.specs.declared.exchange.Stage.TheVariants as stages
use Rattle.cp_messages.specs.declared.returned.Return.{Return}
use Rattle.cp_messages.specs.declared.returned.Returned.{Returned}
use Rattle.cp_messages.specs.declared.returned.Returned.TheVariants as returns
use Rattle.cp_messages.specs.declared.message.Message.{Message}
use Rattle.cp_messages.specs.declared.message.Message.TheVariants as messages
use Rattle.cp_refs.specs.declared.cap.Cap.{Cap}
use Rattle.cp_refs.specs.declared.call.Origin.{Origin}
use Rattle.cp_refs.specs.declared.call.Origin.TheVariants as origins
use Rattle.cp_refs.specs.declared.outcome.Outcome.{Outcome}
use Rattle.cp_refs.specs.declared.values.QuestionState.{QuestionState}
use Rattle.cp_vat_machine.specs.State.{State, none_over, with_exports}
use Rattle.cp_vat_machine.specs.Then.{Done, Then, fault_if, after}
use Rattle.cp_vat_machine.specs.Receiving.{ReceivesCaps, release_exports}
use Rattle.cp_vat_machine.specs.Asking.{ReceivesReturned, Settles, ReturnBy, is_asked, ReturnOf, OnReturn}
use Rattle.cp_vat_machine.specs.Give.{without_question, GiveAnswer, Give}
use Rattle.cp_vat_machine.specs.Go.{finish_of}
use Rattle.cp_vat_machine.specs.Local.{QuestionIs, OwnIs, ForwardsRightly}
use Rattle.cp_vat_machine.specs.declared.entry.AnswerEntry.{AnswerEntry}
use Rattle.cp_vat_machine.specs.declared.entry.QuestionEntry.{QuestionEntry}
use Rattle.cp_vat_machine.specs.declared.fault.PeerFault.{PeerFault}
use Rattle.cp_vat_machine.specs.declared.fault.PeerFault.TheVariants as faults
use Rattle.cp_vat_machine.proofs.Basics.{none_out, ok_in, ok_out, then_out, unless_out, is_equal, gone_at, other_number}
use Rattle.cp_vat_laws.specs.Within.{Within}
use Rattle.cp_vat_laws.proofs.Tables.{there_of, each_gone}
use Rattle.cp_vat_laws.proofs.order.Give.{IsUngiven, are_open_same}
use Rattle.cp_vat_laws.proofs.order.Settle.{AreOpen}
use Rattle.cp_vat_laws.proofs.order.Sound.{question_open, sound_within, ticket_ungiven}
use Rattle.cp_vat_laws.proofs.order.ReturnComes.{IsTakenIn, taken_in}
use Rattle.cp_vat_pair_laws.specs.VatPair.{End, with_mail, messages_sent}
use Rattle.cp_vat_pair_laws.specs.Accounts.{is_finish_noted}
use Rattle.cp_vat_pair_laws.specs.Ledger.{opens}
use Rattle.cp_vat_pair_laws.specs.Places.{NoneFinished}
use Rattle.cp_vat_pair_laws.specs.Lane.{Reference, import_, path_to, Delivery, own_ticket, answer_forwarded, stands_for}
use Rattle.cp_vat_pair_laws.specs.Phases.{of_lane, forwarded_for, stands_as, tells, IsAbsent, LaneHolds}
use Rattle.cp_vat_pair_laws.proofs.still.Grows.{PlacesStay, places_both}
use Rattle.cp_vat_pair_laws.proofs.lane.other.NotOfLane.{IsFreshThere}
use Rattle.cp_vat_pair_laws.proofs.lane.Calm.{any_mail, any_taken, none_of_front}
use Rattle.cp_vat_pair_laws.proofs.lane.other.Calm.{LevelThere}
use Rattle.cp_vat_pair_laws.proofs.lane.other.NoCallMoves.{part_there}
use Rattle.cp_vat_pair_laws.proofs.lane.other.Chain.{IsThere, not_opened_at, ends_on, hosted_on, closed_on, leads_on, Chain, chain_one, chain_both, chain_kept, chain_known, chain_places}
use Rattle.cp_vat_pair_laws.proofs.lane.other.Places.{place_stays}
use Rattle.cp_vat_pair_laws.proofs.lane.other.Give.{NoneLeft, give_chain}
use Rattle.cp_vat_pair_laws.proofs.lane.other.Turn.{same_mail}
use Rattle.cp_vat_pair_laws.proofs.lane.other.Take.{nothing_sent, taken_known, take_there, grows_kept}
use Rattle.cp_vat_pair_laws.proofs.lane.other.CallComes.{left_all, HeardKept}
use Rattle.cp_vat_pair_laws.proofs.lane.other.ResolveComes.{plain_kept, plain_apart}

question_gone_places : (s : State) (q : ℕ) → get s.values.questions q ≡ None → PlacesStay s (without_question s q)
question_gone_places s q unvalued =
    record {
      ways = record { promises = λ p v is. is; questions = λ r question o is given_. by r question (q == r) refl is };
      answers = λ a o is. is;
      exports = λ e c is. is;
      one_export = λ one. one;
    }
  where
    by : (r : ℕ) (question : QuestionState) (b : Bool) → (q == r) ≡ b → get s.values.questions r ≡ Some question → get (remove s.values.questions q) r ≡ Some question
    by r question true t is = none_out (sym unvalued ∙ ap (λ n. get s.values.questions n) (is_equal q r t) ∙ is)
    by r question false t is = gone_at s.values.questions q r false t ∙ is

-- A question that forwarded a call is gone, and finished.
module _ (here : End) (s final : State) (rest : List Message) (known : IsThere here s final rest) (q : ℕ) (unvalued : get s.values.questions q ≡ None) (fresh : IsFreshThere here q)
    (later : PlacesStay (without_question s q) final) where
  abbrev gone : State
  gone = without_question s q

  other_stands : (r : ℕ) → (q == r) ≡ false → stands_for here.vat gone r ≡ stands_for here.vat s r
  other_stands r other =
      ap (λ o. flat_map (λ question. own_ticket (get here.vat.entries.questions question)) (answer_forwarded o)) (gone_at s.entries.questions q r false other)

  gone_forwards : (made : List ℕ) (xs : List Message) → list_any (opens q) xs ≡ false
      → AllByRecursion (λ m. of_lane made (forwarded_for here.vat gone m) ≡ of_lane made (forwarded_for here.vat s m)) xs
  gone_forwards made [] none = tt
  gone_forwards made (m ∷ xs) none = (by m (none_of_front (opens q) m xs none), gone_forwards made xs (any_taken (opens q) m xs none))
    where
      by : (m : Message) → opens q m ≡ false → of_lane made (forwarded_for here.vat gone m) ≡ of_lane made (forwarded_for here.vat s m)
      by (messages.Call c) not = ap (of_lane made) (other_stands c.question_id (other_number c.question_id q not))
      by (messages.Unimplemented t) not = refl
      by (messages.Abort x) not = refl
      by (messages.Return r) not = refl
      by (messages.Finish f) not = refl
      by (messages.Resolve r) not = refl
      by (messages.Release r) not = refl
      by (messages.Bootstrap b) not = refl
      by (messages.Disembargo d) not = refl
      by (messages.Other which body) not = refl

  gone_held : (made : List ℕ) (origin : Origin) → (origin ≡ origins.Answer q → ⊥) → of_lane made (stands_as here.vat s origin) ≡ [] → of_lane made (stands_as here.vat gone origin) ≡ []
  gone_held made (origins.Own r) not none = none
  gone_held made (origins.Answer r) not none = ap (of_lane made) (other_stands r (differs (q == r) refl)) ∙ none
    where
      differs : (b : Bool) → (q == r) ≡ b → (q == r) ≡ false
      differs true t = absurd (not (ap (λ n. origins.Answer n) (sym (is_equal q r t))))
      differs false t = t

  gone_level : (made : List ℕ) → LevelThere here (record { vat = s; inbox = rest }) made gone rest (messages_sent (finish_of q false ∷ []))
  gone_level made =
      record {
        waiting = refl;
        calls = λ ticket c is. inr is;
        forwards = gone_forwards made here.inbox fresh.on_way;
        held = λ ticket c is none. gone_held made c.origin (fresh.held ticket c is) none;
        sends = (refl, tt);
        taken = inl refl;
      }

  gone_places : PlacesStay s gone
  gone_places = question_gone_places s q unvalued

  finish_untold : (ref : Reference) → list_any (tells ref) (messages_sent (finish_of q false ∷ [])) ≡ false
  finish_untold (import_ i) = refl
  finish_untold (path_to p path) = refl

  -- values of questions go, and no place is one
  pub gone_kept : (ref : Reference) (made : List ℕ) (delivered : List Delivery) → LaneHolds here (record { vat = s; inbox = rest }) ref made delivered
      → LaneHolds (with_mail here (messages_sent (finish_of q false ∷ []))) (record { vat = gone; inbox = rest }) ref made delivered
  gone_kept ref made delivered lane =
      part_there here (record { vat = s; inbox = rest }) ref made gone rest (messages_sent (finish_of q false ∷ []))
      (record {
        level = gone_level made;
        place = place_stays s gone ref (messages_sent (finish_of q false ∷ [])) (λ e c is. is) (λ p is. is) (λ a is. is) (finish_untold ref);
        absent_ = λ none. inl (same_absent ref none);
        ends_ = ends_on s gone gone_places ref;
        hosted = hosted_on s gone gone_places ref;
        closed_ = closed_on s gone gone_places ref;
        leads_ = leads_on s gone gone_places (λ gate cap is. is);
        held_there = λ e at. known.held ref e (ends_on gone final later ref e at);
        not_opened = not_opened_at here s final rest known ref;
        no_echo = λ n marked_. refl;
        front = inl refl;
      })
      delivered lane
    where
      same_absent : (r : Reference) → IsAbsent here.vat s r → IsAbsent here.vat gone r
      same_absent (import_ i) none = none
      same_absent (path_to p path) none = none

  pub gone_known : IsThere (with_mail here (messages_sent (finish_of q false ∷ []))) gone final rest
  gone_known =
      record {
        unopened = known.unopened;
        untold = λ i none. any_mail (tells (import_ i)) here.inbox (messages_sent (finish_of q false ∷ [])) (known.untold i none) refl;
        unmarked = known.unmarked;
        stay = later;
        held = known.held;
      }

-- what is returned is taken in
returned_left : (s : State) (returned : Returned) (taken : Outcome × State) → NoneLeft s → ReceivesReturned s returned (Ok taken) → NoneLeft taken.1
returned_left s (returns.Results p) taken left does =
    let parts = then_out {A = List Cap × State} {B = Outcome × State} (ReceivesCaps s p.cap_table) _ taken does in rw (ok_in _ _ parts.2) (left_all p.cap_table s parts.0 left parts.1)
returned_left s (returns.Exception x) taken left does = rw (ok_in _ _ does) left
returned_left s returns.Canceled taken left does = rw (ok_in _ _ does) left
returned_left s returns.ResultsSentElsewhere taken left does = absurd does
returned_left s other taken left does = absurd does

module _ (here : End) (s final : State) (r : Return) (rest : List Message) (known : IsThere here s final (messages.Return r ∷ rest)) (w : Within s None []) (still : s.waiting.over ≡ none_over)
    (none : NoneFinished s) (left : NoneLeft s) (entry : Exchange QuestionEntry) (is : get s.entries.questions r.answer_id ≡ Some entry) (open_ : entry.stage ≡ stages.Open)
    (fresh : IsFreshThere here r.answer_id) (taken : Outcome × State) (takes : ReceivesReturned s r.returned (Ok taken)) (done : Done) (later : PlacesStay done.1 final) where
  abbrev q : ℕ
  q = r.answer_id

  abbrev t : State
  t = taken.1

  inn : IsTakenIn s taken.1
  inn = taken_in s r.returned taken w still takes

  take : Chain s [] t
  take = chain_one (grows_kept s t inn.grows)

  entry_t : get t.entries.questions q ≡ Some entry
  entry_t = ap (λ x. get x q) inn.grows.asked ∙ is

  none_t : NoneFinished t
  none_t p = rw (inn.grows.asked) (none p)

  left_t : NoneLeft t
  left_t = returned_left s r.returned taken left takes

  -- an own one
  own_returned : entry.kept.forwards ≡ None → Give t (origins.Own q) taken.0 (Ok done) → HeardKept here s (messages.Return r ∷ rest) done rest final
  own_returned own gives =
      let value = question_open t None [] inn.within q entry entry_t (rw (open_) refl) own (get t.values.questions q) refl (inn.within.questions_valued q) in
      let may : IsUngiven t (origins.Own q) =
      (value.0, value.1, value.2, (sound_within t None [] inn.within).opens.open_questions q value.0 value.1 value.2) in
      plain_kept here s final (messages.Return r) rest done known tt (chain_both take (give_chain t (origins.Own q) taken.0 done inn.within.one_export none_t left_t may gives)) later

  -- one that forwards
  module _ (a : ℕ) (forwards : entry.kept.forwards ≡ Some a) (x : Done) (gives : GiveAnswer (without_question t q) a taken.0 (Ok x)) (same : done ≡ after (finish_of q false ∷ []) x) where
    unvalued : get t.values.questions q ≡ None
    unvalued = by (get t.values.questions q) (rw entry_t at (inn.within.questions_valued q))
      where
        none_own : (o : Option QuestionState) → OwnIs (Some a) entry.stage o → o ≡ None
        none_own None h = refl
        none_own (Some question) h = absurd h

        by : (o : Option QuestionState) → QuestionIs (Some entry) o → o ≡ None
        by o h = none_own o (rw forwards at h)

    may : IsUngiven (without_question t q) (origins.Answer a)
    may =
        let right = there_of (λ (e : Exchange QuestionEntry). ForwardsRightly t e.kept.forwards e.kept.ticket) (get t.entries.questions q) entry entry_t (inn.within.forwards q) in
        let ungiven = by entry.kept.ticket (rw forwards at right) in
        (ungiven.0, ungiven.1, open_by (get t.entries.answers a) ungiven.2)
      where
        by : (ticket : Option ℕ) → ForwardsRightly t (Some a) ticket → IsUngiven t (origins.Answer a)
        by None h = absurd h
        by (Some ticket) h = ticket_ungiven t None inn.within (origins.Answer a) ticket h

        open_by : (o : Option (Exchange AnswerEntry)) → IfSome o (λ e. AreOpen t e.kept.tied) → IfSome o (λ e. AreOpen (without_question t q) e.kept.tied)
        open_by None k = tt
        open_by (Some e) k = are_open_same t (without_question t q) e.kept.tied refl refl k

    none_gone : NoneFinished (without_question t q)
    none_gone =
        each_gone (λ p (e : Exchange QuestionEntry). is_finish_noted e.stage ≡ false) (λ p (e : Exchange QuestionEntry). is_finish_noted e.stage ≡ false) t.entries.questions q none_t
        (λ p e other at not. not)

    chain : Chain (without_question t q) x.0 x.1
    chain = give_chain (without_question t q) (origins.Answer a) taken.0 x inn.within.one_export none_gone left_t may gives

    gone_final : PlacesStay (without_question t q) final
    gone_final = places_both (chain_places chain) (subst (λ d. PlacesStay d.1 final) same later)

    t_final : PlacesStay t final
    t_final = places_both (question_gone_places t q unvalued) gone_final

    known_s : IsThere here s final rest
    known_s = taken_known here s final (messages.Return r) rest known

    known_t : IsThere here t final rest
    known_t = subst (λ h. IsThere h t final rest) (nothing_sent here) (chain_known here final rest take t_final known_s)

    to_t : (ref : Reference) (made : List ℕ) (delivered : List Delivery) → LaneHolds here (record { vat = s; inbox = messages.Return r ∷ rest }) ref made delivered
        → LaneHolds here (record { vat = t; inbox = rest }) ref made delivered
    to_t ref made delivered lane =
        subst (λ h. LaneHolds h (record { vat = t; inbox = rest }) ref made delivered) (nothing_sent here)
        (chain_kept here final rest take t_final known_s ref made delivered
        (take_there here s final (messages.Return r) rest known ref made delivered (plain_apart here ref made (messages.Return r) tt) lane))

    forwarded_kept : HeardKept here s (messages.Return r ∷ rest) (after (finish_of q false ∷ []) x) rest final
    forwarded_kept =
        let later_x : PlacesStay x.1 final = subst (λ d. PlacesStay d.1 final) same later in
        let known_gone = gone_known here t final rest known_t q unvalued fresh gone_final in
        let mail = same_mail here (finish_of q false ∷ []) x.0 ((finish_of q false ∷ []) ++ x.0) refl in (
          λ ref made delivered lane.
              subst (λ h. LaneHolds h (record { vat = x.1; inbox = rest }) ref made delivered) mail
              (chain_kept (with_mail here (messages_sent (finish_of q false ∷ []))) final rest chain later_x known_gone ref made delivered
              (gone_kept here t final rest known_t q unvalued fresh gone_final ref made delivered (to_t ref made delivered lane))),
          subst (λ h. IsThere h x.1 final rest) mail (chain_known (with_mail here (messages_sent (finish_of q false ∷ []))) final rest chain later_x known_gone),
        )

    pub forwarded_returned : HeardKept here s (messages.Return r ∷ rest) done rest final
    forwarded_returned = subst (λ d. HeardKept here s (messages.Return r ∷ rest) d rest final) (sym same) forwarded_kept

  -- by whether it forwards
  settles_kept : (forwards : Option ℕ) → entry.kept.forwards ≡ forwards → Settles t q forwards taken.0 (Ok done) → HeardKept here s (messages.Return r ∷ rest) done rest final
  settles_kept None own does = own_returned own does
  settles_kept (Some a) forwards does =
      let parts = then_out {A = Done} {B = Done} (GiveAnswer (without_question t q) a taken.0) _ done does in
      forwarded_returned a forwards parts.0 parts.1 (ok_in _ _ parts.2)

exports_kept : (b : Bool) (low : Result (Table (Counted Cap)) PeerFault) (old now : Table (Counted Cap)) → b ≡ false → Ok now ≡ (if b then low else Ok old) → now ≡ old
exports_kept true low old now is e = absurd (true≢false is)
exports_kept false low old now is e = ok_in _ _ e

-- From the rule. It lowers nothing.
pub on_return_kept : (here : End) (s final : State) (r : Return) (rest : List Message) → IsThere here s final (messages.Return r ∷ rest) → Within s None [] → s.waiting.over ≡ none_over
    → NoneFinished s → NoneLeft s → r.release_param_caps ≡ false → IsFreshThere here r.answer_id → (done : Done) → OnReturn s r (Ok done) → PlacesStay done.1 final
    → HeardKept here s (messages.Return r ∷ rest) done rest final
on_return_kept here s final r rest known w still none left keeps fresh done does later = by (get s.entries.questions r.answer_id) refl does
  where
    by_stage : (entry : Exchange QuestionEntry) → get s.entries.questions r.answer_id ≡ Some entry → (stage : Stage) → entry.stage ≡ stage → ReturnBy s r entry.kept stage (Ok done)
        → HeardKept here s (messages.Return r ∷ rest) done rest final
    by_stage entry is stages.Open at does =
        let parts = then_out {A = Outcome × State} {B = Done} (ReceivesReturned s r.returned) _ done does in
        settles_kept here s final r rest known w still none left entry is at fresh parts.0 parts.1 done later entry.kept.forwards refl parts.2
    by_stage entry is stages.Finished at does =
        let not = there_of (λ (e : Exchange QuestionEntry). is_finish_noted e.stage ≡ false) (get s.entries.questions r.answer_id) entry is (none r.answer_id) in
        absurd (true≢false (sym (ap is_finish_noted at) ∙ not))
    by_stage entry is stages.Returned at does = absurd does

    by : (o : Option (Exchange QuestionEntry)) → get s.entries.questions r.answer_id ≡ o → ReturnOf s r o (Ok done) → HeardKept here s (messages.Return r ∷ rest) done rest final
    by None is does = ok_out does
    by (Some entry) is does =
        let F = fault_if (not (is_asked entry.kept.is_sent entry.stage)) faults.UnknownQuestion in
        let parts =
        then_out {A = Table (Counted Cap)} {B = Done} (λ exports. exports ≡ (if r.release_param_caps then release_exports s.counts.exports entry.kept.mentions else Ok s.counts.exports)) _ done
        (unless_out {A = Done} F
        (Then (λ exports. exports ≡ (if r.release_param_caps then release_exports s.counts.exports entry.kept.mentions else Ok s.counts.exports))
        (λ exports. ReturnBy (with_exports s exports) r entry.kept entry.stage)) done does) in
        let same_exports = exports_kept r.release_param_caps (release_exports s.counts.exports entry.kept.mentions) s.counts.exports parts.0 keeps parts.1 in
        let returned_by = subst (λ x. ReturnBy (with_exports s x) r entry.kept entry.stage (Ok done)) same_exports parts.2 in
        by_stage entry is entry.stage refl returned_by
