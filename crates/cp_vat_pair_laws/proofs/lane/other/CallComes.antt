-- A Bootstrap and a Call that the other end takes keep each lane.
use Rattle.std.specs.Prelude.{◌≡◌, ◌⊎◌, refl, ℕ, ◌+◌, ◌<◌, ◌==◌, not, ltb, if◌then◌else◌, Bool, true, false, List, [], ◌∷◌, ◌++◌, Option, Some, None, is_some, IfSome, Ok, Err}
use Rattle.std.specs.List.{list_any}
use Rattle.std.specs.FinMap.{get, insert, get-empty}
use Rattle.std.specs.Ordering.{nat_cmp}
use Rattle.std.proofs.Common.{arith, inl, inr, ap, subst, sym, ◌∙◌, true≢false}
use Rattle.cp_tables.specs.Exchange.{new_exchange}
use Rattle.cp_tables.specs.Counted.{new_counted}
use Rattle.cp_tables.specs.declared.counted.Counted.{Counted}
use Rattle.cp_tables.specs.declared.exchange.Exchange.{Exchange}
use Rattle.cp_messages.specs.declared.call.Call.{Call}
use Rattle.cp_messages.specs.declared.descriptor.Descriptor.{Descriptor}
use Rattle.cp_messages.specs.declared.descriptor.Descriptor.TheVariants as descriptors
use Rattle.cp_messages.specs.declared.small.Bootstrap.{Bootstrap}
use Rattle.cp_messages.specs.declared.message.Message.{Message}
use Rattle.cp_messages.specs.declared.message.Message.TheVariants as messages
use Rattle.cp_refs.specs.declared.cap.Cap.{Cap}
use Rattle.cp_refs.specs.declared.call.WaitingCall.{WaitingCall}
use Rattle.cp_refs.specs.declared.call.Origin.TheVariants as origins
use Rattle.cp_refs.specs.declared.outcome.Outcome.{Outcome}
use Rattle.cp_refs.specs.declared.route.Gate.{Gate}
use Rattle.cp_refs.specs.declared.route.Route.{Route}
use Rattle.cp_refs.specs.declared.route.Route.TheVariants as routes
use Rattle.cp_vat_machine.specs.State.{State, none_over}
use Rattle.cp_vat_machine.specs.Then.{Done, fault_if}
use Rattle.cp_vat_machine.specs.Capacity.{Fresh, has_capacity}
use Rattle.cp_vat_machine.specs.Receiving.{held_once_more, held_import, answer_of, path_of, tie, tied, ReceivesAnswer, taken_export, ReceivesCap, ReceivesCaps}
use Rattle.cp_vat_machine.specs.Answering.{with_answer, bootstrap_outcome, is_answering, OnBootstrap, GoToTarget, peer_call, entered, call_faults, target_faults, OnCall}
use Rattle.cp_vat_machine.specs.Go.{PendingCall, Go}
use Rattle.cp_vat_machine.specs.Local.{AnswerIs}
use Rattle.cp_vat_machine.specs.declared.entry.AnswerEntry.{AnswerEntry}
use Rattle.cp_vat_machine.specs.declared.entry.ImportKind.{ImportKind}
use Rattle.cp_vat_machine.specs.declared.entry.ImportKind.TheVariants as kinds
use Rattle.cp_vat_machine.specs.declared.fault.PeerFault.TheVariants as faults
use Rattle.cp_vat_machine.proofs.Basics.{none_out, ok_in, ok_out, then_out, unless_out, is_equal, is_itself, put_at}
use Rattle.cp_vat_laws.specs.Within.{Within, WaitsFor}
use Rattle.cp_vat_laws.proofs.Tables.{here_of, there_of, each_put, no_faults, front_empty, not_met}
use Rattle.cp_vat_laws.proofs.within.Take.{Grows, take_all_keeps}
use Rattle.cp_vat_laws.proofs.order.Give.{IsUngiven}
use Rattle.cp_vat_pair_laws.specs.VatPair.{End, with_mail, messages_sent}
use Rattle.cp_vat_pair_laws.specs.Accounts.{is_finish_noted}
use Rattle.cp_vat_pair_laws.specs.Ledger.{opens}
use Rattle.cp_vat_pair_laws.specs.Places.{NoneFinished}
use Rattle.cp_vat_pair_laws.specs.Lane.{Reference, Delivery}
use Rattle.cp_vat_pair_laws.specs.Phases.{of_lane, sent_for, waits_for, waits, AllWait, LeadsBack, IsOpenPlace, LaneHolds}
use Rattle.cp_vat_pair_laws.specs.Lane.{import_, path_to}
use Rattle.cp_vat_pair_laws.proofs.still.Grows.{PlacesStay, places_both}
use Rattle.cp_vat_pair_laws.proofs.still.Give.{changed_cases}
use Rattle.cp_vat_pair_laws.proofs.still.Go.{MayFail, go_grows}
use Rattle.cp_vat_pair_laws.proofs.still.Receives.{opened_may}
use Rattle.cp_vat_pair_laws.proofs.lane.other.NotOfLane.{IsFreshThere}
use Rattle.cp_vat_pair_laws.proofs.lane.Lists.{none_wait}
use Rattle.cp_vat_pair_laws.proofs.lane.OrderFollows.{over_none}
use Rattle.cp_vat_pair_laws.proofs.lane.other.Chain.{IsThere, Chain, chain_kept, chain_known, chain_places}
use Rattle.cp_vat_pair_laws.proofs.lane.other.Give.{NoneLeft, give_chain}
use Rattle.cp_vat_pair_laws.proofs.lane.other.Turn.{cons_not}
use Rattle.cp_vat_pair_laws.proofs.lane.other.Take.{nothing_sent, take_chain, opened_known, open_there, open_elsewhere}
use Rattle.cp_vat_pair_laws.proofs.lane.other.CallGoes.{hand_kept, hand_elsewhere, call_goes, lane_call}

-- A number without an answer has no value.
pub unanswered_of : (s : State) → Within s None [] → (a : ℕ) → get s.entries.answers a ≡ None → get s.values.answers a ≡ None
unanswered_of s w a none = by (get s.values.answers a) (rw none at (w.answers_valued a))
  where
    by : (o : Option (Option Outcome)) → AnswerIs None o → o ≡ None
    by None is = refl
    by (Some o) is = absurd is

none_of : {X : Type 0} (o : Option X) → is_some o ≡ false → o ≡ None
none_of None is = refl
none_of (Some x) is = absurd (true≢false is)

-- No answer was finished before it was given, also after what is taken in.
left_put : (s : State) (a : ℕ) (entry : Exchange AnswerEntry) → is_finish_noted entry.stage ≡ false → NoneLeft s → (b : ℕ)
    → IfSome (get (insert s.entries.answers a entry) b) (λ x. is_finish_noted x.stage ≡ false)
left_put s a entry not left =
    each_put (λ r (x : Exchange AnswerEntry). is_finish_noted x.stage ≡ false) (λ r (x : Exchange AnswerEntry). is_finish_noted x.stage ≡ false) s.entries.answers a entry left not
    (λ r x other is n. n)

left_tied : (s : State) (a : ℕ) (path : List ℕ) (p : ℕ) → NoneLeft s → NoneLeft (tied s a path p)
left_tied s a path p left b =
    here_of (λ (x : Exchange AnswerEntry). is_finish_noted x.stage ≡ false) (get (tied s a path p).entries.answers b) (λ entry is. by entry (changed_cases s.entries.answers a b _ entry is))
  where
    by : (entry : Exchange AnswerEntry)
        → (x : Exchange AnswerEntry) × (get s.entries.answers b ≡ Some x) × ((entry ≡ x) ⊎ (entry ≡ record x { kept = tie p path x.kept }))
        → is_finish_noted entry.stage ≡ false
    by entry (x, was, inl same) = rw (same) (there_of (λ (y : Exchange AnswerEntry). is_finish_noted y.stage ≡ false) (get s.entries.answers b) x was (left b))
    by entry (x, was, inr same) = rw (same) (there_of (λ (y : Exchange AnswerEntry). is_finish_noted y.stage ≡ false) (get s.entries.answers b) x was (left b))

left_held : (s : State) (i : ℕ) (kind : ImportKind) (o : Option (Counted ImportKind)) (new : State) → NoneLeft s → Ok new ≡ held_once_more s i kind o → NoneLeft new
left_held s i kind (Some entry) new left is = by (ltb entry.count 4294967295) is
  where
    by : (b : Bool) → Ok new ≡ (if b then Ok (record s { counts = record s.counts { imports = insert s.counts.imports i (record entry { count = entry.count + 1 }) } }) else Err faults.TableFull)
        → NoneLeft new
    by true e = rw (ok_in _ _ e) left
    by false e = ok_out e
left_held s i kind None new left is = by (has_capacity s.counts.imports) is
  where
    by : (b : Bool) → Ok new
        ≡ (if b then Ok (
        record s {
          counts = record s.counts { imports = insert s.counts.imports i (new_counted kind) };
          values = record s.values { imports = insert s.values.imports i None };
        }
        ) else Err faults.TableFull) → NoneLeft new
    by true e = rw (ok_in _ _ e) left
    by false e = ok_out e

pub left_taken : (s : State) (d : Descriptor) (taken : Cap × State) → NoneLeft s → ReceivesCap s d (Ok taken) → NoneLeft taken.1
left_taken s descriptors.None taken left is = rw (ok_in _ _ is) left
left_taken s (descriptors.SenderHosted i) taken left is =
    let parts = then_out {A = State} {B = Cap × State} (λ held. held ≡ held_import s i kinds.Hosted) _ taken is in
    rw (ok_in _ _ parts.2) (left_held s i kinds.Hosted (get s.counts.imports i) parts.0 left parts.1)
left_taken s (descriptors.SenderPromise i) taken left is =
    let parts = then_out {A = State} {B = Cap × State} (λ held. held ≡ held_import s i kinds.Promise) _ taken is in
    rw (ok_in _ _ parts.2) (left_held s i kinds.Promise (get s.counts.imports i) parts.0 left parts.1)
left_taken s (descriptors.ReceiverHosted e) taken left is = by (get s.counts.exports e) is
  where
    by : (o : Option (Counted Cap)) → Ok taken ≡ taken_export s o → NoneLeft taken.1
    by None e = ok_out e
    by (Some entry) e = rw (ok_in _ _ e) left
left_taken s (descriptors.ReceiverAnswer answer) taken left is = by (answer_of s answer.question_id) is
  where
    by : (o : Option (Option Outcome)) → ReceivesAnswer s answer.question_id (path_of answer.transform) o (Ok taken) → NoneLeft taken.1
    by None e = ok_out e
    by (Some (Some outcome)) e = rw (ok_in _ _ e) left
    by (Some None) e =
        let parts = then_out {A = ℕ} {B = Cap × State} (Fresh s.values.promises) _ taken e in
        rw (ok_in _ _ parts.2) (left_tied s answer.question_id (path_of answer.transform) parts.0 left)
left_taken s (descriptors.ThirdPartyHosted t) taken left is = absurd is
left_taken s (descriptors.Unknown n) taken left is = absurd is

pub left_all : (table : List Descriptor) (s : State) (taken : List Cap × State) → NoneLeft s → ReceivesCaps s table (Ok taken) → NoneLeft taken.1
left_all [] s taken left is = rw (ok_in _ _ is) left
left_all (d ∷ table) s taken left is =
    let first = then_out {A = Cap × State} {B = List Cap × State} (ReceivesCap s d) _ taken is in
    let rest = then_out {A = List Cap × State} {B = List Cap × State} (ReceivesCaps first.0.1 table) _ taken first.2 in
    rw (ok_in _ _ rest.2) (left_all table first.0.1 rest.0 (left_taken s d first.0 left first.1) rest.1)

-- what is kept when a message was taken
abbrev pub HeardKept : End → State → List Message → Done → List Message → State → Type 0
HeardKept here s inbox done rest final =
    ((ref : Reference) (made : List ℕ) (delivered : List Delivery) → LaneHolds here (record { vat = s; inbox = inbox }) ref made delivered
    → LaneHolds (with_mail here (messages_sent done.0)) (record { vat = done.1; inbox = rest }) ref made delivered)
    × IsThere (with_mail here (messages_sent done.0)) done.1 final rest

-- A Bootstrap is taken.
module _ (here : End) (s final : State) (b : Bootstrap) (rest : List Message) (known : IsThere here s final (messages.Bootstrap b ∷ rest))
    (w : Within s None []) (still : s.waiting.over ≡ none_over) (none : NoneFinished s) (left : NoneLeft s) (once : list_any (opens b.question_id) rest ≡ false) (done : Done)
    (does : OnBootstrap s b.question_id (Ok done)) (later : PlacesStay done.1 final) where
  abbrev a : ℕ
  a = b.question_id

  abbrev mid : State
  mid = with_answer s a None

  fine : fault_if (is_answering s a) faults.QuestionInUse ++ fault_if (not (has_capacity s.entries.answers)) faults.TableFull ≡ []
  fine = no_faults (fault_if (is_answering s a) faults.QuestionInUse ++ fault_if (not (has_capacity s.entries.answers)) faults.TableFull) _ done does

  unanswered : get s.values.answers a ≡ None
  unanswered = unanswered_of s w a (none_of (get s.entries.answers a) (not_met _ _ (front_empty _ _ fine)))

  may : IsUngiven mid (origins.Answer a)
  may = (
    put_at s.values.answers a a None true (is_itself a),
    ap (λ x. get x.answers a) still ∙ get-empty nat_cmp a,
    rw (put_at s.entries.answers a a (new_exchange (record { ticket = None; is_delivered = false; mentions = []; tied = [] })) true (is_itself a)) tt,
  )

  chain : Chain mid done.0 done.1
  chain =
      give_chain mid (origins.Answer a) (bootstrap_outcome s.bootstrap) done w.one_export none (left_put s a _ refl left) may
      (unless_out (fault_if (is_answering s a) faults.QuestionInUse ++ fault_if (not (has_capacity s.entries.answers)) faults.TableFull) _ done does)

  stay : PlacesStay mid final
  stay = places_both (chain_places chain) later

  others : (q : ℕ) → (a == q) ≡ false → opens q (messages.Bootstrap b) ≡ false
  others q t = t

  opened : IsThere here mid final rest
  opened = opened_known here s final (messages.Bootstrap b) rest known a mid refl refl refl refl unanswered once stay

  pub bootstrap_kept : HeardKept here s (messages.Bootstrap b ∷ rest) done rest final
  bootstrap_kept = (
    λ ref made delivered lane.
        chain_kept here final rest chain later opened ref made delivered
        (open_there here s final (messages.Bootstrap b) rest known a mid refl refl refl refl unanswered once stay (is_itself a) others (λ n. refl) ref made delivered refl lane),
    chain_known here final rest chain later opened,
  )

-- A Call is taken.
module _ (here : End) (s final : State) (c : Call) (rest : List Message) (known : IsThere here s final (messages.Call c ∷ rest)) (w : Within s None [])
    (still : s.waiting.over ≡ none_over) (none : NoneFinished s) (left : NoneLeft s) (once : list_any (opens c.question_id) rest ≡ false)
    (fresh : (q : ℕ) → get s.entries.questions q ≡ None → IsFreshThere here q) (table : List Cap) (t : State) (takes : ReceivesCaps s c.params.cap_table (Ok (table, t)))
    (unmet : get s.entries.answers c.question_id ≡ None) (done : Done) (goes : GoToTarget (entered t c.question_id) (peer_call t c table) c.target (Ok done))
    (later : PlacesStay done.1 final) where
  abbrev qa : ℕ
  qa = c.question_id

  abbrev it : Message
  it = messages.Call c

  abbrev new : State
  new = entered t qa

  abbrev call : PendingCall
  call = peer_call t c table

  both : Within t None [] × Grows s t
  both = let all = take_all_keeps None [] c.params.cap_table s (table, t) w still takes in (all.0, all.1)

  t_still : t.waiting.over ≡ none_over
  t_still = ap (λ x. x.over) both.1.waiting ∙ still

  unanswered_t : get t.values.answers qa ≡ None
  unanswered_t = ap (λ x. get x qa) both.1.answers ∙ unanswered_of s w qa unmet

  route : (r : Route) × Go new call r (Ok done)
  route = call_goes new call c.target done goes

  may_fail : (r : Route) → MayFail new (origins.Answer qa) r
  may_fail (routes.Fail x) = opened_may t qa (Some t.next_ticket)
  may_fail (routes.Deliver k) = tt
  may_fail (routes.Import i) = tt
  may_fail (routes.Pipe q path) = tt
  may_fail (routes.Wait gate) = tt

  gone_places : PlacesStay new done.1
  gone_places = (go_grows new call route.0 done both.0.one_export (may_fail route.0) route.1).places

  new_final : PlacesStay new final
  new_final = places_both gone_places later

  new_places : PlacesStay t new
  new_places =
      record {
        ways = record { promises = λ p v is. is; questions = λ q question o is given_. is };
        answers = λ q o is. by q o (qa == q) refl is;
        exports = λ e k is. is;
        one_export = λ one. one;
      }
    where
      by : (q : ℕ) (o : Outcome) (b : Bool) → (qa == q) ≡ b → get t.values.answers q ≡ Some (Some o) → get (insert t.values.answers qa None) q ≡ Some (Some o)
      by q o true e is = none_out (sym unanswered_t ∙ ap (λ n. get t.values.answers n) (is_equal qa q e) ∙ is)
      by q o false e is = put_at t.values.answers qa q None false e ∙ is

  t_final : PlacesStay t final
  t_final = places_both new_places new_final

  take : Chain s [] t
  take = take_chain c.params.cap_table s (table, t) w still takes

  known_t : IsThere here t final (it ∷ rest)
  known_t = subst (λ h. IsThere h t final (it ∷ rest)) (nothing_sent here) (chain_known here final (it ∷ rest) take t_final known)

  known_new : IsThere here new final rest
  known_new = opened_known here t final it rest known_t qa new refl refl refl refl unanswered_t once new_final

  none_t : NoneFinished t
  none_t q = rw (both.1.asked) (none q)

  left_t : NoneLeft t
  left_t = left_all c.params.cap_table s (table, t) left takes

  left_new : NoneLeft new
  left_new = left_put t qa (new_exchange (record { ticket = Some t.next_ticket; is_delivered = false; mentions = []; tied = [] })) refl left_t

  may_give : IsUngiven new (origins.Answer qa)
  may_give = (
    put_at t.values.answers qa qa None true (is_itself qa),
    ap (λ x. get x.answers qa) t_still ∙ get-empty nat_cmp qa,
    rw (put_at t.entries.answers qa qa (new_exchange (record { ticket = Some t.next_ticket; is_delivered = false; mentions = []; tied = [] })) true (is_itself qa)) tt,
  )

  fresh_new : (q : ℕ) → get new.entries.questions q ≡ None → IsFreshThere here q
  fresh_new q is = fresh q (sym (ap (λ x. get x q) both.1.asked) ∙ is)

  highest : (ticket : ℕ) (held : WaitingCall) → get t.waiting.calls ticket ≡ Some held → ticket < t.next_ticket
  highest ticket held is = (there_of (WaitsFor t ticket) (get t.waiting.calls ticket) held is (both.0.waiting ticket)).1

  unheld : get t.waiting.calls t.next_ticket ≡ None
  unheld = by (get t.waiting.calls t.next_ticket) refl
    where
      never : (n : ℕ) → n < n → ⊥
      never n less = omega (arith, less)

      by : (o : Option WaitingCall) → get t.waiting.calls t.next_ticket ≡ o → get t.waiting.calls t.next_ticket ≡ None
      by None is = is
      by (Some held) is = absurd (never t.next_ticket (highest t.next_ticket held is))

  other_calls : (q : ℕ) → (qa == q) ≡ false → opens q it ≡ false
  other_calls q e = e

  open_stay : (ref : Reference) (gate : Gate) → IsOpenPlace t ref gate → IsOpenPlace new ref gate
  open_stay (import_ i) gate is = is
  open_stay (path_to q path) gate is = (by (qa == q) refl, is.1)
    where
      by : (b : Bool) → (qa == q) ≡ b → get (insert t.values.answers qa None) q ≡ Some None
      by true e = put_at t.values.answers qa q None true e
      by false e = put_at t.values.answers qa q None false e ∙ is.0

  rests : (ref : Reference) (made : List ℕ) (e : ℕ) → AllWait here (record { vat = t; inbox = it ∷ rest }) made (LeadsBack t e)
      → waits here (record { vat = t; inbox = it ∷ rest }) made ≡ []
  rests ref made e waiting = none_wait made (λ h. waits_for here.vat h.origin) t.waiting.calls (λ ticket h is. by h (waiting ticket h is))
    where
      by : (h : WaitingCall) → of_lane made (waits_for here.vat h.origin) ≡ [] ⊎ LeadsBack t e h.gate → of_lane made (waits_for here.vat h.origin) ≡ []
      by h (inl none_) = none_
      by h (inr (cap, gave_, way_)) = absurd (over_none t h.gate cap t_still gave_)

  -- from where what it names was taken in
  abbrev Before : Reference → List ℕ → List Delivery → Type 0
  Before ref made delivered = LaneHolds here (record { vat = t; inbox = it ∷ rest }) ref made delivered

  abbrev After : Reference → List ℕ → List Delivery → Type 0
  After ref made delivered = LaneHolds (with_mail here (messages_sent done.0)) (record { vat = done.1; inbox = rest }) ref made delivered

  kept_by : (ref : Reference) (made : List ℕ) (delivered : List Delivery) → Before ref made delivered → After ref made delivered
  kept_by ref made delivered (inl elsewhere) =
      inl
      (hand_elsewhere here new rest call qa refl both.0.one_export none_t left_new may_give route.0 done route.1 gone_places ref made
      (open_elsewhere here t final it rest known_t qa new refl refl refl refl unanswered_t once new_final (is_itself qa) other_calls (λ n. refl) ref made elsewhere))
  kept_by ref made delivered (inr lane) = by (of_lane made (sent_for here.vat it)) refl
    where
      by : (xs : List ℕ) → of_lane made (sent_for here.vat it) ≡ xs → After ref made delivered
      by [] is =
          (hand_kept here new final rest known_new call qa refl unheld fresh_new both.0.one_export none_t left_new may_give route.0 done route.1 gone_places later).0 ref made delivered is
          (open_there here t final it rest known_t qa new refl refl refl refl unanswered_t once new_final (is_itself qa) other_calls (λ n. refl) ref made delivered is (inr lane))
      by (x ∷ xs) is =
          inr
          (lane_call here t new c rest call refl refl refl new_places (λ gate cap gave_. gave_) open_stay highest fresh_new both.0.one_export left_new done goes gone_places ref made
          (λ empty_. cons_not x xs (sym is ∙ empty_)) (rests ref made) delivered lane.phase lane)

  pub call_kept : HeardKept here s (it ∷ rest) done rest final
  call_kept = (
    λ ref made delivered lane.
        kept_by ref made delivered
        (subst (λ h. LaneHolds h (record { vat = t; inbox = it ∷ rest }) ref made delivered) (nothing_sent here)
        (chain_kept here final (it ∷ rest) take t_final known ref made delivered lane)),
    (hand_kept here new final rest known_new call qa refl unheld fresh_new both.0.one_export none_t left_new may_give route.0 done route.1 gone_places later).1,
  )

-- from the rule
pub on_call_kept : (here : End) (s final : State) (c : Call) (rest : List Message) → IsThere here s final (messages.Call c ∷ rest) → Within s None [] → s.waiting.over ≡ none_over
    → NoneFinished s → NoneLeft s → list_any (opens c.question_id) rest ≡ false → ((q : ℕ) → get s.entries.questions q ≡ None → IsFreshThere here q) → (done : Done)
    → OnCall s c (Ok done) → PlacesStay done.1 final → HeardKept here s (messages.Call c ∷ rest) done rest final
on_call_kept here s final c rest known w still none left once fresh done does later =
    let fine = no_faults (call_faults s c) _ done does in
    let unmet = none_of (get s.entries.answers c.question_id)
    (not_met _ _
    (front_empty (fault_if (is_answering s c.question_id) faults.QuestionInUse) (target_faults s c.target)
    (front_empty (fault_if (is_answering s c.question_id) faults.QuestionInUse ++ target_faults s c.target) _ fine))) in
    let parts = then_out {A = List Cap × State} {B = Done} (ReceivesCaps s c.params.cap_table) _ done (unless_out (call_faults s c) _ done does) in
    call_kept here s final c rest known w still none left once fresh parts.0.0 parts.0.1 parts.1 unmet done parts.2 later
