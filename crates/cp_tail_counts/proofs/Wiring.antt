-- What goes over the wire is what turns of tail calls say, whatever a vat behind them does.
use Rattle.std.specs.Prelude.{◌≡◌, refl, ℕ, ◌+◌, ◌^◌, ◌<◌, ◌⊎◌, ◌++◌, flat_map, if◌then◌else◌, Bool, true, false, List, [], ◌∷◌, Option, Some, None, IfSome, IsTrue}
use Rattle.std.specs.List.{AllByRecursion}
use Rattle.std.specs.Option.{option_map_or}
use Rattle.std.specs.FinMap.{get}
use Rattle.std.proofs.Common.{arith, true≢false, sym, ap, subst, ◌∙◌, inl, inr, append_assoc}
use Rattle.cp_tables.specs.Counted.{IsCount, count_of}
use Rattle.cp_tables.specs.declared.counted.Counted.{Counted}
use Rattle.cp_tables.specs.declared.exchange.Exchange.{Exchange}
use Rattle.cp_messages.specs.declared.message.Message.{Message}
use Rattle.cp_messages.specs.declared.message.Message.TheVariants as messages
use Rattle.cp_messages.specs.declared.resolve.Resolve.{Resolve}
use Rattle.cp_messages.specs.declared.small.Release.{Release}
use Rattle.cp_vat_machine.specs.Asked.{stage_if, stage_by, stage_of}
use Rattle.cp_vat_machine.specs.Local.{Local}
use Rattle.cp_vat_machine.specs.Resolving.{given_back, release_of}
use Rattle.cp_vat_machine.specs.Run.{Moment, Steps}
use Rattle.cp_vat_machine.specs.State.{State}
use Rattle.cp_vat_machine.specs.Supported.{is_supported}
use Rattle.cp_vat_machine.specs.declared.effect.Effect.{Effect}
use Rattle.cp_vat_machine.specs.declared.effect.Effect.TheVariants as effects
use Rattle.cp_vat_machine.specs.declared.entry.ImportKind.{ImportKind}
use Rattle.cp_vat_machine.specs.declared.entry.QuestionEntry.{QuestionEntry}
use Rattle.cp_vat_machine.proofs.Basics.{is_itself, all_both}
use Rattle.cp_vat_pair_laws.specs.Ledger.{Traffic, departure, given_up}
use Rattle.cp_vat_pair_laws.specs.Ledger as ledger
use Rattle.cp_vat_pair_laws.specs.Accounts.{Accounts, accounts_of, asked_account}
use Rattle.cp_vat_pair_laws.specs.Expected as expected
use Rattle.cp_vat_pair_laws.specs.VatPair.{messages_sent}
use Rattle.cp_vat_pair_laws.specs.Posting.{Posts}
use Rattle.cp_tail_calls.specs.declared.forwarding.ForwardedMessage.{ForwardedMessage}
use Rattle.cp_tail_calls.specs.declared.forwarding.ForwardedMessage.TheVariants as owed
use Rattle.cp_tail_calls.specs.declared.forwarding.Trigger.{Trigger}
use Rattle.cp_tail_calls.specs.declared.forwarding.Trigger.TheVariants as triggers
use Rattle.cp_tail_calls.specs.declared.progress.Progress.{Progress}
use Rattle.cp_tail_calls.specs.declared.progress.Progress.TheVariants as progress
use Rattle.cp_tail_calls.specs.Receiving.{finish_if}
use Rattle.cp_tail_calls.specs.Runs.{Turn, went}
use Rattle.cp_tail_calls.specs.Sending.{sent, send_return_of}
use Rattle.cp_tail_calls.specs.Serving.{moment, closes, passed_on, sends_first}
use Rattle.cp_tail_calls.specs.Tails.{Tails}
use Rattle.cp_tail_counts.specs.Peer.{heard, peer_past}
use Rattle.cp_tail_counts.specs.Behind.{Knows, GivesBack, WasNamed, Lived}
use Rattle.cp_tail_counts.specs.Wire.{later}
use Rattle.cp_tail_counts.proofs.Quiet.{IsQuiet, AreQuiet}
use Rattle.cp_tail_counts.proofs.Steps.{AreSupported, Late, Hears, Whole, Acts}

-- ---- lists
pub later_append : (past front back : List Traffic) → later past (front ++ back) ≡ later (later past front) back
later_append past [] back = refl
later_append past (message ∷ front) back = later_append (message ∷ past) front back

pub departures_append : (one more : List Effect) → flat_map departure (one ++ more) ≡ flat_map departure one ++ flat_map departure more
departures_append [] more = refl
departures_append (e ∷ one) more =
    ap (λ (rest : List Traffic). departure e ++ rest) (departures_append one more) ∙ sym (append_assoc (departure e) (flat_map departure one) (flat_map departure more))

pub steps_append : (history more : List Moment) (old mid new : State) → Steps old history mid → Steps mid more new → Steps old (history ++ more) new
steps_append [] more old mid new steps rest = rw (← steps) rest
steps_append (moment ∷ history) more old mid new steps rest = (steps.0, steps.1, steps_append history more steps.0 mid new steps.2 rest)

-- the stages of a vat's questions are those of its accounts
pub knows_stages : (s : State) → Knows (accounts_of s) (stage_of s)
knows_stages s q = by (get s.entries.questions q)
  where
    by : (o : Option (Exchange QuestionEntry)) → stage_by o ≡ expected.stage_of (asked_account o)
    by None = refl
    by (Some entry) = if_sent entry.kept.is_sent
      where
        if_sent : (b : Bool) → stage_if b entry.stage ≡ expected.stage_of (if b then Some (record { stage = entry.stage; kept = entry.kept.mentions }) else None)
        if_sent true = refl
        if_sent false = refl

-- ---- what is owed to the vat is Returns and Finishes
abbrev pub IsForVat : ForwardedMessage → Type 0
IsForVat (owed.ToPeer m) = Unit {0}
IsForVat (owed.ToVat (messages.Return r)) = Unit {0}
IsForVat (owed.ToVat (messages.Finish f)) = Unit {0}
IsForVat (owed.ToVat other) = ⊥

abbrev pub AreForVat : Tails → Type 0
AreForVat t = AllByRecursion IsForVat t.owed

pub finish_for : (b : Bool) (q : ℕ) → AllByRecursion IsForVat (finish_if b q)
finish_for true q = (tt, tt)
finish_for false q = tt

sent_for : (t : Tails) (trigger : Trigger) (m : Message) → AreForVat t → AreForVat (sent t trigger m).1
sent_for t trigger (messages.Return r) all = by (get t.calls r.answer_id)
  where
    by : (how : Option Progress) → AreForVat (send_return_of t r how).1
    by None = all
    by (Some progress.Untaken) = all
    by (Some (progress.Taken taker)) = all_both IsForVat t.owed _ all (tt, finish_for taker.is_finished r.answer_id)
    by (Some progress.Given) = all
    by (Some progress.GivenUp) = all
sent_for t triggers.Message (messages.Release r) all = all
sent_for t triggers.Application (messages.Release r) all = all
sent_for t trigger m all = all

-- ---- the vat's effects are turns
pub record Went (trigger : Trigger) (by : List Effect) (turns : List Turn) (t : Tails) (new : Accounts) : Type 0 where
  pub all : List Turn
  pub lived : Lived all (passed_on trigger t by).1 new
  pub past : peer_past all ≡ later (peer_past turns) (flat_map departure (passed_on trigger t by).0)
  pub for_vat : AreForVat (passed_on trigger t by).1

went_first : (trigger : Trigger) (m : Message) (more : List Effect) (turns : List Turn) (t : Tails) (new : Accounts)
    → Went trigger more (went trigger m (sent t trigger m).0 ∷ turns) (sent t trigger m).1 new → Went trigger (effects.Send m ∷ more) turns t new
went_first trigger m more turns t new rest =
    let on = (sent t trigger m).0 in
    let passes = passed_on trigger (sent t trigger m).1 more in
    record {
      all = rest.all;
      lived = subst (λ (t : Tails). Lived rest.all t new) (sym (same_tails on passes)) rest.lived;
      past = rest.past ∙ told on (peer_past turns) passes;
      for_vat = subst AreForVat (sym (same_tails on passes)) rest.for_vat;
    }
  where
    same_tails : (on : Option Message) (rest : List Effect × Tails) → (sends_first on rest).1 ≡ rest.1
    same_tails None rest = refl
    same_tails (Some m) rest = refl

    told : (on : Option Message) (past : List Traffic) (rest : List Effect × Tails)
        → later (heard on ++ past) (flat_map departure rest.0) ≡ later past (flat_map departure (sends_first on rest).0)
    told None past rest = refl
    told (Some m) past rest = refl

quiet_gives : (trigger : Trigger) (m : Message) (past : List Traffic) (new : Accounts) → IsQuiet (effects.Send m) → GivesBack trigger m past new
quiet_gives triggers.Application (messages.Release r) past new quiet = absurd quiet
quiet_gives triggers.Message (messages.Release r) past new quiet = absurd quiet
quiet_gives triggers.Application m past new quiet = tt
quiet_gives triggers.Message m past new quiet = tt

went_quiet : (trigger : Trigger) (by : List Effect) (turns : List Turn) (t : Tails) (old new : Accounts) → Lived turns t old → AreQuiet by → AreSupported (messages_sent by)
    → Posts old (messages_sent by) new → closes by ≡ false → AreForVat t → Went trigger by turns t new
went_quiet trigger [] turns t old new lived quiet supported posts open_ for_vat =
    record { all = turns; lived = rw (posts) lived; past = refl; for_vat = for_vat }
went_quiet trigger (effects.Send m ∷ more) turns t old new lived quiet supported posts open_ for_vat =
    let turn = went trigger m (sent t trigger m).0 in
    went_first
    trigger
    m
    more
    turns
    t
    new
    (went_quiet
    trigger
    more
    (turn ∷ turns)
    (sent t trigger m).1
    posts.0
    new
    (t, old, lived, refl, record { supported = supported.0.0; params = supported.0.1; sends = posts.1; gives_back = quiet_gives trigger m (peer_past turns) posts.0 quiet.0 })
    quiet.1
    supported.1
    posts.2
    open_
    (sent_for t trigger m for_vat))
went_quiet trigger (effects.Closed reason ∷ more) turns t old new lived quiet supported posts open_ for_vat = absurd (true≢false open_)
went_quiet trigger (effects.Deliver object origin ticket call ∷ more) turns t old new lived quiet supported posts open_ for_vat =
    let rest = went_quiet trigger more turns t old new lived quiet.1 supported posts open_ for_vat in
    record { all = rest.all; lived = rest.lived; past = rest.past; for_vat = rest.for_vat }
went_quiet trigger (effects.Settled question outcome ∷ more) turns t old new lived quiet supported posts open_ for_vat =
    let rest = went_quiet trigger more turns t old new lived quiet.1 supported posts open_ for_vat in
    record { all = rest.all; lived = rest.lived; past = rest.past; for_vat = rest.for_vat }

-- the first of them gives an import back
went_release : (trigger : Trigger) (r : Release) (more : List Effect) (turns : List Turn) (t : Tails) (old new : Accounts) → Lived turns t old → AreQuiet more
    → AreSupported (messages_sent (effects.Send (messages.Release r) ∷ more)) → (posts : Posts old (messages_sent (effects.Send (messages.Release r) ∷ more)) new)
    → GivesBack trigger (messages.Release r) (peer_past turns) posts.0 → closes more ≡ false → AreForVat t
    → Went trigger (effects.Send (messages.Release r) ∷ more) turns t new
went_release trigger r more turns t old new lived quiet supported posts gives open_ for_vat =
    let m = messages.Release r in
    let turn = went trigger m (sent t trigger m).0 in
    went_first
    trigger
    m
    more
    turns
    t
    new
    (went_quiet
    trigger
    more
    (turn ∷ turns)
    (sent t trigger m).1
    posts.0
    new
    (t, old, lived, refl, record { supported = supported.0.0; params = supported.0.1; sends = posts.1; gives_back = gives })
    quiet
    supported.1
    posts.2
    open_
    (sent_for t trigger m for_vat))

-- ---- the application calls
pub went_whole : (s : State) (by : List Effect) (turns : List Turn) (t : Tails) (new : State) → Lived turns t (accounts_of s) → Acts s new by → closes by ≡ false → AreForVat t
    → Went triggers.Application by turns t (accounts_of new)
went_whole s by turns t new lived acts open_ for_vat = gives_by acts.gives
  where
    none_left : (before after n : ℕ) → before ≡ after + n → n ≡ before → after ≡ 0
    none_left before after n e f = omega arith

    whole : (i : ℕ) (rest : List Effect) → AreQuiet rest → AreSupported (messages_sent (release_of i (count_of s.counts.imports i) ∷ rest))
        → Posts (accounts_of s) (messages_sent (release_of i (count_of s.counts.imports i) ∷ rest)) (accounts_of new)
        → closes rest ≡ false → Went triggers.Application (release_of i (count_of s.counts.imports i) ∷ rest) turns t (accounts_of new)
    whole i rest quiet supported posts open_ =
        went_release
        triggers.Application
        (record { id = i; reference_count = count_of s.counts.imports i })
        rest
        turns
        t
        (accounts_of s)
        (accounts_of new)
        lived
        quiet
        supported
        posts
        (none_left (count_of s.counts.imports i) (posts.0.imports i) (count_of s.counts.imports i) (rw (is_itself i) at (posts.1.imports i)) refl)
        open_
        for_vat

    gives_by : AreQuiet by ⊎ Whole s by → Went triggers.Application by turns t (accounts_of new)
    gives_by (inl quiet) = went_quiet triggers.Application by turns t (accounts_of s) (accounts_of new) lived quiet acts.supported acts.posts open_ for_vat
    gives_by (inr it) =
        subst
        (λ (by : List Effect). AreSupported (messages_sent by) → Posts (accounts_of s) (messages_sent by) (accounts_of new) → closes by ≡ false
        → Went triggers.Application by turns t (accounts_of new))
        (sym it.first)
        (λ supported posts open_. whole it.import_ it.rest it.quiet supported posts open_)
        acts.supported
        acts.posts
        open_

-- ---- a message comes
-- a Resolve came just now, if the message is one
abbrev pub IsNamed : Message → List Traffic → Type 0
IsNamed (messages.Resolve x) past = (before : List Traffic) × (past ≡ ledger.came (messages.Resolve x) ∷ before)
IsNamed m past = Unit {0}

was_named : (x : Resolve) (i : ℕ) (past : List Traffic) → given_back x.resolution ≡ i ∷ [] → IsNamed (messages.Resolve x) past
    → WasNamed (record { id = i; reference_count = 1 }) past
was_named x i past named is = subst (WasNamed (record { id = i; reference_count = 1 })) (sym is.1) (named, refl)

pub went_heard : (m : Message) (by : List Effect) (turns : List Turn) (t : Tails) (s new : State) (h : Hears s new m by) → Lived turns t h.mid → (IsTrue (is_supported m) → IsNamed m (peer_past turns))
    → closes by ≡ false → AreForVat t → Went triggers.Message by turns t (accounts_of new)
went_heard m by turns t s new h lived named open_ for_vat = gives_by h.gives
  where
    late : (m : Message) → Late m by → IsNamed m (peer_past turns) → Went triggers.Message by turns t (accounts_of new)
    late (messages.Resolve x) it named =
        subst
        (λ (by : List Effect). AreSupported (messages_sent by) → Posts h.mid (messages_sent by) (accounts_of new) → closes by ≡ false
        → Went triggers.Message by turns t (accounts_of new))
        (sym it.3)
        (λ supported posts open_. went_release triggers.Message (record { id = it.0; reference_count = 1 }) it.1 turns t h.mid (accounts_of new) lived it.4 supported posts
        (was_named x it.0 (peer_past turns) it.2 named) open_ for_vat)
        h.supported
        h.posts
        open_
    late m it named = absurd it

    gives_by : AreQuiet by ⊎ (IsTrue (is_supported m) × Late m by) → Went triggers.Message by turns t (accounts_of new)
    gives_by (inl quiet) = went_quiet triggers.Message by turns t h.mid (accounts_of new) lived quiet h.supported h.posts open_ for_vat
    gives_by (inr it) = late m it.1 (named it.0)

-- quiet effects leave imports as they are
pub same_imports : (by : List Effect) (old new : Accounts) → AreQuiet by → Posts old (messages_sent by) new → (i : ℕ) → new.imports i ≡ old.imports i
same_imports [] old new quiet posts i = ap (λ (vat : Accounts). vat.imports i) posts
same_imports (effects.Send m ∷ more) old new quiet posts i =
    omega (arith, same_imports more posts.0 new quiet.1 posts.2 i, posts.1.imports i, none m quiet.0)
  where
    none : (m : Message) → IsQuiet (effects.Send m) → given_up m i ≡ 0
    none (messages.Release r) quiet = absurd quiet
    none m quiet = refl
same_imports (effects.Closed reason ∷ more) old new quiet posts i = same_imports more old new quiet.1 posts i
same_imports (effects.Deliver object origin ticket call ∷ more) old new quiet posts i = same_imports more old new quiet.1 posts i
same_imports (effects.Settled question outcome ∷ more) old new quiet posts i = same_imports more old new quiet.1 posts i

pub counts_fit : (s : State) → Local s → (i : ℕ) → count_of s.counts.imports i < 2 ^ 32
counts_fit s local i = by (get s.counts.imports i) (local.imported i)
  where
    by : (o : Option (Counted ImportKind)) → IfSome o (λ entry. IsCount entry.count) → option_map_or (λ entry. entry.count) o 0 < 2 ^ 32
    by None is = omega arith
    by (Some entry) is = is.1
