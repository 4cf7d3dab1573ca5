-- The objects of a connection, with those that they make.
use Rattle.std.specs.Prelude.{◌≡◌, ◌≢◌, ℕ, ◌+◌, ◌-◌, ◌==◌, ◌&&◌, ◌||◌, Bool, true, false, if◌then◌else◌, nat_lt, not, List, [], ◌∷◌, ◌++◌, drop, length, slice_get, Option, Some, None, is_some}
use Rattle.std.specs.List.{list_any}
use Rattle.std.specs.Option.{option_map_or, unwrap_or}
use Rattle.std.specs.FinMap.{get, insert, remove, empty, values, entries}
use Rattle.std.specs.FinSet as set
use Rattle.cp_tables.specs.Table.{Table, with_change}
use Rattle.cp_refs.specs.declared.cap.Cap.{Cap}
use Rattle.cp_refs.specs.declared.cap.Cap.TheVariants as caps
use Rattle.cp_refs.specs.declared.call.Request.{Request}
use Rattle.cp_refs.specs.declared.outcome.Outcome.{Outcome}
use Rattle.cp_vat_machine.specs.InUse.{caps_of}
use Rattle.cp_servants.specs.declared.servant.OutgoingCall.{OutgoingCall}
use Rattle.cp_servants.specs.declared.servant.Reply.{Reply}
use Rattle.cp_servants.specs.declared.servant.Reply.TheVariants as replies
use Rattle.cp_servants.specs.declared.servant.Settled.{Settled}
use Rattle.cp_servants.specs.Outcomes.{dropped_call, named_imports}
use Rattle.cp_objects.specs.declared.canceled_call.CanceledCall.{CanceledCall}
use Rattle.cp_objects.specs.declared.departed.Departed.{Departed}
use Rattle.cp_objects.specs.declared.context.ObjectEffect.{ObjectEffect}
use Rattle.cp_objects.specs.declared.context.ObjectEffect.TheVariants as effects
use Rattle.cp_objects.specs.declared.context.NewCap.{NewCap}
use Rattle.cp_objects.specs.declared.context.NewCap.TheVariants as new_caps
use Rattle.cp_objects.specs.declared.object_entry.ObjectEntry.{ObjectEntry}
use Rattle.cp_objects.specs.declared.any_object.AnyObject.{AnyObject}
use Rattle.cp_objects.specs.declared.any_object.AnyObject.TheVariants as any
use Rattle.cp_objects.specs.declared.letters.Letter.{Letter}
use Rattle.cp_objects.specs.declared.letters.LetterBody.TheVariants as bodies
use Rattle.cp_objects.specs.declared.shared_cap.LentCap.{LentCap}
use Rattle.cp_objects.specs.declared.objects.Objects.{Objects}
use Rattle.cp_objects.specs.AnyObject.{lent_by, with_lent}
use Rattle.cp_objects.specs.Context.{ContextState, begun, context_of, without_those_made}
use Rattle.cp_objects.specs.Forwarding.{new_forwarder}
use Rattle.cp_objects.specs.Proxying.{new_proxy}
use Rattle.cp_objects.specs.ServedObject.{ServedObjectKind}
use Rattle.cp_objects.specs.ServedObject as served_object
use Rattle.cp_objects.specs.Counts.{those_in, times}
use Rattle.cp_objects.specs.Members.{has_call, held_in, next_calls_of, departed, earlier, is_later, newborn, not_to_call, to_call}
use Rattle.cp_objects.specs.Numbers.{Numbers, is_among, is_number, local_in, without, without_each}
use Rattle.cp_objects.specs.Promises.{Promised, adopted_each, named, none_promised, promised_of, promising, resolving, with_outcome, with_request}

-- The objects by their numbers; where they are, and which number the next one gets; below which number they stay; which are to be polled; who owes the answer
-- of which call; which objects and promises the params of such a call name; their promises; what calls came to that weren't settled by polls, in order; the
-- imports that they gave up beside what they answered, in order; the calls that they made and gave up, in order; what goes to other sessions, in order; the object that makes the calls of
-- others; and the time before which none is to be woken here.
pub record ObjectsState (A : Type 0) : Type 0 where
  pub members : Table (ObjectEntry (AnyObject A))
  pub context : ContextState A
  pub stays : ℕ
  pub awake : Numbers
  pub pending_answers : Table ℕ
  pub param_caps : Table (List ℕ)
  pub promised : Promised
  pub settled : List Settled
  pub given_up : List ℕ
  pub canceled : List CanceledCall
  pub letters : List Letter
  pub forwarder : Option ℕ
  pub first_alarm : Option ℕ

abbrev pub objects_of : {A : Type 0} → Objects A → ObjectsState A
objects_of f = record {
  members = f.members;
  context = context_of f.context;
  stays = f.stays;
  awake = f.awake;
  pending_answers = f.pending_answers;
  param_caps = f.param_caps;
  promised = promised_of f.promises;
  settled = f.settled.items;
  given_up = f.given_up;
  canceled = f.canceled.items;
  letters = f.letters.items;
  forwarder = f.forwarder;
  first_alarm = f.first_alarm;
}

-- no objects
abbrev pub alone : {A : Type 0} → ObjectsState A
alone = record { members = empty; context = begun; stays = 0; awake = set.empty; pending_answers = empty; param_caps = empty; promised = none_promised; settled = []; given_up = []; canceled = []; letters = []; forwarder = None; first_alarm = None }

-- the first time that is to come
abbrev pub first_of : ℕ → Option ℕ → Option ℕ → Option ℕ
first_of now first None = first
first_of now first (Some time) = if nat_lt now time then Some (earlier first time) else first

-- the same, but that nothing is given up by it but what is held
abbrev pub giving_held : List ℕ → Settled → Settled
giving_held holds given = record given { gives_up = those_in given.gives_up holds }

abbrev pub replying_held : List ℕ → Reply → Reply
replying_held holds (replies.Now outcome gives_up) = replies.Now outcome (those_in gives_up holds)
replying_held holds replies.Later = replies.Later

-- what the object of this number settled, if it owed that: of the imports that are given up those are that it holds
abbrev pub own_of : ℕ → List ℕ → Option Settled → Table ℕ → Option Settled
own_of number holds None pending_answers = None
own_of number holds (Some given) pending_answers = if is_number number (get pending_answers given.ticket) then Some (giving_held holds given) else None

-- an object of this number is changed so, if it is there
abbrev pub with_object : {X : Type 0} → Table (ObjectEntry X) → ℕ → (X → X) → Table (ObjectEntry X)
with_object members number change = with_change members number (λ m. record m { object = change m.object })

-- the number of the first of these
abbrev pub first_of_entries : {X : Type 0} → List (ℕ × X) → Option ℕ
first_of_entries [] = None
first_of_entries (entry ∷ more) = Some entry.0

-- what a call comes to that was to be answered later, and that was dropped
abbrev pub failing : ℕ → List ℕ → Settled
failing ticket gives_up = record { ticket = ticket; outcome = dropped_call; gives_up = gives_up }

module _ {A : Type 0} where
  -- its promises are these
  abbrev pub promised_so : Promised → ObjectsState A → ObjectsState A
  promised_so promised state = record state { promised = promised }

  -- it is this from now on
  abbrev pub placing : ℕ → ObjectEntry (AnyObject A) → ObjectsState A → ObjectsState A
  placing number member state = record state { members = insert state.members number member }

  -- it is to be polled
  abbrev pub awoken : ℕ → ObjectsState A → ObjectsState A
  awoken number state = record state { awake = set.insert state.awake number }

  -- an object is there that stands for this, under this number, and is to be polled
  abbrev pub joining_proxy : ℕ → LentCap → ObjectsState A → ObjectsState A
  joining_proxy number shared state =
      record (awoken number (placing number (newborn (any.Proxy (new_proxy shared))) state)) { context = record state.context { stands = insert state.context.stands number shared } }

  -- one object more is there, under the next number, and is to be polled; or one promise of the object that does something
  abbrev pub joining : NewCap A → ObjectsState A → ObjectsState A
  joining (new_caps.Object object) state = record state {
    members = insert state.members state.context.next (newborn (any.Own object));
    awake = set.insert state.awake state.context.next;
    context = record state.context { next = state.context.next + 1 };
  }
  joining (new_caps.Proxy shared) state = joining_proxy state.context.next shared (record state { context = record state.context { next = state.context.next + 1 } })
  joining new_caps.Promise state = record state {
    promised = promising state.context.next state.context.this.object state.promised;
    context = record state.context { next = state.context.next + 1 };
  }

  -- these are there too, under the next numbers, in order
  abbrev pub joined : List (NewCap A) → ObjectsState A → ObjectsState A
  joined [] state = state
  joined (new_cap ∷ more) state = joined more (joining new_cap state)

  -- what was made is there from now on
  abbrev pub with_those_made : ObjectsState A → ObjectsState A
  with_those_made state = joined state.context.made (record state { context = record state.context { made = [] } })

  -- the program adds one, which stays
  abbrev pub adding : A → ObjectsState A → ObjectsState A
  adding object state =
      let more = with_those_made (record state { context = record state.context { made = state.context.made ++ new_caps.Object object ∷ [] } }) in
      record more { stays = more.context.next }

  -- it adds these, in order
  abbrev pub adding_each : List A → ObjectsState A → ObjectsState A
  adding_each [] state = state
  adding_each (object ∷ more) state = adding_each more (adding object state)

  -- the object of this number is as it was but for this
  abbrev pub changing : ℕ → (ObjectEntry (AnyObject A) → ObjectEntry (AnyObject A)) → ObjectsState A → ObjectsState A
  changing number change state = record state { members = with_change state.members number change }

  -- it isn't to be polled any more
  abbrev pub resting : ℕ → ObjectsState A → ObjectsState A
  resting number state = record state { awake = set.remove state.awake number }

  -- it is to be polled, if it is there
  abbrev pub waking : ℕ → ObjectsState A → ObjectsState A
  waking number state = option_map_or (λ member. awoken number state) (get state.members number) state

  -- the imports that the object of this number holds
  abbrev pub held_by : ℕ → ObjectsState A → List ℕ
  held_by number state = held_in number state.members

  -- It gives an import up beside what it answers. Where it doesn't hold that, nothing is done.
  abbrev pub giving_up_import : ℕ → ℕ → ObjectsState A → ObjectsState A
  giving_up_import number i state =
      if is_among i (held_by number state)
      then record (changing number (λ m. record m { holds = without i m.holds }) state) { given_up = state.given_up ++ i ∷ [] } else state

  -- An import that one object holds is held by another in its place, if that is there.
  abbrev pub handing_over : ℕ → ℕ → ℕ → ObjectsState A → ObjectsState A
  handing_over from to i state =
      if is_some (get state.members to) && is_among i (held_by from state)
      then changing to (λ m. record m { holds = m.holds ++ i ∷ [] }) (changing from (λ m. record m { holds = without i m.holds }) state) else state

  -- what the object of this number settled is owed no more
  abbrev pub answering : ℕ → Settled → ObjectsState A → ObjectsState A
  answering number given state =
      record (changing number (λ m. record m { holds = without_each given.gives_up m.holds }) state) { pending_answers = remove state.pending_answers given.ticket; param_caps = remove state.param_caps given.ticket }

  -- this object owed that, and what it comes to is handed out later
  abbrev pub settling_for : ℕ → Settled → ObjectsState A → ObjectsState A
  settling_for owner given state = record (answering owner given state) { settled = state.settled ++ given ∷ [] }

  -- A call comes to this that an object owes the answer of, whichever that is: of the imports that are given up those are that it holds. Else nothing is done.
  abbrev pub settling : Settled → ObjectsState A → ObjectsState A
  settling given state = option_map_or (λ owner. settling_for owner (giving_held (held_by owner state) given) state) (get state.pending_answers given.ticket) state

  -- The object of this number gives up a call of its own. One that it is yet to make isn't made; and else it is kept that the call is to be finished.
  abbrev pub giving_up_call : ℕ → ℕ → ObjectsState A → ObjectsState A
  giving_up_call number call_id state =
      if has_call call_id (next_calls_of number state.members) then changing number (not_to_call call_id) state
      else record state { canceled = state.canceled ++ record { number = number; call_id = call_id } ∷ [] }

  -- this goes to another session, after what went before
  abbrev pub posting : Letter → ObjectsState A → ObjectsState A
  posting letter state = record state { letters = state.letters ++ letter ∷ [] }

  -- the object is there that makes the calls of other sessions, under the next number if it is new
  abbrev pub joining_forwarder : ℕ → ObjectsState A → ObjectsState A
  joining_forwarder number state =
      record (awoken number (placing number (newborn (any.Forwarder new_forwarder)) (record state { context = record state.context { next = number + 1 } }))) { forwarder = Some number }

  abbrev pub with_forwarder : ObjectsState A → ObjectsState A
  with_forwarder state = if is_some state.forwarder then state else joining_forwarder state.context.next state

  -- the number of it, where it is there
  abbrev pub forwarder_of : ObjectsState A → ℕ
  forwarder_of state = unwrap_or state.forwarder 0

  -- how many capabilities they lend
  abbrev pub lent_in : ObjectsState A → ℕ
  lent_in state = option_map_or (λ number. option_map_or (λ entry. lent_by entry.object) (get state.members number) 0) state.forwarder 0

  -- An import that an object holds is lent: the forwarder holds it in its place, once.
  abbrev pub once_held : ℕ → ℕ → ObjectsState A → ObjectsState A
  once_held number i state = if nat_lt 1 (times i (held_by number state)) then giving_up_import number i state else state

  abbrev pub holding_import : ℕ → ℕ → ℕ → ObjectsState A → ObjectsState A
  holding_import number forwarder i state = once_held forwarder i (handing_over number forwarder i state)

  -- the object of a number is this from now on
  abbrev pub becoming : ℕ → (AnyObject A → AnyObject A) → ObjectsState A → ObjectsState A
  becoming number change state = record state { members = with_object state.members number change }

  -- an object or a promise of this end that is lent is kept
  abbrev pub holding_lent : ℕ → ℕ → Cap → ObjectsState A → ObjectsState A
  holding_lent number forwarder (caps.Import i) state = holding_import number forwarder i state
  holding_lent number forwarder (caps.Object k) state = changing forwarder (λ m. record m { keeps = m.keeps ++ k ∷ [] }) state
  holding_lent number forwarder other state = state

  -- This is lent from now on, and held for that; an import that an object held it holds no more.
  abbrev pub lending_from : ℕ → ℕ → LentCap → ObjectsState A → ObjectsState A
  lending_from forwarder number shared state = becoming forwarder (with_lent shared) (awoken forwarder (holding_lent number forwarder shared.cap state))

  abbrev pub lending_cap : ℕ → LentCap → ObjectsState A → ObjectsState A
  lending_cap number shared state = let at = with_forwarder state in lending_from (forwarder_of at) number shared at

  -- what the object of this number did is done
  abbrev pub following : ℕ → ObjectEffect → ObjectsState A → ObjectsState A
  following number (effects.Keep keeper kept) state = changing keeper (λ m. record m { keeps = m.keeps ++ kept ∷ [] }) state
  following number (effects.HandOver keeper i) state = handing_over number keeper i state
  following number (effects.GiveUp kept) state = changing number (λ m. record m { keeps = without kept m.keeps }) state
  following number (effects.GiveUpImport i) state = giving_up_import number i state
  following number (effects.Wake waker) state =
      if waker.session == state.context.this.session then waking waker.object state else posting (record { to = waker.session; body = bodies.Wake waker.object }) state
  following number (effects.WakeAt time) state =
      record (changing number (λ m. record m { alarm = Some time }) state) { first_alarm = Some (earlier state.first_alarm time) }
  following number (effects.Resolve promise value) state = promised_so (resolving promise value state.promised) state
  following number (effects.Call next_call) state = changing number (to_call next_call) state
  following number (effects.Cancel call_id) state = giving_up_call number call_id state
  following number (effects.Settle given) state = settling given state
  following number (effects.Lend shared) state = lending_cap number shared state
  following number (effects.Post letter) state = posting letter state

  abbrev pub followed : ℕ → List ObjectEffect → ObjectsState A → ObjectsState A
  followed number [] state = state
  followed number (effect ∷ more) state = followed number more (following number effect state)

  -- What the object of this number made is there from now on, and what else it did is done, in order.
  abbrev pub settled : ℕ → ObjectsState A → ObjectsState A
  settled number state = let more = with_those_made state in followed number more.context.effects (record more { context = record more.context { effects = [] } })

  -- What it did last is done, but that another one keeps something.
  abbrev pub following_last : ℕ → ObjectEffect → ObjectsState A → ObjectsState A
  following_last number (effects.Keep keeper kept) state = state
  following_last number other state = following number other state

  abbrev pub followed_last : ℕ → List ObjectEffect → ObjectsState A → ObjectsState A
  followed_last number [] state = state
  followed_last number (effect ∷ more) state = followed_last number more (following_last number effect state)

  -- What it made last isn't kept, and what else it did is done, in order.
  abbrev pub settled_last : ℕ → ObjectsState A → ObjectsState A
  settled_last number state =
      let less = record state { context = without_those_made state.context } in followed_last number less.context.effects (record less { context = record less.context { effects = [] } })

  -- where the object of this number is when it does something, and how it leaves that
  abbrev pub entered : ℕ → ObjectsState A → ContextState A
  entered number state = record state.context { this = record state.context.this { object = number } }

  abbrev pub leaving : ContextState A → ObjectsState A → ObjectsState A
  leaving place state = record state { context = place }

  -- each promise of the vat's that a table names and that has no number yet gets the next one, by which objects name it
  abbrev pub adopting : List Cap → ObjectsState A → ObjectsState A
  adopting table state =
      let adopted = adopted_each table (state.promised, state.context.next) in record state { promised = adopted.0; context = record state.context { next = adopted.1 } }

  -- the objects and promises that the params of a call name are held until it is answered, if there are some
  abbrev pub lending : ℕ → List ℕ → ObjectsState A → ObjectsState A
  lending ticket [] state = state
  lending ticket (first ∷ more) state = record state { param_caps = insert state.param_caps ticket (first ∷ more) }

  -- a reply is noted: what the object gave up, or that it owes the answer to a call whose params name these
  abbrev pub noting : ℕ → ℕ → List ℕ → Reply → ObjectsState A → ObjectsState A
  noting number ticket named (replies.Now outcome gives_up) state = changing number (λ m. record m { holds = without_each gives_up m.holds }) state
  noting number ticket named replies.Later state = lending ticket named (record state { pending_answers = insert state.pending_answers ticket number })

  -- a call that the object asks for is noted, if it does
  abbrev pub asking : ℕ → Option OutgoingCall → ObjectsState A → ObjectsState A
  asking number None state = state
  asking number (Some next_call) state = changing number (to_call next_call) state

  -- The call that it is to make first is handed out, if there is one, and the others are left.
  abbrev pub HandsNextCall : ℕ → Option OutgoingCall → ObjectsState A → ObjectsState A → Type 0
  HandsNextCall number next_call old new = (next_call ≡ slice_get (next_calls_of number old.members) 0) × (new ≡ changing number (λ m. record m { next_calls = drop 1 m.next_calls }) old)

  -- the object made a promise that isn't resolved, or another keeps it
  abbrev pub is_kept : ObjectsState A → ℕ → Bool
  is_kept state k = is_among k (values state.promised.makers) || list_any (λ member. is_among k member.keeps) (values state.members)

  -- The object owes an answer, or the params of a call that isn't answered name it; or it made a promise that isn't resolved, or another keeps it. While an outcome is
  -- to be handed out, which may name any, each is held.
  abbrev pub is_held : ObjectsState A → ℕ → Bool
  is_held state k =
      nat_lt 0 (length state.settled)
      || (is_among k (values state.pending_answers) || (list_any (λ named. is_among k named) (values state.param_caps) || is_kept state k))

  -- these are those that made such a promise, and those that another keeps
  abbrev pub AreKept : ObjectsState A → Numbers → Type 0
  AreKept state kept = (k : ℕ) → set.contains kept k ≡ is_kept state k

  -- An object goes where the program didn't add it, it waits for no outcome, owes no answer, has no promise to resolve, and no object keeps it. It stays while
  -- the connection refers to it.
  abbrev pub is_idle : ObjectsState A → ℕ → ObjectEntry (AnyObject A) → Bool
  is_idle state k member = not (nat_lt k state.stays) && member.asked == 0 && not (is_number k state.forwarder) && not (is_held state k)

  -- those of these, in order
  abbrev pub idle_among : ObjectsState A → List (ℕ × ObjectEntry (AnyObject A)) → List ℕ
  idle_among state [] = []
  idle_among state (entry ∷ more) = if is_idle state entry.0 entry.1 then entry.0 ∷ idle_among state more else idle_among state more

  abbrev pub idle_of : ObjectsState A → List ℕ
  idle_of state = idle_among state (entries state.members)

  -- A promise goes unless the vat uses it: it is resolved, and no object keeps it.
  abbrev pub is_loose : ObjectsState A → ℕ → Bool
  is_loose state number = not (is_some (get state.promised.makers number)) && not (is_held state number)

  -- the vat's promises of those of these, in order
  abbrev pub loose_among : ObjectsState A → List (ℕ × ℕ) → List ℕ
  loose_among state [] = []
  loose_among state (entry ∷ more) = if is_loose state entry.1 then entry.0 ∷ loose_among state more else loose_among state more

  abbrev pub loose_of : ObjectsState A → List ℕ
  loose_of state = loose_among state (entries state.promised.names)

  -- the object of this number is gone
  abbrev pub losing : ℕ → ObjectsState A → ObjectsState A
  losing number state = record state {
    members = remove state.members number;
    awake = set.remove state.awake number;
    context = record state.context { stands = remove state.context.stands number };
  }

  -- what it leaves
  abbrev pub departed_of : ℕ → ObjectsState A → Departed
  departed_of number state = option_map_or departed (get state.members number) (record { imports = []; next_calls = [] })

  -- it is that of a session of this number
  abbrev pub in_session : ℕ → ObjectsState A → ObjectsState A
  in_session session state = record state { context = record state.context { this = record state.context.this { session = session } } }

  -- the first object, by the numbers
  abbrev pub first_number : ObjectsState A → Option ℕ
  first_number state = first_of_entries (entries state.members)

  -- the objects whose time has come, in order
  abbrev pub due_among : ℕ → List (ℕ × ObjectEntry (AnyObject A)) → List ℕ
  due_among now [] = []
  due_among now (entry ∷ more) = if is_later now entry.1.alarm then due_among now more else entry.0 ∷ due_among now more

  -- the first of their times that is to come, and of this one
  abbrev pub next_alarm : ℕ → Option ℕ → List (ℕ × ObjectEntry (AnyObject A)) → Option ℕ
  next_alarm now first [] = first
  next_alarm now first (entry ∷ more) = next_alarm now (first_of now first entry.1.alarm) more

  -- the time of this object has come
  abbrev pub ringing : ℕ → ObjectsState A → ObjectsState A
  ringing k state = awoken k (changing k (λ m. record m { alarm = None }) state)

  abbrev pub rung : List ℕ → ObjectsState A → ObjectsState A
  rung [] state = state
  rung (k ∷ more) state = rung more (ringing k state)

  -- Those are to be polled whose time has come by this one, and the next time is known.
  abbrev pub rung_at : ℕ → ObjectsState A → ObjectsState A
  rung_at now state = record (rung (due_among now (entries state.members)) state) { first_alarm = next_alarm now None (entries state.members) }

  -- so it is where one's time may have come
  abbrev pub woken : ObjectsState A → ObjectsState A
  woken state = if is_later state.context.now state.first_alarm then state else rung_at state.context.now state

-- Of objects of one kind.
module _ {A : Type 0} (kind : ServedObjectKind (AnyObject A) A) where
  -- The object of this number is called, and sees promises of this end under numbers. It is given the call's imports, and does what its kind says. What it replied
  -- is noted, but that it gives up only imports that it holds; it is to be polled, and what it did beside is done.
  pub record Calls (number ticket : ℕ) (request : Request) (reply : Reply) (old new : ObjectsState A) : Type 0 where
    pub before : ObjectEntry (AnyObject A)
    pub object : AnyObject A
    pub place : ContextState A
    pub first : ObjectsState A
    pub seen : Request
    pub said : Reply
    pub adopts : first ≡ adopting request.caps old
    pub was : get first.members number ≡ Some before
    pub sees : seen ≡ with_request (named first.promised.names) request
    pub takes : kind.takes before.object ticket seen (entered number first) said place object
    pub replies : reply ≡ replying_held (before.holds ++ named_imports request.caps) said
    pub is : new ≡ settled number (awoken number (noting number ticket (local_in seen.caps) reply
        (leaving place (placing number (record before { object = object; holds = before.holds ++ named_imports request.caps }) first))))

  -- After a poll an object is to be polled again exactly if it gave something, which is owed no more, or says that it may give more.
  pub data GoesOn (number : ℕ) (object : AnyObject A) (state : ObjectsState A) : Option Settled → ObjectsState A → Type 0 where
    gave_some : (given : Settled) → GoesOn number object state (Some given) (answering number given state)
    says_more : kind.says_more true object → GoesOn number object state None state
    rests : kind.says_more false object → GoesOn number object state None (resting number state)

  -- The object of this number is polled. What it settled counts if it owed that, and what it did beside is done.
  pub record Polls (number : ℕ) (given : Option Settled) (old new : ObjectsState A) : Type 0 where
    pub before : ObjectEntry (AnyObject A)
    pub object : AnyObject A
    pub place : ContextState A
    pub said : Option Settled
    pub rest : ObjectsState A
    pub was : get old.members number ≡ Some before
    pub polls : kind.polls before.object (entered number old) said place object
    pub own : given ≡ own_of number before.holds said old.pending_answers
    pub goes_on : GoesOn number object (leaving place (placing number (record before { object = object }) old)) given rest
    pub is : new ≡ settled number rest

  -- It is asked for a call, which it is to make before those that it sends meanwhile. What it did beside is done.
  pub record AsksNextCall (number : ℕ) (old new : ObjectsState A) : Type 0 where
    pub before : ObjectEntry (AnyObject A)
    pub object : AnyObject A
    pub place : ContextState A
    pub said : Option OutgoingCall
    pub was : get old.members number ≡ Some before
    pub next_calls : kind.next_calls before.object (entered number old) said place object
    pub is : new ≡ settled number (asking number said (leaving place (placing number (record before { object = object }) old)))

  -- The next call of an object is the first of those that it sent. Where it sent none, it is the one that the object is asked for.
  pub data NextCalls (number : ℕ) (next_call : Option OutgoingCall) (old new : ObjectsState A) : Type 0 where
    has_one : next_calls_of number old.members ≢ [] → HandsNextCall number next_call old new → NextCalls number next_call old new
    has_none : (mid : ObjectsState A) → next_calls_of number old.members ≡ [] → AsksNextCall number old mid → HandsNextCall number next_call mid new → NextCalls number next_call old new

  -- An object is told what a call of its own came to, and given the imports of that. It is to be polled, and what it did beside is done.
  pub record Responds (number call_id : ℕ) (outcome : Outcome) (old new : ObjectsState A) : Type 0 where
    pub before : ObjectEntry (AnyObject A)
    pub object : AnyObject A
    pub place : ContextState A
    pub first : ObjectsState A
    pub adopts : first ≡ adopting (caps_of outcome) old
    pub was : get first.members number ≡ Some before
    pub on_response : kind.on_response before.object call_id (with_outcome (named first.promised.names) outcome) (entered number first) place object
    pub is : new ≡ settled number (awoken number (leaving place
        (placing number (record before { object = object; asked = before.asked - 1; holds = before.holds ++ named_imports (caps_of outcome) }) first)))

  -- The object of this number is told its end. What it made isn't kept, and what it did beside is done.
  pub record IsToldEnd (number : ℕ) (old new : ObjectsState A) : Type 0 where
    pub before : ObjectEntry (AnyObject A)
    pub object : AnyObject A
    pub place : ContextState A
    pub was : get old.members number ≡ Some before
    pub ends : served_object.Ends kind before.object (entered number old) place object
    pub is : new ≡ settled_last number (leaving place (placing number (record before { object = object }) old))

  -- An object is told its end, and then it is gone. It leaves the imports that it held, and the calls that it is yet to make.
  abbrev pub Ends : ℕ → Departed → ObjectsState A → ObjectsState A → Type 0
  Ends number left old new = (told : ObjectsState A) × IsToldEnd number old told × (left ≡ departed_of number told) × (new ≡ losing number told)

  -- Each object is told its end, in the order of the numbers, and is gone then, until none is left.
  pub data EndsAll : ObjectsState A → ObjectsState A → Type 0 where
    none_left : {old : ObjectsState A} → first_number old ≡ None → EndsAll old old
    ends_one : {old mid new : ObjectsState A} (number : ℕ) (left : Departed) → first_number old ≡ Some number → Ends number left old mid → EndsAll mid new → EndsAll old new

module _ {A : Type 0} where
  -- What a call came to first that wasn't settled by a poll is handed out. Where there is none, a call may fail that is owed, as one that was dropped.
  pub data HandsSettled : Option Settled → ObjectsState A → ObjectsState A → Type 0 where
    was_settled : {old new : ObjectsState A} (given : Settled) → old.settled ≡ given ∷ new.settled → new ≡ record old { settled = new.settled } → HandsSettled (Some given) old new
    was_dropped : {old new : ObjectsState A} (owner ticket : ℕ) (gives_up : List ℕ) → old.settled ≡ [] → get old.pending_answers ticket ≡ Some owner
        → new ≡ answering owner (failing ticket (those_in gives_up (held_by owner old))) old
        → HandsSettled (Some (failing ticket (those_in gives_up (held_by owner old)))) old new
    none_left : {old : ObjectsState A} → old.settled ≡ [] → HandsSettled None old old
