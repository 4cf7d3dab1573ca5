-- What each call does to a session.
use Rattle.std.specs.Prelude.{◌≡◌, ◌≢◌, ◌⊎◌, ℕ, ◌==◌, ◌<◌, ◌≤◌, nat_lt, if◌then◌else◌, Bool, true, IsSome, is_some, ◌||◌, ◌&&◌, List, [], ◌∷◌, ◌++◌, ◌^◌, Option, Some, None, Result, length}
use Rattle.cp_frame.specs.Reader.{taken_of}
use Rattle.cp_refs.specs.declared.call.Origin.TheVariants as origins
use Rattle.cp_refs.specs.declared.outcome.Outcome.{Outcome}
use Rattle.cp_vat_machine.specs.InUse.{caps_of}
use Rattle.cp_vat_machine.specs.declared.event.Event as machine
use Rattle.cp_vat_machine.specs.declared.event.Value.{Value}
use Rattle.cp_connection.specs.declared.fault.ConnectionFault.{ConnectionFault}
use Rattle.cp_connection.specs.declared.fault.ConnectionFault.TheVariants as faults
use Rattle.cp_connection.specs.declared.excess.Excess.{Excess}
use Rattle.cp_connection.specs.Doing.{Acts}
use Rattle.cp_connection.specs.Excess.{excess_of}
use Rattle.cp_connection.specs.Link.{Link}
use Rattle.cp_connection.specs.Receiving.{Wrote}
use Rattle.cp_objects.specs.declared.objects.Objects.{Objects}
use Rattle.cp_objects.specs.declared.letters.Letter.{Letter}
use Rattle.cp_objects.specs.declared.letters.LetterBody.{LetterBody}
use Rattle.cp_objects.specs.Objects.{adding, objects_of}
use Rattle.cp_objects.specs.ObjectTable.{ObjectTableKind}
use Rattle.cp_objects.specs.Context.{next_number, own_object}
use Rattle.cp_objects.specs.declared.session_cap.SessionCap.{SessionCap}
use Rattle.cp_dispatch.specs.declared.event.SessionEvent.{SessionEvent}
use Rattle.cp_dispatch.specs.Canceling.{Cancels}
use Rattle.cp_dispatch.specs.Finishing.{GivesBackEach}
use Rattle.cp_dispatch.specs.Finishing as own
use Rattle.cp_dispatch.specs.Noticed.{is_last}
use Rattle.cp_dispatch.specs.Receiving.{IsCutShort}
use Rattle.cp_dispatch.specs.Rounds.{HandsOver}
use Rattle.cp_dispatch.specs.Work.{Work, Lives}
use Rattle.cp_dispatch.specs.Work as works
use Rattle.cp_dispatch.specs.declared.event.SessionEvent.TheVariants as events
use Rattle.cp_dispatch.specs.declared.event.Limit.{Limit}
use Rattle.cp_dispatch.specs.declared.event.Limit.TheVariants as limits
use Rattle.cp_session.specs.declared.progress.Phase.{Phase}
use Rattle.cp_session.specs.declared.progress.Phase.TheVariants as phases
use Rattle.cp_session.specs.Asking.{AsksPeer}
use Rattle.cp_session.specs.Kept.{kept_of}
use Rattle.cp_session.specs.Refusing.{Refuses}
use Rattle.cp_session.specs.Progress.{ask_by, deadline_of, earlier, ended_again, written_at, excess_by, failed, finished, heeding, left, met, over, taken_at, IsDraining, TicksTo}
use Rattle.cp_session.specs.Serves.{Ends, HasGiven, IsUnended, MayGive, Takes, WorksOn}
use Rattle.cp_session.specs.Service.{stirred}
use Rattle.cp_session.specs.State.{State, link_of, linked, with_progress, worked}
use Rattle.cp_session.specs.Sweep.{HasCome, SweepsInTime}

-- the one fault, or else the other
abbrev pub or_else : Option ConnectionFault → Option ConnectionFault → Option ConnectionFault
or_else (Some fault) other = Some fault
or_else None other = other

-- The event that comes after all outcomes says why nothing more is taken: a limit was met; or there was a fault; or the peer's bytes ended, and all went out.
abbrev pub ending_by : Option Limit → Option ConnectionFault → Phase → Option SessionEvent
ending_by (Some limit) fault phase = Some (events.Limit limit)
ending_by None (Some fault) phase = Some (events.Fault fault)
ending_by None None phases.Over = Some events.Ended
ending_by None None other = None

-- nothing but the objects changed
abbrev pub KeepsRest : {H : Type 0} → State H → State H → Type 0
KeepsRest old new = new ≡ record old { objects = new.objects }

-- the capability of the object that is added next
abbrev pub next_cap : {A : Type 0} → State (Objects A) → SessionCap
next_cap state = let place = (objects_of state.objects).context in own_object (next_number place) place

-- there is an object more, which stays, and nothing else changed
abbrev pub Adds : {A : Type 0} → A → State (Objects A) → State (Objects A) → Type 0
Adds object old new = (new ≡ record old { objects = new.objects }) × (objects_of new.objects ≡ adding object (objects_of old.objects))

module _ {H : Type 0} where
  -- More of the peer is taken while little waits to be written.
  pub record MayTake (state : State H) : Type 0 where
    pub serves : state.progress.phase ≡ phases.Serving
    pub few : length (link_of state).unwritten ≤ state.limits.ahead

  -- nothing more is given: the connection ended, or there was a fault, or a limit was met
  abbrev pub IsStopped : State H → Type 0
  IsStopped state = IsSome (link_of state).fault ⊎ (IsSome state.progress.fault ⊎ IsSome state.progress.limit)

  -- nothing is given any more: it stopped, or all went out after the peer's bytes ended
  abbrev pub IsDone : State H → Type 0
  IsDone state = IsStopped state ⊎ (IsDraining state.progress.phase ⊎ (state.progress.phase ≡ phases.Over))

  -- the same, as a test
  abbrev pub is_stopped : State H → Bool
  is_stopped state = is_some (link_of state).fault || (is_some state.progress.fault || is_some state.progress.limit)

  -- nothing but its connection changed
  abbrev pub Did : State H → machine.Event → Result Value ConnectionFault → State H → Type 0
  Did old event result new = (link : Link) × Acts (link_of old) event result link × (new ≡ linked old link)

  -- The program gave an import back that outcomes named, and nothing else was done.
  pub record GivesBack (import : ℕ) (old : State H) (result : Result Value ConnectionFault) (new : State H) : Type 0 where
    pub work : Work
    pub gives_back : works.GivesBack import old.service.work result work
    pub same : new ≡ worked old work

  -- What an outcome named is given back, and nothing else is done. Where memory runs out for that nothing more is taken.
  pub data ReleasesOutcome (outcome : Outcome) (old new : State H) : Type 0 where
    gives_back : (work : Work) → GivesBackEach (caps_of outcome) old.service.work work → Lives (link_of old) work.link → new ≡ worked old work
        → ReleasesOutcome outcome old new
    runs_out_of_memory : (work : Work) → Lives (link_of old) work.link → new ≡ with_progress (worked old work) (failed old.progress faults.OutOfMemory)
        → ReleasesOutcome outcome old new

  -- the same of an outcome that wasn't taken, if there is one
  abbrev pub ReleasesUntaken : Option Outcome → State H → State H → Type 0
  ReleasesUntaken (Some outcome) old new = ReleasesOutcome outcome old new
  ReleasesUntaken None old new = new ≡ old

  -- when the peer is asked, if no byte moves before: only where all was written
  abbrev pub ask_time : State H → Option ℕ
  ask_time state = if length (link_of state).unwritten == 0 then ask_by state.limits state.progress state.progress.phase state.progress.asked else None

  -- A peer that was silent for half of the time that it may be is asked, once.
  pub data Asks (now : ℕ) (old new : State H) : Type 0 where
    not_yet_silent : (HasCome now (ask_time old) → ⊥) → new ≡ old → Asks now old new
    is_silent : (link : Link) → HasCome now (ask_time old) → AsksPeer (link_of old) link
        → new ≡ with_progress (linked old link) (record old.progress { asked = Some (length link.unwritten) }) → Asks now old new

  -- when a limit of time is met, if no byte moves before, or the peer is asked
  abbrev pub limit_of : State H → Option ℕ
  limit_of state = earlier (deadline_of state.limits state.progress state.progress.phase) (ask_time state)

  -- the fault for which nothing more is taken
  abbrev pub fault_of : State H → Option ConnectionFault
  fault_of state = or_else state.progress.fault (link_of state).fault

-- Of objects of one kind.
module _ {H : Type 0} (table : ObjectTableKind H) where
  -- The object that is to answer a call of the program's which is given up is told, if there is one, and what follows is worked off. Where memory runs out for
  -- that nothing more is taken.
  pub data CancelsOwn (question : ℕ) (old new : State H) : Type 0 where
    tells_owing : (work : Work) → Cancels table (Some (origins.Own question)) old.service.work work old.objects new.objects → Lives (link_of old) work.link
        → new ≡ record (worked old work) { objects = new.objects } → CancelsOwn question old new
    tells_none : (work : Work) → Lives (link_of old) work.link
        → new ≡ with_progress (record (worked old work) { objects = new.objects }) (failed old.progress faults.OutOfMemory) → CancelsOwn question old new

  -- A question was finished. An outcome that came and wasn't handed out never is, and what it named is given back. An object that is to answer it is told.
  pub record FinishesQuestion (question : ℕ) (old new : State H) : Type 0 where
    pub untaken : Option Outcome
    pub work : Work
    pub mid : State H
    pub finishes : own.Finishes question untaken old.service.work work
    pub releases : ReleasesUntaken untaken (worked old work) mid
    pub cancels : CancelsOwn question mid new

  -- something may be given though nothing more comes
  abbrev pub GivesMore : State H → Type 0
  GivesMore state = (IsStopped state → ⊥) × MayGive table state.service state.objects

  -- why nothing is given
  abbrev pub GivesNone : State H → Type 0
  GivesNone state = IsStopped state ⊎ HasGiven table state.service state.objects

  -- nothing is taken, all went out, and nothing more is given
  pub record IsSettled (state : State H) : Type 0 where
    pub ending : state.progress.phase ≡ phases.Ending
    pub all_written : (link_of state).unwritten ≡ []
    pub none_given : GivesNone state

  -- why something may be left to be done yet, or nothing is
  abbrev pub IsUnsettled : State H → Type 0
  IsUnsettled state = (state.progress.phase ≢ phases.Ending) ⊎ (((link_of state).unwritten ≢ []) ⊎ GivesMore state)

  -- once a session is settled the peer's close is waited for, if it isn't there
  pub data Leaves (old : State H) (now : ℕ) (new : State H) : Type 0 where
    stays : IsUnsettled old → new ≡ old → Leaves old now new
    leaves : IsSettled old → new ≡ with_progress old (left old.progress now) → Leaves old now new

  -- Once nothing is given any more each object is told its end, and none is left. Where memory runs out some may be left untold, and that is the session's fault.
  pub data EndsObjects (now : ℕ) (old new : State H) : Type 0 where
    not_yet : (IsDone old → ⊥) → new ≡ old → EndsObjects now old new
    each_told : (at : H) → IsDone old → table.is_at now old.objects at → table.ends_all at new.objects → KeepsRest old new → EndsObjects now old new
    ran_out : IsDone old → new ≡ record old { objects = new.objects; progress = failed old.progress faults.OutOfMemory } → EndsObjects now old new

  -- Where the connection ended nothing more is taken. Then the session is left if it is settled. Then the objects are told their end, if nothing is given any more.
  pub record Settles (old : State H) (now : ℕ) (new : State H) : Type 0 where
    pub heeded : State H
    pub heeds : heeded ≡ with_progress old (heeding (link_of old).fault old.progress)
    pub gone : State H
    pub left_so : Leaves heeded now gone
    pub ends : EndsObjects now gone new

  -- the stream is gone, or the program wants no more: the session is over
  abbrev pub Closes : State H → ℕ → State H → Type 0
  Closes old now new = Settles (with_progress old (over old.progress)) now new

  -- The first bytes of a piece were taken at this time, up to the end of a message, and what that asks of the objects was done.
  pub record TakesIn (old : State H) (piece : List ℕ) (now count : ℕ) (new : State H) : Type 0 where
    pub at : H
    pub times : table.is_at now old.objects at
    pub takes : Takes table now old.service piece count new.service at new.objects
    pub limits : new.limits ≡ old.limits
    pub progress : new.progress ≡ taken_at old.progress now (taken_of (link_of new).reading)

  -- Why they weren't. Nothing more is taken then, and where something is too much the peer is told so.
  pub record IsCut (old : State H) (piece : List ℕ) (now : ℕ) (fault : ConnectionFault) (new : State H) : Type 0 where
    pub at : H
    pub times : table.is_at now old.objects at
    pub link : Link
    pub cut : IsCutShort (link_of old) piece fault link at new.objects
    pub refuses : Refuses (excess_of fault) link (link_of new)
    pub limits : new.limits ≡ old.limits
    pub progress : new.progress ≡ failed (taken_at old.progress now (taken_of link.reading)) fault

  -- Bytes of the peer are given. While its close is waited for they are dropped; while too much waits to be written, or once nothing more is taken, none is
  -- taken. Else they are taken up to the end of a message, and what that asks of the objects is done.
  pub data Receives (old : State H) (piece : List ℕ) (now count : ℕ) (new : State H) : Type 0 where
    drops : IsDraining old.progress.phase → count ≡ length piece → new ≡ old → Receives old piece now count new
    holds_up : (IsDraining old.progress.phase → ⊥) → (length piece ≡ 0) ⊎ (MayTake old → ⊥) → count ≡ 0 → new ≡ old → Receives old piece now count new
    takes : (mid : State H) → MayTake old → 0 < length piece → TakesIn old piece now count mid → Settles mid now new → Receives old piece now count new

  -- why bytes aren't taken so
  pub record IsUntaken (old : State H) (piece : List ℕ) (now : ℕ) (fault : ConnectionFault) (new : State H) : Type 0 where
    pub may_take : MayTake old
    pub some : 0 < length piece
    pub mid : State H
    pub cut : IsCut old piece now fault mid
    pub settles : Settles mid now new

  -- The peer's bytes ended after a message, and the objects were polled.
  pub record Finishes (now : ℕ) (old new : State H) : Type 0 where
    pub at : H
    pub times : table.is_at now old.objects at
    pub ends : Ends table now old.service new.service at new.objects
    pub limits : new.limits ≡ old.limits
    pub progress : new.progress ≡ finished old.progress

  -- Why they didn't, or memory ran out as the objects were polled. Nothing more is taken then.
  pub record IsUnfinished (now : ℕ) (old : State H) (fault : ConnectionFault) (new : State H) : Type 0 where
    pub at : H
    pub times : table.is_at now old.objects at
    pub unended : IsUnended (link_of old) fault (link_of new) at new.objects
    pub limits : new.limits ≡ old.limits
    pub progress : new.progress ≡ failed (finished old.progress) fault

  -- The peer's bytes end: while some were taken the objects are polled; and once nothing is taken that is noted alone. Where the peer's close was waited for the
  -- session is over.
  pub data EndsBytes (old : State H) (now : ℕ) (new : State H) : Type 0 where
    finishes : (mid : State H) → old.progress.phase ≡ phases.Serving → Finishes now old mid → Settles mid now new → EndsBytes old now new
    is_known : (mid : State H) → old.progress.phase ≢ phases.Serving → mid ≡ with_progress old (ended_again old.progress) → Settles mid now new
        → EndsBytes old now new

  -- why the peer's bytes don't end well
  pub record EndsCut (old : State H) (now : ℕ) (fault : ConnectionFault) (new : State H) : Type 0 where
    pub serves : old.progress.phase ≡ phases.Serving
    pub mid : State H
    pub unfinished : IsUnfinished now old fault mid
    pub settles : Settles mid now new

  -- What happened was worked off, and the objects were polled.
  pub record GoesOn (now : ℕ) (old new : State H) : Type 0 where
    pub at : H
    pub times : table.is_at now old.objects at
    pub works : WorksOn table now old.service new.service at new.objects
    pub same : new ≡ record old { service = new.service; objects = new.objects }

  -- Memory ran out for that. Nothing more is taken then.
  pub record IsUnworked (old new : State H) : Type 0 where
    pub lives : Lives (link_of old) (link_of new)
    pub limits : new.limits ≡ old.limits
    pub progress : new.progress ≡ failed old.progress faults.OutOfMemory

  -- something may be given now, as little waits to be written
  abbrev pub HasMore : State H → Type 0
  HasMore state = (length (link_of state).unwritten ≤ state.limits.ahead) × GivesMore state

  -- why nothing is given now
  abbrev pub HasNone : State H → Type 0
  HasNone state = (state.limits.ahead < length (link_of state).unwritten) ⊎ GivesNone state

  -- Where something may be given, what happened is worked off and the objects are polled.
  pub data PollsOn (old : State H) (now : ℕ) (new : State H) : Type 0 where
    rests : HasNone old → new ≡ old → PollsOn old now new
    polls : (mid : State H) → HasMore old → GoesOn now old mid → Settles mid now new → PollsOn old now new

  -- memory ran out for what happened
  pub record RunsOut (old : State H) (now : ℕ) (new : State H) : Type 0 where
    pub has_more : HasMore old
    pub mid : State H
    pub unworked : IsUnworked old mid
    pub settles : Settles mid now new

  -- The first bytes that waited were written, this many, at this time.
  pub record Writes (old : State H) (count now : ℕ) (new : State H) : Type 0 where
    pub link : Link
    pub wrote : Wrote (link_of old) count link
    pub mid : State H
    pub moves : mid ≡ with_progress (linked old link) (written_at count now old.progress)
    pub settles : Settles mid now new

  -- when an object is to be woken, or objects are to be sought that nothing refers to
  abbrev pub alarm_of : State H → Option ℕ
  alarm_of state = earlier (table.deadline state.objects) state.service.sweep.at

  -- Those objects are woken whose time has come, and those are dropped that nothing refers to, where the time for that has come. Of the connection nothing is
  -- done but calls of the application.
  pub record ActsInTime (now : ℕ) (old new : State H) : Type 0 where
    pub at : H
    pub woken : H
    pub times : table.is_at now old.objects at
    pub wakes : table.wakes_due at woken
    pub sweeps : SweepsInTime table now (stirred old.service) new.service woken new.objects
    pub same : new ≡ record old { service = new.service; objects = new.objects }
    pub lives : Lives (link_of old) (link_of new)

  -- Time passes for the objects, and nothing is done before that time. If memory runs out for it nothing more is taken.
  pub data PassesTime (now : ℕ) (old new : State H) : Type 0 where
    too_early : (HasCome now (alarm_of old) → ⊥) → new ≡ old → PassesTime now old new
    passes : HasCome now (alarm_of old) → ActsInTime now old new → PassesTime now old new
    runs_out_of_memory : HasCome now (alarm_of old) → Lives (link_of old) (link_of new) → new.limits ≡ old.limits → new.progress ≡ failed old.progress faults.OutOfMemory
        → PassesTime now old new

  -- a peer that is silent is asked, and time passes for the objects, unless nothing more is given
  abbrev pub GoesBy : ℕ → State H → State H → Type 0
  GoesBy now old new = ((IsStopped old → ⊥) × (mid : State H) × Asks now old mid × PassesTime now mid new) ⊎ (IsStopped old × (new ≡ old))

  -- An object is woken. Empty polls are counted anew, and nothing else is done.
  abbrev pub Wakes : ℕ → State H → State H → Type 0
  Wakes object old new = table.wakes object old.objects new.objects × (new ≡ record old { objects = new.objects; service = stirred old.service })

  -- the first letter to another session is handed out, and nothing else is done
  abbrev pub HandsOn : Option Letter → State H → State H → Type 0
  HandsOn letter old new = table.hands_on letter old.objects new.objects × (new ≡ record old { objects = new.objects })

  -- What a letter of another session says is done. Empty polls are counted anew, and nothing else is done.
  abbrev pub Delivers : LetterBody → State H → State H → Type 0
  Delivers body old new = table.delivers body old.objects new.objects × (new ≡ record old { objects = new.objects; service = stirred old.service })

  -- when a limit of time is met, if no byte moves before; or that time has come, unless nothing more is given
  abbrev pub due_of : State H → Option ℕ
  due_of state = if is_stopped state then limit_of state else earlier (limit_of state) (alarm_of state)

  -- Time passed. Where a limit is met nothing more is taken, and the session is over, or its peer is told that too much is kept. Else time goes by.
  pub record Ticks (old : State H) (now : ℕ) (new : State H) : Type 0 where
    pub told : Option Excess
    pub ticked : State H
    pub mid : State H
    pub ticks : TicksTo old.limits old.progress (kept_of old.service.work (table.guests old.objects)) now told ticked.progress
    pub refuses : Refuses told (link_of old) (link_of ticked)
    pub same : ticked ≡ with_progress (linked old (link_of ticked)) ticked.progress
    pub goes_by : GoesBy now ticked mid
    pub settles : Settles mid now new

  -- More is kept than the host allows: the limit of what is kept is met, whatever is kept. While bytes of the peer are taken it is told so, and else the session is
  -- over. Where it was over nothing is done.
  pub data IsRefused (old : State H) (now : ℕ) (new : State H) : Type 0 where
    was_over : old.progress.phase ≡ phases.Over → new ≡ old → IsRefused old now new
    refuses : (mid : State H) → old.progress.phase ≢ phases.Over → Refuses (excess_by limits.Kept old.progress.phase) (link_of old) (link_of mid)
        → mid ≡ with_progress (linked old (link_of mid)) (met limits.Kept old.progress) → Settles mid now new → IsRefused old now new

-- what is told of an event: why nothing more is taken, once
abbrev pub told_if : Bool → SessionEvent → Option SessionEvent
told_if told event = if told && is_last event then None else Some event

-- the same where there may be none
abbrev pub told_of : {H : Type 0} → State H → Option SessionEvent → Option SessionEvent
told_of state (Some event) = told_if state.progress.is_told event
told_of state None = if state.progress.is_told then None else ending_by state.progress.limit (fault_of state) state.progress.phase

-- whether the program knows then why nothing more is taken
abbrev pub knows_by : Option SessionEvent → Bool → Bool
knows_by None told = told
knows_by (Some event) told = is_last event || told

-- An event is handed out, if there is one: each outcome that came, in order, and why nothing more is taken, each once.
pub record Tells {H : Type 0} (old : State H) (event : Option SessionEvent) (new : State H) : Type 0 where
  pub notice : Option SessionEvent
  pub work : Work
  pub hands : HandsOver old.service.work notice work
  pub is : event ≡ told_of old notice
  pub rest : new ≡ with_progress (record old { service = record old.service { work = work } }) (record old.progress { is_told = knows_by event old.progress.is_told })
