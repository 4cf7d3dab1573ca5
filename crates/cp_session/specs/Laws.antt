-- What follows of what is done with a session.
use Rattle.std.specs.Prelude.{◌≡◌, ◌⊎◌, ℕ, ◌<◌, List, [], None, IsSome}
use Rattle.std.specs.FinMap.{get}
use Rattle.std.specs.Global.{Vec}
use Rattle.cp_connection.specs.declared.event.ConnectionEvent.{ConnectionEvent}
use Rattle.cp_connection.specs.Lives.{Course}
use Rattle.cp_refs.specs.declared.call.Request.{Request}
use Rattle.cp_objects.specs.declared.objects.Objects.{Objects}
use Rattle.cp_objects.specs.Objects.{objects_of}
use Rattle.cp_objects.specs.Grown.{grown}
use Rattle.cp_objects.specs.ObjectTable.{ObjectTableKind}
use Rattle.cp_objects.specs.Listed.{listed}
use Rattle.cp_objects.specs.ServedObject.{ServedObjectKind}
use Rattle.cp_dispatch.specs.Rounds.{Gives}
use Rattle.cp_dispatch.specs.Work.{Work}
use Rattle.cp_servants.specs.declared.servant.Reply.{Reply}
use Rattle.cp_servants.specs.declared.servant.Reply.TheVariants as replies
use Rattle.cp_servants.specs.Outcomes.{no_such_object}
use Rattle.cp_servants.specs.Servant.{Kind}
use Rattle.cp_session.specs.declared.options.SessionOptions.{SessionOptions}
use Rattle.cp_session.specs.Doing.{Receives, due_of, limit_of}
use Rattle.cp_session.specs.Progress.{IsDraining}
use Rattle.cp_session.specs.Runs.{Transfer, Runs}
use Rattle.cp_session.specs.State.{State, link_of, new_state}

-- a call that comes where nobody serves fails with `no such object`, and nothing else is done for it
abbrev pub NobodyServes : {A : Type 0} → Kind A → Type 0
NobodyServes {A} kind =
    (k ticket : ℕ) (call : Request) (reply : Reply) (old new : Work) (objects others : Vec A) → objects.items ≡ [] → Gives (listed kind) k ticket call reply old new objects others
    → (reply ≡ replies.Now no_such_object []) × (new ≡ old) × (others ≡ objects)

-- a call of an object that isn't there fails likewise
abbrev pub NoObjectServes : {A : Type 0} → ServedObjectKind A A → Type 0
NoObjectServes {A} kind =
    (k ticket : ℕ) (call : Request) (reply : Reply) (old new : Work) (objects others : Objects A) → get (objects_of objects).members k ≡ None
    → Gives (grown kind) k ticket call reply old new objects others
    → (reply ≡ replies.Now no_such_object []) × (new ≡ old) × (others ≡ objects)

-- no time is set at which objects are sought that nothing refers to; or nothing more is given, for a fault
abbrev pub SeeksNone : {H : Type 0} → State H → Type 0
SeeksNone state = (state.service.sweep.at ≡ None) ⊎ IsSome state.progress.fault

-- A session of a list of objects is to be ticked for its limits alone: when it is made, and whatever is done with it.
abbrev pub LimitsAlone : {A : Type 0} → Kind A → Type 0
LimitsAlone {A} kind =
    ((options : SessionOptions) (objects : Vec A) (now : ℕ) → SeeksNone (new_state options objects now))
    × ((first last : State (Vec A)) (transfer : Transfer) → Runs (listed kind) first transfer last → SeeksNone first
    → SeeksNone last × (due_of (listed kind) last ≡ limit_of last))

module _ {H : Type 0} (table : ObjectTableKind H) where
  -- where no byte may wait, nothing is taken of the peer before all that is to go out was written
  abbrev pub WrittenFirst : Type 0
  WrittenFirst =
      (old new : State H) (piece : List ℕ) (now count : ℕ) → Receives table old piece now count new → old.limits.ahead ≡ 0
      → (IsDraining old.progress.phase → ⊥) → 0 < count → (link_of old).unwritten ≡ []

  -- Whatever is done with a session, its connection took those of the given bytes, and was told that those were written, and no others.
  abbrev pub LivesOn : Type 0
  LivesOn =
      (first last : State H) (transfer : Transfer) → Runs table first transfer last
      → (handed : List ConnectionEvent) × Course (link_of first) transfer.taken transfer.written handed (link_of last)
