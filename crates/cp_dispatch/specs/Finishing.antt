-- What the program finishes, and what it gives back of outcomes that it has no use for.
use Rattle.std.specs.Prelude.{◌≡◌, ◌<◌, ◌⊎◌, ℕ, Bool, true, false, ◌==◌, List, Option, Some, None, Ok, HoldsAt, length, remove, slice_index_or}
use Rattle.cp_refs.specs.declared.cap.Cap.{Cap}
use Rattle.cp_refs.specs.declared.outcome.Outcome.{Outcome}
use Rattle.cp_servants.specs.Outcomes.{named_imports}
use Rattle.cp_vat_machine.specs.declared.event.Event.TheVariants as events
use Rattle.cp_vat_machine.specs.declared.event.Value.TheVariants as values
use Rattle.cp_connection.specs.Doing.{Acts}
use Rattle.cp_connection.specs.Link.{Link}
use Rattle.cp_dispatch.specs.declared.event.SessionEvent.{SessionEvent}
use Rattle.cp_dispatch.specs.Holders.{held_by_less}
use Rattle.cp_dispatch.specs.Noticed.{is_outcome_of}
use Rattle.cp_dispatch.specs.Work.{Work, TriesEach}
use Rattle.cp_dispatch.specs.declared.event.SessionEvent.TheVariants as notices

-- none of the first events, so many, is an outcome of this question
abbrev pub NoneAmong : ℕ → ℕ → List SessionEvent → Type 0
NoneAmong question count events = (k : ℕ) (d : SessionEvent) → k < count → is_outcome_of question (slice_index_or events k d) ≡ false

-- The first outcome of a question among events is taken out of them, if there is one.
pub data TakesOut (question : ℕ) (old : List SessionEvent) : Option Outcome → List SessionEvent → Type 0 where
  takes_first : (place : ℕ) (outcome : Outcome) → NoneAmong question place old → place < length old
      → HoldsAt (λ event. event ≡ notices.Outcome question outcome) old place → TakesOut question old (Some outcome) (remove old place)
  has_none : NoneAmong question (length old) old → TakesOut question old None old

-- A question of the program's is finished. Its outcome is no event any more, if it was one.
pub record Finishes (question : ℕ) (untaken : Option Outcome) (old new : Work) : Type 0 where
  pub link : Link
  pub left : List SessionEvent
  pub acts : Acts old.link (events.Finish question) (Ok values.Nothing) link
  pub takes_out : TakesOut question old.notices untaken left
  pub same : new ≡ record old { link = link; notices = left }

-- The program gives back what these capabilities gave it: it holds each import that they name once less, and each is tried. Where objects may not call, it isn't
-- noted what the program holds, and nothing is done.
abbrev pub GivesBackEach : List Cap → Work → Work → Type 0
GivesBackEach caps old new =
    let imports = named_imports caps in
    ((old.may_call ≡ true) × TriesEach (record old { given = held_by_less old.given imports }) imports new) ⊎ ((old.may_call ≡ false) × (new ≡ old))
