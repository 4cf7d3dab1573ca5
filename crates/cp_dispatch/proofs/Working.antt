-- How work goes on.
use Rattle.std.proofs.Common.{◌≡◌, ◌↔◌, ◌<◌, ◌+◌, ℕ, drop, get_or, add-one, List, [], Option, Some, None, IsSome, Bool, true, false, IsTrue, ◌||◌, Result, Ok, Err, IfOk, OnOk, refl, sym, ◌∙◌, length}
use Rattle.std.proofs.lemmas.Bool.{false≢true}
use Rattle.std.proofs.Math.Seq.{drop-cons}
use Rattle.cp_refs.specs.declared.call.Origin.{Origin}
use Rattle.cp_refs.specs.declared.outcome.Outcome.{Outcome}
use Rattle.cp_vat_machine.specs.declared.event.Event.TheVariants as events
use Rattle.cp_connection.specs.Link.{Link}
use Rattle.cp_servants.specs.declared.servant.Settled.{Settled}
use Rattle.cp_objects.specs.ObjectTable.{ObjectTableKind}
use Rattle.cp_dispatch.specs.declared.question_owner.QuestionOwner.{QuestionOwner}
use Rattle.cp_dispatch.specs.Work.{Work, Answers, GivesUp, IsDone, LetsGo, TakesAsked, TakesAwaited, TriesEach, TriesUnheld}
use Rattle.cp_dispatch.specs.Calling.{HandsBack, to_user, to_object, Hears, MakesCalls, NotesOutcome, Settles, is_stranger, is_awaited}
use Rattle.cp_dispatch.specs.Rounds.{PollsFrom, WorksOff, none_left}

-- what follows from a fact of a success
pub after_ok : {T E : Type 0} {P Q : Type 0} (r : Result T E) → OnOk r P → (P → Q) → OnOk r Q
after_ok (Ok x) h f = f h
after_ok (Err e) h f = h

pub if_ok : {T E : Type 0} {P Q : T → Type 0} (r : Result T E) → IfOk r P → ((x : T) → P x → Q x) → IfOk r Q
if_ok (Ok x) h f = f x h
if_ok (Err e) h f = tt

-- and from two of them
pub if_both : {T E D : Type 0} {P Q : T → Type 0} (r : Result T E) → IfOk r P → OnOk r D → ((x : T) → P x → D → Q x) → IfOk r Q
if_both (Ok x) h d f = f x h d
if_both (Err e) h d f = tt

-- what isn't there by a test is none
pub not_some : {X : Type 0} (o : Option X) (b : Bool) → (IsTrue b ↔ IsSome o) → b ≡ false → o ≡ None
not_some None b h e = refl
not_some (Some x) b h e = absurd (false≢true (sym e ∙ h.1 refl))

-- what isn't so by a test
pub lacks : {P : Type 0} (b : Bool) → (IsTrue b ↔ P) → b ≡ false → P → ⊥
lacks b test unmet h = false≢true (sym unmet ∙ test.1 h)

pub settles_stranger : (means : Outcome → Outcome) (old new : Work) (w : Option Settled) (settled : Settled) → w ≡ Some settled → TakesAwaited settled.ticket old None new → Settles means old w false new
settles_stranger means old new w settled e takes = rw (e, takes.1) (is_stranger settled takes.0)

pub settles_awaited : (means : Outcome → Outcome) (old taken : Work) (w : Option Settled) (settled : Settled) (origin : Origin) (link : Link) (mid : Work) {new : Work} → w ≡ Some settled
    → TakesAwaited settled.ticket old (Some origin) taken → GivesUp settled.gives_up taken mid
    → Answers mid.link origin (means settled.outcome) link → new ≡ record mid { link = link } → Settles means old w true new
settles_awaited means old taken w settled origin link mid e takes gives answers same = rw e (is_awaited settled origin link {mid = mid} takes.0 (rw takes.1 at gives) answers same)

-- one is given up, and then the others
pub gives_next : (items : List ℕ) (i d : ℕ) {old mid : Work} (last : Work) → i < length items → LetsGo (get_or items i d) old mid → GivesUp (drop (i + 1) items) mid last
    → GivesUp (drop i items) old last
gives_next items i d {mid = mid} last h let_go rest = rw (drop-cons items i d h) (mid, let_go, rw add-one at rest)

-- one is tried, and then the others
pub tries_next : (items : List ℕ) (i d : ℕ) {old mid : Work} (last : Work) → i < length items → TriesUnheld old (get_or items i d) mid → TriesEach mid (drop (i + 1) items) last
    → TriesEach old (drop i items) last
tries_next items i d {mid = mid} last h tried rest = rw (drop-cons items i d h) (mid, tried, rw add-one at rest)

module _ {H : Type 0} {table : ObjectTableKind H} where
  -- nothing more was given
  pub so_far : {from : ℕ} {old new : Work} {objects others : H} (gave : Bool) → PollsFrom table from old (gave || false) new objects others → PollsFrom table from old gave new objects others
  so_far true h = h
  so_far false h = h

  pub works_off_none : (old : Work) (link : Link) (objects : H) → link ≡ old.link → old.link.happened ≡ [] → WorksOff table old (record old { link = link }) objects objects
  works_off_none old link objects e none = rw e (none_left none)

  pub hands_to_user : (old taken : Work) (question : ℕ) (outcome : Outcome) {new : Work} {objects : H} → TakesAsked question old None taken → NotesOutcome question outcome taken new
      → HandsBack table question outcome old new objects objects
  hands_to_user old taken question outcome takes noted = to_user takes.0 (rw takes.1 at noted) refl

  pub hands_to_object : (old taken : Work) (question : ℕ) (outcome : Outcome) (owner : QuestionOwner) (link : Link) {told new : Work} {objects between others : H}
      → TakesAsked question old (Some owner) taken → IsDone old.link (events.Finish question) link
      → Hears table owner.number owner.call_id outcome (record taken { link = link }) told objects between → MakesCalls table owner.number told new between others
      → HandsBack table question outcome old new objects others
  hands_to_object old taken question outcome owner link takes done heard calls = to_object owner link takes.0 done (rw takes.1 at heard) calls
