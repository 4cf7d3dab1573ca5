-- A session of a list of objects is to be ticked for its limits alone.
use Rattle.std.proofs.Common.{◌≡◌, ◌⊎◌, ◌∙◌, ℕ, Bool, true, false, if◌then◌else◌, List, Option, Some, None, IsSome, inl, inr, refl, sym, ap, subst, arith}
use Rattle.std.proofs.lemmas.Bool.{false≢true}
use Rattle.cp_connection.specs.declared.excess.Excess.{Excess}
use Rattle.cp_connection.specs.declared.fault.ConnectionFault.{ConnectionFault}
use Rattle.cp_refs.specs.declared.outcome.Outcome.{Outcome}
use Rattle.cp_objects.specs.ObjectTable.{ObjectTableKind}
use Rattle.cp_objects.specs.Listed.{listed}
use Rattle.cp_servants.specs.Servant.{Kind}
use Rattle.cp_session.specs.declared.limits.SessionLimits.{SessionLimits}
use Rattle.cp_dispatch.specs.declared.event.Limit.TheVariants as limits
use Rattle.cp_session.specs.declared.progress.Phase.{Phase}
use Rattle.cp_session.specs.declared.progress.Phase.TheVariants as phases
use Rattle.cp_session.specs.declared.progress.Progress.{Progress}
use Rattle.cp_session.specs.declared.sweep.Sweep.{Sweep}
use Rattle.cp_session.specs.Doing as doing
use Rattle.cp_session.specs.Doing.{IsStopped, alarm_of, due_of, is_stopped, limit_of}
use Rattle.cp_session.specs.Laws.{LimitsAlone, SeeksNone}
use Rattle.cp_session.specs.Progress as going
use Rattle.cp_session.specs.Progress.{TicksTo, closing, earlier, ended_by, excess_by, finished, less, written_by}
use Rattle.cp_session.specs.Runs.{Transfer, Does, Runs}
use Rattle.cp_session.specs.Runs as runs
use Rattle.cp_session.specs.Search as seeking
use Rattle.cp_session.specs.Search.{Seeks}
use Rattle.cp_session.specs.Serves.{Follows, Polls, Takes}
use Rattle.cp_session.specs.Service.{Service, stirred}
use Rattle.cp_session.specs.State.{State}
use Rattle.cp_session.specs.Sweep as sweeping
use Rattle.cp_session.specs.Sweep.{HasCome, Sweeps, SweepsInTime}
use Rattle.cp_session.proofs.Deciding.{is_one}

-- ---- a fault that there was stays

closing_fault : (phase : Phase) (p : Progress) → (closing phase p).fault ≡ p.fault
closing_fault phases.Serving p = refl
closing_fault phases.Ending p = refl
closing_fault (phases.Draining since) p = refl
closing_fault phases.Over p = refl

ended_fault : (told : Option Excess) (p : Progress) → (ended_by told p).fault ≡ p.fault
ended_fault None p = refl
ended_fault (Some excess) p = refl

ticked_fault : {allowed : SessionLimits} {old new : Progress} {kept now : ℕ} {told : Option Excess} → TicksTo allowed old kept now told new → new.fault ≡ old.fault
ticked_fault {old = old} (going.meets limit is_met told is) =
    ap (λ (p : Progress). p.fault) is ∙ ended_fault (excess_by limit old.phase) (record old { limit = Some limit })
ticked_fault (going.meets_none unmet told is) = ap (λ (p : Progress). p.fault) is

written_fault : (left : Option ℕ) (now : ℕ) (p : Progress) → (written_by left now p).fault ≡ p.fault
written_fault (Some left) now p = refl
written_fault None now p = refl

-- ---- no time is set

module _ {H : Type 0} where
  same_still : {a b : State H} → b ≡ a → SeeksNone a → SeeksNone b
  same_still e h = subst (λ (s : State H). SeeksNone s) (sym e) h

  still : (a b : State H) → b.service.sweep ≡ a.service.sweep → b.progress.fault ≡ a.progress.fault → SeeksNone a → SeeksNone b
  still a b swept fault (inl none) = inl (ap (λ (w : Sweep). w.at) swept ∙ none)
  still a b swept fault (inr faulty) = inr (subst (λ (f : Option ConnectionFault). IsSome f) (sym fault) faulty)

  failing : (new : State H) (fault : ConnectionFault) → new.progress.fault ≡ Some fault → SeeksNone new
  failing new fault is = inr (subst (λ (f : Option ConnectionFault). IsSome f) (sym is) refl)

seeks_sweep : {H : Type 0} {table : ObjectTableKind H} {objects : H} {old new : Service} → Seeks table objects old new → new.sweep ≡ old.sweep
seeks_sweep (seeking.none_due why same) = ap (λ (s : Service). s.sweep) same
seeks_sweep (seeking.releases work due released same) = ap (λ (s : Service). s.sweep) same

-- Of a table of which no object may go.
module _ {H : Type 0} (table : ObjectTableKind H) (stay : (objects : H) → table.guests objects ≡ 0) where
  sweeps_none : {now : ℕ} {old new : Service} {objects others : H} → Sweeps table now old new objects others → new.sweep ≡ old.sweep
  sweeps_none (sweeping.none_may_go none same left) = ap (λ (s : Service). s.sweep) same
  sweeps_none {objects = objects} (sweeping.waits some early same left) = absurd (omega (arith, stay objects, some))
  sweeps_none {objects = objects} (sweeping.sweeps some due swept) = absurd (omega (arith, stay objects, some))

  polls_sweep : {now : ℕ} {old new : Service} {objects others : H} → Polls table now old new objects others → new.sweep ≡ old.sweep
  polls_sweep h = sweeps_none h.sweeps ∙ seeks_sweep h.seeks

  follows_sweep : (now : ℕ) (old new : Service) (objects others : H) (has_ended : Bool) → Follows table now has_ended old new objects others → new.sweep ≡ old.sweep
  follows_sweep now old new objects others true h = polls_sweep h
  follows_sweep now old new objects others false h = ap (λ (s : Service). s.sweep) h.0

  takes_sweep : {now : ℕ} {old new : Service} {objects others : H} (piece : List ℕ) (count : ℕ) → Takes table now old piece count new objects others → new.sweep ≡ old.sweep
  takes_sweep {now = now} {old = old} piece count h = follows_sweep now (record old { work = h.work }) _ _ _ h.has_ended h.follows

  left_still : {old new : State H} {now : ℕ} → doing.Leaves table old now new → SeeksNone old → SeeksNone new
  left_still (doing.stays why same) none = same_still same none
  left_still (doing.leaves settled same) none = same_still same none

  ended_still_so : {old new : State H} {now : ℕ} → doing.EndsObjects table now old new → SeeksNone old → SeeksNone new
  ended_still_so (doing.not_yet why same) none = same_still same none
  ended_still_so {old = old} {new = new} (doing.each_told at done times ends same) none =
      still old new (ap (λ (s : State H). s.service.sweep) same) (ap (λ (s : State H). s.progress.fault) same) none
  ended_still_so {new = new} (doing.ran_out done same) none = failing new _ (ap (λ (s : State H). s.progress.fault) same)

  settled_still : {old new : State H} {now : ℕ} → doing.Settles table old now new → SeeksNone old → SeeksNone new
  settled_still h none = ended_still_so h.ends (left_still h.left_so (same_still h.heeds none))

  received_still : {old new : State H} (piece : List ℕ) (now count : ℕ) → doing.Receives table old piece now count new → SeeksNone old → SeeksNone new
  received_still piece now count (doing.drops draining all same) none = same_still same none
  received_still piece now count (doing.holds_up drains why zero same) none = same_still same none
  received_still {old = old} piece now count (doing.takes mid may some taken settles) none =
      settled_still settles (still old mid (takes_sweep piece count taken.takes) (ap (λ (p : Progress). p.fault) taken.progress) none)

  ended_still : {old new : State H} {now : ℕ} → doing.EndsBytes table old now new → SeeksNone old → SeeksNone new
  ended_still {old = old} (doing.finishes mid serves done settles) none =
      settled_still settles (still old mid (polls_sweep done.ends.polls) (ap (λ (p : Progress). p.fault) done.progress) none)
  ended_still {old = old} (doing.is_known mid serves known settles) none =
      let fault = ap (λ (s : State H). s.progress.fault) known ∙ closing_fault old.progress.phase (finished old.progress) in
      settled_still settles (still old mid (ap (λ (s : State H). s.service.sweep) known) fault none)

  polled_still : {old new : State H} {now : ℕ} → doing.PollsOn table old now new → SeeksNone old → SeeksNone new
  polled_still (doing.rests why same) none = same_still same none
  polled_still {old = old} (doing.polls mid more done settles) none =
      settled_still settles (still old mid (ap (λ (s : Service). s.sweep) done.works.counts ∙ polls_sweep done.works.polls) (ap (λ (s : State H). s.progress.fault) done.same) none)

  in_time_still : (old new : State H) {now : ℕ} {objects others : H} → (IsSome old.progress.fault → ⊥) → SweepsInTime table now (stirred old.service) new.service objects others
      → new.progress.fault ≡ old.progress.fault → SeeksNone old → SeeksNone new
  in_time_still old new open_yet (sweeping.too_early early same left) fault none = still old new (ap (λ (s : Service). s.sweep) same) fault none
  in_time_still old new {now = now} open_yet (sweeping.in_time due swept) fault (inl none) = absurd (subst (λ (t : Option ℕ). HasCome now t) none due)
  in_time_still old new open_yet (sweeping.in_time due swept) fault (inr faulty) = absurd (open_yet faulty)

  passed_still : {old new : State H} {now : ℕ} → (IsSome old.progress.fault → ⊥) → doing.PassesTime table now old new → SeeksNone old → SeeksNone new
  passed_still open_yet (doing.too_early early same) none = same_still same none
  passed_still {old = old} {new = new} open_yet (doing.passes due acts) none = in_time_still old new open_yet acts.sweeps (ap (λ (s : State H). s.progress.fault) acts.same) none
  passed_still {new = new} open_yet (doing.runs_out_of_memory due link allowed is) none = failing new _ (ap (λ (p : Progress). p.fault) is)

  asked_fault : {old new : State H} {now : ℕ} → doing.Asks now old new → new.progress.fault ≡ old.progress.fault
  asked_fault (doing.not_yet_silent why same) = ap (λ (s : State H). s.progress.fault) same
  asked_fault (doing.is_silent link come asked same) = ap (λ (s : State H). s.progress.fault) same

  asked_still : {old new : State H} {now : ℕ} → doing.Asks now old new → SeeksNone old → SeeksNone new
  asked_still (doing.not_yet_silent why same) none = same_still same none
  asked_still (doing.is_silent link come asked same) none = same_still same none

  gone_by_still : {old new : State H} {now : ℕ} → doing.GoesBy table now old new → SeeksNone old → SeeksNone new
  gone_by_still (inl passed) none = passed_still (λ faulty. passed.0 (inr (inl (subst (λ (f : Option ConnectionFault). IsSome f) (asked_fault passed.2) faulty)))) passed.3 (asked_still passed.2 none)
  gone_by_still (inr stopped) none = same_still stopped.1 none

  ticked_still : {old new : State H} {now : ℕ} → doing.Ticks table old now new → SeeksNone old → SeeksNone new
  ticked_still {old = old} h none =
      settled_still h.settles (gone_by_still h.goes_by (still old h.ticked (ap (λ (s : State H). s.service.sweep) h.same) (ticked_fault h.ticks) none))

  refused_still : {old new : State H} {now : ℕ} → doing.IsRefused table old now new → SeeksNone old → SeeksNone new
  refused_still (doing.was_over over same) none = same_still same none
  refused_still {old = old} (doing.refuses mid at_work refuses is settles) none =
      let fault = ap (λ (s : State H). s.progress.fault) is
      ∙ ended_fault (excess_by limits.Kept old.progress.phase) (record old.progress { limit = Some limits.Kept }) in
      settled_still settles (still old mid (ap (λ (s : State H). s.service.sweep) is) fault none)

  released_still : {old new : State H} {outcome : Outcome} → doing.ReleasesOutcome outcome old new → SeeksNone old → SeeksNone new
  released_still (doing.gives_back work back lives same) none = same_still same none
  released_still {new = new} (doing.runs_out_of_memory work lives same) none = failing new _ (ap (λ (s : State H). s.progress.fault) same)

  untaken_still : (old new : State H) (untaken : Option Outcome) → doing.ReleasesUntaken untaken old new → SeeksNone old → SeeksNone new
  untaken_still old new (Some outcome) h none = released_still h none
  untaken_still old new None h none = same_still h none

  canceled_still : {old new : State H} {question : ℕ} → doing.CancelsOwn table question old new → SeeksNone old → SeeksNone new
  canceled_still {old = old} {new = new} (doing.tells_owing work tells lives same) none =
      still old new (ap (λ (s : State H). s.service.sweep) same) (ap (λ (s : State H). s.progress.fault) same) none
  canceled_still {new = new} (doing.tells_none work lives same) none = failing new _ (ap (λ (s : State H). s.progress.fault) same)

  done_still : {old new : State H} {transfer : Transfer} → Does table old transfer new → SeeksNone old → SeeksNone new
  done_still (runs.receives piece now count done is) none = received_still piece now count done none
  done_still (runs.fails piece now fault cut is) none = settled_still cut.settles (failing cut.mid _ (ap (λ (p : Progress). p.fault) cut.cut.progress))
  done_still (runs.ends now done is) none = ended_still done none
  done_still (runs.ends_inside now fault cut is) none = settled_still cut.settles (failing cut.mid _ (ap (λ (p : Progress). p.fault) cut.unfinished.progress))
  done_still (runs.polls now done is) none = polled_still done none
  done_still (runs.closes now closed is) none = settled_still closed none
  done_still (runs.runs_out now out is) none = settled_still out.settles (failing out.mid _ (ap (λ (p : Progress). p.fault) out.unworked.progress))
  done_still {old = old} (runs.writes count now wrote is) none =
      let fault = ap (λ (s : State H). s.progress.fault) wrote.moves ∙ written_fault (less count old.progress.asked) now old.progress in
      settled_still wrote.settles (still old wrote.mid (ap (λ (s : State H). s.service.sweep) wrote.moves) fault none)
  done_still (runs.ticks now ticked is) none = ticked_still ticked none
  done_still (runs.refuses now refused is) none = refused_still refused none
  done_still (runs.tells event told is) none = same_still told.rest none
  done_still (runs.wakes object woken is) none = same_still woken.1 none
  done_still (runs.hands_on letter handed is) none = same_still handed.1 none
  done_still (runs.delivers body delivered is) none = same_still delivered.1 none
  done_still (runs.calls call is_call did is) none = same_still did.2 none
  done_still (runs.gives_back import result back is) none = same_still back.same none
  done_still (runs.finishes question finished is) none = canceled_still finished.cancels (untaken_still _ _ finished.untaken finished.releases none)
  done_still (runs.releases outcome released is) none = released_still released none

  run_still : {first last : State H} {transfer : Transfer} → Runs table first transfer last → SeeksNone first → SeeksNone last
  run_still runs.begins none = none
  run_still (runs.goes_on before_it does is) none = done_still does (run_still before_it none)

-- ---- when it is due

nones_earlier : (a b : Option ℕ) → a ≡ None → b ≡ None → earlier a b ≡ None
nones_earlier a b e f = rw (e, f) refl

none_earlier : (time : Option ℕ) → earlier time None ≡ time
none_earlier None = refl
none_earlier (Some at) = refl

due_alone : (stopped : Bool) (limit alarm : Option ℕ) → (stopped ≡ true) ⊎ (alarm ≡ None) → (if stopped then limit else earlier limit alarm) ≡ limit
due_alone true limit alarm why = refl
due_alone false limit alarm (inl stopped) = absurd (false≢true stopped)
due_alone false limit alarm (inr none) = ap (λ (a : Option ℕ). earlier limit a) none ∙ none_earlier limit

alone : {H : Type 0} (table : ObjectTableKind H) (state : State H) → table.deadline state.objects ≡ None → SeeksNone state → due_of table state ≡ limit_of state
alone table state wakes_none (inl none) = due_alone (is_stopped state) (limit_of state) (alarm_of table state) (inr (nones_earlier _ _ wakes_none none))
alone table state wakes_none (inr faulty) = due_alone (is_stopped state) (limit_of state) (alarm_of table state) (inl (is_one _ _ _ (inr (inl faulty))))

pub limits_alone : {A : Type 0} (kind : Kind A) → LimitsAlone kind
limits_alone kind = (
  λ options objects now. inl refl,
  λ first last transfer run none. let none_yet = run_still (listed kind) (λ objects. refl) run none in (none_yet, alone (listed kind) last refl none_yet),
)
