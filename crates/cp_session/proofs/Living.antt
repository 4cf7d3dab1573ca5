-- Whatever is done with a session is done with its connection, and no other byte moves.
use Rattle.std.proofs.Common.{◌≡◌, ◌∙◌, ◌++◌, ℕ, List, [], Bool, true, false, Option, Some, None, Ok, Err, refl, sym, ap, subst, take, append-nil, inl, inr}
use Rattle.cp_connection.specs.declared.fault.ConnectionFault.{ConnectionFault}
use Rattle.cp_refs.specs.declared.outcome.Outcome.{Outcome}
use Rattle.cp_vat_machine.specs.declared.event.Event.TheVariants as machine
use Rattle.cp_vat_machine.specs.declared.event.Value.TheVariants as values
use Rattle.cp_connection.specs.declared.event.ConnectionEvent.{ConnectionEvent}
use Rattle.cp_connection.specs.Link.{Link}
use Rattle.cp_connection.specs.declared.excess.Excess.{Excess}
use Rattle.cp_connection.specs.Excess.{excess_of}
use Rattle.cp_connection.specs.Lives.{Course}
use Rattle.cp_connection.proofs.Finishing.{receives_of}
use Rattle.cp_connection.specs.Lives as life
use Rattle.cp_dispatch.specs.declared.event.SessionEvent.{SessionEvent}
use Rattle.cp_dispatch.specs.Receiving.{IsCutShort, is_unreceived, ran_out}
use Rattle.cp_dispatch.specs.Rounds.{HandsOver}
use Rattle.cp_dispatch.specs.Work.{Work, Lives}
use Rattle.cp_dispatch.proofs.Living.{lives_act, lives_back, lives_both, lives_none}
use Rattle.cp_objects.specs.ObjectTable.{ObjectTableKind}
use Rattle.cp_session.specs.declared.progress.Phase.{Phase}
use Rattle.cp_session.specs.declared.progress.Phase.TheVariants as phases
use Rattle.cp_session.specs.Asking.{AsksPeer, asks, is_unasked, stays_asked}
use Rattle.cp_session.specs.Doing as doing
use Rattle.cp_session.specs.Laws.{LivesOn}
use Rattle.cp_session.specs.Progress.{IsDraining, kept_excess}
use Rattle.cp_session.specs.Refusing.{Refuses}
use Rattle.cp_session.proofs.Courses.{course_both, course_then}
use Rattle.cp_session.specs.Runs.{Transfer, Does, Runs, taken_by, taken_in}
use Rattle.cp_session.specs.Runs as runs
use Rattle.cp_session.specs.Serves.{Ends, Follows, IsUnended, Takes}
use Rattle.cp_session.specs.Serves as serves
use Rattle.cp_session.specs.Service.{Service}
use Rattle.cp_session.specs.State.{State, link_of}

-- a connection took these bytes, and was told that those were written
abbrev IsLife : Link → List ℕ → List ℕ → Link → Type 0
IsLife old taken written new = (handed : List ConnectionEvent) × Course old taken written handed new

-- no byte more
life_then : {a b c : Link} {taken written : List ℕ} → IsLife a taken written b → Lives b c → IsLife a taken written c
life_then {taken = taken} {written = written} h k = rw (← append-nil taken, ← append-nil written) (h.0 ++ k.0, course_then h.1 k.1)

life_same : {a b c : Link} {taken written : List ℕ} → IsLife a taken written b → c ≡ b → IsLife a taken written c
life_same {a = a} {taken = taken} {written = written} h e = subst (λ (l : Link). IsLife a taken written l) (sym e) h

life_taking : {a b : Link} {taken others : List ℕ} → IsLife a others [] b → taken ≡ others → IsLife a taken [] b
life_taking {a = a} {b = b} h e = subst (λ (bytes : List ℕ). IsLife a bytes [] b) (sym e) h

life_of_transfer : {a b : Link} {transfer other : Transfer} → transfer ≡ other → IsLife a other.taken other.written b → IsLife a transfer.taken transfer.written b
life_of_transfer {a = a} {b = b} e h = subst (λ (d : Transfer). IsLife a d.taken d.written b) (sym e) h

life_of : {a b : Link} → Lives a b → IsLife a [] [] b
life_of h = (h.0, life.lives h.1)

life_none : (a : Link) → IsLife a [] [] a
life_none a = ([], life.lives life.begins)

life_one : {a b : Link} {taken written : List ℕ} → life.Calls a taken written [] b → IsLife a taken written b
life_one call = ([], life.lives (life.goes_on life.begins call refl refl refl))

-- where something is too much the connection is aborted
life_refused : {a b c : Link} {taken written : List ℕ} → IsLife a taken written b → (told : Option Excess) → Refuses told b c → IsLife a taken written c
life_refused h None same = life_same h same
life_refused {taken = taken} {written = written} h (Some excess) aborts =
    (h.0, life.aborts excess h.1 aborts life.begins (sym (append-nil taken)) (sym (append-nil written)) (sym (append-nil h.0)))

-- what a session is told of time, and that it is left, is nothing to its connection
left_link : {H : Type 0} {table : ObjectTableKind H} {old new : State H} {now : ℕ} → doing.Leaves table old now new → link_of new ≡ link_of old
left_link {H = H} (doing.stays why same) = ap (λ (s : State H). link_of s) same
left_link {H = H} (doing.leaves settled same) = ap (λ (s : State H). link_of s) same

ended_link : {H : Type 0} {table : ObjectTableKind H} {old new : State H} {now : ℕ} → doing.EndsObjects table now old new → link_of new ≡ link_of old
ended_link {H = H} (doing.not_yet why same) = ap (λ (s : State H). link_of s) same
ended_link {H = H} (doing.each_told at done times ends same) = ap (λ (s : State H). link_of s) same
ended_link {H = H} (doing.ran_out done same) = ap (λ (s : State H). link_of s) same

pub settles_link : {H : Type 0} {table : ObjectTableKind H} {old new : State H} {now : ℕ} → doing.Settles table old now new → link_of new ≡ link_of old
settles_link {H = H} h = ended_link h.ends ∙ left_link h.left_so ∙ ap (λ (s : State H). link_of s) h.heeds

-- what a connection takes of bytes that are given
taken_draining : (phase : Phase) (given : List ℕ) → IsDraining phase → taken_in phase given ≡ []
taken_draining phases.Serving given draining = absurd draining
taken_draining phases.Ending given draining = absurd draining
taken_draining (phases.Draining since) given draining = refl
taken_draining phases.Over given draining = absurd draining

taken_none : (phase : Phase) → taken_in phase [] ≡ []
taken_none phases.Serving = refl
taken_none phases.Ending = refl
taken_none (phases.Draining since) = refl
taken_none phases.Over = refl

follows_lives : {H : Type 0} (table : ObjectTableKind H) (now : ℕ) (old new : Service) (objects others : H) (has_ended : Bool) → Follows table now has_ended old new objects others
    → Lives old.work.link new.work.link
follows_lives table now old new objects others true h = h.lives
follows_lives table now old new objects others false h = subst (λ (s : Service). Lives old.work.link s.work.link) (sym h.0) (lives_none old.work.link)

takes_life : {H : Type 0} {table : ObjectTableKind H} {now : ℕ} {old new : Service} {objects others : H} (piece : List ℕ) (count : ℕ) → Takes table now old piece count new objects others
    → IsLife old.work.link (take count piece) [] new.work.link
takes_life {table = table} {now = now} {old = old} piece count h =
    life_then (life_then (life_one (life.receives piece count (receives_of h.receives.4) refl)) h.receives.8)
    (follows_lives table now (record old { work = h.work }) _ _ _ h.has_ended h.follows)

cut_life : {H : Type 0} {old new : Link} {piece : List ℕ} {fault : ConnectionFault} {objects others : H} (h : IsCutShort old piece fault new objects others)
    → IsLife old (taken_by h) [] new
cut_life {piece = piece} {fault = fault} (is_unreceived taken unreceived same) = life_one (life.receives_none piece fault unreceived)
cut_life {piece = piece} (ran_out count mid received lives memory) = life_then (life_one (life.receives piece count received refl)) lives

ends_life : {H : Type 0} {table : ObjectTableKind H} {now : ℕ} {old new : Service} {objects others : H} → Ends table now old new objects others → IsLife old.work.link [] [] new.work.link
ends_life h = life_then (life_one (life.ends h.ends)) h.polls.lives

unended_life : {H : Type 0} {old new : Link} {fault : ConnectionFault} {objects others : H} → IsUnended old fault new objects others → IsLife old [] [] new
unended_life {fault = fault} (serves.badly badly same) = life_one (life.ends_inside fault badly)
unended_life (serves.ran_out link ended lives memory) = life_then (life_one (life.ends ended)) lives

handed_link : (notice : Option SessionEvent) (old new : Work) → HandsOver old notice new → new.link ≡ old.link
handed_link (Some notice) old new h = ap (λ (w : Work). w.link) h.1
handed_link None old new h = ap (λ (w : Work). w.link) h.1

receives_life : {H : Type 0} {table : ObjectTableKind H} {old new : State H} (piece : List ℕ) (now count : ℕ) → doing.Receives table old piece now count new
    → IsLife (link_of old) (taken_in old.progress.phase (take count piece)) [] (link_of new)
receives_life {H = H} {old = old} piece now count (doing.drops draining all same) =
    life_taking (life_same (life_none (link_of old)) (ap (λ (s : State H). link_of s) same)) (taken_draining old.progress.phase (take count piece) draining)
receives_life {H = H} {old = old} piece now count (doing.holds_up drains why none same) =
    life_taking (life_same (life_none (link_of old)) (ap (λ (s : State H). link_of s) same))
    (ap (λ (n : ℕ). taken_in old.progress.phase (take n piece)) none ∙ taken_none old.progress.phase)
receives_life {old = old} piece now count (doing.takes mid may some taken settles) =
    life_taking (life_same (takes_life piece count taken.takes) (settles_link settles)) (ap (λ (p : Phase). taken_in p (take count piece)) may.serves)

ends_bytes_life : {H : Type 0} {table : ObjectTableKind H} {old new : State H} {now : ℕ} → doing.EndsBytes table old now new → IsLife (link_of old) [] [] (link_of new)
ends_bytes_life (doing.finishes mid serves done settles) = life_same (ends_life done.ends) (settles_link settles)
ends_bytes_life {H = H} {old = old} (doing.is_known mid serves known settles) =
    life_same (life_none (link_of old)) (settles_link settles ∙ ap (λ (s : State H). link_of s) known)

polls_life : {H : Type 0} {table : ObjectTableKind H} {old new : State H} {now : ℕ} → doing.PollsOn table old now new → IsLife (link_of old) [] [] (link_of new)
polls_life {H = H} {old = old} (doing.rests why same) = life_same (life_none (link_of old)) (ap (λ (s : State H). link_of s) same)
polls_life (doing.polls mid more done settles) = life_same (life_of done.works.lives) (settles_link settles)

-- what time does to the objects is nothing to the connection but calls of its own
lives_same : {H : Type 0} {old new : State H} → new ≡ old → Lives (link_of old) (link_of new)
lives_same {H = H} {old = old} same = subst (λ (s : State H). Lives (link_of old) (link_of s)) (sym same) (lives_none (link_of old))

passes_lives : {H : Type 0} {table : ObjectTableKind H} {now : ℕ} {old new : State H} → doing.PassesTime table now old new → Lives (link_of old) (link_of new)
passes_lives (doing.too_early why same) = lives_same same
passes_lives (doing.passes due acts) = acts.lives
passes_lives (doing.runs_out_of_memory due lives limits progress) = lives

-- nor is what a silent peer is asked
asked_lives : {old new : Link} → AsksPeer old new → Lives old new
asked_lives (asks q mid boots finishes) = lives_both (lives_act machine.Bootstrap (Ok (values.Question q)) tt boots) (lives_act (machine.Finish q) (Ok values.Nothing) tt finishes)
asked_lives (is_unasked fault boots) = lives_act machine.Bootstrap (Err fault) tt boots
asked_lives (stays_asked q mid fault boots finishes) = lives_both (lives_act machine.Bootstrap (Ok (values.Question q)) tt boots) (lives_act (machine.Finish q) (Err fault) tt finishes)

asks_lives : {H : Type 0} {now : ℕ} {old new : State H} → doing.Asks now old new → Lives (link_of old) (link_of new)
asks_lives (doing.not_yet_silent why same) = lives_same same
asks_lives {H = H} {old = old} (doing.is_silent link come asked same) = subst (λ (s : State H). Lives (link_of old) (link_of s)) (sym same) (asked_lives asked)

goes_by_lives : {H : Type 0} {table : ObjectTableKind H} {now : ℕ} {old new : State H} → doing.GoesBy table now old new → Lives (link_of old) (link_of new)
goes_by_lives (inl passed) = lives_both (asks_lives passed.2) (passes_lives passed.3)
goes_by_lives (inr stopped) = lives_same stopped.1

-- of the connection nothing is done but calls of its own where a question is finished and its outcome given back
released_lives : {H : Type 0} {old new : State H} {outcome : Outcome} → doing.ReleasesOutcome outcome old new → Lives (link_of old) (link_of new)
released_lives {H = H} {old = old} (doing.gives_back work back lives same) = subst (λ (s : State H). Lives (link_of old) (link_of s)) (sym same) lives
released_lives {H = H} {old = old} (doing.runs_out_of_memory work lives same) = subst (λ (s : State H). Lives (link_of old) (link_of s)) (sym same) lives

untaken_lives : {H : Type 0} (old new : State H) (untaken : Option Outcome) → doing.ReleasesUntaken untaken old new → Lives (link_of old) (link_of new)
untaken_lives old new (Some outcome) h = released_lives h
untaken_lives old new None h = lives_same h

canceled_lives : {H : Type 0} {table : ObjectTableKind H} {old new : State H} {question : ℕ} → doing.CancelsOwn table question old new → Lives (link_of old) (link_of new)
canceled_lives {H = H} {old = old} (doing.tells_owing work tells lives same) = subst (λ (s : State H). Lives (link_of old) (link_of s)) (sym same) lives
canceled_lives {H = H} {old = old} (doing.tells_none work lives same) = subst (λ (s : State H). Lives (link_of old) (link_of s)) (sym same) lives

finished_lives : {H : Type 0} {table : ObjectTableKind H} {old new : State H} (question : ℕ) → doing.FinishesQuestion table question old new → Lives (link_of old) (link_of new)
finished_lives {old = old} question h =
    let acted = lives_act (machine.Finish question) (Ok values.Nothing) tt h.finishes.acts in
    lives_both (lives_both (subst (λ (w : Work). Lives (link_of old) w.link) (sym h.finishes.same) acted) (untaken_lives _ _ h.untaken h.releases)) (canceled_lives h.cancels)

-- where the peer is refused the connection is aborted, if its bytes are taken
refused_life : {H : Type 0} {table : ObjectTableKind H} {old new : State H} {now : ℕ} → doing.IsRefused table old now new → IsLife (link_of old) [] [] (link_of new)
refused_life {H = H} {old = old} (doing.was_over over same) = life_same (life_none (link_of old)) (ap (λ (s : State H). link_of s) same)
refused_life {old = old} (doing.refuses mid at_work refuses is settles) = life_same (life_refused {c = link_of mid} (life_none (link_of old)) (kept_excess old.progress.phase) refuses) (settles_link settles)

-- one call of a session, and one after another
does_life : {H : Type 0} {table : ObjectTableKind H} {old new : State H} {transfer : Transfer} → Does table old transfer new → IsLife (link_of old) transfer.taken transfer.written (link_of new)
does_life (runs.receives piece now count done is) = life_of_transfer is (receives_life piece now count done)
does_life (runs.fails piece now fault cut is) =
    life_of_transfer is (life_same (life_refused (cut_life cut.cut.cut) (excess_of fault) cut.cut.refuses) (settles_link cut.settles))
does_life (runs.ends now done is) = life_of_transfer is (ends_bytes_life done)
does_life (runs.ends_inside now fault cut is) = life_of_transfer is (life_same (unended_life cut.unfinished.unended) (settles_link cut.settles))
does_life (runs.polls now done is) = life_of_transfer is (polls_life done)
does_life (runs.runs_out now out is) = life_of_transfer is (life_same (life_of out.unworked.lives) (settles_link out.settles))
does_life {H = H} {old = old} (runs.writes count now wrote is) =
    life_of_transfer is
    (life_same (life_one (life.writes count wrote.wrote refl)) (settles_link wrote.settles ∙ ap (λ (s : State H). link_of s) wrote.moves))
does_life {old = old} (runs.ticks now ticked is) =
    life_of_transfer is
    (life_same (life_then (life_refused (life_none (link_of old)) ticked.told ticked.refuses) (goes_by_lives ticked.goes_by)) (settles_link ticked.settles))
does_life {H = H} {old = old} (runs.closes now closed is) = life_of_transfer is (life_same (life_none (link_of old)) (settles_link closed))
does_life (runs.refuses now refused is) = life_of_transfer is (refused_life refused)
does_life {H = H} {old = old} (runs.tells event told is) =
    life_of_transfer is
    (life_same (life_none (link_of old)) (ap (λ (s : State H). link_of s) told.rest ∙ handed_link told.notice old.service.work told.work told.hands))
does_life {H = H} {old = old} (runs.wakes object woken is) = life_of_transfer is (life_same (life_none (link_of old)) (ap (λ (s : State H). link_of s) woken.1))
does_life {H = H} {old = old} (runs.hands_on letter handed is) = life_of_transfer is (life_same (life_none (link_of old)) (ap (λ (s : State H). link_of s) handed.1))
does_life {H = H} {old = old} (runs.delivers body delivered is) = life_of_transfer is (life_same (life_none (link_of old)) (ap (λ (s : State H). link_of s) delivered.1))
does_life {H = H} (runs.calls call is_call did is) =
    life_of_transfer is (life_same (life_one (life.acts call.event call.result is_call did.1)) (ap (λ (s : State H). link_of s) did.2))
does_life {H = H} (runs.gives_back import result back is) =
    life_of_transfer is (life_same (life_of (lives_back back.gives_back)) (ap (λ (s : State H). link_of s) back.same))
does_life (runs.finishes question finished is) = life_of_transfer is (life_of (finished_lives question finished))
does_life (runs.releases outcome released is) = life_of_transfer is (life_of (released_lives released))

runs_life : {H : Type 0} {table : ObjectTableKind H} {first last : State H} {transfer : Transfer} → Runs table first transfer last → IsLife (link_of first) transfer.taken transfer.written (link_of last)
runs_life {first = first} runs.begins = life_none (link_of first)
runs_life (runs.goes_on before_it does is) =
    let h = runs_life before_it in
    let k = does_life does in
    life_of_transfer is (h.0 ++ k.0, course_both h.1 k.1)

pub lives_on : {H : Type 0} (table : ObjectTableKind H) → LivesOn table
lives_on table first last transfer run = runs_life run
