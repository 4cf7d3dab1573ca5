-- How what is done with a connection follows each other.
use Rattle.std.proofs.Common.{◌≡◌, ◌≢◌, ◌<◌, ◌-◌, ◌∙◌, ℕ, ℤ, List, [], ◌∷◌, ◌++◌, Option, Some, None, IsSome, Result, Ok, Err, IfErr, OnOk, OnErr, inl, inr, refl, sym, ap, subst, length, take, drop, append-nil, append_assoc, arith}
use Rattle.std.proofs.lemmas.List.{length-append}
use Rattle.std.specs.IoError.{raw_os_error}
use Rattle.std.specs.declared.io.Error.{Error}
use Rattle.cp_connection.specs.declared.excess.Excess.{Excess}
use Rattle.cp_connection.specs.declared.fault.ConnectionFault.{ConnectionFault}
use Rattle.cp_objects.specs.declared.letters.Letter.{Letter}
use Rattle.cp_objects.specs.ObjectTable.{ObjectTableKind}
use Rattle.cp_dispatch.specs.declared.event.SessionEvent.{SessionEvent}
use Rattle.cp_session.specs.declared.limits.SessionLimits.{SessionLimits}
use Rattle.cp_dispatch.specs.declared.event.Limit.{Limit}
use Rattle.cp_dispatch.specs.declared.event.Limit.TheVariants as limits
use Rattle.cp_session.specs.declared.progress.Phase.{Phase}
use Rattle.cp_session.specs.declared.progress.Progress.{Progress}
use Rattle.cp_session.specs.declared.progress.Phase.TheVariants as phases
use Rattle.cp_session.specs.Doing.{EndsBytes, EndsCut, EndsObjects, GoesBy, HandsOn, Leaves, PollsOn, RunsOut, Settles, Tells, Ticks, leaves, refuses, stays, was_over}
use Rattle.cp_session.specs.Doing as doing
use Rattle.cp_session.specs.Kept.{kept_of}
use Rattle.cp_session.specs.Progress.{Meets, TicksTo, ended, ended_by, excess_by, kept_excess, meets, meets_none, met, phase_by}
use Rattle.cp_session.specs.Runs.{Does, begins, both, ends, ends_inside, nothing, polls, runs_out, tells, ticks, writes, called_at}
use Rattle.cp_session.specs.State.{State}
use Rattle.cp_session.proofs.Running.{runs_both, runs_one}
use Rattle.net_host.proofs.Leaving.{left_number, left_peer}
use Rattle.net_host.specs.declared.end.End.{End}
use Rattle.net_host.specs.declared.end.End.TheVariants as all_ends
use Rattle.net_host.specs.Feeding.{IsFed}
use Rattle.net_sockets.specs.Flow.{Flow, Moves, Rests}
use Rattle.net_host.proofs.Fed.{at_both, at_none, at_one, parts}
use Rattle.net_sockets.proofs.Flowing.{flows_both, flows_none, flows_still}
use Rattle.net_host.specs.HostedConnections.{Adds, Breaks, Closes, EndsBy, Fails, FailsBy, HandsOver, HandsSome, HasFailed, Hears, IsShort, IsTooMuch, IsWhy, Lasts, LeavesShort, Minds, Passes, Proceeds, Sends, Served, Serves, Shuts, Stops, StopsAfter, TakesIn, Works, breaks_off, end_after, end_of, end_or, ends_broken, ends_short, ends_unnoted, ends_whole, fails_short, fails_whole, heard, is_short, kept_by, minds_full, minds_none, none, or_before, passes_on, some, stats_of}
use Rattle.net_host.specs.Waking.{HandsAll, HandsOut, hands_more, hands_none}

-- events, and more of them
pub end_after-both : (known : Option End) (told more : List SessionEvent) → end_after known (told ++ more) ≡ end_after (end_after known told) more
end_after-both known [] more = refl
end_after-both known (event ∷ told) more = end_after-both (or_before known (end_of event)) told more

-- what is over stays so
over_still : (o : Option ConnectionFault) → phase_by o phases.Over ≡ phases.Over
over_still None = refl
over_still (Some fault) = refl

-- nothing more is left to be done where a limit is met, unless the peer is told what is too much
told_kept : (phase : Phase) (p : Progress) → ((ended_by (kept_excess phase) p).phase ≡ phases.Over → ⊥) → phase ≡ phases.Serving
told_kept phases.Serving p goes_on = refl
told_kept phases.Ending p goes_on = absurd (goes_on refl)
told_kept (phases.Draining since) p goes_on = absurd (goes_on refl)
told_kept phases.Over p goes_on = absurd (goes_on refl)

told_so : (limit : Limit) (allowed : SessionLimits) (p : Progress) (kept now : ℕ) → Meets allowed p kept now limit → ((met limit p).phase ≡ phases.Over → ⊥)
    → (p.phase ≡ phases.Serving) × (allowed.kept < kept)
told_so limits.Message allowed p kept now met_so goes_on = absurd (goes_on refl)
told_so limits.Idle allowed p kept now met_so goes_on = absurd (goes_on refl)
told_so limits.Closing allowed p kept now met_so goes_on = absurd (goes_on refl)
told_so limits.Kept allowed p kept now met_so goes_on = (told_kept p.phase (record p { limit = Some limits.Kept }) goes_on, met_so.1)

-- another call says nothing of its stream
failed_still : {H : Type 0} (b c : Served H) (error : Error) → HasFailed b error → c.failure ≡ b.failure → HasFailed c error
failed_still b c error (inl failed) same = inl (same ∙ failed)
failed_still b c error (inr ran_out) same = inr ran_out

limited : (excess : Option Excess) (p : Progress) → IsSome p.limit → IsSome (ended_by excess p).limit
limited None p h = h
limited (Some excess) p h = h

is_limited : (limit : Limit) (p q : Progress) → q ≡ met limit p → IsSome q.limit
is_limited limit p q is = subst (λ (x : Progress). IsSome x.limit) (sym is) (limited (excess_by limit p.phase) (record p { limit = Some limit }) refl)

module _ {H : Type 0} {table : ObjectTableKind H} where
  pub serves_none : (now : ℕ) (s : Served H) → Serves table now s [] s.rest s
  serves_none now s = record {
    number = refl;
    peer = refl;
    transfer = nothing;
    runs = begins;
    no_call = refl;
    unroused = refl;
    unrefused = refl;
    unticked = refl;
    undelivered = refl;
    unsent = refl;
    at_once = at_none now;
    in_order = append-nil s.rest;
    flow = flows_none s.flow;
    end = refl;
  }

  -- one after the other
  pub serves_both : {now : ℕ} {a b c : Served H} {came more left : List ℕ} → Serves table now a came b.rest b → Serves table now b more left c
      → Serves table now a (came ++ more) left c
  serves_both {now = now} {a = a} {b = b} {c = c} {came = came} {more = more} {left = left} h k = record {
    number = k.number ∙ h.number;
    peer = k.peer ∙ h.peer;
    transfer = both h.transfer k.transfer;
    runs = runs_both h.runs k.runs;
    no_call = rw (h.no_call, k.no_call) refl;
    unroused = rw (h.unroused, k.unroused) refl;
    unrefused = rw (h.unrefused, k.unrefused) refl;
    unticked = rw (h.unticked, k.unticked) refl;
    undelivered = rw (h.undelivered, k.undelivered) refl;
    unsent = rw (h.unsent, k.unsent) refl;
    at_once = at_both now h.transfer.times k.transfer.times h.at_once k.at_once;
    in_order =
        sym (append_assoc a.rest came more) ∙ ap (λ (x : List ℕ). x ++ more) h.in_order ∙ append_assoc h.transfer.given b.rest more
        ∙ ap (λ (x : List ℕ). h.transfer.given ++ x) k.in_order ∙ sym (append_assoc h.transfer.given k.transfer.given left);
    flow = subst (λ (n : ℕ). Moves a.flow (came ++ more) n (h.transfer.written ++ k.transfer.written) c.flow) (sym (length-append h.transfer.ended k.transfer.ended)) (flows_both h.flow k.flow);
    end = k.end ∙ ap (λ known. end_after known k.transfer.told) h.end ∙ sym (end_after-both a.end h.transfer.told k.transfer.told);
  }

  -- nothing was done, or a call of its stream that gave and took nothing
  pub serves_still : (now : ℕ) (s : Served H) (flow : Flow) → Rests s.flow flow → Serves table now s [] s.rest (record s { flow = flow })
  serves_still now s flow still = record {
    number = refl;
    peer = refl;
    transfer = nothing;
    runs = begins;
    no_call = refl;
    unroused = refl;
    unrefused = refl;
    unticked = refl;
    undelivered = refl;
    unsent = refl;
    at_once = at_none now;
    in_order = append-nil s.rest;
    flow = still;
    end = refl;
  }

  -- a call of its session that gave it no bytes
  pub serves_call : (now : ℕ) (s : Served H) (t : State H) (flow : Flow) (written ended : List ℕ) → Does table s.session (record (called_at now) { written = written; ended = ended }) t
      → Moves s.flow [] (length ended) written flow → Serves table now s [] s.rest (record s { session = t; flow = flow })
  serves_call now s t flow written ended does moved = record {
    number = refl;
    peer = refl;
    transfer = record (called_at now) { written = written; ended = ended };
    runs = runs_one _ does;
    no_call = refl;
    unroused = refl;
    unrefused = refl;
    unticked = refl;
    undelivered = refl;
    unsent = refl;
    at_once = at_one now;
    in_order = append-nil s.rest;
    flow = moved;
    end = refl;
  }

  pub proceeds_none : (now : ℕ) (s : Served H) → Proceeds table now s s
  proceeds_none now s = ([], serves_none now s, refl)

  pub proceeds_both : {now : ℕ} {a b c : Served H} → Proceeds table now a b → Proceeds table now b c → Proceeds table now a c
  proceeds_both h k = (_, serves_both h.1 k.1, k.2 ∙ h.2)

  -- it went on, and then for the last time
  pub stops_then : {now : ℕ} {a b c : Served H} → Proceeds table now a b → Stops table now b c → Stops table now a c
  stops_then h k = (_, (k.1.0, serves_both h.1 k.1.1))

  -- it went on for the last time
  pub stops_after : {now : ℕ} {a b : Served H} {came left : List ℕ} {ended : ℕ} → TakesIn table now a came ended left b → (before : Flow) → Moves before came ended [] a.flow
      → StopsAfter table now (record a { flow = before }) came b
  stops_after h before moved = (_, h before moved)

  pub stops_now : {now : ℕ} {a b : Served H} {came left : List ℕ} → Serves table now a came left b → Stops table now a b
  stops_now h = (_, (_, h))

  -- the objects went on, or memory ran out
  pub serves_polled : {E : Type 0} (s : Served H) (t : State H) (r : Result (Unit {0}) E) (now : ℕ) → OnOk r (PollsOn table s.session now t) → OnErr r (RunsOut table s.session now t)
      → Serves table now s [] s.rest (record s { session = t })
  serves_polled s t (Ok x) now h k = serves_call now s t s.flow [] [] (polls now h refl) (flows_none s.flow)
  serves_polled s t (Err e) now h k = serves_call now s t s.flow [] [] (runs_out now k refl) (flows_none s.flow)

  -- the peer's bytes ended, well or not
  pub serves_ended : (s : Served H) (t : State H) (r : Result (Unit {0}) ConnectionFault) (now : ℕ) → OnOk r (EndsBytes table s.session now t)
      → IfErr r (λ fault. EndsCut table s.session now fault t) → TakesIn table now s [] 1 s.rest (record s { session = t })
  serves_ended s t (Ok x) now h k before moved = serves_call now (record s { flow = before }) t s.flow [] (now ∷ []) (ends now h refl) moved
  serves_ended s t (Err fault) now h k before moved = serves_call now (record s { flow = before }) t s.flow [] (now ∷ []) (ends_inside now fault k refl) moved

  -- its stream gave nothing
  pub takes_nothing : (now : ℕ) (s : Served H) → TakesIn table now s [] 0 s.rest s
  takes_nothing now s before moved = serves_still now (record s { flow = before }) s.flow moved

  -- what is over stays so where its peer is refused
  over_minded : {most now : ℕ} (s t : State H) → Minds table most now s t → s.progress.phase ≡ phases.Over → t.progress.phase ≡ phases.Over
  over_minded s t (minds_none few same) over = ap (λ (x : State H). x.progress.phase) same ∙ over
  over_minded s t (minds_full many (was_over so same)) over = ap (λ (x : State H). x.progress.phase) same ∙ over
  over_minded s t (minds_full many (refuses mid goes_on told is settles)) over = absurd (goes_on over)

  -- its stream took some bytes, or none
  pub proceeds_sent : (s t : Served H) (count now : ℕ) → Sends table s count now t → Proceeds table now s t
  proceeds_sent s t count now (none zero still same) = subst (λ (x : Served H). Proceeds table now s x) (sym same) ([], serves_still now s t.flow still, refl)
  proceeds_sent s t count now (some sent moved same) =
      subst (λ (x : Served H). Proceeds table now s x) (sym same) ([], serves_call now s t.session t.flow _ [] (writes count now sent refl) moved, refl)

  -- it had some of what was left
  pub serves_rest : {now : ℕ} (s : Served H) (t : State H) (rest left : List ℕ) (count : ℕ) → left ≡ s.rest → IsFed table now s.session (take count left) t
      → Serves table now s [] (take (length left - count) (drop count left)) (record s { session = t; rest = rest })
  serves_rest s t rest left count is fed = record {
    number = refl;
    peer = refl;
    transfer = record nothing { given = take count left; taken = fed.0; times = fed.1 };
    runs = fed.3;
    no_call = refl;
    unroused = refl;
    unrefused = refl;
    unticked = refl;
    undelivered = refl;
    unsent = refl;
    at_once = fed.2;
    in_order = append-nil s.rest ∙ sym is ∙ parts left count;
    flow = flows_none s.flow;
    end = refl;
  }

  -- it had some of what came, where nothing was left
  pub serves_came : {now : ℕ} (s : Served H) (t : State H) (rest came given left : List ℕ) → s.rest ≡ [] → came ≡ given ++ left → IsFed table now s.session given t
      → TakesIn table now s came 0 left (record s { session = t; rest = rest })
  serves_came s t rest came given left empty is fed before moved = record {
    number = refl;
    peer = refl;
    transfer = record nothing { given = given; taken = fed.0; times = fed.1 };
    runs = fed.3;
    no_call = refl;
    unroused = refl;
    unrefused = refl;
    unticked = refl;
    undelivered = refl;
    unsent = refl;
    at_once = fed.2;
    in_order = rw empty is;
    flow = moved;
    end = refl;
  }

  -- the same, where the rest is what was added to nothing
  pub serves_added : {now : ℕ} (s : Served H) (t : State H) (rest came given left : List ℕ) → s.rest ≡ [] → rest ≡ s.rest ++ left → came ≡ given ++ left → IsFed table now s.session given t
      → TakesIn table now s came 0 rest (record s { session = t; rest = rest })
  serves_added s t rest came given left empty added is fed =
      serves_came s t rest came given rest empty (is ∙ ap (λ (x : List ℕ). given ++ x) (sym (added ∙ ap (λ (x : List ℕ). x ++ left) empty))) fed

  -- ---- events

  pub hears_none : (s : Served H) → Hears table s s
  hears_none s = ([], begins, refl, refl)

  -- none was there
  pub hears_nothing : (s : Served H) (t : State H) → Tells s.session None t → Hears table s (record s { session = t })
  hears_nothing s t h = ([], runs_one _ (tells None h refl), ap (λ (x : State H). x.progress.phase) h.rest, refl)

  -- one was there
  pub hears_one : (s new : Served H) (t : State H) (event : SessionEvent) → Tells s.session (Some event) t → new ≡ heard event (record s { session = t }) → Hears table s new
  hears_one s new t event h is = subst (λ (x : Served H). Hears table s x) (sym is) (event ∷ [], runs_one _ (tells (Some event) h refl), ap (λ (x : State H). x.progress.phase) h.rest, refl)

  -- what shows the same heard the same
  hears_from : {a b c : Served H} → Hears table a b → a ≡ c → Hears table c b
  hears_from {b = b} h e = subst (λ (x : Served H). Hears table x b) e h

  pub hears_both : {a b c : Served H} → Hears table a b → Hears table b c → Hears table a c
  hears_both {a = a} {b = b} {c = c} h k = (
    h.0 ++ k.0,
    runs_both h.1 k.1,
    k.2 ∙ h.2,
    k.3 ∙ ap (λ (x : Served H). record x { session = c.session; end = end_after x.end k.0 }) h.3
        ∙ ap (λ e. record a { session = c.session; end = e }) (sym (end_after-both a.end h.0 k.0)),
  )

  -- events change nothing of what is left
  pub serves_hears : {now : ℕ} {a b c : Served H} {came left : List ℕ} → Serves table now a came left b → Hears table b c → Serves table now a came left c
  serves_hears {now = now} {a = a} {b = b} {c = c} {left = left} h k = record {
    number = ap (λ (x : Served H). x.number) k.3 ∙ h.number;
    peer = ap (λ (x : Served H). x.peer) k.3 ∙ h.peer;
    transfer = both h.transfer (record nothing { told = k.0 });
    runs = runs_both h.runs k.1;
    no_call = rw (h.no_call) refl;
    unroused = rw (h.unroused) refl;
    unrefused = rw (h.unrefused) refl;
    unticked = rw (h.unticked) refl;
    undelivered = rw (h.undelivered) refl;
    unsent = rw (h.unsent) refl;
    at_once = at_both now h.transfer.times [] h.at_once (at_none now);
    in_order = h.in_order ∙ ap (λ (x : List ℕ). x ++ left) (sym (append-nil h.transfer.given));
    flow = rw (append-nil h.transfer.ended, append-nil h.transfer.written, ap (λ (x : Served H). x.flow) k.3) h.flow;
    end = ap (λ (x : Served H). x.end) k.3 ∙ ap (λ known. end_after known k.0) h.end ∙ sym (end_after-both a.end h.transfer.told k.0);
  }

  -- ---- what it sends

  pub hands_begin : (s : Served H) (letters : List Letter) → Adds letters (λ sent. HandsSome table s sent s) letters
  hands_begin s letters = ([], sym (append-nil letters), (hands_none, refl))

  -- one more is handed out, where room was made
  pub hands_next : {a b c : Served H} (first so_far room next : List Letter) (letter : Letter) → Adds first (λ sent. HandsSome table a sent b) so_far → room ≡ so_far
      → HandsOn table (Some letter) b.session c.session → c ≡ record b { session = c.session } → next ≡ room ++ letter ∷ [] → Adds first (λ sent. HandsSome table a sent c) next
  hands_next {c = c} first so_far room next letter h same one is added = (
    h.0 ++ letter ∷ [],
    added ∙ ap (λ (x : List Letter). x ++ letter ∷ []) (same ∙ h.1) ∙ append_assoc first h.0 (letter ∷ []),
    (hands_more letter h.2.0 one refl, is ∙ ap (λ (x : Served H). record x { session = c.session }) h.2.1),
  )

  -- none was left
  pub hands_end : {a b c : Served H} (first so_far room : List Letter) → Adds first (λ sent. HandsSome table a sent b) so_far → room ≡ so_far
      → HandsOn table None b.session c.session → c ≡ record b { session = c.session } → Adds first (λ sent. HandsOver table a sent c) room
  hands_end {b = b} {c = c} first so_far room h same one is = (
    h.0,
    same ∙ h.1,
    ((b.session, h.2.0, one), is ∙ ap (λ (x : Served H). record x { session = c.session }) h.2.1),
  )

  pub hands_still : {a b : Served H} (first so_far room : List Letter) → Adds first (λ sent. HandsSome table a sent b) so_far → room ≡ so_far
      → Adds first (λ sent. HandsSome table a sent b) room
  hands_still first so_far room h same = (h.0, same ∙ h.1, h.2)

  -- ---- what a turn comes to

  -- what is over stays so
  over_settled : (s t : State H) (now : ℕ) → Settles table s now t → s.progress.phase ≡ phases.Over → t.progress.phase ≡ phases.Over
  over_settled s t now h over = then h.ends
    where
      heeded : h.heeded.progress.phase ≡ phases.Over
      heeded = ap (λ (x : State H). x.progress.phase) h.heeds ∙ ap (λ phase. phase_by s.service.work.link.fault phase) over ∙ over_still s.service.work.link.fault

      by : Leaves table h.heeded now h.gone → h.gone.progress.phase ≡ phases.Over
      by (stays unsettled is) = ap (λ (x : State H). x.progress.phase) is ∙ heeded
      by (leaves settled is) = absurd (grind (arith, settled.ending, heeded))

      then : EndsObjects table now h.gone t → t.progress.phase ≡ phases.Over
      then (doing.not_yet why is) = ap (λ (x : State H). x.progress.phase) is ∙ by h.left_so
      then (doing.each_told at done timed told_all is) = ap (λ (x : State H). x.progress.phase) is ∙ by h.left_so
      then (doing.ran_out done is) = ap (λ (x : State H). x.progress.phase) is ∙ ap ended (by h.left_so)

  -- time passes for no object where a limit is met
  goes_none : {now : ℕ} {ticked mid : State H} → GoesBy table now ticked mid → IsSome ticked.progress.limit → mid ≡ ticked
  goes_none (inl passed) limited = absurd (passed.0 (inr (inr limited)))
  goes_none (inr stopped) limited = stopped.1

  -- letters are handed out whatever the phase
  same_phase_so_far : {a b : State H} {sent : List Letter} → HandsOut table a sent b → b.progress.phase ≡ a.progress.phase
  same_phase_so_far hands_none = refl
  same_phase_so_far (hands_more letter before one is) = ap (λ (x : State H). x.progress.phase) one.1 ∙ same_phase_so_far before

  same_phase : {a b : State H} {sent : List Letter} → HandsAll table a sent b → b.progress.phase ≡ a.progress.phase
  same_phase h = ap (λ (x : State H). x.progress.phase) h.2.1 ∙ same_phase_so_far h.1

  -- a session that isn't over once time passed met no limit, but the one of which its peer is told
  pub met_none : (s t : State H) (now : ℕ) → Ticks table s now t → t.progress.phase ≢ phases.Over → (limit : Limit)
      → Meets s.limits s.progress (kept_of s.service.work (table.guests s.objects)) now limit → IsTooMuch table s
  met_none s t now h goes_on limit met_so = by h.ticks
    where
      by : TicksTo s.limits s.progress (kept_of s.service.work (table.guests s.objects)) now h.told h.ticked.progress → IsTooMuch table s
      by (meets one is_met told is) =
          let still : h.mid ≡ h.ticked = goes_none h.goes_by (is_limited one s.progress h.ticked.progress is) in
          told_so one s.limits s.progress (kept_of s.service.work (table.guests s.objects)) now is_met
          (λ over. goes_on (over_settled h.mid t now h.settles (ap (λ (x : State H). x.progress.phase) still ∙ ap (λ p. p.phase) is ∙ over)))
      by (meets_none unmet told is) = absurd (unmet limit met_so)

  -- ---- its end

  -- its stream failed
  serves_failed : {now : ℕ} {a b : Served H} {came left : List ℕ} (failure : Option (Option ℤ)) (flow : Flow) → Rests b.flow flow → Serves table now a came left b
      → Serves table now a came left (record b { failure = failure; flow = flow })
  serves_failed failure flow still h = record {
    number = h.number;
    peer = h.peer;
    transfer = h.transfer;
    runs = h.runs;
    no_call = h.no_call;
    unroused = h.unroused;
    unrefused = h.unrefused;
    unticked = h.unticked;
    undelivered = h.undelivered;
    unsent = h.unsent;
    at_once = h.at_once;
    in_order = h.in_order;
    flow = flows_still h.flow still;
    end = h.end;
  }

  pub fails_now : {now : ℕ} {a b c : Served H} (error : Error) → Proceeds table now a b → FailsBy b error c → Breaks table now a error c
  fails_now {now = now} {a = a} {b = b} {c = c} error h e =
      subst (λ (x : Served H). Breaks table now a error x) (sym e.1) ((h.0, (b.rest, serves_failed (Some (raw_os_error error)) c.flow e.0 h.1)), inl refl)

  -- it went on, and then failed
  pub fails_then : {now : ℕ} {a b c : Served H} (error : Error) → Proceeds table now a b → Breaks table now b error c → Breaks table now a error c
  fails_then error h k = (stops_then h k.0, k.1)

  -- events say nothing of its stream
  pub fails_hears : {now : ℕ} {a b c : Served H} (error : Error) → Breaks table now a error b → Hears table b c → Breaks table now a error c
  fails_hears {b = b} {c = c} error h k = ((h.0.0, (h.0.1.0, serves_hears h.0.1.1 k)), failed_still b c error h.1 (ap (λ (x : Served H). x.failure) k.3))

  -- it went on through a turn
  pub passed : {most now : ℕ} {a refused b : Served H} (worked : Served H) (ticked minded : State H) → Proceeds table now a worked → Ticks table worked.session now ticked
      → Minds table most now ticked minded → refused ≡ record worked { session = minded } → Hears table refused b → Passes table most now a b
  passed worked ticked minded went_on went_by minds same heard = record {
    worked = worked;
    proceeds = went_on;
    ticked = ticked;
    ticks = went_by;
    minded = minded;
    minds = minds;
    hears = hears_from {c = record worked { session = minded }} heard same;
  }

  -- it is the same connection, and its stream didn't fail
  passes_number : {most now : ℕ} {a b : Served H} → Passes table most now a b → b.number ≡ a.number
  passes_number h = ap (λ (x : Served H). x.number) h.hears.3 ∙ h.proceeds.1.number

  passes_peer : {most now : ℕ} {a b : Served H} → Passes table most now a b → b.peer ≡ a.peer
  passes_peer h = ap (λ (x : Served H). x.peer) h.hears.3 ∙ h.proceeds.1.peer

  pub works_number : {most now : ℕ} {a b : Served H} {sent : List Letter} → Works table most now a sent b → b.number ≡ a.number
  works_number h = ap (λ (x : Served H). x.number) h.hands.1 ∙ passes_number h.passes

  works_peer : {most now : ℕ} {a b : Served H} {sent : List Letter} → Works table most now a sent b → b.peer ≡ a.peer
  works_peer h = ap (λ (x : Served H). x.peer) h.hands.1 ∙ passes_peer h.passes

  pub works_failure : {most now : ℕ} {a b : Served H} {sent : List Letter} → Works table most now a sent b → b.failure ≡ a.failure
  works_failure h = ap (λ (x : Served H). x.failure) h.hands.1 ∙ ap (λ (x : Served H). x.failure) h.passes.hears.3 ∙ h.passes.proceeds.2

  pub works_as : {most now : ℕ} {a b c : Served H} {sent : List Letter} → Works table most now a sent b → c ≡ b → Works table most now a sent c
  works_as {most = most} {now = now} {a = a} {sent = sent} h e = subst (λ (x : Served H). Works table most now a sent x) (sym e) h

  -- one that isn't over then met no limit, but the one of which its peer is told
  pub works_unmet : {most now : ℕ} {a b : Served H} {sent : List Letter} (h : Works table most now a sent b) → b.session.progress.phase ≢ phases.Over → (limit : Limit)
      → Meets h.passes.worked.session.limits h.passes.worked.session.progress (kept_by table h.passes.worked) now limit → IsTooMuch table h.passes.worked.session
  works_unmet {now = now} h goes_on =
      let turn = h.passes in
      met_none turn.worked.session turn.ticked now turn.ticks
      (λ over. goes_on (same_phase h.hands.0 ∙ turn.hears.2 ∙ over_minded turn.ticked turn.minded turn.minds over))

  -- its last turn
  pub broken_off : {now : ℕ} {a b c : Served H} (most : ℕ) (error : Error) → Breaks table now a error b → Shuts table now b c → Lasts table most now a c
  broken_off {b = b} most error h k = breaks_off error b h k

  pub passed_so : {most now : ℕ} {a b : Served H} → Passes table most now a b → Lasts table most now a b
  passed_so h = passes_on h

  lasts_number : {most now : ℕ} {a b : Served H} → Lasts table most now a b → b.number ≡ a.number
  lasts_number (breaks_off error broken breaks shuts) = ap (λ (x : Served H). x.number) shuts.1 ∙ breaks.0.1.1.number
  lasts_number (passes_on through) = passes_number through

  lasts_peer : {most now : ℕ} {a b : Served H} → Lasts table most now a b → b.peer ≡ a.peer
  lasts_peer (breaks_off error broken breaks shuts) = ap (λ (x : Served H). x.peer) shuts.1 ∙ breaks.0.1.1.peer
  lasts_peer (passes_on through) = passes_peer through

  -- it is closed, and keeps its number and peer
  closed : {most now : ℕ} {sent : List Letter} (old last new : Served H) (end : End) → last.number ≡ old.number → last.peer ≡ old.peer → EndsBy table most now old sent last end
      → new ≡ record last { end = None } → Closes table most now old sent end new
  closed old last new end number peer by is =
      (ap (λ (x : Served H). x.number) is ∙ number, ap (λ (x : Served H). x.peer) is ∙ peer, last, by, ap (λ (x : Served H). stats_of x) is)

  -- once all are handed out
  pub closes : {most now : ℕ} {sent : List Letter} (old last new : Served H) (end : End) → Works table most now old sent last → IsWhy table most last end
      → new ≡ record last { end = None } → Closes table most now old sent end new
  closes old last new end h why is = closed old last new end (works_number h) (works_peer h) (ends_whole h why) is

  -- as memory ran out once it went on
  pub closes_short : {most now : ℕ} {sent more : List Letter} (old worked new : Served H) (end : End) → Works table most now old sent worked
      → LeavesShort table now worked more end new → Closes table most now old (sent ++ more) end new
  closes_short {now = now} {sent = sent} {more = more} old worked new end h left = (
    left_number now worked new more end left ∙ works_number h,
    left_peer now worked new more end left ∙ works_peer h,
    new,
    ends_unnoted worked sent more h left refl,
    refl,
  )

  -- as its stream failed, or memory ran out
  pub closes_failed : {most now : ℕ} {sent : List Letter} (old last new : Served H) (error : Error) (end : End) → Fails table most now old sent error last
      → end ≡ end_or last.end (all_ends.Failed error) → new ≡ record last { end = None } → Closes table most now old sent end new
  closes_failed old last new error end (fails_whole broken served breaks shuts hands) why is =
      closed old last new end (ap (λ (x : Served H). x.number) hands.1 ∙ ap (λ (x : Served H). x.number) shuts.1 ∙ breaks.0.1.1.number)
      (ap (λ (x : Served H). x.peer) hands.1 ∙ ap (λ (x : Served H). x.peer) shuts.1 ∙ breaks.0.1.1.peer)
      (ends_broken broken served error breaks shuts hands why) is
  closes_failed old last new error end (fails_short served lasts hands short) why is =
      closed old last new end (ap (λ (x : Served H). x.number) hands.1 ∙ lasts_number lasts) (ap (λ (x : Served H). x.peer) hands.1 ∙ lasts_peer lasts)
      (ends_short served lasts hands (error, short, why)) is
