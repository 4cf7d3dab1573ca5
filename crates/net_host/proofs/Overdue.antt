-- Which connections meet a limit of time.
use Rattle.std.proofs.Common.{◌≡◌, ◌⊎◌, ◌∙◌, ℕ, List, [], ◌∷◌, ◌++◌, Option, Some, None, Contains, inl, inr, refl, sym, ap, subst, arith, option_map}
use Rattle.std.proofs.lemmas.List.Elements.{Contains-append_left, Contains-append_right, Contains-push}
use Rattle.slab.specs.Slab.{Slab, entries, get}
use Rattle.slab.proofs.SlabLemmas.{Contains-cons_cases, Contains-entries}
use Rattle.cp_session.specs.State.{State}
use Rattle.cp_session.specs.Doing.{due_of}
use Rattle.cp_session.specs.Progress.{earlier}
use Rattle.cp_objects.specs.ObjectTable.{ObjectTableKind}
use Rattle.net_sockets.specs.Flow.{Flow}
use Rattle.net_host.specs.declared.hosted_connection.HostedConnection.{HostedConnection}
use Rattle.net_host.proofs.Awaiting.{by_first, by_second, one_of}
use Rattle.net_host.specs.Floor.{HasOverdue, IsFirst, seen}
use Rattle.net_host.specs.HostedConnections.{IsOverdue, Served, served_of}
use Rattle.net_host.specs.Timing.{ComesBy}

none_in : {X : Type 0} {x : X} → Contains [] x → ⊥
none_in h = omega (arith, h.1)

module _ {S D H : Type 0} (table : ObjectTableKind H) (state : S → State H) (flow : D → Flow) where
  -- each that meets a limit of time is in the queue, or is left to be looked at
  abbrev pub Seeks : Slab (HostedConnection S D) → ℕ → List ℕ → List (ℕ × HostedConnection S D) → Type 0
  Seeks guests now queue left = (key : ℕ) (hosted : HostedConnection S D) → get guests key ≡ Some hosted → IsOverdue table (state hosted.session) now
      → Contains queue key ⊎ Contains left (key, hosted)

  pub seeks_all : (guests : Slab (HostedConnection S D)) (now : ℕ) (queue : List ℕ) (left : List (ℕ × HostedConnection S D)) → left ≡ entries guests → Seeks guests now queue left
  seeks_all guests now queue left all key hosted there overdue = inr (subst (λ es. Contains es (key, hosted)) (sym all) ((Contains-entries guests key hosted).1 there))

  -- one was put into the queue
  pub seeks_queued : (guests : Slab (HostedConnection S D)) (now : ℕ) (queue new : List ℕ) (left rest : List (ℕ × HostedConnection S D)) (key : ℕ) (hosted : HostedConnection S D) → new ≡ queue ++ key ∷ []
      → left ≡ (key, hosted) ∷ rest → Seeks guests now queue left → Seeks guests now new rest
  seeks_queued guests now queue new left rest key hosted pushed is before k g there overdue =
      elim (before k g there overdue) [
        | inl queued ↦ inl (subst (λ q. Contains q k) (sym pushed) (Contains-append_left queue (key ∷ []) k queued))
        | inr listed ↦
            elim (Contains-cons_cases (key, hosted) (k, g) rest (subst (λ es. Contains es (k, g)) is listed)) [
              | inl same ↦ inl (subst (λ q. Contains q k) (sym pushed) (subst (λ n. Contains (queue ++ key ∷ []) n) (ap (λ e. e.0) same) (Contains-push queue key)))
              | inr later ↦ inr later
            ]
      ]

  -- one was passed over that meets none
  pub seeks_passed : (guests : Slab (HostedConnection S D)) (now : ℕ) (queue : List ℕ) (left rest : List (ℕ × HostedConnection S D)) (key : ℕ) (hosted : HostedConnection S D)
      → (IsOverdue table (state hosted.session) now → ⊥) → left ≡ (key, hosted) ∷ rest → Seeks guests now queue left → Seeks guests now queue rest
  seeks_passed guests now queue left rest key hosted none is before k g there overdue =
      elim (before k g there overdue) [
        | inl queued ↦ inl queued
        | inr listed ↦
            elim (Contains-cons_cases (key, hosted) (k, g) rest (subst (λ es. Contains es (k, g)) is listed)) [
              | inl same ↦ absurd (none (subst (λ (x : HostedConnection S D). IsOverdue table (state x.session) now) (sym (ap (λ e. e.1) same)) overdue))
              | inr later ↦ inr later
            ]
      ]

  -- all were looked at
  pub seeks_done : (guests : Slab (HostedConnection S D)) (now : ℕ) (queue : List ℕ) (left : List (ℕ × HostedConnection S D)) → left ≡ [] → Seeks guests now queue left
      → HasOverdue table state guests now queue
  seeks_done guests now queue left none seeks key hosted there overdue =
      elim (seeks key hosted there overdue) [
        | inl queued ↦ queued
        | inr listed ↦ absurd (none_in (subst (λ es. Contains es (key, hosted)) none listed))
      ]

  -- This is the first of the deadlines of all that aren't left to be looked at.
  pub record Firsts (guests : Slab (HostedConnection S D)) (first : Option ℕ) (left : List (ℕ × HostedConnection S D)) : Type 0 where
    pub each : (key deadline : ℕ) (hosted : HostedConnection S D) → get guests key ≡ Some hosted → due_of table (state hosted.session) ≡ Some deadline
        → ComesBy deadline first ⊎ Contains left (key, hosted)
    pub is_one : (time : ℕ) → first ≡ Some time → (key : ℕ) × (hosted : HostedConnection S D) × (get guests key ≡ Some hosted) × (due_of table (state hosted.session) ≡ Some time)
    pub there : (key : ℕ) (hosted : HostedConnection S D) → Contains left (key, hosted) → get guests key ≡ Some hosted

  pub firsts_none : (guests : Slab (HostedConnection S D)) (left : List (ℕ × HostedConnection S D)) → left ≡ entries guests → Firsts guests None left
  firsts_none guests left all = record {
    each = λ key deadline hosted at has. inr (subst (λ es. Contains es (key, hosted)) (sym all) ((Contains-entries guests key hosted).1 at));
    is_one = λ time e. absurd (grind (arith, e));
    there = λ key hosted listed. (Contains-entries guests key hosted).0 (subst (λ es. Contains es (key, hosted)) all listed);
  }

  -- one was looked at
  pub firsts_next : (guests : Slab (HostedConnection S D)) (first next : Option ℕ) (left rest : List (ℕ × HostedConnection S D)) (key : ℕ) (hosted : HostedConnection S D) → left ≡ (key, hosted) ∷ rest
      → next ≡ earlier first (due_of table (state hosted.session)) → Firsts guests first left → Firsts guests next rest
  firsts_next guests first next left rest key hosted is next_is before = record {
    each = λ k deadline g at has.
        elim (before.each k deadline g at has) [
          | inl comes ↦ inl (subst (λ t. ComesBy deadline t) (sym next_is) (by_first deadline first (due_of table (state hosted.session)) comes))
          | inr listed ↦
              elim (Contains-cons_cases (key, hosted) (k, g) rest (subst (λ es. Contains es (k, g)) is listed)) [
                | inl same ↦
                    let own : due_of table (state hosted.session) ≡ Some deadline = ap (λ (e : ℕ × HostedConnection S D). due_of table (state e.1.session)) same ∙ has in
                    inl (subst (λ t. ComesBy deadline t) (sym next_is) (by_second deadline first (due_of table (state hosted.session)) (deadline, own, omega arith)))
                | inr later ↦ inr later
              ]
        ];
    is_one = λ time e.
        elim (one_of time first (due_of table (state hosted.session)) (sym next_is ∙ e)) [
          | inl old ↦ before.is_one time old
          | inr own ↦ (key, hosted, before.there key hosted (subst (λ es. Contains es (key, hosted)) (sym is) (Contains-append_left ((key, hosted) ∷ []) rest (key, hosted) (Contains-push [] (key, hosted)))), own)
        ];
    there = λ k g listed. before.there k g (subst (λ es. Contains es (k, g)) (sym is) (Contains-append_right ((key, hosted) ∷ []) rest (k, g) listed));
  }

  -- all were
  pub firsts_all : (guests : Slab (HostedConnection S D)) (first : Option ℕ) (left : List (ℕ × HostedConnection S D)) → left ≡ [] → Firsts guests first left → IsFirst table first (seen state flow guests)
  firsts_all guests first left none firsts = record {
    each = λ key deadline one at has. by (get guests key) key deadline one refl at has;
    is_one = λ time e. let one = firsts.is_one time e in (one.0, served_of state flow one.1, ap (λ o. option_map (served_of state flow) o) one.2, one.3);
  }
    where
      due_in : Option (Served H) → Option ℕ
      due_in None = None
      due_in (Some it) = due_of table it.session

      by : (slot : Option (HostedConnection S D)) (key deadline : ℕ) (one : Served H) → get guests key ≡ slot → option_map (served_of state flow) slot ≡ Some one
          → due_of table one.session ≡ Some deadline → ComesBy deadline first
      by None key deadline one at is has = absurd (grind (arith, is))
      by (Some hosted) key deadline one at is has =
          elim (firsts.each key deadline hosted at (ap (λ o. due_in o) is ∙ has)) [
            | inl comes ↦ comes
            | inr listed ↦ absurd (none_in (subst (λ es. Contains es (key, hosted)) none listed))
          ]
