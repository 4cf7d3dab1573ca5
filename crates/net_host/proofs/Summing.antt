-- Numbers that are added up over connections.
use Rattle.std.proofs.Common.{◌≡◌, ◌≤◌, ◌∙◌, ℕ, List, [], ◌∷◌, sym, ap, subst, arith}
use Rattle.std.specs.Prelude.{◌+◌, ◌-◌, ◌^◌, min}
use Rattle.std.specs.List.{sum_by}
use Rattle.std.proofs.lemmas.List.Sums.{sum_by-cons}
use Rattle.slab.specs.Slab.{Slab, entries, slab_len}
use Rattle.cp_connection.specs.declared.event.ConnectionStats.{ConnectionStats}
use Rattle.cp_objects.specs.ObjectTable.{ObjectTableKind}
use Rattle.cp_refs.specs.Memory.{counted}
use Rattle.cp_session.specs.State.{State}
use Rattle.net_host.specs.declared.figures.HostFigures.{HostFigures}
use Rattle.net_host.specs.declared.hosted_connection.HostedConnection.{HostedConnection}
use Rattle.net_host.specs.Figures.{SumsUp, kept_at, stats_at, with_one}

module _ {X : Type 0} (f : X → ℕ) where
  -- so much was added up of all, and these are left
  pub record IsPart (all left : List X) (n : ℕ) : Type 0 where
    pub sum : min (n + sum_by f left) (2 ^ 64 - 1) ≡ min (sum_by f all) (2 ^ 64 - 1)
    pub few : n ≤ 2 ^ 64 - 1

  pub part_none : (all left : List X) → left ≡ all → IsPart all left 0
  part_none all left e = let same = ap (sum_by f) e in record { sum = omega (arith, same); few = omega arith }

  pub part_next : (all left rest : List X) (x : X) (n one : ℕ) → left ≡ x ∷ rest → one ≡ f x → IsPart all left n → IsPart all rest (counted (n + one))
  part_next all left rest x n one is own part =
      let size : sum_by f left ≡ f x + sum_by f rest = ap (sum_by f) is ∙ sum_by-cons f x rest in
      record { sum = omega (arith, size, own, part.sum); few = omega arith }

  pub part_all : (all left : List X) (n : ℕ) → left ≡ [] → IsPart all left n → n ≡ counted (sum_by f all)
  part_all all left n none part = let size : sum_by f left ≡ 0 = ap (sum_by f) none in omega (arith, size, part.sum, part.few)

module _ {S D H : Type 0} (table : ObjectTableKind H) (state : S → State H) where
  -- these numbers were added up of the connections that a slab has, and these are left
  pub record AddsUp (guests : Slab (HostedConnection S D)) (left : List (ℕ × HostedConnection S D)) (it : HostFigures) : Type 0 where
    pub served : it.served ≡ slab_len guests
    pub kept : IsPart (kept_at table state) (entries guests) left it.kept
    pub messages : IsPart (λ entry. (stats_at state entry).messages) (entries guests) left it.messages
    pub bytes : IsPart (λ entry. (stats_at state entry).bytes) (entries guests) left it.bytes
    pub sent : IsPart (λ entry. (stats_at state entry).sent) (entries guests) left it.sent

  pub adds_none : (guests : Slab (HostedConnection S D)) (left : List (ℕ × HostedConnection S D)) (served : ℕ) → served ≡ slab_len guests → left ≡ entries guests
      → AddsUp guests left (record { served = served; kept = 0; messages = 0; bytes = 0; sent = 0 })
  adds_none guests left served len all = record {
    served = len;
    kept = part_none (kept_at table state) (entries guests) left all;
    messages = part_none (λ entry. (stats_at state entry).messages) (entries guests) left all;
    bytes = part_none (λ entry. (stats_at state entry).bytes) (entries guests) left all;
    sent = part_none (λ entry. (stats_at state entry).sent) (entries guests) left all;
  }

  -- one more is counted
  pub adds_next : (guests : Slab (HostedConnection S D)) (left rest : List (ℕ × HostedConnection S D)) (one : ℕ × HostedConnection S D) (old next : HostFigures) (kept : ℕ) (stats : ConnectionStats)
      → left ≡ one ∷ rest → kept ≡ kept_at table state one → stats ≡ stats_at state one → next ≡ with_one old kept stats → AddsUp guests left old → AddsUp guests rest next
  adds_next guests left rest one old next kept stats is own did counts before = subst (λ it. AddsUp guests rest it) (sym counts) (record {
    served = before.served;
    kept = part_next (kept_at table state) (entries guests) left rest one old.kept kept is own before.kept;
    messages = part_next (λ entry. (stats_at state entry).messages) (entries guests) left rest one old.messages stats.messages is (ap (λ s. s.messages) did) before.messages;
    bytes = part_next (λ entry. (stats_at state entry).bytes) (entries guests) left rest one old.bytes stats.bytes is (ap (λ s. s.bytes) did) before.bytes;
    sent = part_next (λ entry. (stats_at state entry).sent) (entries guests) left rest one old.sent stats.sent is (ap (λ s. s.sent) did) before.sent;
  })

  -- all are counted
  pub adds_all : (guests : Slab (HostedConnection S D)) (left : List (ℕ × HostedConnection S D)) (it : HostFigures) → left ≡ [] → AddsUp guests left it → SumsUp table state guests it
  adds_all guests left it none sums = record {
    served = sums.served;
    kept = part_all (kept_at table state) (entries guests) left it.kept none sums.kept;
    messages = part_all (λ entry. (stats_at state entry).messages) (entries guests) left it.messages none sums.messages;
    bytes = part_all (λ entry. (stats_at state entry).bytes) (entries guests) left it.bytes none sums.bytes;
    sent = part_all (λ entry. (stats_at state entry).sent) (entries guests) left it.sent none sums.sent;
  }
