-- A connection that ends as memory ran out keeps its number and peer, and what its objects say then is handed out.
use Rattle.std.proofs.Common.{◌≡◌, ◌∙◌, ℕ, List, None, Result, Ok, Err, OnOk, OnErr, inl, inr, ap}
use Rattle.cp_objects.specs.declared.letters.Letter.{Letter}
use Rattle.cp_objects.specs.ObjectTable.{ObjectTableKind}
use Rattle.net_host.specs.declared.end.End.{End}
use Rattle.net_host.specs.HostedConnections.{Adds, HandsOver, HandsSome, HandsUp, IsShort, LeavesAdding, LeavesShort, Served, Shuts}

module _ {H : Type 0} {table : ObjectTableKind H} where
  handed : (a b : Served H) (sent : List Letter) → HandsUp table a sent b → b ≡ record a { session = b.session }
  handed a b sent (inl all) = all.1
  handed a b sent (inr some) = some.1

  pub left_number : (now : ℕ) (a b : Served H) (sent : List Letter) (end : End) → LeavesShort table now a sent end b → b.number ≡ a.number
  left_number now a b sent end h = ap (λ (x : Served H). x.number) h.5 ∙ ap (λ (x : Served H). x.number) (handed h.0 h.1 sent h.3) ∙ ap (λ (x : Served H). x.number) h.2.1

  pub left_peer : (now : ℕ) (a b : Served H) (sent : List Letter) (end : End) → LeavesShort table now a sent end b → b.peer ≡ a.peer
  left_peer now a b sent end h = ap (λ (x : Served H). x.peer) h.5 ∙ ap (λ (x : Served H). x.peer) (handed h.0 h.1 sent h.3) ∙ ap (λ (x : Served H). x.peer) h.2.1

  -- all letters are handed out, or some
  pub handed_up : {T E : Type 0} (a b : Served H) (before after : List Letter) (r : Result T E) → OnOk r (Adds before (λ sent. HandsOver table a sent b) after)
      → OnErr r (Adds before (λ sent. HandsSome table a sent b) after) → Adds before (λ sent. HandsUp table a sent b) after
  handed_up a b before after (Ok x) all some = (all.0, all.1, inl all.2)
  handed_up a b before after (Err e) all some = (some.0, some.1, inr some.2)

  pub left_short : (now : ℕ) (before after : List Letter) (old closed last new : Served H) (end : End) → Shuts table now old closed → Adds before (λ sent. HandsUp table closed sent last) after
      → IsShort last end → new ≡ record last { end = None } → LeavesAdding table now old before end new after
  left_short now before after old closed last new end shuts up short is = (up.0, up.1, (closed, last, shuts, up.2, short, is))
