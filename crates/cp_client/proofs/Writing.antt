-- How many bytes wait to be written once some were.
use Rattle.std.proofs.Common.{◌≡◌, ◌∙◌, ◌<◌, ℕ, ap, length, arith}
use Rattle.std.proofs.lemmas.List.{length-drop}
use Rattle.cp_connection.specs.Link.{Link}
use Rattle.cp_objects.specs.ObjectTable.{ObjectTableKind}
use Rattle.cp_session.proofs.Living.{settles_link}
use Rattle.cp_session.specs.State.{State, link_of}
use Rattle.cp_client.specs.Conversation.{Conversation}
use Rattle.cp_client.specs.Writing.{WritesSome}

-- fewer bytes wait
pub fewer_unwritten : {H : Type 0} {table : ObjectTableKind H} (old new : Conversation H) (count : ℕ) → 0 < count → 0 < length (link_of old.session).unwritten → WritesSome table old count new
    → length (link_of new.session).unwritten < length (link_of old.session).unwritten
fewer_unwritten {H = H} old new count some waits wrote =
    let h = wrote.writes in
    let link : link_of new.session ≡ h.link = settles_link h.settles ∙ ap (λ (s : State H). link_of s) h.moves in
    let left = ap (λ (l : Link). length l.unwritten) (link ∙ h.wrote) in
    omega (arith, some, waits, left, length-drop count (link_of old.session).unwritten)
