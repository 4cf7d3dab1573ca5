-- Each connection is reported once.
use Rattle.std.specs.Prelude.{◌≡◌, ℕ, ◌+◌, ◌≤◌, ◌==◌, if◌then◌else◌, List, [], ◌∷◌, Option, Some, None}
use Rattle.cp_objects.specs.ObjectTable.{ObjectTableKind}
use Rattle.net_host.specs.declared.end.Ended.{Ended}
use Rattle.net_host.specs.declared.host.HostEvent.{HostEvent}
use Rattle.net_host.specs.declared.host.HostEvent.TheVariants as all_news
use Rattle.net_host.specs.Floor.{Begins, Floor, Reports}
use Rattle.net_host.specs.HostedConnections.{Served}

-- how many of these ends are those of a connection of this number
abbrev pub ends_of : ℕ → List Ended → ℕ
ends_of number [] = 0
ends_of number (ended ∷ more) = (if ended.number == number then 1 else 0) + ends_of number more

module _ {H : Type 0} where
  -- a connection is there, and has this number
  pub record Has (slot : Option (Served H)) (number : ℕ) : Type 0 where
    pub one : Served H
    pub there : slot ≡ Some one
    pub named : one.number ≡ number

  -- one connection at most has this number: it is served under one key, or it ended and there was no news of that
  pub record IsOnce (floor : Floor H) (number : ℕ) : Type 0 where
    pub one_key : (key other : ℕ) → Has (floor.served key) number → Has (floor.served other) number → key ≡ other
    pub unended : (key : ℕ) → Has (floor.served key) number → ends_of number floor.ended ≡ 0
    pub one_end : ends_of number floor.ended ≤ 1

  -- no connection has this number
  pub record IsGone (floor : Floor H) (number : ℕ) : Type 0 where
    pub unserved : (key : ℕ) → Has (floor.served key) number → ⊥
    pub unended : ends_of number floor.ended ≡ 0

  -- if this is news of the end of the connection of this number, it is gone
  abbrev pub IsGoneBy : Option HostEvent → ℕ → Floor H → Type 0
  IsGoneBy (Some (all_news.Ended named peer end stats)) number floor = named ≡ number → IsGone floor number
  IsGoneBy other number floor = Unit {0}

module _ {H : Type 0} (table : ObjectTableKind H) where
  -- Whatever turns and news there are: of each number there is one connection at most, if there was; none has a number that none had; and once the end of one was
  -- reported none has its number.
  pub record ReportsOnce : Type 0 where
    pub once : (old new : Floor H) (news : Option HostEvent) (number : ℕ) → Reports table old news new → IsOnce old number → IsOnce new number
    pub gone : (old new : Floor H) (news : Option HostEvent) (number : ℕ) → Reports table old news new → IsGone old number → IsGone new number
    pub reported : (old new : Floor H) (news : Option HostEvent) (number : ℕ) → Reports table old news new → IsOnce old number → IsGoneBy news number new

  -- a connection that begins is the only one of its number, if none had it
  abbrev pub BeginsOnce : Type 0
  BeginsOnce = (old new : Floor H) (one : Served H) → Begins table old one new → IsGone old one.number → IsOnce new one.number

-- the stream of a connection, if there is one, didn't fail
abbrev pub IsUnfailed : {H : Type 0} → Option (Served H) → Type 0
IsUnfailed None = Unit {0}
IsUnfailed (Some one) = one.failure ≡ None

-- no connection is served whose stream failed
abbrev pub NoneFailed : {H : Type 0} → Floor H → Type 0
NoneFailed floor = (key : ℕ) → IsUnfailed (floor.served key)

module _ {H : Type 0} (table : ObjectTableKind H) where
  -- Whatever turns and news there are, it stays so that no connection is served whose stream failed: where one fails, it ends by that turn.
  abbrev pub StaysUnfailed : Type 0
  StaysUnfailed = (old new : Floor H) (news : Option HostEvent) → Reports table old news new → NoneFailed old → NoneFailed new

  -- it stays so where one begins whose stream didn't fail
  abbrev pub BeginsUnfailed : Type 0
  BeginsUnfailed = (old new : Floor H) (one : Served H) → Begins table old one new → one.failure ≡ None → NoneFailed old → NoneFailed new
