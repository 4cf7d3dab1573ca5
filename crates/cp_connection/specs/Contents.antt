-- How much memory contents take that a connection keeps.
use Rattle.std.specs.Prelude.{ℕ, ◌+◌, List, Option, Some, None}
use Rattle.std.specs.List.{sum_by}
use Rattle.cp_refs.specs.Memory.{counted, outcome_memory, request_memory}
use Rattle.cp_tail_calls.specs.Tails.{Tails}
use Rattle.cp_tail_calls.specs.Results.{returns_memory}
use Rattle.cp_vat.specs.Kept.{contents_of}
use Rattle.cp_connection.specs.declared.event.ConnectionEvent.{ConnectionEvent}
use Rattle.cp_connection.specs.declared.event.ConnectionEvent.TheVariants as happenings
use Rattle.cp_connection.specs.Link.{Link}

-- the results of tail calls that no question took yet, where tail calls are served
abbrev pub tails_memory : Option Tails → ℕ
tails_memory None = 0
tails_memory (Some tails) = returns_memory tails.results

-- the bytes of memory that contents take which its vat and tail calls keep
abbrev pub kept_contents : Link → ℕ
kept_contents link = counted (contents_of link.vat + tails_memory link.tails)

-- the bytes of memory that the content of one event takes, and those of several
abbrev pub happening_memory : ConnectionEvent → ℕ
happening_memory (happenings.Delivered object origin ticket call) = request_memory call
happening_memory (happenings.Settled question outcome) = outcome_memory outcome
happening_memory (happenings.Closed reason) = 0

abbrev pub event_memory : List ConnectionEvent → ℕ
event_memory happened = sum_by happening_memory happened
