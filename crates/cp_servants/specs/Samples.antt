-- What the samples answer to calls and to polls.
use Rattle.std.specs.Prelude.{◌≡◌, ℕ, ◌+◌, ◌-◌, ◌%◌, ◌^◌, Bool, true, false, ◌&&◌, ◌==◌, if◌then◌else◌, List, [], ◌∷◌, ◌++◌, Option, Some, None, map}
use Rattle.cp_fields.specs.Numbers.{plain}
use Rattle.cp_tree.specs.Node.{Node, cap, struct, node, no_nodes}
use Rattle.cp_refs.specs.declared.cap.Cap.TheVariants as caps
use Rattle.cp_refs.specs.declared.call.Request.{Request}
use Rattle.cp_refs.specs.declared.outcome.Outcome.{Outcome}
use Rattle.cp_refs.specs.declared.outcome.Outcome.TheVariants as outcomes
use Rattle.cp_servants.specs.declared.servant.Reply.{Reply}
use Rattle.cp_servants.specs.declared.servant.Reply.TheVariants as replies
use Rattle.cp_servants.specs.declared.servant.Settled.{Settled}
use Rattle.cp_servants.specs.Outcomes.{no_such_method, named_imports}
use Rattle.cp_servants.specs.Servant.{Kind}
use Rattle.cp_servants.specs.declared.desk.Due.{Due}

-- A sample as it is seen: a Desk by the calls that it answers later, the oldest first; a Cell by its number; a Script by what it still answers to calls and
-- to polls, in order.
pub data Seen : Type 0 where
  desk : List Due → Seen
  cell : ℕ → Seen
  script : List Reply → List (Option Settled) → Seen

-- results of one data word
abbrev pub word_results : ℕ → Outcome
word_results word = outcomes.Results (struct (word ∷ []) no_nodes) []

-- results of one pointer, to this object
abbrev pub object_results : ℕ → Outcome
object_results k = outcomes.Results (struct [] (node (cap 0) no_nodes)) (caps.Object k ∷ [])

-- the call is one of this method of this interface
abbrev pub is_call_of : Request → ℕ → ℕ → Bool
is_call_of request interface method = request.interface == interface && request.method == method

-- The Desk gives out object 1: by method 0 at once, by method 1 later.
abbrev pub desk_takes : List Due → ℕ → Request → Reply × List Due
desk_takes due ticket request =
    let imports = named_imports request.caps in
    if is_call_of request 0xe5a1000000000001 0 then (replies.Now (object_results 1) imports, due)
    else (if is_call_of request 0xe5a1000000000001 1 then (replies.Later, due ++ record { ticket = ticket; polls = 2; imports = imports } ∷ [])
    else (replies.Now no_such_method imports, due))

-- one poll less goes by before a call's turn
abbrev pub polled : Due → Due
polled due = record due { polls = due.polls - 1 }

-- the oldest call whose turn has come, and the others
abbrev pub take_due : List Due → Option Due × List Due
take_due [] = (None, [])
take_due (due ∷ more) = if due.polls == 0 then (Some due, more) else ((take_due more).0, due ∷ (take_due more).1)

-- what the Desk settles a call with
abbrev pub desk_settles : Option Due → Option Settled
desk_settles None = None
desk_settles (Some due) = Some (record { ticket = due.ticket; outcome = object_results 1; gives_up = due.imports })

-- The Cell's number, with the first data word of the params added to it by method 0.
abbrev pub first_word : Node → ℕ
first_word content = plain content 64 0

-- what a call of a method comes to whose params begin with this word, and the Cell's number then
abbrev pub cell_gives : ℕ → ℕ → ℕ → ℕ → Outcome × ℕ
cell_gives n interface method amount =
    let sum = (n + amount) % 2 ^ 64 in
    if interface == 0xe5a1000000000002 && method == 0 then (word_results sum, sum)
    else (if interface == 0xe5a1000000000002 && method == 1 then (word_results n, n)
    else (no_such_method, n))

abbrev pub cell_takes : ℕ → Request → Reply × ℕ
cell_takes n request =
    let given = cell_gives n request.interface request.method (first_word request.content) in (replies.Now given.0 (named_imports request.caps), given.1)

-- what a sample answers to a call under a ticket, and what it is then
abbrev pub Takes : Seen → ℕ → Request → Reply → Seen → Type 0
Takes (desk due) ticket request reply new = let taken = desk_takes due ticket request in (reply ≡ taken.0) × (new ≡ desk taken.1)
Takes (cell n) ticket request reply new = let taken = cell_takes n request in (reply ≡ taken.0) × (new ≡ cell taken.1)
Takes (script [] settled) ticket request reply new = (reply ≡ replies.Later) × (new ≡ script [] settled)
Takes (script (first ∷ more) settled) ticket request reply new = (reply ≡ first) × (new ≡ script more settled)

-- what it answers to a poll, likewise
abbrev pub Polls : Seen → Option Settled → Seen → Type 0
Polls (desk due) settled new = let taken = take_due (map polled due) in (settled ≡ desk_settles taken.0) × (new ≡ desk taken.1)
Polls (cell n) settled new = (settled ≡ None) × (new ≡ cell n)
Polls (script replies []) settled new = (settled ≡ None) × (new ≡ script replies [])
Polls (script replies (first ∷ more)) settled new = (settled ≡ first) × (new ≡ script replies more)

-- A further poll may give more, though nothing more comes: at a Desk where a call waits, and of a Script whose answers aren't over.
abbrev pub may_go_on : Seen → Bool
may_go_on (desk []) = false
may_go_on (desk (due ∷ more)) = true
may_go_on (cell n) = false
may_go_on (script replies []) = false
may_go_on (script replies (first ∷ more)) = true

-- the kind of samples, which make no calls and are told of none
abbrev pub samples : Kind Seen
samples = record {
  takes = Takes;
  polls = Polls;
  next_calls = λ old next_call new. ⊥;
  on_response = λ old call_id outcome new. ⊥;
  says_more = λ more sample. more ≡ may_go_on sample;
}
