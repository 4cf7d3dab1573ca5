-- Groups of the packed form taken at once. No public clause names these.
use Rattle.std.specs.Prelude.{◌≡◌, ◌⊎◌, ℕ, ◌+◌, ◌<◌, ◌≤◌, List, [], ◌++◌, length}
use Rattle.cp_words.specs.Limits.{Bounds}
use Rattle.cp_frame.specs.declared.fault.FrameFault.{FrameFault}
use Rattle.cp_frame.specs.declared.fault.FrameFault.TheVariants as faults
use Rattle.cp_frame.specs.declared.frame.OpenFrame.{OpenFrame}
use Rattle.cp_frame.specs.declared.rest.Rest.{Rest}
use Rattle.cp_packed.specs.Words.{AreWords, bytes_of}
use Rattle.cp_frame.specs.Parts.{InSegments, IsComplete, rest_of}
use Rattle.cp_words.specs.Segments.{words_of}
use Rattle.cp_packed.specs.Unpacking.{Pending, nothing, after, given, pending_of}
use Rattle.cp_frame.specs.Rest.{IsBlank}
use Rattle.cp_packed.specs.Groups.{running}

-- why words aren't taken, which would be this many: memory ran out, or there are more than there may be
abbrev pub IsFullFor : ℕ → ℕ → FrameFault → Type 0
IsFullFor limit count fault = (fault ≡ faults.OutOfMemory) ⊎ ((fault ≡ faults.FrameTooLarge) × (limit < count))

-- Whatever is open of a group: a front of the bytes was taken, with the words that it brings, and there are no more than there may be.
pub record TakesWithin (limit : ℕ) (old : List ℕ) (p : Pending) (left new : List ℕ) (q : Pending) (back : List ℕ) : Type 0 where
  pub front : List ℕ
  pub whole : left ≡ front ++ back
  pub puts : new ≡ old ++ given p front
  pub open_then : after p front ≡ q
  pub within : length new ≤ limit

-- The same, into the segments of a frame: it is still open, or it is whole and no run goes on.
pub record TakesPart (limits : Bounds) (old : OpenFrame) (run : ℕ) (left : List ℕ) (new : OpenFrame) (next : ℕ) (back : List ℕ) : Type 0 where
  pub front : List ℕ
  pub whole : left ≡ front ++ back
  pub are_words : AreWords (given (running run) front)
  pub words : rest_of new ≡ rest_of old ++ bytes_of (given (running run) front)
  pub open_then : after (running run) front ≡ running next
  pub no_part : new.part.items ≡ []
  pub goes_on : InSegments limits new ⊎ (IsComplete limits new × (next ≡ 0))

-- Packed bytes were taken, with the words that they bring.
pub record TakesBytes (limits : Bounds) (old : Rest) (xs : List ℕ) (new : Rest) : Type 0 where
  pub no_part : new.frame.part.items ≡ []
  pub are_words : AreWords (given (pending_of old.group) xs)
  pub words : rest_of new.frame ≡ rest_of old.frame ++ bytes_of (given (pending_of old.group) xs)
  pub group : pending_of new.group ≡ after (pending_of old.group) xs
  pub taken : new.taken ≡ old.taken + length xs

-- a front of the bytes was taken
abbrev pub TakesFront : Bounds → Rest → List ℕ → Rest → List ℕ → Type 0
TakesFront limits old left new back = (front : List ℕ) × (left ≡ front ++ back) × TakesBytes limits old front new

-- The frame was whole and is given, with the number of its bytes. Nothing is left of it.
pub record GivesWhole (limits : Bounds) (old : Rest) (taken : ℕ) (S : List (List ℕ)) (new : Rest) : Type 0 where
  pub complete : IsComplete limits old.frame
  pub no_group : pending_of old.group ≡ nothing
  pub count : taken ≡ old.taken
  pub segments : S ≡ words_of old.frame.segments.items
  pub blank : IsBlank new
