-- How a connection is stored.
use Rattle.std.specs.Prelude.{◌≡◌, refl, ℕ, List, Option, Some, None}
use Rattle.std.specs.Coded.{Coded, code_by, coded×, coded_ℕ, coded_list, coded_option}
use Rattle.cp_words.specs.Limits.{Bounds}
use Rattle.cp_frame.specs.Reader as frames
use Rattle.cp_frame.specs.declared.fault.FrameFault.{FrameFault}
use Rattle.cp_frame.specs.contracts.fault.FrameFault as frame_fault
use Rattle.cp_frame.specs.declared.mode.Mode.{Mode}
use Rattle.cp_frame.specs.contracts.mode.Mode as mode
use Rattle.cp_vat_machine.specs.State.{State}
use Rattle.cp_vat.specs.StateCode.{state_code}
use Rattle.cp_tail_calls.specs.Tails.{Tails}
use Rattle.cp_tail_calls.specs.TailsCode.{tails_code}
use Rattle.cp_connection.specs.declared.fault.ConnectionFault.{ConnectionFault}
use Rattle.cp_connection.specs.contracts.fault.ConnectionFault as fault
use Rattle.cp_connection.specs.declared.event.ConnectionEvent.{ConnectionEvent}
use Rattle.cp_connection.specs.contracts.event.ConnectionEvent as event
use Rattle.cp_connection.specs.declared.event.ConnectionStats.{ConnectionStats}
use Rattle.cp_connection.specs.contracts.event.ConnectionStats as stats
use Rattle.cp_connection.specs.Link.{Link}

abbrev pub bounds_code : Coded Bounds
bounds_code =
    code_by
    (ℕ × (ℕ × (ℕ × ℕ)))
    (coded× coded_ℕ (coded× coded_ℕ (coded× coded_ℕ coded_ℕ)))
    (λ b. (b.nesting, (b.traversal, (b.segments, b.frame_words))))
    (λ parts. record { nesting = parts.0; traversal = parts.1.0; segments = parts.1.1.0; frame_words = parts.1.1.1 })
    (λ _. refl)

-- how frames are read: the fault that is kept, or what came, or neither where they failed
abbrev pub Kept : Type 0
Kept = Option FrameFault × Option (List ℕ × ℕ)

abbrev pub kept_of : frames.State → Kept
kept_of frames.failed = (None, None)
kept_of (frames.refusing fault) = (Some fault, None)
kept_of (frames.reading rest taken) = (None, Some (rest, taken))

abbrev pub reading_of : Option FrameFault → Option (List ℕ × ℕ) → frames.State
reading_of (Some fault) came = frames.refusing fault
reading_of None (Some came) = frames.reading came.0 came.1
reading_of None None = frames.failed

abbrev pub read_again : (s : frames.State) → reading_of (kept_of s).0 (kept_of s).1 ≡ s
read_again frames.failed = refl
read_again (frames.refusing fault) = refl
read_again (frames.reading rest taken) = refl

abbrev pub reading_code : Coded frames.State
reading_code =
    code_by Kept (coded× (coded_option frame_fault.the_row.coded) (coded_option (coded× (coded_list coded_ℕ) coded_ℕ))) kept_of (λ k. reading_of k.0 k.1) read_again

-- a connection is stored as its parts
abbrev pub link_code : Coded Link
link_code =
    code_by
    (Mode × (Bounds × (frames.State × (State × (Option Tails × (List ℕ × (List ConnectionEvent × (ConnectionStats × Option ConnectionFault))))))))
    (coded× mode.the_row.coded (coded× bounds_code (coded× reading_code (coded× state_code (coded× (coded_option tails_code) (coded× (coded_list coded_ℕ) (coded× (coded_list event.the_row.coded) (coded× stats.the_row.coded (coded_option fault.the_row.coded)))))))))
    (λ l. (l.mode, (l.limits, (l.reading, (l.vat, (l.tails, (l.unwritten, (l.happened, (l.stats, l.fault)))))))))
    (λ parts. record {
      mode = parts.0;
      limits = parts.1.0;
      reading = parts.1.1.0;
      vat = parts.1.1.1.0;
      tails = parts.1.1.1.1.0;
      unwritten = parts.1.1.1.1.1.0;
      happened = parts.1.1.1.1.1.1.0;
      stats = parts.1.1.1.1.1.1.1.0;
      fault = parts.1.1.1.1.1.1.1.1;
    })
    (λ _. refl)
