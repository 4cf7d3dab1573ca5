-- A connection, as its users see it.
use Rattle.std.specs.Prelude.{ℕ, List, [], Option, Some, None}
use Rattle.cp_words.specs.Limits.{Bounds}
use Rattle.cp_frame.specs.declared.mode.Mode.{Mode}
use Rattle.cp_frame.specs.Reader as frames
use Rattle.cp_vat_machine.specs.State.{State, new_state}
use Rattle.cp_tail_calls.specs.Tails.{Tails, none}
use Rattle.cp_connection.specs.declared.fault.ConnectionFault.{ConnectionFault}
use Rattle.cp_connection.specs.declared.event.ConnectionEvent.{ConnectionEvent}
use Rattle.cp_connection.specs.declared.event.ConnectionStats.{ConnectionStats}

-- The form and the limits of its frames, how they are read, its vat, the tail calls before that, if they are served, the bytes that weren't written, what
-- happened and wasn't taken, what was counted, and why it ended.
pub record Link : Type 0 where
  pub mode : Mode
  pub limits : Bounds
  pub reading : frames.State
  pub vat : State
  pub tails : Option Tails
  pub unwritten : List ℕ
  pub happened : List ConnectionEvent
  pub stats : ConnectionStats
  pub fault : Option ConnectionFault

-- these bytes of the open frame came
abbrev pub HasCome : Link → List ℕ → Type 0
HasCome link rest = frames.IsReading link.reading × frames.Stands link.mode link.limits link.reading rest

-- A connection to which nothing came, whose peer gets this object for a Bootstrap. It serves no tail calls.
abbrev pub new_link : Mode → Bounds → Option ℕ → Link
new_link mode limits bootstrap = record {
  mode = mode;
  limits = limits;
  reading = frames.reading [] 0;
  vat = new_state bootstrap;
  tails = None;
  unwritten = [];
  happened = [];
  stats = record { bytes = 0; messages = 0; sent = 0 };
  fault = None;
}

-- the same, which serves tail calls
abbrev pub new_link_with_tails : Mode → Bounds → Option ℕ → Link
new_link_with_tails mode limits bootstrap = record (new_link mode limits bootstrap) { tails = Some none }
