-- What was written of a recording where a device failed.
use Rattle.std.proofs.Common.{◌≡◌, inl, inr, ℕ, List, [], Option, refl, sym, ◌∙◌, append-nil}
use Rattle.std.proofs.KnownBytes.{Appends-nil}
use Rattle.cp_stream.specs.declared.tap.Tap.{Tap}
use Rattle.cp_stream.specs.Tap.{inner_of}
use Rattle.cp_stream.specs.Write.{Breaks}
use Rattle.cp_recordings.specs.declared.side.Side.{Side}
use Rattle.cp_recordings.specs.declared.side.Side.TheVariants as sides
use Rattle.cp_recordings.specs.declared.recorder.Recorder.{Recorder}
use Rattle.cp_recordings.specs.declared.recorder.RecordFault.{RecordFault}
use Rattle.cp_recordings.specs.Recorder.{track_of, opposite, IsDevice, Sends, SendsUpTo, Stops}

-- a line of the times changes no stream
pub track_kept : {W : Type 0} (r : Recorder W) (t : Tap W) (side : Side) → track_of (record r { times = t }) side ≡ track_of r side
track_kept r t sides.Client = refl
track_kept r t sides.Server = refl

module _ {W : Type 0} (contents : W → Option (List ℕ)) (old : Recorder W) (side : Side) (frames : List ℕ) (left rest : ℕ) (fault : RecordFault) (device : IsDevice fault) where
  -- a stream's device failed
  pub stops_sending : (new : Recorder W) → SendsUpTo contents old new side frames → Stops contents old new side frames left rest fault
  stops_sending new h = rw device.1 (record {
    sent = h.sent;
    unsent = h.unsent;
    noted = [];
    splits = h.splits;
    records = record { grows = h.sends.grows; other = h.sends.other; times = rw h.sends.times (Appends-nil (contents (inner_of old.times))) };
    ordered = inr refl;
  })

  -- that of the times failed, after all frames
  pub stops_noting : (mid : Recorder W) (t : Tap W) (line : List ℕ) → Sends contents old mid side frames → Breaks contents mid.times t line → Stops contents old (record mid { times = t }) side frames left rest fault
  stops_noting mid t line h broken = rw device.1 (record {
    sent = frames;
    unsent = [];
    noted = broken.sent;
    splits = sym (append-nil frames);
    records = record {
      grows = rw (track_kept mid t side) h.grows;
      other = track_kept mid t (opposite side) ∙ h.other;
      times = rw (← h.times) broken.passes.appends;
    };
    ordered = inl refl;
  })
