-- Bytes that go out call by call.
use Rattle.std.proofs.Common.{◌≡◌, inl, inr, ⊎_elim, ℕ, zero, suc, ◌+◌, ◌-◌, ◌%◌, ◌^◌, ◌<◌, ◌≤◌, List, [], ◌∷◌, ◌++◌, All, Option, Ok, length, take, drop, refl, sym, ◌∙◌, ap, length-append, length-take, length-drop, append_assoc, take_all, take-append-drop, arith}
use Rattle.std.specs.Prelude.{sum, map}
use Rattle.std.proofs.Math.Nat.{mod-add-mod, mod-mod}
use Rattle.std.proofs.lemmas.Bool.{cases_lt}
use Rattle.std.proofs.lemmas.List.Elements.{All-head, All-tail}
use Rattle.std.specs.List.{AllByRecursion}
use Rattle.std.specs.Io.KnownBytes.{Appends}
use Rattle.std.proofs.KnownBytes.{Appends-nil, Appends-trans}
use Rattle.cp_words.specs.Limits.{Bounds, IsAllowed}
use Rattle.cp_tree.specs.Shaped.{Shaped, AllFit}
use Rattle.cp_writing.specs.Writes.{IsWriteFaultOf}
use Rattle.cp_tree.specs.declared.fault.WriteFault.{WriteFault}
use Rattle.cp_tree.specs.declared.fault.WriteFault.TheVariants as writes
use Rattle.cp_writing.proofs.LayoutWords.{layout_alone, layout_several}
use Rattle.cp_stream.proofs.ReadBack.{laid_root}
use Rattle.cp_frame.specs.declared.mode.Mode.{Mode}
use Rattle.cp_frame.specs.declared.mode.Mode.TheVariants as modes
use Rattle.cp_packed.specs.Words.{AreWords}
use Rattle.cp_frame.specs.Frame.{IsRefusedFor}
use Rattle.cp_frame.specs.Runs.{IsReadBack}
use Rattle.cp_frame.specs.declared.fault.FrameFault.{FrameFault}
use Rattle.cp_frame.specs.declared.fault.FrameFault.TheVariants as frames
use Rattle.cp_frame.proofs.Whole.{read_back_plain}
use Rattle.cp_frame.proofs.Rests.{read_back_packed}
use Rattle.cp_messages.specs.Written.{message_written}
use Rattle.cp_messages.specs.declared.message.Message.{Message}
use Rattle.cp_stream.specs.Stream.{IsFrameOf}
use Rattle.cp_stream.specs.declared.fault.Refusal.{Refusal}
use Rattle.cp_stream.specs.declared.fault.Refusal.TheVariants as refusals
use Rattle.cp_stream.specs.declared.fault.StreamFault.{StreamFault}
use Rattle.cp_stream.specs.declared.fault.StreamFault.TheVariants as faults
use Rattle.cp_stream.specs.declared.tap.Tap.{Tap}
use Rattle.cp_stream.specs.Tap.{inner_of, bytes_of, Moves, CountsWrite}
use Rattle.cp_stream.specs.Write.{IsLaidOutAs, IsWrittenAs, IsUnwrittenFor, IsSent, IsCutShort}
use Rattle.cp_stream.specs.Kept.{WritesOn}

module _ {T : Type 0} (contents : T → Option (List ℕ)) where
  -- no byte went out yet
  pub writes_on : (old : Tap T) (b : List ℕ) → WritesOn contents old old b b
  writes_on old b = record {
    sent = [];
    splits = refl;
    sends = (record { appends = Appends-nil (contents (inner_of old)); counts = ap (λ n. n % 2 ^ 64) (omega arith) }, refl);
  }

  -- a write that took some bytes moved them
  moves_some : (old new : Tap T) (count : ℕ) → 0 < count → CountsWrite {E = Unit {0}} old new (Ok count) → Moves old new count
  moves_some old new zero some h = absurd (omega (arith, some))
  moves_some old new (suc n) some h = h

  -- this many of the bytes that were left went out
  pub writes_more : (old mid new : Tap T) (b left : List ℕ) (count : ℕ) → WritesOn contents old mid b left → count ≤ length left
      → Appends (contents (inner_of mid)) (contents (inner_of new)) (take count left) → 0 < count → CountsWrite {E = Unit {0}} mid new (Ok count) → WritesOn contents old new b (take (length left - count) (drop count left))
  writes_more old mid new b left count h bound more some counted =
      let moves = moves_some mid new count some counted in
      let taken = h.sent ++ take count left in
      let size : length taken ≡ length h.sent + count = omega (arith, length-append h.sent (take count left), length-take count left, bound) in
      let first : (bytes_of mid + count) % 2 ^ 64 ≡ (bytes_of mid % 2 ^ 64 + count) % 2 ^ 64 = sym (mod-add-mod (bytes_of mid) (2 ^ 64) count) in
      let second : (bytes_of mid % 2 ^ 64 + count) % 2 ^ 64 ≡ ((bytes_of old + length h.sent) % 2 ^ 64 + count) % 2 ^ 64 = ap (λ n. (n + count) % 2 ^ 64) h.sends.0.counts in
      let third : ((bytes_of old + length h.sent) % 2 ^ 64 + count) % 2 ^ 64 ≡ (bytes_of old + length h.sent + count) % 2 ^ 64 = mod-add-mod (bytes_of old + length h.sent) (2 ^ 64) count in
      let sum : bytes_of old + length h.sent + count ≡ bytes_of old + length taken = omega (arith, size) in
      let twice : bytes_of new % 2 ^ 64 ≡ (bytes_of mid + count) % 2 ^ 64 = ap (λ n. n % 2 ^ 64) moves.bytes ∙ mod-mod (bytes_of mid + count) (2 ^ 64) in
      let rest : take (length left - count) (drop count left) ≡ drop count left = take_all (length left - count) (drop count left) (omega (arith, length-drop count left)) in
      record {
        sent = taken;
        splits = h.splits ∙ ap (λ (x : List ℕ). h.sent ++ x) (sym (take-append-drop count left)) ∙ sym (append_assoc h.sent (take count left) (drop count left)) ∙ ap (λ (x : List ℕ). taken ++ x) (sym rest);
        sends = (
          record {
            appends = Appends-trans (contents (inner_of old)) (contents (inner_of mid)) (contents (inner_of new)) h.sent (take count left) h.sends.0.appends more;
            counts = twice ∙ first ∙ second ∙ third ∙ ap (λ n. n % 2 ^ 64) sum;
          },
          moves.failures ∙ h.sends.1,
        );
      }

-- in segments as large as a frame, and in one alone, a message is laid out the same
module _ (limits : Bounds) (m : Message) (small : limits.frame_words ≤ 67108864) where
  laid_alone : (S : List (List ℕ)) → IsLaidOutAs limits limits.frame_words limits.segments m S → IsLaidOutAs limits limits.frame_words 1 m S
  laid_alone S h = record { says = h.says; shaped = h.shaped; fits = h.fits; layout = layout_alone limits S (message_written m) small h.shaped h.small h.layout; few = h.few; small = h.small }

  pub written_alone : (mode : Mode) (b : List ℕ) → IsWrittenAs mode limits limits.frame_words limits.segments m b → IsWrittenAs mode limits limits.frame_words 1 m b
  written_alone mode b h = record { lists = h.lists; laid = laid_alone h.lists h.laid; written = h.written }

  -- and refused the same
  refused_write : (fault : WriteFault) → Shaped (message_written m) → IsWriteFaultOf limits (record { words = limits.frame_words; segments = limits.segments }) (message_written m) fault
      → IsWriteFaultOf limits (record { words = limits.frame_words; segments = 1 }) (message_written m) fault
  refused_write writes.TooDeep shaped h = h
  refused_write writes.TooCostly shaped h = h
  refused_write writes.OutOfMemory shaped h = h
  refused_write writes.TooManyWords shaped h = (
    h.0,
    λ S l. ⊎_elim
        (λ more. more)
        (λ within. absurd (omega (arith, within, h.1 S (layout_several limits S (message_written m) small shaped within l))))
        (cases_lt limits.frame_words (sum (map length S))),
  )

  pub refused_alone : (refusal : Refusal) → IsUnwrittenFor limits limits.frame_words limits.segments m refusal → IsUnwrittenFor limits limits.frame_words 1 m refusal
  refused_alone (refusals.Frame fault) h = (h.0, h.1, laid_alone h.1 h.2)
  refused_alone (refusals.Tree fault) h = h
  refused_alone (refusals.Schema fault) h = h
  refused_alone (refusals.Write fault) (inl h) = inl h
  refused_alone (refusals.Write fault) (inr h) = inr (h.0, refused_write fault h.0 h.1)

-- where no frame is made of the segments of a message, memory ran out
pub refused_frame : (limits : Bounds) (words segments : ℕ) (m : Message) (S : List (List ℕ)) (fault : FrameFault) → IsLaidOutAs limits words segments m S → IsRefusedFor limits S fault → IsUnwrittenFor limits words segments m (refusals.Frame fault)
refused_frame limits words segments m S frames.TooManySegments laid h = absurd (omega (arith, laid.few, h))
refused_frame limits words segments m S frames.FrameTooLarge laid h =
    let large : limits.frame_words < sum (map length S) = h.1 in
    absurd (omega (arith, laid.small, large))
refused_frame limits words segments m S frames.OutOfMemory laid h = (refl, S, laid)
refused_frame limits words segments m S frames.Truncated laid h = absurd h
refused_frame limits words segments m S frames.RunPastFrame laid h = absurd h
refused_frame limits words segments m S frames.Failed laid h = absurd h

pub sent_alone : {T : Type 0} (contents : T → Option (List ℕ)) (mode : Mode) (limits : Bounds) (m : Message) (old new : Tap T) → limits.frame_words ≤ 67108864
    → IsSent contents mode limits limits.frame_words limits.segments m old new → IsSent contents mode limits limits.frame_words 1 m old new
sent_alone contents mode limits m old new small h = (h.0, written_alone limits m small mode h.0 h.1, h.2)

pub cut_short_alone : {T : Type 0} (contents : T → Option (List ℕ)) (mode : Mode) (limits : Bounds) (m : Message) (old new : Tap T) → limits.frame_words ≤ 67108864 → (fault : StreamFault)
    → IsCutShort contents mode limits limits.frame_words limits.segments m old new fault → IsCutShort contents mode limits limits.frame_words 1 m old new fault
cut_short_alone contents mode limits m old new small (faults.Refused at refusal) h = (h.0, h.1, refused_alone limits m small refusal h.2)
cut_short_alone contents mode limits m old new small (faults.Device error) h = (h.0, written_alone limits m small mode h.0 h.1, h.2)

-- what is written of a message is a frame that holds it
pub written_holds : (mode : Mode) (limits : Bounds) (words segments : ℕ) (m : Message) (b : List ℕ) → IsAllowed limits → IsWrittenAs mode limits words segments m b → IsFrameOf mode limits b m
written_holds mode limits words segments m b allowed h =
    let S = h.lists in
    let l = h.laid in
    let some : 0 < length S = omega (arith, l.layout.all) in (
      S,
      read_back mode limits S b allowed some (each_words S l.layout.fit) h.written,
      record {
        tree = message_written m;
        root = laid_root S (record { words = words; segments = segments }) limits (message_written m) l.shaped tt l.fits.0 l.fits.1 l.layout;
        says = l.says;
      },
    )
  where
    read_back : (mode : Mode) → IsReadBack mode
    read_back modes.Plain = read_back_plain
    read_back modes.Packed = read_back_packed

    are_words : (ws : List ℕ) → AllFit 64 ws → AreWords ws
    are_words [] k = tt
    are_words (w ∷ ws) k = (All-head (λ n. n < 2 ^ 64) w ws k, are_words ws (All-tail (λ n. n < 2 ^ 64) w ws k))

    each_words : (S : List (List ℕ)) → All (AllFit 64) S → AllByRecursion AreWords S
    each_words [] k = tt
    each_words (ws ∷ S) k = (are_words ws (All-head (AllFit 64) ws S k), each_words S (All-tail (AllFit 64) ws S k))
