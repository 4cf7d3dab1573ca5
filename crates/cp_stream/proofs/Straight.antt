-- A message that is laid out straight into its frame.
use Rattle.std.proofs.Common.{◌≡◌, ℕ, ◌+◌, ◌*◌, ◌≤◌, List, [], ◌∷◌, ◌++◌, length, take, drop, sym, ◌∙◌, ap, subst, arith}
use Rattle.std.specs.Prelude.{Result, Ok, Err, OnOk}
use Rattle.std.specs.Int.{to_le_bytes, w32}
use Rattle.std.proofs.lemmas.List.{append-nil}
use Rattle.cp_words.specs.Limits.{Bounds}
use Rattle.cp_packed.specs.Words.{bytes_of}
use Rattle.cp_tree.specs.Shaped.{Shaped}
use Rattle.cp_writing.specs.Blocks.{block_of}
use Rattle.cp_writing.specs.Writes.{AreBytesOf, FitsIn}
use Rattle.cp_writing.proofs.Blocks.{length_bytes_of}
use Rattle.cp_frame.specs.declared.mode.Mode.{Mode}
use Rattle.cp_frame.specs.declared.mode.Mode.TheVariants as modes
use Rattle.cp_messages.specs.Written.{message_written}
use Rattle.cp_messages.specs.Says.{Says}
use Rattle.cp_messages.specs.declared.message.Message.{Message}
use Rattle.cp_stream.specs.Write.{IsWrittenAs, IsPut}

-- after the place of its segment table a block has the bytes of its words
pub block_long : (b ws : List ℕ) → b ≡ block_of ws → length b ≡ 8 + 8 * length ws
block_long b ws e = omega (arith, ap (λ (x : List ℕ). length x) e, length_bytes_of ws)

-- The block with the size of its segment in the table is the frame.
pub straight : (limits : Bounds) (m : Message) (b new : List ℕ) (h : AreBytesOf limits (message_written m) b) → Says (message_written m) m → Shaped (message_written m) → FitsIn limits (message_written m) → 1 ≤ limits.segments
    → new ≡ (take 4 b ++ to_le_bytes w32 (length h.words)) ++ drop 8 b → IsWrittenAs modes.Plain limits limits.frame_words 1 m new
straight limits m b new h says shaped fits some e =
    let ws = h.words in
    let size = to_le_bytes w32 (length ws) in
    let small : 0 + length ws ≤ limits.frame_words = omega (arith, h.small) in
    record {
      lists = ws ∷ [];
      laid = record { says = says; shaped = shaped; fits = fits; layout = h.layout; few = some; small = small };
      written = record {
        within = record { few = some; small = small };
        form = e ∙ ap (λ (x : List ℕ). (take 4 x ++ size) ++ drop 8 x) h.bytes ∙ ap (λ (x : List ℕ). (take 4 (block_of ws) ++ size) ++ x) (sym (append-nil (bytes_of ws)));
      };
    }

-- a frame in a block that held nothing comes after what the block held
pub put_first : {X E : Type 0} (r : Result X E) (mode : Mode) (limits : Bounds) (m : Message) (old new : List ℕ) → mode ≡ modes.Plain → old ≡ [] → OnOk r (IsWrittenAs modes.Plain limits limits.frame_words 1 m new)
    → OnOk r (IsPut mode limits limits.frame_words 1 m old new)
put_first (Ok x) mode limits m old new plain none h = (new, subst (λ (k : Mode). IsWrittenAs k limits limits.frame_words 1 m new) (sym plain) h, ap (λ (b : List ℕ). b ++ new) (sym none))
put_first (Err e) mode limits m old new plain none h = h
