-- The messages of frames, one after another.
use Rattle.std.proofs.Common.{◌≡◌, ℕ, ◌+◌, ◌<◌, ◌^◌, List, [], ◌∷◌, ◌++◌, length, drop, get_or, refl, sym, ◌∙◌, ap, subst, arith}
use Rattle.std.proofs.lemmas.List.{drop_more, length-append, length_push}
use Rattle.cp_words.specs.Limits.{Bounds}
use Rattle.cp_frame.specs.declared.mode.Mode.{Mode}
use Rattle.cp_frame.specs.Stream.{Frames}
use Rattle.cp_messages.specs.declared.message.Message.{Message}
use Rattle.cp_frame.specs.Frame.{Frame}
use Rattle.cp_stream.specs.declared.fault.Refusal.{Refusal}
use Rattle.cp_stream.specs.declared.fault.Refusal.TheVariants as refusals
use Rattle.cp_stream.specs.Stream.{Messages, IsFrameOf, Holds, HoldsNone, HasFault}
use Rattle.cp_stream.specs.Reader.{CountsOn}
use Rattle.cp_stream.specs.Kept.{ReadsFirst, RefusesOf}

-- a message after others
pub messages_push : (mode : Mode) (limits : Bounds) (b : List ℕ) (ms : List Message) (front back : List ℕ) (m : Message)
    → Messages mode limits b ms (front ++ back) → IsFrameOf mode limits front m → Messages mode limits b (ms ++ m ∷ []) back
messages_push mode limits b [] front back m h k = (front, back, h, k, refl)
messages_push mode limits b (x ∷ ms) front back m h k = (h.0, h.1, h.2, h.3, messages_push mode limits h.1 ms front back m h.4 k)

pub counts_none : (old : ℕ) → old < 2 ^ 64 → CountsOn old 0 old
counts_none old h = omega (arith, h)

pub counts_more : (old n k mid new : ℕ) → CountsOn old n mid → CountsOn mid k new → CountsOn old (n + k) new
counts_more old n k mid new h g = omega (arith, h, g)

pub reads_none : (limits : Bounds) (given : List (ℕ × List (List ℕ))) (ms : List Message) (at : ℕ) → ms ≡ [] → at < 2 ^ 64 → ReadsFirst limits given 0 ms at at
reads_none limits given ms at e h = subst (λ (ns : List Message). ReadsFirst limits given 0 ns at at) (sym e) (record {
  each = refl;
  reads = λ mode b rest f. (b, record { messages = refl; taken = 0; splits = omega arith; counts = counts_none at h }, f);
})

pub reads_more : (limits : Bounds) (given : List (ℕ × List (List ℕ))) (n : ℕ) (ms : List Message) (old mid new : ℕ) (frame : ℕ × List (List ℕ)) (m : Message)
    → ReadsFirst limits given n ms old mid → n < length given → (d : ℕ × List (List ℕ)) → frame ≡ get_or given n d → Holds limits frame.1 m → CountsOn mid frame.0 new
    → ReadsFirst limits given (n + 1) (ms ++ m ∷ []) old new
reads_more limits given n ms old mid new frame m h lt d e holds counts = record {
  each = omega (arith, length_push ms m, h.each);
  reads = λ mode b rest f.
      let before = h.reads mode b rest f in
      let next : Frames mode limits before.0 (frame ∷ drop (n + 1) given) rest =
      subst (λ (gs : List (ℕ × List (List ℕ))). Frames mode limits before.0 gs rest) (drop_more given n d lt ∙ ap (λ (x : ℕ × List (List ℕ)). x ∷ drop (n + 1) given) (sym e)) before.2 in
      let split = ap (λ (x : List ℕ). length x) next.2 ∙ length-append next.0 next.1 in (
        next.1,
        record {
          messages = messages_push mode limits b ms next.0 next.1 m (subst (λ (x : List ℕ). Messages mode limits b ms x) next.2 before.1.messages) (frame.1, next.4, holds);
          taken = before.1.taken + frame.0;
          splits = omega (arith, before.1.splits, split, next.3);
          counts = counts_more old before.1.taken frame.0 mid new before.1.counts counts;
        },
        next.5,
      );
}

-- a frame that holds no message is a fault of the bytes that begin with it
fault_there : (mode : Mode) (limits : Bounds) (b front back : List ℕ) (S : List (List ℕ)) (refusal : Refusal) → b ≡ front ++ back → Frame mode limits S front → HoldsNone limits S refusal → HasFault mode limits b refusal
fault_there mode limits b front back S (refusals.Frame fault) e frame h = absurd h
fault_there mode limits b front back S (refusals.Tree fault) e frame h = (S, front, back, e, frame, h)
fault_there mode limits b front back S (refusals.Schema fault) e frame h = (S, front, back, e, frame, h)
fault_there mode limits b front back S (refusals.Write fault) e frame h = absurd h

-- where the next frame holds none, that is the fault after those that were read
pub refuses_next : (limits : Bounds) (given : List (ℕ × List (List ℕ))) (n : ℕ) (ms : List Message) (old mid : ℕ) (frame : ℕ × List (List ℕ)) (refusal : Refusal)
    → ReadsFirst limits given n ms old mid → n < length given → (d : ℕ × List (List ℕ)) → frame ≡ get_or given n d → HoldsNone limits frame.1 refusal → RefusesOf limits given ms old mid refusal
refuses_next limits given n ms old mid frame refusal h lt d e none = λ mode b rest f.
    let before = h.reads mode b rest f in
    let next : Frames mode limits before.0 (frame ∷ drop (n + 1) given) rest =
    subst (λ (gs : List (ℕ × List (List ℕ))). Frames mode limits before.0 gs rest) (drop_more given n d lt ∙ ap (λ (x : ℕ × List (List ℕ)). x ∷ drop (n + 1) given) (sym e)) before.2 in
    (before.0, before.1, fault_there mode limits before.0 next.0 next.1 frame.1 refusal next.2 next.4 none)
