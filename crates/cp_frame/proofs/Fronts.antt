-- What packed bytes that are taken at once do to a rest.
use Rattle.std.proofs.Common.{◌≡◌, ◌⊎◌, inl, inr, ℕ, ◌+◌, ◌*◌, ◌^◌, ◌<◌, ◌≤◌, List, [], ◌∷◌, ◌++◌, length, drop, get_or, refl, sym, ◌∙◌, ap, subst, append_assoc, length-append, arith}
use Rattle.std.specs.Int.{to_le_bytes, w64}
use Rattle.std.proofs.lemmas.Bool.{cases_eq}
use Rattle.std.proofs.lemmas.List.{append-nil}
use Rattle.std.proofs.lemmas.Grind.{flat_map-append}
use Rattle.cp_words.specs.Limits.{Bounds}
use Rattle.cp_frame.specs.declared.mode.Mode.{Mode}
use Rattle.cp_frame.specs.declared.mode.Mode.TheVariants as modes
use Rattle.cp_frame.specs.declared.rest.Rest.{Rest}
use Rattle.cp_frame.specs.Framed.{Framed}
use Rattle.cp_packed.specs.Words.{AreBytes, AreWords, bytes_of}
use Rattle.cp_frame.specs.Frame.{Frame}
use Rattle.cp_packed.specs.Packed.{Packed}
use Rattle.cp_frame.specs.Parts.{rest_of, kept_words, IsOpen, IsComplete, NamesLittle}
use Rattle.cp_words.specs.Segments.{words_of}
use Rattle.cp_frame.specs.Stream.{Frames, Open, numbers}
use Rattle.cp_frame.specs.Reader.{GoesOnAs}
use Rattle.cp_frame.specs.Rest.{words_in_order, bytes_for, InPacked, TakesByte, KeptFor}
use Rattle.cp_frame.specs.Bulk.{TakesBytes}
use Rattle.cp_packed.specs.Unpacking.{Pending, nothing, next, brought, after, given, laid, IsPending, pending_of}
use Rattle.cp_frame.proofs.Numbers.{length_bytes_of}
use Rattle.cp_packed.proofs.Bytes.{all-append}
use Rattle.cp_frame.proofs.Framing.{same_words}
use Rattle.cp_frame.proofs.Ends.{complete_frame}
use Rattle.cp_frame.proofs.Streams.{cut}
use Rattle.cp_packed.proofs.Opens.{Brings, brings_both}
use Rattle.cp_packed.proofs.Unpacks.{pending_step}
use Rattle.cp_packed.proofs.Laying.{brings_packed, pending_after}
use Rattle.cp_frame.proofs.Certain.{are-append}
use Rattle.cp_frame.proofs.Alike.{alike_both, alike_more, alike_state, alike_open}
use Rattle.cp_frame.proofs.Texts.{bytes_words, words_are, text_are, brings_kept, open_packed}
use Rattle.cp_frame.proofs.Taken.{bytes_count, run_words, bytes_long, first_kept, no_front_kept}

-- bytes bring no more words than they allow, and a run only with a word
runs_with : (b : List ℕ) (p : Pending) → 0 < (after p b).run → 0 < p.run + length (given p b)
runs_with [] p h = omega (arith, h)
runs_with (x ∷ b) p h = go (cases_eq (next p x).run 0) (runs_with b (next p x) h)
  where
    both : length (brought p x ++ given (next p x) b) ≡ length (brought p x) + length (given (next p x) b)
    both = length-append (brought p x) (given (next p x) b)

    go : ((next p x).run ≡ 0) ⊎ ((next p x).run ≡ 0 → ⊥) → 0 < (next p x).run + length (given (next p x) b) → 0 < p.run + length (given p (x ∷ b))
    go (inl e) k = omega (arith, e, k, both)
    go (inr e) k = omega (arith, both, run_words p.run (p.part ++ x ∷ []) (omega (arith, e)))

counted : (b : List ℕ) (p : Pending) → IsPending p → AreBytes b → length p.part + length b ≤ 10 * length (given p b) + length (after p b).part
counted [] p h k = omega arith
counted (x ∷ b) p h k =
    let part = p.part ++ x ∷ [] in
    omega (
      arith,
      counted b (next p x) (pending_step p.run p.part x h k.0) k.1,
      bytes_count p.run part (are-append p.part (x ∷ []) h.are_bytes (k.0, tt)),
      length-append p.part (x ∷ []),
      length-append (brought p x) (given (next p x) b),
    )

-- one byte, as bytes
pub byte_front : (limits : Bounds) (r s : Rest) (x : ℕ) → TakesByte limits r x s → TakesBytes limits r (x ∷ []) s
byte_front limits r s x h =
    let words : brought (pending_of r.group) x ≡ given (pending_of r.group) (x ∷ []) = sym (append-nil (brought (pending_of r.group) x)) in
    record {
      no_part = h.no_part;
      are_words = subst (λ (ws : List ℕ). AreWords ws) words h.are_words;
      words = h.words ∙ ap (λ (ws : List ℕ). rest_of r.frame ++ bytes_of ws) words;
      group = h.group;
      taken = h.taken;
    }

-- bytes after those that the rest has
front_brings : (limits : Bounds) (r : Rest) (b : List ℕ) → InPacked limits r
    → Brings nothing (bytes_for modes.Packed r ++ b) (words_in_order r.frame ++ given (pending_of r.group) b) (after (pending_of r.group) b)
front_brings limits r b h =
    let p = pending_of r.group in
    brings_both nothing p (after p b) (bytes_for modes.Packed r) b (words_in_order r.frame) (given p b) (brings_kept limits r h) (record { words = refl; open_then = refl })

front_are : (limits : Bounds) (r : Rest) (b : List ℕ) → InPacked limits r → AreBytes b → AreBytes (bytes_for modes.Packed r ++ b)
front_are limits r b h k = are-append (bytes_for modes.Packed r) b (text_are limits r h) k

front_bytes : (limits : Bounds) (r : Rest) (b : List ℕ) → InPacked limits r
    → bytes_of (given nothing (bytes_for modes.Packed r ++ b)) ≡ rest_of r.frame ++ bytes_of (given (pending_of r.group) b)
front_bytes limits r b h =
    let more = given (pending_of r.group) b in
    ap (λ (ws : List ℕ). bytes_of ws) (front_brings limits r b h).words ∙ flat_map-append (to_le_bytes w64) (words_in_order r.frame) more
    ∙ ap (λ (c : List ℕ). c ++ bytes_of more) (bytes_words r.frame h.no_part)

-- what is kept after them
pub packed_front : (limits : Bounds) (r s : Rest) (b : List ℕ) → InPacked limits r → AreBytes b → TakesBytes limits r b s → IsOpen limits s.frame
    → NamesLittle limits (numbers (rest_of s.frame ++ laid (pending_of s.group))) → InPacked limits s
packed_front limits r s b h k m o little =
    let p = pending_of r.group in
    let kept : kept_words s.frame ≡ kept_words r.frame + length (given p b) =
    omega (arith, ap (λ (c : List ℕ). length c) m.words, length-append (rest_of r.frame) (bytes_of (given p b)), length_bytes_of (given p b), bytes_long r.frame h.no_part, bytes_long s.frame m.no_part) in
    record {
      frame = o;
      no_part = m.no_part;
      pending = subst (λ (q : Pending). IsPending q) (sym m.group) (pending_after b r.group.run r.group.part.items h.pending k);
      first = λ n. (let some = runs_with b p (omega (arith, n, ap (λ (q : Pending). q.run) m.group)) in first_kept p.run (kept_words r.frame) (kept_words s.frame) (length (given p b)) some h.first kept);
      little = little;
      count = omega (arith, m.taken, h.count, kept, counted b p h.pending k, ap (λ (q : Pending). length q.part) m.group);
    }

-- The rest that goes on as what is kept: these bytes more of it.
words_front : (limits : Bounds) (r s : Rest) (b : List ℕ) → InPacked limits r → TakesBytes limits r b s → InPacked limits s → words_in_order s.frame ≡ words_in_order r.frame ++ given (pending_of r.group) b
words_front limits r s b h m k =
    let ws = words_in_order r.frame in
    let more = given (pending_of r.group) b in
    let bytes : bytes_of (words_in_order s.frame) ≡ bytes_of (ws ++ more) =
    bytes_words s.frame k.no_part ∙ m.words ∙ ap (λ (c : List ℕ). c ++ bytes_of more) (sym (bytes_words r.frame h.no_part)) ∙ sym (flat_map-append (to_le_bytes w64) ws more) in
    same_words (words_in_order s.frame) (ws ++ more) (words_are limits s.frame k.frame) (all-append (λ w. w < 2 ^ 64) ws more (words_are limits r.frame h.frame) m.are_words)
    (omega (arith, ap (λ (c : List ℕ). length c) bytes, length_bytes_of (words_in_order s.frame), length_bytes_of (ws ++ more))) bytes

front_alike : (limits : Bounds) (r s : Rest) (b : List ℕ) → InPacked limits r → AreBytes b → TakesBytes limits r b s → InPacked limits s
    → GoesOnAs modes.Packed (bytes_for modes.Packed s) (bytes_for modes.Packed r ++ b)
front_alike limits r s b h l m k =
    let old = front_brings limits r b h in
    let new = brings_kept limits s k in
    alike_state (bytes_for modes.Packed s) (bytes_for modes.Packed r ++ b) (text_are limits s k) (front_are limits r b h l) (new.words ∙ words_front limits r s b h m k ∙ sym old.words)
    (new.open_then ∙ m.group ∙ sym old.open_then)

front_open : (limits : Bounds) (r s : Rest) (b : List ℕ) → InPacked limits r → AreBytes b → TakesBytes limits r b s → InPacked limits s → Open modes.Packed limits (bytes_for modes.Packed r ++ b)
front_open limits r s b h l m k =
    let old = front_brings limits r b h in
    open_packed limits (bytes_for modes.Packed r ++ b) (words_in_order s.frame) (pending_of s.group) (front_are limits r b h l)
    (record { words = old.words ∙ sym (words_front limits r s b h m k); open_then = old.open_then ∙ sym m.group }) k.pending (no_front_kept limits s.frame k.frame k.no_part)
    (subst (λ (c : List ℕ). NamesLittle limits (numbers (c ++ laid (pending_of s.group)))) (sym (bytes_words s.frame k.no_part)) k.little)

pub keeps_front : (limits : Bounds) (r s : Rest) (front b : List ℕ) → InPacked limits r → AreBytes front → TakesBytes limits r front s → InPacked limits s → KeptFor modes.Packed limits r b
    → KeptFor modes.Packed limits s (b ++ front)
keeps_front limits r s front b h l m k f = (
  alike_both (bytes_for modes.Packed s) (bytes_for modes.Packed r ++ front) (b ++ front) (front_alike limits r s front h l m k) (alike_more (bytes_for modes.Packed r) b front f.0),
  omega (arith, m.taken, f.1, length-append b front),
  alike_open limits (bytes_for modes.Packed r) b front f.0 f.2.no_front (front_open limits r s front h l m k),
)

-- a frame ends with them
pub ends_front : (limits : Bounds) (r s : Rest) (front b : List ℕ) → InPacked limits r → AreBytes front → TakesBytes limits r front s → IsComplete limits s.frame → pending_of s.group ≡ nothing
    → KeptFor modes.Packed limits r b → Frame modes.Packed limits (words_of s.frame.segments.items) (b ++ front)
ends_front limits r s front b h l m k e f =
    let t = bytes_for modes.Packed r ++ front in
    let ws = given nothing t in
    let plain = complete_frame limits s.frame k in
    let packed = brings_packed t (front_are limits r front h l) ((front_brings limits r front h).open_then ∙ sym m.group ∙ e) in
    let there = (alike_more (bytes_for modes.Packed r) b front f.0 ws []).0 (subst (λ (c : List ℕ). Packed ws c) (sym (append-nil t)) packed) in
    record {
      within = plain.within;
      form = (ws, subst (λ (c : List ℕ). Framed (words_of s.frame.segments.items) c) (m.words ∙ sym (front_bytes limits r front h)) plain.form, subst (λ (c : List ℕ). Packed ws c) (append-nil (b ++ front)) there);
    }

-- more bytes after a stream
pub frames_more : (mode : Mode) (limits : Bounds) (b a x : List ℕ) (given : List (ℕ × List (List ℕ))) (rest : List ℕ) → Frames mode limits (b ++ a) given rest → Frames mode limits (b ++ (a ++ x)) given (rest ++ x)
frames_more mode limits b a x given rest h =
    subst (λ (c : List ℕ). Frames mode limits c given (rest ++ x)) (append_assoc b a x)
    (subst (λ (gs : List (ℕ × List (List ℕ))). Frames mode limits ((b ++ a) ++ x) gs (rest ++ x)) (append-nil given) (cut mode limits (b ++ a) x given [] rest (rest ++ x) h refl))

-- the first of bytes
pub are_front : (front back : List ℕ) → AreBytes (front ++ back) → AreBytes front
are_front [] back h = tt
are_front (x ∷ front) back h = (h.0, are_front front back h.1)

pub first_left : (left : List ℕ) → 0 < length left → left ≡ (get_or left 0 0 ∷ []) ++ drop 1 left
first_left [] h = absurd (omega (arith, h))
first_left (x ∷ left) h = refl
