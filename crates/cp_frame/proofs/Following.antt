-- A frame of a piece, and what follows it.
use Rattle.std.proofs.Common.{◌≡◌, ◌⊎◌, inl, inr, ℕ, ◌^◌, ◌<◌, ◌≤◌, List, [], ◌∷◌, ◌++◌, length, drop, get_or, refl, sym, ◌∙◌, ap, subst, append_assoc, length-append, arith}
use Rattle.std.specs.Int.{to_le_bytes, w64}
use Rattle.std.proofs.lemmas.List.{append-nil, nil_from_length}
use Rattle.std.proofs.lemmas.Grind.{flat_map-append}
use Rattle.cp_words.specs.Limits.{Bounds}
use Rattle.cp_frame.specs.declared.fault.FrameFault.{FrameFault}
use Rattle.cp_frame.specs.declared.fault.FrameFault.TheVariants as faults
use Rattle.cp_frame.specs.declared.mode.Mode.{Mode}
use Rattle.cp_frame.specs.declared.mode.Mode.TheVariants as modes
use Rattle.cp_frame.specs.declared.frame.OpenFrame.{OpenFrame}
use Rattle.cp_frame.specs.declared.rest.Rest.{Rest}
use Rattle.cp_frame.specs.declared.stream.OpenStream.{OpenStream}
use Rattle.cp_packed.specs.Words.{AreBytes, AreWords, bytes_of}
use Rattle.cp_frame.specs.Frame.{Frame}
use Rattle.cp_frame.specs.Parts.{IsOpen, IsComplete, IsEmpty, IsFaultOf, rest_of}
use Rattle.cp_words.specs.Segments.{words_of}
use Rattle.cp_frame.specs.Stream.{Frames, HasFault, NamesFault, numbers}
use Rattle.cp_frame.specs.Kept.{IsSameStream}
use Rattle.cp_frame.specs.Rest.{bytes_for, IsRest, IsSound, InPacked, KeptFor, Reads, Refuses}
use Rattle.cp_frame.specs.Bulk.{TakesBytes, TakesFront, GivesWhole}
use Rattle.cp_frame.specs.Single.{IsStillOpen, TakesWhole}
use Rattle.cp_frame.specs.Following.{EndsFrame, StopsAt, GoesThrough, HasThere, HasRead}
use Rattle.cp_packed.specs.Unpacking.{Pending, nothing, after, given, pending_of}
use Rattle.cp_packed.proofs.Bytes.{all-append}
use Rattle.cp_frame.proofs.Ends.{complete_frame, empty_open, empty_rest, frames_push, open_rest}
use Rattle.cp_packed.proofs.Opens.{after-append, given-append}
use Rattle.cp_frame.proofs.Certain.{are_back}
use Rattle.cp_frame.proofs.Rests.{fault_stays_packed}
use Rattle.cp_frame.proofs.Taken.{blank_packed, ends_fault, keeps_blank, memory_or}
use Rattle.cp_frame.proofs.Streams.{fault_plain as names_plain}
use Rattle.cp_frame.proofs.Fronts.{packed_front, keeps_front, ends_front, frames_more, are_front, first_left}

-- bytes that are taken one after another are taken together
takes_both : (limits : Bounds) (r s t : Rest) (a b : List ℕ) → TakesBytes limits r a s → TakesBytes limits s b t → TakesBytes limits r (a ++ b) t
takes_both limits r s t a b h k =
    let p = pending_of r.group in
    let more = ap (λ (q : Pending). given q b) h.group in
    let both : given p (a ++ b) ≡ given p a ++ given (pending_of s.group) b = given-append p a b ∙ ap (λ (ws : List ℕ). given p a ++ ws) (sym more) in
    record {
      no_part = k.no_part;
      are_words = subst (λ (ws : List ℕ). AreWords ws) (sym both) (all-append (λ w. w < 2 ^ 64) (given p a) (given (pending_of s.group) b) h.are_words k.are_words);
      words = k.words ∙ ap (λ (c : List ℕ). c ++ bytes_of (given (pending_of s.group) b)) h.words ∙ append_assoc (rest_of r.frame) (bytes_of (given p a)) (bytes_of (given (pending_of s.group) b))
          ∙ ap (λ (c : List ℕ). rest_of r.frame ++ c) (sym (flat_map-append (to_le_bytes w64) (given p a) (given (pending_of s.group) b)) ∙ ap (λ (ws : List ℕ). bytes_of ws) (sym both));
      group = k.group ∙ ap (λ (q : Pending). after q b) h.group ∙ sym (after-append p a b);
      taken = omega (arith, h.taken, k.taken, length-append a b);
    }

pub front_both : (limits : Bounds) (r s t : Rest) (left middle back : List ℕ) → TakesFront limits r left s middle → TakesFront limits s middle t back → TakesFront limits r left t back
front_both limits r s t left middle back h k =
    (h.0 ++ k.0, h.1 ∙ ap (λ (b : List ℕ). h.0 ++ b) k.1 ∙ sym (append_assoc h.0 k.0 back), takes_both limits r s t h.0 k.0 h.2 k.2)

-- nothing was taken of a stream
pub front_none : (limits : Bounds) (r : Rest) (left : List ℕ) → InPacked limits r → TakesFront limits r left r left
front_none limits r left h = ([], refl, record { no_part = h.no_part; are_words = tt; words = sym (append-nil (rest_of r.frame)); group = refl; taken = omega arith })

-- a frame that is still open goes on
pub still_packed : (limits : Bounds) (r s : Rest) (left back : List ℕ) → InPacked limits r → AreBytes left → TakesFront limits r left s back → IsStillOpen limits s → InPacked limits s
still_packed limits r s left back h are t o = packed_front limits r s t.0 h (are_front t.0 back (subst (λ (b : List ℕ). AreBytes b) t.1 are)) t.2 o.0 o.1

-- no frame ends where no byte was taken
pub none_packed : (limits : Bounds) (r s : Rest) (left back : List ℕ) → InPacked limits r → AreBytes left → TakesFront limits r left s back → IsSound limits s → length left ≤ length back → InPacked limits s
none_packed limits r s left back h are t (inr o) few = still_packed limits r s left back h are t o
none_packed limits r s left back h are t (inl c) few =
    let none : t.0 ≡ [] = nil_from_length t.0 (omega (arith, few, ap (λ (b : List ℕ). length b) t.1, length-append t.0 back)) in
    let same : rest_of s.frame ≡ rest_of r.frame = t.2.words ∙ ap (λ (b : List ℕ). rest_of r.frame ++ bytes_of (given (pending_of r.group) b)) none ∙ append-nil (rest_of r.frame) in
    absurd ((open_rest limits r.frame h.frame).no_front _ (rest_of s.frame) [] (sym same ∙ sym (append-nil (rest_of s.frame))) (complete_frame limits s.frame c.0))

-- a fault after them is one of the whole
pub fault_after : (limits : Bounds) (r s : Rest) (left back : List ℕ) (fault : FrameFault) → InPacked limits r → AreBytes left → TakesFront limits r left s back → InPacked limits s
    → (fault ≡ faults.OutOfMemory) ⊎ HasThere modes.Packed limits s back fault → (fault ≡ faults.OutOfMemory) ⊎ HasThere modes.Packed limits r left fault
fault_after limits r s left back fault h are t k (inl e) = inl e
fault_after limits r s left back fault h are t k (inr f) = inr (λ b m.
    (let bytes = are_front t.0 back (subst (λ (c : List ℕ). AreBytes c) t.1 are) in
    let whole : (b ++ t.0) ++ back ≡ b ++ left = append_assoc b t.0 back ∙ ap (λ (c : List ℕ). b ++ c) (sym t.1) in
    subst (λ (c : List ℕ). HasFault modes.Packed limits c fault) whole (f (b ++ t.0) (keeps_front limits r s t.0 b h bytes t.2 k m))))

-- a fault that shows with a byte
pub fault_there : (limits : Bounds) (r : Rest) (left : List ℕ) (fault : FrameFault) → 0 < length left → AreBytes left
    → (fault ≡ faults.OutOfMemory) ⊎ HasFault modes.Packed limits (bytes_for modes.Packed r ++ get_or left 0 0 ∷ []) fault
    → (fault ≡ faults.OutOfMemory) ⊎ HasThere modes.Packed limits r left fault
fault_there limits r left fault some are (inl e) = inl e
fault_there limits r left fault some are (inr k) = inr (λ b m.
    (let x = get_or left 0 0 in
    let following = drop 1 left in
    let bytes = are_back (x ∷ []) following (subst (λ (c : List ℕ). AreBytes c) (first_left left some) are) in
    let there = fault_stays_packed limits (b ++ x ∷ []) following fault bytes (ends_fault limits r x b fault k m) in
    let whole : (b ++ x ∷ []) ++ following ≡ b ++ left = append_assoc b (x ∷ []) following ∙ ap (λ (c : List ℕ). b ++ c) (sym (first_left left some)) in
    subst (λ (c : List ℕ). HasFault modes.Packed limits c fault) whole there))

-- a packed frame is whole
pub stops_packed : (limits : Bounds) (r s t : Rest) (piece left back : List ℕ) (taken : ℕ) (S : List (List ℕ)) {old : Rest} → InPacked limits r → AreBytes piece → TakesFront limits r piece old left → TakesFront limits r piece s back
    → length back < length left → GivesWhole limits s taken S t → StopsAt modes.Packed limits r piece taken S t back
stops_packed limits r s t piece left back taken S h are g f few k =
    let bytes = are_front f.0 back (subst (λ (c : List ℕ). AreBytes c) f.1 are) in
    record {
      front = f.0;
      whole = f.1;
      shorter = omega (arith, few, ap (λ (c : List ℕ). length c) g.1, length-append g.0 left);
      count = λ b m. omega (arith, k.count, f.2.taken, m.1, length-append b f.0);
      frame = λ b m. subst (λ (T : List (List ℕ)). Frame modes.Packed limits T (b ++ f.0)) (sym k.segments) (ends_front limits r s f.0 b h bytes f.2 k.complete k.no_group m);
      begun = blank_packed limits t k.blank;
      fresh = keeps_blank limits t k.blank;
    }

-- or it isn't
pub through_packed : (limits : Bounds) (r s : Rest) (piece left : List ℕ) → InPacked limits r → AreBytes piece → TakesFront limits r piece s left → InPacked limits s → length left ≡ 0 → GoesThrough modes.Packed limits r piece s
through_packed limits r s piece left h are f k none =
    let all : piece ≡ f.0 = f.1 ∙ ap (λ (b : List ℕ). f.0 ++ b) (nil_from_length left none) ∙ append-nil f.0 in
    let bytes = subst (λ (c : List ℕ). AreBytes c) all are in
    record { begun = k; keeps = λ b m. subst (λ (c : List ℕ). KeptFor modes.Packed limits s (b ++ c)) (sym all) (keeps_front limits r s f.0 b h bytes f.2 k m) }

-- what was taken after the same bytes, where no more is left than there was
pub taken_between : (a b left back : List ℕ) → a ++ back ≡ b ++ left → length back ≤ length left → (front : List ℕ) × (left ≡ front ++ back) × (a ≡ b ++ front)
taken_between a [] left back e few = (a, sym e, refl)
taken_between [] (x ∷ b) left back e few = absurd (omega (arith, few, ap (λ (c : List ℕ). length c) e, length-append b left))
taken_between (y ∷ a) (x ∷ b) left back e few =
    let rest = taken_between a b left back (ap (λ (c : List ℕ). drop 1 c) e) few in
    let first : y ≡ x = ap (λ (c : List ℕ). get_or c 0 0) e in
    (rest.0, rest.1, ap (λ (n : ℕ). n ∷ a) first ∙ ap (λ (c : List ℕ). x ∷ c) rest.2)

pub ends_plain : (limits : Bounds) (f g h : OpenFrame) (piece back : List ℕ) (taken : ℕ) (S : List (List ℕ)) → rest_of g ++ back ≡ rest_of f ++ piece → length back < length piece → IsComplete limits g
    → taken ≡ length (rest_of g) → S ≡ words_of g.segments.items → IsEmpty h → EndsFrame limits f piece taken S h back
ends_plain limits f g h piece back taken S e few complete count segments empty =
    let front = taken_between (rest_of g) (rest_of f) piece back e (omega (arith, few)) in
    record {
      front = front.0;
      whole = front.1;
      shorter = few;
      count = count ∙ ap (λ (b : List ℕ). length b) front.2;
      frame = subst (λ (T : List (List ℕ)). Frame modes.Plain limits T (rest_of f ++ front.0)) (sym segments) (subst (λ (b : List ℕ). Frame modes.Plain limits (words_of g.segments.items) b) front.2 (complete_frame limits g complete));
      empty = empty;
    }

pub ends_whole : (limits : Bounds) (f h : OpenFrame) (piece back : List ℕ) (taken : ℕ) (S : List (List ℕ)) → rest_of f ≡ [] → TakesWhole limits piece taken S back → IsEmpty h → EndsFrame limits f piece taken S h back
ends_whole limits f h piece back taken S none t empty =
    let same = ap (λ (b : List ℕ). b ++ t.front) (sym none) in
    record {
      front = t.front;
      whole = t.whole;
      shorter = t.shorter;
      count = t.count ∙ ap (λ (b : List ℕ). length b) same;
      frame = subst (λ (b : List ℕ). Frame modes.Plain limits S b) same t.frame;
      empty = empty;
    }

-- a fault that was told of the numbers of a plain frame is the stream's, or an allocation failure
pub reported_plain : (limits : Bounds) (b : List ℕ) (fault : FrameFault) → IsFaultOf limits (numbers b) fault → (fault ≡ faults.OutOfMemory) ⊎ HasFault modes.Plain limits b fault
reported_plain limits b fault h = by (memory_or limits (numbers b) fault h)
  where
    by : (fault ≡ faults.OutOfMemory) ⊎ NamesFault limits (numbers b) fault → (fault ≡ faults.OutOfMemory) ⊎ HasFault modes.Plain limits b fault
    by (inl e) = inl e
    by (inr k) = inr (names_plain limits b fault k)

-- a plain frame, where what has come is kept as it came
kept_plain : (limits : Bounds) (r : Rest) (b : List ℕ) → IsOpen limits r.frame → rest_of r.frame ≡ b → KeptFor modes.Plain limits r b
kept_plain limits r b h e = subst (λ (c : List ℕ). KeptFor modes.Plain limits r c) e (refl, refl, open_rest limits r.frame h)

pub stops_plain : (limits : Bounds) (r s : Rest) (piece back : List ℕ) (taken : ℕ) (S : List (List ℕ)) → EndsFrame limits r.frame piece taken S s.frame back → pending_of s.group ≡ nothing
    → StopsAt modes.Plain limits r piece taken S s back
stops_plain limits r s piece back taken S h none =
    let open_then = empty_open limits s.frame h.empty in
    record {
      front = h.front;
      whole = h.whole;
      shorter = h.shorter;
      count = λ b m. subst (λ (c : List ℕ). taken ≡ length (c ++ h.front)) m.0 h.count;
      frame = λ b m. subst (λ (c : List ℕ). Frame modes.Plain limits S (c ++ h.front)) m.0 h.frame;
      begun = (open_then, none);
      fresh = kept_plain limits s [] open_then (empty_rest s.frame h.empty);
    }

pub through_plain : (limits : Bounds) (r s : Rest) (piece : List ℕ) → IsOpen limits s.frame → pending_of s.group ≡ nothing → rest_of s.frame ≡ rest_of r.frame ++ piece → GoesThrough modes.Plain limits r piece s
through_plain limits r s piece h none e = record {
  begun = (h, none);
  keeps = λ b m. kept_plain limits s (b ++ piece) h (e ∙ ap (λ (c : List ℕ). c ++ piece) m.0);
}

pub fault_plain : (limits : Bounds) (r : Rest) (piece : List ℕ) (fault : FrameFault) → (fault ≡ faults.OutOfMemory) ⊎ HasFault modes.Plain limits (rest_of r.frame ++ piece) fault
    → (fault ≡ faults.OutOfMemory) ⊎ HasThere modes.Plain limits r piece fault
fault_plain limits r piece fault (inl e) = inl e
fault_plain limits r piece fault (inr h) = inr (λ b m. subst (λ (c : List ℕ). HasFault modes.Plain limits (c ++ piece) fault) m.0 h)

-- what holds by the form and the limits of a stream holds by those that it had
pub by_same : (P : Mode → Bounds → Type 0) (old new : OpenStream) → IsSameStream old new → P new.mode new.limits → P old.mode old.limits
by_same P old new same h = subst (λ (mode : Mode). P mode old.limits) same.0 (subst (λ (limits : Bounds). P new.mode limits) same.1 h)

-- nothing was read
pub read_none : (mode : Mode) (limits : Bounds) (r : Rest) (piece : List ℕ) → IsRest mode limits r → HasRead mode limits r piece [] r piece
read_none mode limits r piece h = record {
  fed = [];
  whole = refl;
  begun = h;
  reads = λ b m. (b, append-nil b, m);
}

-- a frame more
pub read_frame : (mode : Mode) (limits : Bounds) (old r s : Rest) (piece left back : List ℕ) (frames : List (ℕ × List (List ℕ))) (taken : ℕ) (S : List (List ℕ)) → HasRead mode limits old piece frames r left
    → StopsAt mode limits r left taken S s back → HasRead mode limits old piece (frames ++ (taken, S) ∷ []) s back
read_frame mode limits old r s piece left back frames taken S h k = record {
  fed = h.fed ++ k.front;
  whole = h.whole ∙ ap (λ (b : List ℕ). h.fed ++ b) k.whole ∙ sym (append_assoc h.fed k.front back);
  begun = k.begun;
  reads = λ b m. (let one = h.reads b m in
      let last = one.0 ++ k.front in
      let before = frames_more mode limits b h.fed k.front frames one.0 one.1 in
      let there = subst (λ (c : List ℕ). Frames mode limits (b ++ (h.fed ++ k.front)) frames c) (sym (append-nil last)) before in
      ([], frames_push mode limits (b ++ (h.fed ++ k.front)) frames taken S last [] there (k.count one.0 one.2) (k.frame one.0 one.2), k.fresh));
}

-- and no more
pub read_through : (mode : Mode) (limits : Bounds) (old r s : Rest) (piece left : List ℕ) (frames : List (ℕ × List (List ℕ))) → HasRead mode limits old piece frames r left → GoesThrough mode limits r left s
    → Reads mode limits old piece frames s
read_through mode limits old r s piece left frames h k = λ b m.
    (let one = h.reads b m in
    (one.0 ++ left, subst (λ (c : List ℕ). Frames mode limits (b ++ c) frames (one.0 ++ left)) (sym h.whole) (frames_more mode limits b h.fed left frames one.0 one.1), k.keeps one.0 one.2))

pub read_all : (mode : Mode) (limits : Bounds) (old r : Rest) (piece left : List ℕ) (frames : List (ℕ × List (List ℕ))) → HasRead mode limits old piece frames r left → length left ≡ 0 → Reads mode limits old piece frames r
read_all mode limits old r piece left frames h none =
    let all : h.fed ≡ piece = sym (append-nil h.fed) ∙ ap (λ (b : List ℕ). h.fed ++ b) (sym (nil_from_length left none)) ∙ sym h.whole in
    subst (λ (b : List ℕ). Reads mode limits old b frames r) all h.reads

pub read_fault : (mode : Mode) (limits : Bounds) (old r : Rest) (piece left : List ℕ) (frames : List (ℕ × List (List ℕ))) (fault : FrameFault) → HasRead mode limits old piece frames r left
    → (fault ≡ faults.OutOfMemory) ⊎ HasThere mode limits r left fault → (fault ≡ faults.OutOfMemory) ⊎ Refuses mode limits old piece frames fault
read_fault mode limits old r piece left frames fault h (inl e) = inl e
read_fault mode limits old r piece left frames fault h (inr k) = inr (λ b m.
    (let one = h.reads b m in
    (one.0 ++ left, subst (λ (c : List ℕ). Frames mode limits (b ++ c) frames (one.0 ++ left)) (sym h.whole) (frames_more mode limits b h.fed left frames one.0 one.1), k one.0 one.2)))
