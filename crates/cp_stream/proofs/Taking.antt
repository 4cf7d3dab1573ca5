-- One frame, read without a byte more.
use Rattle.std.proofs.Common.{◌≡◌, ◌≢◌, ◌⊎◌, inl, inr, ℕ, ◌+◌, ◌<◌, ◌≤◌, List, [], ◌∷◌, ◌++◌, Option, Some, None, length, drop, slice_index_or, Result, Ok, Err, IfOk, IfErr, OnOk, refl, sym, ◌∙◌, ap, subst, length-append, arith}
use Rattle.std.proofs.lemmas.List.{append_assoc, append-nil, nil_from_length}
use Rattle.std.specs.Io.KnownBytes.{Consumes, IsAtEnd}
use Rattle.cp_words.specs.Limits.{Bounds}
use Rattle.cp_frame.specs.declared.mode.Mode.{Mode}
use Rattle.cp_frame.specs.declared.fault.FrameFault.{FrameFault}
use Rattle.cp_frame.specs.declared.fault.FrameFault.TheVariants as faults
use Rattle.cp_frame.specs.Frame.{Frame}
use Rattle.cp_frame.specs.Stream.{NoFront, HasFault, Open}
use Rattle.cp_frame.specs.Reader.{Reader, State, failed, refusing, reading, Stands, StandsFor, IsReading, IsRefusing, IsNeeded, Needs, Gives, Reports, IsReportedFor, taken_of}
use Rattle.cp_stream.specs.declared.fault.Refusal.TheVariants as refusals
use Rattle.cp_stream.specs.declared.fault.StreamFault.{StreamFault}
use Rattle.cp_stream.specs.declared.fault.StreamFault.TheVariants.{Refused}
use Rattle.cp_stream.specs.Read.{IsNoFrame, ReadsFrame, RefusesFrame, RefusesMessage, StopsAt}
use Rattle.cp_stream.specs.Stream.{HoldsNone}
use Rattle.cp_stream.specs.Reader.{IsMemory}
use Rattle.cp_stream.specs.declared.fault.Refusal.{Refusal}
use Rattle.cp_stream.specs.Kept.{ReadsOn}

pub consumes_more : (a b c : Option (List ℕ)) (xs ys : List ℕ) → Consumes a b xs → Consumes b c ys → Consumes a c (xs ++ ys)
consumes_more None b c xs ys h k = tt
consumes_more (Some a) None c xs ys h k = absurd h
consumes_more (Some a) (Some b) None xs ys h k = absurd k
consumes_more (Some a) (Some b) (Some c) xs ys h k = h ∙ ap (λ (zs : List ℕ). xs ++ zs) k ∙ sym (append_assoc xs ys c)

pub consumes_none : (a : Option (List ℕ)) → Consumes a a []
consumes_none None = tt
consumes_none (Some a) = refl

-- all but the last of a list, and the last
abbrev pub Ends : List ℕ → Type 0
Ends xs = (front : List ℕ) × (last : ℕ) × (xs ≡ front ++ last ∷ [])

ends_more : (x : ℕ) (xs : List ℕ) → Ends xs → Ends (x ∷ xs)
ends_more x xs h = (x ∷ h.0, h.1, ap (λ (zs : List ℕ). x ∷ zs) h.2)

pub ends : (x : ℕ) (xs : List ℕ) → Ends (x ∷ xs)
ends x [] = ([], x, refl)
ends x (y ∷ ys) = ends_more x (y ∷ ys) (ends y ys)

-- the same before one more
pub same_fronts : (xs ys : List ℕ) (x y : ℕ) → xs ++ x ∷ [] ≡ ys ++ y ∷ [] → xs ≡ ys
same_fronts [] [] x y e = refl
same_fronts [] (b ∷ ys) x y e = absurd (omega (arith, ap (λ (zs : List ℕ). length zs) e, length-append ys (y ∷ [])))
same_fronts (a ∷ xs) [] x y e = absurd (omega (arith, ap (λ (zs : List ℕ). length zs) e, length-append xs (x ∷ [])))
same_fronts (a ∷ xs) (b ∷ ys) x y e =
    let first : a ≡ b = cc (e) in
    let others : xs ++ x ∷ [] ≡ ys ++ y ∷ [] = cc (e) in
    let same = same_fronts xs ys x y others in cc (first, same)

pub open_of : (mode : Mode) (limits : Bounds) (s : State) (b : List ℕ) → IsReading s → Stands mode limits s b → Open mode limits b
open_of mode limits failed b h k = absurd h
open_of mode limits (refusing fault) b h k = absurd h
open_of mode limits (reading rest taken) b h k = k.2

-- two fronts of one list: the one goes on to the other
split : (b piece front back : List ℕ) → b ++ piece ≡ front ++ back → ((more : List ℕ) × (front ≡ b ++ more) × (piece ≡ more ++ back)) ⊎ ((more : List ℕ) × (b ≡ front ++ more))
split [] piece front back e = inl (front, refl, e)
split (x ∷ b) piece [] back e = inr (x ∷ b, refl)
split (x ∷ b) piece (y ∷ front) back e =
    let first : x ≡ y = cc (e) in
    let others : b ++ piece ≡ front ++ back = cc (e) in
    split_more x y b piece front back first (split b piece front back others)
  where
    split_more : (x y : ℕ) (b piece front back : List ℕ) → x ≡ y → ((more : List ℕ) × (front ≡ b ++ more) × (piece ≡ more ++ back)) ⊎ ((more : List ℕ) × (b ≡ front ++ more))
        → ((more : List ℕ) × (y ∷ front ≡ (x ∷ b) ++ more) × (piece ≡ more ++ back)) ⊎ ((more : List ℕ) × (x ∷ b ≡ (y ∷ front) ++ more))
    split_more x y b piece front back first (inl h) = inl (h.0, (cc (first, h.1)), h.2)
    split_more x y b piece front back first (inr h) = inr (h.0, cc (first, h.1))

-- no frame ends with fewer bytes than these after the rest
abbrev pub NoneSooner : Reader → ℕ → Type 0
NoneSooner r n = (b piece : List ℕ) → IsReading r.state → StandsFor r b → length piece < n → NoFront r.mode r.limits (b ++ piece)

needed_in : (mode : Mode) (limits : Bounds) (b : List ℕ) (n : ℕ) (piece : List ℕ) → IsNeeded mode limits b n → Open mode limits b → length piece < n → NoFront mode limits (b ++ piece)
needed_in mode limits b n piece h k less S front back e f = ends_where (split b piece front back e)
  where
    ends_where : ((more : List ℕ) × (front ≡ b ++ more) × (piece ≡ more ++ back)) ⊎ ((more : List ℕ) × (b ≡ front ++ more)) → ⊥
    ends_where (inl g) =
        let enough = h.to_come S g.0 (subst (λ (x : List ℕ). Frame mode limits S x) g.1 f) in
        omega (arith, enough, less, ap (λ (x : List ℕ). length x) g.2, length-append g.0 back)
    ends_where (inr g) = k.no_front S front g.0 g.1 f

needed_by : (r : Reader) (s : State) (b : List ℕ) (n : ℕ) → r.state ≡ s → IsReading s → StandsFor r b → Needs r s n → IsNeeded r.mode r.limits b n
needed_by r failed b n e h k needs = absurd h
needed_by r (refusing fault) b n e h k needs = absurd h
needed_by r (reading rest taken) b n e h k needs = needs b k

pub some_needed : (r : Reader) (b : List ℕ) (n : ℕ) → IsReading r.state → StandsFor r b → Needs r r.state n → 0 < n
some_needed r b n h k needs = (needed_by r r.state b n refl h k needs).some

pub none_sooner : (r : Reader) (n : ℕ) → Needs r r.state n → NoneSooner r n
none_sooner r n needs b piece h k less = needed_in r.mode r.limits b n piece (needed_by r r.state b n refl h k needs) (open_of r.mode r.limits r.state b h k) less

-- a frame of the bytes and no more than are needed ends with the last of them
pub ends_there : (r : Reader) (n : ℕ) (b piece : List ℕ) (S : List (List ℕ)) (front back : List ℕ) → NoneSooner r n → IsReading r.state → StandsFor r b → 0 < n → length piece ≤ n
    → b ++ piece ≡ front ++ back → Frame r.mode r.limits S front → back ≡ []
ends_there r n b piece S front [] h k s some few e f = refl
ends_there r n b [] S front (x ∷ back) h k s some few e f = absurd (h b [] k s some S front (x ∷ back) e f)
ends_there r n b (p ∷ piece) S front (x ∷ back) h k s some few e f =
    let whole = ends p piece in
    let following = ends x back in
    let cut : (b ++ whole.0) ++ whole.1 ∷ [] ≡ (front ++ following.0) ++ following.1 ∷ [] =
    append_assoc b whole.0 (whole.1 ∷ []) ∙ ap (λ (zs : List ℕ). b ++ zs) (sym whole.2) ∙ e ∙ ap (λ (zs : List ℕ). front ++ zs) following.2 ∙ sym (append_assoc front following.0 (following.1 ∷ [])) in
    let size : length (p ∷ piece) ≡ length whole.0 + 1 = ap (λ (zs : List ℕ). length zs) whole.2 ∙ length-append whole.0 (whole.1 ∷ []) in
    absurd (h b whole.0 k s (omega (arith, size, few)) S front following.0 (same_fronts (b ++ whole.0) (front ++ following.0) whole.1 following.1 cut) f)

-- the frame that comes is of all bytes
pub first_frame : (r r' : Reader) (n : ℕ) (b piece : List ℕ) (g : ℕ × List (List ℕ)) (gs : List (ℕ × List (List ℕ))) → NoneSooner r n → 0 < n → length piece ≤ n → StandsFor r b
    → Gives r piece r' (g ∷ gs) → Frame r.mode r.limits g.1 (b ++ piece)
first_frame r r' n b piece g gs h some few s k =
    let all = k.frames b s in
    let none = ends_there r n b piece g.1 all.1.0 all.1.1 h k.was_reading s some few all.1.2 all.1.4 in
    let whole : b ++ piece ≡ all.1.0 = all.1.2 ∙ ap (λ (zs : List ℕ). all.1.0 ++ zs) none ∙ append-nil all.1.0 in
    subst (λ (x : List ℕ). Frame r.mode r.limits g.1 x) (sym whole) all.1.4

not_refusing : (s : State) → (IsRefusing s → ⊥) → (mode : Mode) (limits : Bounds) (b : List ℕ) → Stands mode limits s b → IsReading s
not_refusing failed h mode limits b k = absurd k
not_refusing (refusing fault) h mode limits b k = absurd (h tt)
not_refusing (reading rest taken) h mode limits b k = tt

pub taken_length : (mode : Mode) (limits : Bounds) (s : State) (b : List ℕ) → IsReading s → Stands mode limits s b → taken_of s ≡ length b
taken_length mode limits failed b h k = absurd h
taken_length mode limits (refusing fault) b h k = absurd h
taken_length mode limits (reading rest taken) b h k = k.1

-- no frame came: all bytes are stood for
pub still_open : (r r' : Reader) (b piece : List ℕ) → StandsFor r b → Gives r piece r' [] → StandsFor r' (b ++ piece)
still_open r r' b piece s k =
    let all = k.frames b s in
    subst (λ (x : List ℕ). StandsFor r' x) (sym all.1) all.2

pub still_reading : (r r' : Reader) (b piece : List ℕ) → StandsFor r b → Gives r piece r' [] → IsReading r'.state
still_reading r r' b piece s k = not_refusing r'.state (λ h. k.kept h refl) r'.mode r'.limits (b ++ piece) (still_open r r' b piece s k)

fault_told : (mode : Mode) (limits : Bounds) (new : Option (List ℕ)) (b : List ℕ) (fault : FrameFault) → HasFault mode limits b fault → IsNoFrame mode limits new b fault
fault_told mode limits new b faults.TooManySegments h = h
fault_told mode limits new b faults.FrameTooLarge h = h
fault_told mode limits new b faults.Truncated h = absurd h.2
fault_told mode limits new b faults.RunPastFrame h = h
fault_told mode limits new b faults.Failed h = h
fault_told mode limits new b faults.OutOfMemory h = tt

told_by : (r : Reader) (piece b : List ℕ) (new : Option (List ℕ)) (s : State) (fault : FrameFault) → r.state ≡ s → IsReading s → StandsFor r b → IsReportedFor r piece s fault → IsNoFrame r.mode r.limits new (b ++ piece) fault
told_by r piece b new failed fault e h k t = absurd h
told_by r piece b new (refusing kept) fault e h k t = absurd h
told_by r piece b new (reading rest taken) fault e h k (inl t) = subst (λ (f : FrameFault). IsNoFrame r.mode r.limits new (b ++ piece) f) (sym t) tt
told_by r piece b new (reading rest taken) fault e h k (inr t) = fault_told r.mode r.limits new (b ++ piece) fault (t b k)

-- a fault that is told is one of the bytes
pub told_frame : (r r' : Reader) (piece b : List ℕ) (new : Option (List ℕ)) (fault : FrameFault) → IsReading r.state → StandsFor r b → Reports r piece r' fault → IsNoFrame r.mode r.limits new (b ++ piece) fault
told_frame r r' piece b new fault h k t = told_by r piece b new r.state fault refl h k t.reported

pub map_err : {X E : Type 0} (r : Result X E) (P Q : E → Type 0) → ((e : E) → P e → Q e) → IfErr r P → IfErr r Q
map_err (Ok x) P Q h k = tt
map_err (Err e) P Q h k = h e k

pub map_if_ok : {X E : Type 0} (r : Result X E) (P Q : X → Type 0) → ((x : X) → P x → Q x) → IfOk r P → IfOk r Q
map_if_ok (Ok x) P Q h k = h x k
map_if_ok (Err e) P Q h k = tt

pub map_ok : {X E : Type 0} (r : Result X E) (P Q : Type 0) → (P → Q) → OnOk r P → OnOk r Q
map_ok (Ok x) P Q h k = h k
map_ok (Err e) P Q h k = tt

pub first_of_list : {X : Type 0} (xs : List X) (d : X) → 0 < length xs → xs ≡ slice_index_or xs 0 d ∷ drop 1 xs
first_of_list [] d h = absurd (omega (arith, h))
first_of_list (x ∷ xs) d h = refl

nil_of : {X : Type 0} (xs : List X) → length xs ≡ 0 → xs ≡ []
nil_of xs e = nil_from_length xs (omega (arith, e))

-- the reader's bytes end inside a frame
pub ends_inside : (mode : Mode) (limits : Bounds) (old mid new : Option (List ℕ)) (failures begun counted : ℕ) (r : Reader) (fault : StreamFault)
    → ReadsOn mode limits old mid failures begun r → Consumes mid new [] → IsAtEnd new → counted ≡ begun
    → (fault ≡ Refused 0 (refusals.Frame faults.Truncated)) × ((b : List ℕ) → StandsFor r b → b ≢ [])
    → StopsAt (RefusesFrame mode limits new) old new failures counted fault
ends_inside mode limits old mid new failures begun counted r fault h k end c t =
    let is_open = open_of r.mode r.limits r.state h.bytes h.reading h.stands in
    let there : Open mode limits h.bytes = subst (λ (l : Bounds). Open mode l h.bytes) h.same_limits (subst (λ (m : Mode). Open m r.limits h.bytes) h.same_mode is_open) in
    let all = subst (λ (x : List ℕ). Consumes old new x) (append-nil h.bytes) (consumes_more old mid new h.bytes [] h.consumed k) in
    subst (λ (f : StreamFault). StopsAt (RefusesFrame mode limits new) old new failures counted f) (sym t.0) (refl, c ∙ h.counted, h.bytes, all, (t.1 h.bytes h.stands, there, end))

-- a frame came whole
pub comes_whole : (mode : Mode) (limits : Bounds) (old mid new : Option (List ℕ)) (failures begun n : ℕ) (r r' : Reader) (piece : List ℕ) (given : List (ℕ × List (List ℕ))) (g : ℕ × List (List ℕ))
    → ReadsOn mode limits old mid failures begun r → Consumes mid new piece → NoneSooner r n → 0 < n → length piece ≤ n → Gives r piece r' given → 0 < length given → g ≡ slice_index_or given 0 g
    → (b : List ℕ) × Consumes old new b × Frame mode limits g.1 b
comes_whole mode limits old mid new failures begun n r r' piece given g h k none some few gives more e =
    let cons = first_of_list given g more ∙ ap (λ (x : ℕ × List (List ℕ)). x ∷ drop 1 given) (sym e) in
    let frame = first_frame r r' n h.bytes piece g (drop 1 given) none some few h.stands (subst (λ (gs : List (ℕ × List (List ℕ))). Gives r piece r' gs) cons gives) in
    let there = subst (λ (l : Bounds). Frame mode l g.1 (h.bytes ++ piece)) h.same_limits (subst (λ (m : Mode). Frame m r.limits g.1 (h.bytes ++ piece)) h.same_mode frame) in
    (h.bytes ++ piece, consumes_more old mid new h.bytes piece h.consumed k, there)

-- no frame came yet
pub goes_on : (mode : Mode) (limits : Bounds) (old mid new : Option (List ℕ)) (failures begun counted : ℕ) (r r' : Reader) (piece : List ℕ) (given : List (ℕ × List (List ℕ)))
    → ReadsOn mode limits old mid failures begun r → Consumes mid new piece → counted ≡ begun → Gives r piece r' given → length given ≡ 0 → ReadsOn mode limits old new failures counted r'
goes_on mode limits old mid new failures begun counted r r' piece given h k c gives e =
    let none = subst (λ (gs : List (ℕ × List (List ℕ))). Gives r piece r' gs) (nil_of given e) gives in
    record {
      same_mode = gives.same_mode ∙ h.same_mode;
      same_limits = gives.same_limits ∙ h.same_limits;
      reading = still_reading r r' h.bytes piece h.stands none;
      counted = c ∙ h.counted;
      bytes = h.bytes ++ piece;
      consumed = consumes_more old mid new h.bytes piece h.consumed k;
      stands = still_open r r' h.bytes piece h.stands none;
    }

-- and more bytes have come
pub takes_more : (mode : Mode) (limits : Bounds) (old mid : Option (List ℕ)) (failures begun : ℕ) (r r' : Reader) (piece : List ℕ) (given : List (ℕ × List (List ℕ)))
    → ReadsOn mode limits old mid failures begun r → Gives r piece r' given → length given ≡ 0 → taken_of r'.state ≡ taken_of r.state + length piece
takes_more mode limits old mid failures begun r r' piece given h gives e =
    let none = subst (λ (gs : List (ℕ × List (List ℕ))). Gives r piece r' gs) (nil_of given e) gives in
    let after = taken_length r'.mode r'.limits r'.state (h.bytes ++ piece) (still_reading r r' h.bytes piece h.stands none) (still_open r r' h.bytes piece h.stands none) in
    omega (arith, after, taken_length r.mode r.limits r.state h.bytes h.reading h.stands, length-append h.bytes piece)

-- a fault was told
pub stops_there : (mode : Mode) (limits : Bounds) (old mid new : Option (List ℕ)) (failures begun counted : ℕ) (r r' : Reader) (piece : List ℕ) (fault : FrameFault)
    → ReadsOn mode limits old mid failures begun r → Consumes mid new piece → counted ≡ begun → Reports r piece r' fault
    → StopsAt (RefusesFrame mode limits new) old new failures counted (Refused 0 (refusals.Frame fault))
stops_there mode limits old mid new failures begun counted r r' piece fault h k c t =
    let told = told_frame r r' piece h.bytes new fault h.reading h.stands t in
    let there = subst (λ (l : Bounds). IsNoFrame mode l new (h.bytes ++ piece) fault) h.same_limits (subst (λ (m : Mode). IsNoFrame m r.limits new (h.bytes ++ piece) fault) h.same_mode told) in
    (refl, c ∙ h.counted, h.bytes ++ piece, consumes_more old mid new h.bytes piece h.consumed k, there)

-- the message of a frame that was read is refused
pub refused_message : (mode : Mode) (limits : Bounds) (old new : Option (List ℕ)) (failures counted : ℕ) (S : List (List ℕ)) (refusal : Refusal)
    → ReadsFrame mode limits old new (Some S) → counted ≡ failures → IsMemory refusal ⊎ HoldsNone limits S refusal
    → StopsAt (RefusesMessage mode limits new) old new failures counted (Refused 0 refusal)
refused_message mode limits old new failures counted S refusal h c (inl k) = (refl, c, h.0, h.1, inl k)
refused_message mode limits old new failures counted S refusal h c (inr k) = (refl, c, h.0, h.1, inr (inr (S, h.2, k)))
