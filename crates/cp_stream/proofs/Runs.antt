-- A stream of messages has one reading, and pieces give what the whole gives.
use Rattle.std.proofs.Common.{◌≡◌, inl, inr, ℕ, ◌+◌, ◌^◌, ◌<◌, List, [], ◌∷◌, ◌++◌, length, refl, sym, ◌∙◌, ap, subst, append_assoc, length-append, append-nil, arith}
use Rattle.cp_words.specs.Limits.{Bounds}
use Rattle.cp_frame.specs.declared.mode.Mode.{Mode}
use Rattle.cp_frame.specs.Runs.{joined}
use Rattle.cp_messages.specs.declared.message.Message.{Message}
use Rattle.cp_stream.specs.Stream.{Holds, Front, Messages, Stream, HasFault}
use Rattle.cp_stream.specs.Reader.{State, failed, refusing, reading, Reader, Stands, StandsFor, IsReading, IsMemory, IsReportedFor, Reads}
use Rattle.cp_stream.specs.Runs.{HasOneFront, IsOneStream, Fed, GivesStream, ReportsRest, GivesSame}
use Rattle.cp_stream.specs.declared.fault.Refusal.{Refusal}
use Rattle.cp_stream.proofs.Only.{one_front, one_message, fault_holds}

pub has_one_front : (mode : Mode) → HasOneFront mode
has_one_front mode limits b n count m other f g =
    let one = one_front mode limits f.4.0 g.4.0 f.0 g.0 f.1 g.1 f.4.1 g.4.1 (sym f.2 ∙ g.2) in
    (f.3 ∙ ap length one.1 ∙ sym g.3, one_message limits g.4.0 m other (subst (λ (S : List (List ℕ)). Holds limits S m) one.0 f.4.2) g.4.2)

abbrev NoMore : Mode → Bounds → List ℕ → Type 0
NoMore mode limits b = (n : ℕ) (m : Message) → ¬ (Front mode limits b n m)

one_reading : (mode : Mode) (limits : Bounds) (b : List ℕ) (ms others : List Message) (rest other : List ℕ)
    → Messages mode limits b ms rest → NoMore mode limits rest → Messages mode limits b others other → NoMore mode limits other → (ms ≡ others) × (rest ≡ other)
one_reading mode limits b [] [] rest other h nh k nk = (refl, sym h ∙ k)
one_reading mode limits b [] (o ∷ others) rest other h nh k nk = absurd (nh (length k.0) o (k.0, k.1, sym h ∙ k.2, refl, k.3))
one_reading mode limits b (m ∷ ms) [] rest other h nh k nk = absurd (nk (length h.0) m (h.0, h.1, sym k ∙ h.2, refl, h.3))
one_reading mode limits b (m ∷ ms) (o ∷ others) rest other h nh k nk =
    let one = one_front mode limits h.3.0 k.3.0 h.0 k.0 h.1 k.1 h.3.1 k.3.1 (sym h.2 ∙ k.2) in
    let same : m ≡ o = one_message limits k.3.0 m o (subst (λ (S : List (List ℕ)). Holds limits S m) one.0 h.3.2) k.3.2 in
    let later = one_reading mode limits k.1 ms others rest other (subst (λ (x : List ℕ). Messages mode limits x ms rest) one.2 h.4) nh k.4 nk in
    (cc (same, later.0), later.1)

pub is_one_stream : (mode : Mode) → IsOneStream mode
is_one_stream mode limits b ms others rest other h k = one_reading mode limits b ms others rest other h.messages h.no_more k.messages k.no_more

-- what a reader stands for begins with no message
stands_no_front : (mode : Mode) (limits : Bounds) (state : State) (b : List ℕ) → Stands mode limits state b → NoMore mode limits b
stands_no_front mode limits failed b h n m f = h
stands_no_front mode limits (refusing refusal) b h n m f = fault_holds mode limits b f.0 f.1 m refusal h f.2 f.4
stands_no_front mode limits (reading rest taken) b h n m f = h.2.no_front f.4.0 f.0 f.1 f.2 f.4.1

-- the messages up to a rest, and those of that rest and what follows it, are those of the whole
cut : (mode : Mode) (limits : Bounds) (a b : List ℕ) (first second : List Message) (rest last : List ℕ)
    → Messages mode limits a first rest → Messages mode limits (rest ++ b) second last → Messages mode limits (a ++ b) (first ++ second) last
cut mode limits a b [] second rest last h k = subst (λ (x : List ℕ). Messages mode limits (x ++ b) second last) (sym h) k
cut mode limits a b (m ∷ more) second rest last h k =
    (h.0, h.1 ++ b, ap (λ x. x ++ b) h.2 ∙ append_assoc h.0 h.1 b, h.3, cut mode limits h.1 b more second rest last h.4 k)

cut_reads : (mode : Mode) (limits : Bounds) (a b : List ℕ) (first second : List Message) (rest last : List ℕ) (old mid new : ℕ)
    → Reads mode limits a first rest old mid → Reads mode limits (rest ++ b) second last mid new → Reads mode limits (a ++ b) (first ++ second) last old new
cut_reads mode limits a b first second rest last old mid new h k = record {
  messages = cut mode limits a b first second rest last h.messages k.messages;
  taken = h.taken + k.taken;
  splits = omega (arith, h.splits, k.splits, length-append a b, length-append rest b);
  counts = omega (arith, h.counts, k.counts);
}

nothing_read : (mode : Mode) (limits : Bounds) (b : List ℕ) (at : ℕ) → at < 2 ^ 64 → Reads mode limits (b ++ []) [] b at at
nothing_read mode limits b at h = record { messages = append-nil b; taken = 0; splits = omega (arith, length-append b []); counts = omega (arith, h) }

same_form : (old new : Reader) (pieces : List (List ℕ)) (given : List Message) → Fed old pieces given new → (new.mode ≡ old.mode) × (new.limits ≡ old.limits)
same_form old new [] given h = (ap (λ (r : Reader). r.mode) h.1, ap (λ (r : Reader). r.limits) h.1)
same_form old new (piece ∷ pieces) given h = let later = same_form h.2 new pieces h.1 h.4 in (later.0 ∙ h.3.same_mode, later.1 ∙ h.3.same_limits)

reads_all : (old new : Reader) (pieces : List (List ℕ)) (given : List Message) (b : List ℕ) → old.at < 2 ^ 64 → StandsFor old b → Fed old pieces given new
    → (rest : List ℕ) × Reads old.mode old.limits (b ++ joined pieces) given rest old.at new.at × StandsFor new rest
reads_all old new [] given b small h k =
    let reads = nothing_read old.mode old.limits b old.at small in
    let counted = subst (λ (r : Reader). Reads old.mode old.limits (b ++ []) [] b old.at r.at) (sym k.1) reads in
    (b, subst (λ (ms : List Message). Reads old.mode old.limits (b ++ []) ms b old.at new.at) (sym k.0) counted, subst (λ (r : Reader). StandsFor r b) (sym k.1) h)
reads_all old new (piece ∷ pieces) given b small h k =
    let one = k.3.messages b h in
    let few : k.2.at < 2 ^ 64 = omega (arith, one.1.counts) in
    let later = reads_all k.2 new pieces k.1 one.0 few one.2 k.4 in
    let moded = subst (λ (mode : Mode). Reads mode k.2.limits (one.0 ++ joined pieces) k.1 later.0 k.2.at new.at) k.3.same_mode later.1 in
    let limited = subst (λ (limits : Bounds). Reads old.mode limits (one.0 ++ joined pieces) k.1 later.0 k.2.at new.at) k.3.same_limits moded in
    let all = cut_reads old.mode old.limits (b ++ piece) (joined pieces) k.0 k.1 one.0 later.0 old.at k.2.at new.at one.1 limited in
    let whole = subst (λ (ms : List Message). Reads old.mode old.limits ((b ++ piece) ++ joined pieces) ms later.0 old.at new.at) (sym k.5) all in
    (later.0, subst (λ (x : List ℕ). Reads old.mode old.limits x given later.0 old.at new.at) (append_assoc b piece (joined pieces)) whole, later.2)

-- after pieces a reader stands in the form and the limits of its beginning
stands_as : (old new : Reader) (pieces : List (List ℕ)) (given : List Message) (rest : List ℕ) → Fed old pieces given new → StandsFor new rest → Stands old.mode old.limits new.state rest
stands_as old new pieces given rest h k =
    let same = same_form old new pieces given h in
    subst (λ (limits : Bounds). Stands old.mode limits new.state rest) same.1 (subst (λ (mode : Mode). Stands mode new.limits new.state rest) same.0 k)

pub gives_stream : GivesStream
gives_stream old new pieces given b small h k =
    let all = reads_all old new pieces given b small h k in
    let stands = stands_as old new pieces given all.0 k all.2 in
    (all.0, record { messages = all.1.messages; no_more = stands_no_front old.mode old.limits new.state all.0 stands }, all.1, all.2)

pub gives_same : GivesSame
gives_same old new other pieces others given gotten b small h k m same =
    let one = gives_stream old new pieces given b small h k in
    let two = gives_stream old other others gotten b small h m in
    let second = subst (λ (x : List ℕ). Stream old.mode old.limits (b ++ x) gotten two.0) (sym same) two.1 in
    let read = is_one_stream old.mode old.limits (b ++ joined pieces) given gotten one.0 two.0 one.1 second in
    let left = one.2.splits in
    let right = two.2.splits in
    let long : length (b ++ joined pieces) ≡ length (b ++ joined others) = ap (λ (x : List ℕ). length (b ++ x)) same in
    let rests : length one.0 ≡ length two.0 = ap (λ (x : List ℕ). length x) read.1 in
    let taken : one.2.taken ≡ two.2.taken = omega arith in
    (read.0, omega (arith, one.2.counts, two.2.counts, taken), one.0, one.3, subst (λ (x : List ℕ). StandsFor other x) (sym read.1) two.3)

-- while a stream is read, a fault that is reported is that of the rest
reported_of : (r : Reader) (piece : List ℕ) (state : State) (refusal : Refusal) → IsReading state → IsReportedFor r piece state refusal → ¬ (IsMemory refusal)
    → (b : List ℕ) → StandsFor r b → HasFault r.mode r.limits (b ++ piece) refusal
reported_of r piece failed refusal h k n = absurd h
reported_of r piece (refusing kept) refusal h k n = absurd h
reported_of r piece (reading rest taken) refusal h (inl k) n = absurd (n k)
reported_of r piece (reading rest taken) refusal h (inr k) n = k

pub reports_rest : ReportsRest
reports_rest old mid new pieces piece given at refusal b small h k r t n =
    let all = reads_all old mid pieces given b small h k in
    let same = same_form old mid pieces given k in
    let here = reported_of mid piece mid.state refusal r t.reported.1 n all.0 all.2 in
    let moded = subst (λ (mode : Mode). HasFault mode mid.limits (all.0 ++ piece) refusal) same.0 here in
    let there = subst (λ (limits : Bounds). HasFault old.mode limits (all.0 ++ piece) refusal) same.1 moded in
    let longer = cut old.mode old.limits (b ++ joined pieces) piece given [] all.0 (all.0 ++ piece) all.1.messages refl in
    let whole = subst (λ (x : List ℕ). Messages old.mode old.limits x (given ++ []) (all.0 ++ piece)) (append_assoc b (joined pieces) piece) longer in (
      all.0 ++ piece,
      record {
        messages = subst (λ (ms : List Message). Messages old.mode old.limits (b ++ (joined pieces ++ piece)) ms (all.0 ++ piece)) (append-nil given) whole;
        no_more = λ n m f. fault_holds old.mode old.limits (all.0 ++ piece) f.0 f.1 m refusal there f.2 f.4;
      },
      there,
    )
