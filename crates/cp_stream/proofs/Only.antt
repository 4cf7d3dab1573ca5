-- Bytes that are known leave one answer of what is read of them.
use Rattle.std.proofs.Common.{◌≡◌, ◌≢◌, ◌⊎◌, inl, inr, ℕ, List, [], ◌++◌, Option, Some, None, length, take, Result, Ok, Err, IfOk, IfErr, refl, sym, ◌∙◌, ap, subst, length-append, append-nil, arith}
use Rattle.std.proofs.Math.Seq.{take-append_seam}
use Rattle.std.proofs.lemmas.List.{nil_from_length}
use Rattle.std.proofs.lemmas.Option.{none-some}
use Rattle.std.specs.Io.KnownBytes.{Consumes, IsAtEnd}
use Rattle.cp_words.specs.Limits.{Bounds}
use Rattle.cp_tree.specs.Node.{Node}
use Rattle.cp_reading.proofs.OneTree.{denotes_one}
use Rattle.cp_frame.specs.declared.mode.Mode.{Mode}
use Rattle.cp_frame.specs.declared.mode.Mode.TheVariants as modes
use Rattle.cp_frame.specs.declared.fault.FrameFault.{FrameFault}
use Rattle.cp_frame.specs.declared.fault.FrameFault.TheVariants as frames
use Rattle.cp_packed.specs.Words.{AreBytes}
use Rattle.cp_frame.specs.Frame.{Frame}
use Rattle.cp_frame.specs.Stream as streams
use Rattle.cp_packed.specs.Unpacking.{nothing}
use Rattle.cp_frame.proofs.Framing.{length_framed}
use Rattle.cp_packed.proofs.Laying.{pending_nothing}
use Rattle.cp_frame.proofs.Streams.{OneFront, one_front_plain, plain_fault, fault_stays_plain}
use Rattle.cp_frame.proofs.Groups.{one_front_packed}
use Rattle.cp_frame.proofs.Rests.{one_fault_packed, fault_stays_packed, two_fronts}
use Rattle.cp_frame.proofs.Whole.{one_fault_plain}
use Rattle.cp_frame.proofs.Certain.{are_back, packed_are}
use Rattle.cp_frame.proofs.Cuts.{no_front_of}
use Rattle.cp_frame.proofs.Texts.{open_packed}
use Rattle.cp_messages.specs.Denoted.{message_denoted}
use Rattle.cp_messages.specs.Faults.{message_faults}
use Rattle.cp_rpc.specs.Answers.{first_of}
use Rattle.cp_messages.specs.declared.message.Message.{Message}
use Rattle.cp_stream.specs.declared.fault.Refusal.{Refusal}
use Rattle.cp_stream.specs.declared.fault.Refusal.TheVariants as refusals
use Rattle.cp_stream.specs.declared.fault.StreamFault.{StreamFault}
use Rattle.cp_stream.specs.declared.fault.StreamFault.TheVariants as faults
use Rattle.cp_stream.specs.Stream.{Holds, HoldsNone, IsFrameOf, HasFault}
use Rattle.cp_stream.specs.Reader.{IsMemory}
use Rattle.cp_stream.specs.Read.{ReadsFrame, ReadsMessage, IsNoFrame, RefusesFrame, RefusesMessage, StopsAt, OnlyFrame, OnlyMessage}

-- ---- frames

pub one_front : (mode : Mode) → OneFront mode
one_front modes.Plain = one_front_plain
one_front modes.Packed = one_front_packed

one_fault : (mode : Mode) → streams.HasOneFault mode
one_fault modes.Plain = one_fault_plain
one_fault modes.Packed = one_fault_packed

fault_stays : (mode : Mode) (limits : Bounds) (b more : List ℕ) (fault : FrameFault) → AreBytes more → streams.HasFault mode limits b fault → streams.HasFault mode limits (b ++ more) fault
fault_stays modes.Plain limits b more fault are h = fault_stays_plain limits b more fault tt h
fault_stays modes.Packed limits b more fault are h = fault_stays_packed limits b more fault are h

-- no bytes are an open rest
no_front_nil : (limits : Bounds) → streams.NoFront modes.Plain limits []
no_front_nil limits S front back e k = omega (arith, length_framed S front k.form, ap (λ (x : List ℕ). length x) e, length-append front back)

no_fault_nil : (limits : Bounds) (fault : FrameFault) → streams.NamesFault limits [] fault → ⊥
no_fault_nil limits frames.TooManySegments h = h
no_fault_nil limits frames.FrameTooLarge h = h
no_fault_nil limits frames.Truncated h = h
no_fault_nil limits frames.RunPastFrame h = h
no_fault_nil limits frames.Failed h = h
no_fault_nil limits frames.OutOfMemory h = h

pub open_nil : (mode : Mode) (limits : Bounds) → streams.Open mode limits []
open_nil modes.Plain limits = record { no_front = no_front_nil limits; no_fault = λ fault h. no_fault_nil limits fault (plain_fault limits [] fault h) }
open_nil modes.Packed limits = open_packed limits [] [] nothing tt (record { words = refl; open_then = refl }) pending_nothing (no_front_nil limits) tt

-- what follows in a frame, of packed bytes, are bytes
in_frame : (mode : Mode) (limits : Bounds) (S : List (List ℕ)) (b more : List ℕ) (fault : FrameFault) → Frame mode limits S (b ++ more) → streams.HasFault mode limits b fault → streams.HasFault mode limits (b ++ more) fault
in_frame modes.Plain limits S b more fault f h = fault_stays_plain limits b more fault tt h
in_frame modes.Packed limits S b more fault f h = fault_stays_packed limits b more fault (are_back b more (packed_are f.form.0 (b ++ more) f.form.2)) h

-- bytes of which some have a fault begin with no frame
no_front_past : (mode : Mode) (limits : Bounds) (b rest : List ℕ) (fault : FrameFault) → streams.HasFault mode limits b fault → streams.NoFront mode limits (b ++ rest)
no_front_past mode limits b rest fault h S front back e f = go (two_fronts b rest front back e)
  where
    go : ((z : List ℕ) × (b ≡ front ++ z)) ⊎ ((z : List ℕ) × (front ≡ b ++ z)) → ⊥
    go (inl k) = no_front_of mode limits b fault h S front k.0 k.1 f
    go (inr k) =
        let g = subst (λ (x : List ℕ). Frame mode limits S x) k.1 f in
        no_front_of mode limits (b ++ k.0) fault (in_frame mode limits S b k.0 fault g h) S (b ++ k.0) [] (sym (append-nil (b ++ k.0))) g

-- what was read of known bytes, and the rest
rest_of : (bytes : List ℕ) (new : Option (List ℕ)) (b : List ℕ) → Consumes (Some bytes) new b → (rest : List ℕ) × (bytes ≡ b ++ rest)
rest_of bytes None b h = absurd h
rest_of bytes (Some rest) b h = (rest, h)

all_of : (bytes : List ℕ) (new : Option (List ℕ)) (b : List ℕ) → Consumes (Some bytes) new b → IsAtEnd new → bytes ≡ b
all_of bytes None b h end = absurd h
all_of bytes (Some rest) b h end = h ∙ ap (λ (x : List ℕ). b ++ x) end ∙ append-nil b

-- why bytes that were read are no frame
data Why (mode : Mode) (limits : Bounds) (new : Option (List ℕ)) (b : List ℕ) (fault : FrameFault) : Type 0 where
  inside : (is : fault ≡ frames.Truncated) (some : b ≢ []) (rest : streams.Open mode limits b) (end : IsAtEnd new) → Why mode limits new b fault
  memory : (is : fault ≡ frames.OutOfMemory) → Why mode limits new b fault
  faulty : (has : streams.HasFault mode limits b fault) → Why mode limits new b fault

why : (mode : Mode) (limits : Bounds) (new : Option (List ℕ)) (b : List ℕ) (fault : FrameFault) → IsNoFrame mode limits new b fault → Why mode limits new b fault
why mode limits new b frames.TooManySegments h = faulty h
why mode limits new b frames.FrameTooLarge h = faulty h
why mode limits new b frames.Truncated h = inside refl h.0 h.1 h.2
why mode limits new b frames.RunPastFrame h = faulty h
why mode limits new b frames.Failed h = faulty h
why mode limits new b frames.OutOfMemory h = memory refl

is_memory : (fault : FrameFault) → fault ≡ frames.OutOfMemory → IsMemory (refusals.Frame fault)
is_memory fault e = inl (ap refusals.Frame e)

-- bytes that begin with a frame are refused only where an allocation fails
front_memory : (mode : Mode) (limits : Bounds) (bytes : List ℕ) (new : Option (List ℕ)) (b : List ℕ) (refusal : Refusal) (S : List (List ℕ)) (front back : List ℕ) → bytes ≡ front ++ back → Frame mode limits S front
    → Consumes (Some bytes) new b → RefusesFrame mode limits new b refusal → IsMemory refusal
front_memory mode limits bytes new b (refusals.Frame fault) S front back e f h k = go (why mode limits new b fault k)
  where
    go : Why mode limits new b fault → IsMemory (refusals.Frame fault)
    go (inside is some rest end) = absurd (rest.no_front S front back (sym (all_of bytes new b h end) ∙ e) f)
    go (memory is) = is_memory fault is
    go (faulty has) = let r = rest_of bytes new b h in absurd (no_front_past mode limits b r.0 fault has S front back (sym r.1 ∙ e) f)
front_memory mode limits bytes new b (refusals.Tree fault) S front back e f h k = absurd k
front_memory mode limits bytes new b (refusals.Schema fault) S front back e f h k = absurd k
front_memory mode limits bytes new b (refusals.Write fault) S front back e f h k = absurd k

-- no bytes too
nil_memory : (mode : Mode) (limits : Bounds) (bytes : List ℕ) (new : Option (List ℕ)) (b : List ℕ) (refusal : Refusal) → bytes ≡ [] → Consumes (Some bytes) new b → RefusesFrame mode limits new b refusal → IsMemory refusal
nil_memory mode limits bytes new b (refusals.Frame fault) e h k =
    let r = rest_of bytes new b h in
    let none : b ≡ [] = nil_from_length b (omega (arith, ap (λ (x : List ℕ). length x) (sym r.1 ∙ e), length-append b r.0)) in
    go none (why mode limits new b fault k)
  where
    go : b ≡ [] → Why mode limits new b fault → IsMemory (refusals.Frame fault)
    go none (inside is some rest end) = absurd (some none)
    go none (memory is) = is_memory fault is
    go none (faulty has) = absurd ((open_nil mode limits).no_fault fault (subst (λ (x : List ℕ). streams.HasFault mode limits x fault) none has))
nil_memory mode limits bytes new b (refusals.Tree fault) e h k = absurd k
nil_memory mode limits bytes new b (refusals.Schema fault) e h k = absurd k
nil_memory mode limits bytes new b (refusals.Write fault) e h k = absurd k

-- an open rest is refused as one that ends
open_refused : (mode : Mode) (limits : Bounds) (bytes : List ℕ) (new : Option (List ℕ)) (b : List ℕ) (refusal : Refusal) → AreBytes bytes → streams.Open mode limits bytes → Consumes (Some bytes) new b → RefusesFrame mode limits new b refusal
    → IsMemory refusal ⊎ (refusal ≡ refusals.Frame frames.Truncated)
open_refused mode limits bytes new b (refusals.Frame fault) are o h k = go (why mode limits new b fault k)
  where
    go : Why mode limits new b fault → IsMemory (refusals.Frame fault) ⊎ (refusals.Frame fault ≡ refusals.Frame frames.Truncated)
    go (inside is some rest end) = inr (ap refusals.Frame is)
    go (memory is) = inl (is_memory fault is)
    go (faulty has) =
        let r = rest_of bytes new b h in
        let all = fault_stays mode limits b r.0 fault (are_back b r.0 (subst AreBytes r.1 are)) has in
        absurd (o.no_fault fault (subst (λ (x : List ℕ). streams.HasFault mode limits x fault) (sym r.1) all))
open_refused mode limits bytes new b (refusals.Tree fault) are o h k = absurd k
open_refused mode limits bytes new b (refusals.Schema fault) are o h k = absurd k
open_refused mode limits bytes new b (refusals.Write fault) are o h k = absurd k

-- what is refused, and isn't open, has the fault
fault_refused : (mode : Mode) (limits : Bounds) (bytes : List ℕ) (new : Option (List ℕ)) (b : List ℕ) (refusal : Refusal) → AreBytes bytes → (streams.Open mode limits bytes → ⊥) → Consumes (Some bytes) new b
    → RefusesFrame mode limits new b refusal → IsMemory refusal ⊎ ((fault : FrameFault) × (refusal ≡ refusals.Frame fault) × streams.HasFault mode limits bytes fault)
fault_refused mode limits bytes new b (refusals.Frame fault) are o h k = go (why mode limits new b fault k)
  where
    go : Why mode limits new b fault → IsMemory (refusals.Frame fault) ⊎ ((other : FrameFault) × (refusals.Frame fault ≡ refusals.Frame other) × streams.HasFault mode limits bytes other)
    go (inside is some rest end) = absurd (o (subst (λ (x : List ℕ). streams.Open mode limits x) (sym (all_of bytes new b h end)) rest))
    go (memory is) = inl (is_memory fault is)
    go (faulty has) =
        let r = rest_of bytes new b h in
        let all = fault_stays mode limits b r.0 fault (are_back b r.0 (subst AreBytes r.1 are)) has in
        inr (fault, refl, subst (λ (x : List ℕ). streams.HasFault mode limits x fault) (sym r.1) all)
fault_refused mode limits bytes new b (refusals.Tree fault) are o h k = absurd k
fault_refused mode limits bytes new b (refusals.Schema fault) are o h k = absurd k
fault_refused mode limits bytes new b (refusals.Write fault) are o h k = absurd k

module _ (mode : Mode) (limits : Bounds) (bytes : List ℕ) (new : Option (List ℕ)) (failures failed : ℕ) (are : AreBytes bytes) where
  -- nothing was read, and nothing is left
  nil_read : Consumes (Some bytes) new [] × IsAtEnd new → bytes ≡ []
  nil_read h = all_of bytes new [] h.0 h.1

  frame_ok : (x : Option (List (List ℕ))) → ReadsFrame mode limits (Some bytes) new x → OnlyFrame mode limits bytes (Some bytes) new (Ok x)
  frame_ok None h = record {
    frame = λ S front back e f. (open_nil mode limits).no_front S front back (sym (nil_read h) ∙ e) f;
    end = λ e. tt;
    inside = λ some o. some (nil_read h);
    fault = λ fault k. (open_nil mode limits).no_fault fault (subst (λ (y : List ℕ). streams.HasFault mode limits y fault) (nil_read h) k);
  }
  frame_ok (Some S) h =
      let r = rest_of bytes new h.0 h.1 in
      record {
        frame = λ T front back e f.
            let one = one_front mode limits S T h.0 front r.0 back h.2 f (sym r.1 ∙ e) in (one.0, subst (λ (x : List ℕ). Consumes (Some bytes) new x) one.1 h.1);
        end = λ e. (open_nil mode limits).no_front S h.0 r.0 (sym e ∙ r.1) h.2;
        inside = λ some o. o.no_front S h.0 r.0 r.1 h.2;
        fault = λ fault k. no_front_of mode limits bytes fault k S h.0 r.0 r.1 h.2;
      }

  frame_err : (fault : StreamFault) → StopsAt (RefusesFrame mode limits new) (Some bytes) new failures failed fault → OnlyFrame mode limits bytes (Some bytes) new (Err fault)
  frame_err (faults.Refused at refusal) h = record {
    frame = λ S front back e f. front_memory mode limits bytes new h.2 refusal S front back e f h.3 h.4;
    end = λ e. nil_memory mode limits bytes new h.2 refusal e h.3 h.4;
    inside = λ some o. open_refused mode limits bytes new h.2 refusal are o h.3 h.4;
    fault = λ fault k. told fault k (fault_refused mode limits bytes new h.2 refusal are (λ o. o.no_fault fault k) h.3 h.4);
  }
    where
      told : (fault : FrameFault) → streams.HasFault mode limits bytes fault → IsMemory refusal ⊎ ((other : FrameFault) × (refusal ≡ refusals.Frame other) × streams.HasFault mode limits bytes other)
          → IsMemory refusal ⊎ (refusal ≡ refusals.Frame fault)
      told fault k (inl m) = inl m
      told fault k (inr m) = inr (m.1 ∙ ap refusals.Frame (one_fault mode limits bytes m.0 fault m.2 k))
  frame_err (faults.Device error) h = record { frame = λ S front back e f. tt; end = λ e. tt; inside = λ some o. tt; fault = λ fault k. tt }

pub only_frame : (mode : Mode) (limits : Bounds) (old new : Option (List ℕ)) (failures failed : ℕ) (result : Result (Option (List (List ℕ))) StreamFault) → IfOk result (ReadsFrame mode limits old new)
    → IfErr result (StopsAt (RefusesFrame mode limits new) old new failures failed) → (bytes : List ℕ) → AreBytes bytes → old ≡ Some bytes → OnlyFrame mode limits bytes old new result
only_frame mode limits old new failures failed (Ok x) h k bytes are e =
    subst (λ (o : Option (List ℕ)). OnlyFrame mode limits bytes o new (Ok x)) (sym e) (frame_ok mode limits bytes new failures failed are x (subst (λ (o : Option (List ℕ)). ReadsFrame mode limits o new x) e h))
only_frame mode limits old new failures failed (Err fault) h k bytes are e =
    subst (λ (o : Option (List ℕ)). OnlyFrame mode limits bytes o new (Err fault)) (sym e)
    (frame_err mode limits bytes new failures failed are fault (subst (λ (o : Option (List ℕ)). StopsAt (RefusesFrame mode limits new) o new failures failed fault) e k))

-- ---- messages

-- segments hold one message at most
pub one_message : (limits : Bounds) (S : List (List ℕ)) (m other : Message) → Holds limits S m → Holds limits S other → m ≡ other
one_message limits S m other h k =
    let same = denotes_one S 0 0 h.tree k.tree h.root.denoted k.root.denoted in
    h.says.said ∙ ap message_denoted same ∙ sym k.says.said

-- and then nothing says that they hold none
holds_one : (limits : Bounds) (S : List (List ℕ)) (m : Message) (refusal : Refusal) → Holds limits S m → HoldsNone limits S refusal → ⊥
holds_one limits S m (refusals.Frame fault) h k = k
holds_one limits S m (refusals.Tree fault) h k = k.0 h.tree h.root
holds_one limits S m (refusals.Schema fault) h k =
    let same = denotes_one S 0 0 h.tree k.0 h.root.denoted k.1.denoted in
    no_first (subst (λ (t : Node). first_of (message_faults t) ≡ Some fault) (sym same) k.2)
  where
    no_first : first_of (message_faults h.tree) ≡ Some fault → ⊥
    no_first e = none-some fault (sym (ap first_of h.says.sound) ∙ e)
holds_one limits S m (refusals.Write fault) h k = k

-- one front, and what its segments hold
same_front : (mode : Mode) (limits : Bounds) (S T : List (List ℕ)) (front back other rest : List ℕ) → Frame mode limits S front → Frame mode limits T other → front ++ back ≡ other ++ rest → (P : List (List ℕ) → List ℕ → Type 0) → P S front → P T other
same_front mode limits S T front back other rest f g e P p =
    let one = one_front mode limits S T front other back rest f g e in
    subst (λ (x : List ℕ). P T x) one.1 (subst (λ (U : List (List ℕ)). P U front) one.0 p)

-- a fault of the bytes says that they aren't open, and that no frame which holds a message begins them
fault_closed : (mode : Mode) (limits : Bounds) (bytes : List ℕ) (refusal : Refusal) → HasFault mode limits bytes refusal → streams.Open mode limits bytes → ⊥
fault_closed mode limits bytes (refusals.Frame fault) h o = o.no_fault fault h
fault_closed mode limits bytes (refusals.Tree fault) h o = o.no_front h.0 h.1 h.2 h.3 h.4
fault_closed mode limits bytes (refusals.Schema fault) h o = o.no_front h.0 h.1 h.2 h.3 h.4
fault_closed mode limits bytes (refusals.Write fault) h o = o.no_front h.0 h.1 h.2 h.3 h.4

pub fault_holds : (mode : Mode) (limits : Bounds) (bytes b rest : List ℕ) (m : Message) (refusal : Refusal) → HasFault mode limits bytes refusal → bytes ≡ b ++ rest → IsFrameOf mode limits b m → ⊥
fault_holds mode limits bytes b rest m (refusals.Frame fault) h e f = no_front_of mode limits bytes fault h f.0 b rest e f.1
fault_holds mode limits bytes b rest m (refusals.Tree fault) h e f =
    holds_one limits f.0 m (refusals.Tree fault) f.2 (same_front mode limits h.0 f.0 h.1 h.2 b rest h.4 f.1 (sym h.3 ∙ e) (λ S x. HoldsNone limits S (refusals.Tree fault)) h.5)
fault_holds mode limits bytes b rest m (refusals.Schema fault) h e f =
    holds_one limits f.0 m (refusals.Schema fault) f.2 (same_front mode limits h.0 f.0 h.1 h.2 b rest h.4 f.1 (sym h.3 ∙ e) (λ S x. HoldsNone limits S (refusals.Schema fault)) h.5)
fault_holds mode limits bytes b rest m (refusals.Write fault) h e f = h.5

-- a frame that holds none is a fault
has_fault : (mode : Mode) (limits : Bounds) (bytes b rest : List ℕ) (S : List (List ℕ)) (refusal : Refusal) → bytes ≡ b ++ rest → Frame mode limits S b → HoldsNone limits S refusal → HasFault mode limits bytes refusal
has_fault mode limits bytes b rest S (refusals.Frame fault) e f h = absurd h
has_fault mode limits bytes b rest S (refusals.Tree fault) e f h = (S, b, rest, e, f, h)
has_fault mode limits bytes b rest S (refusals.Schema fault) e f h = (S, b, rest, e, f, h)
has_fault mode limits bytes b rest S (refusals.Write fault) e f h = absurd h

module _ (mode : Mode) (limits : Bounds) (bytes : List ℕ) (new : Option (List ℕ)) (failures failed : ℕ) (are : AreBytes bytes) where
  none_read : Consumes (Some bytes) new [] × IsAtEnd new → bytes ≡ []
  none_read h = all_of bytes new [] h.0 h.1

  message_ok : (x : Option Message) → ReadsMessage mode limits (Some bytes) new x → OnlyMessage mode limits bytes (Some bytes) new (Ok x)
  message_ok None h = record {
    message = λ n m f. (open_nil mode limits).no_front f.4.0 f.0 f.1 (sym (none_read h) ∙ f.2) f.4.1;
    end = λ e. tt;
    inside = λ some o. some (none_read h);
    fault = λ refusal k. fault_closed mode limits bytes refusal k (subst (λ (x : List ℕ). streams.Open mode limits x) (sym (none_read h)) (open_nil mode limits));
  }
  message_ok (Some m) h =
      let r = rest_of bytes new h.0 h.1 in
      let g = h.2 in
      record {
        message = λ n other f.
            let k = f.4 in
            let holds = same_front mode limits g.0 k.0 h.0 r.0 f.0 f.1 g.1 k.1 (sym r.1 ∙ f.2) (λ S x. Holds limits S m × Consumes (Some bytes) new x) (g.2, h.1) in
            let taken : take n bytes ≡ f.0 = ap (λ (i : ℕ). take i bytes) f.3 ∙ ap (λ (x : List ℕ). take (length f.0) x) f.2 ∙ take-append_seam f.0 f.1 in
            (one_message limits k.0 m other holds.0 k.2, subst (λ (x : List ℕ). Consumes (Some bytes) new x) (sym taken) holds.1);
        end = λ e. (open_nil mode limits).no_front g.0 h.0 r.0 (sym e ∙ r.1) g.1;
        inside = λ some o. o.no_front g.0 h.0 r.0 r.1 g.1;
        fault = λ refusal k. fault_holds mode limits bytes h.0 r.0 m refusal k r.1 g;
      }

  message_refused : (at : ℕ) (b : List ℕ) (refusal : Refusal) → Consumes (Some bytes) new b → RefusesMessage mode limits new b refusal → OnlyMessage mode limits bytes (Some bytes) new (Err (faults.Refused at refusal))
  message_refused at b refusal h (inl k) = record { message = λ n m f. k; end = λ e. k; inside = λ some o. inl k; fault = λ other f. inl k }
  message_refused at b refusal h (inr (inl k)) = record {
    message = λ n m f. front_memory mode limits bytes new b refusal f.4.0 f.0 f.1 f.2 f.4.1 h k;
    end = λ e. nil_memory mode limits bytes new b refusal e h k;
    inside = λ some o. open_refused mode limits bytes new b refusal are o h k;
    fault = λ other f. told (fault_refused mode limits bytes new b refusal are (fault_closed mode limits bytes other f) h k);
  }
    where
      told : IsMemory refusal ⊎ ((fault : FrameFault) × (refusal ≡ refusals.Frame fault) × streams.HasFault mode limits bytes fault) → IsMemory refusal ⊎ HasFault mode limits bytes refusal
      told (inl m) = inl m
      told (inr m) = inr (subst (λ (x : Refusal). HasFault mode limits bytes x) (sym m.1) m.2)
  message_refused at b refusal h (inr (inr k)) =
      let r = rest_of bytes new b h in
      record {
        message = λ n m f.
            absurd (holds_one limits f.4.0 m refusal f.4.2 (same_front mode limits k.0 f.4.0 b r.0 f.0 f.1 k.1 f.4.1 (sym r.1 ∙ f.2) (λ S x. HoldsNone limits S refusal) k.2));
        end = λ e. absurd ((open_nil mode limits).no_front k.0 b r.0 (sym e ∙ r.1) k.1);
        inside = λ some o. absurd (o.no_front k.0 b r.0 r.1 k.1);
        fault = λ other f. inr (has_fault mode limits bytes b r.0 k.0 refusal r.1 k.1 k.2);
      }

  message_err : (fault : StreamFault) → StopsAt (RefusesMessage mode limits new) (Some bytes) new failures failed fault → OnlyMessage mode limits bytes (Some bytes) new (Err fault)
  message_err (faults.Refused at refusal) h = message_refused at h.2 refusal h.3 h.4
  message_err (faults.Device error) h = record { message = λ n m f. tt; end = λ e. tt; inside = λ some o. tt; fault = λ refusal k. tt }

pub only_message : (mode : Mode) (limits : Bounds) (old new : Option (List ℕ)) (failures failed : ℕ) (result : Result (Option Message) StreamFault) → IfOk result (ReadsMessage mode limits old new)
    → IfErr result (StopsAt (RefusesMessage mode limits new) old new failures failed) → (bytes : List ℕ) → AreBytes bytes → old ≡ Some bytes → OnlyMessage mode limits bytes old new result
only_message mode limits old new failures failed (Ok x) h k bytes are e =
    subst (λ (o : Option (List ℕ)). OnlyMessage mode limits bytes o new (Ok x)) (sym e) (message_ok mode limits bytes new failures failed are x (subst (λ (o : Option (List ℕ)). ReadsMessage mode limits o new x) e h))
only_message mode limits old new failures failed (Err fault) h k bytes are e =
    subst (λ (o : Option (List ℕ)). OnlyMessage mode limits bytes o new (Err fault)) (sym e)
    (message_err mode limits bytes new failures failed are fault (subst (λ (o : Option (List ℕ)). StopsAt (RefusesMessage mode limits new) o new failures failed fault) e k))
