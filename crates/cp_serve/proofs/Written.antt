-- Messages that go out one after another.
use Rattle.std.proofs.Common.{◌≡◌, None, Some, inl, ℕ, List, [], ◌∷◌, ◌++◌, Option, refl, sym, ap, ◌∙◌, subst, append-nil, append_assoc}
use Rattle.std.specs.Io.KnownBytes.{Appends, append_known}
use Rattle.std.proofs.KnownBytes.{Appends-nil, Appends-trans}
use Rattle.cp_frame.specs.declared.mode.Mode.{Mode}
use Rattle.cp_messages.specs.declared.message.Message.{Message}
use Rattle.cp_connection.specs.Effects.{AreFramesOf}
use Rattle.cp_serve.specs.Reached.{ahead}
use Rattle.cp_serve.specs.Output.{Device, AreWrittenAs, Writes, Begin, WritesPart}

are_both : (mode : Mode) (a b : List Message) (x y : List ℕ) → AreWrittenAs mode a x → AreWrittenAs mode b y → AreWrittenAs mode (a ++ b) (x ++ y)
are_both mode [] b x y h k = subst (λ (z : List ℕ). AreWrittenAs mode b (z ++ y)) (sym h) k
are_both mode (m ∷ a) b x y h k = (h.0, h.1 ++ y, ap (λ (z : List ℕ). z ++ y) h.2 ∙ append_assoc h.0 h.1 y, h.3, are_both mode a b h.1 y h.4 k)

-- the frames of messages are what these are written as
framed : (mode : Mode) (ms : List Message) (b : List ℕ) → AreFramesOf mode ms b → AreWrittenAs mode ms b
framed mode [] b h = h
framed mode (m ∷ more) b h = (h.0, h.1, h.2, h.3, framed mode more h.1 h.4)

begin_more : (mode : Mode) (a more : List Message) (b : List ℕ) → Begin mode a b → Begin mode (a ++ more) b
begin_more mode [] [] b h = h
begin_more mode [] (m ∷ more) b h = inl h
begin_more mode (x ∷ a) more b h = h

-- a block grew
grown : (known : Option (List ℕ)) (old new b : List ℕ) → new ≡ old ++ b → Appends (append_known known old) (append_known known new) b
grown None old new b e = tt
grown (Some x) old new b e = ap (λ (l : List ℕ). x ++ l) e ∙ sym (append_assoc x old b)

known_none : (known : Option (List ℕ)) → append_known known [] ≡ known
known_none None = refl
known_none (Some x) = ap (λ (l : List ℕ). Some l) (append-nil x)

-- without bytes it is the device
pub ahead_none : (to : Device) (block : List ℕ) → block ≡ [] → ahead to block ≡ to
ahead_none to block none =
    ap (λ (x : List ℕ). ahead to x) none ∙ ap (λ (o : Option (List ℕ)). record { bytes = o; failures = to.failures }) (known_none to.bytes)

-- frames that come after others go out after them
pub queued : (mode : Mode) (ms : List Message) (b old new : List ℕ) (to : Device) → AreFramesOf mode ms b → new ≡ old ++ b → Writes mode ms (ahead to old) (ahead to new)
queued mode ms b old new to frames e = record { bytes = b; frames = framed mode ms b frames; appends = grown to.bytes old new b e; counted = refl }

module _ {mode : Mode} where
  pub writes_none : (held : Device) → Writes mode [] held held
  writes_none held = record { bytes = []; frames = refl; appends = Appends-nil held.bytes; counted = refl }

  pub writes_both : {a b : List Message} (old mid new : Device) → Writes mode a old mid → Writes mode b mid new → Writes mode (a ++ b) old new
  writes_both {a = a} {b = b} old mid new h k = record {
    bytes = h.bytes ++ k.bytes;
    frames = are_both mode a b h.bytes k.bytes h.frames k.frames;
    appends = Appends-trans old.bytes mid.bytes new.bytes h.bytes k.bytes h.appends k.appends;
    counted = k.counted ∙ h.counted;
  }

  -- what is all written is written in part
  pub writes_all : {a : List Message} (old new : Device) → Writes mode a old new → WritesPart mode a old new
  writes_all {a = a} old new h = record {
    first = a;
    others = [];
    splits = sym (append-nil a);
    bytes = h.bytes;
    part = [];
    frames = h.frames;
    begin = refl;
    appends = subst (λ (x : List ℕ). Appends old.bytes new.bytes x) (sym (append-nil h.bytes)) h.appends;
  }

  -- a part after what was all written, whatever was to follow
  pub part_after : (a b more : List Message) (old mid new : Device) → Writes mode a old mid → WritesPart mode b mid new → WritesPart mode (a ++ (b ++ more)) old new
  part_after a b more old mid new h k = record {
    first = a ++ k.first;
    others = k.others ++ more;
    splits = ap (λ (x : List Message). a ++ (x ++ more)) k.splits ∙ ap (λ (x : List Message). a ++ x) (append_assoc k.first k.others more) ∙ sym (append_assoc a k.first (k.others ++ more));
    bytes = h.bytes ++ k.bytes;
    part = k.part;
    frames = are_both mode a k.first h.bytes k.bytes h.frames k.frames;
    begin = begin_more mode k.others more k.part k.begin;
    appends = subst (λ (x : List ℕ). Appends old.bytes new.bytes x) (sym (append_assoc h.bytes k.bytes k.part)) (Appends-trans old.bytes mid.bytes new.bytes h.bytes (k.bytes ++ k.part) h.appends k.appends);
  }

  pub part_later : (a b : List Message) (old mid new : Device) → Writes mode a old mid → WritesPart mode b mid new → WritesPart mode (a ++ b) old new
  part_later a b old mid new h k = subst (λ (x : List Message). WritesPart mode (a ++ x) old new) (append-nil b) (part_after a b [] old mid new h k)
