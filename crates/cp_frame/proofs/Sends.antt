-- Bytes that go out to a writer, after others.
use Rattle.std.proofs.Common.{◌≡◌, ℕ, ◌+◌, ◌<◌, ◌≤◌, List, [], ◌++◌, length, take, get_or, Option, Some, None, Result, Ok, Err, OnOk, refl, sym, ap, subst, ◌∙◌, append_assoc}
use Rattle.std.proofs.lemmas.List.{append-nil}
use Rattle.std.specs.Global.{Vec}
use Rattle.std.specs.Io.KnownBytes.{Appends}
use Rattle.cp_words.specs.Limits.{Bounds}
use Rattle.cp_frame.specs.declared.mode.Mode.{Mode}
use Rattle.cp_frame.specs.declared.mode.Mode.TheVariants as modes
use Rattle.cp_packed.specs.Words.{bytes_of}
use Rattle.cp_frame.specs.Frame.{IsWithin, Written, padded_table}
use Rattle.cp_packed.specs.Packed.{Spelt}
use Rattle.cp_packed.specs.Packing.{PutsFront, PutsSpelt}
use Rattle.cp_words.specs.Segments.{words_of}
use Rattle.cp_frame.specs.Sending.{Moves, Sends, SendsForm, SendsSpelt}
use Rattle.cp_frame.proofs.Pieces.{WritesPieces, pieces_none, pieces_more, pieces_all, written_alone}
use Rattle.cp_packed.proofs.Sparing.{front_none, front_all}

pub appends_none : (held : Option (List ℕ)) → Appends held held []
appends_none None = tt
appends_none (Some xs) = sym (append-nil xs)

pub appends_both : (old mid new : Option (List ℕ)) (a b : List ℕ) → Appends old mid a → Appends mid new b → Appends old new (a ++ b)
appends_both None mid new a b h k = tt
appends_both (Some xs) None new a b h k = absurd h
appends_both (Some xs) (Some ys) None a b h k = absurd k
appends_both (Some xs) (Some ys) (Some zs) a b h k = k ∙ ap (λ (c : List ℕ). c ++ b) h ∙ append_assoc xs a b

-- where nothing goes out
pub moves_none : (old new : Option (List ℕ)) (buffer : List ℕ) → old ≡ new → Moves old new buffer buffer
moves_none old new buffer e = ([], subst (λ (held : Option (List ℕ)). Appends old held []) e (appends_none old), refl)

-- where all goes out
pub moves_all : (old new : Option (List ℕ)) (before after : List ℕ) → Appends old new before → after ≡ [] → Moves old new before after
moves_all old new before after h e = (before, h, sym (ap (λ (b : List ℕ). before ++ b) e ∙ append-nil before))

-- groups that were put in the buffer, of which a part went out
pub record SendsFront (old new : Option (List ℕ)) (before after words left : List ℕ) : Type 0 where
  pub sent : List ℕ
  pub appends : Appends old new sent
  pub puts : PutsFront before (sent ++ after) words left

-- groups, and more after them
front_both : (old mid new words left back : List ℕ) → PutsFront old mid words left → PutsFront mid new left back → PutsFront old new words back
front_both old mid new words left back h k = record {
  front = h.front ++ k.front;
  text = k.text ∙ ap (λ (b : List ℕ). b ++ k.front) h.text ∙ append_assoc old h.front k.front;
  goes = λ b s. subst (λ (c : List ℕ). Spelt words c) (sym (append_assoc h.front k.front b)) (h.goes (k.front ++ b) (k.goes b s));
}

front_after : (sent old new words back : List ℕ) → PutsFront old new words back → PutsFront (sent ++ old) (sent ++ new) words back
front_after sent old new words back h = record { front = h.front; text = ap (λ (b : List ℕ). sent ++ b) h.text ∙ sym (append_assoc sent old h.front); goes = h.goes }

pub sends_front : (held mid new : Option (List ℕ)) (before buffer filled after words left back : List ℕ) → SendsFront held mid before buffer words left → PutsFront buffer filled left back → Moves mid new filled after
    → SendsFront held new before after words back
sends_front held mid new before buffer filled after words left back h p m =
    let all : h.sent ++ filled ≡ (h.sent ++ m.0) ++ after = ap (λ (b : List ℕ). h.sent ++ b) m.2 ∙ sym (append_assoc h.sent m.0 after) in
    let more = front_both before (h.sent ++ buffer) (h.sent ++ filled) words left back h.puts (front_after h.sent buffer filled left back p) in
    record {
      sent = h.sent ++ m.0;
      appends = appends_both held mid new h.sent m.0 h.appends m.1;
      puts = subst (λ (b : List ℕ). PutsFront before b words back) all more;
    }

pub sends_none : (held : Option (List ℕ)) (buffer words : List ℕ) → SendsFront held held buffer buffer words words
sends_none held buffer words = record { sent = []; appends = appends_none held; puts = front_none buffer words }

pub sends_all : (held new : Option (List ℕ)) (before after words left : List ℕ) → SendsFront held new before after words left → length left ≡ 0 → SendsSpelt held new before after words
sends_all held new before after words left h e = (h.sent, h.appends, front_all before (h.sent ++ after) words left h.puts e)

-- the table and some segments, of which a part went out
pub record SendsPieces (held new : Option (List ℕ)) (head : List ℕ) (S : List (List ℕ)) (buffer : List ℕ) : Type 0 where
  pub sent : List ℕ
  pub appends : Appends held new sent
  pub writes : WritesPieces [] head S (sent ++ buffer)

pub sends_table : (held : Option (List ℕ)) (head buffer : List ℕ) → PutsSpelt [] buffer head → SendsPieces held held head [] buffer
sends_table held head buffer h = record { sent = []; appends = appends_none held; writes = pieces_none head [] [] buffer refl h }

spelt_after : (sent before after words : List ℕ) → PutsSpelt before after words → PutsSpelt (sent ++ before) (sent ++ after) words
spelt_after sent before after words h = (h.0, h.1, ap (λ (b : List ℕ). sent ++ b) h.2 ∙ sym (append_assoc sent before h.0))

pub sends_piece : (held mid new : Option (List ℕ)) (head : List ℕ) (vs : List (Vec ℕ)) (i : ℕ) (v : Vec ℕ) (words before after : List ℕ) → i < length vs → v ≡ get_or vs i v → words ≡ v.items
    → SendsPieces held mid head (take i (words_of vs)) before → SendsSpelt mid new before after words → SendsPieces held new head (take (i + 1) (words_of vs)) after
sends_piece held mid new head vs i v words before after l r e h k =
    let more : PutsSpelt (h.sent ++ before) ((h.sent ++ k.0) ++ after) words =
    subst (λ (b : List ℕ). PutsSpelt (h.sent ++ before) b words) (sym (append_assoc h.sent k.0 after)) (spelt_after h.sent before (k.0 ++ after) words k.2) in
    record {
      sent = h.sent ++ k.0;
      appends = appends_both held mid new h.sent k.0 h.appends k.1;
      writes = pieces_more [] head vs i v words (h.sent ++ before) ((h.sent ++ k.0) ++ after) l r e h.writes more;
    }

pub sends_pieces : (held mid new : Option (List ℕ)) (head : List ℕ) (S : List (List ℕ)) (i : ℕ) (buffer : List ℕ) → padded_table S ≡ bytes_of head → length S ≤ i → SendsPieces held mid head (take i S) buffer
    → Appends mid new buffer → SendsForm modes.Packed S held new
sends_pieces held mid new head S i buffer e l h k = (h.sent ++ buffer, written_alone S (h.sent ++ buffer) (pieces_all [] head S i (h.sent ++ buffer) e l h.writes), appends_both held mid new h.sent buffer h.appends k)

-- what holds at an `Ok`, and what follows from it
pub on_ok_then : {X E A B : Type 0} (r : Result X E) → (A → B) → OnOk r A → OnOk r B
on_ok_then (Ok x) f h = f h
on_ok_then (Err e) f h = tt

-- a frame within the limits that went out
pub sends_within : {X E : Type 0} (r : Result X E) (mode : Mode) (limits : Bounds) (S T : List (List ℕ)) (held new : Option (List ℕ)) → IsWithin limits S → S ≡ T → OnOk r (SendsForm mode S held new) → OnOk r (Sends mode limits T held new)
sends_within r mode limits S T held new w e h =
    on_ok_then r (λ sent. (sent.0, subst (λ (U : List (List ℕ)). Written mode limits U sent.0) e (record { within = w; form = sent.1 }), sent.2)) h
