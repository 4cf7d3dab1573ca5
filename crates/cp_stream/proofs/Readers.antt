-- What a reader of messages did with a piece, and what it stands for.
use Rattle.std.proofs.Common.{◌≡◌, ◌≢◌, ◌⊎◌, inl, inr, ℕ, List, [], ◌∷◌, ◌++◌, length, refl, sym, ap, subst, arith}
use Rattle.cp_words.specs.Limits.{Bounds}
use Rattle.cp_frame.specs.declared.mode.Mode.{Mode}
use Rattle.cp_frame.specs.declared.fault.FrameFault.{FrameFault}
use Rattle.cp_frame.specs.Reader as frames
use Rattle.cp_messages.specs.declared.message.Message.{Message}
use Rattle.cp_stream.specs.declared.fault.Refusal.{Refusal}
use Rattle.cp_stream.specs.declared.fault.Refusal.TheVariants as refusals
use Rattle.cp_stream.specs.declared.fault.StreamFault.TheVariants as faults
use Rattle.cp_stream.specs.declared.status.ReaderStatus.TheVariants as statuses
use Rattle.cp_stream.specs.Stream.{HasFault, Messages}
use Rattle.cp_stream.specs.Reader.{Stands, IsReading, IsRefusing, IsMemory, IsReportedFor, IsReportedAtEnd, Gives, Reports, EndsWell, ReportsAtEnd, Reader}
use Rattle.cp_stream.specs.Kept.{seen, frames_state, ReadsPiece, RefusesPiece}

pub stands_in : (mode : Mode) (limits : Bounds) (s : frames.State) (b : List ℕ) → Stands mode limits (frames_state s) b → frames.Stands mode limits s b
stands_in mode limits frames.failed b h = h
stands_in mode limits (frames.refusing fault) b h = h
stands_in mode limits (frames.reading rest taken) b h = h

pub stands_out : (mode : Mode) (limits : Bounds) (s : frames.State) (b : List ℕ) → frames.Stands mode limits s b → Stands mode limits (frames_state s) b
stands_out mode limits frames.failed b h = h
stands_out mode limits (frames.refusing fault) b h = h
stands_out mode limits (frames.reading rest taken) b h = h

pub is_reading : (s : frames.State) → frames.IsReading s → IsReading (frames_state s)
is_reading frames.failed h = h
is_reading (frames.refusing fault) h = h
is_reading (frames.reading rest taken) h = h

pub was_refusing : (s : frames.State) → IsRefusing (frames_state s) → frames.IsRefusing s
was_refusing frames.failed h = h
was_refusing (frames.refusing fault) h = h
was_refusing (frames.reading rest taken) h = h

-- as many as there are of another list, which is not empty
pub none_of : {A B : Type 0} (xs : List A) (ys : List B) → length xs ≡ length ys → ys ≢ [] → xs ≢ []
none_of {A} {B} xs [] e h = λ k. h refl
none_of {A} {B} xs (y ∷ ys) e h = λ k. omega (arith, e, ap (λ (zs : List A). length zs) k)

pub gives_all : (r r' : frames.Reader) (piece : List ℕ) (ms : List Message) (at reached : ℕ) → ReadsPiece r.limits r piece r' ms at reached
    → Gives (seen statuses.Reading r at) piece (seen statuses.Reading r' reached) ms
gives_all r r' piece ms at reached h = record {
  was_reading = is_reading r.state h.1.was_reading;
  same_mode = h.1.same_mode;
  same_limits = h.1.same_limits;
  messages = λ b k.
      let given = h.1.frames b (stands_in r.mode r.limits r.state b k) in
      (given.0, h.2.reads r.mode (b ++ piece) given.0 given.1, stands_out r'.mode r'.limits r'.state given.0 given.2);
  kept = λ k. none_of ms h.0 h.2.each (h.1.kept (was_refusing r'.state k));
}

pub gives_before : (r r' : frames.Reader) (piece : List ℕ) (ms : List Message) (at reached : ℕ) (refusal : Refusal) → RefusesPiece r.limits r piece r' ms at reached refusal
    → (IsMemory refusal → ⊥) → ms ≢ [] → Gives (seen statuses.Reading r at) piece (seen (statuses.Refusing refusal) r' reached) ms
gives_before r r' piece ms at reached refusal (inl h) n e = absurd (e h.3)
gives_before r r' piece ms at reached refusal (inr (given, g, inl h)) n e = absurd (n h)
gives_before r r' piece ms at reached refusal (inr (given, g, inr h)) n e = record {
  was_reading = is_reading r.state g.was_reading;
  same_mode = g.same_mode;
  same_limits = g.same_limits;
  messages = λ b k.
      let all = g.frames b (stands_in r.mode r.limits r.state b k) in
      let found = h r.mode (b ++ piece) all.0 all.1 in
      let there = subst (λ (l : Bounds). HasFault r.mode l found.0 refusal) (sym g.same_limits) found.2 in
      (found.0, found.1, subst (λ (m : Mode). HasFault m r'.limits found.0 refusal) (sym g.same_mode) there);
  kept = λ k. e;
}

pub told_frames : (r : frames.Reader) (at : ℕ) (piece : List ℕ) (s : frames.State) (fault : FrameFault) → r.state ≡ s → frames.IsReportedFor r piece s fault
    → IsReportedFor (seen statuses.Reading r at) piece (frames_state s) (refusals.Frame fault)
told_frames r at piece frames.failed fault e h = ap refusals.Frame h
told_frames r at piece (frames.refusing kept) fault e h = ap refusals.Frame h
told_frames r at piece (frames.reading rest taken) fault e (inl h) = inl (inl (ap refusals.Frame h))
told_frames r at piece (frames.reading rest taken) fault e (inr h) = inr (λ b k. h b (stands_in r.mode r.limits r.state b k))

pub told_memory : (r : Reader) (piece : List ℕ) (s : frames.State) (refusal : Refusal) → frames.IsReading s → IsMemory refusal → IsReportedFor r piece (frames_state s) refusal
told_memory r piece frames.failed refusal h k = absurd h
told_memory r piece (frames.refusing fault) refusal h k = absurd h
told_memory r piece (frames.reading rest taken) refusal h k = inl k

pub told_fault : (r : frames.Reader) (at : ℕ) (piece : List ℕ) (s : frames.State) (refusal : Refusal) → r.state ≡ s → frames.IsReading s
    → ((b : List ℕ) → frames.StandsFor r b → HasFault r.mode r.limits (b ++ piece) refusal) → IsReportedFor (seen statuses.Reading r at) piece (frames_state s) refusal
told_fault r at piece frames.failed refusal e h k = absurd h
told_fault r at piece (frames.refusing fault) refusal e h k = absurd h
told_fault r at piece (frames.reading rest taken) refusal e h k = inr (λ b g. k b (stands_in r.mode r.limits r.state b g))

pub told_for : (r r' : frames.Reader) (piece : List ℕ) (ms : List Message) (at reached : ℕ) (refusal : Refusal) → RefusesPiece r.limits r piece r' ms at reached refusal
    → IsMemory refusal ⊎ (ms ≡ []) → IsReportedFor (seen statuses.Reading r at) piece (frames_state r.state) refusal
told_for r r' piece ms at reached refusal (inl (fault, e, told, none)) k =
    subst (λ (x : Refusal). IsReportedFor (seen statuses.Reading r at) piece (frames_state r.state) x) (sym e) (told_frames r at piece r.state fault refl told.reported)
told_for r r' piece ms at reached refusal (inr (given, g, inl h)) k = told_memory (seen statuses.Reading r at) piece r.state refusal g.was_reading h
told_for r r' piece ms at reached refusal (inr (given, g, inr h)) (inl k) = told_memory (seen statuses.Reading r at) piece r.state refusal g.was_reading k
told_for r r' piece ms at reached refusal (inr (given, g, inr h)) (inr k) =
    told_fault r at piece r.state refusal refl g.was_reading (λ b stands.
    let all = g.frames b stands in
    let found = h r.mode (b ++ piece) all.0 all.1 in
    let none = subst (λ (ns : List Message). Messages r.mode r.limits (b ++ piece) ns found.0) k found.1.messages in
    subst (λ (x : List ℕ). HasFault r.mode r.limits x refusal) (sym none) found.2)

pub reports : (r r' : frames.Reader) (piece : List ℕ) (ms : List Message) (at reached : ℕ) (refusal : Refusal) → RefusesPiece r.limits r piece r' ms at reached refusal
    → IsMemory refusal ⊎ (ms ≡ []) → Reports (seen statuses.Reading r at) piece (seen statuses.Failed r' at) (faults.Refused at refusal)
reports r r' piece ms at reached refusal h k = record { reported = (refl, told_for r r' piece ms at reached refusal h k); failed = refl; same = refl }

pub ends_well : (r r' : frames.Reader) (at : ℕ) → frames.EndsWell r r' → EndsWell (seen statuses.Reading r at) (seen statuses.Reading r' at)
ends_well r r' at h = record {
  was_reading = is_reading r.state h.was_reading;
  same = ap (λ (x : frames.Reader). seen statuses.Reading x at) h.same;
  nothing = λ b k. h.nothing b (stands_in r.mode r.limits r.state b k);
}

pub told_end : (r : frames.Reader) (at : ℕ) (s : frames.State) (fault : FrameFault) → r.state ≡ s → frames.IsReportedAtEnd r s fault
    → IsReportedAtEnd (seen statuses.Reading r at) (frames_state s) (refusals.Frame fault)
told_end r at frames.failed fault e h = ap refusals.Frame h
told_end r at (frames.refusing kept) fault e h = ap refusals.Frame h
told_end r at (frames.reading rest taken) fault e h = (ap refusals.Frame h.0, λ b k. h.1 b (stands_in r.mode r.limits r.state b k))

pub reports_at_end : (r r' : frames.Reader) (at : ℕ) (fault : FrameFault) → frames.ReportsAtEnd r r' fault
    → ReportsAtEnd (seen statuses.Reading r at) (seen statuses.Failed r' at) (faults.Refused at (refusals.Frame fault))
reports_at_end r r' at fault h = record { reported = (refl, told_end r at r.state fault refl h.reported); failed = refl; same = refl }
