-- The tickets of calls, where entries of answers and questions change.
use Rattle.std.specs.Prelude.{◌≡◌, refl, ℕ, ◌==◌, Bool, true, false, Option, Some, None, IsTrue}
use Rattle.std.specs.FinMap.{get, insert, remove}
use Rattle.std.proofs.Common.{sym, ◌∙◌}
use Rattle.cp_tables.specs.Table.{Table}
use Rattle.cp_tables.specs.declared.exchange.Exchange.{Exchange}
use Rattle.cp_refs.specs.declared.call.Origin.{Origin}
use Rattle.cp_refs.specs.declared.call.Origin.TheVariants as origins
use Rattle.cp_vat_machine.specs.State.{State}
use Rattle.cp_vat_machine.specs.Local.{is_open_stage, is_origin, IsTicketOf, ForwardsRightly}
use Rattle.cp_vat_machine.specs.declared.entry.AnswerEntry.{AnswerEntry}
use Rattle.cp_vat_machine.specs.declared.entry.QuestionEntry.{QuestionEntry}
use Rattle.cp_vat_machine.proofs.Basics.{some_out, none_out, is_equal, put_at, gone_at}

-- an answer or an own question without an outcome, whose call has this ticket
abbrev pub AnswerTicket : Table (Exchange AnswerEntry) → ℕ → ℕ → Type 0
AnswerTicket answers a ticket =
    (entry : Exchange AnswerEntry) × (get answers a ≡ Some entry) × IsTrue (is_open_stage entry.stage) × (entry.kept.ticket ≡ Some ticket)

abbrev pub QuestionTicket : Table (Exchange QuestionEntry) → ℕ → ℕ → Type 0
QuestionTicket questions q ticket =
    (entry : Exchange QuestionEntry) × (get questions q ≡ Some entry) × IsTrue (is_open_stage entry.stage) × (entry.kept.ticket ≡ Some ticket)
    × (entry.kept.forwards ≡ None)

-- tickets that all stay
pub tickets_stay : (s new : State) → ((a t : ℕ) → AnswerTicket s.entries.answers a t → AnswerTicket new.entries.answers a t)
    → ((q t : ℕ) → QuestionTicket s.entries.questions q t → QuestionTicket new.entries.questions q t) → (origin : Origin) (t : ℕ) → IsTicketOf s origin t
    → IsTicketOf new origin t
tickets_stay s new answers questions (origins.Answer a) t h = answers a t h
tickets_stay s new answers questions (origins.Own q) t h = questions q t h

pub forwards_stay : (s new : State) → ((a t : ℕ) → AnswerTicket s.entries.answers a t → AnswerTicket new.entries.answers a t)
    → (o ticket : Option ℕ) → ForwardsRightly s o ticket → ForwardsRightly new o ticket
forwards_stay s new answers None ticket h = tt
forwards_stay s new answers (Some a) None h = absurd h
forwards_stay s new answers (Some a) (Some t) h = answers a t h

-- those of other answers, or of other questions
pub tickets_of_others : (s new : State) (one : Origin) → ((a t : ℕ) → is_origin one (origins.Answer a) ≡ false → AnswerTicket s.entries.answers a t
    → AnswerTicket new.entries.answers a t)
    → ((q t : ℕ) → is_origin one (origins.Own q) ≡ false → QuestionTicket s.entries.questions q t → QuestionTicket new.entries.questions q t)
    → (origin : Origin) (t : ℕ) → is_origin one origin ≡ false → IsTicketOf s origin t → IsTicketOf new origin t
tickets_of_others s new one answers questions (origins.Answer a) t other h = answers a t other h
tickets_of_others s new one answers questions (origins.Own q) t other h = questions q t other h

-- an entry changes that keeps its stage and its ticket
pub answer_changes : (answers : Table (Exchange AnswerEntry)) (a : ℕ) (entry new : Exchange AnswerEntry) → get answers a ≡ Some entry
    → (IsTrue (is_open_stage entry.stage) → IsTrue (is_open_stage new.stage)) → new.kept.ticket ≡ entry.kept.ticket
    → (b t : ℕ) → AnswerTicket answers b t → AnswerTicket (insert answers a new) b t
answer_changes answers a entry new was open_ same b t h = by (a == b) refl
  where
    by : (c : Bool) → (a == b) ≡ c → AnswerTicket (insert answers a new) b t
    by true e =
        let it : entry ≡ h.0 = some_out (sym was ∙ rw (is_equal a b e) h.1) in
        (new, put_at answers a b new true e, open_ (rw (it) h.2), same ∙ rw (it) h.3)
    by false e = (h.0, put_at answers a b new false e ∙ h.1, h.2, h.3)

pub answer_other : (answers : Table (Exchange AnswerEntry)) (a : ℕ) (new : Exchange AnswerEntry) (b t : ℕ) → (a == b) ≡ false → AnswerTicket answers b t
    → AnswerTicket (insert answers a new) b t
answer_other answers a new b t e h = (h.0, put_at answers a b new false e ∙ h.1, h.2, h.3)

pub answer_left : (answers : Table (Exchange AnswerEntry)) (a b t : ℕ) → (a == b) ≡ false → AnswerTicket answers b t → AnswerTicket (remove answers a) b t
answer_left answers a b t e h = (h.0, gone_at answers a b false e ∙ h.1, h.2, h.3)

-- a new answer
pub answer_opens : (answers : Table (Exchange AnswerEntry)) (a : ℕ) (new : Exchange AnswerEntry) → get answers a ≡ None
    → (b t : ℕ) → AnswerTicket answers b t → AnswerTicket (insert answers a new) b t
answer_opens answers a new none b t h = by (a == b) refl
  where
    by : (c : Bool) → (a == b) ≡ c → AnswerTicket (insert answers a new) b t
    by true e = let at : get answers a ≡ Some h.0 = rw (is_equal a b e) h.1 in none_out (sym none ∙ at)
    by false e = answer_other answers a new b t e h

pub question_changes : (questions : Table (Exchange QuestionEntry)) (q : ℕ) (entry new : Exchange QuestionEntry) → get questions q ≡ Some entry
    → (IsTrue (is_open_stage entry.stage) → IsTrue (is_open_stage new.stage)) → new.kept.ticket ≡ entry.kept.ticket → new.kept.forwards ≡ entry.kept.forwards
    → (p t : ℕ) → QuestionTicket questions p t → QuestionTicket (insert questions q new) p t
question_changes questions q entry new was open_ same alike p t h = by (q == p) refl
  where
    by : (c : Bool) → (q == p) ≡ c → QuestionTicket (insert questions q new) p t
    by true e =
        let it : entry ≡ h.0 = some_out (sym was ∙ rw (is_equal q p e) h.1) in
        (new, put_at questions q p new true e, open_ (rw (it) h.2), same ∙ rw (it) h.3, alike ∙ rw (it) h.4)
    by false e = (h.0, put_at questions q p new false e ∙ h.1, h.2, h.3, h.4)

pub question_other : (questions : Table (Exchange QuestionEntry)) (q : ℕ) (new : Exchange QuestionEntry) (p t : ℕ) → (q == p) ≡ false
    → QuestionTicket questions p t
    → QuestionTicket (insert questions q new) p t
question_other questions q new p t e h = (h.0, put_at questions q p new false e ∙ h.1, h.2, h.3, h.4)

pub question_left : (questions : Table (Exchange QuestionEntry)) (q p t : ℕ) → (q == p) ≡ false → QuestionTicket questions p t
    → QuestionTicket (remove questions q) p t
question_left questions q p t e h = (h.0, gone_at questions q p false e ∙ h.1, h.2, h.3, h.4)

pub question_opens : (questions : Table (Exchange QuestionEntry)) (q : ℕ) (new : Exchange QuestionEntry) → get questions q ≡ None
    → (p t : ℕ) → QuestionTicket questions p t → QuestionTicket (insert questions q new) p t
question_opens questions q new none p t h = by (q == p) refl
  where
    by : (c : Bool) → (q == p) ≡ c → QuestionTicket (insert questions q new) p t
    by true e = let at : get questions q ≡ Some h.0 = rw (is_equal q p e) h.1 in none_out (sym none ∙ at)
    by false e = question_other questions q new p t e h
