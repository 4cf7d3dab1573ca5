-- Where none holds an import.
use Rattle.std.proofs.Common.{◌≡◌, ℕ, Bool, true, false, if◌then◌else◌, List, [], ◌∷◌, ◌++◌, None, refl, sym, ap, ◌∙◌, append-nil, append_assoc, arith}
use Rattle.std.specs.Ordering.{nat_cmp}
use Rattle.std.specs.FinMap.{get, empty, get-empty}
use Rattle.cp_tables.specs.Table.{Table}
use Rattle.cp_tables.proofs.TableLemmas.{is_remove}
use Rattle.cp_refs.specs.declared.cap.Cap.{Cap}
use Rattle.cp_servants.specs.Outcomes.{named_imports}
use Rattle.cp_dispatch.specs.Holders.{holders, held_by_more}
use Rattle.cp_dispatch.specs.Work.{Work, Holds, LetsGo, others_hold, none_holds, GivesUp, IsGiven, Tries, TriesUnheld, is_held, is_given, is_free}

-- an object that is given no capability holds no import more
pub holds_none : (w : Work) → Holds [] w w
holds_none w = by w.may_call
  where
    by : (b : Bool) → w ≡ record w { held = if b then w.held else w.held }
    by true = refl
    by false = refl

-- where objects may not call, it isn't noted what they are given
pub holds_unnoted : (caps : List Cap) (old : Work) {new : Work} → old.may_call ≡ false → Holds caps old new → new ≡ old
holds_unnoted caps old off h = h ∙ ap (λ (b : Bool). record old { held = if b then held_by_more old.held (named_imports caps) else old.held }) off

none_at : (held : Table ℕ) (i : ℕ) → held ≡ empty → get held i ≡ None
none_at held i none = ap (λ (t : Table ℕ). get t i) none ∙ get-empty nat_cmp i

no_holders : (held : Table ℕ) (i : ℕ) → held ≡ empty → holders held i ≡ 0
no_holders held i none = rw (none_at held i none) refl

-- an import that none holds is given up, and so it is to be released
lets_go : (i : ℕ) {old new : Work} → old.held ≡ empty → LetsGo i old new → new ≡ record old { given_up = old.given_up ++ i ∷ [] }
lets_go i {old = old} none (others_hold many is) = absurd (omega (arith, many, no_holders old.held i none))
lets_go i {old = old} none (none_holds few is) =
    is
    ∙ ap (λ (t : Table ℕ). record old { held = t; given_up = old.given_up ++ i ∷ [] })
    (sym (is_remove old.held old.held i (none_at old.held i none) (λ q h. refl)))

-- where none holds an import, all that are given up are to be released
pub gives_up_all : (imports : List ℕ) (old : Work) {new : Work} → old.held ≡ empty → GivesUp imports old new → new ≡ record old { given_up = old.given_up ++ imports }
gives_up_all [] old none h = h ∙ ap (λ (g : List ℕ). record old { given_up = g }) (sym (append-nil old.given_up))
gives_up_all (i ∷ more) old none (mid, one, rest) =
    let first = lets_go i none one in
    gives_up_all more mid (ap (λ (w : Work). w.held) first ∙ none) rest
    ∙ ap (λ (w : Work). record w { given_up = w.given_up ++ more }) first
    ∙ ap (λ (g : List ℕ). record old { given_up = g }) (append_assoc old.given_up (i ∷ []) more)

-- where objects may not call, it isn't noted what the program is given
pub gives_unnoted : (caps : List Cap) (old : Work) {new : Work} → old.may_call ≡ false → IsGiven caps old new → new ≡ old
gives_unnoted caps old off h = h ∙ ap (λ (b : Bool). record old { given = if b then held_by_more old.given (named_imports caps) else old.given }) off

-- where none holds an import, each that was given up is tried
pub tries_all : (i : ℕ) {old new : Work} → old.held ≡ empty → old.given ≡ empty → TriesUnheld old i new → Tries old i new
tries_all i {old = old} none nothing (is_held some is) = absurd (omega (arith, some, no_holders old.held i none))
tries_all i {old = old} none nothing (is_given some is) = absurd (omega (arith, some, no_holders old.given i nothing))
tries_all i {old = old} none nothing (is_free free ungiven tried) = tried
