-- States whose tables are known entry by entry, so that what they hold can be computed.
use Rattle.std.specs.Prelude.{◌≡◌, refl, ℕ, ◌+◌, Bool, true, false, cond, not, List, [], ◌∷◌, length, is_some, Option, None}
use Rattle.std.proofs.Common.{arith, sym, ap, ◌∙◌}
use Rattle.std.specs.Ordering.{nat_cmp, eq_by_cmp}
use Rattle.std.specs.Cmp.{IsTotalOrder, nat_cmp_total}
use Rattle.std.specs.Cmp.Lexicographic.{slice_cmp, nat_list_cmp_total}
use Rattle.std.specs.FinMap.{FinMap, IsAntisymmetric, nat_cmp-IsAntisymmetric, slice_cmp-IsAntisymmetric, find, put, get, len, remove, retain_keys, entries, from_entries, get-from_entries, get-retain_keys, len-insert, len-empty, len-entries, entries-insert, get-remove, same_map}
use Rattle.std.specs.FinMap.Entries.{find-where_key, where_key}
use Rattle.std.specs.FinSet as set
use Rattle.cp_tables.specs.declared.counted.Counted.{Counted}
use Rattle.cp_tables.specs.declared.exchange.Exchange.{Exchange}
use Rattle.cp_refs.specs.declared.cap.Cap.{Cap}
use Rattle.cp_refs.specs.declared.call.WaitingCall.{WaitingCall}
use Rattle.cp_refs.specs.declared.outcome.Outcome.{Outcome}
use Rattle.cp_refs.specs.declared.values.QuestionState.{QuestionState}
use Rattle.cp_vat_machine.specs.State.{State}
use Rattle.cp_vat_machine.specs.declared.entry.AnswerEntry.{AnswerEntry}
use Rattle.cp_vat_machine.specs.declared.entry.ImportKind.{ImportKind}
use Rattle.cp_vat_machine.specs.declared.entry.QuestionEntry.{QuestionEntry}

-- entries by their numbers, the last put first
abbrev pub Listed : Type 0 → Type 0
Listed X = List (ℕ × X)

abbrev pub tabled : {X : Type 0} → Listed X → FinMap nat_cmp X
tabled es = from_entries es

-- a state by its entries
pub record Known : Type 0 where
  pub promises : Listed (Option Cap)
  pub import_values : Listed (Option Cap)
  pub answers : Listed (Option Outcome)
  pub questions : Listed QuestionState
  pub asked : Listed (Exchange QuestionEntry)
  pub answering : Listed (Exchange AnswerEntry)
  pub own : List ℕ
  pub exports : Listed (Counted Cap)
  pub imports : Listed (Counted ImportKind)
  pub calls : Listed WaitingCall
  pub over_answers : Listed Outcome
  pub over_promises : Listed Cap
  pub over_questions : Listed Outcome
  pub over_embargoes : Listed Cap
  pub marked_imports : Listed (Option ℕ)
  pub marked_paths : List (List ℕ × Option ℕ)
  pub embargoes : Listed Cap
  pub bootstrap : Option ℕ
  pub next_ticket : ℕ
  pub is_closed : Bool

abbrev pub state : Known → State
state k =
    record {
      values = record { promises = tabled k.promises; imports = tabled k.import_values; answers = tabled k.answers; questions = tabled k.questions };
      entries = record { questions = tabled k.asked; answers = tabled k.answering; own_promises = set.from_list k.own };
      counts = record { exports = tabled k.exports; imports = tabled k.imports };
      waiting =
          record {
            calls = tabled k.calls;
            over =
                record {
                  answers = tabled k.over_answers;
                  promises = tabled k.over_promises;
                  questions = tabled k.over_questions;
                  embargoes = tabled k.over_embargoes;
                };
          };
      marks = record { imports = tabled k.marked_imports; paths = from_entries k.marked_paths; embargoes = tabled k.embargoes };
      bootstrap = k.bootstrap;
      next_ticket = k.next_ticket;
      is_closed = k.is_closed;
    }

abbrev pub new_known : Option ℕ → Known
new_known b =
    record {
      promises = [];
      import_values = [];
      answers = [];
      questions = [];
      asked = [];
      answering = [];
      own = [];
      exports = [];
      imports = [];
      calls = [];
      over_answers = [];
      over_promises = [];
      over_questions = [];
      over_embargoes = [];
      marked_imports = [];
      marked_paths = [];
      embargoes = [];
      bootstrap = b;
      next_ticket = 0;
      is_closed = false;
    }

-- no gate has ended any more
abbrev pub rested : Known → Known
rested k = record k { over_answers = []; over_promises = []; over_questions = []; over_embargoes = [] }

-- what a table holds under a number
abbrev pub at : {X : Type 0} → Listed X → ℕ → Option X
at es q = find nat_cmp q es

pub get_is : {X : Type 0} (es : Listed X) (q : ℕ) → get (tabled es) q ≡ at es q
get_is es q = get-from_entries nat_cmp_total es q

-- how many different numbers stand in a table
abbrev pub size : {X : Type 0} → Listed X → ℕ
size [] = 0
size (e ∷ es) = cond (is_some (at es e.0)) (size es) (size es + 1)

pub len_is : {X : Type 0} (es : Listed X) → len (tabled es) ≡ size es
len_is {X} [] = len-empty nat_cmp X
len_is (e ∷ es) = len-insert nat_cmp_total (tabled es) e.0 e.1 ∙ ap (λ o. cond (is_some o) (len (tabled es)) (len (tabled es) + 1)) (get_is es e.0) ∙ ap (λ n. cond (is_some (at es e.0)) n (n + 1)) (len_is es)

-- the same of paths
abbrev pub pathed : {X : Type 0} → List (List ℕ × X) → FinMap (slice_cmp nat_cmp) X
pathed es = from_entries es

abbrev pub at_path : {X : Type 0} → List (List ℕ × X) → List ℕ → Option X
at_path es q = find (slice_cmp nat_cmp) q es

pub get_path_is : {X : Type 0} (es : List (List ℕ × X)) (q : List ℕ) → get (pathed es) q ≡ at_path es q
get_path_is es q = get-from_entries nat_list_cmp_total es q

abbrev pub path_size : {X : Type 0} → List (List ℕ × X) → ℕ
path_size [] = 0
path_size (e ∷ es) = cond (is_some (at_path es e.0)) (path_size es) (path_size es + 1)

pub path_len_is : {X : Type 0} (es : List (List ℕ × X)) → len (pathed es) ≡ path_size es
path_len_is {X} [] = len-empty (slice_cmp nat_cmp) X
path_len_is (e ∷ es) =
    len-insert nat_list_cmp_total (pathed es) e.0 e.1
    ∙ ap (λ o. cond (is_some o) (len (pathed es)) (len (pathed es) + 1)) (get_path_is es e.0)
    ∙ ap (λ n. cond (is_some (at_path es e.0)) n (n + 1)) (path_len_is es)

-- The entries whose keys pass a test that tells no tied keys apart.
module _ {K X : Type 0} {R : K → K → _} (o : IsTotalOrder R) (same : IsAntisymmetric R) where
  pub kept_is : (es : List (K × X)) (p : K → Bool) → retain_keys (from_entries {R = R} es) p ≡ from_entries (where_key R p es)
  kept_is es p =
      same_map o same _ _ (λ q.
      get-retain_keys (from_entries es) p q (λ x t. ap p (sym (same q x t)))
      ∙ ap (λ v. cond (p q) v None) (get-from_entries o es q)
      ∙ sym (find-where_key R p q (λ x t. ap p (sym (same q x t))) es)
      ∙ sym (get-from_entries o (where_key R p es) q))

pub retain_is : {X : Type 0} (es : Listed X) (p : ℕ → Bool) → retain_keys (tabled es) p ≡ tabled (where_key nat_cmp p es)
retain_is es p = kept_is nat_cmp_total nat_cmp-IsAntisymmetric es p

pub retain_path_is : {X : Type 0} (es : List (List ℕ × X)) (p : List ℕ → Bool) → retain_keys (pathed es) p ≡ pathed (where_key (slice_cmp nat_cmp) p es)
retain_path_is es p = kept_is nat_list_cmp_total (slice_cmp-IsAntisymmetric nat_cmp-IsAntisymmetric) es p

-- a table without the entry under a number
abbrev pub without : {X : Type 0} → Listed X → ℕ → Listed X
without es n = where_key nat_cmp (λ x. not (eq_by_cmp nat_cmp x n)) es

turned : {X : Type 0} (b : Bool) (o : Option X) → cond b None o ≡ cond (not b) o None
turned true o = refl
turned false o = refl

pub remove_is : {X : Type 0} (es : Listed X) (n : ℕ) → remove (tabled es) n ≡ tabled (without es n)
remove_is es n =
    same_map nat_cmp_total nat_cmp-IsAntisymmetric _ _ (λ q.
    get-remove nat_cmp_total (tabled es) n q
    ∙ ap (λ v. cond (eq_by_cmp nat_cmp q n) None v) (get_is es q)
    ∙ turned (eq_by_cmp nat_cmp q n) (at es q)
    ∙ sym (find-where_key nat_cmp (λ x. not (eq_by_cmp nat_cmp x n)) q (λ x t. ap (λ y. not (eq_by_cmp nat_cmp y n)) (sym (nat_cmp-IsAntisymmetric q x t))) es)
    ∙ sym (get_is (without es n) q))

-- the entries, rising
abbrev pub rising : {X : Type 0} → Listed X → Listed X
rising [] = []
rising (e ∷ es) = put nat_cmp e.0 e.1 (rising es)

none_listed : {X : Type 0} (es : Listed X) → length es ≡ 0 → es ≡ []
none_listed [] e = refl
none_listed (x ∷ es) e = absurd (omega arith)

pub entries_is : {X : Type 0} (es : Listed X) → entries (tabled es) ≡ rising es
entries_is {X} [] = none_listed _ (sym (len-entries (tabled {X = X} [])) ∙ len-empty nat_cmp X)
entries_is (e ∷ es) = entries-insert nat_cmp_total (tabled es) e.0 e.1 ∙ ap (put nat_cmp e.0 e.1) (entries_is es)
