-- What calls name, and where gates lead, after a turn.
use Rattle.std.specs.Prelude.{◌≡◌, ◌⊎◌, refl, ℕ, zero, suc, true, false, List, Option, Some, None, is_some, IsSome}
use Rattle.std.specs.Option.{option_map}
use Rattle.std.specs.FinMap.{get}
use Rattle.std.proofs.Common.{inl, inr, sym, ◌∙◌, true≢false}
use Rattle.cp_refs.specs.At.{cap_at}
use Rattle.cp_refs.specs.Route.{question_way, outcome_way, route_by, route_within, Routes, HasRoute}
use Rattle.cp_refs.specs.Values.{ValueMaps}
use Rattle.cp_refs.specs.declared.cap.Cap.{Cap}
use Rattle.cp_refs.specs.declared.cap.Cap.TheVariants as caps
use Rattle.cp_refs.specs.declared.outcome.Outcome.{Outcome}
use Rattle.cp_refs.specs.declared.route.Gate.{Gate}
use Rattle.cp_refs.specs.declared.route.Gate.TheVariants as gates
use Rattle.cp_refs.specs.declared.route.Route.{Route}
use Rattle.cp_refs.specs.declared.route.Route.TheVariants as routes
use Rattle.cp_refs.specs.declared.values.QuestionState.{QuestionState}
use Rattle.cp_refs.specs.declared.values.QuestionKind.{QuestionKind}
use Rattle.cp_refs.specs.declared.values.QuestionKind.TheVariants as kinds
use Rattle.cp_vat_machine.specs.State.{State, gave}
use Rattle.cp_vat_machine.specs.InUse.{is_pipelined}
use Rattle.cp_vat_machine.specs.Calling.{import_reference, path_reference, question_reference, reference_of}
use Rattle.cp_vat_machine.specs.Ports.{Name, answer_path, capability, AnswerRoute, ReferenceRoute, NameRoute, EndedRoute, KeptRoute, is_there}
use Rattle.cp_vat_laws.specs.OrderKept.{Stands, LeadsBy, Leads, IsFree, FitsName, is_off_wire}
use Rattle.cp_vat_machine.proofs.Basics.{none_out}
use Rattle.cp_vat_laws.proofs.order.Passes.{IsOfThisEnd, Opens, Sound, IsStillOpen, IsGiven, StaysOrEnds, Passes, outcome_out, outcome_in, some_outcome, follows, path_follows}

-- a question's path that came to something has the route of that
path_in_by : (values : ValueMaps) (q : ℕ) (path : List ℕ) (r : Route) (question : QuestionState) → get values.questions q ≡ Some question → (kind : QuestionKind) (x : Option Outcome)
    → question.kind ≡ kind → question.outcome ≡ x → ReferenceRoute values (caps.Pipelined q path) (path_reference path kind x) r → Routes values (caps.Pipelined q path) r
path_in_by values q path r question is kinds.Wire None same none h = h
path_in_by values q path r question is kinds.Local None same none h = h
path_in_by values q path r question is kinds.Wire (Some o) same given h = (suc h.0, rw (is, given) h.1)
path_in_by values q path r question is kinds.Local (Some o) same given h = (suc h.0, rw (is, given) h.1)

path_in : (values : ValueMaps) (q : ℕ) (path : List ℕ) (r : Route) (o : Option QuestionState) → get values.questions q ≡ o
    → ReferenceRoute values (caps.Pipelined q path) (question_reference path o) r → Routes values (caps.Pipelined q path) r
path_in values q path r None is h = h
path_in values q path r (Some question) is h = path_in_by values q path r question is question.kind question.outcome refl refl h

path_out_by : (values : ValueMaps) (n q : ℕ) (path : List ℕ) (r : Route) (question : QuestionState) → get values.questions q ≡ Some question → (kind : QuestionKind) (x : Option Outcome)
    → question.kind ≡ kind → question.outcome ≡ x → route_by (λ next. route_within n values next) (outcome_way kind q path x) ≡ Some r
    → Routes values (caps.Pipelined q path) r → ReferenceRoute values (caps.Pipelined q path) (path_reference path kind x) r
path_out_by values n q path r question is kinds.Wire None same none e h = h
path_out_by values n q path r question is kinds.Local None same none e h = h
path_out_by values n q path r question is kinds.Wire (Some o) same given e h = (n, e)
path_out_by values n q path r question is kinds.Local (Some o) same given e h = (n, e)

path_out_of : (values : ValueMaps) (n q : ℕ) (path : List ℕ) (r : Route) (o : Option QuestionState) → get values.questions q ≡ o
    → route_by (λ next. route_within n values next) (question_way q path o) ≡ Some r → Routes values (caps.Pipelined q path) r
    → ReferenceRoute values (caps.Pipelined q path) (question_reference path o) r
path_out_of values n q path r None is e h = h
path_out_of values n q path r (Some question) is e h = path_out_by values n q path r question is question.kind question.outcome refl refl e h

path_out : (values : ValueMaps) (n q : ℕ) (path : List ℕ) (r : Route) → route_within n values (caps.Pipelined q path) ≡ Some r
    → ReferenceRoute values (caps.Pipelined q path) (reference_of values (caps.Pipelined q path)) r
path_out values zero q path r e = none_out e
path_out values (suc n) q path r e = path_out_of values n q path r (get values.questions q) refl e (suc n, e)

-- any other capability that is no import is called as it is
pub name_in : (values : ValueMaps) (q : ℕ) (path : List ℕ) (r : Route) → NameRoute values (capability (caps.Pipelined q path)) r → Routes values (caps.Pipelined q path) r
name_in values q path r h = path_in values q path r (get values.questions q) refl h

pub name_out : (values : ValueMaps) (q : ℕ) (path : List ℕ) (r : Route) → Routes values (caps.Pipelined q path) r → NameRoute values (capability (caps.Pipelined q path)) r
name_out values q path r h = path_out values h.0 q path r h.1

-- a name that isn't open on the wire
abbrev pub IsOff : ValueMaps → Name → Type 0
IsOff values (answer_path a path) = Unit {0}
IsOff values (capability c) = is_off_wire (reference_of values c) ≡ true

module _ (old mid : State) (passes : Passes old mid) where
  -- what came to something stays so
  import_off : (i : ℕ) → is_some (get mid.values.imports i) ≡ true → (o : Option (Option Cap)) → get old.values.imports i ≡ o → is_some o ≡ true
      → is_off_wire (import_reference o) ≡ true → is_off_wire (import_reference (get mid.values.imports i)) ≡ true
  import_off i found None is there off = absurd (true≢false (sym there))
  import_off i found (Some None) is there off = absurd (true≢false (sym off))
  import_off i found (Some (Some v)) is there off = rw (passes.imports i v is found) refl

  local_off : (path : List ℕ) (kind : QuestionKind) (x : Option Outcome) → kind ≡ kinds.Local → is_off_wire (path_reference path kind x) ≡ true
  local_off path kind None same = rw (same) refl
  local_off path kinds.Wire (Some o) same = refl
  local_off path kinds.Local (Some o) same = refl

  given_off : (path : List ℕ) (kind : QuestionKind) (o : Outcome) → is_off_wire (path_reference path kind (Some o)) ≡ true
  given_off path kinds.Wire o = refl
  given_off path kinds.Local o = refl

  question_there : (q : ℕ) (o : Option QuestionState) → get mid.values.questions q ≡ o → is_some o ≡ true → (other : QuestionState) × (get mid.values.questions q ≡ Some other)
  question_there q None is there = absurd (true≢false (sym there))
  question_there q (Some other) is there = (other, is)

  path_off_by : (q : ℕ) (path : List ℕ) (question : QuestionState) → is_some (get mid.values.questions q) ≡ true → get old.values.questions q ≡ Some question
      → (kind : QuestionKind) (x : Option Outcome) → question.kind ≡ kind → question.outcome ≡ x → is_off_wire (path_reference path kind x) ≡ true
      → is_off_wire (question_reference path (get mid.values.questions q)) ≡ true
  path_off_by q path question found is kinds.Wire None same none off = absurd (true≢false (sym off))
  path_off_by q path question found is kinds.Local None same none off =
      let there = question_there q (get mid.values.questions q) refl found in
      rw (there.1) (local_off path there.0.kind there.0.outcome (passes.kinds q question there.0 is there.1 ∙ same))
  path_off_by q path question found is kind (Some o) same given off =
      let set = (passes.questions q).set o (outcome_out (get old.values.questions q) question (Some o) is given) (some_outcome (get mid.values.questions q) found) in
      let there = outcome_in (get mid.values.questions q) (Some o) set in
      rw (there.1, there.2) (given_off path there.0.kind o)

  path_off : (q : ℕ) (path : List ℕ) → is_some (get mid.values.questions q) ≡ true → (o : Option QuestionState) → get old.values.questions q ≡ o → is_some o ≡ true
      → is_off_wire (question_reference path o) ≡ true → is_off_wire (question_reference path (get mid.values.questions q)) ≡ true
  path_off q path found None is there off = absurd (true≢false (sym there))
  path_off q path found (Some question) is there off = path_off_by q path question found is question.kind question.outcome refl refl off

  pub cap_off : (c : Cap) → is_there old.values (capability c) ≡ true → is_there mid.values (capability c) ≡ true → is_off_wire (reference_of old.values c) ≡ true
      → is_off_wire (reference_of mid.values c) ≡ true
  cap_off caps.None there found off = refl
  cap_off (caps.Object k) there found off = refl
  cap_off (caps.Promise p) there found off = refl
  cap_off (caps.Import i) there found off = import_off i found (get old.values.imports i) refl there off
  cap_off (caps.Pipelined q path) there found off = path_off q path found (get old.values.questions q) refl there off
  cap_off (caps.Broken x) there found off = refl

  -- what a gate gave stays
  at_path : (path : List ℕ) (o p : Option Outcome) (c : Cap) → ((x : Outcome) → o ≡ Some x → p ≡ Some x) → option_map (λ x. cap_at x path) o ≡ Some c
      → option_map (λ x. cap_at x path) p ≡ Some c
  at_path path None p c same e = none_out e
  at_path path (Some x) p c same e = rw (same x refl) e

  pub gave_stays : (g : Gate) (c : Cap) → gave old.waiting.over g ≡ Some c → gave mid.waiting.over g ≡ Some c
  gave_stays (gates.Answer a path) c e = at_path path (get old.waiting.over.answers a) (get mid.waiting.over.answers a) c (passes.answers a).over e
  gave_stays (gates.Promise p) c e = (passes.promises p).over c e
  gave_stays (gates.Question q path) c e = at_path path (get old.waiting.over.questions q) (get mid.waiting.over.questions q) c (passes.questions q).over e
  gave_stays (gates.Embargo n) c e = passes.ended n c e

  free_by : (n : ℕ) (o : Option Cap) → get old.waiting.over.embargoes n ≡ o → is_some o ≡ true → is_some (get mid.waiting.over.embargoes n) ≡ true
  free_by n None is e = absurd (true≢false (sym e))
  free_by n (Some v) is e = rw (passes.ended n v is) refl

  pub free_stays : (g : Gate) → IsFree old g → IsFree mid g
  free_stays (gates.Answer a path) free = tt
  free_stays (gates.Promise p) free = tt
  free_stays (gates.Question q path) free = tt
  free_stays (gates.Embargo n) free = free_by n (get old.waiting.over.embargoes n) refl free

  -- What fits a name goes on to fit it.
  pub name_fits : (name : Name) (g : Gate) → is_there old.values name ≡ true → is_there mid.values name ≡ true → FitsName old name g → FitsName mid name g
  name_fits (answer_path a path) g there found h = free_stays g h
  name_fits (capability c) g there found h = (cap_off c there found h.0, passes.marks c g there found h.0 h.1)

module _ (old mid : State) (opens : Opens old) (later : Sound mid) (passes : Passes old mid) where
  answer_given : (a : ℕ) (path : List ℕ) (to : Route) → get old.values.answers a ≡ Some None → is_some (get mid.values.answers a) ≡ true
      → KeptRoute mid (routes.Wait (gates.Answer a path)) to → AnswerRoute mid.values a path (get mid.values.answers a) to
  answer_given a path to is found kept = by ((passes.answers a).open_ is (opens.open_answers a is) found)
    where
      by : IsStillOpen (get mid.values.answers a) (get mid.waiting.over.answers a) ⊎ IsGiven (get mid.values.answers a) (get mid.waiting.over.answers a)
          → AnswerRoute mid.values a path (get mid.values.answers a) to
      by (inl h) = rw (h.0) (rw (h.1) at kept)
      by (inr h) = rw (h.1 found) (rw (h.2) at kept)

  answer_follows : (a : ℕ) (path : List ℕ) (r to : Route) → is_some (get mid.values.answers a) ≡ true → KeptRoute mid r to → (o : Option (Option Outcome))
      → get old.values.answers a ≡ o → AnswerRoute old.values a path o r → AnswerRoute mid.values a path (get mid.values.answers a) to
  answer_follows a path r to found kept None is h = absurd h
  answer_follows a path r to found kept (Some None) is h = answer_given a path to is found (rw (h) at kept)
  answer_follows a path r to found kept (Some (Some o)) is h =
      let set = (passes.answers a).set o is found in
      let well = later.answers a o path set in
      rw (set) (follows old mid opens later passes (cap_at o path) r to well.plain_ well.found h kept)

  import_follows : (i : ℕ) (r to : Route) → is_some (get mid.values.imports i) ≡ true → KeptRoute mid r to → (o : Option (Option Cap)) → get old.values.imports i ≡ o
      → is_some o ≡ true → is_off_wire (import_reference o) ≡ true → ReferenceRoute old.values (caps.Import i) (import_reference o) r
      → NameRoute mid.values (capability (caps.Import i)) to
  import_follows i r to found kept None is there off h = absurd (true≢false (sym there))
  import_follows i r to found kept (Some None) is there off h = absurd (true≢false (sym off))
  import_follows i r to found kept (Some (Some v)) is there off h =
      let set = passes.imports i v is found in
      let well = later.imports i v set in
      rw (set) (follows old mid opens later passes v r to well.plain_ well.found h kept)

  cap_follows : (c : Cap) (r to : Route) → is_there old.values (capability c) ≡ true → is_there mid.values (capability c) ≡ true → is_off_wire (reference_of old.values c) ≡ true
      → NameRoute old.values (capability c) r → KeptRoute mid r to → NameRoute mid.values (capability c) to
  cap_follows caps.None r to there found off h kept = follows old mid opens later passes caps.None r to refl refl h kept
  cap_follows (caps.Object k) r to there found off h kept = follows old mid opens later passes (caps.Object k) r to refl refl h kept
  cap_follows (caps.Promise p) r to there found off h kept = follows old mid opens later passes (caps.Promise p) r to refl found h kept
  cap_follows (caps.Import i) r to there found off h kept = import_follows i r to found kept (get old.values.imports i) refl there off h
  cap_follows (caps.Pipelined q path) r to there found off h kept =
      let way = name_in old.values q path r h in
      name_out mid.values q path to (path_follows old mid opens later passes way.0 q path r to off found way.1 kept)
  cap_follows (caps.Broken x) r to there found off h kept = follows old mid opens later passes (caps.Broken x) r to refl refl h kept

  -- The route of what a call names moves as a route that is kept.
  pub name_follows : (name : Name) (r to : Route) → is_there old.values name ≡ true → is_there mid.values name ≡ true → IsOff old.values name → NameRoute old.values name r
      → KeptRoute mid r to → NameRoute mid.values name to
  name_follows (answer_path a path) r to there found off h kept = answer_follows a path r to found kept (get old.values.answers a) refl h
  name_follows (capability c) r to there found off h kept = cap_follows c r to there found off h kept

  -- The gate of a waiting call leads where a kept route does.
  ends_at : (g : Gate) (o : Option Cap) (to : Route) → ((r : Route) → r ≡ routes.Wait g → Stands mid g r) → EndedRoute mid.values g o to → LeadsBy mid g o to
  ends_at g None to stands h = stands to h
  ends_at g (Some c) to stands h = h

  embargo_by : (n : ℕ) (v : Cap) (r to : Route) → is_pipelined v ≡ false → Routes old.values v r → KeptRoute mid r to → StaysOrEnds mid n v
      → LeadsBy mid (gates.Embargo n) (get mid.waiting.over.embargoes n) to
  embargo_by n v r to flat way kept (inl h) =
      rw (h.1) (v, h.0, follows old mid opens later passes v r to flat (later.embargoes n v h.0).1 way kept)
  embargo_by n v r to flat way kept (inr h) =
      rw (h) (follows old mid opens later passes v r to flat (later.gifts (gates.Embargo n) v h).found way kept)

  this_end : (v : Cap) → IsOfThisEnd v → is_pipelined v ≡ false
  this_end caps.None h = refl
  this_end (caps.Object k) h = refl
  this_end (caps.Promise p) h = refl
  this_end (caps.Import i) h = refl
  this_end (caps.Pipelined q path) h = absurd h
  this_end (caps.Broken x) h = refl

  module _ (here : (n : ℕ) (v : Cap) → get old.marks.embargoes n ≡ Some v → IsOfThisEnd v) where
    waits_on : (g : Gate) (r to : Route) → gave old.waiting.over g ≡ None → Stands old g r → KeptRoute mid r to → LeadsBy mid g (gave mid.waiting.over g) to
    waits_on (gates.Answer a path) r to none h kept =
        ends_at (gates.Answer a path) (gave mid.waiting.over (gates.Answer a path)) to (λ x e. e) (rw (h) at kept)
    waits_on (gates.Promise p) r to none h kept = ends_at (gates.Promise p) (gave mid.waiting.over (gates.Promise p)) to (λ x e. e) (rw (h) at kept)
    waits_on (gates.Question q path) r to none h kept =
        ends_at (gates.Question q path) (gave mid.waiting.over (gates.Question q path)) to (λ x e. e) (rw (h) at kept)
    waits_on (gates.Embargo n) r to none h kept =
        embargo_by n h.0 r to (this_end h.0 (here n h.0 h.1)) h.2 kept (passes.embargoes n h.0 h.1 none)

    gate_by : (g : Gate) (r to : Route) (o : Option Cap) → gave old.waiting.over g ≡ o → LeadsBy old g o r → KeptRoute mid r to → Leads mid g to
    gate_by g r to None is h kept = waits_on g r to is h kept
    gate_by g r to (Some c) is h kept =
        let stays = gave_stays old mid passes g c is in
        let well = later.gifts g c stays in
        rw (stays) (follows old mid opens later passes c r to well.plain_ well.found h kept)

    pub gate_follows : (g : Gate) (r to : Route) → Leads old g r → KeptRoute mid r to → Leads mid g to
    gate_follows g r to h kept = gate_by g r to (gave old.waiting.over g) refl h kept

-- a kept route comes to one
pub has_route : (s : State) (c : Cap) → HasRoute s.values c → (to : Route) × Routes s.values c to
has_route s c h = by h.0 (route_within h.0 s.values c) refl h.1
  where
    by : (n : ℕ) (o : Option Route) → route_within n s.values c ≡ o → IsSome o → (to : Route) × Routes s.values c to
    by n None is some = absurd (true≢false (sym some))
    by n (Some r) is some = (r, (n, is))

pub kept_by : (s : State) (g : Gate) (o : Option Cap) → Sound s → gave s.waiting.over g ≡ o → (to : Route) × EndedRoute s.values g o to
kept_by s g None sound is = (routes.Wait g, refl)
kept_by s g (Some c) sound is = has_route s c (sound.gifts g c is).ends

pub kept_to : (s : State) (r : Route) → Sound s → (to : Route) × KeptRoute s r to
kept_to s (routes.Deliver k) sound = (routes.Deliver k, refl)
kept_to s (routes.Import i) sound = (routes.Import i, refl)
kept_to s (routes.Pipe q path) sound = (routes.Pipe q path, refl)
kept_to s (routes.Wait g) sound = kept_by s g (gave s.waiting.over g) sound refl
kept_to s (routes.Fail x) sound = (routes.Fail x, refl)
