-- What is noted of an entry, and of one after another.
use Rattle.std.proofs.Common.{◌≡◌, ◌∙◌, ℕ, Bool, true, false, not, List, [], ◌∷◌, ◌++◌, Some, None, IsSome, Contains, inl, inr, refl, sym, ap, subst, append-nil, append_assoc, cond, is_some, arith}
use Rattle.std.specs.Option.{option_map}
use Rattle.std.proofs.lemmas.Bool.{cases_eq}
use Rattle.std.proofs.lemmas.List.Elements.{Contains-append_left, Contains-push}
use Rattle.std.proofs.lemmas.List.Sums.{sum_by-set}
use Rattle.slab.specs.Slab.{Slab, get, slab_len, with_value}
use Rattle.slab.proofs.SlabLemmas.{ContainsKey-within, Updates-with_value}
use Rattle.net_sockets.specs.Readiness.{HasEach, Notes}

was_queued : (queued : Bool) → not queued ≡ false → queued ≡ true
was_queued true h = refl
was_queued false h = sym h

module _ {E K : Type 0} (kept : E → K) (is_queued : E → Bool) where
  pub notes_none : (s : Slab E) (queue : List ℕ) → Notes kept is_queued s queue s queue
  notes_none s queue = record { len = refl; same = λ key. refl; enters = ([], sym (append-nil queue)); none_missing = λ has. has }

  pub notes_both : {a b c : Slab E} {one two three : List ℕ} → Notes kept is_queued a one b two → Notes kept is_queued b two c three → Notes kept is_queued a one c three
  notes_both {one = one} h k = record {
    len = k.len ∙ h.len;
    same = λ key. k.same key ∙ h.same key;
    enters = (h.enters.0 ++ k.enters.0, k.enters.1 ∙ ap (λ q. q ++ k.enters.0) h.enters.1 ∙ append_assoc one h.enters.0 k.enters.0);
    none_missing = λ has. k.none_missing (h.none_missing has);
  }

  module _ (s : Slab E) (key : ℕ) (entry new : E) (there : Some entry ≡ get s key) (same : kept new ≡ kept entry) where
    is_there : IsSome (get s key)
    is_there = subst (λ o. IsSome o) there refl

    as_many : slab_len (with_value s key new) ≡ slab_len s
    as_many =
        let one : ◌≡◌ {A = ℕ} (cond (is_some (get s key)) 1 0) 1 = ap (λ (b : Bool). cond b 1 0) is_there in
        omega (arith, sum_by-set (λ o. cond (is_some o) 1 0) s.slots key (Some new) None (ContainsKey-within s key is_there), one)

    kept_each : (k : ℕ) → option_map kept (get (with_value s key new) k) ≡ option_map kept (get s k)
    kept_each k =
        let updates = Updates-with_value s key new is_there in
        elim (cases_eq k key) [
          | inl is ↦ ap (λ n. option_map kept (get (with_value s key new) n)) is ∙ ap (λ o. option_map kept o) updates.changed ∙ ap (λ x. Some x) same ∙ ap (λ o. option_map kept o) there ∙ ap (λ n. option_map kept (get s n)) (sym is)
          | inr differs ↦ ap (λ o. option_map kept o) (updates.others k differs)
        ]

    -- each other entry is where it was
    has_others : (queue after : List ℕ) → ((k : ℕ) → Contains queue k → Contains after k) → Contains after key → HasEach is_queued s queue → HasEach is_queued (with_value s key new) after
    has_others queue after wider has_key has k e at queued =
        elim (cases_eq k key) [
          | inl is ↦ subst (λ n. Contains after n) (sym is) has_key
          | inr differs ↦ wider k (has k e (sym ((Updates-with_value s key new is_there).others k differs) ∙ at) queued)
        ]

    -- it was in the queue before
    pub notes_again : (queue : List ℕ) (enters : Bool) → enters ≡ not (is_queued entry) → enters ≡ false → Notes kept is_queued s queue (with_value s key new) queue
    notes_again queue enters is not_now = record {
      len = as_many;
      same = kept_each;
      enters = ([], sym (append-nil queue));
      none_missing = λ has. has_others queue queue (λ k h. h) (has key entry (sym there) (was_queued (is_queued entry) (sym is ∙ not_now))) has;
    }

    -- it comes into the queue
    pub notes_first : (queue after : List ℕ) → after ≡ queue ++ key ∷ [] → Notes kept is_queued s queue (with_value s key new) after
    notes_first queue after pushed = record {
      len = as_many;
      same = kept_each;
      enters = (key ∷ [], pushed);
      none_missing = has_others queue after (λ k h. subst (λ q. Contains q k) (sym pushed) (Contains-append_left queue (key ∷ []) k h)) (subst (λ q. Contains q key) (sym pushed) (Contains-push queue key));
    }
