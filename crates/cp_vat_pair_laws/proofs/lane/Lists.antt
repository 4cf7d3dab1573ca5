-- The calls of a lane in lists: what is in none of them, and lists that are joined.
use Rattle.std.specs.Prelude.{◌≡◌, refl, ℕ, List, [], ◌∷◌, ◌++◌, flat_map, Some}
use Rattle.std.specs.List.{AllByRecursion}
use Rattle.std.specs.FinMap.{get, values}
use Rattle.std.proofs.Common.{ap, sym, ◌∙◌}
use Rattle.std.proofs.lemmas.List.{append_assoc, append-nil}
use Rattle.std.proofs.lemmas.List.Elements.{filter-append}
use Rattle.std.proofs.lemmas.Grind.{flat_map-append}
use Rattle.cp_tables.specs.Table.{Table}
use Rattle.cp_refs.specs.declared.call.WaitingCall.{WaitingCall}
use Rattle.cp_vat_laws.proofs.Tables.{here_of, all_values, value_of}
use Rattle.cp_vat_pair_laws.specs.Lane.{is_among}
use Rattle.cp_vat_pair_laws.specs.Phases.{of_lane}

-- lists joined
pub lane_append : (made xs ys : List ℕ) → of_lane made (xs ++ ys) ≡ of_lane made xs ++ of_lane made ys
lane_append made xs ys = filter-append (λ ticket. is_among ticket made) xs ys

module _ {X : Type 0} (made : List ℕ) (f : X → List ℕ) where
  pub lane_flat : (xs ys : List X) → of_lane made (flat_map f (xs ++ ys)) ≡ of_lane made (flat_map f xs) ++ of_lane made (flat_map f ys)
  lane_flat xs ys = ap (of_lane made) (flat_map-append f xs ys) ∙ lane_append made (flat_map f xs) (flat_map f ys)

  pub lane_cons : (x : X) (xs : List X) → of_lane made (flat_map f (x ∷ xs)) ≡ of_lane made (f x) ++ of_lane made (flat_map f xs)
  lane_cons x xs = lane_append made (f x) (flat_map f xs)

  -- where each has none
  pub lane_none : (xs : List X) → AllByRecursion (λ x. of_lane made (f x) ≡ []) xs → of_lane made (flat_map f xs) ≡ []
  lane_none [] all = refl
  lane_none (x ∷ xs) all = lane_cons x xs ∙ ap (λ ys. ys ++ of_lane made (flat_map f xs)) all.0 ∙ lane_none xs all.1

  front_none : (xs ys : List ℕ) → xs ++ ys ≡ [] → xs ≡ []
  front_none [] ys is = refl
  front_none (x ∷ xs) ys is = absurd (cc)

  back_none : (xs ys : List ℕ) → xs ++ ys ≡ [] → ys ≡ []
  back_none [] ys is = is
  back_none (x ∷ xs) ys is = absurd (cc)

  pub none_lane : (xs : List X) → of_lane made (flat_map f xs) ≡ [] → AllByRecursion (λ x. of_lane made (f x) ≡ []) xs
  none_lane [] none = tt
  none_lane (x ∷ xs) none = (
    front_none (of_lane made (f x)) (of_lane made (flat_map f xs)) (sym (lane_cons x xs) ∙ none),
    none_lane xs (back_none (of_lane made (f x)) (of_lane made (flat_map f xs)) (sym (lane_cons x xs) ∙ none)),
  )

-- none made
pub lane_unmade : (tickets : List ℕ) → of_lane [] tickets ≡ []
lane_unmade [] = refl
lane_unmade (ticket ∷ tickets) = lane_unmade tickets

-- waiting calls of which none is of the lane
pub none_wait : (made : List ℕ) (f : WaitingCall → List ℕ) (calls : Table WaitingCall) → ((ticket : ℕ) (call : WaitingCall) → get calls ticket ≡ Some call → of_lane made (f call) ≡ [])
    → of_lane made (flat_map f (values calls)) ≡ []
none_wait made f calls none =
    lane_none made f (values calls)
    (all_values (λ call. of_lane made (f call) ≡ []) calls (λ ticket. here_of (λ call. of_lane made (f call) ≡ []) (get calls ticket) (λ call is. none ticket call is)))

-- lists of which each has as many
module _ {X : Type 0} (made : List ℕ) (f g : X → List ℕ) where
  pub lane_same : (xs : List X) → AllByRecursion (λ x. of_lane made (g x) ≡ of_lane made (f x)) xs → of_lane made (flat_map g xs) ≡ of_lane made (flat_map f xs)
  lane_same [] all = refl
  lane_same (x ∷ xs) all =
      lane_cons made g x xs ∙ ap (λ ys. ys ++ of_lane made (flat_map g xs)) all.0 ∙ ap (λ ys. of_lane made (f x) ++ ys) (lane_same xs all.1) ∙ sym (lane_cons made f x xs)

  -- and more that have none
  pub lane_mail : (xs ms : List X) → AllByRecursion (λ x. of_lane made (g x) ≡ of_lane made (f x)) xs → AllByRecursion (λ x. of_lane made (g x) ≡ []) ms
      → of_lane made (flat_map g (xs ++ ms)) ≡ of_lane made (flat_map f xs)
  lane_mail xs ms all none =
      lane_flat made g xs ms ∙ ap (λ ys. ys ++ of_lane made (flat_map g ms)) (lane_same xs all) ∙ ap (λ ys. of_lane made (flat_map f xs) ++ ys) (lane_none made g ms none)
      ∙ append-nil (of_lane made (flat_map f xs))

-- where waiting calls are none of the lane, none of them is
pub wait_none : (made : List ℕ) (f : WaitingCall → List ℕ) (calls : Table WaitingCall) → of_lane made (flat_map f (values calls)) ≡ [] → (ticket : ℕ) (call : WaitingCall)
    → get calls ticket ≡ Some call → of_lane made (f call) ≡ []
wait_none made f calls none ticket call is = value_of (λ call. of_lane made (f call) ≡ []) calls ticket call is (none_lane made f (values calls) none)

-- parts of lists that have none
module _ {X : Type 0} (made : List ℕ) (f : X → List ℕ) (xs ys : List X) (none : of_lane made (flat_map f (xs ++ ys)) ≡ []) where
  pub lane_front : of_lane made (flat_map f xs) ≡ []
  lane_front = front_none made f (of_lane made (flat_map f xs)) (of_lane made (flat_map f ys)) (sym (lane_flat made f xs ys) ∙ none)

-- of lists that are joined
pub joined_back : (d b w y h ts ws ys : List ℕ) → w ++ y ≡ ts ++ (ws ++ ys) → d ++ b ++ w ++ y ++ h ≡ d ++ (b ++ ts) ++ ws ++ ys ++ h
joined_back d b w y h ts ws ys is =
    ap (λ x. x ++ h) (append_assoc (d ++ b) w y ∙ ap (λ x. d ++ b ++ x) is ∙ sym (append_assoc (d ++ b) ts (ws ++ ys)) ∙ sym (append_assoc (d ++ b ++ ts) ws ys)
    ∙ ap (λ x. x ++ ws ++ ys) (append_assoc d b ts))

pub joined_waits : (d b w ts ys h : List ℕ) → d ++ b ++ w ++ (ts ++ ys) ++ h ≡ d ++ b ++ (w ++ ts) ++ ys ++ h
joined_waits d b w ts ys h = ap (λ x. x ++ h) (sym (append_assoc (d ++ b ++ w) ts ys) ∙ ap (λ x. x ++ ys) (append_assoc (d ++ b) w ts))

-- lists of two lanes
module _ {X : Type 0} (made other : List ℕ) (f g : X → List ℕ) where
  pub lane_two : (xs : List X) → AllByRecursion (λ x. of_lane other (g x) ≡ of_lane made (f x)) xs → of_lane other (flat_map g xs) ≡ of_lane made (flat_map f xs)
  lane_two [] all = refl
  lane_two (x ∷ xs) all =
      lane_cons other g x xs ∙ ap (λ ys. ys ++ of_lane other (flat_map g xs)) all.0 ∙ ap (λ ys. of_lane made (f x) ++ ys) (lane_two xs all.1) ∙ sym (lane_cons made f x xs)
