-- What a map gives first.
use Rattle.std.proofs.Common.{◌≡◌, ◌∙◌, ◌↔◌, ℕ, suc, ◌<◌, List, [], ◌∷◌, length, Option, Some, None, IsSome, IfSome, IfNone, Less, refl, sym, ap, subst, arith}
use Rattle.std.proofs.lemmas.Bool.{false≢true}
use Rattle.std.specs.Ordering.{nat_cmp}
use Rattle.std.specs.List.{All, AllByRecursion}
use Rattle.std.specs.List.Sorted.{IsStrictlySortedBy}
use Rattle.std.specs.Map.{keys_of}
use Rattle.std.specs.BTreeMap.{BTreeMap, IsOrdered}
use Rattle.std.specs.BTreeMap as tree
use Rattle.std.specs.FinMap.{entries, from_entries, remove}
use Rattle.cp_tables.specs.Table.{Table}
use Rattle.cp_tables.proofs.TableLemmas.{entries-listed, listed, listed-remove}
use Rattle.cp_objects.specs.declared.letters.ForwardedCall.{ForwardedCall}
use Rattle.cp_objects.specs.Lending.{CallsState, first_in, without_first_of}

none_of : {X : Type 0} (es : List X) → (0 < length es → ⊥) → es ≡ []
none_of [] h = refl
none_of (e ∷ es) h = absurd (h (omega arith))

all_above : (k : ℕ) (ks : List ℕ) → All (λ y. nat_cmp k y ≡ Less) ks → AllByRecursion (λ y. nat_cmp k y ≡ Less) ks
all_above k [] h = tt
all_above k (y ∷ ys) h = (h 0 y (omega arith), all_above k ys (λ i d inside. h (suc i) d (omega (arith, inside))))

module _ {X : Type 0} where
  sorted_before : (p : ℕ × X) (es : List (ℕ × X)) → All (λ y. nat_cmp p.0 y ≡ Less) (keys_of es) → IsStrictlySortedBy nat_cmp (keys_of es)
      → IsStrictlySortedBy nat_cmp (keys_of (p ∷ es))
  unfolding IsStrictlySortedBy
  sorted_before p es above sorted = (all_above p.0 (keys_of es) above, sorted)

  ordered_as : (es fs : List (ℕ × X)) → es ≡ fs → IsStrictlySortedBy nat_cmp (keys_of es) → IsStrictlySortedBy nat_cmp (keys_of fs)
  ordered_as es fs same h = subst (λ (gs : List (ℕ × X)). IsStrictlySortedBy nat_cmp (keys_of gs)) same h

  -- what is taken out first is the first entry
  pub popped_first : (old new : BTreeMap ℕ X) (taken : Option (ℕ × X)) → IsSome taken ↔ (0 < length old.entries) → IfSome taken (λ p. old.entries ≡ p ∷ new.entries)
      → IfSome taken (λ p. All (λ y. nat_cmp p.0 y ≡ Less) (keys_of new.entries)) → IfNone taken (new.entries ≡ old.entries) → IsOrdered nat_cmp new
      → taken ≡ first_in (entries (listed old))
  popped_first old new None some removal above same ordered =
      sym (ap (λ (es : List (ℕ × X)). first_in es) (entries-listed old (ordered_as _ _ same ordered) ∙ none_of old.entries (λ h. false≢true (some.1 h))))
  popped_first old new (Some p) some removal above same ordered =
      sym (ap (λ (es : List (ℕ × X)). first_in es) (entries-listed old (ordered_as _ _ (sym removal) (sorted_before p new.entries above ordered)) ∙ removal))

-- and the others stay
pub popped_rest : (calls : CallsState) (old new : BTreeMap ℕ ForwardedCall) (taken : Option (ℕ × ForwardedCall)) → calls.waiting ≡ listed old
    → IfSome taken (λ p. tree.Updates nat_cmp old new p.0 None) → IfNone taken (new.entries ≡ old.entries) → record calls { waiting = listed new } ≡ without_first_of taken calls
popped_rest calls old new None is updates same =
    ap (λ (w : Table ForwardedCall). record calls { waiting = w }) (ap (λ (es : List (ℕ × ForwardedCall)). from_entries {R = nat_cmp} es) same ∙ sym is)
popped_rest calls old new (Some p) is updates same =
    ap (λ (w : Table ForwardedCall). record calls { waiting = w }) (listed-remove old new p.0 updates ∙ ap (λ (w : Table ForwardedCall). remove w p.0) (sym is))
