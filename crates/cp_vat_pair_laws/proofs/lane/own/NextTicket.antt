-- One ticket more in a lane: that of the application's next call, and the question that it opens.
use Rattle.std.specs.Prelude.{◌≡◌, refl, ℕ, ◌<◌, ◌==◌, ◌||◌, Bool, true, false, List, [], ◌∷◌, ◌++◌, option_to_list, Option, Some, None}
use Rattle.std.specs.List.{AllByRecursion}
use Rattle.std.specs.FinMap.{get, slice_cmp-IsAntisymmetric, nat_cmp-IsAntisymmetric}
use Rattle.std.specs.Ordering.{nat_cmp, eq_by_cmp}
use Rattle.std.specs.Cmp.{tied_itself, Equal-is}
use Rattle.std.specs.Cmp.Lexicographic.{slice_cmp, nat_list_cmp_total}
use Rattle.std.proofs.Common.{arith, ap, sym, ◌∙◌, true≢false}
use Rattle.std.proofs.lemmas.Bool.Decides.{nat_tests}
use Rattle.cp_tables.specs.declared.exchange.Exchange.{Exchange}
use Rattle.cp_messages.specs.declared.message.Message.{Message}
use Rattle.cp_refs.specs.declared.call.Origin.TheVariants as origins
use Rattle.cp_refs.specs.declared.cap.Cap.{Cap}
use Rattle.cp_refs.specs.declared.cap.Cap.TheVariants as caps
use Rattle.cp_vat_machine.specs.State.{State}
use Rattle.cp_vat_machine.specs.Local.{Local, IsTicketOf, ForwardsRightly}
use Rattle.cp_vat_machine.specs.declared.entry.QuestionEntry.{QuestionEntry}
use Rattle.cp_vat_machine.proofs.Basics.{is_equal, is_itself}
use Rattle.cp_vat_laws.proofs.Tables.{there_of}
use Rattle.cp_vat_pair_laws.specs.Accounts.{accounts_of}
use Rattle.cp_vat_pair_laws.specs.Lives.{standing_of, will_stand, returns_of, Fits, Agree}
use Rattle.cp_vat_pair_laws.specs.VatPair.{End}
use Rattle.cp_vat_pair_laws.specs.Lane.{Reference, import_, path_to, cap_of, names, is_among, ticket_of_own, own_ticket, answer_forwarded}
use Rattle.cp_vat_pair_laws.specs.Phases.{of_lane}
use Rattle.cp_vat_pair_laws.specs.Tickets.{TicketsHold}
use Rattle.cp_vat_pair_laws.proofs.counts.rules.Say.{first_true, second_true}
use Rattle.cp_vat_pair_laws.proofs.lane.parts.Midway.{open_standing}
use Rattle.cp_vat_pair_laws.proofs.lane.parts.Lives.{IsOpened, will_stay, none_fits}

-- a number that isn't a higher one, and the other way
not_higher : (x t : ℕ) → x < t → (x == t) ≡ false
not_higher x t less = grind (arith, nat_tests)

not_lower : (x t : ℕ) → x < t → (t == x) ≡ false
not_lower x t less = grind (arith, nat_tests)

-- numbers that aren't one
pub are_other : (q r : ℕ) → ((q ≡ r) → ⊥) → (q == r) ≡ false
are_other q r not = by (q == r) refl
  where
    by : (b : Bool) → (q == r) ≡ b → (q == r) ≡ false
    by true is = absurd (not (is_equal q r is))
    by false is = is

or_true : (b : Bool) → (b || true) ≡ true
or_true true = refl
or_true false = refl

-- where all tickets are below it
pub not_among : (t : ℕ) (made : List ℕ) → AllByRecursion (λ x. x < t) made → is_among t made ≡ false
not_among t [] below = refl
not_among t (x ∷ made) below = rw (not_higher x t below.0) (not_among t made below.1)

pub among_more : (made : List ℕ) (t x : ℕ) → x < t → is_among x (made ++ t ∷ []) ≡ is_among x made
among_more [] t x less = rw (not_lower x t less) refl
among_more (y ∷ made) t x less = ap (λ b. (y == x) || b) (among_more made t x less)

pub among_last : (made : List ℕ) (t : ℕ) → is_among t (made ++ t ∷ []) ≡ true
among_last [] t = rw (is_itself t) refl
among_last (y ∷ made) t = ap (λ b. (y == t) || b) (among_last made t) ∙ or_true (y == t)

pub lane_more : (made : List ℕ) (t : ℕ) (xs : List ℕ) → AllByRecursion (λ x. x < t) xs → of_lane (made ++ t ∷ []) xs ≡ of_lane made xs
lane_more made t [] below = refl
lane_more made t (x ∷ xs) below = by (is_among x made) refl (lane_more made t xs below.1)
  where
    by : (b : Bool) → is_among x made ≡ b → of_lane (made ++ t ∷ []) xs ≡ of_lane made xs → of_lane (made ++ t ∷ []) (x ∷ xs) ≡ of_lane made (x ∷ xs)
    by true is more = rw (among_more made t x below.0 ∙ is, is) (ap (λ ys. x ∷ ys) more)
    by false is more = rw (among_more made t x below.0 ∙ is, is) more

pub lane_of_last : (made : List ℕ) (t : ℕ) → of_lane (made ++ t ∷ []) (t ∷ []) ≡ t ∷ []
lane_of_last made t = rw (among_last made t) refl

pub lane_of_other : (made : List ℕ) (t : ℕ) → is_among t made ≡ false → of_lane made (t ∷ []) ≡ []
lane_of_other made t not = rw (not) refl

-- what own questions bear is below the next ticket
pub own_below : (s : State) (made : List ℕ) → TicketsHold s made → (r : ℕ) → AllByRecursion (λ x. x < s.next_ticket) (own_ticket (get s.entries.questions r))
own_below s made tickets r = by (get s.entries.questions r) refl
  where
    by_entry : (entry : Exchange QuestionEntry) → get s.entries.questions r ≡ Some entry → (forwards ticket : Option ℕ) → entry.kept.forwards ≡ forwards → entry.kept.ticket ≡ ticket
        → AllByRecursion (λ x. x < s.next_ticket) (ticket_of_own forwards ticket)
    by_entry entry is None None own bears = tt
    by_entry entry is None (Some ticket) own bears = (tickets.below (origins.Own r) ticket (entry, is, bears, own), tt)
    by_entry entry is (Some a) ticket own bears = tt

    by : (o : Option (Exchange QuestionEntry)) → get s.entries.questions r ≡ o → AllByRecursion (λ x. x < s.next_ticket) (own_ticket o)
    by None is = tt
    by (Some entry) is = by_entry entry is entry.kept.forwards entry.kept.ticket refl refl

-- a reference and the capability that names it
same_path : (path other : List ℕ) → eq_by_cmp (slice_cmp nat_cmp) path other ≡ true → path ≡ other
same_path path other is = slice_cmp-IsAntisymmetric nat_cmp-IsAntisymmetric path other ((Equal-is (slice_cmp nat_cmp path other)).0 is)

pub named_is : (ref : Reference) (cap : Cap) → names ref cap ≡ true → cap ≡ cap_of ref
named_is (import_ i) (caps.Import j) is = ap (λ n. caps.Import n) (is_equal j i is)
named_is (import_ i) caps.None is = absurd (true≢false (sym is))
named_is (import_ i) (caps.Object k) is = absurd (true≢false (sym is))
named_is (import_ i) (caps.Promise p) is = absurd (true≢false (sym is))
named_is (import_ i) (caps.Pipelined q path) is = absurd (true≢false (sym is))
named_is (import_ i) (caps.Broken x) is = absurd (true≢false (sym is))
named_is (path_to q path) (caps.Pipelined p other) is = by p other (is_equal p q (first_true _ _ is)) (same_path other path (second_true (p == q) _ is))
  where
    by : (p : ℕ) (other : List ℕ) → p ≡ q → other ≡ path → caps.Pipelined p other ≡ caps.Pipelined q path
    by p other n along = rw (n, along) refl
named_is (path_to q path) caps.None is = absurd (true≢false (sym is))
named_is (path_to q path) (caps.Object k) is = absurd (true≢false (sym is))
named_is (path_to q path) (caps.Promise p) is = absurd (true≢false (sym is))
named_is (path_to q path) (caps.Import i) is = absurd (true≢false (sym is))
named_is (path_to q path) (caps.Broken x) is = absurd (true≢false (sym is))

names_itself : (ref : Reference) → names ref (cap_of ref) ≡ true
names_itself (import_ i) = is_itself i
names_itself (path_to q path) = rw (is_itself q) (tied_itself_path path)
  where
    tied_itself_path : (path : List ℕ) → eq_by_cmp (slice_cmp nat_cmp) path path ≡ true
    tied_itself_path path = rw (tied_itself nat_list_cmp_total path) refl

pub not_named : (ref : Reference) (cap : Cap) → names ref cap ≡ false → cap ≡ cap_of ref → ⊥
not_named ref cap not is = true≢false (sym (names_itself ref) ∙ ap (names ref) (sym is) ∙ not)

-- The other end forwards no call under the number of a question that isn't there.
pub none_forwards : (s : State) (inbox : List Message) (there : End) → Agree (accounts_of s) inbox (accounts_of there.vat) there.inbox → Local there.vat → (q : ℕ)
    → get s.entries.questions q ≡ None → (a : ℕ) → AllByRecursion (λ p. (q == p) ≡ false) (answer_forwarded (get there.vat.entries.questions a))
none_forwards s inbox there agree local_ q none a = by (get there.vat.entries.questions a) refl
  where
    fits : Fits None (returns_of q inbox) (will_stand q there.inbox (standing_of ((accounts_of there.vat).answers q)))
    fits = rw none at (agree.lives q)

    never : (ticket : Option ℕ) → ForwardsRightly there.vat (Some q) ticket → ⊥
    never None right = right
    never (Some ticket) right =
        let whose : IsTicketOf there.vat (origins.Answer q) ticket = right in
        let stands : IsOpened (standing_of ((accounts_of there.vat).answers q)) = rw (whose.1) (open_standing whose.0.stage whose.0.kept.mentions whose.2) in
        none_fits (returns_of q inbox) (will_stand q there.inbox (standing_of ((accounts_of there.vat).answers q))) fits
        (will_stay q there.inbox (standing_of ((accounts_of there.vat).answers q)) stands)

    by_forwards : (forwards ticket : Option ℕ) → ForwardsRightly there.vat forwards ticket → AllByRecursion (λ p. (q == p) ≡ false) (option_to_list forwards)
    by_forwards None ticket right = tt
    by_forwards (Some p) ticket right = (are_other q p (λ same. never ticket (rw (same) right)), tt)

    by : (o : Option (Exchange QuestionEntry)) → get there.vat.entries.questions a ≡ o → AllByRecursion (λ p. (q == p) ≡ false) (answer_forwarded o)
    by None is = tt
    by (Some entry) is =
        by_forwards entry.kept.forwards entry.kept.ticket
        (there_of (λ (e : Exchange QuestionEntry). ForwardsRightly there.vat e.kept.forwards e.kept.ticket) (get there.vat.entries.questions a) entry is (local_.forwards a))
