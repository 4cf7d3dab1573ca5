use Rattle.std.proofs.Common.{◌++◌, ◌/◌, ◌≤◌, inl, inr, List, ℕ, length, take, refl, sym, subst, ap, ◌∙◌}
use Rattle.std.proofs.lemmas.Result.{IfErr-weaker, on_ok_weaker}
use Rattle.cp_frame.specs.Parts.{IsTable, IsWholeTable, count_of, halves, NamesLittle}
use Rattle.cp_frame.specs.Stream.{numbers, NamesFault}
use Rattle.std.proofs.lemmas.Bool.{true≢false}
use Rattle.cp_frame.proofs.Begun.{unfinished}
use Rattle.cp_frame.proofs.Ends.{complete_of, open_by, table_by}
use Rattle.cp_frame.proofs.Opened.{segments_go_on, little_in_table, little_in_segments}
use Rattle.cp_packed.specs.Unpacking.{laid, pending_of}
use Rattle.cp_frame.proofs.rest.Rest.check.Goals as goal

pub returns-then-is_empty-clause-sound : goal.returns-then-is_empty-clause-sound
returns-then-is_empty-clause-sound c =
    let whole = c.is_complete.ensures.0 c.if-is_complete.true in
    inl (complete_of c.args.limits c.args.self.now.frame c.requires.begun whole.0 whole.1, c.is_empty.ensures.0 c.if-is_empty.true)

pub returns-then-is_whole-clause-sound : goal.returns-then-is_whole-clause-sound
returns-then-is_whole-clause-sound c =
    let f = c.args.self.now.frame in
    let begun = open_by c.args.limits f c.is_complete.result c.requires.begun c.is_complete.ensures.1 c.if-is_complete.false in
    let whole = subst (λ (ws : List ℕ). IsWholeTable ws) c.deref.ensures.value (c.is_whole.ensures.0 c.if-is_whole.true) in
    inr (begun, little_in_segments c.args.limits f (laid (pending_of c.args.self.now.group)) (segments_go_on c.args.limits f begun whole))

pub check_laid-requires-clause-so_far : goal.check_laid-requires-clause-so_far
check_laid-requires-clause-so_far c =
    let f = c.args.self.now.frame in
    let begun = open_by c.args.limits f c.is_complete.result c.requires.begun c.is_complete.ensures.1 c.if-is_complete.false in
    let open_table = table_by c.args.limits f c.deref.result.now c.is_whole.result begun c.deref.ensures.value c.is_whole.ensures.1 c.if-is_whole.false in
    subst (λ (ws : List ℕ). IsTable c.args.limits ws f.total) (sym c.deref-2.ensures.value) open_table.table

pub check_laid-requires-clause-open : goal.check_laid-requires-clause-open
check_laid-requires-clause-open c =
    let f = c.args.self.now.frame in
    let begun = open_by c.args.limits f c.is_complete.result c.requires.begun c.is_complete.ensures.1 c.if-is_complete.false in
    let open_table = table_by c.args.limits f c.deref.result.now c.is_whole.result begun c.deref.ensures.value c.is_whole.ensures.1 c.if-is_whole.false in
    subst (λ (ws : List ℕ). length ws ≤ count_of ws / 2) (sym c.deref-2.ensures.value) open_table.goes_on

pub returns-clause-sound : goal.returns-clause-sound
returns-clause-sound c =
    let f = c.args.self.now.frame in
    let p = pending_of c.args.self.now.group in
    let begun = open_by c.args.limits f c.is_complete.result c.requires.begun c.is_complete.ensures.1 c.if-is_complete.false in
    let open_table = table_by c.args.limits f c.deref.result.now c.is_whole.result begun c.deref.ensures.value c.is_whole.ensures.1 c.if-is_whole.false in
    let named = ap (λ (ws : List ℕ). halves ws ++ numbers (take c.laid-known.result.1 c.laid-known.result.0)) c.deref-2.ensures.value
    ∙ ap (λ (b : List ℕ). halves f.table.items ++ numbers b) c.laid-known.ensures.known ∙ sym (little_in_table c.args.limits f (laid p) open_table c.requires.no_part) in
    on_ok_weaker c.check_laid.result (λ k. inr (begun, subst (λ (ns : List ℕ). NamesLittle c.args.limits ns) named k)) c.check_laid.ensures.little

pub returns-clause-fault : goal.returns-clause-fault
returns-clause-fault c =
    let f = c.args.self.now.frame in
    let p = pending_of c.args.self.now.group in
    let begun = open_by c.args.limits f c.is_complete.result c.requires.begun c.is_complete.ensures.1 c.if-is_complete.false in
    let open_table = table_by c.args.limits f c.deref.result.now c.is_whole.result begun c.deref.ensures.value c.is_whole.ensures.1 c.if-is_whole.false in
    let named = ap (λ (ws : List ℕ). halves ws ++ numbers (take c.laid-known.result.1 c.laid-known.result.0)) c.deref-2.ensures.value
    ∙ ap (λ (b : List ℕ). halves f.table.items ++ numbers b) c.laid-known.ensures.known ∙ sym (little_in_table c.args.limits f (laid p) open_table c.requires.no_part) in
    IfErr-weaker c.check_laid.result _ _ (λ fault k. inr (subst (λ (ns : List ℕ). NamesFault c.args.limits ns fault) named k)) c.check_laid.ensures.fault

pub returns-then-is_complete-clause-fault : goal.returns-then-is_complete-clause-fault
returns-then-is_complete-clause-fault c =
    let r = c.args.self.now in
    let whole = c.is_complete.ensures.0 c.if-is_complete.true in
    inl (refl, complete_of c.args.limits r.frame c.requires.begun whole.0 whole.1, unfinished r.group (λ none. true≢false (sym (c.is_empty.ensures.1 none) ∙ c.if-is_empty.false)))
