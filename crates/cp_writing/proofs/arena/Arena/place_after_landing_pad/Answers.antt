use Rattle.std.proofs.Common.{◌≡◌, false, length, refl, sym, ap, subst, ◌∙◌, ◌∷◌, []}
use Rattle.std.proofs.lemmas.List.{length-map}
use Rattle.std.proofs.lemmas.Result.{err_from_is_err_and}
use Rattle.std.specs.Prelude.{Vec, ℕ}
use Rattle.std.specs.declared.alloc.Global.{Global}
use Rattle.cp_words.specs.Word.{word_of}
use Rattle.cp_words.specs.declared.pointer.Pointer.TheVariants as pointers
use Rattle.cp_writing.specs.Sheets.{Written, written, put, append, body_word, after_landing_pad, Refuses}
use Rattle.cp_writing.proofs.Sheets.{put-keeps, within, limits_on, refuses_on}
use Rattle.cp_writing.proofs.arena.Arena.place_after_landing_pad.Goals as goal

pub append-requires : goal.append-requires
append-requires c =
    let A = c.args.self.now in
    let at = c.args.at in
    within A c.put.new.self _ c.put.ensures.written c.put.ensures.limits (put-keeps A.capacity (written A) at.segment at.word _ c.requires.there.0 c.requires.keeps)

pub returns-in_err-append : goal.returns-in_err-append
returns-in_err-append c =
    let A = c.args.self.now in
    let F = written A in
    let at = c.args.at in
    let e = c.in_err-append.field-0.0 in
    let last = c.len-place.ensures in
    let full = c.len-segment.ensures ∙ A.full.ok.0 ∙ sym (length-map A.full.items (λ (x : Vec ℕ Global). x.items)) in
    let word = c.encode.ensures.word ∙ ap (λ (p : ℕ). word_of (pointers.Far false p c.len-segment.result)) last ∙ ap (λ (s : ℕ). word_of (pointers.Far false (length F.last) s)) full in
    let named : written c.put.new.self ≡ put at.segment at.word (word_of (pointers.Far false (length F.last) (length F.full))) F = c.put.ensures.written ∙ ap (λ (w : ℕ). put at.segment at.word w F) word in
    let is : append (c.body_word.result ∷ []) (written c.put.new.self) ≡ (after_landing_pad at.segment at.word c.args.kind F).arena =
    ap (λ (w : ℕ). append (w ∷ []) (written c.put.new.self)) c.body_word.ensures ∙ ap (λ (G : Written). append (body_word c.args.kind 0 ∷ []) G) named in
    let p = err_from_is_err_and c.from_residual.result c.from_residual.ensures.1 in
    rw (p.1, p.2) (subst (λ (G : Written). Refuses A.capacity e G) is (refuses_on A c.put.new.self e _ c.put.ensures.limits c.in_err-append.ensures), tt)

pub returns : goal.returns
returns c =
    let A = c.args.self.now in
    let F = written A in
    let at = c.args.at in
    let last = c.len-place.ensures in
    let full = c.len-segment.ensures ∙ A.full.ok.0 ∙ sym (length-map A.full.items (λ (x : Vec ℕ Global). x.items)) in
    let word = c.encode.ensures.word ∙ ap (λ (p : ℕ). word_of (pointers.Far false p c.len-segment.result)) last ∙ ap (λ (s : ℕ). word_of (pointers.Far false (length F.last) s)) full in
    let named : written c.put.new.self ≡ put at.segment at.word (word_of (pointers.Far false (length F.last) (length F.full))) F = c.put.ensures.written ∙ ap (λ (w : ℕ). put at.segment at.word w F) word in
    let is : append (c.body_word.result ∷ []) (written c.put.new.self) ≡ (after_landing_pad at.segment at.word c.args.kind F).arena =
    ap (λ (w : ℕ). append (w ∷ []) (written c.put.new.self)) c.body_word.ensures ∙ ap (λ (G : Written). append (body_word c.args.kind 0 ∷ []) G) named in
    let h = c.in_ok-append.ensures in
    ((h.0 ∙ is, h.1, limits_on A c.put.new.self c.append.new.self c.put.ensures.limits h.2), rw (last, full) refl)
