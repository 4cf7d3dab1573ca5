use Rattle.std.proofs.Common.{◌≡◌, ◌++◌, List, ℕ, refl, ◌∙◌, subst}
use Rattle.std.specs.List.{flat_map}
use Rattle.std.specs.Io.KnownBytes.{Appends}
use Rattle.cp_packed.specs.Words.{bytes_of}
use Rattle.cp_frame.specs.Frame.{padded_table}
use Rattle.cp_words.specs.Segments.{words_of}
use Rattle.cp_frame.proofs.Sends.{appends_both, on_ok_then}
use Rattle.cp_frame.proofs.send.send_plain.Goals as goal

pub returns-clause-sent : goal.returns-clause-sent
returns-clause-sent g c =
    let contents = g.W.Write.contents in
    let vs = c.args.segments.now in
    let body = flat_map bytes_of (words_of vs) in
    let table : c.deref.result.now ≡ padded_table (words_of vs) = c.deref.ensures.value ∙ c.in_ok-table.ensures in
    let first : Appends (contents c.args.to.now) (contents c.write_all.new.self) (padded_table (words_of vs)) =
    subst (λ (b : List ℕ). Appends (contents c.args.to.now) (contents c.write_all.new.self) b) table c.in_default.ensures.bytes in
    on_ok_then c.send_segments.result (λ a. (
      padded_table (words_of vs) ++ body,
      refl,
      appends_both (contents c.args.to.now) (contents c.write_all.new.self) (contents c.send_segments.new.to) (padded_table (words_of vs)) body first a,
    )) c.send_segments.ensures
