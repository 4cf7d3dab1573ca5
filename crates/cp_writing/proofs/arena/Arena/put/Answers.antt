use Rattle.std.proofs.Common.{◌≡◌, ◌<◌, length, arith}
use Rattle.std.proofs.lemmas.List.{length-map}
use Rattle.std.specs.Prelude.{Vec, ℕ}
use Rattle.std.specs.declared.alloc.Global.{Global}
use Rattle.cp_writing.specs.Strips.{words_on}
use Rattle.cp_words.specs.Segments.{words_of}
use Rattle.cp_writing.specs.Sheets.{written}
use Rattle.cp_writing.proofs.Sheets.{put_last, put_there_of}
use Rattle.cp_writing.proofs.arena.Arena.put.Goals as goal

pub returns-then-at-len-clause-written : goal.returns-then-at-len-clause-written
returns-then-at-len-clause-written c =
    let full = c.args.self.now.full in
    let last : c.args.at.segment ≡ length (words_of full.items) = omega (arith, length-map full.items (λ (x : Vec ℕ Global). x.items), c.if-at-len.true, c.len.ensures, full.ok.0) in
    put_last (written c.args.self.now) c.args.at.segment c.args.at.word c.args.word (words_on c.put.new.self) last c.put.ensures

pub returns-else-at-len-clause-written : goal.returns-else-at-len-clause-written
returns-else-at-len-clause-written c =
    let full = c.args.self.now.full in
    let same = length-map full.items (λ (x : Vec ℕ Global). x.items) in
    let lt : c.args.at.segment < length full.items = omega (arith, same, c.requires.0, c.if-at-len.false, c.len.ensures, full.ok.0) in
    put_there_of full.items (words_on c.args.self.now.last) c.args.self.now.words c.args.at.segment c.args.at.word c.args.word _ c.index_mut.ensures.value lt
