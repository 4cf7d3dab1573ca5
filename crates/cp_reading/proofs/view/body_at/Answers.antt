use Rattle.std.proofs.Common.{◌<◌, length, refl}
use Rattle.std.specs.Prelude.{Vec, ℕ}
use Rattle.std.specs.declared.alloc.Global.{Global}
use Rattle.std.proofs.lemmas.List.{length-map}
use Rattle.cp_words.specs.Segments.{words_of}
use Rattle.cp_reading.proofs.Views.{found-node, found-part}
use Rattle.cp_reading.proofs.view.body_at.Goals as goal

pub returns-in-Struct-clause-node : goal.returns-in-Struct-clause-node
returns-in-Struct-clause-node c =
    let e = c.area_again.ensures in
    let exists : c.args.at.segment < length (words_of c.args.segments.now) = rw (length-map c.args.segments.now (λ (x : Vec ℕ Global). x.items)) c.requires.exists in
    found-node (words_of c.args.segments.now) c.args.at _ _ _ (rw c.in-Struct.is refl) c.requires.checked c.requires.here e.area e.here exists e.within e.whole

pub returns-in-Struct-clause-part : goal.returns-in-Struct-clause-part
returns-in-Struct-clause-part c =
    let e = c.area_again.ensures in
    let exists : c.args.at.segment < length (words_of c.args.segments.now) = rw (length-map c.args.segments.now (λ (x : Vec ℕ Global). x.items)) c.requires.exists in
    found-part (words_of c.args.segments.now) c.args.at _ _ _ (rw c.in-Struct.is refl) c.requires.checked c.requires.here e.area e.here exists e.within e.whole e.small

pub returns-in-List-clause-node : goal.returns-in-List-clause-node
returns-in-List-clause-node c =
    let e = c.area_again-in-List.ensures in
    let exists : c.args.at.segment < length (words_of c.args.segments.now) = rw (length-map c.args.segments.now (λ (x : Vec ℕ Global). x.items)) c.requires.exists in
    found-node (words_of c.args.segments.now) c.args.at _ _ _ (rw c.in-List.is refl) c.requires.checked c.requires.here e.area e.here exists e.within e.whole

pub returns-in-List-clause-part : goal.returns-in-List-clause-part
returns-in-List-clause-part c =
    let e = c.area_again-in-List.ensures in
    let exists : c.args.at.segment < length (words_of c.args.segments.now) = rw (length-map c.args.segments.now (λ (x : Vec ℕ Global). x.items)) c.requires.exists in
    found-part (words_of c.args.segments.now) c.args.at _ _ _ (rw c.in-List.is refl) c.requires.checked c.requires.here e.area e.here exists e.within e.whole e.small
