use Rattle.std.proofs.Common.{All, rules, subst}
use Rattle.std.specs.Prelude.{Vec}
use Rattle.std.specs.declared.alloc.Global.{Global}
use Rattle.std.proofs.Common.{ℕ}
use Rattle.cp_words.specs.Limits.{IsAllowed}
use Rattle.cp_tree.specs.Shaped.{AllFit}
use Rattle.cp_canonical.proofs.Refusals.{answers_form, refused_message}
use Rattle.cp_canonical.proofs.canonical.canonical_message.Goals as goal

pub returns-clause-only : goal.returns-clause-only
returns-clause-only c ws form =
    let fit = subst (All (AllFit 64)) c.lists.ensures.all c.segments_fit.ensures in
    let allowed : IsAllowed c.args.limits = search rules in
    answers_form c.args.segments.now c.args.limits c.in_ok-view.view c.canonical_of.result ws fit allowed c.in_ok-view.ensures.found c.canonical_of.ensures.canonical c.canonical_of.ensures.refused form

pub returns-clause-refused : goal.returns-clause-refused
returns-clause-refused c =
    let fit = subst (All (AllFit 64)) c.lists.ensures.all c.segments_fit.ensures in
    let allowed : IsAllowed c.args.limits = search rules in
    refused_message (Vec ℕ Global) c.args.segments.now c.args.limits c.in_ok-view.view c.canonical_of.result fit allowed c.in_ok-view.ensures.found c.canonical_of.ensures.refused
