use Rattle.std.proofs.Common.{Err, sym, ap, ◌∙◌}
use Rattle.cp_rpc.proofs.Texts.{text-held}
use Rattle.cp_rpc.proofs.text.text_at.Goals as goal

pub unreachable-requires-in-Err-NotUtf8 : goal.unreachable-requires-in-Err-NotUtf8
unreachable-requires-in-Err-NotUtf8 c =
    let held = text-held c.args.at c.in-Ok.text c.requires (sym c.of.ensures ∙ c.in-Ok.is) in
    c.text.ensures.fault (c.in-Err-NotUtf8.is ∙ ap (λ e. Err e) c.in-Err-NotUtf8.field-0-is) held.1
