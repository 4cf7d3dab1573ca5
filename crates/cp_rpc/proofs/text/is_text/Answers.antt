use Rattle.std.proofs.Common.{sym, ◌∙◌}
use Rattle.cp_rpc.proofs.Texts.{text-found}
use Rattle.cp_rpc.proofs.text.is_text.Goals as goal

pub returns-in-Ok : goal.returns-in-Ok
returns-in-Ok c = text-found c.args.at c.in-Ok.text c.is_utf8.result (sym c.of.ensures ∙ c.in-Ok.is) (λ n. (let t = c.is_null.ensures.1 n in let f = c.if-is_null.false in cc (t, f))) c.is_utf8.ensures
