use Rattle.std.proofs.Common.{◌≡◌, ◌↔◌, IsTrue, sym, subst}
use Rattle.cp_frame.specs.declared.mode.Mode.{Mode}
use Rattle.cp_frame.specs.Rest.{count_for}
use Rattle.cp_frame.proofs.Readers.{plain_none, none_plain}
use Rattle.cp_frame.proofs.rest.Rest.is_blank.Goals as goal

pub returns-in-Plain : goal.returns-in-Plain
returns-in-Plain c =
    subst (λ (mode : Mode). IsTrue c.is_empty.result ↔ (count_for mode c.args.self.now ≡ 0)) (sym c.in-Plain.is)
    (λ t. plain_none c.args.self.now c.requires (c.is_empty.ensures.0 t), λ e. c.is_empty.ensures.1 (none_plain c.args.self.now e))
