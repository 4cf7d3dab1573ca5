use Rattle.std.proofs.Common.{◌<◌, ◌^◌, ◌-◌, ap, sym, subst}
use Rattle.cp_vat.proofs.calling.enter.Goals as goal

pub enter-requires : goal.enter-requires
enter-requires c = subst (λ n. n < 2 ^ 64 - 1) (sym (ap (λ s. s.next_ticket) c.in_ok-question.ensures.asked)) c.requires.ticket
