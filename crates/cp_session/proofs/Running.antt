-- How what is done with a session follows each other.
use Rattle.std.proofs.Common.{◌≡◌, ◌∙◌, refl, sym, ap, append-nil, append_assoc}
use Rattle.cp_objects.specs.ObjectTable.{ObjectTableKind}
use Rattle.cp_session.specs.Runs.{Transfer, Does, Runs, begins, both, goes_on, nothing}
use Rattle.cp_session.specs.State.{State}

-- nothing after it
pub both_nothing : (transfer : Transfer) → both transfer nothing ≡ transfer
both_nothing transfer = rw (append-nil transfer.given, append-nil transfer.taken, append-nil transfer.written, append-nil transfer.ended, append-nil transfer.called, append-nil transfer.released, append-nil transfer.roused, append-nil transfer.delivered, append-nil transfer.refused, append-nil transfer.ticked, append-nil transfer.told, append-nil transfer.sent, append-nil transfer.times) refl

-- nothing before it
pub nothing_both : (transfer : Transfer) → both nothing transfer ≡ transfer
nothing_both transfer = refl

pub both_assoc : (a b c : Transfer) → both (both a b) c ≡ both a (both b c)
both_assoc a b c =
    rw (append_assoc a.given b.given c.given, append_assoc a.taken b.taken c.taken, append_assoc a.written b.written c.written, append_assoc a.ended b.ended c.ended, append_assoc a.called b.called c.called, append_assoc a.released b.released c.released, append_assoc a.roused b.roused c.roused, append_assoc a.delivered b.delivered c.delivered, append_assoc a.refused b.refused c.refused, append_assoc a.ticked b.ticked c.ticked, append_assoc a.told b.told c.told, append_assoc a.sent b.sent c.sent, append_assoc a.times b.times c.times) refl

-- one call alone
pub runs_one : {H : Type 0} {table : ObjectTableKind H} {old new : State H} (transfer : Transfer) → Does table old transfer new → Runs table old transfer new
runs_one transfer does = goes_on begins does (sym (nothing_both transfer))

-- one run after another
pub runs_both : {H : Type 0} {table : ObjectTableKind H} {a b c : State H} {one other : Transfer} → Runs table a one b → Runs table b other c → Runs table a (both one other) c
runs_both {one = one} h begins = rw (both_nothing one) h
runs_both {one = one} h (goes_on {before = before} {transfer = transfer} before_it does is) =
    goes_on (runs_both h before_it) does (ap (λ d. both one d) is ∙ sym (both_assoc one before transfer))
