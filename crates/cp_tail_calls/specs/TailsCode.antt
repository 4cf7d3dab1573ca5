-- How tail calls are stored.
use Rattle.std.specs.Prelude.{refl, ℕ, List}
use Rattle.std.specs.FinMap as map
use Rattle.std.specs.Coded.{Coded, code_by, coded×, coded_ℕ, coded_list}
use Rattle.cp_tables.specs.Table.{Table}
use Rattle.cp_messages.specs.declared.returned.Return.{Return}
use Rattle.cp_messages.specs.contracts.returned.Return as returned
use Rattle.cp_tail_calls.specs.declared.forwarding.ForwardedMessage.{ForwardedMessage}
use Rattle.cp_tail_calls.specs.contracts.forwarding.ForwardedMessage as owed
use Rattle.cp_tail_calls.specs.declared.progress.Progress.{Progress}
use Rattle.cp_tail_calls.specs.contracts.progress.Progress as progress
use Rattle.cp_tail_calls.specs.Tails.{Tails}

-- tail calls are stored as their parts
abbrev pub tails_code : Coded Tails
tails_code =
    code_by
    (Table Progress × (Table Return × (Table ℕ × (Table ℕ × List ForwardedMessage))))
    (coded× (map.code coded_ℕ progress.the_row.coded) (coded× (map.code coded_ℕ returned.the_row.coded) (coded× (map.code coded_ℕ coded_ℕ) (coded× (map.code coded_ℕ coded_ℕ) (coded_list owed.the_row.coded)))))
    (λ t. (t.calls, (t.results, (t.takers, (t.lent, t.owed)))))
    (λ parts. record { calls = parts.0; results = parts.1.0; takers = parts.1.1.0; lent = parts.1.1.1.0; owed = parts.1.1.1.1 })
    (λ _. refl)
