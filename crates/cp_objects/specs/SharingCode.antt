-- How what sessions share is stored: as its parts.
use Rattle.std.specs.Prelude.{refl, ℕ}
use Rattle.std.specs.Coded.{Coded, code_by, coded×, coded_ℕ}
use Rattle.std.specs.FinMap as map
use Rattle.cp_tables.specs.Table.{Table}
use Rattle.cp_objects.specs.contracts.letters.Caller as caller
use Rattle.cp_objects.specs.contracts.letters.ForwardedCall as forwarded_call
use Rattle.cp_objects.specs.contracts.shared_cap.LentCap as lent_cap
use Rattle.cp_objects.specs.declared.letters.Caller.{Caller}
use Rattle.cp_objects.specs.declared.letters.ForwardedCall.{ForwardedCall}
use Rattle.cp_objects.specs.declared.shared_cap.LentCap.{LentCap}
use Rattle.cp_objects.specs.Lending.{CallsState}
use Rattle.cp_objects.specs.Proxying.{ProxyState}

abbrev pub proxy_code : Coded ProxyState
proxy_code =
    code_by
    (LentCap × Table ℕ)
    (coded× lent_cap.the_row.coded (map.code coded_ℕ coded_ℕ))
    (λ p. (p.target, p.pending))
    (λ parts. record { target = parts.0; pending = parts.1 })
    (λ _. refl)

abbrev pub calls_code : Coded CallsState
calls_code =
    code_by
    (Table ForwardedCall × (Table Caller × (Table ℕ × ℕ)))
    (coded× (map.code coded_ℕ forwarded_call.the_row.coded) (coded× (map.code coded_ℕ caller.the_row.coded) (coded× (map.code coded_ℕ coded_ℕ) coded_ℕ)))
    (λ c. (c.waiting, (c.callers, (c.numbers, c.next))))
    (λ parts. record { waiting = parts.0; callers = parts.1.0; numbers = parts.1.1.0; next = parts.1.1.1 })
    (λ _. refl)
