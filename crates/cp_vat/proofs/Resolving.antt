-- What follows where an import is held that a Resolve names.
use Rattle.std.proofs.Common.{◌≡◌, true, [], Some, Result, Ok, refl, subst}
use Rattle.std.specs.FinMap.{get}
use Rattle.cp_tables.specs.declared.counted.Counted.{Counted}
use Rattle.cp_messages.specs.declared.resolve.Resolve.{Resolve}
use Rattle.cp_refs.specs.declared.cap.Cap.{Cap}
use Rattle.cp_vat_machine.specs.State.{State}
use Rattle.cp_vat_machine.specs.Resolving.{ResolveOf, OnResolve, TakeResolution, is_open_promise, resolved}
use Rattle.cp_vat_machine.specs.Then.{Done, Unless, Then, fault_if}
use Rattle.cp_vat_machine.specs.declared.entry.ImportKind.{ImportKind}
use Rattle.cp_vat_machine.specs.declared.fault.PeerFault.{PeerFault}
use Rattle.cp_vat_machine.specs.declared.fault.PeerFault.TheVariants as faults
use Rattle.std.specs.Prelude.{not}

resolve_of_open : (old mid : State) (r : Resolve) (entry : Counted ImportKind) (value : Cap) → true ≡ is_open_promise entry.kept (get old.values.imports r.promise_id)
    → TakeResolution old r.resolution (Ok (value, mid)) → ResolveOf old r (Some entry) (Ok ([], resolved mid r.promise_id value))
resolve_of_open old mid r entry value is_open taken =
    let rule : Result Done PeerFault → Type 0 = λ out. Then (TakeResolution old r.resolution) (λ taken out. out ≡ Ok ([], resolved taken.1 r.promise_id taken.0)) out in
    subst (λ b. Unless (fault_if (not b) faults.NotAnOpenPromise) rule (Ok ([], resolved mid r.promise_id value))) is_open (Ok (value, mid), taken, refl)

-- an open promise that is held came to what the resolution is taken in as
pub resolves_open : (old mid : State) (r : Resolve) (entry : Counted ImportKind) (value : Cap) → Some entry ≡ get old.counts.imports r.promise_id
    → true ≡ is_open_promise entry.kept (get old.values.imports r.promise_id) → TakeResolution old r.resolution (Ok (value, mid))
    → OnResolve old r (Ok ([], resolved mid r.promise_id value))
resolves_open old mid r entry value there is_open taken =
    subst (λ o. ResolveOf old r o (Ok ([], resolved mid r.promise_id value))) there (resolve_of_open old mid r entry value is_open taken)
