-- A Release that is sent, as the accounts see it.
use Rattle.std.specs.Prelude.{◌≡◌, refl, ℕ, ◌+◌, ◌==◌, if◌then◌else◌, Bool, true, false, [], ◌∷◌, ◌++◌, Ok, is_none}
use Rattle.std.specs.FinMap.{get, remove}
use Rattle.std.proofs.Common.{arith}
use Rattle.cp_tables.specs.Table.{Table}
use Rattle.cp_tables.specs.Counted.{count_of}
use Rattle.cp_tables.specs.declared.counted.Counted.{Counted}
use Rattle.cp_vat_machine.specs.State.{State}
use Rattle.cp_vat_machine.specs.Then.{fault_if}
use Rattle.cp_vat_machine.specs.InUse.{is_import_used}
use Rattle.cp_vat_machine.specs.Resolving.{release_of}
use Rattle.cp_vat_machine.specs.Calling.{OwnDone}
use Rattle.cp_vat_machine.specs.Doing.{DoRelease, without_import}
use Rattle.cp_vat_machine.specs.declared.entry.ImportKind.{ImportKind}
use Rattle.cp_vat_machine.specs.declared.event.Value.TheVariants as values
use Rattle.cp_vat_machine.specs.declared.fault.VatFault.{VatFault}
use Rattle.cp_vat_machine.specs.declared.fault.VatFault.TheVariants as refusals
use Rattle.cp_vat_machine.proofs.Basics.{is_equal, ok_in, unless_out}
use Rattle.cp_vat_pair_laws.specs.Accounts.{accounts_of}
use Rattle.cp_vat_pair_laws.specs.Posting.{Sends}
use Rattle.cp_vat_pair_laws.proofs.counts.rules.Counted.{gone_count}

given_back : (table : Table (Counted ImportKind)) (i f : ℕ) (b : Bool) → (i == f) ≡ b
    → count_of table f ≡ count_of (remove table i) f + (if b then count_of table i else 0)
given_back table i f true t = rw (gone_count table i f true t, ← is_equal i f t) (omega arith)
given_back table i f false t = rw (gone_count table i f false t) (omega arith)

pub releases_sent : (old : State) (i : ℕ) (done : OwnDone) → DoRelease old i (Ok done) → Sends old done.1 done.2
releases_sent old i done does =
    let is = unless_out {A = OwnDone} {F = VatFault}
    (fault_if (is_import_used old i) refusals.InUse ++ fault_if (is_none (get old.counts.imports i)) refusals.UnknownImport)
    (λ out. out ≡ Ok (values.Nothing, release_of i (count_of old.counts.imports i) ∷ [], without_import old i)) done does in
    rw
    (ok_in _ _ is)
    (record {
      usual = ((refl, tt), tt);
      posts = (
        accounts_of (without_import old i),
        record {
          exports = λ e. omega arith;
          imports = λ f. given_back old.counts.imports i f (i == f) refl;
          questions = λ q. refl;
          answers = λ a. refl;
        },
        refl,
      );
    })
