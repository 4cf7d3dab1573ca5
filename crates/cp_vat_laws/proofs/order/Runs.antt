-- Every run's turns are orderly.
use Rattle.cp_vat_laws.specs.OrderKept.{RunsAreOrderly}
use Rattle.cp_vat_laws.proofs.within.Leave.{turn_keeps}
use Rattle.cp_vat_laws.proofs.within.Step.{does_within, receives_within}
use Rattle.cp_vat_machine.proofs.NewVats.{new_local}
use Rattle.cp_vat_laws.proofs.order.Step.{VatKeeps, runs_hold}

pub vat_keeps : VatKeeps
vat_keeps =
    record {
      owns = λ old mid event value first h does. does_within old event (value, first, mid) h does;
      hears = λ old mid m first h does. receives_within old m (first, mid) h does;
      goes = turn_keeps;
    }

pub runs_are_orderly : RunsAreOrderly
runs_are_orderly bootstrap history run = runs_hold vat_keeps new_local bootstrap history run
