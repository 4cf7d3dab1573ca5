-- What a vat sends, message by message, as its accounts see it.
use Rattle.std.specs.Prelude.{◌≡◌, false, List, [], ◌∷◌, ◌++◌}
use Rattle.cp_tables.specs.declared.exchange.Exchange.{Exchange}
use Rattle.cp_tables.specs.declared.exchange.Stage.{Stage}
use Rattle.cp_tables.specs.declared.exchange.Stage.TheVariants as stages
use Rattle.cp_messages.specs.declared.message.Message.{Message}
use Rattle.cp_vat_machine.specs.State.{State}
use Rattle.cp_vat_machine.specs.declared.effect.Effect.{Effect}
use Rattle.cp_vat_machine.specs.declared.entry.QuestionEntry.{QuestionEntry}
use Rattle.cp_vat_pair_laws.specs.Accounts.{Accounts, accounts_of, Sent, Came}
use Rattle.cp_vat_pair_laws.specs.VatPair.{messages_sent}
use Rattle.cp_vat_pair_laws.specs.Lives.{AreUsual, Agree}

-- messages sent one after another
abbrev pub Posts : Accounts → List Message → Accounts → Type 0
Posts old [] new = new ≡ old
Posts old (m ∷ more) new = (mid : Accounts) × Sent old m mid × Posts mid more new

-- From state to state only these usual messages were sent.
pub record Sends (old : State) (effects : List Effect) (new : State) : Type 0 where
  pub usual : AreUsual (messages_sent effects)
  pub posts : Posts (accounts_of old) (messages_sent effects) (accounts_of new)

-- A message came, and then only these usual ones were sent.
pub record Hears (old : State) (m : Message) (effects : List Effect) (new : State) : Type 0 where
  pub mid : Accounts
  pub came : Came (accounts_of old) m mid
  pub usual : AreUsual (messages_sent effects)
  pub posts : Posts mid (messages_sent effects) (accounts_of new)

-- Two vats agree on after what one of them sends, and after a message that came and what is sent then.
pub record KeepsBy : Type 0 where
  pub sends : {old new : State} {effects : List Effect} {other : Accounts} {to_one to_other : List Message} → Agree (accounts_of old) to_one other to_other
      → Sends old effects new → Agree (accounts_of new) to_one other (to_other ++ messages_sent effects)
  pub hears : {old new : State} {effects : List Effect} {other : Accounts} {to_one to_other : List Message} {m : Message}
      → Agree (accounts_of old) (m ∷ to_one) other to_other → Hears old m effects new
      → Agree (accounts_of new) to_one other (to_other ++ messages_sent effects)

-- a question whose call wasn't sent, nor has an outcome
abbrev pub IsUngiven : Stage → Type 0
IsUngiven stages.Returned = ⊥
IsUngiven other = Unit {0}

abbrev pub IsUnsent : Exchange QuestionEntry → Type 0
IsUnsent entry = (entry.kept.is_sent ≡ false) × IsUngiven entry.stage
