-- What each export is owed: what the other end holds of it, and what of it is on the way. (rpc.capnp: "CapDescriptor", "Release", "Finish.releaseResultCaps".)
use Rattle.std.specs.Prelude.{ℕ, ◌+◌, List, [], ◌∷◌, Option}
use Rattle.cp_messages.specs.declared.message.Message.{Message}
use Rattle.cp_vat_machine.specs.Receiving.{times}
use Rattle.cp_vat_pair_laws.specs.Accounts.{Account, Accounts, accounts_of, taken_in, Lowerable, lowerable, lowered_by, lowerable_after}
use Rattle.cp_vat_pair_laws.specs.VatPair.{End, VatPair, Side, across, end_of}

-- how often the messages to a vat name an import that it will take in
abbrev pub named_on_way : (ℕ → Option Account) → List Message → ℕ → ℕ
named_on_way questions [] i = 0
named_on_way questions (m ∷ more) i = times i (taken_in questions m) + named_on_way questions more i

-- how much the messages to a vat will lower an export
abbrev pub lowered_on_way : Lowerable → List Message → ℕ → ℕ
lowered_on_way lists [] e = 0
lowered_on_way lists (m ∷ more) e = lowered_by lists m e + lowered_on_way (lowerable_after m lists) more e

-- An export is owed as much as the other vat's import of its number counts, as often as the messages on the way there name it, and as much as the messages
-- on the way back will lower it.
abbrev pub owed_between : Accounts → List Message → Accounts → List Message → ℕ → ℕ
owed_between there inbox_there here inbox_here e =
    there.imports e + named_on_way there.questions inbox_there e + lowered_on_way (lowerable here) inbox_here e

abbrev pub owed_by : End → End → ℕ → ℕ
owed_by there here e = owed_between (accounts_of there.vat) there.inbox (accounts_of here.vat) here.inbox e

abbrev pub owed : VatPair → Side → ℕ → ℕ
owed w side e = owed_by (end_of w (across side)) (end_of w side) e
