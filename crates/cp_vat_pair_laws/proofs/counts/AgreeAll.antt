-- Two vats agree after all that one of them sends.
use Rattle.std.specs.Prelude.{List, [], ◌∷◌, ◌++◌}
use Rattle.std.proofs.Common.{append_assoc}
use Rattle.std.proofs.lemmas.List.{append-nil}
use Rattle.cp_messages.specs.declared.message.Message.{Message}
use Rattle.cp_vat_pair_laws.specs.Accounts.{Accounts, accounts_of}
use Rattle.cp_vat_pair_laws.specs.VatPair.{messages_sent}
use Rattle.cp_vat_pair_laws.specs.Lives.{AreUsual, Agree}
use Rattle.cp_vat_pair_laws.specs.Posting.{Posts, KeepsBy}
use Rattle.cp_vat_pair_laws.proofs.counts.Agree.{keeps}

posts_keep : (ms : List Message) (one new other : Accounts) (to_one to_other : List Message) → Agree one to_one other to_other → AreUsual ms → Posts one ms new
    → Agree new to_one other (to_other ++ ms)
posts_keep [] one new other to_one to_other agree usual posts = rw (posts, append-nil to_other) agree
posts_keep (m ∷ ms) one new other to_one to_other agree usual posts =
    rw
    (← append_assoc to_other (m ∷ []) ms)
    (posts_keep ms posts.0 new other to_one (to_other ++ m ∷ []) (keeps.sent agree usual.0 posts.1) usual.1 posts.2)

pub keeps_by : KeepsBy
keeps_by =
    record {
      sends = λ {old} {new} {effects} {other} {to_one} {to_other} agree sends.
          posts_keep (messages_sent effects) (accounts_of old) (accounts_of new) other to_one to_other agree sends.usual sends.posts;
      hears = λ {old} {new} {effects} {other} {to_one} {to_other} {m} agree hears.
          posts_keep (messages_sent effects) hears.mid (accounts_of new) other to_one to_other (keeps.came agree hears.came) hears.usual hears.posts;
    }
