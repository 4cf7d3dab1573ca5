-- Messages that are sent in two parts.
use Rattle.std.specs.Prelude.{◌≡◌, refl, List, [], ◌∷◌, ◌++◌}
use Rattle.std.proofs.Common.{sym, append_assoc}
use Rattle.cp_messages.specs.declared.message.Message.{Message}
use Rattle.cp_vat_machine.specs.State.{State}
use Rattle.cp_vat_machine.specs.declared.effect.Effect.{Effect}
use Rattle.cp_vat_pair_laws.specs.Accounts.{Accounts, accounts_of, Sent}
use Rattle.cp_vat_pair_laws.specs.VatPair.{message_sent, messages_sent}
use Rattle.cp_vat_pair_laws.specs.Lives.{IsUsual, AreUsual}
use Rattle.cp_vat_pair_laws.specs.Posting.{Posts, Sends, Hears}

pub posts_both : (ms more : List Message) (old mid new : Accounts) → Posts old ms mid → Posts mid more new → Posts old (ms ++ more) new
posts_both [] more old mid new first rest = rw (← first) rest
posts_both (m ∷ ms) more old mid new first rest = (first.0, first.1, posts_both ms more first.0 mid new first.2 rest)

pub usual_both : (ms more : List Message) → AreUsual ms → AreUsual more → AreUsual (ms ++ more)
usual_both [] more first rest = rest
usual_both (m ∷ ms) more first rest = (first.0, usual_both ms more first.1 rest)

pub sent_both : (one more : List Effect) → messages_sent (one ++ more) ≡ messages_sent one ++ messages_sent more
sent_both [] more = refl
sent_both (e ∷ es) more = rw (sent_both es more) (sym (append_assoc (message_sent e) (messages_sent es) (messages_sent more)))

pub sends_both : (old mid new : State) (one more : List Effect) → Sends old one mid → Sends mid more new → Sends old (one ++ more) new
sends_both old mid new one more first rest =
    record {
      usual = rw (sent_both one more) (usual_both (messages_sent one) (messages_sent more) first.usual rest.usual);
      posts =
          rw
          (sent_both one more)
          (posts_both (messages_sent one) (messages_sent more) (accounts_of old) (accounts_of mid) (accounts_of new) first.posts rest.posts);
    }

pub hears_both : (old mid new : State) (m : Message) (one more : List Effect) → Hears old m one mid → Sends mid more new → Hears old m (one ++ more) new
hears_both old mid new m one more first rest =
    record {
      mid = first.mid;
      came = first.came;
      usual = rw (sent_both one more) (usual_both (messages_sent one) (messages_sent more) first.usual rest.usual);
      posts = rw (sent_both one more) (posts_both (messages_sent one) (messages_sent more) first.mid (accounts_of mid) (accounts_of new) first.posts rest.posts);
    }

-- nothing is sent
pub sends_none : (old new : State) (effects : List Effect) → messages_sent effects ≡ [] → accounts_of new ≡ accounts_of old → Sends old effects new
sends_none old new effects none same = record { usual = rw (none) tt; posts = rw (none) same }

-- one message is sent
pub sends_one : (old new : State) (m : Message) (effects : List Effect) → messages_sent effects ≡ m ∷ [] → IsUsual m
    → Sent (accounts_of old) m (accounts_of new) → Sends old effects new
sends_one old new m effects is usual sent = record { usual = rw (is) (usual, tt); posts = rw (is) (accounts_of new, sent, refl) }
