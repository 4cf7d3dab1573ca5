-- Accounts that differ in nothing are the same.
use Rattle.std.specs.Prelude.{◌≡◌, ℕ}
use Rattle.cp_vat_pair_laws.specs.Accounts.{Accounts}

-- accounts that differ in nothing
pub same_accounts : (one other : Accounts) → ((e : ℕ) → other.exports e ≡ one.exports e) → ((i : ℕ) → other.imports i ≡ one.imports i)
    → ((q : ℕ) → other.questions q ≡ one.questions q) → ((a : ℕ) → other.answers a ≡ one.answers a) → other ≡ one
same_accounts one other e i q a k =
    record { exports = λ n. e n k; imports = λ n. i n k; questions = λ n. q n k; answers = λ n. a n k }
