-- What the first bytes of a header say of the whole one.
use Rattle.std.proofs.Common.{◌≡◌, ◌≢◌, ◌∙◌, ℕ, ◌+◌, ◌-◌, ◌*◌, ◌<◌, ◌≤◌, nat_eq, List, [], ◌∷◌, ◌++◌, length, take, drop, get_or, Option, Some, None, IfSome, IfNone, codes, Bool, true, false, true≢false, Contains, inl, inr, sym, ap, subst, subst₂, refl, arith, append-nil, length-append, length-take, get_or-take}
use Rattle.std.proofs.Math.ListN.{get_or-append}
use Rattle.std.proofs.Math.Seq.{take-append-le}
use Rattle.std.proofs.lemmas.List.{get_or_default}
use Rattle.std.proofs.lemmas.Bool.{false≢true}
use Rattle.std.specs.Cmp.Lexicographic.{bytes_decides, pointwise}
use Rattle.std.specs.Net.Addr.{is_ipv6}
use Rattle.std.specs.Net.Grammar.{IsIpText, IsIpv4Text, IsIpv6Text}
use Rattle.std.specs.Str.{IsUtf8}
use Rattle.std.specs.declared.net.ip_addr.IpAddr.{IpAddr}
use Rattle.std.specs.declared.net.ip_addr.IpAddr.TheVariants as ips
use Rattle.std.specs.declared.net.ipv4_addr.Ipv4Addr.{Ipv4Addr}
use Rattle.std.specs.declared.net.ipv6_addr.Ipv6Addr.{Ipv6Addr}
use Rattle.std.specs.declared.net.socket_addr.SocketAddr.{SocketAddr}
use Rattle.net_sockets.specs.declared.listener.Peer.{Peer}
use Rattle.net_sockets.specs.declared.listener.Peer.TheVariants as peers
use Rattle.net_sockets.specs.declared.proxy_header.ProxyHeader.{ProxyHeader}
use Rattle.net_sockets.specs.declared.proxy_header.ProxyHeader.TheVariants.{Malformed, Partial, Whole}
use Rattle.net_sockets.specs.ProxyHeader.{HasSpace, IsEndpoint, IsFirst, IsHanded, IsLine, IsNamed, IsOver, IsOverIpv4, IsOverIpv6, IsRoute, IsSecond, IsTold, IsWritten, Reads, ReadsFirst, ReadsSecond, Says, line_of, port_at, rest, signature, word}

-- what stands at a place, with others behind it
at_front : (bytes others : List ℕ) (i : ℕ) → i < length bytes → get_or (bytes ++ others) i 0 ≡ get_or bytes i 0
at_front bytes others i h = get_or-append bytes others 0 i h

-- the first byte of each version
first_at : (bytes others : List ℕ) (peer : Option Peer) → 0 < length bytes → IsFirst (bytes ++ others) peer → get_or bytes 0 0 ≡ 80
first_at bytes others peer some is = sym (at_front bytes others 0 some) ∙ is.begins

second_at : (bytes others : List ℕ) (peer : Option Peer) → 0 < length bytes → IsSecond (bytes ++ others) peer → get_or bytes 0 0 ≡ 13
second_at bytes others peer some is =
    sym (at_front bytes others 0 some) ∙ sym (get_or-take 12 (bytes ++ others) 0 0 (omega arith)) ∙ ap (λ l. get_or l 0 0) is.signed

-- bytes that begin as one version are read as it
pub reads_first : (bytes : List ℕ) (reads : ProxyHeader) → 0 < length bytes → get_or bytes 0 0 ≡ 80 → ReadsFirst bytes reads → Reads bytes reads
reads_first bytes (Whole peer) some at h = inl h
reads_first bytes (Partial more) some at h = (
  h.0,
  h.1,
  λ others peer says. elim says [
    | inl is ↦ h.2 others peer is
    | inr is ↦ absurd (omega (arith, at, second_at bytes others peer some is))
  ],
)
reads_first bytes Malformed some at h = λ others peer says. elim says [
  | inl is ↦ h others peer is
  | inr is ↦ absurd (omega (arith, at, second_at bytes others peer some is))
]

pub reads_second : (bytes : List ℕ) (reads : ProxyHeader) → 0 < length bytes → get_or bytes 0 0 ≡ 13 → ReadsSecond bytes reads → Reads bytes reads
reads_second bytes (Whole peer) some at h = inr h
reads_second bytes (Partial more) some at h = (
  h.0,
  h.1,
  λ others peer says. elim says [
    | inl is ↦ absurd (omega (arith, at, first_at bytes others peer some is))
    | inr is ↦ h.2 others peer is
  ],
)
reads_second bytes Malformed some at h = λ others peer says. elim says [
  | inl is ↦ absurd (omega (arith, at, first_at bytes others peer some is))
  | inr is ↦ h others peer is
]

pub reads_neither : (bytes : List ℕ) → 0 < length bytes → get_or bytes 0 0 ≢ 80 → get_or bytes 0 0 ≢ 13 → Reads bytes Malformed
reads_neither bytes some a b = λ others peer says. elim says [
  | inl is ↦ a (first_at bytes others peer some is)
  | inr is ↦ b (second_at bytes others peer some is)
]

-- so few that more are to come
pub reads_few : (bytes : List ℕ) → length bytes < 15 → Reads bytes (Partial (15 - length bytes))
reads_few bytes few = (
  omega (arith, few),
  omega (arith, few),
  λ others peer says. elim says [
    | inl is ↦ omega (arith, few, is.least, length-append bytes others)
    | inr is ↦ omega (arith, few, is.least, length-append bytes others)
  ],
)

none_behind : (others : List ℕ) → length others ≡ 0 → others ≡ []
none_behind [] e = refl
none_behind (b ∷ others) e = absurd (omega (arith, e))

whole_of : (bytes others : List ℕ) → length others ≡ 0 → bytes ++ others ≡ bytes
whole_of bytes others e = ap (λ o. bytes ++ o) (none_behind others e) ∙ append-nil bytes

-- ---- version 1

-- the last two bytes aren't a line's end
abbrev pub Unended : List ℕ → Type 0
Unended bytes = get_or bytes (length bytes - 2) 0 ≡ 13 → get_or bytes (length bytes - 1) 0 ≡ 10 → ⊥

more_behind : (bytes others : List ℕ) (peer : Option Peer) → Unended bytes → IsFirst (bytes ++ others) peer → 1 ≤ length others
more_behind bytes [] peer unended is =
    let e : bytes ++ [] ≡ bytes = append-nil bytes in
    absurd (unended (subst (λ x. get_or x (length x - 2) 0 ≡ 13) e is.returns) (subst (λ x. get_or x (length x - 1) 0 ≡ 10) e is.feeds))
more_behind bytes (b ∷ others) peer unended is = omega arith

pub unended_partial : (bytes : List ℕ) → length bytes < 107 → Unended bytes → ReadsFirst bytes (Partial 1)
unended_partial bytes few unended = (omega arith, omega (arith, few), λ others peer is. more_behind bytes others peer unended is)

pub unended_malformed : (bytes : List ℕ) → 107 ≤ length bytes → Unended bytes → ReadsFirst bytes Malformed
unended_malformed bytes many unended = λ others peer is. omega (arith, many, is.most, length-append bytes others, more_behind bytes others peer unended is)

-- a header ends where its first line does
none_after : (bytes others : List ℕ) (peer : Option Peer) → 15 ≤ length bytes → get_or bytes (length bytes - 1) 0 ≡ 10 → IsFirst (bytes ++ others) peer → length others ≡ 0
none_after bytes [] peer some feeds is = refl
none_after bytes (b ∷ []) peer some feeds is =
    let all : length (bytes ++ b ∷ []) ≡ length bytes + 1 = length-append bytes (b ∷ []) in
    let place : length (bytes ++ b ∷ []) - 2 ≡ length bytes - 1 = omega (arith, all, some) in
    let returns : get_or (bytes ++ b ∷ []) (length bytes - 1) 0 ≡ 13 = subst (λ i. get_or (bytes ++ b ∷ []) i 0 ≡ 13) place is.returns in
    absurd (omega (arith, feeds, returns, at_front bytes (b ∷ []) (length bytes - 1) (omega (arith, some))))
none_after bytes (b ∷ c ∷ others) peer some feeds is =
    let behind = b ∷ c ∷ others in
    let all : length (bytes ++ behind) ≡ length bytes + (length others + 2) = omega (arith, length-append bytes behind) in
    let place = length bytes - 1 in
    let long : length (line_of (bytes ++ behind)) ≡ length (bytes ++ behind) - 2 = omega (arith, length-take (length (bytes ++ behind) - 2) (bytes ++ behind)) in
    let within : place < length (line_of (bytes ++ behind)) = omega (arith, all, long, some) in
    let taken : get_or (line_of (bytes ++ behind)) place 10 ≡ get_or (bytes ++ behind) place 10 = get_or-take (length (bytes ++ behind) - 2) (bytes ++ behind) place 10 (omega (arith, all, some)) in
    let front : get_or (bytes ++ behind) place 10 ≡ get_or bytes place 10 = get_or-append bytes behind 10 place (omega (arith, some)) in
    let any : get_or bytes place 10 ≡ get_or bytes place 0 = get_or_default bytes place 10 0 (omega (arith, some)) in
    absurd (is.one_line (place, within, taken ∙ front ∙ any ∙ feeds))

-- a line that says nothing is no header
pub line_malformed : (bytes : List ℕ) → 15 ≤ length bytes → get_or bytes (length bytes - 1) 0 ≡ 10 → ((peer : Option Peer) → IsFirst bytes peer → ⊥) → ReadsFirst bytes Malformed
line_malformed bytes some feeds none = λ others peer is. none peer (subst (λ x. IsFirst x peer) (whole_of bytes others (none_after bytes others peer some feeds is)) is)

-- ---- version 2

-- the number that says how many bytes follow
same_port : (bytes others : List ℕ) → 16 ≤ length bytes → port_at (bytes ++ others) 14 ≡ port_at bytes 14
same_port bytes others some =
    ap (λ h. h * 256 + get_or (bytes ++ others) 15 0) (at_front bytes others 14 (omega (arith, some)))
    ∙ ap (λ l. get_or bytes 14 0 * 256 + l) (at_front bytes others 15 (omega (arith, some)))

pub few_second : (bytes : List ℕ) → 15 ≤ length bytes → length bytes < 16 → ReadsSecond bytes (Partial (16 - length bytes))
few_second bytes least few = (omega (arith, few), omega (arith, few), λ others peer is. omega (arith, few, is.least, length-append bytes others))

long_of : (bytes others : List ℕ) (peer : Option Peer) → 16 ≤ length bytes → IsSecond (bytes ++ others) peer → length bytes + length others ≡ 16 + port_at bytes 14
long_of bytes others peer some is = sym (length-append bytes others) ∙ is.long ∙ ap (λ n. 16 + n) (same_port bytes others some)

pub unsigned_second : (bytes : List ℕ) → 16 ≤ length bytes → (take 12 bytes ≡ signature → ⊥) → ReadsSecond bytes Malformed
unsigned_second bytes some unsigned = λ others peer is. unsigned (sym (take-append-le 12 bytes others (omega (arith, some))) ∙ is.signed)

pub large_second : (bytes : List ℕ) → 16 ≤ length bytes → 216 < port_at bytes 14 → ReadsSecond bytes Malformed
large_second bytes some large = λ others peer is. omega (arith, large, is.few, same_port bytes others some)

pub over_second : (bytes : List ℕ) → 16 ≤ length bytes → 16 + port_at bytes 14 < length bytes → ReadsSecond bytes Malformed
over_second bytes some over = λ others peer is. omega (arith, over, long_of bytes others peer some is)

pub part_second : (bytes : List ℕ) → 16 ≤ length bytes → port_at bytes 14 ≤ 216 → length bytes < 16 + port_at bytes 14
    → ReadsSecond bytes (Partial (16 + port_at bytes 14 - length bytes))
part_second bytes some few part = (omega (arith, part), omega (arith, few, part), λ others peer is. omega (arith, part, long_of bytes others peer some is))

pub unnamed_second : (bytes : List ℕ) → 16 ≤ length bytes → length bytes ≡ 16 + port_at bytes 14
    → ((peer : Option Peer) → IsNamed (get_or bytes 12 0) (get_or bytes 13 0) (drop 16 bytes) peer → ⊥) → ReadsSecond bytes Malformed
unnamed_second bytes some long unnamed = λ others peer is.
    let none : length others ≡ 0 = omega (arith, long, long_of bytes others peer some is) in
    unnamed peer (subst (λ x. IsSecond x peer) (whole_of bytes others none) is).says

pub second_whole : (bytes : List ℕ) (peer : Option Peer) → 16 ≤ length bytes → take 12 bytes ≡ signature → length bytes ≡ 16 + port_at bytes 14 → port_at bytes 14 ≤ 216
    → IsNamed (get_or bytes 12 0) (get_or bytes 13 0) (drop 16 bytes) peer → IsSecond bytes peer
second_whole bytes peer some signed long few says = record { least = some; signed = signed; long = long; few = few; says = says }

-- only one way to name the sender is left
pub only_ipv4 : (family : ℕ) (addresses : List ℕ) → family ≡ 17 → ((peer : Option Peer) → IsOverIpv4 addresses peer → ⊥) → (peer : Option Peer) → IsHanded family addresses peer → ⊥
only_ipv4 family addresses is none peer (inl it) = absurd (omega (arith, is, it.0))
only_ipv4 family addresses is none peer (inr (inl it)) = none peer it.1
only_ipv4 family addresses is none peer (inr (inr (inl it))) = absurd (omega (arith, is, it.0))
only_ipv4 family addresses is none peer (inr (inr (inr it))) = absurd (omega (arith, is, it.0))

pub only_ipv6 : (family : ℕ) (addresses : List ℕ) → family ≡ 33 → ((peer : Option Peer) → IsOverIpv6 addresses peer → ⊥) → (peer : Option Peer) → IsHanded family addresses peer → ⊥
only_ipv6 family addresses is none peer (inl it) = absurd (omega (arith, is, it.0))
only_ipv6 family addresses is none peer (inr (inl it)) = absurd (omega (arith, is, it.0))
only_ipv6 family addresses is none peer (inr (inr (inl it))) = none peer it.1
only_ipv6 family addresses is none peer (inr (inr (inr it))) = absurd (omega (arith, is, it.0))

pub only_handed : (command family : ℕ) (addresses : List ℕ) → command ≡ 33 → ((peer : Option Peer) → IsHanded family addresses peer → ⊥) → (peer : Option Peer)
    → IsNamed command family addresses peer → ⊥
only_handed command family addresses is none peer (inl it) = absurd (omega (arith, is, it.0))
only_handed command family addresses is none peer (inr it) = none peer it.1

pub none_so : {A : Type 0} {P Q : Type 0} (r : Option A) → (P → Q) → IfNone r P → IfNone r Q
none_so None f h = f h
none_so (Some x) f h = tt

pub is_none_so : {A : Type 0} {P : Type 0} (r : Option A) → P → IfNone r P
is_none_so None h = h
is_none_so (Some x) h = tt

-- ---- the two ends of a line

module _ (six : Bool) (ends after ports sender receiver from to : List ℕ) (a : sender ≡ word ends) (b : after ≡ rest ends) (c : receiver ≡ word after) (d : ports ≡ rest after) (e : from ≡ word ports) (f : to ≡ rest ports) where
  from_is : from ≡ word (rest (rest ends))
  from_is = e ∙ ap (λ x. word x) (d ∙ ap (λ x. rest x) b)

  to_is : to ≡ rest (rest (rest ends))
  to_is = f ∙ ap (λ x. rest x) (d ∙ ap (λ x. rest x) b)

  receiver_is : receiver ≡ word (rest ends)
  receiver_is = c ∙ ap (λ x. word x) b

  pub no_sender : ((address : SocketAddr) → IsEndpoint six sender from address → ⊥) → (peer : Option Peer) → IsRoute six ends peer → ⊥
  no_sender none peer is = none is.3 (subst₂ (λ i p. IsEndpoint six i p is.3) (sym a) (sym from_is) is.5)

  pub no_receiver : ((address : SocketAddr) → IsEndpoint six receiver to address → ⊥) → (peer : Option Peer) → IsRoute six ends peer → ⊥
  no_receiver none peer is = none is.4 (subst₂ (λ i p. IsEndpoint six i p is.4) (sym receiver_is) (sym to_is) is.6)

  pub routes : (address other : SocketAddr) → HasSpace ends → HasSpace after → HasSpace ports → IsEndpoint six sender from address → IsEndpoint six receiver to other
      → IsRoute six ends (Some (peers.Tcp address))
  routes address other x y z p q = (
    x,
    subst (λ t. HasSpace t) b y,
    subst (λ t. HasSpace t) (d ∙ ap (λ t. rest t) b) z,
    address,
    other,
    subst₂ (λ i n. IsEndpoint six i n address) a from_is p,
    subst₂ (λ i n. IsEndpoint six i n other) receiver_is to_is q,
    refl,
  )

-- no address of the other kind
pub not_six : (text : List ℕ) → ((ip : Ipv6Addr) → IsIpv6Text text ip → ⊥) → (ip : IpAddr) → IsIpText text ip → is_ipv6 ip ≡ true → ⊥
not_six text none (ips.V4 ip) is e = false≢true e
not_six text none (ips.V6 ip) is e = none ip is

pub not_four : (text : List ℕ) → ((ip : Ipv4Addr) → IsIpv4Text text ip → ⊥) → (ip : IpAddr) → IsIpText text ip → is_ipv6 ip ≡ false → ⊥
not_four text none (ips.V4 ip) is e = none ip is
not_four text none (ips.V6 ip) is e = true≢false e

-- ---- what a line says

codes_differ : (family : List ℕ) → family ≡ codes "TCP4" → family ≡ codes "TCP6" → ⊥
codes_differ family a b = absurd (omega (arith, ap (λ l. get_or l 3 0) (sym a ∙ b)))

pub only_four : (family ends : List ℕ) → family ≡ codes "TCP4" → ((peer : Option Peer) → IsRoute false ends peer → ⊥) → (peer : Option Peer) → IsOver family ends peer → ⊥
only_four family ends is none peer (inl it) = none peer it.1
only_four family ends is none peer (inr it) = codes_differ family is it.0

pub only_six : (family ends : List ℕ) → family ≡ codes "TCP6" → ((peer : Option Peer) → IsRoute true ends peer → ⊥) → (peer : Option Peer) → IsOver family ends peer → ⊥
only_six family ends is none peer (inl it) = codes_differ family it.0 is
only_six family ends is none peer (inr it) = none peer it.1

pub only_over : (text family ends : List ℕ) → (word text ≡ codes "UNKNOWN" → ⊥) → family ≡ word text → ends ≡ rest text → ((peer : Option Peer) → IsOver family ends peer → ⊥)
    → (peer : Option Peer) → IsTold text peer → ⊥
only_over text family ends known a b none peer (inl it) = known it.0
only_over text family ends known a b none peer (inr it) = none peer (subst₂ (λ f e. IsOver f e peer) (sym a) (sym b) it.1)

-- two texts that a test tells apart, or doesn't
pub differ : (text other : List ℕ) → false ≡ pointwise nat_eq text other → text ≡ other → ⊥
differ text other test same = false≢true (test ∙ (bytes_decides text other).1 same)

pub alike : (text other : List ℕ) → true ≡ pointwise nat_eq text other → text ≡ other
alike text other test = (bytes_decides text other).0 (sym test)

pub told_named : (r : Option (Option Peer)) (text family ends : List ℕ) → HasSpace text → family ≡ word text → ends ≡ rest text → IfSome r (λ peer. IsOver family ends peer)
    → IfSome r (λ peer. IsTold text peer)
told_named None text family ends some a b h = tt
told_named (Some peer) text family ends some a b h = inr (some, subst₂ (λ f e. IsOver f e peer) a b h)

pub written_named : (r : Option (Option Peer)) (text proxy after : List ℕ) → HasSpace text → proxy ≡ word text → after ≡ rest text → proxy ≡ codes "PROXY"
    → IfSome r (λ peer. IsTold after peer) → IfSome r (λ peer. IsWritten text peer)
written_named None text proxy after some a b is h = tt
written_named (Some peer) text proxy after some a b is h = (some, sym a ∙ is, subst (λ t. IsTold t peer) b h)

pub only_told : (text after : List ℕ) → after ≡ rest text → ((peer : Option Peer) → IsTold after peer → ⊥) → (peer : Option Peer) → IsWritten text peer → ⊥
only_told text after b none peer is = none peer (subst (λ t. IsTold t peer) (sym b) is.2)

pub line_named : (r : Option (Option Peer)) (text line : List ℕ) → text ≡ line → IsUtf8 line → IfSome r (λ peer. IsWritten text peer) → IfSome r (λ peer. IsLine line peer)
line_named None text line same utf8 h = tt
line_named (Some peer) text line same utf8 h = (utf8, subst (λ t. IsWritten t peer) same h)

pub only_written : (text line : List ℕ) → text ≡ line → ((peer : Option Peer) → IsWritten text peer → ⊥) → (peer : Option Peer) → IsLine line peer → ⊥
only_written text line same none peer is = none peer (subst (λ t. IsWritten t peer) (sym same) is.1)
