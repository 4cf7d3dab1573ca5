-- What a proxy says of a connection that it hands on: HAProxy's PROXY protocol, version 1 (section 2.1) and version 2 (section 2.2).
use Rattle.std.specs.Prelude.{◌≡◌, ◌≢◌, ◌≤◌, ◌<◌, ◌⊎◌, ℕ, ◌+◌, ◌-◌, ◌*◌, ◌^◌, ◌==◌, Bool, true, false, List, [], ◌∷◌, ◌++◌, Option, Some, None, length, take, drop, slice_index, codes, Contains}
use Rattle.std.specs.List.{before_first, after_first, position_or_len}
use Rattle.std.specs.Str.{IsUtf8}
use Rattle.std.specs.Str.Parse.{IsNumeral, digits_value, without_leading_plus}
use Rattle.std.specs.Net.Addr.{ipv4_octets, ipv6_segments, is_ipv6, segments_of}
use Rattle.std.specs.Net.Grammar.{IsIpText}
use Rattle.std.specs.Net.Socket.{socket_ip, socket_port, socket_flowinfo, socket_scope_id}
use Rattle.std.specs.declared.net.ip_addr.IpAddr.{IpAddr}
use Rattle.std.specs.declared.net.ip_addr.IpAddr.TheVariants as ips
use Rattle.std.specs.declared.net.ipv4_addr.Ipv4Addr.{Ipv4Addr}
use Rattle.std.specs.declared.net.ipv6_addr.Ipv6Addr.{Ipv6Addr}
use Rattle.std.specs.declared.net.socket_addr.SocketAddr.{SocketAddr}
use Rattle.net_sockets.specs.declared.listener.Peer.{Peer}
use Rattle.net_sockets.specs.declared.listener.Peer.TheVariants as peers
use Rattle.net_sockets.specs.declared.proxy_header.ProxyHeader.{ProxyHeader}
use Rattle.net_sockets.specs.declared.proxy_header.ProxyHeader.TheVariants as headers

-- the address is this IP address and this port
pub record IsAt (address : SocketAddr) (ip : IpAddr) (port : ℕ) : Type 0 where
  pub at : socket_ip address ≡ ip
  pub behind : socket_port address ≡ port
  pub no_flow : socket_flowinfo address ≡ 0
  pub no_scope : socket_scope_id address ≡ 0

-- ---- version 1: a line

-- the word that a text begins with, up to a space, and what follows that
abbrev pub word : List ℕ → List ℕ
word text = before_first (λ b. b == 32) text

abbrev pub rest : List ℕ → List ℕ
rest text = after_first (λ b. b == 32) text

-- a text has a space
abbrev pub HasSpace : List ℕ → Type 0
HasSpace text = position_or_len (λ b. b == 32) text < length text

-- a decimal number of 16 bits
abbrev pub IsPortText : List ℕ → ℕ → Type 0
IsPortText text port =
    IsNumeral 10 (without_leading_plus text) × (digits_value 10 (without_leading_plus text) ≡ port) × (port < 2 ^ 16)

-- one end of a connection, over IPv6 or IPv4: its address and its port
abbrev pub IsEndpoint : Bool → List ℕ → List ℕ → SocketAddr → Type 0
IsEndpoint over_ipv6 ip_text port_text address =
    (ip : IpAddr) × IsIpText ip_text ip × (is_ipv6 ip ≡ over_ipv6) × (port : ℕ) × IsPortText port_text port × IsAt address ip port

-- The sender's address, the receiver's, the sender's port and the receiver's, with a space between each two: it is the sender's connection.
abbrev pub IsRoute : Bool → List ℕ → Option Peer → Type 0
IsRoute over_ipv6 ends peer =
    HasSpace ends × HasSpace (rest ends) × HasSpace (rest (rest ends))
    × (sender receiver : SocketAddr)
    × IsEndpoint over_ipv6 (word ends) (word (rest (rest ends))) sender
    × IsEndpoint over_ipv6 (word (rest ends)) (rest (rest (rest ends))) receiver
    × (peer ≡ Some (peers.Tcp sender))

-- `TCP4` or `TCP6`, and the two ends
abbrev pub IsOver : List ℕ → List ℕ → Option Peer → Type 0
IsOver family ends peer = ((family ≡ codes "TCP4") × IsRoute false ends peer) ⊎ ((family ≡ codes "TCP6") × IsRoute true ends peer)

-- whose connection it is: `UNKNOWN` and anything, or what it goes over and its two ends
abbrev pub IsTold : List ℕ → Option Peer → Type 0
IsTold text peer = ((word text ≡ codes "UNKNOWN") × (peer ≡ None)) ⊎ (HasSpace text × IsOver (word text) (rest text) peer)

-- a text: `PROXY`, a space, and whose connection it is
abbrev pub IsWritten : List ℕ → Option Peer → Type 0
IsWritten text peer = HasSpace text × (word text ≡ codes "PROXY") × IsTold (rest text) peer

abbrev pub IsLine : List ℕ → Option Peer → Type 0
IsLine line peer = IsUtf8 line × IsWritten line peer

-- the bytes but the last two
abbrev pub line_of : List ℕ → List ℕ
line_of bytes = take (length bytes - 2) bytes

-- 15 to 107 bytes that end in a carriage return and a line feed, which is the first: the line before these says whose connection it is
pub record IsFirst (bytes : List ℕ) (peer : Option Peer) : Type 0 where
  pub least : 15 ≤ length bytes
  pub most : length bytes ≤ 107
  pub returns : slice_index bytes (length bytes - 2) ≡ 13
  pub feeds : slice_index bytes (length bytes - 1) ≡ 10
  pub one_line : Contains (line_of bytes) 10 → ⊥
  pub begins : slice_index bytes 0 ≡ 80
  pub says : IsLine (line_of bytes) peer

-- ---- version 2: bytes at fixed places

-- the number that the two bytes from this place on write, the high one first
abbrev pub port_at : List ℕ → ℕ → ℕ
port_at bytes place = slice_index bytes place * 256 + slice_index bytes (place + 1)

-- Over IPv4: the sender's address, the receiver's, and the port of each, in 12 bytes. What follows them isn't looked at.
abbrev pub IsOverIpv4 : List ℕ → Option Peer → Type 0
IsOverIpv4 addresses peer =
    (12 ≤ length addresses) × (ip : Ipv4Addr) × (ipv4_octets ip ≡ take 4 addresses)
    × (sender : SocketAddr) × IsAt sender (ips.V4 ip) (port_at addresses 8) × (peer ≡ Some (peers.Tcp sender))

-- Over IPv6: the same, in 36 bytes.
abbrev pub IsOverIpv6 : List ℕ → Option Peer → Type 0
IsOverIpv6 addresses peer =
    (36 ≤ length addresses) × (ip : Ipv6Addr) × (ipv6_segments ip ≡ segments_of (take 16 addresses))
    × (sender : SocketAddr) × IsAt sender (ips.V6 ip) (port_at addresses 32) × (peer ≡ Some (peers.Tcp sender))

-- A connection that is handed on goes over what isn't said, over IPv4 or IPv6, or over a Unix socket, whose two paths have 216 bytes.
abbrev pub IsHanded : ℕ → List ℕ → Option Peer → Type 0
IsHanded family addresses peer =
    ((family ≡ 0) × (peer ≡ None))
    ⊎ (((family ≡ 0x11) × IsOverIpv4 addresses peer)
    ⊎ (((family ≡ 0x21) × IsOverIpv6 addresses peer)
    ⊎ ((family ≡ 0x31) × (216 ≤ length addresses) × (peer ≡ Some peers.Unix))))

-- it is the proxy's own connection, or one that is handed on
abbrev pub IsNamed : ℕ → ℕ → List ℕ → Option Peer → Type 0
IsNamed command family addresses peer = ((command ≡ 0x20) × (peer ≡ None)) ⊎ ((command ≡ 0x21) × IsHanded family addresses peer)

-- what a header of version 2 begins with
abbrev pub signature : List ℕ
signature = 13 ∷ 10 ∷ 13 ∷ 10 ∷ 0 ∷ 13 ∷ 10 ∷ 81 ∷ 85 ∷ 73 ∷ 84 ∷ 10 ∷ []

-- the signature, the command, what the connection goes over, how many bytes follow, which are 216 at most, and the addresses
pub record IsSecond (bytes : List ℕ) (peer : Option Peer) : Type 0 where
  pub least : 16 ≤ length bytes
  pub signed : take 12 bytes ≡ signature
  pub long : length bytes ≡ 16 + port_at bytes 14
  pub few : port_at bytes 14 ≤ 216
  pub says : IsNamed (slice_index bytes 12) (slice_index bytes 13) (drop 16 bytes) peer

-- ---- both

-- these bytes are a header, which says that the connection is this peer's; None: it is the proxy's own, or isn't said
abbrev pub Says : List ℕ → Option Peer → Type 0
Says bytes peer = IsFirst bytes peer ⊎ IsSecond bytes peer

-- What is read of bytes, where headers are these: they are one; or they lack so many bytes at least, of which a whole header may come; or none begins with them.
abbrev pub ReadsBy : (List ℕ → Option Peer → Type 0) → List ℕ → ProxyHeader → Type 0
ReadsBy IsHeader bytes (headers.Whole peer) = IsHeader bytes peer
ReadsBy IsHeader bytes (headers.Partial more) =
    (0 < more) × (length bytes + more ≤ 232) × ((others : List ℕ) (peer : Option Peer) → IsHeader (bytes ++ others) peer → more ≤ length others)
ReadsBy IsHeader bytes headers.Malformed = (others : List ℕ) (peer : Option Peer) → IsHeader (bytes ++ others) peer → ⊥

abbrev pub Reads : List ℕ → ProxyHeader → Type 0
Reads = ReadsBy Says

abbrev pub ReadsFirst : List ℕ → ProxyHeader → Type 0
ReadsFirst = ReadsBy IsFirst

abbrev pub ReadsSecond : List ℕ → ProxyHeader → Type 0
ReadsSecond = ReadsBy IsSecond
