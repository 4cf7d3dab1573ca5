-- What the contracts of the system's sockets say of what goes through them: which socket it is, and no bytes.
use Rattle.std.specs.Prelude.{ℤ, None}
use Rattle.mio.specs.Net.{stream_fd, unix_stream_fd}
use Rattle.net_sockets.specs.declared.stream.StreamSocket.{StreamSocket}
use Rattle.net_sockets.specs.declared.stream.StreamSocket.TheVariants as sockets
use Rattle.net_sockets.specs.Flow.{Flow}

-- its descriptor
abbrev pub descriptor : StreamSocket → ℤ
descriptor (sockets.Tcp stream) = stream_fd stream
descriptor (sockets.Unix stream) = unix_stream_fd stream

abbrev pub flow_of_socket : StreamSocket → Flow
flow_of_socket socket = record { socket = descriptor socket; to_come = None; ends = None; sent = None }
