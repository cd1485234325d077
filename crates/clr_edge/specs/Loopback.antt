-- Ports of the machine itself.
use Rattle.std.specs.Prelude.{◌≡◌, ◌*◌, ◌∷◌, ℕ, [], IsSomeAnd, None, Option, Some}
use Rattle.std.specs.Net.Addr.{IsV4And, ipv4_octets}
use Rattle.std.specs.Net.Socket.{socket_ip, socket_port}
use Rattle.std.specs.declared.io.ErrorKind.{ErrorKind}
use Rattle.std.specs.declared.io.ErrorKind.TheVariants.{OutOfMemory}
use Rattle.std.specs.declared.net.socket_addr.SocketAddr.{SocketAddr}
use Rattle.std.specs.declared.time.Instant.{Instant}
use Rattle.clr_disk.specs.Timed.{EndsAfter}
use Rattle.clr_disk.specs.declared.timed.Limit.{Limit}
use Rattle.clr_edge.specs.declared.fault.Fault.{Fault}
use Rattle.clr_edge.specs.declared.fault.Fault.TheVariants.{Listen, Memory}

-- TWO LIMITS KEEP A DEADLINE of this number of seconds: by the clock and from one moment on that it
-- showed, a request has a quarter of it to be read, and its response the whole to be written. Without
-- a number there is no limit.
abbrev pub KeepDeadline : {K : Type 0} → (K → Type 0) → (Instant → Type 0) → Option ℕ
    → Option (Limit K) → Option (Limit K) → Type 0
KeepDeadline is_clock is_now None reader writer = (reader ≡ None) × (writer ≡ None)
KeepDeadline {K} is_clock is_now (Some seconds) reader writer = (clock : K) × (now : Instant)
    × is_clock clock × is_now now
    × IsSomeAnd reader (EndsAfter clock now (seconds * 250_000_000))
    × IsSomeAnd writer (EndsAfter clock now (seconds * 1_000_000_000))

-- the address of a port of 127.0.0.1
pub record IsLocal (address : SocketAddr) (port : ℕ) : Type 0 where
  pub ip : IsV4And (socket_ip address) (λ ip. ipv4_octets ip ≡ 127 ∷ 0 ∷ 0 ∷ 1 ∷ [])
  pub port_is : socket_port address ≡ port

-- the fault of a port that could not be bound for this reason
abbrev pub listen_fault : ErrorKind → Fault
listen_fault OutOfMemory = Memory
listen_fault kind = Listen

-- a listener was bound to a port of 127.0.0.1
abbrev pub StandsOn : {M L : Type 0} → (M → SocketAddr → L → M → Type 0) → M → ℕ → L → M → Type 0
StandsOn stands old port listener new =
    (address : SocketAddr) × IsLocal address port × stands old address listener new

-- that port could not be bound, and the fault says so
abbrev pub RefusesOn : {M : Type 0} → (M → SocketAddr → ErrorKind → M → Type 0) → M → ℕ → Fault → M
    → Type 0
RefusesOn refuses old port fault new =
    (address : SocketAddr) × (kind : ErrorKind) × IsLocal address port
    × (fault ≡ listen_fault kind) × refuses old address kind new
