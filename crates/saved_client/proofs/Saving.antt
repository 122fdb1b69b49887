-- The parts of a client's connection that was saved are found again where they stand, so that it is restored; and cleared memory is a closed one.
-- Assumes nothing.
use mathlib.Core.Path.{◌≡◌, refl}
use Prim.Native.Nat.{ℕ, ◌^◌, ◌<◌}
use mathlib.Core.List.{List}
use lib.ListN.{length, drop, replicate}
use Rattle.std.specs.Prelude.{Some}
use Rattle.endian.proofs.Numbers.{number-be-lt}
use Rattle.sha256.specs.Saved as Hash
use Rattle.lists.proofs.Parts.{part-there}
use Rattle.handshake.specs.Flight.{joined}
use Rattle.client.specs.declared.Phase.{Phase}
use Rattle.client.specs.declared.Connection.{Connection}
use Rattle.client.specs.Bytes.{phase_byte, phase_of}
use Rattle.saved_client.specs.Saved.{parts, saved, restored}

phase-there : (p : Phase) → phase_of (phase_byte p) ≡ Some p
phase-there Phase.Hello = refl
phase-there Phase.KeyExchange = refl
phase-there Phase.Done = refl
phase-there Phase.Change = refl
phase-there Phase.Finished = refl
phase-there Phase.Complete = refl
phase-there Phase.Closed = refl

-- What the types say of a connection's fields, as far as the law asks for it (bytes are kept as they stand, whatever they are), and what saving a
-- hash promises of the transcript.
pub record Fits (c : Connection) : Type 0 where
  pub suite : c.server.suite < 2 ^ 16
  pub identity : length c.setup.identity ≡ 128
  pub key : length c.setup.key ≡ 64
  pub own : length c.setup.random ≡ 32
  pub server : length c.server.random ≡ 32
  pub master : length c.secrets.master ≡ 48
  pub transcript : length (Hash.saved c.transcript) ≡ 104
  pub kept : Hash.restored (Hash.saved c.transcript) ≡ c.transcript

pub restored-saved : (c : Connection) → Fits c → restored (saved c) ≡ c
unfolding restored saved
restored-saved c fits =
    let bytes = saved c in
    let behind : ℕ → List ℕ = λ n. joined (drop n (parts c)) in
    let identity = part-there bytes c.setup.identity (behind 2) 5 128 refl fits.identity in
    let key = part-there bytes c.setup.key (behind 3) 133 64 identity.1 fits.key in
    let own = part-there bytes c.setup.random (behind 4) 197 32 key.1 fits.own in
    let server = part-there bytes c.server.random (behind 5) 229 32 own.1 fits.server in
    let master = part-there bytes c.secrets.master (behind 6) 261 48 server.1 fits.master in
    let transcript = part-there bytes (Hash.saved c.transcript) (behind 7) 309 104 master.1 fits.transcript in
    rw (
      phase-there c.phase,
      identity.0,
      key.0,
      own.0,
      server.0,
      number-be-lt 2 c.server.suite fits.suite,
      master.0,
      transcript.0,
      fits.kept,
    )

-- memory that was cleared is a closed connection, to every call
pub cleared-closed : (restored (replicate 413 0)).phase ≡ Phase.Closed
unfolding restored
cleared-closed = refl
