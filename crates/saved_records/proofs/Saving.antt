-- The parts of a record connection that was saved are found again where they stand, so that it is restored; and cleared memory is a closed one.
-- Assumes nothing.
use mathlib.Core.Path.{◌≡◌, refl, sym, ap, ◌∙◌}
use Prim.Native.Nat.{ℕ, ◌+◌, ◌^◌, ◌<◌}
use native.Mathlib.Omega.{arith}
use mathlib.Core.List.{List, [], ◌∷◌, ◌++◌}
use lib.ListN.{length, get_or, drop, replicate}
use Rattle.std.specs.Prelude.{Some}
use Rattle.std.specs.Int.{from_bool}
use Rattle.endian.proofs.Numbers.{number-be-lt}
use Rattle.endian.specs.Number.{be}
use Rattle.lists.proofs.Parts.{first-of-drop, part-there}
use Rattle.handshake.specs.Flight.{joined}
use Rattle.records.specs.declared.State.{State}
use Rattle.record_server.specs.declared.RecordConnection.{RecordConnection}
use Rattle.record_server.specs.Connection.{no_alert, closed_with}
use Rattle.saved.specs.Saved as Server
use Rattle.saved.proofs.Saving.{flag-there}
use Rattle.saved_records.specs.Saved.{state_bytes, parts, saved, state_in, restored}

-- ---- a direction

-- what its type says of a state
pub record FitsState (s : State) : Type 0 where
  pub sequence : s.sequence < 2 ^ 64
  pub key : length s.key ≡ 32

-- a state that was saved is found again at any place, and what stands behind it
state-there : (s : State) (bytes behind : List ℕ) (at : ℕ) → FitsState s → drop at bytes ≡ state_bytes s ++ behind
    → (state_in at bytes ≡ Some s) × (drop (at + 41) bytes ≡ behind)
state-there s bytes behind at fits e =
    let byte = from_bool s.protected in
    let here : get_or bytes at 0 ≡ byte = sym (first-of-drop bytes at) ∙ ap (λ (l : List ℕ). get_or l 0 0) e in
    let first = part-there bytes (byte ∷ []) (be 8 s.sequence ++ (s.key ++ behind)) at 1 e refl in
    let sequence = part-there bytes (be 8 s.sequence) (s.key ++ behind) (at + 1) 8 first.1 refl in
    let nine : at + 1 + 8 ≡ at + 9 = omega arith in
    let key = part-there bytes s.key behind (at + 9) 32 (rw nine at sequence.1) fits.key in
    let all : at + 9 + 32 ≡ at + 41 = omega arith in
    (rw (here, flag-there s.protected, sequence.0, number-be-lt 8 s.sequence fits.sequence, key.0), rw all at key.1)

-- ---- all of it

-- What the types say of a connection's fields, as far as the law asks for it (bytes are kept as they stand, whatever they are), and what saving the
-- server's connection promises.
pub record Fits (c : RecordConnection) : Type 0 where
  pub inner : length (Server.saved c.handshake) ≡ 388
  pub kept : Server.restored (Server.saved c.handshake) ≡ c.handshake
  pub reading : FitsState c.reading
  pub writing : FitsState c.writing
  pub client : length c.pending.client ≡ 32
  pub server : length c.pending.server ≡ 32
  pub held : c.held < 2 ^ 16
  pub alert : length c.alert.bytes ≡ 39

pub restored-saved : (c : RecordConnection) → Fits c → restored (saved c) ≡ c
unfolding restored saved
restored-saved c fits =
    let bytes = saved c in
    let behind : ℕ → List ℕ = λ n. joined (drop n (parts c)) in
    let inner = part-there bytes (Server.saved c.handshake) (behind 1) 0 388 refl fits.inner in
    let reading = state-there c.reading bytes (behind 2) 388 fits.reading inner.1 in
    let writing = state-there c.writing bytes (behind 3) 429 fits.writing reading.1 in
    let client = part-there bytes c.pending.client (behind 4) 470 32 writing.1 fits.client in
    let server = part-there bytes c.pending.server (behind 5) 502 32 client.1 fits.server in
    let held = part-there bytes (be 2 c.held) (behind 6) 534 2 server.1 refl in
    let size : get_or bytes 536 0 ≡ c.alert.length = sym (first-of-drop bytes 536) ∙ ap (λ (l : List ℕ). get_or l 0 0) held.1 in
    let front = part-there bytes (c.alert.length ∷ []) (behind 7) 536 1 held.1 refl in
    let alert = part-there bytes c.alert.bytes (behind 8) 537 39 front.1 fits.alert in
    rw (
      reading.0,
      writing.0,
      inner.0,
      fits.kept,
      client.0,
      server.0,
      held.0,
      number-be-lt 2 c.held fits.held,
      size,
      alert.0,
    )

-- memory that was cleared is a closed connection
pub cleared-closed : restored (replicate 576 0) ≡ closed_with no_alert
unfolding restored Server.restored
cleared-closed = refl
