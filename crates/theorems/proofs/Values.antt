-- The Finished values of a connection: the one that the server compares with is the one that specs/Terms.antt names, and where there is a client's
-- value there is one of the server's, 12 bytes, since a transcript stays far below the hash's limit.
-- Assumes nothing.
use mathlib.Core.Path.{◌≡◌, refl, sym, ap}
use Prim.Native.Nat.{ℕ, ◌+◌, ◌≤◌}
use native.Mathlib.Omega.{arith}
use mathlib.Core.Bool.{true, false, false≢true}
use mathlib.Core.List.{List, [], ◌++◌}
use lib.ListN.{length, length-append}
use Rattle.refusal.specs.Lent.{Outcome, gives, refuses}
use Rattle.refusal.proofs.Laws.{refuses-gives}
use Rattle.sha256.specs.declared.Sha256.{Sha256}
use Rattle.sha256.specs.Hash.{digest, sha256}
use Rattle.sha256.specs.State.{fresh, absorb, finished}
use Rattle.sha256.proofs.Absorb.{absorb-append}
use Rattle.sha256.proofs.Finish.{finish-absorbed, finished-within, length-digest, sha256-within}
use Rattle.keys.specs.declared.Side.TheVariants.{Client, Server}
use Rattle.keys.specs.Secrets.{verify_data}
use Rattle.keys.proofs.Lengths.{value-given, value-master}
use Rattle.lists.proofs.Equal.{same-eq, same_refl}
use Rattle.refusal.specs.Lent.{and_then, bytes_of}
use Rattle.handshake.specs.Finished.{is_value}
use Rattle.keys.specs.Secrets.{finished_of}

none-without-master : (o : Outcome) (value : List ℕ) → is_value value (and_then o (verify_data Client [])) ≡ false
unfolding verify_data
none-without-master (gives hash) value = refl
none-without-master (refuses r) value = refl

pub is-value : (value : List ℕ) (o : Outcome) → is_value value o ≡ true → o ≡ gives value
is-value value (gives b) h = ap gives (sym (same-eq value b h))
is-value value (refuses r) h = absurd (false≢true h)

pub value-is : (value : List ℕ) (o : Outcome) → o ≡ gives value → is_value value o ≡ true
value-is value o e = rw e (same_refl value)

module _ (o : Outcome) (t : Sha256) (messages : List ℕ) (is : t ≡ absorb fresh messages) (value : List ℕ) where
  abbrev clients : Outcome
  clients = and_then o (λ secret. and_then (sha256 messages) (verify_data Client secret))

  -- a connection keeps no bytes where there is no master secret, and nothing is the value then
  pub compared : is_value value (finished_of Client (bytes_of o) t) ≡ is_value value clients
  compared = rw (is, finish-absorbed messages) (go o)
    where
      go : (p : Outcome) → is_value value (and_then (sha256 messages) (verify_data Client (bytes_of p)))
          ≡ is_value value (and_then p (λ secret. and_then (sha256 messages) (verify_data Client secret)))
      go (gives secret) = refl
      go (refuses r) = none-without-master (sha256 messages) value

  -- m is the client's Finished
  pub servers-value : (m : List ℕ) → length messages + length m ≤ 65536 → clients ≡ gives value
      → (own : List ℕ) × (length own ≡ 12) × (finished_of Server (bytes_of o) (absorb t m) ≡ gives own)
  servers-value m few e = go o e
    where
      all : finished (absorb t m) ≡ gives (digest (messages ++ m))
      all =
          finished-within (absorb t m) (messages ++ m) (rw is (sym (absorb-append fresh messages m))) (rw (length-append messages m) (omega arith))

      go : (p : Outcome) → and_then p (λ secret. and_then (sha256 messages) (verify_data Client secret)) ≡ gives value
          → (own : List ℕ) × (length own ≡ 12) × (finished_of Server (bytes_of p) (absorb t m) ≡ gives own)
      go (gives secret) e =
          let client : verify_data Client secret (digest messages) ≡ gives value = rw (sha256-within messages (omega arith)) at e in
          let long : length secret ≡ 48 = value-master Client secret (digest messages) value client in
          let own = value-given Server secret (digest (messages ++ m)) long (length-digest (messages ++ m)) in
          (own.0, own.1, rw all own.2)
      go (refuses r) e = absurd (refuses-gives e)
