-- The order in which a start's connection chooses suites (document 01, "The server's steps"), whatever the order in which the client lists them.
-- proofs/Suites.antt proves it.
use Rattle.std.specs.Prelude.{◌≡◌, ℕ, true, false, List, None, Some}
use Rattle.handshake.specs.Protocol.{suites}
use Rattle.server.specs.Hello.{offers, chosen}

pub record SuitesInOrder : Type 0 where
  pub first : (offered : List ℕ) → offers offered 0x00AE ≡ true → chosen suites offered ≡ Some 0x00AE
  pub second : (offered : List ℕ) → offers offered 0x00AE ≡ false → offers offered 0x008C ≡ true → chosen suites offered ≡ Some 0x008C
  pub third : (offered : List ℕ) → offers offered 0x00AE ≡ false → offers offered 0x008C ≡ false → offers offered 0x00B0 ≡ true
      → chosen suites offered ≡ Some 0x00B0
  pub no_other : (offered : List ℕ) → offers offered 0x00AE ≡ false → offers offered 0x008C ≡ false → offers offered 0x00B0 ≡ false
      → chosen suites offered ≡ None
