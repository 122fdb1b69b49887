-- The ClientHello meets the rules of its layout.
-- Assumes nothing.
use mathlib.Core.Path.{◌≡◌}
use Prim.Native.Nat.{ℕ}
use native.Mathlib.Omega.{arith}
use mathlib.Core.Bool.{true}
use mathlib.Core.List.{List, [], ◌∷◌, ◌++◌}
use lib.ListN.{length}
use borrow.Author.Tests.{eq-eqb}
use Rattle.endian.specs.Vector.{vector}
use Rattle.layout.specs.Layout.{valid}
use Rattle.layout.proofs.Layouts.{valid-within}
use Rattle.hellos.specs.ClientHello.{client_hello}
use Rattle.hellos.proofs.Hellos.{length-body}
use Rattle.client.specs.Connection.{hello, hello_fields, offered}

-- ---- the ClientHello

pub hello-length : (random : List ℕ) → length random ≡ 32 → length (hello random) ≡ 49
hello-length random h = omega (arith, length-body 0x0303 random [] (vector 2 offered ++ (vector 1 (0 ∷ []) ++ [])) h)

pub hello-valid : (random : List ℕ) → length random ≡ 32 → valid client_hello (hello_fields random) ≡ true
hello-valid random h =
    valid-within client_hello (hello_fields random) (rw (eq-eqb (length random) 32 h)) (omega (arith, hello-length random h))
