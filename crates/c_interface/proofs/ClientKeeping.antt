-- What is the client's own of what Keeping says: how long a ClientHello is.
-- Assumes nothing.
use mathlib.Core.Path.{◌≡◌, refl}
use Prim.Native.Nat.{ℕ, ◌<◌, ◌^◌}
use native.Mathlib.Omega.{arith}
use mathlib.Core.List.{List}
use Rattle.std.specs.Prelude.{Result}
use Rattle.refusal.specs.declared.Refusal.{Refusal}
use Rattle.refusal.specs.declared.Refusal.TheVariants.{BadSetting}
use Rattle.client.specs.Connection.{Settings, acceptable, hello, start_outcome, start_call}
use Rattle.client.proofs.Hellos.{hello-length}
use Rattle.client.proofs.Starts.{allowed}
use Rattle.c_interface.specs.Inner.{count}
use Rattle.c_interface.proofs.Answers.{answer-count-small}
use Rattle.c_interface.proofs.Sizes.{bytes-if-small}

pub hello-count : (s : Settings) (out : List ℕ) {said : Result ℕ Refusal} → said ≡ (start_call s out).said → count said < 2 ^ 31
hello-count s out e =
    answer-count-small {wanted = start_outcome s} {out = out} (record { told = e; left = refl })
    (bytes-if-small (acceptable s) (hello s.random) BadSetting (λ ok. omega (arith, hello-length s.random (allowed s ok).random)))
