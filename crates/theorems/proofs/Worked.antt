-- Document 01, "Bytes worked through": the twelve hold of the definitions, by computing; the lengths of the premaster secret for every PSK.
-- Assumes nothing.
use mathlib.Core.Path.{◌≡◌, refl, ap, ◌∙◌}
use Prim.Native.Nat.{ℕ, ◌+◌, ◌*◌, ◌≤◌}
use native.Mathlib.Omega.{arith}
use mathlib.Core.Bool.{false}
use mathlib.Core.List.{List}
use lib.ListN.{length}
use lib.Count.{count_leading_zeros}
use Rattle.std.specs.Prelude.{Ok}
use Rattle.refusal.specs.Lent.{answer}
use Rattle.keys.specs.Secrets.{premaster, premaster_bytes}
use Rattle.keys.proofs.Lengths.{length-premaster, premaster-given}
use Rattle.hellos.proofs.ClientHellos.{at-least-45}
use Rattle.utf8.specs.Utf8.{valid_utf8}
use Rattle.keytable.specs.Table.{well_formed, key_of}
use Rattle.theorems.specs.Worked.{BytesWorkedThrough, GivesR2, unended, odd}

premaster-answer : (psk : List ℕ) → 1 ≤ length psk → length psk ≤ 64 → answer (premaster psk) ≡ Ok (4 + 2 * length psk)
premaster-answer psk h k = rw (premaster-given psk h k) (ap Ok (length-premaster psk))

bad-gives-R2 : (t : List ℕ) → well_formed t ≡ false → GivesR2 t
bad-gives-R2 t bad starts count c m fits = rw (fits, bad)

pub worked : BytesWorkedThrough
unfolding premaster premaster_bytes count_leading_zeros valid_utf8 well_formed key_of
worked =
    record {
      v1 = refl;
      v2 = (
        (λ psk e. premaster-answer psk (omega arith) (omega arith) ∙ rw e),
        (λ psk e. premaster-answer psk (omega arith) (omega arith) ∙ rw e),
        (λ psk e. rw e),
        (λ psk e. rw e),
        refl,
      );
      v3 = refl;
      v4 = (refl, refl);
      v5 = refl;
      v6 = refl;
      v7 = (refl, refl, refl, refl, at-least-45);
      v8 = refl;
      v9 = (refl, refl, refl, refl, refl);
      v10 = (refl, refl, bad-gives-R2 unended refl, bad-gives-R2 odd refl, refl);
      v11 = (refl, refl, refl, refl);
      v12 = (
        (λ c m f e. rw e),
        (λ c m f suite e null common. rw (e, null, common)),
        (λ c suite. refl),
        (λ v c. refl),
        (λ v c ours. rw ours),
        refl,
      );
    }
