-- The laws of start: what accepted settings are, and what the call gives back where the hello was sent.
-- Assumes nothing.
use mathlib.Core.Path.{◌≡◌}
use Prim.Native.Nat.{ℕ, ◌≤◌}
use mathlib.Core.Bool.{true, ◌&&◌, and-eq-true_iff}
use mathlib.Core.List.{List}
use lib.ListN.{length}
use lib.Dec.{leb, eqb}
use borrow.Author.Tests.{le-leb, leb-true, eqb-true}
use Rattle.std.specs.Prelude.{Result, Ok}
use Rattle.lists.specs.Lists.{each}
use Rattle.utf8.specs.Utf8.{valid_utf8}
use Rattle.refusal.specs.declared.Refusal.{Refusal}
use Rattle.refusal.specs.Lent.{gives, Answers}
use Rattle.refusal.proofs.Laws.{wrote-all}
use Rattle.keytable.specs.Table.{plain, between, valid_identity, valid_secret}
use Rattle.client.specs.Connection.{Settings, acceptable, hello, started, start_call}

-- what accepted settings are
pub record Allowed (s : Settings) : Type 0 where
  pub random : length s.random ≡ 32
  pub identity : length s.identity ≤ 128
  pub few : length s.key ≤ 64
  pub some_key : 1 ≤ length s.key

pub allowed : (s : Settings) → acceptable s ≡ true → Allowed s
allowed s h =
    let one = (and-eq-true_iff (eqb (length s.random) 32 && valid_identity s.identity) (valid_secret s.key)).0 h in
    let two = (and-eq-true_iff (eqb (length s.random) 32) (valid_identity s.identity)).0 one.0 in
    let named = (and-eq-true_iff (between 1 128 (length s.identity) && each plain s.identity) (valid_utf8 s.identity)).0 two.1 in
    let formed = (and-eq-true_iff (between 1 128 (length s.identity)) (each plain s.identity)).0 named.0 in
    let sized = (and-eq-true_iff (leb 1 (length s.identity)) (leb (length s.identity) 128)).0 formed.0 in
    let keyed = (and-eq-true_iff (leb 1 (length s.key)) (leb (length s.key) 64)).0 one.1 in
    record {
      random = eqb-true _ _ two.0;
      identity = leb-true _ _ sized.1;
      few = leb-true _ _ keyed.1;
      some_key = leb-true _ _ keyed.0;
    }

-- a hello that was sent
pub hello-sent : (s : Settings) {out left : List ℕ} {said : Result ℕ Refusal} {n : ℕ} → acceptable s ≡ true → Answers (gives (hello s.random)) out said left
    → said ≡ Ok n → start_call s out ≡ record { said = said; out = left; next = started s }
hello-sent s {out} ok a e = rw (ok, a.told, a.left, le-leb (length (hello s.random)) (length out) (wrote-all a e).0)
