-- What a call gives back and leaves, by what was decided on the record.
-- Assumes nothing.
use mathlib.Core.Path.{◌≡◌, refl}
use Prim.Native.Nat.{ℕ, ◌≤◌}
use native.Mathlib.Omega.{arith}
use mathlib.Core.Bool.{Bool, true, false, and-false}
use mathlib.Core.List.{List}
use lib.ListN.{length, take, length-take}
use lib.Dec.{leb}
use Rattle.std.specs.Prelude.{Result, Ok, Err}
use Rattle.refusal.specs.declared.Refusal.{Refusal}
use Rattle.refusal.specs.declared.Refusal.TheVariants.{ShortOutput}
use Rattle.handshake.specs.Flight.{counted}
use Rattle.record_server.specs.declared.RecordConnection.{RecordConnection}
use Rattle.record_server.specs.declared.Taken.{Taken}
use Rattle.record_server.specs.declared.taking.Decided.{Decided}
use Rattle.record_server.specs.Taking.{refused, front, settled, taken, Takes}
use Rattle.record_server.specs.InnerTaking.{held_by, decided, answered_by, Keeps}

-- what is to be sent
abbrev answer : Decided → List ℕ
answer d = take d.len d.records

-- what a call that was decided so gives back and leaves
abbrev pub Does : RecordConnection → Result Decided Refusal → (held bytes out memory : List ℕ) → Taken → (out' memory' : List ℕ) → Type 0
Does c given held bytes out memory t out' memory' = Takes (settled c out memory (decided given memory held bytes)) t out' memory'

module _ (c : RecordConnection) (held bytes out memory : List ℕ) {given : Result Decided Refusal} {t : Taken} where
  pub refused-does : {r : Refusal} → given ≡ Err r → t ≡ taken (refused c out memory r) → Does c given held bytes out memory t out memory
  refused-does v e = rw v (record { gives = e; out-left = refl; memory-left = refl })

  module _ {d : Decided} (v : given ≡ Ok d) where
    -- R1: the memory or the output is too short
    pub memory-short : leb (length (held_by d.keep memory held bytes)) (length memory) ≡ false
        → t ≡ taken (refused c out memory ShortOutput) → Does c given held bytes out memory t out memory
    memory-short short e =
        rw (v, short, and-false (leb (length (answer d)) (length out))) (record { gives = e; out-left = refl; memory-left = refl })

    pub output-short : {out' : List ℕ} → leb (length (answer d)) (length out) ≡ false
        → t ≡ taken (refused c out memory ShortOutput) → out' ≡ out → Does c given held bytes out memory t out' memory
    output-short short e same = rw (v, short) (record { gives = e; out-left = same; memory-left = refl })

    pub settled-does : {out' memory' : List ℕ} → leb (length (answer d)) (length out) ≡ true
        → leb (length (held_by d.keep memory held bytes)) (length memory) ≡ true → t ≡ answered_by d (Ok (length (answer d)))
        → out' ≡ front (answer d) out → memory' ≡ front (held_by d.keep memory held bytes) memory → Does c given held bytes out memory t out' memory'
    settled-does sent kept e o m = rw (v, sent, kept) (record { gives = e; out-left = o; memory-left = m })

-- ---- no answer is longer than its array

module _ (c : RecordConnection) (held bytes out memory : List ℕ) where
  pub settled-brief : (given : Result Decided Refusal) → Keeps given memory bytes → counted (settled c out memory (decided given memory held bytes)).said ≤ 336
  settled-brief (Ok d) keeps =
      go (leb (length (answer d)) (length out)) refl (leb (length (held_by d.keep memory held bytes)) (length memory)) refl
    where
      go : (sent : Bool) → leb (length (answer d)) (length out) ≡ sent
          → (kept : Bool) → leb (length (held_by d.keep memory held bytes)) (length memory) ≡ kept
          → counted (settled c out memory (decided (Ok d) memory held bytes)).said ≤ 336
      go true e true f = rw (e, f) (omega (arith, length-take d.len d.records, keeps.0))
      go true e false f = rw (e, f) (omega arith)
      go false e kept f = rw e (omega arith)
  settled-brief (Err r) keeps = omega arith
