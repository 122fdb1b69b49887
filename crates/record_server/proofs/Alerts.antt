-- The record of a fatal alert in an array of 39 zeros: it has room, and the array is what the connection keeps.
-- Assumes nothing.
use mathlib.Core.Path.{◌≡◌, ap, ◌∙◌}
use Prim.Native.Nat.{ℕ, ◌-◌, ◌≤◌}
use native.Mathlib.Omega.{arith}
use mathlib.Core.List.{List, [], ◌∷◌, ◌++◌}
use lib.ListN.{length, replicate}
use borrow.Author.Tests.{ne_eqb}
use Rattle.std.specs.Prelude.{Result, Ok, Err}
use Rattle.lists.proofs.Parts.{drop-replicate}
use Rattle.refusal.specs.declared.Refusal.{Refusal}
use Rattle.refusal.specs.Lent.{gives, Answers}
use Rattle.refusal.proofs.Laws.{answer-in-front, wrote-all, refused-short}
use Rattle.handshake.specs.Alert.{fatal}
use Rattle.records.specs.declared.ContentType.{ContentType}
use Rattle.records.specs.declared.State.{State}
use Rattle.records.specs.Protection.{last_sequence, sealed}
use Rattle.records.proofs.Opening.{few-added, length-sealed}
use Rattle.record_server.specs.declared.ClosingAlert.{ClosingAlert}
use Rattle.record_server.specs.Connection.{kept, closing_alert}

in-zeros : (bytes : List ℕ) {out : List ℕ} {said : Result ℕ Refusal} {n : ℕ} → Answers (gives bytes) (replicate 39 0) said out → said ≡ Ok n
    → ◌≡◌ {A = ClosingAlert} (record { length = n; bytes = out }) (kept bytes)
in-zeros bytes {out} {n = n} a e =
    let all = wrote-all a e in
    let array : out ≡ bytes ++ replicate (39 - length bytes) 0 =
    answer-in-front a all.0 ∙ ap (λ (l : List ℕ). bytes ++ l) (drop-replicate 39 (length bytes) 0) in
    rw (array, all.1)

module _ (s : State) (number : ℕ) {out : List ℕ} {said : Result ℕ Refusal}
    (a : Answers (gives (sealed s ContentType.Alert (fatal ∷ number ∷ []))) (replicate 39 0) said out) where
  short : length (sealed s ContentType.Alert (fatal ∷ number ∷ [])) ≤ 39
  short = omega (arith, length-sealed s ContentType.Alert (fatal ∷ number ∷ []), few-added s)

  pub alert-room : {r : Refusal} → said ≡ Err r → ⊥
  alert-room e = omega (arith, short, refused-short a e)

  pub alert-kept : {n : ℕ} → (s.sequence ≡ last_sequence → ⊥) → said ≡ Ok n
      → ◌≡◌ {A = ClosingAlert} (record { length = n; bytes = out }) (closing_alert s number)
  alert-kept more e = rw (ne_eqb s.sequence last_sequence more) (in-zeros (sealed s ContentType.Alert (fatal ∷ number ∷ [])) a e)
