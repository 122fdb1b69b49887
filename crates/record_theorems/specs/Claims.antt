-- Every headline statement of this crate, as one record. docs/ASSURANCE.md has a row for each field, and tests/claims compares the two.
-- proofs/Claims.antt proves it by one value.
use Rattle.std.specs.Prelude.{◌≡◌, ◌↔◌, ℕ, ◌≤◌, true, List, length, replicate}
use Rattle.records.specs.declared.ContentType.{ContentType}
use Rattle.records.specs.declared.State.{State}
use Rattle.records.specs.Record.{content_limit, front}
use Rattle.records.specs.Protection.{mac_of, sealed, content_of, opened, holding}
use Rattle.record_server.specs.Connection.{no_alert, closed_with}
use Rattle.saved_records.specs.Saved.{restored}
use Rattle.record_theorems.specs.Over.{ClosedStays}
use Rattle.record_theorems.specs.Cutting.{CutFree}
use Rattle.record_theorems.specs.Demand3.{Sameness, SamenessOfLookups, CompletesExactly}

pub record Claims : Type 1 where
  -- demand 1
  pub closed_stays : ClosedStays
  pub record_cleared_closed : restored (replicate 576 0) ≡ closed_with no_alert
  -- demand 2: what is sent is read back as the same data under the same key and number, and under others only where the MACs happen to be equal
  pub sealed_opened : (s : State) (kind : ContentType) (content : List ℕ) → length content ≤ content_limit
      → (opened s (sealed s kind content) ≡ holding kind (length content)) × (content_of s (sealed s kind content) ≡ content)
  pub sealed_elsewhere : (s s' : State) (kind : ContentType) (content : List ℕ) → length content ≤ content_limit
      → s.protected ≡ true → s'.protected ≡ true
      → (opened s' (sealed s kind content) ≡ holding kind (length content))
      ↔ (mac_of s.key s.sequence (front kind) content ≡ mac_of s'.key s'.sequence (front kind) content)
  -- however handshake bytes are cut into records
  pub cut_free : CutFree
  -- demand 3
  pub record_sameness : Sameness
  pub record_sameness_of_lookups : SamenessOfLookups
  pub record_completes_exactly : CompletesExactly
