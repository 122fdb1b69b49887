-- What is sealed is opened as the same content under the same key and number, and under others only where the MACs happen to be equal.
-- Assumes nothing.
use mathlib.Core.Path.{◌≡◌, refl, sym, ap, ◌∙◌}
use Prim.Native.Nat.{ℕ, ◌+◌, ◌-◌, ◌≤◌, ◌<◌}
use native.Mathlib.Omega.{arith}
use mathlib.Core.Bool.{Bool, true, false, cond}
use mathlib.Core.Logic.{◌↔◌, ◌⊎◌, inl, inr, ⊎_elim}
use mathlib.Core.List.{List, ◌++◌}
use lib.ListN.{length, take, drop}
use lib.Seq.{take-length, take-append_seam, drop-append_seam}
use borrow.Author.Tests.{le-leb, eq-eqb}
use Rattle.std.specs.Prelude.{Ok, Some}
use Rattle.lists.specs.Lists.{same}
use Rattle.lists.proofs.Equal.{same-eq, same_refl}
use Rattle.endian.specs.Number.{be, number}
use Rattle.endian.proofs.Numbers.{number-be-lt}
use Rattle.records.specs.declared.ContentType.{ContentType}
use Rattle.records.specs.declared.ContentType.TheVariants.{ChangeCipherSpec, Alert, Handshake, ApplicationData}
use Rattle.records.specs.declared.State.{State}
use Rattle.records.specs.Record.{type_number, type_of, front, record_bytes, whole, length_read, record_read}
use Rattle.records.specs.Protection.{added, mac_of, sealed, fragment_under, content_length, content_of, right_mac, opened, holding}
use Rattle.records.proofs.Opening.{few-added, length-fragment, refused-content, opened-bad, opened-right, opened-plain}

-- ---- a record's bytes are read as they were made

type-read : (kind : ContentType) → type_of (type_number kind) ≡ Some kind
type-read ChangeCipherSpec = refl
type-read Alert = refl
type-read Handshake = refl
type-read ApplicationData = refl

record-read : (n : ℕ) (kind : ContentType) (fragment : List ℕ) → length fragment < 65536
    → record_read n (record_bytes kind fragment) ≡ length_read n (length fragment) kind
record-read n kind fragment few =
    let said : number (be 2 (length fragment)) ≡ length fragment = number-be-lt 2 (length fragment) few in
    let made : whole (record_bytes kind fragment) ≡ true =
    rw (le-leb 5 (length (record_bytes kind fragment)) (omega arith))
    (eq-eqb (number (be 2 (length fragment))) (length (record_bytes kind fragment) - 5) (omega arith)) in
    rw (made, type-read kind)

-- the MAC of a content that is sealed
abbrev mac_under : State → ContentType → List ℕ → List ℕ
mac_under s kind content = mac_of s.key s.sequence (front kind) content

-- ---- a sealed record under a state with as much protection

module _ (s s' : State) (kind : ContentType) (content : List ℕ) (few : length content ≤ 16384) (as-much : s'.protected ≡ s.protected) where
  as_added : added s' ≡ added s
  as_added = rw as-much

  layout : record_read (added s') (sealed s kind content) ≡ Ok kind
  layout =
      let fragment : List ℕ = fragment_under s kind content in
      let size : length fragment ≡ length content + added s = length-fragment s kind content in
      let most : added s ≤ 32 = few-added s in
      record-read (added s') kind fragment (omega arith) ∙ rw (le-leb (length fragment) (16384 + added s') (omega (arith, as_added)))

  content-length : content_length s' (sealed s kind content) ≡ length content
  content-length = omega (arith, length-fragment s kind content, as_added)

  content-there : content_of s' (sealed s kind content) ≡ content
  content-there = rw content-length (go s.protected (mac_under s kind content))
    where
      go : (t : Bool) (tail : List ℕ) → take (length content) (cond t (content ++ tail) content) ≡ content
      go true tail = take-append_seam content tail
      go false tail = take-length content

  -- the record is opened as its content where the MAC's test passes or is not asked for
  opened-there : (s'.protected ≡ false) ⊎ (right_mac s' (sealed s kind content) ≡ true)
      → opened s' (sealed s kind content) ≡ holding kind (length content)
  opened-there h =
      ⊎_elim (λ p. opened-plain s' (sealed s kind content) layout p) (λ right. opened-right s' (sealed s kind content) layout right) h
      ∙ ap (λ (n : ℕ). holding kind n) content-length

  macs-compared : s.protected ≡ true → right_mac s' (sealed s kind content) ≡ same (mac_under s kind content) (mac_under s' kind content)
  macs-compared p =
      let fragment : List ℕ = fragment_under s kind content in
      let all : added s ≡ 32 = rw p in
      let room : 32 ≤ length fragment = omega (arith, length-fragment s kind content) in
      let behind : drop (length content) fragment ≡ mac_under s kind content = rw p (drop-append_seam content _) in
      rw (le-leb 32 (length fragment) room, content-there, content-length, behind)

-- ---- the laws

pub sealed-opened : (s : State) (kind : ContentType) (content : List ℕ) → length content ≤ 16384
    → (opened s (sealed s kind content) ≡ holding kind (length content)) × (content_of s (sealed s kind content) ≡ content)
sealed-opened s kind content few = (opened-there s s kind content few refl (go s.protected refl), content-there s s kind content few refl)
  where
    go : (t : Bool) → s.protected ≡ t → (s.protected ≡ false) ⊎ (right_mac s (sealed s kind content) ≡ true)
    go true p = inr (macs-compared s s kind content few refl p ∙ same_refl (mac_under s kind content))
    go false p = inl p

pub sealed-elsewhere : (s s' : State) (kind : ContentType) (content : List ℕ) → length content ≤ 16384 → s.protected ≡ true → s'.protected ≡ true
    → (opened s' (sealed s kind content) ≡ holding kind (length content))
    ↔ (mac_of s.key s.sequence (front kind) content ≡ mac_of s'.key s'.sequence (front kind) content)
sealed-elsewhere s s' kind content few p p' = (λ e. there e (right_mac s' (sealed s kind content)) refl, back)
  where
    as-much : s'.protected ≡ s.protected
    as-much = p' ∙ sym p

    there : opened s' (sealed s kind content) ≡ holding kind (length content)
        → (t : Bool) → right_mac s' (sealed s kind content) ≡ t → mac_under s kind content ≡ mac_under s' kind content
    there e true right = same-eq _ _ (sym (macs-compared s s' kind content few as-much p) ∙ right)
    there e false bad =
        absurd (refused-content (sym (opened-bad s' (sealed s kind content) (layout s s' kind content few as-much) p' bad) ∙ e))

    back : mac_under s kind content ≡ mac_under s' kind content → opened s' (sealed s kind content) ≡ holding kind (length content)
    back e = opened-there s s' kind content few as-much (inr (macs-compared s s' kind content few as-much p ∙ rw e (same_refl (mac_under s' kind content))))
