-- What all tests on a record say of it; where the content of one that passed them stands and how long it is; and how long a sealed record is.
-- Assumes nothing.
use mathlib.Core.Path.{◌≡◌, refl, sym, ap, ◌∙◌}
use Prim.Native.Nat.{ℕ, ◌+◌, ◌-◌, ◌≤◌}
use native.Mathlib.Omega.{arith}
use mathlib.Core.Bool.{Bool, true, false, cond, not, ◌&&◌, and-false}
use mathlib.Core.List.{List, ◌++◌}
use lib.ListN.{length, length-append, length-drop}
use Rattle.std.specs.Prelude.{Result, Ok, Err}
use Rattle.lists.specs.Lists.{part}
use Rattle.refusal.specs.declared.Refusal.{Refusal}
use Rattle.refusal.specs.declared.Refusal.TheVariants.{BadRecordMac}
use Rattle.records.specs.declared.Content.{Content}
use Rattle.records.specs.declared.ContentType.{ContentType}
use Rattle.records.specs.declared.State.{State}
use Rattle.records.specs.Record.{front, fragment_of, record_read}
use Rattle.records.specs.Protection.{added, sealed, fragment_under, content_length, content_of, right_mac, mac_read, opened, holding}
use Rattle.records.proofs.Macs.{length-mac-of}
use Rattle.records.proofs.Reading.{record-inside}

pub few-added : (s : State) → added s ≤ 32
few-added s = go s.protected
  where
    go : (t : Bool) → cond t 32 0 ≤ 32
    go true = omega arith
    go false = omega arith

-- ---- what the MAC's test makes of a record whose layout passed

module _ (s : State) (b : List ℕ) {kind : ContentType} (layout : record_read (added s) b ≡ Ok kind) where
  pub opened-bad : s.protected ≡ true → right_mac s b ≡ false → opened s b ≡ Err BadRecordMac
  opened-bad p bad = ap (mac_read s b) layout ∙ rw (bad, p)

  pub opened-right : right_mac s b ≡ true → opened s b ≡ holding kind (content_length s b)
  opened-right right = ap (mac_read s b) layout ∙ rw (right, and-false s.protected)

  pub opened-plain : s.protected ≡ false → opened s b ≡ holding kind (content_length s b)
  opened-plain p = ap (mac_read s b) layout ∙ rw p

-- ---- a record that passed

pub refused-content : {r : Refusal} {kind : ContentType} {n : ℕ} → Err r ≡ holding kind n → ⊥
refused-content e = let z : ◌≡◌ {A = ℕ} 0 1 = cc in omega arith

-- how many bytes of content a record holds, 0 where it is refused
abbrev length-held : Result Content Refusal → ℕ
length-held (Ok c) = c.len
length-held (Err r) = 0

pub opened_inside : (s : State) (b : List ℕ) {kind : ContentType} {n : ℕ} → opened s b ≡ holding kind n
    → (5 + n ≤ length b) × (n ≤ 16384) × (n ≡ content_length s b) × (content_of s b ≡ part 5 n b)
opened_inside s b {kind} {n} e = go (record_read (added s) b) refl e
  where
    length-is : (t : Bool) (r : Refusal) (k : ContentType) → cond t (Err r) (holding k (content_length s b)) ≡ holding kind n
        → n ≡ content_length s b
    length-is true r k f = absurd (refused-content f)
    length-is false r k f = sym (ap length-held f)

    go : (read : Result ContentType Refusal) → record_read (added s) b ≡ read → mac_read s b read ≡ holding kind n
        → (5 + n ≤ length b) × (n ≤ 16384) × (n ≡ content_length s b) × (content_of s b ≡ part 5 n b)
    go (Ok k) r f =
        let inside = record-inside (added s) b r in
        let long : n ≡ content_length s b = length-is (s.protected && not (right_mac s b)) _ k f in
        let size : length (fragment_of b) ≡ length b - 5 = length-drop 5 b in
        (omega arith, omega arith, long, rw long)
    go (Err r) q f = absurd (refused-content f)

-- ---- a sealed record

pub length-fragment : (s : State) (kind : ContentType) (content : List ℕ) → length (fragment_under s kind content) ≡ length content + added s
length-fragment s kind content = go s.protected _ (length-mac-of s.key s.sequence (front kind) content)
  where
    go : (t : Bool) (tail : List ℕ) → length tail ≡ 32 → length (cond t (content ++ tail) content) ≡ length content + cond t 32 0
    go true tail size = length-append content tail ∙ rw size
    go false tail size = omega arith

pub length-sealed : (s : State) (kind : ContentType) (content : List ℕ) → length (sealed s kind content) ≡ 5 + length content + added s
length-sealed s kind content = omega (arith, length-fragment s kind content)
