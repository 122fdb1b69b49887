-- The MAC of a record: how long it is, that HMAC gives it over the head that the code builds, and where it stands in a record that came.
-- Assumes nothing.
use mathlib.Core.Path.{◌≡◌, sym, ap, ◌∙◌}
use Prim.Native.Nat.{ℕ, ◌+◌, ◌-◌, ◌≤◌}
use native.Mathlib.Omega.{arith}
use mathlib.Core.Bool.{true}
use mathlib.Core.List.{List, [], ◌∷◌, ◌++◌}
use lib.ListN.{length, get_or, take, drop, replicate, length-drop}
use lib.Seq.{take_all, drop-drop}
use borrow.Author.Tests.{le-leb}
use Rattle.std.specs.Prelude.{Result}
use Rattle.refusal.specs.declared.Refusal.{Refusal}
use Rattle.refusal.specs.Lent.{gives, Answers}
use Rattle.refusal.proofs.Laws.{answer-fills}
use Rattle.lists.specs.Lists.{same, part}
use Rattle.lists.proofs.Parts.{rest, part_to_end, window, take-window}
use Rattle.endian.specs.Number.{be}
use Rattle.keys.specs.Hmac.{hmac, mac}
use Rattle.keys.proofs.Lengths.{length-mac}
use Rattle.records.specs.declared.State.{State}
use Rattle.records.specs.Protection.{mac_of, content_length, right_mac}

pub length-mac-of : (key : List ℕ) (sequence : ℕ) (front content : List ℕ) → length (mac_of key sequence front content) ≡ 32
unfolding mac_of
length-mac-of key sequence front content = length-mac key _

-- ---- the head, as the code builds it

-- eight bytes of the number, three of the front and two of the length
abbrev head : (number front size : List ℕ) → List ℕ
head number front size =
    get_or number 0 0 ∷ get_or number 1 0 ∷ get_or number 2 0 ∷ get_or number 3 0 ∷ get_or number 4 0 ∷ get_or number 5 0 ∷ get_or number 6 0 ∷ get_or number 7 0
    ∷ get_or front 0 0 ∷ get_or front 1 0 ∷ get_or front 2 0 ∷ get_or size 0 0 ∷ get_or size 1 0 ∷ []

three : (s : List ℕ) → length s ≡ 3 → get_or s 0 0 ∷ get_or s 1 0 ∷ get_or s 2 0 ∷ [] ≡ s
three s size = sym (take-window 3 0 s (omega arith)) ∙ take_all 3 s (omega arith)

hmac-given : (key text : List ℕ) → length key ≤ 32 → length text ≤ 65600 → hmac key text ≡ gives (mac key text)
unfolding hmac
hmac-given key text few short = rw (le-leb (length text) 0x1fffffffffffffbf (omega arith), le-leb (length key) 0x1fffffffffffffff (omega arith))

module _ (key : List ℕ) (sequence : ℕ) (front content : List ℕ) {number size value : List ℕ} {said : Result ℕ Refusal} where
  pub mac-given : length key ≡ 32 → length front ≡ 3 → length content ≤ 65535 → number ≡ be 8 sequence → size ≡ be 2 (length content)
      → Answers (hmac key (head number front size ++ content)) (replicate 32 0) said value → value ≡ mac_of key sequence front content
  unfolding mac_of
  mac-given k f few n s answered =
      let text = head number front size ++ content in
      let given = hmac-given key text (omega arith) (omega arith) in
      let same : text ≡ (be 8 sequence ++ (front ++ be 2 (length content))) ++ content =
      rw (n, s) (ap (λ (l : List ℕ). (be 8 sequence ++ (l ++ be 2 (length content))) ++ content) (three front f)) in
      answer-fills (rw given at answered) (length-mac key text) ∙ ap (mac key) same

-- ---- in a record that came

-- the last 32 bytes are compared with the MAC over what stands before them
pub right-mac : (s : State) (b : List ℕ) {value : List ℕ} → s.protected ≡ true → 37 ≤ length b
    → value ≡ mac_of s.key s.sequence (window 3 0 b) (part 5 (length b - 32 - 5) b) → same (rest b (length b - 32)) value ≡ right_mac s b
right-mac s b p long e =
    let content : content_length s b ≡ length b - 32 - 5 = rw (p, length-drop 5 b) (omega arith) in
    let room : 32 ≤ length (drop 5 b) = rw (length-drop 5 b) (omega arith) in
    let behind : 5 + (length b - 32 - 5) ≡ length b - 32 = omega arith in
    let first : take 3 b ≡ window 3 0 b = take-window 3 0 b (omega arith) in
    rw (part_to_end, e, content, le-leb 32 (length (drop 5 b)) room, drop-drop (length b - 32 - 5) 5 b, behind, first)
