-- `records::protection::seal`: R5 past the limit, then R1; else header, content and, where there is protection, the MAC behind them.
use borrow.Author.Tests.{le-leb, lt-leb, not-true, not-false}
use Prim.Native.Nat.{ℕ, ◌+◌, ◌-◌, ◌≤◌, ◌<◌}
use native.Mathlib.Omega.{arith}
use mathlib.Core.Path.{◌≡◌, sym, ◌∙◌}
use mathlib.Core.Bool.{true, false}
use mathlib.Core.List.{List, [], ◌∷◌, ◌++◌}
use lib.ListN.{length, get_or, take, drop, length-append}
use Rattle.std.specs.Prelude.{Result, Ok, Err}
use Rattle.refusal.specs.declared.Refusal.{Refusal}
use Rattle.endian.specs.Number.{be}
use Rattle.refusal.specs.declared.Refusal.TheVariants.{ShortOutput}
use Rattle.refusal.specs.Lent.{gives, Answers}
use Rattle.refusal.proofs.Laws.{refuses-answers, short-answers, answer-in-front}
use Rattle.layout.proofs.Puts.{copy-in-front, put-behind, front-answers}
use Rattle.records.specs.declared.ContentType.{ContentType}
use Rattle.records.specs.declared.State.{State}
use Rattle.records.specs.Record.{front}
use Rattle.records.specs.Protection.{mac_of, sealed, sealing}
use Rattle.records.proofs.Macs.{length-mac-of}
use Rattle.records.proofs.Opening.{length-sealed}
use Rattle.records.proofs.protection.seal.Goals as goal

-- content that a record holds
module _ (s : State) (kind : ContentType) (content : List ℕ) (few : length content ≤ 16384) where
  within : sealing s kind content ≡ gives (sealed s kind content)
  within = rw (le-leb (length content) 16384 few)

  -- without protection the code writes two parts
  plain-put : s.protected ≡ false → {head out left : List ℕ} {said : Result ℕ Refusal} → head ≡ front kind ++ be 2 (length content)
      → Answers (gives (head ++ content)) out said left → Answers (sealing s kind content) out said left
  plain-put p h two = rw (within, p) (rw h at two)

  -- with it, there is room or not
  no_room : s.protected ≡ true → {out : List ℕ} → length out < 37 + length content → Answers (sealing s kind content) out (Err ShortOutput) out
  no_room p {out} short =
      let long : length (sealed s kind content) ≡ 37 + length content = length-sealed s kind content ∙ rw p (omega arith) in
      rw within (short-answers (sealed s kind content) out (omega arith))

  module _ (p : s.protected ≡ true) {head value : List ℕ} (h : head ≡ front kind ++ be 2 (length content + 32))
      (v : value ≡ mac_of s.key s.sequence (get_or head 0 0 ∷ get_or head 1 0 ∷ get_or head 2 0 ∷ []) content) where
    -- the parts that the code writes, one behind the other
    parts : sealed s kind content ≡ (head ++ content) ++ value
    parts =
        let tail : List ℕ = mac_of s.key s.sequence (front kind) content in
        let size : length (content ++ tail) ≡ length content + 32 = length-append content tail ∙ rw length-mac-of in
        rw (v, h, p, size)

    put-parts : (out mid back : List ℕ) {said : Result ℕ Refusal} → 37 + length content ≤ length out → Answers (gives (head ++ content)) out said mid
        → back ≡ take (length value) value ++ drop (length value) (take (length mid - (5 + length content)) (drop (5 + length content) mid))
        → Answers (sealing s kind content) out (Ok (37 + length content))
        (take (5 + length content) mid ++ (back ++ drop (length mid - (5 + length content)) (drop (5 + length content) mid)))
    put-parts out mid back room two copied =
        let long : length ((head ++ content) ++ value) ≡ 37 + length content = rw (← parts) (length-sealed s kind content ∙ rw p (omega arith)) in
        let first : length (head ++ content) ≡ 5 + length content = rw h (omega arith) in
        rw (within, parts)
        (front-answers ((head ++ content) ++ value) out _ _ (omega arith)
        (put-behind (head ++ content) value out mid back (5 + length content) (answer-in-front two (omega arith)) (sym first)
        (copy-in-front value _ back copied))
        (sym long))

pub returns-then-n-gt16384 : goal.returns-then-n-gt16384
returns-then-n-gt16384 c = simp (lt-leb _ _ c.if-n-gt16384.true) (refuses-answers _ _)

pub returns-then-not-s : goal.returns-then-not-s
returns-then-not-s c =
    let a = c.args in
    let plain = not-true a.s.protected c.if-not-s.true in
    plain-put a.s a.kind a.content.now (omega arith) plain c.made-head.ensures c.two.ensures

pub returns-then-out-n : goal.returns-then-out-n
returns-then-out-n c =
    let a = c.args in
    no_room a.s a.kind a.content.now (omega arith) (not-false a.s.protected c.if-not-s.false) c.if-out-n.true

pub returns : goal.returns
returns c =
    let a = c.args in
    put-parts a.s a.kind a.content.now (omega arith) (not-false a.s.protected c.if-not-s.false) c.made-head-2.ensures
    c.mac_of-value.ensures a.out.now _ _ (omega arith) c.two-2.ensures c.copy.ensures.1
