-- The laws of lent memory: how a writer shows its `Answers`, and what a caller may conclude from an answer.
-- Assumes nothing.
use mathlib.Core.Path.{◌≡◌, refl, sym, ap, ◌∙◌}
use Prim.Native.Nat.{ℕ, ◌≤◌, ◌<◌}
use native.Mathlib.Omega.{arith}
use native.Mathlib.Decide.{dec_le}
use mathlib.Core.Bool.{Bool, true, false, cond}
use mathlib.Core.Logic.{◌↔◌}
use mathlib.Core.List.{List, ◌++◌, append-nil}
use lib.ListN.{length, take, drop, drop_of_length-le}
use lib.Seq.{take-append_seam, drop-append_seam}
use borrow.Author.Tests.{le-leb, lt-leb}
use Rattle.std.specs.Prelude.{Result, Ok, Err}
use Rattle.refusal.specs.declared.Refusal.{Refusal}
use Rattle.refusal.specs.declared.Refusal.TheVariants.{ShortOutput}
use Rattle.refusal.specs.Lent.{Outcome, gives, refuses, and_then, within, answer, after, Answers}

-- ---- refusals are no answers

pub refuses-gives : {r : Refusal} {bytes : List ℕ} → refuses r ≡ gives bytes → ⊥
refuses-gives e = let z : ◌≡◌ {A = ℕ} 0 1 = cc in omega arith

refused-wrote : {r : Refusal} {n : ℕ} → Err r ≡ Ok n → ⊥
refused-wrote e = let z : ◌≡◌ {A = ℕ} 0 1 = cc in omega arith

-- ---- for a writer

pub gives-answers : (bytes out : List ℕ) → length bytes ≤ length out
    → Answers (gives bytes) out (Ok (length bytes)) (bytes ++ drop (length bytes) out)
gives-answers bytes out h = record { told = simp (le-leb _ _ h); left = simp (le-leb _ _ h) }

pub short-answers : (bytes out : List ℕ) → length out < length bytes → Answers (gives bytes) out (Err ShortOutput) out
short-answers bytes out h = record { told = simp (lt-leb _ _ h); left = simp (lt-leb _ _ h) }

pub refuses-answers : (r : Refusal) (out : List ℕ) → Answers (refuses r) out (Err r) out
refuses-answers r out = record { told = refl; left = refl }

-- ---- for a caller

-- an answer that has room stands at the front, and the rest is as it was
pub answer-in-front : {bytes out out' : List ℕ} {said : Result ℕ Refusal} → Answers (gives bytes) out said out' → length bytes ≤ length out
    → out' ≡ bytes ++ drop (length bytes) out
answer-in-front a h = a.left ∙ simp (le-leb _ _ h)

-- an answer as long as the memory is all of it
pub answer-fills : {bytes out out' : List ℕ} {said : Result ℕ Refusal} → Answers (gives bytes) out said out' → length bytes ≡ length out → out' ≡ bytes
answer-fills {bytes} {out} a e = answer-in-front a (omega arith) ∙ rw (drop_of_length-le out {i = length bytes} (omega arith), append-nil bytes)

-- it can be read there
pub answer-first : {bytes out out' : List ℕ} {said : Result ℕ Refusal} → Answers (gives bytes) out said out' → length bytes ≤ length out
    → take (length bytes) out' ≡ bytes
answer-first {bytes} a h = rw (answer-in-front a h) (take-append_seam bytes _)

-- bytes were written: all that there were
pub wrote-all : {bytes out out' : List ℕ} {said : Result ℕ Refusal} {n : ℕ} → Answers (gives bytes) out said out' → said ≡ Ok n
    → (length bytes ≤ length out) × (n ≡ length bytes) × (take n out' ≡ bytes)
wrote-all {bytes} {out} {n = n} a e = elim (dec_le (length bytes) (length out)) [
  | yes h ↦
      let same : n ≡ length bytes = cc (simp (le-leb _ _ h) at a.told) in
      (h, same, rw same (answer-first a h))
  | no h ↦ absurd (refused-wrote (sym (simp (lt-leb (length bytes) (length out) (omega arith)) at a.told) ∙ e))
]

-- bytes were there, and there was a refusal: the room was short
pub refused-short : {bytes out out' : List ℕ} {said : Result ℕ Refusal} {r : Refusal} → Answers (gives bytes) out said out' → said ≡ Err r
    → length out < length bytes
refused-short {bytes} {out} a e = elim (dec_le (length bytes) (length out)) [
  | yes h ↦ absurd (refused-wrote (sym e ∙ simp (le-leb _ _ h) at a.told))
  | no h ↦ omega arith
]

-- the same of an outcome that may be either: what was written is what there was to be written
pub wrote-gives : (o : Outcome) {out out' : List ℕ} {said : Result ℕ Refusal} {n : ℕ} → Answers o out said out' → said ≡ Ok n
    → (n ≤ length out) × (o ≡ gives (take n out'))
wrote-gives (gives bytes) {out} {n = n} a e =
    let all = wrote-all a e in
    (omega arith, ap gives (sym all.2))
wrote-gives (refuses r) a e = absurd (refused-wrote (sym a.told ∙ e))

-- a refusal, where there was room for whatever there was to be written
pub refused-refuses : (o : Outcome) {out out' : List ℕ} {said : Result ℕ Refusal} {r : Refusal}
    → ((bytes : List ℕ) → o ≡ gives bytes → length bytes ≤ length out) → Answers o out said out' → said ≡ Err r → o ≡ refuses r
refused-refuses (gives bytes) room a e = absurd (omega (arith, room bytes refl, refused-short a e))
refused-refuses (refuses q) room a e = cc a.told

-- the memory was as long as what there was to be written
pub whole-gives : {o : Outcome} {bytes out out' : List ℕ} {said : Result ℕ Refusal} → o ≡ gives bytes → length bytes ≡ length out → Answers o out said out'
    → o ≡ gives out'
whole-gives e l a = e ∙ ap gives (sym (answer-fills (rw e at a) l))

-- ---- answers of one length

-- what there is to be written, if anything, has n bytes
abbrev pub Sized : ℕ → Outcome → Type 0
Sized n o = (bytes : List ℕ) → o ≡ gives bytes → length bytes ≡ n

pub sized-tested : {n : ℕ} (t : Bool) (o : Outcome) (r : Refusal) → Sized n o → Sized n (cond t o (refuses r))
sized-tested true o r sized bytes e = sized bytes e
sized-tested false o r sized bytes e = absurd (refuses-gives e)

pub sized-then : {n : ℕ} (o : Outcome) {next : List ℕ → Outcome} → ((b : List ℕ) → Sized n (next b)) → Sized n (and_then o next)
sized-then (gives b) sized bytes e = sized b bytes e
sized-then (refuses r) sized bytes e = absurd (refuses-gives e)

-- memory of that length: it is the answer, or nothing was to be written
module _ {n : ℕ} (o : Outcome) (sized : Sized n o) {out left : List ℕ} {said : Result ℕ Refusal} (room : length out ≡ n) (a : Answers o out said left) where
  pub sized-gives : {m : ℕ} → said ≡ Ok m → o ≡ gives left
  sized-gives e = let given = (wrote-gives o a e).1 in whole-gives given (sized _ given ∙ sym room) a

  pub sized-refuses : {r : Refusal} → said ≡ Err r → o ≡ refuses r
  sized-refuses e = refused-refuses o (λ b f. omega (arith, sized b f)) a e

-- ---- what lent memory keeps

-- a refusal leaves the memory as it was
pub refusal-keeps : (o : Outcome) (out : List ℕ) (r : Refusal) → answer o ≡ Err r → after o out ≡ out
refusal-keeps (gives bytes) out r e = cc
refusal-keeps (refuses s) out r e = refl

-- an answer of n bytes changes the first n and no other
pub answer-keeps-rest : (o : Outcome) (out : List ℕ) (n : ℕ) → answer o ≡ Ok n → drop n (after o out) ≡ drop n out
answer-keeps-rest (gives bytes) out n e =
    let same : length bytes ≡ n = cc in
    rw (← same) (drop-append_seam bytes (drop (length bytes) out))
answer-keeps-rest (refuses s) out n e = cc

-- R1 exactly where the room is short and nothing else refuses
pub short-exactly : (room : ℕ) (wanted : Outcome) → ¬ (wanted ≡ refuses ShortOutput)
    → (within room wanted ≡ refuses ShortOutput) ↔ ((bytes : List ℕ) × (wanted ≡ gives bytes) × (room < length bytes))
short-exactly room (refuses r) other = (λ e. absurd (other e), λ s. absurd (refuses-gives s.1))
short-exactly room (gives bytes) other = (there, back)
  where
    there : within room (gives bytes) ≡ refuses ShortOutput → (bs : List ℕ) × (gives bytes ≡ gives bs) × (room < length bs)
    there e = elim (dec_le (length bytes) room) [
      | yes h ↦ absurd (refuses-gives (sym (simp (le-leb _ _ h) at e)))
      | no h ↦ (bytes, refl, omega arith)
    ]

    back : ((bs : List ℕ) × (gives bytes ≡ gives bs) × (room < length bs)) → within room (gives bytes) ≡ refuses ShortOutput
    back s =
        let same : bytes ≡ s.0 = cc s.1 in
        let h : room < length bytes = rw same s.2 in
        simp (lt-leb _ _ h)
