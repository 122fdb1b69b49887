-- Where a message ends: its header alone says so, and what is held of one that is not finished ends before it does.
-- Assumes nothing.
use mathlib.Core.Path.{◌≡◌, refl}
use Prim.Native.Nat.{ℕ, ◌+◌, ◌-◌, ◌≤◌}
use native.Mathlib.Omega.{arith}
use mathlib.Core.Bool.{Bool, true, false, cond}
use mathlib.Core.List.{List, [], ◌∷◌, ◌++◌}
use lib.ListN.{length, get_or, take, drop, length-append, length-drop}
use lib.Seq.{take-take, take-append-le, drop-append-le, take-append-add, drop-append-add, take_at}
use lib.Dec.{ltb, leb, eqb}
use borrow.Author.Tests.{ltb-true, ltb-false, leb-true}
use Rattle.std.specs.Prelude.{Result, Ok, Err, Option, None, Some}
use Rattle.refusal.specs.declared.Refusal.{Refusal}
use Rattle.lists.specs.Lists.{part}
use Rattle.refusal.specs.declared.Refusal.TheVariants.{DecodeError, UnexpectedMessage}
use Rattle.layout.specs.Types.{message_limit}
use borrow.Rule.Slice.PartMut.{put_mid}
use Rattle.layout.proofs.Puts.{front, copy-in-front, put-behind}
use Rattle.handshake.specs.Header.{early_test}
use Rattle.records.specs.Joining.{message_end, unfinished}

-- the four bytes of the header say it
pub header-end : (l : List ℕ) → message_end (take 4 l) ≡ message_end l
header-end [] = refl
header-end (b ∷ l) = rw (take-take 3 3 l (omega arith))

pub header-test : (kind : Option ℕ) (l : List ℕ) → early_test kind (take 4 l) ≡ early_test kind l
header-test None l = refl
header-test (Some kind) [] = refl
header-test (Some kind) (b ∷ l) = rw (take-take 3 3 l (omega arith))

-- a header that passes is that of a message within the limit
pub within-limit : (kind : Option ℕ) (l : List ℕ) → early_test kind l ≡ Ok tt → message_end l ≤ message_limit
within-limit None l e = let z : ◌≡◌ {A = ℕ} 0 1 = cc in absurd (omega arith)
within-limit (Some kind) l e = go (eqb (get_or l 0 0) kind) (leb (message_end l) message_limit) refl e
  where
    go : (right small : Bool) → leb (message_end l) message_limit ≡ small
        → cond {A = Result Unit Refusal} right (cond small (Ok tt) (Err DecodeError)) (Err UnexpectedMessage) ≡ Ok tt → message_end l ≤ message_limit
    go true true h e = leb-true _ _ h
    go true false h e = let z : ◌≡◌ {A = ℕ} 0 1 = cc in absurd (omega arith)
    go false small h e = let z : ◌≡◌ {A = ℕ} 0 1 = cc in absurd (omega arith)

-- what is held ends before the message does
pub held-before-end : (held content : List ℕ) (at size : ℕ) → unfinished held ≡ true → size ≡ message_end (drop at (held ++ content)) → at ≡ 0
    → length held ≤ size
held-before-end held content at size e told first = rw (told, first) (go (ltb (length held) 4) refl)
  where
    go : (t : Bool) → ltb (length held) 4 ≡ t → length held ≤ message_end (held ++ content)
    go true h = omega (arith, ltb-true (length held) 4 h)
    go false h =
        let some : 4 ≤ length held = omega (arith, ltb-false (length held) 4 h) in
        let rest : 3 ≤ length (drop 1 held) = simp length-drop (omega arith) in
        rw (drop-append-le 1 held content (omega arith), take-append-le 3 (drop 1 held) content rest)
        (omega (arith, ltb-true (length held) (message_end held) (rw h at e)))

-- ---- a message's place in what is held and the content behind it

-- the seam is before it
pub behind-held : (held content : List ℕ) (at end : ℕ) → length held ≤ at → at ≤ end
    → take (end - at) (drop at (held ++ content)) ≡ part (at - length held) (end - length held - (at - length held)) content
behind-held held content at end behind ordered =
    let place : length held + (at - length held) ≡ at = omega arith in
    let size : end - length held - (at - length held) ≡ end - at = omega arith in
    rw (size, ← drop-append-add held content (at - length held), place)

-- it is the first, and the seam is in it
pub over-seam : (held content : List ℕ) (at end : ℕ) → at ≡ 0 → length held ≤ end
    → take (end - at) (drop at (held ++ content)) ≡ held ++ take (end - length held) content
over-seam held content at end first inside =
    let size : end - 0 ≡ length held + (end - length held) = omega arith in
    rw (first, size, take-append-add held content (end - length held))

-- two parts that were copied into an array, one behind the other
pub joined-front : (a b out mid back : List ℕ) (place n size : ℕ) → size ≡ length mid
    → mid ≡ take (length a) a ++ drop (length a) out → place ≡ length a → length b ≡ n
    → back ≡ take (length b) b ++ drop (length b) (take (size - place) (drop place mid))
    → take (place + n) (put_mid place (size - place) mid back) ≡ a ++ b
joined-front a b out mid back place n size whole first p few second =
    let both : put_mid place (size - place) mid back ≡ front (a ++ b) out =
    rw whole (put-behind a b out mid back place (copy-in-front a out mid first) p (copy-in-front b _ back (rw whole at second))) in
    rw both (take_at (a ++ b) (drop (length (a ++ b)) out) (place + n) (rw (length-append a b, p, few)))
