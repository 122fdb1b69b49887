-- A message that is written part after part: what stands in the output after each part, and the answer after the last.
-- Assumes nothing.
use mathlib.Core.Path.{◌≡◌, sym, ap, ◌∙◌}
use Prim.Native.Nat.{ℕ, ◌+◌, ◌-◌, ◌≤◌}
use native.Mathlib.Nat.{add_assoc}
use native.Mathlib.Omega.{arith}
use mathlib.Core.List.{List, ◌++◌, append_assoc, append-nil}
use lib.ListN.{length, take, drop, length-append, length-drop, drop_of_length-le}
use lib.Seq.{paste, take-append_seam, drop-append-add, take-length, drop-drop, take_all, take-paste, drop-paste}
use Rattle.std.specs.Prelude.{Ok}
use Rattle.refusal.specs.Lent.{gives, Answers}
use Rattle.refusal.proofs.Laws.{gives-answers}

-- a copy into the output from `place` on, as the loan of that part of it comes back
pub lent-part : (out part back : List ℕ) (place : ℕ)
    → back ≡ take (length part) part ++ drop (length part) (take (length out - place) (drop place out))
    → take place out ++ (back ++ drop (length out - place) (drop place out)) ≡ paste out place part (length part)
lent-part out part back place e =
    let size : length (drop place out) ≤ length out - place = simp length-drop (omega arith) in
    rw (e, take_all _ (drop place out) size, drop_of_length-le (drop place out) size, append-nil, drop-drop, append_assoc)

-- two parts, one behind the other, are one
paste-paste : (d a b : List ℕ) (p : ℕ) → p + length a ≤ length d
    → paste (paste d p a (length a)) (p + length a) b (length b) ≡ paste d p (a ++ b) (length (a ++ b))
paste-paste d a b p h =
    let n : ℕ = length a in
    let x : List ℕ = paste d p a n in
    let before : take (p + n) x ≡ take p d ++ a = take-paste d p a n (omega arith) (omega arith) ∙ rw take-length in
    let after : drop (p + n + length b) x ≡ drop (p + length (a ++ b)) d =
    sym (drop-drop (length b) (p + n) x) ∙ ap (drop (length b)) (drop-paste d p a n (omega arith) (omega arith)) ∙ drop-drop (length b) (p + n) d
    ∙ rw (length-append, add_assoc) in
    rw (before, after, take-length b, take-length (a ++ b), append_assoc (take p d) a b)

-- the same of outputs as two calls leave them
pub put_two : (out one two a b : List ℕ) (place next : ℕ) → place + length a ≤ length out
    → one ≡ paste out place a (length a) → next ≡ place + length a → two ≡ paste one next b (length b)
    → two ≡ paste out place (a ++ b) (length (a ++ b))
put_two out one two a b place next h e n f = f ∙ rw (e, n) (paste-paste out a b place h)

-- the output with these bytes at its front
abbrev pub front : List ℕ → List ℕ → List ℕ
front bs out = bs ++ drop (length bs) out

-- what a copy to the front leaves
pub copy-in-front : (part out back : List ℕ) → back ≡ take (length part) part ++ drop (length part) out → back ≡ front part out
copy-in-front part out back e = e ∙ rw take-length

-- a part that goes behind what is there
pub copy-behind-front : (bs part out before : List ℕ) (place : ℕ) → before ≡ front bs out → place ≡ length bs
    → paste before place part (length part) ≡ front (bs ++ part) out
copy-behind-front bs part out before place e p =
    rw (e, p, take-append_seam, take-length, drop-append-add, drop-drop, length-append)

-- the same where the loan of what is left comes back with the part at its front
pub put-behind : (bs part out mid back : List ℕ) (place : ℕ) → mid ≡ front bs out → place ≡ length bs
    → back ≡ front part (take (length mid - place) (drop place mid))
    → take place mid ++ (back ++ drop (length mid - place) (drop place mid)) ≡ front (bs ++ part) out
put-behind bs part out mid back place e p b = lent-part mid part back place (b ∙ rw take-length) ∙ copy-behind-front bs part out mid place e p

-- the answer after the last part
pub front-answers : (bs out left : List ℕ) (n : ℕ) → length bs ≤ length out → left ≡ front bs out → n ≡ length bs
    → Answers (gives bs) out (Ok n) left
front-answers bs out left n room e l = rw (e, l) (gives-answers bs out room)
