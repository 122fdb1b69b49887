-- What the two hellos share: the laws of the fields in front and of the extension block, for reading and for writing.
-- Assumes nothing.
use mathlib.Core.Path.{◌≡◌, refl, sym, ap, ap₂, ◌∙◌}
use Prim.Native.Nat.{ℕ, ◌+◌, ◌-◌, ◌≤◌, ◌<◌}
use native.Mathlib.Omega.{arith}
use native.Mathlib.Decide.{ℕ_discrete}
use mathlib.Core.Bool.{Bool, true, false, ◌&&◌, cond, and-eq-true_iff}
use mathlib.Core.List.{List, [], ◌∷◌, ◌++◌, append_assoc, append-nil}
use lib.ListN.{length, take, drop, length-append, length-drop, take-append-drop}
use lib.Seq.{paste, take_at, drop_at, drop-drop, drop-length, length-take-le}
use lib.Dec.{ltb, leb, eqb}
use borrow.Author.Tests.{ltb-true, leb-true, eqb-true, lt-ltb, le-leb, eq-eqb, ne_eqb}
use Rattle.std.proofs.lemmas.Option.{same_Some}
use Rattle.std.specs.Prelude.{Option, None, Some}
use Rattle.endian.specs.Number.{Bytes, be, number}
use Rattle.endian.specs.Vector.{vector, writable, stated}
use Rattle.endian.proofs.Numbers.{number-be-lt, number_lt, be-number-at, bytes_take, bytes_drop}
use Rattle.layout.specs.declared.Part.{Part}
use Rattle.extensions.specs.Extensions.{block_rule}
use Rattle.layout.specs.Place.{standing, end_at, part_at, last_at}
use Rattle.layout.specs.Layout.{message}
use Rattle.hellos.specs.Hello.{front_rules, front_bytes, session_at, block_rules, tail_bytes, block_in, block_at, block_contents, between}
use Rattle.layout.proofs.Places.{part-there, ruled-there, last-there, vector-at, vector-last, part-written}
use Rattle.layout.proofs.Puts.{front, copy-behind-front}

pub front-rules : (version : ℕ) (random id : List ℕ) → front_rules version random id ≡ true
    → (version < 65536) × (length random ≡ 32) × (length id ≤ 32)
front-rules version random id h =
    let all = (and-eq-true_iff (ltb version 65536 && eqb (length random) 32) (leb (length id) 32)).0 h in
    let two = (and-eq-true_iff (ltb version 65536) (eqb (length random) 32)).0 all.0 in
    (ltb-true _ _ two.0, eqb-true _ _ two.1, leb-true _ _ all.1)

-- ---- reading what was written, and writing what was read

-- the fields in front of a message of this type, and what is left behind them
pub front-written : (kind version : ℕ) (random id rest : List ℕ) → front_rules version random id ≡ true →
    let m = message kind (front_bytes version random id rest) in
    (session_at m ≡ standing 39 (length id)) × (number (take 2 (drop 4 m)) ≡ version) × (take 32 (drop 6 m) ≡ random)
    × (take (length id) (drop 39 m) ≡ id) × (drop (39 + length id) m ≡ rest)
front-written kind version random id rest h =
    let m : List ℕ = message kind (front_bytes version random id rest) in
    let ok = front-rules version random id h in
    let there : drop 38 m ≡ vector 1 id ++ rest = drop_at random (vector 1 id ++ rest) 32 ok.1 in
    let part = part-written 1 m 38 id rest (omega arith) (lt-ltb (length id) 256 (omega arith)) there in
    let place : part_at 1 m 38 ≡ standing 39 (length id) = rw (le-leb (end_at 1 m 38) (length m) (omega arith), part.1) in (
      rw (place, le-leb (length id) 32 ok.2),
      number-be-lt 2 version ok.0,
      take_at random (vector 1 id ++ rest) 32 ok.1,
      part.2,
      part.3,
    )

pub front_read : (m : List ℕ) (s n : ℕ) → Bytes m → session_at m ≡ standing s n
    → (s ≡ 39) × (39 + n ≤ length m)
    × (drop 4 m ≡ front_bytes (number (take 2 (drop 4 m))) (take 32 (drop 6 m)) (take n (drop 39 m)) (drop (39 + n) m))
    × (front_rules (number (take 2 (drop 4 m))) (take 32 (drop 6 m)) (take n (drop 39 m)) ≡ true)
front_read m s n b e =
    let ruled = ruled-there (λ k. leb k 32) (part_at 1 m 38) s n e in
    let there = part-there 1 m 38 s n ruled.0 in
    let read = vector-at 1 m 38 b there.0 in
    let two : length (take 2 (drop 4 m)) ≡ 2 = length-take-le 2 (drop 4 m) (simp length-drop (omega arith)) in
    let front : Bytes (take 2 (drop 4 m)) = bytes_take 2 (drop 4 m) (bytes_drop 4 m b) in
    let version : be 2 (number (take 2 (drop 4 m))) ≡ take 2 (drop 4 m) = be-number-at 2 (take 2 (drop 4 m)) front two in
    let small : number (take 2 (drop 4 m)) < 65536 = rw two at (number_lt (take 2 (drop 4 m)) front) in
    let random : length (take 32 (drop 6 m)) ≡ 32 = length-take-le 32 (drop 6 m) (simp length-drop (omega arith)) in
    let size : n ≡ stated 1 (drop 38 m) = there.2 in
    let session : drop 38 m ≡ vector 1 (take n (drop 39 m)) ++ drop (39 + n) m = rw size read.0 in
    let behind : drop 6 m ≡ take 32 (drop 6 m) ++ (vector 1 (take n (drop 39 m)) ++ drop (39 + n) m) =
    sym (take-append-drop 32 (drop 6 m)) ∙ ap (λ (l : List ℕ). take 32 (drop 6 m) ++ l) (drop-drop 32 6 m ∙ session) in
    let all : drop 4 m ≡ be 2 (number (take 2 (drop 4 m))) ++ (take 32 (drop 6 m) ++ (vector 1 (take n (drop 39 m)) ++ drop (39 + n) m)) =
    sym (take-append-drop 2 (drop 4 m)) ∙ ap₂ ◌++◌ (sym version) (drop-drop 2 4 m ∙ behind) in
    let id : length (take n (drop 39 m)) ≡ n = length-take-le n (drop 39 m) (simp length-drop (omega arith)) in (
      there.1,
      omega arith,
      all,
      rw (lt-ltb (number (take 2 (drop 4 m))) 65536 small, eq-eqb (length (take 32 (drop 6 m))) 32 random, id) ruled.1,
    )

-- the block at the end
pub block_written : (m : List ℕ) (at : ℕ) (o : Option (List ℕ)) → at ≤ length m → block_rules o ≡ true → drop at m ≡ tail_bytes o
    → (b : Option Part) × (block_at m at ≡ Some b) × (block_contents m b ≡ o)
block_written m at None inside h e =
    let size : length (drop at m) ≡ 0 = ap length e in
    let left : length (drop at m) ≡ length m - at = length-drop at m in
    let over : at ≡ length m = omega arith in
    (None, rw (eq-eqb at (length m) over), refl)
block_written m at (Some b) inside h e =
    let ok = (and-eq-true_iff (writable 2 b) (block_rule b)).0 h in
    let part = part-written 2 m at b [] (omega arith) ok.0 (e ∙ sym (append-nil (vector 2 b))) in
    let more : ¬ (at ≡ length m) = λ over. absurd (omega arith) in
    let place : last_at 2 m at ≡ standing (at + 2) (length b) = rw (eq-eqb (end_at 2 m at) (length m) (omega arith), part.1) in
    (standing (at + 2) (length b), rw (ne_eqb at (length m) more, place, part.2, ok.1), ap Some part.2)

-- what a found block says of the message
abbrev Tail : List ℕ → ℕ → Option Part → Type 0
Tail m at b = (drop at m ≡ tail_bytes (block_contents m b)) × (block_rules (block_contents m b) ≡ true)

block-there : (m : List ℕ) (at : ℕ) (b : Option Part) (s n : ℕ) (t : Bool) → Bytes m → last_at 2 m at ≡ standing s n
    → block_rule (take n (drop s m)) ≡ t → cond t (Some (standing s n)) None ≡ Some b → Tail m at b
block-there m at b s n true h l r e =
    let same : b ≡ standing s n = sym (same_Some _ _ e) in
    let there = last-there 2 m at s n l in
    let read = vector-last 2 m at h there.0 in
    let contents : take n (drop s m) ≡ take (stated 2 (drop at m)) (drop (at + 2) m) = rw (there.1, there.2) in
    rw same (read.0 ∙ ap (vector 2) (sym contents), rw (contents, read.1) (rw contents at r))
block-there m at b s n false h l r e = absurd (let z : ◌≡◌ {A = ℕ} 0 1 = cc e in omega arith)

block-in-part : (m : List ℕ) (at : ℕ) (b : Option Part) (p : Option Part) → Bytes m → last_at 2 m at ≡ p → block_in m p ≡ Some b
    → Tail m at b
block-in-part m at b (Some p) h l e = block-there m at b p.start p.len (block_rule (take p.len (drop p.start m))) h l refl e
block-in-part m at b None h l e = absurd (let z : ◌≡◌ {A = ℕ} 0 1 = cc e in omega arith)

pub block_read : (m : List ℕ) (at : ℕ) (b : Option Part) → Bytes m → block_at m at ≡ Some b
    → (drop at m ≡ tail_bytes (block_contents m b)) × (block_rules (block_contents m b) ≡ true)
block_read m at b h e = elim (ℕ_discrete at (length m)) [
  | yes over ↦
      let absent : b ≡ None = cc (rw (eq-eqb at (length m) over) at e) in
      rw absent (rw over (drop-length m), refl)
  | no more ↦ block-in-part m at b (last_at 2 m at) h refl (rw (ne_eqb at (length m) more) at e)
]

-- ---- writing

-- header and the fields in front, as `put_front` leaves them
abbrev pub fronted : ℕ → ℕ → ℕ → List ℕ → List ℕ → List ℕ
fronted kind size version random id = kind ∷ (be 3 size ++ front_bytes version random id [])

pub length_front : (kind size version : ℕ) (random id : List ℕ) → length random ≡ 32 → length (fronted kind size version random id) ≡ 39 + length id
length_front kind size version random id h = simp (length-append, append-nil) (omega arith)

pub length-body : (version : ℕ) (random id rest : List ℕ) → length random ≡ 32
    → length (front_bytes version random id rest) ≡ 35 + length id + length rest
length-body version random id rest h = simp length-append (omega arith)

-- with what goes behind them they are the message
pub front-message : (kind size version : ℕ) (random id rest : List ℕ) → size ≡ length (front_bytes version random id rest)
    → fronted kind size version random id ++ rest ≡ message kind (front_bytes version random id rest)
front-message kind size version random id rest e = rw (append-nil id, append_assoc random (vector 1 id) rest, e)

pub front-put : (kind size version : ℕ) (random id out left : List ℕ) → length random ≡ 32
    → left ≡ paste out 0 (fronted kind size version random id) (39 + length id) → left ≡ front (fronted kind size version random id) out
front-put kind size version random id out left h e =
    e ∙ ap (paste out 0 (fronted kind size version random id)) (sym (length_front kind size version random id h))
    ∙ copy-behind-front [] (fronted kind size version random id) out out 0 refl refl

-- ---- what stands between

pub length-between : (a b c d : List ℕ) → length (between a b c d) ≡ length a + length b + length c + length d
length-between a b c d = simp length-append (omega arith)
