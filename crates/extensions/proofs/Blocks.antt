-- Going through an extension block: what each step says of the extensions that are left, and that reading a block and writing its extensions are
-- each other's inverse.
-- Assumes nothing.
use mathlib.Core.Path.{◌≡◌, refl, sym, ap, ap₂, ◌∙◌}
use Prim.Native.Nat.{ℕ, zero, suc, ◌+◌, ◌^◌, ◌≤◌, ◌<◌}
use native.Mathlib.Omega.{arith}
use native.Mathlib.Decide.{dec_le}
use mathlib.Core.Bool.{true, cond, and-eq-true_iff}
use mathlib.Core.List.{List, [], ◌∷◌, ◌++◌, append_assoc, append-nil}
use lib.ListN.{length, take, drop, length-drop, length-append, take-append-drop, drop_of_length-le}
use lib.Seq.{drop-drop, length-take-le, take-append_seam, drop-append_seam}
use lib.Dec.{leb, ltb, eqb}
use borrow.Author.Tests.{le-leb, lt-leb, lt-ltb, ltb-true}
use Rattle.std.proofs.lemmas.Option.{none-some}
use Rattle.std.specs.Prelude.{Option, None, Some}
use Rattle.lists.specs.Lists.{each, distinct}
use Rattle.endian.specs.Number.{Bytes, be, number}
use Rattle.endian.specs.Vector.{vector, writable, stated}
use Rattle.endian.proofs.Numbers.{number-be-lt, number_lt, be-number-at, bytes_take, bytes_drop}
use Rattle.extensions.specs.declared.Step.{Step}
use Rattle.extensions.specs.declared.Step.TheVariants.{Extension, End, Refused}
use Rattle.layout.specs.Place.{end_at}
use Rattle.extensions.specs.Extensions.{Ext, writable_ext, extension_bytes, block_bytes, first, first_end, adding, extensions_up_to, extensions_in}
use Rattle.extensions.specs.Extensions.{ticket_extension, kinds, block_rule, ruled, step_at}
use Rattle.layout.proofs.Places.{vector-at}

-- ---- how many are asked for does not matter, once they are no fewer than the bytes

up-to-enough : (j k : ℕ) (b : List ℕ) → length b ≤ j → length b ≤ k → extensions_up_to j b ≡ extensions_up_to k b
up-to-enough zero zero b hj hk = refl
up-to-enough zero (suc k) [] hj hk = refl
up-to-enough zero (suc k) (x ∷ xs) hj hk = absurd (omega arith)
up-to-enough (suc j) zero [] hj hk = refl
up-to-enough (suc j) zero (x ∷ xs) hj hk = absurd (omega arith)
up-to-enough (suc j) (suc k) [] hj hk = refl
up-to-enough (suc j) (suc k) (x ∷ xs) hj hk =
    let b : List ℕ = x ∷ xs in
    let rest : length (drop (first_end b) b) ≤ j = simp length-drop (omega arith) in
    let rest' : length (drop (first_end b) b) ≤ k = simp length-drop (omega arith) in
    ap (λ (o : Option (List Ext)). cond (leb (first_end b) (length b)) (adding (first b) o) None) (up-to-enough j k (drop (first_end b) b) rest rest')

-- the first, and then the rest
in-first : (b : List ℕ) → 0 < length b → first_end b ≤ length b → extensions_in b ≡ adding (first b) (extensions_in (drop (first_end b) b))
in-first [] h fits = absurd (omega arith)
in-first (x ∷ xs) h fits =
    let b : List ℕ = x ∷ xs in
    let rest : length (drop (first_end b) b) ≤ length xs = simp length-drop (omega arith) in
    rw (le-leb (first_end b) (length b) fits)
    (ap (adding (first b)) (up-to-enough (length xs) (length (drop (first_end b) b)) (drop (first_end b) b) rest (omega arith)))

in_cut : (b : List ℕ) → 0 < length b → length b < first_end b → extensions_in b ≡ None
in_cut [] h cut = absurd (omega arith)
in_cut (x ∷ xs) h cut = rw (lt-leb (first_end (x ∷ xs)) (length (x ∷ xs)) cut)

-- ---- the steps

module _ (b : List ℕ) (at : ℕ) where
  at-end : length b ≤ at → extensions_in (drop at b) ≡ Some []
  at-end h = rw (drop_of_length-le b h)

  -- the end of the extension that starts at `at`, from there and from the start
  end-from : at < length b → at + first_end (drop at b) ≡ end_at 2 b (at + 2)
  end-from h = rw (drop-drop 2 at b) (omega arith)

  step-there : at < length b → end_at 2 b (at + 2) ≤ length b
      → extensions_in (drop at b)
      ≡ adding (record { kind = number (take 2 (drop at b)); contents = take (stated 2 (drop (at + 2) b)) (drop (at + 4) b) })
      (extensions_in (drop (at + 4 + stated 2 (drop (at + 2) b)) b))
  step-there h fits =
      let e = end-from h in
      let some_left : 0 < length (drop at b) = simp length-drop (omega arith) in
      let whole : first_end (drop at b) ≤ length (drop at b) = simp length-drop (omega arith) in
      let same : first (drop at b) ≡ record { kind = number (take 2 (drop at b)); contents = take (stated 2 (drop (at + 2) b)) (drop (at + 4) b) } =
      rw (drop-drop 2 at b, drop-drop 4 at b) in
      let far : at + first_end (drop at b) ≡ at + 4 + stated 2 (drop (at + 2) b) = omega arith in
      let rest : drop (first_end (drop at b)) (drop at b) ≡ drop (at + 4 + stated 2 (drop (at + 2) b)) b =
      drop-drop (first_end (drop at b)) at b ∙ ap (λ (k : ℕ). drop k b) far in
      in-first (drop at b) some_left whole ∙ ap₂ adding same (ap extensions_in rest)

  step_cut : at < length b → length b < end_at 2 b (at + 2) → extensions_in (drop at b) ≡ None
  step_cut h cut =
      let e = end-from h in
      in_cut (drop at b) (simp length-drop (omega arith)) (simp length-drop (omega arith))

-- the extension of this type whose data stands there
abbrev pub ext_at : List ℕ → ℕ → ℕ → ℕ → Ext
ext_at b t s n = record { kind = t; contents = take n (drop s b) }

-- what an extension that a step found says: it lies inside the block and ends behind its start, its type is a number of two bytes, and the
-- extensions from its start on are it and those behind it
pub record Found (b : List ℕ) (at t s n : ℕ) : Type 0 where
  pub ahead : at < s + n
  pub inside : s + n ≤ length b
  pub small : Bytes b → t < 65536
  pub left : extensions_in (drop at b) ≡ adding (ext_at b t s n) (extensions_in (drop (s + n) b))

kind-small : (b : List ℕ) (at : ℕ) → Bytes b → at + 2 ≤ length b → number (take 2 (drop at b)) < 65536
kind-small b at h inside =
    let two : length (take 2 (drop at b)) ≡ 2 = length-take-le 2 (drop at b) (simp length-drop (omega arith)) in
    rw two at (number_lt (take 2 (drop at b)) (bytes_take 2 (drop at b) (bytes_drop at b h)))

-- a step by cases: what holds at the end, of a whole extension and of one that is cut off holds of what stands there
by-step : (b : List ℕ) (at : ℕ) (Holds : Step → Type 0) → (length b ≤ at → Holds End)
    → (at < length b → end_at 2 b (at + 2) ≤ length b → Holds (Extension (number (take 2 (drop at b))) (at + 4) (stated 2 (drop (at + 2) b))))
    → (at < length b → length b < end_at 2 b (at + 2) → Holds Refused) → Holds (step_at b at)
by-step b at Holds end whole cut = elim (dec_le (length b) at) [
  | yes over ↦ rw (le-leb (length b) at over) (end over)
  | no more ↦
      let there : at < length b = omega arith in
      elim (dec_le (end_at 2 b (at + 2)) (length b)) [
        | yes fits ↦ rw (lt-leb (length b) at there, le-leb (end_at 2 b (at + 2)) (length b) fits) (whole there fits)
        | no past ↦
            let long : length b < end_at 2 b (at + 2) = omega arith in
            rw (lt-leb (length b) at there, lt-leb (end_at 2 b (at + 2)) (length b) long) (cut there long)
      ]
]

-- two answers that are never the same
pub zero-not-one : ◌≡◌ {A = ℕ} 0 1 → ⊥
zero-not-one z = omega arith

-- the steps, from what they answer
pub step-found : (b : List ℕ) (at t s n : ℕ) → step_at b at ≡ Extension t s n → Found b at t s n
step-found b at t s n =
    by-step b at (λ p. p ≡ Extension t s n → Found b at t s n) (λ over e. absurd (zero-not-one (cc e)))
    (λ more fits e.
    let kind : number (take 2 (drop at b)) ≡ t = cc e in
    let start : at + 4 ≡ s = cc e in
    let size : stated 2 (drop (at + 2) b) ≡ n = cc e in
    record {
      ahead = omega arith;
      inside = omega arith;
      small = λ h. rw (← kind) (kind-small b at h (omega arith));
      left = rw (← kind, ← start, ← size) (step-there b at more fits);
    })
    (λ more long e. absurd (zero-not-one (cc e)))

pub step-refused : (b : List ℕ) (at : ℕ) → step_at b at ≡ Refused → extensions_in (drop at b) ≡ None
step-refused b at =
    by-step b at (λ p. p ≡ Refused → extensions_in (drop at b) ≡ None) (λ over e. absurd (zero-not-one (cc e)))
    (λ more fits e. absurd (zero-not-one (cc e))) (λ more long e. step_cut b at more long)

-- ---- reading what was written, and writing what was read

pub in_block : (es : List Ext) → each writable_ext es ≡ true → extensions_in (block_bytes es) ≡ Some es
in_block [] h = refl
in_block (e ∷ es) h =
    let ok = (and-eq-true_iff (writable_ext e) (each writable_ext es)).0 h in
    let own = (and-eq-true_iff (ltb e.kind (256 ^ 2)) (writable 2 e.contents)).0 ok.0 in
    let b : List ℕ = block_bytes (e ∷ es) in
    let says : stated 2 (drop 2 b) ≡ length e.contents = number-be-lt 2 (length e.contents) (ltb-true _ _ own.1) in
    let size : length b ≡ 4 + length e.contents + length (block_bytes es) = simp length-append (omega arith) in
    let kind : number (take 2 b) ≡ e.kind = number-be-lt 2 e.kind (ltb-true _ _ own.0) in
    let contents : take (stated 2 (drop 2 b)) (drop 4 b) ≡ e.contents =
    ap (λ (n : ℕ). take n (drop 4 b)) says ∙ take-append_seam e.contents (block_bytes es) in
    let named : first b ≡ e = λ i. record { kind = kind i; contents = contents i } in
    let rest : drop (first_end b) b ≡ block_bytes es =
    sym (drop-drop (stated 2 (drop 2 b)) 4 b) ∙ ap (λ (n : ℕ). drop n (drop 4 b)) says ∙ drop-append_seam e.contents (block_bytes es) in
    in-first b (omega arith) (omega arith) ∙ ap₂ adding named (ap extensions_in rest ∙ in_block es ok.1)

-- a hello may carry them exactly if no type is there twice, whatever their data
pub by-types : (es : List Ext) → each writable_ext es ≡ true → block_rule (block_bytes es) ≡ distinct eqb (kinds es)
by-types es h = ap ruled (in_block es h)

-- an extension was added to what there was
adding-gives : (e : Ext) (o : Option (List Ext)) (es : List Ext) → adding e o ≡ Some es → (rest : List Ext) × (o ≡ Some rest) × (es ≡ e ∷ rest)
adding-gives e None es h = absurd (none-some es h)
adding-gives e (Some rest) es h = (rest, refl, cc)

-- the first extension of bytes is one that can be written, and they begin with it
first-is : (b : List ℕ) → Bytes b → first_end b ≤ length b → (b ≡ extension_bytes (first b) ++ drop (first_end b) b) × (writable_ext (first b) ≡ true)
first-is b h fits =
    let two : length (take 2 b) ≡ 2 = length-take-le 2 b (omega arith) in
    let kind : be 2 (number (take 2 b)) ≡ take 2 b = be-number-at 2 (take 2 b) (bytes_take 2 b h) two in
    let small : number (take 2 b) < 256 ^ 2 = rw two at (number_lt (take 2 b) (bytes_take 2 b h)) in
    let read = vector-at 2 b 2 h fits in (
      sym (take-append-drop 2 b) ∙ ap₂ ◌++◌ (sym kind)
          read.0 ∙ sym (append_assoc (be 2 (number (take 2 b))) (vector 2 (first b).contents) (drop (first_end b) b)),
      rw (lt-ltb (number (take 2 b)) 65536 small) read.1,
    )

-- bytes that are these extensions, each of which can be written
abbrev Written : List ℕ → List Ext → Type 0
Written b es = (b ≡ block_bytes es) × (each writable_ext es ≡ true)

block-first : (b : List ℕ) (o : Option (List Ext)) (es : List Ext) → Bytes b
    → ((rest : List Ext) → o ≡ Some rest → Written (drop (first_end b) b) rest)
    → cond (leb (first_end b) (length b)) (adding (first b) o) None ≡ Some es → Written b es
block-first b o es h written e = go (dec_le (first_end b) (length b))
  where
    go : Dec (first_end b ≤ length b) → Written b es
    go (yes fits) =
        let parts = adding-gives (first b) o es (rw (le-leb (first_end b) (length b) fits) at e) in
        let own = first-is b h fits in
        let rest = written parts.0 parts.1 in (
          own.0 ∙ ap (λ (l : List ℕ). extension_bytes (first b) ++ l) rest.0 ∙ ap block_bytes (sym parts.2),
          ap (each writable_ext) parts.2
              ∙ rw own.1 rest.1,
        )
    go (no cut) = absurd (none-some es (rw (lt-leb (first_end b) (length b) (omega arith)) at e))

block-up-to : (n : ℕ) (b : List ℕ) (es : List Ext) → Bytes b → extensions_up_to n b ≡ Some es → Written b es
block-up-to zero [] es h e = let none-there : es ≡ [] = cc in (rw none-there, rw none-there)
block-up-to zero (x ∷ xs) es h e = absurd (none-some es e)
block-up-to (suc n) [] es h e = let none-there : es ≡ [] = cc in (rw none-there, rw none-there)
block-up-to (suc n) (x ∷ xs) es h e =
    let b : List ℕ = x ∷ xs in
    block-first b (extensions_up_to n (drop (first_end b) b)) es h (λ rest r. block-up-to n (drop (first_end b) b) rest (bytes_drop (first_end b) b h) r) e

pub block_in_lem : (b : List ℕ) (es : List Ext) → Bytes b → extensions_in b ≡ Some es → (b ≡ block_bytes es) × (each writable_ext es ≡ true)
block_in_lem b es h e = block-up-to (length b) b es h e

-- ---- the SessionTicket extension

-- its bytes, of which the first two are its number, are read as it
pub ticket-numbered : (ticket : List ℕ) → length ticket < 65536 → extensions_in (0x00 ∷ 0x23 ∷ vector 2 ticket) ≡ Some (ticket_extension ticket ∷ [])
ticket-numbered ticket fits =
    let e : Ext = ticket_extension ticket in
    let ok : each writable_ext (e ∷ []) ≡ true = rw (lt-ltb (length ticket) (256 ^ 2) fits) in
    ap extensions_in (sym (append-nil (extension_bytes e))) ∙ in_block (e ∷ []) ok
