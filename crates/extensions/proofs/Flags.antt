-- The search for a type twice: one pass with a bit for each type of a part finds a repeat in that part, and the types are distinct exactly if those
-- of each of the eight parts are; a part that a pass goes by has no extensions.
-- Assumes nothing.
use mathlib.Core.Path.{◌≡◌, refl, sym, ap, ◌∙◌}
use Prim.Native.Nat.{ℕ, zero, suc, ◌/◌, ◌%◌, ◌^◌, ◌≤◌, ◌<◌, ◌+◌}
use native.Mathlib.Nat.{zero-div, div-div-eq-div-mul}
use native.Mathlib.Omega.{arith}
use native.Mathlib.Decide.{ℕ_discrete, dec_lt}
use mathlib.Core.Bool.{Bool, true, false, not, ◌&&◌, cond, and-false, and-eq-true_iff}
use mathlib.Core.List.{List, [], ◌∷◌}
use lib.ListN.{length, get_or, set, replicate, length-set, length-replicate}
use lib.Seq.{get_or-set_same, get_or-set_other}
use lib.Dec.{eqb, ltb}
use borrow.Author.Tests.{eq-eqb, ne_eqb, lt-ltb, le-ltb, ltb-true}
use Rattle.std.specs.Prelude.{Option, None, Some}
use Rattle.lists.specs.Lists.{each, any, distinct}
use Rattle.endian.specs.Number.{Bytes}
use Rattle.endian.specs.Vector.{writable}
use Rattle.extensions.specs.declared.Pass.{Pass}
use Rattle.extensions.specs.declared.Pass.TheVariants.{Holds, Fails}
use Rattle.extensions.specs.Extensions.{Ext, adding, extensions_in, writable_ext, kinds, ruled}
use Rattle.extensions.specs.Parts.{in_part, nearer, nearest_of, pass_over}
use Rattle.extensions.proofs.Bits.{set_same, set_other}
use Rattle.extensions.proofs.Blocks.{block_in_lem, zero-not-one}

-- the bit of a type, and the words with that bit set
abbrev bit_of : List ℕ → ℕ → ℕ
bit_of words t = get_or words (t / 64 % 128) 0 / 2 ^ (t % 64) % 2

abbrev pub marked : List ℕ → ℕ → List ℕ
marked words t = set words (t / 64 % 128) (get_or words (t / 64 % 128) 0 + 2 ^ (t % 64))

-- the bits of these types are clear
abbrev clear : List ℕ → List ℕ → Bool
clear words [] = true
clear words (t ∷ ts) = eqb (bit_of words t) 0 && clear words ts

-- ---- the bits of one part

-- two numbers of one part that have the same bit are the same
same_bit : (p t u : ℕ) → t / 8192 ≡ p → u / 8192 ≡ p → t / 64 % 128 ≡ u / 64 % 128 → t % 64 ≡ u % 64 → t ≡ u
same_bit p t u ht hu word bit =
    let high : t / 64 / 128 ≡ u / 64 / 128 = div-div-eq-div-mul t 64 128 ∙ ht ∙ sym hu ∙ sym (div-div-eq-div-mul u 64 128) in
    let words : t / 64 ≡ u / 64 = halves (t / 64) (u / 64) high word in
    omega arith
  where
    halves : (x y : ℕ) → x / 128 ≡ y / 128 → x % 128 ≡ y % 128 → x ≡ y
    halves x y h l = omega arith

bit-set : (words : List ℕ) (t : ℕ) → length words ≡ 128 → bit_of words t ≡ 0 → bit_of (marked words t) t ≡ 1
bit-set words t l free =
    let inside : t / 64 % 128 < length words = omega arith in
    rw (get_or-set_same words (t / 64 % 128) _ 0 inside) (set_same (get_or words (t / 64 % 128) 0) (t % 64) free)

bit_kept : (words : List ℕ) (p t u : ℕ) → length words ≡ 128 → t / 8192 ≡ p → u / 8192 ≡ p → bit_of words t ≡ 0 → ¬ (t ≡ u)
    → bit_of (marked words t) u ≡ bit_of words u
bit_kept words p t u l ht hu free apart = elim (ℕ_discrete (u / 64 % 128) (t / 64 % 128)) [
  | yes e ↦
      let inside : t / 64 % 128 < length words = omega arith in
      rw (e, get_or-set_same words (t / 64 % 128) _ 0 inside)
      (set_other (get_or words (t / 64 % 128) 0) (t % 64) (u % 64) (λ f. apart (same_bit p t u ht hu (sym e) (sym f))) free)
  | no e ↦ rw (get_or-set_other words (t / 64 % 128) (u / 64 % 128) _ 0 e)
]

-- ---- two laws of tests

and-swap : (a b c : Bool) → (a && (b && c)) ≡ (b && (a && c))
and-swap true b c = refl
and-swap false true c = refl
and-swap false false c = refl

and-rotate : (a b c : Bool) → ((a && b) && c) ≡ (b && (a && c))
and-rotate true b c = refl
and-rotate false b c = sym (and-false b)

-- ---- one pass

-- what a pass does from here on: an extension of the part is one whose bit is clear, and sets the bit; one of another part may bring the
-- nearest part closer
abbrev pub pass_from : List ℕ → ℕ → ℕ → List Ext → Pass
pass_from words n p [] = Holds n
pass_from words n p (e ∷ es) =
    cond (eqb (e.kind / 8192) p) (cond (eqb (bit_of words e.kind) 0) (pass_from (marked words e.kind) n p es) Fails)
    (pass_from words (nearer p (e.kind / 8192) n) p es)

-- setting t's bit takes t out of what is clear, and nothing else of its part
clear-set : (words : List ℕ) (p t : ℕ) (es : List Ext) → length words ≡ 128 → t / 8192 ≡ p → bit_of words t ≡ 0
    → clear (marked words t) (kinds (in_part p es)) ≡ (not (any (eqb t) (kinds (in_part p es))) && clear words (kinds (in_part p es)))
clear-set words p t [] l h free = refl
clear-set words p t (e ∷ es) l h free =
    clear_next (ℕ_discrete (e.kind / 8192) p) (ℕ_discrete t e.kind) (clear-set words p t es l h free)
  where
    clear_next : Dec (e.kind / 8192 ≡ p) → Dec (t ≡ e.kind)
        → clear (marked words t) (kinds (in_part p es)) ≡ (not (any (eqb t) (kinds (in_part p es))) && clear words (kinds (in_part p es)))
        → clear (marked words t) (kinds (in_part p (e ∷ es)))
        ≡ (not (any (eqb t) (kinds (in_part p (e ∷ es)))) && clear words (kinds (in_part p (e ∷ es))))
    clear_next (no hu) d ih = rw (ne_eqb (e.kind / 8192) p hu) ih
    clear_next (yes hu) (yes f) ih = rw (eq-eqb (e.kind / 8192) p hu, ← f, bit-set words t l free, eq-eqb t t refl)
    clear_next (yes hu) (no f) ih =
        rw (eq-eqb (e.kind / 8192) p hu, bit_kept words p t e.kind l h hu free f, ne_eqb t e.kind f, ih)
        (and-swap (eqb (bit_of words e.kind) 0) (not (any (eqb t) (kinds (in_part p es)))) (clear words (kinds (in_part p es))))

-- a part is not nearer to itself
nearer-own : (p q n : ℕ) → q ≡ p → nearer p q n ≡ n
nearer-own p q n e = rw (le-ltb p q (omega arith))

-- a pass finds just the types that are twice in its part, and those whose bits were set before
pass-is : (words : List ℕ) (n p : ℕ) (es : List Ext) → length words ≡ 128
    → pass_from words n p es ≡ cond (clear words (kinds (in_part p es)) && distinct eqb (kinds (in_part p es))) (Holds (nearest_of p n es)) Fails
pass-is words n p [] l = refl
pass-is words n p (e ∷ es) l =
    pass-next (ℕ_discrete (e.kind / 8192) p) (ℕ_discrete (bit_of words e.kind) 0) (pass-is words (nearer p (e.kind / 8192) n) p es l)
    (pass-is (marked words e.kind) n p es (length-set words (e.kind / 64 % 128) _ ∙ l))
  where
    pass-next : Dec (e.kind / 8192 ≡ p) → Dec (bit_of words e.kind ≡ 0)
        → pass_from words (nearer p (e.kind / 8192) n) p es
        ≡ cond (clear words (kinds (in_part p es)) && distinct eqb (kinds (in_part p es))) (Holds (nearest_of p (nearer p (e.kind / 8192) n) es)) Fails
        → pass_from (marked words e.kind) n p es
        ≡ cond (clear (marked words e.kind) (kinds (in_part p es)) && distinct eqb (kinds (in_part p es))) (Holds (nearest_of p n es)) Fails
        → pass_from words n p (e ∷ es)
        ≡ cond (clear words (kinds (in_part p (e ∷ es))) && distinct eqb (kinds (in_part p (e ∷ es)))) (Holds (nearest_of p n (e ∷ es))) Fails
    pass-next (no h) d same after = rw (ne_eqb (e.kind / 8192) p h) same
    pass-next (yes h) (no taken) same after = rw (eq-eqb (e.kind / 8192) p h, ne_eqb (bit_of words e.kind) 0 taken)
    pass-next (yes h) (yes free) same after =
        let ks : List ℕ = kinds (in_part p es) in
        rw (eq-eqb (e.kind / 8192) p h, eq-eqb (bit_of words e.kind) 0 free, nearer-own p (e.kind / 8192) n h)
        (after ∙ ap (λ (t : Bool). cond t (Holds (nearest_of p n es)) Fails)
        (ap (λ (t : Bool). t && distinct eqb ks) (clear-set words p e.kind es l h free)
        ∙ and-rotate (not (any (eqb e.kind) ks)) (clear words ks) (distinct eqb ks)))

-- an array that nothing was stored to
zeros-read-zero : (n i : ℕ) → get_or {A = ℕ} (replicate n 0) i 0 ≡ 0
zeros-read-zero zero i = refl
zeros-read-zero (suc n) zero = refl
zeros-read-zero (suc n) (suc i) = zeros-read-zero n i

all-clear : (ts : List ℕ) → clear (replicate 128 0) ts ≡ true
all-clear [] = refl
all-clear (t ∷ ts) = rw (zeros-read-zero 128 (t / 64 % 128), zero-div (2 ^ (t % 64)), all-clear ts)

-- the same over the extensions of a block
abbrev pub pass_in : List ℕ → ℕ → ℕ → Option (List Ext) → Pass
pass_in words n p None = Fails
pass_in words n p (Some es) = pass_from words n p es

pub pass-over : (p : ℕ) (o : Option (List Ext)) → pass_in (replicate 128 0) 8 p o ≡ pass_over p o
pass-over p None = refl
pass-over p (Some es) = pass-is (replicate 128 0) 8 p es (length-replicate {A = ℕ} 128 0) ∙ rw (all-clear (kinds (in_part p es)))

module _ (words : List ℕ) (n p : ℕ) (e : Ext) where
  pub pass-repeat : (o : Option (List Ext)) → e.kind / 8192 ≡ p → ¬ (bit_of words e.kind ≡ 0) → pass_in words n p (adding e o) ≡ Fails
  pass-repeat None h taken = refl
  pass-repeat (Some es) h taken = rw (eq-eqb (e.kind / 8192) p h, ne_eqb (bit_of words e.kind) 0 taken)

  pub pass-marked : (o : Option (List Ext)) → e.kind / 8192 ≡ p → bit_of words e.kind ≡ 0
      → pass_in words n p (adding e o) ≡ pass_in (marked words e.kind) n p o
  pass-marked None h free = refl
  pass-marked (Some es) h free = rw (eq-eqb (e.kind / 8192) p h, eq-eqb (bit_of words e.kind) 0 free)

  pub pass-other : (o : Option (List Ext)) → ¬ (e.kind / 8192 ≡ p) → pass_in words n p (adding e o) ≡ pass_in words (nearer p (e.kind / 8192) n) p o
  pass-other None h = refl
  pass-other (Some es) h = rw (ne_eqb (e.kind / 8192) p h)

-- ---- the parts together

member-part : (p t : ℕ) (es : List Ext) → t / 8192 ≡ p → any (eqb t) (kinds (in_part p es)) ≡ any (eqb t) (kinds es)
member-part p t [] h = refl
member-part p t (e ∷ es) h = part-next (ℕ_discrete (e.kind / 8192) p) (member-part p t es h)
  where
    part-next : Dec (e.kind / 8192 ≡ p) → any (eqb t) (kinds (in_part p es)) ≡ any (eqb t) (kinds es)
        → any (eqb t) (kinds (in_part p (e ∷ es))) ≡ any (eqb t) (kinds (e ∷ es))
    part-next (yes hu) ih = rw (eq-eqb (e.kind / 8192) p hu, ih)
    part-next (no hu) ih =
        rw (ne_eqb (e.kind / 8192) p hu, ne_eqb t e.kind (λ f. hu (ap (λ (k : ℕ). k / 8192) (sym f) ∙ h))) ih

-- distinct types: of an extension and of those behind it
first_of : (e : Ext) (es : List Ext) → distinct eqb (kinds (e ∷ es)) ≡ true → (not (any (eqb e.kind) (kinds es)) ≡ true) × (distinct eqb (kinds es) ≡ true)
first_of e es h = (and-eq-true_iff (not (any (eqb e.kind) (kinds es))) (distinct eqb (kinds es))).0 h

-- types that are distinct are so in a part
part-ruled : (p : ℕ) (es : List Ext) → distinct eqb (kinds es) ≡ true → distinct eqb (kinds (in_part p es)) ≡ true
part-ruled p [] h = refl
part-ruled p (e ∷ es) h = let (alone, rest) = first_of e es h in part-next (ℕ_discrete (e.kind / 8192) p) alone (part-ruled p es rest)
  where
    part-next : Dec (e.kind / 8192 ≡ p) → not (any (eqb e.kind) (kinds es)) ≡ true → distinct eqb (kinds (in_part p es)) ≡ true
        → distinct eqb (kinds (in_part p (e ∷ es))) ≡ true
    part-next (yes f) alone rest = rw (eq-eqb (e.kind / 8192) p f, member-part p e.kind es f, alone) rest
    part-next (no f) alone rest = rw (ne_eqb (e.kind / 8192) p f) rest

-- what holds of a part of e ∷ es holds of that part of es
ruled-tail : (p : ℕ) (e : Ext) (es : List Ext) → distinct eqb (kinds (in_part p (e ∷ es))) ≡ true → distinct eqb (kinds (in_part p es)) ≡ true
ruled-tail p e es h = part-next (ℕ_discrete (e.kind / 8192) p)
  where
    part-next : Dec (e.kind / 8192 ≡ p) → distinct eqb (kinds (in_part p es)) ≡ true
    part-next (yes f) = (first_of e (in_part p es) (rw (eq-eqb (e.kind / 8192) p f) at h)).1
    part-next (no f) = rw (ne_eqb (e.kind / 8192) p f) at h

all-ruled : (es : List Ext) → each writable_ext es ≡ true → ((p : ℕ) → p < 8 → distinct eqb (kinds (in_part p es)) ≡ true) → distinct eqb (kinds es) ≡ true
all-ruled [] small h = refl
all-ruled (e ∷ es) small h =
    let ok = (and-eq-true_iff (writable_ext e) (each writable_ext es)).0 small in
    let below : e.kind < 65536 = ltb-true e.kind 65536 ((and-eq-true_iff (ltb e.kind 65536) (writable 2 e.contents)).0 ok.0).0 in
    let p : ℕ = e.kind / 8192 in
    let own = first_of e (in_part p es) (rw (eq-eqb p p refl) at (h p (omega arith))) in
    let alone : not (any (eqb e.kind) (kinds es)) ≡ true = rw (member-part p e.kind es refl) at own.0 in
    rw alone (all-ruled es ok.1 (λ q l. ruled-tail q e es (h q l)))

-- ---- the parts that passes go by

-- the nearer part is above, and no further than either
pub record Near (p q n : ℕ) (nearest : ℕ) : Type 0 where
  pub above : p < n → p < nearest
  pub most : nearest ≤ n
  pub other : p < q → nearest ≤ q

nearer-near : (p q n : ℕ) → Near p q n (nearer p q n)
nearer-near p q n = by_order (dec_lt p q) (dec_lt q n)
  where
    by_order : Dec (p < q) → Dec (q < n) → Near p q n (nearer p q n)
    by_order (no h) d = rw (le-ltb p q (omega arith)) (record { above = λ k. k; most = omega arith; other = λ k. absurd (h k) })
    by_order (yes h) (yes k) = rw (lt-ltb p q h, lt-ltb q n k) (record { above = λ m. h; most = omega arith; other = λ m. omega arith })
    by_order (yes h) (no k) = rw (lt-ltb p q h, le-ltb q n (omega arith)) (record { above = λ m. m; most = omega arith; other = λ m. omega arith })

pub nearest-above : (p n : ℕ) (es : List Ext) → p < n → p < nearest_of p n es
nearest-above p n [] h = h
nearest-above p n (e ∷ es) h = nearest-above p (nearer p (e.kind / 8192) n) es ((nearer-near p (e.kind / 8192) n).above h)

pub nearest-most : (p n : ℕ) (es : List Ext) → nearest_of p n es ≤ n
nearest-most p n [] = omega arith
nearest-most p n (e ∷ es) = omega (arith, nearer-near p (e.kind / 8192) n, nearest-most p (nearer p (e.kind / 8192) n) es)

-- no extension is of a part between
between_none : (p n q : ℕ) (es : List Ext) → p < q → q < nearest_of p n es → in_part q es ≡ []
between_none p n q [] above below = refl
between_none p n q (e ∷ es) above below =
    let m : ℕ = nearer p (e.kind / 8192) n in
    rw (ne_eqb (e.kind / 8192) q (λ own.
    let further : m ≤ e.kind / 8192 = (nearer-near p (e.kind / 8192) n).other (omega arith) in
    omega (arith, nearest-most p m es)))
    (between_none p m q es above below)

-- ---- over the extensions of a block

abbrev pub part_ruled : ℕ → Option (List Ext) → Bool
part_ruled p None = false
part_ruled p (Some es) = distinct eqb (kinds (in_part p es))

-- what a pass that found nothing says: the types are distinct in its part and in those below the nearest
pub record Passed (p n : ℕ) (o : Option (List Ext)) : Type 0 where
  pub ahead : p < n
  pub inside : n ≤ 8
  pub holds : (q : ℕ) → p ≤ q → q < n → part_ruled q o ≡ true

pub pass-holds : (p n : ℕ) (o : Option (List Ext)) → p < 8 → pass_over p o ≡ Holds n → Passed p n o
pass-holds p n None h e = absurd (zero-not-one (cc e))
pass-holds p n (Some es) h e = judged (distinct eqb (kinds (in_part p es))) refl e
  where
    judged : (t : Bool) → distinct eqb (kinds (in_part p es)) ≡ t → cond t (Holds (nearest_of p 8 es)) Fails ≡ Holds n → Passed p n (Some es)
    judged false own f = absurd (zero-not-one (cc f))
    judged true own f =
        let nearest : nearest_of p 8 es ≡ n = cc f in
        record {
          ahead = omega (arith, nearest-above p 8 es h);
          inside = omega (arith, nearest-most p 8 es);
          holds = λ q from below. elim (ℕ_discrete q p) [
            | yes same ↦ rw same own
            | no other ↦ rw (between_none p 8 q es (omega arith) (omega arith)) refl
          ];
        }

pub pass-fails : (p : ℕ) (o : Option (List Ext)) → pass_over p o ≡ Fails → ruled o ≡ false
pass-fails p None e = refl
pass-fails p (Some es) e = judged (distinct eqb (kinds es)) refl
  where
    judged : (t : Bool) → distinct eqb (kinds es) ≡ t → t ≡ false
    judged false own = refl
    judged true own = absurd (zero-not-one (cc (e, part-ruled p es own)))

pub parts-ruled : (b : List ℕ) (o : Option (List Ext)) → Bytes b → extensions_in b ≡ o
    → ((p : ℕ) → p < 8 → part_ruled p o ≡ true) → ruled o ≡ true
parts-ruled b None h e parts = parts 0 (omega arith)
parts-ruled b (Some es) h e parts = all-ruled es (block_in_lem b es h e).1 parts
