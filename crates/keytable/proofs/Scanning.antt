-- A pass over the lines of a table: what one line more makes of the starts, the tests and the identities passed, and what the tests come to.
-- Assumes nothing.
use mathlib.Core.Path.{◌≡◌, refl, sym, ap, ap₂, ◌∙◌}
use Prim.Native.Nat.{ℕ, zero, suc, ◌+◌, ◌≤◌, ◌<◌}
use native.Mathlib.Omega.{arith}
use native.Mathlib.Numerals.{add-one}
use mathlib.Core.Bool.{Bool, true, false, cond, ◌&&◌, and-false, true≢false}
use mathlib.Core.List.{List, [], ◌∷◌, ◌++◌, map, append_assoc, append-nil}
use lib.ListN.{length, take, drop, get_or, set, replicate, length-append, length-drop, length-set}
use lib.Seq.{take-suc-set, length-take-le}
use lib.Dec.{leb, ltb, eqb}
use borrow.Author.Tests.{le-leb, lt-leb, lt-ltb, ltb-true}
use Rattle.std.specs.Prelude.{None, Some}
use Rattle.std.proofs.lemmas.Option.{none-some, same_Some}
use Rattle.lists.specs.Lists.{each, any, distinct, same}
use Rattle.keytable.specs.declared.checks.Parts.{Parts}
use Rattle.keytable.specs.Table.{line_end, upto, lines, ended, identity_of, valid_line, well_formed}
use Rattle.keytable.specs.Starts.{starts_from, starts_of, line_at}
use Rattle.keytable.specs.Inner.{parts, line_parts, identity_at, earlier, bucket, tag_of, Latest, Chained, Heads, Scans}
use Rattle.keytable.proofs.Lines.{line-here, line-is, no_lines}
use Rattle.keytable.proofs.Listed.{count-lines}
use Rattle.keytable.proofs.Apart.{all-on, distinct-on, distinct-end}
use Rattle.keytable.proofs.Chains.{chained_more, heads-more}

-- ---- in a table whose last byte is 0A every line has an end

ended-rest : (t : List ℕ) (at : ℕ) → at < length t → ended t ≡ true → ended (drop at t) ≡ true
ended-rest [] at h e = absurd (omega arith)
ended-rest (b ∷ t) zero h e = e
ended-rest (b ∷ []) (suc at) h e = absurd (omega arith)
ended-rest (b ∷ c ∷ t) (suc at) h e = ended-rest (c ∷ t) at (omega arith) e

end-inside : (s : List ℕ) → 0 < length s → ended s ≡ true → length (upto line_end s) < length s
end-inside [] h e = absurd (omega arith)
end-inside (b ∷ []) h e = rw e (omega arith)
end-inside (b ∷ c ∷ s) h e = go (eqb b line_end) (end-inside (c ∷ s) (omega arith) e)
  where
    go : (t : Bool) → length (upto line_end (c ∷ s)) < length (c ∷ s) → length (cond t [] (b ∷ upto line_end (c ∷ s))) < suc (length (c ∷ s))
    go true ih = omega arith
    go false ih = omega arith

-- ---- a line

-- what is known of a line that was read
pub record Good (t : List ℕ) (at colon end : ℕ) : Type 0 where
  pub valid : valid_line (line_at t at) ≡ true
  pub inside : end < length t
  pub identity-ends : colon ≡ at + length (identity_at t at)
  pub line-ends : end ≡ at + length (line_at t at)

module _ (t : List ℕ) (at : ℕ) where
  pub line-good : (colon end : ℕ) → line_parts t at ≡ parts colon end → Good t at colon end
  line-good colon end e = go (valid_line (line_at t at)) (ltb (at + length (line_at t at)) (length t)) refl refl
    where
      go : (a b : Bool) → valid_line (line_at t at) ≡ a → ltb (at + length (line_at t at)) (length t) ≡ b → Good t at colon end
      go true true v h =
          let there : parts (at + length (identity_at t at)) (at + length (line_at t at)) ≡ parts colon end = rw (v, h) at e in
          let same = same_Some _ _ there in
          let ends : at + length (line_at t at) ≡ end = ap (λ (p : Parts). p.end) same in
          let identity-ends : at + length (identity_at t at) ≡ colon = ap (λ (p : Parts). p.colon) same in
          record { valid = v; inside = rw (← ends) (ltb-true _ _ h); identity-ends = sym identity-ends; line-ends = sym ends }
      go true false v h = let f : None ≡ parts colon end = rw (v, h) at e in absurd (none-some _ f)
      go false b v h = let f : None ≡ parts colon end = rw v at e in absurd (none-some _ f)

  pub line-bad : at < length t → ended t ≡ true → line_parts t at ≡ None → valid_line (line_at t at) ≡ false
  line-bad inside e bad = go (valid_line (line_at t at)) refl
    where
      has_end : at + length (line_at t at) < length t
      has_end =
          let n = length-drop at t in
          let h = end-inside (drop at t) (omega arith) (ended-rest t at inside e) in
          omega arith

      go : (b : Bool) → valid_line (line_at t at) ≡ b → valid_line (line_at t at) ≡ false
      go false v = v
      go true v =
          let f : parts (at + length (identity_at t at)) (at + length (line_at t at)) ≡ None = rw (v, lt-ltb _ _ has_end) at bad in
          absurd (none-some _ (sym f))

-- ---- the lines passed

pub bucket-small : (i : List ℕ) → bucket i < 256
bucket-small i = omega arith

-- n lines were passed, and at `at` the next one starts
pub record Passed (t starts heads links tags : List ℕ) (n at : ℕ) : Type 0 where
  pub within : at ≤ length t
  pub few : n ≤ 256
  pub room : length starts ≡ 256
  pub heads-room : length heads ≡ 256
  pub links-room : length links ≡ 256
  pub tags-room : length tags ≡ 256
  pub listed : starts_of t ≡ take n starts ++ starts_from at (lines (drop at t))
  pub valid : each valid_line (lines t) ≡ each valid_line (lines (drop at t))
  pub identities : map identity_of (lines t) ≡ earlier t starts n ++ map identity_of (lines (drop at t))
  pub apart : distinct same (earlier t starts n) ≡ true
  pub chained : Chained t starts tags links n
  pub latest : Heads t starts heads n

pub none_passed : (t starts heads links tags : List ℕ) → length starts ≡ 256 → length heads ≡ 256 → length links ≡ 256 → length tags ≡ 256
    → ((b : ℕ) → get_or heads b 0 ≡ 0) → Passed t starts heads links tags 0 0
none_passed t starts heads links tags room heads-room links-room tags-room zeros =
    record {
      within = omega arith;
      few = omega arith;
      room = room;
      heads-room = heads-room;
      links-room = links-room;
      tags-room = tags-room;
      listed = refl;
      valid = refl;
      identities = refl;
      apart = refl;
      chained = λ k h. absurd (omega arith);
      latest = λ b h.
          rw (zeros b) (record { few = omega arith; in-it = λ k e. absurd (omega arith); none_after = λ k a below e. absurd (omega arith) });
    }

pub zero-at : (n b : ℕ) → ◌≡◌ {A = ℕ} (get_or (replicate n 0) b 0) 0
zero-at zero b = refl
zero-at (suc n) zero = refl
zero-at (suc n) (suc b) = zero-at n b

module _ (t starts heads links tags : List ℕ) (n at : ℕ) (now : Passed t starts heads links tags n at) (inside : at < length t) where
  -- the lines from here on
  module _ (end : ℕ) (e : end ≡ at + length (line_at t at)) where
    here : lines (drop at t) ≡ line_at t at ∷ lines (drop (end + 1) t)
    here =
        line-here t at end (omega arith) e inside
        ∙ ap (λ (l : List ℕ). l ∷ lines (drop (end + 1) t)) (line-is t at end (omega arith) e)

    pub each-here : each valid_line (lines t) ≡ (valid_line (line_at t at) && each valid_line (lines (drop (end + 1) t)))
    each-here = now.valid ∙ ap (each valid_line) here

    listed_here : starts_of t ≡ take n starts ++ (at ∷ starts_from (end + 1) (lines (drop (end + 1) t)))
    listed_here =
        now.listed ∙ ap (λ (ls : List (List ℕ)). take n starts ++ starts_from at ls) here
        ∙ ap (λ (m : ℕ). take n starts ++ (at ∷ starts_from (m + 1) (lines (drop (end + 1) t)))) (sym e)

  pub counted : length (lines t) ≡ n + length (lines (drop at t))
  counted =
      sym (count-lines 0 (lines t)) ∙ ap length now.listed ∙ length-append (take n starts) _
      ∙ ap₂ (λ (a : ℕ) (b : ℕ). a + b) (length-take-le n starts (omega (arith, now.few, now.room))) (count-lines at (lines (drop at t)))

  module _ (colon end : ℕ) (good : Good t at colon end) (below : n < 256) where
    room-here : n < length starts
    room-here = omega (arith, now.room)

    pub one-passed : (b c last g : ℕ) → b ≡ bucket (identity_at t at) → c ≡ get_or heads b 0 → last ≡ n + 1 → g ≡ tag_of (identity_at t at)
        → any (same (identity_at t at)) (earlier t starts n) ≡ false
        → Passed t (set starts n at) (set heads b last) (set links n c) (set tags n g) (n + 1) (end + 1)
    one-passed b c last g own latest-is is marked fresh =
        let ends = good.line-ends in
        let head : Latest t starts n c (bucket (identity_at t at)) = rw (latest-is, own) (now.latest (bucket (identity_at t at)) (bucket-small (identity_at t at))) in
        record {
          within = omega (arith, good.inside);
          few = omega arith;
          room = simp length-set now.room;
          heads-room = simp length-set now.heads-room;
          links-room = simp length-set now.links-room;
          tags-room = simp length-set now.tags-room;
          listed =
              listed_here end ends
              ∙ sym (append_assoc (take n starts) (at ∷ []) (starts_from (end + 1) (lines (drop (end + 1) t))))
              ∙ ap (λ (l : List ℕ). l ++ starts_from (end + 1) (lines (drop (end + 1) t)))
              (sym (ap (λ (m : ℕ). take m (set starts n at)) (add-one n) ∙ take-suc-set starts n at room-here));
          valid = each-here end ends ∙ rw good.valid;
          identities = all-on t starts at end n inside ends now.identities room-here;
          apart = distinct-on t starts at end n inside ends now.identities room-here now.apart fresh;
          chained =
              chained_more t starts at n room-here tags links g c (omega (arith, now.tags-room)) (omega (arith, now.links-room)) inside
              good.valid marked head now.chained;
          latest = rw own (heads-more t starts at n room-here heads last is now.heads-room now.latest);
        }

-- ---- what the tests come to

pub too_long : (t : List ℕ) → 65536 < length t → well_formed t ≡ false
unfolding well_formed
too_long t h = rw (lt-leb _ _ h)

pub unended : (t : List ℕ) → ended t ≡ false → well_formed t ≡ false
unfolding well_formed
unended t h = simp (h, and-false)

module _ (t : List ℕ) (short : length t ≤ 65536) (last : ended t ≡ true) where
  formed-is : well_formed t ≡ (leb (length (lines t)) 256 && each valid_line (lines t) && distinct same (map identity_of (lines t)))
  unfolding well_formed
  formed-is = rw (le-leb _ _ short, last)

  pub too_many : 256 < length (lines t) → well_formed t ≡ false
  too_many h = formed-is ∙ rw (lt-leb _ _ h)

  pub one-bad : each valid_line (lines t) ≡ false → well_formed t ≡ false
  one-bad h = formed-is ∙ simp (h, and-false)

  pub one-twice : distinct same (map identity_of (lines t)) ≡ false → well_formed t ≡ false
  one-twice h = formed-is ∙ simp (h, and-false)

  -- at the end of the table all lines were passed
  module _ (starts heads links tags : List ℕ) (n at : ℕ) (now : Passed t starts heads links tags n at) (over : length t ≤ at) where
    none_left : starts_from at (lines (drop at t)) ≡ []
    none_left = ap (starts_from at) (no_lines t at over)

    all_listed : take n starts ≡ starts_of t
    all_listed = sym (now.listed ∙ ap (λ (l : List ℕ). take n starts ++ l) none_left ∙ append-nil (take n starts))

    all-counted : length (lines t) ≡ n
    all-counted =
        sym (count-lines 0 (lines t)) ∙ ap length (sym all_listed) ∙ length-take-le n starts (omega (arith, now.few, now.room))

    formed : well_formed t ≡ true
    formed =
        formed-is
        ∙ rw (
          all-counted,
          le-leb _ _ now.few,
          now.valid ∙ ap (each valid_line) (no_lines t at over),
          ← distinct-end t starts at n over now.identities now.apart,
        )

    pub scanned : Scans t (Some n) starts
    scanned = record { told = rw (formed, all-counted); left = λ h. ap (λ (m : ℕ). take m starts) all-counted ∙ all_listed }

pub unusable : (t starts : List ℕ) → well_formed t ≡ false → Scans t None starts
unusable t starts bad = record { told = rw bad; left = λ h. absurd (true≢false (sym h ∙ bad)) }
