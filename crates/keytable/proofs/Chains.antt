-- The lines of a bucket, each linked to the one before it: what a walk along them has left out, and what one more line makes of the links.
-- Assumes nothing.
use mathlib.Core.Path.{◌≡◌, refl, sym, ap, ap₂, ◌∙◌}
use Prim.Native.Nat.{ℕ, zero, suc, ◌+◌, ◌≤◌, ◌<◌}
use native.Mathlib.Omega.{arith}
use native.Mathlib.Numerals.{add-one}
use native.Mathlib.Decide.{ℕ_discrete}
use mathlib.Core.Bool.{Bool, true, false}
use mathlib.Core.List.{List}
use lib.ListN.{length, get_or, set}
use lib.Dec.{ltb}
use lib.Seq.{get_or-set_same, get_or-set_other}
use borrow.Author.Tests.{ltb-true, ltb-false}
use Rattle.std.proofs.lemmas.Option.{none-some}
use Rattle.std.specs.Prelude.{Option, None, Some}
use Rattle.lists.specs.Lists.{any, same}
use Rattle.lists.proofs.Equal.{same_refl, same_not}
use Rattle.lists.proofs.Every.{every_map}
use Rattle.keytable.specs.Table.{colon, past, upto, identity_of, key_text, valid_identity, valid_line}
use Rattle.keytable.specs.WellFormed.{Plain}
use Rattle.keytable.specs.Starts.{line_at}
use Rattle.keytable.specs.Inner.{identity_at, earlier, is_some, bucket, tag_of, bucket_at, Latest, Linked, Chained, Heads}
use Rattle.keytable.proofs.Tests.{identity-sound}
use Rattle.keytable.proofs.Texts.{Without, upto-append, valid-parted}
use Rattle.keytable.proofs.Lookups.{own-text}
use Rattle.keytable.proofs.Spots.{text-line}
use Rattle.keytable.proofs.Apart.{none-on}

-- ---- a line that begins with an identity and a colon is that identity's

pub begins-own : (i l : List ℕ) → valid_identity i ≡ true → valid_line l ≡ true → is_some (key_text i l) ≡ same i (identity_of l)
begins-own i l good valid = go (key_text i l) refl
  where
    no-colon : Without colon i
    no-colon = every_map Plain _ (λ b h. h.no-colon) i (identity-sound i good).plain

    go : (o : Option (List ℕ)) → key_text i l ≡ o → is_some (key_text i l) ≡ same i (identity_of l)
    go (Some x) e =
        let own : identity_of l ≡ i = ap (upto colon) (text-line i l x e) ∙ upto-append colon i x no-colon in
        rw (e, own) (sym (same_refl i))
    go None e =
        let other : i ≡ identity_of l → ⊥ = λ m.
        let found : key_text i l ≡ Some (past colon l) =
        ap₂ key_text m (sym (valid-parted l valid)) ∙ own-text (identity_of l) (past colon l) in
        none-some (past colon l) (sym e ∙ found) in
        rw e (sym (same_not i (identity_of l) other))

-- ---- a walk along the lines of an identity's bucket

-- the first n lines from the c-th on are others'; the one before them, if there is one, is in the bucket
pub record Walked (t starts identity : List ℕ) (n c : ℕ) : Type 0 where
  pub few : c ≤ n
  pub in-it : (k : ℕ) → c ≡ suc k → bucket_at t starts k ≡ bucket identity
  pub others : (k : ℕ) → c ≤ k → k < n → same identity (identity_at t (get_or starts k 0)) ≡ false

module _ (t starts identity : List ℕ) (n : ℕ) where
  other-bucket : (k : ℕ) → ¬ (bucket_at t starts k ≡ bucket identity) → same identity (identity_at t (get_or starts k 0)) ≡ false
  other-bucket k h = same_not identity _ (λ e. h (ap bucket (sym e)))

  pub other_tag : (k g h : ℕ) → h ≡ tag_of (identity_at t (get_or starts k 0)) → g ≡ tag_of identity → ¬ (h ≡ g)
      → same identity (identity_at t (get_or starts k 0)) ≡ false
  other_tag k g h is own other = same_not identity _ (λ e. other (is ∙ ap tag_of (sym e) ∙ sym own))

  pub walk_begins : (c : ℕ) → Latest t starts n c (bucket identity) → Walked t starts identity n c
  walk_begins c l =
      record { few = l.few; in-it = l.in-it; others = λ k h below. other-bucket k (l.none_after k h below) }

  pub walk-on : (k c d : ℕ) → d ≡ suc k → Latest t starts k c (bucket_at t starts k) → same identity (identity_at t (get_or starts k 0)) ≡ false
      → Walked t starts identity n d → Walked t starts identity n c
  walk-on k c d here link other now =
      record {
        few = omega (arith, link.few, now.few);
        in-it = λ j e. link.in-it j e ∙ now.in-it k here;
        others = λ j h below. go j h below (ℕ_discrete j k) (ltb j k) refl;
      }
    where
      go : (j : ℕ) → c ≤ j → j < n → Dec (j ≡ k) → (b : Bool) → ltb j k ≡ b → same identity (identity_at t (get_or starts j 0)) ≡ false
      go j h below (yes e) b l = rw e other
      go j h below (no e) true l = other-bucket j (λ m. link.none_after j h (ltb-true j k l) (m ∙ sym (now.in-it k here)))
      go j h below (no e) false l = now.others j (omega (arith, ltb-false j k l)) below

  pub walk_ends : (c : ℕ) → c ≡ 0 → n ≤ length starts → Walked t starts identity n c → any (same identity) (earlier t starts n) ≡ false
  walk_ends c done room now = go n (omega arith)
    where
      go : (m : ℕ) → m ≤ n → any (same identity) (earlier t starts m) ≡ false
      go zero h = refl
      go (suc m) h =
          rw (← add-one m) (none-on t starts identity m (omega arith) (now.others m (omega arith) (omega arith)) (go m (omega arith)))

-- ---- one more line

module _ (t starts : List ℕ) (at n : ℕ) (room : n < length starts) where
  abbrev more : List ℕ
  more = set starts n at

  start-kept : (k : ℕ) → k < n → get_or more k 0 ≡ get_or starts k 0
  start-kept k h = get_or-set_other starts n k at 0 (λ e. absurd (omega arith))

  start-new : get_or more n 0 ≡ at
  start-new = get_or-set_same starts n at 0 room

  bucket-kept : (k : ℕ) → k < n → bucket_at t more k ≡ bucket_at t starts k
  bucket-kept k h = ap (λ (s : ℕ). bucket (identity_at t s)) (start-kept k h)

  latest-kept : (m c b : ℕ) → m ≤ n → Latest t starts m c b → Latest t more m c b
  latest-kept m c b h l =
      record {
        few = l.few;
        in-it = λ k e. bucket-kept k (omega (arith, l.few)) ∙ l.in-it k e;
        none_after = λ k after below e. l.none_after k after below (sym (bucket-kept k (omega arith)) ∙ e);
      }

  pub chained_more : (tags links : List ℕ) (g c : ℕ) → n < length tags → n < length links → at < length t → valid_line (line_at t at) ≡ true
      → g ≡ tag_of (identity_at t at) → Latest t starts n c (bucket (identity_at t at)) → Chained t starts tags links n
      → Chained t more (set tags n g) (set links n c) (n + 1)
  chained_more tags links g c marked linked inside valid own head now k below = go (ℕ_discrete k n)
    where
      go : Dec (k ≡ n) → Linked t more (set tags n g) (set links n c) k
      go (yes e) =
          rw e (record {
            inside = rw start-new inside;
            valid = rw start-new valid;
            tagged = rw (get_or-set_same tags n g 0 marked, start-new) own;
            link = rw (get_or-set_same links n c 0 linked, start-new) (latest-kept n c _ (omega arith) head);
          })
      go (no e) =
          let one = now k (omega arith) in
          record {
            inside = rw (start-kept k (omega arith)) one.inside;
            valid = rw (start-kept k (omega arith)) one.valid;
            tagged = rw (get_or-set_other tags n k g 0 e, start-kept k (omega arith)) one.tagged;
            link = rw (get_or-set_other links n k c 0 e, start-kept k (omega arith)) (latest-kept k _ _ (omega arith) one.link);
          }

  one_more : {c : ℕ} (b : ℕ) → ¬ (bucket_at t more n ≡ b) → Latest t more n c b → Latest t more (n + 1) c b
  one_more {c} b other l = record { few = omega (arith, l.few); in-it = l.in-it; none_after = λ k after below m. go k after below m (ℕ_discrete k n) }
    where
      go : (k : ℕ) → c ≤ k → k < n + 1 → bucket_at t more k ≡ b → Dec (k ≡ n) → ⊥
      go k after below m (yes e) = other (ap (bucket_at t more) (sym e) ∙ m)
      go k after below m (no e) = l.none_after k after (omega arith) m

  pub heads-more : (heads : List ℕ) (last : ℕ) → last ≡ n + 1 → length heads ≡ 256 → Heads t starts heads n
      → Heads t more (set heads (bucket (identity_at t at)) last) (n + 1)
  heads-more heads last is size now b small = go (ℕ_discrete b own)
    where
      own : ℕ
      own = bucket (identity_at t at)

      new : bucket_at t more n ≡ own
      new = ap (λ (s : ℕ). bucket (identity_at t s)) start-new

      go : Dec (b ≡ own) → Latest t more (n + 1) (get_or (set heads own last) b 0) b
      go (yes e) =
          rw (e, get_or-set_same heads own last 0 (omega arith))
          (record {
            few = omega arith;
            in-it = λ k m. let here : k ≡ n = omega arith in rw here new;
            none_after = λ k after below m. absurd (omega arith);
          })
      go (no e) = rw (get_or-set_other heads own b last 0 e) (one_more b (λ m. e (sym m ∙ new)) (latest-kept n _ b (omega arith) (now b small)))
