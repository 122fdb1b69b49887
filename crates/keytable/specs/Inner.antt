-- What the contracts of this crate's private functions cite, and no public contract does.
use Rattle.std.specs.Prelude.{◌≡◌, ℕ, suc, ◌+◌, ◌*◌, ◌/◌, ◌%◌, ◌≤◌, ◌<◌, Bool, true, false, cond, ◌&&◌, List, [], ◌∷◌, map, length, take, get_or, ltb, eqb, Option, None, Some}
use Rattle.utf8.specs.Utf8.{valid_utf8}
use Rattle.keytable.specs.Table.{lines, between, identity_of, valid_line, well_formed, key_text}
use Rattle.keytable.specs.Starts.{starts_of, line_at}
use Rattle.keytable.specs.declared.checks.Parts.{Parts}

-- ---- a line

-- what calls of a test may answer is what p says of the byte
abbrev pub Says : (ℕ → Bool → Type 0) → (ℕ → Bool) → Type 0
Says post p = (b : ℕ) (said : Bool) → post b said → said ≡ p b

-- the bytes before the first that fails the test
abbrev pub leading : (ℕ → Bool) → List ℕ → List ℕ
leading p [] = []
leading p (b ∷ s) = cond (p b) (b ∷ leading p s) []

-- what is left to be tested of an identity and of a key when their bytes are
abbrev pub sized_identity : List ℕ → Bool
sized_identity s = between 1 128 (length s) && valid_utf8 s

abbrev pub sized_key : ℕ → Bool
sized_key digits = between 2 128 digits && eqb (digits % 2) 0

-- where a line's colon and its end are
abbrev pub parts : (colon end : ℕ) → Option Parts
parts c e = Some (record { colon = c; end = e })

-- the line at `at`: where its colon and its end are, if it is valid and has one
abbrev pub line_parts : List ℕ → ℕ → Option Parts
line_parts t at =
    cond (valid_line (line_at t at) && ltb (at + length (line_at t at)) (length t))
    (parts (at + length (identity_of (line_at t at))) (at + length (line_at t at)))
    None

-- ---- no identity twice

-- the identity of the line at `at`
abbrev pub identity_at : List ℕ → ℕ → List ℕ
identity_at t at = identity_of (line_at t at)

-- the identities of the lines at the first n starts
abbrev pub earlier : List ℕ → List ℕ → ℕ → List (List ℕ)
earlier t starts n = map (identity_at t) (take n starts)

abbrev pub is_some : Option (List ℕ) → Bool
is_some None = false
is_some (Some s) = true

-- what stands at a place begins with the identity and a colon
abbrev pub begins : List ℕ → List ℕ → ℕ → Bool
begins identity t at = is_some (key_text identity (line_at t at))

-- A number that equal identities have alike, so that most of the others need not be compared: any function of the bytes would do.
abbrev pub fingerprint : ℕ → List ℕ → ℕ
fingerprint p [] = p
fingerprint p (b ∷ s) = fingerprint (p % 67108864 * 33 + b) s

abbrev pub bucket : List ℕ → ℕ
bucket identity = fingerprint 0 identity % 256

abbrev pub tag_of : List ℕ → ℕ
tag_of identity = fingerprint 0 identity / 256 % 65536

-- the bucket of the k-th line
abbrev pub bucket_at : List ℕ → List ℕ → ℕ → ℕ
bucket_at t starts k = bucket (identity_at t (get_or starts k 0))

-- Of the first n lines, `latest` counts those up to the latest in the bucket; it is 0 where none is in it.
pub record Latest (t starts : List ℕ) (n latest bucket : ℕ) : Type 0 where
  pub few : latest ≤ n
  pub in-it : (k : ℕ) → latest ≡ suc k → bucket_at t starts k ≡ bucket
  pub none_after : (k : ℕ) → latest ≤ k → k < n → ¬ (bucket_at t starts k ≡ bucket)

-- each of the first n lines is valid, has its identity's tag, and is linked to the latest before it in its bucket
pub record Linked (t starts tags links : List ℕ) (k : ℕ) : Type 0 where
  pub inside : get_or starts k 0 < length t
  pub valid : valid_line (line_at t (get_or starts k 0)) ≡ true
  pub tagged : get_or tags k 0 ≡ tag_of (identity_at t (get_or starts k 0))
  pub link : Latest t starts k (get_or links k 0) (bucket_at t starts k)

abbrev pub Chained : List ℕ → List ℕ → List ℕ → List ℕ → ℕ → Type 0
Chained t starts tags links n = (k : ℕ) → k < n → Linked t starts tags links k

-- for every bucket the latest line of the first n
abbrev pub Heads : List ℕ → List ℕ → List ℕ → ℕ → Type 0
Heads t starts heads n = (b : ℕ) → b < 256 → Latest t starts n (get_or heads b 0) b

-- ---- a pass over the table

-- what it comes to, and the starts that it leaves
pub record Scans (t : List ℕ) (said : Option ℕ) (starts : List ℕ) : Type 0 where
  pub told : said ≡ cond (well_formed t) (Some (length (lines t))) None
  pub left : well_formed t ≡ true → take (length (lines t)) starts ≡ starts_of t
