-- Parts that were joined are found again by their widths, so that a connection that was saved is restored; and cleared memory is a closed one.
-- Assumes nothing.
use mathlib.Core.Path.{◌≡◌, refl, sym, ap, ◌∙◌}
use Prim.Native.Nat.{ℕ, ◌+◌, ◌^◌, ◌<◌}
use native.Mathlib.Omega.{arith}
use native.Mathlib.Nat.{le_of_eq}
use mathlib.Core.Bool.{Bool, true, false}
use mathlib.Core.List.{List, [], ◌∷◌, map}
use lib.ListN.{length, get_or, drop, replicate}
use lib.Seq.{take_all}
use Rattle.std.specs.Prelude.{Some}
use Rattle.std.specs.Int.{from_bool}
use Rattle.endian.proofs.Numbers.{number-be-lt}
use Rattle.endian.specs.Number.{be, number}
use Rattle.sha256.specs.Saved as Hash
use Rattle.lists.specs.Lists.{part, flag_of}
use Rattle.lists.proofs.Parts.{part-there, take-window}
use Rattle.handshake.specs.Flight.{joined}
use Rattle.server.specs.declared.Rule.{Rule}
use Rattle.server.specs.declared.Phase.{Phase}
use Rattle.server.specs.declared.Connection.{Connection}
use Rattle.server.specs.Connection.{ended}
use Rattle.server.specs.Bytes.{phase_byte, phase_of, rule_byte, rule_of}
use Rattle.saved.specs.Saved.{parts, saved, restored}

-- ---- parts, one behind the other

-- the parts of these widths, the first at `at`
abbrev cut : List ℕ → ℕ → List ℕ → List (List ℕ)
cut [] at bytes = []
cut (w ∷ ws) at bytes = part at w bytes ∷ cut ws (at + w) bytes

-- joined parts, cut at their widths, are the parts
cut-joined : (xs : List (List ℕ)) (at : ℕ) (bytes : List ℕ) → drop at bytes ≡ joined xs → cut (map length xs) at bytes ≡ xs
cut-joined [] at bytes e = refl
cut-joined (x ∷ xs) at bytes e =
    let there = part-there bytes x (joined xs) at (length x) e refl in
    rw (there.0, cut-joined xs (at + length x) bytes there.1)

-- ---- one byte each

phase-there : (p : Phase) → phase_of (phase_byte p) ≡ Some p
phase-there Phase.Hello = refl
phase-there Phase.KeyExchange = refl
phase-there Phase.Change = refl
phase-there Phase.Finished = refl
phase-there Phase.Complete = refl
phase-there Phase.Closed = refl

rule-there : (r : Rule) → rule_of (rule_byte r) ≡ Some r
rule-there Rule.Tell = refl
rule-there Rule.Hide = refl

pub flag-there : (b : Bool) → flag_of (from_bool b) ≡ Some b
flag-there false = refl
flag-there true = refl

-- ---- all of it

-- What the types say of a connection's fields, as far as the law asks for it (bytes are kept as they stand, whatever they are), and what saving a
-- hash promises of the transcript.
pub record Fits (c : Connection) : Type 0 where
  pub suite : c.client.suite < 2 ^ 16
  pub three : length c.setup.suites ≡ 3
  pub suites : (i : ℕ) → get_or c.setup.suites i 0 < 2 ^ 16
  pub hint : length c.setup.hint ≡ 128
  pub stand_in : length c.setup.stand_in ≡ 32
  pub own : length c.setup.random ≡ 32
  pub client : length c.client.random ≡ 32
  pub master : length c.secrets.master ≡ 48
  pub transcript : length (Hash.saved c.transcript) ≡ 104
  pub kept : Hash.restored (Hash.saved c.transcript) ≡ c.transcript

-- a list of three, one by one
pub three-of : (s : List ℕ) → length s ≡ 3 → get_or s 0 0 ∷ get_or s 1 0 ∷ get_or s 2 0 ∷ [] ≡ s
three-of s size = sym (take-window 3 0 s (omega arith)) ∙ take_all 3 s (le_of_eq size)

-- how wide the parts of a connection are
abbrev widths : List ℕ
widths = 6 ∷ 6 ∷ 128 ∷ 32 ∷ 32 ∷ 32 ∷ 48 ∷ 104 ∷ []

as_wide : (c : Connection) → Fits c → map length (parts c) ≡ widths
as_wide c fits =
    rw (
      ← three-of c.setup.suites fits.three,
      fits.hint,
      fits.stand_in,
      fits.own,
      fits.client,
      fits.master,
      fits.transcript,
    )

pub restored-saved : (c : Connection) → Fits c → restored (saved c) ≡ c
unfolding restored saved
restored-saved c fits =
    let ours = c.setup.suites in
    let all = ap (λ (ws : List ℕ). cut ws 0 (saved c)) (sym (as_wide c fits)) ∙ cut-joined (parts c) 0 (saved c) refl in
    let found : (i : ℕ) → get_or (cut widths 0 (saved c)) i [] ≡ get_or (parts c) i [] = λ i. ap (λ (xs : List (List ℕ)). get_or xs i []) all in
    let our : (i : ℕ) → number (be 2 (get_or ours i 0)) ≡ get_or ours i 0 = λ i. number-be-lt 2 (get_or ours i 0) (fits.suites i) in
    let three = three-of ours fits.three in
    rw (
      phase-there c.phase,
      rule-there c.setup.rule,
      flag-there c.client.listed,
      number-be-lt 2 c.client.suite fits.suite,
      found 2,
      found 3,
      found 4,
      found 5,
      found 6,
      found 7,
      fits.kept,
      ← three,
      our 0,
      our 1,
      our 2,
      three,
    )

-- memory that was cleared is a closed connection
pub cleared-closed : restored (replicate 388 0) ≡ ended Phase.Closed
unfolding restored
cleared-closed = refl
