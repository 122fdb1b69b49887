-- Where the vectors of a message stand.
use Rattle.std.specs.Prelude.{ℕ, ◌+◌, Bool, cond, List, length, take, drop, leb, eqb, Result, Ok, Err, Option, None, Some}
use Rattle.refusal.specs.declared.Refusal.{Refusal}
use Rattle.endian.specs.Vector.{stated}
use Rattle.layout.specs.declared.Part.{Part}

-- where the vector that starts at `at` ends, with w bytes for its length; past the end of m where it is cut off
abbrev pub end_at : ℕ → List ℕ → ℕ → ℕ
end_at w m at = at + w + stated w (drop at m)

-- the part of n bytes from s on
abbrev pub standing : (s n : ℕ) → Option Part
standing s n = Some (record { start = s; len = n })

-- the part of n bytes from s on, where m has them all
abbrev pub whole_at : List ℕ → (s n : ℕ) → Option Part
whole_at m s n = cond (leb (s + n) (length m)) (standing s n) None

-- the vector that starts at `at`
abbrev pub part_at : ℕ → List ℕ → ℕ → Option Part
part_at w m at = whole_at m (at + w) (stated w (drop at m))

-- the same with a rule on its length
abbrev pub ruled : (ℕ → Bool) → Option Part → Option Part
ruled rule (Some p) = cond (rule p.len) (Some p) None
ruled rule None = None

-- the vector that starts at `at` and fills the rest of m, no byte being left over
abbrev pub last_at : ℕ → List ℕ → ℕ → Option Part
last_at w m at = cond (eqb (end_at w m at) (length m)) (standing (at + w) (stated w (drop at m))) None

-- a body of n bytes, whole
abbrev pub filled_by : ℕ → List ℕ → Option Part
filled_by n m = cond (eqb (length m) (4 + n)) (standing 4 n) None

-- a reader that is used alone refuses with 50 and nothing else, the type of another message included
abbrev pub after_header : Result Unit Refusal → Option Part → Option Part
after_header (Ok tt) p = p
after_header (Err r) p = None

-- the bytes that stand there
abbrev pub contents : List ℕ → Option Part → Option (List ℕ)
contents m (Some p) = Some (take p.len (drop p.start m))
contents m None = None
