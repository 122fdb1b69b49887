-- What the private functions ask, that a number fits the type in which C is given it, and when the bytes of a connection change.
use Rattle.std.specs.Prelude.{ℕ, ◌<◌, ◌^◌, Bool, true, Result, Ok, Err, Option, None, Some}
use Rattle.refusal.specs.declared.Refusal.{Refusal}
use Rattle.refusal.specs.Table.{to_peer}
use Rattle.layout.specs.declared.Part.{Part}

-- how many bytes were written
abbrev pub count : Result ℕ Refusal → ℕ
count (Ok n) = n
count (Err r) = 0

-- a place that 32 bits hold
pub record Fits (start len : ℕ) : Type 0 where
  pub start_fits : start < 2 ^ 32
  pub len-fits : len < 2 ^ 32

abbrev pub PartFits : Option Part → Type 0
PartFits (Some p) = Fits p.start p.len
PartFits None = Unit

-- data whose length 32 bits hold
abbrev pub DataFits : Option ℕ → Type 0
DataFits None = Unit
DataFits (Some n) = n < 2 ^ 32

-- ---- a connection's bytes

-- whether the bytes of a connection change with this answer: not with an R number
abbrev pub changes : Result ℕ Refusal → Bool
changes (Ok n) = true
changes (Err r) = to_peer r
