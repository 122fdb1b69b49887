-- What reading leaves in lent memory, as far as it can be said: which bytes come is the input's.
use Rattle.std.specs.Prelude.{◌≡◌, ℕ, ◌≤◌, List, length, drop}

-- Of the memory `out` the first n bytes may have changed to `out'`; it keeps its length and what stands behind them.
pub record Front (n : ℕ) (out out' : List ℕ) : Type 0 where
  pub inside : n ≤ length out
  pub size : length out' ≡ length out
  pub behind : drop n out' ≡ drop n out
