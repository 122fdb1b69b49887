-- A connection in lent bytes, and what a call leaves there: whatever kind of connection it is, A being its type, and however it is saved.
use Rattle.std.specs.Prelude.{◌≡◌, ℕ, cond, List, ℤ, Result, Ok, Err, Option, None, Some}
use Rattle.refusal.specs.declared.Refusal.{Refusal}
use Rattle.refusal.specs.Table.{to_peer}
use Rattle.handshake.specs.declared.Derived.{Derived}
use Rattle.c_interface.specs.Codes.{coded}

-- the connection's bytes afterwards: an R number leaves them as they were, an alert makes them those of the connection that it leads to
abbrev pub kept_bytes : Result ℕ Refusal → (next bytes : List ℕ) → List ℕ
kept_bytes (Ok n) next bytes = next
kept_bytes (Err r) next bytes = cond (to_peer r) next bytes

module _ {A : Type 0} (save : A → List ℕ) (restore : List ℕ → A) where
  -- A call that was lent the connection's bytes, said this and led to `next` returned `result` and left `bytes'`. What it left is what the next call
  -- reads: `reads`.
  pub record KeepsAs (said : Result ℕ Refusal) (next : A) (bytes : List ℕ) (result : ℤ) (bytes' : List ℕ) : Type 0 where
    pub told : result ≡ coded said
    pub left : bytes' ≡ kept_bytes said (save next) bytes
    pub reads : restore bytes' ≡ next

  -- The same of a start. Where it is refused no connection is made, and the bytes stay.
  pub record StartsAs (said : Result ℕ Refusal) (next : A) (bytes : List ℕ) (result : ℤ) (bytes' : List ℕ) : Type 0 where
    pub told : result ≡ coded said
    pub left : bytes' ≡ kept_bytes said (save next) bytes
    pub reads : {n : ℕ} → said ≡ Ok n → restore bytes' ≡ next

-- the lent master secret afterwards, and the lent number of its blocks
abbrev pub master_after : Option Derived → List ℕ → List ℕ
master_after None master = master
master_after (Some d) master = d.master

abbrev pub blocks_after : Option Derived → ℕ → ℕ
blocks_after None blocks = blocks
blocks_after (Some d) blocks = d.blocks
