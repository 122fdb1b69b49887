-- A series of calls on one connection (document 01, "The series of demand 3"), on either side: messages of any bytes, changes of cipher and received
-- alerts, as many and in whatever order.
use Rattle.std.specs.Prelude.{◌≡◌, ℕ, List, [], ◌∷◌}
use Rattle.handshake.specs.Step.{Settled}

pub data Call : Type 0 where
  -- out: the bytes of the lent output before the call
  message : (bytes out : List ℕ) → Call
  change_of_cipher : Call
  alert : (level description : ℕ) → Call

-- each call is made on the connection as the one before left it, also where that was refused
abbrev pub run : {C X : Type 0} → (C → X → Settled C) → C → List X → C
run call c [] = c
run call c (x ∷ xs) = run call (call c x).next xs

-- an ignored warning: level 1, and not close_notify
abbrev pub IgnoredWarning : Call → Type 0
IgnoredWarning (message m out) = ⊥
IgnoredWarning change_of_cipher = ⊥
IgnoredWarning (alert level description) = (level ≡ 1) × ¬ (description ≡ 0)
