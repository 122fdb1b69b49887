-- What a layout is (document 01, "Message layouts"; RFC 5246, section 7.4), and when a reader and a writer are each other's inverse.
use Rattle.std.specs.Prelude.{◌≡◌, ℕ, Bool, true, ◌&&◌, cond, List, ◌∷◌, length, leb, Option, Some}
use Rattle.endian.specs.Number.{Bytes}
use Rattle.endian.specs.Vector.{vector}
use Rattle.refusal.specs.declared.Refusal.TheVariants.{BadValue}
use Rattle.refusal.specs.Lent.{Outcome, gives, refuses}
use Rattle.layout.specs.Types.{message_limit}

-- a handshake message with the fields F: its type, its own rules on the fields, and the bytes of its body
pub record Layout (F : Type 0) : Type 0 where
  pub kind : ℕ
  pub rules : F → Bool
  pub body : F → List ℕ

-- a type in one byte, the length of the body in three, and the body
abbrev pub message : ℕ → List ℕ → List ℕ
message kind body = kind ∷ vector 3 body

abbrev pub bytes : {F : Type 0} → Layout F → F → List ℕ
bytes l f = message l.kind (l.body f)

abbrev pub valid : {F : Type 0} → Layout F → F → Bool
valid l f = l.rules f && leb (length (bytes l f)) message_limit

-- what a writer is to write: R5 for a value that the layout forbids or a length outside its limit
abbrev pub written : {F : Type 0} → Layout F → F → Outcome
written l f = cond (valid l f) (gives (bytes l f)) (refuses BadValue)

-- A reader accepts exactly the bytes of valid fields, and gives those fields: reading what was written gives the same fields, and writing what
-- was read gives the same bytes.
pub record Inverse {F : Type 0} (l : Layout F) (read : List ℕ → Option F) : Type 0 where
  pub reads-written : (f : F) → valid l f ≡ true → read (bytes l f) ≡ Some f
  pub writes-read : (m : List ℕ) (f : F) → Bytes m → read m ≡ Some f → (valid l f ≡ true) × (m ≡ bytes l f)
