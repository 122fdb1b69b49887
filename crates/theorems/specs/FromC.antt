-- Demand 3 for a series of C calls on the same lent bytes, in the numbers that C sees. proofs/FromC.antt proves both halves.
use Rattle.std.specs.Prelude.{◌≡◌, ◌⊎◌, ◌↔◌, ℕ, true, List, [], ◌∷◌, ℤ, pos}
use Rattle.keytable.specs.Table.{well_formed}
use Rattle.keytable.specs.Starts.{is_list}
use Rattle.keytable.specs.WellFormed.{LineRemoved}
use Rattle.handshake.specs.Protocol.{suites}
use Rattle.handshake.specs.Series.{Call}
use Rattle.server.specs.Connection.{Settings}
use Rattle.server.specs.KeyExchange.{View, view_of}
use Rattle.saved.specs.Saved.{restored, phase_byte}
use Rattle.c_interface.specs.Connections.{Keeps, Starts, start_call, named_of}
use Rattle.theorems.specs.Series.{call}
use Rattle.theorems.specs.Demand3.{NoneJudgedRight, CameRight}

-- what a C call gave back: its result, and the lent output afterwards
pub record Given : Type 0 where
  pub result : ℤ
  pub out : List ℕ

-- One call of tn_message, tn_change_of_cipher or tn_alert on the bytes of a connection, as the contracts of these exports have it: `keeps` is their
-- promise, and `left` tn_message's on the output; the other two are lent none.
pub record Called (v : View) (x : Call) (bytes : List ℕ) (given : Given) (bytes' : List ℕ) : Type 0 where
  pub keeps : Keeps (call v (restored bytes) x) bytes given.result bytes'
  pub left : given.out ≡ (call v (restored bytes) x).out

-- a series of them: each gets the bytes as the call before left them
pub data Series (v : View) : List ℕ → List Call → List Given → List ℕ → Type 0 where
  none : {bytes : List ℕ} → Series v bytes [] [] bytes
  one : {bytes next last : List ℕ} {x : Call} {xs : List Call} {given : Given} {rest : List Given}
      → Called v x bytes given next → Series v next xs rest last → Series v bytes (x ∷ xs) (given ∷ rest) last

-- the settings of tn_start's arguments
abbrev pub settings_of : (random hint stand_in : List ℕ) → ℕ → Settings
settings_of random hint stand_in rule = record { random = random; hint = hint; stand_in = stand_in; named = named_of rule; suites = suites }

-- tn_start returned 0 and left these bytes
abbrev pub Started : (random hint stand_in : List ℕ) → ℕ → List ℕ → Type 0
Started random hint stand_in rule bytes = (before : List ℕ) × Starts (start_call random hint stand_in rule) before (pos 0) bytes

-- the hiding rule: rule 2 is hide, and 0 names none
abbrev pub HidingInC : ℕ → Type 0
HidingInC rule = (rule ≡ 2) ⊎ (rule ≡ 0)

-- first half: results and outputs are alike on the two servers
abbrev pub SamenessFromC : Type 0
SamenessFromC =
    (random hint stand_in : List ℕ) (rule rule' : ℕ) → HidingInC rule → HidingInC rule'
    → (bytes bytes' : List ℕ) → Started random hint stand_in rule bytes → Started random hint stand_in rule' bytes'
    → (identity table without : List ℕ) → LineRemoved identity table without → well_formed table ≡ true → well_formed without ≡ true
    → (starts starts' : List ℕ) (count count' : ℕ) → is_list table starts count ≡ true → is_list without starts' count' ≡ true
    → (calls : List Call) → NoneJudgedRight (settings_of random hint stand_in rule) (view_of table starts count) identity calls
    → (given given' : List Given) (last last' : List ℕ)
    → Series (view_of table starts count) bytes calls given last → Series (view_of without starts' count') bytes' calls given' last'
    → given ≡ given'

-- second half: tn_phase is 5 after the series exactly where the right calls came
abbrev pub CompletesExactlyFromC : Type 0
CompletesExactlyFromC =
    (random hint stand_in : List ℕ) (rule : ℕ) (bytes : List ℕ) → Started random hint stand_in rule bytes
    → (table starts : List ℕ) (count : ℕ) (calls : List Call) (given : List Given) (last : List ℕ) → Series (view_of table starts count) bytes calls given last
    → (phase_byte (restored last).phase ≡ 5) ↔ CameRight (settings_of random hint stand_in rule) (view_of table starts count) calls
