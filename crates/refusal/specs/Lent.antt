-- What a call that is lent memory answers and leaves there (document 01, "Numbers that come back"): a refusal leaves every byte as it was, an answer
-- of n bytes stands at the front and the rest stays, and R1 is tested last.
-- A definition of a message or a key has the type Outcome and holds its tests for R5 or an alert; `Answers` adds the test of the room.
use Rattle.std.specs.Prelude.{◌≡◌, ℕ, cond, List, [], ◌++◌, length, drop, leb, Result, Ok, Err}
use Rattle.refusal.specs.declared.Refusal.{Refusal}
use Rattle.refusal.specs.declared.Refusal.TheVariants.{ShortOutput}

-- what there is to be written, whatever the room
pub data Outcome : Type 0 where
  gives : List ℕ → Outcome
  refuses : Refusal → Outcome

-- a value made from another one, which may be refused
abbrev pub and_then : Outcome → (List ℕ → Outcome) → Outcome
and_then (gives b) next = next b
and_then (refuses r) next = refuses r

-- the bytes of a value, none where it is refused
abbrev pub bytes_of : Outcome → List ℕ
bytes_of (gives b) = b
bytes_of (refuses r) = []

-- R1: the room is shorter than the answer; tested where nothing else refuses
abbrev pub within : ℕ → Outcome → Outcome
within room (gives bytes) = cond (leb (length bytes) room) (gives bytes) (refuses ShortOutput)
within room (refuses r) = refuses r

-- what the caller is told
abbrev pub answer : Outcome → Result ℕ Refusal
answer (gives bytes) = Ok (length bytes)
answer (refuses r) = Err r

-- the memory `out` afterwards
abbrev pub after : Outcome → List ℕ → List ℕ
after (gives bytes) out = bytes ++ drop (length bytes) out
after (refuses r) out = out

-- A call that was lent `out` for the outcome `wanted` said `said` and left `out'`.
pub record Answers (wanted : Outcome) (out : List ℕ) (said : Result ℕ Refusal) (out' : List ℕ) : Type 0 where
  pub told : said ≡ answer (within (length out) wanted)
  pub left : out' ≡ after (within (length out) wanted) out
