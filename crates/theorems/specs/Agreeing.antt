-- The first half of demand 3 for any two tables whose lookups agree outside a set of identities; specs/Demand3.antt's is the case of one line removed.
-- proofs/Sameness.antt proves it.
use Rattle.std.specs.Prelude.{◌≡◌, ◌⊎◌, ℕ, true, List, None}
use Rattle.handshake.specs.Series.{Call}
use Rattle.server.specs.Connection.{Settings, acceptable, start_answer}
use Rattle.server.specs.KeyExchange.{View}
use Rattle.theorems.specs.Series.{answers}
use Rattle.theorems.specs.Demand3.{Hiding, Alike, NoneJudgedRight}

-- both tables have the same for an identity, or the identity is one of the set
abbrev pub AgreeOutside : (List ℕ → Type 0) → View → View → Type 0
AgreeOutside Set v v' = (identity : List ℕ) → (v.lookup identity ≡ v'.lookup identity) ⊎ Set identity

-- no Finished right under the key that either server has for an identity of the set is judged after a ClientKeyExchange that named it
abbrev pub NoneJudgedRightOf : (List ℕ → Type 0) → Settings → View → View → List Call → Type 0
NoneJudgedRightOf Set s v v' calls = (identity : List ℕ) → Set identity → NoneJudgedRight s v identity calls × NoneJudgedRight s v' identity calls

abbrev pub SamenessOfLookups : Type 1
SamenessOfLookups =
    (s s' : Settings) → Alike s s' → acceptable s ≡ true → Hiding s.named → Hiding s'.named
    → (Set : List ℕ → Type 0) (v v' : View) → v.refusal ≡ None → v'.refusal ≡ None → AgreeOutside Set v v'
    → (calls : List Call) → NoneJudgedRightOf Set s v v' calls
    → answers v (start_answer s).next calls ≡ answers v' (start_answer s').next calls
