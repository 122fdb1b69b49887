-- Demand 3, both halves: each is one statement about every series of calls from an accepted start. specs/Series.antt has the calls and the run,
-- specs/Terms.antt the terms. proofs/Sameness.antt and proofs/Completion.antt prove them.
use Rattle.std.specs.Prelude.{◌≡◌, ◌⊎◌, ◌↔◌, ℕ, ◌≤◌, true, List, ◌∷◌, ◌++◌, length, Option, None, Some}
use Rattle.keytable.specs.Table.{well_formed}
use Rattle.keytable.specs.Starts.{is_list}
use Rattle.keytable.specs.WellFormed.{LineRemoved}
use Rattle.handshake.specs.Finished.{finished_length}
use Rattle.handshake.specs.Series.{Call, message}
use Rattle.server.specs.declared.Rule.{Rule}
use Rattle.server.specs.declared.Phase.{Phase}
use Rattle.server.specs.Connection.{Settings, acceptable, start_answer}
use Rattle.server.specs.KeyExchange.{View, view_of}
use Rattle.theorems.specs.Series.{run, answers}
use Rattle.theorems.specs.Terms.{AwaitsFinished, RightFinished, named}

-- ---- first half: under the hiding rule, nothing tells which identities are listed

-- the hiding rule: the setting is hide, or none is named
abbrev pub Hiding : Option Rule → Type 0
Hiding named = (named ≡ Some Rule.Hide) ⊎ (named ≡ None)

-- two servers' settings, alike but for the rule that each names
pub record Alike (s s' : Settings) : Type 0 where
  pub random : s.random ≡ s'.random
  pub hint : s.hint ≡ s'.hint
  pub stand_in : s.stand_in ≡ s'.stand_in
  pub suites : s.suites ≡ s'.suites

-- The call that ends the sameness: a Finished that is right under the identity's key is judged in its place, after a ClientKeyExchange that named the
-- identity. It is judged also where R1 follows, so nothing is asked of the output.
pub record JudgedRight (s : Settings) (v : View) (identity : List ℕ) (calls : List Call) (x : Call) : Type 0 where
  pub awaits : AwaitsFinished s v calls
  pub names : named s v awaits.came ≡ identity
  pub finished : List ℕ
  pub out : List ℕ
  pub is : x ≡ message finished out
  pub right : RightFinished s v awaits.came finished

-- No call of the series is such a one. A series that has one is compared as far as the call before it: that call itself is not.
abbrev pub NoneJudgedRight : Settings → View → List ℕ → List Call → Type 0
NoneJudgedRight s v identity calls =
    (before : List Call) (x : Call) (after : List Call) → calls ≡ before ++ (x ∷ after) → ¬ JudgedRight s v identity before x

-- Two servers with the same random, hint and stand-in key; the setting of each is hide, or none is named. Their tables are well formed, each with its
-- own list of line starts, so that neither R2 nor R10 ever comes; no call changes them, and the second table is the first without the line of one identity.
-- The answers are compared over the whole series: said of one call at a time, from alike connections, it would say nothing of a difference that a call
-- leaves behind for a later one to show.
abbrev pub Sameness : Type 0
Sameness =
    (s s' : Settings) → Alike s s' → acceptable s ≡ true → Hiding s.named → Hiding s'.named
    → (identity table without : List ℕ) → LineRemoved identity table without → well_formed table ≡ true → well_formed without ≡ true
    → (starts starts' : List ℕ) (count count' : ℕ) → is_list table starts count ≡ true → is_list without starts' count' ≡ true
    → (calls : List Call) → NoneJudgedRight s (view_of table starts count) identity calls
    → answers (view_of table starts count) (start_answer s).next calls ≡ answers (view_of without starts' count') (start_answer s').next calls

-- ---- second half: completes exactly when, under either rule, with a table well formed or not and any list

-- Legal messages and a change of cipher came in their order, with nothing else before their end but ignored warnings and calls refused to the host; the
-- identity is listed, and the Finished value is the one under its key.
pub record CameRight (s : Settings) (v : View) (calls : List Call) : Type 0 where
  pub before : List Call
  pub awaits : AwaitsFinished s v before
  pub finished : List ℕ
  pub out : List ℕ
  pub rest : List Call
  pub is : calls ≡ before ++ (message finished out ∷ rest)
  pub right : RightFinished s v awaits.came finished
  -- with less room it is refused to the host, and counts as not come
  pub room : finished_length ≤ length out

-- Nothing is assumed of the connection's state, of the table or of the list: with a table that has to be well formed the statement would leave out R2, with
-- a list that has to be its own R10, and with the state in the assumption it would say nothing of how a server gets there.
abbrev pub CompletesExactly : Type 0
CompletesExactly =
    (s : Settings) → acceptable s ≡ true → (table starts : List ℕ) (count : ℕ) (calls : List Call)
    → ((run (view_of table starts count) (start_answer s).next calls).phase ≡ Phase.Complete) ↔ CameRight s (view_of table starts count) calls
