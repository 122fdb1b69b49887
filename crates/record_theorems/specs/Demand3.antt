-- Demand 3 for record connections, both halves (document 02, P5): each is one statement about every series of records taken and data sent from an
-- accepted start. specs/Series.antt has the calls and the run, specs/Terms.antt the terms.
use Rattle.std.specs.Prelude.{◌≡◌, ◌↔◌, ℕ, true, List, ◌∷◌, ◌++◌, Ok, None, Some}
use Rattle.refusal.specs.Lent.{gives, bytes_of}
use Rattle.keytable.specs.Table.{well_formed}
use Rattle.keytable.specs.Starts.{is_list}
use Rattle.keytable.specs.WellFormed.{LineRemoved}
use Rattle.server.specs.declared.Phase.{Phase}
use Rattle.server.specs.Connection.{Settings, acceptable}
use Rattle.server.specs.KeyExchange.{View, view_of}
use Rattle.records.specs.declared.ContentType.{ContentType}
use Rattle.records.specs.Record.{record_read}
use Rattle.records.specs.Protection.{mac_length, right_mac}
use Rattle.record_server.specs.Connection.{offered, record_start}
use Rattle.theorems.specs.Terms.{LegalFinished}
use Rattle.theorems.specs.Demand3.{Hiding, Alike}
use Rattle.theorems.specs.Agreeing.{AgreeOutside}
use Rattle.record_theorems.specs.Series.{Call, takes, Kept, run, answers, came}
use Rattle.record_theorems.specs.Terms.{under, Sealed, ChangeCame, named, client_key, right_value}

-- ---- the start of a series

-- what start gave, and memory of this content
abbrev pub begun : Settings → (memory : List ℕ) → Kept
begun s memory = record { connection = (record_start s).next; memory = memory }

-- accepted settings of a record connection, which offers one suite
pub record Accepted (s : Settings) : Type 0 where
  pub suites : s.suites ≡ offered
  pub acceptable : acceptable s ≡ true

-- ---- first half: under the hiding rule, nothing tells which identities are listed

-- The record that ends the sameness: after a ClientKeyExchange that named the identity and a change of cipher, the MAC of a record is judged right
-- under the identity's key. It is judged where it meets every test that stands before the MAC's, whatever answer follows, R1 too; it is the first
-- record that is protected, since the connection is closed where its MAC is wrong. A key without a master secret, which no table has, leads to the
-- empty MAC key.
pub record JudgedRight (s : Settings) (v : View) (memory identity : List ℕ) (calls : List Call) (x : Call) : Type 0 where
  pub awaits : ChangeCame s (came v (begun s memory) calls)
  pub names : named s awaits ≡ identity
  pub key : List ℕ
  pub listed : v.lookup identity ≡ Some key
  pub bytes : List ℕ
  pub out : List ℕ
  pub is : x ≡ takes bytes out
  pub kind : ContentType
  pub tested : record_read mac_length bytes ≡ Ok kind
  pub right : right_mac (under (bytes_of (client_key s awaits key)) 0) bytes ≡ true

-- No call of the series is such a one. A series that has one is compared as far as the call before it.
abbrev pub NoneJudgedRight : Settings → View → (memory identity : List ℕ) → List Call → Type 0
NoneJudgedRight s v memory identity calls =
    (before : List Call) (x : Call) (after : List Call) → calls ≡ before ++ (x ∷ after) → ¬ JudgedRight s v memory identity before x

-- for any two tables whose lookups agree outside a set of identities
abbrev pub SamenessOfLookups : Type 1
SamenessOfLookups =
    (s s' : Settings) → Alike s s' → Accepted s → Hiding s.named → Hiding s'.named
    → (Set : List ℕ → Type 0) (v v' : View) → v.refusal ≡ None → v'.refusal ≡ None → AgreeOutside Set v v'
    → (memory : List ℕ) → (calls : List Call)
    → ((identity : List ℕ) → Set identity → NoneJudgedRight s v memory identity calls × NoneJudgedRight s v' memory identity calls)
    → answers v (begun s memory) calls ≡ answers v' (begun s' memory) calls

-- Two servers with the same random, hint and stand-in key, under the hiding rule, with the same memory lent. Their tables are well formed, each with its
-- own list of line starts, no call changes them, and the second table is the first without the line of one identity.
abbrev pub Sameness : Type 0
Sameness =
    (s s' : Settings) → Alike s s' → Accepted s → Hiding s.named → Hiding s'.named
    → (identity table without : List ℕ) → LineRemoved identity table without → well_formed table ≡ true → well_formed without ≡ true
    → (starts starts' : List ℕ) (count count' : ℕ) → is_list table starts count ≡ true → is_list without starts' count' ≡ true
    → (memory : List ℕ) → (calls : List Call) → NoneJudgedRight s (view_of table starts count) memory identity calls
    → answers (view_of table starts count) (begun s memory) calls ≡ answers (view_of without starts' count') (begun s' memory) calls

-- ---- second half: completes exactly when, under either rule, with a table well formed or not and any list

-- Of the records that came, ignored warnings apart: first unprotected handshake records that joined are a legal ClientHello and a legal
-- ClientKeyExchange naming a listed identity, and nothing more; then one change of cipher; then handshake records, each with the MAC that the
-- identity's key gives under its number, that joined are a Finished which is right under that key, and nothing more.
pub record CameRight (s : Settings) (v : View) (calls : List Call) : Type 0 where
  pub first : List Call
  pub began : ChangeCame s first
  pub key : List ℕ
  pub listed : v.lookup (named s began) ≡ Some key
  pub mac_key : List ℕ
  pub under-key : client_key s began key ≡ gives mac_key
  pub sealed : List Call
  pub finished : List ℕ
  pub protected : Sealed mac_key 0 sealed finished
  pub legal : LegalFinished finished
  pub right : right_value s began key ≡ gives legal.value
  pub rest : List Call
  pub is : calls ≡ first ++ (sealed ++ rest)

-- at some call of the series the connection is handed back complete; it may be closed later
pub record Completes (v : View) (k : Kept) (calls : List Call) : Type 0 where
  pub before : List Call
  pub after : List Call
  pub is : calls ≡ before ++ after
  pub complete : (run v k before).connection.handshake.phase ≡ Phase.Complete

abbrev pub CompletesExactly : Type 0
CompletesExactly =
    (s : Settings) → Accepted s → (memory : List ℕ) (table starts : List ℕ) (count : ℕ) (calls : List Call)
    → Completes (view_of table starts count) (begun s memory) calls
    ↔ CameRight s (view_of table starts count) (came (view_of table starts count) (begun s memory) calls)
