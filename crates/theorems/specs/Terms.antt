-- Document 01's terms for demand 3 ("The series of demand 3"), said of the calls, the settings and the table alone: nothing here speaks of the state
-- that a server keeps. A message is legal by the layouts' readers, and its value right by the definitions of "Secrets".
use Rattle.std.specs.Prelude.{◌≡◌, ◌⊎◌, ℕ, ◌≤◌, ◌<◌, true, false, List, [], ◌∷◌, ◌++◌, length, Ok, None, Some}
use Rattle.refusal.specs.declared.Refusal.{Refusal}
use Rattle.refusal.specs.Table.{to_peer}
use Rattle.refusal.specs.Lent.{Outcome, gives}
use Rattle.sha256.specs.Hash.{sha256}
use Rattle.keys.specs.declared.Side.TheVariants.{Client}
use Rattle.keys.specs.Secrets.{verify_data}
use Rattle.layout.specs.Header.{header}
use Rattle.hellos.specs.ClientHello.{ClientHello, read_client_hello}
use Rattle.messages.specs.KeyExchange.{read_vector}
use Rattle.messages.specs.Fixed.{read_fixed}
use Rattle.lists.specs.Lists.{Each}
use Rattle.handshake.specs.Finished.{verify_data_length, finished_length}
use Rattle.handshake.specs.Flight.{Flight, flight_bytes}
use Rattle.handshake.specs.Protocol.{tls12}
use Rattle.handshake.specs.Series.{Call, message, change_of_cipher, IgnoredWarning}
use Rattle.server.specs.Connection.{Settings}
use Rattle.server.specs.KeyExchange.{View}
use Rattle.keys.specs.Secrets.{master_under}
use Rattle.refusal.specs.Lent.{and_then}
use Rattle.layout.specs.Types.{client_key_exchange_type, finished_type}
use Rattle.server.specs.Hello.{chosen, offers_null, flight}

-- ---- Legal: what meets the tests on header and limit, which the readers make, and those of its step that answer with an alert, apart from two: whether
-- the identity is listed and the Finished value right. A change of cipher always is legal.

-- of a server that chooses from these suites
pub record LegalHello (ours m : List ℕ) : Type 0 where
  pub fields : ClientHello
  pub read : read_client_hello m ≡ Some fields
  pub version : tls12 ≤ fields.version
  pub null : offers_null fields.methods ≡ true
  pub suite : ℕ
  pub common : chosen ours fields.suites ≡ Some suite

pub record LegalKeyExchange (m : List ℕ) : Type 0 where
  pub identity : List ℕ
  pub read : read_vector client_key_exchange_type m ≡ Some identity

pub record LegalFinished (m : List ℕ) : Type 0 where
  pub value : List ℕ
  pub read : read_fixed finished_type verify_data_length m ≡ Some value

-- ---- what a connection's messages are, and what is right

-- the server's answer to a legal ClientHello, as messages and as bytes
abbrev pub answer_to : (s : Settings) → {hello : List ℕ} → LegalHello s.suites hello → Flight
answer_to s legal = flight s.random s.hint legal.suite

abbrev pub flight_to : (s : Settings) → {hello : List ℕ} → LegalHello s.suites hello → List ℕ
flight_to s legal = flight_bytes (answer_to s legal)

-- The Finished value that is right under a key: by the key's master secret, over the messages before the Finished, which are the ClientHello, the server's
-- answer and the ClientKeyExchange, headers included.
abbrev pub value_under : (s : Settings) → {hello : List ℕ} → LegalHello s.suites hello → (exchange key : List ℕ) → Outcome
value_under s {hello} legal exchange key =
    and_then (master_under key legal.fields.random s.random)
    (λ secret. and_then (sha256 (hello ++ (flight_to s legal ++ exchange))) (verify_data Client secret))

-- ---- what leaves a series where it was

-- what counts as not come: an ignored warning, or a call refused to the host; which calls those are depends on what came before
abbrev pub Aside : (Call → Type 0) → Call → Type 0
Aside RefusedToHost x = IgnoredWarning x ⊎ RefusedToHost x

-- R1 of a ClientHello: it is legal, and the output is shorter than the answer
pub record ShortHello (s : Settings) (x : Call) : Type 0 where
  pub hello : List ℕ
  pub out : List ℕ
  pub is : x ≡ message hello out
  pub legal : LegalHello s.suites hello
  pub short : length out < length (flight_to s legal)

-- Where the table or its list refuses, R2 or R10: the call meets each test that stands before that, the tests on the header.
pub record BadTableCall (v : View) (x : Call) : Type 0 where
  pub exchange : List ℕ
  pub out : List ℕ
  pub is : x ≡ message exchange out
  pub fits : header client_key_exchange_type exchange ≡ Ok tt
  pub refusal : Refusal
  pub bad : v.refusal ≡ Some refusal
  pub to_host : to_peer refusal ≡ false

-- ---- what came, call by call: each record says that its message came in its place and that nothing else did

pub record HelloCame (s : Settings) (calls : List Call) : Type 0 where
  pub before : List Call
  pub hello : List ℕ
  pub out : List ℕ
  pub is : calls ≡ before ++ (message hello out ∷ [])
  pub aside : Each (Aside (ShortHello s)) before
  pub legal : LegalHello s.suites hello
  pub room : length (flight_to s legal) ≤ length out

pub record KeyExchangeCame (s : Settings) (v : View) (calls : List Call) : Type 0 where
  pub first : List Call
  pub came : HelloCame s first
  pub between : List Call
  pub exchange : List ℕ
  pub out : List ℕ
  pub is : calls ≡ first ++ (between ++ (message exchange out ∷ []))
  pub aside : Each (Aside (BadTableCall v)) between
  pub good : v.refusal ≡ None
  pub legal : LegalKeyExchange exchange

pub record ChangeCame (s : Settings) (v : View) (calls : List Call) : Type 0 where
  pub first : List Call
  pub came : KeyExchangeCame s v first
  pub between : List Call
  pub is : calls ≡ first ++ (between ++ (change_of_cipher ∷ []))
  pub aside : Each IgnoredWarning between

-- ---- the Finished

module _ (s : Settings) (v : View) {calls : List Call} (came : ChangeCame s v calls) where
  -- the identity that the ClientKeyExchange named
  abbrev pub named : List ℕ
  named = came.came.legal.identity

  -- a legal Finished that is right under the key that the table has for that identity
  pub record RightFinished (m : List ℕ) : Type 0 where
    pub legal : LegalFinished m
    pub key : List ℕ
    pub listed : v.lookup named ≡ Some key
    pub right : value_under s came.came.came.legal came.came.exchange key ≡ gives legal.value

  -- R1 of a Finished: it is right, and its output has less room than the server's Finished takes
  pub record ShortFinished (x : Call) : Type 0 where
    pub finished : List ℕ
    pub out : List ℕ
    pub is : x ≡ message finished out
    pub right : RightFinished finished
    pub short : length out < finished_length

-- a Finished in its place: what came before it
pub record AwaitsFinished (s : Settings) (v : View) (calls : List Call) : Type 0 where
  pub first : List Call
  pub came : ChangeCame s v first
  pub between : List Call
  pub is : calls ≡ first ++ between
  pub aside : Each (Aside (ShortFinished s v came)) between
