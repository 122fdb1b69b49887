-- The terms of demand 3 ("The series of demand 3") for a client, said of the calls and the settings alone: nothing here speaks of the state that a client keeps.
-- A message is legal by the layouts' readers, and a value right by the definitions of "Secrets".
use Rattle.std.specs.Prelude.{◌≡◌, ℕ, ◌+◌, ◌≤◌, ◌<◌, true, List, [], ◌∷◌, ◌++◌, length, Some}
use Rattle.lists.specs.Lists.{Each}
use Rattle.refusal.specs.Lent.{Outcome, gives, and_then}
use Rattle.sha256.specs.Hash.{sha256}
use Rattle.keys.specs.declared.Side.TheVariants.{Client, Server}
use Rattle.keys.specs.Secrets.{master_under, verify_data}
use Rattle.layout.specs.Layout.{bytes}
use Rattle.layout.specs.Types.{server_key_exchange_type, server_hello_done_type}
use Rattle.hellos.specs.ServerHello.{ServerHello, read_server_hello}
use Rattle.messages.specs.KeyExchange.{client_key_exchange, read_vector}
use Rattle.messages.specs.Fixed.{read_fixed}
use Rattle.messages.specs.Fixed as Fixed
use Rattle.handshake.specs.Protocol.{tls12, suites}
use Rattle.handshake.specs.Series.{Call, message, change_of_cipher, IgnoredWarning}
use Rattle.client.specs.Connection.{Settings, hello}
use Rattle.client.specs.Hello.{among, bare}
use Rattle.theorems.specs.Terms.{LegalFinished, Aside}

-- ---- Legal: what meets the tests on header and limit, which the readers make, and those of its step, apart from whether the Finished value is right. A change of
-- cipher always is legal.

-- one of our suites, our version, no compression, no extension
pub record LegalServerHello (m : List ℕ) : Type 0 where
  pub fields : ServerHello
  pub read : read_server_hello m ≡ Some fields
  pub suite : among suites fields.suite ≡ true
  pub version : fields.version ≡ tls12
  pub compression : fields.compression ≡ 0
  pub extensions : bare fields.extensions ≡ true

-- with a hint of any content
pub record LegalServerKeyExchange (m : List ℕ) : Type 0 where
  pub hint : List ℕ
  pub read : read_vector server_key_exchange_type m ≡ Some hint

pub record LegalServerHelloDone (m : List ℕ) : Type 0 where
  pub body : List ℕ
  pub read : read_fixed server_hello_done_type 0 m ≡ Some body

-- ---- what the client sends, and what is right

-- the ClientKeyExchange names the identity
abbrev pub exchange_of : Settings → List ℕ
exchange_of s = bytes client_key_exchange s.identity

-- the bytes of the answer to a ServerHelloDone: the ClientKeyExchange and the client's Finished
abbrev pub answer_length : Settings → ℕ
answer_length s = length (exchange_of s) + 16

-- every message before the client's Finished, headers included: the ClientHello, the server's up to the ServerHelloDone, the ClientKeyExchange
abbrev pub messages_before : (s : Settings) → (from_server : List ℕ) → List ℕ
messages_before s from_server = hello s.random ++ (from_server ++ exchange_of s)

-- The server's Finished value that is right: by the key's master secret, over those messages and the client's Finished, whose own value is over those messages.
abbrev pub right_value : (s : Settings) → (serverRandom from_server : List ℕ) → Outcome
right_value s serverRandom from_server =
    and_then (master_under s.key s.random serverRandom) (λ secret.
    and_then (sha256 (messages_before s from_server)) (λ hash.
    and_then (verify_data Client secret hash) (λ own.
    and_then (sha256 (messages_before s from_server ++ bytes Fixed.finished own)) (verify_data Server secret))))

-- ---- what counts as not come: ignored warnings, and R1 of a ServerHelloDone, which is legal and whose output is shorter than the answer

pub record ShortDone (s : Settings) (x : Call) : Type 0 where
  pub done : List ℕ
  pub out : List ℕ
  pub is : x ≡ message done out
  pub legal : LegalServerHelloDone done
  pub short : length out < answer_length s

-- ---- what came, call by call: each record says that its message came in its place and that nothing else did

pub record ServerHelloCame (calls : List Call) : Type 0 where
  pub before : List Call
  pub hello : List ℕ
  pub out : List ℕ
  pub is : calls ≡ before ++ (message hello out ∷ [])
  pub aside : Each IgnoredWarning before
  pub legal : LegalServerHello hello

pub record ServerKeyExchangeCame (s : Settings) (calls : List Call) : Type 0 where
  pub first : List Call
  pub came : ServerHelloCame first
  pub between : List Call
  pub exchange : List ℕ
  pub out : List ℕ
  pub is : calls ≡ first ++ (between ++ (message exchange out ∷ []))
  pub aside : Each (Aside (ShortDone s)) between
  pub legal : LegalServerKeyExchange exchange

-- a ServerHelloDone is in its place behind either, since a server without a hint sends no ServerKeyExchange
pub data HintOrNone (s : Settings) (calls : List Call) : Type 0 where
  no_hint : ServerHelloCame calls → HintOrNone s calls
  hinted : ServerKeyExchangeCame s calls → HintOrNone s calls

-- the ServerHello that came
abbrev pub hello_in : {s : Settings} {calls : List Call} → HintOrNone s calls → (m : List ℕ) × LegalServerHello m
hello_in (no_hint came) = (came.hello, came.legal)
hello_in (hinted came) = (came.came.hello, came.came.legal)

-- the server's messages so far, one behind the other
abbrev pub messages_in : {s : Settings} {calls : List Call} → HintOrNone s calls → List ℕ
messages_in (no_hint came) = came.hello
messages_in (hinted came) = came.came.hello ++ came.exchange

pub record ServerHelloDoneCame (s : Settings) (calls : List Call) : Type 0 where
  pub first : List Call
  pub came : HintOrNone s first
  pub between : List Call
  pub done : List ℕ
  pub out : List ℕ
  pub is : calls ≡ first ++ (between ++ (message done out ∷ []))
  pub aside : Each (Aside (ShortDone s)) between
  pub legal : LegalServerHelloDone done
  pub room : answer_length s ≤ length out

pub record ChangeCame (s : Settings) (calls : List Call) : Type 0 where
  pub first : List Call
  pub came : ServerHelloDoneCame s first
  pub between : List Call
  pub is : calls ≡ first ++ (between ++ (change_of_cipher ∷ []))
  pub aside : Each IgnoredWarning between

-- ---- the Finished: its value is the right one under the key that the client was started with

-- the server's random, and all its messages up to the ServerHelloDone
abbrev pub random_in : {s : Settings} {calls : List Call} → ServerHelloDoneCame s calls → List ℕ
random_in came = (hello_in came.came).1.fields.random

abbrev pub from_server : {s : Settings} {calls : List Call} → ServerHelloDoneCame s calls → List ℕ
from_server came = messages_in came.came ++ came.done

pub record RightFinished (s : Settings) {calls : List Call} (came : ChangeCame s calls) (m : List ℕ) : Type 0 where
  pub legal : LegalFinished m
  pub right : right_value s (random_in came.came) (from_server came.came) ≡ gives legal.value
