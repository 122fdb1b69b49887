-- Both ends complete (document 02, P7): the full handshake between our client and our server, drawn arrow by arrow. proofs/BothEnds.antt proves it.
-- Another exchange is another such drawing: `Starts`, `Takes` and `Changes` say what one arrow is, on either side.
use Rattle.std.specs.Prelude.{◌≡◌, ℕ, ◌≤◌, true, List, [], ◌∷◌, ◌++◌, length, drop, Ok, Some}
use Rattle.refusal.specs.Lent.{gives}
use Rattle.keys.specs.Secrets.{keys}
use Rattle.keytable.specs.Starts.{is_list}
use Rattle.keytable.specs.Table.{well_formed, key_of}
use Rattle.handshake.specs.Flight.{joined}
use Rattle.handshake.specs.Protocol.{suites}
use Rattle.handshake.specs.Series.{Call, message, change_of_cipher}
use Rattle.handshake.specs.Step.{Settled}
use Rattle.client.specs.declared.Connection as Client
use Rattle.client.specs.declared.Phase as ClientPhase
use Rattle.client.specs.Connection as ClientStart
use Rattle.client.specs.Message as ClientMessage
use Rattle.server.specs.declared.Connection as Server
use Rattle.server.specs.declared.Phase as ServerPhase
use Rattle.server.specs.Connection as ServerStart
use Rattle.server.specs.Message as ServerMessage
use Rattle.server.specs.KeyExchange.{View, view_of}
use Rattle.theorems.specs.Series as ServerSeries
use Rattle.client_theorems.specs.Series as ClientSeries

-- ---- one arrow: what a call gives back, whole, wherever its output has room

-- A message m is handed to the connection c: it is answered with these bytes, at the front of the output, and the connection goes on as `next`.
abbrev pub Takes : {C : Type 0} → (C → Call → Settled C) → (c : C) → (m answer : List ℕ) → (next : C) → Type 0
Takes call c m answer next =
    (out : List ℕ) → length answer ≤ length out
    → call c (message m out) ≡ record { said = Ok (length answer); out = answer ++ drop (length answer) out; next = next }

-- messages one after the other, which are not answered
abbrev pub TakesAll : {C : Type 0} → (C → Call → Settled C) → (c : C) → List (List ℕ) → (next : C) → Type 0
TakesAll call c [] next = c ≡ next
TakesAll {C} call c (m ∷ ms) next = (then : C) × Takes call c m [] then × TakesAll call then ms next

-- a change of cipher, which is not answered
abbrev pub Changes : {C : Type 0} → (C → Call → Settled C) → (c next : C) → Type 0
Changes call c next = call c change_of_cipher ≡ record { said = Ok 0; out = []; next = next }

-- the client's start, which gives its hello
abbrev pub Starts : ClientStart.Settings → (hello : List ℕ) → (next : Client.Connection) → Type 0
Starts s hello next =
    (out : List ℕ) → length hello ≤ length out
    → ClientStart.start_call s out ≡ record { said = Ok (length hello); out = hello ++ drop (length hello) out; next = next }

-- ---- the exchange

pub record FullHandshake (client : ClientStart.Settings) (server : ServerStart.Settings) (v : View) : Type 0 where
  -- ClientHello ──►
  pub client_hello : List ℕ
  pub c₀ : Client.Connection
  pub sends_hello : Starts client client_hello c₀
  -- ◄── ServerHello, ServerKeyExchange where there is a hint, ServerHelloDone
  pub server_hello : List ℕ
  pub hints : List (List ℕ)
  pub server_hello_done : List ℕ
  pub s₁ : Server.Connection
  pub answers_hello : Takes (ServerSeries.call v) (ServerStart.started server) client_hello (server_hello ++ (joined hints ++ server_hello_done)) s₁
  pub c₁ : Client.Connection
  pub takes_hello : Takes ClientSeries.call c₀ server_hello [] c₁
  pub c₂ : Client.Connection
  pub takes_hints : TakesAll ClientSeries.call c₁ hints c₂
  -- ClientKeyExchange, a change of cipher and Finished ──►
  pub client_key_exchange : List ℕ
  pub client_finished : List ℕ
  pub c₃ : Client.Connection
  pub answers_done : Takes ClientSeries.call c₂ server_hello_done (client_key_exchange ++ client_finished) c₃
  pub s₂ : Server.Connection
  pub takes_exchange : Takes (ServerSeries.call v) s₁ client_key_exchange [] s₂
  pub s₃ : Server.Connection
  pub takes_change : Changes (ServerSeries.call v) s₂ s₃
  -- ◄── a change of cipher and Finished
  pub server_finished : List ℕ
  pub s₄ : Server.Connection
  pub answers_finished : Takes (ServerSeries.call v) s₃ client_finished server_finished s₄
  pub c₄ : Client.Connection
  pub hears_change : Changes ClientSeries.call c₃ c₄
  pub c₅ : Client.Connection
  pub takes_finished : Takes ClientSeries.call c₄ server_finished [] c₅
  -- both are complete
  pub client_complete : c₅.phase ≡ ClientPhase.Phase.Complete
  pub server_complete : s₄.phase ≡ ServerPhase.Phase.Complete
  -- each host was handed the same master secret: the client's with its answer to ServerHelloDone, the server's with the ClientKeyExchange
  pub master : List ℕ
  pub client_master : (n : ℕ) → ClientMessage.handed_over (Ok n) c₃ ≡ Some master
  pub server_master : ServerMessage.handed_over s₁.phase (ServerMessage.message_step v s₁ client_key_exchange s₁.phase) ≡ Some master
  -- each end knows the same suite, and makes the same key block of its own random and the one that it was sent
  pub client_suite : c₁.server.suite ≡ 0x00AE
  pub server_suite : s₁.client.suite ≡ 0x00AE
  pub key_block : List ℕ
  pub client_key_block : keys master c₁.server.random client.random c₁.server.suite ≡ gives key_block
  pub server_key_block : keys master server.random s₁.client.random s₁.client.suite ≡ gives key_block

-- For every accepted setting of each, either rule and any hint among them, and every well-formed table, with its own list, that gives the client's identity the
-- client's key.
abbrev pub BothEndsComplete : Type 0
BothEndsComplete =
    (client : ClientStart.Settings) (server : ServerStart.Settings) → ClientStart.acceptable client ≡ true → ServerStart.acceptable server ≡ true
    → server.suites ≡ suites
    → (table starts : List ℕ) (count : ℕ) → well_formed table ≡ true → is_list table starts count ≡ true
    → key_of table client.identity ≡ Some client.key
    → FullHandshake client server (view_of table starts count)
