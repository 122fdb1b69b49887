-- A handshake message of the server: which one is awaited, the order of its tests, and what the call gives back (document 01, "Numbers that come back"; document
-- 02, P7).
use Rattle.std.specs.Prelude.{ℕ, Bool, cond, List, get_or, eqb, Result, Ok, Err, Option, None, Some}
use Rattle.refusal.specs.declared.Refusal.{Refusal}
use Rattle.refusal.specs.declared.Refusal.TheVariants.{ConnectionOver, UnexpectedMessage}
use Rattle.layout.specs.Types.{server_hello_type, server_key_exchange_type, server_hello_done_type, finished_type}
use Rattle.layout.specs.Place.{last_at, filled_by, contents}
use Rattle.hellos.specs.ServerHello.{server_body, server_fields}
use Rattle.handshake.specs.Finished.{verify_data_length}
use Rattle.handshake.specs.Handed.{derived, with_master}
use Rattle.handshake.specs.declared.Reply.{Reply}
use Rattle.handshake.specs.Header.{header_test}
use Rattle.handshake.specs.Step.{refuse, after_tests, answered}
use Rattle.client.specs.declared.Phase.{Phase}
use Rattle.client.specs.declared.Connection.{Connection}
use Rattle.client.specs.Connection.{is_over}
use Rattle.client.specs.Exchange.{hint_step, blocks_under, done_step}
use Rattle.client.specs.Finished.{finished_step}
use Rattle.client.specs.Hello.{hello_step}
use Rattle.client.specs.Step.{Step, Settled, settled}

-- the message is a ServerKeyExchange by its type
abbrev pub brings_hint : List ℕ → Bool
brings_hint m = eqb (get_or m 0 0) server_key_exchange_type

-- The type of the message that is awaited in each phase, if one is. A server without a hint sends no ServerKeyExchange (RFC 4279, section 2), so that
-- ServerHelloDone is awaited in its place too; after one there is no second.
abbrev pub awaited : Phase → List ℕ → Option ℕ
awaited Phase.Hello m = Some server_hello_type
awaited Phase.KeyExchange m = Some (cond (brings_hint m) server_key_exchange_type server_hello_done_type)
awaited Phase.Done m = Some server_hello_done_type
awaited Phase.Change m = None
awaited Phase.Finished m = Some finished_type
awaited Phase.Complete m = None
awaited Phase.Closed m = None

-- The step of each phase, of a message that passed the tests on its header. No message passes in the other phases.
abbrev pub body_step : Connection → List ℕ → Phase → Step
body_step c m Phase.Hello = hello_step c m (server_fields m (server_body m))
body_step c m Phase.KeyExchange = cond (brings_hint m) (hint_step c m (contents m (last_at 2 m 4))) (done_step c m (contents m (filled_by 0 m)))
body_step c m Phase.Done = done_step c m (contents m (filled_by 0 m))
body_step c m Phase.Change = refuse UnexpectedMessage
body_step c m Phase.Finished = finished_step c (contents m (filled_by verify_data_length m))
body_step c m Phase.Complete = refuse UnexpectedMessage
body_step c m Phase.Closed = refuse UnexpectedMessage

-- R4, then the tests on the header, then the step's own; `settled` adds R1
abbrev pub message_step : Connection → List ℕ → Phase → Step
message_step c m phase = cond (is_over phase) (refuse ConnectionOver) (after_tests (header_test (awaited phase m) m) (body_step c m phase))

-- the call, which is lent an output
abbrev pub message_call : Connection → List ℕ → List ℕ → Settled
message_call c m out = settled c out (message_step c m c.phase)

-- The master secret that the host is handed for its records: with the answer to ServerHelloDone, behind which the connection awaits the change of cipher. R1
-- hands over none.
abbrev pub master_in : Phase → List ℕ → Option (List ℕ)
master_in Phase.Hello master = None
master_in Phase.KeyExchange master = None
master_in Phase.Done master = None
master_in Phase.Change master = Some master
master_in Phase.Finished master = None
master_in Phase.Complete master = None
master_in Phase.Closed master = None

abbrev pub handed_over : Result ℕ Refusal → Connection → Option (List ℕ)
handed_over (Ok n) next = master_in next.phase next.secrets.master
handed_over (Err r) next = None

-- how many blocks were hashed for it (document 02, P8)
abbrev pub blocks_in : Connection → List ℕ → Phase → ℕ
blocks_in c m Phase.Hello = 0
blocks_in c m Phase.KeyExchange = cond (brings_hint m) 0 (blocks_under c)
blocks_in c m Phase.Done = blocks_under c
blocks_in c m Phase.Change = 0
blocks_in c m Phase.Finished = 0
blocks_in c m Phase.Complete = 0
blocks_in c m Phase.Closed = 0

-- what a message is answered with
abbrev pub replied : Connection → List ℕ → Settled → Reply Connection
replied c m s = with_master (answered s) (derived (handed_over s.said s.next) (blocks_in c m c.phase))
