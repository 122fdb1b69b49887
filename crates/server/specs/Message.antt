-- A handshake message: which one is awaited, the order of its tests, and what the call gives back (document 01, "Numbers that come back").
use Rattle.std.specs.Prelude.{ℕ, cond, List, Option, None, Some}
use Rattle.refusal.specs.declared.Refusal.TheVariants.{ConnectionOver, UnexpectedMessage}
use Rattle.layout.specs.Types.{client_hello_type, client_key_exchange_type, finished_type}
use Rattle.hellos.specs.ClientHello.{client_body, client_fields}
use Rattle.layout.specs.Place.{last_at, filled_by, contents}
use Rattle.handshake.specs.Finished.{verify_data_length}
use Rattle.handshake.specs.Handed.{derived, with_master}
use Rattle.handshake.specs.declared.Reply.{Reply}
use Rattle.handshake.specs.Header.{header_test}
use Rattle.handshake.specs.Step.{refuse, accept, after_tests, unless_refused, answered}
use Rattle.server.specs.declared.Phase.{Phase}
use Rattle.server.specs.declared.Connection.{Connection}
use Rattle.server.specs.Connection.{is_over}
use Rattle.server.specs.Step.{Step, Settled, settled}
use Rattle.server.specs.Hello.{hello_fields}
use Rattle.server.specs.KeyExchange.{View, identity_blocks, key_identity}
use Rattle.server.specs.Finished.{finished_value}

-- the type of the message that is awaited in each phase, if one is
abbrev pub awaited : Phase → Option ℕ
awaited Phase.Hello = Some client_hello_type
awaited Phase.KeyExchange = Some client_key_exchange_type
awaited Phase.Change = None
awaited Phase.Finished = Some finished_type
awaited Phase.Complete = None
awaited Phase.Closed = None

-- The step of each phase, of a message that passed the tests on its header; for a ClientKeyExchange the refusal of the table and its list stands before the
-- tests on the body. No message passes in the other phases.
abbrev pub body_step : View → Connection → List ℕ → Phase → Step
body_step v c m Phase.Hello = hello_fields c m (client_fields m (client_body m))
body_step v c m Phase.KeyExchange = unless_refused v.refusal (key_identity v.lookup c m (contents m (last_at 2 m 4)))
body_step v c m Phase.Change = refuse UnexpectedMessage
body_step v c m Phase.Finished = finished_value c m (contents m (filled_by verify_data_length m))
body_step v c m Phase.Complete = refuse UnexpectedMessage
body_step v c m Phase.Closed = refuse UnexpectedMessage

-- R4, then the tests on the header, then the step's own; `settled` adds R1
abbrev pub message_step : View → Connection → List ℕ → Phase → Step
message_step v c m phase = cond (is_over phase) (refuse ConnectionOver) (after_tests (header_test (awaited phase) m) (body_step v c m phase))

-- the call, which is lent an output
abbrev pub message_call : View → Connection → List ℕ → List ℕ → Settled
message_call v c m out = settled c out (message_step v c m c.phase)

-- the master secret that the host is handed for its records: where a ClientKeyExchange was accepted
abbrev pub handed_over : Phase → Step → Option (List ℕ)
handed_over Phase.Hello step = None
handed_over Phase.KeyExchange (refuse r) = None
handed_over Phase.KeyExchange (accept flight next) = Some next.secrets.master
handed_over Phase.Change step = None
handed_over Phase.Finished step = None
handed_over Phase.Complete step = None
handed_over Phase.Closed step = None

-- how many blocks were hashed for it (document 02, P8)
abbrev pub blocks_in : View → Connection → List ℕ → Phase → ℕ
blocks_in v c m Phase.Hello = 0
blocks_in v c m Phase.KeyExchange = identity_blocks v.lookup c (contents m (last_at 2 m 4))
blocks_in v c m Phase.Change = 0
blocks_in v c m Phase.Finished = 0
blocks_in v c m Phase.Complete = 0
blocks_in v c m Phase.Closed = 0

-- what a message is answered with
abbrev pub message_reply : View → Connection → List ℕ → List ℕ → Reply Connection
message_reply v c m out =
    with_master (answered (message_call v c m out))
    (derived (handed_over c.phase (message_step v c m c.phase)) (blocks_in v c m c.phase))
