-- The types of the handshake messages (RFC 5246, section 7.4; RFC 5077, section 3.3), and the sizes that document 01 sets.
use Rattle.std.specs.Prelude.{ℕ}

abbrev pub client_hello_type : ℕ
client_hello_type = 1

abbrev pub server_hello_type : ℕ
server_hello_type = 2

abbrev pub new_session_ticket_type : ℕ
new_session_ticket_type = 4

abbrev pub server_key_exchange_type : ℕ
server_key_exchange_type = 12

abbrev pub server_hello_done_type : ℕ
server_hello_done_type = 14

abbrev pub client_key_exchange_type : ℕ
client_key_exchange_type = 16

abbrev pub finished_type : ℕ
finished_type = 20

-- the most bytes of a message, header included, to read and to write (the house's limit)
abbrev pub message_limit : ℕ
message_limit = 16384
