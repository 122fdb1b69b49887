-- What a layout reader says, as the fields that C is given. A place is its start and its length. And the block that C gives a writer.
use Rattle.std.specs.Prelude.{ℕ, Bool, cond, List, [], ◌∷◌, length, leb, pos, None, Some, Option}
use Rattle.refusal.specs.declared.Refusal.TheVariants.{DecodeError}
use Rattle.layout.specs.declared.Part.{Part}
use Rattle.messages.specs.declared.ticket.Ticket.{Ticket}
use Rattle.hellos.specs.declared.server_hello.Server.{Server}
use Rattle.hellos.specs.declared.client_hello.Client.{Client}
use Rattle.extensions.specs.declared.Step.{Step}
use Rattle.extensions.specs.Extensions.{step_at}
use Rattle.c_interface.specs.Codes.{Reading, accepted, rejected}

abbrev pub part_read : Option Part → Reading
part_read (Some p) = accepted (p.start ∷ p.len ∷ [])
part_read None = rejected DecodeError

-- whether the block is present, its start and its length
abbrev pub block_fields : Option Part → List ℕ
block_fields None = 0 ∷ 0 ∷ 0 ∷ []
block_fields (Some p) = 1 ∷ p.start ∷ p.len ∷ []

-- the block that C gives a writer: a flag, and bytes that count only where it is true
abbrev pub block_given : Bool → List ℕ → Option (List ℕ)
block_given present b = cond present (Some b) None

-- version, session id's length, suites, compression methods, block; the random stands at 6, the session id at 39
abbrev pub client_read : Option Client → Reading
client_read (Some c) =
    accepted (c.version ∷ c.session_len ∷ c.suites.start ∷ c.suites.len ∷ c.methods.start ∷ c.methods.len ∷ block_fields c.block)
client_read None = rejected DecodeError

-- version, session id's length, suite, compression method, block; the random stands at 6, the session id at 39
abbrev pub server_read : Option Server → Reading
server_read (Some s) = accepted (s.version ∷ s.session_len ∷ s.suite ∷ s.compression ∷ block_fields s.block)
server_read None = rejected DecodeError

-- lifetime hint, ticket
abbrev pub ticket_read : Option Ticket → Reading
ticket_read (Some t) = accepted (t.lifetime_hint ∷ t.ticket.start ∷ t.ticket.len ∷ [])
ticket_read None = rejected DecodeError

-- type, data
abbrev pub step_read : Step → Reading
step_read (Step.Extension kind start len) = record { code = pos 1; fields = Some (kind ∷ start ∷ len ∷ []) }
step_read Step.End = record { code = pos 0; fields = None }
step_read Step.Refused = rejected DecodeError

-- No block of a hello is longer than its two-byte length says: 50 for more.
abbrev pub extension_read : List ℕ → ℕ → Reading
extension_read block at = cond (leb (length block) 65535) (step_read (step_at block at)) (rejected DecodeError)
