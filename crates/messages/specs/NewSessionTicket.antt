-- NewSessionTicket (document 01, "Message layouts"; the ticket draft, section 3.3): lifetime hint 4 bytes, ticket with 2-byte length.
use Rattle.std.specs.Prelude.{ℕ, ◌^◌, ◌&&◌, List, ◌++◌, take, drop, ltb, Option, None, Some}
use Rattle.endian.specs.Number.{be, number}
use Rattle.endian.specs.Vector.{vector, writable}
use Rattle.layout.specs.declared.Part.{Part}
use Rattle.messages.specs.declared.ticket.Ticket.{Ticket}
use Rattle.layout.specs.Types.{new_session_ticket_type}
use Rattle.layout.specs.Layout.{Layout}
use Rattle.layout.specs.Header.{header}
use Rattle.layout.specs.Place.{last_at, after_header}

pub record NewSessionTicket : Type 0 where
  pub lifetime_hint : ℕ
  pub ticket : List ℕ

abbrev pub new_session_ticket : Layout NewSessionTicket
new_session_ticket = record {
  kind = new_session_ticket_type;
  rules = λ f. ltb f.lifetime_hint (256 ^ 4) && writable 2 f.ticket;
  body = λ f. be 4 f.lifetime_hint ++ vector 2 f.ticket;
}

-- where the ticket stands, with the lifetime hint
abbrev pub with_hint : List ℕ → Option Part → Option Ticket
with_hint m (Some p) = Some (record { lifetime_hint = number (take 4 (drop 4 m)); ticket = p })
with_hint m None = None

abbrev pub ticket_place : List ℕ → Option Ticket
ticket_place m = with_hint m (after_header (header new_session_ticket_type m) (last_at 2 m 8))

-- the fields that a reader finds
abbrev pub ticket_fields : List ℕ → Option Ticket → Option NewSessionTicket
ticket_fields m (Some t) = Some (record { lifetime_hint = t.lifetime_hint; ticket = take t.ticket.len (drop t.ticket.start m) })
ticket_fields m None = None

abbrev pub read_ticket : List ℕ → Option NewSessionTicket
read_ticket m = ticket_fields m (ticket_place m)
