-- A series of calls on one record connection (document 02, P5): records taken and data sent, as many and in whatever order.
use Rattle.std.specs.Prelude.{ℕ, Bool, false, cond, not, ◌&&◌, List, [], ◌∷◌, eqb, Result, Ok, Err}
use Rattle.refusal.specs.declared.Refusal.{Refusal}
use Rattle.refusal.specs.Table.{number_of, to_peer}
use Rattle.server.specs.KeyExchange.{View}
use Rattle.record_server.specs.declared.RecordConnection.{RecordConnection}
use Rattle.record_server.specs.Connection.{alert_of}
use Rattle.record_server.specs.Taking.{take_call}
use Rattle.record_server.specs.Sending.{send_call}

pub data Call : Type 0 where
  -- out: the bytes of the lent output before the call
  takes : (bytes out : List ℕ) → Call
  sends : (content out : List ℕ) → Call

-- what the host keeps between calls: the connection, and the memory that it lends for an unfinished message
pub record Kept : Type 0 where
  pub connection : RecordConnection
  pub memory : List ℕ

pub record Done : Type 0 where
  pub said : Result ℕ Refusal
  pub out : List ℕ
  pub kept : Kept

-- a call, by the very definitions that the contracts name
abbrev pub call : View → Kept → Call → Done
call v k (takes bytes out) =
    record {
      said = (take_call v k.connection bytes k.memory out).said;
      out = (take_call v k.connection bytes k.memory out).out;
      kept =
          record {
            connection = (take_call v k.connection bytes k.memory out).next;
            memory = (take_call v k.connection bytes k.memory out).memory;
          };
    }
call v k (sends content out) =
    record {
      said = (send_call k.connection content out).said;
      out = (send_call k.connection content out).out;
      kept = record { connection = (send_call k.connection content out).next; memory = k.memory };
    }

-- each call is made on what the one before left, also where that was refused, and with the same table
abbrev pub run : View → Kept → List Call → Kept
run v k [] = k
run v k (x ∷ xs) = run v (call v k x).kept xs

-- ---- what is compared

-- the alert or refusal or the answer's length, which are in what is said; all of the output afterwards; and the record of the alert that the host
-- then sends
pub record Seen : Type 0 where
  pub said : Result ℕ Refusal
  pub out : List ℕ
  pub alert : List ℕ

abbrev pub seen : Done → Seen
seen d = record { said = d.said; out = d.out; alert = alert_of d.kept.connection }

abbrev pub answers : View → Kept → List Call → List Seen
answers v k [] = []
answers v k (x ∷ xs) = seen (call v k x) ∷ answers v (call v k x).kept xs

-- ---- what came

-- Refused to the host with a number other than R4. Such a call counts as not come.
abbrev pub refused_to_host : Result ℕ Refusal → Bool
refused_to_host (Ok n) = false
refused_to_host (Err r) = not (to_peer r) && not (eqb (number_of r) 4)

-- the calls of a series that count as come
abbrev pub came : View → Kept → List Call → List Call
came v k [] = []
came v k (x ∷ xs) = cond (refused_to_host (call v k x).said) (came v (call v k x).kept xs) (x ∷ came v (call v k x).kept xs)
