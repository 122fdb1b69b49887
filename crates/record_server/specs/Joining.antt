-- Handshake bytes (document 02, P5): each message that they finish goes through the server's step in turn, on the connection as the one before left
-- it.
use Rattle.std.specs.Prelude.{ℕ, zero, suc, Bool, true, false, cond, not, ◌&&◌, List, [], ◌∷◌, ◌++◌, length, take, drop, ltb, Result, Ok, Err, Option, None, Some}
use Rattle.refusal.specs.declared.Refusal.{Refusal}
use Rattle.refusal.specs.declared.Refusal.TheVariants.{UnexpectedMessage}
use Rattle.handshake.specs.Flight.{Flight, silence}
use Rattle.handshake.specs.Handed.{derived}
use Rattle.handshake.specs.declared.Derived.{Derived}
use Rattle.handshake.specs.Header.{early_test}
use Rattle.handshake.specs.Step as Shared
use Rattle.server.specs.declared.Connection.{Connection}
use Rattle.server.specs.KeyExchange.{View}
use Rattle.server.specs.Step.{Step}
use Rattle.server.specs.Message.{awaited, message_step, handed_over, blocks_in}
use Rattle.records.specs.Joining.{message_end}
use Rattle.record_server.specs.Connection.{is_complete}

-- how far the bytes have been judged: the connection, what is to be sent, the master secret with the number of its blocks if one is handed over, and the
-- bytes that are left
pub record Progress : Type 0 where
  pub connection : Connection
  pub flight : Flight
  pub master : Option Derived
  pub left : List ℕ

pub data Judged : Type 0 where
  refuse : Refusal → Judged
  goes_on : Progress → Judged

abbrev pub is_empty : List ℕ → Bool
is_empty [] = true
is_empty (b ∷ bs) = false

-- one flight behind another
abbrev pub joined_flight : Flight → Flight → Flight
joined_flight f g = record { plain = f.plain ++ g.plain; protected = f.protected ++ g.protected }

-- the later one where there are two
abbrev pub later : Option Derived → Option Derived → Option Derived
later old None = old
later old (Some d) = Some d

-- the message that ends at `end` was judged, for whose master secret, if one is handed over, so many blocks were hashed; `on` judges what stands behind it
abbrev pub after_step : (Progress → Judged) → Progress → (end blocks : ℕ) → Step → Judged
after_step on p end blocks (Shared.refuse r) = refuse r
after_step on p end blocks (Shared.accept flight next) =
    on (record {
      connection = next;
      flight = joined_flight p.flight flight;
      master = later p.master (derived (handed_over p.connection.phase (Shared.accept flight next)) blocks);
      left = drop end p.left;
    })

-- a message of which all is there is judged, and any other waits
abbrev pub where_whole : View → (Progress → Judged) → Progress → ℕ → Judged
where_whole v on p end =
    cond (ltb (length p.left) end) (goes_on p)
    (after_step on p end (blocks_in v p.connection (take end p.left) p.connection.phase)
    (message_step v p.connection (take end p.left) p.connection.phase))

-- type and limit are judged as soon as the header is in
abbrev pub after_early : Result Unit Refusal → Judged → Judged
after_early (Ok tt) next = next
after_early (Err r) next = refuse r

-- Bytes behind a right Finished are handshake bytes after completion, however few: 10. Otherwise fewer than the four bytes of a header wait unjudged.
abbrev pub judge_first : View → (Progress → Judged) → Progress → Judged
judge_first v on p =
    cond (is_complete p.connection.phase && not (is_empty p.left)) (refuse UnexpectedMessage)
    (cond (ltb (length p.left) 4) (goes_on p)
    (after_early (early_test (awaited p.connection.phase) p.left) (where_whole v on p (message_end p.left))))

-- as often as there are bytes at most: each message has some
unfoldable pub judge_bytes : ℕ → View → Progress → Judged
judge_bytes zero v p = goes_on p
judge_bytes (suc n) v p = judge_first v (judge_bytes n v) p

-- all of the bytes
abbrev pub judged : View → Connection → List ℕ → Judged
judged v c bytes = judge_bytes (length bytes) v (record { connection = c; flight = silence; master = None; left = bytes })
