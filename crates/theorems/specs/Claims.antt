-- Every headline statement, as one record: a statement that goes missing, or has no proof any more, fails the crate. docs/ASSURANCE.md has a row for each
-- field, and tests/claims compares the two. proofs/Claims.antt proves it by one value.
use Rattle.std.specs.Prelude.{◌≡◌, ◌↔◌, ℕ, ◌+◌, ◌-◌, ◌%◌, ◌^◌, ◌≤◌, ◌<◌, true, false, cond, List, [], ◌∷◌, ◌++◌, map, length, take, drop, replicate, leb, eqb, Result, Ok, Err, None, Some}
use Rattle.lists.specs.Lists.{each, distinct, Each}
use Rattle.refusal.specs.declared.Refusal.{Refusal}
use Rattle.refusal.specs.declared.Refusal.TheVariants.{ShortOutput}
use Rattle.refusal.specs.Lent.{Outcome, gives, refuses, within, answer, after}
use Rattle.endian.specs.Number.{Bytes, be, number}
use Rattle.sha256_block.specs.Blocks.{parse}
use Rattle.sha256.specs.Message.{zeros, pad}
use Rattle.sha256.specs.Hash.{sha256, limit}
use Rattle.sha256.specs.State.{fresh, absorb, finished}
use Rattle.sha256.specs.Report.{compressed}
use Rattle.keys.specs.Counts.{master_under_blocks}
use Rattle.layout.specs.Layout.{Inverse}
use Rattle.endian.specs.Vector.{vector, writable, Split, split}
use Rattle.extensions.specs.Extensions.{Ext, writable_ext, block_bytes, extensions_in, kinds, block_rule, ticket_extension}
use Rattle.utf8.specs.Utf8.{valid_utf8}
use Rattle.utf8.specs.Ranges.{Text}
use Rattle.hellos.specs.ClientHello.{client_hello, read_client_hello}
use Rattle.hellos.specs.ServerHello.{server_hello, read_server_hello}
use Rattle.messages.specs.KeyExchange.{server_key_exchange, client_key_exchange, read_vector}
use Rattle.messages.specs.Fixed as Fixed
use Rattle.messages.specs.Fixed.{server_hello_done, read_fixed}
use Rattle.messages.specs.NewSessionTicket.{new_session_ticket, read_ticket}
use Rattle.keytable.specs.Table.{lines, decoded, identity_of, valid_identity, well_formed, key_of, found}
use Rattle.keytable.specs.Starts.{starts_of, line_at, is_list, list_made, looked_up}
use Rattle.keytable.specs.WellFormed.{Line, text, WellFormed, Listed, LineRemoved}
use Rattle.table_edits.specs.Edits.{Edit, add, replace, retire, subject, lower_hex, line_with, listed, others, edited, edited_in}
use Rattle.table_edits.specs.Edits.{key_after, OfBytes, LowerDigit, starts_after, count_after}
use Rattle.handshake.specs.Flight.{Flight}
use Rattle.handshake.specs.Step.{accept}
use Rattle.server.specs.declared.Phase.{Phase}
use Rattle.server.specs.declared.Connection.{Connection}
use Rattle.server.specs.KeyExchange.{View}
use Rattle.server.specs.Connection.{ended}
use Rattle.server.specs.Message.{message_step, handed_over}
use Rattle.saved.specs.Saved.{restored}
use Rattle.c_interface.specs.Codes.{coded}
use Rattle.theorems.specs.Demand3.{Sameness, CompletesExactly}
use Rattle.theorems.specs.Agreeing.{SamenessOfLookups}
use Rattle.theorems.specs.FromC.{SamenessFromC, CompletesExactlyFromC}
use Rattle.theorems.specs.Rules.{RulesApply}
use Rattle.theorems.specs.Over.{OverStays}
use Rattle.theorems.specs.Suites.{SuitesInOrder}
use Rattle.theorems.specs.Numbers.{LabelTexts, NumbersInC}
use Rattle.theorems.specs.Worked.{BytesWorkedThrough}

pub record Claims : Type 1 where
  -- demand 1: lent memory
  pub refusal_keeps : (o : Outcome) (out : List ℕ) (r : Refusal) → answer o ≡ Err r → after o out ≡ out
  pub answer_keeps_rest : (o : Outcome) (out : List ℕ) (n : ℕ) → answer o ≡ Ok n → drop n (after o out) ≡ drop n out
  pub short_exactly : (room : ℕ) (wanted : Outcome) → ¬ (wanted ≡ refuses ShortOutput)
      → (within room wanted ≡ refuses ShortOutput) ↔ ((bytes : List ℕ) × (wanted ≡ gives bytes) × (room < length bytes))
  pub codes_apart : (v w : Result ℕ Refusal) → coded v ≡ coded w → v ≡ w
  pub numbers_in_c : NumbersInC
  pub over_stays : OverStays
  pub cleared_closed : restored (replicate 388 0) ≡ ended Phase.Closed
  -- demand 2: the hash, and the PRF's labels
  pub hashed_in_parts : (m : List ℕ) → finished (absorb fresh m) ≡ sha256 m
  pub padding_fills : (n : ℕ) → (n + 1 + zeros n) % 64 ≡ 56
  pub padding_least : (n z : ℕ) → (n + 1 + z) % 64 ≡ 56 → zeros n ≤ z
  pub label_texts : LabelTexts
  -- numbers and vectors, for any width
  pub numbers_apart : (w m n : ℕ) → m < 256 ^ w → n < 256 ^ w → be w m ≡ be w n → m ≡ n
  pub bytes_apart : (xs bs : List ℕ) → Bytes xs → Bytes bs → length xs ≡ length bs → number xs ≡ number bs → xs ≡ bs
  pub vector_read : (w : ℕ) (xs rest : List ℕ) → writable w xs ≡ true → split w (vector w xs ++ rest) ≡ Some (record { contents = xs; rest = rest })
  pub vector_cut : (w : ℕ) (bs : List ℕ) → Bytes bs
      → (split w bs ≡ None) ↔ ((xs rest : List ℕ) → writable w xs ≡ true → bs ≡ vector w xs ++ rest → ⊥)
  pub vector_stated : (w : ℕ) (bs : List ℕ) (s : Split) → Bytes bs → writable w s.contents ≡ false → split w bs ≡ Some s → ⊥
  pub vectors_apart : (w : ℕ) (xs ys rest rest' : List ℕ) → writable w xs ≡ true → writable w ys ≡ true
      → vector w xs ++ rest ≡ vector w ys ++ rest' → (xs ≡ ys) × (rest ≡ rest')
  -- each layout with its reader, by name and number
  pub client_hello_inverse : Inverse client_hello read_client_hello
  pub server_hello_inverse : Inverse server_hello read_server_hello
  pub server_key_exchange_inverse : Inverse server_key_exchange (read_vector 12)
  pub server_hello_done_inverse : Inverse server_hello_done (read_fixed 14 0)
  pub client_key_exchange_inverse : Inverse client_key_exchange (read_vector 16)
  pub finished_inverse : Inverse Fixed.finished (read_fixed 20 12)
  pub new_session_ticket_inverse : Inverse new_session_ticket read_ticket
  pub block_by_types : (es : List Ext) → each writable_ext es ≡ true → block_rule (block_bytes es) ≡ distinct eqb (kinds es)
  pub ticket_extension_read : (ticket : List ℕ) → length ticket < 65536
      → extensions_in (0x00 ∷ 0x23 ∷ vector 2 ticket) ≡ Some (ticket_extension ticket ∷ [])
  -- texts
  pub utf8_twice : (s : List ℕ) → (valid_utf8 s ≡ true) ↔ Text s
  -- the key table
  pub tested_soundly : (t : List ℕ) → well_formed t ≡ true → WellFormed t
  pub tested_completely : (t : List ℕ) → WellFormed t → well_formed t ≡ true
  pub lookup_exact : (t : List ℕ) (w : WellFormed t) (i k : List ℕ) → (key_of t i ≡ Some k) ↔ Listed i k w.lines
  pub malformed_unlisted : (t : List ℕ) → well_formed t ≡ true → (i : List ℕ) → valid_identity i ≡ false → key_of t i ≡ None
  pub line_removable : (t : List ℕ) (w : WellFormed t) (xs : List Line) (l : Line) (ys : List Line) → w.lines ≡ xs ++ (l ∷ ys)
      → LineRemoved l.identity t (text (xs ++ ys))
  pub removed_had : (identity t t' : List ℕ) (r : LineRemoved identity t t') → well_formed t ≡ true → key_of t identity ≡ Some (decoded r.hex)
  -- the list of line starts (document 02, P6): at the table's own starts stand its lines, a list that is not refused is its own, the one that is made is
  -- not refused, and a lookup by it answers as one without a list
  pub lines_at_starts : (t : List ℕ) → map (line_at t) (starts_of t) ≡ lines t
  pub list_is_own : (t starts : List ℕ) (count : ℕ) → is_list t starts count ≡ true → (take count starts ≡ starts_of t) × (count ≡ length (lines t))
  pub made_list_matches : (t made starts : List ℕ) → list_made t ≡ gives made → is_list t (made ++ starts) (length made) ≡ true
  pub lookup_by_list : (t starts : List ℕ) (count : ℕ) → is_list t starts count ≡ true → (i : List ℕ) → looked_up t starts count i ≡ found (key_of t i)
  -- edits of a key table (document 02, P1): of every edit that gives a table
  pub edit_formed : (e : Edit) (t t' : List ℕ) → OfBytes e → edited e t ≡ gives t' → WellFormed t'
  pub edit_others : (e : Edit) (t t' : List ℕ) → OfBytes e → edited e t ≡ gives t' → others (subject e) (lines t') ≡ others (subject e) (lines t)
  pub edit_key : (e : Edit) (t t' : List ℕ) → OfBytes e → edited e t ≡ gives t' → key_of t' (subject e) ≡ key_after e
  pub edit_else : (e : Edit) (t t' : List ℕ) → OfBytes e → edited e t ≡ gives t' → (other : List ℕ) → ¬ (other ≡ subject e)
      → key_of t' other ≡ key_of t other
  pub key_lower_case : (key : List ℕ) → Each (λ b. b < 256) key → Each LowerDigit (lower_hex key)
  pub added_last : (identity key t t' : List ℕ) → Each (λ b. b < 256) key → edited (add identity key) t ≡ gives t'
      → lines t' ≡ lines t ++ (line_with identity key ∷ [])
  pub replaced_in_place : (identity key t t' : List ℕ) (xs : List (List ℕ)) (l : List ℕ) (ys : List (List ℕ)) → Each (λ b. b < 256) key
      → edited (replace identity key) t ≡ gives t' → lines t ≡ xs ++ (l ∷ ys) → identity_of l ≡ identity
      → lines t' ≡ xs ++ (line_with identity key ∷ ys)
  pub retire_removes : (identity t t' : List ℕ) → edited (retire identity) t ≡ gives t' → LineRemoved identity t t'
  pub retire_undoes_add : (identity key t t' : List ℕ) → Each (λ b. b < 256) key → edited (add identity key) t ≡ gives t'
      → edited (retire identity) t' ≡ gives t
  pub replace_twice : (identity key key' t t' : List ℕ) → Each (λ b. b < 256) key → edited (replace identity key) t ≡ gives t'
      → edited (replace identity key') t' ≡ edited (replace identity key') t
  pub listed_found : (t identity : List ℕ) → well_formed t ≡ true → (listed identity (lines t) ≡ false) ↔ (key_of t identity ≡ None)
  -- edits with a list (document 02, P6): the table is edited as without one, and the list afterwards is the edited table's own, in its room
  pub edited_alike : (memory : List ℕ) (n : ℕ) (starts : List ℕ) (count : ℕ) (e : Edit) (t : List ℕ) → edited_in memory n starts count e ≡ gives t
      → edited e (take n memory) ≡ gives t
  pub edited_list : (memory : List ℕ) (n : ℕ) (starts : List ℕ) (count : ℕ) (e : Edit) (t : List ℕ) → edited_in memory n starts count e ≡ gives t
      → (is_list t (starts_after (gives t) starts) (count_after (gives t) count) ≡ true) × (length (starts_after (gives t) starts) ≡ length starts)
  -- how that list comes from the one before: a start more, where the table ended; the starts behind a line moved by as much as it grows; one start
  -- gone, and those behind it moved by the line with its 0A
  pub added_start : (identity key t t' : List ℕ) → edited (add identity key) t ≡ gives t' → starts_of t' ≡ starts_of t ++ (length t ∷ [])
  pub replaced_starts : (identity t : List ℕ) (xs : List (List ℕ)) (l : List ℕ) (ys : List (List ℕ)) → lines t ≡ xs ++ (l ∷ ys) → identity_of l ≡ identity
      → (key t' : List ℕ) → edited (replace identity key) t ≡ gives t'
      → starts_of t'
      ≡ take (length xs + 1) (starts_of t) ++ map (λ s. s - length l + length (line_with identity key)) (drop (length xs + 1) (starts_of t))
  pub retired_starts : (identity t : List ℕ) (xs : List (List ℕ)) (l : List ℕ) (ys : List (List ℕ)) → lines t ≡ xs ++ (l ∷ ys) → identity_of l ≡ identity
      → (t' : List ℕ) → edited (retire identity) t ≡ gives t'
      → starts_of t' ≡ take (length xs) (starts_of t) ++ map (λ s. s - (length l + 1)) (drop (length xs + 1) (starts_of t))
  -- the worked bytes
  pub worked : BytesWorkedThrough
  -- the server's choices
  pub suites_in_order : SuitesInOrder
  pub master_handed : (flight : Flight) (next : Connection) → handed_over Phase.KeyExchange (accept flight next) ≡ Some next.secrets.master
  pub master_handed_once : (v : View) (c : Connection) (m secret : List ℕ) → handed_over c.phase (message_step v c m c.phase) ≡ Some secret
      → c.phase ≡ Phase.KeyExchange
  -- how many blocks are hashed for a master secret (document 02, P8), by the length of its key
  pub master_counts : (key client server : List ℕ) → 1 ≤ length key → length key ≤ 64 → length client ≡ 32 → length server ≡ 32
      → master_under_blocks key client server ≡ cond (leb (length key) 30) 19 (cond (leb (length key) 57) 27 31)
  -- what is counted for a digest is how often its definition compresses, whether the message is hashed whole or as it is absorbed
  pub digest_counts : (m : List ℕ) → length m ≤ limit → compressed (absorb fresh m) ≡ length (parse (pad m))
  -- demand 3
  pub rules_apply : RulesApply
  pub sameness : Sameness
  pub sameness_of_lookups : SamenessOfLookups
  pub completes_exactly : CompletesExactly
  pub sameness_from_c : SamenessFromC
  pub completes_exactly_from_c : CompletesExactlyFromC
