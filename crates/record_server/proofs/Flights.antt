-- A flight as records: what is known of it once its plain messages are put, and what the rest makes of that.
-- Assumes nothing.
use mathlib.Core.Path.{◌≡◌, sym, ap, ◌∙◌}
use Prim.Native.Nat.{ℕ, ◌+◌, ◌-◌, ◌*◌, ◌≤◌}
use native.Mathlib.Omega.{arith}
use mathlib.Core.Bool.{true, false}
use mathlib.Core.List.{List, [], ◌∷◌, ◌++◌, append_assoc, append-nil}
use lib.ListN.{length, take, drop, length-append, length-drop}
use lib.Seq.{length-take-le}
use Rattle.std.specs.Prelude.{Result}
use Rattle.refusal.specs.declared.Refusal.{Refusal}
use Rattle.lists.specs.Lists.{part}
use Rattle.lists.proofs.Parts.{rest, part_to_end, length_part}
use Rattle.refusal.specs.Lent.{Answers}
use Rattle.layout.proofs.Puts.{front, put-behind}
use Rattle.handshake.specs.declared.Outgoing.{Outgoing}
use Rattle.handshake.specs.Flight as Flight
use Rattle.handshake.specs.Outgoing.{total, cut, flight_of}
use Rattle.records.specs.declared.ContentType.{ContentType}
use Rattle.records.specs.declared.State.{State}
use Rattle.records.specs.Protection.{protected_by, sealed, sealing}
use Rattle.records.proofs.Opening.{few-added, length-sealed}
use Rattle.record_server.specs.declared.flight.Put.{Put}
use Rattle.record_server.specs.declared.flight.Sent.{Sent}
use Rattle.record_server.specs.Answering.{message_records, counted_over, change_records, state_behind, flight_records}
use Rattle.record_server.specs.Taking.{pending_after}
use Rattle.record_server.specs.InnerFlight.{Puts, Sends, some_message}
use Rattle.record_server.proofs.Putting.{total-parts, cut-none, cut-some, records-short, put_back, front_long, record-size, record-put}

-- the messages of the first p lengths, and those of the others
abbrev first_of : Outgoing → ℕ → List (List ℕ)
first_of o p = cut (take p o.lengths) o.bytes

abbrev others_of : Outgoing → ℕ → List (List ℕ)
others_of o p = cut (drop p o.lengths) (drop (total (take p o.lengths)) o.bytes)

-- what the code lends for the others, `used` bytes behind the array's front
abbrev lengths_lent : Outgoing → ℕ → List ℕ
lengths_lent o p = part p (3 - p) o.lengths

abbrev bytes_lent : Outgoing → ℕ → List ℕ
bytes_lent o used = part used (180 - used) o.bytes

-- the records in front of the change of cipher, and that of the change
abbrev first_records : Outgoing → State → ℕ → List ℕ
first_records o s p = message_records s (first_of o p)

abbrev change_record : State → List ℕ
change_record w = sealed w ContentType.ChangeCipherSpec (1 ∷ [])

-- three lengths, of which p stand before the change of cipher, and the messages of these put
pub record PlainPut (o : Outgoing) (s : State) (p : ℕ) (out : List ℕ) (first : Put) (mid : List ℕ) : Type 0 where
  pub taken : take p o.lengths ≡ take o.plain o.lengths
  pub left : drop p o.lengths ≡ drop o.plain o.lengths
  pub low : p ≤ 3
  pub three : length o.lengths ≡ 3
  pub whole : length o.bytes ≡ 180
  pub few : total o.lengths ≤ 180
  pub room : 336 ≤ length out
  pub one : Puts (first_records o s p) (counted_over s (first_of o p))
      (total (take p o.lengths)) out first mid

module _ {o : Outgoing} {s : State} {p : ℕ} {out mid : List ℕ} {first : Put} (g : PlainPut o s p out first mid) where
  -- what the flight has before the change of cipher, and what stands behind it
  plain : (flight_of o).plain ≡ first_of o p
  plain = rw g.taken

  behind : (flight_of o).protected ≡ others_of o p
  behind = rw (g.taken, g.left)

  -- the two lists as the code lends them
  lengths-left : lengths_lent o p ≡ drop p o.lengths
  lengths-left = rw (← g.three) (part_to_end o.lengths p)

  bytes_left : bytes_lent o first.used ≡ drop (total (take p o.lengths)) o.bytes
  bytes_left = rw (← g.whole, g.one.used) (part_to_end o.bytes (total (take p o.lengths)))

  first_short : first.len ≤ total (take p o.lengths) + 37 * p
  first_short =
      omega (arith, records-short s (take p o.lengths) o.bytes, g.one.size, length-take-le p o.lengths (omega arith))

  pub first_fits : (first.len ≤ 291) × (first.used ≤ 180) × (length mid ≡ length out)
  first_fits =
      let parts = total-parts p o.lengths in (
        omega (arith, first_short),
        omega (arith, g.one.used),
        ap length g.one.bytes ∙ front_long (first_records o s p) out (omega (arith, first_short, g.one.size)),
      )

  -- nothing stands behind the change of cipher
  pub sends_plain : (key : List ℕ) → some_message (lengths_lent o p) ≡ false
      → Sends s key (flight_of o) out (record { len = first.len; changed = false; writing = first.writing }) mid
  sends_plain key absent =
      let none : (flight_of o).protected ≡ [] = behind ∙ cut-none (drop p o.lengths) _ (rw lengths-left at absent) in
      let records : List ℕ = message_records s (flight_of o).plain in
      let all : flight_records s key (flight_of o) ≡ first_records o s p =
      ap (λ (l : List (List ℕ)). records ++ change_records (counted_over s (flight_of o).plain) key l) none ∙ append-nil records
      ∙ ap (message_records s) plain in
      record {
        size = g.one.size ∙ sym (ap length all);
        bytes = rw all g.one.bytes;
        state = g.one.state ∙ sym (ap (state_behind (counted_over s (flight_of o).plain) key) none ∙ ap (counted_over s) plain);
        change = λ pending. sym (ap (pending_after pending) none);
        fits = omega (arith, first_fits);
      }

  -- the change of cipher, and something behind it
  module _ {said : Result ℕ Refusal} {back : List ℕ}
      (a : Answers (sealing first.writing ContentType.ChangeCipherSpec (1 ∷ [])) (rest mid first.len) said back) {k : ℕ}
      (e : k ≡ Flight.counted said) where
    size : k ≡ length (change_record first.writing)
    size =
        e
        ∙ record-size first.writing ContentType.ChangeCipherSpec (1 ∷ []) (first_records o s p) out mid first.len g.one.bytes
        (sym g.one.size) (omega arith) (omega (arith, first_fits)) a

    change-put : put_back mid first.len back ≡ front (first_records o s p ++ change_record first.writing) out
    change-put =
        record-put first.writing ContentType.ChangeCipherSpec (1 ∷ []) (first_records o s p) out mid first.len g.one.bytes
        (sym g.one.size) (omega arith) (omega (arith, first_fits)) a

    change-size : first.len + k ≡ length (first_records o s p ++ change_record first.writing)
    change-size = sym (length-append (first_records o s p) (change_record first.writing) ∙ rw (← g.one.size, ← size))

    short : k ≤ 38
    short = omega (arith, size, length-sealed first.writing ContentType.ChangeCipherSpec (1 ∷ []), few-added first.writing)

    pub change-fits : (first.len + k ≤ 329) × (length (put_back mid first.len back) ≡ length out)
    change-fits =
        let few : first.len + k ≤ 329 = omega (arith, first_fits, short) in
        let all : List ℕ = first_records o s p ++ change_record first.writing in
        (few, ap length change-put ∙ front_long all out (omega (arith, change-size)))

    -- what is left has room
    pub second-asks : (total (lengths_lent o p) ≤ length (bytes_lent o first.used))
        × (total (lengths_lent o p) ≤ 180)
        × (total (lengths_lent o p) + 37 * length (lengths_lent o p) ≤ length (rest (put_back mid first.len back) (first.len + k)))
    second-asks =
        let now : List ℕ = put_back mid first.len back in
        let parts = total-parts p o.lengths in
        let lent = length_part now (first.len + k) (length now - (first.len + k)) (omega (arith, change-fits)) in
        rw (lengths-left, bytes_left, length-drop p o.lengths, length-drop (total (take p o.lengths)) o.bytes)
        (omega arith, omega arith, omega (arith, first_short, short, change-fits))

    pub sends-change : {key : List ℕ} {state : State} {n : ℕ} {last : List ℕ} {second : Put} → state ≡ protected_by key
        → some_message (lengths_lent o p) ≡ true
        → Puts (message_records state (cut (lengths_lent o p) (bytes_lent o first.used)))
        (counted_over state (cut (lengths_lent o p) (bytes_lent o first.used))) n
        (rest (put_back mid first.len back) (first.len + k)) second last
        → Sends s key (flight_of o) out (record { len = first.len + k + second.len; changed = true; writing = second.writing })
        (put_back (put_back mid first.len back) (first.len + k) last)
    sends-change {key} {state} {n} {last} {second} es there two =
        let some = cut-some (drop p o.lengths) (drop (total (take p o.lengths)) o.bytes) (rw lengths-left at there) in
        let more : (flight_of o).protected ≡ some.0 ∷ some.1 = behind ∙ some.2 in
        let now : List ℕ = put_back mid first.len back in
        let tail : List ℕ = message_records (protected_by key) (others_of o p) in
        let before : List ℕ = first_records o s p ++ change_record first.writing in
        let rest_put : Puts tail (counted_over (protected_by key) (others_of o p)) n (rest now (first.len + k)) second last =
        rw (lengths-left, bytes_left, es) at two in
        let all_others : List ℕ = message_records (protected_by key) (flight_of o).protected in
        let changed : change_records (counted_over s (flight_of o).plain) key (flight_of o).protected
        ≡ change_record (counted_over s (flight_of o).plain) ++ all_others =
        rw more in
        let all : flight_records s key (flight_of o) ≡ before ++ tail =
        ap (λ (l : List ℕ). message_records s (flight_of o).plain ++ l) changed
        ∙ ap (λ (l : List (List ℕ)). message_records s l ++ (change_record (counted_over s l) ++ all_others)) plain
        ∙ ap (λ (l : List (List ℕ)). first_records o s p ++ (change_record (counted_over s (first_of o p)) ++ message_records (protected_by key) l)) behind
        ∙ ap (λ (w : State). first_records o s p ++ (change_record w ++ tail)) (sym g.one.state)
        ∙ sym (append_assoc (first_records o s p) (change_record first.writing) tail) in
        let few = records-short (protected_by key) (drop p o.lengths) (drop (total (take p o.lengths)) o.bytes) in
        record {
          size = sym (ap length all ∙ length-append before tail ∙ rw (← change-size, ← rest_put.size));
          bytes = rw all (put-behind before tail out now last (first.len + k) change-put change-size rest_put.bytes);
          state = rest_put.state ∙ ap (counted_over (protected_by key)) (sym behind) ∙ rw more;
          change = λ pending. rw more;
          fits = omega (arith, few, rest_put.size, length-drop p o.lengths, total-parts p o.lengths, first_short, short);
        }

-- the output is as long as it was
pub sent-long : {s : State} {key : List ℕ} {f : Flight.Flight} {out left : List ℕ} {r : Sent} → Sends s key f out r left → 336 ≤ length out
    → length left ≡ length out
sent-long {s} {key} {f} {out} h room = ap length h.bytes ∙ front_long (flight_records s key f) out (omega (arith, h.size, h.fits))
