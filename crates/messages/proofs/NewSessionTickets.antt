-- The reader and the writer of NewSessionTicket are each other's inverse.
-- Assumes nothing.
use mathlib.Core.Path.{◌≡◌, refl, sym, ap, ap₂, ◌∙◌}
use Prim.Native.Nat.{ℕ, ◌^◌, ◌<◌}
use native.Mathlib.Omega.{arith}
use mathlib.Core.Bool.{true, and-eq-true_iff}
use mathlib.Core.List.{List, ◌++◌}
use lib.ListN.{length, take, drop, length-drop, take-append-drop}
use lib.Seq.{take-length, drop-drop, length-take-le}
use lib.Dec.{ltb}
use borrow.Author.Tests.{eq-eqb, ltb-true, lt-ltb}
use Rattle.std.proofs.lemmas.Option.{none-some, same_Some}
use Rattle.std.specs.Prelude.{Some, Option, None}
use Rattle.endian.specs.Number.{Bytes, be, number}
use Rattle.endian.specs.Vector.{vector, writable, stated}
use Rattle.endian.proofs.Numbers.{number-be-lt, number_lt, be-number-at, bytes_take, bytes_drop}
use Rattle.layout.specs.declared.Part.{Part}
use Rattle.layout.specs.Layout.{bytes, valid, Inverse}
use Rattle.layout.specs.Header.{header}
use Rattle.layout.specs.Place.{standing, end_at, last_at, after_header}
use Rattle.messages.specs.NewSessionTicket.{NewSessionTicket, new_session_ticket, with_hint, ticket_fields, read_ticket}
use Rattle.layout.proofs.Layouts.{valid-within, valid-parts}
use Rattle.layout.proofs.Places.{last-there, after-header, vector-last}
use Rattle.layout.proofs.Headers.{header-message, header_read}

-- what the fields say of the place
hint-at : (m : List ℕ) (p : Option Part) (f : NewSessionTicket) → ticket_fields m (with_hint m p) ≡ Some f
    → (s : ℕ) × (n : ℕ) × (p ≡ standing s n) × (f ≡ record { lifetime_hint = number (take 4 (drop 4 m)); ticket = take n (drop s m) })
hint-at m (Some p) f e = (p.start, p.len, refl, sym (same_Some _ _ e))
hint-at m None f e = absurd (none-some f e)

pub ticket-inverse : Inverse new_session_ticket read_ticket
ticket-inverse = record { reads-written = there; writes-read = back }
  where
    there : (f : NewSessionTicket) → valid new_session_ticket f ≡ true → read_ticket (bytes new_session_ticket f) ≡ Some f
    there f h =
        let m : List ℕ = bytes new_session_ticket f in
        let ok = valid-parts new_session_ticket f h in
        let rules = (and-eq-true_iff (ltb f.lifetime_hint (256 ^ 4)) (writable 2 f.ticket)).0 ok.0 in
        let says : stated 2 (vector 2 f.ticket) ≡ length f.ticket = number-be-lt 2 (length f.ticket) (ltb-true _ _ rules.1) in
        let hint : number (be 4 f.lifetime_hint) ≡ f.lifetime_hint = number-be-lt 4 f.lifetime_hint (ltb-true _ _ rules.0) in
        let fills : end_at 2 m 8 ≡ length m = omega arith in
        rw (header-message 4 (new_session_ticket.body f) ok.1, eq-eqb (end_at 2 m 8) (length m) fills, says, take-length, hint)

    back : (m : List ℕ) (f : NewSessionTicket) → Bytes m → read_ticket m ≡ Some f → (valid new_session_ticket f ≡ true) × (m ≡ bytes new_session_ticket f)
    back m f b e =
        let place = hint-at m (after_header (header 4 m) (last_at 2 m 8)) f e in
        let s : ℕ = place.0 in
        let n : ℕ = place.1 in
        let split = after-header (header 4 m) (last_at 2 m 8) s n place.2 in
        let last = last-there 2 m 8 s n split.1 in
        let read = vector-last 2 m 8 b last.0 in
        let head = header_read 4 m b split.0 in
        let four : length (take 4 (drop 4 m)) ≡ 4 = length-take-le 4 (drop 4 m) (simp length-drop (omega arith)) in
        let front : Bytes (take 4 (drop 4 m)) = bytes_take 4 (drop 4 m) (bytes_drop 4 m b) in
        let hint : f.lifetime_hint ≡ number (take 4 (drop 4 m)) = ap (λ (g : NewSessionTicket). g.lifetime_hint) place.3 in
        let small : f.lifetime_hint < 256 ^ 4 = rw hint (rw four at (number_lt (take 4 (drop 4 m)) front)) in
        let same : f.ticket ≡ take (stated 2 (drop 8 m)) (drop 10 m) = ap (λ (g : NewSessionTicket). g.ticket) place.3 ∙ rw (last.1, last.2) in
        let field : be 4 f.lifetime_hint ≡ take 4 (drop 4 m) = ap (be 4) hint ∙ be-number-at 4 (take 4 (drop 4 m)) front four in
        let rest : vector 2 f.ticket ≡ drop 4 (drop 4 m) = ap (vector 2) same ∙ sym read.0 ∙ sym (drop-drop 4 4 m) in
        let body : drop 4 m ≡ new_session_ticket.body f = sym (take-append-drop 4 (drop 4 m)) ∙ ap₂ ◌++◌ (sym field) (sym rest) in
        let rules : new_session_ticket.rules f ≡ true = rw (lt-ltb f.lifetime_hint (256 ^ 4) small, same) read.1 in
        (valid-within new_session_ticket f rules (rw body at head.1), rw body at head.0)
