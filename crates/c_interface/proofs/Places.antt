-- Where a reader finds the fields of a message: each place is inside the message, whose length the header limits, and a number of two bytes
-- is below 65,536. So 32 bits hold whatever a reader gives.
-- Assumes nothing.
use mathlib.Core.Path.{◌≡◌, refl}
use Prim.Native.Nat.{ℕ, ◌+◌, ◌-◌, ◌≤◌, ◌<◌, ◌^◌}
use native.Mathlib.Omega.{arith}
use mathlib.Core.Bool.{Bool, true, false, cond}
use mathlib.Core.List.{List, [], ◌∷◌}
use lib.ListN.{length, take, drop, length-drop}
use lib.Dec.{leb, eqb}
use borrow.Author.Tests.{leb-true, eqb-true}
use Rattle.std.specs.Prelude.{Result, Ok, Err, Option, None, Some}
use Rattle.refusal.specs.declared.Refusal.{Refusal}
use Rattle.endian.specs.Number.{Bytes, number}
use Rattle.endian.specs.Vector.{stated}
use Rattle.endian.proofs.Numbers.{bytes_drop}
use Rattle.layout.specs.declared.Part.{Part}
use Rattle.messages.specs.declared.ticket.Ticket.{Ticket}
use Rattle.hellos.specs.declared.server_hello.Server.{Server}
use Rattle.hellos.specs.declared.client_hello.Client.{Client}
use Rattle.extensions.specs.declared.Step.{Step}
use Rattle.layout.specs.Header.{header}
use Rattle.layout.specs.Place.{standing, end_at, last_at, filled_by, after_header}
use Rattle.messages.specs.KeyExchange.{vector_place}
use Rattle.messages.specs.Fixed.{fixed_place}
use Rattle.messages.specs.NewSessionTicket.{with_hint, ticket_place}
use Rattle.extensions.specs.Extensions.{block_rule, step_at}
use Rattle.hellos.specs.Hello.{block_in, block_at}
use Rattle.hellos.specs.ServerHello.{server_place}
use Rattle.hellos.specs.ClientHello.{suites_length, methods_length, client_place}
use Rattle.layout.proofs.Headers.{header_read}
use Rattle.layout.proofs.Places.{ruled-inside}
use Rattle.hellos.proofs.ServerHellos as ServerHellos
use Rattle.hellos.proofs.ClientHellos as ClientHellos
use Rattle.c_interface.specs.Inner.{Fits, PartFits}

pub two_bytes : (bs : List ℕ) → Bytes bs → number (take 2 bs) < 65536
two_bytes [] b = omega arith
two_bytes (x ∷ []) b = omega (arith, b 0)
two_bytes (x ∷ y ∷ bs) b = omega (arith, b 0, b 1)

number_fits : (m : List ℕ) (at : ℕ) → Bytes m → number (take 2 (drop at m)) < 2 ^ 32
number_fits m at b = omega (arith, two_bytes (drop at m) (bytes_drop at m b))

accepted-length : (kind : ℕ) (m : List ℕ) → Bytes m → header kind m ≡ Ok tt → length m ≤ 16384
accepted-length kind m b e =
    let body : length m - 4 ≤ 16380 = rw (length-drop 4 m) at (header_read kind m b e).1 in
    omega arith

-- ---- the parts of a message

-- a part that is there only where a test holds
part-if-fits : (t : Bool) (s n : ℕ) → (t ≡ true → Fits s n) → PartFits (cond t (standing s n) None)
part-if-fits true s n h = h refl
part-if-fits false s n h = tt

last_fits : (m : List ℕ) (at : ℕ) → length m ≤ 16384 → PartFits (last_at 2 m at)
last_fits m at size = part-if-fits (eqb (end_at 2 m at) (length m)) (at + 2) (stated 2 (drop at m)) (λ t.
    let ends : end_at 2 m at ≡ length m = eqb-true (end_at 2 m at) (length m) t in
    record { start_fits = omega arith; len-fits = omega arith })

behind-header : (kind : ℕ) (m : List ℕ) (p : Option Part) → Bytes m → (length m ≤ 16384 → PartFits p) → PartFits (after_header (header kind m) p)
behind-header kind m p b h = go (header kind m) refl
  where
    go : (v : Result Unit Refusal) → header kind m ≡ v → PartFits (after_header v p)
    go (Ok tt) e = h (accepted-length kind m b e)
    go (Err r) e = tt

-- ---- the messages with one part

pub vector-fits : (kind : ℕ) (m : List ℕ) → Bytes m → PartFits (vector_place kind m)
vector-fits kind m b = behind-header kind m (last_at 2 m 4) b (last_fits m 4)

pub finished-fits : (m : List ℕ) → Bytes m → PartFits (fixed_place 20 12 m)
finished-fits m b =
    behind-header 20 m (filled_by 12 m) b
    (λ _. part-if-fits (eqb (length m) 16) 4 12 (λ _. record { start_fits = omega arith; len-fits = omega arith }))

abbrev pub TicketFits : Option Ticket → Type 0
TicketFits (Some t) = Fits t.ticket.start t.ticket.len
TicketFits None = Unit

pub ticket-fits : (m : List ℕ) → Bytes m → TicketFits (ticket_place m)
ticket-fits m b = go (after_header (header 4 m) (last_at 2 m 8)) (behind-header 4 m (last_at 2 m 8) b (last_fits m 8))
  where
    go : (p : Option Part) → PartFits p → TicketFits (with_hint m p)
    go (Some p) h = h
    go None h = tt

-- ---- the hellos

abbrev FoundFits : Option (Option Part) → Type 0
FoundFits (Some b) = PartFits b
FoundFits None = Unit

block-fits : (m : List ℕ) (at : ℕ) → length m ≤ 16384 → FoundFits (block_at m at)
block-fits m at size = go (eqb at (length m))
  where
    held : (t : Bool) (s n : ℕ) → Fits s n → FoundFits (cond t (Some (standing s n)) None)
    held true s n h = h
    held false s n h = tt

    in-part : (p : Option Part) → PartFits p → FoundFits (block_in m p)
    in-part (Some p) h = held (block_rule (take p.len (drop p.start m))) p.start p.len h
    in-part None h = tt

    go : (t : Bool) → FoundFits (cond t (Some None) (block_in m (last_at 2 m at)))
    go true = tt
    go false = in-part (last_at 2 m at) (last_fits m at size)

found-fits : (m : List ℕ) (at : ℕ) (b : Option Part) → length m ≤ 16384 → block_at m at ≡ Some b → PartFits b
found-fits m at b size e = rw e at (block-fits m at size)

pub record ServerNumbers (s : Server) : Type 0 where
  pub version-fits : s.version < 2 ^ 32
  pub session-fits : s.session_len < 2 ^ 32
  pub suite-fits : s.suite < 2 ^ 32
  pub block : PartFits s.block

abbrev pub ServerFits : Option Server → Type 0
ServerFits (Some s) = ServerNumbers s
ServerFits None = Unit

pub server-fits : (m : List ℕ) → Bytes m → ServerFits (server_place m)
server-fits m b = ServerHellos.by-header m ServerFits tt (λ a x n c p.
    let size = accepted-length 2 m b a in
    let room = p.room in
    record {
      version-fits = number_fits m 4 b;
      session-fits = omega arith;
      suite-fits = number_fits m (39 + n) b;
      block = found-fits m (42 + n) c size p.block;
    })

pub record ClientNumbers (c : Client) : Type 0 where
  pub version-fits : c.version < 2 ^ 32
  pub session-fits : c.session_len < 2 ^ 32
  pub suites : Fits c.suites.start c.suites.len
  pub methods : Fits c.methods.start c.methods.len
  pub block : PartFits c.block

abbrev pub ClientFits : Option Client → Type 0
ClientFits (Some c) = ClientNumbers c
ClientFits None = Unit

pub client-fits : (m : List ℕ) → Bytes m → ClientFits (client_place m)
client-fits m b = ClientHellos.by-header m ClientFits tt (λ a x n s k t j c p.
    let size = accepted-length 1 m b a in
    let session = ruled-inside (λ i. leb i 32) 1 m 38 x n p.session in
    let suites = ruled-inside suites_length 2 m (x + n) s k p.suites in
    let methods = ruled-inside methods_length 1 m (s + k) t j p.methods in
    record {
      version-fits = number_fits m 4 b;
      session-fits = omega arith;
      suites = record { start_fits = omega arith; len-fits = omega arith };
      methods = record { start_fits = omega arith; len-fits = omega arith };
      block = found-fits m (t + j) c size p.block;
    })

-- ---- a step through a block

pub record StepNumbers (kind s n : ℕ) : Type 0 where
  pub kind_fits : kind < 2 ^ 32
  pub place : Fits s n

abbrev pub StepFits : Step → Type 0
StepFits (Step.Extension kind s n) = StepNumbers kind s n
StepFits Step.End = Unit
StepFits Step.Refused = Unit

abbrev extension_at : List ℕ → ℕ → Step
extension_at b at = Step.Extension (number (take 2 (drop at b))) (at + 4) (stated 2 (drop (at + 2) b))

pub step_fits : (b : List ℕ) (at : ℕ) → Bytes b → length b ≤ 65535 → StepFits (step_at b at)
step_fits b at bytes size = at-end (leb (length b) at)
  where
    whole : (t : Bool) → leb (end_at 2 b (at + 2)) (length b) ≡ t → StepFits (cond t (extension_at b at) Step.Refused)
    whole true h =
        let ends : end_at 2 b (at + 2) ≤ length b = leb-true (end_at 2 b (at + 2)) (length b) h in
        record { kind_fits = number_fits b at bytes; place = record { start_fits = omega arith; len-fits = omega arith } }
    whole false h = tt

    at-end : (t : Bool) → StepFits (cond t Step.End (cond (leb (end_at 2 b (at + 2)) (length b)) (extension_at b at) Step.Refused))
    at-end true = tt
    at-end false = whole (leb (end_at 2 b (at + 2)) (length b)) refl
