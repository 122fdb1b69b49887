-- The laws of step 1: the lists of a ClientHello one element after the other, the tests on its fields, and the flight that answers it.
-- Assumes nothing.
use mathlib.Core.Path.{◌≡◌, refl, ap, ◌∙◌}
use Prim.Native.Nat.{ℕ, zero, suc, ◌+◌, ◌*◌, ◌≤◌, ◌<◌}
use native.Mathlib.Omega.{arith}
use mathlib.Core.Bool.{Bool, true, false, cond}
use mathlib.Core.List.{List, [], ◌∷◌, ◌++◌, append-nil, append_assoc}
use lib.ListN.{length, get_or, length-append}
use lib.Dec.{eqb}
use Rattle.std.specs.List.{list_any, find}
use Rattle.std.specs.Option.{option_map}
use Rattle.std.specs.Simd.{first_chunks}
use borrow.Author.Tests.{eq-eqb, ne_eqb, lt-ltb, le-ltb}
use Rattle.std.specs.Prelude.{Option, None, Some}
use Rattle.endian.specs.Number.{be, number}
use Rattle.refusal.specs.declared.Refusal.TheVariants.{IllegalParameter, ProtocolVersion}
use Rattle.hellos.specs.ClientHello.{ClientHello}
use Rattle.layout.specs.Layout.{bytes, valid}
use Rattle.hellos.specs.ServerHello.{ServerHello, server_hello}
use Rattle.messages.specs.KeyExchange.{server_key_exchange}
use Rattle.messages.specs.Fixed.{server_hello_done}
use Rattle.layout.proofs.Layouts.{valid-within}
use Rattle.hellos.proofs.Hellos.{length-body}
use Rattle.handshake.specs.Flight.{Flight, joined, flight_bytes}
use Rattle.handshake.specs.Outgoing.{total, cut, Sends}
use Rattle.handshake.specs.Step.{refuse}
use Rattle.server.specs.declared.Connection.{Connection}
use Rattle.server.specs.Hello.{offers, chosen, offers_null, hint_message, flight, hello_chosen, hello_fields}
use Rattle.server.specs.Inner.{hint_message_length, rest_of}
use Rattle.handshake.proofs.Flights.{cut-first, joined-append}

-- ---- the lists of a ClientHello

-- whether a pair of the list is the suite
pub offers-pairs : (xs : List ℕ) (suite n : ℕ) → 2 * n ≤ length xs → length xs < 2 * n + 2
    → list_any (λ p. eqb (number (get_or p 0 0 ∷ get_or p 1 0 ∷ [])) suite) (first_chunks 2 n xs) ≡ offers xs suite
offers-pairs [] suite zero l h = refl
offers-pairs [] suite (suc n) l h = absurd (omega arith)
offers-pairs (a ∷ []) suite zero l h = refl
offers-pairs (a ∷ []) suite (suc n) l h = absurd (omega arith)
offers-pairs (a ∷ b ∷ rest) suite zero l h = absurd (omega arith)
offers-pairs (a ∷ b ∷ rest) suite (suc n) l h = rw (offers-pairs rest suite n (omega arith) (omega arith))

-- the first of ours that the client lists
pub chosen-found : (ours offered : List ℕ) (o : Option ℕ) → option_map (λ s. s) o ≡ find (λ s. offers offered s) ours → o ≡ chosen ours offered
chosen-found ours offered o e = same o ∙ e ∙ go ours
  where
    same : (o : Option ℕ) → o ≡ option_map (λ s. s) o
    same None = refl
    same (Some suite) = refl

    go : (ss : List ℕ) → find (λ s. offers offered s) ss ≡ chosen ss offered
    go [] = refl
    go (s ∷ ss) =
        elim (offers offered s) as (λ b. cond b (Some s) (find (λ t. offers offered t) ss) ≡ cond b (Some s) (chosen ss offered)) [ true ↦ refl | false ↦ go ss ]

-- ---- the tests on its fields, in order

module _ (c : Connection) (m : List ℕ) (f : ClientHello) where
  pub version-old : f.version < 0x0303 → hello_fields c m (Some f) ≡ refuse ProtocolVersion
  version-old old = rw (lt-ltb f.version 0x0303 old)

  pub null-missing : 0x0303 ≤ f.version → offers_null f.methods ≡ false → hello_fields c m (Some f) ≡ refuse IllegalParameter
  null-missing new missing = rw (le-ltb f.version 0x0303 new, missing)

  pub null-there : 0x0303 ≤ f.version → offers_null f.methods ≡ true
      → hello_fields c m (Some f) ≡ hello_chosen c m f (chosen c.setup.suites f.suites)
  null-there new there = rw (le-ltb f.version 0x0303 new, there)

-- ---- the flight

pub hint-absent : (hint : List ℕ) → length hint ≡ 0 → hint_message hint ≡ []
hint-absent [] h = refl
hint-absent (b ∷ hint) h = absurd (omega arith)

pub hint-present : (hint : List ℕ) → ¬ (length hint ≡ 0) → hint_message hint ≡ bytes server_key_exchange hint ∷ []
hint-present [] h = absurd (h refl)
hint-present (b ∷ hint) h = refl

-- its first message
abbrev pub hello : List ℕ → ℕ → ServerHello
hello random suite = record { version = 0x0303; random = random; session_id = []; suite = suite; compression = 0; extensions = None }

pub length-hello : (random : List ℕ) (suite : ℕ) → length random ≡ 32 → length (bytes server_hello (hello random suite)) ≡ 42
length-hello random suite h = omega (arith, length-body 0x0303 random [] (be 2 suite ++ (0 ∷ [])) h)

-- it meets the rules of its layout
pub hello-valid : (random : List ℕ) (suite : ℕ) → length random ≡ 32 → suite < 65536 → valid server_hello (hello random suite) ≡ true
hello-valid random suite h small =
    valid-within server_hello (hello random suite) (rw (eq-eqb (length random) 32 h, lt-ltb suite 65536 small))
    (omega (arith, length-hello random suite h))

-- its bytes: that message, and the rest behind it
pub flight-parts : (random hint : List ℕ) (suite : ℕ) → flight_bytes (flight random hint suite) ≡ bytes server_hello (hello random suite) ++ rest_of hint
flight-parts random hint suite = append-nil (bytes server_hello (hello random suite) ++ rest_of hint)

-- the length of the hint's message
pub hint-length : (hint : List ℕ) → length (joined (hint_message hint)) ≡ hint_message_length (length hint)
hint-length [] = refl
hint-length (b ∷ hint) =
    let some-hint : ¬ (length (b ∷ hint) ≡ 0) = λ e. absurd (omega arith) in
    let size = ap length (append-nil (bytes server_key_exchange (b ∷ hint))) in
    rw (ne_eqb (length (b ∷ hint)) 0 some-hint) (size ∙ omega arith)

pub hint-size : (hint : List ℕ) → ¬ (length hint ≡ 0) → length (joined (hint_message hint)) ≡ 6 + length hint
hint-size hint h = hint-length hint ∙ rw (ne_eqb (length hint) 0 h)

pub hint-most : (hint : List ℕ) → length hint ≤ 128 → length (joined (hint_message hint)) ≤ 134
hint-most hint h = rw (hint-length hint) (go (eqb (length hint) 0))
  where
    go : (t : Bool) → cond t 0 (6 + length hint) ≤ 134
    go true = omega arith
    go false = omega arith

-- the messages behind the first, by their lengths
cut-rest : (hint rest : List ℕ)
    → cut (hint_message_length (length hint) ∷ 4 ∷ []) (rest_of hint ++ rest) ≡ hint_message hint ++ (bytes server_hello_done [] ∷ [])
cut-rest [] rest = refl
cut-rest (b ∷ hint) rest =
    let some-hint : ¬ (length (b ∷ hint) ≡ 0) = λ e. absurd (omega arith) in
    let exchange : List ℕ = bytes server_key_exchange (b ∷ hint) in
    let done : List ℕ = bytes server_hello_done [] in
    rw (ne_eqb (length (b ∷ hint)) 0 some-hint, append_assoc exchange done rest)
    (cut-first exchange (done ++ rest) (6 + length (b ∷ hint)) (4 ∷ []) (omega arith) (omega arith))

-- how long it is at the most
pub flight-most : (random hint : List ℕ) (suite : ℕ) → length random ≡ 32 → length hint ≤ 128 → length (flight_bytes (flight random hint suite)) ≤ 180
flight-most random hint suite h k =
    let first : List ℕ = bytes server_hello (hello random suite) in
    let exchange : List ℕ = joined (hint_message hint) in
    let done : List (List ℕ) = bytes server_hello_done [] ∷ [] in
    let behind = ap length (joined-append (hint_message hint) done) ∙ length-append exchange (joined done) in
    let size = ap length (flight-parts random hint suite) ∙ length-append first (rest_of hint) in
    omega (arith, size, behind, length-hello random suite h, hint-most hint k)

abbrev plainly : List (List ℕ) → Flight
plainly messages = record { plain = messages; protected = [] }

-- all of them, at the front of an array
pub flight-sent : (random hint : List ℕ) (suite : ℕ) (array rest : List ℕ) → length random ≡ 32 → length hint ≤ 128
    → array ≡ flight_bytes (flight random hint suite) ++ rest
    → Sends (record { bytes = array; lengths = 42 ∷ hint_message_length (length hint) ∷ 4 ∷ []; plain = 3 }) (flight random hint suite)
flight-sent random hint suite array rest h k e =
    let first : List ℕ = bytes server_hello (hello random suite) in
    let lengths : List ℕ = 42 ∷ hint_message_length (length hint) ∷ 4 ∷ [] in
    let placed : array ≡ first ++ (rest_of hint ++ rest) =
    e ∙ ap (λ (l : List ℕ). l ++ rest) (flight-parts random hint suite) ∙ append_assoc first (rest_of hint) rest in
    let messages : cut lengths array ≡ (flight random hint suite).plain =
    ap (cut lengths) placed
    ∙ cut-first first (rest_of hint ++ rest) 42 (hint_message_length (length hint) ∷ 4 ∷ []) (omega arith) (length-hello random suite h)
    ∙ ap (λ (l : List (List ℕ)). first ∷ l) (cut-rest hint rest) in
    record { means = ap plainly messages; fits = flight-short (length hint) k }
  where
    flight-short : (n : ℕ) → n ≤ 128 → total (42 ∷ hint_message_length n ∷ 4 ∷ []) ≤ 180
    flight-short n h = go (eqb n 0)
      where
        go : (t : Bool) → total (42 ∷ cond t 0 (6 + n) ∷ 4 ∷ []) ≤ 180
        go true = omega arith
        go false = omega arith
