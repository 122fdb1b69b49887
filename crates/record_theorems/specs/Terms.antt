-- The terms of demand 3 for record connections, said of the records, the settings and the table alone: nothing here speaks of the state that a
-- connection keeps. What is legal and right of a message is as for the server's own connections (crates/theorems/specs/Terms.antt).
use Rattle.std.specs.Prelude.{◌≡◌, true, ℕ, ◌+◌, List, [], ◌∷◌, ◌++◌, length, Ok}
use Rattle.refusal.specs.Lent.{Outcome, gives, and_then}
use Rattle.lists.specs.Lists.{part}
use Rattle.keys.specs.Secrets.{keys, master_under}
use Rattle.server.specs.Connection.{Settings}
use Rattle.records.specs.declared.ContentType.{ContentType}
use Rattle.records.specs.declared.State.{State}
use Rattle.records.specs.Record.{fragment_of, record_read}
use Rattle.records.specs.Protection.{opened, content_of, holding}
use Rattle.record_server.specs.Connection.{null_suite}
use Rattle.record_server.specs.Answering.{change_of_cipher}
use Rattle.theorems.specs.Terms.{LegalHello, LegalKeyExchange, value_under}
use Rattle.record_theorems.specs.Series.{Call, takes}

-- ---- records

-- a record that meets the tests on records where there is no protection, with its content
pub record PlainRecord (kind : ContentType) (content : List ℕ) (x : Call) : Type 0 where
  pub bytes : List ℕ
  pub out : List ℕ
  pub is : x ≡ takes bytes out
  pub read : record_read 0 bytes ≡ Ok kind
  pub holds : fragment_of bytes ≡ content

-- the client's direction under a MAC key, before its record of number n
abbrev pub under : List ℕ → ℕ → State
under key n = record { protected = true; sequence = n; key = key }

-- a record that meets the tests on records and has the MAC that this key gives under this number, with its content
pub record SealedRecord (key : List ℕ) (n : ℕ) (kind : ContentType) (content : List ℕ) (x : Call) : Type 0 where
  pub bytes : List ℕ
  pub out : List ℕ
  pub is : x ≡ takes bytes out
  pub opens : opened (under key n) bytes ≡ holding kind (length content)
  pub holds : content_of (under key n) bytes ≡ content

-- the two bytes of an ignored warning: level 1, and not close_notify
abbrev pub Warning : List ℕ → Type 0
Warning content = (description : ℕ) × (content ≡ 1 ∷ description ∷ []) × ¬ (description ≡ 0)

-- ---- handshake bytes, however they are cut into records, with ignored warnings among these

-- unprotected records, whose handshake contents joined are these bytes; none of these contents is empty
pub data Plain : List Call → List ℕ → Type 0 where
  none : Plain [] []
  fragment : {x : Call} {xs : List Call} {b : ℕ} {bs rest : List ℕ} → PlainRecord ContentType.Handshake (b ∷ bs) x → Plain xs rest
      → Plain (x ∷ xs) ((b ∷ bs) ++ rest)
  warning : {x : Call} {xs : List Call} {content rest : List ℕ} → Warning content → PlainRecord ContentType.Alert content x → Plain xs rest
      → Plain (x ∷ xs) rest

-- the same under a key, the first record having the number n; warnings count too
pub data Sealed (key : List ℕ) : ℕ → List Call → List ℕ → Type 0 where
  none : {n : ℕ} → Sealed key n [] []
  fragment : {n : ℕ} {x : Call} {xs : List Call} {b : ℕ} {bs rest : List ℕ} → SealedRecord key n ContentType.Handshake (b ∷ bs) x → Sealed key (n + 1) xs rest
      → Sealed key n (x ∷ xs) ((b ∷ bs) ++ rest)
  warning : {n : ℕ} {x : Call} {xs : List Call} {content rest : List ℕ} → Warning content → SealedRecord key n ContentType.Alert content x
      → Sealed key (n + 1) xs rest → Sealed key n (x ∷ xs) rest

-- a change of cipher, the byte 01
abbrev pub Change : Call → Type 0
Change x = PlainRecord ContentType.ChangeCipherSpec change_of_cipher x

-- ---- what came until the client's protection begins

-- Of the records that came, ignored warnings apart, the first are unprotected handshake records whose contents joined are a legal ClientHello and a
-- legal ClientKeyExchange and nothing more; then one change of cipher.
pub record ChangeCame (s : Settings) (calls : List Call) : Type 0 where
  pub first : List Call
  pub hello : List ℕ
  pub exchange : List ℕ
  pub plain : Plain first (hello ++ exchange)
  pub legal_hello : LegalHello s.suites hello
  pub legal_exchange : LegalKeyExchange exchange
  pub change : Call
  pub changes : Change change
  pub is : calls ≡ first ++ (change ∷ [])

module _ (s : Settings) {calls : List Call} (c : ChangeCame s calls) where
  -- the identity that the ClientKeyExchange named
  abbrev pub named : List ℕ
  named = c.legal_exchange.identity

  -- the client's MAC key that an identity's key leads to (RFC 5246, section 6.3: the first of the key block)
  abbrev pub client_key : (key : List ℕ) → Outcome
  client_key key =
      and_then (master_under key c.legal_hello.fields.random s.random)
      (λ secret. and_then (keys secret s.random c.legal_hello.fields.random null_suite) (λ block. gives (part 0 32 block)))

  -- the Finished value that is right under a key
  abbrev pub right_value : (key : List ℕ) → Outcome
  right_value key = value_under s c.legal_hello c.exchange key
