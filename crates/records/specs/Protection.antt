-- A connection state and the protection of a record under it (RFC 5246, sections 6.1 and 6.2.3.1), for TLS_PSK_WITH_NULL_SHA256: no cipher, and an
-- HMAC-SHA-256 behind the content.
use Rattle.std.specs.Prelude.{ℕ, ◌+◌, ◌-◌, Bool, true, false, cond, not, ◌&&◌, List, ◌++◌, length, take, drop, replicate, leb, eqb, Result, Ok, Err}
use Rattle.records.specs.declared.Content.{Content}
use Rattle.refusal.specs.declared.Refusal.{Refusal}
use Rattle.endian.specs.Number.{be}
use Rattle.lists.specs.Lists.{same}
use Rattle.refusal.specs.declared.Refusal.TheVariants.{BadValue, BadRecordMac}
use Rattle.refusal.specs.Lent.{Outcome, gives, refuses}
use Rattle.keys.specs.Hmac.{mac}
use Rattle.records.specs.declared.ContentType.{ContentType}
use Rattle.records.specs.declared.State.{State}
use Rattle.records.specs.Record.{content_limit, front, record_bytes, fragment_of, record_read}

-- ---- a connection state: of one direction

-- at the start: no protection, and nothing counted
abbrev pub initial_state : State
initial_state = record { protected = false; sequence = 0; key = replicate 32 0 }

-- from a change of cipher on: its numbers begin at 0 again
abbrev pub protected_by : List ℕ → State
protected_by key = record { protected = true; sequence = 0; key = key }

-- the last sequence number, under which no record is sent or taken (R9)
abbrev pub last_sequence : ℕ
last_sequence = 0xffff_ffff_ffff_ffff

-- The number after n. Every record of a state counts, protected or not. There is none after the last.
abbrev pub following : ℕ → ℕ
following n = cond (eqb n last_sequence) last_sequence (n + 1)

-- when one more record was sent or taken
abbrev pub counted : State → State
counted s = record { protected = s.protected; sequence = following s.sequence; key = s.key }

-- ---- the MAC

abbrev pub mac_length : ℕ
mac_length = 32

-- how many bytes the protection adds to the content
abbrev pub added : State → ℕ
added s = cond s.protected mac_length 0

-- MAC(MAC_write_key, seq_num + type + version + length + content): `front` is the record's type and version, three bytes, and the length is the
-- content's own
unfoldable pub mac_of : (key : List ℕ) → (sequence : ℕ) → (front content : List ℕ) → List ℕ
mac_of key sequence front content = mac key ((be 8 sequence ++ (front ++ be 2 (length content))) ++ content)

-- ---- a record that is sent

abbrev pub fragment_under : State → ContentType → List ℕ → List ℕ
fragment_under s kind content = cond s.protected (content ++ mac_of s.key s.sequence (front kind) content) content

abbrev pub sealed : State → ContentType → List ℕ → List ℕ
sealed s kind content = record_bytes kind (fragment_under s kind content)

-- R5 for more content than a record holds
abbrev pub sealing : State → ContentType → List ℕ → Outcome
sealing s kind content = cond (leb (length content) content_limit) (gives (sealed s kind content)) (refuses BadValue)

-- ---- a record that was taken

-- how many bytes of the fragment are content
abbrev pub content_length : State → List ℕ → ℕ
content_length s bytes = length (fragment_of bytes) - added s

abbrev pub content_of : State → List ℕ → List ℕ
content_of s bytes = take (content_length s bytes) (fragment_of bytes)

-- The MAC behind the content is the one over the record's own type and version. A fragment that is shorter than a MAC has a bad one.
abbrev pub right_mac : State → List ℕ → Bool
right_mac s bytes =
    leb mac_length (length (fragment_of bytes))
    && same (drop (content_length s bytes) (fragment_of bytes)) (mac_of s.key s.sequence (take 3 bytes) (content_of s bytes))

-- so many bytes of content, of this type
abbrev pub holding : ContentType → ℕ → Result Content Refusal
holding kind n = Ok (record { kind = kind; len = n })

-- 20 for a bad MAC, where one is asked for; else the content's type and length
abbrev pub mac_read : State → List ℕ → Result ContentType Refusal → Result Content Refusal
mac_read s bytes (Ok kind) =
    cond (s.protected && not (right_mac s bytes)) (Err BadRecordMac) (holding kind (content_length s bytes))
mac_read s bytes (Err r) = Err r

-- the tests on a record in their order, the MAC's last
abbrev pub opened : State → List ℕ → Result Content Refusal
opened s bytes = mac_read s bytes (record_read (added s) bytes)
