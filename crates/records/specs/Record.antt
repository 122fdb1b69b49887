-- The record layer's plaintext (RFC 5246, section 6.2.1): a content type, a version and a fragment with its length in front; and the tests on a record
-- that came, in the order of document 02's P5.
use Rattle.std.specs.Prelude.{ℕ, ◌+◌, ◌-◌, Bool, cond, ◌&&◌, List, ◌∷◌, ◌++◌, length, get_or, drop, leb, eqb, Result, Ok, Err, Option, None, Some}
use Rattle.refusal.specs.declared.Refusal.{Refusal}
use Rattle.endian.specs.Number.{be}
use Rattle.endian.specs.Vector.{stated, vector}
use Rattle.refusal.specs.declared.Refusal.TheVariants.{UnexpectedMessage, RecordOverflow, DecodeError}
use Rattle.records.specs.declared.ContentType.{ContentType}

-- ---- content types

-- the number of each
abbrev pub type_number : ContentType → ℕ
type_number ContentType.ChangeCipherSpec = 20
type_number ContentType.Alert = 21
type_number ContentType.Handshake = 22
type_number ContentType.ApplicationData = 23

-- the one that has this number, if one has
abbrev pub type_of : ℕ → Option ContentType
type_of n =
    cond (eqb n 20) (Some ContentType.ChangeCipherSpec)
    (cond (eqb n 21) (Some ContentType.Alert)
    (cond (eqb n 22) (Some ContentType.Handshake)
    (cond (eqb n 23) (Some ContentType.ApplicationData) None)))

-- ---- a record's bytes

-- type (1 byte), version (2) and the fragment's length (2)
abbrev pub header_length : ℕ
header_length = 5

-- the most bytes of content, 2^14
abbrev pub content_limit : ℕ
content_limit = 16384

-- the first three bytes of what we send: the version is TLS 1.2's, 0x0303
abbrev pub front : ContentType → List ℕ
front kind = type_number kind ∷ be 2 0x0303

abbrev pub record_bytes : ContentType → List ℕ → List ℕ
record_bytes kind fragment = front kind ++ vector 2 fragment

-- what stands behind the header
abbrev pub fragment_of : List ℕ → List ℕ
fragment_of bytes = drop header_length bytes

-- ---- the tests on a record that came

-- there are a header and just as many bytes behind it as it says
abbrev pub whole : List ℕ → Bool
whole bytes = leb header_length (length bytes) && eqb (stated 2 (drop 3 bytes)) (length bytes - header_length)

-- 22 for a fragment, of n bytes, that is longer than content and what its protection may add
abbrev pub length_read : (added n : ℕ) → ContentType → Result ContentType Refusal
length_read added n kind = cond (leb n (content_limit + added)) (Ok kind) (Err RecordOverflow)

-- 10 for a type that is none of the four
abbrev pub type_read : (added : ℕ) → List ℕ → Option ContentType → Result ContentType Refusal
type_read added bytes None = Err UnexpectedMessage
type_read added bytes (Some kind) = length_read added (length (fragment_of bytes)) kind

-- 50 for bytes that aren't one whole record, then these; the version is not judged
abbrev pub record_read : (added : ℕ) → List ℕ → Result ContentType Refusal
record_read added bytes = cond (whole bytes) (type_read added bytes (type_of (get_or bytes 0 0))) (Err DecodeError)
