-- What the two hellos share (RFC 5246, sections 7.4.1.2 and 7.4.1.3): version, random and session id in front, the extension block at the end.
-- An absent block and an empty one are two messages, in reading and in writing.
use Rattle.std.specs.Prelude.{ℕ, Bool, true, ◌&&◌, cond, List, [], ◌++◌, length, take, drop, leb, ltb, eqb, Option, None, Some}
use Rattle.endian.specs.Number.{be}
use Rattle.endian.specs.Vector.{vector, writable}
use Rattle.layout.specs.declared.Part.{Part}
use Rattle.layout.specs.Place.{part_at, last_at, ruled, contents}
use Rattle.extensions.specs.Extensions.{block_rule}
use Rattle.layout.specs.Layout.{Layout}

-- ---- the fields in front

-- a version that two bytes hold, a random of 32 bytes, a session id of at most 32
abbrev pub front_rules : ℕ → List ℕ → List ℕ → Bool
front_rules version random session_id = ltb version 65536 && eqb (length random) 32 && leb (length session_id) 32

-- the bytes, and those that come after them
abbrev pub front_bytes : ℕ → List ℕ → List ℕ → List ℕ → List ℕ
front_bytes version random session_id rest = be 2 version ++ (random ++ (vector 1 session_id ++ rest))

-- where the session id stands: behind header, version and random
abbrev pub session_at : List ℕ → Option Part
session_at m = ruled (λ n. leb n 32) (part_at 1 m 38)

-- ---- the extension block: nothing, or a vector of extensions

abbrev pub block_rules : Option (List ℕ) → Bool
block_rules None = true
block_rules (Some b) = writable 2 b && block_rule b

abbrev pub tail_bytes : Option (List ℕ) → List ℕ
tail_bytes None = []
tail_bytes (Some b) = vector 2 b

abbrev pub block_in : List ℕ → Option Part → Option (Option Part)
block_in m (Some p) = cond (block_rule (take p.len (drop p.start m))) (Some (Some p)) None
block_in m None = None

-- the block from `at` to the end of the message: refused, found to be absent, or where it stands
abbrev pub block_at : List ℕ → ℕ → Option (Option Part)
block_at m at = cond (eqb at (length m)) (Some None) (block_in m (last_at 2 m at))

-- `contents` says the same of an absent block as of a refused part: there are no bytes
abbrev pub block_contents : List ℕ → Option Part → Option (List ℕ)
block_contents = contents

-- ---- a hello with its front, what stands between and the block

pub record Front : Type 0 where
  pub version : ℕ
  pub random : List ℕ
  pub session_id : List ℕ
  pub extensions : Option (List ℕ)

abbrev pub hello_with : ℕ → List ℕ → Layout Front
hello_with kind middle = record {
  kind = kind;
  rules = λ f. front_rules f.version f.random f.session_id && block_rules f.extensions;
  body = λ f. front_bytes f.version f.random f.session_id (middle ++ tail_bytes f.extensions);
}

-- what stands between, as a writer is given it
abbrev pub between : List ℕ → List ℕ → List ℕ → List ℕ → List ℕ
between a b c d = ((a ++ b) ++ c) ++ d

abbrev pub front_given : ℕ → List ℕ → List ℕ → Option (List ℕ) → Front
front_given version random session_id block = record { version = version; random = random; session_id = session_id; extensions = block }
