-- How many 64-byte blocks go through the compression function (document 02, P8), and how a call reports it. proofs/Counting.antt ties the two counts:
-- finishing what was absorbed of a message takes as many as the message has.
use Rattle.std.specs.Prelude.{ℕ, ◌+◌, ◌/◌, ◌%◌, List, ◌++◌, length, take, Result, Ok, Err}
use Rattle.refusal.specs.declared.Refusal.{Refusal}
use Rattle.sha256_block.specs.Blocks.{parse}
use Rattle.sha256.specs.declared.Sha256.{Sha256}
use Rattle.sha256.specs.declared.Reported.{Reported}
use Rattle.sha256.specs.Message.{pad, padding}

-- FIPS 180-4, 5.2.1: N, the number of blocks of the padded message; 6.2.2 takes each through the compression function once
unfoldable pub blocks_of : List ℕ → ℕ
blocks_of m = length (parse (pad m))

-- of a hash under way, with its finish: one for every 64 bytes that it has absorbed, and those of what is left with the padding
unfoldable pub compressed : Sha256 → ℕ
compressed s = s.count / 64 + length (parse (take (s.count % 64) s.block ++ padding s.count))

-- what was said, without the number
abbrev pub said : Result Reported Refusal → Result ℕ Refusal
said (Ok r) = Ok r.len
said (Err r) = Err r
