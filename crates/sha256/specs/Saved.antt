-- A hash under way as 104 bytes, and what 104 bytes stand for: for a host that keeps a connection between calls in memory of its own.
-- proofs/Saving.antt has the law that what was saved is restored.
use Rattle.std.specs.Prelude.{ℕ, List, ◌++◌}
use Rattle.lists.specs.Lists.{part}
use Rattle.endian.specs.Number.{be, number}
use Rattle.sha256.specs.declared.Sha256.{Sha256}
use Rattle.sha256.specs.Hash.{concatenated}

-- the words a to h, 4 bytes each, the block's 64, and the count in 8
unfoldable pub saved : Sha256 → List ℕ
saved s = concatenated s.words ++ s.block ++ be 8 s.count

-- the word that stands at a place
abbrev pub word_at : ℕ → List ℕ → ℕ
word_at at bytes = number (part at 4 bytes)

-- the hash that the bytes stand for, each field read where `saved` puts it
unfoldable pub restored : List ℕ → Sha256
restored bytes =
    record {
      words =
          record {
            a = word_at 0 bytes;
            b = word_at 4 bytes;
            c = word_at 8 bytes;
            d = word_at 12 bytes;
            e = word_at 16 bytes;
            f = word_at 20 bytes;
            g = word_at 24 bytes;
            h = word_at 28 bytes;
          };
      block = part 32 64 bytes;
      count = number (part 96 8 bytes);
    }
