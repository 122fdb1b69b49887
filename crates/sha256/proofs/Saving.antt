-- A hash that was saved is restored.
-- Assumes nothing.
use mathlib.Core.Path.{◌≡◌, refl}
use Prim.Native.Nat.{◌^◌, ◌<◌}
use lib.ListN.{length}
use Rattle.lists.proofs.Parts.{part-there}
use Rattle.endian.specs.Number.{be}
use Rattle.endian.proofs.Numbers.{number-be-lt}
use Rattle.sha256.specs.declared.Sha256.{Sha256}
use Rattle.sha256.specs.Hash.{concatenated}
use Rattle.sha256.specs.Saved.{saved, restored}

-- What the types say of a hash's fields, as far as the law asks for it: the block's bytes are kept as they stand, whatever they are.
pub record Fits (s : Sha256) : Type 0 where
  pub a : s.words.a < 2 ^ 32
  pub b : s.words.b < 2 ^ 32
  pub c : s.words.c < 2 ^ 32
  pub d : s.words.d < 2 ^ 32
  pub e : s.words.e < 2 ^ 32
  pub f : s.words.f < 2 ^ 32
  pub g : s.words.g < 2 ^ 32
  pub h : s.words.h < 2 ^ 32
  pub size : length s.block ≡ 64
  pub count : s.count < 2 ^ 64

pub restored-saved : (s : Sha256) → Fits s → restored (saved s) ≡ s
unfolding restored saved concatenated
restored-saved s fits =
    let block = part-there (saved s) s.block (be 8 s.count) 32 64 refl fits.size in
    rw (
      number-be-lt 4 s.words.a fits.a,
      number-be-lt 4 s.words.b fits.b,
      number-be-lt 4 s.words.c fits.c,
      number-be-lt 4 s.words.d fits.d,
      number-be-lt 4 s.words.e fits.e,
      number-be-lt 4 s.words.f fits.f,
      number-be-lt 4 s.words.g fits.g,
      number-be-lt 4 s.words.h fits.h,
      block.0,
      block.1,
      number-be-lt 8 s.count fits.count,
    )
