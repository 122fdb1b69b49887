-- The labels' bytes and C's numbers (specs/Numbers.antt).
-- Assumes nothing.
use mathlib.Core.Path.{refl}
use Rattle.theorems.specs.Numbers.{LabelTexts, NumbersInC}

pub label-texts : LabelTexts
label-texts = record { master = refl; keys = refl; client = refl; server = refl }

pub numbers-in-c : NumbersInC
numbers-in-c =
    record {
      rules = (refl, refl, refl);
      labels = (refl, refl, refl, refl);
      sides = (refl, refl);
      phases = (refl, refl, refl, refl, refl, refl);
    }
