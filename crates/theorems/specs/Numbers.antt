-- Texts and numbers that no other theorem speaks of, written out: the PRF's labels (RFC 5246, sections 6.3, 7.4.9 and 8.1) in their bytes, and the
-- numbers by which C names rules, labels, sides and phases, as include/turretnail.h has them. proofs/Numbers.antt proves them.
use Rattle.std.specs.Prelude.{◌≡◌, [], ◌∷◌, None, Some}
use Rattle.keys.specs.declared.Label.TheVariants.{MasterSecret, KeyExpansion, ClientFinished, ServerFinished}
use Rattle.keys.specs.declared.Side.TheVariants.{Client, Server}
use Rattle.keys.specs.Prf.{text}
use Rattle.server.specs.declared.Rule.{Rule}
use Rattle.server.specs.declared.Phase.{Phase}
use Rattle.saved.specs.Saved.{phase_byte}
use Rattle.c_interface.specs.Connections.{named_of}
use Rattle.c_interface.specs.Numbered.{label_of, side_of}

pub record LabelTexts : Type 0 where
  pub master : text MasterSecret ≡ 0x6D ∷ 0x61 ∷ 0x73 ∷ 0x74 ∷ 0x65 ∷ 0x72 ∷ 0x20 ∷ 0x73 ∷ 0x65 ∷ 0x63 ∷ 0x72 ∷ 0x65 ∷ 0x74 ∷ []
  pub keys : text KeyExpansion ≡ 0x6B ∷ 0x65 ∷ 0x79 ∷ 0x20 ∷ 0x65 ∷ 0x78 ∷ 0x70 ∷ 0x61 ∷ 0x6E ∷ 0x73 ∷ 0x69 ∷ 0x6F ∷ 0x6E ∷ []
  pub client : text ClientFinished
      ≡ 0x63 ∷ 0x6C ∷ 0x69 ∷ 0x65 ∷ 0x6E ∷ 0x74 ∷ 0x20 ∷ 0x66 ∷ 0x69 ∷ 0x6E ∷ 0x69 ∷ 0x73 ∷ 0x68 ∷ 0x65 ∷ 0x64 ∷ []
  pub server : text ServerFinished
      ≡ 0x73 ∷ 0x65 ∷ 0x72 ∷ 0x76 ∷ 0x65 ∷ 0x72 ∷ 0x20 ∷ 0x66 ∷ 0x69 ∷ 0x6E ∷ 0x69 ∷ 0x73 ∷ 0x68 ∷ 0x65 ∷ 0x64 ∷ []

pub record NumbersInC : Type 0 where
  pub rules : (named_of 0 ≡ None) × (named_of 1 ≡ Some Rule.Tell) × (named_of 2 ≡ Some Rule.Hide)
  pub labels : (label_of 0 ≡ MasterSecret) × (label_of 1 ≡ KeyExpansion) × (label_of 2 ≡ ClientFinished) × (label_of 3 ≡ ServerFinished)
  pub sides : (side_of 0 ≡ Client) × (side_of 1 ≡ Server)
  pub phases : (phase_byte Phase.Closed ≡ 0)
      × (phase_byte Phase.Hello ≡ 1)
      × (phase_byte Phase.KeyExchange ≡ 2)
      × (phase_byte Phase.Change ≡ 3)
      × (phase_byte Phase.Finished ≡ 4)
      × (phase_byte Phase.Complete ≡ 5)
