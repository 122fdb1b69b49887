-- `record_server::taking::keys_of`: the key block fills its array, and its halves theirs.
use Rattle.std.proofs.Common.{rules, ◌≡◌, ◌∙◌, arith, refl, sym, List, ℕ, length, Result}
use lib.Seq.{length-take-le}
use Rattle.lists.proofs.Copies.{copied-part}
use Rattle.refusal.specs.declared.Refusal.{Refusal}
use Rattle.refusal.specs.Lent.{gives, Answers}
use Rattle.refusal.proofs.Laws.{whole-gives}
use Rattle.keys.specs.Secrets.{keys}
use Rattle.keys.proofs.Lengths.{key-block-given}
use Rattle.server.specs.declared.Connection.{Connection}
use Rattle.record_server.proofs.taking.keys_of.Goals as goal

made : (c : Connection) {out bytes : List ℕ} {said : Result ℕ Refusal} → length c.secrets.master ≡ 48 → length c.setup.random ≡ 32 → length c.client.random ≡ 32
    → length out ≡ 64 → Answers (keys c.secrets.master c.setup.random c.client.random 0x00b0) out said bytes
    → (length bytes ≡ 64) × (keys c.secrets.master c.setup.random c.client.random 0x00b0 ≡ gives bytes)
made c {out} {bytes} master own client room answers =
    let given = key-block-given c.secrets.master c.setup.random c.client.random 0x00b0 master own client (omega arith) (omega arith) in
    let whole = whole-gives given.2 (given.1 ∙ sym room) answers in
    let same : bytes ≡ given.0 = cc in
    (rw same given.1, whole)

pub slice_bounds-copy-end : goal.slice_bounds-copy-end
slice_bounds-copy-end c =
    let size = (made c.args.c (search rules) (search rules) (search rules) refl c.key_block.ensures).0 in
    sym (length-take-le 32 c.key_block.new.out (omega (arith, size)))

pub copy-requires : goal.copy-requires
copy-requires c =
    let size = (made c.args.c (search rules) (search rules) (search rules) refl c.key_block.ensures).0 in
    omega (arith, length-take-le 32 c.key_block.new.out (omega (arith, size)))

pub returns : goal.returns
returns c =
    let bytes = c.key_block.new.out in
    let whole = made c.args.c (search rules) (search rules) (search rules) refl c.key_block.ensures in
    let size : length bytes ≡ 64 = whole.0 in
    rw (
      whole.1,
      copied-part bytes c.copy.new.dst 0 32 32 refl (omega arith) c.copy.ensures.1,
      copied-part bytes c.copy-2.new.dst 32 32 32 refl (omega arith) c.copy-2.ensures.1,
    )
