-- `table_edits::hex::put_line`: the identity, the colon, the digits, the 0A.
use Rattle.std.proofs.Common.{arith, ◌≡◌, ◌∙◌, ap, ℕ, List, [], ◌∷◌, ◌++◌, ◌+◌, ◌-◌, length, take, drop}
use lib.ListN.{length-set, length-append, length-drop}
use lib.Seq.{take-length}
use Rattle.keytable.specs.Table.{colon, line_end}
use Rattle.table_edits.proofs.Digits.{length-hex}
use Rattle.table_edits.proofs.Writing.{colon-written, line-written}
use Rattle.table_edits.proofs.hex.put_line.Goals as goal

pub returns : goal.returns
returns c =
    let identity = c.args.identity.now in
    let out = c.args.out.now in
    let (n, after) = c.copy-colon.ensures in
    let copied : length c.copy-colon.new.dst ≡ length out =
    ap length after ∙ length-append (take (length identity) identity) (drop (length identity) out)
    ∙ omega (arith, ap length (take-length identity), length-drop (length identity) out) in
    let digits = ap length c.put_key.ensures ∙ length-hex c.args.key.now in
    line-written identity c.put_key.new.out _ (c.copy-colon.result + 1) (length out - 1)
    (colon-written identity out c.copy-colon.new.dst c.copy-colon.result n (omega arith) after)
    (omega arith) (omega (arith, digits)) (simp length-set (omega (arith, copied)))
    ∙ ap (λ (d : List ℕ). identity ++ (colon ∷ d) ++ (line_end ∷ [])) c.put_key.ensures
