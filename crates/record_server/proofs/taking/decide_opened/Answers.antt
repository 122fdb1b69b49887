-- `record_server::taking::decide_opened`: the tests on the record, and then those on what it holds.
use mathlib.Core.Path.{◌≡◌, sym, ap, ◌∙◌}
use mathlib.Core.Bool.{false, not, cond}
use mathlib.Core.List.{List}
use Prim.Native.Nat.{ℕ}
use Rattle.lists.specs.Lists.{part}
use Rattle.refusal.specs.declared.Refusal.TheVariants.{DecryptError}
use Rattle.server.specs.KeyExchange.{View}
use Rattle.records.specs.declared.ContentType.{ContentType}
use Rattle.records.specs.Protection.{opened, holding}
use Rattle.records.proofs.Opening.{opened_inside}
use Rattle.record_server.specs.declared.RecordConnection.{RecordConnection}
use Rattle.record_server.specs.Taking.{refuse, unlisted_first, content_decided, opened_step}
use Rattle.record_server.proofs.Decisions.{same_step}
use Rattle.record_server.proofs.taking.decide_opened.Goals.{else-is_first-via-then-is_first+else-not-client, else-is_first-via-else-is_first}
use Rattle.record_server.proofs.taking.decide_opened.Goals as goal

-- the step of a record that passed its tests
step : (v : View) (c : RecordConnection) (held received : List ℕ) (kind : ContentType) (n : ℕ) → opened c.reading received ≡ holding kind n
    → opened_step v c held received (opened c.reading received)
    ≡ cond (unlisted_first c) (refuse DecryptError) (content_decided v c held (part 5 n received) kind)
step v c held received kind n passed = ap (opened_step v c held received) passed ∙ rw (opened_inside c.reading received passed).3

pub decide_content-requires : goal.decide_content-requires
decide_content-requires c =
    let inside = opened_inside c.args.c.reading c.args.received.now (sym c.open.ensures ∙ c.in-Ok.is) in
    record { kept-inside = c.requires.0; kept-few = c.requires.1; going = c.requires.2; inside = inside.0; few = inside.1 }

pub returns-else-is_first : goal.returns-else-is_first
returns-else-is_first c =
    let first = c.is_first.ensures in
    let listed : unlisted_first c.args.c ≡ false =
    elim c.else-is_first.branch [
      | else-is_first-via-then-is_first+else-not-client w ↦
          let known : not c.args.c.handshake.client.listed ≡ false = w.if-not-client.false in
          rw (← first, w.if-is_first.true, known)
      | else-is_first-via-else-is_first w ↦ rw (← first, w.if-is_first.false)
    ] in
    same_step
    (step _ c.args.c _ c.args.received.now c.in-Ok.content.kind c.in-Ok.content.len (sym c.open.ensures ∙ c.in-Ok.is) ∙ rw listed)
    c.decide_content.ensures
