-- `c_interface::record_connection::tn_take_record`: what `record_server::take` gave back, kept, and the master secret with its number
-- where one is handed over, and the four numbers where the record is accepted.
use Rattle.std.proofs.Common.{◌≡◌, ◌∙◌, ap, sym}
use Rattle.server.specs.KeyExchange.{view_of}
use Rattle.record_server.specs.declared.RecordConnection.{RecordConnection}
use Rattle.record_server.specs.Taking.{Settled, take_call, taken}
use Rattle.saved_records.specs.Saved.{restored}
use Rattle.c_interface.specs.Kept.{master_after, blocks_after}
use Rattle.c_interface.proofs.Keeping.{kept-as, was-handed, was-kept}
use Rattle.c_interface.proofs.RecordSizes.{data-fits}
use Rattle.c_interface.proofs.RecordKeeping.{taken-parts, told-accepted, told-refused, took-keeps}
use Rattle.c_interface.proofs.record_connection.tn_take_record.Goals.{in-Some, in_default, then-is_ok, else-is_ok}
use Rattle.c_interface.proofs.record_connection.tn_take_record.Goals as goal

pub told_of-requires : goal.told_of-requires
told_of-requires c =
    let a = c.args in
    let v = view_of a.table.now a.starts.now a.count in
    let given = rw c.connection_of.ensures at c.take-taken.ensures.takes.gives in
    let w : Settled = take_call v (restored a.connection.now) a.received.now a.memory.now a.out.now in
    rw (taken-parts w given).2 (data-fits v (restored a.connection.now) a.received.now a.memory.now a.out.now)

pub returns-clause-keeps_record : goal.returns-clause-keeps_record
returns-clause-keeps_record c =
    let a = c.args in
    let v = view_of a.table.now a.starts.now a.count in
    let given = rw c.connection_of.ensures at c.take-taken.ensures.takes.gives in
    took-keeps v a.connection.now a.received.now a.memory.now a.out.now given c.keep.type_inv c.keep.ensures.value (kept-as c.save.ensures.value c.save.ensures.result_value c.keep.ensures.kept)

pub returns-clause-takes_record : goal.returns-clause-takes_record
returns-clause-takes_record c =
    let a = c.args in
    let taken_on = λ (x : RecordConnection). take_call (view_of a.table.now a.starts.now a.count) x a.received.now a.memory.now a.out.now in
    let w : Settled = taken_on (restored a.connection.now) in
    let takes = c.take-taken.ensures.takes in
    let given : c.take-taken.result ≡ taken w = takes.gives ∙ ap (λ (x : RecordConnection). taken (taken_on x)) c.connection_of.ensures in
    let over = (taken-parts w given).3 in
    let handed : (c.match-taken.master ≡ master_after w.master a.master.now) × (c.match-taken.blocks ≡ blocks_after w.master a.blocks.now) =
    elim c.match-taken.branch [
      | in-Some x ↦ let told = was-handed over a.master.now a.blocks.now x.in-Some.is in (x.master-is ∙ told.0, x.blocks-is ∙ told.1)
      | in_default x ↦ let told = was-kept over a.master.now a.blocks.now x.in_default.is in (x.master-is ∙ told.0, x.blocks-is ∙ told.1)
    ] in
    record {
      out-left = takes.out-left ∙ ap (λ (x : RecordConnection). (taken_on x).out) c.connection_of.ensures;
      memory-left = takes.memory-left ∙ ap (λ (x : RecordConnection). (taken_on x).memory) c.connection_of.ensures;
      handed = handed.0;
      fields =
          elim c.if-is_ok.branch [
            | then-is_ok x ↦ told-accepted w a.told.now given (sym c.is_ok.ensures.value ∙ x.if-is_ok.true) (x.told-is ∙ x.told_of.ensures ∙ rw x.is_some.ensures)
            | else-is_ok x ↦ told-refused w a.told.now given (sym c.is_ok.ensures.value ∙ x.if-is_ok.false) x.told-is
          ];
      counted = handed.1;
    }
