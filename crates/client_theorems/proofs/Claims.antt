-- Every headline statement of this crate, by one value.
-- Assumes nothing.
use mathlib.Core.Path.{refl}
use Rattle.saved_client.proofs.Saving.{cleared-closed}
use Rattle.client_theorems.specs.Claims.{Claims}
use Rattle.client_theorems.proofs.BothEnds.{both-ends-complete}
use Rattle.client_theorems.proofs.Completion.{completes-exactly}
use Rattle.client_theorems.proofs.Handed.{handed-once}
use Rattle.client_theorems.proofs.Over.{over-stays}
use Rattle.client_theorems.proofs.Ready.{answer-has}

pub claims : Claims
claims =
    record {
      client_over_stays = over-stays;
      client_cleared_closed = cleared-closed;
      client_phases_in_c = (refl, refl, refl, refl, refl, refl, refl);
      client_answer_length = answer-has;
      client_master_handed_once = handed-once;
      client_completes_exactly = completes-exactly;
      both_ends_complete = both-ends-complete;
    }
