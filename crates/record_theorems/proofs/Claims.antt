-- The headline statements of specs/Claims.antt, proved as one value.
-- Assumes nothing.
use Rattle.records.proofs.Sealing.{sealed-opened, sealed-elsewhere}
use Rattle.saved_records.proofs.Saving.{cleared-closed}
use Rattle.record_theorems.specs.Claims.{Claims}
use Rattle.record_theorems.proofs.Over.{closed-stays}
use Rattle.record_theorems.proofs.Cutting.{cut-free}
use Rattle.record_theorems.proofs.Sameness.{sameness, sameness-of-lookups}
use Rattle.record_theorems.proofs.Completion.{completes-exactly}

pub claims : Claims
claims = record {
  closed_stays = closed-stays;
  record_cleared_closed = cleared-closed;
  sealed_opened = sealed-opened;
  sealed_elsewhere = sealed-elsewhere;
  cut_free = cut-free;
  record_sameness = sameness;
  record_sameness_of_lookups = sameness-of-lookups;
  record_completes_exactly = completes-exactly;
}
