-- A closed record connection stays as it is (specs/Over.antt).
-- Assumes nothing.
use Rattle.record_theorems.specs.Series.{takes, sends}
use Rattle.record_theorems.specs.Over.{ClosedStays}

pub closed-stays : ClosedStays
closed-stays v k closed (takes bytes out) = rw closed
closed-stays v k closed (sends content out) = rw closed
