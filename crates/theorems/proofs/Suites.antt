-- Suites are chosen in our order (specs/Suites.antt).
-- Assumes nothing.
use Rattle.theorems.specs.Suites.{SuitesInOrder}

pub suites-in-order : SuitesInOrder
suites-in-order =
    record {
      first = λ offered a. rw a;
      second = λ offered a b. rw (a, b);
      third = λ offered a b c. rw (a, b, c);
      no_other = λ offered a b c. rw (a, b, c);
    }
