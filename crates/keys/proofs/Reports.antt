-- What is reported beside an answer: the number where the memory was as long as what there was to be written.
-- Assumes nothing.
use mathlib.Core.Path.{◌≡◌, ◌∙◌}
use Prim.Native.Nat.{ℕ}
use native.Mathlib.Omega.{arith}
use mathlib.Core.List.{List}
use lib.ListN.{length}
use borrow.Author.Tests.{le-leb}
use Rattle.std.specs.Prelude.{Result, Ok, Err, IfOk, MatchResult}
use Rattle.refusal.specs.Lent.{Outcome, gives, Answers}
use Rattle.refusal.specs.declared.Refusal.{Refusal}
use Rattle.sha256.specs.declared.Reported.{Reported}
use Rattle.sha256.specs.Report.{said}

pub reported-whole : {o : Outcome} {bytes out out' : List ℕ} (given : Result Reported Refusal) {n blocks : ℕ} → o ≡ gives bytes → length bytes ≡ length out
    → Answers o out (said given) out' → IfOk given (λ r. r.blocks ≡ blocks) → MatchResult given (λ r. n ≡ r.blocks) (λ _. n ≡ 0) → n ≡ blocks
reported-whole {o} {bytes} {out} given {n} {blocks} e l a counts f =
    of-given given {k = length bytes} ((rw e at a).told ∙ simp (le-leb (length bytes) (length out) (omega arith))) counts f
  where
    of-given : (g : Result Reported Refusal) {k : ℕ} → said g ≡ Ok k → IfOk g (λ r. r.blocks ≡ blocks) → MatchResult g (λ r. n ≡ r.blocks) (λ _. n ≡ 0) → n ≡ blocks
    of-given (Ok r) told c m = m ∙ c
    of-given (Err r) told c m = cc
