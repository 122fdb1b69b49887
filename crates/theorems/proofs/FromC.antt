-- A series of C calls is the run that demand 3 speaks of: what one call leaves in the lent bytes is the connection that the next one reads.
-- Assumes nothing.
use mathlib.Core.Path.{◌≡◌, refl, sym, ap, ap₂, ◌∙◌}
use mathlib.Core.Logic.{inl, inr}
use Prim.Native.Nat.{ℕ}
use mathlib.Core.Bool.{Bool, true, false, cond}
use mathlib.Core.List.{List, ◌∷◌, map}
use lib.Dec.{leb}
use lib.IntN.{ℤ}
use native.Mathlib.Omega.{arith}
use Rattle.std.specs.Prelude.{Ok, Err}
use Rattle.refusal.specs.declared.Refusal.{Refusal}
use Rattle.handshake.specs.Series.{Call}
use Rattle.server.specs.declared.Phase.{Phase}
use Rattle.server.specs.declared.Connection.{Connection}
use Rattle.handshake.specs.declared.Answer.{Answer}
use Rattle.server.specs.Connection.{Settings, acceptable, started, bad_setting, start_answer}
use Rattle.server.specs.KeyExchange.{View, view_of}
use Rattle.saved.specs.Saved.{restored, phase_byte}
use Rattle.c_interface.specs.Codes.{coded}
use Rattle.c_interface.specs.Connections.{start_call, named_of}
use Rattle.c_interface.proofs.Apart.{codes-apart}
use Rattle.theorems.specs.Series.{call, run, Seen, answers}
use Rattle.theorems.specs.Demand3.{Hiding, Alike}
use Rattle.theorems.specs.FromC.{Given, Series, none, one, settings_of, Started, HidingInC, SamenessFromC, CompletesExactlyFromC}
use Rattle.theorems.proofs.Sameness.{sameness}
use Rattle.theorems.proofs.Completion.{completes-exactly}

-- ---- the series

abbrev as_given : Seen → Given
as_given s = record { result = coded s.said; out = s.out }

-- the connection after the series is that after the run, and what came back is what was seen of it
module _ (v : View) where
  series-run : {bytes last : List ℕ} {calls : List Call} {given : List Given} → Series v bytes calls given last
      → (c : Connection) → restored bytes ≡ c → (restored last ≡ run v c calls) × (given ≡ map as_given (answers v c calls))
  series-run none c e = (e, refl)
  series-run (one {bytes = bytes} {x = x} {given = given} called rest) c e =
      let next = called.keeps.reads ∙ ap (λ (d : Connection). (call v d x).next) e in
      let behind = series-run rest (call v c x).next next in
      let told = called.keeps.told ∙ ap (λ (d : Connection). coded (call v d x).said) e in
      let left = called.left ∙ ap (λ (d : Connection). (call v d x).out) e in
      (behind.0, ap₂ (λ (g : Given) (gs : List Given). g ∷ gs) (whole given told left) behind.1)
    where
      whole : (g : Given) {result : ℤ} {out : List ℕ} → g.result ≡ result → g.out ≡ out → g ≡ record { result = result; out = out }
      whole g told left = rw (← told, ← left)

-- ---- the start

refused-wrote : {r : Refusal} {n : ℕ} → Err r ≡ Ok n → ⊥
refused-wrote e = let z : ◌≡◌ {A = ℕ} 0 1 = cc in omega arith

-- 0 is returned only where the settings are acceptable, and the bytes are the connection that such a start gives
module _ (random hint stand_in : List ℕ) (rule : ℕ) where
  abbrev settings : Settings
  settings = settings_of random hint stand_in rule

  accepted : Ok 0 ≡ (start_call random hint stand_in rule).said
      → (acceptable settings ≡ true) × (start_call random hint stand_in rule ≡ record { said = Ok 0; next = started settings })
  accepted e = go (leb rule 2) (acceptable settings) refl e
    where
      go : (a b : Bool) → acceptable settings ≡ b
          → Ok 0 ≡ (cond a (cond b (record { said = Ok 0; next = started settings }) bad_setting) bad_setting).said
          → (acceptable settings ≡ true)
          × (cond a (cond (acceptable settings) (record { said = Ok 0; next = started settings }) bad_setting) bad_setting
          ≡ record { said = Ok 0; next = started settings })
      go true true ok e = (ok, rw ok)
      go true false ok e = absurd (refused-wrote (sym e))
      go false b ok e = absurd (refused-wrote (sym e))

  begun : {bytes : List ℕ} → Started random hint stand_in rule bytes → (acceptable settings ≡ true) × (restored bytes ≡ (start_answer settings).next)
  begun (before, starts) =
      let said = codes-apart (Ok 0) (start_call random hint stand_in rule).said starts.told in
      let all = accepted said in
      (all.0, starts.reads (sym said) ∙ ap (λ (a : Answer Connection). a.next) all.1 ∙ rw all.0)

-- ---- both halves

hiding : (rule : ℕ) → HidingInC rule → Hiding (named_of rule)
hiding rule (inl e) = inl (rw e)
hiding rule (inr e) = inr (rw e)

pub sameness-from-c : SamenessFromC
sameness-from-c random hint stand_in rule rule' hide hide' _ _ start start' identity table without removed good good' starts starts' count count' own own' calls
    never _ _ _ _ made made' =
    let s : Settings = settings_of random hint stand_in rule in
    let s' : Settings = settings_of random hint stand_in rule' in
    let one_side = begun random hint stand_in rule start in
    let other-side = begun random hint stand_in rule' start' in
    let alike : Alike s s' = record { random = refl; hint = refl; stand_in = refl; suites = refl } in
    let same = sameness s s' alike one_side.0 (hiding rule hide) (hiding rule' hide') identity table without removed good good' starts starts' count count'
    own own' calls never in
    (series-run (view_of table starts count) made (start_answer s).next one_side.1).1
    ∙ ap (map as_given) same
    ∙ sym (series-run (view_of without starts' count') made' (start_answer s').next other-side.1).1

five-is-complete : (p : Phase) → phase_byte p ≡ 5 → p ≡ Phase.Complete
five-is-complete Phase.Closed e = cc
five-is-complete Phase.Hello e = cc
five-is-complete Phase.KeyExchange e = cc
five-is-complete Phase.Change e = cc
five-is-complete Phase.Finished e = cc
five-is-complete Phase.Complete e = refl

pub completes-exactly-from-c : CompletesExactlyFromC
completes-exactly-from-c random hint stand_in rule bytes start table starts count calls given last made =
    let s : Settings = settings_of random hint stand_in rule in
    let side = begun random hint stand_in rule start in
    let exactly = completes-exactly s side.0 table starts count calls in
    let ends = ap (λ (c : Connection). c.phase) (series-run (view_of table starts count) made (start_answer s).next side.1).0 in (
      λ e. exactly.0 (sym ends ∙ five-is-complete (restored last).phase e),
      λ came. ap phase_byte (ends ∙ exactly.1 came),
    )
