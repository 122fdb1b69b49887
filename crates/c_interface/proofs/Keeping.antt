-- From what a call said to the code that comes back, to the connection's bytes and to what the next call reads there: of every kind of connection, and then
-- the server's own.
-- Assumes nothing.
use mathlib.Core.Path.{◌≡◌, refl, sym, ap, ◌∙◌}
use Prim.Native.Nat.{ℕ, ◌<◌, ◌^◌}
use native.Mathlib.Omega.{arith}
use mathlib.Core.Bool.{Bool, true, false, cond}
use mathlib.Core.List.{List}
use lib.ListN.{length}
use lib.Dec.{leb}
use lib.IntN.{ℤ}
use lib.Signed.{mag}
use mir.Syntax.{w32}
use mir.Val.{to_z, of_z}
use borrow.Author.Tests.{leb-true}
use Rattle.std.specs.Prelude.{Result, Ok, Err, Option, None, Some}
use Rattle.refusal.specs.declared.Refusal.{Refusal}
use Rattle.refusal.specs.declared.Refusal.TheVariants.{ShortOutput}
use Rattle.refusal.specs.Table.{to_peer}
use Rattle.refusal.specs.Lent.{Outcome, gives, refuses, within, answer}
use Rattle.handshake.specs.declared.Answer.{Answer}
use Rattle.handshake.specs.declared.Derived.{Derived}
use Rattle.handshake.specs.declared.Reply.{Reply}
use Rattle.handshake.specs.Handed.{with_master}
use Rattle.handshake.specs.Step.{Step, Settled, outcome, next_after, settled, answered}
use Rattle.handshake.proofs.Refusals.{alerts-close}
use Rattle.server.specs.declared.Connection.{Connection}
use Rattle.server.specs.Connection.{Settings, acceptable, bad_setting, started, start_answer}
use Rattle.c_interface.specs.Codes.{coded}
use Rattle.c_interface.specs.Kept.{KeepsAs, StartsAs, kept_bytes, master_after, blocks_after}
use Rattle.c_interface.specs.Inner.{count}
use Rattle.c_interface.proofs.Signed.{handed-on}

-- ---- the connection's bytes

-- the connection that the bytes stand for after a call that said this, where they stood for c
abbrev pub read_after : {A : Type 0} → Result ℕ Refusal → (next c : A) → A
read_after (Ok n) next c = next
read_after (Err r) next c = cond (to_peer r) next c

-- the bytes after a call that said this and gave this connection, by the way in which it is saved, and what they stand for
pub record KeptAs {A : Type 0} (save : A → List ℕ) (restore : List ℕ → A) (said : Result ℕ Refusal) (next : A) (bytes bytes' : List ℕ) : Type 0 where
  pub left : bytes' ≡ kept_bytes said (save next) bytes
  pub read : restore bytes' ≡ read_after said next (restore bytes)

-- whatever kind of connection it is: what is saved stands for what it was made of
pub kept-as : {A : Type 0} {save : A → List ℕ} {restore : List ℕ → A} {said : Result ℕ Refusal} {next : A} {new bytes bytes' : List ℕ} → new ≡ save next
    → restore new ≡ next → bytes' ≡ kept_bytes said new bytes → KeptAs save restore said next bytes bytes'
kept-as {restore = restore} {said = Ok n} e read left = record { left = left ∙ e; read = ap restore left ∙ read }
kept-as {save = save} {restore} {said = Err r} {next} {new} {bytes} e read left =
    record { left = left ∙ ap (λ (b : List ℕ). cond (to_peer r) b bytes) e; read = ap restore left ∙ go (to_peer r) }
  where
    go : (t : Bool) → restore (cond t new bytes) ≡ cond t next (restore bytes)
    go true = read
    go false = refl

-- an alert's connection is written, and an R number's is the one that the bytes stand for
pub closed-read : {A : Type 0} (t : Bool) (closed c : A) {next : A} → next ≡ cond t closed c → cond t next c ≡ next
closed-read true closed c e = refl
closed-read false closed c e = sym e

next-read : {A : Type 0} (over c : A) (step : Step A) (o : Outcome) → read_after (answer o) (next_after over c step o) c ≡ next_after over c step o
next-read over c step (gives b) = refl
next-read over c step (refuses r) = closed-read (to_peer r) over c (alerts-close over r c)

-- ---- a call

-- one that is lent no output writes nothing
pub silent-count : (o : Outcome) {said : Result ℕ Refusal} → said ≡ answer (within 0 o) → count said < 2 ^ 31
silent-count (refuses r) e = rw e (omega arith)
silent-count (gives bytes) e = rw e (go (leb (length bytes) 0) refl)
  where
    go : (t : Bool) → leb (length bytes) 0 ≡ t → count (answer (cond t (gives bytes) (refuses ShortOutput))) < 2 ^ 31
    go true empty = omega (arith, leb-true (length bytes) 0 empty)
    go false empty = omega arith

module _ {A : Type 0} {save : A → List ℕ} {restore : List ℕ → A} {bytes bytes' : List ℕ} {result : ℤ} {said said' : Result ℕ Refusal} {next next' : A}
    (e : said ≡ said') (f : next ≡ next') (fits : mag result < 2 ^ 31) (told : result ≡ coded said) (kept : KeptAs save restore said next bytes bytes') where
  pub call-keeps : read_after said' next' (restore bytes) ≡ next' → KeepsAs save restore said' next' bytes (to_z w32 (of_z w32 result)) bytes'
  call-keeps reads =
      record {
        told = handed-on result fits ∙ told ∙ ap coded e;
        left = kept.left ∙ rw (e, f);
        reads = kept.read ∙ rw (e, f) reads;
      }

  -- a start
  pub start-keeps : StartsAs save restore said' next' bytes (to_z w32 (of_z w32 result)) bytes'
  start-keeps =
      record {
        told = handed-on result fits ∙ told ∙ ap coded e;
        left = kept.left ∙ rw (e, f);
        reads = λ wrote. kept.read ∙ rw (e, wrote, f);
      }

-- of a step on the connection that was restored, `over` being a closed one
pub step_keeps : {A : Type 0} {save : A → List ℕ} {restore : List ℕ → A} (over : A) (bytes out : List ℕ) (step : A → Step A) {c : A} {said : Result ℕ Refusal}
    {next : A} {bytes' : List ℕ} {result : ℤ} → c ≡ restore bytes → said ≡ (settled over c out (step c)).said → next ≡ (settled over c out (step c)).next
    → mag result < 2 ^ 31 → result ≡ coded said → KeptAs save restore said next bytes bytes'
    → KeepsAs save restore (settled over (restore bytes) out (step (restore bytes))).said (settled over (restore bytes) out (step (restore bytes))).next bytes
    (to_z w32 (of_z w32 result)) bytes'
step_keeps {A} {restore = restore} over bytes out step same e f fits told kept =
    let now = restore bytes in
    call-keeps (e ∙ ap (λ (x : A). (settled over x out (step x)).said) same) (f ∙ ap (λ (x : A). (settled over x out (step x)).next) same) fits told kept
    (next-read over now (step now) (within (length out) (outcome (step now))))

-- ---- a master secret, and the number of its blocks

module _ {o given : Option Derived} (same : given ≡ o) (master : List ℕ) (blocks : ℕ) where
  pub was-handed : {d : Derived} → given ≡ Some d → (d.master ≡ master_after o master) × (d.blocks ≡ blocks_after o blocks)
  was-handed e = rw (sym same ∙ e) (refl, refl)

  pub was-kept : given ≡ None → (master ≡ master_after o master) × (blocks ≡ blocks_after o blocks)
  was-kept e = rw (sym same ∙ e) (refl, refl)

-- the parts of a reply
pub reply-parts : {A : Type 0} (s : Settled A) (o : Option Derived) {r : Reply A} → r ≡ with_master (answered s) o
    → (r.said ≡ s.said) × (r.next ≡ s.next) × (r.handed ≡ o)
reply-parts s o e = (ap (λ r. r.said) e, ap (λ r. r.next) e, ap (λ r. r.handed) e)

-- ---- the server's own

pub start-count : (s : Settings) {a : Answer Connection} → a ≡ start_answer s → count a.said < 2 ^ 31
start-count s e = rw e (go (acceptable s))
  where
    go : (t : Bool) → count (cond t (record { said = Ok 0; next = started s }) bad_setting).said < 2 ^ 31
    go true = omega arith
    go false = omega arith
