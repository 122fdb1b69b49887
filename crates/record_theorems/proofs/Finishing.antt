-- What handshake bytes come to where the Finished is awaited: they wait, or are a right Finished and nothing more, or are refused.
-- Assumes nothing.
use mathlib.Core.Path.{◌≡◌, refl, sym, ◌∙◌}
use mathlib.Core.Logic.{◌⊎◌, inl, inr}
use Prim.Native.Nat.{ℕ}
use native.Mathlib.Omega.{arith}
use mathlib.Core.Bool.{true}
use mathlib.Core.List.{List, [], ◌∷◌, ◌++◌, append-nil}
use Rattle.std.specs.Prelude.{Option, None}
use Rattle.refusal.specs.declared.Refusal.{Refusal}
use Rattle.refusal.specs.declared.Refusal.TheVariants.{UnexpectedMessage}
use Rattle.layout.specs.Place.{filled_by, after_header, contents}
use Rattle.handshake.specs.Flight.{Flight, silence}
use Rattle.handshake.specs.Step as Shared
use Rattle.server.specs.declared.Phase.{Phase}
use Rattle.server.specs.declared.Connection.{Connection}
use Rattle.server.specs.Connection.{Settings, acceptable, ended}
use Rattle.server.specs.KeyExchange.{View}
use Rattle.server.specs.Message.{message_step}
use Rattle.server.specs.Finished.{finished_flight}
use Rattle.records.specs.Joining.{unfinished}
use Rattle.record_server.specs.Joining.{Progress, refuse, goes_on, judge_bytes, judged}
use Rattle.theorems.specs.Terms.{LegalHello, LegalKeyExchange}
use Rattle.theorems.proofs.Stages.{changed}
use Rattle.theorems.proofs.Finishing.{Right, wrong, finished-right, finished-other}
use Rattle.record_theorems.specs.Cutting.{judge_all}
use Rattle.record_theorems.proofs.Headers.{read-passed}
use Rattle.record_theorems.proofs.Refusing.{Told}
use Rattle.record_theorems.proofs.Cutting.{taken, blocks_for, First, is-refused, is-left, is-taken, first, message-first, left-unfinished, judged-told}

-- all of the bytes are left, and nothing is sent
abbrev pub waiting : Connection → List ℕ → Progress
waiting c bytes = record { connection = c; flight = silence; master = None; left = bytes }

pub data Finishing (s : Settings) (v : View) {hello : List ℕ} (legal : LegalHello s.suites hello) (exchange : List ℕ) (found : Option (List ℕ))
    (bytes : List ℕ) : Type 0 where
  waits : unfinished bytes ≡ true → judged v (changed s legal exchange found) bytes ≡ goes_on (waiting (changed s legal exchange found) bytes)
      → Finishing s v legal exchange found bytes
  completes : Right s legal exchange found bytes → (p : Progress) → p.connection ≡ ended Phase.Complete
      → judged v (changed s legal exchange found) bytes ≡ goes_on p → Finishing s v legal exchange found bytes
  refused : (r : Refusal) → Told v r → judged v (changed s legal exchange found) bytes ≡ refuse r → Finishing s v legal exchange found bytes

-- nothing is left behind a right Finished, or what is there is refused
nothing-behind : (v : View) (p : Progress) → p.left ≡ [] → judge_all v p ≡ goes_on p
unfolding judge_bytes
nothing-behind v p e = rw e

something-behind : (v : View) (p : Progress) {b : ℕ} {bs : List ℕ} → p.connection ≡ ended Phase.Complete → p.left ≡ b ∷ bs
    → judge_all v p ≡ refuse UnexpectedMessage
unfolding judge_bytes
something-behind v p over e = rw (e, over)

module _ (s : Settings) (v : View) (ok : acceptable s ≡ true) {hello : List ℕ} (legal : LegalHello s.suites hello) {exchange : List ℕ}
    (legal-exchange : LegalKeyExchange exchange) (found : Option (List ℕ)) where
  abbrev c : Connection
  c = changed s legal exchange found

  pub finishing : (bytes : List ℕ) → Finishing s v legal exchange found bytes
  finishing bytes = go (first v (waiting c bytes))
    where
      behind : (m rest : List ℕ) (flight : Flight) (next : Connection) → bytes ≡ m ++ rest → next ≡ ended Phase.Complete
          → Right s legal exchange found m → judged v c bytes ≡ judge_all v (taken (waiting c bytes) rest (blocks_for v (waiting c bytes) m) flight next)
          → Finishing s v legal exchange found bytes
      behind m [] flight next split over right e =
          let whole : m ≡ bytes = sym (split ∙ append-nil m) in
          completes (rw whole at right) (taken (waiting c bytes) [] (blocks_for v (waiting c bytes) m) flight next) over (e ∙ nothing-behind v _ refl)
      behind m (b ∷ bs) flight next split over right e =
          refused UnexpectedMessage (inl refl) (e ∙ something-behind v (taken (waiting c bytes) (b ∷ bs) (blocks_for v (waiting c bytes) m) flight next) over refl)

      of-finished : (m rest : List ℕ) (flight : Flight) (next : Connection) → bytes ≡ m ++ rest
          → message_step v c m Phase.Finished ≡ Shared.accept flight next
          → judged v c bytes ≡ judge_all v (taken (waiting c bytes) rest (blocks_for v (waiting c bytes) m) flight next)
          → Right s legal exchange found m ⊎ (message_step v c m Phase.Finished ≡ Shared.refuse (wrong m)) → Finishing s v legal exchange found bytes
      of-finished m rest flight next split step e (inl right) =
          let own = finished-right s v legal exchange found ok legal-exchange m right in
          let over : next ≡ ended Phase.Complete = cc (step, own.2) in
          behind m rest flight next split over right e
      of-finished m rest flight next split step e (inr refuses) = let z : ◌≡◌ {A = ℕ} 0 1 = cc in absurd (omega arith)

      go : First v (waiting c bytes) → Finishing s v legal exchange found bytes
      go (is-refused r e) = refused r (judged-told v (waiting c bytes) r e) e
      go (is-left e) = waits (left-unfinished v (waiting c bytes) (waiting c bytes) e) e
      go (is-taken m rest flight next split step e) =
          of-finished m rest flight next split step e (finished-other s v legal exchange found m)

  -- a right Finished by itself completes
  pub right-completes : (m : List ℕ) → Right s legal exchange found m
      → (p : Progress) × (p.connection ≡ ended Phase.Complete) × (judged v c m ≡ goes_on p)
  right-completes m right =
      let own = finished-right s v legal exchange found ok legal-exchange m right in
      let passed =
      read-passed (λ h. contents m (after_header h (filled_by 12 m))) (λ r. refl) 20 m right.finished.value right.finished.read in (
        taken (waiting c m) [] (blocks_for v (waiting c m) m) (finished_flight own.0) (ended Phase.Complete),
        refl,
        message-first v (waiting c m) m [] (sym (append-nil m)) refl passed (finished_flight own.0) (ended Phase.Complete) own.2
            ∙ nothing-behind v _ refl,
      )
