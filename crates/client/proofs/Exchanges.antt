-- The laws of the answer to ServerHelloDone: where its two messages stand.
-- Assumes nothing.
use mathlib.Core.Path.{◌≡◌, refl, sym, ap, ◌∙◌}
use Prim.Native.Nat.{ℕ, ◌+◌, ◌≤◌}
use native.Mathlib.Omega.{arith}
use mathlib.Core.List.{List, [], ◌∷◌, ◌++◌, append_assoc}
use lib.ListN.{length, drop}
use lib.Seq.{drop_at}
use Rattle.refusal.specs.declared.Refusal.{Refusal}
use Rattle.refusal.specs.declared.Refusal.TheVariants.{DecryptError}
use Rattle.refusal.specs.Lent.{gives, refuses}
use Rattle.sha256.specs.declared.Sha256.{Sha256}
use Rattle.sha256.specs.State.{absorb}
use Rattle.keys.specs.declared.Side.TheVariants.{Client}
use Rattle.keys.specs.Secrets.{finished_of}
use Rattle.layout.specs.Layout.{bytes}
use Rattle.messages.specs.Fixed.{finished}
use Rattle.handshake.specs.Flight.{Flight}
use Rattle.handshake.specs.Outgoing.{cut, Sends}
use Rattle.handshake.specs.Step.{refuse, accept}
use Rattle.handshake.proofs.Flights.{cut-first}
use Rattle.client.specs.declared.Connection.{Connection}
use Rattle.client.specs.Exchange.{exchange_of, before_finished, finished_with}
use Rattle.client.specs.Inner.{after_done_with}

abbrev flight_with : List (List ℕ) → List (List ℕ) → Flight
flight_with plain protected = record { plain = plain; protected = protected }

-- two messages at the front of an array
pub two-sent : (first second array rest : List ℕ) (n : ℕ) → length first ≡ n → 1 ≤ n → n ≤ 134 → length second ≡ 16
    → array ≡ (first ++ second) ++ rest
    → Sends (record { bytes = array; lengths = n ∷ 16 ∷ 0 ∷ []; plain = 1 }) (flight_with (first ∷ []) (second ∷ []))
two-sent first second array rest n size some_bytes few size' e =
    let placed : array ≡ first ++ (second ++ rest) = e ∙ append_assoc first second rest in
    let plain : cut (n ∷ []) array ≡ first ∷ [] = ap (cut (n ∷ [])) placed ∙ cut-first first (second ++ rest) n [] (omega arith) size in
    let behind : drop (n + 0) array ≡ second ++ rest = ap (drop (n + 0)) placed ∙ drop_at first (second ++ rest) (n + 0) (omega arith) in
    let protected : cut (16 ∷ 0 ∷ []) (drop (n + 0) array) ≡ second ∷ [] =
    ap (cut (16 ∷ 0 ∷ [])) behind ∙ cut-first second rest 16 (0 ∷ []) (omega arith) size' in
    record { means = rw (plain, protected); fits = omega arith }

-- the answer, made step by step: the ClientKeyExchange, the transcript with it, the value over that, the Finished, the flight and the connection
pub answer-made : (c : Connection) (m master : List ℕ) {exchange message value : List ℕ} {before : Sha256} {flight : Flight} {next : Connection}
    → exchange ≡ exchange_of c → before ≡ absorb (absorb c.transcript m) exchange → finished_of Client master before ≡ gives value
    → message ≡ bytes finished value → flight ≡ flight_with (exchange ∷ []) (message ∷ []) → next ≡ after_done_with c master (absorb before message)
    → finished_with c m master (finished_of Client master (before_finished c m)) ≡ accept flight next
answer-made c m master ex be made me fl ne =
    let same = ap (finished_of Client master) (sym (be ∙ ap (absorb (absorb c.transcript m)) ex)) ∙ made in
    ap (finished_with c m master) same ∙ rw (fl, ne, me, be, ex) refl

-- without a value it is refused
pub answer-refused : (c : Connection) (m master : List ℕ) {exchange : List ℕ} {before : Sha256} {r : Refusal}
    → exchange ≡ exchange_of c → before ≡ absorb (absorb c.transcript m) exchange → finished_of Client master before ≡ refuses r
    → finished_with c m master (finished_of Client master (before_finished c m)) ≡ refuse DecryptError
answer-refused c m master ex be none =
    ap (finished_with c m master) (ap (finished_of Client master) (sym (be ∙ ap (absorb (absorb c.transcript m)) ex)) ∙ none)
