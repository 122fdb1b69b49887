-- What two servers with different tables keep after the same calls, and how one call more takes them on: whatever it shows, both show the same.
-- Assumes nothing.
use mathlib.Core.Path.{◌≡◌, refl, sym, ap, subst, ◌∙◌}
use mathlib.Core.Logic.{◌⊎◌, inl, inr}
use Prim.Native.Nat.{ℕ}
use mathlib.Core.Bool.{Bool, true, false, cond, true≢false}
use mathlib.Core.List.{List, [], ◌∷◌, ◌++◌, append-nil}
use lib.ListN.{length}
use Rattle.std.specs.Prelude.{Err}
use Rattle.refusal.specs.declared.Refusal.{Refusal}
use Rattle.refusal.specs.Table.{to_peer}
use Rattle.server.specs.Connection.{Settings}
use Rattle.server.specs.KeyExchange.{View}
use Rattle.records.specs.Joining.{held_in}
use Rattle.record_server.specs.Taking.{Accepted, Step, refuse, accept, front, take_step}
use Rattle.theorems.specs.Terms.{LegalHello, LegalKeyExchange}
use Rattle.record_theorems.specs.Series.{Call, takes, Kept, Seen, call, seen, refused_to_host}
use Rattle.record_theorems.specs.Terms.{Plain, ChangeCame, named}
use Rattle.record_theorems.proofs.Coming.{refused-stays}
use Rattle.record_theorems.proofs.Taking.{took, alerted, accepted}
use Rattle.record_theorems.proofs.Reaching.{keys_made}
use Rattle.record_theorems.proofs.Standing.{plainly, changed_to, StandsPlain}
use Rattle.record_theorems.proofs.Beyond.{Beyond}
use Rattle.record_theorems.proofs.Seeing.{Near, refused-seen, refused-closed, accepted-seen}

-- ---- what the two servers keep after the same calls, of which these came

-- a ClientKeyExchange named an identity of the set, and the change of cipher is awaited
pub record Changing (s : Settings) (v v' : View) (Set : List ℕ → Type 0) (calls : List Call) (k k' : Kept) : Type 0 where
  pub hello : List ℕ
  pub exchange : List ℕ
  pub left : List ℕ
  pub legal : LegalHello s.suites hello
  pub legal-exchange : LegalKeyExchange exchange
  pub set : Set legal-exchange.identity
  pub came : Plain calls (hello ++ (exchange ++ left))
  pub number : ℕ
  pub is : k.connection ≡ plainly number (keys_made s legal exchange (v.lookup legal-exchange.identity) left)
  pub is' : k'.connection ≡ plainly number (keys_made s legal exchange (v'.lookup legal-exchange.identity) left)
  pub memory : k.memory ≡ k'.memory
  pub holds : held_in k.memory (length left) ≡ left

-- They keep the same, before the client's protection begins or past the ClientKeyExchange; or they differ, and the change of cipher is awaited or the
-- first record behind it.
pub data Together (s : Settings) (v v' : View) (Set : List ℕ → Type 0) (calls : List Call) (k k' : Kept) : Type 0 where
  same-plain : (bytes : List ℕ) → StandsPlain s v calls bytes k → StandsPlain s v' calls bytes k → k ≡ k' → Together s v v' Set calls k k'
  same-beyond : Beyond k.connection.handshake.phase → k ≡ k' → Together s v v' Set calls k k'
  changing : Changing s v v' Set calls k k' → Together s v v' Set calls k k'
  finishing : (began : ChangeCame s calls) → Set (named s began) → k.connection ≡ changed_to s v began → k'.connection ≡ changed_to s v' began
      → k.memory ≡ k'.memory → Together s v v' Set calls k k'

module _ (s : Settings) (Set : List ℕ → Type 0) (v v' : View) where
  -- ---- one call more

  -- both show the same at the call x, and stay together
  abbrev pub Goes : List Call → Call → Kept → Kept → Type 0
  Goes calls x k k' =
      (seen (call v k x) ≡ seen (call v' k' x))
      × Together s v v' Set (calls ++ cond (refused_to_host (call v k x).said) [] (x ∷ [])) (call v k x).kept (call v' k' x).kept

  -- it may be refused to the host, and count as not come
  pub goes : (calls : List Call) (x : Call) {k k' : Kept} → seen (call v k x) ≡ seen (call v' k' x) → Together s v v' Set calls k k'
      → (refused_to_host (call v k x).said ≡ false → Together s v v' Set (calls ++ (x ∷ [])) (call v k x).kept (call v' k' x).kept)
      → Goes calls x k k'
  goes calls x {k} {k'} alike stay on = (alike, go (refused_to_host (call v k x).said) refl)
    where
      go : (host : Bool) → refused_to_host (call v k x).said ≡ host
          → Together s v v' Set (calls ++ cond host [] (x ∷ [])) (call v k x).kept (call v' k' x).kept
      go true e =
          let e' : refused_to_host (call v' k' x).said ≡ true = ap (λ (a : Seen). refused_to_host a.said) (sym alike) ∙ e in
          rw (append-nil calls, refused-stays v k x e, refused-stays v' k' x e') stay
      go false e = on e

  -- ---- on connections that are alike

  together-by : (calls : List Call) {k k' l l' : Kept} → k ≡ l → k' ≡ l' → Together s v v' Set calls l l' → Together s v v' Set calls k k'
  together-by calls e e' together = rw (e, e') together

  module _ (calls : List Call) (b out : List ℕ) {k k' : Kept} (near : Near k k') (stay : Together s v v' Set calls k k') where
    abbrev step_of : View → Kept → Step
    step_of w l = take_step w l.connection l.memory b

    pub refused-goes : (r : Refusal) → (to_peer r ≡ true) ⊎ (refused_to_host (Err r) ≡ true) → step_of v k ≡ refuse r → step_of v' k' ≡ refuse r
        → Goes calls (takes b out) k k'
    refused-goes r told e e' =
        goes calls (takes b out) (ap (λ (t : Step). seen (took k out t)) e ∙ refused-seen near out r
        ∙ sym (ap (λ (t : Step). seen (took k' out t)) e')) stay
        (after told)
      where
        after : (to_peer r ≡ true) ⊎ (refused_to_host (Err r) ≡ true) → refused_to_host (call v k (takes b out)).said ≡ false
            → Together s v v' Set (calls ++ (takes b out ∷ [])) (call v k (takes b out)).kept (call v' k' (takes b out)).kept
        after (inl alerts) comes =
            same-beyond (subst Beyond (sym (alerted v k b out e alerts)) tt)
            (ap (λ (t : Step). (took k out t).kept) e ∙ refused-closed near out r alerts ∙ sym (ap (λ (t : Step). (took k' out t).kept) e'))
        after (inr host) comes = absurd (true≢false (sym host ∙ sym (ap (λ (t : Step). refused_to_host (took k out t).said) e) ∙ comes))

    pub accepted-goes : (a a' : Accepted) → a.answer ≡ a'.answer → a.held ≡ a'.held → a.next.alert ≡ a'.next.alert
        → step_of v k ≡ accept a → step_of v' k' ≡ accept a'
        → Together s v v' Set (calls ++ (takes b out ∷ [])) (record { connection = a.next; memory = front a.held k.memory })
        (record { connection = a'.next; memory = front a'.held k'.memory })
        → Goes calls (takes b out) k k'
    accepted-goes a a' answer held alert e e' next =
        goes calls (takes b out) alike stay
        (λ comes. together-by (calls ++ (takes b out ∷ [])) (accepted v k b out e comes)
        (accepted v' k' b out e' (ap (λ (l : Seen). refused_to_host l.said) (sym alike) ∙ comes)) next)
      where
        alike : seen (call v k (takes b out)) ≡ seen (call v' k' (takes b out))
        alike =
            ap (λ (t : Step). seen (took k out t)) e ∙ accepted-seen near out a a' answer held alert
            ∙ sym (ap (λ (t : Step). seen (took k' out t)) e')
