-- The first record under the client's protection: what it is refused with shows nothing of the table, unless its MAC is right under the identity's
-- key.
-- Assumes nothing.
use mathlib.Core.Path.{◌≡◌, refl, sym, ap, subst, ◌∙◌}
use Prim.Native.Nat.{ℕ}
use mathlib.Core.Bool.{Bool, true, false, cond}
use mathlib.Core.List.{List, []}
use lib.Dec.{eqb}
use Rattle.std.specs.Prelude.{Result, Ok, Err, Option, None, Some}
use Rattle.lists.specs.Lists.{part}
use Rattle.refusal.specs.declared.Refusal.{Refusal}
use Rattle.refusal.specs.declared.Refusal.TheVariants.{DecryptError}
use Rattle.refusal.specs.Lent.{Outcome, gives, refuses, and_then, bytes_of}
use Rattle.refusal.specs.Table.{to_peer, number_of}
use Rattle.keys.specs.Secrets.{master_under, keys}
use Rattle.server.specs.Connection.{Settings, started}
use Rattle.server.specs.KeyExchange.{View}
use Rattle.records.specs.declared.ContentType.{ContentType}
use Rattle.records.specs.Record.{record_read}
use Rattle.records.specs.Protection.{right_mac, mac_read}
use Rattle.record_server.specs.Connection.{null_suite, keys_of}
use Rattle.record_server.specs.Taking.{Step, refuse, opened_step, take_step}
use Rattle.theorems.proofs.Stages.{keyed}
use Rattle.record_theorems.specs.Series.{Call}
use Rattle.record_theorems.specs.Terms.{under, ChangeCame, client_key}
use Rattle.record_theorems.proofs.Taking.{read-alerts}
use Rattle.record_theorems.proofs.Standing.{changed_with}

-- what it is refused with, by the tests on records
abbrev pub first_refusal : Result ContentType Refusal → Refusal
first_refusal (Err r) = cond (eqb (number_of r) 20) DecryptError r
first_refusal (Ok kind) = DecryptError

pub first-alerts : (b : List ℕ) (read : Result ContentType Refusal) → record_read 32 b ≡ read → to_peer (first_refusal read) ≡ true
first-alerts b (Err r) e = go (eqb (number_of r) 20)
  where
    go : (t : Bool) → to_peer (cond t DecryptError r) ≡ true
    go true = refl
    go false = read-alerts 32 b e
first-alerts b (Ok kind) e = refl

-- the first of the key block, where there is a master secret and where there is none
client-part : (o : Outcome) (server client : List ℕ)
    → bytes_of (and_then o (λ secret. and_then (keys secret server client null_suite) (λ block. gives (part 0 32 block))))
    ≡ part 0 32 (bytes_of (keys (bytes_of o) server client null_suite))
unfolding keys
client-part (gives secret) server client = go (keys secret server client null_suite)
  where
    go : (o : Outcome) → bytes_of (and_then o (λ block. gives (part 0 32 block))) ≡ part 0 32 (bytes_of o)
    go (gives block) = refl
    go (refuses r) = refl
client-part (refuses r) server client = refl

module _ (s : Settings) {calls : List Call} (began : ChangeCame s calls) where
  key-is : (key : List ℕ) → (keys_of (keyed s began.legal_hello began.exchange (Some key))).client ≡ bytes_of (client_key s began key)
  unfolding started
  key-is key =
      sym (client-part (master_under key began.legal_hello.fields.random s.random) s.random began.legal_hello.fields.random)

  module _ (w : View) (memory b : List ℕ) where
    abbrev opened_as : Option (List ℕ) → Result ContentType Refusal → Step
    opened_as found read = opened_step w (changed_with s began found) [] b (mac_read (changed_with s began found).reading b read)

    opens : (found : Option (List ℕ)) (read : Result ContentType Refusal) → record_read 32 b ≡ read → take_step w (changed_with s began found) memory b ≡ opened_as found read
    opens found read is = ap (opened_as found) is

    pub first-refused : (found : Option (List ℕ)) (read : Result ContentType Refusal) → record_read 32 b ≡ read
        → ((key : List ℕ) → found ≡ Some key → (kind : ContentType) → read ≡ Ok kind
        → ¬ (right_mac (under (bytes_of (client_key s began key)) 0) b ≡ true))
        → take_step w (changed_with s began found) memory b ≡ refuse (first_refusal read)
    first-refused found (Err r) is never = opens found (Err r) is
    first-refused None (Ok kind) is never = opens None (Ok kind) is ∙ go (right_mac (changed_with s began None).reading b) refl
      where
        go : (right : Bool) → right_mac (changed_with s began None).reading b ≡ right → opened_as None (Ok kind) ≡ refuse DecryptError
        go true e = rw e
        go false e = rw e
    first-refused (Some key) (Ok kind) is never =
        opens (Some key) (Ok kind) is ∙ go (right_mac (changed_with s began (Some key)).reading b) refl
      where
        go : (right : Bool) → right_mac (changed_with s began (Some key)).reading b ≡ right
            → opened_as (Some key) (Ok kind) ≡ refuse DecryptError
        go true e = absurd (never key refl kind refl (subst (λ (l : List ℕ). right_mac (under l 0) b ≡ true) (key-is key) e))
        go false e = rw e
