-- Records under the client's protection: series of them one behind the other, what a record that passed its tests is, and that the MAC key which the
-- connection reads with is the one that specs/Terms.antt names.
-- Assumes nothing.
use mathlib.Core.Path.{◌≡◌, refl, ap, ◌∙◌}
use Prim.Native.Nat.{ℕ, suc, ◌+◌}
use native.Mathlib.Omega.{arith}
use mathlib.Core.Bool.{Bool, true, false, cond, ◌&&◌}
use mathlib.Core.List.{List, ◌++◌, append_assoc}
use lib.ListN.{length}
use lib.Seq.{length-take-le}
use lib.Dec.{eqb}
use borrow.Author.Tests.{eqb-true}
use Rattle.std.specs.Prelude.{Some}
use Rattle.refusal.specs.declared.Refusal.{Refusal}
use Rattle.refusal.specs.Lent.{Outcome, gives, refuses, and_then, bytes_of}
use Rattle.refusal.proofs.Laws.{refuses-gives}
use Rattle.lists.specs.Lists.{part}
use Rattle.sha256.specs.Hash.{sha256}
use Rattle.keys.specs.declared.Side.TheVariants.{Client}
use Rattle.keys.specs.Secrets.{master, master_under, premaster, keys, verify_data}
use Rattle.keys.proofs.Lengths.{key-block-given, value-master}
use Rattle.server.specs.Connection.{Settings, started}
use Rattle.records.specs.declared.ContentType.{ContentType}
use Rattle.records.specs.Record.{fragment_of}
use Rattle.records.specs.Protection.{opened, content_of, content_length, holding}
use Rattle.records.proofs.Opening.{opened_inside}
use Rattle.record_server.specs.Connection.{null_suite, keys_of}
use Rattle.theorems.specs.Terms.{flight_to}
use Rattle.theorems.proofs.Stages.{keyed}
use Rattle.record_theorems.specs.Series.{Call, takes}
use Rattle.record_theorems.specs.Terms.{under, Sealed, none, fragment, warning, SealedRecord, ChangeCame, client_key, right_value}

-- ---- records

-- a record that passed its tests has its content
pub sealed-record : (key : List ℕ) (n : ℕ) (bytes out : List ℕ) {kind : ContentType} {m : ℕ} → opened (under key n) bytes ≡ holding kind m
    → SealedRecord key n kind (content_of (under key n) bytes) (takes bytes out)
sealed-record key n bytes out {kind} {m} e =
    let size : length (content_of (under key n) bytes) ≡ content_length (under key n) bytes =
    length-take-le (content_length (under key n) bytes) (fragment_of bytes) (omega arith) in
    let long : m ≡ content_length (under key n) bytes = (opened_inside (under key n) bytes e).2 in
    record { bytes = bytes; out = out; is = refl; opens = e ∙ ap (holding kind) (cc); holds = refl }

pub sealed-append : {key : List ℕ} {n : ℕ} {xs ys : List Call} {bytes more : List ℕ} → Sealed key n xs bytes → Sealed key (n + length xs) ys more
    → Sealed key n (xs ++ ys) (bytes ++ more)
sealed-append {n} none behind = let e : n + 0 ≡ n = omega arith in rw e at behind
sealed-append {n} (fragment {xs = xs} first others) behind =
    let e : n + suc (length xs) ≡ n + 1 + length xs = omega arith in
    rw append_assoc (fragment first (sealed-append others (rw e at behind)))
sealed-append {n} (warning {xs = xs} ignored first others) behind =
    let e : n + suc (length xs) ≡ n + 1 + length xs = omega arith in
    warning ignored first (sealed-append others (rw e at behind))

-- ---- the key

-- a master secret is made of two randoms of 32 bytes
master-randoms : (key client server secret : List ℕ) → master_under key client server ≡ gives secret → (length client ≡ 32) × (length server ≡ 32)
master-randoms key client server secret e = of-premaster (premaster key) e
  where
    tested : (a b : Bool) (o : Outcome) (r : Refusal) → eqb (length client) 32 ≡ a → eqb (length server) 32 ≡ b
        → cond (a && b) o (refuses r) ≡ gives secret → (length client ≡ 32) × (length server ≡ 32)
    tested true true o r c s e = (eqb-true _ _ c, eqb-true _ _ s)
    tested true false o r c s e = absurd (refuses-gives e)
    tested false b o r c s e = absurd (refuses-gives e)

    of-premaster : (o : Outcome) → and_then o (λ before. master before client server) ≡ gives secret → (length client ≡ 32) × (length server ≡ 32)
    of-premaster (gives before) e = tested (eqb (length client) 32) (eqb (length server) 32) _ _ refl refl e
    of-premaster (refuses r) e = absurd (refuses-gives e)

module _ (s : Settings) {calls : List Call} (began : ChangeCame s calls) (key : List ℕ) where
  -- what the connection reads with
  abbrev reads : List ℕ
  reads = (keys_of (keyed s began.legal_hello began.exchange (Some key))).client

  pub reads-under : (m : List ℕ) → client_key s began key ≡ gives m → reads ≡ m
  unfolding started
  reads-under m e = go (master_under key began.legal_hello.fields.random s.random) e
    where
      of-block : (o : Outcome) → and_then o (λ block. gives (part 0 32 block)) ≡ gives m → part 0 32 (bytes_of o) ≡ m
      of-block (gives block) e = cc
      of-block (refuses r) e = absurd (refuses-gives e)

      go : (o : Outcome)
          → and_then o
          (λ secret. and_then (keys secret s.random began.legal_hello.fields.random null_suite) (λ block. gives (part 0 32 block))) ≡ gives m
          → part 0 32 (bytes_of (keys (bytes_of o) s.random began.legal_hello.fields.random null_suite)) ≡ m
      go (gives secret) e = of-block (keys secret s.random began.legal_hello.fields.random null_suite) e
      go (refuses r) e = absurd (refuses-gives e)

  -- where there is a right Finished value there is a key
  pub key-given : (value : List ℕ) → right_value s began key ≡ gives value → (m : List ℕ) × (client_key s began key ≡ gives m)
  key-given value e = of-master (master_under key client s.random) refl e
    where
      client : List ℕ
      client = began.legal_hello.fields.random

      of-hash : (secret : List ℕ) (o : Outcome) → and_then o (verify_data Client secret) ≡ gives value → length secret ≡ 48
      of-hash secret (gives hash) e = value-master Client secret hash value e
      of-hash secret (refuses r) e = absurd (refuses-gives e)

      of-master : (o : Outcome) → master_under key client s.random ≡ o
          → and_then o (λ secret. and_then (sha256 (began.hello ++ (flight_to s began.legal_hello ++ began.exchange))) (verify_data Client secret))
          ≡ gives value
          → (m : List ℕ)
          × (and_then o (λ secret. and_then (keys secret s.random client null_suite) (λ block. gives (part 0 32 block))) ≡ gives m)
      of-master (gives secret) is e =
          let long = of-hash secret (sha256 (began.hello ++ (flight_to s began.legal_hello ++ began.exchange))) e in
          let randoms = master-randoms key client s.random secret is in
          let block = key-block-given secret s.random client null_suite long randoms.1 randoms.0 (omega arith) (omega arith) in
          (part 0 32 block.0, rw block.2)
      of-master (refuses r) is e = absurd (refuses-gives e)
