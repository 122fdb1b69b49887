-- Every outcome of the layers below has fewer than 2 ^ 31 bytes, or numbers where it is a list: digests and secrets by their lengths, messages by their
-- limit, and what comes of a table by the limits of keys and tables; of a message's answer the sides promise it.
-- Assumes nothing.
use mathlib.Core.Path.{◌≡◌, refl}
use Prim.Native.Nat.{ℕ, ◌-◌, ◌≤◌, ◌<◌, ◌^◌}
use native.Mathlib.Omega.{arith}
use mathlib.Core.Bool.{Bool, true, false, cond, ◌&&◌, and-eq-true_iff}
use mathlib.Core.List.{List, ◌++◌, map}
use lib.ListN.{length, take, length-take}
use lib.Dec.{leb, ltb, eqb}
use borrow.Author.Tests.{leb-true, ltb-true}
use Rattle.std.specs.Prelude.{Option, None, Some}
use Rattle.refusal.specs.declared.Refusal.{Refusal}
use Rattle.refusal.specs.declared.Refusal.TheVariants.{ShortOutput, BadTable, BadList, BadValue, TableFull}
use Rattle.refusal.specs.Lent.{Outcome, gives, refuses}
use Rattle.endian.specs.Vector.{writable}
use Rattle.sha256.specs.Hash.{limit, sha256, digest}
use Rattle.sha256.proofs.Finish.{length-digest}
use Rattle.keys.specs.declared.Label.{Label}
use Rattle.keys.specs.declared.Side.{Side}
use Rattle.keys.specs.Hmac.{hmac, mac, keyed}
use Rattle.keys.specs.Prf.{prf, expanded, text}
use Rattle.keys.specs.Secrets.{premaster, premaster_bytes, master, keys, verify_data, is_random, key_block_length, finished_label}
use Rattle.keys.proofs.Lengths.{length-premaster}
use Rattle.layout.specs.Layout.{Layout, bytes, written, valid}
use Rattle.extensions.specs.Extensions.{Ext, extension_bytes, extension_written}
use Rattle.keytable.specs.Table.{lines, joined, valid_key, decoded, well_formed, table_refusal, first_text, key_of_text, found}
use Rattle.keytable.specs.Starts.{starts_of, list_made, list_refusal, line_at, key_at, looked_up}
use Rattle.keytable.proofs.Tests.{key-sound}
use Rattle.keytable.proofs.Pairs.{length-decoded}
use Rattle.keytable.proofs.Agreement.{well-formed-tests}
use Rattle.keytable.proofs.Listed.{count-lines}
use Rattle.table_edits.specs.Edits.{Edit, subject, listed, lines_after, allowed, misplaced, sized, unless, edited, roomed, edited_in}
use Rattle.c_interface.proofs.Answers.{size}

abbrev pub Small : Outcome → Type 0
Small o = size o < 2 ^ 31

-- bytes that are given only where a test holds
pub bytes-if-small : (t : Bool) (bytes : List ℕ) (r : Refusal) → (t ≡ true → length bytes < 2 ^ 31) → Small (cond t (gives bytes) (refuses r))
bytes-if-small true bytes r h = h refl
bytes-if-small false bytes r h = omega arith

-- an outcome that is wanted only where a test holds
pub outcome-if-small : (t : Bool) (o : Outcome) (r : Refusal) → Small o → Small (cond t o (refuses r))
outcome-if-small true o r h = h
outcome-if-small false o r h = omega arith

-- ---- the secrets

pub sha256-small : (m : List ℕ) → Small (sha256 m)
unfolding sha256
sha256-small m = bytes-if-small (leb (length m) limit) (digest m) BadValue (λ _. rw (length-digest m) (omega arith))

pub hmac-small : (key text : List ℕ) → Small (hmac key text)
unfolding hmac mac keyed
hmac-small key text =
    bytes-if-small (leb (length text) (limit - 64) && leb (length key) limit) (mac key text) BadValue (λ _. rw (length-digest _) (omega arith))

expanded-most : (secret seed : List ℕ) (n : ℕ) → length (expanded secret seed n) ≤ n
unfolding expanded
expanded-most secret seed n = simp length-take (omega arith)

pub prf-small : (secret : List ℕ) (label : Label) (seed : List ℕ) (n : ℕ) → Small (prf secret label seed n)
unfolding prf
prf-small secret label seed n =
    bytes-if-small (leb (length secret) 65536 && leb (length seed) 65536 && leb n 256) (expanded secret (text label ++ seed) n) BadValue (λ ok.
    let most : n ≤ 256 = leb-true n 256 ((and-eq-true_iff (leb (length secret) 65536 && leb (length seed) 65536) (leb n 256)).0 ok).1 in
    omega (arith, expanded-most secret (text label ++ seed) n))

pub premaster-small : (psk : List ℕ) → Small (premaster psk)
unfolding premaster
premaster-small psk =
    bytes-if-small (leb 1 (length psk) && leb (length psk) 64) (premaster_bytes psk) BadValue (λ ok.
    let most : length psk ≤ 64 = leb-true (length psk) 64 ((and-eq-true_iff (leb 1 (length psk)) (leb (length psk) 64)).0 ok).1 in
    rw (length-premaster psk) (omega arith))

pub master-small : (secret client server : List ℕ) → Small (master secret client server)
master-small secret client server = outcome-if-small (is_random client && is_random server) _ BadValue (prf-small secret _ (client ++ server) 48)

pub keys-small : (secret server client : List ℕ) (suite : ℕ) → Small (keys secret server client suite)
unfolding keys
keys-small secret server client suite =
    outcome-if-small (eqb (length secret) 48 && is_random server && is_random client && leb 1 (key_block_length suite)) _ BadValue
    (prf-small secret _ (server ++ client) (key_block_length suite))

pub key-block-few : (suite : ℕ) → key_block_length suite < 2 ^ 31
key-block-few suite = one (eqb suite 0x00ae) (eqb suite 0x008c) (eqb suite 0x00b0)
  where
    one : (a b c : Bool) → cond a 96 (cond b 72 (cond c 64 0)) < 2 ^ 31
    one true b c = omega arith
    one false true c = omega arith
    one false false true = omega arith
    one false false false = omega arith

pub verify-small : (side : Side) (secret hash : List ℕ) → Small (verify_data side secret hash)
unfolding verify_data
verify-small side secret hash =
    outcome-if-small (eqb (length secret) 48 && eqb (length hash) 32) _ BadValue (prf-small secret (finished_label side) hash 12)

-- ---- the messages

pub written_small : {F : Type 0} (l : Layout F) (f : F) → Small (written l f)
written_small l f = bytes-if-small (valid l f) (bytes l f) BadValue (λ ok.
    let most : length (bytes l f) ≤ 16384 =
    leb-true (length (bytes l f)) 16384 ((and-eq-true_iff (l.rules f) (leb (length (bytes l f)) 16384)).0 ok).1 in
    omega arith)

pub extension-small : (e : Ext) → Small (extension_written e)
extension-small e = bytes-if-small (ltb e.kind 65536 && writable 2 e.contents) (extension_bytes e) BadValue (λ ok.
    let most : length e.contents < 65536 =
    ltb-true (length e.contents) 65536 ((and-eq-true_iff (ltb e.kind 65536) (writable 2 e.contents)).0 ok).1 in
    omega arith)

-- ---- the table

-- a key has at most 64 bytes, whatever text it is read from
text-key-small : (text : Option (List ℕ)) → Small (found (key_of_text text))
text-key-small None = omega arith
text-key-small (Some s) = go (valid_key s) refl
  where
    go : (t : Bool) → valid_key s ≡ t → Small (found (cond t (Some (decoded s)) None))
    go true valid = let key = key-sound s valid in rw (length-decoded s) (omega arith)
    go false valid = omega arith

pub lookup-small : (table starts : List ℕ) (count : ℕ) (identity : List ℕ) → Small (looked_up table starts count identity)
unfolding looked_up key_at
lookup-small table starts count identity =
    outcome-if-small (leb count (length starts)) _ BadList (text-key-small (first_text identity (map (line_at table) (take count starts))))

-- one number for each line
pub list-small : (table : List ℕ) → Small (list_made table)
list-small table = bytes-if-small (well_formed table) (starts_of table) BadTable (λ ok.
    let most : length (lines table) ≤ 256 = leb-true (length (lines table)) 256 (well-formed-tests table ok).2 in
    rw (count-lines 0 (lines table)) (omega arith))

sized-small : (ls : List (List ℕ)) → Small (sized ls)
sized-small ls = bytes-if-small (leb (length ls) 256 && leb (length (joined ls)) 65536) (joined ls) TableFull (λ ok.
    let most : length (joined ls) ≤ 65536 =
    leb-true (length (joined ls)) 65536 ((and-eq-true_iff (leb (length ls) 256) (leb (length (joined ls)) 65536)).0 ok).1 in
    omega arith)

unless-small : (r : Option Refusal) (o : Outcome) → Small o → Small (unless r o)
unless-small None o h = h
unless-small (Some r) o h = omega arith

roomed-small : (room : ℕ) (o : Outcome) → Small o → Small (roomed room o)
roomed-small room (gives table) h = bytes-if-small (leb (length (lines table)) room) table ShortOutput (λ _. h)
roomed-small room (refuses r) h = h

pub edit-small : (memory : List ℕ) (n : ℕ) (starts : List ℕ) (count : ℕ) (e : Edit) → Small (edited_in memory n starts count e)
unfolding edited edited_in
edit-small memory n starts count e =
    let t = take n memory in
    let made : Outcome = sized (lines_after e (lines t)) in
    let placed : Outcome = unless (misplaced e (listed (subject e) (lines t))) made in
    let named : Outcome = unless (cond (allowed e) None (Some BadValue)) placed in
    let roomy : Outcome = roomed (length starts) (edited e t) in
    outcome-if-small (leb n (length memory)) (unless (list_refusal t starts count) roomy) BadTable
    (unless-small (list_refusal t starts count) roomy
    (roomed-small (length starts) (edited e t)
    (unless-small (table_refusal t) named
    (unless-small (cond (allowed e) None (Some BadValue)) placed
    (unless-small (misplaced e (listed (subject e) (lines t))) made (sized-small (lines_after e (lines t))))))))
