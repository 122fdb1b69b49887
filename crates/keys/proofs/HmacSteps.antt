-- HMAC in its steps: the key's block, and the two digests, with the blocks that they take.
-- Assumes nothing.
use mathlib.Core.Path.{◌≡◌, sym, ap, ◌∙◌}
use Prim.Native.Nat.{ℕ, ◌+◌, ◌-◌, ◌^◌, ◌≤◌, ◌<◌}
use native.Mathlib.Decide.{dec_le}
use native.Mathlib.Omega.{arith}
use mathlib.Core.List.{List, ◌++◌}
use lib.ListN.{length, take, drop, replicate, length-append, length-map, length-replicate}
use lib.Seq.{take-length}
use lib.Bits.{bit_xor}
use borrow.Author.Tests.{le-leb, lt-leb}
use Rattle.std.specs.Prelude.{Result, Ok, Err, IfOk, MatchResult}
use Rattle.refusal.specs.declared.Refusal.{Refusal}
use Rattle.refusal.specs.Lent.{Answers}
use Rattle.refusal.proofs.Laws.{answer-fills}
use Rattle.sha256.specs.declared.Sha256.{Sha256}
use Rattle.sha256.specs.Hash.{digest, limit}
use Rattle.sha256.specs.State.{absorb, fresh, finished}
use Rattle.sha256.specs.declared.Reported.{Reported}
use Rattle.sha256.specs.Report.{blocks_of, compressed, said}
use Rattle.sha256.proofs.Absorb.{absorb-append}
use Rattle.sha256.proofs.Finish.{length-digest, finished-within}
use Rattle.sha256.proofs.Counting.{compressed-absorbed}
use Rattle.lists.proofs.Parts.{drop-replicate}
use Rattle.keys.specs.Hmac.{zero_padded, key_block, ipad, opad, xored, keyed, mac}
use Rattle.keys.specs.declared.mac.Keyed.{Keyed}
use Rattle.keys.specs.declared.mac.Mac.{Mac}
use Rattle.keys.specs.Counts.{key_blocks, keyed_blocks, mac_blocks}
use Rattle.keys.specs.Inner.{keyed_by, Macs}

-- a key that fits a block, copied over zeros
pub short-key : (key block : List ℕ) → length key ≤ 64 → block ≡ take (length key) key ++ drop (length key) (replicate 64 0) → block ≡ key_block key
unfolding key_block zero_padded
short-key key block h e = rw (e, take-length key, drop-replicate 64 (length key) 0, le-leb (length key) 64 h)

-- a longer one, its digest written over zeros
pub long-key : (key block : List ℕ) → 64 < length key → block ≡ digest key ++ drop (length (digest key)) (replicate 64 0) → block ≡ key_block key
unfolding key_block zero_padded
long-key key block h e = rw (e, drop-replicate 64 (length (digest key)) 0, lt-leb (length key) 64 h)

-- ---- a finished hash: it wrote the digest of what it absorbed, and counted its blocks

-- the number of a finished hash, 0 where it is refused
abbrev pub Counts : Sha256 → Result Reported Refusal → ℕ → Type 0
Counts s given n = IfOk given (λ r. r.blocks ≡ compressed s) × MatchResult given (λ r. n ≡ r.blocks) (λ _. n ≡ 0)

-- from what `finish_counted` promises, whose bound on the number is not asked for
pub counts-of : (s : Sha256) (given : Result Reported Refusal) (n : ℕ) → IfOk given (λ r. (r.blocks ≡ compressed s) × (r.blocks ≤ 2 ^ 55 + 1))
    → MatchResult given (λ r. n ≡ r.blocks) (λ _. n ≡ 0) → Counts s given n
counts-of s (Ok r) n promised told = (promised.0, told)
counts-of s (Err r) n promised told = (promised, told)

module _ (s : Sha256) (m : List ℕ) {out out' : List ℕ} (given : Result Reported Refusal) (e : s ≡ absorb fresh m) (h : length m ≤ limit)
    (answered : Answers (finished s) out (said given) out') where
  pub digest-of : length out ≡ 32 → out' ≡ digest m
  digest-of l = answer-fills (rw (finished-within s m e h) at answered) (length-digest m ∙ rw l)

  pub counted_of : {n : ℕ} → 32 ≤ length out → Counts s given n → n ≡ blocks_of m
  counted_of {n} room counts =
      let fits : length (digest m) ≤ length out = rw (length-digest m) room in
      let told : said given ≡ Ok (length (digest m)) =
      (rw (finished-within s m e h) at answered).told ∙ simp (le-leb (length (digest m)) (length out) fits) in
      of-given given told counts ∙ compressed-absorbed s m e h
    where
      of-given : (g : Result Reported Refusal) {k : ℕ} → said g ≡ Ok k → Counts s g n → n ≡ compressed s
      of-given (Ok r) f c = c.1 ∙ c.0
      of-given (Err r) f c = cc

-- a key that fits a block does without its digest
pub short-blocks : (key : List ℕ) → length key ≤ 64 → 0 ≡ key_blocks key
unfolding key_blocks
short-blocks key h = rw (le-leb (length key) 64 h)

pub long-blocks : (key : List ℕ) → 64 < length key → blocks_of key ≡ key_blocks key
unfolding key_blocks
long-blocks key h = rw (lt-leb (length key) 64 h)

-- ---- the two digests of HMAC, one after the other

length-xored : (block : List ℕ) (pad : ℕ) → length (xored block pad) ≡ length block
length-xored block pad = length-map block (λ (byte : ℕ). bit_xor byte pad)

pub length-padded : (key : List ℕ) (pad : ℕ) → length (xored (key_block key) pad) ≡ 64
unfolding key_block zero_padded
length-padded key pad = rw (length-xored (key_block key) pad) (elim (dec_le (length key) 64) [
  | yes h ↦ simp (le-leb (length key) 64 h, length-append, length-replicate) (omega arith)
  | no h ↦ simp (lt-leb (length key) 64 (omega arith), length-append, length-replicate, length-digest) (omega arith)
])

module _ (key text : List ℕ) (few : length text ≤ limit - 64) {s outer : Sha256} {out inner out₂ value : List ℕ} (given given₂ : Result Reported Refusal) (n n₂ : ℕ)
    (es : s ≡ absorb (absorb fresh (xored (key_block key) ipad)) text) (first : Answers (finished s) out (said given) inner) (room : length out ≡ 32)
    (counts : Counts s given n)
    (eo : outer ≡ absorb (absorb fresh (xored (key_block key) opad)) inner) (second : Answers (finished outer) out₂ (said given₂) value) (room₂ : length out₂ ≡ 32)
    (counts₂ : Counts outer given₂ n₂) where
  abbrev message : List ℕ
  message = xored (key_block key) ipad ++ text

  abbrev message₂ : List ℕ
  message₂ = xored (key_block key) opad ++ digest message

  size : length message ≤ limit
  size = rw (length-append (xored (key_block key) ipad) text, length-padded key ipad) (omega arith)

  size₂ : length message₂ ≤ limit
  size₂ = rw (length-append (xored (key_block key) opad) (digest message), length-padded key opad, length-digest message) (omega arith)

  absorbed : s ≡ absorb fresh message
  absorbed = es ∙ sym (absorb-append fresh (xored (key_block key) ipad) text)

  absorbed₂ : outer ≡ absorb fresh message₂
  absorbed₂ =
      eo ∙ ap (absorb (absorb fresh (xored (key_block key) opad))) (digest-of s message given absorbed size first room)
      ∙ sym (absorb-append fresh (xored (key_block key) opad) (digest message))

  pub two-digests : value ≡ mac key text
  unfolding mac keyed
  two-digests = digest-of outer message₂ given₂ absorbed₂ size₂ second room₂

  pub two-counts : key_blocks key + n + n₂ ≡ mac_blocks key text
  unfolding mac_blocks keyed_blocks
  two-counts =
      rw (counted_of s message given absorbed size first (omega arith) counts, counted_of outer message₂ given₂ absorbed₂ size₂ second (omega arith) counts₂)
      (omega arith)

-- what `mac::end` promises of an inner hash and of the other hash under one key
abbrev pub Ends : Sha256 → Keyed → Mac → Type 0
Ends hash k r =
    (key text : List ℕ) → hash ≡ absorb (keyed_by key).inner text → k.outer ≡ (keyed_by key).outer → k.blocks ≡ key_blocks key → length text ≤ limit - 64
    → Macs key text r

-- is the HMAC of what the inner hash has absorbed
pub ends : {key text : List ℕ} {k : Keyed} {hash : Sha256} {r : Mac} → k ≡ keyed_by key → hash ≡ absorb k.inner text → length text ≤ limit - 64
    → Ends hash k r → Macs key text r
ends {key} {text} same e few promise =
    promise key text (e ∙ ap (λ (x : Keyed). absorb x.inner text) same) (ap (λ (x : Keyed). x.outer) same) (ap (λ (x : Keyed). x.blocks) same) few

-- a message in three parts
pub three-parts : (s : Sha256) (a b c : List ℕ) → absorb (absorb (absorb s a) b) c ≡ absorb s (a ++ (b ++ c))
three-parts s a b c = simp absorb-append
