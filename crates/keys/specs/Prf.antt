-- RFC 5246, section 5: the pseudorandom function, P_SHA256 for every suite.
use Rattle.std.specs.Prelude.{ℕ, zero, suc, ◌+◌, ◌/◌, cond, ◌&&◌, List, [], ◌∷◌, ◌++◌, length, take, leb}
use Prim.Native.Char.{code}
use Prim.Native.String as Text
use Prim.Native.String.{String}
use Rattle.refusal.specs.Lent.{Outcome, gives, refuses}
use Rattle.refusal.specs.declared.Refusal.TheVariants.{BadValue}
use Rattle.keys.specs.declared.Label.{Label}
use Rattle.keys.specs.declared.Label.TheVariants.{MasterSecret, KeyExpansion, ClientFinished, ServerFinished}
use Rattle.keys.specs.Hmac.{mac}

-- A(0) = seed, A(i) = HMAC_hash(secret, A(i-1))
unfoldable pub a_of : List ℕ → List ℕ → ℕ → List ℕ
a_of secret seed zero = seed
a_of secret seed (suc i) = mac secret (a_of secret seed i)

-- P_hash(secret, seed) = HMAC_hash(secret, A(1) + seed) + HMAC_hash(secret, A(2) + seed) + .., as far as A(n)
unfoldable pub p_hash : List ℕ → List ℕ → ℕ → List ℕ
p_hash secret seed zero = []
p_hash secret seed (suc n) = p_hash secret seed n ++ mac secret (a_of secret seed (suc n) ++ seed)

-- as many parts of 32 bytes as make n bytes; what is too much is left out
unfoldable pub expanded : List ℕ → List ℕ → ℕ → List ℕ
expanded secret seed n = take n (p_hash secret seed ((n + 31) / 32))

abbrev pub ascii : String → List ℕ
ascii Text.[] = []
ascii (Text.◌∷◌ c s) = code c ∷ ascii s

-- document 01, "Secrets": the labels
abbrev pub text : Label → List ℕ
text MasterSecret = ascii "master secret"
text KeyExpansion = ascii "key expansion"
text ClientFinished = ascii "client finished"
text ServerFinished = ascii "server finished"

-- PRF(secret, label, seed) = P_<hash>(secret, label + seed), of n bytes.
-- Document 01: secret and seed at most 65,536 bytes each, at most 256 bytes out; more is R5.
unfoldable pub prf : List ℕ → Label → List ℕ → ℕ → Outcome
prf secret label seed n =
    cond (leb (length secret) 65536 && leb (length seed) 65536 && leb n 256) (gives (expanded secret (text label ++ seed) n)) (refuses BadValue)
