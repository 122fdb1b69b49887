-- The extension block of a hello (RFC 5246, section 7.4.1.4): extensions one after the other, each a type and data with a 2-byte length.
use Rattle.std.specs.Prelude.{ℕ, zero, suc, ◌+◌, Bool, false, ◌&&◌, cond, List, [], ◌∷◌, ◌++◌, length, take, drop, leb, ltb, eqb, Option, None, Some}
use Rattle.lists.specs.Lists.{distinct}
use Rattle.endian.specs.Number.{be, number}
use Rattle.endian.specs.Vector.{vector, writable, stated}
use Rattle.refusal.specs.declared.Refusal.TheVariants.{BadValue}
use Rattle.refusal.specs.Lent.{Outcome, gives, refuses}
use Rattle.extensions.specs.declared.Step.{Step}
use Rattle.extensions.specs.declared.Step.TheVariants.{Extension, End, Refused}
use Rattle.layout.specs.Place.{end_at}

pub record Ext : Type 0 where
  pub kind : ℕ
  pub contents : List ℕ

abbrev pub extension_bytes : Ext → List ℕ
extension_bytes e = be 2 e.kind ++ vector 2 e.contents

abbrev pub block_bytes : List Ext → List ℕ
block_bytes [] = []
block_bytes (e ∷ es) = extension_bytes e ++ block_bytes es

-- ---- writing

-- a type that two bytes hold, and data whose length they hold
abbrev pub writable_ext : Ext → Bool
writable_ext e = ltb e.kind 65536 && writable 2 e.contents

-- else R5
abbrev pub extension_written : Ext → Outcome
extension_written e = cond (writable_ext e) (gives (extension_bytes e)) (refuses BadValue)

-- SessionTicket, 35 (RFC 5077, section 3.2): its data is the ticket itself; one without a ticket has no data
abbrev pub ticket_extension : List ℕ → Ext
ticket_extension ticket = record { kind = 35; contents = ticket }

-- ---- reading

-- the extension at the front of b, and where it ends; past the end of b where it is cut off
abbrev pub first : List ℕ → Ext
first b = record { kind = number (take 2 b); contents = take (stated 2 (drop 2 b)) (drop 4 b) }

abbrev pub first_end : List ℕ → ℕ
first_end b = end_at 2 b 2

abbrev pub adding : Ext → Option (List Ext) → Option (List Ext)
adding e None = None
adding e (Some es) = Some (e ∷ es)

-- at most n of them
abbrev pub extensions_up_to : ℕ → List ℕ → Option (List Ext)
extensions_up_to zero [] = Some []
extensions_up_to zero (x ∷ xs) = None
extensions_up_to (suc n) [] = Some []
extensions_up_to (suc n) (x ∷ xs) =
    cond (leb (first_end (x ∷ xs)) (length (x ∷ xs))) (adding (first (x ∷ xs)) (extensions_up_to n (drop (first_end (x ∷ xs)) (x ∷ xs)))) None

-- the extensions that b is, none where one is cut off: there are no more of them than bytes
abbrev pub extensions_in : List ℕ → Option (List Ext)
extensions_in b = extensions_up_to (length b) b

-- ---- the rule on a block

abbrev pub kinds : List Ext → List ℕ
kinds [] = []
kinds (e ∷ es) = e.kind ∷ kinds es

abbrev pub ruled : Option (List Ext) → Bool
ruled None = false
ruled (Some es) = distinct eqb (kinds es)

-- the block of a hello: whole extensions, and no type twice (the house's rule); what their data is, is not judged
abbrev pub block_rule : List ℕ → Bool
block_rule b = ruled (extensions_in b)

-- ---- going through a block

-- the extension that starts at `at`: its type, and where its data stands
abbrev pub step_at : List ℕ → ℕ → Step
step_at b at =
    cond (leb (length b) at) End
    (cond (leb (end_at 2 b (at + 2)) (length b)) (Extension (number (take 2 (drop at b))) (at + 4) (stated 2 (drop (at + 2) b))) Refused)
