-- A connection, and start (document 01, "The server's steps").
use Rattle.std.specs.Prelude.{ℕ, Bool, true, false, cond, ◌&&◌, List, length, take, replicate, leb, eqb, Ok, Err, Option, None, Some}
use Rattle.lists.specs.Lists.{field}
use Rattle.handshake.specs.declared.Answer.{Answer}
use Rattle.sha256.specs.State.{fresh}
use Rattle.utf8.specs.Utf8.{valid_utf8}
use Rattle.server.specs.declared.Rule.{Rule}
use Rattle.server.specs.declared.Phase.{Phase}
use Rattle.server.specs.declared.Setup.{Setup}
use Rattle.server.specs.declared.Negotiated.{Negotiated}
use Rattle.server.specs.declared.Secrets.{Secrets}
use Rattle.server.specs.declared.Connection.{Connection}
use Rattle.refusal.specs.declared.Refusal.TheVariants.{BadSetting}

-- ---- start: what it is given

pub record Settings : Type 0 where
  pub random : List ℕ
  pub hint : List ℕ
  pub stand_in : List ℕ
  pub named : Option Rule
  pub suites : List ℕ

-- where no rule is named, hide applies (document 02, P3)
abbrev pub rule_of : Option Rule → Rule
rule_of None = Rule.Hide
rule_of (Some rule) = rule

-- the longest hint
abbrev pub hint_limit : ℕ
hint_limit = 128

-- R3 where it fails: a random or a stand-in key of another length, a hint that is too long or not UTF-8
abbrev pub acceptable : Settings → Bool
acceptable s =
    eqb (length s.random) 32 && leb (length s.hint) hint_limit && valid_utf8 s.hint && eqb (length s.stand_in) 32

-- what start was given, as a connection keeps it
abbrev pub setup_of : Settings → Setup
setup_of s =
    record {
      rule = rule_of s.named;
      suites = s.suites;
      hint_length = length s.hint;
      hint = field hint_limit s.hint;
      stand_in = s.stand_in;
      random = s.random;
    }

-- before the client has said anything, and where it has said its last
abbrev pub nothing_said : Negotiated
nothing_said = record { random = replicate 32 0; suite = 0; listed = false }

abbrev pub no_secrets : Secrets
no_secrets = record { master = replicate 48 0 }

abbrev pub begun : Setup → Connection
begun setup = record { phase = Phase.Hello; setup = setup; client = nothing_said; secrets = no_secrets; transcript = fresh }

-- the connection that an accepted start gives
unfoldable pub started : Settings → Connection
started s = begun (setup_of s)

abbrev pub no_setup : Setup
no_setup =
    record {
      rule = Rule.Tell;
      suites = replicate 3 0;
      hint_length = 0;
      hint = replicate hint_limit 0;
      stand_in = replicate 32 0;
      random = replicate 32 0;
    }

-- a connection that is over: one fixed value for each way that it ended, with no secret and no trace of the client in it
abbrev pub ended : Phase → Connection
ended phase = record { phase = phase; setup = no_setup; client = nothing_said; secrets = no_secrets; transcript = fresh }

-- it is complete or closed
abbrev pub is_over : Phase → Bool
is_over Phase.Hello = false
is_over Phase.KeyExchange = false
is_over Phase.Change = false
is_over Phase.Finished = false
is_over Phase.Complete = true
is_over Phase.Closed = true

-- the hint that the connection was started with
abbrev pub hint_of : Setup → List ℕ
hint_of s = take s.hint_length s.hint

-- ---- what start answers

-- R3: no connection is made, and what comes back is one that is over
abbrev pub bad_setting : Answer Connection
bad_setting = record { said = Err BadSetting; next = ended Phase.Closed }

abbrev pub start_answer : Settings → Answer Connection
start_answer s = cond (acceptable s) (record { said = Ok 0; next = started s }) bad_setting
