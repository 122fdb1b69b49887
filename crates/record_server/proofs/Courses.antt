-- What the next message of handshake bytes leads to, as the code keeps it: a progress further on, one that waits, or a refusal.
-- Assumes nothing.
use mathlib.Core.Path.{◌≡◌, refl, sym, ap, ◌∙◌}
use Prim.Native.Nat.{ℕ, suc, ◌+◌, ◌-◌, ◌≤◌}
use native.Mathlib.Omega.{arith}
use mathlib.Core.Logic.{⊎_elim, inr}
use mathlib.Core.Bool.{cond, true≢false}
use mathlib.Core.List.{List, append-nil}
use lib.ListN.{length, take, drop, length-drop}
use lib.Seq.{drop-drop}
use borrow.Author.Tests.{le-ltb}
use Rattle.std.specs.Prelude.{Result, Ok, Err, Option, Some}
use Rattle.refusal.specs.declared.Refusal.{Refusal}
use Rattle.handshake.specs.declared.Outgoing.{Outgoing}
use Rattle.handshake.specs.Flight.{Flight, silence, longest}
use Rattle.handshake.specs.Handed.{derived}
use Rattle.handshake.specs.declared.Derived.{Derived}
use Rattle.handshake.specs.Outgoing.{flight_of, total}
use Rattle.handshake.specs.Step.{accept}
use Rattle.server.specs.declared.Phase.{Phase}
use Rattle.server.specs.declared.Connection.{Connection}
use Rattle.handshake.specs.declared.Decision.{Decision}
use Rattle.server.specs.KeyExchange.{View}
use Rattle.handshake.specs.Decision.{Decides, decided}
use Rattle.server.specs.Message.{message_step, handed_over, blocks_in}
use Rattle.record_server.specs.declared.progress.Progress as Code
use Rattle.record_server.specs.declared.progress.Course.{Course}
use Rattle.record_server.specs.Joining as Judging
use Rattle.record_server.specs.Joining.{Progress, Judged, goes_on, joined_flight, later, after_step, where_whole, judged}
use Rattle.record_server.specs.InnerProgress.{Sound, Few, Goes, answers, is_going, on_course, advanced}
use Rattle.record_server.specs.InnerProgress.{progress_of, judge_left, comes_to}
use Rattle.record_server.proofs.Steps.{After, greeted, keyed, parted, step_after}

-- ---- flights

silent-before : (f g : Flight) → f ≡ silence → joined_flight f g ≡ g
silent-before f g e = rw e

silent-behind : (f g : Flight) → g ≡ silence → joined_flight f g ≡ f
silent-behind f g e = rw (e, append-nil f.plain, append-nil f.protected)

-- progress by its parts
progress : (c : Connection) {f g : Flight} {a b : Option Derived} {k l : List ℕ} → f ≡ g → a ≡ b → k ≡ l
    → ◌≡◌ {A = Progress} (record { connection = c; flight = f; master = a; left = k }) (record { connection = c; flight = g; master = b; left = l })
progress c e d h = rw (e, d, h)

module _ (v : View) (held : ℕ) (bytes : List ℕ) (p : Code.Progress) (sound : Sound held bytes p) where
  -- ---- where it ends

  sound-on : (course : Course) → Sound held bytes (on_course p course)
  sound-on course = record { fits = sound.fits; inside = sound.inside; apart = sound.apart; quiet = sound.quiet }

  pub goes-refused : {wanted : Judged} {r : Refusal} → wanted ≡ Judging.refuse r → Goes v held bytes wanted p.at (on_course p (Course.Refused r))
  goes-refused {wanted} {r} e = record { means = e; sound = sound-on (Course.Refused r); further = λ h. absurd (true≢false (sym h)); few = tt }

  pub goes-waits : {wanted : Judged} → wanted ≡ goes_on (progress_of bytes p) → length (drop p.at bytes) ≤ 16383
      → Goes v held bytes wanted p.at (on_course p Course.Waits)
  goes-waits e few = record { means = e; sound = sound-on Course.Waits; further = λ h. absurd (true≢false (sym h)); few = few }

  -- ---- a message of which all is there

  module _ (size : ℕ) (some : 4 ≤ size) (over : p.at ≡ 0 → held ≤ size) (room : size ≤ length (drop p.at bytes)) where
    module _ (d : Decision Connection) where
      -- the progress behind it
      abbrev behind : Outgoing → Option Derived → Code.Progress
      behind outgoing handed = record { course = Course.Going; connection = d.next; outgoing = outgoing; handed = handed; at = p.at + size }

      goes_on_lem : (outgoing : Outgoing) (handed : Option Derived) {flight : Flight} {secret : Option Derived}
          → total outgoing.lengths ≤ longest → (answers d.next.phase → ⊥) → flight ≡ flight_of outgoing → secret ≡ handed
          → Goes v held bytes
          (judge_left v (record { connection = d.next; flight = flight; master = secret; left = drop size (drop p.at bytes) }))
          p.at (behind outgoing handed)
      goes_on_lem outgoing handed fits last e h =
          let inside : p.at + size ≤ length bytes = omega (arith, length-drop p.at bytes) in
          record {
            means = ap (judge_left v) (progress d.next e h (drop-drop size p.at bytes));
            sound = record {
              fits = fits;
              inside = inside;
              apart = inr (⊎_elim (λ first. omega (arith, over first)) (λ before. omega arith) sound.apart);
              quiet = λ q. absurd (last q);
            };
            further = λ going. omega arith;
            few = tt;
          }

      -- by what its step leads to
      goes_after : {flight : Flight} {next : Connection} {phase : Phase} → After (accept flight next) phase
          → flight ≡ flight_of d.outgoing → next ≡ d.next → total d.outgoing.lengths ≤ longest → {n : ℕ} → d.blocks ≡ n
          → (answers phase → flight_of p.outgoing ≡ silence)
          → Goes v held bytes
          (judge_left v (record {
            connection = d.next;
            flight = joined_flight (flight_of p.outgoing) (flight_of d.outgoing);
            master = later p.handed (derived (handed_over phase (accept (flight_of d.outgoing) d.next)) n);
            left = drop size (drop p.at bytes);
          }))
          p.at (advanced phase p d (p.at + size))
      goes_after (greeted last) f n fits counts quiet =
          goes_on_lem d.outgoing p.handed fits (rw n at last)
          (silent-before (flight_of p.outgoing) (flight_of d.outgoing) (quiet tt)) refl
      goes_after (parted last) f n fits counts quiet =
          goes_on_lem d.outgoing p.handed fits (rw n at last)
          (silent-before (flight_of p.outgoing) (flight_of d.outgoing) (quiet tt)) refl
      goes_after (keyed last) f n fits counts quiet =
          goes_on_lem p.outgoing (Some (record { master = d.next.secrets.master; blocks = d.blocks })) sound.fits (rw n at last)
          (silent-behind (flight_of p.outgoing) (flight_of d.outgoing) (sym f))
          (ap (λ (k : ℕ). Some (record { master = d.next.secrets.master; blocks = k })) (sym counts))

    module _ {given : Result (Decision Connection) Refusal}
        (decides : Decides given (message_step v p.connection (take (p.at + size - p.at) (drop p.at bytes)) p.connection.phase)
        (blocks_in v p.connection (take (p.at + size - p.at) (drop p.at bytes)) p.connection.phase)) where
      abbrev message : List ℕ
      message = take size (drop p.at bytes)

      -- the number for it
      abbrev blocks : ℕ
      blocks = blocks_in v p.connection message p.connection.phase

      step_is : {t : Result (Decision Connection) Refusal} → given ≡ t → message_step v p.connection message p.connection.phase ≡ decided t
      step_is e =
          let same : p.at + size - p.at ≡ size = omega arith in
          sym (rw same at decides.means) ∙ ap decided e

      counted : {d : Decision Connection} → given ≡ Ok d → d.blocks ≡ blocks
      counted e =
          let same : p.at + size - p.at ≡ size = omega arith in
          rw (same, step_is e, e) at decides.counts

      whole : {t : Result (Decision Connection) Refusal} → given ≡ t
          → where_whole v (judge_left v) (progress_of bytes p) size ≡ after_step (judge_left v) (progress_of bytes p) size blocks (decided t)
      whole e = rw (le-ltb (length (drop p.at bytes)) size room) (ap (after_step (judge_left v) (progress_of bytes p) size blocks) (step_is e))

      pub goes-accepted : {d : Decision Connection} → given ≡ Ok d
          → Goes v held bytes (where_whole v (judge_left v) (progress_of bytes p) size) p.at (advanced p.connection.phase p d (p.at + size))
      goes-accepted {d} e =
          rw (whole e)
          (goes_after d (rw (step_is e) at (step_after v p.connection message p.connection.phase)) refl refl (rw e at decides.fits) (counted e) sound.quiet)

      pub goes-rejected : {r : Refusal} → given ≡ Err r
          → Goes v held bytes (where_whole v (judge_left v) (progress_of bytes p) size) p.at (on_course p (Course.Refused r))
      goes-rejected e = goes-refused (whole e)

-- ---- from the first message to the last

-- how it stands between two turns of the loop
pub record Running (v : View) (held : ℕ) (bytes : List ℕ) (wanted : Judged) (p : Code.Progress) : Type 0 where
  pub means : wanted ≡ comes_to v bytes p p.course
  pub sound : Sound held bytes p
  pub few : Few p.course (length (drop p.at bytes))

-- what is left of the bytes, and one more while it goes on
abbrev pub left_over : List ℕ → Code.Progress → ℕ
left_over bytes p = cond (is_going p.course) (suc (length bytes - p.at)) 0
