-- Messages by their lengths, each put into a record behind the last.
-- Assumes nothing.
use mathlib.Core.Path.{◌≡◌, refl, sym, ap, ◌∙◌}
use Prim.Native.Nat.{ℕ, zero, suc, ◌+◌, ◌-◌, ◌*◌, ◌≤◌, ◌<◌}
use native.Mathlib.Nat.{min-le_left}
use native.Mathlib.Omega.{arith}
use mathlib.Core.Bool.{Bool, true, false, cond, not, ◌||◌, true≢false}
use mathlib.Core.List.{List, [], ◌∷◌, ◌++◌, append_assoc, append-nil}
use lib.ListN.{length, take, drop, length-append, length-take, length-drop, take-append-drop, drop_of_length-le}
use lib.Seq.{length-take-le, take_at, drop_at, drop-drop}
use lib.Dec.{eqb}
use Rattle.std.specs.List.{list_any}
use borrow.Author.Tests.{eq-eqb, ne_eqb, le-leb}
use Rattle.std.specs.Prelude.{Result}
use Rattle.refusal.specs.declared.Refusal.{Refusal}
use Rattle.lists.specs.Lists.{part}
use Rattle.lists.proofs.Parts.{rest, length_part}
use Rattle.refusal.specs.Lent.{gives, Answers}
use Rattle.refusal.proofs.Laws.{answer-in-front}
use Rattle.layout.proofs.Puts.{front, put-behind}
use Rattle.handshake.specs.Flight as Flight
use Rattle.handshake.specs.Outgoing.{total, cut}
use Rattle.records.specs.declared.ContentType.{ContentType}
use Rattle.records.specs.declared.State.{State}
use Rattle.records.specs.Protection.{added, counted, sealed, sealing}
use Rattle.records.proofs.Opening.{few-added, length-sealed}
use Rattle.record_server.specs.Answering.{message_records, counted_over}
use Rattle.record_server.specs.InnerFlight.{Puts, some_message}

-- ---- lengths, and the messages that they cut

pub total-parts : (p : ℕ) (ns : List ℕ) → total (take p ns) + total (drop p ns) ≡ total ns
total-parts zero ns = omega arith
total-parts (suc p) [] = refl
total-parts (suc p) (n ∷ ns) = omega (arith, total-parts p ns)

-- a length that isn't 0 is a message's
pub some-any : (ns : List ℕ) → list_any (λ n. not (eqb n 0)) ns ≡ some_message ns
some-any [] = refl
some-any (n ∷ ns) =
    elim (eqb n 0) as (λ t. (not t || list_any (λ m. not (eqb m 0)) ns) ≡ cond t (some_message ns) true) [ true ↦ some-any ns | false ↦ refl ]

pub cut-none : (ns b : List ℕ) → some_message ns ≡ false → cut ns b ≡ []
cut-none [] b e = refl
cut-none (n ∷ ns) b e = go (eqb n 0) (cut-none ns b) e
  where
    go : (t : Bool) → (some_message ns ≡ false → cut ns b ≡ []) → cond t (some_message ns) true ≡ false
        → cond t (cut ns b) (take n b ∷ cut ns (drop n b)) ≡ []
    go true others f = others f
    go false others f = cc

-- one of them, and the others
abbrev Some : List (List ℕ) → Type 0
Some messages = (m : List ℕ) × (ms : List (List ℕ)) × (messages ≡ m ∷ ms)

pub cut-some : (ns b : List ℕ) → some_message ns ≡ true → Some (cut ns b)
cut-some [] b e = absurd (true≢false (sym e))
cut-some (n ∷ ns) b e = go (eqb n 0) (cut-some ns b) e
  where
    go : (t : Bool) → (some_message ns ≡ true → Some (cut ns b)) → cond t (some_message ns) true ≡ true
        → Some (cond t (cut ns b) (take n b ∷ cut ns (drop n b)))
    go true others f = others f
    go false others f = (take n b, cut ns (drop n b), refl)

-- each message has at most 37 bytes around it
pub records-short : (s : State) (ns b : List ℕ) → length (message_records s (cut ns b)) ≤ total ns + 37 * length ns
records-short s [] b = omega arith
records-short s (n ∷ ns) b = go (eqb n 0) (records-short s ns b) (records-short (counted s) ns (drop n b))
  where
    tail : List ℕ
    tail = message_records (counted s) (cut ns (drop n b))

    go : (t : Bool) → length (message_records s (cut ns b)) ≤ total ns + 37 * length ns → length tail ≤ total ns + 37 * length ns
        → length (message_records s (cond t (cut ns b) (take n b ∷ cut ns (drop n b)))) ≤ n + total ns + 37 * suc (length ns)
    go true without with_first = omega arith
    go false without with_first =
        let m : List ℕ = take n b in
        let few : length m ≤ n = rw (length-take n b) (min-le_left n (length b)) in
        rw (length-append (sealed s ContentType.Handshake m) tail, length-sealed s ContentType.Handshake m) (omega (arith, few-added s))

-- ---- a record that is put behind others

-- bytes at the front leave the length as it was
pub front_long : (bs out : List ℕ) → length bs ≤ length out → length (front bs out) ≡ length out
front_long bs out h = length-append bs (drop (length bs) out) ∙ rw (length-drop (length bs) out) (omega arith)

-- a loan of what stands from `at` on that came back
abbrev pub put_back : List ℕ → ℕ → List ℕ → List ℕ
put_back out at back = take at out ++ (back ++ drop (length out - at) (drop at out))

-- content that a record holds, and room for it: what was written, and what stands there then
module _ (w : State) (kind : ContentType) (content bs out₀ out : List ℕ) (len : ℕ) (e : out ≡ front bs out₀) (size : length bs ≡ len)
    (few : length content ≤ 180) (room : len + (length content + 37) ≤ length out) {said : Result ℕ Refusal} {back : List ℕ}
    (a : Answers (sealing w kind content) (rest out len) said back) where
  long : length (sealed w kind content) ≤ length (rest out len)
  long = omega (arith, length-sealed w kind content, few-added w, length_part out len (length out - len) (omega arith))

  given : Answers (gives (sealed w kind content)) (rest out len) said back
  given = rw (le-leb (length content) 16384 (omega arith)) at a

  pub record-size : Flight.counted said ≡ length (sealed w kind content)
  record-size = ap Flight.counted given.told ∙ rw (le-leb (length (sealed w kind content)) (length (rest out len)) long)

  pub record-put : put_back out len back ≡ front (bs ++ sealed w kind content) out₀
  record-put = put-behind bs (sealed w kind content) out₀ out back len e (sym size) (answer-in-front given long)

-- ---- messages, one at a turn

-- at i: what was put, and what is left
pub record Begun (s : State) (ns b out₀ out : List ℕ) (w : State) (len used i : ℕ) : Type 0 where
  pub records : message_records s (cut ns b) ≡ take len out ++ message_records w (cut (drop i ns) (drop used b))
  pub state : counted_over s (cut ns b) ≡ counted_over w (cut (drop i ns) (drop used b))
  pub behind : drop len out ≡ drop len out₀
  pub size : length out ≡ length out₀
  pub turn : i ≤ length ns
  pub place : used + total (drop i ns) ≡ total ns
  pub room : len + (total (drop i ns) + 37 * (length ns - i)) ≤ length out

pub begin : (s : State) (ns b out : List ℕ) → total ns + 37 * length ns ≤ length out → Begun s ns b out out s 0 0 0
begin s ns b out h =
    record { records = refl; state = refl; behind = refl; size = refl; turn = omega arith; place = omega arith; room = omega arith }

module _ {s w : State} {ns b out₀ out : List ℕ} {len used i : ℕ} (was : Begun s ns b out₀ out w len used i) where
  -- what is there, as a front
  there : length (take len out) ≡ len
  there = length-take-le len out (omega arith)

  parted : out ≡ take len out ++ drop len out₀
  parted = sym (take-append-drop len out) ∙ ap (λ (l : List ℕ). take len out ++ l) was.behind

  module _ (more : i < length ns) {n : ℕ} (here : drop i ns ≡ n ∷ drop (i + 1) ns) where
    sum : total (drop i ns) ≡ n + total (drop (i + 1) ns)
    sum = ap total here

    pub skip : n ≡ 0 → Begun s ns b out₀ out w len used (i + 1)
    skip none =
        let after : cut (drop i ns) (drop used b) ≡ cut (drop (i + 1) ns) (drop used b) =
        ap (λ (l : List ℕ). cut l (drop used b)) here ∙ rw (eq-eqb n 0 none) in
        record {
          records = was.records ∙ rw after;
          state = was.state ∙ rw after;
          behind = was.behind;
          size = was.size;
          turn = omega arith;
          place = omega (arith, sum);
          room = omega (arith, sum);
        }

    pub next : {w' : State} {out' back : List ℕ} {said : Result ℕ Refusal} {len' used' : ℕ} → (n ≡ 0 → ⊥) → total ns ≤ length b → total ns ≤ 180
        → Answers (sealing w ContentType.Handshake (part used (used + n - used) b)) (rest out len) said back
        → out' ≡ put_back out len back → w' ≡ counted w → len' ≡ len + Flight.counted said
        → used' ≡ used + n → Begun s ns b out₀ out' w' len' used' (i + 1)
    next {w'} {out'} {back} {said} {len'} {used'} some inside few a eo ew el eu =
        let m : List ℕ = take n (drop used b) in
        let bytes : List ℕ = sealed w ContentType.Handshake m in
        let all : List ℕ = take len out ++ bytes in
        let same : used + n - used ≡ n = omega arith in
        let sized : length m ≡ n = length_part b used n (omega (arith, sum)) in
        let a' : Answers (sealing w ContentType.Handshake m) (rest out len) said back = rw same at a in
        let room : len + (length m + 37) ≤ length out = omega (arith, sum) in
        let e : out ≡ front (take len out) out₀ = rw there parted in
        let short : length m ≤ 180 = omega (arith, sum) in
        let written = record-size w ContentType.Handshake m (take len out) out₀ out len e there short room a' in
        let size : length all ≡ len' = length-append (take len out) bytes ∙ omega (arith, there) in
        let put : out' ≡ front all out₀ = eo ∙ record-put w ContentType.Handshake m (take len out) out₀ out len e there short room a' in
        let first : take len' out' ≡ all = rw put (take_at all _ len' size) in
        let after : cut (drop i ns) (drop used b) ≡ m ∷ cut (drop (i + 1) ns) (drop used' b) =
        ap (λ (l : List ℕ). cut l (drop used b)) here ∙ rw (ne_eqb n 0 some, drop-drop n used b, eu) in
        let fits : length bytes ≡ 5 + n + added w = length-sealed w ContentType.Handshake m ∙ rw sized in
        let long : length out' ≡ length out₀ =
        ap length put ∙ front_long all out₀ (omega (arith, size, few-added w, fits, length-append (take len out) bytes, there, sum)) in
        record {
          records = was.records ∙ ap (λ (ms : List (List ℕ)). take len out ++ message_records w ms) after
              ∙ sym (append_assoc (take len out) bytes _) ∙ rw (first, ew);
          state = was.state ∙ ap (counted_over w) after ∙ rw ew;
          behind = rw put (drop_at all _ len' size ∙ rw size);
          size = long;
          turn = omega arith;
          place = omega (arith, sum);
          room = omega (arith, sum, size, few-added w, fits, length-append (take len out) bytes, there, long);
        }

  pub done : length ns ≤ i
      → Puts (message_records s (cut ns b)) (counted_over s (cut ns b)) (total ns) out₀ (record { len = len; used = used; writing = w }) out
  done end =
      let none : drop i ns ≡ [] = drop_of_length-le ns end in
      let all : message_records s (cut ns b) ≡ take len out =
      was.records ∙ ap (λ (l : List ℕ). take len out ++ message_records w (cut l (drop used b))) none ∙ append-nil (take len out) in
      let long : length (message_records s (cut ns b)) ≡ len = ap length all ∙ there in
      record {
        size = sym long;
        bytes = rw (long, all) parted;
        state = sym (was.state ∙ ap (λ (l : List ℕ). counted_over w (cut l (drop used b))) none);
        used = omega (arith, was.place, ap total none);
      }
