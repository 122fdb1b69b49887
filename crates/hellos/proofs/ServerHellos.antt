-- Where the parts of a ServerHello stand; its reader and its writer are each other's inverse.
-- Assumes nothing.
use mathlib.Core.Path.{◌≡◌, refl, sym, ap, ap₂, ◌∙◌}
use Prim.Native.Nat.{ℕ, suc, ◌+◌, ◌≤◌, ◌<◌}
use native.Mathlib.Omega.{arith}
use native.Mathlib.Decide.{dec_le}
use mathlib.Core.Bool.{true, ◌&&◌, and-eq-true_iff}
use mathlib.Core.List.{List, ◌∷◌, ◌++◌}
use lib.ListN.{length, get_or, take, drop, length-drop, take-append-drop}
use lib.Seq.{drop-drop, get_or-drop, drop-cons, length-take-le}
use lib.Dec.{ltb}
use borrow.Author.Tests.{ltb-true, lt-ltb, le-leb, lt-leb}
use Rattle.std.proofs.lemmas.Option.{none-some, same_Some}
use Rattle.std.specs.Prelude.{Result, Ok, Err, Some, Option, None}
use Rattle.refusal.specs.declared.Refusal.{Refusal}
use Rattle.endian.specs.Number.{Bytes, be, number}
use Rattle.endian.proofs.Numbers.{number-be-lt, number_lt, be-number-at, bytes_take, bytes_drop}
use Rattle.layout.specs.declared.Part.{Part}
use Rattle.hellos.specs.declared.server_hello.Server.{Server}
use Rattle.layout.specs.Types.{server_hello_type}
use Rattle.layout.specs.Layout.{bytes, valid, Inverse}
use Rattle.layout.specs.Header.{header}
use Rattle.layout.specs.Place.{standing}
use Rattle.hellos.specs.Hello.{front_rules, front_bytes, session_at, block_rules, tail_bytes, block_at, block_contents}
use Rattle.hellos.specs.ServerHello.{ServerHello, server_hello, server_block, server_session, server_body, server_header, server_place, server_fields}
use Rattle.hellos.specs.ServerHello.{read_server_hello}
use Rattle.layout.proofs.Layouts.{valid-within, valid-parts}
use Rattle.layout.proofs.Headers.{header-message, header_read}
use Rattle.hellos.proofs.Hellos.{front-written, front_read, block_written, block_read, length-body, front-rules}

-- ---- where the parts stand

-- the session id at x, room behind it for suite and compression, and the block
pub record Parts (m : List ℕ) (x n : ℕ) (b : Option Part) : Type 0 where
  pub session : session_at m ≡ standing x n
  pub room : 42 + n ≤ length m
  pub block : block_at m (42 + n) ≡ Some b

-- what is read then
abbrev pub read_at : List ℕ → ℕ → Option Part → Option Server
read_at m n b = server_block m n (Some b)

-- how a ServerHello is read, by cases: what holds of a refusal, and wherever the parts stand so, holds of what is read
module _ (m : List ℕ) (Holds : Option Server → Type 0) (refused : Holds None) where
  pub by-body : ((x n : ℕ) (b : Option Part) → Parts m x n b → Holds (read_at m n b)) → Holds (server_body m)
  by-body read = by-session (session_at m) refl
    where
      by-block : (x n : ℕ) (o : Option (Option Part)) → session_at m ≡ standing x n → 42 + n ≤ length m → block_at m (42 + n) ≡ o → Holds (server_block m n o)
      by-block x n (Some b) session room block = read x n b (record { session = session; room = room; block = block })
      by-block x n None session room block = refused

      by-session : (p : Option Part) → session_at m ≡ p → Holds (server_session m p)
      by-session (Some p) session = elim (dec_le (42 + p.len) (length m)) [
        | yes room ↦ rw (le-leb (42 + p.len) (length m) room) (by-block p.start p.len (block_at m (42 + p.len)) session room refl)
        | no cut ↦ rw (lt-leb (42 + p.len) (length m) (omega arith)) refused
      ]
      by-session None session = refused

  pub by-header : (header server_hello_type m ≡ Ok tt → (x n : ℕ) (b : Option Part) → Parts m x n b → Holds (read_at m n b)) → Holds (server_place m)
  by-header read = go (header server_hello_type m) refl
    where
      go : (v : Result Unit Refusal) → header server_hello_type m ≡ v → Holds (server_header m v)
      go (Ok tt) a = by-body (read a)
      go (Err r) a = refused

-- ---- reading what was written

server-reads : (f : ServerHello) → valid server_hello f ≡ true → read_server_hello (bytes server_hello f) ≡ Some f
server-reads f h =
    let m : List ℕ = bytes server_hello f in
    let ok = valid-parts server_hello f h in
    let two = (and-eq-true_iff (front_rules f.version f.random f.session_id)
    (ltb f.suite 65536 && (ltb f.compression 256 && block_rules f.extensions))).0 ok.0 in
    let three = (and-eq-true_iff (ltb f.suite 65536) (ltb f.compression 256 && block_rules f.extensions)).0 two.1 in
    let four = (and-eq-true_iff (ltb f.compression 256) (block_rules f.extensions)).0 three.1 in
    let tail : List ℕ = tail_bytes f.extensions in
    let rest : List ℕ = be 2 f.suite ++ (f.compression ∷ tail) in
    let n : ℕ = length f.session_id in
    let front = front-written server_hello_type f.version f.random f.session_id rest two.0 in
    let size : length m ≡ 42 + n + length tail =
    omega (arith, length-body f.version f.random f.session_id rest (front-rules f.version f.random f.session_id two.0).1) in
    let suite : number (take 2 (drop (39 + n) m)) ≡ f.suite =
    ap (λ (l : List ℕ). number (take 2 l)) front.4 ∙ number-be-lt 2 f.suite (ltb-true _ _ three.0) in
    let compressed : get_or m (41 + n) 0 ≡ f.compression =
    ap (λ (k : ℕ). get_or m k 0) plus-two ∙ sym (get_or-drop (39 + n) m 2 0) ∙ ap (λ (l : List ℕ). get_or l 2 0) front.4 in
    let behind : drop (42 + n) m ≡ tail = ap (λ (k : ℕ). drop k m) plus-three ∙ sym (drop-drop 3 (39 + n) m) ∙ ap (drop 3) front.4 in
    let block = block_written m (42 + n) f.extensions (omega arith) four.1 behind in
    let place : server_place m ≡ read_at m n block.0 =
    rw (header-message server_hello_type (server_hello.body f) ok.1, front.0, le-leb (42 + n) (length m) (omega arith), block.1) in
    ap (server_fields m) place ∙ (λ i. Some (record {
      version = front.1 i;
      random = front.2 i;
      session_id = front.3 i;
      suite = suite i;
      compression = compressed i;
      extensions = block.2 i;
    }))
  where
    plus-two : 41 + length f.session_id ≡ 39 + length f.session_id + 2
    plus-two = omega arith

    plus-three : 42 + length f.session_id ≡ 39 + length f.session_id + 3
    plus-three = omega arith

-- ---- writing what was read

-- suite, compression and what stands behind them
chosen-read : (m : List ℕ) (n : ℕ) → Bytes m → 42 + n ≤ length m
    → (drop (39 + n) m ≡ be 2 (number (take 2 (drop (39 + n) m))) ++ (get_or m (41 + n) 0 ∷ drop (42 + n) m))
    × (number (take 2 (drop (39 + n) m)) < 65536)
chosen-read m n b fits =
    let d : List ℕ = drop (39 + n) m in
    let two : length (take 2 d) ≡ 2 = length-take-le 2 d (simp length-drop (omega arith)) in
    let front : Bytes (take 2 d) = bytes_take 2 d (bytes_drop (39 + n) m b) in
    let third : drop 2 d ≡ get_or m (41 + n) 0 ∷ drop (42 + n) m =
    drop-drop 2 (39 + n) m ∙ ap (λ (k : ℕ). drop k m) plus-two ∙ drop-cons m (41 + n) 0 (omega arith)
    ∙ ap (λ (k : ℕ). get_or m (41 + n) 0 ∷ drop k m) plus_one in
    (sym (take-append-drop 2 d) ∙ ap₂ ◌++◌ (sym (be-number-at 2 (take 2 d) front two)) third, rw two at (number_lt (take 2 d) front))
  where
    plus-two : 39 + n + 2 ≡ 41 + n
    plus-two = omega arith

    plus_one : suc (41 + n) ≡ 42 + n
    plus_one = omega arith

-- what the fields say of the message
abbrev Wrote : List ℕ → ServerHello → Type 0
Wrote m f = (valid server_hello f ≡ true) × (m ≡ bytes server_hello f)

module _ (m : List ℕ) (f : ServerHello) (b : Bytes m) where
  abbrev Writes : Option Server → Type 0
  Writes p = server_fields m p ≡ Some f → Wrote m f

  writes : header server_hello_type m ≡ Ok tt → (x n : ℕ) (c : Option Part) → Parts m x n c → Writes (read_at m n c)
  writes accepted x n c p e =
      let read : ServerHello = record {
        version = number (take 2 (drop 4 m));
        random = take 32 (drop 6 m);
        session_id = take n (drop 39 m);
        suite = number (take 2 (drop (39 + n) m));
        compression = get_or m (41 + n) 0;
        extensions = block_contents m c;
      } in
      let same : f ≡ read = sym (same_Some _ _ e) in
      let head = header_read server_hello_type m b accepted in
      let front = front_read m x n b p.session in
      let chosen = chosen-read m n b p.room in
      let block = block_read m (42 + n) c b p.block in
      let rest = chosen.0 ∙ ap (λ (l : List ℕ). be 2 read.suite ++ (read.compression ∷ l)) block.0 in
      let body : drop 4 m ≡ server_hello.body read = front.2 ∙ ap (front_bytes read.version read.random read.session_id) rest in
      let rules : server_hello.rules read ≡ true =
      rw (front.3, lt-ltb read.suite 65536 chosen.1, lt-ltb read.compression 256 (b (41 + n))) block.1 in
      rw same (valid-within server_hello read rules (rw body at head.1), rw body at head.0)

pub server-inverse : Inverse server_hello read_server_hello
server-inverse = record {
  reads-written = server-reads;
  writes-read = λ m f b. by-header m (Writes m f b) (λ e. absurd (none-some f e)) (writes m f b);
}
