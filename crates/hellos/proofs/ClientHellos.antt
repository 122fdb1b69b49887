-- Where the parts of a ClientHello stand; its reader and its writer are each other's inverse.
-- Assumes nothing.
use mathlib.Core.Path.{◌≡◌, refl, sym, ap, ◌∙◌}
use Prim.Native.Nat.{ℕ, ◌+◌, ◌%◌, ◌≤◌}
use native.Mathlib.Omega.{arith}
use mathlib.Core.Bool.{Bool, true, ◌&&◌, and-eq-true_iff}
use mathlib.Core.List.{List, ◌++◌}
use lib.ListN.{length, take, drop, length-append, length-drop}
use lib.Seq.{length-take-le}
use lib.Dec.{leb, eqb}
use borrow.Author.Tests.{le-leb, leb-true}
use Rattle.std.proofs.lemmas.Option.{none-some, same_Some}
use Rattle.std.specs.Prelude.{Result, Ok, Err, Some, Option, None}
use Rattle.refusal.specs.declared.Refusal.{Refusal}
use Rattle.endian.specs.Number.{Bytes, number}
use Rattle.endian.specs.Vector.{vector, writable}
use Rattle.layout.specs.declared.Part.{Part}
use Rattle.hellos.specs.declared.client_hello.Client.{Client}
use Rattle.layout.specs.Types.{client_hello_type}
use Rattle.layout.specs.Layout.{bytes, valid, Inverse}
use Rattle.layout.specs.Header.{header}
use Rattle.layout.specs.Place.{standing, end_at, part_at, ruled}
use Rattle.hellos.specs.Hello.{front_rules, front_bytes, session_at, block_rules, tail_bytes, block_at, block_contents}
use Rattle.hellos.specs.ClientHello.{ClientHello, client_hello, suites_length, methods_length}
use Rattle.hellos.specs.ClientHello.{client_block, client_methods, client_suites, client_session, client_body, client_header, client_place}
use Rattle.hellos.specs.ClientHello.{client_fields, read_client_hello}
use Rattle.layout.proofs.Layouts.{valid-within, valid-parts}
use Rattle.layout.proofs.Headers.{header-message, header_read}
use Rattle.layout.proofs.Places.{part-there, ruled-there, ruled-inside, vector-at, part-written}
use Rattle.hellos.proofs.Hellos.{front-written, front_read, front-rules, length-body, block_written, block_read}

-- ---- where the parts stand

-- what a reader finds: the version, the length of the session id, where suites and methods stand, and the block
abbrev pub client_at : (v n s k t j : ℕ) → Option Part → Option Client
client_at v n s k t j b = Some (record {
  version = v;
  session_len = n;
  suites = record { start = s; len = k };
  methods = record { start = t; len = j };
  block = b;
})

-- each behind the one before: the session id at x, the suites at s, the methods at t, and the block
pub record Parts (m : List ℕ) (x n s k t j : ℕ) (b : Option Part) : Type 0 where
  pub session : session_at m ≡ standing x n
  pub suites : ruled suites_length (part_at 2 m (x + n)) ≡ standing s k
  pub methods : ruled methods_length (part_at 1 m (s + k)) ≡ standing t j
  pub block : block_at m (t + j) ≡ Some b

-- how a ClientHello is read, by cases: what holds of a refusal, and wherever the parts stand so, holds of what is read
module _ (m : List ℕ) (Holds : Option Client → Type 0) (refused : Holds None) where
  pub by_parts : ((x n s k t j : ℕ) (b : Option Part) → Parts m x n s k t j b → Holds (client_at (number (take 2 (drop 4 m))) n s k t j b))
      → Holds (client_body m)
  by_parts read = by-session (session_at m) refl
    where
      by-block : (x n s k t j : ℕ) (o : Option (Option Part)) → session_at m ≡ standing x n → ruled suites_length (part_at 2 m (x + n)) ≡ standing s k
          → ruled methods_length (part_at 1 m (s + k)) ≡ standing t j → block_at m (t + j) ≡ o → Holds (client_block m n (record { start = s; len = k }) (record { start = t; len = j }) o)
      by-block x n s k t j (Some b) session suites methods block =
          read x n s k t j b (record { session = session; suites = suites; methods = methods; block = block })
      by-block x n s k t j None session suites methods block = refused

      by-methods : (x n s k : ℕ) (p : Option Part) → session_at m ≡ standing x n → ruled suites_length (part_at 2 m (x + n)) ≡ standing s k
          → ruled methods_length (part_at 1 m (s + k)) ≡ p → Holds (client_methods m n (record { start = s; len = k }) p)
      by-methods x n s k (Some t) session suites methods = by-block x n s k t.start t.len (block_at m (t.start + t.len)) session suites methods refl
      by-methods x n s k None session suites methods = refused

      by-suites : (x n : ℕ) (p : Option Part) → session_at m ≡ standing x n → ruled suites_length (part_at 2 m (x + n)) ≡ p → Holds (client_suites m n p)
      by-suites x n (Some s) session suites = by-methods x n s.start s.len (ruled methods_length (part_at 1 m (s.start + s.len))) session suites refl
      by-suites x n None session suites = refused

      by-session : (p : Option Part) → session_at m ≡ p → Holds (client_session m p)
      by-session (Some p) session = by-suites p.start p.len (ruled suites_length (part_at 2 m (p.start + p.len))) session refl
      by-session None session = refused

  -- the same with the header's tests
  pub by-header : (header client_hello_type m ≡ Ok tt → (x n s k t j : ℕ) (b : Option Part) → Parts m x n s k t j b
      → Holds (client_at (number (take 2 (drop 4 m))) n s k t j b)) → Holds (client_place m)
  by-header read = go (header client_hello_type m) refl
    where
      go : (v : Result Unit Refusal) → header client_hello_type m ≡ v → Holds (client_header m v)
      go (Ok tt) a = by_parts (read a)
      go (Err r) a = refused

-- the random, which ends at 38, the k bytes of suites from s on and the j bytes of methods from t on lie inside the message
abbrev pub Inside : List ℕ → ℕ → ℕ → ℕ → ℕ → Type 0
Inside m s k t j = (38 ≤ length m) × (s + k ≤ length m) × (t + j ≤ length m)

pub parts-inside : (m : List ℕ) (v n s k t j : ℕ) (b : Option Part) → client_body m ≡ client_at v n s k t j b → Inside m s k t j
parts-inside m v n s k t j b = by_parts m (λ p. p ≡ client_at v n s k t j b → Inside m s k t j) unread inside
  where
    unread : None ≡ client_at v n s k t j b → Inside m s k t j
    unread e = absurd (none-some _ e)

    inside : (x n₀ s₀ k₀ t₀ j₀ : ℕ) (b₀ : Option Part) → Parts m x n₀ s₀ k₀ t₀ j₀ b₀
        → client_at (number (take 2 (drop 4 m))) n₀ s₀ k₀ t₀ j₀ b₀ ≡ client_at v n s k t j b → Inside m s k t j
    inside x n₀ s₀ k₀ t₀ j₀ b₀ p e =
        let first = ruled-inside (λ i. leb i 32) 1 m 38 x n₀ p.session in
        let second = ruled-inside suites_length 2 m (x + n₀) s₀ k₀ p.suites in
        let third = ruled-inside methods_length 1 m (s₀ + k₀) t₀ j₀ p.methods in
        let same = same_Some _ _ e in
        let suites-at : s₀ ≡ s = ap (λ (c : Client). c.suites.start) same in
        let suites-size : k₀ ≡ k = ap (λ (c : Client). c.suites.len) same in
        let methods-at : t₀ ≡ t = ap (λ (c : Client). c.methods.start) same in
        let methods-size : j₀ ≡ j = ap (λ (c : Client). c.methods.len) same in
        (omega (arith, first), omega (arith, second, suites-at, suites-size), omega (arith, third, methods-at, methods-size))

-- ---- valid fields

-- what the rules say of valid fields
module _ (f : ClientHello) (h : valid client_hello f ≡ true) where
  rules-of : (front_rules f.version f.random f.session_id ≡ true)
      × ((writable 2 f.suites ≡ true) × (suites_length (length f.suites) ≡ true))
      × ((writable 1 f.methods ≡ true) × (methods_length (length f.methods) ≡ true))
      × (block_rules f.extensions ≡ true)
  rules-of =
      let suites : Bool = writable 2 f.suites && suites_length (length f.suites) in
      let methods : Bool = writable 1 f.methods && methods_length (length f.methods) in
      let two = (and-eq-true_iff (front_rules f.version f.random f.session_id) (suites && (methods && block_rules f.extensions))).0
      (valid-parts client_hello f h).0 in
      let three = (and-eq-true_iff suites (methods && block_rules f.extensions)).0 two.1 in
      let four = (and-eq-true_iff methods (block_rules f.extensions)).0 three.1 in (
        two.0,
        (and-eq-true_iff (writable 2 f.suites) (suites_length (length f.suites))).0 three.0,
        (and-eq-true_iff (writable 1 f.methods) (methods_length (length f.methods))).0 four.0,
        four.1,
      )

-- none is shorter than one with nothing in it that can be left out
pub at-least-45 : (f : ClientHello) → valid client_hello f ≡ true → 45 ≤ length (bytes client_hello f)
at-least-45 f h =
    let ok = rules-of f h in
    let rest : List ℕ = vector 2 f.suites ++ (vector 1 f.methods ++ tail_bytes f.extensions) in
    let front = front-rules f.version f.random f.session_id ok.0 in
    let two = ((and-eq-true_iff (leb 2 (length f.suites)) (eqb (length f.suites % 2) 0)).0 ok.1.1).0 in
    let total : length rest ≡ 3 + length f.suites + length f.methods + length (tail_bytes f.extensions) = simp length-append (omega arith) in
    omega (
      arith,
      leb-true 2 (length f.suites) two,
      leb-true 1 (length f.methods) ok.2.1,
      total,
      length-body f.version f.random
          f.session_id rest front.1,
    )

-- ---- reading what was written

client-reads : (f : ClientHello) → valid client_hello f ≡ true → read_client_hello (bytes client_hello f) ≡ Some f
client-reads f h =
    let m : List ℕ = bytes client_hello f in
    let n : ℕ = length f.session_id in
    let k : ℕ = length f.suites in
    let j : ℕ = length f.methods in
    let tail : List ℕ = tail_bytes f.extensions in
    let ok = valid-parts client_hello f h in
    let rules = rules-of f h in
    let front = front-written client_hello_type f.version f.random f.session_id (vector 2 f.suites ++ (vector 1 f.methods ++ tail))
    rules.0 in
    let suites = part-written 2 m (39 + n) f.suites (vector 1 f.methods ++ tail) (omega arith) rules.1.0 front.4 in
    let methods = part-written 1 m (39 + n + 2 + k) f.methods tail (omega arith) rules.2.0 suites.3 in
    let block = block_written m (39 + n + 2 + k + 1 + j) f.extensions (omega arith) rules.3 methods.3 in
    let suites-at : ruled suites_length (part_at 2 m (39 + n)) ≡ standing (39 + n + 2) k =
    rw (le-leb (end_at 2 m (39 + n)) (length m) (omega arith), suites.1, rules.1.1) in
    let methods-at : ruled methods_length (part_at 1 m (39 + n + 2 + k)) ≡ standing (39 + n + 2 + k + 1) j =
    rw (le-leb (end_at 1 m (39 + n + 2 + k)) (length m) (omega arith), methods.1, rules.2.1) in
    let place : client_place m ≡ client_at (number (take 2 (drop 4 m))) n (39 + n + 2) k (39 + n + 2 + k + 1) j block.0 =
    rw (header-message client_hello_type (client_hello.body f) ok.1, front.0, suites-at, methods-at, block.1) in
    ap (client_fields m) place ∙ (λ i. Some (record {
      version = front.1 i;
      random = front.2 i;
      session_id = front.3 i;
      suites = suites.2 i;
      methods = methods.2 i;
      extensions = block.2 i;
    }))

-- ---- writing what was read

-- what the fields say of the message
abbrev Wrote : List ℕ → ClientHello → Type 0
Wrote m f = (valid client_hello f ≡ true) × (m ≡ bytes client_hello f)

-- a vector with a rule on its length, as the message has it
vector-read : (rule : ℕ → Bool) (w : ℕ) (m : List ℕ) (at s n : ℕ) → Bytes m → ruled rule (part_at w m at) ≡ standing s n
    → (drop at m ≡ vector w (take n (drop s m)) ++ drop (s + n) m) × (writable w (take n (drop s m)) ≡ true)
    × (rule (length (take n (drop s m))) ≡ true)
vector-read rule w m at s n b e =
    let r = ruled-there rule (part_at w m at) s n e in
    let there = part-there w m at s n r.0 in
    let read = vector-at w m at b there.0 in
    let long : length (take n (drop s m)) ≡ n = length-take-le n (drop s m) (simp length-drop (omega arith)) in
    (rw (there.1, there.2) read.0, rw (there.1, there.2) read.1, rw long r.1)

module _ (m : List ℕ) (f : ClientHello) (b : Bytes m) where
  abbrev Writes : Option Client → Type 0
  Writes p = client_fields m p ≡ Some f → Wrote m f

  writes : header client_hello_type m ≡ Ok tt → (x n s k t j : ℕ) (c : Option Part) → Parts m x n s k t j c
      → Writes (client_at (number (take 2 (drop 4 m))) n s k t j c)
  writes accepted x n s k t j c p e =
      let read : ClientHello = record {
        version = number (take 2 (drop 4 m));
        random = take 32 (drop 6 m);
        session_id = take n (drop 39 m);
        suites = take k (drop s m);
        methods = take j (drop t m);
        extensions = block_contents m c;
      } in
      let same : f ≡ read = sym (same_Some _ _ e) in
      let head = header_read client_hello_type m b accepted in
      let front = front_read m x n b p.session in
      let second = vector-read suites_length 2 m (x + n) s k b p.suites in
      let third = vector-read methods_length 1 m (s + k) t j b p.methods in
      let block = block_read m (t + j) c b p.block in
      let rest : drop (39 + n) m ≡ vector 2 read.suites ++ (vector 1 read.methods ++ tail_bytes read.extensions) =
      rw front.0 at second.0 ∙ ap (λ (l : List ℕ). vector 2 read.suites ++ l)
      (third.0 ∙ ap (λ (l : List ℕ). vector 1 read.methods ++ l) block.0) in
      let body : drop 4 m ≡ client_hello.body read = front.2 ∙ ap (front_bytes read.version read.random read.session_id) rest in
      let rules : client_hello.rules read ≡ true = rw (front.3, second.1, second.2, third.1, third.2) block.1 in
      rw same (valid-within client_hello read rules (rw body at head.1), rw body at head.0)

pub client-inverse : Inverse client_hello read_client_hello
client-inverse = record {
  reads-written = client-reads;
  writes-read = λ m f b. by-header m (Writes m f b) (λ e. absurd (none-some f e)) (writes m f b);
}
