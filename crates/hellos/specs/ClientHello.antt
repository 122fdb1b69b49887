-- ClientHello (RFC 5246, section 7.4.1.2).
use Rattle.std.specs.Prelude.{ℕ, ◌+◌, ◌%◌, Bool, ◌&&◌, List, ◌++◌, length, take, drop, leb, eqb, Result, Ok, Err, Option, None, Some}
use Rattle.refusal.specs.declared.Refusal.{Refusal}
use Rattle.endian.specs.Number.{number}
use Rattle.endian.specs.Vector.{vector, writable}
use Rattle.layout.specs.declared.Part.{Part}
use Rattle.hellos.specs.declared.client_hello.Client.{Client}
use Rattle.layout.specs.Types.{client_hello_type}
use Rattle.layout.specs.Layout.{Layout}
use Rattle.layout.specs.Header.{header}
use Rattle.layout.specs.Place.{part_at, ruled}
use Rattle.hellos.specs.Hello.{front_rules, front_bytes, session_at, block_rules, tail_bytes, block_at, block_contents}

-- the suites are two bytes each, the compression methods one
pub record ClientHello : Type 0 where
  pub version : ℕ
  pub random : List ℕ
  pub session_id : List ℕ
  pub suites : List ℕ
  pub methods : List ℕ
  pub extensions : Option (List ℕ)

-- the suites, two bytes each: at least one
abbrev pub suites_length : ℕ → Bool
suites_length n = leb 2 n && eqb (n % 2) 0

-- the compression methods, one byte each: at least one
abbrev pub methods_length : ℕ → Bool
methods_length n = leb 1 n

abbrev pub client_hello : Layout ClientHello
client_hello = record {
  kind = client_hello_type;
  rules = λ f. front_rules f.version f.random f.session_id
      && ((writable 2 f.suites && suites_length (length f.suites))
      && ((writable 1 f.methods && methods_length (length f.methods)) && block_rules f.extensions));
  body = λ f. front_bytes f.version f.random f.session_id (vector 2 f.suites ++ (vector 1 f.methods ++ tail_bytes f.extensions));
}

-- the fields that a writer is given
abbrev pub client_given : ℕ → List ℕ → List ℕ → List ℕ → List ℕ → Option (List ℕ) → ClientHello
client_given version random session_id suites methods block = record {
  version = version;
  random = random;
  session_id = session_id;
  suites = suites;
  methods = methods;
  extensions = block;
}

-- ---- where the fields stand: the random at 6, the session id at 39, and each of the others behind the one before

abbrev pub client_block : List ℕ → ℕ → (suites methods : Part) → Option (Option Part) → Option Client
client_block m n s t (Some b) = Some (record { version = number (take 2 (drop 4 m)); session_len = n; suites = s; methods = t; block = b })
client_block m n s t None = None

abbrev pub client_methods : List ℕ → ℕ → (suites : Part) → Option Part → Option Client
client_methods m n s (Some t) = client_block m n s t (block_at m (t.start + t.len))
client_methods m n s None = None

abbrev pub client_suites : List ℕ → ℕ → Option Part → Option Client
client_suites m n (Some s) = client_methods m n s (ruled methods_length (part_at 1 m (s.start + s.len)))
client_suites m n None = None

abbrev pub client_session : List ℕ → Option Part → Option Client
client_session m (Some p) = client_suites m p.len (ruled suites_length (part_at 2 m (p.start + p.len)))
client_session m None = None

abbrev pub client_body : List ℕ → Option Client
client_body m = client_session m (session_at m)

abbrev pub client_header : List ℕ → Result Unit Refusal → Option Client
client_header m (Ok tt) = client_body m
client_header m (Err r) = None

abbrev pub client_place : List ℕ → Option Client
client_place m = client_header m (header client_hello_type m)

-- the fields that a reader finds
abbrev pub client_fields : List ℕ → Option Client → Option ClientHello
client_fields m (Some c) = Some (record {
  version = c.version;
  random = take 32 (drop 6 m);
  session_id = take c.session_len (drop 39 m);
  suites = take c.suites.len (drop c.suites.start m);
  methods = take c.methods.len (drop c.methods.start m);
  extensions = block_contents m c.block;
})
client_fields m None = None

abbrev pub read_client_hello : List ℕ → Option ClientHello
read_client_hello m = client_fields m (client_place m)
