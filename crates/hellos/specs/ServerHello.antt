-- ServerHello (RFC 5246, section 7.4.1.3).
use Rattle.std.specs.Prelude.{ℕ, ◌+◌, ◌&&◌, cond, List, ◌∷◌, ◌++◌, length, get_or, take, drop, leb, ltb, Result, Ok, Err, Option, None, Some}
use Rattle.refusal.specs.declared.Refusal.{Refusal}
use Rattle.endian.specs.Number.{be, number}
use Rattle.layout.specs.declared.Part.{Part}
use Rattle.hellos.specs.declared.server_hello.Server.{Server}
use Rattle.layout.specs.Types.{server_hello_type}
use Rattle.layout.specs.Layout.{Layout}
use Rattle.layout.specs.Header.{header}
use Rattle.hellos.specs.Hello.{front_rules, front_bytes, session_at, block_rules, tail_bytes, block_at, block_contents}

pub record ServerHello : Type 0 where
  pub version : ℕ
  pub random : List ℕ
  pub session_id : List ℕ
  pub suite : ℕ
  pub compression : ℕ
  pub extensions : Option (List ℕ)

abbrev pub server_hello : Layout ServerHello
server_hello = record {
  kind = server_hello_type;
  rules = λ f. front_rules f.version f.random f.session_id && (ltb f.suite 65536 && (ltb f.compression 256 && block_rules f.extensions));
  body = λ f. front_bytes f.version f.random f.session_id (be 2 f.suite ++ (f.compression ∷ tail_bytes f.extensions));
}

-- the fields that a writer is given
abbrev pub server_given : ℕ → List ℕ → List ℕ → ℕ → ℕ → Option (List ℕ) → ServerHello
server_given version random session_id suite compression block = record {
  version = version;
  random = random;
  session_id = session_id;
  suite = suite;
  compression = compression;
  extensions = block;
}

-- ---- where the fields stand: the random at 6, the session id at 39, suite and compression behind it, then the block

abbrev pub server_block : List ℕ → ℕ → Option (Option Part) → Option Server
server_block m n (Some b) = Some (record {
  version = number (take 2 (drop 4 m));
  session_len = n;
  suite = number (take 2 (drop (39 + n) m));
  compression = get_or m (41 + n) 0;
  block = b;
})
server_block m n None = None

abbrev pub server_session : List ℕ → Option Part → Option Server
server_session m (Some p) = cond (leb (42 + p.len) (length m)) (server_block m p.len (block_at m (42 + p.len))) None
server_session m None = None

abbrev pub server_body : List ℕ → Option Server
server_body m = server_session m (session_at m)

abbrev pub server_header : List ℕ → Result Unit Refusal → Option Server
server_header m (Ok tt) = server_body m
server_header m (Err r) = None

abbrev pub server_place : List ℕ → Option Server
server_place m = server_header m (header server_hello_type m)

-- the fields that a reader finds
abbrev pub server_fields : List ℕ → Option Server → Option ServerHello
server_fields m (Some s) = Some (record {
  version = s.version;
  random = take 32 (drop 6 m);
  session_id = take s.session_len (drop 39 m);
  suite = s.suite;
  compression = s.compression;
  extensions = block_contents m s.block;
})
server_fields m None = None

abbrev pub read_server_hello : List ℕ → Option ServerHello
read_server_hello m = server_fields m (server_place m)
