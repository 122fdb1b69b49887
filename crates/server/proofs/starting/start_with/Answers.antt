-- `server::starting::start_with`: settings that passed each test are acceptable.
-- Assumes nothing.
use Rattle.std.proofs.Common.{rules, ◌≡◌, ap, length}
use Rattle.std.specs.Prelude.{not}
use borrow.Author.Tests.{eq-eqb, le-leb, not-false}
use Rattle.server.specs.Connection.{started}
use Rattle.server.proofs.starting.start_with.Goals as goal

pub returns : goal.returns
unfolding started
returns c =
    let a = c.args in
    let random : c.in-Ok.random ≡ a.random.now = search rules in
    let random_size : length a.random.now ≡ 32 = search rules in
    let key : c.in-Ok-try_from.stand_in ≡ a.stand_in.now = search rules in
    let key_size : length a.stand_in.now ≡ 32 = search rules in
    rw (
      eq-eqb (length a.random.now) 32 random_size,
      le-leb (length a.hint.now) 128 c.if-hint-gt128.false,
      ← c.valid_utf8.ensures,
      not-false c.valid_utf8.result (ap not c.if-not-valid_utf8.false),
      eq-eqb (length a.stand_in.now) 32 key_size,
      c.started-next.ensures,
      c.setup.ensures,
      random,
      key,
    )
