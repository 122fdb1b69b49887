-- `hellos::hello::put_all`: front, what stands between and block, one behind the other, are the bytes of the message.
use Rattle.std.proofs.Common.{ℕ, ◌≡◌, ◌+◌, ◌∙◌, List, ◌++◌, ap₂, sym, arith, length, drop, length-append, append_assoc}
use Rattle.std.specs.Option.{option_copied}
use Rattle.hellos.specs.Hello.{front_bytes, tail_bytes, between}
use Rattle.layout.proofs.Puts.{copy-behind-front}
use Rattle.hellos.proofs.Hellos.{fronted, length_front, length-body, front-message, front-put}
use Rattle.hellos.proofs.hello.put_all.Goals as goal

pub returns-clause-out_after : goal.returns-clause-out_after
returns-clause-out_after c =
    let a = c.args in
    let random = a.random.now in
    let id = a.session_id.now in
    let out = a.out.now in
    let head : List ℕ = fronted a.kind a.body_len a.version random id in
    let middle : List ℕ = between a.a.now a.b.now a.c.now a.d.now in
    let tail : List ℕ = tail_bytes (option_copied a.block) in
    let long = length_front a.kind a.body_len a.version random id c.requires.0 in
    let one = front-put a.kind a.body_len a.version random id out _ c.requires.0 c.put_front-at.ensures.out_after in
    let two = c.four-next.ensures.out_after ∙ copy-behind-front head middle out _ _ one (c.put_front-at.ensures.value ∙ sym long) in
    let both = length-append head middle in
    let place : c.four-next.result ≡ length (head ++ middle) = omega (arith, c.put_front-at.ensures.value, c.four-next.ensures.value, long, both) in
    let three = c.put_tail.ensures.out_after ∙ copy-behind-front (head ++ middle) tail out _ _ two place in
    let total = length-append (head ++ middle) tail in
    let rest = length-append middle tail in
    let body = length-body a.version random id (middle ++ tail) c.requires.0 in
    let size : a.body_len ≡ length (front_bytes a.version random id (middle ++ tail)) = omega (arith, body, rest, c.requires.2) in
    let whole = append_assoc head middle tail ∙ front-message a.kind a.body_len a.version random id (middle ++ tail) size in
    let end : length ((head ++ middle) ++ tail) ≡ 4 + a.body_len = omega (arith, long, both, total, c.requires.2) in
    three ∙ ap₂ (λ (l : List ℕ) (k : ℕ). l ++ drop k out) whole end
