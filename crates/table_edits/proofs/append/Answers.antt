-- `table_edits::append`: the count is that of the lines, so a full table, a short memory and a short list are told from the sizes; else the line stands
-- behind the table, and its start, the table's length, behind the list.
use Rattle.std.proofs.Common.{rules, arith, refl, ◌≡◌, ◌∙◌, sym, ap, true, Ok, Err, ℕ, List, [], ◌∷◌, ◌++◌, ◌+◌, ◌*◌, ◌≤◌, ◌<◌, length, take, drop, length-take-le}
use borrow.Author.Tests.{lt-leb}
use Rattle.refusal.specs.declared.Refusal.TheVariants.{ShortOutput}
use Rattle.refusal.specs.Lent.{gives, refuses}
use Rattle.keytable.specs.Table.{lines, joined, ended}
use Rattle.keytable.specs.Starts.{starts_of}
use Rattle.keytable.proofs.Listed.{count-lines}
use Rattle.table_edits.specs.Edits.{add, lines_after, roomed, sized}
use Rattle.table_edits.specs.Inner.{bounded, size_judged, OwnList, Unbroken}
use Rattle.table_edits.proofs.Writing.{line-appended}
use Rattle.table_edits.proofs.Starts.{start-appended}
use Rattle.table_edits.proofs.Both.{both-kept, both-refused, both-wrote, roomed-fits, roomed-refused}
use Rattle.table_edits.proofs.Outcomes.{sized-lines, sized-bounded, size-refused, size-good, answered}
use Rattle.table_edits.proofs.Outcomes.{added-lines, added-text, added-length, added-list}
use Rattle.table_edits.proofs.append.Goals as goal

-- the lines that there are to be, how many they are, and their text's length
module _ (memory : List ℕ) (n : ℕ) (starts : List ℕ) (count : ℕ) (identity key : List ℕ) where
  abbrev table : List ℕ
  table = take n memory

  abbrev new-lines : List (List ℕ)
  new-lines = lines_after (add identity key) (lines table)

  abbrev text : List ℕ
  text = joined new-lines

  abbrev end : ℕ
  end = n + length identity + 2 * length key + 2

  module _ (own : OwnList table starts count) where
    one_more : length new-lines ≡ count + 1
    one_more =
        let size = length-take-le count starts own.0 in
        omega (arith, added-lines table identity key, ap length own.1, count-lines 0 (lines table))

    -- where the lines are few enough, the size decides
    size-decides : count < 256 → sized new-lines ≡ bounded text
    size-decides few = sized-bounded text new-lines refl (omega (arith, one_more))

  module _ (inside : n ≤ length memory) (ends : ended table ≡ true) where
    new-length : length text ≡ end
    new-length = added-length table identity key ends ∙ rw (length-take-le n memory inside)

    new-list : Unbroken new-lines → starts_of text ≡ starts_of table ++ (n ∷ [])
    new-list whole = added-list table identity key ends whole ∙ ap (λ (m : ℕ). starts_of table ++ (m ∷ [])) (length-take-le n memory inside)

    -- and was found small enough
    fits : size_judged end (length memory) ≡ Ok tt → (bounded text ≡ gives text) × (end ≤ length memory)
    fits good = size-good text memory end new-length good

  lines_then : Unbroken new-lines → OwnList table starts count → length (lines text) ≡ count + 1
  lines_then whole own = ap length whole ∙ one_more own

pub returns-then-lines-ge256 : goal.returns-then-lines-ge256
returns-then-lines-ge256 c =
    let a = c.args in
    let more = one_more a.memory.now a.length a.starts.now a.count.now a.identity.now a.key.now c.requires.own_list in
    let many = new-lines a.memory.now a.length a.starts.now a.count.now a.identity.now a.key.now in
    rw (sized-lines many (omega (arith, more))) (both-kept a.memory.now a.starts.now a.count.now _)

pub returns-in_err-judge_size : goal.returns-in_err-judge_size
returns-in_err-judge_size c =
    let a = c.args in
    let r = c.requires in
    let told : c.from_residual.result ≡ Err c.in_err-judge_size.field-0.0 = search rules in
    let t = text a.memory.now a.length a.starts.now a.count.now a.identity.now a.key.now in
    let size = new-length a.memory.now a.length a.starts.now a.count.now a.identity.now a.key.now r.length_len_bound r.memory_value in
    let decides = size-decides a.memory.now a.length a.starts.now a.count.now a.identity.now a.key.now r.own_list (omega arith) in
    rw (told, decides)
    (both-refused a.memory.now a.starts.now a.count.now _ _ _ a.memory.now refl
    (roomed-refused (bounded t) (length a.starts.now) _ a.memory.now
    (size-refused t a.memory.now _ size _ (sym c.judge_size.ensures ∙ c.in_err-judge_size.was))))

pub returns-then-starts-lines : goal.returns-then-starts-lines
returns-then-starts-lines c =
    let a = c.args in
    let r = c.requires in
    let t = text a.memory.now a.length a.starts.now a.count.now a.identity.now a.key.now in
    let decides = size-decides a.memory.now a.length a.starts.now a.count.now a.identity.now a.key.now r.own_list (omega arith) in
    let fit = fits a.memory.now a.length a.starts.now a.count.now a.identity.now a.key.now r.length_len_bound r.memory_value (sym c.judge_size.ensures ∙ c.in_ok-judge_size.was) in
    let many = lines_then a.memory.now a.length a.starts.now a.count.now a.identity.now a.key.now r.unbroken r.own_list in
    let short : roomed (length a.starts.now) (gives t) ≡ refuses ShortOutput = rw (lt-leb (length (lines t)) (length a.starts.now) (omega (arith, c.if-starts-lines.true, many))) in
    rw (ap (roomed (length a.starts.now)) (decides ∙ fit.0) ∙ short) (both-kept a.memory.now a.starts.now a.count.now _)

pub returns : goal.returns
returns c =
    let a = c.args in
    let r = c.requires in
    let memory = a.memory.now in
    let starts = a.starts.now in
    let own = table memory a.length starts a.count.now a.identity.now a.key.now in
    let t = text memory a.length starts a.count.now a.identity.now a.key.now in
    let past = a.length + length a.identity.now + 2 * length a.key.now + 2 in
    let size = new-length memory a.length starts a.count.now a.identity.now a.key.now r.length_len_bound r.memory_value in
    let decides = size-decides memory a.length starts a.count.now a.identity.now a.key.now r.own_list (omega arith) in
    let fit = fits memory a.length starts a.count.now a.identity.now a.key.now r.length_len_bound r.memory_value (sym c.judge_size.ensures ∙ c.in_ok-judge_size.was) in
    let many = lines_then memory a.length starts a.count.now a.identity.now a.key.now r.unbroken r.own_list in
    let list = new-list memory a.length starts a.count.now a.identity.now a.key.now r.length_len_bound r.memory_value r.unbroken in
    let line : List ℕ = c.put_line.new.out in
    let left = c.if-starts-lines.false in
    let written : own ++ line ≡ t =
    ap (λ (l : List ℕ). own ++ l) c.put_line.ensures ∙ sym (added-text own a.identity.now a.key.now r.memory_value) in
    rw (ap (roomed (length starts)) (decides ∙ fit.0) ∙ roomed-fits (length starts) t (omega (arith, many)))
    (both-wrote memory starts a.count.now t _ _ _ past
    (start-appended starts (starts_of own) a.count.now r.own_list.1 a.length (starts_of t) (omega arith) list)
    (sym many)
    (answered t memory _ past size fit.1
    (line-appended memory line a.length past (omega arith) ∙ ap (λ (r : List ℕ). r ++ drop past memory) written)))
