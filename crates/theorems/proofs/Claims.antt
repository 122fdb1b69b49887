-- Every claim, by the theorem that proves it.
-- Assumes nothing.
use mathlib.Core.Path.{refl}
use Rattle.refusal.proofs.Laws.{refusal-keeps, answer-keeps-rest, short-exactly}
use Rattle.endian.proofs.Numbers.{be-injective, number-injective}
use Rattle.endian.proofs.Vectors.{split-vector, split-none, split-writable, vector-injective}
use Rattle.sha256.proofs.Padding.{zeros-fill, zeros-least}
use Rattle.sha256.specs.State.{absorb, fresh}
use Rattle.sha256.specs.Report.{blocks_of}
use Rattle.sha256.proofs.Finish.{finish-absorbed}
use Rattle.sha256.proofs.Counting.{compressed-absorbed}
use Rattle.keys.proofs.Counting.{master-counts}
use Rattle.utf8.proofs.Ranges.{valid-text}
use Rattle.extensions.proofs.Blocks.{by-types, ticket-numbered}
use Rattle.hellos.proofs.ClientHellos.{client-inverse}
use Rattle.hellos.proofs.ServerHellos.{server-inverse}
use Rattle.messages.proofs.KeyExchanges.{vector-inverse}
use Rattle.messages.proofs.FixedMessages.{fixed-inverse}
use Rattle.messages.proofs.NewSessionTickets.{ticket-inverse}
use Rattle.keytable.proofs.Agreement.{sound, complete}
use Rattle.keytable.proofs.Lookups.{lookup-exact, malformed-unlisted}
use Rattle.keytable.proofs.Laws.{removable, removed-had}
use Rattle.keytable.proofs.Listed.{lines-there, looked-up-own}
use Rattle.table_edits.proofs.Lists.{starts-added, starts-replaced, starts-retired}
use Rattle.table_edits.proofs.Digits.{lower_only}
use Rattle.table_edits.proofs.Laws.{edit-formed, edit-others, edit-key, edit-else, listed_found_lem, retire-removes, added-last}
use Rattle.table_edits.proofs.Laws.{retire-added, replaced-in-place, replace-twice}
use Rattle.saved.proofs.Saving.{cleared-closed}
use Rattle.c_interface.proofs.Apart.{codes-apart}
use Rattle.theorems.specs.Claims.{Claims}
use Rattle.theorems.proofs.Over.{over-stays}
use Rattle.theorems.proofs.Rules.{rules-apply}
use Rattle.theorems.proofs.Suites.{suites-in-order}
use Rattle.theorems.proofs.Handed.{handed-once}
use Rattle.theorems.proofs.Numbers.{label-texts, numbers-in-c}
use Rattle.theorems.proofs.Sameness.{sameness, sameness-of-lookups}
use Rattle.theorems.proofs.Completion.{completes-exactly}
use Rattle.theorems.proofs.FromC.{sameness-from-c, completes-exactly-from-c}
use Rattle.theorems.proofs.Starts.{list-is-own, made-list-matches, edited-alike, edited-list}
use Rattle.theorems.proofs.Worked as Worked

pub claims : Claims
claims =
    record {
      refusal_keeps = refusal-keeps;
      answer_keeps_rest = answer-keeps-rest;
      short_exactly = short-exactly;
      codes_apart = codes-apart;
      numbers_in_c = numbers-in-c;
      over_stays = over-stays;
      cleared_closed = cleared-closed;
      hashed_in_parts = finish-absorbed;
      padding_fills = zeros-fill;
      padding_least = zeros-least;
      label_texts = label-texts;
      numbers_apart = be-injective;
      bytes_apart = number-injective;
      vector_read = split-vector;
      vector_cut = split-none;
      vector_stated = split-writable;
      vectors_apart = vector-injective;
      client_hello_inverse = client-inverse;
      server_hello_inverse = server-inverse;
      server_key_exchange_inverse = vector-inverse 12;
      server_hello_done_inverse = fixed-inverse 14 0;
      client_key_exchange_inverse = vector-inverse 16;
      finished_inverse = fixed-inverse 20 12;
      new_session_ticket_inverse = ticket-inverse;
      block_by_types = by-types;
      ticket_extension_read = ticket-numbered;
      utf8_twice = valid-text;
      tested_soundly = sound;
      tested_completely = complete;
      lookup_exact = lookup-exact;
      malformed_unlisted = malformed-unlisted;
      line_removable = removable;
      removed_had = removed-had;
      lines_at_starts = lines-there;
      list_is_own = list-is-own;
      made_list_matches = made-list-matches;
      lookup_by_list = looked-up-own;
      edit_formed = edit-formed;
      edit_others = edit-others;
      edit_key = edit-key;
      edit_else = edit-else;
      key_lower_case = lower_only;
      added_last = added-last;
      replaced_in_place = replaced-in-place;
      retire_removes = retire-removes;
      retire_undoes_add = retire-added;
      replace_twice = replace-twice;
      listed_found = listed_found_lem;
      edited_alike = edited-alike;
      edited_list = edited-list;
      added_start = starts-added;
      replaced_starts = starts-replaced;
      retired_starts = starts-retired;
      worked = Worked.worked;
      suites_in_order = suites-in-order;
      master_handed = λ flight next. refl;
      master_handed_once = λ v c m. handed-once c.phase _;
      master_counts = λ key client server some. master-counts key client server;
      digest_counts = λ m few. unfold blocks_of in compressed-absorbed (absorb fresh m) m refl few;
      rules_apply = rules-apply;
      sameness = sameness;
      sameness_of_lookups = sameness-of-lookups;
      completes_exactly = completes-exactly;
      sameness_from_c = sameness-from-c;
      completes_exactly_from_c = completes-exactly-from-c;
    }
