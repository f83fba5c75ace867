-- The three demands are met.
-- Assumes nothing.
use mathlib.Core.Path.{refl, sym, ap, ◌∙◌}
use mathlib.Core.Bool.{Bool}
use mathlib.Core.List.{List, ◌∷◌}
use native.Mathlib.Nat.{zero-add}
use native.Mathlib.Omega.{arith}
use lib.ListN.{length}
use Rattle.answers.proofs.Determined.{one-content}
use Rattle.answers.proofs.Task as t
use Rattle.links.specs.Patterns.{patterns, tails, clocks_in, flags_at, total}
use Rattle.links.specs.Rows.{rows, row_of}
use Rattle.links.specs.Sizes.{passed_on, tail_bits, image_length}
use Rattle.links.proofs.Facts.{sizes}
use Rattle.links.proofs.Good.{good}
use Rattle.links.proofs.GoodFlags.{pattern, clock-at}
use Rattle.turbo.proofs.Permutation.{position-in_range, position_injective, position_onto}
use Rattle.turbo.proofs.Weave.{clock-passes, parity-alone}
use Rattle.words.proofs.Apart.{apart}
use Rattle.words.proofs.Exact.{near_found, found_near, refused_far, far_refused}
use Rattle.words.proofs.Ways as w
use Rattle.blocks.specs.Calls.{block_task}
use Rattle.blocks.proofs.Exact as exact
use Rattle.blocks.proofs.WaysOfReading as rb
use Rattle.slots.specs.Calls.{slot_task}
use Rattle.slots.proofs.WaysOfReading as rs
use Rattle.parts.specs.State.{heard}
use Rattle.parts.proofs.Hearing.{slot_sizes, longest_7}
use Rattle.messages.proofs.Stepping.{step-goes, answer-inside, lie_exact, lie-inside, none_missing, spoilt_exact, finished_exact, found_exact}
use Rattle.messages.proofs.Tiling.{walks_tile, walks_fill}
use Rattle.messages.proofs.Walk.{walk_ends, walks_one}
use Rattle.claims.specs.Demand1.{Demand1}
use Rattle.claims.specs.Demand2.{Demand2}
use Rattle.claims.specs.Demand3.{Demand3}
use Rattle.claims.proofs.Blocks as blocks
use Rattle.claims.proofs.Endings.{word-ends, task_ends, wrote_none, behind, determined}
use Rattle.claims.proofs.Laying as laying
use Rattle.claims.proofs.Laying.{message-ends, fill_ends, refused_none, around}
use Rattle.claims.proofs.Lines.{one_number}
use Rattle.claims.proofs.Messages as messages
use Rattle.claims.proofs.Numbers.{writes_word, reads_word, writes_task, reads-block, reads-slot, steps}
use Rattle.claims.proofs.Parts as parts
use Rattle.claims.proofs.Several as several
use Rattle.claims.proofs.Slots as slots
use Rattle.claims.proofs.Words as words
use Rattle.claims.proofs.Writing as writing

pub demand1 : Demand1
demand1 = record {
  one_number = one_number;
  write_word-number = λ n old new answer wr. writes_word n old new answer wr (w.writing-goes n (length old));
  read_word-number = λ row answer e. reads_word row answer e (w.reading-goes row);
  write_block-number = λ link datagram old new answer wr. writes_task (block_task link datagram) old new answer wr (t.writing-goes (block_task link datagram) (length old));
  read_block-number = λ link bits old new answer wr. reads-block link bits old new answer wr (rb.reading-goes link bits (length old));
  write_slot-number = λ link datagram old new answer wr. writes_task (slot_task link datagram) old new answer wr (t.writing-goes (slot_task link datagram) (length old));
  read_slot-number = λ burst old new answer wr. reads-slot burst old new answer wr (rs.reading-goes burst (length old));
  read-parts-number = λ before after old new answer asked. reads-slot (heard before) old new answer asked.reads (rs.reading-goes (heard before) (length old));
  step-number = λ datagram position answer e. steps datagram position answer e (step-goes datagram position);
  write_message-number = writing.message-number;
  zero_fill-number = writing.fill_number;
  write_word-refused = λ n old new answer wr. wrote_none (word-ends n (length old)) wr;
  read_word-refused = words.refused;
  write_block-refused = λ link datagram old new answer wr. wrote_none (task_ends (block_task link datagram) (length old)) wr;
  read_block-refused = blocks.refused;
  write_slot-refused = λ link datagram old new answer wr. wrote_none (task_ends (slot_task link datagram) (length old)) wr;
  read_slot-refused = slots.refused;
  read-parts-refused = λ before after old new answer asked. slots.refused (heard before) old new answer asked.reads;
  step-refused = messages.refused;
  write_message-refused = λ start type source body old new answer wr. refused_none (message-ends start type source body (length old)) wr;
  zero_fill-refused = λ start old new answer wr. refused_none (fill_ends start (length old)) wr;
  write_word-behind = λ n old new answer wr. behind (word-ends n (length old)) wr;
  write_block-behind = λ link datagram old new answer wr. behind (task_ends (block_task link datagram) (length old)) wr;
  read_block-behind = λ link bits old new answer wr. behind (blocks.ends link bits (length old)) wr;
  write_slot-behind = λ link datagram old new answer wr. behind (task_ends (slot_task link datagram) (length old)) wr;
  read_slot-behind = λ burst old new answer wr. behind (slots.ends burst (length old)) wr;
  read-parts-behind = λ before after old new answer asked. behind (slots.ends (heard before) (length old)) asked.reads;
  write_message_around = λ start type source body old new answer wr. around (message-ends start type source body (length old)) refl wr;
  zero_fill_around = λ start old new answer wr. around (fill_ends start (length old)) refl wr;
  write_word_determined = λ n old old' new new' answer answer' l wr wr'. determined (word-ends n (length old)) wr (rw (← l) at wr');
  read_word_determined = λ row answer answer' e f. e ∙ sym f;
  write_block_determined = λ link datagram old old' new new' answer answer' l wr wr'. determined (task_ends (block_task link datagram) (length old)) wr (rw (← l) at wr');
  read_block_determined = λ link bits old old' new new' answer answer' l wr wr'. determined (blocks.ends link bits (length old)) wr (rw (← l) at wr');
  write_slot_determined = λ link datagram old old' new new' answer answer' l wr wr'. determined (task_ends (slot_task link datagram) (length old)) wr (rw (← l) at wr');
  read_slot_determined = λ burst old old' new new' answer answer' l wr wr'. determined (slots.ends burst (length old)) wr (rw (← l) at wr');
  take_part_determined = λ part before after after' e f. e ∙ sym f;
  read-parts_determined = λ before after after' old old' new new' answer answer' l asked asked'.
      let same = determined (slots.ends (heard before) (length old)) asked.reads (rw (← l) at asked'.reads) in
      (same.0, same.1, asked.leaves ∙ sym asked'.leaves);
  step_determined = λ datagram position answer answer' e f. e ∙ sym f;
  text_determined = λ input answer answer' e f. e ∙ sym f;
  write_message_determined = λ start type source body old old' new new' answer answer' l wr wr'.
      laying.determined (message-ends start type source body (length old)) refl (sym l) wr (rw (← l) at wr');
  zero_fill_determined = λ start old old' new new' answer answer' l wr wr'. laying.determined (fill_ends start (length old)) refl (sym l) wr (rw (← l) at wr');
  write_word-content = λ n old new new' answer answer' wr wr'. one-content wr wr';
  write_block-content = λ link datagram old new new' answer answer' wr wr'. one-content wr wr';
  read_block-content = λ link bits old new new' answer answer' wr wr'. one-content wr wr';
  write_slot-content = λ link datagram old new new' answer answer' wr wr'. one-content wr wr';
  read_slot-content = λ burst old new new' answer answer' wr wr'. one-content wr wr';
  read-parts-content = λ before after after' old new new' answer answer' asked asked'. one-content asked.reads asked'.reads;
  write_message-content = λ start type source body old new new' answer answer' wr wr'. one-content wr wr';
  zero_fill-content = λ start old new new' answer answer' wr wr'. one-content wr wr';
}

pub demand2 : Demand2
unfolding rows patterns tails clocks_in flags_at total passed_on tail_bits image_length
demand2 = record {
  links = refl;
  words_written = λ n old new answer h room wr. words.written n old new answer wr h room;
  blocks_written = blocks.written;
  slots_written = slots.written;
  interleaver_within = λ link o. position-in_range (row_of link) (good link o);
  interleaver_once = λ link o. position_injective (row_of link) (good link o);
  interleaver_onto = λ link o. position_onto (row_of link) (good link o);
  block_product = λ link o. (sizes (row_of link) (good link o)).product;
  image_lengths = refl;
  x_once = λ link o s. let clock = clock-at _ (pattern (row_of link) (good link o)) s in (clock.x, clock.x');
  x_passes = λ link o s a b x y.
      let clock = clock-at _ (pattern (row_of link) (good link o)) s in
      clock-passes _ clock a b x y ∙ ap (λ (passed : List Bool). x ∷ passed) (parity-alone _ clock a b x y);
  words_back = λ n old new written wr z answer e. e ∙ words.back n old new written wr z;
  blocks_back = blocks.back;
  slots_back = slots.back;
  blocks_full = blocks.full;
  slots_full = slots.full;
  parts-longest = (λ link slot. (slot_sizes link slot).1, longest_7);
  parts-kept = parts.kept;
  parts_whole = parts.whole;
  parts_cutting = parts.cutting;
  parts-fresh = λ before after old new answer asked. asked.leaves;
  parts_forged = parts.forged;
  parts_forged_on = parts.forged_on;
  step-inside = λ datagram position answer e. rw e (answer-inside datagram position);
  message-found = λ datagram position answer e. rw e (found_exact datagram position);
  step-finished = λ datagram position answer e. rw e (finished_exact datagram position);
  step_spoilt = λ datagram position answer e. rw e (spoilt_exact datagram position);
  step-lie = λ datagram position answer e. rw e (lie_exact datagram position);
  step_missing = λ datagram position answer e. rw e (none_missing datagram position);
  lie-inside = λ datagram position answer e. rw e (lie-inside datagram position);
  lie-refused = λ datagram size position start passed begins lie answer e. e ∙ messages.lie-refused datagram size position start passed begins lie;
  walk_ends = walk_ends;
  walk_determined = λ datagram found found' last last' w v. walks_one datagram w v;
  walk-tiles = λ datagram found last w. walks_tile datagram (omega arith) w;
  walk-count = messages.walk-count;
  walk_fill = λ datagram found w. walks_fill datagram (omega arith) w;
  walk-lie = messages.walk-lie;
  walk-bytes = messages.walk-bytes;
  messages_written = λ start type source body old new answer z f s room wr. writing.written start type source body old new answer wr z f s room;
  zeros_written = λ start old new answer inside wr. writing.filled_in start old new answer wr inside;
  message_stepped = writing.steps_back;
  message_places = writing.places;
  list-laid = λ messages ok old room. rw zero-add at (several.list-laid messages ok 0 old (rw zero-add room));
  list-bytes = several.list-bytes;
  list_stepped = several.list_stepped;
  list_places = several.list_places;
}

pub demand3 : Demand3
demand3 = record {
  block_mended = λ link datagram old new written bytes wr z place h old' new' answer room. blocks.mended link datagram old new written bytes wr z old' new' answer room place h;
  word_mended = λ n h row size within answer e. e ∙ words.mended n h row size within;
  slot_mended = slots.mended;
  words_apart = apart;
  blocks_apart = λ link o. exact.blocks_apart (row_of link) (good link o);
  images_apart = λ link o. exact.images_apart (row_of link) (good link o);
  block_exact = blocks.exact;
  block_none = blocks.none_near;
  valid_written = blocks.valid_written;
  block_only_one = λ link o. exact.only_one (row_of link) (good link o);
  block-answered = blocks.answered;
  over-12 = blocks.over-12;
  word_exact = λ row size answer e n wrong. rw e (found_near row size n wrong, near_found row size n wrong);
  word_none = λ row size answer e. rw e (refused_far row size, far_refused row size);
  word_nine = λ row size agrees nine answer e. e ∙ words.nine row size agrees nine;
  word_only_one = words.only_one;
  slot_exact = slots.exact;
  slot_only_one = slots.only_one;
  slot-answered = λ came link wordWrong u n old new answer room wr. slots.answered came old new answer wr link wordWrong u n room;
  training-counted = slots.training-counted;
  training-refused = slots.training-refused;
  parts_mended = λ link datagram old new written bytes wr z came size trained word block old' new' answer room c.
      slots.mended link datagram old new written bytes wr z came size trained word block old' new' answer room (parts.read _ old' new' answer c);
  parts_exact = λ came old new answer c. slots.exact came old new answer (parts.read _ old new answer c);
  parts-answered = λ came link wordWrong u n old new answer room c. slots.answered came old new answer (parts.read _ old new answer c) link wordWrong u n room;
  parts-training-counted = λ burst old new answer c. slots.training-counted burst old new answer (parts.read burst old new answer c);
  parts-training-refused = λ burst old new answer c. slots.training-refused burst old new answer (parts.read burst old new answer c);
}
