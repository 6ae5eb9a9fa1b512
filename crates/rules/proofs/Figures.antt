-- The starred lines of document 01's "Worked figures", together, under one statement; words at fault (A2); and the table of the
-- systems, computed from the blocks.
-- Assumes nothing.
use mathlib.Core.Path.{◌≡◌, refl}
use mathlib.Core.Bool.{true}
use Rattle.rules.specs.Systems.{known, system, stands, allowed}
use Rattle.rules.specs.Packet.{parity, word, check, coded, check_of, words}
use Rattle.rules.specs.Danc.{header, danc}
use Rattle.rules.specs.Sheet.{limit}
use Rattle.rules.specs.Blocks.{block_start, shift, width, runs}
use Rattle.rules.specs.Packing1.{packs}
use Rattle.rules.specs.Packings.{user_bytes, capacity, most_packs}
use Rattle.rules.specs.Laying.{
  is_word,
  words_fault,
  word_row,
  packets_of_words,
  flag_word,
  word_at,
  judged,
  shaped,
  list_tests,
  sheet_tests,
}
use Rattle.rules.specs.Lister.{tested}
use Rattle.rules.specs.Figures.{agree, starred, lister, faults, picture_lines, word_rates, systems}

pub starred-agree : agree starred ≡ true
unfolding starred parity word check coded check_of words header danc packs user_bytes system block_start shift width runs
starred-agree = refl

pub lister-agree : agree lister ≡ true
unfolding lister
lister-agree = refl

pub faults-agree : agree faults ≡ true
unfolding faults parity word check coded check_of words is_word words_fault flag_word word_at judged
    word_row packets_of_words shaped list_tests sheet_tests tested limit known system stands allowed
faults-agree = refl

pub pictures-agree : agree picture_lines ≡ true
unfolding picture_lines parity word check coded check_of words is_word words_fault word_at
    word_row packets_of_words shaped list_tests sheet_tests tested limit known system stands allowed
pictures-agree = refl

-- 41 lines of 1080, 28 of 720, by computation
pub rates-agree : agree word_rates ≡ true
unfolding word_rates system stands allowed
rates-agree = refl

pub systems-agree : agree systems ≡ true
unfolding systems system block_start shift width runs capacity most_packs
systems-agree = refl
