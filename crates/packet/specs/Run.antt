-- What a pass over the words of a packet finds, in the terms of the rules.
-- Assumes nothing.
use Rattle.std.specs.Prelude.{ℕ, zero, suc, ◌+◌, ◌-◌, ◌*◌, ◌/◌, ◌%◌, ◌≤◌, ◌≡◌, true, List, [], ◌∷◌, length, take, drop}
use Rattle.rules.specs.Packet.{word, sum9}
use Rattle.rules.specs.Laying.{are_words, dc_in}
use Rattle.packet.specs.declared.Pass.{Pass}
use Rattle.packet.specs.declared.Run.{Run}

-- whether each is the word of its low byte, and the whole sum of their low nine bits
abbrev pub pass_of : List ℕ → Pass
pass_of ws = record { words = are_words ws; sum = sum9 ws }

-- whether each is the word of its low byte, and the sum of their low nine bits modulo 512
abbrev pub run_of : List ℕ → Run
run_of ws = record { words = are_words ws; sum = sum9 ws % 512 }

-- the CS that holds a sum of low nine bits: `check ws` is `check_sum (sum9 ws)`
abbrev pub check_sum : ℕ → ℕ
check_sum n = n % 512 + 512 * (1 - n % 512 / 256)

-- the words of n bytes from b on
abbrev pub words_from : ℕ → ℕ → List ℕ
words_from b zero = []
words_from b (suc n) = word b ∷ words_from (suc b) n

-- the words of all bytes
unfoldable pub word_table : List ℕ
word_table = words_from 0 256

-- what a pass by a table may say: with the right table, whether each is the word of its low byte; and if it says so, their sum
pub record Passed (table ws : List ℕ) (r : Pass) : Type 0 where
  pub words : table ≡ word_table → r.words ≡ are_words ws
  pub sum : r.words ≡ true → r.sum ≡ sum9 ws

-- how many words the packet in front takes, DC + 7, as far as there are so many: it is these, and the others stand behind it
pub record SizeOf (s : List ℕ) (n : ℕ) : Type 0 where
  pub within : n ≤ length s
  pub front : take n s ≡ take (dc_in s + 7) s
  pub behind : drop n s ≡ drop (dc_in s + 7) s
