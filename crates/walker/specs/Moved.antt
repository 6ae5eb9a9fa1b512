-- "The walker keeps the lent string and its place in it": a walker as it starts, its answer, and the walker after its step.
-- Assumes nothing.
use Rattle.std.specs.Prelude.{ℕ, zero, suc, ◌+◌, List}
use Rattle.std.specs.Borrow.{Bor}
use Rattle.rules.specs.Walker.{walk}
use Rattle.rules.specs.declared.Step.{Step}
use Rattle.walker.specs.declared.Walker.{Walker}
use Rattle.walker.specs.declared.Walked.{Walked}

-- "It takes the string without fill and the system". "It starts at place 0"
abbrev pub started : ℕ → Bor (List ℕ) → Walker
started sys s = record { system = sys; string = s; at = record { 0 = 0 } }

-- "Each step gives the next packet's place and length, the string's end, or 14, 15 or 16"
abbrev pub answered : Walker → Step
answered w = walk w.system w.string.now w.at.0

-- one step from a place: the answer, and where the walker then stands. "After the end or a refusal the place stays": only a packet has a
-- length
abbrev pub walked_on : ℕ → List ℕ → ℕ → Walked
walked_on sys s at = record { answer = walk sys s at; at = record { 0 = at + (walk sys s at).length } }

-- the same walker, its place moved by the length of its answer
abbrev pub moved : Walker → Walker
moved w = record { system = w.system; string = w.string; at = (walked_on w.system w.string.now w.at.0).at }

-- a walker after k steps
abbrev pub moved_times : ℕ → Walker → Walker
moved_times zero w = w
moved_times (suc k) w = moved (moved_times k w)
