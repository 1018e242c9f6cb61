use Rattle.std.proofs.Common.{◌≡◌, ◌-◌}
use Rattle.formats.specs.Words.{words, word_at}
use Rattle.format_writers.proofs.word.Given as goal

-- the word looked for is one of those that are left
abbrev pub invariant-loop-before : goal.invariant-loop-before
invariant-loop-before l = word_at (words l.rest) (l.index - l._before) ≡ word_at (words l.table) l.index
