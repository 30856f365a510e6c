use Rattle.std.proofs.Common.{map, take}
use Rattle.plx_words.specs.Written.{AddsWords, piece_of}
use Rattle.plx_words.proofs.text.Text.words.Given as goal

-- the words before this one were appended
abbrev pub invariant-loop-word : goal.invariant-loop-word
invariant-loop-word l = AddsWords l.initial.self l.self (map piece_of (take l.word-index l.words))
