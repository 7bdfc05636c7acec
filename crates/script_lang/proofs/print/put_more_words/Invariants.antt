use Rattle.std.proofs.Common.{◌≡◌, ◌++◌, length, string_bytes}
use Rattle.script_lang.specs.Printed.{spaced}
use Rattle.script_lang.proofs.print.put_more_words.Given as goal

abbrev pub invariant-words : goal.invariant-words
invariant-words l = string_bytes l.out ++ spaced l.words ≡ string_bytes l.initial.out ++ spaced l.initial.words

abbrev pub decreases-words : goal.decreases-words
decreases-words l = length l.words
