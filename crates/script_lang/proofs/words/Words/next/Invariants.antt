use Rattle.std.proofs.Common.{◌≡◌, length}
use Rattle.std.specs.Prelude.{◌==◌}
use Rattle.std.specs.List.{filter, slice_split}
use Rattle.script_lang.specs.Words.{is_some_text}
use Rattle.script_lang.proofs.words.Words.next.Given as goal

-- the words to come are those of what is left
abbrev pub invariant-pieces : goal.invariant-pieces
invariant-pieces l =
    filter is_some_text (slice_split (λ c. c == 32) l.initial.self-inside.rest.now)
    ≡ filter is_some_text (slice_split (λ c. c == 32) l.self-inside.rest.now)

abbrev pub decreases-pieces : goal.decreases-pieces
decreases-pieces l = length l.self-inside.rest.now
