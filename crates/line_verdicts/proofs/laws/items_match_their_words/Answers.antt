use Rattle.line_verdicts.specs.Seen.{seen_words}
use Rattle.line_verdicts.proofs.SameWords.{same_words-refl}
use Rattle.line_verdicts.proofs.laws.items_match_their_words.Goals as goal

pub returns : goal.returns
returns c item = same_words-refl (seen_words item)
