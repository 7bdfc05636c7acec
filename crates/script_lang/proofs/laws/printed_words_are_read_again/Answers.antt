use Rattle.script_lang.proofs.WordsAgain.{words_again}
use Rattle.script_lang.proofs.laws.printed_words_are_read_again.Goals as goal

pub returns : goal.returns
returns c = words_again
