use Rattle.std.proofs.Common.{lit<, None, string_bytes}
use Rattle.std.proofs.lemmas.Str.Pattern.{split_once_first}
use Rattle.gribi_words.specs.Given.{said}
use Rattle.gribi_words.proofs.Cuts.{parted_first}
use Rattle.gribi_words.proofs.given.first_option.Goals as goal

pub returns-in-Some-option_of-2-clause-first : goal.returns-in-Some-option_of-2-clause-first
returns-in-Some-option_of-2-clause-first c =
    parted_first string_bytes c.args.word.now c.as_str.result.now c.args.behind.now c.next-item.result _ (said c.in-Some-option_of-2.option) (split_once_first 61 c.args.word.now None c.in-None.ensures.cases (lit< tt)) c.in-len1-up.len_at_least c.as_str.ensures.value c.next-item.is c.in-Some-option_of-2.ensures
