use Rattle.std.proofs.Common.{map, string_bytes}
use Rattle.gribi_words.specs.Given.{said}
use Rattle.gribi_words.proofs.Cuts.{more, stops, ends, with_one}
use Rattle.gribi_words.proofs.given.options.Goals as goal

pub returns-in_default-first_option : goal.returns-in_default-first_option
returns-in_default-first_option c =
    stops string_bytes c.words.left.now c.as_str.result.now c.word-item.result _ _ (map said c.words.given.items) c.in-len1-up.len_at_least c.as_str.ensures.value c.word-item.is c.in_default-first_option.ensures.first c.words.invariant

pub words-preserved : goal.words-preserved
words-preserved c =
    let next = more string_bytes c.words.left.now c.in-Some.others.now c.as_str.result.now c.word-item.result _ _ (map said c.words.given.items) (said c.in-Some.option) c.in-len1-up.len_at_least c.as_str.ensures.value c.word-item.is c.in-Some.ensures.first c.words.invariant in
    with_one said _ _ c.words.given.items c.push.new.self.items c.in-Some.option c.in_ok-push.ensures.items next

pub returns : goal.returns
returns c = ends string_bytes c.words.left.now _ (map said c.words.given.items) c.in_default.len_below c.words.invariant
