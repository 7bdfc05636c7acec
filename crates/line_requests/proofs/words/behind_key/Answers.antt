use Rattle.std.proofs.Common.{◌++◌, ◌∙◌, ap, sym}
use Rattle.line_requests.proofs.Keys.{not_there, there_at}
use Rattle.line_requests.proofs.words.behind_key.Goals as goal

pub returns-in-None : goal.returns-in-None
returns-in-None c = not_there _ _ c.in-None.ensures.cases

pub returns-in-Some : goal.returns-in-Some
returns-in-Some c =
    let cut = c.in-Some.ensures.cases in
    there_at c.args.key.now c.args.word.now c.in-Some.text.now (cut.1.1 ∙ ap (λ t. c.args.key.now ++ t) (sym cut.2))
