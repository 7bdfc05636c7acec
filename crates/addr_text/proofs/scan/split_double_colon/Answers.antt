use Rattle.std.proofs.Common.{◌≤◌, ◌+◌, ◌∙◌, ap, take, length, arith}
use Rattle.addr_text.proofs.Scanning.{behind_all, gap_end}
use Rattle.addr_text.proofs.scan.split_double_colon.Goals as goal

pub returns : goal.returns
returns c =
    let text = c.args.text.now in
    let past : length text ≤ c.places.place + 1 = omega arith in
    c.places.invariant ∙ ap (behind_all (take c.places.place text)) (gap_end text c.places.place past)
