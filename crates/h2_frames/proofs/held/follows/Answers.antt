use Rattle.std.proofs.Common.{◌≡◌, ℕ, List, take, length, min, sym, ap, ◌∙◌, arith}
use Rattle.std.proofs.lemmas.List.{take_min}
use Rattle.std.proofs.lemmas.Slice.Eq.{bytes_eq-Decides}
use Rattle.h2_frames.proofs.held.follows.Goals as goal

turned : (m n : ℕ) → min m n ≡ min n m
turned m n = omega arith

-- both cut at the shorter length
cut : (due bytes : List ℕ) (n : ℕ) → n ≡ min (length bytes) (length due) → (take n bytes ≡ take (length due) bytes) × (take n due ≡ take (length bytes) due)
cut due bytes n is =
    (ap (λ (k : ℕ). take k bytes) (is ∙ turned (length bytes) (length due)) ∙ take_min (length due) bytes, ap (λ (k : ℕ). take k due) is ∙ take_min (length bytes) due)

pub returns : goal.returns
returns c =
    let due = c.args.due.now in
    let bytes = c.args.bytes.now in
    let d = bytes_eq-Decides (take c.min-n.result bytes) (take c.min-n.result due) in
    let s = cut due bytes c.min-n.result c.min-n.ensures in
    (λ t. sym s.0 ∙ d.0 (sym c.eq.ensures ∙ t) ∙ s.1, λ e. c.eq.ensures ∙ d.1 (s.0 ∙ e ∙ sym s.1))
