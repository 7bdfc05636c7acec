use Rattle.std.proofs.Common.{◌≡◌, ℕ, ◌-◌, ◌↔◌, ◌++◌, Bool, false, List, length, take, drop, min, IsTrue, sym, ap, subst, ◌∙◌}
use Rattle.std.proofs.lemmas.List.{drop_min, take_rest}
use Rattle.h2_frames.specs.Stream.{MatchesPreface}
use Rattle.h2_frames.proofs.Prefixes.{MatchesPreface-cut, MatchesPreface-behind, MatchesPreface-join}
use Rattle.h2_frames.proofs.held.BufferedBytes.follows.Goals as goal

-- the first part follows, so that it goes by the second
by_second : (due xs ys all : List ℕ) (n : ℕ) (q : Bool) → all ≡ xs ++ ys → n ≡ min (length xs) (length due) → MatchesPreface due xs → IsTrue q ↔ MatchesPreface (take (length due - n) (drop n due)) ys → IsTrue q ↔ MatchesPreface due all
by_second due xs ys all n q parts cut first second =
    let rest : take (length due - n) (drop n due) ≡ drop (length xs) due = take_rest due n ∙ ap (λ (k : ℕ). drop k due) cut ∙ drop_min (length xs) due in (
      λ t. subst (MatchesPreface due) (sym parts) (MatchesPreface-join due xs ys first (subst (λ (d : List ℕ). MatchesPreface d ys) rest (second.0 t))),
      λ f. second.1 (subst (λ (d : List ℕ). MatchesPreface d ys) (sym rest) (MatchesPreface-behind due xs ys (subst (MatchesPreface due) parts f))),
    )

by_first : (due xs ys all : List ℕ) (p : Bool) → all ≡ xs ++ ys → p ≡ false → IsTrue p ↔ MatchesPreface due xs → IsTrue p ↔ MatchesPreface due all
by_first due xs ys all p parts isnt first =
    (λ t. absurd (never p isnt t), λ f. first.1 (MatchesPreface-cut due xs ys (subst (MatchesPreface due) parts f)))
  where
    never : (p : Bool) → p ≡ false → IsTrue p → ⊥
    never p isnt t = cc

pub returns-then-follows : goal.returns-then-follows
returns-then-follows c =
    let joined = c.as_slice-joined.result.now in
    let piece = c.as_slice.result.now in
    let parts : c.args.self.now ≡ joined ++ piece = sym c.self.view_is ∙ ap (λ (x : List ℕ). x ++ c.self.inside.piece) (sym c.as_slice-joined.ensures) ∙ ap (λ (x : List ℕ). joined ++ x) (sym c.as_slice.ensures) in
    by_second c.args.due.now joined piece c.args.self.now c.min-n.result c.follows-then-follows.result parts c.min-n.ensures (c.follows.ensures.0 c.if-follows.true) c.follows-then-follows.ensures

pub returns-else-follows : goal.returns-else-follows
returns-else-follows c =
    let joined = c.as_slice-joined.result.now in
    let parts : c.args.self.now ≡ joined ++ c.self.inside.piece = sym c.self.view_is ∙ ap (λ (x : List ℕ). x ++ c.self.inside.piece) (sym c.as_slice-joined.ensures) in
    by_first c.args.due.now joined c.self.inside.piece c.args.self.now c.follows.result parts c.if-follows.false c.follows.ensures
