-- A round, turn by turn.
use Rattle.std.proofs.Common.{◌≡◌, ℕ, zero, suc, ◌+◌, ◌-◌, ◌<◌, ◌≤◌, List, [], ◌∷◌, ◌++◌, length, take, drop, refl, sym, ap, ◌∙◌, subst, arith, slice_index_or, slice_set, swap_remove}
use Rattle.std.proofs.lemmas.List.{append-nil, append_assoc, take-take, take-set, take_all, take_more, take_more_set, drop_all, drop_more, drop-take, drop-set, drop-set-lt, get_or-drop, get_or_default, get_or-set_same, length_push, length-set}
use Rattle.std.proofs.lemmas.List.Sorted.{IsPermutation-refl, IsPermutation-to_front, IsPermutation-append_right, IsPermutation-cons, IsPermutation-trans}
use Rattle.std.specs.List.Sorted.{IsPermutation}
use Rattle.reactor.specs.declared.turning.Turned.{Turned}
use Rattle.reactor.specs.declared.turning.Turned.TheVariants.{Progress, Idle, Over}
use Rattle.reactor.specs.Turns.{AreTurns, HaveGone, IsRound, IsTurnAt, ReactorItems, TurnOf, befores, if_over, now_over, progress_of, progressed_in, still_live, unless_over}

module _ {T : Type 0} where
  -- ---- one more turn

  befores_more : (ts : List (TurnOf T)) (t : TurnOf T) → befores (ts ++ t ∷ []) ≡ befores ts ++ t.before ∷ []
  befores_more [] t = refl
  befores_more (u ∷ us) t = ap (λ (l : List T). u.before ∷ l) (befores_more us t)

  unless_append : (r : Turned) (x : T) (xs ys : List T) → unless_over r x (xs ++ ys) ≡ unless_over r x xs ++ ys
  unless_append Progress x xs ys = refl
  unless_append Idle x xs ys = refl
  unless_append Over x xs ys = refl

  if_append : (r : Turned) (x : T) (xs ys : List T) → if_over r x (xs ++ ys) ≡ if_over r x xs ++ ys
  if_append Progress x xs ys = refl
  if_append Idle x xs ys = refl
  if_append Over x xs ys = refl

  still_more : (ts : List (TurnOf T)) (t : TurnOf T) → still_live (ts ++ t ∷ []) ≡ still_live ts ++ unless_over t.came_to t.after []
  still_more [] t = refl
  still_more (u ∷ us) t = ap (unless_over u.came_to u.after) (still_more us t) ∙ unless_append u.came_to u.after (still_live us) (unless_over t.came_to t.after [])

  over_more : (ts : List (TurnOf T)) (t : TurnOf T) → now_over (ts ++ t ∷ []) ≡ now_over ts ++ if_over t.came_to t.after []
  over_more [] t = refl
  over_more (u ∷ us) t = ap (if_over u.came_to u.after) (over_more us t) ∙ if_append u.came_to u.after (now_over us) (if_over t.came_to t.after [])

  progress_more : (ts : List (TurnOf T)) (t : TurnOf T) → progressed_in (ts ++ t ∷ []) ≡ progressed_in ts + progress_of t.came_to
  progress_more [] t = omega arith
  progress_more (u ∷ us) t = omega (arith, progress_more us t)

  each_more : (goes : T → T → Turned → Type 0) (ts : List (TurnOf T)) (t : TurnOf T) → AreTurns goes ts → goes t.before t.after t.came_to → AreTurns goes (ts ++ t ∷ [])
  each_more goes [] t h did = (did, tt)
  each_more goes (u ∷ us) t h did = (h.0, each_more goes us t h.1 did)

  -- those that have had theirs, with one more, and those to come
  given_more : (first : List T) (ts : List (TurnOf T)) (t : TurnOf T) (rest rest' : List T) → IsPermutation first (befores ts ++ t.before ∷ rest) → IsPermutation rest rest'
      → IsPermutation first (befores (ts ++ t ∷ []) ++ rest')
  given_more first ts t rest rest' given moved =
      subst (λ (l : List T). IsPermutation first l)
      (sym (ap (λ (l : List T). l ++ rest') (befores_more ts t) ∙ append_assoc (befores ts) (t.before ∷ []) rest'))
      (IsPermutation-trans first (befores ts ++ t.before ∷ rest) (befores ts ++ t.before ∷ rest') given
      (IsPermutation-append_right (befores ts) (t.before ∷ rest) (t.before ∷ rest') (IsPermutation-cons t.before rest rest' moved)))

module _ {T : Type 0} (goes : T → T → Turned → Type 0) (first : ReactorItems T) where
  pub begins : HaveGone goes first 0 first.live first.over 0 0
  begins = record {
    turns = [];
    each = tt;
    given = IsPermutation-refl first.live;
    kept = refl;
    gone = sym (append-nil first.over);
    progress = refl;
    ends = refl;
  }

  module _ (at : ℕ) (live over live' over' : List T) (progressed ended : ℕ) (h : HaveGone goes first at live over progressed ended) where
    here_given : (x : T) (rest : List T) → drop at live ≡ x ∷ rest → IsPermutation first.live (befores h.turns ++ x ∷ rest)
    here_given x rest e = subst (λ (l : List T). IsPermutation first.live (befores h.turns ++ l)) e h.given

    pub progresses : IsTurnAt goes at live over live' over' Progress → HaveGone goes first (at + 1) live' over' (progressed + 1) ended
    progresses n = let t : TurnOf T = record { before = n.before; after = n.after; came_to = Progress } in record {
      turns = h.turns ++ t ∷ [];
      each = each_more goes h.turns t h.each n.did;
      given = given_more first.live h.turns t (drop (at + 1) live) (drop (at + 1) live') (here_given n.before (drop (at + 1) live) n.here)
          (subst (λ (l : List T). IsPermutation (drop (at + 1) live) l) (sym n.left.1) (IsPermutation-refl (drop (at + 1) live)));
      kept = n.left.0 ∙ (ap (λ (l : List T). l ++ n.after ∷ []) h.kept ∙ sym (still_more h.turns t));
      gone = n.left.2 ∙ (h.gone ∙ ap (λ (l : List T). first.over ++ l) (sym (over_more h.turns t ∙ append-nil (now_over h.turns))));
      progress = omega (arith, h.progress, progress_more h.turns t);
      ends = h.ends ∙ ap length (sym (over_more h.turns t ∙ append-nil (now_over h.turns)));
    }

    pub idles : IsTurnAt goes at live over live' over' Idle → HaveGone goes first (at + 1) live' over' progressed ended
    idles n = let t : TurnOf T = record { before = n.before; after = n.after; came_to = Idle } in record {
      turns = h.turns ++ t ∷ [];
      each = each_more goes h.turns t h.each n.did;
      given = given_more first.live h.turns t (drop (at + 1) live) (drop (at + 1) live') (here_given n.before (drop (at + 1) live) n.here)
          (subst (λ (l : List T). IsPermutation (drop (at + 1) live) l) (sym n.left.1) (IsPermutation-refl (drop (at + 1) live)));
      kept = n.left.0 ∙ (ap (λ (l : List T). l ++ n.after ∷ []) h.kept ∙ sym (still_more h.turns t));
      gone = n.left.2 ∙ (h.gone ∙ ap (λ (l : List T). first.over ++ l) (sym (over_more h.turns t ∙ append-nil (now_over h.turns))));
      progress = omega (arith, h.progress, progress_more h.turns t);
      ends = h.ends ∙ ap length (sym (over_more h.turns t ∙ append-nil (now_over h.turns)));
    }

    pub goes_over : IsTurnAt goes at live over live' over' Over → HaveGone goes first at live' over' progressed (ended + 1)
    goes_over n = let t : TurnOf T = record { before = n.before; after = n.after; came_to = Over } in record {
      turns = h.turns ++ t ∷ [];
      each = each_more goes h.turns t h.each n.did;
      given = given_more first.live h.turns t (drop (at + 1) live) (drop at live') (here_given n.before (drop (at + 1) live) n.here) n.left.1;
      kept = n.left.0 ∙ (h.kept ∙ sym (still_more h.turns t ∙ append-nil (still_live h.turns)));
      gone = n.left.2 ∙ (ap (λ (l : List T). l ++ n.after ∷ []) h.gone ∙ (append_assoc first.over (now_over h.turns) (n.after ∷ []) ∙ ap (λ (l : List T). first.over ++ l) (sym (over_more h.turns t))));
      progress = omega (arith, h.progress, progress_more h.turns t);
      ends = sym (ap length (over_more h.turns t) ∙ (length_push (now_over h.turns) n.after ∙ ap (λ (k : ℕ). k + 1) (sym h.ends)));
    }

  -- the end of a round
  pub closes : (at : ℕ) (live over : List T) (progressed ended : ℕ) → HaveGone goes first at live over progressed ended → length live ≤ at
      → IsRound goes first (record { live = live; over = over }) progressed ended
  closes at live over progressed ended h done = record {
    turns = h.turns;
    each = h.each;
    given = subst (λ (l : List T). IsPermutation first.live l) (ap (λ (l : List T). befores h.turns ++ l) (drop_all at live done) ∙ append-nil (befores h.turns)) h.given;
    live = sym (take_all at live done) ∙ h.kept;
    over = h.gone;
    progress = h.progress;
    ends = h.ends;
  }

-- ---- one turn

module _ {T : Type 0} where
  -- the last of a list goes to its front
  to_front : (r : List T) (z : T) (j : ℕ) → length r ≡ j + 1 → z ≡ slice_index_or r j z → IsPermutation r (z ∷ take j r)
  to_front r z j long last =
      let whole : r ≡ take j r ++ z ∷ [] = sym (take_all (j + 1) r (omega (arith, long))) ∙ (take_more r j z (omega (arith, long)) ∙ ap (λ (y : T). take j r ++ y ∷ []) (sym last)) in
      subst (λ (l : List T). IsPermutation l (z ∷ take j r)) (sym whole) (IsPermutation-to_front (take j r) z)

  behind : (r : List T) (z : T) (m : ℕ) → length r ≡ m → ((j : ℕ) → m ≡ j + 1 → z ≡ slice_index_or r j z) → IsPermutation r (take m (z ∷ r))
  behind [] z zero long last = IsPermutation-refl []
  behind (x ∷ xs) z zero long last = absurd (omega (arith, long))
  behind r z (suc j) long last = to_front r z j (long ∙ omega arith) (last j (omega arith))

  -- behind `swap_remove`, what stood before the place is there, and what stood behind it has another order
  removed_front : (xs : List T) (i : ℕ) (d : T) → i < length xs → take i (swap_remove xs i d) ≡ take i xs
  removed_front xs i d lt = take-take i (length xs - 1) (slice_set xs i (slice_index_or xs (length xs - 1) d)) (omega (arith, lt)) ∙ take-set xs i (slice_index_or xs (length xs - 1) d)

  removed_back : (xs : List T) (i : ℕ) (d : T) → i < length xs → IsPermutation (drop (i + 1) xs) (drop i (swap_remove xs i d))
  removed_back xs i d lt =
      let z : T = slice_index_or xs (length xs - 1) d in
      let m : ℕ = length xs - 1 - i in
      let size : i + m ≡ length xs - 1 = omega (arith, lt) in
      let is : drop i (swap_remove xs i d) ≡ take m (z ∷ drop (i + 1) xs) =
      ap (λ (k : ℕ). drop i (take k (slice_set xs i z))) (sym size) ∙ (drop-take i m (slice_set xs i z) ∙ ap (take m) (drop-set xs i z lt)) in
      subst (λ (l : List T). IsPermutation (drop (i + 1) xs) l) (sym is)
      (behind (drop (i + 1) xs) z m (drop_length (i + 1) xs ∙ omega (arith, lt))
      (λ j e. get_or_default xs (length xs - 1) d z (omega (arith, lt)) ∙ (ap (λ (k : ℕ). slice_index_or xs k z) (omega (arith, lt, e)) ∙ sym (get_or-drop (i + 1) xs j z))))
    where
      drop_length : (n : ℕ) (l : List T) → length (drop n l) ≡ length l - n
      drop_length zero l = omega arith
      drop_length (suc n) [] = omega arith
      drop_length (suc n) (y ∷ ys) = drop_length n ys ∙ omega arith

module _ {T : Type 0} (goes : T → T → Turned → Type 0) (at : ℕ) (live over mid : List T) (x y : T) (lt : at < length live) (is : x ≡ slice_index_or live at x) (set_to : mid ≡ slice_set live at y) where
  here_is : drop at live ≡ x ∷ drop (at + 1) live
  here_is = drop_more live at x lt ∙ ap (λ (z : T). z ∷ drop (at + 1) live) (sym is)

  pub turns_progress : goes x y Progress → IsTurnAt goes at live over mid over Progress
  turns_progress did = record {
    before = x;
    after = y;
    did = did;
    here = here_is;
    left = (ap (take (at + 1)) set_to ∙ take_more_set live at y lt, ap (drop (at + 1)) set_to ∙ drop-set-lt (at + 1) live at y (omega arith), refl);
  }

  pub turns_idle : goes x y Idle → IsTurnAt goes at live over mid over Idle
  turns_idle did = record {
    before = x;
    after = y;
    did = did;
    here = here_is;
    left = (ap (take (at + 1)) set_to ∙ take_more_set live at y lt, ap (drop (at + 1)) set_to ∙ drop-set-lt (at + 1) live at y (omega arith), refl);
  }

  pub turns_over : (d : T) (live' over' : List T) → goes x y Over → d ≡ slice_index_or mid at d → live' ≡ swap_remove mid at d → over' ≡ over ++ d ∷ []
      → IsTurnAt goes at live over live' over' Over
  turns_over d live' over' did value removed pushed =
      let item : d ≡ y = value ∙ (ap (λ (l : List T). slice_index_or l at d) set_to ∙ get_or-set_same live at y d lt) in
      let longer : length mid ≡ length live = ap length set_to ∙ length-set live at y in
      let lt' : at < length mid = omega (arith, longer, lt) in record {
        before = x;
        after = y;
        did = did;
        here = here_is;
        left = (
          ap (take at) removed ∙ (removed_front mid at d lt' ∙ (ap (take at) set_to ∙ take-set live at y)),
          subst (λ (l : List T). IsPermutation l (drop at live')) (ap (drop (at + 1)) set_to ∙ drop-set-lt (at + 1) live at y (omega arith))
              (subst (λ (l : List T). IsPermutation (drop (at + 1) mid) (drop at l)) (sym removed) (removed_back mid at d lt')),
          pushed ∙ ap (λ (z : T). over ++ z ∷ []) item,
        );
      }
