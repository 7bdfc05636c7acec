-- What serving keeps.
use Rattle.std.proofs.Common.{rules, ◌≡◌, ℕ, zero, suc, ◌+◌, ◌<◌, ◌≤◌, Bool, true, false, ◌||◌, List, [], ◌∷◌, ◌++◌, length, get_or, set, swap, Option, Some, None, refl, sym, ap, ◌∙◌, subst, arith, append_assoc, append-nil, le_of_suc-le-suc}
use Rattle.std.specs.Prelude.{map}
use Rattle.std.specs.List.{list_any}
use Rattle.std.specs.List.Sorted.{IsPermutation}
use Rattle.std.specs.Option.{option_map}
use Rattle.std.proofs.lemmas.List.{length-append, map-append}
use Rattle.std.proofs.lemmas.List.Folds.{list_any-append}
use Rattle.std.proofs.lemmas.List.Sorted.{IsPermutation-refl, IsPermutation-sym, IsPermutation-cons, IsPermutation-trans, IsPermutation-append_left, IsPermutation-append_right, IsPermutation-keeps, IsPermutation-middle, IsPermutation-push_more, IsPermutation-swap, length_permutation}
use mathlib.Core.List.{IsPrefix}
use Rattle.reactor.specs.declared.turning.Turned.{Turned}
use Rattle.reactor.specs.declared.turning.Turned.TheVariants.{Progress, Idle, Over}
use Rattle.reactor.specs.Turns.{AreTurns, IsRound, ReactorItems, TurnOf, befores, if_over, now_over, still_live, unless_over}
use Rattle.table_lock.specs.declared.view.Item.{Item}
use Rattle.table_lock.specs.Passes.{PassView, item}
use Rattle.table_lock.proofs.Lists.{prefix_refl, prefix_trans}
use Rattle.link_serving.specs.declared.service.Ended.{Ended}
use Rattle.rig_io.specs.Fault.{HasRisen}
use Rattle.link_serving.specs.Serving.{AreMadeOf, Done, Each, HasAccepted, HasBegun, HowDone, IsDone, IsServing, IsTakenBack, Links, ServesItems, Start, is_spent, lacks_memory, start_at}

module _ {X : Type 0} where
  each_weaker : (P Q : X → Type 0) → ((x : X) → P x → Q x) → (xs : List X) → Each P xs → Each Q xs
  each_weaker P Q f [] a = tt
  each_weaker P Q f (x ∷ xs) a = (f x a.0, each_weaker P Q f xs a.1)

  each_more : (P : X → Type 0) (xs : List X) (y : X) → Each P xs → P y → Each P (xs ++ y ∷ [])
  each_more P [] y a p = (p, tt)
  each_more P (x ∷ xs) y a p = (a.0, each_more P xs y a.1 p)

or_none : (a : Bool) → (a || false) ≡ a
or_none true = refl
or_none false = refl

any_more : {X : Type 0} (p : X → Bool) (xs : List X) (y : X) → (list_any p xs || p y) ≡ list_any p (xs ++ y ∷ [])
any_more p xs y = ap (λ (b : Bool). list_any p xs || b) (sym (or_none (p y))) ∙ sym (list_any-append p xs (y ∷ []))

module _ {X Y : Type 0} where
  -- the start's list, and one more behind what was added to it
  more : (f : X → Y) (front : List Y) (xs : List X) (y : X) → (front ++ map f xs) ++ f y ∷ [] ≡ front ++ map f (xs ++ y ∷ [])
  more f front xs y = append_assoc front (map f xs) (f y ∷ []) ∙ ap (λ (l : List Y). front ++ l) (sym (map-append f xs (y ∷ [])))

  more_told : (f : X → Y) (front : Option (List Y)) (xs : List X) (y : X)
      → option_map (λ l. l ++ f y ∷ []) (option_map (λ l. l ++ map f xs) front) ≡ option_map (λ l. l ++ map f (xs ++ y ∷ [])) front
  more_told f None xs y = refl
  more_told f (Some l) xs y = ap (λ (m : List Y). (let o : Option (List Y) = Some m in o)) (more f l xs y)

module _ {X : Type 0} where
  more_given : (front : Option (List X)) (xs : List X) (y : X)
      → option_map (λ l. l ++ y ∷ []) (option_map (λ l. l ++ xs) front) ≡ option_map (λ l. l ++ (xs ++ y ∷ [])) front
  more_given None xs y = refl
  more_given (Some l) xs y = ap (λ (m : List X). (let o : Option (List X) = Some m in o)) (append_assoc l xs (y ∷ []))

  none_given : (front : Option (List X)) → front ≡ option_map (λ l. l ++ []) front
  none_given None = refl
  none_given (Some l) = ap (λ (m : List X). (let o : Option (List X) = Some m in o)) (sym (append-nil l))

module _ {C R G L : Type 0} (served : L → L → PassView C R G → Ended → Type 0) where
  begins : (root : PassView C R G) (links : Links L) → IsServing served (start_at root links) root links [] false false
  begins root links = record {
    out = omega arith;
    count = omega arith;
    done = [];
    each = tt;
    ended = sym (append-nil root.ended);
    taken_back = none_given links.retired;
    news = [];
    given = none_given links.given;
    begun = IsPermutation-refl [];
    short_is = refl;
    spent_is = refl;
    seen = prefix_refl root.seen;
    each_seen = tt;
  }

  module _ (start : Start C R G L) where
    -- the links that are held, in another order
    moves : (root : PassView C R G) (links : Links L) (hold hold' : List L) (short spent : Bool) → IsPermutation hold hold'
        → IsServing served start root links hold short spent → IsServing served start root links hold' short spent
    moves root links hold hold' short spent p s = let size : length hold' ≡ length hold = length_permutation hold hold' p in record {
      out = omega (arith, s.out, size);
      count = omega (arith, s.count, size);
      done = s.done;
      each = s.each;
      ended = s.ended;
      taken_back = s.taken_back;
      news = s.news;
      given = s.given;
      begun = IsPermutation-trans s.news (map (λ (d : Done C R G L). d.first) s.done ++ hold) (map (λ (d : Done C R G L). d.first) s.done ++ hold') s.begun
          (IsPermutation-append_right (map (λ (d : Done C R G L). d.first) s.done) hold hold' p);
      short_is = s.short_is;
      spent_is = s.spent_is;
      seen = s.seen;
      each_seen = s.each_seen;
    }

    -- a link came, and a pass was split off for it
    pub takes : (root root' : PassView C R G) (before links : Links L) (hold : List L) (short spent : Bool) (link : L)
        → root' ≡ record root { made = root.made + 1; out = root.out + 1 } → HasBegun link before links
        → IsServing served start root before hold short spent → IsServing served start root' links (link ∷ hold) short spent
    takes root root' before links hold short spent link e b s =
        let out = ap (λ (p : PassView C R G). p.out) e in
        let seen = ap (λ (p : PassView C R G). p.seen) e in
        let firsts : List L = map (λ (d : Done C R G L). d.first) s.done in
        let size : length (link ∷ hold) ≡ length hold + 1 = omega arith in record {
          out = omega (arith, out, s.out, size);
          count = omega (arith, s.count, b.gave, b.took, size);
          done = s.done;
          each = s.each;
          ended = ap (λ (p : PassView C R G). p.ended) e ∙ s.ended;
          taken_back = b.retired ∙ s.taken_back;
          news = s.news ++ link ∷ [];
          given = b.given ∙ (ap (λ (o : Option (List L)). option_map (λ ls. ls ++ link ∷ []) o) s.given ∙ more_given start.links.given s.news link);
          begun = IsPermutation-push_more s.news (firsts ++ hold) (firsts ++ link ∷ hold) link s.begun
              (IsPermutation-sym (firsts ++ link ∷ hold) (link ∷ (firsts ++ hold)) (IsPermutation-middle firsts link hold));
          short_is = s.short_is;
          spent_is = s.spent_is;
          seen = subst (λ (l : _). IsPrefix start.seen l) (sym seen) s.seen;
          each_seen = subst (λ (l : _). Each (λ (d : Done C R G L). IsPrefix d.pass.seen l) s.done) (sym seen) s.each_seen;
        }

    -- it is held
    takes_it : (root root' : PassView C R G) (before links : Links L) (hold hold' : List L) (short spent : Bool) (link : L)
        → root' ≡ record root { made = root.made + 1; out = root.out + 1 } → HasBegun link before links → IsPermutation (link ∷ hold) hold'
        → IsServing served start root before hold short spent → IsServing served start root' links hold' (short || false) spent
    takes_it root root' before links hold hold' short spent link e b p s =
        subst (λ (x : Bool). IsServing served start root' links hold' x spent) (sym (or_none short))
        (moves root' links (link ∷ hold) hold' short spent p (takes root root' before links hold short spent link e b s))

    -- a link that was held is given back
    backs : (root root' : PassView C R G) (links links' : Links L) (hold : List L) (short spent : Bool) (first link : L) (pass : PassView C R G)
        (how : Option Ended) → HowDone served first link pass how → IsTakenBack link pass root root' links links'
        → IsServing served start root links (first ∷ hold) short spent
        → IsServing served start root' links' hold (short || lacks_memory how) (spent || is_spent how)
    backs root root' links links' hold short spent first link pass how is b s =
        let out = ap (λ (p : PassView C R G). p.out) b.root_is in
        let d : Done C R G L = record { first = first; link = link; pass = pass; how = how } in
        let firsts : List L = map (λ (d : Done C R G L). d.first) s.done in
        let size : length (first ∷ hold) ≡ length hold + 1 = omega arith in
        let same : firsts ++ first ∷ hold ≡ map (λ (d : Done C R G L). d.first) (s.done ++ d ∷ []) ++ hold =
        sym (ap (λ (l : List L). l ++ hold) (map-append (λ (d : Done C R G L). d.first) s.done (d ∷ [])) ∙ append_assoc firsts (first ∷ []) hold) in record {
          out = omega (arith, out, s.out, size);
          count = omega (arith, s.count, b.gave, b.took, size);
          done = s.done ++ d ∷ [];
          each = each_more (IsDone served) s.done d s.each is;
          ended = ap (λ (p : PassView C R G). p.ended) b.root_is
              ∙ (ap (λ (l : List (Item C R)). l ++ item pass ∷ []) s.ended ∙ more (λ (x : Done C R G L). item x.pass) start.ended s.done d);
          taken_back = b.retired ∙ (ap (λ (o : Option (List L)). option_map (λ ls. ls ++ link ∷ []) o) s.taken_back
              ∙ more_told (λ (x : Done C R G L). x.link) start.links.retired s.done d);
          news = s.news;
          given = b.given ∙ s.given;
          begun = subst (λ (l : List L). IsPermutation s.news l) same s.begun;
          short_is = ap (λ (x : Bool). x || lacks_memory how) s.short_is ∙ any_more (λ (x : Done C R G L). lacks_memory x.how) s.done d;
          spent_is = ap (λ (x : Bool). x || is_spent how) s.spent_is ∙ any_more (λ (x : Done C R G L). is_spent x.how) s.done d;
          seen = prefix_trans start.seen root.seen root'.seen s.seen b.mine;
          each_seen = each_more (λ (x : Done C R G L). IsPrefix x.pass.seen root'.seen) s.done d
              (each_weaker (λ (x : Done C R G L). IsPrefix x.pass.seen root.seen) (λ (x : Done C R G L). IsPrefix x.pass.seen root'.seen)
              (λ x p. prefix_trans x.pass.seen root.seen root'.seen p b.mine) s.done s.each_seen) b.theirs;
        }

    -- a link that came is given back at once
    refuses_it : (root mid root' : PassView C R G) (before links links' : Links L) (hold : List L) (short spent : Bool) (first link : L) (pass : PassView C R G)
        → mid ≡ record root { made = root.made + 1; out = root.out + 1 } → HasBegun first before links → link ≡ first → pass.mine ≡ []
        → IsTakenBack link pass mid root' links links' → IsServing served start root before hold short spent
        → IsServing served start root' links' hold (short || true) spent
    refuses_it root mid root' before links links' hold short spent first link pass e b same none back s =
        subst (λ (x : Bool). IsServing served start root' links' hold (short || true) x) (or_none spent)
        (backs mid root' links links' hold short spent first link pass None (same, none) back (takes root mid before links hold short spent first e b s))

    -- how it went, said by equal words
    told : (root : PassView C R G) (links : Links L) (hold : List L) (short short' spent spent' : Bool) → short' ≡ short → spent' ≡ spent
        → IsServing served start root links hold short spent → IsServing served start root links hold short' spent'
    told root links hold short short' spent spent' a b s =
        subst (λ (x : Bool). IsServing served start root links hold short' x) (sym b) (subst (λ (x : Bool). IsServing served start root links hold x spent) (sym a) s)

-- ---- accepting

pub accepted_none : (faults gave : ℕ) (asked : ℕ × ℕ) → HasAccepted faults faults asked asked gave false false
accepted_none faults gave asked = record {
  later = omega arith;
  rose = λ h. absurd (fine h);
  hidden = λ h. refl;
  same = refl;
  all = λ h. absurd (fine h);
}
  where
    fine : (false ≡ true) → ⊥
    fine h = search rules

pub accepted_still : (f f1 f2 : ℕ) (a a1 a2 : ℕ × ℕ) (gave gave' : ℕ) (ended ended' failed failed' : Bool)
    → f2 ≡ f1 → a2 ≡ a1 → gave' ≡ gave → ended' ≡ ended → failed' ≡ failed
    → HasAccepted f f1 a a1 gave ended failed → HasAccepted f f2 a a2 gave' ended' failed'
accepted_still f f1 f2 a a1 a2 gave gave' ended ended' failed failed' ef ea eg ee ed h = record {
  later = subst (λ (n : ℕ). f ≤ n) (sym ef) h.later;
  rose = λ t. subst (λ (n : ℕ). HasRisen f n) (sym ef) (h.rose (sym ed ∙ t));
  hidden = λ t. ef ∙ h.hidden (sym ed ∙ t);
  same = ea ∙ h.same;
  all = λ t u. eg ∙ h.all (sym ee ∙ t) (sym ed ∙ u);
}

-- ---- the links that a reactor's items were made of

module _ {T L : Type 0} (origin : T → L → Type 0) where
  made_size : (items : List T) (links : List L) → AreMadeOf origin items links → length links ≡ length items
  made_size [] [] h = refl
  made_size [] (l ∷ ls) h = absurd h
  made_size (x ∷ xs) [] h = absurd h
  made_size (x ∷ xs) (l ∷ ls) h = ap (λ (n : ℕ). suc n) (made_size xs ls h.1)

  made_at : (items : List T) (links : List L) (i : ℕ) (d : T) (e : L) → AreMadeOf origin items links → i < length items → origin (get_or items i d) (get_or links i e)
  made_at [] ls i d e h p = absurd (omega (arith, p))
  made_at (x ∷ xs) [] i d e h p = absurd h
  made_at (x ∷ xs) (l ∷ ls) zero d e h p = h.0
  made_at (x ∷ xs) (l ∷ ls) (suc i) d e h p = made_at xs ls i d e h.1 (le_of_suc-le-suc p)

  made_set : (items : List T) (links : List L) (i : ℕ) (x : T) (l : L) → AreMadeOf origin items links → origin x l → AreMadeOf origin (set items i x) (set links i l)
  made_set [] [] i x l h o = tt
  made_set [] (m ∷ ms) i x l h o = absurd h
  made_set (y ∷ ys) [] i x l h o = absurd h
  made_set (y ∷ ys) (m ∷ ms) zero x l h o = (o, h.1)
  made_set (y ∷ ys) (m ∷ ms) (suc i) x l h o = (h.0, made_set ys ms i x l h.1 o)

  made_swap : (items : List T) (links : List L) (i j : ℕ) → i < length items → j < length items → AreMadeOf origin items links → AreMadeOf origin (swap items i j) (swap links i j)
  made_swap [] ls i j p q h = absurd (omega (arith, p))
  made_swap (x ∷ xs) [] i j p q h = absurd h
  made_swap (x ∷ xs) (l ∷ ls) i j p q h =
      made_set (set (x ∷ xs) i (get_or (x ∷ xs) j x)) (set (l ∷ ls) i (get_or (l ∷ ls) j l)) j (get_or (x ∷ xs) i x) (get_or (l ∷ ls) i l)
      (made_set (x ∷ xs) (l ∷ ls) i (get_or (x ∷ xs) j x) (get_or (l ∷ ls) j l) h (made_at (x ∷ xs) (l ∷ ls) j x l h q)) (made_at (x ∷ xs) (l ∷ ls) i x l h p)

  -- these items were made of the same links, in another order
  record Moved (items : List T) (before : List L) : Type 0 where
    now : List L
    made : AreMadeOf origin items now
    moved : IsPermutation before now

  -- items in another order
  made_moved : (items items' : List T) (links : List L) → IsPermutation items items' → AreMadeOf origin items links → Moved items' links
  made_moved items items' links p h =
      IsPermutation-keeps items (λ (l : List T). Moved l links) (record { now = links; made = h; moved = IsPermutation-refl links })
      (λ l i j a b m.
      let size : length m.now ≡ length l = made_size l m.now m.made in record {
        now = swap m.now i j;
        made = made_swap l m.now i j a b m.made;
        moved = IsPermutation-trans links m.now (swap m.now i j) m.moved (IsPermutation-swap m.now (swap m.now i j) i j (omega (arith, size, a)) (omega (arith, size, b)) refl);
      }) items' p

  -- an item in front, moved to its place
  made_under : (front behind : List T) (x : T) (links : List L) (l : L) (m : Moved (front ++ behind) links) → origin x l → Moved (front ++ x ∷ behind) (l ∷ links)
  made_under front behind x links l m o =
      let far = made_moved (x ∷ (front ++ behind)) (front ++ x ∷ behind) (l ∷ m.now) (IsPermutation-sym (front ++ x ∷ behind) (x ∷ (front ++ behind)) (IsPermutation-middle front x behind)) (o, m.made) in record {
        now = far.now;
        made = far.made;
        moved = IsPermutation-trans (l ∷ links) (l ∷ m.now) far.now (IsPermutation-cons l links m.now m.moved) far.moved;
      }

  made_first : (x : T) (links : List L) (l : L) (items : List T) (m : Moved items links) → origin x l → Moved (x ∷ items) (l ∷ links)
  made_first x links l items m o = record { now = l ∷ m.now; made = (o, m.made); moved = IsPermutation-cons l links m.now m.moved }

  one_turn : (r : Turned) (y : T) (l : L) (still over gone : List T) (were : List L) → origin y l → Moved (still ++ (over ++ gone)) were
      → Moved (unless_over r y still ++ (over ++ if_over r y gone)) (l ∷ were)
  one_turn Progress y l still over gone were o m = made_first y were l (still ++ (over ++ gone)) m o
  one_turn Idle y l still over gone were o m = made_first y were l (still ++ (over ++ gone)) m o
  one_turn Over y l still over gone were o m =
      subst (λ (k : List T). Moved k (l ∷ were)) (append_assoc still over (y ∷ gone))
      (made_under (still ++ over) gone y were l (subst (λ (k : List T). Moved k were) (sym (append_assoc still over gone)) m) o)

  module _ (goes : T → T → Turned → Type 0) (keeps : (x y : T) (r : Turned) (l : L) → goes x y r → origin x l → origin y l) where
    turns_made : (ts : List (TurnOf T)) (over : List T) (links : List L) → AreTurns goes ts → AreMadeOf origin (befores ts ++ over) links
        → Moved (still_live ts ++ (over ++ now_over ts)) links
    turns_made [] over links a h =
        subst (λ (k : List T). Moved k links) (sym (append-nil over)) (record { now = links; made = h; moved = IsPermutation-refl links })
    turns_made (t ∷ ts) over [] a h = absurd h
    turns_made (t ∷ ts) over (l ∷ ls) a h =
        one_turn t.came_to t.after l (still_live ts) over (now_over ts) ls (keeps t.before t.after t.came_to l a.0 h.0) (turns_made ts over ls a.1 h.1)

    -- a round
    round_made : (before after : ReactorItems T) (progressed ended : ℕ) (links : List L) → IsRound goes before after progressed ended
        → AreMadeOf origin (before.live ++ before.over) links → Moved (after.live ++ after.over) links
    round_made before after progressed ended links h made =
        let one = made_moved (before.live ++ before.over) (befores h.turns ++ before.over) links (IsPermutation-append_left before.over before.live (befores h.turns) h.given) made in
        let two = turns_made h.turns before.over one.now h.each one.made in
        let now : still_live h.turns ++ (before.over ++ now_over h.turns) ≡ after.live ++ after.over =
        ap (λ (k : List T). k ++ (before.over ++ now_over h.turns)) (sym h.live) ∙ ap (λ (k : List T). after.live ++ k) (sym h.over) in
        subst (λ (k : List T). Moved k links) now (record { now = two.now; made = two.made; moved = IsPermutation-trans links one.now two.now one.moved two.moved })

module _ {T : Type 0} where
  turns_size : (ts : List (TurnOf T)) → length (still_live ts) + length (now_over ts) ≡ length (befores ts)
  turns_size [] = refl
  turns_size (t ∷ ts) = one t.came_to t.after (still_live ts) (now_over ts) (befores ts) t.before (turns_size ts)
    where
      one : (r : Turned) (y : T) (still gone were : List T) (x : T) → length still + length gone ≡ length were
          → length (unless_over r y still) + length (if_over r y gone) ≡ length (x ∷ were)
      one Progress y still gone were x e = omega (arith, e)
      one Idle y still gone were x e = omega (arith, e)
      one Over y still gone were x e = omega (arith, e)

  -- a round leaves as many
  pub round_size : (goes : T → T → Turned → Type 0) (before after : ReactorItems T) (progressed ended : ℕ) → IsRound goes before after progressed ended
      → length after.live + length after.over ≡ length before.live + length before.over
  round_size goes before after progressed ended h =
      let live : length after.live ≡ length (still_live h.turns) = ap length h.live in
      let over : length after.over ≡ length before.over + length (now_over h.turns) = ap length h.over ∙ length-append before.over (now_over h.turns) in
      let given : length (befores h.turns) ≡ length before.live = length_permutation before.live (befores h.turns) h.given in
      omega (arith, live, over, given, turns_size h.turns)

-- ---- serving, over the items of a reactor

module _ {C R G L T : Type 0} (served : L → L → PassView C R G → Ended → Type 0) (origin : T → L → Type 0) where
  pub begins_items : (root : PassView C R G) (links : Links L) (items : ReactorItems T) → items ≡ record { live = []; over = [] }
      → ServesItems served origin (start_at root links) root links items false false
  begins_items root links items e =
      subst (λ (r : ReactorItems T). ServesItems served origin (start_at root links) root links r false false) (sym e)
      (record { held = []; made = tt; serves = begins served root links })

  module _ (start : Start C R G L) where
    -- a link came, of which an item was made
    pub takes_item : (root root' : PassView C R G) (before links : Links L) (items items' : ReactorItems T) (short spent : Bool) (link : L) (made : T)
        → root' ≡ record root { made = root.made + 1; out = root.out + 1 } → HasBegun link before links
        → items'.live ≡ items.live ++ made ∷ [] → items'.over ≡ items.over → origin made link
        → ServesItems served origin start root before items short spent → ServesItems served origin start root' links items' (short || false) spent
    takes_item root root' before links items items' short spent link made e b live over is s =
        let far = made_under origin items.live items.over made s.held link (record { now = s.held; made = s.made; moved = IsPermutation-refl s.held }) is in
        let now : items.live ++ made ∷ items.over ≡ items'.live ++ items'.over =
        sym (append_assoc items.live (made ∷ []) items.over) ∙ (ap (λ (k : List T). k ++ items.over) (sym live) ∙ ap (λ (k : List T). items'.live ++ k) (sym over)) in record {
          held = far.now;
          made = subst (λ (k : List T). AreMadeOf origin k far.now) now far.made;
          serves = takes_it served start root root' before links s.held far.now short spent link e b far.moved s.serves;
        }

    -- a link came, and was given back at once
    pub refuses_item : (root mid root' : PassView C R G) (before links links' : Links L) (items items' : ReactorItems T) (short spent : Bool) (first link : L) (pass : PassView C R G)
        → mid ≡ record root { made = root.made + 1; out = root.out + 1 } → HasBegun first before links → link ≡ first → pass.mine ≡ []
        → IsTakenBack link pass mid root' links links' → items'.live ≡ items.live → items'.over ≡ items.over
        → ServesItems served origin start root before items short spent → ServesItems served origin start root' links' items' (short || true) spent
    refuses_item root mid root' before links links' items items' short spent first link pass e b same none back live over s =
        let now : items.live ++ items.over ≡ items'.live ++ items'.over =
        ap (λ (k : List T). k ++ items.over) (sym live) ∙ ap (λ (k : List T). items'.live ++ k) (sym over) in record {
          held = s.held;
          made = subst (λ (k : List T). AreMadeOf origin k s.held) now s.made;
          serves = refuses_it served start root mid root' before links links' s.held short spent first link pass e b same none back s.serves;
        }

    -- an item that is over is taken out, and its link given back
    pub backs_item : (root root' : PassView C R G) (links links' : Links L) (items items' : ReactorItems T) (short spent : Bool) (made : T) (link : L) (pass : PassView C R G)
        (end : Ended) → ((first : L) → origin made first → served first link pass end) → IsTakenBack link pass root root' links links'
        → items'.live ≡ items.live → items.over ≡ made ∷ items'.over
        → ServesItems served origin start root links items short spent
        → ServesItems served origin start root' links' items' (short || lacks_memory (Some end)) (spent || is_spent (Some end))
    backs_item root root' links links' items items' short spent made link pass end is back live over s =
        let now : items.live ++ items.over ≡ items'.live ++ made ∷ items'.over =
        ap (λ (k : List T). k ++ items.over) (sym live) ∙ ap (λ (k : List T). items'.live ++ k) over in
        let far = made_moved origin (items'.live ++ made ∷ items'.over) (made ∷ (items'.live ++ items'.over)) s.held (IsPermutation-middle items'.live made items'.over)
        (subst (λ (k : List T). AreMadeOf origin k s.held) now s.made) in
        out far.now far.made far.moved
      where
        out : (now : List L) → AreMadeOf origin (made ∷ (items'.live ++ items'.over)) now → IsPermutation s.held now
            → ServesItems served origin start root' links' items' (short || lacks_memory (Some end)) (spent || is_spent (Some end))
        out [] h p = absurd h
        out (first ∷ rest) h p = record {
          held = rest;
          made = h.1;
          serves = backs served start root root' links links' rest short spent first link pass (Some end) (is first h.0) back
              (moves served start root links s.held (first ∷ rest) short spent p s.serves);
        }

    -- a round of turns
    pub rounds_items : (goes : T → T → Turned → Type 0) → ((x y : T) (r : Turned) (l : L) → goes x y r → origin x l → origin y l)
        → (root : PassView C R G) (links : Links L) (before after : ReactorItems T) (progressed ended : ℕ) (short spent : Bool)
        → IsRound goes before after progressed ended → ServesItems served origin start root links before short spent
        → ServesItems served origin start root links after short spent
    rounds_items goes keeps root links before after progressed ended short spent h s =
        let far = round_made origin goes keeps before after progressed ended s.held h s.made in record {
          held = far.now;
          made = far.made;
          serves = moves served start root links s.held far.now short spent far.moved s.serves;
        }

    -- no item is left
    pub ends_items : (root : PassView C R G) (links : Links L) (items : ReactorItems T) (short spent : Bool) → length items.live ≡ 0 → items.over ≡ []
        → ServesItems served origin start root links items short spent → IsServing served start root links [] short spent
    ends_items root links items short spent live over s =
        let size : length s.held ≡ length items.live + length items.over = made_size origin (items.live ++ items.over) s.held s.made ∙ length-append items.live items.over in
        let gone : length items.over ≡ 0 = ap length over in
        subst (λ (k : List L). IsServing served start root links k short spent) (empty s.held (omega (arith, size, gone, live))) s.serves
      where
        empty : (l : List L) → length l ≡ 0 → l ≡ []
        empty [] e = refl
        empty (x ∷ xs) e = absurd (omega (arith, e))

    -- how it went, said by equal words
    pub told_items : (root : PassView C R G) (links : Links L) (items : ReactorItems T) (short short' spent spent' : Bool) → short' ≡ short → spent' ≡ spent
        → ServesItems served origin start root links items short spent → ServesItems served origin start root links items short' spent'
    told_items root links items short short' spent spent' a b s =
        record { held = s.held; made = s.made; serves = told served start root links s.held short short' spent spent' a b s.serves }
