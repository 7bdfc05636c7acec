-- A list parted by marks, one element after another.
use Rattle.std.proofs.Common.{◌≡◌, ℕ, zero, suc, ◌+◌, ◌<◌, Bool, true, false, List, [], ◌∷◌, ◌++◌, length, map, drop, get_or, refl, sym, ap, ◌∙◌, arith, add-one, append_assoc, append-nil, ◌≤◌, drop_of_length-le}
use Rattle.std.specs.Prelude.{cond, not, filter, is_some}
use Rattle.std.specs.List.{list_all}
use Rattle.std.proofs.Math.Seq.{drop-cons}
use Rattle.aft_entries.specs.declared.entry.Entry.{Entry}
use Rattle.aft_entries.specs.Order.{key_eq}
use Rattle.aft_entries.proofs.OrderLemmas.{key_eq_refl}
use Rattle.table_model.specs.Jobs.{removed}
use Rattle.table_model.specs.Table.{lookup, has, in_order, is_above}
use Rattle.table_model.proofs.Tests.{and_left, and_right, and_both, all_weaken, filter_all, find_none}
use Rattle.table_model.proofs.TableLemmas.{above_after, after_apart, before_apart}
use Rattle.aft_store.specs.Marked.{chosen, unchosen}

-- the lists once so many elements are parted: one queue has those to come and behind them the unmarked so far
pub record IsParted {X : Type 0} (marks : List Bool) (all queue marked : List X) (n : ℕ) : Type 0 where
  pub done : List X
  pub coming : queue ≡ drop n all ++ done
  pub marked_are : marked ++ chosen (drop n marks) (drop n all) ≡ chosen marks all
  pub others_are : done ++ unchosen (drop n marks) (drop n all) ≡ unchosen marks all

pub chosen_next : {X : Type 0} (marks : List Bool) (n : ℕ) (x : X) (xs : List X) → chosen (drop n marks) (x ∷ xs) ≡ cond (get_or marks n false) (x ∷ chosen (drop (suc n) marks) xs) (chosen (drop (suc n) marks) xs)
chosen_next [] zero x xs = refl
chosen_next [] (suc n) x xs = refl
chosen_next (m ∷ marks) zero x xs = refl
chosen_next (m ∷ marks) (suc n) x xs = chosen_next marks n x xs

pub unchosen_next : {X : Type 0} (marks : List Bool) (n : ℕ) (x : X) (xs : List X) → unchosen (drop n marks) (x ∷ xs) ≡ cond (get_or marks n false) (unchosen (drop (suc n) marks) xs) (x ∷ unchosen (drop (suc n) marks) xs)
unchosen_next [] zero x xs = refl
unchosen_next [] (suc n) x xs = refl
unchosen_next (m ∷ marks) zero x xs = refl
unchosen_next (m ∷ marks) (suc n) x xs = unchosen_next marks n x xs

head_same : {X : Type 0} (x y : X) (xs ys : List X) → x ∷ xs ≡ y ∷ ys → (x ≡ y) × (xs ≡ ys)
head_same x y xs ys e = (cc, cc)

abbrev Turned : {X : Type 0} → Bool → X → (rest marked tail more others all_marked all_others : List X) → Type 0
Turned {X} b x rest marked tail more others all_marked all_others =
    (after : List X) × (cond b rest (rest ++ x ∷ []) ≡ tail ++ after) × (cond b (marked ++ x ∷ []) marked ++ more ≡ all_marked) × (after ++ others ≡ all_others)

turn_on : {X : Type 0} (b : Bool) (x : X) (rest marked tail done more others all_marked all_others : List X) → rest ≡ tail ++ done → marked ++ cond b (x ∷ more) more ≡ all_marked → done ++ cond b others (x ∷ others) ≡ all_others → Turned b x rest marked tail more others all_marked all_others
turn_on true x rest marked tail done more others all_marked all_others r m o = (done, r, append_assoc marked (x ∷ []) more ∙ m, o)
turn_on false x rest marked tail done more others all_marked all_others r m o = (done ++ x ∷ [], ap (λ l. l ++ x ∷ []) r ∙ append_assoc tail done (x ∷ []), m, append_assoc done (x ∷ []) others ∙ o)

module _ {X : Type 0} (marks : List Bool) (all : List X) where
  pub parted_start : IsParted marks all all [] 0
  parted_start = record { done = []; coming = sym (append-nil all); marked_are = refl; others_are = refl }

  pub parted_turn : (queue marked rest : List X) (n : ℕ) (x : X) → n < length all → IsParted marks all queue marked n → queue ≡ x ∷ rest
      → IsParted marks all (cond (get_or marks n false) rest (rest ++ x ∷ [])) (cond (get_or marks n false) (marked ++ x ∷ []) marked) (suc n)
  parted_turn queue marked rest n x within so_far is =
      let y : X = get_or all n x in
      let tail : List X = drop (suc n) all in
      let cut : drop n all ≡ y ∷ tail = drop-cons all n x within in
      let both : (x ≡ y) × (rest ≡ tail ++ so_far.done) = head_same x y rest (tail ++ so_far.done) (sym is ∙ so_far.coming ∙ ap (λ l. l ++ so_far.done) cut) in
      let here : x ∷ tail ≡ drop n all = ap (λ z. z ∷ tail) both.0 ∙ sym cut in
      let turned : Turned (get_or marks n false) x rest marked tail (chosen (drop (suc n) marks) tail) (unchosen (drop (suc n) marks) tail) (chosen marks all) (unchosen marks all) =
      turn_on (get_or marks n false) x rest marked tail so_far.done (chosen (drop (suc n) marks) tail) (unchosen (drop (suc n) marks) tail) (chosen marks all) (unchosen marks all) both.1
      (ap (λ l. marked ++ l) (sym (chosen_next marks n x tail) ∙ ap (chosen (drop n marks)) here) ∙ so_far.marked_are)
      (ap (λ l. so_far.done ++ l) (sym (unchosen_next marks n x tail) ∙ ap (unchosen (drop n marks)) here) ∙ so_far.others_are) in
      record { done = turned.0; coming = turned.1; marked_are = turned.2; others_are = turned.3 }

  pub front : (n : ℕ) (xs : List X) → n < length xs → (x : X) × (drop n xs ≡ x ∷ drop (suc n) xs)
  front n [] lt = absurd (omega arith)
  front zero (x ∷ xs) lt = (x, refl)
  front (suc n) (x ∷ xs) lt = front n xs (omega arith)

  pub parted_step : (queue marked queue_next marked_next : List X) (n : ℕ) (mark : Bool) → n < length all → IsParted marks all queue marked n → mark ≡ get_or marks n false
      → ((x : X) (rest : List X) → queue ≡ x ∷ rest → queue_next ≡ cond mark rest (rest ++ x ∷ []))
      → ((x : X) (rest : List X) → queue ≡ x ∷ rest → marked_next ≡ cond mark (marked ++ x ∷ []) marked)
      → IsParted marks all queue_next marked_next (n + 1)
  parted_step queue marked queue_next marked_next n mark within so_far is q m =
      let first : (x : X) × (drop n all ≡ x ∷ drop (suc n) all) = front n all within in
      let rest : List X = drop (suc n) all ++ so_far.done in
      let here : queue ≡ first.0 ∷ rest = so_far.coming ∙ ap (λ l. l ++ so_far.done) first.1 in
      rw (q first.0 rest here, m first.0 rest here, is, add-one) (parted_turn queue marked rest n first.0 within so_far here)

  nothing_chosen : (ms : List Bool) → chosen {X = X} ms [] ≡ []
  nothing_chosen [] = refl
  nothing_chosen (m ∷ ms) = refl

  nothing_unchosen : (ms : List Bool) → unchosen {X = X} ms [] ≡ []
  nothing_unchosen [] = refl
  nothing_unchosen (m ∷ ms) = refl

  module _ (queue marked : List X) (n : ℕ) (past : length all ≤ n) (parted : IsParted marks all queue marked n) where
    pub all_marked : marked ≡ chosen marks all
    all_marked = sym (append-nil marked) ∙ ap (λ l. marked ++ l) (sym (ap (chosen (drop n marks)) (drop_of_length-le all past) ∙ nothing_chosen (drop n marks))) ∙ parted.marked_are

    pub all_others : queue ≡ unchosen marks all
    all_others =
        parted.coming ∙ ap (λ l. l ++ parted.done) (drop_of_length-le all past)
        ∙ sym (append-nil parted.done) ∙ ap (λ l. parted.done ++ l) (sym (ap (unchosen (drop n marks)) (drop_of_length-le all past) ∙ nothing_unchosen (drop n marks))) ∙ parted.others_are

module _ {X Y : Type 0} (f : X → Y) where
  pub map_chosen : (marks : List Bool) (xs : List X) → map f (chosen marks xs) ≡ chosen marks (map f xs)
  map_chosen [] xs = refl
  map_chosen (m ∷ marks) [] = refl
  map_chosen (true ∷ marks) (x ∷ xs) = ap (λ l. f x ∷ l) (map_chosen marks xs)
  map_chosen (false ∷ marks) (x ∷ xs) = map_chosen marks xs

  pub map_unchosen : (marks : List Bool) (xs : List X) → map f (unchosen marks xs) ≡ unchosen marks (map f xs)
  map_unchosen [] xs = refl
  map_unchosen (m ∷ marks) [] = refl
  map_unchosen (true ∷ marks) (x ∷ xs) = map_unchosen marks xs
  map_unchosen (false ∷ marks) (x ∷ xs) = ap (λ l. f x ∷ l) (map_unchosen marks xs)

-- what holds of all elements holds of those that have a mark
pub all_chosen : {X : Type 0} (p : X → Bool) (marks : List Bool) (xs : List X) → list_all p xs ≡ true → list_all p (chosen marks xs) ≡ true
all_chosen p [] xs h = refl
all_chosen p (m ∷ marks) [] h = refl
all_chosen p (true ∷ marks) (x ∷ xs) h = and_both (p x) (list_all p (chosen marks xs)) (and_left (p x) (list_all p xs) h) (all_chosen p marks xs (and_right (p x) (list_all p xs) h))
all_chosen p (false ∷ marks) (x ∷ xs) h = all_chosen p marks xs (and_right (p x) (list_all p xs) h)

pub in_order_chosen : (marks : List Bool) (table : List Entry) → in_order table ≡ true → in_order (chosen marks table) ≡ true
unfolding in_order
in_order_chosen [] table h = refl
in_order_chosen (m ∷ marks) [] h = refl
in_order_chosen (true ∷ marks) (e ∷ rest) h =
    and_both (list_all (is_above e.key) (chosen marks rest)) (in_order (chosen marks rest)) (all_chosen (is_above e.key) marks rest (and_left (list_all (is_above e.key) rest) (in_order rest) h))
    (in_order_chosen marks rest (and_right (list_all (is_above e.key) rest) (in_order rest) h))
in_order_chosen (false ∷ marks) (e ∷ rest) h = in_order_chosen marks rest (and_right (list_all (is_above e.key) rest) (in_order rest) h)

-- In a table in order, what has no mark is what the marked entries lack.

filter_where : {X : Type 0} (p q r : X → Bool) (xs : List X) → list_all r xs ≡ true → ((x : X) → r x ≡ true → p x ≡ q x) → filter p xs ≡ filter q xs
filter_where p q r [] h same = refl
filter_where p q r (x ∷ xs) h same = rw (same x (and_left (r x) (list_all r xs) h), filter_where p q r xs (and_right (r x) (list_all r xs) h) same) refl

abbrev lacks : List Entry → Entry → Bool
lacks table e = not (has table e.key)

lacks_none : (e : Entry) → lacks [] e ≡ true
unfolding lookup
lacks_none e = refl

lacks_itself : (e : Entry) (table : List Entry) → lacks (e ∷ table) e ≡ false
unfolding lookup
lacks_itself e table = rw (key_eq_refl e.key) refl

not_key : (b : Bool) → not b ≡ true → b ≡ false
not_key true h = cc
not_key false h = refl

-- of two entries the later one has another key
after_apart_turned : (e x : Entry) → is_above e.key x ≡ true → not (key_eq x.key e.key) ≡ true
after_apart_turned e x above = before_apart x.key e above

lacks_behind : (e x : Entry) (table : List Entry) → is_above e.key x ≡ true → lacks (e ∷ table) x ≡ lacks table x
unfolding lookup
lacks_behind e x table above = rw (not_key (key_eq x.key e.key) (after_apart_turned e x above)) refl

lacks_before : (e : Entry) (table : List Entry) → list_all (is_above e.key) table ≡ true → lacks table e ≡ true
unfolding lookup
lacks_before e table above = ap (λ o. not (is_some o)) (find_none (λ x. key_eq e.key x.key) table (all_weaken (is_above e.key) (λ x. not (key_eq e.key x.key)) table (λ x h. after_apart e.key x (above_after e.key x h)) above))

pub removed_unchosen : (marks : List Bool) (table : List Entry) → in_order table ≡ true → removed table (chosen marks table) ≡ unchosen marks table
unfolding in_order
removed_unchosen [] table h = filter_all (lacks []) table (all_weaken (λ e. true) (lacks []) table (λ e _. lacks_none e) (each table))
  where
    each : (xs : List Entry) → list_all (λ e. true) xs ≡ true
    each [] = refl
    each (x ∷ xs) = each xs
removed_unchosen (m ∷ marks) [] h = refl
removed_unchosen (true ∷ marks) (e ∷ rest) h =
    rw (lacks_itself e (chosen marks rest))
    (filter_where (lacks (e ∷ chosen marks rest)) (lacks (chosen marks rest)) (is_above e.key) rest (and_left (list_all (is_above e.key) rest) (in_order rest) h) (λ x above. lacks_behind e x (chosen marks rest) above)
    ∙ removed_unchosen marks rest (and_right (list_all (is_above e.key) rest) (in_order rest) h))
removed_unchosen (false ∷ marks) (e ∷ rest) h =
    rw (lacks_before e (chosen marks rest) (all_chosen (is_above e.key) marks rest (and_left (list_all (is_above e.key) rest) (in_order rest) h)))
    (ap (λ l. e ∷ l) (removed_unchosen marks rest (and_right (list_all (is_above e.key) rest) (in_order rest) h)))
