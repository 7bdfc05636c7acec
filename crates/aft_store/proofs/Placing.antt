-- What the place of a key says of the table, and what an edit there does.
use Rattle.std.proofs.Common.{◌≡◌, ℕ, zero, suc, ◌+◌, ◌<◌, Bool, true, List, [], ◌∷◌, ◌++◌, length, take, drop, get_or, set, Some, None, ◌≤◌, refl, sym, ap, subst, ◌∙◌, arith, add-one}
use Rattle.std.specs.Prelude.{is_some, ◌&&◌}
use mathlib.Core.Bool.{false≢true}
use Rattle.std.specs.List.{insert, remove, list_all}
use Rattle.std.specs.declared.cmp.Ordering.{Ordering}
use Rattle.std.specs.declared.cmp.Ordering.TheVariants.{Less, Equal, Greater}
use Rattle.std.specs.Ordering.{is_lt, is_gt}
use Rattle.std.proofs.lemmas.List.{take-append-drop, get_or_default}
use Rattle.std.proofs.Math.Seq.{drop-cons}
use Rattle.std.proofs.lemmas.List.Folds.{list_all-append}
use Rattle.aft_entries.specs.declared.entry.Entry.{Entry}
use Rattle.aft_entries.specs.declared.key.Key.{Key}
use Rattle.aft_entries.specs.Order.{key_cmp}
use Rattle.aft_entries.proofs.OrderLemmas.{keys_same, keys_total}
use Rattle.table_model.specs.Table.{lookup, has, put, take_out, in_order, is_above}
use Rattle.table_model.proofs.Tests.{and_left, and_right, and_both, all_weaken}
use Rattle.table_model.proofs.TableLemmas.{turned, above_after, above_trans, lookup_at, lookup_gap, put_at, put_gap, take_out_at, take_out_gap}
use Rattle.aft_store.specs.Places.{IsAt, IsGap, AllBefore, AllAfter}

-- an entry comes before all that stand behind it
rest_above : (table : List Entry) (i : ℕ) (d : Entry) → in_order table ≡ true → i < length table → list_all (is_above (get_or table i d).key) (drop (suc i) table) ≡ true
unfolding in_order
rest_above [] i d h lt = absurd (omega arith)
rest_above (e ∷ rest) zero d h lt = and_left (list_all (is_above e.key) rest) (in_order rest) h
rest_above (e ∷ rest) (suc i) d h lt = rest_above rest i d (and_right (list_all (is_above e.key) rest) (in_order rest) h) (omega arith)

greater_less : (a b : Key) → key_cmp a b ≡ Greater → key_cmp b a ≡ Less
greater_less a b h = turned b a ∙ rw h refl

lt_is : (o : Ordering) → is_lt o ≡ true → o ≡ Less
lt_is Less e = refl
lt_is Equal e = cc
lt_is Greater e = cc

all_at : (p : Entry → Bool) (table : List Entry) (i : ℕ) (d : Entry) → list_all p table ≡ true → i < length table → p (get_or table i d) ≡ true
all_at p [] i d h lt = absurd (omega arith)
all_at p (e ∷ rest) zero d h lt = and_left (p e) (list_all p rest) h
all_at p (e ∷ rest) (suc i) d h lt = all_at p rest i d (and_right (p e) (list_all p rest) h) (omega arith)

-- all that stand before an entry come before it
front_below : (table : List Entry) (i : ℕ) (d : Entry) → in_order table ≡ true → i < length table → AllBefore (get_or table i d).key (take i table)
unfolding in_order
front_below [] i d h lt = absurd (omega arith)
front_below (e ∷ rest) zero d h lt = refl
front_below (e ∷ rest) (suc i) d h lt =
    and_both (is_lt (key_cmp e.key (get_or rest i d).key)) (list_all (λ x. is_lt (key_cmp x.key (get_or rest i d).key)) (take i rest))
    (all_at (is_above e.key) rest i d (and_left (list_all (is_above e.key) rest) (in_order rest) h) (omega arith))
    (front_below rest i d (and_right (list_all (is_above e.key) rest) (in_order rest) h) (omega arith))

take_one_more : (table : List Entry) (i : ℕ) (d : Entry) → i < length table → take (suc i) table ≡ take i table ++ get_or table i d ∷ []
take_one_more [] i d lt = absurd (omega arith)
take_one_more (e ∷ rest) zero d lt = refl
take_one_more (e ∷ rest) (suc i) d lt = ap (λ l. e ∷ l) (take_one_more rest i d (omega arith))

module _ (table : List Entry) (i : ℕ) (key : Key) (d : Entry) (sorted : in_order table ≡ true) (lt : i < length table) where
  -- the entries up to one that comes before the key
  below_past : key_cmp (get_or table i d).key key ≡ Less → AllBefore key (take (suc i) table)
  below_past less =
      let e : Entry = get_or table i d in
      let near = all_weaken (λ x. is_lt (key_cmp x.key e.key)) (λ x. is_lt (key_cmp x.key key)) (take i table) (λ x k. ap is_lt (keys_total.trans x.key e.key key (lt_is (key_cmp x.key e.key) k) less)) (front_below table i d sorted lt) in
      rw (take_one_more table i d lt) (list_all-append (λ x. is_lt (key_cmp x.key key)) (take i table) (e ∷ []) ∙ and_both (list_all (λ x. is_lt (key_cmp x.key key)) (take i table)) (is_lt (key_cmp e.key key) && true) near (and_both (is_lt (key_cmp e.key key)) true (ap is_lt less) refl))

  -- the entries from one on that comes after the key
  above_from : key_cmp (get_or table i d).key key ≡ Greater → AllAfter key (drop i table)
  above_from past =
      let e : Entry = get_or table i d in
      let far = all_weaken (is_above e.key) (λ x. is_gt (key_cmp x.key key)) (drop (suc i) table) (λ x k. above_after key x (above_trans key e.key x (greater_less e.key key past) k)) (rest_above table i d sorted lt) in
      rw (drop-cons table i d lt) (and_both (is_gt (key_cmp e.key key)) (list_all (λ x. is_gt (key_cmp x.key key)) (drop (suc i) table)) (ap is_gt past) far)

  same_key : key_cmp (get_or table i d).key key ≡ Equal → (get_or table i d).key ≡ key
  same_key same = keys_same (get_or table i d).key key same

  around : key_cmp (get_or table i d).key key ≡ Equal → IsAt table key i
  around same =
      let one = same_key same in
      record {
        in_range = lt;
        has_key = λ z. rw (get_or_default table i z d lt) one;
        below = subst (λ k. AllBefore k (take i table)) one (front_below table i d sorted lt);
        above = rw add-one (all_weaken (is_above key) (λ e. is_gt (key_cmp e.key key)) (drop (suc i) table) (above_after key) (subst (λ k. list_all (is_above k) (drop (suc i) table) ≡ true) one (rest_above table i d sorted lt)));
      }

-- the key is nowhere below the one place, and nowhere from the other on
pub record IsBetween (table : List Entry) (key : Key) (low high : ℕ) : Type 0 where
  pub ordered : low ≤ high
  pub in_range : high ≤ length table
  pub below : AllBefore key (take low table)
  pub above : AllAfter key (drop high table)

drop_all : (table : List Entry) → drop (length table) table ≡ []
drop_all [] = refl
drop_all (e ∷ rest) = drop_all rest

-- at first it may be anywhere
pub at_first : (table : List Entry) (key : Key) → IsBetween table key 0 (length table)
at_first table key = record { ordered = omega arith; in_range = omega arith; below = refl; above = rw (drop_all table) refl }

module _ (table : List Entry) (key : Key) (low high at : ℕ) (d : Entry) (sorted : in_order table ≡ true) (between : IsBetween table key low high) (from : low ≤ at) (to : at < high) (is : d ≡ get_or table at d) where
  within : at < length table
  within = let most = between.in_range in omega arith

  pub goes_up : key_cmp d.key key ≡ Less → IsBetween table key (at + 1) high
  goes_up less = record { ordered = omega arith; in_range = between.in_range; below = rw add-one (below_past table at key d sorted within (rw (← is) less)); above = between.above }

  pub goes_down : key_cmp d.key key ≡ Greater → IsBetween table key low at
  goes_down past = record { ordered = from; in_range = let most = between.in_range in omega arith; below = between.below; above = above_from table at key d sorted within (rw (← is) past) }

  pub is_found : key_cmp d.key key ≡ Equal → IsAt table key at
  is_found same = around table at key d sorted within (rw (← is) same)

-- where nothing is left, the key isn't there
pub is_gap : (table : List Entry) (key : Key) (low high : ℕ) → IsBetween table key low high → high ≤ low → IsGap table key low
is_gap table key low high between met =
    let ordered = between.ordered in
    let most = between.in_range in
    let one : high ≡ low = omega arith in
    record { in_range = omega arith; below = between.below; above = subst (λ n. AllAfter key (drop n table)) one between.above }

set_is : (xs : List Entry) (i : ℕ) (y : Entry) → i < length xs → set xs i y ≡ take i xs ++ y ∷ drop (suc i) xs
set_is [] i y lt = absurd (omega arith)
set_is (z ∷ xs) zero y lt = refl
set_is (z ∷ xs) (suc i) y lt = ap (λ l. z ∷ l) (set_is xs i y (omega arith))

module _ (table : List Entry) (key : Key) (at : ℕ) (d : Entry) where
  cut : at < length table → table ≡ take at table ++ get_or table at d ∷ drop (at + 1) table
  cut lt = sym (take-append-drop at table) ∙ rw (drop-cons table at d lt, add-one) refl

  module _ (found : IsAt table key at) where
    pub found_lookup : lookup key table ≡ Some (get_or table at d)
    found_lookup = ap (lookup key) (cut found.in_range) ∙ lookup_at key _ _ found.below found.above (get_or table at d) (found.has_key d)

    pub found_put : (x : Entry) → x.key ≡ key → put x table ≡ set table at x
    found_put x same = ap (put x) (cut found.in_range) ∙ put_at key _ _ found.below found.above x (get_or table at d) same (found.has_key d) ∙ rw add-one (sym (set_is table at x found.in_range))

    pub found_take_out : take_out key table ≡ remove table at
    found_take_out = ap (take_out key) (cut found.in_range) ∙ take_out_at key _ _ found.below found.above (get_or table at d) (found.has_key d) ∙ rw add-one refl

module _ (table : List Entry) (key : Key) (at : ℕ) (gap : IsGap table key at) where
  pub gap_lookup : lookup key table ≡ None
  gap_lookup = ap (lookup key) (sym (take-append-drop at table)) ∙ lookup_gap key _ _ gap.below gap.above

  pub gap_put : (x : Entry) → x.key ≡ key → put x table ≡ insert table at x
  gap_put x same = ap (put x) (sym (take-append-drop at table)) ∙ put_gap key _ _ gap.below gap.above x same

  pub gap_take_out : take_out key table ≡ table
  gap_take_out = ap (take_out key) (sym (take-append-drop at table)) ∙ take_out_gap key _ _ gap.below gap.above ∙ take-append-drop at table

  pub gap_has : has table key ≡ true → ⊥
  gap_has there = false≢true (sym (ap is_some gap_lookup) ∙ there)
