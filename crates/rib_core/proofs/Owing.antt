-- What the removals of a table's entries cost, as the table changes.
use Rattle.std.proofs.Common.{◌≡◌, ℕ, ◌+◌, ◌≤◌, Bool, true, false, List, [], ◌∷◌, ◌++◌, Option, Some, None, length, refl, sym, ap, ◌∙◌, arith}
use Rattle.std.specs.Prelude.{◌-◌, not, cond, filter, find, take, slice_get, option_map, Box}
use Rattle.std.specs.Global.{Global}
use Rattle.std.specs.List.{sum_by}
use Rattle.std.specs.declared.cmp.Ordering.{Ordering}
use Rattle.std.specs.declared.cmp.Ordering.TheVariants.{Less, Equal, Greater}
use Rattle.std.specs.Ordering.{is_lt, is_gt, is_eq, ordering_reverse}
use Rattle.std.proofs.lemmas.List.Sums.{sum_by-cons, sum_by-append, sum_by-take-le, sum_by_push}
use Rattle.std.proofs.lemmas.List.{take_more}
use Rattle.std.proofs.lemmas.Option.{slice_get_within, get_or_from_slice_get}
use Rattle.aft_entries.specs.declared.entry.Entry.{Entry}
use Rattle.aft_entries.specs.declared.key.Key.{Key}
use Rattle.aft_entries.specs.Order.{key_cmp, key_eq}
use Rattle.aft_store.specs.Marked.{chosen, unchosen}
use Rattle.fib_board.specs.Removals.{removal_cost, removal_costs}
use Rattle.table_model.specs.Table.{lookup, put, take_out}
use Rattle.table_model.proofs.TableLemmas.{turned}
use Rattle.fib_board.specs.BoxedWork.{entry_in}
use Rattle.table_model.specs.Jobs.{refs_before}
use Rattle.rib_core.specs.Removals.{removal_cost_in}

costs : (x : Entry) (xs : List Entry) → removal_costs (x ∷ xs) ≡ removal_cost x + removal_costs xs
costs x xs = sum_by-cons removal_cost x xs

-- each entry costs at least one
pub length_costs : (xs : List Entry) → length xs ≤ removal_costs xs
length_costs [] = omega arith
length_costs (x ∷ xs) =
    let rest : length xs ≤ removal_costs xs = length_costs xs in
    let step : removal_costs (x ∷ xs) ≡ removal_cost x + removal_costs xs = costs x xs in
    omega arith

abbrev kept_cost : Bool → Entry → ℕ
kept_cost true x = removal_cost x
kept_cost false x = 0

filter_costs : (b : Bool) (x : Entry) (xs : List Entry) → removal_costs (cond b (x ∷ xs) xs) ≡ kept_cost b x + removal_costs xs
filter_costs true x xs = costs x xs
filter_costs false x xs = omega arith

found_cost : (b : Bool) (x : Entry) (o : Option Entry) → removal_cost_in (cond b (Some x) o) ≤ kept_cost b x + removal_cost_in o
found_cost true x o = omega arith
found_cost false x o = omega arith

-- an entry is in one of two lists at most, or is the one that is found
abbrev parted : Ordering → Bool → Type 0
parted o c = c ≡ is_eq (ordering_reverse o)

one_cost : (o : Ordering) (x : Entry) (found : Option Entry) → removal_cost_in (cond (is_eq (ordering_reverse o)) (Some x) found) + kept_cost (is_lt o) x + kept_cost (is_gt o) x ≤ removal_cost x + removal_cost_in found
one_cost Less x found = omega arith
one_cost Equal x found = omega arith
one_cost Greater x found = omega arith

split_step : (o : Ordering) (x : Entry) (found : Option Entry) (below above rest : ℕ) → below + above + removal_cost_in found ≤ rest
    → (kept_cost (is_lt o) x + below) + (kept_cost (is_gt o) x + above) + removal_cost_in (cond (is_eq (ordering_reverse o)) (Some x) found) ≤ removal_cost x + rest
split_step o x found below above rest h =
    let one : removal_cost_in (cond (is_eq (ordering_reverse o)) (Some x) found) + kept_cost (is_lt o) x + kept_cost (is_gt o) x ≤ removal_cost x + removal_cost_in found = one_cost o x found in
    omega arith

split_costs : (key : Key) (xs : List Entry)
    → removal_costs (filter (λ e. is_lt (key_cmp e.key key)) xs) + removal_costs (filter (λ e. is_gt (key_cmp e.key key)) xs) + removal_cost_in (find (λ e. key_eq key e.key) xs) ≤ removal_costs xs
split_costs key [] = omega arith
split_costs key (x ∷ xs) =
    rw (costs x xs, filter_costs (is_lt (key_cmp x.key key)) x (filter (λ e. is_lt (key_cmp e.key key)) xs), filter_costs (is_gt (key_cmp x.key key)) x (filter (λ e. is_gt (key_cmp e.key key)) xs), turned key x.key)
    (split_step (key_cmp x.key key) x (find (λ e. key_eq key e.key) xs) (removal_costs (filter (λ e. is_lt (key_cmp e.key key)) xs)) (removal_costs (filter (λ e. is_gt (key_cmp e.key key)) xs)) (removal_costs xs) (split_costs key xs))

pub put_costs : (entry : Entry) (table : List Entry) → removal_costs (put entry table) + removal_cost_in (lookup entry.key table) ≤ removal_costs table + removal_cost entry
unfolding put lookup
put_costs entry table =
    let joined : removal_costs (filter (λ e. is_lt (key_cmp e.key entry.key)) table ++ entry ∷ filter (λ e. is_gt (key_cmp e.key entry.key)) table)
    ≡ removal_costs (filter (λ e. is_lt (key_cmp e.key entry.key)) table) + removal_costs (entry ∷ filter (λ e. is_gt (key_cmp e.key entry.key)) table)
    = sum_by-append removal_cost (filter (λ e. is_lt (key_cmp e.key entry.key)) table) (entry ∷ filter (λ e. is_gt (key_cmp e.key entry.key)) table) in
    let step : removal_costs (entry ∷ filter (λ e. is_gt (key_cmp e.key entry.key)) table) ≡ removal_cost entry + removal_costs (filter (λ e. is_gt (key_cmp e.key entry.key)) table)
    = costs entry (filter (λ e. is_gt (key_cmp e.key entry.key)) table) in
    let parts : removal_costs (filter (λ e. is_lt (key_cmp e.key entry.key)) table) + removal_costs (filter (λ e. is_gt (key_cmp e.key entry.key)) table) + removal_cost_in (find (λ e. key_eq entry.key e.key) table) ≤ removal_costs table
    = split_costs entry.key table in
    omega arith

out_step : (b : Bool) (x : Entry) (found : Option Entry) (kept rest : ℕ) → kept + removal_cost_in found ≤ rest
    → (kept_cost (not b) x + kept) + removal_cost_in (cond b (Some x) found) ≤ removal_cost x + rest
out_step true x found kept rest h = omega arith
out_step false x found kept rest h = omega arith

pub take_out_costs : (key : Key) (table : List Entry) → removal_costs (take_out key table) + removal_cost_in (lookup key table) ≤ removal_costs table
unfolding take_out lookup
take_out_costs key [] = omega arith
take_out_costs key (x ∷ xs) =
    rw (costs x xs, filter_costs (not (key_eq key x.key)) x (filter (λ e. not (key_eq key e.key)) xs))
    (out_step (key_eq key x.key) x (find (λ e. key_eq key e.key) xs) (removal_costs (filter (λ e. not (key_eq key e.key)) xs)) (removal_costs xs) (take_out_costs key xs))

chosen_step : (b : Bool) (x : Entry) (stay go : List Entry) (rest : ℕ) → removal_costs stay + removal_costs go ≡ rest
    → removal_costs (cond b (x ∷ stay) stay) + removal_costs (cond b go (x ∷ go)) ≡ removal_cost x + rest
chosen_step true x stay go rest h = let step : removal_costs (x ∷ stay) ≡ removal_cost x + removal_costs stay = costs x stay in omega arith
chosen_step false x stay go rest h = let step : removal_costs (x ∷ go) ≡ removal_cost x + removal_costs go = costs x go in omega arith

-- what stays and what goes cost what all did
pub parted_costs : (marks : List Bool) (xs : List Entry) → removal_costs (chosen marks xs) + removal_costs (unchosen marks xs) ≡ removal_costs xs
parted_costs [] xs = omega arith
parted_costs (mark ∷ marks) [] = refl
parted_costs (mark ∷ marks) (x ∷ xs) = chosen_step mark x (chosen marks xs) (unchosen marks xs) (removal_costs xs) (parted_costs marks xs) ∙ sym (costs x xs)

-- Lengths.

length_filter : (p : Entry → Bool) (xs : List Entry) → length (filter p xs) ≤ length xs
length_filter p [] = omega arith
length_filter p (x ∷ xs) = by_kept (p x) (length_filter p xs)
  where
    by_kept : (b : Bool) → length (filter p xs) ≤ length xs → length (cond b (x ∷ filter p xs) (filter p xs)) ≤ length (x ∷ xs)
    by_kept true h = omega arith
    by_kept false h = omega arith

length_join : (xs ys : List Entry) → length (xs ++ ys) ≡ length xs + length ys
length_join [] ys = omega arith
length_join (x ∷ xs) ys = let rest : length (xs ++ ys) ≡ length xs + length ys = length_join xs ys in omega arith

both_step : (o : Ordering) (x : Entry) (low high : List Entry) (n : ℕ) → length low + length high ≤ n
    → length (cond (is_lt o) (x ∷ low) low) + length (cond (is_gt o) (x ∷ high) high) ≤ 1 + n
both_step Less x low high n h = omega arith
both_step Equal x low high n h = omega arith
both_step Greater x low high n h = omega arith

both_lengths : (key : Key) (xs : List Entry) → length (filter (λ e. is_lt (key_cmp e.key key)) xs) + length (filter (λ e. is_gt (key_cmp e.key key)) xs) ≤ length xs
both_lengths key [] = omega arith
both_lengths key (x ∷ xs) =
    let step : length (filter (λ e. is_lt (key_cmp e.key key)) (x ∷ xs)) + length (filter (λ e. is_gt (key_cmp e.key key)) (x ∷ xs)) ≤ 1 + length xs
    = both_step (key_cmp x.key key) x (filter (λ e. is_lt (key_cmp e.key key)) xs) (filter (λ e. is_gt (key_cmp e.key key)) xs) (length xs) (both_lengths key xs) in
    omega arith

pub length_put : (entry : Entry) (table : List Entry) → length (put entry table) ≤ length table + 1
unfolding put
length_put entry table =
    let joined : length (filter (λ e. is_lt (key_cmp e.key entry.key)) table ++ entry ∷ filter (λ e. is_gt (key_cmp e.key entry.key)) table)
    ≡ length (filter (λ e. is_lt (key_cmp e.key entry.key)) table) + length (entry ∷ filter (λ e. is_gt (key_cmp e.key entry.key)) table)
    = length_join (filter (λ e. is_lt (key_cmp e.key entry.key)) table) (entry ∷ filter (λ e. is_gt (key_cmp e.key entry.key)) table) in
    let parts : length (filter (λ e. is_lt (key_cmp e.key entry.key)) table) + length (filter (λ e. is_gt (key_cmp e.key entry.key)) table) ≤ length table = both_lengths entry.key table in
    omega arith

pub length_take_out : (key : Key) (table : List Entry) → length (take_out key table) ≤ length table
unfolding take_out
length_take_out key table = length_filter (λ e. not (key_eq key e.key)) table

pub length_chosen : (marks : List Bool) (xs : List Entry) → length (chosen marks xs) ≤ length xs
length_chosen [] xs = omega arith
length_chosen (mark ∷ marks) [] = omega arith
length_chosen (mark ∷ marks) (x ∷ xs) = by_mark mark (length_chosen marks xs)
  where
    by_mark : (b : Bool) → length (chosen marks xs) ≤ length xs → length (cond b (x ∷ chosen marks xs) (chosen marks xs)) ≤ length (x ∷ xs)
    by_mark true h = omega arith
    by_mark false h = omega arith

-- the sum goes on by the next entry, and stays within the whole
pub more_costs : (table : List Entry) (n : ℕ) (e : Entry) → slice_get table n ≡ Some e → removal_costs (take (n + 1) table) ≡ removal_costs (take n table) + removal_cost e
more_costs table n e is =
    ap removal_costs (take_more table n e (slice_get_within table n e is)) ∙ rw (get_or_from_slice_get table n e e is) (sum_by_push removal_cost (take n table) e)

pub costs_within : (table : List Entry) (n : ℕ) → removal_costs (take n table) ≤ removal_costs table
costs_within table n = sum_by-take-le removal_cost table n

-- What a job costs, and what the removal that it pays for was owed.

pub refs_cost : (o : Option Entry) → length (refs_before o) ≤ removal_cost_in o
refs_cost None = omega arith
refs_cost (Some entry) = omega arith

pub in_box : (o : Option (Box Entry Global)) → entry_in o ≡ option_map (λ b. b.value) o
in_box None = refl
in_box (Some b) = refl

pub room_for_removal : (o : Option Entry) (owed spare : ℕ) → owed + 1 ≤ spare + removal_cost_in o → removal_cost_in o ≤ owed → owed ≤ spare → 1 + length (refs_before o) ≤ spare
room_for_removal None owed spare free paid held = omega arith
room_for_removal (Some entry) owed spare free paid held = omega arith

pub left_by_removal : (o : Option Entry) (owed spare after : ℕ) → owed + 1 ≤ spare + removal_cost_in o → removal_cost_in o ≤ owed → owed ≤ spare → spare ≤ after + (1 + length (refs_before o)) → owed - removal_cost_in o ≤ after
left_by_removal None owed spare after free paid held falls = omega arith
left_by_removal (Some entry) owed spare after free paid held falls = omega arith
