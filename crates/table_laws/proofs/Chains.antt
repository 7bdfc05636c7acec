-- Chains of backups stay short: by what is put where it isn't too deep, by what is taken out, and by Flushes.
use Rattle.std.proofs.Common.{◌≡◌, ℕ, zero, suc, ◌+◌, ◌≤◌, Bool, true, false, List, [], ◌∷◌, length, Some, None, Option, refl, sym, ap, ◌∙◌, arith, inl, inr, ◌⊎◌}
use Rattle.std.specs.Prelude.{◌-◌, ◌||◌, cond, find, fold, max, nat_le, nat_lt, option_and_then, if◌then◌else◌}
use Rattle.std.specs.List.{list_all, list_any}
use Rattle.std.proofs.lemmas.Bool.Decides.{nat_tests}
use Rattle.aft_entries.specs.declared.entry.Entry.{Entry}
use Rattle.aft_entries.specs.declared.key.Key.{Key}
use Rattle.aft_entries.specs.Order.{key_eq}
use Rattle.aft_entries.proofs.OrderLemmas.{key_eq_same, key_eq_symm, key_eq_refl}
use Rattle.table_model.specs.declared.command.Which.{Which}
use Rattle.table_model.specs.Table.{lookup, put, take_out, backup_of, names_key, chain, depth, above, is_too_deep, is_too_deep_with, is_shallow, stays, kept}
use Rattle.table_model.proofs.Closed.{all_put, all_taken, or_left, or_right}
use Rattle.table_model.proofs.Tests.{all_weaken, all_filter}
use Rattle.table_model.proofs.LookupLemmas.{lookup_put_same, lookup_put_other, lookup_take_out_same, lookup_take_out_other, find_filter_in, find_filter_out}

-- the group that the chain goes on to
abbrev pub next : List Entry → Key → Option Key
next table group = option_and_then backup_of (lookup group table)

-- A table in which each key goes on as in another, or not at all, has chains no longer than that.

abbrev pub GoesOnAs : List Entry → List Entry → Type 0
GoesOnAs new old = (k : Key) → (next new k ≡ next old k) ⊎ (next new k ≡ None)

pub chain_none : (n : ℕ) (table : List Entry) → length (chain n table None) ≡ 0
chain_none zero table = refl
chain_none (suc n) table = refl

module _ (new old : List Entry) (same : GoesOnAs new old) where
  goes_on : (n : ℕ) (one other : Option Key) → (one ≡ other) ⊎ (one ≡ None) → length (chain n new other) ≤ length (chain n old other) → length (chain n new one) ≤ length (chain n old other)
  goes_on n one other (inl is) le = rw is le
  goes_on n one other (inr gone) le = rw gone (omega (arith, chain_none n new))

  pub fewer_groups : (n : ℕ) (from : Option Key) → length (chain n new from) ≤ length (chain n old from)
  fewer_groups zero from = omega arith
  fewer_groups (suc n) None = omega arith
  fewer_groups (suc n) (Some k) = let rest : length (chain n new (next new k)) ≤ length (chain n old (next old k)) = goes_on n (next new k) (next old k) (same k) (fewer_groups n (next old k)) in omega arith

-- more steps give no shorter chain
pub more_steps : (m n : ℕ) (table : List Entry) (from : Option Key) → m ≤ n → length (chain m table from) ≤ length (chain n table from)
more_steps zero n table from le = omega arith
more_steps (suc m) zero table from le = absurd (omega arith)
more_steps (suc m) (suc n) table None le = omega arith
more_steps (suc m) (suc n) table (Some k) le = let rest : length (chain m table (next table k)) ≤ length (chain n table (next table k)) = more_steps m n table (next table k) (omega arith) in omega arith

abbrev pub is_short : List Entry → Entry → Bool
is_short table e = nat_le (length (chain 5 table (Some e.key))) 4

pub short_le : (table : List Entry) (k : Key) → nat_le (length (chain 5 table (Some k))) 4 ≡ true → length (chain 5 table (Some k)) ≤ 4
short_le table k h = grind (arith, nat_tests)

le_short : (table : List Entry) (k : Key) → length (chain 5 table (Some k)) ≤ 4 → nat_le (length (chain 5 table (Some k))) 4 ≡ true
le_short table k h = grind (arith, nat_tests)

-- so it stays shallow, where its entries are of the other
shallow_fewer : (new old : List Entry) → GoesOnAs new old → list_all (is_short old) new ≡ true → is_shallow new ≡ true
unfolding is_shallow
shallow_fewer new old same h =
    all_weaken (is_short old) (is_short new) new
    (λ e k. let le : length (chain 5 new (Some e.key)) ≤ length (chain 5 old (Some e.key)) = fewer_groups new old same 5 (Some e.key) in let short = short_le old e.key k in le_short new e.key (omega arith)) h

pub shallow_all : (table : List Entry) → is_shallow table ≡ true → list_all (is_short table) table ≡ true
unfolding is_shallow
shallow_all table h = h

all_shallow : (table : List Entry) → list_all (is_short table) table ≡ true → is_shallow table ≡ true
unfolding is_shallow
all_shallow table h = h

-- What is taken out.

next_by : (new old : List Entry) (k : Key) → lookup k new ≡ lookup k old → next new k ≡ next old k
next_by new old k is = ap (option_and_then backup_of) is

next_gone : (new : List Entry) (k : Key) → lookup k new ≡ None → next new k ≡ None
next_gone new k gone = ap (option_and_then backup_of) gone

taken_goes_on : (key : Key) (table : List Entry) (k : Key) (b : Bool) → key_eq k key ≡ b → (next (take_out key table) k ≡ next table k) ⊎ (next (take_out key table) k ≡ None)
taken_goes_on key table k true is = inr (next_gone (take_out key table) k (ap (λ x. lookup x (take_out key table)) (key_eq_same k key is) ∙ lookup_take_out_same key table))
taken_goes_on key table k false is = inl (next_by (take_out key table) table k (lookup_take_out_other k key table is))

pub shallow_take_out : (key : Key) (table : List Entry) → is_shallow table ≡ true → is_shallow (take_out key table) ≡ true
shallow_take_out key table h = shallow_fewer (take_out key table) table (λ k. taken_goes_on key table k (key_eq k key) refl) (all_taken (is_short table) key table (shallow_all table h))

-- What a Flush leaves.

module _ (table : List Entry) (which : Which) where
  kept_lookup : (k : Key) (b : Bool) → stays (length table) table which k ≡ b → (lookup k (kept table which) ≡ lookup k table) ⊎ (lookup k (kept table which) ≡ None)
  unfolding lookup kept
  kept_lookup k true is = inl (find_filter_in (λ e. key_eq k e.key) (λ e. stays (length table) table which e.key) table (λ x h. ap (stays (length table) table which) (sym (key_eq_same k x.key h)) ∙ is))
  kept_lookup k false is = inr (find_filter_out (λ e. key_eq k e.key) (λ e. stays (length table) table which e.key) table (λ x h. ap (stays (length table) table which) (sym (key_eq_same k x.key h)) ∙ is))

  kept_next : (k : Key) → (lookup k (kept table which) ≡ lookup k table) ⊎ (lookup k (kept table which) ≡ None) → (next (kept table which) k ≡ next table k) ⊎ (next (kept table which) k ≡ None)
  kept_next k (inl is) = inl (next_by (kept table which) table k is)
  kept_next k (inr gone) = inr (next_gone (kept table which) k gone)

  all_left : (p : Entry → Bool) → list_all p table ≡ true → list_all p (kept table which) ≡ true
  unfolding kept
  all_left p h = all_filter p (λ e. stays (length table) table which e.key) table h

  pub shallow_kept : is_shallow table ≡ true → is_shallow (kept table which) ≡ true
  shallow_kept h = shallow_fewer (kept table which) table (λ k. kept_next k (kept_lookup k (stays (length table) table which k) refl)) (all_left (is_short table) (shallow_all table h))

-- How long a chain comes to a group.

abbrev pub longest : (Entry → Bool) → (Entry → ℕ) → ℕ → List Entry → ℕ
longest p f start table = fold (λ most e. if p e then max most (1 + f e) else most) start table

longest_start : (p : Entry → Bool) (f : Entry → ℕ) (start : ℕ) (table : List Entry) → start ≤ longest p f start table
longest_start p f start [] = omega arith
longest_start p f start (e ∷ table) = step (p e) (longest_start p f (cond (p e) (max start (1 + f e)) start) table)
  where
    step : (b : Bool) → cond b (max start (1 + f e)) start ≤ longest p f (cond (p e) (max start (1 + f e)) start) table → start ≤ longest p f (cond (p e) (max start (1 + f e)) start) table
    step true le = omega arith
    step false le = le

longest_step : (b : Bool) (s t m n : ℕ) → s ≤ t → m ≤ n → cond b (max s (1 + m)) s ≤ cond b (max t (1 + n)) t
longest_step true s t m n le more = omega arith
longest_step false s t m n le more = le

longest_more : (p : Entry → Bool) (f g : Entry → ℕ) → ((e : Entry) → f e ≤ g e) → (s t : ℕ) → s ≤ t → (table : List Entry) → longest p f s table ≤ longest p g t table
longest_more p f g more s t le [] = le
longest_more p f g more s t le (e ∷ table) = longest_more p f g more (cond (p e) (max s (1 + f e)) s) (cond (p e) (max t (1 + g e)) t) (longest_step (p e) s t (f e) (g e) le (more e)) table

has_step : (p : Entry → Bool) (f : Entry → ℕ) (x e : Entry) (start : ℕ) (table : List Entry) (rest : Option Entry) → p x ≡ true → (rest ≡ Some x → 1 + f x ≤ longest p f (cond (p e) (max start (1 + f e)) start) table)
    → (b : Bool) → cond b (Some e) rest ≡ Some x → 1 + f x ≤ longest p f (cond (p e) (max start (1 + f e)) start) table
has_step p f x e start table rest here go true is =
    let one : e ≡ x = cc in
    let le : cond (p e) (max start (1 + f e)) start ≤ longest p f (cond (p e) (max start (1 + f e)) start) table = longest_start p f (cond (p e) (max start (1 + f e)) start) table in
    let now : cond (p e) (max start (1 + f e)) start ≡ max start (1 + f e) = ap (λ b. cond b (max start (1 + f e)) start) (ap p one ∙ here) in
    let same : f e ≡ f x = ap f one in
    omega arith
has_step p f x e start table rest here go false is = go is

longest_has : (q p : Entry → Bool) (f : Entry → ℕ) (x : Entry) → p x ≡ true → (start : ℕ) (table : List Entry) → find q table ≡ Some x → 1 + f x ≤ longest p f start table
longest_has q p f x here start [] found = cc
longest_has q p f x here start (e ∷ table) found = has_step p f x e start table (find q table) here (λ is. longest_has q p f x here (cond (p e) (max start (1 + f e)) start) table is) (q e) found

above_more : (n : ℕ) (table : List Entry) (group : Key) → above n table group ≤ above (suc n) table group
above_more zero table group = omega arith
above_more (suc n) table group = longest_more (λ e. names_key group (backup_of e)) (λ e. above n table e.key) (λ e. above (suc n) table e.key) (λ e. above_more n table e.key) 0 0 (omega arith) table

above_most : (m d n : ℕ) (table : List Entry) (group : Key) → n ≡ d + m → above m table group ≤ above n table group
above_most m zero n table group is = let same : above n table group ≡ above m table group = ap (λ k. above k table group) (omega arith) in omega arith
above_most m (suc d) n table group is =
    let before : above m table group ≤ above (d + m) table group = above_most m d (d + m) table group refl in
    let more = above_more (d + m) table group in
    let last : n ≡ suc (d + m) = omega arith in
    let same : above n table group ≡ above (suc (d + m)) table group = ap (λ k. above k table group) last in
    omega arith

names_by : (o : Option Key) (k : Key) → o ≡ Some k → names_key k o ≡ true
names_by None k h = cc
names_by (Some other) k h = let one : other ≡ k = cc in rw one (key_eq_refl k)

found_step : (k : Key) (x e : Entry) (rest : Option Entry) → (rest ≡ Some e → k ≡ e.key) → (b : Bool) → key_eq k x.key ≡ b → cond b (Some x) rest ≡ Some e → k ≡ e.key
found_step k x e rest go true here f = let one : x ≡ e = cc in key_eq_same k x.key here ∙ ap (λ (y : Entry). y.key) one
found_step k x e rest go false here f = go f

pub found_key : (k : Key) (e : Entry) (xs : List Entry) → find (λ x. key_eq k x.key) xs ≡ Some e → k ≡ e.key
found_key k e [] h = cc
found_key k e (x ∷ xs) h = found_step k x e (find (λ y. key_eq k y.key) xs) (found_key k e xs) (key_eq k x.key) refl h

-- one step on, one group more
above_next_by : (i : ℕ) (table : List Entry) (k l : Key) (found : Option Entry) → lookup k table ≡ found → option_and_then backup_of found ≡ Some l → i ≤ above i table k → suc i ≤ above (suc i) table l
unfolding lookup
above_next_by i table k l None is goes le = cc
above_next_by i table k l (Some e) is goes le =
    let at : e.key ≡ k = sym (found_key k e table is) in
    let more : 1 + above i table e.key ≤ above (suc i) table l = longest_has (λ x. key_eq k x.key) (λ x. names_key l (backup_of x)) (λ x. above i table x.key) e (names_by (backup_of e) l goes) 0 table is in
    let same : above i table e.key ≡ above i table k = ap (above i table) at in
    omega arith

-- What is put.

module _ (e : Entry) (table : List Entry) where
  pub other_next : (k : Key) → key_eq k e.key ≡ false → next (put e table) k ≡ next table k
  other_next k apart = next_by (put e table) table k (lookup_put_other k e table apart)

  pub own_next : next (put e table) e.key ≡ backup_of e
  own_next = ap (option_and_then backup_of) (lookup_put_same e table)

  -- a chain that doesn't come to the entry is as before
  pub chain_beside : (n : ℕ) (from : Option Key) → list_any (key_eq e.key) (chain n table from) ≡ false → chain n (put e table) from ≡ chain n table from
  chain_beside zero from apart = refl
  chain_beside (suc n) None apart = refl
  chain_beside (suc n) (Some k) apart =
      let here : key_eq k e.key ≡ false = key_eq_symm k e.key ∙ or_left (key_eq e.key k) (list_any (key_eq e.key) (chain n table (next table k))) apart in
      let rest = chain_beside n (next table k) (or_right (key_eq e.key k) (list_any (key_eq e.key) (chain n table (next table k))) apart) in
      ap (λ ks. k ∷ ks) (ap (chain n (put e table)) (other_next k here) ∙ rest)

  -- the chain behind the entry leaves room for the groups above it
  module _ (behind : (n : ℕ) → n ≤ 4 → length (chain n (put e table) (backup_of e)) + 1 + above 4 table e.key ≤ 4) where
    short_step : (m i : ℕ) (k : Key) → i + suc m ≡ 5 → i ≤ above i table k → (length (chain (suc m) table (Some k)) + i ≤ 4) ⊎ (k ≡ e.key)
        → ((l : Key) → suc i + m ≡ 5 → suc i ≤ above (suc i) table l → length (chain m table (Some l)) + suc i ≤ 4 → length (chain m (put e table) (Some l)) + suc i ≤ 4)
        → length (chain (suc m) (put e table) (Some k)) + i ≤ 4
    short_step m i k five high low go = by_key (key_eq k e.key) refl low
      where
        by_next : (o : Option Key) → next table k ≡ o → length (chain (suc m) table (Some k)) + i ≤ 4 → length (chain m (put e table) o) + suc i ≤ 4
        by_next None is le = omega (arith, chain_none m (put e table))
        by_next (Some l) is le =
            let rest : length (chain m table (next table k)) ≡ length (chain m table (Some l)) = ap (λ o. length (chain m table o)) is in
            go l (omega arith) (above_next_by i table k l (lookup k table) refl is high) (omega arith)

        by_key : (b : Bool) → key_eq k e.key ≡ b → (length (chain (suc m) table (Some k)) + i ≤ 4) ⊎ (k ≡ e.key) → length (chain (suc m) (put e table) (Some k)) + i ≤ 4
        by_key true at either =
            let one : k ≡ e.key = key_eq_same k e.key at in
            let next_is : next (put e table) k ≡ backup_of e = ap (next (put e table)) one ∙ own_next in
            let rest : length (chain m (put e table) (next (put e table) k)) ≡ length (chain m (put e table) (backup_of e)) = ap (λ o. length (chain m (put e table) o)) next_is in
            let room = behind m (omega arith) in
            let most : above i table k ≤ above 4 table k = above_most i (4 - i) 4 table k (omega arith) in
            let most_is : above 4 table k ≡ above 4 table e.key = ap (above 4 table) one in
            omega arith
        by_key false apart (inl le) =
            let rest : length (chain m (put e table) (next (put e table) k)) ≡ length (chain m (put e table) (next table k)) = ap (λ o. length (chain m (put e table) o)) (other_next k apart) in
            let all = by_next (next table k) refl le in
            omega arith
        by_key false apart (inr at) = absurd (let same : key_eq k e.key ≡ true = ap (λ x. key_eq x e.key) at ∙ key_eq_refl e.key in let no_way : false ≡ true = sym apart ∙ same in cc)

    short_from : (m i : ℕ) (k : Key) → i + m ≡ 5 → i ≤ above i table k → length (chain m table (Some k)) + i ≤ 4 → length (chain m (put e table) (Some k)) + i ≤ 4
    short_from zero i k five high low = absurd (omega arith)
    short_from (suc m) i k five high low = short_step m i k five high (inl low) (λ l more up le. short_from m (suc i) l more up le)

    shallow_behind : is_shallow table ≡ true → is_shallow (put e table) ≡ true
    shallow_behind h =
        all_shallow (put e table)
        (all_put (is_short (put e table)) e table
        (all_weaken (is_short table) (is_short (put e table)) table (λ x k. let short = short_le table x.key k in le_short (put e table) x.key (let le = short_from 5 0 x.key refl (omega arith) (omega arith) in omega arith)) (shallow_all table h))
        (le_short (put e table) e.key (let le = short_step 4 0 e.key refl (omega arith) (inr refl) (λ l more up low. short_from 4 1 l more up low) in omega arith)))

not_deep : (a : Bool) (n : ℕ) → a || nat_lt 4 n ≡ false → (a ≡ false) × (n ≤ 4)
not_deep true n h = cc
not_deep false n h = (refl, grind (arith, nat_tests))

pub shallow_put : (e : Entry) (table : List Entry) → is_too_deep table e ≡ false → is_shallow table ≡ true → is_shallow (put e table) ≡ true
unfolding is_too_deep depth
shallow_put e table fits h = by_backup (backup_of e) refl
  where
    alone : backup_of e ≡ None → is_shallow (put e table) ≡ true
    alone is = all_shallow (put e table)
        (all_put (is_short (put e table)) e table
        (all_weaken (is_short table) (is_short (put e table)) table (λ x k. let short = short_le table x.key k in let le : length (chain 5 (put e table) (Some x.key)) ≤ length (chain 5 table (Some x.key)) = fewer_groups (put e table) table (λ y. goes y (key_eq y e.key) refl) 5 (Some x.key) in le_short (put e table) x.key (omega arith)) (shallow_all table h))
        (le_short (put e table) e.key (let ends : length (chain 4 (put e table) (next (put e table) e.key)) ≡ 0 = ap (λ o. length (chain 4 (put e table) o)) (own_next e table ∙ is) in omega arith)))
      where
        goes : (y : Key) (b : Bool) → key_eq y e.key ≡ b → (next (put e table) y ≡ next table y) ⊎ (next (put e table) y ≡ None)
        goes y true at = inr (ap (next (put e table)) (key_eq_same y e.key at) ∙ own_next e table ∙ is)
        goes y false apart = inl (other_next e table y apart)

    by_backup : (o : Option Key) → backup_of e ≡ o → is_shallow (put e table) ≡ true
    by_backup None is = alone is
    by_backup (Some b) is =
        let two = not_deep (list_any (key_eq e.key) (chain 4 table (Some b))) (1 + length (chain 4 table (Some b)) + above 4 table e.key) (ap (is_too_deep_with table e.key) (sym is) ∙ fits) in
        let same : chain 4 (put e table) (Some b) ≡ chain 4 table (Some b) = chain_beside e table 4 (Some b) two.0 in
        shallow_behind e table
        (λ n le. let own : length (chain n (put e table) (backup_of e)) ≡ length (chain n (put e table) (Some b)) = ap (λ o. length (chain n (put e table) o)) is in let fewer = more_steps n 4 (put e table) (Some b) le in let behind : length (chain 4 (put e table) (Some b)) ≡ length (chain 4 table (Some b)) = ap length same in let room = two.1 in omega arith)
        h
