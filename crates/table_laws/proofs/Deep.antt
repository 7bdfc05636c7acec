-- A group is too deep exactly where the table with it has a chain that is.
use Rattle.std.proofs.Common.{◌≡◌, ℕ, zero, suc, ◌+◌, ◌≤◌, ◌<◌, Bool, true, false, List, [], ◌∷◌, length, Some, None, Option, refl, sym, ap, ◌∙◌, arith, inl, inr, ◌⊎◌}
use Rattle.std.specs.Prelude.{not, ◌||◌, cond, find, max, nat_le, nat_lt, option_and_then}
use Rattle.std.specs.List.{list_any}
use Rattle.std.proofs.lemmas.Bool.Decides.{nat_tests}
use Rattle.aft_entries.specs.declared.entry.Entry.{Entry}
use Rattle.aft_entries.specs.declared.key.Key.{Key}
use Rattle.aft_entries.specs.Order.{key_eq}
use Rattle.aft_entries.proofs.OrderLemmas.{key_eq_same, key_eq_symm, key_eq_refl}
use Rattle.table_model.specs.Table.{lookup, put, backup_of, names_key, chain, depth, above, is_too_deep, is_too_deep_with, is_shallow, in_order}
use Rattle.table_laws.proofs.Chains.{next, longest, is_short, shallow_put, other_next, own_next, chain_beside, more_steps, short_le, shallow_all, found_key}
use Rattle.table_laws.proofs.Whole.{or_right_true}
use Rattle.table_laws.proofs.Members.{In, passes_in, lookup_in}

-- Chains that come back don't end.

module _ (table : List Entry) (a : Key) where
  comes : (m : ℕ) (from : Option Key) → list_any (key_eq a) (chain m table from) ≡ true → (n : ℕ) → ((i : ℕ) → i ≤ n → length (chain i table (Some a)) ≡ i) → length (chain n table from) ≡ n
  comes zero from h n long = cc
  comes (suc m) None h n long = cc
  comes (suc m) (Some k) h n long = by_key (key_eq a k) refl h n long (λ there i more. comes m (next table k) there i more)
    where
      by_key : (b : Bool) → key_eq a k ≡ b → b || list_any (key_eq a) (chain m table (next table k)) ≡ true → (n : ℕ) → ((i : ℕ) → i ≤ n → length (chain i table (Some a)) ≡ i)
          → (list_any (key_eq a) (chain m table (next table k)) ≡ true → (i : ℕ) → ((j : ℕ) → j ≤ i → length (chain j table (Some a)) ≡ j) → length (chain i table (next table k)) ≡ i)
          → length (chain n table (Some k)) ≡ n
      by_key true here h n long go = ap (λ x. length (chain n table (Some x))) (sym (key_eq_same a k here)) ∙ long n (omega arith)
      by_key false here h zero long go = refl
      by_key false here h (suc n) long go = ap suc (go h n (λ i le. long i (omega arith)))

  endless : (b : Key) → next table a ≡ Some b → (m : ℕ) → list_any (key_eq a) (chain m table (Some b)) ≡ true → (n i : ℕ) → i ≤ n → length (chain i table (Some a)) ≡ i
  endless b goes m back n zero le = refl
  endless b goes m back zero (suc i) le = absurd (omega arith)
  endless b goes m back (suc n) (suc i) le =
      ap suc (ap (λ o. length (chain i table o)) goes ∙ comes m (Some b) back i (λ j less. endless b goes m back n j (omega arith)))

-- In a shallow table every chain ends after four groups.

pub found_in : (p : Entry → Bool) (x : Entry) (xs : List Entry) → find p xs ≡ Some x → In x xs
found_in p x [] is = cc
found_in p x (y ∷ xs) is = by_test (p y) is (found_in p x xs)
  where
    by_test : (b : Bool) → cond b (Some y) (find p xs) ≡ Some x → (find p xs ≡ Some x → In x xs) → (y ≡ x) ⊎ In x xs
    by_test true found go = inl cc
    by_test false found go = inr (go found)

pub ends : (m d : ℕ) (table : List Entry) (from : Option Key) → length (chain m table from) < m → length (chain (d + m) table from) ≡ length (chain m table from)
ends zero d table from less = absurd (omega arith)
ends (suc m) d table None less =
    let one : d + suc m ≡ suc (d + m) = omega arith in ap (λ n. length (chain n table None)) one
ends (suc m) d table (Some k) less =
    let one : d + suc m ≡ suc (d + m) = omega arith in
    ap (λ n. length (chain n table (Some k))) one ∙ ap suc (ends m d table (next table k) (omega arith))

module _ (table : List Entry) (shallow : is_shallow table ≡ true) where
  short_by : (k : Key) (o : Option Entry) → lookup k table ≡ o → length (chain 5 table (Some k)) ≤ 4
  unfolding lookup
  short_by k None is = let stops : length (chain 4 table (next table k)) ≡ 0 = ap (λ o. length (chain 4 table (option_and_then backup_of o))) is in omega arith
  short_by k (Some e) is =
      let short = short_le table e.key (passes_in (is_short table) e table (shallow_all table shallow) (found_in (λ x. key_eq k x.key) e table is)) in
      let same : length (chain 5 table (Some k)) ≡ length (chain 5 table (Some e.key)) = ap (λ x. length (chain 5 table (Some x))) (found_key k e table is) in
      omega arith

  pub all_short : (k : Key) → length (chain 5 table (Some k)) ≤ 4
  all_short k = short_by k (lookup k table) refl

  pub never_long : (n : ℕ) (k : Key) → length (chain n table (Some k)) ≤ 4
  never_long n k =
      let five = all_short k in
      let stay : length (chain (n + 5) table (Some k)) ≡ length (chain 5 table (Some k)) = ends 5 n table (Some k) (omega arith) in
      let fewer = more_steps n (n + 5) table (Some k) (omega arith) in
      omega arith

  no_cycle : (a b : Key) → next table a ≡ Some b → (m : ℕ) → list_any (key_eq a) (chain m table (Some b)) ≡ true → ⊥
  no_cycle a b goes m back = let five = endless table a b goes m back 5 5 (omega arith) in let short = all_short a in omega arith

-- The longest chain that comes to a group is that of an entry, if there is one.

record Reached (p : Entry → Bool) (f : Entry → ℕ) (most : ℕ) (table : List Entry) : Type 0 where
  pub entry : Entry
  pub there : In entry table
  pub passes : p entry ≡ true
  pub is : most ≡ 1 + f entry

longest_of : (p : Entry → Bool) (f : Entry → ℕ) (start : ℕ) (table : List Entry) → (longest p f start table ≡ start) ⊎ Reached p f (longest p f start table) table
longest_of p f start [] = inl refl
longest_of p f start (e ∷ table) = by_test (p e) refl (longest_of p f (cond (p e) (max start (1 + f e)) start) table)
  where
    grow : (most : ℕ) → Reached p f most table → Reached p f most (e ∷ table)
    grow most r = record { entry = r.entry; there = inr r.there; passes = r.passes; is = r.is }

    by_max : (most : ℕ) → p e ≡ true → most ≡ max start (1 + f e) → (most ≡ start) ⊎ Reached p f most (e ∷ table)
    by_max most here is = by_le (nat_le (1 + f e) start) refl
      where
        by_le : (b : Bool) → nat_le (1 + f e) start ≡ b → (most ≡ start) ⊎ Reached p f most (e ∷ table)
        by_le true le = inl (grind (arith, nat_tests))
        by_le false le = inr (record { entry = e; there = inl refl; passes = here; is = grind (arith, nat_tests) })

    by_test : (b : Bool) → p e ≡ b → (longest p f (cond (p e) (max start (1 + f e)) start) table ≡ cond (p e) (max start (1 + f e)) start) ⊎ Reached p f (longest p f (cond (p e) (max start (1 + f e)) start) table) table
        → (longest p f (cond (p e) (max start (1 + f e)) start) table ≡ start) ⊎ Reached p f (longest p f (cond (p e) (max start (1 + f e)) start) table) (e ∷ table)
    by_test b here (inr r) = inr (grow _ r)
    by_test true here (inl is) = by_max (longest p f (cond (p e) (max start (1 + f e)) start) table) here (is ∙ ap (λ c. cond c (max start (1 + f e)) start) here)
    by_test false here (inl is) = inl (is ∙ ap (λ c. cond c (max start (1 + f e)) start) here)

named : (o : Option Key) (k : Key) → names_key k o ≡ true → o ≡ Some k
named None k h = cc
named (Some other) k h = ap (λ x. Some x) (key_eq_same other k h)

module _ (e : Entry) (table : List Entry) (sorted : in_order table ≡ true) (shallow : is_shallow table ≡ true) (after : is_shallow (put e table) ≡ true) where
  -- a chain of so many groups, in the table with the entry
  record Long (least : ℕ) : Type 0 where
    pub steps : ℕ
    pub head : Key
    pub long : least ≤ length (chain steps (put e table) (Some head))

  record ComesToIt (group : Key) : Type 0 where
    pub within : ℕ
    pub comes : list_any (key_eq e.key) (chain within table (Some group)) ≡ true

  rises : (i : ℕ) (group : Key) (m least : ℕ) → ComesToIt group → least ≤ length (chain m (put e table) (Some group)) → Long (least + above i table group)
  rises zero group m least to_it long = record { steps = m; head = group; long = omega arith }
  rises (suc i) group m least to_it long = by_longest (longest_of (λ y. names_key group (backup_of y)) (λ y. above i table y.key) 0 table) (λ k n more to_that longer. rises i k n more to_that longer)
    where
      one_more : (y : Entry) → In y table → backup_of y ≡ Some group → ComesToIt y.key × (suc least ≤ length (chain (suc m) (put e table) (Some y.key)))
      one_more y there goes =
          let next_is : next table y.key ≡ Some group = ap (option_and_then backup_of) (lookup_in y table sorted there) ∙ goes in (
            record { within = suc to_it.within; comes = or_right_true (key_eq e.key y.key) _ (ap (λ o. list_any (key_eq e.key) (chain to_it.within table o)) next_is ∙ to_it.comes) },
            by_key (key_eq y.key e.key) refl next_is,
          )
        where
          by_key : (b : Bool) → key_eq y.key e.key ≡ b → next table y.key ≡ Some group → suc least ≤ length (chain (suc m) (put e table) (Some y.key))
          by_key true same next_is = absurd (no_cycle table shallow e.key group (ap (next table) (sym (key_eq_same y.key e.key same)) ∙ next_is) to_it.within to_it.comes)
          by_key false far next_is =
              let on : length (chain m (put e table) (next (put e table) y.key)) ≡ length (chain m (put e table) (Some group)) = ap (λ o. length (chain m (put e table) o)) (other_next e table y.key far ∙ next_is) in
              omega arith

      by_longest : (above (suc i) table group ≡ 0) ⊎ Reached (λ y. names_key group (backup_of y)) (λ y. above i table y.key) (above (suc i) table group) table
          → ((k : Key) (n more : ℕ) → ComesToIt k → more ≤ length (chain n (put e table) (Some k)) → Long (more + above i table k))
          → Long (least + above (suc i) table group)
      by_longest (inl none) go = record { steps = m; head = group; long = omega arith }
      by_longest (inr r) go =
          let two = one_more r.entry r.there (named (backup_of r.entry) group r.passes) in
          let far = go r.entry.key (suc m) (suc least) two.0 two.1 in
          let sum : above (suc i) table group ≡ 1 + above i table r.entry.key = r.is in
          record { steps = far.steps; head = far.head; long = let l : suc least + above i table r.entry.key ≤ length (chain far.steps (put e table) (Some far.head)) = far.long in omega arith }

  same_hit : (m : ℕ) (from : Option Key) → list_any (key_eq e.key) (chain m table from) ≡ list_any (key_eq e.key) (chain m (put e table) from)
  same_hit zero from = refl
  same_hit (suc m) None = refl
  same_hit (suc m) (Some k) = by_key (key_eq e.key k) refl (λ o. same_hit m o)
    where
      by_key : (b : Bool) → key_eq e.key k ≡ b → ((o : Option Key) → list_any (key_eq e.key) (chain m table o) ≡ list_any (key_eq e.key) (chain m (put e table) o))
          → b || list_any (key_eq e.key) (chain m table (next table k)) ≡ b || list_any (key_eq e.key) (chain m (put e table) (next (put e table) k))
      by_key true here go = refl
      by_key false here go = go (next table k) ∙ ap (λ o. list_any (key_eq e.key) (chain m (put e table) o)) (sym (other_next e table k (key_eq_symm k e.key ∙ here)))

  fits_by : (o : Option Key) → backup_of e ≡ o → is_too_deep_with table e.key o ≡ false
  unfolding depth
  fits_by None is = refl
  fits_by (Some b) is = by_hit (list_any (key_eq e.key) (chain 4 table (Some b))) refl
    where
      goes_on : next (put e table) e.key ≡ Some b
      goes_on = own_next e table ∙ is

      within : list_any (key_eq e.key) (chain 4 table (Some b)) ≡ false → 1 + length (chain 4 table (Some b)) + above 4 table e.key ≤ 4
      within beside =
          let behind : length (chain 5 (put e table) (Some e.key)) ≡ suc (length (chain 4 table (Some b))) = ap suc (ap (λ o. length (chain 4 (put e table) o)) goes_on ∙ ap length (chain_beside e table 4 (Some b) beside)) in
          let far = rises 4 e.key 5 (1 + length (chain 4 table (Some b))) (record { within = 1; comes = ap (λ c. c || false) (key_eq_refl e.key) }) (omega arith) in
          let short = never_long (put e table) after far.steps far.head in
          let long = far.long in
          omega arith

      low : (n : ℕ) → n ≤ 4 → nat_lt 4 n ≡ false
      low n le = grind (arith, nat_tests)

      by_hit : (h : Bool) → list_any (key_eq e.key) (chain 4 table (Some b)) ≡ h → h || nat_lt 4 (1 + length (chain 4 table (Some b)) + above 4 table e.key) ≡ false
      by_hit true hit = absurd (no_cycle (put e table) after e.key b goes_on 4 (sym (same_hit 4 (Some b)) ∙ hit))
      by_hit false beside = low _ (within beside)

  pub fits : is_too_deep table e ≡ false
  unfolding is_too_deep
  fits = fits_by (backup_of e) refl

pub deep_is : (table : List Entry) (e : Entry) → in_order table ≡ true → is_shallow table ≡ true → is_too_deep table e ≡ not (is_shallow (put e table))
deep_is table e sorted shallow = by_deep (is_too_deep table e) refl (is_shallow (put e table)) refl
  where
    by_deep : (a : Bool) → is_too_deep table e ≡ a → (b : Bool) → is_shallow (put e table) ≡ b → a ≡ not b
    by_deep true deep true after = sym deep ∙ fits e table sorted shallow after
    by_deep true deep false after = refl
    by_deep false deep true after = refl
    by_deep false deep false after = let no_way : false ≡ true = sym after ∙ shallow_put e table deep shallow in cc
