-- What a flush leaves of a closed table is closed: chains as long as the table reach all that can be reached.
use Rattle.std.proofs.Common.{◌≡◌, ℕ, zero, suc, ◌<◌, ◌≤◌, Bool, true, false, List, [], ◌∷◌, length, Some, refl, sym, ap, ◌∙◌, arith, inl, inr, ◌⊎◌}
use Rattle.std.specs.Prelude.{not, ◌&&◌, ◌||◌, cond, filter, find, is_some}
use Rattle.std.specs.List.{list_all, list_any}
use Rattle.aft_entries.specs.declared.entry.Entry.{Entry}
use Rattle.aft_entries.specs.declared.key.Key.{Key}
use Rattle.aft_entries.specs.Order.{key_eq}
use Rattle.aft_entries.specs.References.{refs_of, is_among, refers}
use Rattle.aft_entries.proofs.OrderLemmas.{key_eq_same, key_eq_refl}
use Rattle.table_model.specs.declared.command.Which.{Which}
use Rattle.table_model.specs.Table.{lookup, has, resolves, stays, kept}
use Rattle.table_model.specs.Laws.{is_closed}
use Rattle.table_model.proofs.Tests.{and_left, and_right, and_both, all_weaken}
use Rattle.table_model.proofs.LookupLemmas.{find_filter_in}

-- how many pass
abbrev passes : {X : Type 0} → (X → Bool) → List X → ℕ
passes p [] = 0
passes p (x ∷ xs) = cond (p x) (suc (passes p xs)) (passes p xs)

abbrev implies : Bool → Bool → Bool
implies a b = not a || b

module _ {X : Type 0} (p q : X → Bool) where
  count_step : (a b : Bool) (m n : ℕ) → (a ≡ true → b ≡ true) → m ≤ n → cond a (suc m) m ≤ cond b (suc n) n
  count_step true true m n h le = omega arith
  count_step true false m n h le = let no_way : false ≡ true = h refl in cc
  count_step false true m n h le = omega arith
  count_step false false m n h le = le

  passes_le : (xs : List X) → ((x : X) → p x ≡ true → q x ≡ true) → passes p xs ≤ passes q xs
  passes_le [] h = omega arith
  passes_le (x ∷ xs) h = count_step (p x) (q x) (passes p xs) (passes q xs) (h x) (passes_le xs h)

  -- fewer pass p where not all that pass q do
  fewer_step : (a b : Bool) (m n : ℕ) (rest : Bool) → (a ≡ true → b ≡ true) → m ≤ n → (rest ≡ false → m < n) → implies b a && rest ≡ false → cond a (suc m) m < cond b (suc n) n
  fewer_step true true m n rest h le less e = let l : m < n = less e in omega arith
  fewer_step true false m n rest h le less e = let no_way : false ≡ true = h refl in cc
  fewer_step false true m n rest h le less e = omega arith
  fewer_step false false m n rest h le less e = less e

  fewer : (xs : List X) → ((x : X) → p x ≡ true → q x ≡ true) → list_all (λ x. implies (q x) (p x)) xs ≡ false → passes p xs < passes q xs
  fewer [] h e = cc
  fewer (x ∷ xs) h e = fewer_step (p x) (q x) (passes p xs) (passes q xs) (list_all (λ y. implies (q y) (p y)) xs) (h x) (passes_le xs h) (fewer xs h) e

module _ {X : Type 0} (p : X → Bool) where
  short_step : (a : Bool) (m n : ℕ) → m ≤ n → cond a (suc m) m ≤ suc n
  short_step true m n le = omega arith
  short_step false m n le = omega arith

  passes_short : (xs : List X) → passes p xs ≤ length xs
  passes_short [] = omega arith
  passes_short (x ∷ xs) = short_step (p x) (passes p xs) (length xs) (passes_short xs)

  all_step : (a : Bool) (m n : ℕ) (rest : Bool) → m ≤ n → suc n ≤ cond a (suc m) m → (n ≤ m → rest ≡ true) → a && rest ≡ true
  all_step true m n rest le full go = go (omega arith)
  all_step false m n rest le full go = absurd (omega arith)

  all_pass : (xs : List X) → length xs ≤ passes p xs → list_all p xs ≡ true
  all_pass [] h = refl
  all_pass (x ∷ xs) h = all_step (p x) (passes p xs) (length xs) (list_all p xs) (passes_short xs) h (all_pass xs)

  -- an element that is found passes what all pass
  found_step : (a b : Bool) (x : X) → p x ≡ a → (q : X → Bool) (xs : List X) → q x ≡ true → (is_some (find p xs) ≡ true → (y : X) × (p y ≡ true) × (q y ≡ true)) → is_some (cond a (Some x) (find p xs)) ≡ true → (y : X) × (p y ≡ true) × (q y ≡ true)
  found_step true b x is q xs here go found = (x, is, here)
  found_step false b x is q xs here go found = go found

  found_passes : (q : X → Bool) (xs : List X) → list_all q xs ≡ true → is_some (find p xs) ≡ true → (y : X) × (p y ≡ true) × (q y ≡ true)
  found_passes q [] all found = cc
  found_passes q (x ∷ xs) all found = found_step (p x) true x refl q xs (and_left (q x) (list_all q xs) all) (found_passes q xs (and_right (q x) (list_all q xs) all)) found

or_true : (a b : Bool) → a ≡ true → a || b ≡ true
or_true true b h = refl
or_true false b h = cc

or_right_true : (a b : Bool) → b ≡ true → a || b ≡ true
or_right_true true b h = refl
or_right_true false b h = h

implied : (a b : Bool) → implies a b ≡ true → a ≡ true → b ≡ true
implied true b h e = h
implied false b h e = cc

implied_by : (a b : Bool) → b ≡ true → implies a b ≡ true
implied_by a b h = or_right_true (not a) b h

any_same : {X : Type 0} (p q : X → Bool) (xs : List X) → list_all (λ x. implies (p x) (q x)) xs ≡ true → list_any p xs ≡ true → list_any q xs ≡ true
any_same p q [] all h = h
any_same p q (x ∷ xs) all h = step (p x) (q x) (list_any p xs) (list_any q xs) (and_left (implies (p x) (q x)) (list_all (λ y. implies (p y) (q y)) xs) all) (any_same p q xs (and_right (implies (p x) (q x)) (list_all (λ y. implies (p y) (q y)) xs) all)) h
  where
    step : (a b m n : Bool) → implies a b ≡ true → (m ≡ true → n ≡ true) → a || m ≡ true → b || n ≡ true
    step true b m n here go e = or_true b n here
    step false b m n here go e = or_right_true b n (go e)

module _ (table : List Entry) (which : Which) where
  abbrev test : ℕ → Entry → Bool
  test n e = stays n table which e.key

  grows : (n : ℕ) (e : Entry) → test n e ≡ true → test (suc n) e ≡ true
  grows n e h = or_true (test n e) (list_any (λ x. stays n table which x.key && refers x e.key) table) h

  abbrev is_stable : ℕ → Bool
  is_stable n = list_all (λ e. implies (test (suc n) e) (test n e)) table

  -- what a step more reaches, once no step brings an entry
  next_same : (n : ℕ) → is_stable n ≡ true → (key : Key) → stays (suc (suc n)) table which key ≡ true → stays (suc n) table which key ≡ true
  next_same n stable key h = by_parts (stays (suc n) table which key) refl h
    where
      later : list_any (λ e. stays (suc n) table which e.key && refers e key) table ≡ true → stays (suc n) table which key ≡ true
      later any = or_right_true (stays n table which key) (list_any (λ e. stays n table which e.key && refers e key) table)
          (any_same (λ e. stays (suc n) table which e.key && refers e key) (λ e. stays n table which e.key && refers e key) table
          (all_weaken (λ e. implies (test (suc n) e) (test n e)) (λ e. implies (stays (suc n) table which e.key && refers e key) (stays n table which e.key && refers e key)) table (λ e s. carried (stays (suc n) table which e.key) (stays n table which e.key) (refers e key) s) stable) any)
        where
          carried : (a b r : Bool) → implies a b ≡ true → implies (a && r) (b && r) ≡ true
          carried true true true s = refl
          carried true true false s = refl
          carried true false r s = cc
          carried false b r s = refl

      by_parts : (b : Bool) → stays (suc n) table which key ≡ b → b || list_any (λ e. stays (suc n) table which e.key && refers e key) table ≡ true → stays (suc n) table which key ≡ true
      by_parts true is e = is
      by_parts false is e = later e

  stable_next : (n : ℕ) → is_stable n ≡ true → is_stable (suc n) ≡ true
  stable_next n stable = each table
    where
      one : (a b : Bool) → (a ≡ true → b ≡ true) → implies a b ≡ true
      one true b h = h refl
      one false b h = refl

      each : (xs : List Entry) → list_all (λ e. implies (test (suc (suc n)) e) (test (suc n) e)) xs ≡ true
      each [] = refl
      each (e ∷ xs) = and_both (implies (test (suc (suc n)) e) (test (suc n) e)) (list_all (λ x. implies (test (suc (suc n)) x) (test (suc n) x)) xs) (one (test (suc (suc n)) e) (test (suc n) e) (next_same n stable e.key)) (each xs)

  reach_more : (n : ℕ) (b : Bool) → is_stable n ≡ b → n ≤ passes (test n) table → (is_stable (suc n) ≡ true) ⊎ (suc n ≤ passes (test (suc n)) table)
  reach_more n true stable le = inl (stable_next n stable)
  reach_more n false moving le = let more : passes (test n) table < passes (test (suc n)) table = fewer (test n) (test (suc n)) table (grows n) moving in inr (omega arith)

  -- either no step brings an entry, or each brought one
  reached : (n : ℕ) → (is_stable n ≡ true) ⊎ (n ≤ passes (test n) table)
  reached zero = inr (omega arith)
  reached (suc n) = elim (reached n) [ inl stable ↦ inl (stable_next n stable) | inr le ↦ reach_more n (is_stable n) refl le ]

  stable_end : is_stable (length table) ≡ true
  stable_end = elim (reached (length table)) [
    | inl stable ↦ stable
    | inr le ↦ all_weaken (test (length table)) (λ e. implies (test (suc (length table)) e) (test (length table) e)) table (λ e h. implied_by (test (suc (length table)) e) (test (length table) e) h) (all_pass (test (length table)) table le)
  ]

  is_of : Key → Entry → Bool
  is_of key e = key_eq key e.key

  -- a reference of an entry that stays is there and stays
  has_kept : (key : Key) → has table key ≡ true → list_any (λ e. test (length table) e && refers e key) table ≡ true → has (kept table which) key ≡ true
  unfolding lookup kept
  has_kept key there named =
      let more : stays (suc (length table)) table which key ≡ true = or_right_true (stays (length table) table which key) (list_any (λ e. test (length table) e && refers e key) table) named in
      let y = found_passes (λ e. key_eq key e.key) (λ e. implies (test (suc (length table)) e) (test (length table) e)) table stable_end there in
      let one : y.0.key ≡ key = sym (key_eq_same key y.0.key y.1) in
      let stays_here : stays (length table) table which key ≡ true = ap (stays (length table) table which) (sym one) ∙ implied (test (suc (length table)) y.0) (test (length table) y.0) y.2 (ap (stays (suc (length table)) table which) one ∙ more) in
      ap is_some (find_filter_in (λ e. key_eq key e.key) (test (length table)) table (λ x h. ap (stays (length table) table which) (sym (key_eq_same key x.key h)) ∙ stays_here)) ∙ there

  all_among : (keys : List Key) → list_all (λ key. is_among key keys) keys ≡ true
  all_among [] = refl
  all_among (k ∷ keys) = and_both (is_among k (k ∷ keys)) (list_all (λ key. is_among key (k ∷ keys)) keys) (or_true (key_eq k k) (is_among k keys) (key_eq_refl k))
      (all_weaken (λ key. is_among key keys) (λ key. is_among key (k ∷ keys)) keys (λ key h. or_right_true (key_eq key k) (is_among key keys) h) (all_among keys))

  both_all : {X : Type 0} (p q : X → Bool) (xs : List X) → list_all p xs ≡ true → list_all q xs ≡ true → list_all (λ x. p x && q x) xs ≡ true
  both_all p q [] h k = refl
  both_all p q (x ∷ xs) h k = and_both (p x && q x) (list_all (λ y. p y && q y) xs) (and_both (p x) (q x) (and_left (p x) (list_all p xs) h) (and_left (q x) (list_all q xs) k)) (both_all p q xs (and_right (p x) (list_all p xs) h) (and_right (q x) (list_all q xs) k))

  entry_closed : (e : Entry) → resolves table e ≡ true → ((f : Entry → Bool) → f e ≡ true → list_any f table ≡ true) → test (length table) e ≡ true → resolves (kept table which) e ≡ true
  unfolding resolves
  entry_closed e there member here =
      all_weaken (λ key. has table key && is_among key (refs_of e)) (has (kept table which)) (refs_of e)
      (λ key h. has_kept key (and_left (has table key) (is_among key (refs_of e)) h) (member (λ x. test (length table) x && refers x key) (and_both (test (length table) e) (refers e key) here (and_right (has table key) (is_among key (refs_of e)) h))))
      (both_all (has table) (λ key. is_among key (refs_of e)) (refs_of e) there (all_among (refs_of e)))

  kept_step : (b : Bool) (e : Entry) (xs : List Entry) → (b ≡ true → resolves (kept table which) e ≡ true) → list_all (resolves (kept table which)) (filter (test (length table)) xs) ≡ true → list_all (resolves (kept table which)) (cond b (e ∷ filter (test (length table)) xs) (filter (test (length table)) xs)) ≡ true
  kept_step true e xs here rest = and_both (resolves (kept table which) e) (list_all (resolves (kept table which)) (filter (test (length table)) xs)) (here refl) rest
  kept_step false e xs here rest = rest

  each_closed : (xs : List Entry) → ((f : Entry → Bool) → list_any f xs ≡ true → list_any f table ≡ true) → list_all (resolves table) xs ≡ true → list_all (resolves (kept table which)) (filter (test (length table)) xs) ≡ true
  each_closed [] member h = refl
  each_closed (e ∷ xs) member h =
      kept_step (test (length table) e) e xs
      (λ here. entry_closed e (and_left (resolves table e) (list_all (resolves table) xs) h) (λ f fe. member f (or_true (f e) (list_any f xs) fe)) here)
      (each_closed xs (λ f any. member f (or_right_true (f e) (list_any f xs) any)) (and_right (resolves table e) (list_all (resolves table) xs) h))

  kept_is : kept table which ≡ filter (test (length table)) table
  unfolding kept
  kept_is = refl

  pub kept_closed : is_closed table ≡ true → is_closed (kept table which) ≡ true
  kept_closed h = ap (list_all (resolves (kept table which))) kept_is ∙ each_closed table (λ f any. any) h
