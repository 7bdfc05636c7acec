-- On the table that all jobs before it leave, each job can be done, and it displaces what it says.
use Rattle.std.proofs.Common.{◌≡◌, ℕ, suc, ◌≤◌, ◌<◌, Bool, true, false, List, [], ◌∷◌, ◌++◌, length, Some, None, Option, refl, sym, ap, subst, ◌∙◌, arith, inl, inr, ◌⊎◌}
use Rattle.std.specs.Prelude.{not, ◌&&◌, ◌||◌, ◌==◌, nat_eq, nat_lt, cond, filter, map, option_map, option_to_list, option_and_then}
use Rattle.std.specs.List.{list_all, list_any}
use Rattle.std.proofs.lemmas.Bool.Decides.{nat_tests}
use Rattle.std.proofs.lemmas.List.Folds.{list_any-append}
use Rattle.aft_entries.specs.declared.entry.Entry.{Entry}
use Rattle.aft_entries.specs.declared.entry.Payload.{Payload}
use Rattle.aft_entries.specs.declared.entry.Payload.TheVariants as payload
use Rattle.aft_entries.specs.declared.key.Key.{Key}
use Rattle.aft_entries.specs.declared.key.KeyName.{KeyName}
use Rattle.aft_entries.specs.declared.key.KeyName.TheVariants as name
use Rattle.aft_entries.specs.declared.lists.Member.{Member}
use Rattle.aft_entries.specs.Order.{key_eq}
use Rattle.aft_entries.specs.References.{refs_of, refers, is_among, payload_refs, hop_key, group_key}
use Rattle.aft_entries.specs.Shapes.{fits}
use Rattle.aft_entries.proofs.OrderLemmas.{key_eq_same, key_eq_refl, key_eq_symm}
use Rattle.table_model.specs.Jobs.{Task, purge_rank, purge_order, purge_tasks, removed, effect, work_key, is_skipped, refs_before}
use Rattle.table_model.specs.Laws.{is_closed}
use Rattle.table_model.specs.Table.{lookup, has, take_out, resolves, used, in_order, is_shallow, backup_of, payload_backup, chain, depth}
use Rattle.table_model.proofs.LookupLemmas.{find_filter_in}
use Rattle.table_model.proofs.Tests.{and_left, and_right, filter_all}
use Rattle.table_laws.proofs.Chains.{next, more_steps}
use Rattle.table_laws.proofs.Deep.{ends, all_short}
use Rattle.table_laws.proofs.Members.{In, passes_in, apart_in, tail_sorted, lookup_in}
use Rattle.table_laws.proofs.RibLaws.{is_formed_entry}
use Rattle.table_laws.proofs.Whole.{works, goes, left, has_left, filter_twice, filter_same, any_filter, or_true, or_right_true, all_true, chain_short, rank_low}

abbrev pub Made : List Entry → Task → Type 0
Made table t = (is_skipped table t.job.work ≡ false) × (t.before ≡ refs_before (lookup (work_key t.job.work) table))

abbrev pub AllMade : List Entry → List Task → Type 0
AllMade table [] = Unit {0}
AllMade table (t ∷ ts) = Made table t × AllMade (effect table t.job.work) ts

pub made_append : (table : List Entry) (xs ys : List Task) → AllMade table xs → AllMade (works table xs) ys → AllMade table (xs ++ ys)
made_append table [] ys h k = k
made_append table (x ∷ xs) ys h k = (h.0, made_append (effect table x.job.work) xs ys h.1 k)

-- What refers has a higher rank.

among_hops : (key : Key) (instance : ℕ) (members : List Member) → is_among key (map (λ member. hop_key instance member.hop) members) ≡ true → (index : ℕ) × (key ≡ hop_key instance index)
among_hops key instance [] h = cc
among_hops key instance (m ∷ ms) h = by_test (key_eq key (hop_key instance m.hop)) refl h (among_hops key instance ms)
  where
    by_test : (b : Bool) → key_eq key (hop_key instance m.hop) ≡ b → b || is_among key (map (λ member. hop_key instance member.hop) ms) ≡ true
        → (is_among key (map (λ member. hop_key instance member.hop) ms) ≡ true → (index : ℕ) × (key ≡ hop_key instance index)) → (index : ℕ) × (key ≡ hop_key instance index)
    by_test true here h go = (m.hop, key_eq_same key (hop_key instance m.hop) here)
    by_test false here h go = go h

among_one : (key other : Key) → key_eq key other || false ≡ true → key ≡ other
among_one key other h = by_test (key_eq key other) refl h
  where
    by_test : (b : Bool) → key_eq key other ≡ b → b || false ≡ true → key ≡ other
    by_test true here h = key_eq_same key other here
    by_test false here h = cc

among_backup : (key : Key) (instance : ℕ) (backup : Option ℕ) → is_among key (option_to_list (option_map (group_key instance) backup)) ≡ true → (id : ℕ) × (backup ≡ Some id) × (key ≡ group_key instance id)
among_backup key instance None h = cc
among_backup key instance (Some id) h = (id, refl, among_one key (group_key instance id) h)

abbrev rank_key : List Entry → Key → ℕ
rank_key table key = elim key.name [ name.Hop index ↦ 0 | name.Group id ↦ depth table key | _ ↦ 5 ]

rank_is : (table : List Entry) (e : Entry) → purge_rank table e ≡ rank_key table e.key
rank_is table e = refl

rank_group : (table : List Entry) (key : Key) (instance id : ℕ) → key ≡ group_key instance id → rank_key table key ≡ depth table key
rank_group table key instance id is = ap (rank_key table) is ∙ ap (depth table) (sym is)

either_of : (a b : Bool) → a || b ≡ true → (a ≡ true) ⊎ (b ≡ true)
either_of true b h = inl refl
either_of false b h = inr h

depth_low : (table : List Entry) (key : Key) → depth table key ≤ 4
unfolding depth
depth_low table key = chain_short 4 table (Some key)

depth_some : (table : List Entry) (key : Key) → 1 ≤ depth table key
unfolding depth
depth_some table key = omega arith

module _ (old : List Entry) (sorted : in_order old ≡ true) (shallow : is_shallow old ≡ true) where
  deeper : (y k : Key) → next old y ≡ Some k → suc (depth old k) ≤ depth old y
  unfolding depth
  deeper y k goes =
      let short = all_short old shallow y in
      let four : length (chain 4 old (next old y)) ≡ length (chain 4 old (Some k)) = ap (λ o. length (chain 4 old o)) goes in
      let three : length (chain 3 old (next old y)) ≡ length (chain 3 old (Some k)) = ap (λ o. length (chain 3 old o)) goes in
      let low = chain_short 3 old (Some k) in
      let more = more_steps 3 4 old (Some k) (omega arith) in
      by_end (nat_lt (length (chain 3 old (Some k))) 3) refl (omega arith) three
    where
      by_end : (b : Bool) → nat_lt (length (chain 3 old (Some k))) 3 ≡ b → length (chain 4 old (Some k)) ≤ 3 → length (chain 3 old (next old y)) ≡ length (chain 3 old (Some k))
          → suc (length (chain 4 old (Some k))) ≤ suc (length (chain 3 old (next old y)))
      by_end true less four three =
          let lt : length (chain 3 old (Some k)) < 3 = grind (arith, nat_tests) in
          let same : length (chain 4 old (Some k)) ≡ length (chain 3 old (Some k)) = ends 3 1 old (Some k) lt in
          omega arith
      by_end false more four three =
          let ge : 3 ≤ length (chain 3 old (Some k)) = grind (arith, nat_tests) in
          omega arith

  module _ (y : Entry) (there : In y old) (key : Key) where
    hop_rank : (index : ℕ) (instance : ℕ) → key ≡ hop_key instance index → rank_key old key ≡ 0
    hop_rank index instance is = ap (rank_key old) is

    by_group : (instance : ℕ) (members : List Member) (backup : Option ℕ) → backup_of y ≡ elim backup [ None ↦ None | Some id ↦ Some (group_key instance id) ]
        → is_among key (map (λ member. hop_key instance member.hop) members ++ option_to_list (option_map (group_key instance) backup)) ≡ true → suc (rank_key old key) ≤ depth old y.key
    by_group instance members backup is h =
        elim (either_of (is_among key (map (λ member. hop_key instance member.hop) members)) (is_among key (option_to_list (option_map (group_key instance) backup)))
        (sym (list_any-append (key_eq key) (map (λ member. hop_key instance member.hop) members) (option_to_list (option_map (group_key instance) backup))) ∙ h)) [
          | inl hop ↦ by_hop (among_hops key instance members hop)
          | inr group ↦ by_backup (among_backup key instance backup group)
        ]
      where
        by_hop : (index : ℕ) × (key ≡ hop_key instance index) → suc (rank_key old key) ≤ depth old y.key
        by_hop p = let zero_rank = hop_rank p.0 instance p.1 in let some = depth_some old y.key in omega arith

        by_backup : (id : ℕ) × (backup ≡ Some id) × (key ≡ group_key instance id) → suc (rank_key old key) ≤ depth old y.key
        by_backup p =
            let goes_on : next old y.key ≡ Some key = ap (option_and_then backup_of) (lookup_in y old sorted there) ∙ is ∙ ap (λ (o : Option ℕ). elim o [ None ↦ None | Some id ↦ Some (group_key instance id) ]) p.1 ∙ ap (λ k. Some k) (sym p.2) in
            let more = deeper y.key key goes_on in
            let one = rank_group old key instance p.0 p.2 in
            omega arith

    by_route : (instance group : ℕ) → is_among key (group_key instance group ∷ []) ≡ true → suc (rank_key old key) ≤ 5
    by_route instance group h =
        let at = among_one key (group_key instance group) h in
        let one = rank_group old key instance group at in
        let low = depth_low old key in
        omega arith

    by_shape : (n : KeyName) (p : Payload) → y.payload ≡ p → fits n p ≡ true → is_among key (payload_refs y.key.instance p) ≡ true
        → suc (rank_key old key) ≤ elim n [ name.Hop index ↦ 0 | name.Group id ↦ depth old y.key | _ ↦ 5 ]
    unfolding backup_of
    by_shape (name.Hop index) (payload.Hop hop) is shape h = cc
    by_shape (name.Hop index) (payload.Group group) is shape h = cc
    by_shape (name.Hop index) (payload.Route route) is shape h = cc
    by_shape (name.Group id) (payload.Hop hop) is shape h = cc
    by_shape (name.Group id) (payload.Group group) is shape h = by_group y.key.instance group.members group.backup (ap (payload_backup y.key.instance) is) h
    by_shape (name.Group id) (payload.Route route) is shape h = cc
    by_shape (name.V4 prefix) (payload.Hop hop) is shape h = cc
    by_shape (name.V4 prefix) (payload.Group group) is shape h = cc
    by_shape (name.V4 prefix) (payload.Route route) is shape h = by_route route.instance route.group h
    by_shape (name.V6 prefix) (payload.Hop hop) is shape h = cc
    by_shape (name.V6 prefix) (payload.Group group) is shape h = cc
    by_shape (name.V6 prefix) (payload.Route route) is shape h = by_route route.instance route.group h
    by_shape (name.Label label) (payload.Hop hop) is shape h = cc
    by_shape (name.Label label) (payload.Group group) is shape h = cc
    by_shape (name.Label label) (payload.Route route) is shape h = by_route route.instance route.group h

    rises : is_formed_entry y ≡ true → refers y key ≡ true → suc (rank_key old key) ≤ purge_rank old y
    unfolding refs_of
    rises shape h = by_shape y.key.name y.payload refl shape h

-- A purge takes out what refers before what it refers to.

abbrev Step : List Entry → List Entry → Entry → Type 0
Step old seen x = In x old × (goes seen x ≡ false) × ((y : Entry) → In y old → refers y x.key ≡ true → goes seen y ≡ true)

abbrev Ordered : List Entry → List Entry → List Entry → Type 0
Ordered old seen [] = Unit {0}
Ordered old seen (x ∷ rest) = Step old seen x × Ordered old (x ∷ seen) rest

pub none_in : (p : Entry → Bool) (xs : List Entry) → ((y : Entry) → In y xs → p y ≡ false) → list_any p xs ≡ false
none_in p [] h = refl
none_in p (x ∷ xs) h = ap (λ b. b || list_any p xs) (h x (inl refl)) ∙ none_in p xs (λ y there. h y (inr there))

swap_not : (a b : Bool) → not a && not b ≡ not (b || a)
swap_not true true = refl
swap_not true false = refl
swap_not false true = refl
swap_not false false = refl

unless_both : (a b : Bool) → (b ≡ true → a ≡ true) → not a && b ≡ false
unless_both true b h = refl
unless_both false true h = let no_way : false ≡ true = h refl in cc
unless_both false false h = refl

module _ (old : List Entry) (sorted : in_order old ≡ true) where
  abbrev still : List Entry → List Entry
  still seen = filter (λ e. not (goes seen e)) old

  taken_next : (seen : List Entry) (x : Entry) → take_out x.key (still seen) ≡ still (x ∷ seen)
  unfolding take_out
  taken_next seen x =
      filter_twice (λ e. not (key_eq x.key e.key)) (λ e. not (goes seen e)) old
      ∙ filter_same (λ e. not (goes seen e) && not (key_eq x.key e.key)) (λ e. not (goes (x ∷ seen) e)) (λ e. swap_not (goes seen e) (key_eq x.key e.key)) old

  unused_next : (seen : List Entry) (x : Entry) → Step old seen x → used (still seen) x.key ≡ false
  unfolding used
  unused_next seen x step =
      any_filter (λ e. not (goes seen e)) (λ e. refers e x.key) old
      ∙ none_in (λ e. not (goes seen e) && refers e x.key) old (λ y there. unless_both (goes seen y) (refers y x.key) (step.2 y there))

  found_next : (seen : List Entry) (x : Entry) → Step old seen x → lookup x.key (still seen) ≡ Some x
  unfolding lookup
  found_next seen x step =
      find_filter_in (λ e. key_eq x.key e.key) (λ e. not (goes seen e)) old (λ e h. ap (λ k. not (list_any (λ g. key_eq g.key k) seen)) (sym (key_eq_same x.key e.key h)) ∙ ap not step.1)
      ∙ lookup_in x old sorted step.0

  made_purge : (position index : ℕ) (seen rest : List Entry) → Ordered old seen rest → AllMade (still seen) (purge_tasks position index rest)
  made_purge position index seen [] h = tt
  made_purge position index seen (x ∷ rest) h = (
    (unused_next seen x h.0, ap refs_before (sym (found_next seen x h.0))),
    subst (λ table. AllMade table (purge_tasks position (suc index) rest)) (sym (taken_next seen x)) (made_purge position (suc index) (x ∷ seen) rest h.1),
  )

  still_all : still [] ≡ old
  still_all = filter_all (λ e. true) old (all_true old)

-- a test of keys, and the entries that pass it are closed
all_among : (p : Key → Bool) (key : Key) (keys : List Key) → list_all p keys ≡ true → is_among key keys ≡ true → p key ≡ true
all_among p key [] h k = cc
all_among p key (x ∷ keys) h k = by_test (key_eq key x) refl k (all_among p key keys (and_right (p x) (list_all p keys) h))
  where
    by_test : (b : Bool) → key_eq key x ≡ b → b || is_among key keys ≡ true → (is_among key keys ≡ true → p key ≡ true) → p key ≡ true
    by_test true here any go = ap p (key_eq_same key x here) ∙ and_left (p x) (list_all p keys) h
    by_test false here any go = go any

in_filter : (p : Entry → Bool) (y : Entry) (xs : List Entry) → In y xs → p y ≡ true → In y (filter p xs)
in_filter p y [] there h = absurd there
in_filter p y (x ∷ xs) there h = by_test (p x) refl there (λ rest. in_filter p y xs rest h)
  where
    by_test : (b : Bool) → p x ≡ b → (x ≡ y) ⊎ In y xs → (In y xs → In y (filter p xs)) → In y (cond b (x ∷ filter p xs) (filter p xs))
    by_test true is (inl one) go = inl one
    by_test true is (inr rest) go = inr (go rest)
    by_test false is (inl one) go = let no_way : false ≡ true = sym is ∙ ap p one ∙ h in cc
    by_test false is (inr rest) go = go rest

refers_in : (table : List Entry) (y : Entry) (key : Key) → resolves table y ≡ true → refers y key ≡ true → has table key ≡ true
unfolding resolves
refers_in table y key h k = all_among (has table) key (refs_of y) h k

module _ (test : Key → Bool) (old : List Entry) (sorted : in_order old ≡ true) (shallow : is_shallow old ≡ true) (formed : list_all is_formed_entry old ≡ true) (closed_left : is_closed (left test old) ≡ true) where
  abbrev gone : Entry → Bool
  gone e = not (has (left test old) e.key)

  abbrev rank : Entry → ℕ
  rank e = purge_rank old e

  gone_too : (x y : Entry) → In y old → refers y x.key ≡ true → gone x ≡ true → gone y ≡ true
  gone_too x y there ref away = by_has (has (left test old) y.key) refl
    where
      by_has : (b : Bool) → has (left test old) y.key ≡ b → not b ≡ true
      by_has false is = refl
      by_has true is =
          let passes : test y.key ≡ true = and_left (test y.key) (has old y.key) (sym (has_left test old y.key) ∙ is) in
          let stays = passes_in (resolves (left test old)) y (left test old) closed_left (in_filter (λ e. test e.key) y old there passes) in
          let no_way : false ≡ true = ap not (sym (refers_in (left test old) y x.key stays ref)) ∙ away in
          cc

  higher_rank : (x y : Entry) → In y old → refers y x.key ≡ true → suc (rank x) ≤ rank y
  higher_rank x y there ref = rises old sorted shallow y there x.key (passes_in is_formed_entry y old formed there) ref

  same_rank : (x y : Entry) → key_eq x.key y.key ≡ true → rank x ≡ rank y
  same_rank x y same = ap (rank_key old) (key_eq_same x.key y.key same)

  -- those that go have gone down to this rank
  record Down (n : ℕ) (seen : List Entry) : Type 0 where
    pub went : (y : Entry) → In y old → gone y ≡ true → n ≤ rank y → goes seen y ≡ true
    pub lower : (y : Entry) → In y old → suc (rank y) ≤ n → goes seen y ≡ false

  -- and of this rank those that aren't among these
  record Amid (r : ℕ) (xs seen : List Entry) : Type 0 where
    pub higher : (y : Entry) → In y old → gone y ≡ true → suc r ≤ rank y → goes seen y ≡ true
    pub level : (y : Entry) → In y old → gone y ≡ true → rank y ≡ r → In y xs ⊎ (goes seen y ≡ true)
    pub lower : (y : Entry) → In y old → suc (rank y) ≤ r → goes seen y ≡ false
    pub ahead : (y : Entry) → In y xs → rank y ≡ r → goes seen y ≡ false

  begins : (r : ℕ) (seen : List Entry) → Down (suc r) seen → Amid r old seen
  begins r seen down = record {
    higher = down.went;
    level = λ y there g is. inl there;
    lower = λ y there le. down.lower y there (omega arith);
    ahead = λ y there is. down.lower y there (omega arith);
  }

  done : (r : ℕ) (seen : List Entry) → Amid r [] seen → Down r seen
  done r seen amid = record { went = λ y there g le. by_rank y there g le (nat_eq (rank y) r) refl; lower = amid.lower }
    where
      nobody : (y : Entry) → In y [] ⊎ (goes seen y ≡ true) → goes seen y ≡ true
      nobody y (inl none) = absurd none
      nobody y (inr is) = is

      by_rank : (y : Entry) → In y old → gone y ≡ true → r ≤ rank y → (b : Bool) → nat_eq (rank y) r ≡ b → goes seen y ≡ true
      by_rank y there g le true is = nobody y (amid.level y there g (grind (arith, nat_tests)))
      by_rank y there g le false is = amid.higher y there g (grind (arith, nat_tests))

  skips : (r : ℕ) (x : Entry) (xs seen : List Entry) → (gone x ≡ true → rank x ≡ r → ⊥) → Amid r (x ∷ xs) seen → Amid r xs seen
  skips r x xs seen other amid = record {
    higher = amid.higher;
    level = λ y there g is. not_it y g is (amid.level y there g is);
    lower = amid.lower;
    ahead = λ y there is. amid.ahead y (inr there) is;
  }
    where
      not_it : (y : Entry) → gone y ≡ true → rank y ≡ r → In y (x ∷ xs) ⊎ (goes seen y ≡ true) → In y xs ⊎ (goes seen y ≡ true)
      not_it y g is (inl (inl one)) = absurd (other (ap gone one ∙ g) (ap rank one ∙ is))
      not_it y g is (inl (inr there)) = inl there
      not_it y g is (inr away) = inr away

  module _ (r : ℕ) (x : Entry) (xs seen : List Entry) (up : in_order (x ∷ xs) ≡ true) (within : (y : Entry) → In y (x ∷ xs) → In y old) (away : gone x ≡ true) (at : rank x ≡ r) (amid : Amid r (x ∷ xs) seen) where
    step : Step old seen x
    step = (
      within x (inl refl),
      amid.ahead x (inl refl) at,
      (λ y there ref. amid.higher y there (gone_too x y there ref away) (let more = higher_rank x y there ref in omega arith)),
    )

    takes : Amid r xs (x ∷ seen)
    takes = record {
      higher = λ y there g le. or_right_true (key_eq x.key y.key) (goes seen y) (amid.higher y there g le);
      level = λ y there g is. is_gone y (amid.level y there g is);
      lower = λ y there le. both_false (key_eq x.key y.key) (goes seen y) (far y le (key_eq x.key y.key) refl) (amid.lower y there le);
      ahead = λ y there is. both_false (key_eq x.key y.key) (goes seen y) (key_eq_symm x.key y.key ∙ apart_in x y xs up there) (amid.ahead y (inr there) is);
    }
      where
        both_false : (a b : Bool) → a ≡ false → b ≡ false → a || b ≡ false
        both_false true b h k = cc
        both_false false b h k = k

        far : (y : Entry) → suc (rank y) ≤ r → (b : Bool) → key_eq x.key y.key ≡ b → b ≡ false
        far y le false is = refl
        far y le true is = absurd (let same = same_rank x y is in omega arith)

        is_gone : (y : Entry) → In y (x ∷ xs) ⊎ (goes seen y ≡ true) → In y xs ⊎ (goes (x ∷ seen) y ≡ true)
        is_gone y (inl (inl one)) = inr (or_true (key_eq x.key y.key) (goes seen y) (ap (λ (e : Entry). key_eq x.key e.key) (sym one) ∙ key_eq_refl x.key))
        is_gone y (inl (inr there)) = inl there
        is_gone y (inr is) = inr (or_right_true (key_eq x.key y.key) (goes seen y) is)

  stage : (r : ℕ) (xs seen rest : List Entry) → in_order xs ≡ true → ((y : Entry) → In y xs → In y old) → Amid r xs seen → ((after : List Entry) → Down r after → Ordered old after rest)
      → Ordered old seen (filter (λ e. rank e == r) (filter gone xs) ++ rest)
  stage r [] seen rest up within amid go = go seen (done r seen amid)
  stage r (x ∷ xs) seen rest up within amid go = by_gone (gone x) refl (λ after mid. stage r xs after rest (tail_sorted x xs up) (λ y there. within y (inr there)) mid go)
    where
      by_rank : gone x ≡ true → (b : Bool) → (rank x == r) ≡ b → ((after : List Entry) → Amid r xs after → Ordered old after (filter (λ e. rank e == r) (filter gone xs) ++ rest))
          → Ordered old seen (cond b (x ∷ filter (λ e. rank e == r) (filter gone xs)) (filter (λ e. rank e == r) (filter gone xs)) ++ rest)
      by_rank away true is k =
          let at : rank x ≡ r = grind (arith, nat_tests) in
          (step r x xs seen up within away at amid, k (x ∷ seen) (takes r x xs seen up within away at amid))
      by_rank away false is k = k seen (skips r x xs seen (λ g at. let no_way : nat_eq (rank x) r ≡ true = grind (arith, nat_tests) in let bad : false ≡ true = sym is ∙ no_way in cc) amid)

      by_gone : (g : Bool) → gone x ≡ g → ((after : List Entry) → Amid r xs after → Ordered old after (filter (λ e. rank e == r) (filter gone xs) ++ rest))
          → Ordered old seen (filter (λ e. rank e == r) (cond g (x ∷ filter gone xs) (filter gone xs)) ++ rest)
      by_gone true is k = by_rank is (rank x == r) refl k
      by_gone false is k = k seen (skips r x xs seen (λ g at. let no_way : false ≡ true = sym is ∙ g in cc) amid)

  abbrev of_rank : ℕ → List Entry
  of_rank r = filter (λ e. rank e == r) (filter gone old)

  at_rank : (r : ℕ) (seen rest : List Entry) → Down (suc r) seen → ((after : List Entry) → Down r after → Ordered old after rest) → Ordered old seen (of_rank r ++ rest)
  at_rank r seen rest down go = stage r old seen rest sorted (λ y there. there) (begins r seen down) go

  first : Down 6 []
  first = record { went = λ y there g le. absurd (let low = rank_low old y in omega arith); lower = λ y there le. refl }

  pub in_turn : Ordered old [] (purge_order old (removed old (left test old)))
  in_turn =
      at_rank 5 [] (of_rank 4 ++ (of_rank 3 ++ (of_rank 2 ++ (of_rank 1 ++ (of_rank 0 ++ []))))) first
      (λ a down. at_rank 4 a (of_rank 3 ++ (of_rank 2 ++ (of_rank 1 ++ (of_rank 0 ++ [])))) down
      (λ b down. at_rank 3 b (of_rank 2 ++ (of_rank 1 ++ (of_rank 0 ++ []))) down
      (λ c down. at_rank 2 c (of_rank 1 ++ (of_rank 0 ++ [])) down
      (λ d down. at_rank 1 d (of_rank 0 ++ []) down
      (λ e down. at_rank 0 e [] down (λ f last. tt))))))

  pub purge_made : (position : ℕ) → AllMade old (purge_tasks position 0 (purge_order old (removed old (left test old))))
  purge_made position =
      subst (λ table. AllMade table (purge_tasks position 0 (purge_order old (removed old (left test old))))) (still_all old sorted)
      (made_purge old sorted position 0 [] (purge_order old (removed old (left test old))) in_turn)
