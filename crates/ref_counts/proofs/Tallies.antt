-- How often a key is counted, reference by reference.
use Rattle.std.proofs.Common.{◌≡◌, ℕ, ◌+◌, ◌<◌, ◌≤◌, ◌^◌, Bool, true, false, List, [], ◌∷◌, ◌++◌, length, get_or, drop, Some, None, Option, refl, sym, ap, ◌∙◌, arith}
use Rattle.std.specs.Prelude.{◌&&◌, nat_eq, if◌then◌else◌}
use Rattle.std.specs.Bool.{beq}
use Rattle.std.specs.declared.cmp.Ordering.{Ordering}
use Rattle.std.specs.declared.cmp.Ordering.TheVariants.{Less, Equal, Greater}
use Rattle.std.specs.Ordering.{nat_cmp, ordering_then, is_eq}
use Rattle.std.proofs.lemmas.Bool.Decides.{nat_tests}
use Rattle.std.proofs.lemmas.List.{drop_more}
use Rattle.aft_entries.specs.declared.lists.Member.{Member}
use Rattle.aft_entries.specs.References.{hop_key}
use Rattle.aft_entries.specs.declared.key.Key.{Key}
use Rattle.aft_entries.specs.declared.key.KeyName.{KeyName}
use Rattle.aft_entries.specs.declared.key.KeyName.TheVariants as name
use Rattle.aft_entries.specs.Order.{key_eq, key_cmp}
use Rattle.aft_entries.proofs.OrderLemmas.{key_eq_refl}
use Rattle.ref_counts.specs.declared.places.Place.{Place}
use Rattle.ref_counts.specs.declared.places.Counts.{Counts}
use Rattle.ref_counts.specs.Counting.{occurrences, hop_keys, named_place, key_of, same_place, counts_at, counts_if, count_in, group_count_in, IsRaised, Adds, Fits, Holds}

abbrev Entries : Type 0
Entries = List (Place × Counts)

abbrev once : Bool → ℕ
once b = if b then 1 else 0

-- one test says whether a key is counted at a place
abbrev IsTest : Option Place → Place → Bool → Type 0
IsTest None p b = b ≡ false
IsTest (Some q) p b = b ≡ same_place p q

then_eq : (o p : Ordering) → is_eq (ordering_then o p) ≡ is_eq o && is_eq p
then_eq Less p = refl
then_eq Equal p = refl
then_eq Greater p = refl

and_false : (b : Bool) → b && false ≡ false
and_false true = refl
and_false false = refl

nat_same : (a b : ℕ) → is_eq (nat_cmp a b) ≡ nat_eq b a
nat_same a b = grind (arith, nat_tests)

equal_last : (o : Ordering) → is_eq (ordering_then o Equal) ≡ is_eq o
equal_last Less = refl
equal_last Equal = refl
equal_last Greater = refl

apart : (a b : ℕ) (o : Ordering) → is_eq o ≡ false → is_eq (ordering_then (nat_cmp a b) o) ≡ false
apart a b o h = then_eq (nat_cmp a b) o ∙ rw h (and_false (is_eq (nat_cmp a b)))

apart_too : (a b c : ℕ) (o : Ordering) → is_eq o ≡ false → is_eq (ordering_then (nat_cmp a b) o) ≡ nat_eq b c && false
apart_too a b c o h = apart a b o h ∙ sym (and_false (nat_eq b c))

alike : (a b c d : ℕ) → is_eq (ordering_then (nat_cmp a b) (ordering_then (nat_cmp c d) Equal)) ≡ nat_eq b a && nat_eq d c
alike a b c d = then_eq (nat_cmp a b) (ordering_then (nat_cmp c d) Equal) ∙ rw (nat_same a b, equal_last (nat_cmp c d), nat_same c d) refl

abbrev pub place_from : ℕ → Bool → ℕ → Place
place_from i g n = record { instance = i; is_group = g; number = n }

abbrev key_from : ℕ → KeyName → Key
key_from i n = record { instance = i; name = n }

test_from : (i j : ℕ) (g : Bool) (m : ℕ) (n : KeyName) → IsTest (named_place i n) (place_from j g m) (key_eq (key_from i n) (key_of (place_from j g m)))
unfolding key_cmp
test_from i j false m (name.Hop a) = alike i j a m
test_from i j true m (name.Hop a) = apart_too i j i Less refl
test_from i j false m (name.Group a) = apart_too i j i Greater refl
test_from i j true m (name.Group a) = alike i j a m
test_from i j false m (name.V4 a) = apart i j Greater refl
test_from i j true m (name.V4 a) = apart i j Greater refl
test_from i j false m (name.V6 a) = apart i j Greater refl
test_from i j true m (name.V6 a) = apart i j Greater refl
test_from i j false m (name.Label a) = apart i j Greater refl
test_from i j true m (name.Label a) = apart i j Greater refl

test_of : (p : Place) (key : Key) → IsTest (named_place key.instance key.name) p (key_eq key (key_of p))
test_of p key = test_from key.instance p.instance p.is_group p.number key.name

ap3 : {A B C D : Type 0} (f : A → B → C → D) {a b : A} {c d : B} {x y : C} → a ≡ b → c ≡ d → x ≡ y → f a c x ≡ f b d y
ap3 f e h k = cc

and_first : (a b : Bool) → a && b ≡ true → a ≡ true
and_first true b e = refl
and_first false b e = cc

and_second : (a b : Bool) → a && b ≡ true → b ≡ true
and_second true b e = e
and_second false b e = cc

beq_same : (a b : Bool) → beq a b ≡ true → a ≡ b
beq_same true true e = refl
beq_same true false e = cc
beq_same false true e = cc
beq_same false false e = refl

nat_one : (a b : ℕ) → nat_eq a b ≡ true → a ≡ b
nat_one a b e = grind (arith, nat_tests)

place_same : (p q : Place) → same_place p q ≡ true → p ≡ q
place_same p q e =
    let rest : beq p.is_group q.is_group && nat_eq p.number q.number ≡ true = and_second (nat_eq p.instance q.instance) (beq p.is_group q.is_group && nat_eq p.number q.number) e in
    ap3 place_from (nat_one p.instance q.instance (and_first (nat_eq p.instance q.instance) (beq p.is_group q.is_group && nat_eq p.number q.number) e))
    (beq_same p.is_group q.is_group (and_first (beq p.is_group q.is_group) (nat_eq p.number q.number) rest))
    (nat_one p.number q.number (and_second (beq p.is_group q.is_group) (nat_eq p.number q.number) rest))

abbrev Raised : Option Place → Bool → Bool → Entries → Entries → Type 0
Raised place by_group b old new =
    ((counts_if place new).all ≡ (counts_if place old).all + once b)
    × ((counts_if place new).by_groups ≡ (counts_if place old).by_groups + (if by_group then once b else 0))

no_more : (g : Bool) → ◌≡◌ {A = ℕ} (if g then 0 else 0) 0
no_more true = refl
no_more false = refl

module _ (p : Place) (by_group : Bool) (old new : Entries) (raised : IsRaised p by_group old new) where
  nothing : (place : Option Place) (b : Bool) → b ≡ false → counts_if place new ≡ counts_if place old → Raised place by_group b old new
  nothing place b h same =
      rw (h, no_more by_group, same) (omega arith, omega arith)

  here : (q : Place) (b : Bool) → b ≡ true → p ≡ q → Raised (Some q) by_group b old new
  here q b h same = rw (h, ← same) (raised.all, raised.by_groups)

  at_place : (q : Place) (b t : Bool) → same_place p q ≡ t → b ≡ t → Raised (Some q) by_group b old new
  at_place q b true e h = here q b h (place_same p q e)
  at_place q b false e h = nothing (Some q) b h (raised.others q e)

  by_key : (place : Option Place) (b : Bool) → IsTest place p b → Raised place by_group b old new
  by_key None b h = nothing None b h refl
  by_key (Some q) b h = at_place q b (same_place p q) refl h

  raised_key : (key : Key) → Raised (named_place key.instance key.name) by_group (key_eq key (key_of p)) old new
  raised_key key = by_key (named_place key.instance key.name) (key_eq key (key_of p)) (test_of p key)

more_none : (n : ℕ) (k : ℕ) → n ≡ k → n ≡ k + 0
more_none n k e = omega arith

more_one : (n k m : ℕ) → n ≡ k + m → n ≡ k + (m + 0)
more_one n k m e = omega arith

module _ (p : Place) (old new : Entries) where
  pub adds_group_ref : IsRaised p true old new → Adds old new (key_of p ∷ []) (key_of p ∷ [])
  unfolding count_in group_count_in
  adds_group_ref raised = record {
    all = λ key. more_one (count_in new key) (count_in old key) (once (key_eq key (key_of p))) (raised_key p true old new raised key).0;
    by_groups = λ key. more_one (group_count_in new key) (group_count_in old key) (once (key_eq key (key_of p))) (raised_key p true old new raised key).1;
  }

  pub adds_route_ref : IsRaised p false old new → Adds old new (key_of p ∷ []) []
  unfolding count_in group_count_in
  adds_route_ref raised = record {
    all = λ key. more_one (count_in new key) (count_in old key) (once (key_eq key (key_of p))) (raised_key p false old new raised key).0;
    by_groups = λ key. (raised_key p false old new raised key).1;
  }

pub adds_nothing : (old : Entries) → Adds old old [] []
adds_nothing old = record { all = λ key. omega arith; by_groups = λ key. omega arith }

pub adds_same : (old new : Entries) → ((q : Place) → counts_at q new ≡ counts_at q old) → Adds old new [] []
unfolding count_in group_count_in
adds_same old new same = record {
  all = λ key. more_none (count_in new key) (count_in old key) (ap (λ (c : Counts). c.all) (one (named_place key.instance key.name)));
  by_groups = λ key. more_none (group_count_in new key) (group_count_in old key) (ap (λ (c : Counts). c.by_groups) (one (named_place key.instance key.name)));
}
  where
    one : (place : Option Place) → counts_if place new ≡ counts_if place old
    one None = refl
    one (Some q) = same q

pub occurrences-append : (key : Key) (ks ls : List Key) → occurrences key (ks ++ ls) ≡ occurrences key ks + occurrences key ls
occurrences-append key [] ls = omega arith
occurrences-append key (k ∷ ks) ls = let rest = occurrences-append key ks ls in omega arith

pub occurs_itself : (key : Key) (keys : List Key) → 1 ≤ occurrences key (key ∷ keys)
occurs_itself key keys = rw (key_eq_refl key) (omega arith)

pub adds_append : (a b c : Entries) (r s g h : List Key) → Adds a b r g → Adds b c s h → Adds a c (r ++ s) (g ++ h)
adds_append a b c r s g h first second = record {
  all = λ key. let x = first.all key in let y = second.all key in let z = occurrences-append key r s in omega arith;
  by_groups = λ key. let x = first.by_groups key in let y = second.by_groups key in let z = occurrences-append key g h in omega arith;
}

-- what goes in two parts, the first part first
pub drops_append : (a b c : Entries) (r s g h : List Key) → Adds a b s h → Adds b c r g → Adds a c (r ++ s) (g ++ h)
drops_append a b c r s g h second first = record {
  all = λ key. let x = first.all key in let y = second.all key in let z = occurrences-append key r s in omega arith;
  by_groups = λ key. let x = first.by_groups key in let y = second.by_groups key in let z = occurrences-append key g h in omega arith;
}

-- between the first counts and those so far, while the rest of all references is to come
pub record IsOnTheWay (old now : Entries) (rest keys : List Key) : Type 0 where
  pub all : (key : Key) → count_in now key + occurrences key rest ≡ count_in old key + occurrences key keys
  pub by_groups : (key : Key) → group_count_in now key + occurrences key rest ≡ group_count_in old key + occurrences key keys

pub way_begins : (old : Entries) (keys : List Key) → IsOnTheWay old old keys keys
way_begins old keys = record { all = λ key. refl; by_groups = λ key. refl }

pub way_ends : (old now : Entries) (keys : List Key) → IsOnTheWay old now [] keys → Adds old now keys keys
way_ends old now keys way = record {
  all = λ key. let x = way.all key in omega arith;
  by_groups = λ key. let x = way.by_groups key in omega arith;
}

module _ (old now next : Entries) (k : Key) (rest keys : List Key) where
  pub way_up : IsOnTheWay old now (k ∷ rest) keys → Adds now next (k ∷ []) (k ∷ []) → IsOnTheWay old next rest keys
  way_up way one = record {
    all = λ key. let x = way.all key in let y = one.all key in omega arith;
    by_groups = λ key. let x = way.by_groups key in let y = one.by_groups key in omega arith;
  }

  pub way_down : IsOnTheWay now old (k ∷ rest) keys → Adds next now (k ∷ []) (k ∷ []) → IsOnTheWay next old rest keys
  way_down way one = record {
    all = λ key. let x = way.all key in let y = one.all key in omega arith;
    by_groups = λ key. let x = way.by_groups key in let y = one.by_groups key in omega arith;
  }

module _ (old now : Entries) (k : Key) (rest keys : List Key) where
  pub fits_next : IsOnTheWay old now (k ∷ rest) keys → Fits old keys keys → (count_in now k + 1 < 2 ^ 64) × (group_count_in now k + 1 < 2 ^ 64)
  fits_next way fits =
      let itself = occurs_itself k rest in
      (let x = way.all k in let y = fits.all k in omega arith, let x = way.by_groups k in let y = fits.by_groups k in omega arith)

  pub holds_next : IsOnTheWay now old (k ∷ rest) keys → Holds old keys keys → (1 ≤ count_in now k) × (1 ≤ group_count_in now k)
  holds_next way holds =
      let itself = occurs_itself k rest in
      (let x = way.all k in let y = holds.all k in omega arith, let x = way.by_groups k in let y = holds.by_groups k in omega arith)

module _ (old mid : Entries) (r s g h : List Key) where
  pub fits_first : Fits old (r ++ s) (g ++ h) → Fits old r g
  fits_first fits = record {
    all = λ key. let x = fits.all key in let z = occurrences-append key r s in omega arith;
    by_groups = λ key. let x = fits.by_groups key in let z = occurrences-append key g h in omega arith;
  }

  pub fits_then : Fits old (r ++ s) (g ++ h) → Adds old mid r g → Fits mid s h
  fits_then fits adds = record {
    all = λ key. let x = fits.all key in let y = adds.all key in let z = occurrences-append key r s in omega arith;
    by_groups = λ key. let x = fits.by_groups key in let y = adds.by_groups key in let z = occurrences-append key g h in omega arith;
  }

  pub holds_first : Holds old (r ++ s) (g ++ h) → Holds old r g
  holds_first holds = record {
    all = λ key. let x = holds.all key in let z = occurrences-append key r s in omega arith;
    by_groups = λ key. let x = holds.by_groups key in let z = occurrences-append key g h in omega arith;
  }

  pub holds_then : Holds old (r ++ s) (g ++ h) → Adds mid old r g → Holds mid s h
  holds_then holds adds = record {
    all = λ key. let x = holds.all key in let y = adds.all key in let z = occurrences-append key r s in omega arith;
    by_groups = λ key. let x = holds.by_groups key in let y = adds.by_groups key in let z = occurrences-append key g h in omega arith;
  }

module _ (i n : ℕ) (members : List Member) (place : Place) (d : Member) (old now : Entries) (within : n < length members) (is : place ≡ place_from i false (get_or members n d).hop) where
  cut : hop_keys i (drop n members) ≡ key_of place ∷ hop_keys i (drop (n + 1) members)
  cut = ap (hop_keys i) (drop_more members n d within) ∙ rw is refl

  pub member_fits : IsOnTheWay old now (hop_keys i (drop n members)) (hop_keys i members) → Fits old (hop_keys i members) (hop_keys i members) → ((counts_at place now).all + 1 < 2 ^ 64) × ((counts_at place now).by_groups + 1 < 2 ^ 64)
  unfolding count_in group_count_in
  member_fits way fits = rw is (fits_next old now (hop_key i (get_or members n d).hop) (hop_keys i (drop (n + 1) members)) (hop_keys i members) (rw (cut, is) at way) fits)

  pub member_holds : IsOnTheWay now old (hop_keys i (drop n members)) (hop_keys i members) → Holds old (hop_keys i members) (hop_keys i members) → (1 ≤ (counts_at place now).all) × (1 ≤ (counts_at place now).by_groups)
  unfolding count_in group_count_in
  member_holds way holds = rw is (holds_next old now (hop_key i (get_or members n d).hop) (hop_keys i (drop (n + 1) members)) (hop_keys i members) (rw (cut, is) at way) holds)

  pub member_up : (next : Entries) → IsOnTheWay old now (hop_keys i (drop n members)) (hop_keys i members) → IsRaised place true now next → IsOnTheWay old next (hop_keys i (drop (n + 1) members)) (hop_keys i members)
  member_up next way raised = way_up old now next (key_of place) (hop_keys i (drop (n + 1) members)) (hop_keys i members) (rw cut at way) (adds_group_ref place now next raised)

  pub member_down : (next : Entries) → IsOnTheWay now old (hop_keys i (drop n members)) (hop_keys i members) → IsRaised place true next now → IsOnTheWay next old (hop_keys i (drop (n + 1) members)) (hop_keys i members)
  member_down next way raised = way_down old now next (key_of place) (hop_keys i (drop (n + 1) members)) (hop_keys i members) (rw cut at way) (adds_group_ref place next now raised)

-- a route's one reference, which isn't a group's
module _ (old : Entries) (p : Place) (named : named_place (key_of p).instance (key_of p).name ≡ Some p) where
  pub route_fits : Fits old (key_of p ∷ []) [] → ((counts_at p old).all + 1 < 2 ^ 64) × ((counts_at p old).by_groups + 0 < 2 ^ 64)
  unfolding count_in group_count_in
  route_fits fits =
      let itself = occurs_itself (key_of p) [] in
      let all : (counts_if (named_place (key_of p).instance (key_of p).name) old).all + occurrences (key_of p) (key_of p ∷ []) < 2 ^ 64 = fits.all (key_of p) in
      let groups : (counts_if (named_place (key_of p).instance (key_of p).name) old).by_groups + 0 < 2 ^ 64 = fits.by_groups (key_of p) in
      let all_here : (counts_at p old).all + occurrences (key_of p) (key_of p ∷ []) < 2 ^ 64 = rw named at all in
      (omega arith, rw named at groups)

  pub route_holds : Holds old (key_of p ∷ []) [] → 1 ≤ (counts_at p old).all
  unfolding count_in
  route_holds holds =
      let itself = occurs_itself (key_of p) [] in
      let all : occurrences (key_of p) (key_of p ∷ []) ≤ (counts_if (named_place (key_of p).instance (key_of p).name) old).all = holds.all (key_of p) in
      let all_here : occurrences (key_of p) (key_of p ∷ []) ≤ (counts_at p old).all = rw named at all in
      omega arith
