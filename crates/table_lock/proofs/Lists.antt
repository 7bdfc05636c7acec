-- Lists of seats, and beginnings of a history.
use Rattle.std.proofs.Common.{◌≡◌, ◌≢◌, ℕ, zero, suc, ◌+◌, ◌<◌, ◌≤◌, ◌⊎◌, eqb, ltb, Bool, true, false, cond, List, [], ◌∷◌, ◌++◌, length, set, sym, refl, ap, ◌∙◌, subst, ⊎_elim, inl, inr, arith, length-append, append_assoc, append-nil, eq-eqb, ne_eqb}
use Rattle.std.proofs.lemmas.List.Elements.{filter-append}
use mathlib.Core.Option.{some, none, some-injective, some-ne-none}
use mathlib.Core.Option as maybe
use mathlib.Core.List.{IsPrefix}
use Rattle.std.proofs.lemmas.Bool.{ltb-true}
use Rattle.std.proofs.lemmas.Bool.Decides.{nat_tests}
use mathlib.Core.Logic.{dite}
use native.Mathlib.Decide.{ℕ_discrete}
use lib.ListN.{get_elem?}
use Rattle.atomic_table.proofs.Lists.{at_set, set_here, set_else, at_longer, at_last}
use Rattle.table_lock.specs.declared.machine.Entry.{Entry}
use Rattle.table_lock.specs.declared.view.Kind.TheVariants.{Pass}
use Rattle.table_lock.specs.declared.view.Item.{Item}
use Rattle.table_lock.specs.declared.view.View.{View}
use Rattle.table_lock.specs.Lock.{calls_of, entry, longer, weight, name_of, outs, Has, Distinct, Apart, IsNotEnded, Whole}

module _ {A : Type 0} where
  pub at_below : (l : List A) (i : ℕ) (a : A) → get_elem? l i ≡ some a → i < length l
  at_below [] i a e = absurd (some-ne-none a (sym e))
  at_below (x ∷ xs) zero a e = omega arith
  at_below (x ∷ xs) (suc i) a e = let h = at_below xs i a e in omega arith

  pub at_more : (l : List A) (a b : A) (j : ℕ) → get_elem? (l ++ a ∷ []) j ≡ some b → (get_elem? l j ≡ some b) ⊎ ((j ≡ length l) × (a ≡ b))
  at_more [] a b zero e = inr (refl, some-injective a b e)
  at_more [] a b (suc j) e = absurd (some-ne-none b (sym e))
  at_more (x ∷ xs) a b zero e = inl e
  at_more (x ∷ xs) a b (suc j) e = ⊎_elim (λ (t : get_elem? xs j ≡ some b). inl t) (λ (t : (j ≡ length xs) × (a ≡ b)). inr (ap suc t.0, t.1)) (at_more xs a b j e)

  pub one_value : (l : List A) (i : ℕ) (a b : A) → get_elem? l i ≡ some a → get_elem? l i ≡ some b → a ≡ b
  one_value l i a b p q = some-injective a b (sym p ∙ q)

  -- what each has after a change of one
  pub each : (P : ℕ → A → Type 0) (l : List A) (me : ℕ) (w : A) → P me w → ((j : ℕ) (v : A) → j ≢ me → get_elem? l j ≡ some v → P j v) → (j : ℕ) (v : A) → get_elem? (set l me w) j ≡ some v → P j v
  each P l me w mine others j v e = ⊎_elim (λ (t : (j ≡ me) × (w ≡ v)). subst (λ (x : ℕ × A). P x.0 x.1) (λ i. (sym t.0 i, t.1 i)) mine)
      (λ (t : (j ≢ me) × (get_elem? l j ≡ some v)). others j v t.0 t.1) (at_set l me j w v e)

  -- the same with one more
  pub each_more : (P : ℕ → A → Type 0) (l : List A) (w : A) → P (length l) w → ((j : ℕ) (v : A) → get_elem? l j ≡ some v → P j v) → (j : ℕ) (v : A) → get_elem? (l ++ w ∷ []) j ≡ some v → P j v
  each_more P l w new others j v e = ⊎_elim (λ (t : get_elem? l j ≡ some v). others j v t)
      (λ (t : (j ≡ length l) × (w ≡ v)). subst (λ (x : ℕ × A). P x.0 x.1) (λ i. (sym t.0 i, t.1 i)) new) (at_more l w v j e)

  -- beginnings of a list
  pub prefix_refl : (xs : List A) → IsPrefix xs xs
  prefix_refl xs = ([], append-nil xs)

  pub prefix_more : (xs ys : List A) → IsPrefix xs (xs ++ ys)
  prefix_more xs ys = (ys, refl)

  pub prefix_none : (ys : List A) → IsPrefix [] ys
  prefix_none ys = (ys, refl)

  pub prefix_trans : (xs ys zs : List A) → IsPrefix xs ys → IsPrefix ys zs → IsPrefix xs zs
  prefix_trans xs ys zs p q = (p.0 ++ q.0, sym (append_assoc xs p.0 q.0) ∙ (ap (λ (l : List A). l ++ q.0) p.1 ∙ q.1))

  prefix_tail : (x y : A) (xs ys : List A) → IsPrefix (x ∷ xs) (y ∷ ys) → (x ≡ y) × IsPrefix xs ys
  prefix_tail x y xs ys p = (cc p.1, (p.0, cc p.1))

  pub prefix_whole : (xs ys : List A) → IsPrefix xs ys → length xs ≡ length ys → xs ≡ ys
  prefix_whole [] [] p e = refl
  prefix_whole [] (y ∷ ys) p e = absurd (omega arith)
  prefix_whole (x ∷ xs) [] p e = absurd (omega arith)
  prefix_whole (x ∷ xs) (y ∷ ys) p e = let t = prefix_tail x y xs ys p in let h = prefix_whole xs ys t.1 (omega arith) in let x_is = t.0 in cc

  pub prefix_shorter : (xs ys zs : List A) → IsPrefix xs zs → IsPrefix ys zs → length xs ≤ length ys → IsPrefix xs ys
  prefix_shorter [] ys zs p q h = prefix_none ys
  prefix_shorter (x ∷ xs) [] zs p q h = absurd (omega arith)
  prefix_shorter (x ∷ xs) (y ∷ ys) [] p q h = absurd (cc p.1)
  prefix_shorter (x ∷ xs) (y ∷ ys) (z ∷ zs) p q h =
      let s = prefix_tail x z xs zs p in let t = prefix_tail y z ys zs q in let r = prefix_shorter xs ys zs s.1 t.1 (omega arith) in
      let rest_is = r.1 in let xz = s.0 in let yz = t.0 in (r.0, cc)

  pub prefix_length : (xs ys : List A) → IsPrefix xs ys → length xs ≤ length ys
  prefix_length xs ys p = let e = ap length p.1 in omega (arith, length-append xs p.0)

  -- what lies between a list and itself is that list
  pub prefix_between : (xs ys zs : List A) → IsPrefix xs ys → IsPrefix ys zs → xs ≡ zs → ys ≡ zs
  prefix_between xs ys zs p q e = let a = prefix_length xs ys p in let b = prefix_length ys zs q in let n = ap length e in prefix_whole ys zs q (omega arith)

  -- nothing is left of what adds nothing
  pub no_more : (xs ys : List A) → xs ++ ys ≡ xs → ys ≡ []
  no_more xs [] e = refl
  no_more xs (y ∷ ys) e = let n = ap length e in absurd (omega (arith, length-append xs (y ∷ ys)))

  pub no_front : (xs ys : List A) → xs ++ ys ≡ [] → xs ≡ []
  no_front [] ys e = refl
  no_front (x ∷ xs) ys e = absurd (cc e)

module _ {C R : Type 0} where
  pub calls_append : (n : ℕ) (xs ys : List (Entry C R)) → calls_of n (xs ++ ys) ≡ calls_of n xs ++ calls_of n ys
  calls_append n xs ys = filter-append (λ (e : Entry C R). eqb e.by n) xs ys

  pub calls_mine : (n : ℕ) (c : C) (r : R) → calls_of n (entry n c r ∷ []) ≡ entry n c r ∷ []
  calls_mine n c r = ap (λ (b : Bool). cond b (entry n c r ∷ []) []) (eq-eqb n n refl)

  pub calls_other : (n k : ℕ) (c : C) (r : R) → k ≢ n → calls_of n (entry k c r ∷ []) ≡ []
  calls_other n k c r ne = ap (λ (b : Bool). cond b (entry k c r ∷ []) []) (ne_eqb k n ne)

  pub calls_none : (n : ℕ) (xs log : List (Entry C R)) → IsPrefix xs log → calls_of n log ≡ [] → calls_of n xs ≡ []
  calls_none n xs log p e = let split = calls_append n xs p.0 in let whole = ap (calls_of n) p.1 in no_front (calls_of n xs) (calls_of n p.0) (sym split ∙ (whole ∙ e))

  -- between two histories with the same calls
  pub calls_between : (n : ℕ) (xs ys zs : List (Entry C R)) (own : List (Entry C R)) → IsPrefix xs ys → IsPrefix ys zs → calls_of n xs ≡ own → calls_of n zs ≡ own → calls_of n ys ≡ own
  calls_between n xs ys zs own p q a b =
      let two : calls_of n xs ++ calls_of n p.0 ≡ calls_of n ys = sym (calls_append n xs p.0) ∙ ap (calls_of n) p.1 in
      let all : calls_of n ys ++ calls_of n q.0 ≡ calls_of n zs = sym (calls_append n ys q.0) ∙ ap (calls_of n) q.1 in
      let here : own ++ calls_of n p.0 ≡ calls_of n ys = ap (λ (l : List (Entry C R)). l ++ calls_of n p.0) (sym a) ∙ two in
      let whole : own ++ (calls_of n p.0 ++ calls_of n q.0) ≡ own = sym (append_assoc own (calls_of n p.0) (calls_of n q.0)) ∙ (ap (λ (l : List (Entry C R)). l ++ calls_of n q.0) here ∙ (all ∙ b)) in
      let empty : calls_of n p.0 ≡ [] = no_front (calls_of n p.0) (calls_of n q.0) (no_more own (calls_of n p.0 ++ calls_of n q.0) whole) in
      sym here ∙ (ap (λ (l : List (Entry C R)). own ++ l) empty ∙ append-nil own)

  pub add_call : (log : List (Entry C R)) (n : ℕ) (c : C) (a : R) (k : ℕ) (own : List (Entry C R)) → k ≢ n → calls_of k log ≡ own → calls_of k (log ++ entry n c a ∷ []) ≡ own
  add_call log n c a k own ne e = calls_append k log (entry n c a ∷ []) ∙ (ap (λ (l : List (Entry C R)). calls_of k log ++ l) (calls_other k n c a (λ x. ne (sym x))) ∙ (append-nil (calls_of k log) ∙ e))

  pub add_own : (log : List (Entry C R)) (n : ℕ) (c : C) (a : R) (own : List (Entry C R)) → calls_of n log ≡ own → calls_of n (log ++ entry n c a ∷ []) ≡ own ++ entry n c a ∷ []
  add_own log n c a own e = calls_append n log (entry n c a ∷ []) ∙ (ap (λ (l : List (Entry C R)). calls_of n log ++ l) (calls_mine n c a) ∙ ap (λ (l : List (Entry C R)). l ++ entry n c a ∷ []) e)

  longer_by : (xs ys : List (Entry C R)) (P : List (Entry C R) → Type 0) → (length ys ≤ length xs → P xs) → (length xs < length ys → P ys) → (b : Bool) → ltb (length xs) (length ys) ≡ b → P (cond b ys xs)
  longer_by xs ys P keep other true is = other (ltb-true (length xs) (length ys) is)
  longer_by xs ys P keep other false is = let h : length ys ≤ length xs = grind (arith, nat_tests) in keep h

  pub longer_cases : (xs ys : List (Entry C R)) (P : List (Entry C R) → Type 0) → (length ys ≤ length xs → P xs) → (length xs < length ys → P ys) → P (longer xs ys)
  longer_cases xs ys P keep other = longer_by xs ys P keep other (ltb (length xs) (length ys)) refl

  -- one more number of a pass that was joined
  pub apart_more : (ended : List (Item C R)) (x : Item C R) → Apart ended → IsNotEnded ended x.number → Apart (ended ++ x ∷ [])
  apart_more ended x old new h k i j at_h at_k same =
      each_more (λ (h : ℕ) (i : Item C R). i.number ≡ j.number → h ≡ k) ended x
      (λ mine. each_more (λ (k : ℕ) (j : Item C R). x.number ≡ j.number → length ended ≡ k) ended x (λ _. refl) (λ k j at is. absurd (new k j at (sym is))) k j at_k mine)
      (λ h i at is. each_more (λ (k : ℕ) (j : Item C R). i.number ≡ j.number → h ≡ k) ended x (λ mine. absurd (new h i at mine)) (λ k j at' is'. old h k i j at at' is') k j at_k is)
      h i at_h same

module _ {C R G : Type 0} where
  -- a pass that has seen all still has, after a change of one seat
  pub whole_set : (vs : List (View C R G)) (id : ℕ) (v w : View C R G) (log : List (Entry C R)) → get_elem? vs id ≡ some v → Whole vs log → (v.kind ≡ Pass → v.seen ≡ log → (w.kind ≡ Pass) × (w.seen ≡ log)) → Whole (set vs id w) log
  whole_set vs id v w log at p keep = dite (ℕ_discrete p.0 id)
      (λ e. let same = one_value vs id p.1 v (subst (λ (j : ℕ). get_elem? vs j ≡ some p.1) e p.2) at in
      let k = keep (ap (λ (x : View C R G). x.kind) (sym same) ∙ p.3) (ap (λ (x : View C R G). x.seen) (sym same) ∙ p.4) in (id, w, set_here vs id w (at_below vs id v at), k.0, k.1))
      (λ ne. (p.0, p.1, set_else vs id p.0 w ne ∙ p.2, p.3, p.4))

  pub whole_more : (vs : List (View C R G)) (u : View C R G) (log : List (Entry C R)) → Whole vs log → Whole (vs ++ u ∷ []) log
  whole_more vs u log p = (p.0, p.1, at_longer vs (u ∷ []) p.0 p.1 p.2, p.3, p.4)

  -- and where one seat took in another
  pub whole_join : (vs : List (View C R G)) (id other : ℕ) (v w b z : View C R G) (log : List (Entry C R)) → get_elem? vs id ≡ some v → get_elem? vs other ≡ some w → other ≢ id → b.kind ≡ Pass → (v.seen ≡ log → b.seen ≡ log) → (w.kind ≡ Pass → w.seen ≡ log → b.seen ≡ log)
      → Whole vs log → Whole (set (set vs id b) other z) log
  whole_join vs id other v w b z log at at' ne pass mine theirs p =
      let here : b.seen ≡ log → Whole (set (set vs id b) other z) log = λ e. (id, b, set_else (set vs id b) other id z (λ x. ne (sym x)) ∙ set_here vs id b (at_below vs id v at), pass, e) in
      dite (ℕ_discrete p.0 other)
      (λ e. let same = one_value vs other p.1 w (subst (λ (j : ℕ). get_elem? vs j ≡ some p.1) e p.2) at' in
      here (theirs (ap (λ (x : View C R G). x.kind) (sym same) ∙ p.3) (ap (λ (x : View C R G). x.seen) (sym same) ∙ p.4)))
      (λ far. dite (ℕ_discrete p.0 id)
      (λ e. let same = one_value vs id p.1 v (subst (λ (j : ℕ). get_elem? vs j ≡ some p.1) e p.2) at in here (mine (ap (λ (x : View C R G). x.seen) (sym same) ∙ p.4)))
      (λ away. (p.0, p.1, set_else (set vs id b) other p.0 z far ∙ (set_else vs id p.0 b away ∙ p.2), p.3, p.4)))

  pub distinct_set : (f : View C R G → maybe.Option ℕ) (vs : List (View C R G)) (me : ℕ) (w : View C R G) → Distinct f vs
      → ((j n : ℕ) (v : View C R G) → j ≢ me → get_elem? vs j ≡ some v → f v ≡ some n → f w ≢ some n) → Distinct f (set vs me w)
  distinct_set f vs me w old new i j n v x at_i at_j is_i is_j =
      each (λ (i : ℕ) (v : View C R G). f v ≡ some n → i ≡ j) vs me w
      (λ mine. each (λ (j : ℕ) (x : View C R G). f x ≡ some n → me ≡ j) vs me w (λ _. refl) (λ k y ne at is. absurd (new k n y ne at is mine)) j x at_j is_j)
      (λ h u ne at is. each (λ (j : ℕ) (x : View C R G). f x ≡ some n → h ≡ j) vs me w (λ mine. absurd (new h n u ne at is mine)) (λ k y _ at' is'. old h k n u y at at' is is') j x at_j is_j)
      i v at_i is_i

  pub distinct_more : (f : View C R G → maybe.Option ℕ) (vs : List (View C R G)) (w : View C R G) → Distinct f vs
      → ((j n : ℕ) (v : View C R G) → get_elem? vs j ≡ some v → f v ≡ some n → f w ≢ some n) → Distinct f (vs ++ w ∷ [])
  distinct_more f vs w old new i j n v x at_i at_j is_i is_j =
      each_more (λ (i : ℕ) (v : View C R G). f v ≡ some n → i ≡ j) vs w
      (λ mine. each_more (λ (j : ℕ) (x : View C R G). f x ≡ some n → length vs ≡ j) vs w (λ _. refl) (λ k y at is. absurd (new k n y at is mine)) j x at_j is_j)
      (λ h u at is. each_more (λ (j : ℕ) (x : View C R G). f x ≡ some n → h ≡ j) vs w (λ mine. absurd (new h n u at is mine)) (λ k y at' is'. old h k n u y at at' is is') j x at_j is_j)
      i v at_i is_i

  -- a seat keeps what f says of it
  pub distinct_same : (f : View C R G → maybe.Option ℕ) (vs : List (View C R G)) (me : ℕ) (v w : View C R G) → get_elem? vs me ≡ some v → f w ≡ f v → Distinct f vs → Distinct f (set vs me w)
  distinct_same f vs me v w at same old = distinct_set f vs me w old (λ j n u ne at' is mine. ne (old j me n u v at' at is (sym same ∙ mine)))

  -- a seat has nothing any more
  pub distinct_none : (f : View C R G → maybe.Option ℕ) (vs : List (View C R G)) (me : ℕ) (w : View C R G) → f w ≡ none → Distinct f vs → Distinct f (set vs me w)
  distinct_none f vs me w is_none old = distinct_set f vs me w old (λ j n u ne at' is mine. some-ne-none n (sym mine ∙ is_none))

  -- what a seat has, some seat has still: where the changed seat keeps it, has something else, and where there is one seat more
  pub has_same : (f : View C R G → maybe.Option ℕ) (vs : List (View C R G)) (me : ℕ) (v w : View C R G) → get_elem? vs me ≡ some v → f w ≡ f v → (n : ℕ) → Has f vs n → Has f (set vs me w) n
  has_same f vs me v w at same n p = dite (ℕ_discrete p.0 me)
      (λ e. (me, w, set_here vs me w (at_below vs me v at), same ∙ (ap f (one_value vs me v p.1 at (subst (λ (j : ℕ). get_elem? vs j ≡ some p.1) e p.2)) ∙ p.3)))
      (λ ne. (p.0, p.1, set_else vs me p.0 w ne ∙ p.2, p.3))

  pub has_else : (f : View C R G → maybe.Option ℕ) (vs : List (View C R G)) (me : ℕ) (v w : View C R G) → get_elem? vs me ≡ some v → (n : ℕ) → f v ≢ some n → Has f vs n → Has f (set vs me w) n
  has_else f vs me v w at n other p =
      let far : p.0 ≢ me = λ e. other (ap f (one_value vs me v p.1 at (subst (λ (j : ℕ). get_elem? vs j ≡ some p.1) e p.2)) ∙ p.3) in
      (p.0, p.1, set_else vs me p.0 w far ∙ p.2, p.3)

  pub has_more : (f : View C R G → maybe.Option ℕ) (vs : List (View C R G)) (u : View C R G) (n : ℕ) → Has f vs n → Has f (vs ++ u ∷ []) n
  has_more f vs u n p = (p.0, p.1, at_longer vs (u ∷ []) p.0 p.1 p.2, p.3)

  pub has_last : (f : View C R G → maybe.Option ℕ) (vs : List (View C R G)) (u : View C R G) (n : ℕ) → f u ≡ some n → Has f (vs ++ u ∷ []) n
  has_last f vs u n is = (length vs, u, at_last vs u (length vs) refl, is)

  pub outs_set : (vs : List (View C R G)) (me : ℕ) (v w : View C R G) → get_elem? vs me ≡ some v → outs (set vs me w) + weight (name_of v) ≡ outs vs + weight (name_of w)
  outs_set [] me v w e = absurd (some-ne-none v (sym e))
  outs_set (x ∷ xs) zero v w e = let same = ap (λ (u : View C R G). weight (name_of u)) (some-injective x v e) in omega arith
  outs_set (x ∷ xs) (suc me) v w e = let h = outs_set xs me v w e in omega arith

  pub outs_same : (vs : List (View C R G)) (me : ℕ) (v w : View C R G) → get_elem? vs me ≡ some v → name_of w ≡ name_of v → outs (set vs me w) ≡ outs vs
  outs_same vs me v w at same = let h = outs_set vs me v w at in let e = ap weight same in omega arith

  pub outs_more : (vs : List (View C R G)) (w : View C R G) → outs (vs ++ w ∷ []) ≡ outs vs + weight (name_of w)
  outs_more [] w = omega arith
  outs_more (x ∷ xs) w = let h = outs_more xs w in omega arith

  pub outs_none : (vs : List (View C R G)) (j : ℕ) (v : View C R G) → outs vs ≡ 0 → get_elem? vs j ≡ some v → weight (name_of v) ≡ 0
  outs_none [] j v z e = absurd (some-ne-none v (sym e))
  outs_none (x ∷ xs) zero v z e = let same = ap (λ (u : View C R G). weight (name_of u)) (some-injective x v e) in omega arith
  outs_none (x ∷ xs) (suc j) v z e = outs_none xs j v (omega arith) e

pub weight_one : (n : ℕ) → 0 < n → weight (some n) ≡ 1
weight_one zero h = absurd (omega arith)
weight_one (suc n) h = refl
