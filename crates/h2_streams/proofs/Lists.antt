-- Lists of streams that differ at one of them.
use Rattle.std.proofs.Common.{◌≡◌, ℕ, Bool, true, false, not, ◌&&◌, ◌||◌, List, [], ◌∷◌, ◌++◌, map, Option, Some, None, refl, sym, ap, ◌∙◌, arith, eq-eqb}
use Rattle.std.specs.Prelude.{filter, find, ◌==◌, if◌then◌else◌}
use Rattle.std.specs.List.{list_any}
use Rattle.std.proofs.lemmas.Bool.Decides.{nat_tests}
use Rattle.std.proofs.lemmas.List.Elements.{filter-append}
use Rattle.std.proofs.lemmas.List.{append-nil, map-append}
use Rattle.h2_exchange.proofs.Steps.{is_once}
use Rattle.h2_streams.specs.declared.live.Stream.{Stream}
use Rattle.h2_streams.specs.Live.{is_stream, replaced, without}

pub self_eq : (k : ℕ) → (k == k) ≡ true
self_eq k = eq-eqb k k refl

pub eqb_is : (a b : ℕ) → (a == b) ≡ true → a ≡ b
eqb_is a b e = grind (arith, nat_tests)

pub eqb_isnt : (a b : ℕ) → (a == b) ≡ false → a ≡ b → ⊥
eqb_isnt a b e f = grind (arith, nat_tests)

-- what holds of a number and of every other one
pub by_number : (P : ℕ → Type 0) (k id : ℕ) → (id ≡ k → P id) → ((id ≡ k → ⊥) → P id) → P id
by_number P k id here there = by (id == k) refl
  where
    by : (b : Bool) → (id == k) ≡ b → P id
    by true e = here (eqb_is id k e)
    by false e = there (eqb_isnt id k e)

-- ---- one stream replaced, left out, or added

module _ (p q : ℕ → Bool) (g h : ℕ → Stream) (names_g : (id : ℕ) → (g id).id ≡ id) where
  abbrev SameBut : ℕ → Type 0
  SameBut k = (id : ℕ) → (id ≡ k → ⊥) → (q id ≡ p id) × (h id ≡ g id)

  cell : (b c : Bool) (s t : Stream) (xs ys : List Stream) → b ≡ c → s ≡ t → xs ≡ ys → (if b then s ∷ xs else xs) ≡ (if c then t ∷ ys else ys)
  cell b c s t xs ys e f g = cc

  other_stays : (k id : ℕ) (new s : Stream) → s.id ≡ id → (id ≡ k → ⊥) → (if is_stream k s then new else s) ≡ s
  other_stays k id new s e f = by (s.id == k) refl
    where
      by : (b : Bool) → (s.id == k) ≡ b → (if b then new else s) ≡ s
      by true t = absurd (f (sym e ∙ eqb_is s.id k t))
      by false t = refl

  map_kept : (b : Bool) (r : ℕ → Stream) (id : ℕ) (ids : List ℕ) → map r (if b then id ∷ ids else ids) ≡ (if b then r id ∷ map r ids else map r ids)
  map_kept true r id ids = refl
  map_kept false r id ids = refl

  left_out : (b : Bool) (k : ℕ) (s : Stream) (xs : List Stream) → without k (if b then s ∷ xs else xs) ≡ (if b then (if not (is_stream k s) then s ∷ without k xs else without k xs) else without k xs)
  left_out true k s xs = refl
  left_out false k s xs = refl

  gone : (b c : Bool) (s t : Stream) (xs ys : List Stream) → b ≡ false → not c ≡ false → xs ≡ ys → (d : Bool) → (if b then s ∷ xs else xs) ≡ (if d then (if not c then t ∷ ys else ys) else ys)
  gone b c s t xs ys e f g true = cc
  gone b c s t xs ys e f g false = cc

  kept : (b c d : Bool) (s t : Stream) (xs ys : List Stream) → b ≡ d → c ≡ false → s ≡ t → xs ≡ ys → (if b then s ∷ xs else xs) ≡ (if d then (if not c then t ∷ ys else ys) else ys)
  kept true c true s t xs ys e f g k = cc
  kept true c false s t xs ys e f g k = absurd cc
  kept false c true s t xs ys e f g k = absurd cc
  kept false c false s t xs ys e f g k = cc

  isnt_stream : (k id : ℕ) (s : Stream) → s.id ≡ id → (id ≡ k → ⊥) → is_stream k s ≡ false
  isnt_stream k id s e f = by (s.id == k) refl
    where
      by : (b : Bool) → (s.id == k) ≡ b → b ≡ false
      by true t = absurd (f (sym e ∙ eqb_is s.id k t))
      by false t = refl

  is_this : (k id : ℕ) (s : Stream) → s.id ≡ id → id ≡ k → not (is_stream k s) ≡ false
  is_this k id s e f = ap not (ap (λ (n : ℕ). n == k) (e ∙ f) ∙ self_eq k)

  pub without_is : (k : ℕ) → SameBut k → q k ≡ false → (ids : List ℕ) → map h (filter q ids) ≡ without k (map g (filter p ids))
  without_is k same dead [] = refl
  without_is k same dead (id ∷ ids) =
      map_kept (q id) h id (filter q ids)
      ∙ by_number (λ id. (if q id then h id ∷ map h (filter q ids) else map h (filter q ids)) ≡ (if p id then (if not (is_stream k (g id)) then g id ∷ without k (map g (filter p ids)) else without k (map g (filter p ids))) else without k (map g (filter p ids)))) k id
      (λ e. gone (q id) (is_stream k (g id)) (h id) (g id) (map h (filter q ids)) (without k (map g (filter p ids))) (ap q e ∙ dead) (is_this k id (g id) (names_g id) e) (without_is k same dead ids) (p id))
      (λ f. kept (q id) (is_stream k (g id)) (p id) (h id) (g id) (map h (filter q ids)) (without k (map g (filter p ids))) (same id f).0 (isnt_stream k id (g id) (names_g id) f) (same id f).1 (without_is k same dead ids))
      ∙ sym (left_out (p id) k (g id) (map g (filter p ids)))
      ∙ ap (without k) (sym (map_kept (p id) g id (filter p ids)))

  -- a list without that one
  pub untouched_is : (k : ℕ) → SameBut k → (ids : List ℕ) → list_any (λ id. id == k) ids ≡ false → map h (filter q ids) ≡ map g (filter p ids)
  untouched_is k same [] e = refl
  untouched_is k same (id ∷ ids) e =
      map_kept (q id) h id (filter q ids)
      ∙ by_number (λ id. (id == k || list_any (λ i. i == k) ids) ≡ false → (if q id then h id ∷ map h (filter q ids) else map h (filter q ids)) ≡ (if p id then g id ∷ map g (filter p ids) else map g (filter p ids))) k id
      (λ f none. absurd (contradicts (id == k) (list_any (λ i. i == k) ids) (ap (λ (n : ℕ). n == k) f ∙ self_eq k) none))
      (λ f none. cell (q id) (p id) (h id) (g id) (map h (filter q ids)) (map g (filter p ids)) (same id f).0 (same id f).1 (untouched_is k same ids (second (id == k) (list_any (λ i. i == k) ids) none))) e
      ∙ sym (map_kept (p id) g id (filter p ids))
    where
      contradicts : (a b : Bool) → a ≡ true → (a || b) ≡ false → ⊥
      contradicts true b e f = cc
      contradicts false b e f = cc

      second : (a b : Bool) → (a || b) ≡ false → b ≡ false
      second true b e = absurd cc
      second false b e = e

  -- where none has this id none is replaced
  nothing_replaced : (k : ℕ) (t : Stream) (ids : List ℕ) → list_any (λ id. id == k) ids ≡ false → replaced k t (map g (filter p ids)) ≡ map g (filter p ids)
  nothing_replaced k t [] e = refl
  nothing_replaced k t (id ∷ ids) e =
      ap (replaced k t) (map_kept (p id) g id (filter p ids)) ∙ by (id == k) refl (p id) e (λ n. nothing_replaced k t ids n) ∙ sym (map_kept (p id) g id (filter p ids))
    where
      by : (b : Bool) → (id == k) ≡ b → (c : Bool) → (b || list_any (λ i. i == k) ids) ≡ false → (list_any (λ i. i == k) ids ≡ false → replaced k t (map g (filter p ids)) ≡ map g (filter p ids)) →
          replaced k t (if c then g id ∷ map g (filter p ids) else map g (filter p ids)) ≡ (if c then g id ∷ map g (filter p ids) else map g (filter p ids))
      by true f c n r = absurd cc
      by false f false n r = r n
      by false f true n r =
          ap (λ (b : Bool). if b then t ∷ map g (filter p ids) else g id ∷ replaced k t (map g (filter p ids))) (ap (λ (m : ℕ). m == k) (names_g id) ∙ f) ∙ ap (λ (l : List Stream). g id ∷ l) (r n)

  both_cells : (s t : Stream) (xs ys : List Stream) → s ≡ t → xs ≡ ys → s ∷ xs ≡ t ∷ ys
  both_cells s t xs ys e f = cc

  not_both : (b : Bool) → b ≡ true → b ≡ false → ⊥
  not_both b e f = absurd cc

  was_not : (b : Bool) → not b ≡ true → b ≡ false
  was_not true e = absurd cc
  was_not false e = refl

  pub replaced_is : (k : ℕ) → SameBut k → q k ≡ p k → (ids : List ℕ) → is_once k ids ≡ true → map h (filter q ids) ≡ replaced k (h k) (map g (filter p ids))
  replaced_is k same alive [] once = refl
  replaced_is k same alive (id ∷ ids) once =
      map_kept (q id) h id (filter q ids) ∙ by (id == k) refl (q id) (p id) refl refl once (λ o. replaced_is k same alive ids o) ∙ sym (ap (replaced k (h k)) (map_kept (p id) g id (filter p ids)))
    where
      head : (b : Bool) → (id == k) ≡ b → (if b then h k ∷ map g (filter p ids) else g id ∷ replaced k (h k) (map g (filter p ids))) ≡ replaced k (h k) (g id ∷ map g (filter p ids))
      head b f = ap (λ (b : Bool). if b then h k ∷ map g (filter p ids) else g id ∷ replaced k (h k) (map g (filter p ids))) (sym (ap (λ (m : ℕ). m == k) (names_g id) ∙ f))

      alike : (c d : Bool) → q id ≡ c → p id ≡ d → q id ≡ p id → c ≡ d
      alike c d e f i = sym e ∙ i ∙ f

      here : (id == k) ≡ true → q id ≡ p id
      here f = ap q (eqb_is id k f) ∙ alive ∙ ap p (sym (eqb_is id k f))

      by : (b : Bool) → (id == k) ≡ b → (c d : Bool) → q id ≡ c → p id ≡ d → (if b then not (list_any (λ i. i == k) ids) else is_once k ids) ≡ true →
          (is_once k ids ≡ true → map h (filter q ids) ≡ replaced k (h k) (map g (filter p ids))) →
          (if c then h id ∷ map h (filter q ids) else map h (filter q ids)) ≡ replaced k (h k) (if d then g id ∷ map g (filter p ids) else map g (filter p ids))
      by true f true true e e' o r = both_cells (h id) (h k) (map h (filter q ids)) (map g (filter p ids)) (ap h (eqb_is id k f)) (untouched_is k same ids (was_not (list_any (λ i. i == k) ids) o)) ∙ head true f
      by true f false false e e' o r = untouched_is k same ids (was_not (list_any (λ i. i == k) ids) o) ∙ sym (nothing_replaced k (h k) ids (was_not (list_any (λ i. i == k) ids) o))
      by true f true false e e' o r = absurd (not_both true refl (alike true false e e' (here f)))
      by true f false true e e' o r = absurd (not_both true refl (sym (alike false true e e' (here f))))
      by false f true true e e' o r = both_cells (h id) (g id) (map h (filter q ids)) (replaced k (h k) (map g (filter p ids))) (same id (eqb_isnt id k f)).1 (r o) ∙ head false f
      by false f false false e e' o r = r o
      by false f true false e e' o r = absurd (not_both true refl (alike true false e e' (same id (eqb_isnt id k f)).0))
      by false f false true e e' o r = absurd (not_both true refl (sym (alike false true e e' (same id (eqb_isnt id k f)).0)))

  pub added_is : (k : ℕ) → SameBut k → q k ≡ true → (ids : List ℕ) → list_any (λ id. id == k) ids ≡ false → map h (filter q (ids ++ k ∷ [])) ≡ map g (filter p ids) ++ h k ∷ []
  added_is k same alive ids none =
      ap (map h) (filter-append q ids (k ∷ [])) ∙ map-append h (filter q ids) (filter q (k ∷ []))
      ∙ ap (λ (l : List Stream). l ++ map h (filter q (k ∷ []))) (untouched_is k same ids none)
      ∙ ap (λ (b : Bool). map g (filter p ids) ++ map h (if b then k ∷ [] else [])) alive

  -- one that is not added
  pub gone_is : (k : ℕ) → SameBut k → q k ≡ false → (ids : List ℕ) → list_any (λ id. id == k) ids ≡ false → map h (filter q (ids ++ k ∷ [])) ≡ map g (filter p ids)
  gone_is k same dead ids none =
      ap (map h) (filter-append q ids (k ∷ [])) ∙ ap (λ (b : Bool). map h (filter q ids ++ (if b then k ∷ [] else []))) dead ∙ ap (map h) (append-nil (filter q ids))
      ∙ untouched_is k same ids none

  out : (b c : Bool) (s t : Stream) (xs ys : List Stream) → b ≡ false → c ≡ false → xs ≡ ys → (if b then s ∷ xs else xs) ≡ (if c then t ∷ ys else ys)
  out b c s t xs ys e f g = cc

  -- one that stays out
  pub dead_is : (k : ℕ) → SameBut k → q k ≡ false → p k ≡ false → (ids : List ℕ) → map h (filter q ids) ≡ map g (filter p ids)
  dead_is k same dead was_dead [] = refl
  dead_is k same dead was_dead (id ∷ ids) =
      map_kept (q id) h id (filter q ids)
      ∙ by_number (λ id. (if q id then h id ∷ map h (filter q ids) else map h (filter q ids)) ≡ (if p id then g id ∷ map g (filter p ids) else map g (filter p ids))) k id
      (λ e. out (q id) (p id) (h id) (g id) (map h (filter q ids)) (map g (filter p ids)) (ap q e ∙ dead) (ap p e ∙ was_dead) (dead_is k same dead was_dead ids))
      (λ f. cell (q id) (p id) (h id) (g id) (map h (filter q ids)) (map g (filter p ids)) (same id f).0 (same id f).1 (dead_is k same dead was_dead ids))
      ∙ sym (map_kept (p id) g id (filter p ids))

-- ---- one stream found

pub map_kept_by : (g : ℕ → Stream) (b : Bool) (id : ℕ) (ids : List ℕ) → map g (if b then id ∷ ids else ids) ≡ (if b then g id ∷ map g ids else map g ids)
map_kept_by g true id ids = refl
map_kept_by g false id ids = refl

find_if : (k : ℕ) (b : Bool) (s : Stream) (xs : List Stream) → find (is_stream k) (if b then s ∷ xs else xs) ≡ (if b then (if is_stream k s then Some s else find (is_stream k) xs) else find (is_stream k) xs)
find_if k true s xs = refl
find_if k false s xs = refl

is_here : (b c test same any : Bool) (s t : Stream) (rest : Option Stream) → b ≡ c → test ≡ true → same ≡ true → s ≡ t → rest ≡ (if any && c then Some t else None) →
    (if b then (if test then Some s else rest) else rest) ≡ (if (same || any) && c then Some t else None)
is_here true true test same any s t rest e f g h r = cc
is_here true false test same any s t rest e f g h r = absurd cc
is_here false true test same any s t rest e f g h r = absurd cc
is_here false false test same true s t rest e f g h r = cc
is_here false false test same false s t rest e f g h r = cc

is_there : (b c test same any : Bool) (s t : Stream) (rest : Option Stream) → test ≡ false → same ≡ false → rest ≡ (if any && c then Some t else None) →
    (if b then (if test then Some s else rest) else rest) ≡ (if (same || any) && c then Some t else None)
is_there true c test same any s t rest e f r = cc
is_there false c test same any s t rest e f r = cc

pub isnt : (k id : ℕ) → (id ≡ k → ⊥) → (id == k) ≡ false
isnt k id f = by (id == k) refl
  where
    by : (b : Bool) → (id == k) ≡ b → b ≡ false
    by true t = absurd (f (eqb_is id k t))
    by false t = refl

module _ (p : ℕ → Bool) (g : ℕ → Stream) (names : (id : ℕ) → (g id).id ≡ id) where
  pub found_is : (k : ℕ) (ids : List ℕ) → find (is_stream k) (map g (filter p ids)) ≡ (if list_any (λ id. id == k) ids && p k then Some (g k) else None)
  found_is k [] = refl
  found_is k (id ∷ ids) =
      ap (find (is_stream k)) (map_kept_by g (p id) id (filter p ids))
      ∙ find_if k (p id) (g id) (map g (filter p ids))
      ∙ by_number (λ id. (if p id then (if is_stream k (g id) then Some (g id) else find (is_stream k) (map g (filter p ids))) else find (is_stream k) (map g (filter p ids))) ≡ (if (id == k || list_any (λ i. i == k) ids) && p k then Some (g k) else None)) k id
      (λ e. is_here (p id) (p k) (is_stream k (g id)) (id == k) (list_any (λ i. i == k) ids) (g id) (g k) (find (is_stream k) (map g (filter p ids))) (ap p e) (ap (λ (n : ℕ). n == k) (names id ∙ e) ∙ self_eq k) (ap (λ (n : ℕ). n == k) e ∙ self_eq k) (ap g e) (found_is k ids))
      (λ f. is_there (p id) (p k) (is_stream k (g id)) (id == k) (list_any (λ i. i == k) ids) (g id) (g k) (find (is_stream k) (map g (filter p ids))) (ap (λ (n : ℕ). n == k) (names id) ∙ isnt k id f) (isnt k id f) (found_is k ids))
