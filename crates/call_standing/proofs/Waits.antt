-- The bytes that wait on live streams are those of the calls that are kept.
use Rattle.std.proofs.Common.{◌≡◌, ℕ, ◌+◌, ◌==◌, Bool, true, false, ◌||◌, List, [], ◌∷◌, ◌++◌, length, sum_by, Option, Some, None, inl, inr, refl, sym, ap, subst, ◌∙◌, append_assoc, arith}
use Rattle.std.specs.Prelude.{not, filter, if◌then◌else◌}
use Rattle.std.specs.List.{flat_map, list_any}
use Rattle.std.proofs.lemmas.Bool.{false≢true}
use Rattle.std.proofs.lemmas.Bool.Decides.{nat_tests}
use Rattle.std.proofs.lemmas.List.Sums.{sum_by-cons}
use Rattle.h2_exchange.specs.declared.role.Role.{Role}
use Rattle.h2_exchange.specs.declared.role.Role.TheVariants.{Client, Server}
use Rattle.h2_exchange.specs.Streams.{begun, is_begun, is_live}
use Rattle.h2_exchange.proofs.Places.{and_parts, clash, not_true, same_self}
use Rattle.h2_exchange.proofs.Steps.{begun_has, begun_once}
use Rattle.h2_exchange.proofs.Steps as steps
use Rattle.grpc_stream.specs.CallTrace.{CallTrace, queued_on, text_of, unsent_on, waiting_in}
use Rattle.kept_calls.specs.CallState.{CallState, call_on}
use Rattle.kept_calls.specs.Table.{waiting_on}
use Rattle.call_hearing.specs.declared.pending.Pending.{Pending}
use Rattle.call_standing.specs.Standing.{Holds, IsUnkept, StandsOn, State, is_once}
use Rattle.call_standing.proofs.Went.{here, streams}

-- what is left of the call on a stream
abbrev left_by : Option CallState → ℕ
left_by None = 0
left_by (Some c) = length c.unsent

abbrev if_live : Bool → ℕ → ℕ
if_live b n = if b then n else 0

-- ---- sums

sum_same : {A : Type 0} (f g : A → ℕ) (xs : List A) → ((x : A) → f x ≡ g x) → sum_by f xs ≡ sum_by g xs
sum_same f g [] e = refl
sum_same f g (x ∷ xs) e = omega (arith, sum_by-cons f x xs, sum_by-cons g x xs, e x, sum_same f g xs e)

sum_none : {A : Type 0} (f : A → ℕ) (xs : List A) → ((x : A) → f x ≡ 0) → sum_by f xs ≡ 0
sum_none f [] e = refl
sum_none f (x ∷ xs) e = omega (arith, sum_by-cons f x xs, e x, sum_none f xs e)

sum_filter : (p : ℕ → Bool) (f : ℕ → ℕ) (xs : List ℕ) → sum_by f (filter p xs) ≡ sum_by (λ k. if_live (p k) (f k)) xs
sum_filter p f [] = refl
sum_filter p f (x ∷ xs) = by (p x) refl (sum_filter p f xs)
  where
    by : (b : Bool) → p x ≡ b → sum_by f (filter p xs) ≡ sum_by (λ k. if_live (p k) (f k)) xs → sum_by f (if b then x ∷ filter p xs else filter p xs) ≡ sum_by (λ k. if_live (p k) (f k)) (x ∷ xs)
    by true e rest = omega (arith, sum_by-cons f x (filter p xs), sum_by-cons (λ k. if_live (p k) (f k)) x xs, ap (λ (b : Bool). if_live b (f x)) e, rest)
    by false e rest = omega (arith, sum_by-cons (λ k. if_live (p k) (f k)) x xs, ap (λ (b : Bool). if_live b (f x)) e, rest)

-- one more at one place
sum_absent : (s n : ℕ) (f g : ℕ → ℕ) (ids : List ℕ) → list_any (λ i. i == s) ids ≡ false → ((k : ℕ) → g k ≡ (if s == k then n else 0) + f k) → sum_by g ids ≡ sum_by f ids
sum_absent s n f g [] e h = refl
sum_absent s n f g (k ∷ ids) e h = omega (arith, sum_by-cons f k ids, sum_by-cons g k ids, h k, ap (λ (b : Bool). if b then n else 0) (apart s k (first k ids e)), sum_absent s n f g ids (rest k ids e) h)
  where
    apart : (s k : ℕ) → (k == s) ≡ false → (s == k) ≡ false
    apart s k e = grind (arith, nat_tests)

    first : (k : ℕ) (ids : List ℕ) → ((k == s) || list_any (λ i. i == s) ids) ≡ false → (k == s) ≡ false
    first k ids e = by (k == s) e
      where
        by : (b : Bool) → (b || list_any (λ i. i == s) ids) ≡ false → b ≡ false
        by true e = e
        by false e = refl

    rest : (k : ℕ) (ids : List ℕ) → ((k == s) || list_any (λ i. i == s) ids) ≡ false → list_any (λ i. i == s) ids ≡ false
    rest k ids e = by (k == s) e
      where
        by : (b : Bool) → (b || list_any (λ i. i == s) ids) ≡ false → list_any (λ i. i == s) ids ≡ false
        by true e = absurd (false≢true (sym e))
        by false e = e

sum_present : (s n : ℕ) (f g : ℕ → ℕ) (ids : List ℕ) → list_any (λ i. i == s) ids ≡ true → steps.is_once s ids ≡ true → ((k : ℕ) → g k ≡ (if s == k then n else 0) + f k) → sum_by g ids ≡ n + sum_by f ids
sum_present s n f g [] e once h = absurd (false≢true e)
sum_present s n f g (k ∷ ids) e once h = by (k == s) refl e once (λ later again. sum_present s n f g ids later again h)
  where
    apart : (s k : ℕ) → (k == s) ≡ false → (s == k) ≡ false
    apart s k e = grind (arith, nat_tests)

    turned : (s k : ℕ) → (k == s) ≡ true → (s == k) ≡ true
    turned s k e = grind (arith, nat_tests)

    by : (b : Bool) → (k == s) ≡ b → (b || list_any (λ i. i == s) ids) ≡ true → (if b then not (list_any (λ i. i == s) ids) else steps.is_once s ids) ≡ true →
        (list_any (λ i. i == s) ids ≡ true → steps.is_once s ids ≡ true → sum_by g ids ≡ n + sum_by f ids) → sum_by g (k ∷ ids) ≡ n + sum_by f (k ∷ ids)
    by true is e once later =
        omega (arith, sum_by-cons f k ids, sum_by-cons g k ids, h k, ap (λ (b : Bool). if b then n else 0) (turned s k is), sum_absent s n f g ids (not_true (list_any (λ i. i == s) ids) once) h)
    by false is e once later =
        omega (arith, sum_by-cons f k ids, sum_by-cons g k ids, h k, ap (λ (b : Bool). if b then n else 0) (apart s k is), later e once)

-- ---- the calls that are kept

none_on : (k : ℕ) (cs : List CallState) → list_any (λ i. i == k) (streams cs) ≡ false → call_on k cs ≡ None
none_on k [] e = refl
none_on k (c ∷ cs) e = by (c.stream == k) e (none_on k cs)
  where
    by : (b : Bool) → (b || list_any (λ i. i == k) (streams cs)) ≡ false → (list_any (λ i. i == k) (streams cs) ≡ false → call_on k cs ≡ None) → (if b then Some c else call_on k cs) ≡ None
    by true e later = absurd (false≢true (sym e))
    by false e later = later e

once_absent : (k : ℕ) (ids : List ℕ) → list_any (λ i. i == k) ids ≡ false → is_once k ids ≡ true
once_absent k [] e = refl
once_absent k (id ∷ ids) e = by (id == k) e (once_absent k ids)
  where
    by : (b : Bool) → (b || list_any (λ i. i == k) ids) ≡ false → (list_any (λ i. i == k) ids ≡ false → is_once k ids ≡ true) → (if b then not (list_any (λ i. i == k) ids) else is_once k ids) ≡ true
    by true e later = absurd (false≢true (sym e))
    by false e later = later e

once_rest : (k id : ℕ) (ids : List ℕ) → is_once k (id ∷ ids) ≡ true → is_once k ids ≡ true
once_rest k id ids e = by (id == k) e
  where
    by : (b : Bool) → (if b then not (list_any (λ i. i == k) ids) else is_once k ids) ≡ true → is_once k ids ≡ true
    by true e = once_absent k ids (not_true (list_any (λ i. i == k) ids) e)
    by false e = e

no_other : (id : ℕ) (ids : List ℕ) → is_once id (id ∷ ids) ≡ true → list_any (λ i. i == id) ids ≡ false
no_other id ids e = not_true (list_any (λ i. i == id) ids) (sym (ap (λ (b : Bool). if b then not (list_any (λ i. i == id) ids) else is_once id ids) (same_self id)) ∙ e)

abbrev AreIn : List ℕ → List CallState → Type 0
AreIn ids [] = Unit {0}
AreIn ids (c ∷ cs) = (list_any (λ i. i == c.stream) ids ≡ true) × AreIn ids cs

zero_either : (b : Bool) → if_live b 0 ≡ 0
zero_either true = refl
zero_either false = refl

waits_from : (p : ℕ → Bool) (all : List ℕ) (cs : List CallState) → ((k : ℕ) → steps.is_once k all ≡ true) → AreIn all cs → ((k : ℕ) → is_once k (streams cs) ≡ true) →
    sum_by (λ k. if_live (p k) (left_by (call_on k cs))) all ≡ waiting_on p cs
waits_from p all [] once within apart = sum_none (λ k. if_live (p k) 0) all (λ k. zero_either (p k))
waits_from p all (c ∷ cs) once (here, within) apart =
    let n : ℕ = if_live (p c.stream) (length c.unsent) in
    let alone : call_on c.stream cs ≡ None = none_on c.stream cs (no_other c.stream (streams cs) (apart c.stream)) in
    let one = sum_present c.stream n (λ k. if_live (p k) (left_by (call_on k cs))) (λ k. if_live (p k) (left_by (call_on k (c ∷ cs)))) all here (once c.stream) (λ k. by alone k (c.stream == k) refl) in
    let rest = waits_from p all cs once within (λ k. once_rest k c.stream (streams cs) (apart k)) in
    omega (arith, one, rest, sum_by-cons (λ (x : CallState). if p x.stream then length x.unsent else 0) c cs)
  where
    by : call_on c.stream cs ≡ None → (k : ℕ) (b : Bool) → (c.stream == k) ≡ b →
        if_live (p k) (left_by (if b then Some c else call_on k cs)) ≡ (if b then if_live (p c.stream) (length c.unsent) else 0) + if_live (p k) (left_by (call_on k cs))
    by alone k true e =
        let on : c.stream ≡ k = grind (arith, nat_tests) in
        let none : call_on k cs ≡ None = subst (λ (id : ℕ). call_on id cs ≡ None) on alone in
        omega (arith, ap (λ (o : Option CallState). if_live (p k) (left_by o)) none, zero_either (p k), ap (λ (id : ℕ). if_live (p id) (length c.unsent)) on)
    by alone k false e = omega arith

-- ---- what waits

stands_at : (t : CallTrace) (role : Role) (pending : Pending) (done olds : List CallState) (old : CallState) → Holds (record { role = role; calls = done ++ old ∷ olds; pending = pending }) t → StandsOn t pending old.stream (Some old)
stands_at t role pending done olds old h = subst (StandsOn t pending old.stream) (here old.stream done olds old refl (h.once old.stream)) (h.each old.stream)

are_begun : (t : CallTrace) (role : Role) (pending : Pending) (done olds : List CallState) → Holds (record { role = role; calls = done ++ olds; pending = pending }) t → AreIn (begun t.connection_trace.role t.connection_trace.frames) olds
are_begun t role pending done [] h = tt
are_begun t role pending done (c ∷ olds) h = (
  begun_has t.connection_trace.role t.connection_trace.frames c.stream ∙ (stands_at t role pending done olds c h).1,
  are_begun t role pending (done ++ c ∷ []) olds (subst (λ (cs : List CallState). Holds (record { role = role; calls = cs; pending = pending }) t) (sym (append_assoc done (c ∷ []) olds)) h),
)

none_left : (t : CallTrace) (id : ℕ) → queued_on t id ≡ [] → unsent_on t id ≡ 0
none_left t id none = omega (arith, ap (λ items. length (flat_map text_of items)) none)

left_unkept : (t : CallTrace) (id : ℕ) (role : Role) → t.connection_trace.role ≡ role → is_live t.connection_trace.role t.connection_trace.frames id ≡ true → IsUnkept role t id → unsent_on t id ≡ 0
left_unkept t id Server role_is lives h = none_left t id h.nothing
left_unkept t id Client role_is lives h = absurd (clash _ (subst (λ (r : Role). is_begun r t.connection_trace.frames id ≡ true) role_is (and_parts _ _ lives).0) h.unbegun)

left_on : (t : CallTrace) (pending : Pending) (id : ℕ) (o : Option CallState) → is_live t.connection_trace.role t.connection_trace.frames id ≡ true → StandsOn t pending id o → unsent_on t id ≡ left_by o
left_on t pending id None lives (inl h) = left_unkept t id t.connection_trace.role refl lives h
left_on t pending id None lives (inr h) = absurd (clash _ h.over (not_true _ (and_parts _ _ lives).1))
left_on t pending id (Some c) lives (on, begun, h) = ap (unsent_on t) (sym on) ∙ omega (arith, h.sends.speaks.count)

pub waits : (s : State) (t : CallTrace) → Holds s t → waiting_on (is_live t.connection_trace.role t.connection_trace.frames) s.calls ≡ waiting_in t
waits s t h =
    let p = is_live t.connection_trace.role t.connection_trace.frames in
    let all = begun t.connection_trace.role t.connection_trace.frames in
    sym (waits_from p all s.calls (begun_once t.connection_trace.role t.connection_trace.frames) (are_begun t s.role s.pending [] s.calls h) h.once)
    ∙ sum_same (λ k. if_live (p k) (left_by (call_on k s.calls))) (λ k. if_live (p k) (unsent_on t k)) all (λ k. by k (p k) refl) ∙ sym (sum_filter p (unsent_on t) all)
  where
    by : (k : ℕ) (b : Bool) → is_live t.connection_trace.role t.connection_trace.frames k ≡ b → if_live b (left_by (call_on k s.calls)) ≡ if_live b (unsent_on t k)
    by k true e = sym (left_on t s.pending k (call_on k s.calls) e (h.each k))
    by k false e = refl
