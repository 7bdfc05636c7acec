-- The calls that events in order spell stand in their places.
use Rattle.std.proofs.Common.{◌≡◌, ◌⊎◌, ℕ, Bool, ◌||◌, ◌&&◌, true, false, List, [], ◌∷◌, ◌++◌, refl, ap, ◌∙◌, inl, inr}
use Rattle.std.specs.Prelude.{not, ◌==◌, map}
use Rattle.std.specs.List.{list_any}
use Rattle.std.proofs.lemmas.Bool.{eq-eqb}
use Rattle.std.proofs.lemmas.List.Folds.{list_any-append}
use Rattle.h2_exchange.specs.Calls.{Call, Begun, Request, Finished, Dropped, Declined, is_ended_on, is_begun_call, stream_in, ends_asking, ends_call, is_in_place}
use Rattle.h2_exchange.specs.Events.{Event, Head, Data, Ended, Reset, GoneAway}
use Rattle.h2_exchange.specs.Exchange.{some_step}
use Rattle.h2_exchange.proofs.Looking.{or_nothing}

-- ---- tests

pub or_parts : (a b : Bool) → (a || b) ≡ false → (a ≡ false) × (b ≡ false)
or_parts true b e = absurd cc
or_parts false b e = (refl, e)

pub neither : (a b : Bool) → a ≡ false → b ≡ false → (a || b) ≡ false
neither true b e f = absurd cc
neither false b e f = f

pub and_parts : (a b : Bool) → (a && b) ≡ true → (a ≡ true) × (b ≡ true)
and_parts true b e = (refl, e)
and_parts false b e = absurd cc

pub clash : (b : Bool) → b ≡ true → b ≡ false → ⊥
clash b e f = cc

pub one_of : (a b : Bool) → (a || b) ≡ true → (a ≡ true) ⊎ (b ≡ true)
one_of true b e = inl refl
one_of false b e = inr e

pub first_true : (a b : Bool) → a ≡ true → (a || b) ≡ true
first_true true b e = refl
first_true false b e = absurd cc

pub second_true : (a b : Bool) → b ≡ true → (a || b) ≡ true
second_true true b e = refl
second_true false b e = e

pub and_false : (a b : Bool) → a ≡ false → (a && b) ≡ false
and_false true b e = absurd cc
and_false false b e = refl

pub not_true : (b : Bool) → not b ≡ true → b ≡ false
not_true true e = absurd cc
not_true false e = refl

pub same_self : (k : ℕ) → (k == k) ≡ true
same_self k = eq-eqb k k refl

pub any_push : {A : Type 0} (p : A → Bool) (xs : List A) (x : A) → list_any p (xs ++ x ∷ []) ≡ (list_any p xs || p x)
any_push p xs x = list_any-append p xs (x ∷ []) ∙ ap (λ (b : Bool). list_any p xs || b) (or_nothing (p x))

-- what no element passes, none passes a harder test
pub weaker : {A : Type 0} (p q : A → Bool) → ((x : A) → q x ≡ true → p x ≡ true) → (xs : List A) → list_any p xs ≡ false → list_any q xs ≡ false
weaker p q harder [] e = refl
weaker p q harder (x ∷ xs) e =
    let r = or_parts (p x) (list_any p xs) e in
    neither (q x) (list_any q xs) (by (q x) refl r.0) (weaker p q harder xs r.1)
  where
    by : (b : Bool) → q x ≡ b → p x ≡ false → q x ≡ false
    by true is no_p = absurd (clash (p x) (harder x is) no_p)
    by false is no_p = is

pub asks_right : (a b : Bool) → a ≡ true → b ≡ false → not (a && not b) ≡ false
asks_right true false e f = refl
asks_right true true e f = absurd cc
asks_right false b e f = absurd cc

pub twice_not : (b : Bool) → b ≡ false → not (not b) ≡ false
twice_not false e = refl
twice_not true e = absurd cc

-- ---- events in order

abbrev pub heads_on : ℕ → Event → Bool
heads_on k (Head stream fields last) = stream == k
heads_on k other = false

abbrev pub closes_on : ℕ → Event → Bool
closes_on k (Head stream fields last) = last && stream == k
closes_on k (Ended stream) = stream == k
closes_on k (Reset stream why) = stream == k
closes_on k other = false

abbrev pub brings_on : ℕ → Event → Bool
brings_on k (Data stream bytes) = stream == k
brings_on k (Ended stream) = stream == k
brings_on k other = false

abbrev pub resets_on : ℕ → Event → Bool
resets_on k (Reset stream why) = stream == k
resets_on k other = false

-- A stream has one head and one reset, and neither data nor an end behind its end.
pub record MayCome (past : List Event) (e : Event) : Type 0 where
  pub once : (k : ℕ) → heads_on k e ≡ true → list_any (heads_on k) past ≡ false
  pub goes : (k : ℕ) → brings_on k e ≡ true → list_any (closes_on k) past ≡ false
  pub lives : (k : ℕ) → resets_on k e ≡ true → list_any (resets_on k) past ≡ false

abbrev pub AreInOrder : List Event → List Event → Type 0
AreInOrder past [] = Unit {0}
AreInOrder past (e ∷ es) = MayCome past e × AreInOrder (past ++ e ∷ []) es

pub ended_closes : (k : ℕ) (e : Event) → is_ended_on k e ≡ true → closes_on k e ≡ true
ended_closes k (Head s f l) e = absurd cc
ended_closes k (Data s b) e = absurd cc
ended_closes k (Ended s) e = e
ended_closes k (Reset s w) e = absurd cc
ended_closes k (GoneAway s w) e = absurd cc

module _ {M E : Type 0} where
  pub asking_on : (k : ℕ) (c : Call M E) → ends_asking k c ≡ true → (stream_in c == k) ≡ true
  asking_on k (Begun s m) e = absurd cc
  asking_on k (Request s m) e = absurd cc
  asking_on k (Finished s) e = e
  asking_on k (Dropped s) e = e
  asking_on k (Declined s a) e = e

  pub call_on : (k : ℕ) (c : Call M E) → ends_call k c ≡ true → (stream_in c == k) ≡ true
  call_on k (Begun s m) e = absurd cc
  call_on k (Request s m) e = absurd cc
  call_on k (Finished s) e = absurd cc
  call_on k (Dropped s) e = e
  call_on k (Declined s a) e = e

  abbrev pub on : ℕ → Call M E → Bool
  on k c = stream_in c == k

  pub quiet_asking : (k : ℕ) (cs : List (Call M E)) → list_any (on k) cs ≡ false → list_any (ends_asking k) cs ≡ false
  quiet_asking k cs e = weaker (on k) (ends_asking k) (asking_on k) cs e

  pub quiet_call : (k : ℕ) (cs : List (Call M E)) → list_any (on k) cs ≡ false → list_any (ends_call k) cs ≡ false
  quiet_call k cs e = weaker (on k) (ends_call k) (call_on k) cs e

  abbrev pub bad : List (Call M E) → Call M E → Bool
  bad past c = not (is_in_place past c)

  -- ---- requests

  pub requests_elsewhere : (k s : ℕ) (ms : List (List ℕ)) (more : List (Call M E)) → (s == k) ≡ false → list_any (on k) more ≡ false → list_any (on k) (map (Request s) ms ++ more) ≡ false
  requests_elsewhere k s [] more e f = f
  requests_elsewhere k s (m ∷ ms) more e f = neither (s == k) (list_any (on k) (map (Request s) ms ++ more)) e (requests_elsewhere k s ms more e f)

  pub requests_ask : (k s : ℕ) (ms : List (List ℕ)) (more : List (Call M E)) → list_any (ends_asking k) more ≡ false → list_any (ends_asking k) (map (Request s) ms ++ more) ≡ false
  requests_ask k s [] more f = f
  requests_ask k s (m ∷ ms) more f = requests_ask k s ms more f

  pub requests_last : (k s : ℕ) (ms : List (List ℕ)) (more : List (Call M E)) → list_any (ends_call k) more ≡ false → list_any (ends_call k) (map (Request s) ms ++ more) ≡ false
  requests_last k s [] more f = f
  requests_last k s (m ∷ ms) more f = requests_last k s ms more f

  -- the call began, and its client may ask
  abbrev pub Asks : ℕ → List (Call M E) → Type 0
  Asks s cp = (list_any (is_begun_call s) cp ≡ true) × (list_any (ends_asking s) cp ≡ false)

  pub requests_stand : (s : ℕ) (ms : List (List ℕ)) (more cp : List (Call M E)) → Asks s cp → ((now : List (Call M E)) → Asks s now → some_step bad now more ≡ false) → some_step bad cp (map (Request s) ms ++ more) ≡ false
  requests_stand s [] more cp h go = go cp h
  requests_stand s (m ∷ ms) more cp h go =
      neither (bad cp (Request s m)) (some_step bad (cp ++ Request s m ∷ []) (map (Request s) ms ++ more))
      (asks_right (list_any (is_begun_call s) cp) (list_any (ends_asking s) cp) h.0 h.1)
      (requests_stand s ms more (cp ++ Request s m ∷ []) (
        any_push (is_begun_call s) cp (Request s m) ∙ first_true (list_any (is_begun_call s) cp) false h.0,
        any_push (ends_asking s) cp (Request s m) ∙ neither (list_any (ends_asking s) cp) false h.1 refl,
      ) go)
