-- What the order of a client's calls says of the next one.
use Rattle.std.proofs.Common.{◌≡◌, ℕ, ◌==◌, Bool, ◌||◌, true, false, not, List, [], ◌∷◌, ◌++◌, refl, sym, ap, subst, ◌∙◌, eqb-true}
use Rattle.std.specs.List.{list_any}
use Rattle.std.proofs.lemmas.List.Folds.{list_any-append}
use Rattle.grpc_heads.specs.CallEnd.{CallEnd}
use Rattle.grpc_heads.specs.declared.head.Method.{Method}
use Rattle.h2_exchange.specs.Calls.{Call, Begun, Request, Finished, Dropped, Declined, are_in_place, ends_asking, is_begun_call, is_in_place, stream_in}
use Rattle.h2_exchange.specs.Exchange.{some_step}
use Rattle.h2_exchange.proofs.Looking.{some_more}
use Rattle.h2_exchange.proofs.Places.{and_parts, clash, neither, or_parts}
use Rattle.call_answers.specs.declared.orders.Setting.{Setting}
use Rattle.call_orders.specs.Calls.{Action, Handles, Collects, Continues, Standing, calls_of, not_begun, standing, stream_of}
use Rattle.call_orders.specs.Actions.{AreActions, IsAction, calls_in}
use Rattle.call_orders.proofs.Counts.{standing_other}
use Rattle.call_orders.proofs.Holding.{calls_more}
use Rattle.call_orders.proofs.Standing.{actions_parts}

abbrev calls : Type 0
calls = List (Call Method CallEnd)

abbrev on : ℕ → Call Method CallEnd → Bool
on id c = stream_in c == id

abbrev bad : calls → Call Method CallEnd → Bool
bad past c = not (is_in_place past c)

pub not_false : (b : Bool) → not b ≡ true → b ≡ false
not_false true e = absurd cc
not_false false e = refl

not_bad : (b : Bool) → not b ≡ false → b ≡ true
not_bad true e = refl
not_bad false e = absurd cc

-- a call that stands in its place behind those before it
pub place_of : (past more : calls) (c : Call Method CallEnd) → are_in_place (past ++ c ∷ more) ≡ true → is_in_place past c ≡ true
place_of past more c e =
    let none : some_step bad [] (past ++ c ∷ more) ≡ false = not_false (some_step bad [] (past ++ c ∷ more)) e in
    let parts = or_parts (some_step bad [] past) (some_step bad past (c ∷ more)) (sym (some_more bad [] past (c ∷ more)) ∙ none) in
    not_bad (is_in_place past c) (or_parts (bad past c) (some_step bad (past ++ c ∷ []) more) parts.1).0

pub front_in_place : (past more : calls) → are_in_place (past ++ more) ≡ true → are_in_place past ≡ true
front_in_place past more e =
    let none : some_step bad [] (past ++ more) ≡ false = not_false (some_step bad [] (past ++ more)) e in
    ap not (or_parts (some_step bad [] past) (some_step bad past more) (sym (some_more bad [] past more) ∙ none)).0

-- ---- a stream on which nothing was heard

none_on : (id : ℕ) (past : calls) (c : Call Method CallEnd) → is_in_place past c ≡ true → list_any (is_begun_call id) past ≡ false → is_begun_call id c ≡ false → ends_asking id c ≡ false → on id c ≡ false
none_on id past (Begun k m) place unbegun first asks = first
none_on id past (Request k m) place unbegun first asks = by (k == id) refl
  where
    by : (b : Bool) → (k == id) ≡ b → b ≡ false
    by false e = refl
    by true e = absurd (clash (list_any (is_begun_call id) past) (subst (λ (n : ℕ). list_any (is_begun_call n) past ≡ true) (eqb-true k id e) (and_parts (list_any (is_begun_call k) past) (not (list_any (ends_asking k) past)) place).0) unbegun)
none_on id past (Finished k) place unbegun first asks = asks
none_on id past (Dropped k) place unbegun first asks = asks
none_on id past (Declined k answer) place unbegun first asks = asks

unheard_from : (id : ℕ) (past x : calls) → some_step bad past x ≡ false → list_any (is_begun_call id) past ≡ false → list_any (is_begun_call id) x ≡ false → list_any (ends_asking id) x ≡ false → list_any (on id) x ≡ false
unheard_from id past [] places before unbegun asks = refl
unheard_from id past (c ∷ x) places before unbegun asks =
    let place = or_parts (bad past c) (some_step bad (past ++ c ∷ []) x) places in
    let begins = or_parts (is_begun_call id c) (list_any (is_begun_call id) x) unbegun in
    let ends = or_parts (ends_asking id c) (list_any (ends_asking id) x) asks in
    let next : list_any (is_begun_call id) (past ++ c ∷ []) ≡ false =
    list_any-append (is_begun_call id) past (c ∷ []) ∙ neither (list_any (is_begun_call id) past) (is_begun_call id c || false) before (neither (is_begun_call id c) false begins.0 refl) in
    neither (on id c) (list_any (on id) x) (none_on id past c (not_bad (is_in_place past c) place.0) before begins.0 ends.0) (unheard_from id (past ++ c ∷ []) x place.1 next begins.1 ends.1)

-- where a call has neither begun nor an end to its asking, nothing was heard of it
pub unheard : (id : ℕ) (cs : calls) → are_in_place cs ≡ true → list_any (is_begun_call id) cs ≡ false → list_any (ends_asking id) cs ≡ false → list_any (λ c. stream_in c == id) cs ≡ false
unheard id cs places unbegun asks = unheard_from id [] cs (not_false (some_step bad [] cs) places) refl unbegun asks

-- ---- a call of which nothing was heard stands as it does at first

not_here : (s : Setting) (id : ℕ) (a : Action) (st : Standing) → st ≡ not_begun → list_any (on id) (calls_of a) ≡ false → (stream_of a == id) ≡ true → IsAction s st a → ⊥
not_here s id (Handles call did cut) st e none here act = clash (on id call) here (or_parts (on id call) false none).0
not_here s id (Collects k did cut) st e none here act = let wrong = sym act.state_is ∙ ap (λ (x : Standing). x.state) e in absurd cc
not_here s id (Continues k cut) st e none here act = let wrong = sym act.state_is ∙ ap (λ (x : Standing). x.state) e in absurd cc

pub unheard_standing : (s : Setting) (actions : List Action) (id : ℕ) → AreActions s actions → list_any (λ c. stream_in c == id) (calls_in actions) ≡ false → standing s actions id ≡ not_begun
unfolding standing
unheard_standing s [] id h none = refl
unheard_standing s (a ∷ earlier) id h none =
    let parts = actions_parts s a earlier h in
    let apart = or_parts (list_any (on id) (calls_in earlier)) (list_any (on id) (calls_of a)) (sym (list_any-append (on id) (calls_in earlier) (calls_of a)) ∙ sym (ap (list_any (on id)) (calls_more a earlier)) ∙ none) in
    by (unheard_standing s earlier id parts.1 apart.0) parts.0 apart.1 (stream_of a == id) refl
  where
    by : standing s earlier id ≡ not_begun → IsAction s (standing s earlier (stream_of a)) a → list_any (on id) (calls_of a) ≡ false → (b : Bool) → (stream_of a == id) ≡ b → standing s (a ∷ earlier) id ≡ not_begun
    by before act none false e = standing_other s a earlier id e ∙ before
    by before act none true e = absurd (not_here s id a (standing s earlier (stream_of a)) (ap (standing s earlier) (eqb-true (stream_of a) id e) ∙ before) none e act)
