-- What one more step of an exchange, or one more frame of a side, changes.
use Rattle.std.proofs.Common.{◌≡◌, ℕ, ◌<◌, ◌≤◌, max, Bool, ◌||◌, ◌&&◌, true, false, List, [], ◌∷◌, ◌++◌, Option, None, refl, sym, ap, ◌∙◌, arith, append_assoc}
use Rattle.std.specs.Prelude.{not, option_to_list, nat_lt, ◌==◌, if◌then◌else◌, fold}
use Rattle.std.specs.List.{list_any, flat_map}
use Rattle.std.proofs.lemmas.List.{append-nil}
use Rattle.std.proofs.lemmas.List.Concat.{flat_map-append}
use Rattle.std.proofs.lemmas.List.Folds.{list_any-append}
use Rattle.std.proofs.lemmas.List.Sums.{sum_by_push, fold_push, fold-append}
use Rattle.std.proofs.lemmas.Bool.Decides.{nat_tests}
use Rattle.h2_frames.specs.declared.frame.Frame.{Frame}
use Rattle.h2_exchange.specs.declared.role.Role.{Role}
use Rattle.h2_exchange.specs.declared.role.Role.TheVariants.{Client, Server}
use Rattle.h2_exchange.specs.Blocks.{Block, open_behind, blocks, blocks_behind, left_open, completed, completed_by}
use Rattle.h2_exchange.specs.Exchange.{Step, Received, Sent, received_of, sent_of, received, sent, some_step, collect}
use Rattle.h2_exchange.specs.Frames.{stream_of, is_headers, is_window_update, increment_of, counted, is_data, has_end_stream, is_rst_stream}
use Rattle.h2_exchange.specs.Laws.{WindowSumsGrow, HeaderBlocksGrow, StreamsEnd}
use Rattle.h2_exchange.specs.Streams.{of_client, highest, is_odd, begins, is_begun, is_ended_by, is_last_on, has_rst_stream, is_reset, is_over, is_new, begun}
use Rattle.h2_exchange.proofs.Looking.{some_push, collect_push}

-- ---- received and sent frames

pub received_more : (x more : List Step) → received (x ++ more) ≡ received x ++ received more
received_more x more = flat_map-append received_of x more

pub sent_more : (x more : List Step) → sent (x ++ more) ≡ sent x ++ sent more
sent_more x more = flat_map-append sent_of x more

pub received_push : (x : List Step) (f : Frame) → received (x ++ Received f ∷ []) ≡ received x ++ f ∷ []
received_push x f = received_more x (Received f ∷ [])

pub received_sent : (x : List Step) (f : Frame) → received (x ++ Sent f ∷ []) ≡ received x
received_sent x f = received_more x (Sent f ∷ []) ∙ append-nil (received x)

pub sent_push : (x : List Step) (f : Frame) → sent (x ++ Sent f ∷ []) ≡ sent x ++ f ∷ []
sent_push x f = sent_more x (Sent f ∷ [])

pub sent_received : (x : List Step) (f : Frame) → sent (x ++ Received f ∷ []) ≡ sent x
sent_received x f = sent_more x (Received f ∷ []) ∙ append-nil (sent x)

-- ---- windows

pub window_sums_grow : WindowSumsGrow
window_sums_grow = record {
  granted_push = λ id fs f. sum_by_push (λ (g : Frame). if is_window_update g && stream_of g == id then increment_of g else 0) fs f;
  spent_on_push = λ id fs f. sum_by_push (λ (g : Frame). if stream_of g == id then counted g else 0) fs f;
  spent_push = λ fs f. sum_by_push counted fs f;
}

-- ---- header blocks

pub open_more : (b : Option Block) (fs gs : List Frame) → open_behind b (fs ++ gs) ≡ open_behind (open_behind b fs) gs
open_more b [] gs = refl
open_more b (f ∷ fs) gs = open_more (left_open b f) fs gs

pub blocks_more : (b : Option Block) (fs gs : List Frame) → blocks_behind b (fs ++ gs) ≡ blocks_behind b fs ++ blocks_behind (open_behind b fs) gs
blocks_more b [] gs = refl
blocks_more b (f ∷ fs) gs =
    ap (λ (bs : List Block). option_to_list (completed_by b f) ++ bs) (blocks_more (left_open b f) fs gs)
    ∙ sym (append_assoc (option_to_list (completed_by b f)) (blocks_behind (left_open b f) fs) (blocks_behind (open_behind (left_open b f) fs) gs))

pub header_blocks_grow : HeaderBlocksGrow
header_blocks_grow = record {
  open_push = λ fs f. open_more None fs (f ∷ []);
  blocks_push = λ fs f. blocks_more None fs (f ∷ []) ∙ ap (λ (bs : List Block). blocks fs ++ bs) (append-nil (option_to_list (completed fs f)));
}

-- ---- streams

pub highest_push : (fs : List Frame) (f : Frame) → highest (fs ++ f ∷ []) ≡ (if is_headers f && is_odd (stream_of f) then max (highest fs) (stream_of f) else highest fs)
highest_push fs f = fold_push (λ (most : ℕ) (g : Frame). if is_headers g && is_odd (stream_of g) then max most (stream_of g) else most) 0 fs f

pub begun_push : (role : Role) (x : List Step) (s : Step) (id : ℕ) → is_begun role (x ++ s ∷ []) id ≡ (is_begun role x id || begins role id x s)
begun_push role x s id = some_push (begins role id) x s

-- a test that stays true in one of its parts
or_left : (a b : Bool) → a ≡ true → (a || b) ≡ true
or_left true b e = refl
or_left false b e = absurd cc

any_more : {A : Type 0} (p : A → Bool) (xs ys : List A) → list_any p xs ≡ true → list_any p (xs ++ ys) ≡ true
any_more p xs ys e = list_any-append p xs ys ∙ or_left (list_any p xs) (list_any p ys) e

either : (a b c d : Bool) → (a ≡ true → c ≡ true) → (b ≡ true → d ≡ true) → (a || b) ≡ true → (c || d) ≡ true
either true b c d p q e = or_left c d (p refl)
either false b true d p q e = refl
either false b false d p q e = q e

both : (a b c d : Bool) → (a ≡ true → c ≡ true) → (b ≡ true → d ≡ true) → (a && b) ≡ true → (c && d) ≡ true
both true b c d p q e = ap (λ (r : Bool). r && d) (p refl) ∙ q e
both false b c d p q e = absurd cc

pub ended_more : (fs gs : List Frame) (id : ℕ) → is_ended_by fs id ≡ true → is_ended_by (fs ++ gs) id ≡ true
ended_more fs gs id =
    either (list_any (λ f. is_data f && has_end_stream f && stream_of f == id) fs) (list_any (is_last_on id) (blocks fs))
    (list_any (λ f. is_data f && has_end_stream f && stream_of f == id) (fs ++ gs)) (list_any (is_last_on id) (blocks (fs ++ gs)))
    (any_more (λ f. is_data f && has_end_stream f && stream_of f == id) fs gs)
    (λ e. ap (list_any (is_last_on id)) (blocks_more None fs gs) ∙ any_more (is_last_on id) (blocks fs) (blocks_behind (open_behind None fs) gs) e)

ended_of : (fs gs more : List Frame) (id : ℕ) → gs ≡ fs ++ more → is_ended_by fs id ≡ true → is_ended_by gs id ≡ true
ended_of fs gs more id split e = ap (λ (l : List Frame). is_ended_by l id) split ∙ ended_more fs more id e

stopped_of : (fs gs more : List Frame) (id : ℕ) → gs ≡ fs ++ more → has_rst_stream fs id ≡ true → has_rst_stream gs id ≡ true
stopped_of fs gs more id split e = ap (λ (l : List Frame). has_rst_stream l id) split ∙ any_more (λ f. is_rst_stream f && stream_of f == id) fs more e

pub over_stays : (x more : List Step) (id : ℕ) → is_over x id ≡ true → is_over (x ++ more) id ≡ true
over_stays x more id =
    either (is_reset x id) (is_ended_by (received x) id && is_ended_by (sent x) id) (is_reset (x ++ more) id) (is_ended_by (received (x ++ more)) id && is_ended_by (sent (x ++ more)) id)
    (either (has_rst_stream (received x) id) (has_rst_stream (sent x) id) (has_rst_stream (received (x ++ more)) id) (has_rst_stream (sent (x ++ more)) id)
    (stopped_of (received x) (received (x ++ more)) (received more) id (received_more x more))
    (stopped_of (sent x) (sent (x ++ more)) (sent more) id (sent_more x more)))
    (both (is_ended_by (received x) id) (is_ended_by (sent x) id) (is_ended_by (received (x ++ more)) id) (is_ended_by (sent (x ++ more)) id)
    (ended_of (received x) (received (x ++ more)) (received more) id (received_more x more))
    (ended_of (sent x) (sent (x ++ more)) (sent more) id (sent_more x more)))

-- ---- a stream begins once

of_client_more : (role : Role) (x more : List Step) → of_client role (x ++ more) ≡ of_client role x ++ of_client role more
of_client_more Server x more = received_more x more
of_client_more Client x more = sent_more x more

raised : (h o : Bool) (m n : ℕ) → m ≤ (if h && o then max m n else m)
raised true true m n = omega arith
raised true false m n = omega arith
raised false o m n = omega arith

abbrev raise : ℕ → Frame → ℕ
raise most f = if is_headers f && is_odd (stream_of f) then max most (stream_of f) else most

at_least : (m : ℕ) (fs : List Frame) → m ≤ fold raise m fs
at_least m [] = omega arith
at_least m (f ∷ fs) = omega (arith, raised (is_headers f) (is_odd (stream_of f)) m (stream_of f), at_least (raise m f) fs)

highest_more : (fs gs : List Frame) → highest fs ≤ highest (fs ++ gs)
highest_more fs gs = omega (arith, fold-append raise 0 fs gs, at_least (highest fs) gs)

new_low : (h o : Bool) (m n id r : ℕ) → ((h && o && nat_lt m n && n == id) || false) ≡ true → r ≡ (if h && o then max m n else m) → id ≤ r
new_low true true m n id r e p = grind (arith, nat_tests)
new_low true false m n id r e p = absurd cc
new_low false o m n id r e p = absurd cc

new_high : (h o : Bool) (m n id : ℕ) → ((h && o && nat_lt m n && n == id) || false) ≡ true → m < id
new_high true true m n id e = grind (arith, nat_tests)
new_high true false m n id e = absurd cc
new_high false o m n id e = absurd cc

begins_low : (role : Role) (past : List Step) (s : Step) (id : ℕ) → begins role id past s ≡ true → id ≤ highest (of_client role (past ++ s ∷ []))
begins_low Server past (Received f) id e = new_low (is_headers f) (is_odd (stream_of f)) (highest (received past)) (stream_of f) id (highest (received (past ++ Received f ∷ []))) e (ap highest (received_push past f) ∙ highest_push (received past) f)
begins_low Server past (Sent f) id e = absurd cc
begins_low Client past (Received f) id e = absurd cc
begins_low Client past (Sent f) id e = new_low (is_headers f) (is_odd (stream_of f)) (highest (sent past)) (stream_of f) id (highest (sent (past ++ Sent f ∷ []))) e (ap highest (sent_push past f) ∙ highest_push (sent past) f)

begins_high : (role : Role) (past : List Step) (s : Step) (id : ℕ) → begins role id past s ≡ true → highest (of_client role past) < id
begins_high Server past (Received f) id e = new_high (is_headers f) (is_odd (stream_of f)) (highest (received past)) (stream_of f) id e
begins_high Server past (Sent f) id e = absurd cc
begins_high Client past (Received f) id e = absurd cc
begins_high Client past (Sent f) id e = new_high (is_headers f) (is_odd (stream_of f)) (highest (sent past)) (stream_of f) id e

or_cases : (P : Type 0) (a b : Bool) → (a ≡ true → P) → (b ≡ true → P) → (a || b) ≡ true → P
or_cases P true b p q e = p refl
or_cases P false b p q e = q e

begun_low : (role : Role) (past x : List Step) (id : ℕ) → some_step (begins role id) past x ≡ true → id ≤ highest (of_client role (past ++ x))
begun_low role past [] id e = absurd cc
begun_low role past (s ∷ x) id e =
    or_cases (id ≤ highest (of_client role (past ++ s ∷ x))) (begins role id past s) (some_step (begins role id) (past ++ s ∷ []) x)
    (λ now. omega (
      arith,
      begins_low role past s id now,
      highest_more (of_client role (past ++ s ∷ [])) (of_client role x),
      ap highest (of_client_more role (past ++ s ∷ []) x),
      ap (λ (y : List Step). highest (of_client role y)) (append_assoc past (s ∷ []) x),
    ))
    (λ later. omega (arith, begun_low role (past ++ s ∷ []) x id later, ap (λ (y : List Step). highest (of_client role y)) (append_assoc past (s ∷ []) x))) e

-- what was begun is at most the greatest id
pub begun_within : (role : Role) (x : List Step) (id : ℕ) → is_begun role x id ≡ true → id ≤ highest (of_client role x)
begun_within role x id e = begun_low role [] x id e

is_false : (a : Bool) → (a ≡ true → ⊥) → a ≡ false
is_false true k = absurd (k refl)
is_false false k = refl

pub begins_once : (role : Role) (x : List Step) (s : Step) (id : ℕ) → begins role id x s ≡ true → is_begun role x id ≡ false
begins_once role x s id e = is_false (is_begun role x id) (λ b. omega (arith, begun_within role x id b, begins_high role x s id e))

pub streams_end : StreamsEnd
streams_end = record { begun_push = begun_push; begins_once = begins_once; over_stays = over_stays }

-- ---- the ids that were begun

abbrev new_ids : Role → List Step → Step → List ℕ
new_ids role past s = flat_map (λ f. if is_new (of_client role past) f then stream_of f ∷ [] else []) (of_client role (s ∷ []))

nothing_new : (b : Bool) (n k : ℕ) → list_any (λ id. id == k) ((if b then n ∷ [] else []) ++ []) ≡ (b && n == k || false)
nothing_new true n k = refl
nothing_new false n k = refl

new_has : (role : Role) (past : List Step) (s : Step) (k : ℕ) → list_any (λ id. id == k) (new_ids role past s) ≡ begins role k past s
new_has Server past (Received f) k = nothing_new (is_new (received past) f) (stream_of f) k
new_has Server past (Sent f) k = refl
new_has Client past (Received f) k = refl
new_has Client past (Sent f) k = nothing_new (is_new (sent past) f) (stream_of f) k

begun_has_from : (role : Role) (past x : List Step) (k : ℕ) → list_any (λ id. id == k) (collect (new_ids role) past x) ≡ some_step (begins role k) past x
begun_has_from role past [] k = refl
begun_has_from role past (s ∷ x) k =
    list_any-append (λ id. id == k) (new_ids role past s) (collect (new_ids role) (past ++ s ∷ []) x)
    ∙ ap (λ (b : Bool). b || list_any (λ id. id == k) (collect (new_ids role) (past ++ s ∷ []) x)) (new_has role past s k)
    ∙ ap (λ (b : Bool). begins role k past s || b) (begun_has_from role (past ++ s ∷ []) x k)

-- an id stands in the list of those that were begun exactly where it was begun
pub begun_has : (role : Role) (x : List Step) (k : ℕ) → list_any (λ id. id == k) (begun role x) ≡ is_begun role x k
begun_has role x k = begun_has_from role [] x k

pub begun_list_push : (role : Role) (x : List Step) (s : Step) → begun role (x ++ s ∷ []) ≡ begun role x ++ new_ids role x s
begun_list_push role x s = collect_push (new_ids role) x s

-- ---- an id is begun once

-- an id stands in a list at most once
abbrev pub is_once : ℕ → List ℕ → Bool
is_once k [] = true
is_once k (id ∷ ids) = if id == k then not (list_any (λ i. i == k) ids) else is_once k ids

once_joined : (k : ℕ) (ids more : List ℕ) → is_once k ids ≡ true → is_once k more ≡ true → (list_any (λ i. i == k) ids ≡ true → list_any (λ i. i == k) more ≡ false) → is_once k (ids ++ more) ≡ true
once_joined k [] more e f g = f
once_joined k (id ∷ ids) more e f g = by (id == k) (list_any (λ i. i == k) ids) refl e g (λ a b. once_joined k ids more a f b)
  where
    by : (t any : Bool) → list_any (λ i. i == k) ids ≡ any → (if t then not any else is_once k ids) ≡ true → ((t || any) ≡ true → list_any (λ i. i == k) more ≡ false) → (is_once k ids ≡ true → (any ≡ true → list_any (λ i. i == k) more ≡ false) → is_once k (ids ++ more) ≡ true) →
        (if t then not (list_any (λ i. i == k) (ids ++ more)) else is_once k (ids ++ more)) ≡ true
    by true true q e g r = absurd cc
    by true false q e g r = ap not (list_any-append (λ i. i == k) ids more ∙ ap (λ (b : Bool). b || list_any (λ i. i == k) more) q ∙ g refl)
    by false any q e g r = r e g

begun_high : (role : Role) (past x : List Step) (id : ℕ) → some_step (begins role id) past x ≡ true → highest (of_client role past) < id
begun_high role past [] id e = absurd cc
begun_high role past (s ∷ x) id e =
    or_cases (highest (of_client role past) < id) (begins role id past s) (some_step (begins role id) (past ++ s ∷ []) x) (λ now. begins_high role past s id now)
    (λ later. omega (arith, begun_high role (past ++ s ∷ []) x id later, ap highest (of_client_more role past (s ∷ [])), highest_more (of_client role past) (of_client role (s ∷ [])))) e

one_once : (k : ℕ) (b : Bool) (n : ℕ) → is_once k ((if b then n ∷ [] else []) ++ []) ≡ true
one_once k false n = refl
one_once k true n = same (n == k)
  where
    same : (t : Bool) → (if t then not false else true) ≡ true
    same true = refl
    same false = refl

new_once : (role : Role) (past : List Step) (s : Step) (k : ℕ) → is_once k (new_ids role past s) ≡ true
new_once Server past (Received f) k = one_once k (is_new (received past) f) (stream_of f)
new_once Server past (Sent f) k = refl
new_once Client past (Received f) k = refl
new_once Client past (Sent f) k = one_once k (is_new (sent past) f) (stream_of f)

once_from : (role : Role) (past x : List Step) (k : ℕ) → is_once k (collect (new_ids role) past x) ≡ true
once_from role past [] k = refl
once_from role past (s ∷ x) k =
    once_joined k (new_ids role past s) (collect (new_ids role) (past ++ s ∷ []) x) (new_once role past s k) (once_from role (past ++ s ∷ []) x k)
    (λ e. begun_has_from role (past ++ s ∷ []) x k ∙ is_false (some_step (begins role k) (past ++ s ∷ []) x) (λ later. omega (arith, begun_high role (past ++ s ∷ []) x k later, begins_low role past s k (sym (new_has role past s k) ∙ e))))

-- the ids that were begun all differ
pub begun_once : (role : Role) (x : List Step) (k : ℕ) → is_once k (begun role x) ≡ true
begun_once role x k = once_from role [] x k
