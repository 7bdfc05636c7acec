-- Which sessions stay, and that they were begun in the order of their numbers: a session stays exactly where its call is open.
use Rattle.std.proofs.Common.{◌≡◌, ◌⊎◌, inl, inr, ℕ, ◌+◌, ◌==◌, ◌<◌, ◌≤◌, Bool, true, false, ◌||◌, ◌&&◌, map, reverse, length, List, [], ◌∷◌, ◌++◌, Option, Some, None, refl, sym, ap, ◌∙◌, subst, append-nil, eq-eqb, arith, if◌then◌else◌}
use Rattle.std.specs.Prelude.{filter, not}
use Rattle.std.specs.List.{AllByRecursion, cons_option, flat_map, list_any}
use Rattle.std.proofs.lemmas.Bool.{eqb-true}
use Rattle.std.proofs.lemmas.List.{map-append, reverse-append, reverse-reverse}
use Rattle.aft_entries.specs.declared.operation.Reason.{Reason}
use Rattle.grpc_heads.specs.CallEnd.{CallEnd}
use Rattle.grpc_heads.specs.declared.head.Method.{Method}
use Rattle.grpc_heads.specs.declared.head.Method.TheVariants.{Modify, Get, Flush}
use Rattle.h2_exchange.specs.Calls.{Call, Begun, Request, Finished, Dropped, Declined}
use Rattle.h2_exchange.specs.StreamParts.{Item}
use Rattle.table_lock.specs.declared.machine.Entry.{Entry}
use Rattle.table_lock.specs.Passes.{IsSound, PassView}
use Rattle.rib_core.specs.Recorded.{IsLawful, event_of, recorded}
use Rattle.table_model.specs.declared.command.Command.{Command}
use Rattle.table_model.specs.declared.command.Command.TheVariants as command
use Rattle.table_model.specs.declared.command.Config.{Config}
use Rattle.table_model.specs.declared.params.Params.{Params}
use Rattle.table_model.specs.declared.reply.Reply.{Reply}
use Rattle.table_model.specs.declared.reply.Reply.TheVariants as reply
use Rattle.table_model.specs.Event.{Event, events, is_began, is_no_memory}
use Rattle.table_model.specs.Jobs.{TrackedTask}
use Rattle.table_model.specs.Legal.{IsAnswer, Legal}
use Rattle.table_model.specs.Reply.{answer, is_gone, is_halted, is_stoppable, operate_reply, params_beside, params_reply, reply_announce, reply_operate, reply_params, reply_take, reply_to, take_reply}
use Rattle.call_answers.specs.declared.orders.Setting.{Setting}
use Rattle.call_orders.specs.Owed.{has_end, items_for}
use Rattle.call_orders.specs.Calls.{Action, CallState, Collects, Continues, Handles, Modifies, NotBegun, Over, Receives, Responds, Standing, after, commands_for, events_of, next_state, refusal_for, standing, stream_of, without_leaves}
use Rattle.call_orders.specs.Actions.{AreActions, IsAction, IsHandled, Leaves, calls_in, events_in, leave, session_in as session_of}
use Rattle.call_orders.specs.Laws.{count, is_begin, is_stray}
use Rattle.call_orders.specs.Orders.{begun_by, begun_in, events_on, has, left_by, left_in, staying}
use Rattle.call_orders.proofs.Counts.{count_self, events_more, events_other, found, of_stream, one_stream, only_stream, standing_here, standing_other, two_streams}
use Rattle.call_orders.proofs.Doing.{Each, begun_append, in_part, left_nothing, none_done, stray_parts}
use Rattle.call_orders.proofs.Holding.{Holds, begun_here, join, left_here, open_work, unbegun_begun, unbegun_left, with_leave, without_leave}
use Rattle.call_orders.proofs.Idle.{Idle, at_state, idles, no_last, over_stays}
use Rattle.call_orders.proofs.Open.{Parted, open_with, parted}
use Rattle.call_orders.proofs.Standing.{actions_parts, begin_here}
use Rattle.session_engine.specs.Laws.{AreOpen}
use Rattle.session_engine.specs.declared.open_calls.OpenCall.{OpenCall}
use Rattle.session_engine.specs.declared.open_calls.OpenCall.TheVariants as opened
use Rattle.session_engine.specs.Queries.{OpenCallsView, call_on, session_in}
use Rattle.session_engine.specs.Stands as engine
use Rattle.session_engine.specs.Stands.{Stands, state_of}
use Rattle.server_turns.specs.Making.{MadeLast}
use Rattle.server_conn.proofs.Replies.{IsAnswered, answered, own_back}

-- ---- numbers that rise

abbrev pub In : ℕ → List ℕ → Type 0
In n [] = ⊥
In n (x ∷ xs) = (x ≡ n) ⊎ In n xs

abbrev pub Rises : List ℕ → Type 0
Rises [] = Unit {0}
Rises (x ∷ xs) = AllByRecursion (λ y. x < y) xs × Rises xs

all_weaker : (P Q : ℕ → Type 0) → ((n : ℕ) → P n → Q n) → (xs : List ℕ) → AllByRecursion P xs → AllByRecursion Q xs
all_weaker P Q weaker [] h = tt
all_weaker P Q weaker (x ∷ xs) h = (weaker x h.0, all_weaker P Q weaker xs h.1)

all_last : (P : ℕ → Type 0) (xs : List ℕ) (n : ℕ) → AllByRecursion P xs → P n → AllByRecursion P (xs ++ n ∷ [])
all_last P [] n h last = (last, tt)
all_last P (x ∷ xs) n h last = (h.0, all_last P xs n h.1 last)

rises_last : (xs : List ℕ) (n : ℕ) → Rises xs → AllByRecursion (λ y. y < n) xs → Rises (xs ++ n ∷ [])
rises_last [] n h below = (tt, tt)
rises_last (x ∷ xs) n h below = (all_last (λ y. x < y) xs n h.0 below.0, rises_last xs n h.1 below.1)

rises_behind : (xs ys : List ℕ) → Rises (xs ++ ys) → Rises ys
rises_behind [] ys h = h
rises_behind (x ∷ xs) ys h = rises_behind xs ys h.1

all_filter : (P : ℕ → Type 0) (test : ℕ → Bool) (xs : List ℕ) → AllByRecursion P xs → AllByRecursion P (filter test xs)
all_filter P test [] h = tt
all_filter P test (x ∷ xs) h = by (test x) (all_filter P test xs h.1)
  where
    by : (b : Bool) → AllByRecursion P (filter test xs) → AllByRecursion P (if b then x ∷ filter test xs else filter test xs)
    by true others = (h.0, others)
    by false others = others

rises_filter : (test : ℕ → Bool) (xs : List ℕ) → Rises xs → Rises (filter test xs)
rises_filter test [] h = tt
rises_filter test (x ∷ xs) h = by (test x) (rises_filter test xs h.1)
  where
    by : (b : Bool) → Rises (filter test xs) → Rises (if b then x ∷ filter test xs else filter test xs)
    by true others = (all_filter (λ y. x < y) test xs h.0, others)
    by false others = others

-- what stands in front is the least
pub rises_least : (m n : ℕ) (xs : List ℕ) → Rises (m ∷ xs) → In n (m ∷ xs) → m ≤ n
rises_least m n xs h (inl same) = omega (arith, same)
rises_least m n [] h (inr none) = absurd none
rises_least m n (x ∷ xs) h (inr (inl same)) = let less = h.0.0 in omega (arith, same, less)
rises_least m n (x ∷ xs) h (inr (inr others)) = rises_least m n xs (h.0.1, h.1.1) (inr others)

-- the first of them stands in front only
pub rises_apart : (m : ℕ) (xs : List ℕ) → Rises (m ∷ xs) → In m xs → ⊥
rises_apart m [] h here = here
rises_apart m (x ∷ xs) h (inl same) = let less = h.0.0 in omega (arith, same, less)
rises_apart m (x ∷ xs) h (inr others) = rises_apart m xs (h.0.1, h.1.1) others

-- ---- how often a number stands in a list

one_more : (x k : ℕ) (xs : List ℕ) (b : Bool) → (x == k) ≡ b → count k (x ∷ xs) ≡ (if b then 1 else 0) + count k xs
one_more x k xs b e = ap (λ (y : Bool). (if y then 1 else 0) + count k xs) e

none_above : (k : ℕ) (xs : List ℕ) → AllByRecursion (λ y. k < y) xs → count k xs ≡ 0
none_above k [] h = refl
none_above k (x ∷ xs) h = by (x == k) refl (none_above k xs h.1)
  where
    by : (b : Bool) → (x == k) ≡ b → count k xs ≡ 0 → count k (x ∷ xs) ≡ 0
    by true e none = let same = eqb-true x k e in let less = h.0 in absurd (omega (arith, same, less))
    by false e none = let more = one_more x k xs false e in omega (arith, more, none)

rises_once : (k : ℕ) (xs : List ℕ) → Rises xs → count k xs ≤ 1
rises_once k [] h = omega arith
rises_once k (x ∷ xs) h = by (x == k) refl (rises_once k xs h.1)
  where
    by : (b : Bool) → (x == k) ≡ b → count k xs ≤ 1 → count k (x ∷ xs) ≤ 1
    by true e once =
        let none : count k xs ≡ 0 = none_above k xs (subst (λ (n : ℕ). AllByRecursion (λ y. n < y) xs) (eqb-true x k e) h.0) in
        let more = one_more x k xs true e in
        omega (arith, more, none)
    by false e once = let more = one_more x k xs false e in omega (arith, more, once)

count_in : (k : ℕ) (xs : List ℕ) → 1 ≤ count k xs → In k xs
count_in k [] h = absurd (omega (arith, h))
count_in k (x ∷ xs) h = by (x == k) refl (count_in k xs)
  where
    by : (b : Bool) → (x == k) ≡ b → (1 ≤ count k xs → In k xs) → In k (x ∷ xs)
    by true e behind = inl (eqb-true x k e)
    by false e behind = inr (behind (let more = one_more x k xs false e in omega (arith, more, h)))

in_count : (k : ℕ) (xs : List ℕ) → In k xs → 1 ≤ count k xs
in_count k [] h = absurd h
in_count k (x ∷ xs) (inl same) = let more = one_more x k xs true (eq-eqb x k same) in omega (arith, more)
in_count k (x ∷ xs) (inr others) = let behind = in_count k xs others in let more = one_more x k xs (x == k) refl in omega (arith, more, behind)

has_none : (k : ℕ) (xs : List ℕ) → count k xs ≡ 0 → has xs k ≡ false
has_none k [] none = refl
has_none k (x ∷ xs) none = by (x == k) refl (has_none k xs)
  where
    by : (b : Bool) → (x == k) ≡ b → (count k xs ≡ 0 → has xs k ≡ false) → ((x == k) || has xs k) ≡ false
    by true e behind = let more = one_more x k xs true e in absurd (omega (arith, more, none))
    by false e behind =
        ap (λ (b : Bool). b || has xs k) e ∙ behind (let more = one_more x k xs false e in omega (arith, more, none))

none_has : (k : ℕ) (xs : List ℕ) → has xs k ≡ false → count k xs ≡ 0
none_has k [] none = refl
none_has k (x ∷ xs) none = by (x == k) refl (none_has k xs)
  where
    by : (b : Bool) → (x == k) ≡ b → (has xs k ≡ false → count k xs ≡ 0) → count k (x ∷ xs) ≡ 0
    by true e behind = absurd (never (has xs k) (sym (ap (λ (b : Bool). b || has xs k) e) ∙ none))
      where
        never : (c : Bool) → (true || c) ≡ false → ⊥
        never c h = cc
    by false e behind =
        let less : count k xs ≡ 0 = behind (sym (ap (λ (b : Bool). b || has xs k) e) ∙ none) in
        let more = one_more x k xs false e in
        omega (arith, more, less)

in_filter : (test : ℕ → Bool) (n : ℕ) (xs : List ℕ) → In n xs → test n ≡ true → In n (filter test xs)
in_filter test n [] h passes = absurd h
in_filter test n (x ∷ xs) (inl same) passes =
    subst (λ (b : Bool). In n (if b then x ∷ filter test xs else filter test xs)) (sym (ap test same ∙ passes)) (inl same)
in_filter test n (x ∷ xs) (inr others) passes = by (test x) (in_filter test n xs others passes)
  where
    by : (b : Bool) → In n (filter test xs) → In n (if b then x ∷ filter test xs else filter test xs)
    by true h = inr h
    by false h = h

filter_in : (test : ℕ → Bool) (n : ℕ) (xs : List ℕ) → In n (filter test xs) → In n xs × (test n ≡ true)
filter_in test n [] h = absurd h
filter_in test n (x ∷ xs) h = by (test x) refl (filter_in test n xs) h
  where
    by : (b : Bool) → test x ≡ b → (In n (filter test xs) → In n xs × (test n ≡ true)) → In n (if b then x ∷ filter test xs else filter test xs) →
        In n (x ∷ xs) × (test n ≡ true)
    by true e behind (inl same) = (inl same, sym (ap test same) ∙ e)
    by true e behind (inr others) = let k = behind others in (inr k.0, k.1)
    by false e behind others = let k = behind others in (inr k.0, k.1)

-- ---- what the table answers a Begin

params_plain : (b : Bool) (o : Option Params) → is_began (if b then reply.ParamsNotAllowed else params_beside o) ≡ false
params_plain true o = refl
params_plain false None = refl
params_plain false (Some params) = refl

announce_plain : (b c : Bool) (n : ℕ) → is_began (if b then reply.NoParams else if c then reply.ZeroId else reply.Announced n) ≡ false
announce_plain true c n = refl
announce_plain false true n = refl
announce_plain false false n = refl

operate_plain : (b : Bool) (o : Option Reason) → is_began (if b then reply.NoParams else operate_reply o) ≡ false
operate_plain true o = refl
operate_plain false None = refl
operate_plain false (Some reason) = refl

either_plain : (b : Bool) (r t : Reply) → is_began r ≡ false → is_began t ≡ false → is_began (if b then r else t) ≡ false
either_plain true r t e f = e
either_plain false r t e f = f

take_plain : (config : Config) (past : List Event) (worker : ℕ) (o : Option TrackedTask) → is_began (take_reply config past worker o) ≡ false
take_plain config past worker None = either_plain _ reply.HaltSeen reply.Idle refl refl
take_plain config past worker (Some tracked) = either_plain _ (reply.Skipped tracked.task.job.number) (reply.Given tracked.task.job) refl refl

asked_plain : (past : List Event) (session : ℕ) (o : Option Params) → is_began (params_reply past session o) ≡ false
asked_plain past session None = refl
asked_plain past session (Some params) = params_plain _ _

answer_plain : (config : Config) (past : List Event) (c : Command) → is_begin c ≡ false → is_began (answer config past c) ≡ false
unfolding reply_params reply_announce reply_operate reply_take
answer_plain config past command.Begin e = absurd cc
answer_plain config past (command.SetParams session asked) e = asked_plain past session _
answer_plain config past (command.Announce session id) e = announce_plain _ _ _
answer_plain config past (command.Operate session operation now) e = operate_plain _ _
answer_plain config past (command.Collect session) e = refl
answer_plain config past (command.Leave session) e = refl
answer_plain config past (command.Flush by which now) e = either_plain _ (reply.Flushed _) (reply.FlushRefused _) refl refl
answer_plain config past (command.Select which kinds) e = refl
answer_plain config past (command.Take worker now) e = take_plain config past worker _
answer_plain config past (command.Report job verdict now) e = either_plain _ reply.Reported reply.NotOut refl refl
answer_plain config past command.Halt e = refl

reply_plain : (config : Config) (past : List Event) (c : Command) → is_begin c ≡ false → is_began (reply_to config past c) ≡ false
unfolding reply_to
reply_plain config past c e =
    either_plain (is_stoppable c && is_halted past) reply.Stopped (if is_gone past c then reply.Gone else answer config past c) refl
    (either_plain (is_gone past c) reply.Gone (answer config past c) refl (answer_plain config past c e))

-- a session is the count of the events before its Begin
begin_number : (config : Config) (past : List Event) (n : ℕ) → reply_to config past command.Begin ≡ reply.Began n → n ≡ length past
unfolding reply_to
begin_number config past n e = by (is_halted past) (is_gone past command.Begin) e
  where
    by : (b c : Bool) → (if b then reply.Stopped else if c then reply.Gone else reply.Began (length past)) ≡ reply.Began n → n ≡ length past
    by true c h = absurd (cc h)
    by false true h = absurd (cc h)
    by false false h = let same : length past ≡ n = cc h in sym same

not_began : (r : Reply) (n : ℕ) → is_began r ≡ false → r ≡ reply.Began n → ⊥
not_began r n plain is = never (sym (ap is_began is) ∙ plain)
  where
    never : true ≡ false → ⊥
    never e = cc

began_number : (config : Config) (past : List Event) (c : Command) (n : ℕ) → reply_to config past c ≡ reply.Began n → n ≡ length past
began_number config past command.Begin n e = begin_number config past n e
began_number config past c n e = absurd (not_began (reply_to config past c) n (reply_plain config past c refl) e)

answer_number : (config : Config) (past : List Event) (c : Command) (n : ℕ) → IsAnswer config past (record { command = c; reply = reply.Began n }) → n ≡ length past
answer_number config past c n (inl is) = began_number config past c n (sym is)
answer_number config past c n (inr (is, may)) = absurd (cc is)

plain_or : (x y : Bool) → (y ≡ false → x ≡ false) → (x && not y) ≡ false
plain_or true true h = refl
plain_or true false h = h refl
plain_or false y h = refl

-- only a Begin begins a session
answered_plain : (config : Config) (e : Event) → IsAnswered config e → is_stray e ≡ false
answered_plain config e (past, inl is) =
    plain_or (is_began e.reply) (is_begin e.command) (λ other. ap is_began is ∙ reply_plain config past e.command other)
answered_plain config e (past, inr (is, may)) = plain_or (is_began e.reply) (is_begin e.command) (λ other. ap is_began is)

all_plain : (config : Config) (es : List Event) → Each (IsAnswered config) es → list_any is_stray es ≡ false
unfolding Each
all_plain config [] h = refl
all_plain config (e ∷ es) h = by (is_stray e) (list_any is_stray es) (answered_plain config e h.0) (all_plain config es h.1)
  where
    by : (a b : Bool) → a ≡ false → b ≡ false → (a || b) ≡ false
    by true b x y = x
    by false b x y = y

-- ---- sessions are begun in the order of their numbers

abbrev BegunUpTo : List Event → List ℕ → Type 0
BegunUpTo es sessions = Rises sessions × AllByRecursion (λ n. n < length (events es)) sessions

grown : (earlier : List Event) (e : Event) → length (events earlier) ≤ length (events (e ∷ earlier))
unfolding events
grown earlier e = by (is_no_memory e.reply)
  where
    by : (b : Bool) → length (events earlier) ≤ length (if b then events earlier else e ∷ events earlier)
    by true = omega arith
    by false = omega arith

begun_grown : (earlier : List Event) (c : Command) (n : ℕ) → length (events earlier) < length (events (record { command = c; reply = reply.Began n } ∷ earlier))
unfolding events
begun_grown earlier c n = omega arith

begun_step : (config : Config) (earlier : List Event) (c : Command) (r : Reply) → IsAnswer config (events earlier) (record { command = c; reply = r }) →
    (sessions : List ℕ) → BegunUpTo earlier sessions →
    BegunUpTo (record { command = c; reply = r } ∷ earlier) (sessions ++ begun_in (record { command = c; reply = r } ∷ []))
begun_step config earlier c (reply.Began n) is sessions h =
    let e : Event = record { command = c; reply = reply.Began n } in
    let number : n ≡ length (events earlier) = answer_number config (events earlier) c n is in
    let more : length (events earlier) < length (events (e ∷ earlier)) = begun_grown earlier c n in (
      rises_last sessions n h.0 (subst (λ (k : ℕ). AllByRecursion (λ y. y < k) sessions) (sym number) h.1),
      all_last (λ y. y < length (events (e ∷ earlier))) sessions n
          (all_weaker (λ y. y < length (events earlier)) (λ y. y < length (events (e ∷ earlier))) (λ y less. omega (arith, less, more)) sessions h.1)
          (omega (arith, number, more)),
    )
begun_step config earlier c r is sessions h =
    let e : Event = record { command = c; reply = r } in
    let more : length (events earlier) ≤ length (events (e ∷ earlier)) = grown earlier e in
    subst (BegunUpTo (e ∷ earlier)) (sym (append-nil sessions))
    (h.0, all_weaker (λ y. y < length (events earlier)) (λ y. y < length (events (e ∷ earlier))) (λ y less. omega (arith, less, more)) sessions h.1)

begun_rises : (config : Config) (es : List Event) → Legal config es → BegunUpTo es (begun_in (reverse es))
begun_rises config [] h = (tt, tt)
begun_rises config (e ∷ earlier) h =
    subst (BegunUpTo (e ∷ earlier)) (sym (ap begun_in (reverse-append (e ∷ []) earlier) ∙ begun_append (reverse earlier) (e ∷ [])))
    (begun_step config earlier e.command e.reply h.0 (begun_in (reverse earlier)) (begun_rises config earlier h.1))

-- ---- those of one pass

abbrev begun_of : List (Entry Command Reply) → List ℕ
begun_of calls = begun_in (map event_of calls)

all_sub : (P : ℕ → Type 0) (o : Option ℕ) (b : Bool) (rest kept : List ℕ) → AllByRecursion P (cons_option o rest) →
    (AllByRecursion P rest → AllByRecursion P kept) → AllByRecursion P (if b then cons_option o kept else kept)
all_sub P None true rest kept h behind = behind h
all_sub P None false rest kept h behind = behind h
all_sub P (Some n) true rest kept h behind = (h.0, behind h.1)
all_sub P (Some n) false rest kept h behind = behind h.1

rises_sub : (o : Option ℕ) (b : Bool) (rest kept : List ℕ) → Rises (cons_option o rest) →
    ((P : ℕ → Type 0) → AllByRecursion P rest → AllByRecursion P kept) → (Rises rest → Rises kept) → Rises (if b then cons_option o kept else kept)
rises_sub None true rest kept h all behind = behind h
rises_sub None false rest kept h all behind = behind h
rises_sub (Some n) true rest kept h all behind = (all (λ y. n < y) h.0, behind h.1)
rises_sub (Some n) false rest kept h all behind = behind h.1

begun_if : (b : Bool) (x : Entry Command Reply) (xs : List (Entry Command Reply)) →
    begun_of (if b then x ∷ xs else xs) ≡ (if b then cons_option (begun_by (event_of x)) (begun_of xs) else begun_of xs)
begun_if true x xs = refl
begun_if false x xs = refl

all_kept : (test : Entry Command Reply → Bool) (calls : List (Entry Command Reply)) (P : ℕ → Type 0) → AllByRecursion P (begun_of calls) →
    AllByRecursion P (begun_of (filter test calls))
all_kept test [] P h = tt
all_kept test (x ∷ xs) P h =
    subst (AllByRecursion P) (sym (begun_if (test x) x (filter test xs)))
    (all_sub P (begun_by (event_of x)) (test x) (begun_of xs) (begun_of (filter test xs)) h (all_kept test xs P))

rises_kept : (test : Entry Command Reply → Bool) (calls : List (Entry Command Reply)) → Rises (begun_of calls) → Rises (begun_of (filter test calls))
rises_kept test [] h = tt
rises_kept test (x ∷ xs) h =
    subst Rises (sym (begun_if (test x) x (filter test xs)))
    (rises_sub (begun_by (event_of x)) (test x) (begun_of xs) (begun_of (filter test xs)) h (λ P. all_kept test xs P) (rises_kept test xs))

-- the sessions that these own entries of a pass began
pub own_rises : (config : Config) (p : PassView Command Reply Config) (own : List Event) → IsSound IsLawful config p → MadeLast p own → Rises (begun_in own)
own_rises config p own sound last =
    let seen : Rises (begun_of p.seen) = subst (λ (l : List Event). Rises (begun_in l)) (reverse-reverse (map event_of p.seen))
    (begun_rises config (recorded p.seen) sound.legal).0 in
    let mine : Rises (begun_of p.mine) = subst (λ (l : List (Entry Command Reply)). Rises (begun_of l)) sound.own
    (rises_kept (λ e. e.by == p.number) p.seen seen) in
    let split : begun_of p.mine ≡ begun_of last.0 ++ begun_of (engine.own p.number own) =
    ap begun_of last.1 ∙ (ap begun_in (map-append event_of last.0 (engine.own p.number own))
    ∙ begun_append (map event_of last.0) (map event_of (engine.own p.number own))) in
    subst (λ (l : List Event). Rises (begun_in l)) (own_back p.number own)
    (rises_behind (begun_of last.0) (begun_of (engine.own p.number own)) (subst Rises split mine))

-- The sessions that stay stand in the order of their numbers.
pub staying_rises : (config : Config) (p : PassView Command Reply Config) (own : List Event) → IsSound IsLawful config p → MadeLast p own → Rises (staying own)
staying_rises config p own sound last = rises_filter (λ session. not (has (left_in own) session)) (begun_in own) (own_rises config p own sound last)

-- ---- the sessions of a stream

-- the sessions that were begun and that have left, by where the call stands
abbrev Keeps : List ℕ → List ℕ → CallState → Type 0
Keeps begun left (Modifies session f) = (begun ≡ session ∷ []) × (left ≡ [])
Keeps begun left Over = left ≡ begun
Keeps begun left NotBegun = (begun ≡ []) × (left ≡ [])
Keeps begun left (Receives method first is_more) = (begun ≡ []) × (left ≡ [])
Keeps begun left (Responds waiting) = (begun ≡ []) × (left ≡ [])

-- a call without a session
abbrev IsWithout : CallState → Type 0
IsWithout (Modifies session f) = ⊥
IsWithout state = Unit {0}

without_keeps : (begun left : List ℕ) (state : CallState) → IsWithout state → begun ≡ [] → left ≡ [] → Keeps begun left state
without_keeps begun left (Modifies session f) h e g = absurd h
without_keeps begun left Over h e g = g ∙ sym e
without_keeps begun left NotBegun h e g = (e, g)
without_keeps begun left (Receives method first is_more) h e g = (e, g)
without_keeps begun left (Responds waiting) h e g = (e, g)

idle_without : (state : CallState) → Idle state → IsWithout state
idle_without NotBegun h = absurd h
idle_without (Modifies session f) h = absurd h
idle_without (Receives method first is_more) h = tt
idle_without (Responds waiting) h = tt
idle_without Over h = tt

module _ (s : Setting) where
  -- ---- a call that was not begun

  by_holds : (actions : List Action) (id : ℕ) (state : CallState) → Holds s actions id state →
      Keeps (begun_in (events_on actions id)) (left_in (events_on actions id)) state
  by_holds actions id NotBegun h = (unbegun_begun actions id h, unbegun_left actions id h)
  by_holds actions id (Modifies session f) h = (h.begun, h.left)
  by_holds actions id (Receives method first is_more) h = (h.begun, h.left)
  by_holds actions id (Responds waiting) h = (h.begun, h.left)
  by_holds actions id Over h = h.same

  modify_keeps : (id : ℕ) (its : List (Item CallEnd)) (did : List Event) (cut : Option ℕ) → IsHandled s (at_state NotBegun its) (Begun id Modify) did cut →
      list_any is_stray did ≡ false → Keeps (begun_in did) (left_in did) (after s (at_state NotBegun its) (Handles (Begun id Modify) did cut)).state
  unfolding events_in calls_in
  modify_keeps id its did cut act plain =
      let a : Action = Handles (Begun id Modify) did cut in
      let at : (id == id) ≡ true = eq-eqb id id refl in
      let k = by_holds (a ∷ []) id (after s (at_state NotBegun its) a).state
      (begin_here s [] id its (record { none = refl; unheard = refl }) did cut act at plain) in
      subst (λ (l : List ℕ). Keeps l (left_in did) (after s (at_state NotBegun its) a).state) (begun_here a [] id at)
      (subst (λ (l : List ℕ). Keeps (begun_in (events_on (a ∷ []) id)) l (after s (at_state NotBegun its) a).state) (left_here a [] id at) k)

  -- one that begins no session
  quiet_keeps : (call : Call Method CallEnd) (its : List (Item CallEnd)) (did : List Event) (cut : Option ℕ) → commands_for s NotBegun call ≡ [] →
      ((done : List Event) → IsWithout (next_state s NotBegun call done) × (session_of (next_state s NotBegun call done) ≡ None)) →
      IsHandled s (at_state NotBegun its) call did cut → Keeps (begun_in did) (left_in did) (after s (at_state NotBegun its) (Handles call did cut)).state
  quiet_keeps call its did cut none next act =
      without_keeps (begun_in did) (left_in did) (after s (at_state NotBegun its) (Handles call did cut)).state (is_without cut) (ap begun_in same) (ap left_in same)
    where
      work : without_leaves did ≡ []
      work =
          none_done s (commands_for s NotBegun call) (without_leaves did) none
          (in_part s cut (at_state NotBegun its) call (commands_for s NotBegun call) (without_leaves did) _ act.made)

      same : did ≡ []
      same =
          without_leave did act.last act.did_is
          (no_last (session_of (next_state s NotBegun call (without_leaves did))) (after s (at_state NotBegun its) (Handles call did cut)).state act.last
          (next (without_leaves did)).1 act.leaves) ∙ work

      either : (b : Bool) (state : CallState) → IsWithout state → IsWithout (if b then Over else state)
      either true state h = tt
      either false state h = h

      is_without : (o : Option ℕ) → IsWithout (after s (at_state NotBegun its) (Handles call did o)).state
      is_without (Some made) = tt
      is_without None =
          either (has_end (flat_map (items_for s) (without_leaves did) ++ refusal_for s NotBegun call)) (next_state s NotBegun call (without_leaves did))
          (next (without_leaves did)).0

  unbegun_keeps : (a : Action) (its : List (Item CallEnd)) → IsAction s (at_state NotBegun its) a → list_any is_stray (events_of a) ≡ false →
      Keeps (begun_in (events_of a)) (left_in (events_of a)) (after s (at_state NotBegun its) a).state
  unbegun_keeps (Collects id did cut) its act plain = absurd (cc act.state_is)
  unbegun_keeps (Continues id cut) its act plain = absurd (cc act.state_is)
  unbegun_keeps (Handles (Begun id Modify) did cut) its act plain = modify_keeps id its did cut act plain
  unbegun_keeps (Handles (Begun id Get) did cut) its act plain = quiet_keeps (Begun id Get) its did cut refl (λ done. (tt, refl)) act
  unbegun_keeps (Handles (Begun id Flush) did cut) its act plain = quiet_keeps (Begun id Flush) its did cut refl (λ done. (tt, refl)) act
  unbegun_keeps (Handles (Request id m) did cut) its act plain = quiet_keeps (Request id m) its did cut refl (λ done. (tt, refl)) act
  unbegun_keeps (Handles (Finished id) did cut) its act plain = quiet_keeps (Finished id) its did cut refl (λ done. (tt, refl)) act
  unbegun_keeps (Handles (Dropped id) did cut) its act plain = quiet_keeps (Dropped id) its did cut refl (λ done. (tt, refl)) act
  unbegun_keeps (Handles (Declined id answer) did cut) its act plain = quiet_keeps (Declined id answer) its did cut refl (λ done. (tt, refl)) act

  -- ---- an open Modify call

  abbrev IsOpenOrOver : ℕ → CallState → Type 0
  IsOpenOrOver session state = (state ≡ Over) ⊎ ((f : Bool) × (state ≡ Modifies session f))

  open_next : (session : ℕ) (f : Bool) (call : Call Method CallEnd) (done : List Event) → IsOpenOrOver session (next_state s (Modifies session f) call done)
  open_next session true (Begun id method) done = inr (true, refl)
  open_next session true (Request id m) done = inr (true, refl)
  open_next session true (Finished id) done = inr (true, refl)
  open_next session true (Dropped id) done = inl refl
  open_next session true (Declined id answer) done = inr (true, refl)
  open_next session false (Begun id method) done = inr (false, refl)
  open_next session false (Request id m) done = inr (false, refl)
  open_next session false (Finished id) done = inr (true, refl)
  open_next session false (Dropped id) done = inl refl
  open_next session false (Declined id answer) done = inr (false, refl)

  either_open : (session : ℕ) (b : Bool) (state : CallState) → IsOpenOrOver session state → IsOpenOrOver session (if b then Over else state)
  either_open session true state h = inl refl
  either_open session false state h = h

  open_stays_so : (session : ℕ) (f : Bool) (its : List (Item CallEnd)) (a : Action) → IsAction s (open_with session f its) a →
      IsOpenOrOver session (after s (open_with session f its) a).state
  open_stays_so session f its (Handles call did (Some made)) act = inl refl
  open_stays_so session f its (Handles call did None) act =
      either_open session (has_end (flat_map (items_for s) (without_leaves did) ++ refusal_for s (Modifies session f) call))
      (next_state s (Modifies session f) call (without_leaves did)) (open_next session f call (without_leaves did))
  open_stays_so session f its (Collects id did (Some made)) act = inl refl
  open_stays_so session f its (Collects id did None) act = either_open session _ (Modifies session f) (inr (f, refl))
  open_stays_so session f its (Continues id cut) act = absurd (cc act.state_is)

  open_adds : (session : ℕ) (state : CallState) (did begun left : List Event) → Parted session state did → begun_in (without_leaves did) ≡ [] →
      list_any is_stray did ≡ false → IsOpenOrOver session state → begun_in begun ≡ session ∷ [] → left_in left ≡ [] →
      Keeps (begun_in begun ++ begun_in did) (left_in left ++ left_in did) state
  open_adds session state did begun left k work plain (inl over) b l =
      let leaves : Leaves (Some session) Over k.last = subst (λ (x : CallState). Leaves (Some session) x k.last) over k.leaves in
      let did_is : did ≡ without_leaves did ++ leave session leaves.0 ∷ [] = k.did_is ∙ ap (λ (x : List Event). without_leaves did ++ x) leaves.1 in
      let lists = with_leave session leaves.0 did did_is work plain in
      subst (Keeps (begun_in begun ++ begun_in did) (left_in left ++ left_in did)) (sym over)
      (join (left_in left) (left_in did) [] (session ∷ []) l lists.1 ∙ sym (join (begun_in begun) (begun_in did) (session ∷ []) [] b lists.0))
  open_adds session state did begun left k work plain (inr (f, is)) b l =
      let leaves : k.last ≡ [] = subst (λ (x : CallState). Leaves (Some session) x k.last) is k.leaves in
      let same : did ≡ without_leaves did = without_leave did k.last k.did_is leaves in
      subst (Keeps (begun_in begun ++ begun_in did) (left_in left ++ left_in did)) (sym is)
      (join (begun_in begun) (begun_in did) (session ∷ []) [] b (ap begun_in same ∙ work), join (left_in left) (left_in did) [] [] l (ap left_in same ∙ left_nothing did))

  -- ---- any call

  nothing_first : (xs ys : List ℕ) → xs ≡ [] → xs ++ ys ≡ ys
  nothing_first xs ys e = ap (λ (l : List ℕ). l ++ ys) e

  idle_keeps : (state : CallState) (its : List (Item CallEnd)) (a : Action) (before : List Event) → Idle state → IsAction s (at_state state its) a →
      list_any is_stray (events_of a) ≡ false → begun_in before ≡ [] → left_in before ≡ [] →
      Keeps (begun_in before ++ begun_in (events_of a)) (left_in before ++ left_in (events_of a)) (after s (at_state state its) a).state
  idle_keeps state its a before idle act plain b l =
      let k = idles s state its a idle act plain in
      without_keeps (begun_in before ++ begun_in (events_of a)) (left_in before ++ left_in (events_of a)) (after s (at_state state its) a).state
      (idle_without (after s (at_state state its) a).state k.to_idle)
      (join (begun_in before) (begun_in (events_of a)) [] [] b k.begun) (join (left_in before) (left_in (events_of a)) [] [] l k.left)

  over_keeps : (its : List (Item CallEnd)) (a : Action) (before : List Event) → IsAction s (at_state Over its) a → list_any is_stray (events_of a) ≡ false →
      left_in before ≡ begun_in before →
      Keeps (begun_in before ++ begun_in (events_of a)) (left_in before ++ left_in (events_of a)) (after s (at_state Over its) a).state
  over_keeps its a before act plain same =
      let k = idles s Over its a tt act plain in
      subst (Keeps (begun_in before ++ begun_in (events_of a)) (left_in before ++ left_in (events_of a))) (sym (over_stays s its a act))
      (join (left_in before) (left_in (events_of a)) (begun_in before) (begun_in (events_of a)) same (k.left ∙ sym k.begun))

  any_keeps : (state : CallState) (its : List (Item CallEnd)) (a : Action) (before : List Event) → IsAction s (at_state state its) a →
      list_any is_stray (events_of a) ≡ false → Keeps (begun_in before) (left_in before) state →
      Keeps (begun_in before ++ begun_in (events_of a)) (left_in before ++ left_in (events_of a)) (after s (at_state state its) a).state
  any_keeps NotBegun its a before act plain h =
      let to : CallState = (after s (at_state NotBegun its) a).state in
      subst (λ (l : List ℕ). Keeps l (left_in before ++ left_in (events_of a)) to) (sym (nothing_first (begun_in before) (begun_in (events_of a)) h.0))
      (subst (λ (l : List ℕ). Keeps (begun_in (events_of a)) l to) (sym (nothing_first (left_in before) (left_in (events_of a)) h.1))
      (unbegun_keeps a its act plain))
  any_keeps (Modifies session f) its a before act plain h =
      open_adds session (after s (open_with session f its) a).state (events_of a) before before (parted s session f its a act)
      (open_work s session f its a act plain) plain (open_stays_so session f its a act) h.0 h.1
  any_keeps (Receives method first is_more) its a before act plain h = idle_keeps (Receives method first is_more) its a before tt act plain h.0 h.1
  any_keeps (Responds waiting) its a before act plain h = idle_keeps (Responds waiting) its a before tt act plain h.0 h.1
  any_keeps Over its a before act plain h = over_keeps its a before act plain h

  -- ---- all actions

  abbrev KeepsOn : List Action → ℕ → Type 0
  KeepsOn actions id = Keeps (begun_in (events_on actions id)) (left_in (events_on actions id)) (standing s actions id).state

  more_keeps : (a : Action) (earlier : List Action) → IsAction s (standing s earlier (stream_of a)) a → list_any is_stray (events_of a) ≡ false →
      ((id : ℕ) → KeepsOn earlier id) → (id : ℕ) (b : Bool) → (stream_of a == id) ≡ b → KeepsOn (a ∷ earlier) id
  more_keeps a earlier act plain before id false e =
      subst (λ (st : Standing). Keeps (begun_in (events_on (a ∷ earlier) id)) (left_in (events_on (a ∷ earlier) id)) st.state) (sym (standing_other s a earlier id e))
      (subst (λ (l : List Event). Keeps (begun_in l) (left_in l) (standing s earlier id).state) (sym (events_other a earlier id e)) (before id))
  more_keeps a earlier act plain before id true e =
      let st : Standing = standing s earlier (stream_of a) in
      let at : (stream_of a == stream_of a) ≡ true = eq-eqb (stream_of a) (stream_of a) refl in
      let k = any_keeps st.state st.items a (events_on earlier (stream_of a)) act plain (before (stream_of a)) in
      subst (λ (n : ℕ). KeepsOn (a ∷ earlier) n) (eqb-true (stream_of a) id e)
      (subst (λ (x : Standing). Keeps (begun_in (events_on (a ∷ earlier) (stream_of a))) (left_in (events_on (a ∷ earlier) (stream_of a))) x.state)
      (sym (standing_here s a earlier (stream_of a) at))
      (subst (λ (l : List ℕ). Keeps l (left_in (events_on (a ∷ earlier) (stream_of a))) (after s st a).state) (sym (begun_here a earlier (stream_of a) at))
      (subst (λ (l : List ℕ). Keeps (begun_in (events_on earlier (stream_of a)) ++ begun_in (events_of a)) l (after s st a).state)
      (sym (left_here a earlier (stream_of a) at)) k)))

  none_keeps : (id : ℕ) → KeepsOn [] id
  unfolding standing events_in
  none_keeps id = (refl, refl)

  all_keep : (actions : List Action) → AreActions s actions → list_any is_stray (events_in actions) ≡ false → (id : ℕ) → KeepsOn actions id
  all_keep [] each plain id = none_keeps id
  all_keep (a ∷ earlier) each plain id =
      let parts = actions_parts s a earlier each in
      let split = stray_parts (events_in earlier) (events_of a) (subst (λ (l : List Event). list_any is_stray l ≡ false) (events_more a earlier) plain) in
      more_keeps a earlier parts.0 split.1 (all_keep earlier parts.1 split.0) id (stream_of a == id) refl

  -- ---- counted

  left_less : (begun left : List ℕ) (k : ℕ) (state : CallState) → Keeps begun left state → count k left ≤ count k begun
  left_less begun left k NotBegun h = let x = ap (count k) h.1 in omega (arith, x)
  left_less begun left k (Modifies session f) h = let x = ap (count k) h.1 in omega (arith, x)
  left_less begun left k (Receives method first is_more) h = let x = ap (count k) h.1 in omega (arith, x)
  left_less begun left k (Responds waiting) h = let x = ap (count k) h.1 in omega (arith, x)
  left_less begun left k Over h = let x = ap (count k) h in omega (arith, x)

  -- a session that was begun on a stream, and that has left on none, is the one of the stream's call
  of_stream_open : (actions : List Action) (id k : ℕ) (state : CallState) →
      Keeps (begun_in (events_on actions id)) (left_in (events_on actions id)) state →
      1 ≤ of_stream begun_by k actions id → count k (left_in (events_in actions)) ≡ 0 → (f : Bool) × (state ≡ Modifies k f)
  of_stream_open actions id k NotBegun h begun none = let x = ap (count k) h.0 in absurd (omega (arith, x, begun))
  of_stream_open actions id k (Receives method first is_more) h begun none = let x = ap (count k) h.0 in absurd (omega (arith, x, begun))
  of_stream_open actions id k (Responds waiting) h begun none = let x = ap (count k) h.0 in absurd (omega (arith, x, begun))
  of_stream_open actions id k Over h begun none =
      let x = ap (count k) h in
      let less = one_stream left_by k actions id in
      absurd (omega (arith, x, less, begun, none))
  of_stream_open actions id k (Modifies session f) h begun none =
      let one : 1 ≤ count k (session ∷ []) = subst (λ (l : List ℕ). 1 ≤ count k l) h.0 begun in
      (f, ap (λ (n : ℕ). Modifies n f) (only k session (count_in k (session ∷ []) one)))
    where
      only : (n m : ℕ) → In n (m ∷ []) → m ≡ n
      only n m (inl same) = same
      only n m (inr none) = absurd none

-- ---- which calls are open

-- the call on a stream with a session, and whether its client has ended its side
abbrev pub HasSession : OpenCallsView → ℕ → ℕ → Bool → Type 0
HasSession calls id session f = session_in (call_on calls id) ≡ Some (session, f)

stands_open : (s : Setting) (o : Option OpenCall) (session : ℕ) (f : Bool) (state : CallState) → Stands s o state → session_in o ≡ Some (session, f) →
    state ≡ Modifies session f
stands_open s None session f state stands e = absurd (cc e)
stands_open s (Some (opened.Modifies n g)) session f state stands e =
    let pair : (n, g) ≡ (session, f) = cc e in
    stands ∙ ap (λ (p : ℕ × Bool). Modifies p.0 p.1) pair
stands_open s (Some (opened.Receives method first is_more)) session f state stands e = absurd (cc e)
stands_open s (Some (opened.Responds rows)) session f state stands e = absurd (cc e)

pub open_stands : (s : Setting) (o : Option OpenCall) (session : ℕ) (f : Bool) (state : CallState) → Stands s o state → state ≡ Modifies session f →
    session_in o ≡ Some (session, f)
open_stands s None session f state (inl unbegun) e = absurd (cc (sym unbegun ∙ e))
open_stands s None session f state (inr over) e = absurd (cc (sym over ∙ e))
open_stands s (Some call) session f state stands e = by call (sym stands ∙ e)
  where
    by : (c : OpenCall) → state_of s c ≡ Modifies session f → session_in (Some c) ≡ Some (session, f)
    by (opened.Modifies n g) is = pair n g is
      where
        pair : (n : ℕ) (g : Bool) → Modifies n g ≡ Modifies session f → ◌≡◌ {A = Option (ℕ × Bool)} (Some (n, g)) (Some (session, f))
        pair n g h = cc
    by (opened.Receives method first is_more) is = absurd (cc is)
    by (opened.Responds rows) is = absurd (cc is)

-- The entries are the last of a pass, and those of actions that the open calls stand behind.
module _ (s : Setting) (config : Config) (p : PassView Command Reply Config) (calls : OpenCallsView) (actions : List Action) (own : List Event)
    (sound : IsSound IsLawful config p) (last : MadeLast p own) (open_now : AreOpen s calls actions) (did : own ≡ events_in actions) where
  all_now : (id : ℕ) → KeepsOn s actions id
  all_now id =
      all_keep s actions open_now.each
      (subst (λ (l : List Event). list_any is_stray l ≡ false) did (all_plain config own (answered config p own sound last))) id

  once : (k : ℕ) → count k (begun_in (events_in actions)) ≤ 1
  once k = subst (λ (l : List Event). count k (begun_in l) ≤ 1) did (rises_once k (begun_in own) (own_rises config p own sound last))

  begun_here_once : (id session : ℕ) (f : Bool) → HasSession calls id session f → of_stream begun_by session actions id ≡ 1
  begun_here_once id session f has_it =
      let k : Keeps (begun_in (events_on actions id)) (left_in (events_on actions id)) (Modifies session f) =
      subst (Keeps (begun_in (events_on actions id)) (left_in (events_on actions id)))
      (stands_open s (call_on calls id) session f (standing s actions id).state (open_now.stands id) has_it) (all_now id) in
      ap (count session) k.0 ∙ count_self session

  not_left_here : (id session : ℕ) (f : Bool) → HasSession calls id session f → of_stream left_by session actions id ≡ 0
  not_left_here id session f has_it =
      let k : Keeps (begun_in (events_on actions id)) (left_in (events_on actions id)) (Modifies session f) =
      subst (Keeps (begun_in (events_on actions id)) (left_in (events_on actions id)))
      (stands_open s (call_on calls id) session f (standing s actions id).state (open_now.stands id) has_it) (all_now id) in
      ap (count session) k.1

  not_left : (id session : ℕ) (f : Bool) → HasSession calls id session f → count session (left_in (events_in actions)) ≡ 0
  not_left id session f has_it =
      let begun : of_stream begun_by session actions id ≡ 1 = begun_here_once id session f has_it in
      only_stream left_by session actions id (λ (j : ℕ) (apart : (j == id) ≡ false).
      (let x = two_streams begun_by session actions j id apart in let y = once session in
      let z = left_less s (begun_in (events_on actions j)) (left_in (events_on actions j)) session (standing s actions j).state (all_now j) in
      omega (arith, x, y, z, begun)))
      ∙ not_left_here id session f has_it

  -- The session of an open call stays.
  pub open_stays : (id session : ℕ) (f : Bool) → session_in (call_on calls id) ≡ Some (session, f) → In session (staying own)
  open_stays id session f has_it =
      let begun : of_stream begun_by session actions id ≡ 1 = begun_here_once id session f has_it in
      let less = one_stream begun_by session actions id in
      let none : has (left_in own) session ≡ false = has_none session (left_in own)
      (ap (λ (l : List Event). count session (left_in l)) did ∙ not_left id session f has_it) in
      let there : 1 ≤ count session (begun_in own) = subst (λ (l : List Event). 1 ≤ count session (begun_in l)) (sym did) (omega (arith, begun, less)) in
      in_filter (λ n. not (has (left_in own) n)) session (begun_in own) (count_in session (begun_in own) there) (ap not none)

  -- A session that stays is the one of an open call.
  pub stays_open : (session : ℕ) → In session (staying own) → (id : ℕ) × (f : Bool) × (session_in (call_on calls id) ≡ Some (session, f))
  stays_open session h = by (found begun_by session actions)
    where
      parts : In session (begun_in own) × (not (has (left_in own) session) ≡ true)
      parts = filter_in (λ n. not (has (left_in own) n)) session (begun_in own) h

      begun : 1 ≤ count session (begun_in (events_in actions))
      begun = subst (λ (l : List Event). 1 ≤ count session (begun_in l)) did (in_count session (begun_in own) parts.0)

      not_true : (b : Bool) → not b ≡ true → b ≡ false
      not_true true e = absurd (cc e)
      not_true false e = refl

      none : count session (left_in (events_in actions)) ≡ 0
      none =
          sym (ap (λ (l : List Event). count session (left_in l)) did)
          ∙ none_has session (left_in own) (not_true (has (left_in own) session) parts.1)

      by : ((id : ℕ) × (1 ≤ of_stream begun_by session actions id)) ⊎ ((id : ℕ) → of_stream begun_by session actions id ≡ 0) →
          (id : ℕ) × (f : Bool) × (session_in (call_on calls id) ≡ Some (session, f))
      by (inl (id, one)) =
          let k = of_stream_open s actions id session (standing s actions id).state (all_now id) one none in
          (id, k.0, open_stands s (call_on calls id) session k.0 (standing s actions id).state (open_now.stands id) k.1)
      by (inr nowhere) =
          let all = only_stream begun_by session actions 0 (λ (j : ℕ) (apart : (j == 0) ≡ false). nowhere j) in
          let zero = nowhere 0 in
          absurd (omega (arith, all, zero, begun))

  -- No two calls have the same session.
  pub one_call : (i j session : ℕ) (f g : Bool) → session_in (call_on calls i) ≡ Some (session, f) → session_in (call_on calls j) ≡ Some (session, g) → i ≡ j
  one_call i j session f g at_i at_j = by (i == j) refl
    where
      by : (b : Bool) → (i == j) ≡ b → i ≡ j
      by true e = eqb-true i j e
      by false e =
          let x = two_streams begun_by session actions i j e in
          let y = once session in
          let a = begun_here_once i session f at_i in
          let b = begun_here_once j session g at_j in
          absurd (omega (arith, x, y, a, b))
