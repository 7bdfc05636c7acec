-- All jobs, done in the order of their numbers, leave the table that the commands leave.
use Rattle.std.proofs.Common.{◌≡◌, ℕ, zero, suc, ◌≤◌, Bool, true, false, List, [], ◌∷◌, ◌++◌, length, Some, None, Option, refl, sym, ap, subst, ◌∙◌, arith}
use Rattle.std.specs.Prelude.{not, ◌&&◌, ◌||◌, ◌==◌, cond, filter, find, flat_map, map, is_some, option_and_then, ℤ}
use Rattle.std.specs.List.{list_all, list_any}
use Rattle.std.proofs.lemmas.Bool.Decides.{nat_tests}
use Rattle.std.proofs.lemmas.List.Folds.{list_any-append}
use Rattle.aft_entries.specs.declared.entry.Entry.{Entry}
use Rattle.aft_entries.specs.declared.key.Key.{Key}
use Rattle.aft_entries.specs.declared.key.KeyName.{KeyName}
use Rattle.aft_entries.specs.declared.key.KeyName.TheVariants as name
use Rattle.aft_entries.specs.declared.operation.Ask.{Ask}
use Rattle.aft_entries.specs.declared.operation.Ask.TheVariants as ask
use Rattle.aft_entries.specs.Order.{key_eq}
use Rattle.aft_entries.proofs.OrderLemmas.{key_eq_same, key_eq_symm, key_eq_refl}
use Rattle.table_model.specs.declared.command.Command.{Command}
use Rattle.table_model.specs.declared.command.Command.TheVariants.{Begin, SetParams, Announce, Operate, Collect, Leave, Flush, Select, Take, Report, Halt}
use Rattle.table_model.specs.declared.command.FlushBy.{FlushBy}
use Rattle.table_model.specs.declared.command.Operation.{Operation}
use Rattle.table_model.specs.declared.command.Which.{Which}
use Rattle.table_model.specs.declared.reply.Reply.{Reply}
use Rattle.table_model.specs.declared.reply.Reply.TheVariants as reply
use Rattle.table_model.specs.Event.{Event, is_done, is_left, is_flushed}
use Rattle.table_model.specs.Jobs.{Task, tasks, tasks_by, tracked_tasks, outcome_of, operate_tasks, purge_rank, purge_order, purge_tasks, removed, effect, fib, is_programmed}
use Rattle.table_model.specs.Laws.{event}
use Rattle.table_model.specs.Rib.{rib, purges}
use Rattle.table_model.specs.Table.{lookup, has, take_out, backup_of, chain, depth, stays, kept}
use Rattle.table_model.proofs.LookupLemmas.{find_filter_in, find_filter_out}
use Rattle.table_model.proofs.Tests.{and_left, and_right, filter_all, filter_none}
use Rattle.table_laws.proofs.Ascending.{number}
use Rattle.table_laws.proofs.Reports.{done_fold, fib_is}
use Rattle.table_laws.proofs.Updates.{tracked_at}

abbrev pub works : List Entry → List Task → List Entry
works table [] = table
works table (t ∷ ts) = works (effect table t.job.work) ts

pub works_append : (table : List Entry) (xs ys : List Task) → works table (xs ++ ys) ≡ works (works table xs) ys
works_append table [] ys = refl
works_append table (x ∷ xs) ys = works_append (effect table x.job.work) xs ys

-- Tests of a list.

or_swap : (a b m n : Bool) → a || m || (b || n) ≡ a || b || (m || n)
or_swap true b m n = refl
or_swap false true true n = refl
or_swap false true false n = refl
or_swap false false true n = refl
or_swap false false false n = refl

pub or_true : (a b : Bool) → a ≡ true → a || b ≡ true
or_true true b h = refl
or_true false b h = cc

pub or_right_true : (a b : Bool) → b ≡ true → a || b ≡ true
or_right_true true b h = refl
or_right_true false b h = h

module _ {X : Type 0} where
  pub filter_twice : (p q : X → Bool) (xs : List X) → filter p (filter q xs) ≡ filter (λ x. q x && p x) xs
  filter_twice p q [] = refl
  filter_twice p q (x ∷ xs) = by_test (q x) (filter_twice p q xs)
    where
      by_test : (a : Bool) → filter p (filter q xs) ≡ filter (λ y. q y && p y) xs → filter p (cond a (x ∷ filter q xs) (filter q xs)) ≡ cond (a && p x) (x ∷ filter (λ y. q y && p y) xs) (filter (λ y. q y && p y) xs)
      by_test true rest = ap (λ ys. cond (p x) (x ∷ ys) ys) rest
      by_test false rest = rest

  pub filter_same : (p q : X → Bool) → ((x : X) → p x ≡ q x) → (xs : List X) → filter p xs ≡ filter q xs
  filter_same p q same [] = refl
  filter_same p q same (x ∷ xs) = ap (λ b. cond b (x ∷ filter p xs) (filter p xs)) (same x) ∙ ap (λ ys. cond (q x) (x ∷ ys) ys) (filter_same p q same xs)

  pub any_same : (p q : X → Bool) → ((x : X) → p x ≡ q x) → (xs : List X) → list_any p xs ≡ list_any q xs
  any_same p q same [] = refl
  any_same p q same (x ∷ xs) = ap (λ b. b || list_any p xs) (same x) ∙ ap (λ b. q x || b) (any_same p q same xs)

  pub any_filter : (p q : X → Bool) (xs : List X) → list_any q (filter p xs) ≡ list_any (λ x. p x && q x) xs
  any_filter p q [] = refl
  any_filter p q (x ∷ xs) = by_test (p x) (any_filter p q xs)
    where
      by_test : (a : Bool) → list_any q (filter p xs) ≡ list_any (λ y. p y && q y) xs → list_any q (cond a (x ∷ filter p xs) (filter p xs)) ≡ a && q x || list_any (λ y. p y && q y) xs
      by_test true rest = ap (λ b. q x || b) rest
      by_test false rest = rest

  any_or : (p q : X → Bool) (xs : List X) → list_any p xs || list_any q xs ≡ list_any (λ x. p x || q x) xs
  any_or p q [] = refl
  any_or p q (x ∷ xs) = or_swap (p x) (q x) (list_any p xs) (list_any q xs) ∙ ap (λ b. p x || q x || b) (any_or p q xs)

  any_none : (xs : List X) → list_any (λ x. false) xs ≡ false
  any_none [] = refl
  any_none (x ∷ xs) = any_none xs

  pub any_const : (b : Bool) (q : X → Bool) (xs : List X) → list_any (λ x. b && q x) xs ≡ b && list_any q xs
  any_const true q xs = refl
  any_const false q xs = any_none xs

  -- equal tests of each element
  filter_each : (p q : X → Bool) (xs : List X) → ((x : X) → ((f : X → Bool) → f x ≡ true → list_any f xs ≡ true) → p x ≡ q x) → filter p xs ≡ filter q xs
  filter_each p q [] same = refl
  filter_each p q (x ∷ xs) same =
      ap (λ b. cond b (x ∷ filter p xs) (filter p xs)) (same x (λ f here. or_true (f x) (list_any f xs) here))
      ∙ ap (λ ys. cond (q x) (x ∷ ys) ys) (filter_each p q xs (λ y there. same y (λ f here. or_right_true (f x) (list_any f xs) (there f here))))

  found_any : (p : X → Bool) (xs : List X) → is_some (find p xs) ≡ list_any p xs
  found_any p [] = refl
  found_any p (x ∷ xs) = by_test (p x) (found_any p xs)
    where
      by_test : (b : Bool) → is_some (find p xs) ≡ list_any p xs → is_some (cond b (Some x) (find p xs)) ≡ b || list_any p xs
      by_test true rest = refl
      by_test false rest = rest

  pub all_true : (xs : List X) → list_all (λ x. true) xs ≡ true
  all_true [] = refl
  all_true (x ∷ xs) = all_true xs

-- A purge.

-- whether one of these has the entry's key
abbrev pub goes : List Entry → Entry → Bool
goes gone e = list_any (λ g. key_eq g.key e.key) gone

pub not_or : (a b : Bool) → not a && not b ≡ not (a || b)
not_or true b = refl
not_or false b = refl

purge_leaves : (position index : ℕ) (gone table : List Entry) → works table (purge_tasks position index gone) ≡ filter (λ e. not (goes gone e)) table
unfolding take_out
purge_leaves position index [] table = sym (filter_all (λ e. true) table (all_true table))
purge_leaves position index (g ∷ gone) table =
    purge_leaves position (suc index) gone (take_out g.key table)
    ∙ filter_twice (λ e. not (goes gone e)) (λ e. not (key_eq g.key e.key)) table
    ∙ filter_same (λ e. not (key_eq g.key e.key) && not (goes gone e)) (λ e. not (goes (g ∷ gone) e)) (λ e. not_or (key_eq g.key e.key) (goes gone e)) table

-- The order of a purge has each entry.

pub chain_short : (n : ℕ) (table : List Entry) (from : Option Key) → length (chain n table from) ≤ n
chain_short zero table from = omega arith
chain_short (suc n) table None = omega arith
chain_short (suc n) table (Some k) = let rest : length (chain n table (option_and_then backup_of (lookup k table))) ≤ n = chain_short n table (option_and_then backup_of (lookup k table)) in omega arith

pub rank_low : (table : List Entry) (e : Entry) → purge_rank table e ≤ 5
unfolding depth
rank_low table e = by_name e.key.name
  where
    by_name : (n : KeyName) → (elim n [ name.Hop index ↦ 0 | name.Group id ↦ depth table e.key | _ ↦ 5 ]) ≤ 5
    by_name (name.Hop index) = omega arith
    by_name (name.Group id) = let short = chain_short 4 table (Some e.key) in omega arith
    by_name _ = omega arith

and_or : (a b c : Bool) → a && c || b && c ≡ (a || b) && c
and_or true true true = refl
and_or true true false = refl
and_or true false true = refl
and_or true false false = refl
and_or false b c = refl

module _ (rank : Entry → ℕ) (q : Entry → Bool) (gone : List Entry) where
  by_ranks : (ranks : List ℕ) → list_any q (flat_map (λ r. filter (λ e. rank e == r) gone) ranks) ≡ list_any (λ e. list_any (λ r. rank e == r) ranks && q e) gone
  by_ranks [] = sym (any_none gone)
  by_ranks (r ∷ ranks) =
      list_any-append q (filter (λ e. rank e == r) gone) (flat_map (λ s. filter (λ e. rank e == s) gone) ranks)
      ∙ ap (λ b. b || list_any q (flat_map (λ s. filter (λ e. rank e == s) gone) ranks)) (any_filter (λ e. rank e == r) q gone)
      ∙ ap (λ b. list_any (λ e. rank e == r && q e) gone || b) (by_ranks ranks)
      ∙ any_or (λ e. rank e == r && q e) (λ e. list_any (λ s. rank e == s) ranks && q e) gone
      ∙ any_same (λ e. rank e == r && q e || list_any (λ s. rank e == s) ranks && q e) (λ e. list_any (λ s. rank e == s) (r ∷ ranks) && q e) (λ e. and_or (rank e == r) (list_any (λ s. rank e == s) ranks) (q e)) gone

is_rank : (n : ℕ) → n ≤ 5 → (n == 5 || (n == 4 || (n == 3 || (n == 2 || (n == 1 || (n == 0 || false)))))) ≡ true
is_rank n low = grind (arith, nat_tests)

all_purged : (table gone : List Entry) (e : Entry) → goes (purge_order table gone) e ≡ goes gone e
all_purged table gone e =
    by_ranks (purge_rank table) (λ g. key_eq g.key e.key) gone (5 ∷ 4 ∷ 3 ∷ 2 ∷ 1 ∷ 0 ∷ [])
    ∙ any_same (λ g. list_any (λ r. purge_rank table g == r) (5 ∷ 4 ∷ 3 ∷ 2 ∷ 1 ∷ 0 ∷ []) && key_eq g.key e.key) (λ g. key_eq g.key e.key)
    (λ g. ap (λ b. b && key_eq g.key e.key) (is_rank (purge_rank table g) (rank_low table g))) gone

-- A purge that leaves what a test of keys tells.

module _ (test : Key → Bool) (old : List Entry) where
  abbrev pub left : List Entry
  left = filter (λ e. test e.key) old

  pub has_left : (key : Key) → has left key ≡ test key && has old key
  unfolding lookup
  has_left key = by_test (test key) refl
    where
      by_test : (b : Bool) → test key ≡ b → has left key ≡ b && has old key
      by_test true is = ap is_some (find_filter_in (λ e. key_eq key e.key) (λ e. test e.key) old (λ e h. ap test (sym (key_eq_same key e.key h)) ∙ is))
      by_test false is = ap is_some (find_filter_out (λ e. key_eq key e.key) (λ e. test e.key) old (λ e h. ap test (sym (key_eq_same key e.key h)) ∙ is))

  has_any : (key : Key) → has old key ≡ list_any (λ e. key_eq key e.key) old
  unfolding lookup
  has_any key = found_any (λ e. key_eq key e.key) old

  same_key : (a b : Key) (c : Bool) → key_eq a b ≡ c → not (has left a) && c ≡ not (has left b) && c
  same_key a b true is = ap (λ k. not (has left k) && true) (key_eq_same a b is)
  same_key a b false is = both_false (not (has left a)) ∙ sym (both_false (not (has left b)))
    where
      both_false : (d : Bool) → d && false ≡ false
      both_false true = refl
      both_false false = refl

  gone_by : (b c : Bool) → c ≡ true → not (not (b && c) && c) ≡ b
  gone_by true true h = refl
  gone_by false true h = refl
  gone_by b false h = cc

  still_there : (e : Entry) → ((f : Entry → Bool) → f e ≡ true → list_any f old ≡ true) → not (goes (purge_order old (removed old left)) e) ≡ test e.key
  still_there e member =
      let there : list_any (λ g. key_eq g.key e.key) old ≡ true = member (λ g. key_eq g.key e.key) (key_eq_refl e.key) in
      let has_it : has old e.key ≡ list_any (λ g. key_eq g.key e.key) old = has_any e.key ∙ any_same (λ g. key_eq e.key g.key) (λ g. key_eq g.key e.key) (λ g. key_eq_symm e.key g.key) old in
      ap not (all_purged old (removed old left) e
      ∙ any_filter (λ g. not (has left g.key)) (λ g. key_eq g.key e.key) old
      ∙ any_same (λ g. not (has left g.key) && key_eq g.key e.key) (λ g. not (has left e.key) && key_eq g.key e.key) (λ g. same_key g.key e.key (key_eq g.key e.key) refl) old
      ∙ any_const (not (has left e.key)) (λ g. key_eq g.key e.key) old
      ∙ ap (λ h. not h && list_any (λ g. key_eq g.key e.key) old) (has_left e.key ∙ ap (λ c. test e.key && c) has_it))
      ∙ gone_by (test e.key) (list_any (λ g. key_eq g.key e.key) old) there

  purge_filter : (position : ℕ) → works old (purge_tasks position 0 (purge_order old (removed old left))) ≡ left
  purge_filter position =
      purge_leaves position 0 (purge_order old (removed old left)) old
      ∙ filter_each (λ e. not (goes (purge_order old (removed old left)) e)) (λ e. test e.key) old still_there

module _ (past : List Event) where
  abbrev old : List Entry
  old = rib past

  abbrev pub purged : List Entry → List Task
  purged new = purge_tasks (length past) 0 (purge_order old (removed old new))

  purge_to : (test : Key → Bool) (new : List Entry) → new ≡ filter (λ e. test e.key) old → works old (purged new) ≡ new
  purge_to test new is = subst (λ n. works old (purged n) ≡ n) (sym is) (purge_filter test old (length past))

  purge_none : works old (purged old) ≡ old
  purge_none = purge_to (λ k. true) old (sym (filter_all (λ e. true) old (all_true old)))

  purge_all : works old (purged []) ≡ []
  purge_all = purge_to (λ k. false) [] (sym (filter_none (λ e. false) old (all_true old)))

  purge_kept : (which : Which) → works old (purged (kept old which)) ≡ kept old which
  unfolding kept
  purge_kept which = purge_to (stays (length old) old which) (kept old which) refl

  -- a reply to a command that leaves the table as it is
  abbrev Same : Command → Reply → Type 0
  Same command r = works old (cond (is_done r) (operate_tasks past command) (cond (is_flushed r || is_left r) (purged old) [])) ≡ old

  same : (command : Command) (r : Reply) → operate_tasks past command ≡ [] → Same command r
  same command reply.RibDone none = ap (works old) none
  same command (reply.Flushed remain) none = purge_none
  same command reply.Left none = purge_none
  same command _ none = refl

  by_operate : (session : ℕ) (operation : Operation) (now : ℤ) (r : Reply) → works old (tasks_by (event (Operate session operation now) r) past) ≡ rib (event (Operate session operation now) r ∷ past)
  unfolding rib
  by_operate session operation now reply.RibDone = by_ask operation.ask refl
    where
      by_ask : (a : Ask) → operation.ask ≡ a → works old (operate_tasks past (Operate session operation now)) ≡ rib (event (Operate session operation now) reply.RibDone ∷ past)
      by_ask (ask.Put entry replace) is = rw is refl
      by_ask (ask.Remove key) is = rw is refl
      by_ask (ask.Bad reason) is = rw is refl
  by_operate session operation now (reply.Flushed remain) = purge_none
  by_operate session operation now reply.Left = purge_none
  by_operate session operation now _ = refl

  by_flush : (by : FlushBy) (which : Which) (now : ℤ) (r : Reply) → works old (tasks_by (event (Flush by which now) r) past) ≡ rib (event (Flush by which now) r ∷ past)
  unfolding rib
  by_flush by which now (reply.Flushed remain) = purge_kept which
  by_flush by which now reply.Left = purge_none
  by_flush by which now _ = refl

  by_leave : (session : ℕ) (r : Reply) → works old (tasks_by (event (Leave session) r) past) ≡ rib (event (Leave session) r ∷ past)
  unfolding rib
  by_leave session reply.Left = by_purge (purges past session)
    where
      by_purge : (b : Bool) → works old (purged (cond b [] old)) ≡ cond b [] old
      by_purge true = purge_all
      by_purge false = purge_none
  by_leave session (reply.Flushed remain) = purge_none
  by_leave session _ = refl

  by_command : (command : Command) (r : Reply) → works old (tasks_by (event command r) past) ≡ rib (event command r ∷ past)
  unfolding rib
  by_command (Operate session operation now) r = by_operate session operation now r
  by_command (Flush by which now) r = by_flush by which now r
  by_command (Leave session) r = by_leave session r
  by_command Begin r = same Begin r refl
  by_command (SetParams x0 x1) r = same (SetParams x0 x1) r refl
  by_command (Announce x0 x1) r = same (Announce x0 x1) r refl
  by_command (Collect x0) r = same (Collect x0) r refl
  by_command (Select x0 x1) r = same (Select x0 x1) r refl
  by_command (Take x0 x1) r = same (Take x0 x1) r refl
  by_command (Report x0 x1 x2) r = same (Report x0 x1 x2) r refl
  by_command Halt r = same Halt r refl

pub works_are : (past : List Event) → works [] (tasks past) ≡ rib past
unfolding tasks rib
works_are [] = refl
works_are (e ∷ past) = works_append [] (tasks past) (tasks_by e past) ∙ ap (λ table. works table (tasks_by e past)) (works_are past) ∙ by_command past e.command e.reply

-- Where each job is programmed.

all_done : (past : List Event) (table : List Entry) (ts : List Task) → list_all (λ t. is_programmed (outcome_of past (number t))) ts ≡ true → done_fold (outcome_of past) table ts ≡ works table ts
all_done past table [] h = refl
all_done past table (t ∷ ts) h =
    ap (λ b. done_fold (outcome_of past) (cond b (effect table t.job.work) table) ts) (and_left (is_programmed (outcome_of past (number t))) (list_all (λ x. is_programmed (outcome_of past (number x))) ts) h)
    ∙ all_done past (effect table t.job.work) ts (and_right (is_programmed (outcome_of past (number t))) (list_all (λ x. is_programmed (outcome_of past (number x))) ts) h)

all_tracked : (past : List Event) (ts : List Task) → list_all (λ tracked. is_programmed tracked.outcome) (map (tracked_at past) ts) ≡ list_all (λ t. is_programmed (outcome_of past (number t))) ts
all_tracked past [] = refl
all_tracked past (t ∷ ts) = ap (λ b. is_programmed (outcome_of past (number t)) && b) (all_tracked past ts)

pub same_tables : (past : List Event) → list_all (λ tracked. is_programmed tracked.outcome) (tracked_tasks past) ≡ true → fib past ≡ rib past
unfolding tracked_tasks
same_tables past h = fib_is past ∙ all_done past [] (tasks past) (sym (all_tracked past (tasks past)) ∙ h) ∙ works_are past
