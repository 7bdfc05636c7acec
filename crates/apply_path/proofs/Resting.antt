-- Commands of the session leave the worker without a job, and a device with what it holds.
use Rattle.std.proofs.Common.{◌≡◌, ℕ, suc, ◌+◌, Bool, true, false, cond, List, [], ◌∷◌, ◌++◌, length, Option, Some, None, refl, sym, ap, subst, ◌∙◌, arith}
use Rattle.std.specs.Prelude.{is_some, ◌==◌, not, max}
use Rattle.table_model.specs.Election.{highest}
use Rattle.std.specs.List.{list_all}
use Rattle.aft_entries.specs.declared.entry.Entry.{Entry}
use Rattle.fib_worker.specs.Shards.{HoldsShard, IsApart, OthersKeepShard}
use Rattle.table_model.specs.declared.command.Command.{Command}
use Rattle.table_model.specs.declared.command.Command.TheVariants.{Begin, SetParams, Announce, Operate, Collect, Leave, Flush, Select, Take, Report, Halt}
use Rattle.table_model.specs.declared.command.Config.{Config}
use Rattle.table_model.specs.declared.params.Params.{Params}
use Rattle.table_model.specs.declared.reply.Reply.{Reply}
use Rattle.table_model.specs.declared.reply.Reply.TheVariants as reply
use Rattle.aft_entries.specs.declared.operation.Reason.{Reason}
use Rattle.table_model.specs.Event.{Event, is_began, is_left, is_halt_done}
use Rattle.table_model.specs.Jobs.{Task, Waiting, fib, is_out, outcome_of, tasks, tasks_by, tracked_tasks, update_of}
use Rattle.table_model.specs.Legal.{IsLawful}
use Rattle.table_model.specs.Reply.{is_halted, operate_reply, params_beside, params_reply, reply_announce, reply_operate, reply_params, reply_to}
use Rattle.table_model.specs.Sessions.{differing, is_live, live, params_of, supported}
use Rattle.table_model.specs.Rib.{verdict}
use Rattle.table_model.proofs.Tests.{and_left, and_right}
use Rattle.table_laws.proofs.Ascending.{number, is_from, made_of}
use Rattle.table_laws.proofs.InTurn.{from_le, next_ahead, wait_ahead}
use Rattle.inline_worker.specs.Turns.{behind, count_outcomes}
use Rattle.inline_worker.proofs.Counting.{count, stays}
use Rattle.apply_path.specs.SessionAt.{TakesTurns}

-- ---- replies that begin and end no session and no table

pub record IsCalm (r : Reply) : Type 0 where
  pub began : is_began r ≡ false
  pub left : is_left r ≡ false
  pub halted : is_halt_done r ≡ false

module _ (e : Event) (past : List Event) (calm : IsCalm e.reply) where
  pub calm_runs : is_halted (e ∷ past) ≡ is_halted past
  unfolding is_halted
  calm_runs = rw calm.halted refl

  pub calm_live : is_live (e ∷ past) 0 ≡ is_live past 0
  unfolding live
  calm_live = rw (calm.began, calm.left) refl

calm_beside : (o : Option Params) → IsCalm (params_beside o)
calm_beside None = record { began = refl; left = refl; halted = refl }
calm_beside (Some other) = record { began = refl; left = refl; halted = refl }

calm_if : (b : Bool) (r q : Reply) → IsCalm r → IsCalm q → IsCalm (cond b r q)
calm_if true r q a b = a
calm_if false r q a b = b

calm_params : (past : List Event) (o : Option Params) → IsCalm (params_reply past 0 o)
calm_params past None = record { began = refl; left = refl; halted = refl }
calm_params past (Some params) =
    calm_if (is_some (params_of past 0)) reply.ParamsNotAllowed (params_beside (differing past 0 params)) (record { began = refl; left = refl; halted = refl }) (calm_beside (differing past 0 params))

calm_operate : (o : Option Reason) → IsCalm (operate_reply o)
calm_operate None = record { began = refl; left = refl; halted = refl }
calm_operate (Some reason) = record { began = refl; left = refl; halted = refl }

-- ---- the session's commands

abbrev pub IsOfSession : Command → Type 0
IsOfSession (SetParams session asked) = session ≡ 0
IsOfSession (Announce session id) = session ≡ 0
IsOfSession (Operate session operation now) = session ≡ 0
IsOfSession (Collect session) = session ≡ 0
IsOfSession Begin = ⊥
IsOfSession (Leave session) = ⊥
IsOfSession (Flush by which now) = ⊥
IsOfSession (Select which kinds) = ⊥
IsOfSession (Take worker now) = ⊥
IsOfSession (Report number said now) = ⊥
IsOfSession Halt = ⊥

pub reply_calm : (config : Config) (past : List Event) (c : Command) → is_halted past ≡ false → is_live past 0 ≡ true → IsOfSession c → IsCalm (reply_to config past c)
unfolding reply_to reply_params reply_announce reply_operate
reply_calm config past (SetParams session asked) runs is_there mine = rw (mine, runs, is_there) (calm_params past (supported asked))
reply_calm config past (Announce session id) runs is_there mine =
    rw (mine, runs, is_there) (calm_if (not (is_some (params_of past 0))) reply.NoParams (cond (id == 0) reply.ZeroId (reply.Announced (max id (highest past)))) (record { began = refl; left = refl; halted = refl }) (calm_if (id == 0) reply.ZeroId (reply.Announced (max id (highest past))) (record { began = refl; left = refl; halted = refl }) (record { began = refl; left = refl; halted = refl })))
reply_calm config past (Operate session operation now) runs is_there mine = rw (mine, runs, is_there) (calm_if (not (is_some (params_of past 0))) reply.NoParams (operate_reply (verdict config past 0 operation)) (record { began = refl; left = refl; halted = refl }) (calm_operate (verdict config past 0 operation)))
reply_calm config past (Collect session) runs is_there mine = rw (mine, runs, is_there) (record { began = refl; left = refl; halted = refl })
reply_calm config past Begin runs is_there mine = absurd mine
reply_calm config past (Leave session) runs is_there mine = absurd mine
reply_calm config past (Flush by which now) runs is_there mine = absurd mine
reply_calm config past (Select which kinds) runs is_there mine = absurd mine
reply_calm config past (Take worker now) runs is_there mine = absurd mine
reply_calm config past (Report number said now) runs is_there mine = absurd mine
reply_calm config past Halt runs is_there mine = absurd mine

about_none : (e : Event) → IsOfSession e.command → update_of e ≡ None
about_none e mine = by_command e.command e.reply mine
  where
    by_command : (c : Command) (r : Reply) → IsOfSession c → update_of (record { command = c; reply = r }) ≡ None
    by_command (SetParams session asked) r mine = refl
    by_command (Announce session id) r mine = refl
    by_command (Operate session operation now) r mine = refl
    by_command (Collect session) r mine = refl
    by_command Begin r mine = refl
    by_command (Leave session) r mine = refl
    by_command (Flush by which now) r mine = refl
    by_command (Select which kinds) r mine = refl
    by_command (Take worker now) r mine = absurd mine
    by_command (Report number said now) r mine = absurd mine
    by_command Halt r mine = refl

-- ---- no job is out

count_join : (past : List Event) (xs ys : List Task) → count is_out past (xs ++ ys) ≡ count is_out past xs + count is_out past ys
count_join past [] ys = omega arith
count_join past (x ∷ xs) ys = by_test (is_out (outcome_of past (number x))) (count_join past xs ys)
  where
    by_test : (b : Bool) → count is_out past (xs ++ ys) ≡ count is_out past xs + count is_out past ys
        → cond b (suc (count is_out past (xs ++ ys))) (count is_out past (xs ++ ys)) ≡ cond b (suc (count is_out past xs)) (count is_out past xs) + count is_out past ys
    by_test true same = omega (arith, same)
    by_test false same = same

none_ahead : (past : List Event) (position : ℕ) (ts : List Task) → ((t : Task) → is_from position 0 t ≡ true → outcome_of past (number t) ≡ Waiting) → list_all (is_from position 0) ts ≡ true → count is_out past ts ≡ 0
none_ahead past position [] waits all = refl
none_ahead past position (t ∷ ts) waits all =
    let here : is_out (outcome_of past (number t)) ≡ false = ap is_out (waits t (and_left (is_from position 0 t) (list_all (is_from position 0) ts) all)) in
    rw here (none_ahead past position ts waits (and_right (is_from position 0 t) (list_all (is_from position 0) ts) all))

module _ (config : Config) (e : Event) (past : List Event) (lawful : IsLawful config (e ∷ past)) (none : update_of e ≡ None) where
  none_out_then : count_outcomes is_out (tracked_tasks past) ≡ 0 → count_outcomes is_out (tracked_tasks (e ∷ past)) ≡ 0
  unfolding tracked_tasks tasks
  none_out_then before =
      let waits : (t : Task) → is_from (length past) 0 t ≡ true → outcome_of (e ∷ past) (number t) ≡ Waiting
      = λ t from. next_ahead config e past lawful (wait_ahead config past lawful.1) (number t) (from_le (length past) t from) in
      let new : count is_out (e ∷ past) (tasks_by e past) ≡ 0 = none_ahead (e ∷ past) (length past) (tasks_by e past) waits (made_of e past).here in
      let old : count is_out (e ∷ past) (tasks past) ≡ count is_out past (tasks past) = stays is_out e past (tasks past) none in
      omega (arith, count_join (e ∷ past) (tasks past) (tasks_by e past), new, old, before)

-- ---- one event, and events in a row

-- the worker still has no job, and a device that held the forwarding table holds it
pub record Rests (config : Config) (past after : List Event) : Type 0 where
  pub takes : TakesTurns config after
  pub keeps : (held : Option (List Entry)) → HoldsShard 1 0 held (fib past) → HoldsShard 1 0 held (fib after)

abbrev pub AreOfSession : List Event → Type 0
AreOfSession [] = Unit {0}
AreOfSession (e ∷ es) = IsOfSession e.command × AreOfSession es

pub lawful_front : (config : Config) (past es : List Event) → IsLawful config (behind past es) → IsLawful config past
lawful_front config past [] lawful = lawful
lawful_front config past (e ∷ es) lawful = (lawful_front config (e ∷ past) es lawful).1

apart_is : (workers : ℕ) (past : List Event) (c : Command) → IsOfSession c → IsApart workers 0 past c
apart_is workers past (SetParams session asked) mine = tt
apart_is workers past (Announce session id) mine = tt
apart_is workers past (Operate session operation now) mine = tt
apart_is workers past (Collect session) mine = tt
apart_is workers past Begin mine = tt
apart_is workers past (Leave session) mine = tt
apart_is workers past (Flush by which now) mine = tt
apart_is workers past (Select which kinds) mine = tt
apart_is workers past (Take worker now) mine = absurd mine
apart_is workers past (Report number said now) mine = absurd mine
apart_is workers past Halt mine = tt

module _ (config : Config) (law : OthersKeepShard config) where
  -- an event apart from the worker
  pub keeps_shard : (e : Event) (past : List Event) → config.workers ≡ 1 → IsLawful config (e ∷ past) → IsApart config.workers 0 past e.command
      → (held : Option (List Entry)) → HoldsShard 1 0 held (fib past) → HoldsShard 1 0 held (fib (e ∷ past))
  keeps_shard e past one lawful apart held h =
      subst (λ (n : ℕ). HoldsShard n 0 held (fib (e ∷ past))) one (law 0 held (e ∷ []) past lawful (apart, tt) (subst (λ (n : ℕ). HoldsShard n 0 held (fib past)) (sym one) h))

  rests_one : (e : Event) (past : List Event) → TakesTurns config past → IsOfSession e.command → IsLawful config (e ∷ past) → Rests config past (e ∷ past)
  rests_one e past takes mine lawful =
      let calm : IsCalm e.reply = subst IsCalm (sym lawful.0) (reply_calm config past e.command takes.runs takes.is_there mine) in
      record {
        takes = record {
          one_worker = takes.one_worker;
          rest = record { lawful = lawful; none_out = none_out_then config e past lawful (about_none e mine) takes.rest.none_out };
          runs = calm_runs e past calm ∙ takes.runs;
          is_there = calm_live e past calm ∙ takes.is_there;
        };
        keeps = keeps_shard e past takes.one_worker lawful (apart_is config.workers past e.command mine);
      }

  pub rests_through : (es past : List Event) → TakesTurns config past → AreOfSession es → IsLawful config (behind past es) → Rests config past (behind past es)
  rests_through [] past takes mine lawful = record { takes = takes; keeps = λ held h. h }
  rests_through (e ∷ es) past takes mine lawful =
      let first = rests_one e past takes mine.0 (lawful_front config (e ∷ past) es lawful) in
      let rest = rests_through es (e ∷ past) first.takes mine.1 lawful in
      record { takes = rest.takes; keeps = λ held h. rest.keeps held (first.keeps held h) }
