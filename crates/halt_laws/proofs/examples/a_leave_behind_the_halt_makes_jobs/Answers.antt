use Rattle.std.proofs.Common.{refl, sym, ap, ◌∙◌, ◌≡◌, ℕ, zero, suc, true, ◌<◌, arith}
use Rattle.halt_laws.specs.Histories.{leave_behind_halt}
use Rattle.halt_laws.specs.Settled.{has_seen_halt}
use Rattle.std.specs.Prelude.{reverse, length}
use Rattle.table_model.specs.BoardState.{undone_tasks}
use Rattle.aft_entries.specs.Order.{key_cmp, shard_of}
use Rattle.aft_entries.specs.References.{refs_of}
use Rattle.aft_entries.specs.Same.{same_payload}
use Rattle.table_model.specs.Election.{announcements, primary}
use Rattle.table_model.specs.Jobs.{tasks, tracked_tasks, outcome_of, table_of, fib, next_task, is_clear, conflict}
use Rattle.table_model.specs.Reply.{reply_to, reply_params, reply_announce, reply_operate, reply_take, is_halted, selected}
use Rattle.table_model.specs.Results.{results, taken, batch, outstanding}
use Rattle.table_model.specs.Rib.{rib, verdict}
use Rattle.table_model.specs.Sessions.{live, params_of, supported}
use Rattle.table_model.specs.Table.{lookup, put, take_out, resolves, used, backup_of, is_bad_name, is_bad_payload, depth, is_too_deep, refusal, kept, remains}
use Rattle.halt_laws.proofs.examples.a_leave_behind_the_halt_makes_jobs.Goals as goal

pub returns-clause-replies : goal.returns-clause-replies
unfolding reply_to reply_params reply_announce reply_operate reply_take is_halted verdict live params_of supported announcements primary rib refusal is_bad_name is_bad_payload resolves used refs_of is_too_deep depth lookup backup_of key_cmp put take_out kept remains tasks tracked_tasks outcome_of table_of fib next_task is_clear conflict shard_of results taken batch outstanding selected same_payload
returns-clause-replies c = refl

seen_by : (worker : ℕ) → worker < 1 → has_seen_halt (reverse leave_behind_halt) worker ≡ true
seen_by zero below = refl
seen_by (suc n) below = absurd (omega (arith, below))

pub returns-clause-seen : goal.returns-clause-seen
returns-clause-seen c = seen_by

one : length (undone_tasks (reverse leave_behind_halt)) ≡ 1
unfolding reply_to reply_params reply_announce reply_operate reply_take is_halted verdict live params_of supported announcements primary rib refusal is_bad_name is_bad_payload resolves used refs_of is_too_deep depth lookup backup_of key_cmp put take_out kept remains tasks tracked_tasks outcome_of table_of fib next_task is_clear conflict shard_of results taken batch outstanding selected same_payload undone_tasks
one = refl

pub returns-clause-undone : goal.returns-clause-undone
returns-clause-undone c none = let no_way : ◌≡◌ {A = ℕ} 1 0 = sym one ∙ ap length none in absurd (omega (arith, no_way))
