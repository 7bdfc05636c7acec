use Rattle.std.proofs.Common.{refl, ◌≡◌, ℕ, zero, suc, true, ◌<◌, arith}
use Rattle.halt_laws.specs.Histories.{two_workers}
use Rattle.halt_laws.specs.Settled.{has_seen_halt}
use Rattle.halt_laws.proofs.Behind.{none_left}
use Rattle.std.specs.Prelude.{reverse}
use Rattle.aft_entries.specs.Order.{key_cmp, shard_of}
use Rattle.aft_entries.specs.References.{refs_of}
use Rattle.aft_entries.specs.Same.{same_payload}
use Rattle.table_model.specs.Election.{announcements, primary}
use Rattle.table_model.specs.Jobs.{tasks, tracked_tasks, outcome_of, table_of, fib, next_task, is_clear, conflict}
use Rattle.table_model.specs.Reply.{reply_to, reply_params, reply_announce, reply_operate, reply_take, is_halted, selected}
use Rattle.table_model.specs.Results.{results, taken, batch, outstanding}
use Rattle.table_model.specs.Rib.{rib, verdict}
use Rattle.table_model.specs.Sessions.{live, params_of, supported}
use Rattle.table_model.specs.Table.{lookup, put, take_out, resolves, used, backup_of, is_bad_name, is_bad_payload, depth, is_too_deep, refusal, kept, remains}
use Rattle.halt_laws.proofs.examples.two_workers_see_the_halt.Goals as goal

pub returns-clause-replies : goal.returns-clause-replies
unfolding reply_to reply_params reply_announce reply_operate reply_take is_halted verdict live params_of supported announcements primary rib refusal is_bad_name is_bad_payload resolves used refs_of is_too_deep depth lookup backup_of key_cmp put take_out kept remains tasks tracked_tasks outcome_of table_of fib next_task is_clear conflict shard_of results taken batch outstanding selected same_payload
returns-clause-replies c = refl

pub returns-clause-lawful : goal.returns-clause-lawful
unfolding reply_to reply_params reply_announce reply_operate reply_take is_halted verdict live params_of supported announcements primary rib refusal is_bad_name is_bad_payload resolves used refs_of is_too_deep depth lookup backup_of key_cmp put take_out kept remains tasks tracked_tasks outcome_of table_of fib next_task is_clear conflict shard_of results taken batch outstanding selected same_payload
returns-clause-lawful c = (refl, (refl, (refl, (refl, (refl, (refl, (refl, (refl, (refl, (refl, (refl, (refl, (refl, (refl, (refl, (refl, tt, refl), refl), refl), refl), refl), refl), refl), refl), refl), refl), refl), refl), refl), refl), refl), refl)

pub returns-clause-quiet : goal.returns-clause-quiet
unfolding is_halted
returns-clause-quiet c = none_left (reverse two_workers) ((λ h. refl), ((λ h. refl), ((λ h. refl), ((λ h. refl), ((λ h. refl), ((λ h. refl), ((λ h. refl), ((λ h. refl), ((λ h. refl), ((λ h. refl), ((λ h. refl), ((λ h. cc), ((λ h. refl), ((λ h. refl), ((λ h. refl), ((λ h. refl), tt))))))))))))))))

seen_by : (worker : ℕ) → worker < 2 → has_seen_halt (reverse two_workers) worker ≡ true
seen_by zero below = refl
seen_by (suc zero) below = refl
seen_by (suc (suc n)) below = absurd (omega (arith, below))

pub returns-clause-seen : goal.returns-clause-seen
returns-clause-seen c = seen_by
