use Rattle.std.proofs.Common.{refl}
use Rattle.aft_entries.specs.Order.{key_cmp, shard_of}
use Rattle.aft_entries.specs.References.{refs_of}
use Rattle.aft_entries.specs.Same.{same_payload}
use Rattle.table_model.specs.Election.{announcements, primary}
use Rattle.table_model.specs.Jobs.{tasks, tracked_tasks, outcome_of, table_of, fib, next_task, is_clear, conflict}
use Rattle.table_model.specs.Reply.{reply_to, reply_params, reply_announce, reply_operate, reply_take, is_halted, selected}
use Rattle.table_model.specs.Results.{results, taken, batch, outstanding}
use Rattle.table_model.specs.Rib.{rib, verdict}
use Rattle.table_model.specs.Sessions.{live, params_of, supported}
use Rattle.table_model.specs.Table.{lookup, put, take_out, resolves, used, backup_of, is_bad_name, is_bad_payload, depth, is_too_deep, refusal, kept, remains}
use Rattle.table_laws.proofs.examples.a_flush_needs_its_id.Goals as goal

pub returns : goal.returns
unfolding reply_to reply_params reply_announce reply_operate reply_take is_halted verdict live params_of supported announcements primary rib refusal is_bad_name is_bad_payload resolves used refs_of is_too_deep depth lookup backup_of key_cmp put take_out kept remains tasks tracked_tasks outcome_of table_of fib next_task is_clear conflict shard_of results taken batch outstanding selected same_payload
returns c = refl
