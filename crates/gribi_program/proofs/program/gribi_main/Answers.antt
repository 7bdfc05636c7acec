use Rattle.std.proofs.Common.{arith}
use Rattle.std.proofs.lemmas.Option.{get_or_from_slice_get}
use Rattle.apply_path.proofs.Applies.{lacks_memory}
use Rattle.gribi_program.specs.Settings.{setting_with}
use Rattle.gribi_program.proofs.Wishes.{wish_numbers_are_within}
use Rattle.gribi_program.proofs.program.gribi_main.Goals as goal

pub returns-in-Err-NoMemory-clause-applies : goal.returns-in-Err-NoMemory-clause-applies
returns-in-Err-NoMemory-clause-applies g c = λ names first e there. rw (get_or_from_slice_get c.args.devices.now.items 0 first first there) (lacks_memory (setting_with names) _ _ _ _ _)

pub serve_by-requires-clause-some : goal.serve_by-requires-clause-some
serve_by-requires-clause-some g c κs within =
    let range = (wish_numbers_are_within _ _ _ _ _ _ _ c.in-Ok-Serve.ensures.ok c.in-Ok-Serve.field-0-is).1 in
    omega (arith, range.0, c.in-Ok-Serve.workers-is)

pub serve_by-requires-clause-few : goal.serve_by-requires-clause-few
serve_by-requires-clause-few g c κs within =
    let range = (wish_numbers_are_within _ _ _ _ _ _ _ c.in-Ok-Serve.ensures.ok c.in-Ok-Serve.field-0-is).1 in
    omega (arith, range.1, c.in-Ok-Serve.workers-is)

pub serve_by-requires-clause-devices : goal.serve_by-requires-clause-devices
serve_by-requires-clause-devices g c κs within =
    let range = (wish_numbers_are_within _ _ _ _ _ _ _ c.in-Ok-Serve.ensures.ok c.in-Ok-Serve.field-0-is).1 in
    let many = c.requires.devices in
    omega (arith, range.1, many, c.in-Ok-Serve.workers-is)
