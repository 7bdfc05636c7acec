use Rattle.std.proofs.Common.{◌<◌, length, Some, arith}
use Rattle.std.proofs.lemmas.List.Edits.{map_over_more}
use Rattle.session_params.specs.Rows.{session_record_with}
use Rattle.session_params.proofs.write.Goals as goal

pub loop-i-preserved : goal.loop-i-preserved
loop-i-preserved c =
    let within : c.loop-i.i < length c.args.session_records.now.items = omega (arith, c.args.session_records.now.ok.0) in
    rw c.written.ensures (map_over_more (session_record_with c.args.session (Some c.args.params)) c.args.session_records.now.items c.loop-i.session_records.items c.loop-i.i c.index-session_record.result.now within c.loop-i.invariant c.index-session_record.ensures)
