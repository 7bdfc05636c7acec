use Rattle.std.proofs.Common.{List, sym, subst, ◌∙◌, Result, Err, Ok}
use Rattle.hpack_tables.specs.declared.fault.HpackFault.{HpackFault}
use Rattle.hpack_tables.specs.declared.field.Field.{Field}
use Rattle.h2_conn.specs.HeaderParts.{BlockIsRead, block_in}
use Rattle.h2_conn.specs.Hears.{TookSo}
use Rattle.h2_conn.specs.declared.heard.Took.{Took}
use Rattle.h2_conn.specs.State.{state_of}
use Rattle.h2_conn.proofs.Blocked.{block_fault, block_limited, block_part, block_reads, block_starves}
use Rattle.h2_conn.proofs.conn.H2Conn.on_block.Goals as goal

pub returns-in-Some-clause-took : goal.returns-in-Some-clause-took
returns-in-Some-clause-took c = λ d h. block_limited (state_of c.args.self.now) d c.args.frame.now c.args.seen c.args.last h c.requires.part c.in-Some.cause (sym c.block_limit.ensures ∙ c.in-Some.is)

pub returns-in-Ok-clause-took : goal.returns-in-Ok-clause-took
returns-in-Ok-clause-took c = λ d h.
    block_part (state_of c.args.self.now) d c.args.frame.now c.args.seen c.args.last h c.requires.part (sym c.in-None.is ∙ c.block_limit.ensures) (sym c.has_end_headers.ensures ∙ c.if-not-has_end_headers.true) _ c.in-Ok.ensures.ok

pub returns-in-Err-clause-took : goal.returns-in-Err-clause-took
returns-in-Err-clause-took c = λ d h.
    block_starves (state_of c.args.self.now) d c.args.frame.now c.args.seen c.args.last h c.requires.part _ c.in-Err.ensures.err

pub returns-in-Ok-read_block-clause-took : goal.returns-in-Ok-read_block-clause-took
returns-in-Ok-read_block-clause-took c = λ d h.
    let s = state_of c.args.self.now in
    let f = c.args.frame.now in
    let t = state_of c.read_block.new.self in
    let read : BlockIsRead s.decoder (block_in s.block f).text (Ok c.in-Ok-read_block.fields) c.read_block.new.self.decoder =
    subst (λ (r : Result (List Field) HpackFault). BlockIsRead s.decoder (block_in s.block f).text r c.read_block.new.self.decoder) c.in-Ok-read_block.is c.read_block.ensures.read in
    c.on_fields.ensures.took d
    (block_reads s d f c.args.seen c.args.last h c.requires.part (sym c.in-None.is ∙ c.block_limit.ensures) (sym c.has_end_headers.ensures ∙ c.if-not-has_end_headers.false)
    t c.in-Ok-read_block.fields c.block_ends-ends.result c.read_block.new.self.decoder c.block_ends-ends.ensures c.read_block.ensures.state read)

pub returns-in-Err-read_block-clause-took : goal.returns-in-Err-read_block-clause-took
returns-in-Err-read_block-clause-took c = λ d h.
    let s = state_of c.args.self.now in
    let f = c.args.frame.now in
    let t = state_of c.read_block.new.self in
    let read : BlockIsRead s.decoder (block_in s.block f).text (Err c.in-Err-read_block.fault) c.read_block.new.self.decoder =
    subst (λ (r : Result (List Field) HpackFault). BlockIsRead s.decoder (block_in s.block f).text r c.read_block.new.self.decoder) c.in-Err-read_block.is c.read_block.ensures.read in
    subst (λ (x : Took). TookSo d f x t) (sym c.took_fault.ensures)
    (block_fault s d f c.args.seen c.args.last h c.requires.part (sym c.in-None.is ∙ c.block_limit.ensures) (sym c.has_end_headers.ensures ∙ c.if-not-has_end_headers.false)
    t c.in-Err-read_block.fault c.read_block.new.self.decoder c.read_block.ensures.state read)
