use Rattle.std.proofs.Common.{◌≡◌, [], sym, ap, ◌∙◌, rules, arith}
use Rattle.std.proofs.lemmas.Grind.{common_steps}
use Rattle.proto_wire.specs.Fields.{ParsedFields, fields_from}
use Rattle.aft_messages.proofs.IndexAlone.{index_alone, scans_one}
use Rattle.std.specs.Option.{option_or}
use Rattle.aft_messages.proofs.index_only.index_only_hop_index.Goals as goal

pub returns-in_default : goal.returns-in_default
returns-in_default c =
    let over : (fields_from c.loop-field.reader.0 c.loop-field.reader.1).fields ≡ [] = first_of (search rules, grind (arith, common_steps)) in
    rw c.unwrap_or.ensures (index_alone c.args.n.now c.args.bytes.now c.loop-field.index (rw (← c.field-index_number.ensures.value, ← c.field-payload_number.ensures.value) (rw over at c.loop-field.invariant)))

pub loop-field-preserved : goal.loop-field-preserved
loop-field-preserved c = scans_one _ _ _ _ _ _ _ _ c.loop-field.invariant (ap (λ (cut : ParsedFields). cut.fields) c.in-Field.ensures.reads.0) (sym c.has_bytes.ensures ∙ c.if-has_bytes.false) (c.or-index.ensures ∙ ap (λ o. option_or o c.loop-field.index) c.number_of.ensures)
