use Rattle.std.proofs.Common.{ap, sym, ◌∙◌}
use Rattle.std.proofs.lemmas.Str.{is_utf8-from_IsUtf8}
use Rattle.serde_json.specs.Read.{read}
use Rattle.numbering_file.proofs.Walks.{no_text, some_json, not_utf8, same_reads}
use Rattle.numbering_file.proofs.read.read_numbering.Goals as goal

pub returns-in-Err : goal.returns-in-Err
returns-in-Err c = no_text _ c.if-text-gt-MOST_BYTES.false (not_utf8 _ c.in-Err.ensures.cases.0)

pub returns-in-Ok-from_str : goal.returns-in-Ok-from_str
returns-in-Ok-from_str c =
    let same = ap read (sym c.in-Ok.ensures.cases.0) ∙ c.in-Ok-from_str.ensures.ok in
    same_reads _ _ _ (some_json _ _ c.if-text-gt-MOST_BYTES.false (is_utf8-from_IsUtf8 _ c.in-Ok.ensures.cases.1) same) c.numbering_in.ensures
